-- Rows that are alike modulo the lineality of a cone set: either way round.
use Rattle.pm_geom.specs.Cones.{InLineality, SameModulo}
use Rattle.pm_vector.proofs.RowLaws.{entry-opposite, entry-plus, entry-times, length-opposite}
use Rattle.pm_vector.specs.Cones.{IsConeSet}
use Rattle.pm_vector.specs.Rows.{Row, opposite}
use Rattle.std.proofs.Common.{arith, ◌∙◌}
use Rattle.std.proofs.lemmas.Int.{ints}
use Rattle.std.specs.Prelude.{ℕ}

module _ (n : ℕ) (S : Row → Type 0) (cs : IsConeSet S) where
  pub line_opposite : {x : Row} → InLineality S x → InLineality S (opposite x)
  line_opposite h = record {
    inside = h.opposed;
    opposed = cs.same (record { at = λ i. simp entry-opposite (omega (arith, ints)) }) h.inside;
  }

  pub alike_sym : {r u : Row} → SameModulo n S r u → SameModulo n S u r
  alike_sym t = record {
    p = t.k;
    k = t.p;
    w = opposite t.w;
    cols = length-opposite t.w ∙ t.cols;
    p_positive = t.k_positive;
    k_positive = t.p_positive;
    line = line_opposite t.line;
    same = record { at = λ i. let q = simp (entry-times, entry-plus) at (t.same.at i) in simp (entry-times, entry-plus, entry-opposite) (omega (arith, ints)) };
  }
