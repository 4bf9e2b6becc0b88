-- A row that is reduced by a basis of the lineality and made primitive: it is alike, and lies where the row does.
use Rattle.pm_vector.proofs.Lists.{All_among, among_All}
use Rattle.pm_vector.proofs.Ring.{ring}
use Rattle.pm_vector.proofs.RowLaws.{entry-difference, entry-opposite, entry-plus, entry-times, length-difference, length-opposite}
use Rattle.pm_vector.proofs.Signs.{mul_cancel, mul_pos, weaken}
use Rattle.pm_vector.specs.Cones.{InSpan, IsConeSet}
use Rattle.pm_vector.specs.Divisors.{IsPrimitive}
use Rattle.pm_vector.specs.Rows.{Row, difference, entry, opposite}
use Rattle.pm_geom.specs.Cones.{InLineality, SameModulo}
use Rattle.pm_geom.specs.Generators.{VanishAt}
use Rattle.pm_incidence.specs.Thinning.{IsThinned}
use Rattle.std.proofs.Common.{arith, inl, inr, sym, ◌∙◌}
use Rattle.std.proofs.lemmas.Int.{ints}
use Rattle.std.specs.Prelude.{List, length, ℕ, ◌≡◌}
use lib.IntN.{pos, ℤ, ◌*ℤ◌, ◌-ℤ◌}

pub record IsCanonicalFor (n : ℕ) (S : Row → Type 0) (P : List ℕ) (g w : Row) : Type 0 where
  pub cols : length w ≡ n
  pub alike : SameModulo n S g w
  pub primitive : IsPrimitive w
  pub zeros : VanishAt P w

module _ (n : ℕ) (S : Row → Type 0) (cs : IsConeSet S) (P : List ℕ) where
  -- by a basis of which the lineality has what it spans
  pub canonical : (B : List Row) → ((x : Row) → length x ≡ n → InSpan B x → InLineality S x) → (g w : Row) → length g ≡ n → S g → ¬ (S (opposite g)) → IsThinned B P g w → IsCanonicalFor n S P g w
  canonical B flat g w lg sg nu t = elim t.primitive.divided [
    | inl z ↦ absurd (nu (cs.part t.direction.p_positive (cs.same (record { at = λ i. let q = z.0 i in simp (entry-times, entry-difference, entry-opposite, q, ring) (omega (arith, ints)) }) line.opposed)))
    | inr d ↦ record {
      cols = t.primitive.cols ∙ t.cols ∙ lg;
      alike = record {
        p = t.direction.g *ℤ d.0;
        k = t.direction.p;
        w = opposite rest;
        cols = length-opposite rest ∙ rest_cols;
        p_positive = mul_pos t.direction.g_positive d.1;
        k_positive = t.direction.p_positive;
        line = record { inside = line.opposed; opposed = cs.same (record { at = λ i. simp entry-opposite (omega (arith, ints)) }) line.inside };
        same = record { at = λ i. let q = d.2.at i in simp (entry-times, entry-plus, entry-opposite, entry-difference) (scaled t.direction.g d.0 (entry w i) (entry t.reduced i) t.direction.p (entry g i) (simp entry-times at q)) };
      };
      primitive = d.3;
      zeros = All_among (λ (c : ℕ). entry w c ≡ pos 0) P (λ c i. let q = d.2.at c in mul_cancel d.1 (sym (simp entry-times at q) ∙ among_All (λ (c : ℕ). entry t.reduced c ≡ pos 0) i t.zeros ∙ simp ring));
    }
  ]
    where
      rest : Row
      rest = difference t.direction.p g t.direction.g t.reduced

      rest_cols : length rest ≡ n
      rest_cols = length-difference n t.direction.p g t.direction.g t.reduced lg (t.cols ∙ lg)

      line : InLineality S rest
      line = flat rest rest_cols t.direction.inside

      scaled : (a d x m p g : ℤ) → m ≡ d *ℤ x → (a *ℤ d) *ℤ x ≡ p *ℤ g -ℤ (p *ℤ g -ℤ a *ℤ m)
      scaled a d x m p g e = rw e (simp ring (omega (arith, ints)))

  pub canonical_in : {g w : Row} → IsCanonicalFor n S P g w → S g → S w
  canonical_in c h = cs.part c.alike.p_positive (cs.same (record { at = λ i. sym (c.alike.same.at i) }) (cs.sum (cs.multiple (weaken c.alike.k_positive) h) c.alike.line.inside))

  pub canonical_out : {g w : Row} → IsCanonicalFor n S P g w → ¬ (S (opposite g)) → ¬ (S (opposite w))
  canonical_out c nu h =
      nu (cs.part c.alike.k_positive (cs.same (record { at = λ i. let q = simp (entry-times, entry-plus) at (c.alike.same.at i) in simp (entry-times, entry-plus, entry-opposite, ring) (omega (arith, ints)) }) (cs.sum (cs.multiple (weaken c.alike.p_positive) h) c.alike.line.inside)))
