-- There are sums of two polytopes.
use Rattle.pm_vector.proofs.RowLaws.{entry-times}
use Rattle.pm_vector.proofs.Signs.{mul_pos}
use Rattle.pm_vector.specs.Rows.{IsZero, Row, entry, times}
use Rattle.pm_geom.specs.Things.{IsPolytopeThing}
use Rattle.pm_laws_normal_fans.proofs.SumRows.{sum_rows_generate}
use Rattle.pm_laws_normal_fans.specs.Sums.{AreRowsOf, Cone, In, InMinkowskiSum, IsInhabited, IsSumOf, point_sum, sum_rows}
use Rattle.pm_laws_things.proofs.Assembled.{polytope_thing}
use Rattle.pm_laws_things.proofs.SomeThings.{some_empty, some_polytope}
use Rattle.pm_laws_things.proofs.SumDescribed.{sum_first, sum_in}
use Rattle.pm_laws_things.proofs.SumRows.{sum_length}
use Rattle.pm_laws_things.specs.Built.{IsSum}
use Rattle.pm_laws_things.specs.Existence.{SomeThing, SumsExist}
use Rattle.pm_laws_things.specs.FanLaws.{cone_of}
use Rattle.pm_limits.specs.Limits.{most_columns}
use Rattle.pm_types.specs.Right.{InSet}
use Rattle.pm_types.specs.Things.{Thing}
use Rattle.std.proofs.Common.{arith, inl, inr, refl, subst, sym, ◌∙◌}
use Rattle.std.proofs.lemmas.Int.{ints}
use Rattle.std.specs.Prelude.{length, ℕ, ◌++◌, ◌<◌, ◌↔◌, ◌≡◌, ◌≤◌}
use lib.IntN.{pos, ℤ}
use lib.Signed.{◌<ℤ◌}

-- a row that has the first entry of a positive multiple of a point's is not 0
pub not_zero : (k : ℤ) (z w : Row) → pos 0 <ℤ k → pos 0 <ℤ entry z 0 → entry w 0 ≡ entry (times k z) 0 → ¬ (IsZero w)
not_zero k z w up uz e zero = let f = zero 0 in let p = mul_pos up uz in let q = entry-times k z 0 in omega (arith, ints)

module _ (t s : Thing) (n : ℕ) (tn : t.cols ≡ n) (some : 0 < n) (few : n ≤ most_columns) (p : IsPolytopeThing n t.generators t.lines) (q : IsPolytopeThing n s.generators s.lines) where
  -- one of them is empty
  no_first : ((x : Row) → length x ≡ n → InSet t x → IsZero x) → SomeThing (IsSum t s)
  no_first none = some_empty (InMinkowskiSum t.cols (InSet t) (InSet s)) t.cols (omega arith) (omega arith)
      (λ z lz up w. not_zero w.factor z w.first w.positive up w.sum.first (none w.first (w.first_cols ∙ tn) w.of_first))

  no_second : ((x : Row) → length x ≡ n → InSet s x → IsZero x) → SomeThing (IsSum t s)
  no_second none = some_empty (InMinkowskiSum t.cols (InSet t) (InSet s)) t.cols (omega arith) (omega arith)
      (λ z lz up w. not_zero w.factor z w.second w.positive up w.sum.second (none w.second (w.second_cols ∙ tn) w.of_second))

  own_rows : (u : Thing) → IsPolytopeThing n u.generators u.lines → AreRowsOf n (cone_of u) u.generators u.lines
  own_rows u h = record { rows = h.cone.generators; lines = h.cone.lines; same = λ x lx. (λ i. i, λ i. i) }

  -- the sums of the generators that stand for points, the others and the lines
  both : IsInhabited n (cone_of t) → IsInhabited n (cone_of s) → SomeThing (IsSum t s)
  both a b = some_polytope (IsSum t s) n R.generators R.lines some few
      (record {
        cone = record { generators = sum.generators; lines = sum.lines };
        first = sum_first n (cone_of t) (cone_of s) R some p q sum;
        proper = inr (point_sum a.0 b.0, cols, (sum.sum (point_sum a.0 b.0) cols).1 (sum_in n (cone_of t) (cone_of s) R some p q sum a.0 b.0 a.1 b.1 a.2 b.2 a.3 b.3), mul_pos a.3 b.3);
      })
      (record { of = refl; cols = sym tn; points = λ x lx up. subst (λ k. In R x ↔ InMinkowskiSum k (InSet t) (InSet s) x) (sym tn) (sum.sum x (lx ∙ tn)) })
    where
      R : Cone
      R = record { generators = sum_rows t.generators s.generators; lines = t.lines ++ s.lines }

      sum : IsSumOf n (cone_of t) (cone_of s) R
      sum = sum_rows_generate n (cone_of t) (cone_of s) t.generators t.lines s.generators s.lines p q a b (own_rows t p) (own_rows s q)

      cols : length (point_sum a.0 b.0) ≡ n
      cols = sum_length n a.0 b.0 some a.1 b.1

  sum_exists : SomeThing (IsSum t s)
  sum_exists = elim p.proper [
    | inl none ↦ no_first none
    | inr a ↦ elim q.proper [ inl none ↦ no_second none | inr b ↦ both a b ]
  ]

pub sums_exist : SumsExist
sums_exist t s p q e = sum_exists t s t.cols refl p.thing.some_cols p.thing.few_cols (polytope_thing t p.thing p.of) (subst (λ k. IsPolytopeThing k s.generators s.lines) e (polytope_thing s q.thing q.of))
