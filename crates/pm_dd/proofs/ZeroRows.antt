-- Zero rows, and what no rows span.
use Rattle.std.specs.Prelude.{ℕ, ◌≡◌, ◌∷◌, [], List, length}
use Rattle.std.proofs.Common.{arith, inl, inr, refl, ◌∙◌}
use Rattle.std.proofs.lemmas.Int.{ints}
use Rattle.pm_vector.specs.NullSpaces.{IsNull, IsNullBasis}
use Rattle.pm_vector.proofs.Independent.{decide_zero, independent_more, orthogonal_are_few, self_zero}
use Rattle.pm_vector.specs.Cones.{InSpan, IsIndependent}
use Rattle.pm_vector.specs.Rows.{HasCols, IsZero, Row, dot, times}
use Rattle.pm_vector.proofs.Lists.{Among, all_at, all_from, here, there}
use Rattle.pm_vector.proofs.ConeLaws.{combination_none}
use Rattle.pm_vector.proofs.Ring.{ring}
use Rattle.pm_vector.proofs.RowLaws.{dot-same, dot-times, dot_comm, entry-plus, entry-times}
use Rattle.pm_vector.proofs.Signs.{mul_cancel}
use Rattle.pm_vector.specs.Bases.{IsEchelonBasis}
use lib.IntN.{pos}
use lib.Signed.{lt_z_yes}

pub dot_zero : (b x : Row) → IsZero x → dot b x ≡ pos 0
dot_zero b x z = dot-same b x (times (pos 0) x) (λ i. let q = z i in simp (entry-times, q, ring)) ∙ dot-times b (pos 0) x ∙ simp ring

pub zero_of_span : (x : Row) → InSpan [] x → IsZero x
zero_of_span x h i = let a = combination_none h.c i in let b = combination_none h.d i in mul_cancel h.positive (simp (entry-times, entry-plus, a, b) at (h.same.at i) ∙ simp ring)

pub no_basis : (n : ℕ) → IsEchelonBasis n [] []
no_basis n = record {
  basis = record { cols = tt; as_many = refl; positive = λ i l. absurd (omega arith); reduced = λ i j l m ne. absurd (omega arith); primitive = λ i l. absurd (omega arith) };
  ascending = λ i j l m. absurd (omega arith);
  before = λ i c l m. absurd (omega arith);
}

zero_span : (x : Row) → IsZero x → InSpan [] x
zero_span x z = record {
  m = pos 1;
  c = [];
  d = [];
  positive = lt_z_yes tt;
  not_negative = tt;
  same = record { at = λ i. let e = z i in simp (entry-times, entry-plus, e, ring) (omega (arith, ints)) };
}

-- ---- as many independent rows as columns: 0 alone vanishes on all of them
module _ (n : ℕ) (X : List Row) (cols : HasCols n X) (free : IsIndependent X) (whole : length X ≡ n) where
  product_at : (A : List Row) (x : Row) → IsNull A x → (a : Row) → Among a A → dot a x ≡ pos 0
  product_at A x null a i = all_at (λ (e : Row). dot e x ≡ pos 0) i null

  apart : (x : Row) → IsNull X x → (b e : Row) → Among b (x ∷ []) → Among e X → dot b e ≡ pos 0
  apart x null b e here i = dot_comm x e ∙ product_at X x null e i
  apart x null b e (there j) i = elim j [ ]

  alone : (x : Row) → ¬ (dot x x ≡ pos 0) → IsIndependent (x ∷ [])
  alone x ne = independent_more [] x (λ c z i l. absurd (omega arith)) (λ s. ne (dot_zero x x (zero_of_span x s)))

  only_zero : (x : Row) → length x ≡ n → IsNull X x → IsZero x
  only_zero x lx null = elim (decide_zero (dot x x)) [
    | inl e ↦ self_zero x e
    | inr ne ↦ absurd (let few = orthogonal_are_few n (x ∷ []) X (lx, tt) cols (alone x ne) free (apart x null) in omega arith)
  ]

  pub null_of_whole : IsNullBasis n X [] []
  null_of_whole = record {
    echelon = no_basis n;
    null = λ x lx. (
      (λ s. all_from (λ (a : Row). dot a x ≡ pos 0) X (λ a i. dot_zero a x (zero_of_span x s))),
      (λ null. zero_span x (only_zero x lx null)),
    );
  }
