-- Every generated cone is cut out by finitely many rows.
use Rattle.pm_vector.proofs.ConeLaws.{in_from_after, in_to_after, line_from_after, line_to_after, none_from_zero, none_to_zero}
use Rattle.pm_vector.proofs.Ring.{ring}
use Rattle.pm_vector.proofs.RowLaws.{dot-zeros, length-opposite, length-zeros, zeros}
use Rattle.pm_vector.specs.Cones.{InCone}
use Rattle.pm_vector.specs.Rows.{HasCols, IsZero, Row, entry, opposite}
use Rattle.pm_geom.proofs.AddGenerator.{cut_after}
use Rattle.pm_geom.proofs.Cuts.{CutBy, cut_as}
use Rattle.pm_geom.specs.Cones.{CutOut}
use Rattle.std.proofs.Common.{ap, arith, refl, ◌∙◌}
use Rattle.std.proofs.lemmas.Int.{ints}
use Rattle.std.specs.Prelude.{List, [], length, map, suc, zero, ℕ, ◌∷◌, ◌≡◌}
use lib.IntN.{negsuc, pos, ℤ}

shifted : (rows : List Row) (a : ℤ) (x : Row) → CutOut rows x → CutOut (map (λ b. pos 0 ∷ b) rows) (a ∷ x)
shifted [] a x h = tt
shifted (b ∷ rows) a x h = (simp ring (omega (arith, ints, h.0)), shifted rows a x h.1)

unshifted : (rows : List Row) (a : ℤ) (x : Row) → CutOut (map (λ b. pos 0 ∷ b) rows) (a ∷ x) → CutOut rows x
unshifted [] a x h = tt
unshifted (b ∷ rows) a x h = (let k = simp ring at h.0 in omega (arith, ints), unshifted rows a x h.1)

shifted_cols : (n : ℕ) (rows : List Row) → HasCols n rows → HasCols (suc n) (map (λ b. pos 0 ∷ b) rows)
shifted_cols n [] h = tt
shifted_cols n (b ∷ rows) h = (ap suc h.0, shifted_cols n rows h.1)

more_zero : (n : ℕ) → CutBy n IsZero → CutBy (suc n) IsZero
more_zero n r = record {
  rows = (pos 1 ∷ zeros n) ∷ (negsuc 0 ∷ zeros n) ∷ map (λ b. pos 0 ∷ b) r.rows;
  cols = (ap suc (length-zeros n), (ap suc (length-zeros n), shifted_cols n r.rows r.cols));
  valid = zero_valid;
  enough = zero_enough;
}
  where
    zero_valid : (x : Row) → length x ≡ suc n → IsZero x → CutOut ((pos 1 ∷ zeros n) ∷ (negsuc 0 ∷ zeros n) ∷ map (λ b. pos 0 ∷ b) r.rows) x
    zero_valid [] l z = absurd (omega arith)
    zero_valid (a ∷ x) l z =
        let e : a ≡ pos 0 = z zero in
        let k : length x ≡ n = omega arith in (
          simp (dot-zeros, e, ring) (omega (arith, ints)),
          (simp (dot-zeros, e, ring) (omega (arith, ints)), shifted r.rows a x (r.valid x k (λ i. z (suc i)))),
        )

    zero_enough : (x : Row) → length x ≡ suc n → CutOut ((pos 1 ∷ zeros n) ∷ (negsuc 0 ∷ zeros n) ∷ map (λ b. pos 0 ∷ b) r.rows) x → (i : ℕ) → entry x i ≡ pos 0
    zero_enough [] l c i = refl
    zero_enough (a ∷ x) l c zero =
        let g = simp (dot-zeros, ring) at c.0 in
        let h = simp (dot-zeros, ring) at c.1.0 in
        omega (arith, ints)
    zero_enough (a ∷ x) l c (suc i) = r.enough x (omega arith) (unshifted r.rows a x c.1.1) i

pub cut_zero : (n : ℕ) → CutBy n IsZero
cut_zero zero = record {
  rows = [];
  cols = tt;
  valid = λ x l h. tt;
  enough = λ x l h. none x l;
}
  where
    none : (x : Row) → length x ≡ 0 → (i : ℕ) → entry x i ≡ pos 0
    none [] l i = refl
    none (a ∷ x) l i = absurd (omega arith)
cut_zero (suc n) = more_zero n (cut_zero n)

pub cut_in : (n : ℕ) (G L : List Row) → HasCols n G → HasCols n L → CutBy n (InCone G L)
cut_in n [] [] hg hl = cut_as (InCone [] []) (λ x k h. none_to_zero x h) (λ x k h. none_from_zero x h) (cut_zero n)
cut_in n [] (l ∷ L) hg hl =
    cut_as (InCone [] (l ∷ L)) (λ x k h. line_to_after [] L l x h) (λ x k h. line_from_after [] L l x h)
    (cut_after (cut_after (cut_in n [] L hg hl.1) l hl.0) (opposite l) (length-opposite l ∙ hl.0))
cut_in n (g ∷ G) L hg hl =
    cut_as (InCone (g ∷ G) L) (λ x k h. in_to_after G L g x h) (λ x k h. in_from_after G L g x h)
    (cut_after (cut_in n G L hg.1 hl) g hg.0)
