-- The greatest value of an objective on a cone that rows of n entries generate is the one on each set that has the same rows of n entries.
use Rattle.pm_vector.proofs.ConeLaws.{in_same}
use Rattle.pm_vector.proofs.Lists.{all_at}
use Rattle.pm_vector.proofs.RowLaws.{dot-same, dot_comm}
use Rattle.pm_vector.specs.Cones.{InCone}
use Rattle.pm_vector.specs.Numbers.{Ratio}
use Rattle.pm_vector.specs.Rows.{HasCols, Row, Same, dot, entry}
use Rattle.pm_vector.proofs.DotLaws.{dot-unit}
use Rattle.pm_vector.specs.Evidence.{unit}
use Rattle.pm_geom.proofs.ValidRows.{null_in}
use Rattle.pm_geom.specs.Programs.{IsMaximum}
use Rattle.pm_types.specs.Programs.{IsGreatest}
use Rattle.pm_types.specs.Values.{Extended, finite, minus_infinity, plus_infinity}
use Rattle.std.proofs.Common.{arith, refl, subst, suc, sym, zero, ◌∙◌}
use Rattle.std.specs.Prelude.{List, [], length, ℕ, ◌+◌, ◌<◌, ◌∷◌, ◌↔◌, ◌≡◌, ◌≤◌}
use lib.IntN.{pos, ◌*ℤ◌}
use lib.Signed.{◌<ℤ◌, ◌≤ℤ◌}
use native.Mathlib.Decide.{dec_lt}

-- the first n entries, 0 past the end
pub fit : ℕ → Row → Row
fit zero x = []
fit (suc n) [] = pos 0 ∷ fit n []
fit (suc n) (a ∷ x) = a ∷ fit n x

pub fit_length : (n : ℕ) (x : Row) → length (fit n x) ≡ n
unfolding fit
fit_length zero x = refl
fit_length (suc n) [] = let e = fit_length n [] in omega arith
fit_length (suc n) (a ∷ x) = let e = fit_length n x in omega arith

past_end : (x : Row) (i : ℕ) → length x ≤ i → entry x i ≡ pos 0
past_end [] i l = refl
past_end (a ∷ x) zero l = absurd (omega arith)
past_end (a ∷ x) (suc i) l = past_end x i (omega arith)

fit_at : (n : ℕ) (x : Row) (i : ℕ) → i < n → entry x i ≡ entry (fit n x) i
unfolding fit
fit_at zero x i l = absurd (omega arith)
fit_at (suc n) [] zero l = refl
fit_at (suc n) [] (suc i) l = fit_at n [] i (omega arith)
fit_at (suc n) (a ∷ x) zero l = refl
fit_at (suc n) (a ∷ x) (suc i) l = fit_at n x i (omega arith)

module _ (n : ℕ) (G L : List Row) (hg : HasCols n G) (hl : HasCols n L) where
  -- a row of the cone has no entry but 0 behind the first n
  cone_past : (x : Row) → InCone G L x → (i : ℕ) → n ≤ i → entry x i ≡ pos 0
  cone_past x h i l =
      sym (at x) ∙ null_in (unit (i + 1) i) G L (λ g k. at g ∙ past_end g i (let e = all_at (λ (y : Row). length y ≡ n) k hg in omega arith)) (λ g k. at g ∙ past_end g i (let e = all_at (λ (y : Row). length y ≡ n) k hl in omega arith)) h
    where
      at : (y : Row) → dot (unit (i + 1) i) y ≡ entry y i
      at y = dot_comm (unit (i + 1) i) y ∙ dot-unit y (i + 1) i (omega arith)

  pub fit_same : (x : Row) → InCone G L x → Same x (fit n x)
  fit_same x h = record { at = λ i. elim (dec_lt i n) [ yes l ↦ fit_at n x i l | no l ↦ cone_past x h i (omega arith) ∙ sym (past_end (fit n x) i (let e = fit_length n x in omega arith)) ] }

  module _ (S : Row → Type 0) (same : (x : Row) → length x ≡ n → InCone G L x ↔ S x) (c : List Ratio) (cols : length c ≡ n) where
    fits : (x : Row) → InCone G L x → S (fit n x)
    fits x h = (same (fit n x) (fit_length n x)).0 (in_same (fit_same x h) h)

    maximum_as : (v : Ratio) → IsMaximum S c v → IsMaximum (InCone G L) c v
    maximum_as v m =
        let a = m.attained in
        record {
          attained = record { k = a.k; objective = a.objective; whole = a.whole; times = a.times; cols = a.cols; inside = (same a.whole (a.cols ∙ cols)).1 a.inside; first = a.first; positive = a.positive; value = a.value };
          greatest = record {
            holds = λ k C x t h up.
                let s = fit_same x h in
                let b = m.greatest.holds k C (fit n x) t (fits x h) (subst (λ z. pos 0 <ℤ z) (s.at 0) up) in
                subst (λ z. (z *ℤ v.den) ≤ℤ ((k *ℤ entry x 0) *ℤ v.num)) (sym (dot-same C x (fit n x) s.at)) (subst (λ z. (dot C (fit n x) *ℤ v.den) ≤ℤ ((k *ℤ z) *ℤ v.num)) (sym (s.at 0)) b);
          };
        }

    pub greatest_as : (x : Extended) → IsGreatest S c x → IsGreatest (InCone G L) c x
    greatest_as (finite v) m = maximum_as v m
    greatest_as plus_infinity h = record {
      k = h.k;
      objective = h.objective;
      point = h.point;
      direction = h.direction;
      times = h.times;
      point_cols = h.point_cols;
      direction_cols = h.direction_cols;
      point_inside = (same h.point (h.point_cols ∙ cols)).1 h.point_inside;
      direction_inside = (same h.direction (h.direction_cols ∙ cols)).1 h.direction_inside;
      first = h.first;
      level = h.level;
      improves = h.improves;
    }
    greatest_as minus_infinity h = λ x i up. h (fit n x) (fits x i) (subst (λ z. pos 0 <ℤ z) ((fit_same x i).at 0) up)
