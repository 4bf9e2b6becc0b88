-- Rows of standard polytopes: their lengths, and how they are made entry by entry and row by row.
use Rattle.pm_vector.specs.Numbers.{Ratio}
use Rattle.pm_vector.specs.Rows.{Row}
use Rattle.pm_build.specs.Objects.{zeros}
use Rattle.pm_types.specs.Parts.{cols_over}
use Rattle.pm_build.specs.Rows.{apex_row, curve, headed, headed_rows, opposite_units, unit}
use Rattle.pm_types.specs.Views.{over_one, ratios}
use Rattle.std.proofs.Common.{add-one, ap, arith, refl, subst, sym, ◌∙◌}
use Rattle.std.proofs.Math.Nat.{pow-le-pow_left, pow-le-pow_right}
use Rattle.std.proofs.lemmas.Bool.{le-ltb}
use Rattle.std.proofs.lemmas.Grind.{pow_more}
use Rattle.std.proofs.lemmas.List.{length-append, length-replicate}
use Rattle.std.specs.List.{slice_set}
use Rattle.std.specs.Prelude.{List, [], false, length, map, nat_lt, replicate, suc, zero, ℕ, ◌*◌, ◌+◌, ◌≤◌, ◌++◌, ◌<◌, ◌^◌, ◌∷◌, ◌≡◌}
use lib.IntN.{negsuc, pos, ℤ}

pub map_zeros : (d : ℕ) → map over_one (replicate d (pos 0)) ≡ zeros d
map_zeros zero = refl
map_zeros (suc d) = ap (λ r. over_one (pos 0) ∷ r) (map_zeros d)

pub length_unit : (s : ℤ) (i d : ℕ) → length (unit s i d) ≡ d
length_unit s i zero = refl
length_unit s zero (suc d) = ap suc (length-replicate d (pos 0))
length_unit s (suc i) (suc d) = ap suc (length_unit s i d)

pub length_ratios : (x : Row) → length (ratios x) ≡ length x
length_ratios [] = refl
length_ratios (a ∷ x) = ap suc (length_ratios x)

pub length_headed : (v : Row) (d : ℕ) → length v ≡ d → length (ratios (headed v)) ≡ suc d
length_headed v d e = ap suc (length_ratios v ∙ e)

pub length_curve : (t d : ℕ) → length (curve t d) ≡ d
length_curve t zero = refl
length_curve t (suc d) = length-append (curve t d) (pos (t ^ suc d) ∷ []) ∙ (let e = length_curve t d in omega arith)

-- ---- entries that are set
pub set_origin : (d : ℕ) → slice_set (zeros (d + 1)) 0 (over_one (pos 1)) ≡ ratios (headed (replicate d (pos 0)))
set_origin d = rw add-one (ap (λ r. over_one (pos 1) ∷ r) (sym (map_zeros d)))

set_unit_at : (s : Ratio) (i d : ℕ) → s.den ≡ pos 1 → i < d → slice_set (map over_one (replicate d (pos 0))) i s ≡ map over_one (unit s.num i d)
set_unit_at s i zero e h = absurd (omega arith)
set_unit_at s zero (suc d) e h = ap (λ k. record { num = s.num; den = k } ∷ map over_one (replicate d (pos 0))) e
set_unit_at s (suc i) (suc d) e h = ap (λ r. over_one (pos 0) ∷ r) (set_unit_at s i d e (omega arith))

pub set_unit : (s : Ratio) (i d : ℕ) → s.den ≡ pos 1 → i < d → slice_set (ratios (headed (replicate d (pos 0)))) (i + 1) s ≡ ratios (headed (unit s.num i d))
set_unit s i d e h = rw add-one (ap (λ r. over_one (pos 1) ∷ r) (set_unit_at s i d e h))

-- ---- rows that are added
pub headed_append : (V W : List Row) → headed_rows (V ++ W) ≡ headed_rows V ++ headed_rows W
headed_append [] W = refl
headed_append (v ∷ V) W = ap (λ rows. ratios (headed v) ∷ rows) (headed_append V W)

pub length_headed_rows : (V : List Row) → length (headed_rows V) ≡ length V
length_headed_rows [] = refl
length_headed_rows (v ∷ V) = ap suc (length_headed_rows V)

pub cols_some : (n : ℕ) (rows : List (List Ratio)) → 0 < length rows → cols_over n rows ≡ n
cols_some n [] h = absurd (omega arith)
cols_some n (r ∷ rows) h = refl

-- there are rows where there are dimensions
pub cols_opposite : (d : ℕ) → 0 < d → cols_over (suc d) (headed_rows (opposite_units d d)) ≡ suc d
cols_opposite zero h = absurd (omega arith)
cols_opposite (suc d) h = cols_some (suc (suc d)) (headed_rows (opposite_units (suc d) (suc d)))
    (rw (length_headed_rows (opposite_units (suc d) (suc d)), length-append (opposite_units (suc d) d) (unit (pos 1) d (suc d) ∷ unit (negsuc 0) d (suc d) ∷ [])) (omega arith))

-- ---- powers
-- n^d is no less than a power before it
pub power_up : (n d j : ℕ) → 0 < n → j ≤ d → n ^ j ≤ n ^ d
power_up n d j h k = pow-le-pow_right h k

-- t^j t = t^(j + 1) is below what t^d is below, where j < d
pub power_next : (t d j p m : ℕ) → 0 < t → j < d → p ≡ t ^ j → t ^ d < m → (p * t ≡ t ^ (j + 1)) × (p * t < m)
power_next t d j p m h k e b =
    let same : p * t ≡ t ^ (j + 1) = ap (λ z. z * t) e ∙ sym (pow_more t j) in
    let up = power_up t d (j + 1) h (omega arith) in (same, omega arith)

pub power_below : (t n d m : ℕ) → t ≤ n → n ^ d < m → t ^ d < m
power_below t n d m h b = let up = pow-le-pow_left h d in omega arith

-- a power before it leaves the range, so n^d does
pub power_leaves : (n d j p m : ℕ) → 0 < n → j < d → p ≡ n ^ j → m ≤ p * n → false ≡ nat_lt (n ^ d) m
power_leaves n d j p m h k e b =
    let same : p * n ≡ n ^ (j + 1) = ap (λ z. z * n) e ∙ sym (pow_more n j) in
    let up = power_up n d (j + 1) h (omega arith) in
    sym (le-ltb (n ^ d) m (omega arith))

-- ---- the apex
ratios_push : (x : Row) (k : ℤ) → ratios (x ++ k ∷ []) ≡ ratios x ++ over_one k ∷ []
ratios_push [] k = refl
ratios_push (a ∷ x) k = ap (λ r. over_one a ∷ r) (ratios_push x k)

apex_at : (m : ℕ) → ratios (headed (replicate m (pos 0))) ++ over_one (pos 1) ∷ [] ≡ ratios (apex_row (suc m))
apex_at m = ap (λ r. over_one (pos 1) ∷ r) (sym (ratios_push (replicate m (pos 0)) (pos 1)))

pub apex_made : (n m : ℕ) → suc m ≡ n → ratios (headed (replicate m (pos 0))) ++ over_one (pos 1) ∷ [] ≡ ratios (apex_row n)
apex_made n m e = subst (λ k. ratios (headed (replicate m (pos 0))) ++ over_one (pos 1) ∷ [] ≡ ratios (apex_row k)) e (apex_at m)
