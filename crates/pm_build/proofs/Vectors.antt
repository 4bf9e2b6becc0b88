-- The vectors of standard polytopes: how many entries each has, and which the opposite units are.
use Rattle.pm_vector.proofs.Lists.{Among, among_append, here, there}
use Rattle.pm_vector.specs.Rows.{Row}
use Rattle.pm_build.proofs.RowLaws.{length_curve, length_unit}
use Rattle.pm_build.specs.Rows.{curve, curve_points, opposite_units, simplex_corners, unit, units}
use Rattle.std.proofs.Common.{ap, arith, inl, inr, refl, ◌∙◌}
use Rattle.std.proofs.lemmas.List.{length-replicate}
use Rattle.std.specs.Prelude.{[], length, suc, zero, ℕ, ◌<◌, ◌∷◌, ◌≡◌, ◌⊎◌}
use lib.IntN.{negsuc, pos, ℤ}

at_one : {d : ℕ} {v w : Row} → length w ≡ d → Among v (w ∷ []) → length v ≡ d
at_one e here = e
at_one e (there i) = elim i [ ]

units_cols : (d k : ℕ) (v : Row) → Among v (units d k) → length v ≡ d
units_cols d zero v i = elim i [ ]
units_cols d (suc k) v i = elim (among_append (units d k) (unit (pos 1) k d ∷ []) i) [
  | inl j ↦ units_cols d k v j
  | inr j ↦ at_one (length_unit (pos 1) k d) j
]

pub corners_cols : (d : ℕ) (v : Row) → Among v (simplex_corners d) → length v ≡ d
corners_cols d v here = length-replicate d (pos 0)
corners_cols d v (there i) = units_cols d d v i

pub curve_cols : (d n : ℕ) (v : Row) → Among v (curve_points d n) → length v ≡ d
curve_cols d zero v i = elim i [ ]
curve_cols d (suc n) v i = elim (among_append (curve_points d n) (curve (suc n) d ∷ []) i) [
  | inl j ↦ curve_cols d n v j
  | inr j ↦ at_one (length_curve (suc n) d) j
]

-- a vector of the cross-polytope is a unit vector or its opposite
pub record IsUnit (d k : ℕ) (v : Row) : Type 0 where
  pub s : ℤ
  pub i : ℕ
  pub within : i < k
  pub sign : (s ≡ pos 1) ⊎ (s ≡ negsuc 0)
  pub is : v ≡ unit s i d

last_units : (d k : ℕ) (v : Row) → Among v (unit (pos 1) k d ∷ unit (negsuc 0) k d ∷ []) → IsUnit d (suc k) v
last_units d k v here = record { s = pos 1; i = k; within = omega arith; sign = inl refl; is = refl }
last_units d k v (there here) = record { s = negsuc 0; i = k; within = omega arith; sign = inr refl; is = refl }
last_units d k v (there (there i)) = elim i [ ]

pub is_unit : (d k : ℕ) (v : Row) → Among v (opposite_units d k) → IsUnit d k v
is_unit d zero v i = elim i [ ]
is_unit d (suc k) v i = elim (among_append (opposite_units d k) (unit (pos 1) k d ∷ unit (negsuc 0) k d ∷ []) i) [
  | inl j ↦ let w = is_unit d k v j in let l = w.within in record { s = w.s; i = w.i; within = omega arith; sign = w.sign; is = w.is }
  | inr j ↦ last_units d k v j
]

pub opposite_cols : (d : ℕ) (v : Row) → Among v (opposite_units d d) → length v ≡ d
opposite_cols d v i = let w = is_unit d d v i in ap length w.is ∙ length_unit w.s w.i d
