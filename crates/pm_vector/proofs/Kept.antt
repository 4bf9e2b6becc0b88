-- A number of the range goes through 128 bits unchanged.
use Rattle.pm_vector.specs.Numbers.{InRange}
use Rattle.std.proofs.Common.{FitsSigned, of_z, refl, to_z, ◌≡◌}
use Rattle.std.proofs.lemmas.Int.{fits_signed_from_abs, to_z-of_z}
use Rattle.std.specs.Int.{w128}
use Rattle.pm_vector.specs.Differences.{EntryStays}
use lib.IntN.{ℤ, ◌*ℤ◌, ◌-ℤ◌}

pub kept : (z : ℤ) → InRange z → to_z w128 (of_z w128 z) ≡ z
kept z h = to_z-of_z w128 z (fits_signed_from_abs w128 z h)

-- what 128 bits hold of z
abbrev held : ℤ → ℤ
held z = to_z w128 (of_z w128 z)

-- and so do the numbers of a difference of products that stays in the range
module _ (p x q y : ℤ) (fits_p : FitsSigned w128 p) (fits_x : FitsSigned w128 x) (fits_q : FitsSigned w128 q) (fits_y : FitsSigned w128 y) (s : EntryStays p x q y) where
  pub kept_products : held (held p *ℤ held x) -ℤ held (held q *ℤ held y) ≡ p *ℤ x -ℤ q *ℤ y
  kept_products = rw (to_z-of_z w128 p fits_p, to_z-of_z w128 x fits_x, to_z-of_z w128 q fits_q, to_z-of_z w128 y fits_y, kept (p *ℤ x) s.first, kept (q *ℤ y) s.second) refl

  pub kept_difference : held (held (held p *ℤ held x) -ℤ held (held q *ℤ held y)) ≡ p *ℤ x -ℤ q *ℤ y
  kept_difference = rw (kept_products, kept (p *ℤ x -ℤ q *ℤ y) s.difference) refl

  pub difference_fits : FitsSigned w128 (held (held p *ℤ held x) -ℤ held (held q *ℤ held y))
  difference_fits = rw kept_products (fits_signed_from_abs w128 (p *ℤ x -ℤ q *ℤ y) s.difference)
