-- Matrices that a client puts, and rows that may span a lineality.
use Rattle.pm_vector.specs.Rows.{IsZero, Row, entry}
use Rattle.pm_object_type.specs.declared.object_type.ObjectType.{ObjectType}
use Rattle.pm_object_type.specs.declared.object_type.ObjectType.TheVariants.{Polytope}
use Rattle.std.specs.List.{All}
use Rattle.std.specs.Prelude.{List, ◌≡◌}
use lib.IntN.{pos}
use lib.Signed.{◌≤ℤ◌}

-- rows of the lineality of a polytope have first entry 0
abbrev pub MayBeLines : ObjectType → List Row → Type 0
MayBeLines of rows = of ≡ Polytope → All (λ x. entry x 0 ≡ pos 0) rows

-- rays of a polytope have no negative first entry
abbrev pub MayBeRays : ObjectType → List Row → Type 0
MayBeRays of rows = of ≡ Polytope → All (λ x. pos 0 ≤ℤ entry x 0) rows

-- no row is zero
abbrev pub AreNotZero : List Row → Type 0
AreNotZero rows = All (λ x. ¬ (IsZero x)) rows

-- rows that may be rays, none of them zero
pub record AreRays (of : ObjectType) (rows : List Row) : Type 0 where
  pub before : MayBeRays of rows
  pub not_zero : AreNotZero rows
