-- Rays as rows of fractions.
use Rattle.pm_vector.specs.Numbers.{InRange, Ratio}
use Rattle.pm_vector.specs.Rows.{Row, entry}
use Rattle.pm_object_type.specs.declared.object_type.ObjectType.{ObjectType}
use Rattle.pm_object_type.specs.declared.object_type.ObjectType.TheVariants.{Polytope}
use Rattle.pm_types.specs.Canonical.{EachIs}
use Rattle.pm_types.specs.OverFirst.{IsOverFirst}
use Rattle.pm_types.specs.Views.{ratios}
use Rattle.std.specs.List.{All}
use Rattle.std.specs.Prelude.{List, length, ◌<◌, ◌≡◌}
use lib.IntN.{pos}
use lib.Signed.{◌≤ℤ◌}

-- r is the ray x of a thing of that type: of a polytope, where no ray lies behind, divided by its first entry where
-- that is not 0, else as it is
pub record IsPutRay (of : ObjectType) (r : List Ratio) (x : Row) : Type 0 where
  pub some : 0 < length x
  pub in_range : All InRange x
  pub before : of ≡ Polytope → pos 0 ≤ℤ entry x 0
  pub divided : of ≡ Polytope → ¬ (entry x 0 ≡ pos 0) → IsOverFirst x r
  pub whole : ¬ ((of ≡ Polytope) × ¬ (entry x 0 ≡ pos 0)) → r ≡ ratios x

-- the rows are the rays X, in their order
abbrev pub ArePutRays : ObjectType → List (List Ratio) → List Row → Type 0
ArePutRays of rows X = EachIs (IsPutRay of) rows X
