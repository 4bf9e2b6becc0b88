-- What an object describes: a cone, a polytope or a fan, and orders of its rays and facets (Ziegler, Lectures on
-- Polytopes, lectures 1, 2 and 7).
use Rattle.std.specs.Prelude.{ℕ, ◌≡◌, ◌<◌, ◌≤◌, List, [], length}
use Rattle.pm_vector.specs.Numbers.{Ratio}
use Rattle.pm_vector.specs.Rows.{Row, ratio_at}
use Rattle.pm_geom.specs.Cells.{AreSites}
use Rattle.pm_geom.specs.Things.{IsConeThing, IsPolytopeThing, IsFanThing, Orders, AreConeOrders, AreFanOrders}
use Rattle.pm_object_type.specs.declared.object_type.ObjectType.{ObjectType}
use Rattle.pm_object_type.specs.declared.object_type.ObjectType.TheVariants.{Polytope, Cone, Fan}
use lib.IntN.{pos}
use lib.Signed.{◌<ℤ◌}
use Rattle.pm_limits.specs.Limits.{most_columns}

-- a type, n columns, and finite lists of rows: generators and lines of a cone or polytope, lines and one list of
-- generators for each cone of a fan; for each program at a place its objective, a row of fractions; and sites with
-- their heights, of which only values of polytopes speak
pub record Thing : Type 0 where
  pub of : ObjectType
  pub cols : ℕ
  pub generators : List Row
  pub lines : List Row
  pub cones : List (List Row)
  pub objective : ℕ → List Ratio
  pub sites : List Row
  pub heights : List Ratio

-- each objective is a row of n fractions
pub record AreObjectives (n : ℕ) (objective : ℕ → List Ratio) : Type 0 where
  pub cols : (s : ℕ) → length (objective s) ≡ n
  pub denominators : (s i : ℕ) → i < n → pos 0 <ℤ (ratio_at (objective s) i).den

-- the rows Q are sites, and W has exactly one height for each
pub record AreSitesWithHeights (n : ℕ) (Q : List Row) (W : List Ratio) : Type 0 where
  pub each : AreSites n Q W
  pub as_many : length W ≡ length Q

-- the lists describe a thing of that type
abbrev pub IsOfType : ObjectType → ℕ → List Row → List Row → List (List Row) → Type 0
IsOfType Polytope n G L Gs = IsPolytopeThing n G L × (Gs ≡ [])
IsOfType Cone n G L Gs = IsConeThing n G L × (Gs ≡ [])
IsOfType Fan n G L Gs = IsFanThing n Gs L × (G ≡ [])

-- the lists describe a thing of its type, which has from 1 to 33 columns
pub record IsThing (t : Thing) : Type 0 where
  pub some_cols : 1 ≤ t.cols
  pub few_cols : t.cols ≤ most_columns
  pub kind : IsOfType t.of t.cols t.generators t.lines t.cones
  pub programs : AreObjectives t.cols t.objective
  pub sites : AreSitesWithHeights t.cols t.sites t.heights

abbrev pub AreOrdersOf : ObjectType → ℕ → List Row → List Row → List (List Row) → Orders → Type 0
AreOrdersOf Polytope n G L Gs o = AreConeOrders n G L o
AreOrdersOf Cone n G L Gs o = AreConeOrders n G L o
AreOrdersOf Fan n G L Gs o = AreFanOrders n Gs L o

-- they are orders of the thing's extreme rays, of its facet rows, and for a fan of its cones
abbrev pub AreOrders : Thing → Orders → Type 0
AreOrders t o = AreOrdersOf t.of t.cols t.generators t.lines t.cones o
