-- What is built exists: of each shape there is a polytope, each polytope has a polar and a pyramid, each two have a
-- product and a sum; there are normal fans, face fans and common refinements (Ziegler, Lectures on Polytopes, sections
-- 0, 1.1, 1.5, 2.3 and 7.1). So what new objects describe is never nothing.
use Rattle.std.specs.Prelude.{ℕ, ◌+◌, ◌≡◌, ◌≤◌}
use Rattle.pm_geom.specs.Things.{Orders}
use Rattle.pm_object_type.specs.declared.object_type.ObjectType.TheVariants.{Fan, Polytope}
use Rattle.pm_types.specs.Right.{IsCentered}
use Rattle.pm_types.specs.Things.{AreOrders, IsThing, Thing}
use Rattle.pm_laws_things.specs.Built.{IsCross, IsCube, IsCyclic, IsPolar, IsProduct, IsPyramid, IsSimplex, IsSum}
use Rattle.pm_laws_things.specs.FanLaws.{IsBounded, IsFaceFanOf, IsNormalFanOf, IsRefinementOfFans}
use Rattle.pm_limits.specs.Limits.{most_columns, most_dimensions}

-- there is a thing of which P holds, and there are orders of its rays and facets
pub record SomeThing (P : Thing → Type 0) : Type 0 where
  pub thing : Thing
  pub is_thing : IsThing thing
  pub orders : Orders
  pub are_orders : AreOrders thing orders
  pub holds : P thing

-- t is a polytope
pub record IsSomePolytope (t : Thing) : Type 0 where
  pub thing : IsThing t
  pub of : t.of ≡ Polytope

-- t is a fan
pub record IsSomeFan (t : Thing) : Type 0 where
  pub thing : IsThing t
  pub of : t.of ≡ Fan

-- ---- the laws
-- there are cubes, simplices, cross-polytopes and cyclic polytopes in up to 32 dimensions
pub record ShapesExist : Type 0 where
  pub cube : (d : ℕ) → d ≤ most_dimensions → SomeThing (IsCube d)
  pub simplex : (d : ℕ) → d ≤ most_dimensions → SomeThing (IsSimplex d)
  pub cross : (d : ℕ) → d ≤ most_dimensions → SomeThing (IsCross d)
  pub cyclic : (d n : ℕ) → d ≤ most_dimensions → SomeThing (IsCyclic d n)

-- each polytope has a polar
abbrev pub PolarsExist : Type 0
PolarsExist = (t : Thing) → IsSomePolytope t → SomeThing (IsPolar t)

-- each two polytopes of at most 34 columns together have a product
abbrev pub ProductsExist : Type 0
ProductsExist = (t s : Thing) → IsSomePolytope t → IsSomePolytope s → t.cols + s.cols ≤ (most_columns + 1)
    → SomeThing (IsProduct t s)

-- each polytope of at most 32 columns has a pyramid
abbrev pub PyramidsExist : Type 0
PyramidsExist = (t : Thing) → IsSomePolytope t → t.cols ≤ most_dimensions → SomeThing (IsPyramid t)

-- each two polytopes of as many columns have a sum; where one is empty the sum is
abbrev pub SumsExist : Type 0
SumsExist = (t s : Thing) → IsSomePolytope t → IsSomePolytope s → s.cols ≡ t.cols → SomeThing (IsSum t s)

-- each bounded polytope that is not empty has a normal fan, where it has a column beside the first
abbrev pub NormalFansExist : Type 0
NormalFansExist = (t : Thing) → IsThing t → IsBounded t → 2 ≤ t.cols → SomeThing (IsNormalFanOf t)

-- with 0 in its interior it has a face fan
abbrev pub FaceFansExist : Type 0
FaceFansExist = (t : Thing) → IsThing t → IsBounded t → IsCentered t → 2 ≤ t.cols → SomeThing (IsFaceFanOf t)

-- each two fans of as many columns have a common refinement
abbrev pub RefinementsExist : Type 0
RefinementsExist = (t s : Thing) → IsSomeFan t → IsSomeFan s → s.cols ≡ t.cols → SomeThing (IsRefinementOfFans t s)
