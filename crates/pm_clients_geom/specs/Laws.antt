-- What is found by linear programs is right: redundant points and inequalities (Ziegler, Lectures on Polytopes,
-- lectures 1 and 2), and whether there is a point.
use Rattle.pm_vector.specs.Cones.{InCone}
use Rattle.pm_vector.specs.Numbers.{Ratio}
use Rattle.pm_vector.specs.Rows.{HasCols, Row}
use Rattle.pm_clients_geom.specs.Points.{HasSolution}
use Rattle.pm_geom.specs.Cones.{IsValid}
use Rattle.pm_geom.specs.Generators.{AreGenerators}
use Rattle.pm_geom.specs.Things.{Orders}
use Rattle.pm_object_type.specs.declared.object_type.ObjectType.TheVariants.{Fan, Polytope}
use Rattle.pm_props.specs.declared.property.PropId.TheVariants.{AffineHull, Facets, Feasible, LinealitySpace, Vertices}
use Rattle.pm_types.specs.Canonical.{EachIs, IsRayRow}
use Rattle.pm_types.specs.Right.{CutsOutOf, PairCutsOut, PairGenerates, Right, StandFor}
use Rattle.pm_types.specs.Things.{AreOrders, IsThing, Thing}
use Rattle.pm_types.specs.Values.{matrix, truth}
use Rattle.pm_types.specs.Views.{ratios}
use Rattle.std.specs.Prelude.{Bool, IsTrue, List, map, ℕ, ◌≡◌, ◌↔◌}

-- the orders o, with V as that of the extreme rays, or F as that of the facet rows
abbrev pub with_rays : Orders → List Row → Orders
with_rays o V = record { rays = V; facets = o.facets; cones = o.cones }

abbrev pub with_facets : Orders → List Row → Orders
with_facets o F = record { rays = o.rays; facets = F; cones = o.cones }

-- V are the extreme rays of the thing and K is a basis of its lineality: rows for them are right VERTICES and
-- LINEALITY_SPACE, in the order of V
pub record AreRightRays (t : Thing) (o : Orders) (V K : List Row) : Type 0 where
  pub orders : AreOrders t (with_rays o V)
  pub rays : (n : ℕ) (rows : List (List Ratio)) (c : List Ratio) → EachIs (IsRayRow t) rows V
      → Right Vertices (matrix n rows) t (with_rays o V) c
  pub lines : (n : ℕ) (c : List Ratio) → Right LinealitySpace (matrix n (map ratios K)) t (with_rays o V) c

-- F are the facet rows of the thing and H is a basis of those that vanish on it: they are right FACETS and
-- AFFINE_HULL, in the order of F
pub record AreRightFacets (t : Thing) (o : Orders) (F H : List Row) : Type 0 where
  pub orders : AreOrders t (with_facets o F)
  pub facets : (n : ℕ) (c : List Ratio) → Right Facets (matrix n (map ratios F)) t (with_facets o F) c
  pub hull : (n : ℕ) (c : List Ratio) → Right AffineHull (matrix n (map ratios H)) t (with_facets o F) c

-- of points and lines that generate the thing, the extreme rays are those of the thing
abbrev pub VerticesAreThinned : Type 0
VerticesAreThinned = (t : Thing) (o : Orders) → IsThing t → AreOrders t o → ¬ (t.of ≡ Fan)
    → (points lines : List (List Ratio)) → PairGenerates t points lines → (G L : List Row)
    → StandFor points G → StandFor lines L →
    (V K : List Row) → AreGenerators t.cols (InCone G L) V K → AreRightRays t o V K

-- of inequalities and equations that cut the thing out, the facet rows are those of the thing
abbrev pub FacetsAreThinned : Type 0
FacetsAreThinned = (t : Thing) (o : Orders) → IsThing t → AreOrders t o → ¬ (t.of ≡ Fan)
    → (inequalities equations : List (List Ratio)) → PairCutsOut t inequalities equations → (A E : List Row)
    → StandFor inequalities A → StandFor equations E →
    (F H : List Row) → ((G L : List Row) → HasCols t.cols G → HasCols t.cols L
    → CutsOutOf t.of t.cols (InCone G L) A E → AreGenerators t.cols (IsValid t.cols G L) F H)
    → AreRightFacets t o F H

-- a polytope is not empty where inequalities and equations that cut it out have a point
abbrev pub FeasibleHasPoint : Type 0
FeasibleHasPoint = (t : Thing) (o : Orders) → t.of ≡ Polytope → (inequalities equations : List (List Ratio))
    → PairCutsOut t inequalities equations → (A E : List Row) → StandFor inequalities A
    → StandFor equations E →
    (b : Bool) (c : List Ratio) → (IsTrue b ↔ HasSolution t.cols A E) → Right Feasible (truth b) t o c
