-- What new objects describe.
use Rattle.std.specs.Prelude.{ℕ, ◌≡◌, ◌<◌, None, Some, List, [], ◌++◌, map}
use Rattle.std.specs.List.{All}
use Rattle.pm_files.specs.Files.{SavedFile}
use Rattle.pm_geom.specs.Things.{Orders}
use Rattle.pm_object.specs.Honest.{facts}
use Rattle.pm_object.specs.State.{State, read_at, settling, value_of}
use Rattle.pm_object.specs.declared.held.Origin.TheVariants.{Given}
use Rattle.pm_object_type.specs.declared.object_type.ObjectType.TheVariants.{Polytope}
use Rattle.pm_props.specs.declared.property.PropId.{PropId}
use Rattle.pm_types.specs.Right.{Right, RightAll}
use Rattle.pm_types.specs.Things.{AreOrders, IsThing, Thing}
use Rattle.pm_types.specs.Values.{Fact, PropertyValue}
use Rattle.pm_laws_things.specs.Built.{IsCross, IsCube, IsCyclic, IsPolar, IsProduct, IsPyramid, IsSimplex, IsSum}
use Rattle.pm_build.specs.Conditions.{polar_reads, polar_refusal, product_reads, pyramid_reads, sum_reads, sum_refusal}
use Rattle.pm_object.specs.Known.{IsKnown, cols_at}
use Rattle.pm_build.specs.Objects.{cross_of, cube_of, cyclic_of, polar_of, product_of, pyramid_of, simplex_of}
use Rattle.pm_build.specs.Sums.{IsSumFile}

-- the object that is given these values
abbrev pub opened : SavedFile → State
opened f = record {
  of = f.of;
  held = map (λ v. record { place = None; property = v.0; value = v.1; origin = Given }) f.values;
  excluded = [];
  rounds = [];
  disabled = [];
  programs = [];
}

-- what it then holds: these values, and what goes without saying of them
abbrev pub settled_facts : SavedFile → List Fact
settled_facts f = facts ((opened f).held ++ settling (opened f))

-- all of that is right for the thing, in any orders
abbrev pub Describes : SavedFile → Thing → Type 0
Describes f u = (o : Orders) → IsThing u → AreOrders u o → RightAll (settled_facts f) u o

-- t is a polytope, of which the object's values of these properties are right
pub record ReadRight (ps : List PropId) (a : State) (t : Thing) (o : Orders) : Type 0 where
  pub known : IsKnown ps a
  pub thing : IsThing t
  pub orders : AreOrders t o
  pub of : t.of ≡ Polytope
  pub cols : t.cols ≡ cols_at a
  pub values : All (λ p. (v : PropertyValue) → value_of p (read_at None a.held) ≡ Some v
      → Right p v t o []) ps

-- ---- the laws
-- the values of a cube are right for the cube
abbrev pub CubeIsDescribed : Type 0
CubeIsDescribed = (d : ℕ) (u : Thing) → IsCube d u → Describes (cube_of d) u

-- the values of a simplex are right for it
abbrev pub SimplexIsDescribed : Type 0
SimplexIsDescribed = (d : ℕ) (u : Thing) → IsSimplex d u → Describes (simplex_of d) u

-- so are those of a cross-polytope
abbrev pub CrossIsDescribed : Type 0
CrossIsDescribed = (d : ℕ) (u : Thing) → IsCross d u → Describes (cross_of d) u

-- those of a cyclic polytope, which has some point
abbrev pub CyclicIsDescribed : Type 0
CyclicIsDescribed = (d n : ℕ) (u : Thing) → 0 < n → IsCyclic d n u → Describes (cyclic_of d n) u

-- those of a pyramid over each polytope for which the values read are right
abbrev pub PyramidIsDescribed : Type 0
PyramidIsDescribed = (a : State) (t : Thing) (o : Orders) (u : Thing) → ReadRight pyramid_reads a t o
    → IsPyramid t u → Describes (pyramid_of a) u

-- those of a product of two such polytopes
abbrev pub ProductIsDescribed : Type 0
ProductIsDescribed = (a b : State) (t : Thing) (o : Orders) (s : Thing) (p : Orders) (u : Thing)
    → ReadRight product_reads a t o → ReadRight product_reads b s p → IsProduct t s u
    → Describes (product_of a b) u

-- those of a polar of such a polytope, where no condition fails
abbrev pub PolarIsDescribed : Type 0
PolarIsDescribed = (a : State) (t : Thing) (o : Orders) (u : Thing) → ReadRight polar_reads a t o
    → polar_refusal a ≡ None → IsPolar t u → Describes (polar_of a) u

-- those of a sum of two such polytopes, bounded or not, where no condition fails
abbrev pub SumIsDescribed : Type 0
SumIsDescribed = (a b : State) (t : Thing) (o : Orders) (s : Thing) (p : Orders) (u : Thing) (f : SavedFile)
    → ReadRight sum_reads a t o → ReadRight sum_reads b s p → sum_refusal a b ≡ None → IsSumFile a b f
    → IsSum t s u → Describes f u
