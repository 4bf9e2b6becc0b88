-- What the fans of polytopes describe.
use Rattle.std.specs.Prelude.{suc, ◌≡◌, ◌↔◌, None, Some, List, []}
use Rattle.std.specs.List.{All}
use Rattle.pm_laws_things.specs.Built.{IsSum}
use Rattle.pm_laws_things.specs.BuildingLaws.{ReadRight, settled_facts}
use Rattle.pm_files.specs.Files.{SavedFile}
use Rattle.pm_fan.specs.Conditions.{face_reads, face_refusal, normal_reads, normal_refusal}
use Rattle.pm_fan.specs.Fans.{face_fan_of, normal_fan_of}
use Rattle.pm_geom.specs.Things.{Orders}
use Rattle.pm_laws_normal_fans.specs.FaceFans.{IsFaceFan}
use Rattle.pm_laws_normal_fans.specs.Fans.{Fan, IsCommonRefinement}
use Rattle.pm_laws_normal_fans.specs.NormalFans.{IsNormalFan}
use Rattle.pm_laws_normal_fans.specs.Sums.{Cone, In, IsBoundedPolytope}
use Rattle.pm_object.specs.Known.{IsKnown, cols_at}
use Rattle.pm_object.specs.State.{State, read_at, value_of}
use Rattle.pm_object_type.specs.declared.object_type.ObjectType.TheVariants.{Fan as OfFan, Polytope}
use Rattle.pm_props.specs.declared.property.PropId.{PropId}
use Rattle.pm_refine.specs.ObjectFans.{refine_reads}
use Rattle.pm_refine.specs.ObjectRefinements.{IsRefinementFile}
use Rattle.pm_types.specs.Right.{Right, RightAll}
use Rattle.pm_types.specs.Things.{AreOrders, IsThing, Thing}
use Rattle.pm_types.specs.Values.{PropertyValue}

-- the generators and lines of a polytope, the cones of a fan
abbrev pub cone_of : Thing → Cone
cone_of t = record { generators = t.generators; lines = t.lines }

abbrev pub fan_of : Thing → Fan
fan_of u = record { cones = u.cones; lines = u.lines }

-- u is the normal fan of t: its cones are the sets of the objectives that are least on t at a vertex
pub record IsNormalFanOf (t u : Thing) : Type 0 where
  pub of : u.of ≡ OfFan
  pub cols : t.cols ≡ suc u.cols
  pub cones : IsNormalFan t.cols (In (cone_of t)) (fan_of u)

-- u is the face fan of t: its cones are those over the facets
pub record IsFaceFanOf (t u : Thing) : Type 0 where
  pub of : u.of ≡ OfFan
  pub cols : t.cols ≡ suc u.cols
  pub cones : IsFaceFan u.cols (cone_of t) (fan_of u)

-- u is the common refinement of t and s: its cones are the maximal intersections of a cone of t and a cone of s
pub record IsRefinementOfFans (t s u : Thing) : Type 0 where
  pub of : u.of ≡ OfFan
  pub cols : u.cols ≡ t.cols
  pub second_cols : s.cols ≡ t.cols
  pub cones : IsCommonRefinement t.cols (fan_of t) (fan_of s) (fan_of u)

-- t is a fan, of which the object's values of these properties are right
pub record ReadRightFan (ps : List PropId) (a : State) (t : Thing) (o : Orders) : Type 0 where
  pub known : IsKnown ps a
  pub thing : IsThing t
  pub orders : AreOrders t o
  pub of : t.of ≡ OfFan
  pub cols : t.cols ≡ cols_at a
  pub values : All (λ p. (v : PropertyValue) → value_of p (read_at None a.held) ≡ Some v
      → Right p v t o []) ps

-- the values are right for the fan, in some orders of its rays and cones
abbrev pub DescribesFan : SavedFile → Thing → Type 0
DescribesFan f u = (p : Orders) × RightAll (settled_facts f) u p

-- ---- the laws
-- the values of a normal fan are right for the normal fan of each polytope for which the values read are right
abbrev pub NormalFanIsDescribed : Type 0
NormalFanIsDescribed = (a : State) (t : Thing) (o : Orders) (u : Thing) → ReadRight normal_reads a t o
    → normal_refusal a ≡ None → IsThing u → IsNormalFanOf t u → DescribesFan (normal_fan_of a) u

-- those of a face fan are right for its face fan
abbrev pub FaceFanIsDescribed : Type 0
FaceFanIsDescribed = (a : State) (t : Thing) (o : Orders) (u : Thing) → ReadRight face_reads a t o
    → face_refusal a ≡ None → IsThing u → IsFaceFanOf t u → DescribesFan (face_fan_of a) u

-- those of a common refinement are right for the common refinement of each two fans for which the values read are
-- right
abbrev pub RefinementIsDescribed : Type 0
RefinementIsDescribed = (a b : State) (t : Thing) (o : Orders) (s : Thing) (p : Orders) (u : Thing)
    (f : SavedFile) → ReadRightFan refine_reads a t o → ReadRightFan refine_reads b s p
    → IsRefinementFile a b f → IsThing u → IsRefinementOfFans t s u → DescribesFan f u

-- t is a bounded polytope, and not empty
pub record IsBounded (t : Thing) : Type 0 where
  pub of : t.of ≡ Polytope
  pub bounded : IsBoundedPolytope t.cols (cone_of t)

-- a fan is the normal fan of the sum of two bounded polytopes that are not empty exactly where it is the common
-- refinement of their normal fans (Ziegler, proposition 7.12)
abbrev pub NormalFanOfSum : Type 0
NormalFanOfSum = (t s u f g h : Thing) → IsBounded t → IsBounded s → IsThing u → IsSum t s u
    → s.cols ≡ t.cols → IsNormalFanOf t f → IsNormalFanOf s g → h.of ≡ OfFan → t.cols ≡ suc h.cols
    → IsNormalFanOf u h ↔ IsRefinementOfFans f g h
