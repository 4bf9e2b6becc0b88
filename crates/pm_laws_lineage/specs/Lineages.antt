-- What the objects of a run stand for. A lineage tells how an object came: of values that were given, as a standard
-- polytope, or of other objects by a command that builds; and it denotes things. It has no names and no computed
-- values in it.
use Rattle.std.specs.Prelude.{ℕ, ◌≡◌, ◌∷◌, [], IsTrue, List, Some}
use Rattle.std.specs.List.{All}
use Rattle.pm_command.specs.Commands.{ShapeSeen, cross_shape, cube_shape, cyclic_shape, simplex_shape}
use Rattle.pm_command.specs.declared.building.Binary.{Binary}
use Rattle.pm_command.specs.declared.building.Binary.TheVariants.{Minkowski, Product, Refine}
use Rattle.pm_command.specs.declared.building.Unary.{Unary}
use Rattle.pm_command.specs.declared.building.Unary.TheVariants.{FaceFan, NormalFan, Polar, Pyramid}
use Rattle.pm_geom.specs.Things.{Orders}
use Rattle.pm_laws_things.specs.Built.{IsCross, IsCube, IsCyclic, IsPolar, IsProduct, IsPyramid, IsSimplex, IsSum}
use Rattle.pm_laws_things.specs.FanLaws.{IsFaceFanOf, IsNormalFanOf, IsRefinementOfFans}
use Rattle.pm_object.specs.Honest.{facts}
use Rattle.pm_object.specs.State.{HeldValue}
use Rattle.pm_object_type.specs.declared.object_type.ObjectType.{ObjectType}
use Rattle.pm_props.specs.declared.property.PropId.{PropId}
use Rattle.pm_props.specs.declared.property.PropId.TheVariants.{LinearObjective}
use Rattle.pm_types.specs.Forms.{agrees_with}
use Rattle.pm_types.specs.Right.{Right, RightAll}
use Rattle.pm_types.specs.Things.{AreOrders, IsThing, Thing}
use Rattle.pm_types.specs.Values.{PropertyValue, matrix}

-- values that were given or stored; a standard polytope; what was built of one object, or of two; the same with
-- objectives that its linear programs were given; and with a value that it was given itself
pub data Lineage : Type 0 where
  given : ObjectType → List HeldValue → Lineage
  shape : ShapeSeen → Lineage
  one : Unary → Lineage → Lineage
  two : Binary → Lineage → Lineage → Lineage
  with_objectives : Lineage → List HeldValue → Lineage
  with_value : Lineage → PropId → PropertyValue → Lineage

-- u is the standard polytope of the shape
abbrev pub IsShape : ShapeSeen → Thing → Type 0
IsShape (cube_shape d) u = IsCube d u
IsShape (simplex_shape d) u = IsSimplex d u
IsShape (cross_shape d) u = IsCross d u
IsShape (cyclic_shape d n) u = IsCyclic d n u

-- u is the polar of t, ..
abbrev pub IsOneOf : Unary → Thing → Thing → Type 0
IsOneOf Polar t u = IsPolar t u
IsOneOf Pyramid t u = IsPyramid t u
IsOneOf NormalFan t u = IsNormalFanOf t u
IsOneOf FaceFan t u = IsFaceFanOf t u

-- u is the product of t and s, ..
abbrev pub IsTwoOf : Binary → Thing → Thing → Thing → Type 0
IsTwoOf Product t s u = IsProduct t s u
IsTwoOf Minkowski t s u = IsSum t s u
IsTwoOf Refine t s u = IsRefinementOfFans t s u

-- the value is the objective of a linear program of u
pub record IsObjectiveOf (u : Thing) (h : HeldValue) : Type 0 where
  pub program : ℕ
  pub place : h.place ≡ Some program
  pub property : h.property ≡ LinearObjective
  pub value : h.value ≡ matrix u.cols (u.objective program ∷ [])

-- the value is right for u, in some orders, and states no other column count
pub record IsValueOf (u : Thing) (p : PropId) (v : PropertyValue) : Type 0 where
  pub orders : Orders
  pub are_orders : AreOrders u orders
  pub right : Right p v u orders []
  pub columns : IsTrue (agrees_with u.cols p v)

-- the things of the type for which the values are right, in some orders; the standard polytopes; the polars of what
-- the other one denotes, ..; those of them with these objectives, and with this value
abbrev pub Denotes : Lineage → Thing → Type 0
Denotes (given of held) u = (u.of ≡ of) × (p : Orders) × RightAll (facts held) u p
Denotes (shape s) u = IsThing u × IsShape s u
Denotes (one b l) u = IsThing u × (t : Thing) × Denotes l t × IsOneOf b t u
Denotes (two b l k) u = IsThing u × (t : Thing) × (s : Thing) × Denotes l t × Denotes k s × IsTwoOf b t s u
Denotes (with_objectives l held) u = Denotes l u × All (IsObjectiveOf u) held
Denotes (with_value l p v) u = Denotes l u × IsValueOf u p v
