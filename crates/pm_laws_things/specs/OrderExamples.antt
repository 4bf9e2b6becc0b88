-- The orders of the half line, and what is right in some of them and not in all.
use Rattle.pm_geom.specs.Examples.{edges, half_line, pair, square, triple}
use Rattle.pm_geom.specs.Things.{Orders}
use Rattle.pm_laws_things.specs.Orders.{HasEdges, HasRayDiameter, InAllOrders, SpeaksOfNoOrder}
use Rattle.pm_object_type.specs.declared.object_type.ObjectType.TheVariants.{Polytope}
use Rattle.pm_props.specs.declared.property.PropId.TheVariants.{Facets, FanDim, FarFace, MaximalCones, NVertices, Simple}
use Rattle.pm_types.specs.Right.{InSomeOrders, Right}
use Rattle.pm_types.specs.Things.{AreOrders, Thing}
use Rattle.pm_types.specs.Values.{counts}
use Rattle.pm_types.specs.Views.{ratios}
use Rattle.std.specs.Prelude.{[], ◌∷◌}
use lib.IntN.{pos}

-- the half line from 0, as a polytope
abbrev pub half_line_thing : Thing
half_line_thing = record {
  of = Polytope;
  cols = 2;
  generators = half_line;
  lines = [];
  cones = [];
  objective = λ s. ratios (pair 0 0);
  sites = [];
  heights = [];
}

-- its far face is the ray in the first place
abbrev pub FirstIsFar : Orders → Type 0
FirstIsFar o = Right FarFace (counts (pos 0 ∷ [])) half_line_thing o []

pub record OrdersAreRead : Type 0 where
  -- so it is where the ray (0, 1) stands first, and not where the vertex does
  pub in_some : InSomeOrders half_line_thing FirstIsFar
  pub not_in_all : ¬ (InAllOrders half_line_thing FirstIsFar)
  -- a number and a truth value speak of no order, nor does the dimension of a fan
  pub number : SpeaksOfNoOrder NVertices
  pub truth : SpeaksOfNoOrder Simple
  pub fan : SpeaksOfNoOrder FanDim
  -- the far face speaks of rays, facets of facets, and the cones of a fan of both
  pub of_rays : ¬ (SpeaksOfNoOrder FarFace)
  pub of_facets : ¬ (SpeaksOfNoOrder Facets)
  pub of_cones : ¬ (SpeaksOfNoOrder MaximalCones)

-- ---- the square
-- the unit square, with its vertices and edges in their orders
abbrev pub square_thing : Thing
square_thing = record {
  of = Polytope;
  cols = 3;
  generators = square;
  lines = [];
  cones = [];
  objective = λ s. ratios (triple 0 0 0);
  sites = [];
  heights = [];
}

abbrev pub square_orders : Orders
square_orders = record { rays = square; facets = edges; cones = [] }

pub record SquareGraphsAreRead : Type 0 where
  pub orders : AreOrders square_thing square_orders
  -- it has four edges, in these orders and in all, and not three
  pub four : HasEdges square_thing 4 square_orders
  pub four_in_all : InAllOrders square_thing (HasEdges square_thing 4)
  pub not_three : ¬ (HasEdges square_thing 3 square_orders)
  -- two steps join any two vertices, and one does not
  pub two_steps : HasRayDiameter square_thing 2 square_orders
  pub two_in_all : InAllOrders square_thing (HasRayDiameter square_thing 2)
  pub not_one : ¬ (HasRayDiameter square_thing 1 square_orders)
