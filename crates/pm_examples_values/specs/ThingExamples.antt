-- What is a thing and what is none: columns, rows, first entries, objectives and fans.
use Rattle.std.specs.Prelude.{ℕ, List, [], ◌∷◌, replicate}
use Rattle.pm_vector.specs.Numbers.{Ratio}
use Rattle.pm_vector.specs.Rows.{Row}
use Rattle.pm_geom.specs.Examples.{half_line, pair, triple}
use Rattle.pm_types.specs.Things.{Thing, IsThing, AreOrders}
use Rattle.pm_geom.specs.Things.{Orders}
use Rattle.pm_object_type.specs.declared.object_type.ObjectType.TheVariants.{Cone, Fan, Polytope}
use Rattle.pm_examples_values.specs.RayExamples.{half_line_orders, half_line_thing, thing_of}
use Rattle.pm_examples_values.specs.RowExamples.{CutOutTogether, whole_matrix}
use Rattle.pm_types.specs.Right.{Right}
use Rattle.pm_types.specs.Values.{PropertyValue, sets}
use Rattle.pm_types.specs.Views.{over_one}
use Rattle.pm_props.specs.declared.property.PropId.{PropId}
use Rattle.pm_props.specs.declared.property.PropId.TheVariants.{InputLineality, Vertices, VerticesInFacets}
use lib.IntN.{ℤ, pos, negsuc}

-- the empty polytope in n columns
abbrev pub empty_of : ℕ → Thing
empty_of n = record {
  of = Polytope;
  cols = n;
  generators = [];
  lines = [];
  cones = [];
  objective = λ s. replicate n (over_one (pos 0));
  sites = [];
  heights = [];
}

-- a thing has from 1 to 33 columns
pub record ColumnsAreRead : Type 0 where
  pub one : IsThing (empty_of 1)
  pub most : IsThing (empty_of 33)
  pub none : ¬ (IsThing (empty_of 0))
  pub more : ¬ (IsThing (empty_of 34))

-- a point, and a row with a negative first entry
abbrev pub with_behind : List Row
with_behind = pair 1 0 ∷ (negsuc 0 ∷ pos 1 ∷ []) ∷ []

-- the objective 0 in two columns
abbrev pub no_objective : ℕ → List Ratio
no_objective s = over_one (pos 0) ∷ over_one (pos 0) ∷ []

-- a cone that lists itself as a cone of a fan
abbrev pub listing : Thing
listing = record {
  of = Cone;
  cols = 2;
  generators = half_line;
  lines = [];
  cones = half_line ∷ [];
  objective = no_objective;
  sites = [];
  heights = [];
}

-- the half line from 0, with the objective 1/-1, 0
abbrev pub half_line_over_negative : Thing
half_line_over_negative = record (thing_of Polytope 2 half_line [] (pair 1 2)) {
  objective = λ s.
      record { num = pos 1; den = negsuc 0 } ∷ over_one (pos 0) ∷ [];
}

-- objectives and rows have one entry a column, and denominators are positive; a cone may be over no polytope; only
-- fans list cones
pub record ThingsAreRead : Type 0 where
  pub objective : IsThing (thing_of Polytope 2 half_line [] (pair 1 2))
  pub shorter_objective : ¬ (IsThing (thing_of Polytope 2 half_line [] (pos 1 ∷ [])))
  pub negative_denominator : ¬ (IsThing half_line_over_negative)
  pub longer_objective : ¬ (IsThing (thing_of Polytope 2 half_line [] (triple 1 2 3)))
  pub longer_generator : ¬ (IsThing (thing_of Cone 2 (triple 1 0 0 ∷ []) [] (pair 1 2)))
  pub longer_line : ¬ (IsThing (thing_of Cone 2 [] (triple 1 0 0 ∷ []) (pair 1 2)))
  pub cone_with_behind : IsThing (thing_of Cone 2 with_behind [] (pair 1 2))
  pub behind : ¬ (IsThing (thing_of Polytope 2 with_behind [] (pair 1 2)))
  pub cone_of_ray : IsThing (thing_of Cone 2 (pair 0 1 ∷ []) [] (pair 1 2))
  pub no_vertex : ¬ (IsThing (thing_of Polytope 2 (pair 0 1 ∷ []) [] (pair 1 2)))
  pub listed_cones : ¬ (IsThing listing)

-- one row of one entry
abbrev pub single : ℤ → List Row
single k = (k ∷ []) ∷ []

-- the fan of these cones over the span of these lines, in one column
abbrev pub fan_of : List (List Row) → List Row → Thing
fan_of Gs L = record {
  of = Fan;
  cols = 1;
  generators = [];
  lines = L;
  cones = Gs;
  objective = λ s. over_one (pos 0) ∷ [];
  sites = [];
  heights = [];
}

-- the rays of 1 and of -1 as a fan
abbrev pub two_rays : Thing
two_rays = fan_of (single (pos 1) ∷ single (negsuc 0) ∷ []) []

-- a fan with a generator beside its cones
abbrev pub generated : Thing
generated = record {
  of = Fan;
  cols = 2;
  generators = half_line;
  lines = [];
  cones = [];
  objective = no_objective;
  sites = [];
  heights = [];
}

-- the cones of a fan are not included in one another, and have its lineality
pub record FansAreRead : Type 0 where
  pub rays : IsThing two_rays
  pub line : IsThing (fan_of ([] ∷ []) (single (pos 1)))
  pub no_cone : IsThing (fan_of [] [])
  pub twice : ¬ (IsThing (fan_of (single (pos 1) ∷ single (pos 2) ∷ []) []))
  pub included : ¬ (IsThing (fan_of ([] ∷ single (pos 1) ∷ []) []))
  pub more_lineality : ¬ (IsThing (fan_of (((pos 1 ∷ []) ∷ (negsuc 0 ∷ []) ∷ []) ∷ []) []))
  pub longer_row : ¬ (IsThing (fan_of ((pair 1 0 ∷ []) ∷ []) []))
  pub not_cut_out : ¬ (CutOutTogether (fan_of [] []) 1 [] [])
  pub with_generators : ¬ (IsThing generated)

-- orders of a fan: its rays, and its cones by their places
abbrev pub fan_orders : List Row → List ℕ → Orders
fan_orders V places = record { rays = V; facets = []; cones = places }

-- the rows (1), (-1)
abbrev pub both_rays : List Row
both_rays = (pos 1 ∷ []) ∷ (negsuc 0 ∷ []) ∷ []

-- the same orders, with facets
abbrev pub with_facets : Orders
with_facets = record { rays = both_rays; facets = both_rays; cones = 0 ∷ 1 ∷ [] }

-- orders of a fan have each ray once and each cone once, no others, and no facets
pub record FanOrdersAreRead : Type 0 where
  pub orders : AreOrders two_rays (fan_orders both_rays (0 ∷ 1 ∷ []))
  pub ray_missing : ¬ (AreOrders two_rays (fan_orders (single (pos 1)) (0 ∷ 1 ∷ [])))
  pub ray_twice : ¬ (AreOrders two_rays (fan_orders ((pos 2 ∷ []) ∷ both_rays) (0 ∷ 1 ∷ [])))
  pub not_a_ray : ¬ (AreOrders two_rays (fan_orders ((pos 0 ∷ []) ∷ both_rays) (0 ∷ 1 ∷ [])))
  pub cone_missing : ¬ (AreOrders two_rays (fan_orders both_rays (0 ∷ [])))
  pub cone_twice : ¬ (AreOrders two_rays (fan_orders both_rays (0 ∷ 1 ∷ 0 ∷ [])))
  pub no_such_cone : ¬ (AreOrders two_rays (fan_orders both_rays (0 ∷ 1 ∷ 2 ∷ [])))
  pub facets : ¬ (AreOrders two_rays with_facets)

-- the orders of the half line, with a place of a cone
abbrev pub with_cone : Orders
with_cone = record { rays = half_line; facets = half_line; cones = 0 ∷ [] }

-- orders of a cone have no places of cones
pub record ConeOrdersAreRead : Type 0 where
  pub none : AreOrders half_line_thing half_line_orders
  pub listed : ¬ (AreOrders half_line_thing with_cone)

-- the value is right for the fan of two rays
abbrev pub FanHas : PropId → PropertyValue → Type 0
FanHas p v = Right p v two_rays (fan_orders both_rays (0 ∷ 1 ∷ [])) []

-- the line, as a fan of one cone
abbrev pub line_fan : Thing
line_fan = fan_of ([] ∷ []) (single (pos 1))

-- the value is right for the line
abbrev pub LineFanHas : PropId → PropertyValue → Type 0
LineFanHas p v = Right p v line_fan (fan_orders [] (0 ∷ [])) []

-- the rays of a fan in their order, up to positive scale; its lineality; it has no facets
pub record FanValuesAreRead : Type 0 where
  pub rays : FanHas Vertices (whole_matrix 1 ((pos 2 ∷ []) ∷ (negsuc 2 ∷ []) ∷ []))
  pub turned : ¬ (FanHas Vertices (whole_matrix 1 ((negsuc 2 ∷ []) ∷ (pos 2 ∷ []) ∷ [])))
  pub no_line : ¬ (FanHas InputLineality (whole_matrix 1 (single (pos 1))))
  pub line : LineFanHas InputLineality (whole_matrix 1 (single (pos 2)))
  pub no_facets : FanHas VerticesInFacets (sets [] 2)
  pub no_sets : ¬ (FanHas VerticesInFacets (sets ((0 ∷ []) ∷ []) 2))
