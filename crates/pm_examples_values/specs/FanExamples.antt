-- What is right for a fan, and what is not: rays of its maximal cones, their number, their dimensions, and what these
-- tell.
use Rattle.std.specs.Prelude.{ℕ, ◌≡◌, List, [], ◌∷◌, false, true}
use Rattle.pm_geom.specs.Examples.{half_line, square}
use Rattle.pm_object_type.specs.declared.object_type.ObjectType.TheVariants.{Fan}
use Rattle.pm_props.specs.declared.property.PropId.{PropId}
use Rattle.pm_props.specs.declared.property.PropId.TheVariants.{FanDim, MaximalCones, MaximalConesDims, NMaximalCones, Pure, Simplicial}
use Rattle.pm_examples_values.specs.ThingExamples.{FanHas, LineFanHas, both_rays, fan_of, fan_orders, no_objective, two_rays}
use Rattle.pm_types.specs.Right.{HasRays, IsDimOfCone, Right, cone_at}
use Rattle.pm_types.specs.Things.{Thing}
use Rattle.pm_types.specs.Values.{PropertyValue, counts, sets, truth, whole}
use lib.IntN.{pos, negsuc}

-- the same fan, with its cones in the other order
abbrev pub TurnedFanHas : PropId → PropertyValue → Type 0
TurnedFanHas p v = Right p v two_rays (fan_orders both_rays (1 ∷ 0 ∷ [])) []

pub record MaximalConesAreRead : Type 0 where
  -- each cone has its own ray
  pub sets_right : FanHas MaximalCones (sets ((0 ∷ []) ∷ (1 ∷ []) ∷ []) 2)
  pub turned : ¬ (FanHas MaximalCones (sets ((1 ∷ []) ∷ (0 ∷ []) ∷ []) 2))
  pub in_other_order : TurnedFanHas MaximalCones (sets ((1 ∷ []) ∷ (0 ∷ []) ∷ []) 2)
  pub ray_more : ¬ (FanHas MaximalCones (sets ((0 ∷ 1 ∷ []) ∷ (1 ∷ []) ∷ []) 2))
  pub ray_less : ¬ (FanHas MaximalCones (sets ([] ∷ (1 ∷ []) ∷ []) 2))
  -- a set for each cone, and as many columns as rays
  pub set_less : ¬ (FanHas MaximalCones (sets ((0 ∷ []) ∷ []) 2))
  pub set_more : ¬ (FanHas MaximalCones (sets ((0 ∷ []) ∷ (1 ∷ []) ∷ (1 ∷ []) ∷ []) 2))
  pub column_more : ¬ (FanHas MaximalCones (sets ((0 ∷ []) ∷ (1 ∷ []) ∷ []) 3))
  pub count : FanHas NMaximalCones (whole (pos 2))
  pub other_count : ¬ (FanHas NMaximalCones (whole (pos 1)))

-- a fan of two columns: the quadrant, and the ray of (-1,-1)
abbrev pub mixed : Thing
mixed = record {
  of = Fan;
  cols = 2;
  generators = [];
  lines = [];
  cones = half_line ∷ ((negsuc 0 ∷ negsuc 0 ∷ []) ∷ []) ∷ [];
  objective = no_objective;
  sites = [];
  heights = [];
}

-- the value is right for it, with its cones in this order
abbrev pub MixedHas : List ℕ → PropId → PropertyValue → Type 0
MixedHas places p v = Right p v mixed (fan_orders [] places) []

-- the fan of no cone
abbrev pub NoConeHas : PropId → PropertyValue → Type 0
NoConeHas p v = Right p v (fan_of [] []) (fan_orders [] []) []

pub record ConeDimsAreRead : Type 0 where
  -- of generators with the lines
  pub second : cone_at mixed 1 ≡ (negsuc 0 ∷ negsuc 0 ∷ []) ∷ []
  pub quadrant : IsDimOfCone mixed half_line 2
  pub not_a_ray : ¬ (IsDimOfCone mixed half_line 1)
  pub line : LineFanHas MaximalConesDims (counts (pos 1 ∷ []))
  pub lines_left_out : ¬ (LineFanHas MaximalConesDims (counts (pos 0 ∷ [])))
  -- in the order of the cones, a number for each
  pub dims : MixedHas (0 ∷ 1 ∷ []) MaximalConesDims (counts (pos 2 ∷ pos 1 ∷ []))
  pub in_other_order : MixedHas (1 ∷ 0 ∷ []) MaximalConesDims (counts (pos 1 ∷ pos 2 ∷ []))
  pub turned : ¬ (MixedHas (0 ∷ 1 ∷ []) MaximalConesDims (counts (pos 1 ∷ pos 2 ∷ [])))
  pub dim_less : ¬ (MixedHas (0 ∷ 1 ∷ []) MaximalConesDims (counts (pos 2 ∷ [])))
  pub dim_more : ¬ (MixedHas (0 ∷ 1 ∷ []) MaximalConesDims (counts (pos 2 ∷ pos 1 ∷ pos 1 ∷ [])))
  pub negative : ¬ (MixedHas (0 ∷ 1 ∷ []) MaximalConesDims (counts (pos 2 ∷ negsuc 0 ∷ [])))
  -- the greatest, which is one of them
  pub greatest : MixedHas (0 ∷ 1 ∷ []) FanDim (whole (pos 2))
  pub not_the_least : ¬ (MixedHas (0 ∷ 1 ∷ []) FanDim (whole (pos 1)))
  pub not_attained : ¬ (MixedHas (0 ∷ 1 ∷ []) FanDim (whole (pos 3)))
  -- of no cone it is -1
  pub none : NoConeHas FanDim (whole (negsuc 0))
  pub not_nought : ¬ (NoConeHas FanDim (whole (pos 0)))
  pub not_less : ¬ (NoConeHas FanDim (whole (negsuc 1)))
  pub some : ¬ (MixedHas (0 ∷ 1 ∷ []) FanDim (whole (negsuc 0)))
  -- all dimensions are one
  pub pure : FanHas Pure (truth true)
  pub not_impure : ¬ (FanHas Pure (truth false))
  pub impure : MixedHas (0 ∷ 1 ∷ []) Pure (truth false)
  pub not_pure : ¬ (MixedHas (0 ∷ 1 ∷ []) Pure (truth true))
  pub none_pure : NoConeHas Pure (truth true)

-- the cone over the unit square, as a fan
abbrev pub square_fan : Thing
square_fan = record (fan_of (square ∷ []) []) { cols = 3 }

abbrev pub SquareFanHas : PropId → PropertyValue → Type 0
SquareFanHas p v = Right p v square_fan (fan_orders square (0 ∷ [])) []

pub record SimplicialFansAreRead : Type 0 where
  -- as many rays as in an order of the extreme ones
  pub four : HasRays square_fan square 4
  pub not_three : ¬ (HasRays square_fan square 3)
  -- as many as the dimension is greater than that of the lineality
  pub rays : FanHas Simplicial (truth true)
  pub rays_untrue : ¬ (FanHas Simplicial (truth false))
  pub line : LineFanHas Simplicial (truth true)
  pub line_untrue : ¬ (LineFanHas Simplicial (truth false))
  pub over_square : SquareFanHas Simplicial (truth false)
  pub square_untrue : ¬ (SquareFanHas Simplicial (truth true))
