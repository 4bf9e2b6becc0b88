-- The definition of what is held alone, read on small sets: what is, and what is not.
use Rattle.std.specs.Prelude.{◌≡◌, None, Some, codes, map, true, false, List, [], ◌∷◌}
use Rattle.std.specs.List.{Contains}
use Rattle.pm_object_type.specs.declared.object_type.ObjectType.TheVariants.{Cone, Polytope}
use Rattle.pm_props.specs.declared.property.PropId.{PropId}
use Rattle.pm_props.specs.declared.property.PropId.TheVariants.{AffineHull, ConeAmbientDim, ConeDim, DelaunayCells, Facets, FarFace, FVector, Graph, Inequalities, InputLineality, LinealitySpace, LinearObjective, MaximalValue, Points, RegularCells, SiteHeights, Sites, Vertices}
use Rattle.pm_client.specs.Starts.{Clients}
use Rattle.pm_rounds.specs.Chains.{held_names}
use Rattle.pm_rounds.specs.Events.{configuration}
use Rattle.pm_object.specs.State.{HeldValue, State}
use Rattle.pm_object.specs.declared.held.Origin.TheVariants.{Given}
use Rattle.pm_standard.specs.Table.{standard_clients, standard_kind}
use Rattle.pm_props.specs.declared.set.PropSet.{PropSet}
use Rattle.pm_types.specs.Values.{PropertyValue, matrix, whole}
use Rattle.pm_types.specs.Views.{ratios}
use Rattle.pm_laws_complete.specs.Objects.{BarsNothing}
use lib.IntN.{pos}
use Rattle.pm_props.specs.Sets.{has, set_of}
use Rattle.pm_laws_complete.specs.Completeness.{HoldsAlone, HoldsNeeds, HoldsObjective, descriptions, is_tagged, names_for}

-- a value that was given
abbrev pub held_value : PropId → PropertyValue → HeldValue
held_value p v = record { place = None; property = p; value = v; origin = Given }

-- by points
abbrev pub by_points : PropId × PropId
by_points = (Points, InputLineality)

-- POINTS, INPUT_LINEALITY, the column count, and these
abbrev pub points_and : List PropId → PropSet
points_and ps = set_of (ConeAmbientDim ∷ Points ∷ InputLineality ∷ ps)

pub record DescriptionsAreRead : Type 0 where
  pub vertices : Contains descriptions (Vertices, LinealitySpace)
  pub no_halves : ¬ (Contains descriptions (Points, LinealitySpace))
  -- orders and halves of descriptions have tags; dimensions, counts, the lineality and the affine hull have none
  pub graph : is_tagged Graph ≡ true
  pub facets : is_tagged Facets ≡ true
  pub points : is_tagged Points ≡ true
  pub inequalities : is_tagged Inequalities ≡ true
  pub dimension : is_tagged ConeDim ≡ false
  pub lineality : is_tagged LinealitySpace ≡ false
  pub hull : is_tagged AffineHull ≡ false
  -- what has no tag may be held beside a description, and no graph may
  pub alone : HoldsAlone by_points (points_and [])
  pub with_counts : HoldsAlone by_points (points_and (ConeDim ∷ FVector ∷ []))
  pub with_graph : ¬ (HoldsAlone by_points (points_and (Graph ∷ [])))
  pub without_second : ¬ (HoldsAlone by_points (set_of (ConeAmbientDim ∷ Points ∷ [])))
  pub without_columns : ¬ (HoldsAlone by_points (set_of (Points ∷ InputLineality ∷ [])))
  -- the table of polytopes has FAR_FACE, and that of cones does not
  pub of_polytopes : has (names_for None Polytope) FarFace ≡ true
  pub of_cones : has (names_for None Cone) FarFace ≡ false
  -- where a program is asked there are its values too, and its objective has to be held
  pub of_programs : has (names_for (Some 0) Polytope) MaximalValue ≡ true
  pub not_of_polytopes : has (names_for None Polytope) MaximalValue ≡ false
  pub objective : HoldsObjective (Some 0) (points_and (LinearObjective ∷ []))
  pub no_objective : ¬ (HoldsObjective (Some 0) (points_and []))
  pub none_asked : HoldsObjective None (points_and [])
  -- cells are found of sites that are held, and regular ones of heights too; the other properties need nothing
  pub with_heights : HoldsNeeds RegularCells (points_and (Sites ∷ SiteHeights ∷ []))
  pub without_heights : ¬ (HoldsNeeds RegularCells (points_and (Sites ∷ [])))
  pub delaunay : HoldsNeeds DelaunayCells (points_and (Sites ∷ []))
  pub without_sites : ¬ (HoldsNeeds DelaunayCells (points_and (SiteHeights ∷ [])))
  pub no_need : HoldsNeeds FVector (points_and [])

-- the segment from 0 to 1 by its points, after it was settled
abbrev pub segment : State
segment = record {
  of = Polytope;
  held = held_value ConeAmbientDim (whole (pos 2))
      ∷ held_value Points (matrix 2 (ratios (pos 1 ∷ pos 0 ∷ []) ∷ ratios (pos 1 ∷ pos 1 ∷ []) ∷ []))
      ∷ held_value InputLineality (matrix 0 []) ∷ [];
  excluded = [];
  rounds = [];
  disabled = [];
  programs = [];
}

-- the standard clients, none of them started yet
abbrev pub all_clients : Clients
all_clients = map (λ c. (standard_kind c, 0)) standard_clients

pub record ObjectsAreRead : Type 0 where
  pub alone : HoldsAlone by_points (held_names None segment)
  -- nothing is barred, until a label is disabled or a client is missing
  pub free : BarsNothing None (configuration segment all_clients)
  pub disabled
      : ¬ (BarsNothing None
      (configuration (record segment { disabled = codes "dd_facets" ∷ [] }) all_clients))
  pub no_clients : ¬ (BarsNothing None (configuration segment []))
  -- nor for a program of it
  pub free_for_programs : BarsNothing (Some 0) (configuration segment all_clients)
