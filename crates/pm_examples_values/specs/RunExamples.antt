-- A cone of two rays, and a client that counts them: when it may run, what it may answer, and which of its runs are
-- sound.
use Rattle.std.specs.Prelude.{ℕ, None, Some, List, [], ◌∷◌, codes, true}
use Rattle.pm_geom.specs.Examples.{triple}
use Rattle.pm_client.specs.Sound.{IsSound}
use Rattle.pm_examples_values.specs.CanonicalExamples.{falling_rows, rising_rows}
use Rattle.pm_examples_values.specs.ConeExamples.{line_cone}
use Rattle.pm_examples_values.specs.RayExamples.{half_line_orders, line_orders}
use Rattle.pm_examples_values.specs.RowExamples.{half_cone, whole_matrix}
use Rattle.pm_geom.specs.Things.{Orders}
use Rattle.pm_object.specs.Reading.{DraftSeen, Put, ViewSeen}
use Rattle.pm_object_type.specs.declared.object_type.ObjectType.TheVariants.{Cone}
use Rattle.pm_props.specs.Kinds.{finding}
use Rattle.pm_props.specs.Sets.{set_of}
use Rattle.pm_props.specs.declared.kind.Kind.{Kind}
use Rattle.pm_props.specs.declared.property.PropId.{PropId}
use Rattle.pm_props.specs.declared.property.PropId.TheVariants.{ConeAmbientDim, Facets, InputLineality, LinealitySpace, MaximalFace, NVertices, Pointed, Points, Vertices}
use Rattle.pm_types.specs.Runs.{Keeps, MayAnswer, MayRun, Meets}
use Rattle.pm_types.specs.Values.{Fact, PropertyValue, counts, matrix, truth, whole}
use lib.IntN.{pos}

-- ---- clients
-- it counts the rays
abbrev pub counting : Kind
counting = finding (codes "n_vertices") (NVertices ∷ []) (Vertices ∷ [])

-- it counts those of pointed cones alone, or those of cones with a line alone
abbrev pub of_pointed : Kind
of_pointed = record counting { must = set_of (Pointed ∷ []) }

abbrev pub of_lines : Kind
of_lines = record counting { must_not = set_of (Pointed ∷ []) }

-- it finds a value of the one property from one of the other
abbrev pub from_one : PropId → PropId → Kind
from_one p q = finding (codes "one") (p ∷ []) (q ∷ [])

-- ---- facts
-- a value of the object itself
abbrev pub own : PropId → PropertyValue → Fact
own p v = record { place = None; property = p; value = v }

abbrev pub columns : Fact
columns = own ConeAmbientDim (whole (pos 2))

-- the rays (0,1) and (1,0)
abbrev pub rays : Fact
rays = own Vertices (whole_matrix 2 rising_rows)

abbrev pub ray_count : ℕ → Fact
ray_count k = own NVertices (whole (pos k))

abbrev pub pointed : Fact
pointed = own Pointed (truth true)

abbrev pub points : Fact
points = own Points (whole_matrix 2 rising_rows)

-- ---- when a client may run
-- the client that counts may run where these are held of a cone of n columns
abbrev pub MayCountIn : ℕ → List Fact → Type 0
MayCountIn n held = MayRun counting None n held

-- its sources and the column count are held, and the values stand where they may; its conditions are held so; and of
-- an order or a pair that it chooses nothing speaks
pub record RunsMayBegin : Type 0 where
  pub may_run : MayCountIn 2 (columns ∷ rays ∷ [])
  pub no_columns : ¬ (MayCountIn 2 (rays ∷ []))
  pub other_columns : ¬ (MayCountIn 3 (columns ∷ rays ∷ []))
  pub no_rays : ¬ (MayCountIn 2 (columns ∷ []))
  pub misplaced
      : ¬ (MayCountIn 2 (columns ∷ rays ∷ record { place = Some 0; property = Pointed; value = truth true }
      ∷ []))
  pub of_a_program : MayCountIn 2 (columns ∷ rays
      ∷ record { place = Some 0; property = MaximalFace; value = counts [] } ∷ [])
  pub condition : MayRun of_pointed None 2 (columns ∷ rays ∷ pointed ∷ [])
  pub not_held : ¬ (MayRun of_pointed None 2 (columns ∷ rays ∷ []))
  pub held_true : ¬ (MayRun of_lines None 2 (columns ∷ rays ∷ pointed ∷ []))
  -- RAYS may be chosen where no value speaks of their order, FACETS where none speaks of theirs
  pub chosen : MayRun (from_one Vertices Points) None 2 (columns ∷ points ∷ [])
  pub rays_speak : ¬ (MayRun (from_one Vertices Points) None 2 (columns ∷ points ∷ rays ∷ []))
  pub facets_speak
      : ¬ (MayRun (from_one Facets Points) None 2 (columns ∷ points ∷ own Facets (matrix 0 []) ∷ []))
  -- half of a pair is not found where the other is held
  pub generators_speak : ¬ (MayRun (from_one InputLineality Vertices) None 2 (columns ∷ rays ∷ points ∷ []))

-- the conditions of a client hold of the one cone and not of the other
pub record ConditionsAreMet : Type 0 where
  pub none : Meets counting line_cone line_orders
  pub pointed_cone : Meets of_pointed half_cone half_line_orders
  pub no_line : ¬ (Meets of_lines half_cone half_line_orders)
  pub cone_with_line : Meets of_lines line_cone line_orders
  pub not_pointed : ¬ (Meets of_pointed line_cone line_orders)

abbrev pub turned_rays : Orders
turned_rays = record half_line_orders { rays = falling_rows }

abbrev pub turned_facets : Orders
turned_facets = record half_line_orders { facets = falling_rows }

abbrev pub turned_cones : Orders
turned_cones = record half_line_orders { cones = 0 ∷ [] }

-- a client that finds RAYS from POINTS may choose their order and no other, and one that counts them none
pub record OrdersAreKept : Type 0 where
  pub chosen : Keeps (from_one Vertices Points) half_line_orders turned_rays
  pub facets : ¬ (Keeps (from_one Vertices Points) half_line_orders turned_facets)
  pub cones : ¬ (Keeps (from_one Vertices Points) half_line_orders turned_cones)
  pub kept : Keeps counting half_line_orders half_line_orders
  pub turned : ¬ (Keeps counting half_line_orders turned_rays)

-- ---- what a client may answer
-- the client that counts may answer so for a cone of two columns of which it has read the rays
abbrev pub MayCount : List Fact → Type 0
MayCount answer = MayAnswer Cone 2 counting None (rays ∷ []) answer

-- INPUT_LINEALITY without rows, with this column count
abbrev pub no_lines : ℕ → List Fact
no_lines n = own InputLineality (matrix n []) ∷ []

-- LINEALITY_SPACE of the line along (0,1,0), by its double
abbrev pub doubled : List Fact
doubled = own LinealitySpace (whole_matrix 3 (triple 0 2 0 ∷ [])) ∷ []

-- exactly the targets, where they stand, in their form, right and canonical
pub record AnswersAreJudged : Type 0 where
  pub counted : MayCount (ray_count 2 ∷ [])
  pub miscounted : ¬ (MayCount (ray_count 3 ∷ []))
  pub nothing : ¬ (MayCount [])
  pub twice : ¬ (MayCount (ray_count 2 ∷ ray_count 2 ∷ []))
  pub another : ¬ (MayCount (rays ∷ []))
  pub misplaced : ¬ (MayCount (record { place = Some 0; property = NVertices; value = whole (pos 2) } ∷ []))
  pub no_number : ¬ (MayCount (own NVertices (truth true) ∷ []))
  -- a matrix without rows states no columns
  pub no_rows : MayAnswer Cone 2 (from_one InputLineality Vertices) None (rays ∷ []) (no_lines 0)
  pub states_columns : ¬ (MayAnswer Cone 2 (from_one InputLineality Vertices) None (rays ∷ []) (no_lines 2))
  -- right wherever what was read is, and yet no echelon basis
  pub not_canonical : ¬ (MayAnswer Cone 3 (from_one LinealitySpace LinealitySpace) None doubled doubled)

-- the view that the client has of the cone
abbrev pub rays_seen : ViewSeen
rays_seen = record { of = Cone; cols = 2; kind = counting; sub = None; facts = rays ∷ [] }

-- a draft of the client, with these values
abbrev pub draft_of : List Put → DraftSeen
draft_of values = record { kind = counting; values = values }

abbrev pub put_count : ℕ → Put
put_count k = record { property = NVertices; value = whole (pos k) }

-- the draft has the number of the rays
pub record RunsAreJudged : Type 0 where
  pub counted : IsSound rays_seen (draft_of (put_count 2 ∷ []))
  pub miscounted : ¬ (IsSound rays_seen (draft_of (put_count 3 ∷ [])))
  pub nothing : ¬ (IsSound rays_seen (draft_of []))
