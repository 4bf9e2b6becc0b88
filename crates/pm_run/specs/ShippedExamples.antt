-- What the clients of the program say of themselves, read on a view without values: which of them may answer there, and
-- how each may fail.
use Rattle.pm_client.specs.Starts.{Clients}
use Rattle.pm_client.specs.declared.ClientFail.{ClientFail}
use Rattle.pm_client.specs.declared.ClientFail.TheVariants.{Failed, Memory}
use Rattle.pm_clients_comb.specs.declared.client.SetsWork.TheVariants as sets
use Rattle.pm_clients_counts.specs.declared.sizes.SizeWork.{SizeWork}
use Rattle.pm_clients_counts.specs.declared.truths.TestWork.{TestWork}
use Rattle.pm_clients_faces.specs.declared.client.FacesWork.TheVariants as faces
use Rattle.pm_clients_fans.specs.declared.client.FanWork.TheVariants as fan
use Rattle.pm_clients_geom.specs.declared.dims.DimWork.TheVariants as dimension
use Rattle.pm_clients_geom.specs.declared.hulls.HullWork.TheVariants as hull
use Rattle.pm_clients_geom.specs.declared.placing.PlaceWork.TheVariants as place
use Rattle.pm_clients_geom.specs.declared.redundancy.RedundancyWork.TheVariants as redundancy
use Rattle.pm_clients_geom.specs.declared.rows.RowsWork.TheVariants as rows
use Rattle.pm_clients_geom.specs.declared.thinning.ThinWork.TheVariants as thin
use Rattle.pm_clients_graph.specs.declared.client.GraphWork.{GraphWork}
use Rattle.pm_clients_lift.specs.declared.lifts.LiftWork.TheVariants as lift
use Rattle.pm_clients_lp.specs.declared.family.LpWork.TheVariants as program
use Rattle.pm_geom.specs.declared.evidence.Evidence.{Evidence}
use Rattle.pm_geom.specs.declared.evidence.Evidence.TheVariants.{E5Faces}
use Rattle.pm_object.specs.Reading.{DraftSeen, ViewSeen}
use Rattle.pm_object_type.specs.declared.object_type.ObjectType.TheVariants.{Polytope}
use Rattle.pm_props.specs.Kinds.{finding}
use Rattle.pm_props.specs.declared.kind.Kind.{Kind}
use Rattle.pm_run.specs.Shipped.{ShippedFails, ShippedStays, shipped, shipped_clients}
use Rattle.pm_run.specs.declared.shipped.ShippedWork.TheVariants as work
use Rattle.pm_simplex.specs.declared.sense.Sense.TheVariants.{Maximal}
use Rattle.pm_standard.specs.Table.{standard_kind}
use Rattle.pm_standard.specs.declared.standard.StandardClient.TheVariants as client
use Rattle.std.specs.Prelude.{None, [], length, ◌∷◌, ◌≡◌}

-- a kind of no name, which no client has
abbrev pub nameless : Kind
nameless = finding [] [] []

-- a view of a polytope in the plane, without values
abbrev pub blank : ViewSeen
blank = record { of = Polytope; cols = 3; kind = nameless; sub = None; facts = [] }

-- nothing was put
abbrev pub nothing : DraftSeen
nothing = record { kind = nameless; values = [] }

-- evidence of too many faces, which names none
abbrev pub crowded : ClientFail
crowded = Failed (E5Faces [])

-- there are 95 clients, of which the first one, dd_vertices, was not started
pub record ClientsAreShipped : Type 0 where
  pub many : length shipped_clients ≡ 95
  pub unstarted : (rest : Clients) × (shipped_clients ≡ (standard_kind client.DdVertices, 0) ∷ rest)

-- Where no values are read, those do not answer that tell what they read: that each copied row is put, that the numbers
-- on the way stay in the range, that the faces are few.
pub record AnswersAreShipped : Type 0 where
  pub copies : ¬ (ShippedStays (work.Rows rows.PointsFromVertices) blank nothing)
  pub null_spaces : ¬ (ShippedStays (work.Rows rows.LinealityFromFacets) blank nothing)
  pub dimensions : ¬ (ShippedStays (work.Dim dimension.ConeDimV) blank nothing)
  pub incidences : ¬ (ShippedStays (work.Sets sets.Incidence) blank nothing)
  pub faces : ¬ (ShippedStays (work.Faces faces.Faces) blank nothing)
  pub fans : ¬ (ShippedStays (work.Fan fan.FanDims) blank nothing)
  -- wide ones tell nothing of it, nor do counts
  pub wide_incidences : ShippedStays (work.Sets sets.IncidenceWide) blank nothing
  pub counts : (w : SizeWork) → ShippedStays (work.Size w) blank nothing

-- Where no values are read, no evidence holds; some fail with none, whatever they read.
pub record FailuresAreShipped : Type 0 where
  pub hulls : ¬ (ShippedFails (work.Hull hull.DdVertices) blank crowded)
  pub redundant : ¬ (ShippedFails (work.Redundancy redundancy.ThinPointsLp) blank crowded)
  pub feasible : ¬ (ShippedFails (work.Redundancy redundancy.FeasibleLp) blank crowded)
  pub thinned : ¬ (ShippedFails (work.Thin thin.ThinPointsF) blank crowded)
  pub null_spaces : ¬ (ShippedFails (work.Rows rows.LinealityFromFacets) blank crowded)
  pub dimensions : ¬ (ShippedFails (work.Dim dimension.ConeDimV) blank crowded)
  pub incidences : ¬ (ShippedFails (work.Sets sets.Incidence) blank crowded)
  pub faces : ¬ (ShippedFails (work.Faces faces.Faces) blank crowded)
  pub optima : ¬ (ShippedFails (work.Lp (program.OverRows Maximal)) blank crowded)
  pub fans : ¬ (ShippedFails (work.Fan fan.FanDims) blank crowded)
  pub placed : ¬ (ShippedFails (work.Place place.Placing) blank crowded)
  pub lifted : ¬ (ShippedFails (work.Lift lift.Delaunay) blank crowded)
  -- for want of memory they may
  pub in_want : ShippedFails (work.Hull hull.DdVertices) blank Memory
  -- with evidence never
  pub copies : (v : ViewSeen) (e : Evidence) → ¬ (ShippedFails (work.Rows rows.PointsFromVertices) v (Failed e))
  pub wide_incidences : (v : ViewSeen) (e : Evidence) → ¬ (ShippedFails (work.Sets sets.IncidenceWide) v (Failed e))
  pub sizes : (w : SizeWork) (v : ViewSeen) (e : Evidence) → ¬ (ShippedFails (work.Size w) v (Failed e))
  pub truths : (w : TestWork) (v : ViewSeen) (e : Evidence) → ¬ (ShippedFails (work.Test w) v (Failed e))
  pub graphs : (w : GraphWork) (v : ViewSeen) (e : Evidence) → ¬ (ShippedFails (work.Graph w) v (Failed e))

-- of a view of a kind that no client has nothing is answered, and nothing fails
pub record KindsAreShipped : Type 0 where
  pub none_answers : (d : DraftSeen) → ¬ (shipped.Gives blank d)
  pub none_fails : (e : ClientFail) → ¬ (shipped.Fails blank e)
