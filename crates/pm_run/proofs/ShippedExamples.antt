-- The examples of the clients of the program: where a view has no values, none of what is told of them holds.
use Rattle.pm_clients_comb.specs.Works.{SetsFail, SetsStay}
use Rattle.pm_clients_comb.specs.declared.client.SetsWork.TheVariants as sets
use Rattle.pm_clients_faces.specs.Works.{FacesFail, FacesStay}
use Rattle.pm_clients_faces.specs.declared.client.FacesWork.TheVariants as faces
use Rattle.pm_clients_fans.specs.Works.{FanFails, FanStays}
use Rattle.pm_clients_fans.specs.declared.client.FanWork.TheVariants as fan
use Rattle.pm_clients_geom.specs.Hulls.{HullFails}
use Rattle.pm_clients_geom.specs.PlacedRays.{PlaceFails}
use Rattle.pm_clients_geom.specs.Redundancy.{RedundancyFails}
use Rattle.pm_clients_geom.specs.Stays.{DimFails, DimStays, RowsFail, RowsStay}
use Rattle.pm_clients_geom.specs.Thinned.{ThinFails}
use Rattle.pm_clients_geom.specs.declared.dims.DimWork.TheVariants as dimension
use Rattle.pm_clients_geom.specs.declared.hulls.HullWork.TheVariants as hull
use Rattle.pm_clients_geom.specs.declared.placing.PlaceWork.TheVariants as place
use Rattle.pm_clients_geom.specs.declared.redundancy.RedundancyWork.TheVariants as redundancy
use Rattle.pm_clients_geom.specs.declared.rows.RowsWork.TheVariants as rows
use Rattle.pm_clients_geom.specs.declared.thinning.ThinWork.TheVariants as thin
use Rattle.pm_clients_lift.specs.Works.{LiftFails}
use Rattle.pm_clients_lift.specs.declared.lifts.LiftWork.TheVariants as lift
use Rattle.pm_clients_lp.specs.Clients.{LinearFails}
use Rattle.pm_clients_lp.specs.declared.family.LpWork.TheVariants as program
use Rattle.pm_props.specs.declared.kind.Kind.{Kind}
use Rattle.pm_run.specs.Shipped.{shipped_client}
use Rattle.pm_run.specs.ShippedExamples.{AnswersAreShipped, ClientsAreShipped, FailuresAreShipped, KindsAreShipped, blank, crowded, nameless, nothing}
use Rattle.pm_run.specs.declared.shipped.ShippedWork.{ShippedWork}
use Rattle.pm_simplex.specs.declared.sense.Sense.TheVariants.{Maximal}
use Rattle.pm_standard.specs.Table.{standard_kind}
use Rattle.pm_standard.specs.declared.standard.StandardClient.{StandardClient}
use Rattle.pm_standard.specs.declared.standard.StandardClient.TheVariants as client
use Rattle.std.proofs.Common.{ap, refl, sym, true≢false, ◌∙◌}
use Rattle.std.specs.Prelude.{None, Some, false, length, nat_eq, ◌≡◌}

-- ---- each client has a name
named : (c : StandardClient) → nat_eq (length (standard_kind c).name) 0 ≡ false
named client.DdVertices = refl
named client.DdFacets = refl
named client.DdFacetsV = refl
named client.DdVerticesF = refl
named client.ThinPointsLp = refl
named client.ThinInequalitiesLp = refl
named client.ThinPointsF = refl
named client.ThinInequalitiesV = refl
named client.VerticesFromSets = refl
named client.FacetsFromSets = refl
named client.PointsFromVertices = refl
named client.InequalitiesFromFacets = refl
named client.LinealityFromFacets = refl
named client.HullFromVertices = refl
named client.ConeDimV = refl
named client.ConeDimSpan = refl
named client.ConeDimPoints = refl
named client.LinealityDim = refl
named client.CombinatorialDim = refl
named client.NVertices = refl
named client.NVerticesSets = refl
named client.NFacets = refl
named client.NFacetsSets = refl
named client.Feasible = refl
named client.FeasibleLp = refl
named client.Bounded = refl
named client.FarFace = refl
named client.Pointed = refl
named client.FullDim = refl
named client.Centered = refl
named client.Incidence = refl
named client.VertexSizes = refl
named client.FacetSizes = refl
named client.Simple = refl
named client.Simplicial = refl
named client.Faces = refl
named client.FVector = refl
named client.F2Vector = refl
named client.HVector = refl
named client.GraphOfSets = refl
named client.GraphOfFaces = refl
named client.DualGraph = refl
named client.VertexDegrees = refl
named client.Diameter = refl
named client.DualDiameter = refl
named client.NEdges = refl
named client.NRidges = refl
named client.LpMax = refl
named client.LpMin = refl
named client.LpMaxRows = refl
named client.LpMinRows = refl
named client.LpMaxV = refl
named client.LpMinV = refl
named client.LpMaxFace = refl
named client.LpMinFace = refl
named client.FanDims = refl
named client.FanDim = refl
named client.FanPure = refl
named client.FanSimplicial = refl
named client.FanSize = refl
named client.BbFacets = refl
named client.BbFacetsV = refl
named client.Placing = refl
named client.RegularCells = refl
named client.Delaunay = refl
named client.DdVerticesWide = refl
named client.DdFacetsWide = refl
named client.DdFacetsVWide = refl
named client.DdVerticesFWide = refl
named client.ThinPointsLpWide = refl
named client.ThinInequalitiesLpWide = refl
named client.ThinPointsFWide = refl
named client.ThinInequalitiesVWide = refl
named client.VerticesFromSetsWide = refl
named client.FacetsFromSetsWide = refl
named client.LinealityFromFacetsWide = refl
named client.HullFromVerticesWide = refl
named client.ConeDimVWide = refl
named client.ConeDimPointsWide = refl
named client.FeasibleLpWide = refl
named client.IncidenceWide = refl
named client.LpMaxWide = refl
named client.LpMinWide = refl
named client.LpMaxRowsWide = refl
named client.LpMinRowsWide = refl
named client.LpMaxVWide = refl
named client.LpMinVWide = refl
named client.LpMaxFaceWide = refl
named client.LpMinFaceWide = refl
named client.FanDimsWide = refl
named client.BbFacetsWide = refl
named client.BbFacetsVWide = refl
named client.PlacingWide = refl
named client.RegularCellsWide = refl
named client.DelaunayWide = refl

of_no_kind : (w : ShippedWork) → standard_kind (shipped_client w) ≡ nameless → ⊥
of_no_kind w is = true≢false (sym (ap (λ (k : Kind). nat_eq (length k.name) 0) is) ∙ named (shipped_client w))

pub kinds_are_shipped : KindsAreShipped
kinds_are_shipped = record {
  none_answers = λ d h. of_no_kind h.0 h.1;
  none_fails = λ e h. of_no_kind h.0 h.1;
}

pub clients_are_shipped : ClientsAreShipped
clients_are_shipped = record { many = refl; unstarted = (_, refl) }

-- ---- no value is read: what each family says then, by itself
none_read : {A : Type 0} {x : A} → None ≡ Some x → ⊥
none_read e = cc

copied : RowsStay rows.PointsFromVertices blank nothing → ⊥
copied h = none_read h.0.reads

spanned : RowsStay rows.LinealityFromFacets blank nothing → ⊥
spanned h = none_read h.0.listed.reads_first

measured : DimStays dimension.ConeDimV blank → ⊥
measured h = none_read h.listed.reads_first

met : SetsStay sets.Incidence blank → ⊥
met h = none_read h.reads_facets

closed : FacesStay faces.Faces blank → ⊥
closed h = none_read h.reads

fanned : FanStays fan.FanDims blank → ⊥
fanned h = none_read h.read.reads

hull_fails : HullFails hull.DdVertices blank crowded → ⊥
hull_fails h = none_read h.reads

redundancy_fails : RedundancyFails redundancy.ThinPointsLp blank crowded → ⊥
redundancy_fails h = none_read h.reads

feasible_fails : RedundancyFails redundancy.FeasibleLp blank crowded → ⊥
feasible_fails h = none_read h.read.reads_first

thinning_fails : ThinFails thin.ThinPointsF blank crowded → ⊥
thinning_fails h = none_read h.reads

rows_fail : RowsFail rows.LinealityFromFacets blank crowded → ⊥
rows_fail h = none_read h.0.reads

dimension_fails : DimFails dimension.ConeDimV blank crowded → ⊥
dimension_fails h = none_read h.0.reads

sets_fail : SetsFail sets.Incidence blank crowded → ⊥
sets_fail h = none_read h.reads

faces_fail : FacesFail faces.Faces blank crowded → ⊥
faces_fail h = none_read h.reads

linear_fails : LinearFails (program.OverRows Maximal) blank crowded → ⊥
linear_fails h = none_read h.read.reads_first

fan_fails : FanFails fan.FanDims blank crowded → ⊥
fan_fails h = none_read h.0.reads

placing_fails : PlaceFails place.Placing blank crowded → ⊥
placing_fails h = none_read h.reads

lifting_fails : LiftFails lift.Delaunay blank crowded → ⊥
lifting_fails h = none_read h.reads

pub answers_are_shipped : AnswersAreShipped
answers_are_shipped = record {
  copies = copied;
  null_spaces = spanned;
  dimensions = measured;
  incidences = met;
  faces = closed;
  fans = fanned;
  wide_incidences = tt;
  counts = λ w. tt;
}

pub failures_are_shipped : FailuresAreShipped
failures_are_shipped = record {
  hulls = hull_fails;
  redundant = redundancy_fails;
  feasible = feasible_fails;
  thinned = thinning_fails;
  null_spaces = rows_fail;
  dimensions = dimension_fails;
  incidences = sets_fail;
  faces = faces_fail;
  optima = linear_fails;
  fans = fan_fails;
  placed = placing_fails;
  lifted = lifting_fails;
  in_want = tt;
  copies = λ v e h. cc;
  wide_incidences = λ v e h. cc;
  sizes = λ w v e h. cc;
  truths = λ w v e h. cc;
  graphs = λ w v e h. cc;
}
