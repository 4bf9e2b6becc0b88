-- What fits by its size is answered: each wide client that fails only where something is lost fails for want of memory
-- or for a count (E5).
use Rattle.std.specs.Prelude.{ℕ, List, ◌<◌, ◌≡◌, ◌≤◌, ◌^◌}
use Rattle.std.specs.List.{All}
use Rattle.pm_client.specs.Fails.{IfOutOfRange}
use Rattle.pm_client.specs.declared.ClientFail.{ClientFail}
use Rattle.pm_client.specs.declared.ClientFail.TheVariants.{Memory}
use Rattle.pm_clients_fans.specs.Works.{FanFails}
use Rattle.pm_clients_fans.specs.declared.client.FanWork.TheVariants as fan
use Rattle.pm_clients_geom.specs.Hulls.{HullFails}
use Rattle.pm_clients_geom.specs.PlacedRays.{PlaceFails}
use Rattle.pm_clients_geom.specs.Stays.{DimFails, RowsFail}
use Rattle.pm_clients_geom.specs.Thinned.{ThinFails}
use Rattle.pm_clients_geom.specs.declared.dims.DimWork.TheVariants as dimension
use Rattle.pm_clients_geom.specs.declared.hulls.HullWork.TheVariants as hull
use Rattle.pm_clients_geom.specs.declared.placing.PlaceWork.TheVariants as place
use Rattle.pm_clients_geom.specs.declared.rows.RowsWork.TheVariants as rows
use Rattle.pm_clients_geom.specs.declared.thinning.ThinWork.TheVariants as thin
use Rattle.pm_clients_lift.specs.Works.{LiftFails}
use Rattle.pm_clients_lift.specs.declared.lifts.LiftWork.TheVariants as lift
use Rattle.pm_dd.specs.Lost.{PartsAreLost}
use Rattle.pm_minors.specs.Laws.{IsEnough, MinorsAreAtMost}
use Rattle.pm_minors.specs.Minors.{IsAtMost}
use Rattle.pm_object.specs.Reading.{ViewSeen}
use Rattle.pm_props.specs.declared.property.PropId.TheVariants.{AffineHull, Equations, Facets, Inequalities, InputLineality, LinealitySpace, Points, Vertices}
use Rattle.pm_vector.specs.Rows.{HasCols, Row}
use Rattle.pm_laws_fitting.specs.Sizes.{ConesFit, FitsBySize, IsSizeFor, LiftedFit, PartsFit, RaisedFit}

-- double description of at most k lines, or at most n, and of further rows is never lost where K is at least M and all
-- minors of k rows, and n rows of entries of at most K have minors in the range: with one line or none K is M
abbrev pub PartsAreNeverLostByCount : Type 0
PartsAreNeverLostByCount = (n M k K : ℕ) (L G : List Row) → 0 < M → HasCols n L → HasCols n G
    → All (IsAtMost M) L → All (IsAtMost M) G → IsEnough k n L → MinorsAreAtMost M k K → M ≤ K → IsSizeFor n K
    → ¬ (PartsAreLost n L G)

-- where the view fits, a client that fails so fails for want of memory, or for a count (E5)
abbrev pub FailsForCount : (ViewSeen → Type 0) → (ViewSeen → ClientFail → Type 0) → Type 0
FailsForCount Fits Fails = (v : ViewSeen) → Fits v → (f : ClientFail) → Fails v f → IfOutOfRange f ⊥

-- for want of memory alone
abbrev pub FailsForMemory : (ViewSeen → Type 0) → (ViewSeen → ClientFail → Type 0) → Type 0
FailsForMemory Fits Fails = (v : ViewSeen) → Fits v → (f : ClientFail) → Fails v f → f ≡ Memory

pub record WhatFitsIsAnswered : Type 0 where
  pub dd_vertices_wide : FailsForCount PartsFit (HullFails hull.DdVerticesWide)
  pub dd_facets_wide : FailsForCount PartsFit (HullFails hull.DdFacetsWide)
  pub dd_facets_v_wide : FailsForCount PartsFit (HullFails hull.DdFacetsVWide)
  pub dd_vertices_f_wide : FailsForCount PartsFit (HullFails hull.DdVerticesFWide)
  pub bb_facets_wide : FailsForCount PartsFit (PlaceFails place.BbFacetsWide)
  pub bb_facets_v_wide : FailsForCount PartsFit (PlaceFails place.BbFacetsVWide)
  pub placing_wide : FailsForCount PartsFit (PlaceFails place.PlacingWide)
  pub thin_points_f_wide : FailsForMemory (FitsBySize InputLineality Points) (ThinFails thin.ThinPointsFWide)
  pub thin_inequalities_v_wide
      : FailsForCount (FitsBySize Equations Inequalities) (ThinFails thin.ThinInequalitiesVWide)
  pub vertices_from_sets_wide : FailsForMemory (FitsBySize AffineHull Facets) (ThinFails thin.VerticesFromSetsWide)
  pub facets_from_sets_wide
      : FailsForMemory (FitsBySize LinealitySpace Vertices) (ThinFails thin.FacetsFromSetsWide)
  pub lineality_from_facets_wide
      : FailsForMemory (FitsBySize AffineHull Facets) (RowsFail rows.LinealityFromFacetsWide)
  pub hull_from_vertices_wide
      : FailsForMemory (FitsBySize LinealitySpace Vertices) (RowsFail rows.HullFromVerticesWide)
  pub cone_dim_v_wide : FailsForMemory (FitsBySize LinealitySpace Vertices) (DimFails dimension.ConeDimVWide)
  pub cone_dim_points_wide
      : FailsForMemory (FitsBySize InputLineality Points) (DimFails dimension.ConeDimPointsWide)
  pub fan_dims_wide : FailsForMemory ConesFit (FanFails fan.FanDimsWide)
  pub regular_cells_wide : FailsForCount LiftedFit (LiftFails lift.RegularCellsWide)
  pub delaunay_wide : FailsForCount RaisedFit (LiftFails lift.DelaunayWide)
