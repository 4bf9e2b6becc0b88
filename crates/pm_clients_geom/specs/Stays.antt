-- Where a client answers, and how it fails otherwise.
use Rattle.pm_client.specs.Fails.{IfFailed}
use Rattle.pm_client.specs.Sound.{EliminatesExtended, EliminatesRows, FailsRightly, ReadsMatrix}
use Rattle.pm_client.specs.declared.ClientFail.{ClientFail}
use Rattle.pm_client.specs.declared.ClientFail.TheVariants.{Memory}
use Rattle.pm_vector.specs.Numbers.{Ratio}
use Rattle.pm_clients_geom.specs.Lists.{IsLostExtendedList, IsLostList, StaysInRange}
use Rattle.pm_types.specs.Parts.{cols_over}
use Rattle.pm_clients_geom.specs.declared.dims.DimWork.{DimWork}
use Rattle.pm_clients_geom.specs.declared.dims.DimWork.TheVariants as dimension
use Rattle.pm_clients_geom.specs.declared.rows.RowsWork.{RowsWork}
use Rattle.pm_clients_geom.specs.declared.rows.RowsWork.TheVariants as rows
use Rattle.pm_vector.specs.declared.evidence.ElimList.TheVariants as list
use Rattle.pm_object.specs.Reading.{DraftSeen, ViewSeen, drafted}
use Rattle.pm_props.specs.declared.property.PropId.TheVariants.{AffineHull, Equations, Facets, Inequalities, InputLineality, LinealitySpace, Points, Vertices}
use Rattle.pm_props.specs.declared.property.PropId.{PropId}
use Rattle.pm_types.specs.Values.{matrix}
use Rattle.std.specs.Prelude.{List, Some, ℕ, ◌≡◌}

-- where a client answers that finds a dimension, the elimination of its row list never leaves the range; a client
-- that eliminates nothing has no such list, and a wide one answers also where it does
abbrev pub DimStays : DimWork → ViewSeen → Type 0
DimStays dimension.ConeDimV v = StaysInRange v LinealitySpace Vertices list.Rows
DimStays dimension.ConeDimPoints v = StaysInRange v InputLineality Points list.Rows
DimStays w v = Unit {0}

-- such a client that eliminates rows fails for want of memory or with evidence that holds of the view, of its rows as
-- they stand, and a wide one with evidence only where the elimination is lost by wide numbers too; another for want of
-- memory alone
abbrev pub DimFails : DimWork → ViewSeen → ClientFail → Type 0
DimFails dimension.ConeDimV v e = FailsRightly v e × EliminatesRows e
DimFails dimension.ConeDimPoints v e = FailsRightly v e × EliminatesRows e
DimFails dimension.ConeDimVWide v e = FailsRightly v e × IfFailed e (IsLostList v LinealitySpace Vertices)
DimFails dimension.ConeDimPointsWide v e = FailsRightly v e × IfFailed e (IsLostList v InputLineality Points)
DimFails w v e = e ≡ Memory

-- what is put of q are the rows of p that are read, each once and in their order
pub record RepeatsRows (v : ViewSeen) (p q : PropId) (d : DraftSeen) : Type 0 where
  pub cols : ℕ
  pub rows : List (List Ratio)
  pub reads : ReadsMatrix v p cols rows
  pub put : drafted q d.values ≡ Some (matrix (cols_over cols rows) rows)

-- where a client answers that finds one description from its twin, it repeats the rows; where it finds a null space,
-- the elimination of its row list, and of the extended list, never leaves the range; a wide one answers also where
-- one does
abbrev pub RowsStay : RowsWork → ViewSeen → DraftSeen → Type 0
RowsStay rows.PointsFromVertices v d = RepeatsRows v Vertices Points d
    × RepeatsRows v LinealitySpace InputLineality d
RowsStay rows.InequalitiesFromFacets v d = RepeatsRows v Facets Inequalities d
    × RepeatsRows v AffineHull Equations d
RowsStay rows.LinealityFromFacets v d = StaysInRange v AffineHull Facets list.Rows
    × StaysInRange v AffineHull Facets list.Extended
RowsStay rows.HullFromVertices v d = StaysInRange v LinealitySpace Vertices list.Rows
    × StaysInRange v LinealitySpace Vertices list.Extended
RowsStay rows.LinealityFromFacetsWide v d = Unit {0}
RowsStay rows.HullFromVerticesWide v d = Unit {0}

-- such a client fails for want of memory or with evidence that holds of the view, of its rows as they stand or of the
-- extended list, and a wide one with evidence only where the elimination of the extended list is lost by wide numbers
-- too; one that copies rows for want of memory alone
abbrev pub RowsFail : RowsWork → ViewSeen → ClientFail → Type 0
RowsFail rows.LinealityFromFacets v e = FailsRightly v e × EliminatesExtended e
RowsFail rows.HullFromVertices v e = FailsRightly v e × EliminatesExtended e
RowsFail rows.LinealityFromFacetsWide v e = FailsRightly v e × EliminatesExtended e
    × IfFailed e (IsLostExtendedList v AffineHull Facets)
RowsFail rows.HullFromVerticesWide v e = FailsRightly v e × EliminatesExtended e
    × IfFailed e (IsLostExtendedList v LinealitySpace Vertices)
RowsFail w v e = e ≡ Memory
