-- What the clients that lift sites read and find, and how they fail.
use Rattle.pm_client.specs.Sound.{AreRowsOf, ReadsHeights, has_way, lifting, raising}
use Rattle.pm_client.specs.declared.ClientFail.{ClientFail}
use Rattle.pm_client.specs.declared.ClientFail.TheVariants.{Failed, Memory}
use Rattle.pm_geom.specs.Cells.{AreCells, squares}
use Rattle.pm_lift.specs.Lost.{LiftingIsLost, RaisingIsLost}
use Rattle.pm_lift.specs.declared.fails.LiftFail.{LiftFail}
use Rattle.pm_lift.specs.declared.fails.LiftFail.TheVariants as lift
use Rattle.pm_fraction.specs.Matrices.{IsFraction}
use Rattle.pm_object.specs.Reading.{ViewSeen}
use Rattle.pm_props.specs.Sets.{set_of}
use Rattle.pm_props.specs.declared.kind.Kind.{Kind}
use Rattle.pm_props.specs.declared.property.PropId.TheVariants.{SiteHeights, Sites}
use Rattle.pm_types.specs.Values.{IndexSets}
use Rattle.pm_vector.specs.Numbers.{Ratio}
use Rattle.pm_vector.specs.Rows.{HasCols, Row, entry}
use Rattle.std.specs.List.{All}
use Rattle.std.specs.Prelude.{IsTrue, List, [], length, ◌∷◌, ◌≡◌, ◌≢◌, ◌≤◌, ◌⊎◌}
use lib.IntN.{pos}
use lib.Signed.{◌<ℤ◌}
use Rattle.pm_limits.specs.Limits.{most_rows}

-- a client of the kind lifts sites to their heights
pub record LiftsSites (kind : Kind) : Type 0 where
  pub sources : kind.sources ≡ set_of (Sites ∷ SiteHeights ∷ [])
  pub lifts : IsTrue (has_way kind lifting)

-- it raises sites to the paraboloid
pub record RaisesSites (kind : Kind) : Type 0 where
  pub sources : kind.sources ≡ set_of (Sites ∷ [])
  pub raises : IsTrue (has_way kind raising)

-- X are the primitive whole rows of the sites that the view reads: at most most_rows, of its columns, and each with a
-- positive first entry
pub record AreReadSites (v : ViewSeen) (X : List Row) : Type 0 where
  pub rows : AreRowsOf v Sites X
  pub cols : HasCols v.cols X
  pub positive : All (λ q. pos 0 <ℤ entry q 0) X
  pub few : length X ≤ most_rows

-- W are the heights that the view reads
pub record AreReadHeights (v : ViewSeen) (W : List Ratio) : Type 0 where
  pub reads : ReadsHeights v W
  pub fractions : All IsFraction W

-- the cells of sites that the view reads with these heights, and as column count the number of sites; or there are
-- more or fewer heights than sites, and no cells
pub record AreCellsPut (v : ViewSeen) (cells : IndexSets) : Type 0 where
  pub sites : List Row
  pub heights : List Ratio
  pub read_sites : AreReadSites v sites
  pub read_heights : AreReadHeights v heights
  pub found : ((length heights ≡ length sites) × (cells.cols ≡ length sites)
      × AreCells v.cols sites heights cells.rows)
      ⊎ ((length heights ≢ length sites) × (cells.rows ≡ []) × (cells.cols ≡ 0))
  pub few : length cells.rows ≤ most_rows

-- the Delaunay cells of sites that the view reads
pub record AreDelaunayPut (v : ViewSeen) (cells : IndexSets) : Type 0 where
  pub sites : List Row
  pub read_sites : AreReadSites v sites
  pub cols : cells.cols ≡ length sites
  pub found : AreCells v.cols sites (squares sites) cells.rows
  pub few : length cells.rows ≤ most_rows

-- the failure of a client whose cells were refused
abbrev pub fail_of_lift : LiftFail → ClientFail
fail_of_lift (lift.Wide e) = Failed e
fail_of_lift (lift.Many e) = Failed e
fail_of_lift lift.Memory = Memory

-- the cells of sites that the view reads, with as many heights that it reads, are lost by wide numbers
pub record ReadsLostSites (v : ViewSeen) : Type 0 where
  pub sites : List Row
  pub heights : List Ratio
  pub read_sites : AreReadSites v sites
  pub read_heights : AreReadHeights v heights
  pub as_many : length heights ≡ length sites
  pub lost : LiftingIsLost v.cols sites heights

-- the Delaunay cells of sites that the view reads are lost by wide numbers
pub record ReadsLostDelaunaySites (v : ViewSeen) : Type 0 where
  pub sites : List Row
  pub read_sites : AreReadSites v sites
  pub lost : RaisingIsLost v.cols sites
