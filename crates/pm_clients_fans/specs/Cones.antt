-- What the client `fan_dims` reads, and where it answers.
use Rattle.std.specs.Prelude.{◌≡◌, Bool, Some, List, false, length, true}
use Rattle.pm_vector.specs.Rows.{Row}
use Rattle.pm_client.specs.Sound.{AreRowsOf}
use Rattle.pm_fan.specs.Dimensions.{IsLostCone, NoConeEvidence}
use Rattle.pm_object.specs.Reading.{ViewSeen, fact_of}
use Rattle.pm_props.specs.declared.property.PropId.TheVariants.{LinealitySpace, MaximalCones, Vertices}
use Rattle.pm_types.specs.Values.{IndexSets, sets}

-- V and L are the primitive whole rows of RAYS and LINEALITY_SPACE, and these sets are MAXIMAL_CONES
pub record ReadsCones (v : ViewSeen) (V L : List Row) (index : IndexSets) : Type 0 where
  pub rays : AreRowsOf v Vertices V
  pub lines : AreRowsOf v LinealitySpace L
  pub reads : fact_of MaximalCones v.facts ≡ Some (sets index.rows index.cols)

-- where the sets are of so many rays, no elimination of the rows of a cone leaves the range
pub record ConesStay (v : ViewSeen) : Type 0 where
  pub V : List Row
  pub L : List Row
  pub index : IndexSets
  pub read : ReadsCones v V L index
  pub stay : index.cols ≡ length V → NoConeEvidence v.cols V L index.rows

-- so it is where the elimination is by numbers of the range alone, and not by wide numbers
abbrev pub ConesStayBy : Bool → ViewSeen → Type 0
ConesStayBy false v = ConesStay v
ConesStayBy true v = Unit {0}

-- the elimination of the rows of a maximal cone is lost by wide numbers too
pub record ReadsLostCone (v : ViewSeen) : Type 0 where
  pub V : List Row
  pub L : List Row
  pub index : IndexSets
  pub read : ReadsCones v V L index
  pub lost : IsLostCone v.cols V L index.rows
