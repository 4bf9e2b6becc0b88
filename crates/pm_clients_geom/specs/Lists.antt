-- The two parts of the row list that a client reads, and what becomes of the list.
use Rattle.pm_vector.specs.Rows.{Row}
use Rattle.pm_vector.specs.Numbers.{Ratio}
use Rattle.pm_client.specs.Sound.{IsListOf, ReadsMatrix}
use Rattle.pm_vector.specs.Evidence.{NoEvidence}
use Rattle.pm_elim.specs.Lost.{IsLost, IsLostOnExtended}
use Rattle.pm_vector.specs.declared.evidence.ElimList.{ElimList}
use Rattle.pm_fraction.specs.FractionRows.{ArePrimitiveRowsOf}
use Rattle.pm_object.specs.Reading.{ViewSeen}
use Rattle.pm_props.specs.declared.property.PropId.{PropId}
use Rattle.std.specs.Prelude.{List, ℕ}

-- the elimination of the rows of the two parts, or of the list that `list` names of them, never leaves the range
pub record StaysInRange (v : ViewSeen) (first second : PropId) (list : ElimList) : Type 0 where
  pub rows : List Row
  pub listed : IsListOf v first second rows
  pub stays : NoEvidence v.cols rows list

-- the elimination of the rows of the two parts is lost by wide numbers too
pub record IsLostList (v : ViewSeen) (first second : PropId) : Type 0 where
  pub rows : List Row
  pub listed : IsListOf v first second rows
  pub lost : IsLost v.cols rows

-- so is that of the extended list of these rows, by which their null space is found
pub record IsLostExtendedList (v : ViewSeen) (first second : PropId) : Type 0 where
  pub rows : List Row
  pub listed : IsListOf v first second rows
  pub lost : IsLostOnExtended v.cols rows

-- L are the primitive whole rows of the value of the first property, G those of the value of the second
pub record ReadsParts (v : ViewSeen) (first second : PropId) (L G : List Row) : Type 0 where
  pub first_cols : ℕ
  pub second_cols : ℕ
  pub first_rows : List (List Ratio)
  pub second_rows : List (List Ratio)
  pub reads_first : ReadsMatrix v first first_cols first_rows
  pub reads_second : ReadsMatrix v second second_cols second_rows
  pub first_primitive : ArePrimitiveRowsOf first_rows L
  pub second_primitive : ArePrimitiveRowsOf second_rows G
