-- One step of an elimination, as evidence names it.
use Rattle.pm_vector.specs.Rows.{Row}
use Rattle.pm_vector.specs.declared.evidence.ElimList.{ElimList}
use Rattle.std.specs.Prelude.{List, ℕ}

-- the list that is eliminated; how many of its rows were taken, and their echelon basis; the row that is reduced; the
-- place of the basis row by which (or how many there are, for the next row); a column
pub record EliminationStep : Type 0 where
  pub list : ElimList
  pub front : ℕ
  pub basis : List Row
  pub part : Row
  pub by : ℕ
  pub column : ℕ
