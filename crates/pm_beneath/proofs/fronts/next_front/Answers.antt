use Rattle.pm_beneath.proofs.DdTables.{facet_table}
use Rattle.pm_beneath.proofs.FrontLaws.{all_within}
use Rattle.pm_beneath.proofs.ListedCells.{listed_cells_are_next}
use Rattle.pm_beneath.proofs.fronts.next_front.Goals as goal
use Rattle.pm_beneath.specs.CellLists.{AreNextCells}
use Rattle.std.proofs.Common.{List, arith, map, subst, sym, ℕ}

pub next_cells-requires-clause-within : goal.next_cells-requires-clause-within
next_cells-requires-clause-within c = all_within (λ s. s.items) c.args.cells.now c.args.front c.args.rays.zeros.row_len (let l = c.requires.row_len in let m = c.requires.within in omega arith) c.requires.cells

pub returns-clause-cells : goal.returns-clause-cells
returns-clause-cells c =
    let t = facet_table c.args.cols c.args.equations.now c.args.rows.now c.args.front c.args.rays.rows.items c.args.rays.zeros.rows c.in_ok-values.values.items c.requires.table c.in_ok-values.ensures.stand in
    let made = rw c.deref.ensures.value at c.in_ok-made.ensures in
    subst (λ (U : List (List ℕ)). AreNextCells c.args.rows.now c.args.rays.rows.items c.args.front (map (λ s. s.items) c.args.cells.now) U) (sym made)
    (listed_cells_are_next c.args.rows.now c.args.rays.rows.items c.in_ok-values.values.items c.args.rays.zeros.rows c.args.front (map (λ s. s.items) c.args.cells.now) t c.requires.cells)
