use Rattle.std.proofs.lemmas.Bool.{eqb-true}
use Rattle.pm_bits.proofs.Folds.{table_folds, table_row, within_folds}
use Rattle.pm_bits.specs.Table.{row_at}
use Rattle.pm_bits.proofs.table.BitTable.row_contains.Goals as goal

pub returns-else-index-fold : goal.returns-else-index-fold
returns-else-index-fold c =
    let folds = table_folds c.args.self.now c.self.inside.len c.self.inside.rows.items c.self.inside.folds.items c.self.view_is c.self.invariant.1 in
    let row = table_row c.args.self.now c.self.inside.folds.items folds c.args.k c.index.result.now c.requires.place c.index.ensures in (
      λ is. absurd (c.if-index-fold.false (eqb-true _ c.args.fold is)),
      λ h. absurd (c.if-index-fold.false (within_folds (row_at c.args.self.now c.args.k) c.args.s.now c.index.result.now c.args.fold c.ranges.fold.fits row c.requires.fold h)),
    )
