use Rattle.std.proofs.Common.{[], ap, arith, length, subst, sym, ◌<◌, ◌≡◌, ◌∙◌}
use Rattle.std.proofs.lemmas.List.{get_or_read}
use Rattle.pm_bits.proofs.Folds.{table_folds, table_row}
use Rattle.pm_bits.specs.Folds.{IsFold}
use Rattle.pm_bits.specs.Table.{row_at}
use Rattle.pm_bits.proofs.table.BitTable.common_count.Goals as goal

pub common_count_by-requires-clause-fold : goal.common_count_by-requires-clause-fold
common_count_by-requires-clause-fold c =
    let folds = table_folds c.args.self.now c.self.inside.len c.self.inside.rows.items c.self.inside.folds.items c.self.view_is c.self.invariant.1 in
    let fold = table_row c.args.self.now c.self.inside.folds.items folds c.args.j c.index-2.result.now c.requires.second c.index-2.ensures in
    let inside : c.args.j < length c.self.inside.rows.items = let n = ap (λ t. length t.rows) c.self.view_is in omega arith in
    let row : c.index.result.now ≡ row_at c.args.self.now c.args.j = get_or_read c.self.inside.rows.items c.args.j c.index.result.now inside c.index.ensures [] ∙ ap (λ t. row_at t c.args.j) c.self.view_is in
    subst (λ r. IsFold r c.index-2.result.now) (sym row) fold
