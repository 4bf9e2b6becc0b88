use Rattle.std.proofs.Common.{IsTrue}
use Rattle.pm_bits.proofs.Folds.{others_by_folds, table_folds, table_lens}
use Rattle.pm_bits.proofs.table.BitTable.other_fold_contains.Goals as goal

pub returns : goal.returns
returns c =
    let folds = table_folds c.args.self.now c.self.inside.len c.self.inside.rows.items c.self.inside.folds.items c.self.view_is c.self.invariant.1 in
    let lens = table_lens c.args.self.now c.self.inside.len c.self.inside.rows.items c.self.view_is c.self.invariant.0 in
    others_by_folds c.args.self.now c.deref.result.now c.args.s.now c.args.fold c.args.i c.args.j (IsTrue c.other_contains.result) c.ranges.fold.fits c.requires.short c.requires.len lens
    (rw c.deref.ensures.value folds) c.requires.fold c.other_contains.ensures
