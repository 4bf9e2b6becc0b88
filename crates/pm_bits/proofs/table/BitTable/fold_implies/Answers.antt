use Rattle.std.proofs.Common.{IsTrue}
use Rattle.pm_bits.proofs.Folds.{implied_by_folds, table_folds, table_lens}
use Rattle.pm_bits.proofs.table.BitTable.fold_implies.Goals as goal

pub returns : goal.returns
returns c =
    let folds = table_folds c.args.self.now c.self.inside.len c.self.inside.rows.items c.self.inside.folds.items c.self.view_is c.self.invariant.1 in
    let lens = table_lens c.args.self.now c.self.inside.len c.self.inside.rows.items c.self.view_is c.self.invariant.0 in
    implied_by_folds c.args.self.now c.deref.result.now c.args.s.now c.args.t.now c.args.s_fold c.args.t_fold c.args.end (IsTrue c.implies.result) c.ranges.s_fold.fits c.ranges.t_fold.fits c.requires.short c.requires.s_len c.requires.t_len c.requires.end lens
    (rw c.deref.ensures.value folds) c.requires.s_fold c.requires.t_fold c.implies.ensures
