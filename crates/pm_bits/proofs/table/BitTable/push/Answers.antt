use Rattle.std.proofs.Common.{rules}
use Rattle.pm_bits.proofs.Folds.{folds_push}
use Rattle.pm_bits.proofs.table.BitTable.push.Goals as goal

pub invariant_of-self-2 : goal.invariant_of-self-2
invariant_of-self-2 c = (
  search rules,
  folds_push c.self.inside.rows.items c.push.new.self.items c.self.inside.folds.items c.push-2.new.self.items c.args.row c.fold-fold.result c.self.invariant.1 c.fold-fold.ensures (search rules) (search rules),
)
