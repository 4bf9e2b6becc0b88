use Rattle.pm_bits.proofs.TableEdits.{bits_take, folds_take}
use Rattle.pm_bits.proofs.table.BitTable.truncate.Goals as goal

pub invariant_of-self : goal.invariant_of-self
invariant_of-self c = (
  bits_take c.self.inside.len c.self.inside.rows.items c.truncate.new.self.items c.args.len c.self.invariant.0 c.truncate.ensures.items,
  folds_take c.self.inside.rows.items c.truncate.new.self.items c.self.inside.folds.items c.truncate-2.new.self.items c.args.len c.self.invariant.1 c.truncate.ensures.items c.truncate-2.ensures.items,
)
