use Rattle.std.proofs.Common.{ap, arith, length, ◌<◌}
use Rattle.pm_bits.proofs.TableEdits.{bits_swap, folds_swap}
use Rattle.pm_bits.proofs.table.BitTable.swap.Goals as goal

pub invariant_of-self : goal.invariant_of-self
invariant_of-self c =
    let rows = c.self.inside.rows.items in
    let folds = c.self.inside.folds.items in
    let n = ap (λ t. length t.rows) c.self.view_is in
    let first : c.args.i < length rows = omega arith in
    let second : c.args.j < length rows = omega arith in (
      bits_swap c.self.inside.len rows c.swap.new.self.items c.args.i c.args.j c.self.invariant.0 first second c.swap.ensures.items,
      folds_swap rows c.swap.new.self.items folds c.swap-2.new.self.items c.args.i c.args.j c.self.invariant.1 first second c.swap.ensures.items c.swap-2.ensures.items,
    )
