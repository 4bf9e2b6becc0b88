use Rattle.pm_bits.proofs.Folds.{fold_of_row}
use Rattle.pm_bits.proofs.Members.{IsRowOf-seen}
use Rattle.pm_bits.proofs.row.BitRow.fold.Goals as goal

pub returns : goal.returns
returns c =
    let row = IsRowOf-seen c.args.self.now c.deref.result.now c.self.inside.words.items c.self.inside.len c.self.view_is c.self.invariant c.deref.ensures.value in
    fold_of_row c.args.self.now c.deref.result.now c.fold.result row c.fold.ensures
