use Rattle.std.proofs.Common.{arith, sym, ◌∙◌}
use Rattle.pm_bits.proofs.Members.{IsRowOf-seen}
use Rattle.pm_bits.proofs.row.BitRow.get.Goals as goal

pub get-requires : goal.get-requires
get-requires c =
    let row = IsRowOf-seen c.args.self.now c.deref.result.now c.self.inside.words.items c.self.inside.len c.self.view_is c.self.invariant c.deref.ensures.value in
    omega (arith, row.room, c.requires)

pub returns : goal.returns
returns c =
    let row = IsRowOf-seen c.args.self.now c.deref.result.now c.self.inside.words.items c.self.inside.len c.self.view_is c.self.invariant c.deref.ensures.value in
    c.get.ensures ∙ sym (row.bits c.args.i)
