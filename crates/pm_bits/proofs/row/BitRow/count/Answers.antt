use Rattle.std.proofs.Common.{sym, ◌∙◌}
use Rattle.pm_bits.proofs.Members.{IsRowOf-seen}
use Rattle.pm_bits.proofs.Counts.{member_count-is, bit_count-fits}
use Rattle.pm_bits.proofs.row.BitRow.count.Goals as goal

pub count-requires : goal.count-requires
count-requires c =
    let row = IsRowOf-seen c.args.self.now c.deref.result.now c.self.inside.words.items c.self.inside.len c.self.view_is c.self.invariant c.deref.ensures.value in
    bit_count-fits c.args.self.now c.deref.result.now row

pub returns : goal.returns
returns c =
    let row = IsRowOf-seen c.args.self.now c.deref.result.now c.self.inside.words.items c.self.inside.len c.self.view_is c.self.invariant c.deref.ensures.value in
    c.count.ensures ∙ sym (member_count-is c.args.self.now c.deref.result.now row)
