use Rattle.std.proofs.Common.{bit_and, sym, ◌∙◌}
use Rattle.std.specs.Simd.Lanes.{zip2}
use Rattle.pm_bits.proofs.Common.{IsRowOf-met, member_count-met_row, met_row}
use Rattle.pm_bits.proofs.Counts.{bit_count-fits, member_count-is}
use Rattle.pm_bits.proofs.Members.{IsRowOf-seen, same_room}
use Rattle.pm_bits.proofs.row.BitRow.common_count.Goals as goal

pub common_count-requires-clause-same_len : goal.common_count-requires-clause-same_len
common_count-requires-clause-same_len c =
    let row = IsRowOf-seen c.args.self.now c.deref.result.now c.self.inside.words.items c.self.inside.len c.self.view_is c.self.invariant c.deref.ensures.value in
    let other = IsRowOf-seen c.args.o.now c.deref-2.result.now c.o.inside.words.items c.o.inside.len c.o.view_is c.o.invariant c.deref-2.ensures.value in
    same_room c.args.self.now c.args.o.now c.deref.result.now c.deref-2.result.now row other c.requires

pub common_count-requires-clause-in_range : goal.common_count-requires-clause-in_range
common_count-requires-clause-in_range c =
    let row = IsRowOf-seen c.args.self.now c.deref.result.now c.self.inside.words.items c.self.inside.len c.self.view_is c.self.invariant c.deref.ensures.value in
    let other = IsRowOf-seen c.args.o.now c.deref-2.result.now c.o.inside.words.items c.o.inside.len c.o.view_is c.o.invariant c.deref-2.ensures.value in
    bit_count-fits (met_row c.args.self.now c.args.o.now) (zip2 bit_and c.deref.result.now c.deref-2.result.now)
    (IsRowOf-met c.args.self.now c.args.o.now c.deref.result.now c.deref-2.result.now row other c.requires (common_count-requires-clause-same_len c))

pub returns : goal.returns
returns c =
    let row = IsRowOf-seen c.args.self.now c.deref.result.now c.self.inside.words.items c.self.inside.len c.self.view_is c.self.invariant c.deref.ensures.value in
    let other = IsRowOf-seen c.args.o.now c.deref-2.result.now c.o.inside.words.items c.o.inside.len c.o.view_is c.o.invariant c.deref-2.ensures.value in
    let met = IsRowOf-met c.args.self.now c.args.o.now c.deref.result.now c.deref-2.result.now row other c.requires (same_room c.args.self.now c.args.o.now c.deref.result.now c.deref-2.result.now row other c.requires) in
    c.common_count.ensures ∙ sym (member_count-is (met_row c.args.self.now c.args.o.now) (zip2 bit_and c.deref.result.now c.deref-2.result.now) met) ∙ member_count-met_row c.args.self.now c.args.o.now
