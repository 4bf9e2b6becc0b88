use Rattle.std.proofs.Common.{sym, ◌∙◌}
use Rattle.pm_bits.proofs.Members.{IsRowOf-seen, same_room}
use Rattle.pm_bits.proofs.row.BitRow.contains.Goals as goal

pub contain-requires : goal.contain-requires
contain-requires c =
    let row = IsRowOf-seen c.args.self.now c.deref.result.now c.self.inside.words.items c.self.inside.len c.self.view_is c.self.invariant c.deref.ensures.value in
    let other = IsRowOf-seen c.args.o.now c.deref-2.result.now c.o.inside.words.items c.o.inside.len c.o.view_is c.o.invariant c.deref-2.ensures.value in
    same_room c.args.self.now c.args.o.now c.deref.result.now c.deref-2.result.now row other c.requires

pub returns : goal.returns
returns c =
    let row = IsRowOf-seen c.args.self.now c.deref.result.now c.self.inside.words.items c.self.inside.len c.self.view_is c.self.invariant c.deref.ensures.value in
    let other = IsRowOf-seen c.args.o.now c.deref-2.result.now c.o.inside.words.items c.o.inside.len c.o.view_is c.o.invariant c.deref-2.ensures.value in (
      λ is i member. row.bits i ∙ c.contain.ensures.0 is i (sym (other.bits i) ∙ member),
      λ h. c.contain.ensures.1 (λ i set. sym (row.bits i) ∙ h i (other.bits i ∙ set)),
    )
