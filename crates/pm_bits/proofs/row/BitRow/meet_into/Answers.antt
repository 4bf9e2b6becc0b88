use Rattle.std.proofs.Common.{◌≡◌, ◌&&◌, sym, ap, refl, ◌∙◌, length}
use Rattle.std.proofs.lemmas.List.{with_items_is}
use Rattle.pm_bits.proofs.Members.{IsRowOf-seen, same_room, Holds-written, length-bits_below, clear-written, members-written}
use Rattle.pm_bits.proofs.row.BitRow.meet_into.Goals as goal

pub meet-requires-clause-same_len : goal.meet-requires-clause-same_len
meet-requires-clause-same_len c =
    let row = IsRowOf-seen c.args.self.now c.deref.result.now c.self.inside.words.items c.self.inside.len c.self.view_is c.self.invariant c.deref.ensures.value in
    let other = IsRowOf-seen c.args.o.now c.deref-2.result.now c.o.inside.words.items c.o.inside.len c.o.view_is c.o.invariant c.deref-2.ensures.value in
    same_room c.args.self.now c.args.o.now c.deref.result.now c.deref-2.result.now row other c.requires.same_len

pub meet-requires-clause-out_len : goal.meet-requires-clause-out_len
meet-requires-clause-out_len c =
    let row = IsRowOf-seen c.args.self.now c.deref.result.now c.self.inside.words.items c.self.inside.len c.self.view_is c.self.invariant c.deref.ensures.value in
    let out = IsRowOf-seen c.args.out.now c.deref_mut.result.now c.out.inside.words.items c.out.inside.len c.out.view_is c.out.invariant c.deref_mut.ensures.value in
    same_room c.args.self.now c.args.out.now c.deref.result.now c.deref_mut.result.now row out c.requires.out_len

pub invariant_of-out : goal.invariant_of-out
invariant_of-out c =
    let row = IsRowOf-seen c.args.self.now c.deref.result.now c.self.inside.words.items c.self.inside.len c.self.view_is c.self.invariant c.deref.ensures.value in
    let other = IsRowOf-seen c.args.o.now c.deref-2.result.now c.o.inside.words.items c.o.inside.len c.o.view_is c.o.invariant c.deref-2.ensures.value in
    let as_long : c.out.inside.len ≡ length c.args.self.now = sym (length-bits_below c.out.inside.words.items c.out.inside.len) ∙ ap length c.out.view_is ∙ sym c.requires.out_len in
    Holds-written c.out.inside.words.items c.deref_mut.result.now c.meet.new.out _ c.out.inside.len c.out.invariant c.deref_mut.ensures.value c.meet.auto.out
    (with_items_is c.out.inside.words c.meet.new.out (c.meet.auto.out ∙ c.deref_mut.ensures.len))
    (clear-written (λ x y. x && y) refl c.args.self.now c.args.o.now c.deref.result.now c.deref-2.result.now c.meet.new.out c.out.inside.len row other as_long (as_long ∙ c.requires.same_len) c.meet.ensures)

pub returns-clause-members : goal.returns-clause-members
returns-clause-members c =
    let row = IsRowOf-seen c.args.self.now c.deref.result.now c.self.inside.words.items c.self.inside.len c.self.view_is c.self.invariant c.deref.ensures.value in
    let other = IsRowOf-seen c.args.o.now c.deref-2.result.now c.o.inside.words.items c.o.inside.len c.o.view_is c.o.invariant c.deref-2.ensures.value in
    members-written (λ x y. x && y) c.args.self.now c.args.o.now c.deref.result.now c.deref-2.result.now c.meet.new.out _ c.out.inside.len row other c.meet.ensures (invariant_of-out c)
    (with_items_is c.out.inside.words c.meet.new.out (c.meet.auto.out ∙ c.deref_mut.ensures.len))
