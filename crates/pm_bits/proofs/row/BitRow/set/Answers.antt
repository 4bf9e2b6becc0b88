use Rattle.std.proofs.Common.{◌≡◌, ◌≢◌, ℕ, ◌<◌, ◌≤◌, List, false, arith, sym, ap, ◌∙◌, length}
use Rattle.std.proofs.lemmas.List.{with_items_is}
use Rattle.pm_bits.specs.Words.{has_bit}
use Rattle.pm_bits.proofs.Members.{IsRowOf-seen, Holds-written, has-written, length-bits_below}
use Rattle.pm_bits.proofs.row.BitRow.set.Goals as goal

pub set-requires : goal.set-requires
set-requires c =
    let row = IsRowOf-seen c.args.self.now c.deref_mut.result.now c.self.inside.words.items c.self.inside.len c.self.view_is c.self.invariant c.deref_mut.ensures.value in
    omega (arith, row.room, c.requires)

pub invariant_of-self : goal.invariant_of-self
invariant_of-self c =
    let in_row : c.args.i < c.self.inside.len = omega (arith, c.requires, ap length (sym c.self.view_is), length-bits_below c.self.inside.words.items c.self.inside.len) in
    let clear : (i : ℕ) → c.self.inside.len ≤ i → has_bit c.set.new.words i ≡ false =
    λ i above. (let other : i ≢ c.args.i = omega arith in c.set.ensures.others i other ∙ ap (λ (ws : List ℕ). has_bit ws i) c.deref_mut.ensures.value ∙ c.self.invariant.clear i above) in
    Holds-written c.self.inside.words.items c.deref_mut.result.now c.set.new.words _ c.self.inside.len c.self.invariant c.deref_mut.ensures.value c.set.auto.words
    (with_items_is c.self.inside.words c.set.new.words (c.set.auto.words ∙ c.deref_mut.ensures.len)) clear

pub returns-clause-member : goal.returns-clause-member
returns-clause-member c =
    has-written c.set.new.words _ c.self.inside.len (invariant_of-self c) (with_items_is c.self.inside.words c.set.new.words (c.set.auto.words ∙ c.deref_mut.ensures.len)) c.args.i
    ∙ c.set.ensures.set

pub returns-clause-others : goal.returns-clause-others
returns-clause-others c =
    let row = IsRowOf-seen c.args.self.now c.deref_mut.result.now c.self.inside.words.items c.self.inside.len c.self.view_is c.self.invariant c.deref_mut.ensures.value in
    λ k other. has-written c.set.new.words _ c.self.inside.len (invariant_of-self c) (with_items_is c.self.inside.words c.set.new.words (c.set.auto.words ∙ c.deref_mut.ensures.len)) k
    ∙ c.set.ensures.others k other ∙ sym (row.bits k)
