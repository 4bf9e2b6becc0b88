-- The bytes that are left begin behind those that the source gave.
use Rattle.std.proofs.Common.{◌≡◌, ◌+◌, ◌-◌, ◌≤◌, arith, drop, length, length-drop, refl, take}
use Rattle.std.proofs.lemmas.List.{drop-drop, drop_all}
use Rattle.pm_store.proofs.OutsideLemmas.{Moves-front}
use Rattle.pm_store.proofs.mem_source.MemSourceSource.read.Goals as goal

pub returns-clause-within : goal.returns-clause-within
returns-clause-within c = omega (arith, c.put_front.auto.buf)

pub returns-clause-end : goal.returns-clause-end
returns-clause-end c zero room =
    rw (← c.self.view_is) (drop_all c.self.inside.at c.self.inside.bytes.items (omega (arith, c.put_front.auto.buf)))

pub returns-clause-gives : goal.returns-clause-gives
returns-clause-gives c =
    let items = c.self.inside.bytes.items in
    let at = c.self.inside.at in
    rw (← c.self.view_is) (omega (arith, length-drop at items, c.min-count.ensures, c.min.ensures, c.len.ensures))

pub returns-clause-moves : goal.returns-clause-moves
returns-clause-moves c =
    let items = c.self.inside.bytes.items in
    let at = c.self.inside.at in
    let k = c.min-count.result in
    let room : k ≤ length (drop at items) = omega (arith, length-drop at items, c.min-count.ensures, c.min.ensures, c.len.ensures) in
    let same : at + k - at ≡ k = omega arith in
    let given : take (at + k - at) (drop at c.deref-2.result.now) ≡ take k (drop at items) = rw (c.deref-2.ensures.value, same) refl in
    rw (← c.self.view_is) (Moves-front items _ _ _ at k room given c.put_front.ensures)

pub returns-clause-after : goal.returns-clause-after
returns-clause-after c = rw (← c.self.view_is, c.saturating_add-self-inside.ensures, drop-drop) refl
