use Rattle.pm_elim.proofs.JoinLaws.{joined_basis, joined_span}
use Rattle.pm_elim.proofs.wide_rounds.joined.Goals as goal
use Rattle.std.proofs.Common.{arith, length}

pub returns-clause-is_basis : goal.returns-clause-is_basis
returns-clause-is_basis c =
    let reduced = rw c.deref.ensures.value at c.in_ok-rows.ensures.reduced in
    let place = rw c.deref-2.ensures.value at c.place_of-place.ensures.within in
    let lower = rw c.deref-2.ensures.value at c.place_of-place.ensures.lower in
    let upper = rw c.deref-2.ensures.value at c.place_of-place.ensures.upper in
    let as_many = c.requires.is_basis.as_many in
    rw (c.in_ok-insert.ensures.items, c.in_ok-insert-2.ensures.items)
    (joined_basis (length c.args.new) c.args.basis.rows.items c.in_ok-rows.rows.items c.args.basis.pivots.items c.args.new c.args.pivot c.requires.is_basis c.requires.is_new reduced c.place_of-place.result (omega arith) lower (λ l. upper (omega arith)))

pub returns-clause-span : goal.returns-clause-span
returns-clause-span c =
    let reduced = rw c.deref.ensures.value at c.in_ok-rows.ensures.reduced in
    rw c.in_ok-insert.ensures.items
    (joined_span c.args.basis.rows.items c.in_ok-rows.rows.items c.args.new c.args.pivot c.place_of-place.result reduced)
