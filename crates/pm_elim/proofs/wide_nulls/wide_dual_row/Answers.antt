use Rattle.pm_vector.specs.Bases.{column, row_at}
use Rattle.pm_elim.proofs.DualCounts.{dependent_of_none_new}
use Rattle.pm_elim.proofs.DualLaws.{contained_pivot, is_dual, pivot_contained}
use Rattle.pm_elim.proofs.wide_nulls.wide_dual_row.Goals as goal
use Rattle.pm_vector.specs.NullSpaces.{IsNullBasis}
use Rattle.std.proofs.Common.{arith, inl, length, ◌<◌, ◌≡◌}
use Rattle.std.proofs.lemmas.List.{get_or_read}
use Rattle.std.specs.Prelude.{remove}

pub returns-clause-dual : goal.returns-clause-dual
returns-clause-dual c =
    let others : IsNullBasis c.args.cols (remove c.args.rows.now c.args.j) c.in_ok-others.others.rows.items c.in_ok-others.others.pivots.items = rw (c.deref.ensures.value, c.in_ok-other_rows.ensures) at c.in_ok-others.ensures.null in
    let as_many = others.echelon.as_many in
    let place = c.in-Some.place in
    let within : place < length c.in_ok-others.others.rows.items = (let l = rw c.deref-2.ensures.value at c.in-Some.ensures.within in omega arith) in
    let new = rw (c.deref-2.ensures.value, c.deref-3.ensures.value) at c.in-Some.ensures.new in
    let found : c.remove-found.result ≡ row_at c.in_ok-others.others.rows.items place = get_or_read c.in_ok-others.others.rows.items place c.remove-found.result within c.remove-found.ensures.value _ in
    let own : c.index-rows-j.result ≡ row_at c.args.rows.now c.args.j = get_or_read c.args.rows.now c.args.j c.index-rows-j.result c.requires.within c.index-rows-j.is _ in
    is_dual c.args.rows.now c.args.j c.requires.within c.args.cols c.args.null.now.rows.items c.args.null.now.pivots.items c.in_ok-others.others.rows.items c.in_ok-others.others.pivots.items c.requires.is_null others place within
    (λ p. new (pivot_contained c.args.null.now.pivots.items (column c.in_ok-others.others.pivots.items place) p))
    c.oriented.result (rw (own, found) at c.oriented.ensures)

pub returns-in_default-clause-lost : goal.returns-in_default-clause-lost
returns-in_default-clause-lost c =
    let others : IsNullBasis c.args.cols (remove c.args.rows.now c.args.j) c.in_ok-others.others.rows.items c.in_ok-others.others.pivots.items = rw (c.deref.ensures.value, c.in_ok-other_rows.ensures) at c.in_ok-others.ensures.null in
    let as_many = others.echelon.as_many in
    let count = rw (c.deref.ensures.value, c.in_ok-other_rows.ensures) at c.in_ok-others.ensures.count in
    let all = rw (c.deref-2.ensures.value, c.deref-3.ensures.value) at c.in_default.ensures.none in
    inl (dependent_of_none_new c.args.cols c.args.rows.now c.args.j c.args.null.now.rows.items c.args.null.now.pivots.items c.in_ok-others.others.rows.items c.in_ok-others.others.pivots.items c.requires.columns c.requires.within c.requires.is_null others count
    (λ t l. contained_pivot c.args.null.now.pivots.items (column c.in_ok-others.others.pivots.items t) (all t (omega arith))))
