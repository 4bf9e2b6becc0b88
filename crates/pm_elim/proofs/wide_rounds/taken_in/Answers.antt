use Rattle.pm_vector.proofs.Spans.{same_span_trans}
use Rattle.pm_elim.proofs.PivotLaws.{pivot_length}
use Rattle.pm_elim.proofs.RoundLaws.{inside_unless_zero, is_new_row, rest_length, span_unless_zero, span_with_new}
use Rattle.pm_elim.proofs.wide_rounds.taken_in.Goals as goal
use Rattle.pm_elim.proofs.wide_rounds.taken_in.Goals.{After-pivot_row-new}
use Rattle.pm_vector.specs.Rounds.{IsNewRow}
use Rattle.pm_vector.specs.Steps.{ReducedBy}
use Rattle.std.proofs.Common.{arith, length, refl, ◌≡◌, ◌∙◌}

pub returns-in_default-clause-span : goal.returns-in_default-clause-span
returns-in_default-clause-span c =
    span_unless_zero (length c.args.row.now) c.args.basis.rows.items c.args.basis.pivots.items c.requires c.args.row.now c.in_ok-rest.rest refl
    (rw (c.deref.ensures.value, c.deref-2.ensures.value) at c.in_ok-rest.ensures.reduced) c.in_default.ensures.zero

pub returns-in_default-clause-spanned : goal.returns-in_default-clause-spanned
returns-in_default-clause-spanned c = λ _.
    inside_unless_zero (length c.args.row.now) c.args.basis.rows.items c.args.basis.pivots.items c.requires c.args.row.now c.in_ok-rest.rest refl
    (rw (c.deref.ensures.value, c.deref-2.ensures.value) at c.in_ok-rest.ensures.reduced) c.in_default.ensures.zero

-- the row that is left
reduced : (c : After-pivot_row-new) → ReducedBy c.args.basis.rows.items c.args.basis.pivots.items c.args.row.now c.in_ok-rest.rest
reduced c = rw (c.deref.ensures.value, c.deref-2.ensures.value) at c.in_ok-rest.ensures.reduced

-- the new row has as many entries as the given one
new_length : (c : After-pivot_row-new) → length c.pivot_row-new.result ≡ length c.args.row.now
new_length c = pivot_length c.pivot_row-new.ensures ∙ rest_length (length c.args.row.now) c.args.basis.rows.items c.args.basis.pivots.items c.requires c.args.row.now c.in_ok-rest.rest refl (reduced c)

is_new : (c : After-pivot_row-new) → IsNewRow (length c.args.row.now) c.args.basis.rows.items c.args.basis.pivots.items c.pivot_row-new.result c.in-Some.pivot
is_new c = is_new_row (length c.args.row.now) c.args.basis.rows.items c.args.basis.pivots.items c.requires c.args.row.now c.in_ok-rest.rest refl (reduced c) c.in-Some.pivot c.pivot_row-new.result c.pivot_row-new.ensures

pub joined-requires-clause-within : goal.joined-requires-clause-within
joined-requires-clause-within c = rw (pivot_length c.pivot_row-new.ensures) c.in-Some.ensures.within

pub joined-requires-clause-is_basis : goal.joined-requires-clause-is_basis
joined-requires-clause-is_basis c = rw (new_length (goal.at.joined-requires-clause-is_basis c).After-pivot_row-new) c.requires

pub joined-requires-clause-is_new : goal.joined-requires-clause-is_new
joined-requires-clause-is_new c = rw (new_length (goal.at.joined-requires-clause-is_new c).After-pivot_row-new) (is_new (goal.at.joined-requires-clause-is_new c).After-pivot_row-new)

pub returns-clause-is_basis : goal.returns-clause-is_basis
returns-clause-is_basis c = rw (new_length (goal.at.returns-clause-is_basis c).After-pivot_row-new) at c.in_ok-made.ensures.is_basis

pub returns-clause-span : goal.returns-clause-span
returns-clause-span c =
    same_span_trans c.in_ok-made.ensures.span
    (span_with_new (length c.args.row.now) c.args.basis.rows.items c.args.basis.pivots.items c.requires c.args.row.now c.in_ok-rest.rest refl (reduced (goal.at.returns-clause-span c).After-pivot_row-new) c.in-Some.pivot c.pivot_row-new.result c.pivot_row-new.ensures)

pub returns-clause-spanned : goal.returns-clause-spanned
returns-clause-spanned c = λ l. absurd (let e = c.in_ok-made.ensures.count in omega arith)
