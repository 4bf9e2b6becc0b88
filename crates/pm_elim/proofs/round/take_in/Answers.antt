use Rattle.pm_vector.proofs.Spans.{same_span_trans}
use Rattle.pm_elim.proofs.PivotLaws.{pivot_length}
use Rattle.pm_elim.proofs.RoundLaws.{at_most_one_more, inside_unless_zero, is_new_row, never_wide_new, never_wide_zero, none_more, rest_length, round_of_next, round_of_some, span_unless_zero, span_with_new, still}
use Rattle.pm_elim.proofs.round.take_in.Goals as goal
use Rattle.pm_elim.proofs.round.take_in.Goals.{After-pivot_row-new}
use Rattle.pm_vector.specs.Rounds.{IsNewRow}
use Rattle.std.proofs.Common.{arith, length, refl, ◌≡◌, ◌∙◌}
use Rattle.std.proofs.lemmas.Result.{err_from_is_err_and}

pub rest_of-requires : goal.rest_of-requires
rest_of-requires c = c.requires

pub returns-in_default-clause-is_basis : goal.returns-in_default-clause-is_basis
returns-in_default-clause-is_basis c = c.requires

pub returns-in_default-clause-count : goal.returns-in_default-clause-count
returns-in_default-clause-count c = none_more _

pub returns-in_default-clause-span : goal.returns-in_default-clause-span
returns-in_default-clause-span c = span_unless_zero (length c.args.row.now) c.args.basis.now.rows.items c.args.basis.now.pivots.items c.requires c.args.row.now c.in_ok-rest.rest refl c.in_ok-rest.ensures.reduced c.in_default.ensures.zero

pub returns-in_default-clause-spanned : goal.returns-in_default-clause-spanned
returns-in_default-clause-spanned c = λ _. inside_unless_zero (length c.args.row.now) c.args.basis.now.rows.items c.args.basis.now.pivots.items c.requires c.args.row.now c.in_ok-rest.rest refl c.in_ok-rest.ensures.reduced c.in_default.ensures.zero

pub returns-in_default-clause-never_wide : goal.returns-in_default-clause-never_wide
returns-in_default-clause-never_wide c = never_wide_zero c.args.basis.now.rows.items c.args.basis.now.pivots.items c.args.row.now c.in_ok-rest.rest c.in_ok-rest.ensures.stays c.in_ok-rest.ensures.reduced c.in_default.ensures.zero

-- the new row has as many entries as the given one
new_length : (c : After-pivot_row-new) → length c.pivot_row-new.result ≡ length c.args.row.now
new_length c = pivot_length c.pivot_row-new.ensures ∙ rest_length (length c.args.row.now) c.args.basis.now.rows.items c.args.basis.now.pivots.items c.requires c.args.row.now c.in_ok-rest.rest refl c.in_ok-rest.ensures.reduced

is_new : (c : After-pivot_row-new) → IsNewRow (length c.args.row.now) c.args.basis.now.rows.items c.args.basis.now.pivots.items c.pivot_row-new.result c.in-Some.pivot
is_new c = is_new_row (length c.args.row.now) c.args.basis.now.rows.items c.args.basis.now.pivots.items c.requires c.args.row.now c.in_ok-rest.rest refl c.in_ok-rest.ensures.reduced c.in-Some.pivot c.pivot_row-new.result c.pivot_row-new.ensures

pub returns-in_err-rest : goal.returns-in_err-rest
returns-in_err-rest c =
    let p = err_from_is_err_and c.from_residual.result c.from_residual.ensures.1 in
    rw (p.1, p.2) (record {
      is_basis = tt;
      span = tt;
      count = tt;
      spanned = tt;
      never_wide = tt;
      wide = round_of_next c.args.basis.now.rows.items c.args.basis.now.pivots.items c.args.row.now c.in_err-rest.field-0.0 c.in_err-rest.ensures.wide;
      within = c.in_err-rest.ensures.within;
      rows_unchanged = still c.in_err-rest.field-0.0 c.args.basis.now.rows.items;
      pivots_unchanged = still c.in_err-rest.field-0.0 c.args.basis.now.pivots.items;
    })

pub returns-in_err-refuse_wide_older : goal.returns-in_err-refuse_wide_older
returns-in_err-refuse_wide_older c =
    let same = new_length (goal.at.returns-in_err-refuse_wide_older c).After-pivot_row-new in
    let p = err_from_is_err_and c.from_residual-in_err-refuse_wide_older.result c.from_residual-in_err-refuse_wide_older.ensures.1 in
    rw (p.1, p.2) (record {
      is_basis = tt;
      span = tt;
      count = tt;
      spanned = tt;
      never_wide = tt;
      wide = round_of_some c.args.basis.now.rows.items c.args.basis.now.pivots.items c.args.row.now c.in_ok-rest.rest c.in_ok-rest.ensures.reduced c.in-Some.pivot c.pivot_row-new.result c.pivot_row-new.ensures c.in_err-refuse_wide_older.field-0.0 c.in_err-refuse_wide_older.ensures.wide;
      within = rw same at c.in_err-refuse_wide_older.ensures.within;
      rows_unchanged = still c.in_err-refuse_wide_older.field-0.0 c.args.basis.now.rows.items;
      pivots_unchanged = still c.in_err-refuse_wide_older.field-0.0 c.args.basis.now.pivots.items;
    })

pub returns-in_err-join : goal.returns-in_err-join
returns-in_err-join c =
    let p = err_from_is_err_and c.from_residual-in_err-join.result c.from_residual-in_err-join.ensures.1 in
    rw (p.1, p.2) (record { is_basis = tt; span = tt; count = tt; spanned = tt; never_wide = tt; wide = tt; within = tt; rows_unchanged = tt; pivots_unchanged = tt })

pub refuse_wide_older-requires-clause-within : goal.refuse_wide_older-requires-clause-within
refuse_wide_older-requires-clause-within c = rw (pivot_length c.pivot_row-new.ensures) c.in-Some.ensures.within

pub refuse_wide_older-requires-clause-cols : goal.refuse_wide_older-requires-clause-cols
refuse_wide_older-requires-clause-cols c = rw (new_length (goal.at.refuse_wide_older-requires-clause-cols c).After-pivot_row-new) c.requires.cols

pub join-requires-clause-within : goal.join-requires-clause-within
join-requires-clause-within c = rw (pivot_length c.pivot_row-new.ensures) c.in-Some.ensures.within

pub join-requires-clause-is_basis : goal.join-requires-clause-is_basis
join-requires-clause-is_basis c = rw (new_length (goal.at.join-requires-clause-is_basis c).After-pivot_row-new) c.requires

pub join-requires-clause-is_new : goal.join-requires-clause-is_new
join-requires-clause-is_new c = rw (new_length (goal.at.join-requires-clause-is_new c).After-pivot_row-new) (is_new (goal.at.join-requires-clause-is_new c).After-pivot_row-new)

pub returns-clause-is_basis : goal.returns-clause-is_basis
returns-clause-is_basis c = rw (new_length (goal.at.returns-clause-is_basis c).After-pivot_row-new) at c.in_ok-join.ensures.is_basis

pub returns-clause-span : goal.returns-clause-span
returns-clause-span c = same_span_trans c.in_ok-join.ensures.span (span_with_new (length c.args.row.now) c.args.basis.now.rows.items c.args.basis.now.pivots.items c.requires c.args.row.now c.in_ok-rest.rest refl c.in_ok-rest.ensures.reduced c.in-Some.pivot c.pivot_row-new.result c.pivot_row-new.ensures)

pub returns-clause-never_wide : goal.returns-clause-never_wide
returns-clause-never_wide c = never_wide_new c.args.basis.now.rows.items c.args.basis.now.pivots.items c.args.row.now c.in_ok-rest.rest c.in_ok-rest.ensures.stays c.in_ok-rest.ensures.reduced c.in-Some.pivot c.pivot_row-new.result c.pivot_row-new.ensures c.in_ok-refuse_wide_older.ensures.stays

pub returns-clause-count : goal.returns-clause-count
returns-clause-count c = at_most_one_more _ _ c.in_ok-join.ensures.count

pub returns-clause-spanned : goal.returns-clause-spanned
returns-clause-spanned c = λ l. absurd (let e = c.in_ok-join.ensures.count in omega arith)
