use Rattle.pm_vector.specs.Rows.{dot}
use Rattle.pm_vector.specs.Bases.{row_at}
use Rattle.pm_optima.proofs.Levels.{scale_of}
use Rattle.pm_optima.proofs.Lists.{some_entries}
use Rattle.pm_optima.proofs.Optima.{endless_optimum, finite_optimum, line_product, none_optimum, ray_product, turned_length, wide_optimum}
use Rattle.pm_optima.proofs.rays.value_at_rays.Goals as goal
use Rattle.pm_optima.specs.Quotients.{Grows, HasNone, IsBest}
use Rattle.pm_simplex.specs.Senses.{row_in}
use Rattle.pm_types.specs.Views.{extended_of}
use Rattle.std.proofs.Common.{[], ap, length, map, true≢false, sym, ◌∙◌, ◌≡◌}
use Rattle.std.proofs.lemmas.List.{get_or_read}
use Rattle.std.proofs.lemmas.Result.{err_from_is_err_and}

pub returns-in_err-at_lines-clause-wide : goal.returns-in_err-at_lines-clause-wide
returns-in_err-at_lines-clause-wide c =
    let p = err_from_is_err_and c.from_residual-in_err-at_lines.result c.from_residual-in_err-at_lines.ensures.1 in
    rw (p.1, p.2) (line_product c.args.sense c.args.objective.now c.in_ok-row.row c.args.rays.now c.args.lines.now c.in_ok-row.ensures.primitive c.in_err-at_lines.field-0.0 c.in_err-at_lines.ensures.wide)

pub greatest_quotient-requires-clause-as_many : goal.greatest_quotient-requires-clause-as_many
greatest_quotient-requires-clause-as_many c = turned_length c.args.sense c.in_ok-row.row c.args.rays.now c.turn.new.row (c.turn.ensures ∙ ap (row_in c.args.sense) c.in_ok-at_rays.ensures.products)

pub grows-requires-clause-as_many : goal.grows-requires-clause-as_many
grows-requires-clause-as_many c = turned_length c.args.sense c.in_ok-row.row c.args.rays.now c.turn.new.row (c.turn.ensures ∙ ap (row_in c.args.sense) c.in_ok-at_rays.ensures.products)

pub returns-in_default-clause-value : goal.returns-in_default-clause-value
returns-in_default-clause-value c =
    let st = c.in_ok-row.ensures.stands in
    let none : HasNone c.args.rays.now (length c.args.rays.now) = c.in_default.ensures in
    none_optimum c.args.sense c.args.objective.now c.in_ok-row.row (record { num = st.p; den = st.q }) (scale_of c.args.objective.now c.in_ok-row.row st) c.args.rays.now c.args.lines.now c.requires.ray_cols c.requires.line_cols c.requires.ahead c.requires.level
    (extended_of c.number.result) c.number.ensures none

pub returns-then-grows-clause-value : goal.returns-then-grows-clause-value
returns-then-grows-clause-value c =
    let st = c.in_ok-row.ensures.stands in
    let best : IsBest (row_in c.args.sense (map (dot c.in_ok-row.row) c.args.rays.now)) c.args.rays.now (length c.args.rays.now) c.in-Some.best = rw (c.turn.ensures, c.in_ok-at_rays.ensures.products) at c.in-Some.ensures in
    let grows : Grows (row_in c.args.sense (map (dot c.in_ok-row.row) c.args.rays.now)) c.args.rays.now (row_in c.args.sense (map (dot c.in_ok-row.row) c.args.lines.now)) =
    rw (c.turn.ensures, c.in_ok-at_rays.ensures.products, c.turn-2.ensures, c.in_ok-at_lines.ensures.products) at (c.grows.ensures.0 c.if-grows.true) in
    endless_optimum c.args.sense c.args.objective.now c.in_ok-row.row (record { num = st.p; den = st.q }) (scale_of c.args.objective.now c.in_ok-row.row st) c.args.rays.now c.args.lines.now c.requires.ray_cols c.requires.line_cols c.requires.ahead c.requires.level
    c.in-Some.best best (extended_of c.number-then-grows.result) c.number-then-grows.ensures grows

pub returns-in-Ok-clause-value : goal.returns-in-Ok-clause-value
returns-in-Ok-clause-value c =
    let best : IsBest (row_in c.args.sense (map (dot c.in_ok-row.row) c.args.rays.now)) c.args.rays.now (length c.args.rays.now) c.in-Some.best = rw (c.turn.ensures, c.in_ok-at_rays.ensures.products) at c.in-Some.ensures in
    let no : ¬ (Grows c.turn.new.row c.args.rays.now c.turn-2.new.row) = λ g. true≢false (sym (c.grows.ensures.1 g) ∙ c.if-grows.false) in
    let ends : ¬ (Grows (row_in c.args.sense (map (dot c.in_ok-row.row) c.args.rays.now)) c.args.rays.now (row_in c.args.sense (map (dot c.in_ok-row.row) c.args.lines.now))) =
    rw (c.turn.ensures, c.in_ok-at_rays.ensures.products, c.turn-2.ensures, c.in_ok-at_lines.ensures.products) at no in
    finite_optimum c.args.sense c.args.objective.now c.in_ok-row.row c.scale.result c.scale.ensures c.args.rays.now c.args.lines.now c.requires.ray_cols c.requires.line_cols c.requires.ahead c.requires.level
    c.in-Some.best best ends c.in-Ok.value c.in-Ok.ensures.ok (extended_of c.number-in-Ok.result) c.number-in-Ok.ensures

pub returns-clause-wide : goal.returns-clause-wide
returns-clause-wide c =
    let best : IsBest (row_in c.args.sense (map (dot c.in_ok-row.row) c.args.rays.now)) c.args.rays.now (length c.args.rays.now) c.in-Some.best = rw (c.turn.ensures, c.in_ok-at_rays.ensures.products) at c.in-Some.ensures in
    let no : ¬ (Grows c.turn.new.row c.args.rays.now c.turn-2.new.row) = λ g. true≢false (sym (c.grows.ensures.1 g) ∙ c.if-grows.false) in
    let ends : ¬ (Grows (row_in c.args.sense (map (dot c.in_ok-row.row) c.args.rays.now)) c.args.rays.now (row_in c.args.sense (map (dot c.in_ok-row.row) c.args.lines.now))) =
    rw (c.turn.ensures, c.in_ok-at_rays.ensures.products, c.turn-2.ensures, c.in_ok-at_lines.ensures.products) at no in
    let row : c.index-rays-best.result ≡ row_at c.args.rays.now c.in-Some.best.place = get_or_read c.args.rays.now c.in-Some.best.place c.index-rays-best.result best.within c.index-rays-best.is [] in
    wide_optimum c.args.sense c.args.objective.now c.in_ok-row.row c.scale.result c.scale.ensures c.args.rays.now c.args.lines.now c.requires.ray_cols c.requires.line_cols c.requires.ahead c.requires.level
    c.in-Some.best best ends c.in_ok-row.ensures.primitive c.in-Err.ensures.wide c.in_ok-wide_pair-in-Err.field-0 (rw row at c.in_ok-wide_pair-in-Err.ensures)

pub products-requires : goal.products-requires
products-requires c = record { cols = rw c.in_ok-row.ensures.stands.cols c.requires.ray_cols }

pub greatest_quotient-requires-clause-cols : goal.greatest_quotient-requires-clause-cols
greatest_quotient-requires-clause-cols c = some_entries (length c.args.objective.now) c.args.rays.now c.requires.some c.requires.ray_cols

pub grows-requires-clause-cols : goal.grows-requires-clause-cols
grows-requires-clause-cols c = some_entries (length c.args.objective.now) c.args.rays.now c.requires.some c.requires.ray_cols

pub returns-in_err-at_rays-clause-wide : goal.returns-in_err-at_rays-clause-wide
returns-in_err-at_rays-clause-wide c =
    let p = err_from_is_err_and c.from_residual-in_err-at_rays.result c.from_residual-in_err-at_rays.ensures.1 in
    rw (p.1, p.2) (ray_product c.args.sense c.args.objective.now c.in_ok-row.row c.args.rays.now c.args.lines.now c.in_ok-row.ensures.primitive c.in_err-at_rays.field-0.0 c.in_err-at_rays.ensures.wide)
