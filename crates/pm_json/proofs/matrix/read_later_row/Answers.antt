-- Each turn puts the next entry behind the others, or ends at the first fault.
use Rattle.std.proofs.Common.{add-one, ap, arith, drop, length, suc, sym, ◌∙◌, ◌<◌, ℕ, List}
use Rattle.std.proofs.lemmas.List.{drop_all}
use Rattle.std.proofs.lemmas.Result.{err_from_is_err_and}
use Rattle.pm_json.proofs.Readings.{later_row_from-item, with_front-nil}
use Rattle.pm_json.proofs.RowEnds.{later_row_from-long, later_row_from-no_entry, later_row_from-short, later_row_from-whole, next_item}
use Rattle.pm_json.specs.Readings.{Read, later_row_from, with_front}
use Rattle.pm_vector.specs.Numbers.{Ratio}
use Rattle.serde_json.specs.View.{items_view, view}
use Rattle.serde_json.specs.declared.value.Value.{Value}
use Rattle.pm_json.proofs.matrix.read_later_row.Goals as goal

-- the whole row, of which vs are left
abbrev left : ℕ → List Ratio → List Value → Read (List Ratio)
left n row vs = with_front row (later_row_from n (length row) (items_view vs))

pub loop-item-init : goal.loop-item-init
loop-item-init c = rw c.in_ok-row.ensures.items (sym (with_front-nil (later_row_from c.args.cols 0 (items_view c.args.items.now))))

pub loop-item-preserved : goal.loop-item-preserved
loop-item-preserved c =
    let row = c.loop-item.row.items in
    let vs = c.args.items.now in
    let i = c.loop-item.item-index in
    let n = c.args.cols in
    let entry = c.in_ok-entry.entry in
    let room : length row < n = omega (arith, c.len.ensures, c.loop-item.row.ok, c.if-len-cols.false) in
    rw add-one (c.loop-item.invariant
    ∙ ap (left n row) (next_item vs i c.item-item.result c.loop-item-test.true c.item-item.is)
    ∙ later_row_from-item n row entry (view c.item-item.result) (items_view (drop (suc i) vs)) room (sym c.in_ok-entry.ensures)
    ∙ ap (λ l. with_front l (later_row_from n (length l) (items_view (drop (suc i) vs)))) (sym c.in_ok-push.ensures.items))

pub returns-then-len-cols-clause-fault : goal.returns-then-len-cols-clause-fault
returns-then-len-cols-clause-fault c memory =
    let row = c.loop-item.row.items in
    let vs = c.args.items.now in
    let i = c.loop-item.item-index in
    c.loop-item.invariant
    ∙ ap (left c.args.cols row) (next_item vs i c.item-item.result c.loop-item-test.true c.item-item.is)
    ∙ later_row_from-long c.args.cols row (view c.item-item.result) (items_view (drop (suc i) vs)) (omega (arith, c.len.ensures, c.loop-item.row.ok, c.if-len-cols.true))

pub returns-then-len-cols-2-clause-ok : goal.returns-then-len-cols-2-clause-ok
returns-then-len-cols-2-clause-ok c =
    let row = c.loop-item.row.items in
    let n = c.args.cols in
    c.loop-item.invariant
    ∙ ap (left n row) (drop_all c.loop-item.item-index c.args.items.now c.loop-item-test.false)
    ∙ later_row_from-whole n row (omega (arith, c.len-2.ensures, c.loop-item.row.ok, c.if-len-cols-2.true))

pub returns-else-len-cols-2-clause-fault : goal.returns-else-len-cols-2-clause-fault
returns-else-len-cols-2-clause-fault c memory =
    let row = c.loop-item.row.items in
    let n = c.args.cols in
    c.loop-item.invariant
    ∙ ap (left n row) (drop_all c.loop-item.item-index c.args.items.now c.loop-item-test.false)
    ∙ later_row_from-short n row (omega (arith, c.len-2.ensures, c.loop-item.row.ok, c.if-len-cols-2.false))

pub returns-then-len-cols-2-clause-len : goal.returns-then-len-cols-2-clause-len
returns-then-len-cols-2-clause-len c = sym c.loop-item.row.ok.0 ∙ sym c.len-2.ensures ∙ c.if-len-cols-2.true

pub returns-in_err-entry-clause-fault : goal.returns-in_err-entry-clause-fault
returns-in_err-entry-clause-fault c =
    let row = c.loop-item.row.items in
    let vs = c.args.items.now in
    let i = c.loop-item.item-index in
    let n = c.args.cols in
    let room : length row < n = omega (arith, c.len.ensures, c.loop-item.row.ok, c.if-len-cols.false) in
    let p = err_from_is_err_and c.from_residual-in_err-entry.result c.from_residual-in_err-entry.ensures.1 in
    rw (p.1, p.2) (λ memory. c.loop-item.invariant
    ∙ ap (left n row) (next_item vs i c.item-item.result c.loop-item-test.true c.item-item.is)
    ∙ later_row_from-no_entry n row (view c.item-item.result) (items_view (drop (suc i) vs)) c.in_err-entry.field-0.0 room (sym c.in_err-entry.ensures))

pub returns-in_err-push-clause-fault : goal.returns-in_err-push-clause-fault
returns-in_err-push-clause-fault c =
    let p = err_from_is_err_and c.from_residual-in_err-push.result c.from_residual-in_err-push.ensures.1 in
    rw p.1 (λ other. absurd (other p.2))
