-- Each turn puts the next entry behind the others, or ends at the first fault.
use Rattle.std.proofs.Common.{add-one, ap, arith, drop, length, suc, sym, ◌∙◌, ◌<◌, ℕ, List}
use Rattle.std.proofs.lemmas.List.{drop_all}
use Rattle.std.proofs.lemmas.Result.{err_from_is_err_and}
use Rattle.pm_json.proofs.Readings.{with_front-nil}
use Rattle.pm_json.proofs.RowEnds.{entries_from-end, entries_from-item, entries_from-long, entries_from-no_entry, next_item}
use Rattle.pm_json.specs.Readings.{Read, entries_from, with_front}
use Rattle.pm_vector.specs.Numbers.{Ratio}
use Rattle.serde_json.specs.View.{items_view, view}
use Rattle.serde_json.specs.declared.value.Value.{Value}
use Rattle.pm_json.proofs.matrix.read_entries.Goals as goal

-- the whole row, of which vs are left
abbrev left : ℕ → List Ratio → List Value → Read (List Ratio)
left most row vs = with_front row (entries_from most (length row) (items_view vs))

pub loop-item-init : goal.loop-item-init
loop-item-init c = rw c.in_ok-row.ensures.items (sym (with_front-nil (entries_from c.args.most 0 (items_view c.args.items.now))))

pub loop-item-preserved : goal.loop-item-preserved
loop-item-preserved c =
    let row = c.loop-item.row.items in
    let vs = c.args.items.now in
    let i = c.loop-item.item-index in
    let room : length row < c.args.most = omega (arith, c.len.ensures, c.loop-item.row.ok, c.if-len-most.false) in
    rw add-one (c.loop-item.invariant
    ∙ ap (left c.args.most row) (next_item vs i c.item-item.result c.loop-item-test.true c.item-item.is)
    ∙ entries_from-item c.args.most row c.in_ok-entry.entry (view c.item-item.result) (items_view (drop (suc i) vs)) room (sym c.in_ok-entry.ensures)
    ∙ ap (λ l. with_front l (entries_from c.args.most (length l) (items_view (drop (suc i) vs)))) (sym c.in_ok-push.ensures.items))

pub returns-then-len-most-clause-fault : goal.returns-then-len-most-clause-fault
returns-then-len-most-clause-fault c memory =
    let row = c.loop-item.row.items in
    let vs = c.args.items.now in
    let i = c.loop-item.item-index in
    c.loop-item.invariant
    ∙ ap (left c.args.most row) (next_item vs i c.item-item.result c.loop-item-test.true c.item-item.is)
    ∙ entries_from-long c.args.most row c.in_ok-entry.entry (view c.item-item.result) (items_view (drop (suc i) vs)) (omega (arith, c.len.ensures, c.loop-item.row.ok, c.if-len-most.true)) (sym c.in_ok-entry.ensures)

pub returns-in_err-entry-clause-fault : goal.returns-in_err-entry-clause-fault
returns-in_err-entry-clause-fault c =
    let row = c.loop-item.row.items in
    let vs = c.args.items.now in
    let i = c.loop-item.item-index in
    let p = err_from_is_err_and c.from_residual-in_err-entry.result c.from_residual-in_err-entry.ensures.1 in
    rw (p.1, p.2) (λ memory. c.loop-item.invariant
    ∙ ap (left c.args.most row) (next_item vs i c.item-item.result c.loop-item-test.true c.item-item.is)
    ∙ entries_from-no_entry c.args.most row (length row) (view c.item-item.result) (items_view (drop (suc i) vs)) c.in_err-entry.field-0.0 (sym c.in_err-entry.ensures))

pub returns-in_err-push-clause-fault : goal.returns-in_err-push-clause-fault
returns-in_err-push-clause-fault c =
    let p = err_from_is_err_and c.from_residual-in_err-push.result c.from_residual-in_err-push.ensures.1 in
    rw p.1 (λ other. absurd (other p.2))

pub returns-clause-ok : goal.returns-clause-ok
returns-clause-ok c =
    let row = c.loop-item.row.items in
    c.loop-item.invariant
    ∙ ap (left c.args.most row) (drop_all c.loop-item.item-index c.args.items.now c.loop-item-test.false)
    ∙ entries_from-end c.args.most row
