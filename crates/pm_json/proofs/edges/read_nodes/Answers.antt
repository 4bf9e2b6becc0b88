-- Each turn puts the next node below the others, or ends at the first fault.
use Rattle.std.proofs.Common.{add-one, ap, arith, drop, length, map, suc, sym, ◌∙◌, ◌<◌}
use Rattle.std.proofs.lemmas.List.{drop_all}
use Rattle.std.proofs.lemmas.Result.{err_from_is_err_and}
use Rattle.pm_json.proofs.EdgeTurns.{nodes_below, nodes_from-end, nodes_from-full, nodes_from-item, nodes_from-no_items, nodes_from-no_set}
use Rattle.pm_json.proofs.Readings.{with_front-nil}
use Rattle.pm_json.proofs.RowEnds.{next_item}
use Rattle.pm_json.specs.Readings.{nodes_from, with_front}
use Rattle.serde_json.specs.View.{items_view, view}
use Rattle.pm_json.proofs.edges.read_nodes.Goals as goal
use Rattle.pm_limits.specs.Limits.{most_rows}

pub loop-item-init : goal.loop-item-init
loop-item-init c = rw c.new-rows.ensures.items (sym (with_front-nil (nodes_from 0 (items_view c.args.items.now))))

pub loop-item-preserved : goal.loop-item-preserved
loop-item-preserved c =
    let rows = map (λ r. r.items) c.loop-item.rows.items in
    let k = length c.loop-item.rows.items in
    let vs = c.args.items.now in
    let i = c.loop-item.item-index in
    let room : k < most_rows = omega (arith, c.len.ensures, c.loop-item.rows.ok, c.if-len-ge-MOST_ROWS.false) in
    rw add-one (c.loop-item.invariant
    ∙ ap (λ w. with_front rows (nodes_from k (items_view w))) (next_item vs i c.item-item.result c.loop-item-test.true c.item-item.is)
    ∙ nodes_from-item rows c.in_ok-set.set.items k (view c.item-item.result) (items_view c.in_ok-indices.indices.now) (items_view (drop (suc i) vs)) c.in_ok-indices.ensures.ok room c.in_ok-set.ensures.ok
    ∙ nodes_below (λ r. r.items) c.loop-item.rows.items c.push.new.self.items c.in_ok-set.set (items_view (drop (suc i) vs)) c.in_ok-push.ensures.items)

pub returns-in_err-indices-clause-fault : goal.returns-in_err-indices-clause-fault
returns-in_err-indices-clause-fault c =
    let rows = map (λ r. r.items) c.loop-item.rows.items in
    let k = length c.loop-item.rows.items in
    let vs = c.args.items.now in
    let i = c.loop-item.item-index in
    let p = err_from_is_err_and c.from_residual.result c.from_residual.ensures.1 in
    rw (p.1, p.2) (λ memory. c.loop-item.invariant
    ∙ ap (λ w. with_front rows (nodes_from k (items_view w))) (next_item vs i c.item-item.result c.loop-item-test.true c.item-item.is)
    ∙ nodes_from-no_items rows k (view c.item-item.result) (items_view (drop (suc i) vs)) c.in_err-indices.field-0.0 c.in_err-indices.ensures.fault)

pub returns-then-len-ge-MOST_ROWS-clause-fault : goal.returns-then-len-ge-MOST_ROWS-clause-fault
returns-then-len-ge-MOST_ROWS-clause-fault c memory =
    let rows = map (λ r. r.items) c.loop-item.rows.items in
    let k = length c.loop-item.rows.items in
    let vs = c.args.items.now in
    let i = c.loop-item.item-index in
    c.loop-item.invariant
    ∙ ap (λ w. with_front rows (nodes_from k (items_view w))) (next_item vs i c.item-item.result c.loop-item-test.true c.item-item.is)
    ∙ nodes_from-full rows k (view c.item-item.result) (items_view c.in_ok-indices.indices.now) (items_view (drop (suc i) vs)) c.in_ok-indices.ensures.ok
    (omega (arith, c.len.ensures, c.loop-item.rows.ok, c.if-len-ge-MOST_ROWS.true))

pub returns-in_err-set-clause-fault : goal.returns-in_err-set-clause-fault
returns-in_err-set-clause-fault c =
    let rows = map (λ r. r.items) c.loop-item.rows.items in
    let k = length c.loop-item.rows.items in
    let vs = c.args.items.now in
    let i = c.loop-item.item-index in
    let room : k < most_rows = omega (arith, c.len.ensures, c.loop-item.rows.ok, c.if-len-ge-MOST_ROWS.false) in
    let p = err_from_is_err_and c.from_residual-in_err-set.result c.from_residual-in_err-set.ensures.1 in
    rw (p.1, p.2) (λ memory. c.loop-item.invariant
    ∙ ap (λ w. with_front rows (nodes_from k (items_view w))) (next_item vs i c.item-item.result c.loop-item-test.true c.item-item.is)
    ∙ nodes_from-no_set rows k (view c.item-item.result) (items_view c.in_ok-indices.indices.now) (items_view (drop (suc i) vs)) c.in_err-set.field-0.0 c.in_ok-indices.ensures.ok room
    (c.in_err-set.ensures.fault memory))

pub returns-in_err-push-clause-fault : goal.returns-in_err-push-clause-fault
returns-in_err-push-clause-fault c =
    let p = err_from_is_err_and c.from_residual-in_err-push.result c.from_residual-in_err-push.ensures.1 in
    rw p.1 (λ other. absurd (other p.2))

pub returns-clause-ok : goal.returns-clause-ok
returns-clause-ok c =
    let rows = map (λ r. r.items) c.loop-item.rows.items in
    let k = length c.loop-item.rows.items in
    c.loop-item.invariant
    ∙ ap (λ vs. with_front rows (nodes_from k (items_view vs))) (drop_all c.loop-item.item-index c.args.items.now c.loop-item-test.false)
    ∙ nodes_from-end rows k
