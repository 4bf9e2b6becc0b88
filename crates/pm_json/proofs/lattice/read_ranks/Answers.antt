-- Each turn puts the faces of the next rank behind the others, or ends at the first fault.
use Rattle.std.proofs.Common.{ap, drop, map, suc, ◌∙◌}
use Rattle.std.proofs.lemmas.List.{drop_all}
use Rattle.std.proofs.lemmas.Result.{err_from_is_err_and}
use Rattle.serde_json.specs.View.{items_view, view}
use Rattle.pm_json.proofs.FaceTurns.{ranks_from-end, ranks_from-no_faces, ranks_from-no_items}
use Rattle.pm_json.proofs.RowEnds.{next_item}
use Rattle.pm_json.specs.Readings.{ranks_from, with_front}
use Rattle.pm_types.specs.Lists.{lists_of}
use Rattle.pm_json.proofs.lattice.read_ranks.Goals as goal

pub returns-in_err-inner-clause-fault : goal.returns-in_err-inner-clause-fault
returns-in_err-inner-clause-fault c =
    let ranks = map lists_of c.loop-item.ranks.items in
    let m = c.loop-item.count in
    let k = c.loop-item.places in
    let vs = c.args.items.now in
    let i = c.loop-item.item-index in
    let p = err_from_is_err_and c.from_residual.result c.from_residual.ensures.1 in
    rw (p.1, p.2) (λ memory. c.loop-item.invariant.read
    ∙ ap (λ w. with_front ranks (ranks_from m k (items_view w))) (next_item vs i c.item-item.result c.loop-item-test.true c.item-item.is)
    ∙ ranks_from-no_items ranks m k (view c.item-item.result) (items_view (drop (suc i) vs)) c.in_err-inner.field-0.0 c.in_err-inner.ensures.fault)

pub returns-in_err-faces-clause-fault : goal.returns-in_err-faces-clause-fault
returns-in_err-faces-clause-fault c =
    let ranks = map lists_of c.loop-item.ranks.items in
    let m = c.loop-item.count in
    let k = c.loop-item.places in
    let vs = c.args.items.now in
    let i = c.loop-item.item-index in
    let p = err_from_is_err_and c.from_residual-in_err-faces.result c.from_residual-in_err-faces.ensures.1 in
    rw (p.1, p.2) (λ memory. c.loop-item.invariant.read
    ∙ ap (λ w. with_front ranks (ranks_from m k (items_view w))) (next_item vs i c.item-item.result c.loop-item-test.true c.item-item.is)
    ∙ ranks_from-no_faces ranks m k (view c.item-item.result) (items_view c.in_ok-inner.inner.now) (items_view (drop (suc i) vs)) c.in_err-faces.field-0.0 c.in_ok-inner.ensures.ok
    (c.in_err-faces.ensures.fault memory))

pub returns-in_err-push-clause-fault : goal.returns-in_err-push-clause-fault
returns-in_err-push-clause-fault c =
    let p = err_from_is_err_and c.from_residual-in_err-push.result c.from_residual-in_err-push.ensures.1 in
    rw p.1 (λ other. absurd (other p.2))

pub returns-clause-ok : goal.returns-clause-ok
returns-clause-ok c =
    let ranks = map lists_of c.loop-item.ranks.items in
    c.loop-item.invariant.read
    ∙ ap (λ vs. with_front ranks (ranks_from c.loop-item.count c.loop-item.places (items_view vs))) (drop_all c.loop-item.item-index c.args.items.now c.loop-item-test.false)
    ∙ ranks_from-end ranks c.loop-item.count c.loop-item.places
