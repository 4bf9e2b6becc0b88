-- Each turn puts the next index into the set, or ends at the first fault.
use Rattle.std.proofs.Common.{add-one, ap, drop, refl, suc, sym, ◌∙◌, ◌≡◌, false, true}
use Rattle.std.proofs.lemmas.List.{drop_all}
use Rattle.std.proofs.lemmas.Result.{err_from_is_err_and}
use Rattle.pm_json.proofs.RowEnds.{next_item}
use Rattle.pm_json.proofs.SetTurns.{set_from-again, set_from-item, set_from-no_index}
use Rattle.pm_json.specs.Readings.{has_index, set_from}
use Rattle.serde_json.specs.View.{items_view, view}
use Rattle.pm_json.proofs.sets.read_set.Goals as goal

pub loop-item-init : goal.loop-item-init
loop-item-init c = rw c.new-set.ensures.items refl

pub loop-item-preserved : goal.loop-item-preserved
loop-item-preserved c =
    let set = c.loop-item.set.items in
    let vs = c.args.items.now in
    let i = c.loop-item.item-index in
    let j = c.in_ok-j.j in
    let new : has_index j set ≡ false = sym (rw c.deref.ensures.value at c.has_index.ensures) ∙ c.if-has_index.false in
    rw add-one (c.loop-item.invariant
    ∙ ap (λ w. set_from set (items_view w)) (next_item vs i c.item-item.result c.loop-item-test.true c.item-item.is)
    ∙ set_from-item set j (view c.item-item.result) (items_view (drop (suc i) vs)) (sym c.in_ok-j.ensures) new
    ∙ ap (λ s. set_from s (items_view (drop (suc i) vs))) (sym c.in_ok-put_index.ensures))

pub returns-in_err-j-clause-fault : goal.returns-in_err-j-clause-fault
returns-in_err-j-clause-fault c =
    let set = c.loop-item.set.items in
    let vs = c.args.items.now in
    let i = c.loop-item.item-index in
    let p = err_from_is_err_and c.from_residual.result c.from_residual.ensures.1 in
    rw (p.1, p.2) (λ memory. c.loop-item.invariant
    ∙ ap (λ w. set_from set (items_view w)) (next_item vs i c.item-item.result c.loop-item-test.true c.item-item.is)
    ∙ set_from-no_index set (view c.item-item.result) (items_view (drop (suc i) vs)) c.in_err-j.field-0.0 (sym c.in_err-j.ensures))

pub returns-then-has_index-clause-fault : goal.returns-then-has_index-clause-fault
returns-then-has_index-clause-fault c memory =
    let set = c.loop-item.set.items in
    let vs = c.args.items.now in
    let i = c.loop-item.item-index in
    let j = c.in_ok-j.j in
    let again : has_index j set ≡ true = sym (rw c.deref.ensures.value at c.has_index.ensures) ∙ c.if-has_index.true in
    c.loop-item.invariant
    ∙ ap (λ w. set_from set (items_view w)) (next_item vs i c.item-item.result c.loop-item-test.true c.item-item.is)
    ∙ set_from-again set j (view c.item-item.result) (items_view (drop (suc i) vs)) (sym c.in_ok-j.ensures) again

pub returns-in_err-put_index-clause-fault : goal.returns-in_err-put_index-clause-fault
returns-in_err-put_index-clause-fault c =
    let p = err_from_is_err_and c.from_residual-in_err-put_index.result c.from_residual-in_err-put_index.ensures.1 in
    rw p.1 (λ other. absurd (other p.2))

pub returns-clause-ok : goal.returns-clause-ok
returns-clause-ok c =
    c.loop-item.invariant ∙ ap (λ w. set_from c.loop-item.set.items (items_view w)) (drop_all c.loop-item.item-index c.args.items.now c.loop-item-test.false)
