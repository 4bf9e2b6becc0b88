-- Each turn puts the next set below the others, or ends at the first fault or behind the column count.
use Rattle.std.proofs.Common.{add-one, ap, arith, drop, length, map, suc, sym, ◌∙◌, ◌<◌, ◌≡◌, false, true}
use Rattle.std.proofs.lemmas.List.{drop_all, take_rest}
use Rattle.std.proofs.lemmas.Result.{err_from_is_err_and}
use Rattle.pm_json.proofs.Readings.{with_front_sets, with_front_sets-nil}
use Rattle.pm_json.proofs.SetTurns.{sets_below, sets_from-end, sets_from-full, sets_from-item, sets_from-next, sets_from-no_items, sets_from-no_set, sets_from-not_stated, sets_from-stated}
use Rattle.pm_json.specs.Readings.{sets_from}
use Rattle.std.specs.Prelude.{is_some}
use Rattle.serde_json.specs.Find.{as_object}
use Rattle.serde_json.specs.View.{items_view, view}
use Rattle.pm_json.proofs.sets.read_set_list.Goals as goal
use Rattle.pm_limits.specs.Limits.{most_rows}

pub loop-i-init : goal.loop-i-init
loop-i-init c = rw c.new-rows.ensures.items (sym (with_front_sets-nil (sets_from 0 (items_view c.args.items.now))))

pub loop-i-preserved : goal.loop-i-preserved
loop-i-preserved c =
    let sets = map (λ r. r.items) c.loop-i.rows.items in
    let k = length c.loop-i.rows.items in
    let vs = c.args.items.now in
    let d = c.index-items-i.result in
    let ds = items_view (drop (suc c.loop-i.i) vs) in
    let listed : is_some (as_object (view d)) ≡ false = sym c.is_object.ensures ∙ c.if-is_object.false in
    let room : k < most_rows = omega (arith, c.len.ensures, c.loop-i.rows.ok, c.if-len-ge-MOST_ROWS.false) in
    rw add-one (sets_from-next sets k vs c.loop-i.i d c.loop-i-test.true c.index-items-i.is c.loop-i.invariant
    ∙ sets_from-item sets c.in_ok-set.set.items k (view d) (items_view c.in_ok-indices.indices.now) ds listed c.in_ok-indices.ensures.ok room c.in_ok-set.ensures.ok
    ∙ sets_below (λ r. r.items) c.loop-i.rows.items c.push.new.self.items c.in_ok-set.set ds c.in_ok-push.ensures.items)

pub returns-then-is_object-clause-ok : goal.returns-then-is_object-clause-ok
returns-then-is_object-clause-ok c =
    let sets = map (λ r. r.items) c.loop-i.rows.items in
    let k = length c.loop-i.rows.items in
    let vs = c.args.items.now in
    let d = c.index-items-i.result in
    let object : is_some (as_object (view d)) ≡ true = sym c.is_object.ensures ∙ c.if-is_object.true in
    sets_from-next sets k vs c.loop-i.i d c.loop-i-test.true c.index-items-i.is c.loop-i.invariant
    ∙ sets_from-stated sets k c.in_ok-n.n (view d) (items_view (drop (suc c.loop-i.i) vs)) object
    (rw (add-one, take_rest vs (suc c.loop-i.i)) at c.in_ok-n.ensures.ok)

pub returns-then-is_object-clause-fault : goal.returns-then-is_object-clause-fault
returns-then-is_object-clause-fault c = tt

pub returns-in_err-n-clause-fault : goal.returns-in_err-n-clause-fault
returns-in_err-n-clause-fault c =
    let sets = map (λ r. r.items) c.loop-i.rows.items in
    let k = length c.loop-i.rows.items in
    let vs = c.args.items.now in
    let d = c.index-items-i.result in
    let fault = c.in_err-n.field-0.0 in
    let object : is_some (as_object (view d)) ≡ true = sym c.is_object.ensures ∙ c.if-is_object.true in
    let p = err_from_is_err_and c.from_residual.result c.from_residual.ensures.1 in
    rw (p.1, p.2) (λ memory. sets_from-next sets k vs c.loop-i.i d c.loop-i-test.true c.index-items-i.is c.loop-i.invariant
    ∙ sets_from-not_stated sets k (view d) (items_view (drop (suc c.loop-i.i) vs)) fault object
    (rw (add-one, take_rest vs (suc c.loop-i.i)) at c.in_err-n.ensures.fault))

pub returns-in_err-indices-clause-fault : goal.returns-in_err-indices-clause-fault
returns-in_err-indices-clause-fault c =
    let sets = map (λ r. r.items) c.loop-i.rows.items in
    let k = length c.loop-i.rows.items in
    let vs = c.args.items.now in
    let d = c.index-items-i.result in
    let fault = c.in_err-indices.field-0.0 in
    let listed : is_some (as_object (view d)) ≡ false = sym c.is_object.ensures ∙ c.if-is_object.false in
    let p = err_from_is_err_and c.from_residual-in_err-indices.result c.from_residual-in_err-indices.ensures.1 in
    rw (p.1, p.2) (λ memory. sets_from-next sets k vs c.loop-i.i d c.loop-i-test.true c.index-items-i.is c.loop-i.invariant
    ∙ sets_from-no_items sets k (view d) (items_view (drop (suc c.loop-i.i) vs)) fault listed c.in_err-indices.ensures.fault)

pub returns-then-len-ge-MOST_ROWS-clause-fault : goal.returns-then-len-ge-MOST_ROWS-clause-fault
returns-then-len-ge-MOST_ROWS-clause-fault c memory =
    let sets = map (λ r. r.items) c.loop-i.rows.items in
    let k = length c.loop-i.rows.items in
    let vs = c.args.items.now in
    let d = c.index-items-i.result in
    let ds = items_view (drop (suc c.loop-i.i) vs) in
    let listed : is_some (as_object (view d)) ≡ false = sym c.is_object.ensures ∙ c.if-is_object.false in
    sets_from-next sets k vs c.loop-i.i d c.loop-i-test.true c.index-items-i.is c.loop-i.invariant
    ∙ sets_from-full sets k (view d) (items_view c.in_ok-indices.indices.now) ds listed c.in_ok-indices.ensures.ok
    (omega (arith, c.len.ensures, c.loop-i.rows.ok, c.if-len-ge-MOST_ROWS.true))

pub returns-in_err-set-clause-fault : goal.returns-in_err-set-clause-fault
returns-in_err-set-clause-fault c =
    let sets = map (λ r. r.items) c.loop-i.rows.items in
    let k = length c.loop-i.rows.items in
    let vs = c.args.items.now in
    let d = c.index-items-i.result in
    let ds = items_view (drop (suc c.loop-i.i) vs) in
    let fault = c.in_err-set.field-0.0 in
    let listed : is_some (as_object (view d)) ≡ false = sym c.is_object.ensures ∙ c.if-is_object.false in
    let room : k < most_rows = omega (arith, c.len.ensures, c.loop-i.rows.ok, c.if-len-ge-MOST_ROWS.false) in
    let p = err_from_is_err_and c.from_residual-in_err-set.result c.from_residual-in_err-set.ensures.1 in
    rw (p.1, p.2) (λ memory. sets_from-next sets k vs c.loop-i.i d c.loop-i-test.true c.index-items-i.is c.loop-i.invariant
    ∙ sets_from-no_set sets k (view d) (items_view c.in_ok-indices.indices.now) ds fault listed c.in_ok-indices.ensures.ok room
    (c.in_err-set.ensures.fault memory))

pub returns-clause-ok : goal.returns-clause-ok
returns-clause-ok c =
    let sets = map (λ r. r.items) c.loop-i.rows.items in
    let k = length c.loop-i.rows.items in
    c.loop-i.invariant
    ∙ ap (λ vs. with_front_sets sets (sets_from k (items_view vs))) (drop_all c.loop-i.i c.args.items.now c.loop-i-test.false)
    ∙ sets_from-end sets k

pub returns-in_err-push-clause-fault : goal.returns-in_err-push-clause-fault
returns-in_err-push-clause-fault c =
    let p = err_from_is_err_and c.from_residual-in_err-push.result c.from_residual-in_err-push.ensures.1 in
    rw p.1 (λ other. absurd (other p.2))
