use Rattle.std.proofs.Common.{add-one, ap, arith, drop, length, suc, sym, ◌+◌, ◌∙◌, ◌<◌, ◌≡◌, ◌≤◌, false, true}
use Rattle.std.proofs.lemmas.List.{drop_all}
use Rattle.std.proofs.lemmas.Result.{err_from_is_err_and}
use Rattle.serde_json.specs.View.{items_view, view}
use Rattle.pm_json.proofs.FaceTurns.{face_from-again, face_from-full, face_from-no_index, put}
use Rattle.pm_json.proofs.RowEnds.{next_item}
use Rattle.pm_json.specs.Readings.{face_from, has_index}
use Rattle.pm_json.proofs.lattice.read_face.Goals as goal
use Rattle.pm_limits.specs.Limits.{most_places}

pub loop-item-preserved : goal.loop-item-preserved
loop-item-preserved c =
    let face = c.loop-item.face.items in
    let vs = c.args.items.now in
    let i = c.loop-item.item-index in
    let j = c.in_ok-j.j in
    let other : has_index j face ≡ false = sym (rw c.deref.ensures.value at c.has_index.ensures) ∙ c.if-has_index.false in
    let room : c.args.before + length face < most_places = omega (arith, c.len.ensures, c.if-before-len-ge-MOST_PLACES.false) in
    let p = put c.args.before j face c.put_index.new.set.items (view c.item-item.result) (items_view (drop (suc i) vs)) (sym c.in_ok-j.ensures) other room c.loop-item.invariant.2 c.in_ok-put_index.ensures in (
      rw add-one (c.loop-item.invariant.0
          ∙ ap (λ w. face_from (c.args.before + length face) face (items_view w)) (next_item vs i c.item-item.result c.loop-item-test.true c.item-item.is)
          ∙ p.goes_on),
      p.few,
      p.indices,
    )

pub returns-in_err-j-clause-fault : goal.returns-in_err-j-clause-fault
returns-in_err-j-clause-fault c =
    let face = c.loop-item.face.items in
    let k = c.args.before + length face in
    let vs = c.args.items.now in
    let i = c.loop-item.item-index in
    let p = err_from_is_err_and c.from_residual.result c.from_residual.ensures.1 in
    rw (p.1, p.2) (λ memory. c.loop-item.invariant.0
    ∙ ap (λ w. face_from k face (items_view w)) (next_item vs i c.item-item.result c.loop-item-test.true c.item-item.is)
    ∙ face_from-no_index k face (view c.item-item.result) (items_view (drop (suc i) vs)) c.in_err-j.field-0.0 (sym c.in_err-j.ensures))

pub returns-then-has_index-clause-fault : goal.returns-then-has_index-clause-fault
returns-then-has_index-clause-fault c memory =
    let face = c.loop-item.face.items in
    let k = c.args.before + length face in
    let vs = c.args.items.now in
    let i = c.loop-item.item-index in
    let j = c.in_ok-j.j in
    let again : has_index j face ≡ true = sym (rw c.deref.ensures.value at c.has_index.ensures) ∙ c.if-has_index.true in
    c.loop-item.invariant.0
    ∙ ap (λ w. face_from k face (items_view w)) (next_item vs i c.item-item.result c.loop-item-test.true c.item-item.is)
    ∙ face_from-again k j face (view c.item-item.result) (items_view (drop (suc i) vs)) (sym c.in_ok-j.ensures) again

pub returns-then-before-len-ge-MOST_PLACES-clause-fault : goal.returns-then-before-len-ge-MOST_PLACES-clause-fault
returns-then-before-len-ge-MOST_PLACES-clause-fault c memory =
    let face = c.loop-item.face.items in
    let k = c.args.before + length face in
    let vs = c.args.items.now in
    let i = c.loop-item.item-index in
    let j = c.in_ok-j.j in
    let other : has_index j face ≡ false = sym (rw c.deref.ensures.value at c.has_index.ensures) ∙ c.if-has_index.false in
    let full : most_places ≤ k = omega (arith, c.len.ensures, c.if-before-len-ge-MOST_PLACES.true) in
    c.loop-item.invariant.0
    ∙ ap (λ w. face_from k face (items_view w)) (next_item vs i c.item-item.result c.loop-item-test.true c.item-item.is)
    ∙ face_from-full k j face (view c.item-item.result) (items_view (drop (suc i) vs)) (sym c.in_ok-j.ensures) other full

pub returns-in_err-put_index-clause-fault : goal.returns-in_err-put_index-clause-fault
returns-in_err-put_index-clause-fault c =
    let p = err_from_is_err_and c.from_residual-in_err-put_index.result c.from_residual-in_err-put_index.ensures.1 in
    rw p.1 (λ other. absurd (other p.2))

pub returns-clause-ok : goal.returns-clause-ok
returns-clause-ok c =
    let face = c.loop-item.face.items in
    c.loop-item.invariant.0 ∙ ap (λ w. face_from (c.args.before + length face) face (items_view w)) (drop_all c.loop-item.item-index c.args.items.now c.loop-item-test.false)

pub returns-clause-few : goal.returns-clause-few
returns-clause-few c = c.loop-item.invariant.1

pub returns-clause-form : goal.returns-clause-form
returns-clause-form c = c.loop-item.invariant.2
