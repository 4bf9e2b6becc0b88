use Rattle.std.proofs.Common.{add-one, ap, arith, drop, length, map, suc, ◌+◌, ◌∙◌, ◌<◌, ◌≡◌}
use Rattle.std.proofs.lemmas.List.{drop_all}
use Rattle.std.proofs.lemmas.Result.{err_from_is_err_and}
use Rattle.serde_json.specs.View.{items_view, view}
use Rattle.pm_json.proofs.FaceTurns.{faces_from-end, faces_from-full, faces_from-item, faces_from-no_face, faces_from-no_items, put_face}
use Rattle.pm_json.proofs.RowEnds.{next_item}
use Rattle.pm_json.specs.Readings.{faces_from, with_front}
use Rattle.pm_json.proofs.lattice.read_faces.Goals as goal
use Rattle.pm_limits.specs.Limits.{most_faces}

pub loop-item-preserved : goal.loop-item-preserved
loop-item-preserved c =
    let inv = c.loop-item.invariant in
    let rows = map (λ r. r.items) c.loop-item.faces.items in
    let m = c.args.before + length c.loop-item.faces.items in
    let k = c.loop-item.places in
    let vs = c.args.items.now in
    let i = c.loop-item.item-index in
    let ds = items_view (drop (suc i) vs) in
    let room : m < most_faces = omega (arith, c.len.ensures, c.if-before-len-ge-MOST_FACES.false) in
    let p = put_face (λ r. r.items) c.args.before k c.loop-item.faces.items c.push.new.self.items c.in_ok-face.face ds c.in_ok-push.ensures.items in
    let one = p.one in
    let sum = p.sum in
    let counted = inv.counted in
    let few = c.in_ok-face.ensures.few in
    let long : c.len-places.result ≡ length c.in_ok-face.face.items = omega (arith, c.len-places.ensures, c.in_ok-face.face.ok) in
    record {
      read = rw add-one (inv.read
          ∙ ap (λ w. with_front rows (faces_from m k (items_view w))) (next_item vs i c.item-item.result c.loop-item-test.true c.item-item.is)
          ∙ faces_from-item rows c.in_ok-face.face.items m k (view c.item-item.result) (items_view c.in_ok-indices.indices.now) ds c.in_ok-indices.ensures.ok room c.in_ok-face.ensures.ok
          ∙ rw long p.goes_on);
      few = omega arith;
      counted = omega arith;
      places = omega arith;
      indices = p.indices inv.indices c.in_ok-face.ensures.form;
    }

pub returns-in_err-indices-clause-fault : goal.returns-in_err-indices-clause-fault
returns-in_err-indices-clause-fault c =
    let rows = map (λ r. r.items) c.loop-item.faces.items in
    let m = c.args.before + length c.loop-item.faces.items in
    let k = c.loop-item.places in
    let vs = c.args.items.now in
    let i = c.loop-item.item-index in
    let p = err_from_is_err_and c.from_residual.result c.from_residual.ensures.1 in
    rw (p.1, p.2) (λ memory. c.loop-item.invariant.read
    ∙ ap (λ w. with_front rows (faces_from m k (items_view w))) (next_item vs i c.item-item.result c.loop-item-test.true c.item-item.is)
    ∙ faces_from-no_items rows m k (view c.item-item.result) (items_view (drop (suc i) vs)) c.in_err-indices.field-0.0 c.in_err-indices.ensures.fault)

pub returns-then-before-len-ge-MOST_FACES-clause-fault : goal.returns-then-before-len-ge-MOST_FACES-clause-fault
returns-then-before-len-ge-MOST_FACES-clause-fault c memory =
    let rows = map (λ r. r.items) c.loop-item.faces.items in
    let m = c.args.before + length c.loop-item.faces.items in
    let k = c.loop-item.places in
    let vs = c.args.items.now in
    let i = c.loop-item.item-index in
    c.loop-item.invariant.read
    ∙ ap (λ w. with_front rows (faces_from m k (items_view w))) (next_item vs i c.item-item.result c.loop-item-test.true c.item-item.is)
    ∙ faces_from-full rows m k (view c.item-item.result) (items_view c.in_ok-indices.indices.now) (items_view (drop (suc i) vs)) c.in_ok-indices.ensures.ok
    (omega (arith, c.len.ensures, c.if-before-len-ge-MOST_FACES.true))

pub returns-in_err-face-clause-fault : goal.returns-in_err-face-clause-fault
returns-in_err-face-clause-fault c =
    let rows = map (λ r. r.items) c.loop-item.faces.items in
    let m = c.args.before + length c.loop-item.faces.items in
    let k = c.loop-item.places in
    let vs = c.args.items.now in
    let i = c.loop-item.item-index in
    let room : m < most_faces = omega (arith, c.len.ensures, c.if-before-len-ge-MOST_FACES.false) in
    let p = err_from_is_err_and c.from_residual-in_err-face.result c.from_residual-in_err-face.ensures.1 in
    rw (p.1, p.2) (λ memory. c.loop-item.invariant.read
    ∙ ap (λ w. with_front rows (faces_from m k (items_view w))) (next_item vs i c.item-item.result c.loop-item-test.true c.item-item.is)
    ∙ faces_from-no_face rows m k (view c.item-item.result) (items_view c.in_ok-indices.indices.now) (items_view (drop (suc i) vs)) c.in_err-face.field-0.0 c.in_ok-indices.ensures.ok room
    (c.in_err-face.ensures.fault memory))

pub returns-in_err-push-clause-fault : goal.returns-in_err-push-clause-fault
returns-in_err-push-clause-fault c =
    let p = err_from_is_err_and c.from_residual-in_err-push.result c.from_residual-in_err-push.ensures.1 in
    rw p.1 (λ other. absurd (other p.2))

pub returns-clause-ok : goal.returns-clause-ok
returns-clause-ok c =
    let rows = map (λ r. r.items) c.loop-item.faces.items in
    let m = c.args.before + length c.loop-item.faces.items in
    c.loop-item.invariant.read
    ∙ ap (λ vs. with_front rows (faces_from m c.loop-item.places (items_view vs))) (drop_all c.loop-item.item-index c.args.items.now c.loop-item-test.false)
    ∙ faces_from-end rows m c.loop-item.places

pub returns-clause-few : goal.returns-clause-few
returns-clause-few c = c.loop-item.invariant.few

pub returns-clause-form : goal.returns-clause-form
returns-clause-form c = c.loop-item.invariant.indices
