use Rattle.pm_incidence.proofs.Places.{places_next}
use Rattle.pm_incidence.proofs.Products.{AllStay-row, listed, wide_in_row}
use Rattle.pm_incidence.specs.Incidence.{places_from}
use Rattle.pm_incidence.proofs.sets.places.Goals as goal
use Rattle.pm_incidence.proofs.sets.places.Goals.{then-on+in_ok-push, else-on}
use Rattle.std.proofs.lemmas.Result.{err_from_is_err_and}
use Rattle.std.proofs.Common.{cond, rules, [], ◌∷◌, ◌++◌, ◌≡◌}

pub loop-j-preserved : goal.loop-j-preserved
loop-j-preserved c =
    let more : c.if-on.places.items ≡ cond c.in_ok-on.on (c.loop-j.places.items ++ c.loop-j.j ∷ []) c.loop-j.places.items = elim c.if-on.branch [
      | then-on+in_ok-push w ↦ rw (w.if-on.true, w.places-is) w.in_ok-push.ensures.items
      | else-on w ↦ rw w.if-on.false (search rules)
    ] in (
      places_next c.args.facet.now c.args.vertices.now c.loop-j.j c.index-vertices-j.result (places_from 0 c.args.facet.now c.args.vertices.now) c.loop-j.places.items c.if-on.places.items c.in_ok-on.on c.loop-j-test.true c.index-vertices-j.is
          c.in_ok-on.ensures.value c.loop-j.invariant.0 more,
      λ narrow. AllStay-row (c.args.facet.now ∷ []) c.args.vertices.now c.loop-j.j c.index-vertices-j.result c.loop-j-test.true c.index-vertices-j.is (c.loop-j.invariant.1 narrow) (c.in_ok-on.ensures.stays narrow),
    )

pub returns-in_err-on-clause-failed : goal.returns-in_err-on-clause-failed
returns-in_err-on-clause-failed c =
    let vertices = c.args.vertices.now in
    let vertex = c.index-vertices-j.result in
    let p = err_from_is_err_and c.from_residual.result c.from_residual.ensures.1 in
    let has = listed vertices c.loop-j.j vertex c.loop-j-test.true c.index-vertices-j.is in
    rw (p.1, p.2) (wide_in_row (c.args.facet.now ∷ []) vertices vertex c.in_err-on.field-0.0 has c.in_err-on.ensures.failed)

pub returns-in_err-on-clause-total : goal.returns-in_err-on-clause-total
returns-in_err-on-clause-total c = λ exact.
    let p = err_from_is_err_and c.from_residual.result c.from_residual.ensures.1 in
    rw (p.1, p.2) (c.in_err-on.ensures.total exact)
