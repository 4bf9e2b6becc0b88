use Rattle.pm_incidence.proofs.Places.{incidence_is, incidence_next}
use Rattle.pm_incidence.specs.Incidence.{incidence}
use Rattle.pm_types.specs.Right.{IsIncidence}
use Rattle.pm_incidence.proofs.Products.{AllStay-list, listed, wide_in_list}
use Rattle.std.proofs.Common.{ap, append-nil, drop, map, subst, ◌∙◌, ◌≡◌, ◌++◌, []}
use Rattle.std.proofs.lemmas.Result.{err_from_is_err_and}
use Rattle.std.proofs.lemmas.List.{drop_all, take_all}
use Rattle.pm_incidence.proofs.sets.incidence.Goals as goal

pub loop-facet-preserved : goal.loop-facet-preserved
loop-facet-preserved c = (
  incidence_next (λ r. r.items) c.args.facets.now c.args.vertices.now c.loop-facet.facet-index c.facet-item.result c.loop-facet.rows.items c.push.new.self.items c.in_ok-places_by.field-0 c.loop-facet-test.true c.facet-item.is c.loop-facet.invariant.0
      c.in_ok-push.ensures.items c.in_ok-places_by.ensures.ok,
  λ narrow. AllStay-list c.args.facets.now c.args.vertices.now c.loop-facet.facet-index c.facet-item.result c.loop-facet-test.true c.facet-item.is (c.loop-facet.invariant.1 narrow) (c.in_ok-places_by.ensures.stays narrow),
)

pub returns-clause-ok : goal.returns-clause-ok
returns-clause-ok c =
    let none : drop c.loop-facet.facet-index c.args.facets.now ≡ [] = drop_all c.loop-facet.facet-index c.args.facets.now c.loop-facet-test.false in
    rw (c.loop-facet.invariant.0, none, append-nil) c.from_vec.ensures

pub returns-clause-right : goal.returns-clause-right
returns-clause-right c =
    let facets = c.args.facets.now in
    let vertices = c.args.vertices.now in
    let none : drop c.loop-facet.facet-index facets ≡ [] = drop_all c.loop-facet.facet-index facets c.loop-facet-test.false in
    let all : incidence facets vertices ≡ map (λ r. r.items) c.loop-facet.rows.items =
    c.loop-facet.invariant.0 ∙ ap (λ F. map (λ r. r.items) c.loop-facet.rows.items ++ incidence F vertices) none ∙ append-nil (map (λ r. r.items) c.loop-facet.rows.items) in
    rw c.from_vec.ensures (subst (IsIncidence facets vertices) all (incidence_is facets vertices))

pub returns-clause-stays : goal.returns-clause-stays
returns-clause-stays c = λ narrow. rw (take_all c.loop-facet.facet-index c.args.facets.now c.loop-facet-test.false) at (c.loop-facet.invariant.1 narrow)

pub returns-in_err-places_by-clause-failed : goal.returns-in_err-places_by-clause-failed
returns-in_err-places_by-clause-failed c =
    let facets = c.args.facets.now in
    let facet = c.facet-item.result in
    let p = err_from_is_err_and c.from_residual.result c.from_residual.ensures.1 in
    let has = listed facets c.loop-facet.facet-index facet c.loop-facet-test.true c.facet-item.is in
    rw (p.1, p.2) (wide_in_list facets c.args.vertices.now facet c.in_err-places_by.field-0.0 has c.in_err-places_by.ensures.failed)

pub returns-in_err-places_by-clause-total : goal.returns-in_err-places_by-clause-total
returns-in_err-places_by-clause-total c = λ exact.
    let p = err_from_is_err_and c.from_residual.result c.from_residual.ensures.1 in
    rw (p.1, p.2) (c.in_err-places_by.ensures.total exact)
