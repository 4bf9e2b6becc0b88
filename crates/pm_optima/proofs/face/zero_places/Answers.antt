use Rattle.pm_vector.specs.Rows.{dot}
use Rattle.pm_vector.specs.Bases.{row_at}
use Rattle.pm_optima.proofs.Places.{VanishesAt, one_left, one_more, places_form}
use Rattle.pm_optima.proofs.Refusals.{shows_product}
use Rattle.pm_optima.proofs.face.zero_places.Goals as goal
use Rattle.pm_optima.proofs.face.zero_places.Goals.{else-product-eq0, then-product-eq0+in_ok-push}
use Rattle.pm_optima.specs.Objectives.{AreZeroPlaces}
use Rattle.pm_vector.proofs.Kept.{kept}
use Rattle.std.proofs.Common.{[], ap, arith, length, of_z, subst, sym, to_z, ◌∙◌, ◌≡◌}
use mir.Syntax.{w128}
use Rattle.std.proofs.lemmas.List.{get_or_read}

pub returns-clause-places : goal.returns-clause-places
returns-clause-places c =
    let last : c.loop-i.i ≡ length c.args.rows.now = omega arith in
    subst (λ n. AreZeroPlaces c.args.row.now c.args.rows.now n c.loop-i.places.items) last c.loop-i.invariant.are

pub returns-clause-form : goal.returns-clause-form
returns-clause-form c =
    let few = c.requires.few in
    places_form c.args.row.now c.args.rows.now c.loop-i.i c.loop-i.places.items c.loop-i.invariant (omega arith)

pub returns-in-Err-clause-wide : goal.returns-in-Err-clause-wide
returns-in-Err-clause-wide c =
    let second : c.index-rows-i-in-Err.result ≡ row_at c.args.rows.now c.loop-i.i = get_or_read c.args.rows.now c.loop-i.i c.index-rows-i-in-Err.result c.loop-i-test.true c.index-rows-i-in-Err.is [] in
    let row : c.index-rows-i.result ≡ row_at c.args.rows.now c.loop-i.i = get_or_read c.args.rows.now c.loop-i.i c.index-rows-i.result c.loop-i-test.true c.index-rows-i.is [] in
    shows_product c.args.row.now c.args.rows.now c.loop-i.i c.in_ok-wide_pair-in-Err.field-0 c.loop-i-test.true (rw second at (c.in_ok-wide_pair-in-Err.ensures))
    (rw (c.as_slice.ensures.value, c.as_slice-in-loop-i.ensures.value, row) at c.in-Err.ensures.wide)

pub loop-i-preserved : goal.loop-i-preserved
loop-i-preserved c =
    let row : c.index-rows-i.result ≡ row_at c.args.rows.now c.loop-i.i = get_or_read c.args.rows.now c.loop-i.i c.index-rows-i.result c.loop-i-test.true c.index-rows-i.is [] in
    let product : c.in-Ok.product ≡ dot c.args.row.now (row_at c.args.rows.now c.loop-i.i) = rw (c.as_slice.ensures.value, c.as_slice-in-loop-i.ensures.value, row) at c.in-Ok.ensures.value in
    let few = c.requires.few in
    elim c.if-product-eq0.branch [
      | then-product-eq0+in_ok-push w ↦
          let vanishes : VanishesAt c.args.row.now c.args.rows.now c.loop-i.i = sym product ∙ sym (kept c.in-Ok.product c.in-Ok.ensures.in_range) ∙ ap (to_z w128) w.if-product-eq0.true in
          one_more c.args.row.now c.args.rows.now c.loop-i.i c.loop-i.places.items c.loop-i.invariant c.if-product-eq0.places.items vanishes (let l = c.loop-i-test.true in omega arith) (ap (λ v. v.items) w.places-is ∙ w.in_ok-push.ensures.items)
      | else-product-eq0 w ↦
          rw w.places-is (one_left c.args.row.now c.args.rows.now c.loop-i.i c.loop-i.places.items c.loop-i.invariant (λ z. w.if-product-eq0.false (ap (of_z w128) (product ∙ z))))
    ]
