use Rattle.pm_laws_normal_fans.proofs.Places.{map_length}
use Rattle.pm_laws_normal_fans.specs.Refinements.{AreAllRays}
use Rattle.pm_refine.proofs.Answered.{first_refused, kept_cols, lines_cols, lines_few, no_cols, none_few, none_primitive, orders_empty, orders_of, rays_cols, rays_primitive, refined_empty, second_refused, step_fail}
use Rattle.pm_refine.proofs.Found.{refined}
use Rattle.pm_refine.proofs.RaysMade.{ray_sets_found}
use Rattle.pm_refine.proofs.refinement.common_refinement.Goals as goal
use Rattle.pm_refine.proofs.refinement.common_refinement.Goals.{then-is_empty-via-else-is_empty+then-is_empty-2, then-is_empty-via-then-is_empty}
use Rattle.pm_refine.specs.CutRows.{cut_rows, intersection_of}
use Rattle.std.proofs.lemmas.Bool.{eqb-false, eqb-true}
use Rattle.std.proofs.Common.{ap, inl, inr, length, map, sym, ◌∙◌}
use Rattle.std.proofs.lemmas.Result.{err_from_is_err_and}

pub returns-then-is_empty-clause-refined : goal.returns-then-is_empty-clause-refined
returns-then-is_empty-clause-refined c = refined_empty (λ v. v.items) c.args.cols c.args.first.now c.args.second.now c.args.first_lines.now c.args.second_lines.now c.new-then-is_empty.result.items (map intersection_of c.new.result.items)
    (elim c.then-is_empty.branch [
      | then-is_empty-via-then-is_empty w ↦ inl (eqb-true (length c.args.first.now) 0 (sym c.is_empty.ensures ∙ w.if-is_empty.true))
      | then-is_empty-via-else-is_empty+then-is_empty-2 w ↦ inr (eqb-true (length c.args.second.now) 0 (sym w.is_empty-else-is_empty.ensures ∙ w.if-is_empty-2.true))
    ]) c.new-then-is_empty.ensures.items (ap (map intersection_of) c.new.ensures.items)

pub returns-in_err-firsts-clause-failed : goal.returns-in_err-firsts-clause-failed
returns-in_err-firsts-clause-failed c =
    let p = err_from_is_err_and c.from_residual.result c.from_residual.ensures.1 in
    rw (p.1, p.2) (first_refused (λ v. v.items) c.args.cols c.args.first.now c.args.second.now c.args.first_lines.now c.args.second_lines.now c.in_err-firsts.field-0.0 (eqb-false (length c.args.second.now) 0 (sym c.is_empty-else-is_empty.ensures ∙ c.if-is_empty-2.false)) c.in_err-firsts.ensures.failed)

pub returns-in_err-seconds-clause-failed : goal.returns-in_err-seconds-clause-failed
returns-in_err-seconds-clause-failed c =
    let p = err_from_is_err_and c.from_residual-in_err-seconds.result c.from_residual-in_err-seconds.ensures.1 in
    rw (p.1, p.2) (second_refused (λ v. v.items) c.args.cols c.args.first.now c.args.second.now c.args.first_lines.now c.args.second_lines.now c.in_err-seconds.field-0.0 (eqb-false (length c.args.first.now) 0 (sym c.is_empty.ensures ∙ c.if-is_empty.false)) c.in_err-seconds.ensures.failed)

pub returns-in_err-kept-clause-failed : goal.returns-in_err-kept-clause-failed
returns-in_err-kept-clause-failed c =
    let p = err_from_is_err_and c.from_residual-in_err-kept.result c.from_residual-in_err-kept.ensures.1 in
    rw (p.1, p.2) (step_fail c.args.cols _ _ (map cut_rows c.in_ok-firsts.firsts.items) (map cut_rows c.in_ok-seconds.seconds.items) c.requires.first c.requires.second c.in_ok-firsts.ensures.facets c.in_ok-seconds.ensures.facets c.in_err-kept.field-0.0 (rw (c.deref.ensures.value, c.deref-2.ensures.value) at c.in_err-kept.ensures.failed))

pub returns-clause-refined : goal.returns-clause-refined
returns-clause-refined c = refined c.args.cols _ _ (map cut_rows c.in_ok-firsts.firsts.items) (map cut_rows c.in_ok-seconds.seconds.items) c.requires.first c.requires.second c.in_ok-firsts.ensures.facets c.in_ok-seconds.ensures.facets (length c.in_ok-firsts.firsts.items) c.in_ok-kept.kept.lineality.items (map intersection_of c.in_ok-kept.kept.cones.items) (sym (map_length cut_rows c.in_ok-firsts.firsts.items)) (rw (c.deref.ensures.value, c.deref-2.ensures.value) at c.in_ok-kept.ensures.kept)

pub returns-clause-rays : goal.returns-clause-rays
returns-clause-rays c =
    let cols = kept_cols c.args.cols (map cut_rows c.in_ok-firsts.firsts.items) (map cut_rows c.in_ok-seconds.seconds.items) (length c.in_ok-firsts.firsts.items) 0 c.in_ok-kept.kept.lineality.items (map intersection_of c.in_ok-kept.kept.cones.items) (rw (c.deref.ensures.value, c.deref-2.ensures.value) at c.in_ok-kept.ensures.kept) in
    let all : AreAllRays (map intersection_of c.deref-3.result.now) c.in_ok-rays.rays.items = c.in_ok-rays.ensures c.args.cols (rw c.deref-3.ensures.value cols) in
    let whole : AreAllRays (map intersection_of c.in_ok-kept.kept.cones.items) c.in_ok-rays.rays.items = rw c.deref-3.ensures.value at all in
    whole

pub returns-clause-sets : goal.returns-clause-sets
returns-clause-sets c = ray_sets_found c.in_ok-rays.rays.items (map intersection_of c.in_ok-kept.kept.cones.items) _ (rw (c.deref-4.ensures.value, c.deref-5.ensures.value) at c.in_ok-sets.ensures)

pub returns-then-is_empty-clause-orders : goal.returns-then-is_empty-clause-orders
returns-then-is_empty-clause-orders c = orders_empty c.args.cols _ _ c.new-then-is_empty.result.items (map intersection_of c.new.result.items) c.new-then-is_empty-2.result.items
    (refined_empty (λ v. v.items) c.args.cols c.args.first.now c.args.second.now c.args.first_lines.now c.args.second_lines.now c.new-then-is_empty.result.items (map intersection_of c.new.result.items)
    (elim c.then-is_empty.branch [
      | then-is_empty-via-then-is_empty w ↦ inl (eqb-true (length c.args.first.now) 0 (sym c.is_empty.ensures ∙ w.if-is_empty.true))
      | then-is_empty-via-else-is_empty+then-is_empty-2 w ↦ inr (eqb-true (length c.args.second.now) 0 (sym w.is_empty-else-is_empty.ensures ∙ w.if-is_empty-2.true))
    ]) c.new-then-is_empty.ensures.items (ap (map intersection_of) c.new.ensures.items)) (ap (map intersection_of) c.new.ensures.items) c.new-then-is_empty-2.ensures.items

pub returns-clause-orders : goal.returns-clause-orders
returns-clause-orders c =
    let cols = kept_cols c.args.cols (map cut_rows c.in_ok-firsts.firsts.items) (map cut_rows c.in_ok-seconds.seconds.items) (length c.in_ok-firsts.firsts.items) 0 c.in_ok-kept.kept.lineality.items (map intersection_of c.in_ok-kept.kept.cones.items) (rw (c.deref.ensures.value, c.deref-2.ensures.value) at c.in_ok-kept.ensures.kept) in
    let all : AreAllRays (map intersection_of c.deref-3.result.now) c.in_ok-rays.rays.items = c.in_ok-rays.ensures c.args.cols (rw c.deref-3.ensures.value cols) in
    let whole : AreAllRays (map intersection_of c.in_ok-kept.kept.cones.items) c.in_ok-rays.rays.items = rw c.deref-3.ensures.value at all in
    λ ff fg. orders_of c.args.cols _ _ c.in_ok-kept.kept.lineality.items (map intersection_of c.in_ok-kept.kept.cones.items) c.in_ok-rays.rays.items
    (refined c.args.cols _ _ (map cut_rows c.in_ok-firsts.firsts.items) (map cut_rows c.in_ok-seconds.seconds.items) c.requires.first c.requires.second c.in_ok-firsts.ensures.facets c.in_ok-seconds.ensures.facets (length c.in_ok-firsts.firsts.items) c.in_ok-kept.kept.lineality.items (map intersection_of c.in_ok-kept.kept.cones.items) (sym (map_length cut_rows c.in_ok-firsts.firsts.items)) (rw (c.deref.ensures.value, c.deref-2.ensures.value) at c.in_ok-kept.ensures.kept) ff fg) whole ff fg

pub returns-then-is_empty-clause-cols : goal.returns-then-is_empty-clause-cols
returns-then-is_empty-clause-cols c = no_cols c.args.cols c.new-then-is_empty-2.result.items c.new-then-is_empty.result.items c.new-then-is_empty-2.ensures.items c.new-then-is_empty.ensures.items

pub returns-clause-cols : goal.returns-clause-cols
returns-clause-cols c =
    let before = rw (c.deref.ensures.value, c.deref-2.ensures.value) at c.in_ok-kept.ensures.kept in
    let cols = kept_cols c.args.cols (map cut_rows c.in_ok-firsts.firsts.items) (map cut_rows c.in_ok-seconds.seconds.items) (length c.in_ok-firsts.firsts.items) 0 c.in_ok-kept.kept.lineality.items (map intersection_of c.in_ok-kept.kept.cones.items) before in
    let all : AreAllRays (map intersection_of c.deref-3.result.now) c.in_ok-rays.rays.items = c.in_ok-rays.ensures c.args.cols (rw c.deref-3.ensures.value cols) in
    let whole : AreAllRays (map intersection_of c.in_ok-kept.kept.cones.items) c.in_ok-rays.rays.items = rw c.deref-3.ensures.value at all in (
      rays_cols c.args.cols (map intersection_of c.in_ok-kept.kept.cones.items) c.in_ok-rays.rays.items cols whole,
      lines_cols c.args.cols (map cut_rows c.in_ok-firsts.firsts.items) (map cut_rows c.in_ok-seconds.seconds.items) (length c.in_ok-firsts.firsts.items) 0 c.in_ok-kept.kept.lineality.items (map intersection_of c.in_ok-kept.kept.cones.items) before,
    )

pub returns-then-is_empty-clause-primitive : goal.returns-then-is_empty-clause-primitive
returns-then-is_empty-clause-primitive c = none_primitive c.new-then-is_empty-2.result.items c.new-then-is_empty-2.ensures.items

pub returns-then-is_empty-clause-few_lines : goal.returns-then-is_empty-clause-few_lines
returns-then-is_empty-clause-few_lines c = none_few c.args.cols c.new-then-is_empty.result.items c.new-then-is_empty.ensures.items

pub returns-clause-primitive : goal.returns-clause-primitive
returns-clause-primitive c =
    let before = rw (c.deref.ensures.value, c.deref-2.ensures.value) at c.in_ok-kept.ensures.kept in
    let cols = kept_cols c.args.cols (map cut_rows c.in_ok-firsts.firsts.items) (map cut_rows c.in_ok-seconds.seconds.items) (length c.in_ok-firsts.firsts.items) 0 c.in_ok-kept.kept.lineality.items (map intersection_of c.in_ok-kept.kept.cones.items) before in
    let all : AreAllRays (map intersection_of c.deref-3.result.now) c.in_ok-rays.rays.items = c.in_ok-rays.ensures c.args.cols (rw c.deref-3.ensures.value cols) in
    let whole : AreAllRays (map intersection_of c.in_ok-kept.kept.cones.items) c.in_ok-rays.rays.items = rw c.deref-3.ensures.value at all in
    rays_primitive c.args.cols (map cut_rows c.in_ok-firsts.firsts.items) (map cut_rows c.in_ok-seconds.seconds.items) (length c.in_ok-firsts.firsts.items) 0 c.in_ok-kept.kept.lineality.items (map intersection_of c.in_ok-kept.kept.cones.items) c.in_ok-rays.rays.items before whole

pub returns-clause-few_lines : goal.returns-clause-few_lines
returns-clause-few_lines c =
    let before = rw (c.deref.ensures.value, c.deref-2.ensures.value) at c.in_ok-kept.ensures.kept in
    lines_few c.args.cols (map cut_rows c.in_ok-firsts.firsts.items) (map cut_rows c.in_ok-seconds.seconds.items) (length c.in_ok-firsts.firsts.items) 0 c.in_ok-kept.kept.lineality.items (map intersection_of c.in_ok-kept.kept.cones.items) before
