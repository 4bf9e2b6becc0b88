use Rattle.pm_refine.proofs.ObjectRefinements.{err_as, ok_four, refinement_is, shown_by_fans}
use Rattle.pm_refine.proofs.objects.refinement_of.Goals as goal
use Rattle.pm_refine.specs.CutRows.{intersection_of}
use Rattle.std.proofs.Common.{map}

pub returns-clause-refinement : goal.returns-clause-refinement
returns-clause-refinement c =
    ok_four c.common_refinement.result
    (λ r p q s t. refinement_is c.args.a.now.state c.args.b.now.state _ _ c.in_ok-first.ensures.fan c.in_ok-second.ensures.fan r.lineality.items (map intersection_of r.cones.items) r.rays.items (map (λ s. s.items) r.sets.items) p q s t)
    (rw (c.deref.ensures.value, c.deref-2.ensures.value, c.deref-3.ensures.value, c.deref-4.ensures.value, c.cols_at.ensures.value) at c.common_refinement.ensures.refined)
    c.common_refinement.ensures.rays
    (rw (c.deref.ensures.value, c.deref-2.ensures.value, c.deref-3.ensures.value, c.deref-4.ensures.value, c.cols_at.ensures.value) at c.common_refinement.ensures.orders)
    c.common_refinement.ensures.sets

pub returns-clause-cols : goal.returns-clause-cols
returns-clause-cols c = rw c.cols_at.ensures.value at c.common_refinement.ensures.cols

pub returns-clause-failed : goal.returns-clause-failed
returns-clause-failed c =
    err_as c.common_refinement.result
    (λ e h. shown_by_fans c.args.a.now.state c.args.b.now.state _ _ c.in_ok-first.ensures.fan c.in_ok-second.ensures.fan e h)
    (rw (c.deref.ensures.value, c.deref-2.ensures.value, c.deref-3.ensures.value, c.deref-4.ensures.value, c.cols_at.ensures.value) at c.common_refinement.ensures.failed)
