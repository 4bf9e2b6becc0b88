use Rattle.pm_refine.proofs.ObjectRefinements.{sets_small}
use Rattle.pm_refine.proofs.RefinedForms.{forms_of}
use Rattle.pm_refine.proofs.objects.refine.Goals as goal
use Rattle.pm_refine.specs.CutRows.{intersection_of}
use Rattle.pm_laws_normal_fans.proofs.Places.{map_length}
use Rattle.pm_object.specs.Known.{cols_at}
use Rattle.pm_refine.specs.ObjectRefinements.{HaveForms}
use Rattle.std.proofs.Common.{arith, map, subst, sym}

pub refined_fan-requires-clause-sets : goal.refined_fan-requires-clause-sets
refined_fan-requires-clause-sets c =
    let r = c.in-Ok.refinement in
    sets_small r.rays.items (map intersection_of r.cones.items) (map (λ s. s.items) r.sets.items) c.in-Ok.ensures.refinement.refinement.ray_sets (let n = c.if-len-gt-MOST_ROWS.false in let e = c.len.ensures in omega arith)

pub returns-clause-forms : goal.returns-clause-forms
returns-clause-forms c =
    let r = c.in-Ok.refinement in
    let of = c.in-Ok.ensures in
    let is = rw c.cols_at.ensures.value at c.in_ok-refined_fan.ensures.fan in
    let columns = rw c.cols_at.ensures.value at c.cols_at.ensures.some in
    let few = rw c.cols_at.ensures.value at c.cols_at.ensures.few in
    subst (HaveForms (cols_at c.args.a.now.state)) (sym is)
    (forms_of (cols_at c.args.a.now.state) r.lineality.items r.rays.items (map intersection_of r.cones.items) (map (λ s. s.items) r.sets.items) columns few
    (let n = c.if-len-gt-MOST_ROWS.false in let e = c.len.ensures in omega arith)
    (let n = c.if-len-gt-MOST_ROWS-2.false in let e = c.len-else-len-gt-MOST_ROWS.ensures in let l = map_length intersection_of r.cones.items in omega arith)
    of.few_lines of.cols.0 of.cols.1 of.primitive c.in_ok-refined_fan.ensures.in_range.0 c.in_ok-refined_fan.ensures.in_range.1 of.refinement.refinement.ray_sets)
