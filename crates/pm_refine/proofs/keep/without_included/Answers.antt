use Rattle.pm_vector.proofs.Filters.{among_map}
use Rattle.pm_vector.proofs.Lists.{Among, among_append_right, here}
use Rattle.pm_refine.proofs.Outcomes.{only_in, tests_more}
use Rattle.pm_refine.proofs.keep.without_included.Goals as goal
use Rattle.pm_refine.specs.CutRows.{IsRowOf, cut_rows, intersection_of}
use Rattle.std.proofs.Common.{[], ap, map, subst, sym, ◌++◌, ◌∷◌, ◌∙◌, ◌⊎◌}
use Rattle.std.proofs.lemmas.Result.{err_from_is_err_and}

pub returns-in_err-within-clause-failed : goal.returns-in_err-within-clause-failed
returns-in_err-within-clause-failed c =
    let q = err_from_is_err_and c.from_residual.result c.from_residual.ensures.1 in
    let whole = ap (λ z. c.loop-k.yielded ++ z) (sym c.in-Some.ensures.steps.0) ∙ c.loop-k.invariant.0 in
    let has : Among c.in-Some.k c.args.kept.items = subst (Among c.in-Some.k) whole (among_append_right c.loop-k.yielded here) in
    rw (q.1, q.2) (tests_more (intersection_of c.in-Some.k ∷ []) (map intersection_of c.args.kept.items) (λ r. IsRowOf (cut_rows c.args.first.now) r ⊎ IsRowOf (cut_rows c.args.second.now) r)
    (only_in (intersection_of c.in-Some.k) (map intersection_of c.args.kept.items) (among_map intersection_of has)) c.in_err-within.field-0.0 c.in_err-within.ensures.failed)
