use Rattle.pm_refine.proofs.Outcomes.{if_err, if_ok, test_as}
use Rattle.pm_refine.proofs.Tests.{inside_test}
use Rattle.pm_refine.proofs.products.is_within.Goals as goal
use Rattle.pm_refine.specs.CutRows.{IsRowOf, are_inside, cut_rows, intersection_of}
use Rattle.std.proofs.Common.{[], inl, inr, refl, sym, ◌∷◌, ◌∙◌, ◌≡◌, ◌⊎◌}
use Rattle.std.proofs.lemmas.Result.{err_from_is_err_and}
use Rattle.std.specs.Prelude.{false, true}

pub returns-then-not-inside-clause-within : goal.returns-then-not-inside-clause-within
returns-then-not-inside-clause-within c =
    let e = inside_test (cut_rows c.args.first.now) c.args.of.now.rays.items c.in_ok-inside.inside c.in_ok-inside.ensures.inside in
    let f : are_inside (cut_rows c.args.first.now) c.args.of.now.rays.items ≡ false = sym e ∙ c.if-not-inside.true in
    rw f refl

pub returns-in_err-inside-clause-failed : goal.returns-in_err-inside-clause-failed
returns-in_err-inside-clause-failed c =
    let p = err_from_is_err_and c.from_residual.result c.from_residual.ensures.1 in
    rw (p.1, p.2) (test_as (intersection_of c.args.of.now ∷ []) (IsRowOf (cut_rows c.args.first.now)) (λ r. IsRowOf (cut_rows c.args.first.now) r ⊎ IsRowOf (cut_rows c.args.second.now) r) (λ r k. inl k) c.in_err-inside.field-0.0 c.in_err-inside.ensures.failed)

pub returns-clause-within : goal.returns-clause-within
returns-clause-within c =
    let e = inside_test (cut_rows c.args.first.now) c.args.of.now.rays.items c.in_ok-inside.inside c.in_ok-inside.ensures.inside in
    let f : are_inside (cut_rows c.args.first.now) c.args.of.now.rays.items ≡ true = sym e ∙ c.if-not-inside.false in
    if_ok c.are_inside-2.result (λ b w. rw f (inside_test (cut_rows c.args.second.now) c.args.of.now.rays.items b w)) c.are_inside-2.ensures.inside

pub returns-clause-failed : goal.returns-clause-failed
returns-clause-failed c =
    if_err c.are_inside-2.result (λ f w. test_as (intersection_of c.args.of.now ∷ []) (IsRowOf (cut_rows c.args.second.now)) (λ r. IsRowOf (cut_rows c.args.first.now) r ⊎ IsRowOf (cut_rows c.args.second.now) r) (λ r k. inr k) f w) c.are_inside-2.ensures.failed
