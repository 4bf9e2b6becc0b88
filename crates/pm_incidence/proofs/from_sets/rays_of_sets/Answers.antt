use Rattle.pm_incidence.proofs.Determined.{columns_below, found_canonical, found_length}
use Rattle.pm_incidence.proofs.DeterminedRows.{found_determined}
use Rattle.pm_incidence.proofs.Lost.{if_thin_wide}
use Rattle.pm_incidence.proofs.SetRows.{fail_more, listed_set, pivots_few, sets_next}
use Rattle.pm_incidence.proofs.from_sets.rays_of_sets.Goals as goal
use Rattle.std.proofs.Common.{inl, inr, map, refl, take, ◌++◌, ◌∙◌}
use Rattle.std.proofs.lemmas.List.{length-map, take_all}
use Rattle.std.proofs.lemmas.Result.{err_from_is_err_and}

pub returns-in_err-pivots-clause-failed : goal.returns-in_err-pivots-clause-failed
returns-in_err-pivots-clause-failed c =
    let p = err_from_is_err_and c.from_residual.result c.from_residual.ensures.1 in
    rw (p.1, p.2) (c.in_err-pivots.ensures.failed (map (λ r. r.items) c.args.sets.now))

pub ray_of_set-requires-clause-few_pivots : goal.ray_of_set-requires-clause-few_pivots
ray_of_set-requires-clause-few_pivots c =
    let b = c.in_ok-pivots.ensures.pivots in
    rw c.deref-in-loop-set.ensures.value (pivots_few c.args.cols (c.args.equations.now ++ c.args.cuts.now) b.0 c.in_ok-pivots.pivots.items b.1 c.requires.few_columns)

pub ray_of_set-requires-clause-pivots : goal.ray_of_set-requires-clause-pivots
ray_of_set-requires-clause-pivots c =
    let b = c.in_ok-pivots.ensures.pivots in
    rw c.deref-in-loop-set.ensures.value (columns_below c.args.cols c.args.equations.now c.args.cuts.now b.0 c.in_ok-pivots.pivots.items b.1)

pub returns-in_err-ray_of_set-clause-failed : goal.returns-in_err-ray_of_set-clause-failed
returns-in_err-ray_of_set-clause-failed c =
    let b = c.in_ok-pivots.ensures.pivots in
    let p = err_from_is_err_and c.from_residual-in_err-ray_of_set.result c.from_residual-in_err-ray_of_set.ensures.1 in
    let failed = rw (c.deref-in-loop-set.ensures.value, c.deref.ensures.value) at c.in_err-ray_of_set.ensures.failed in
    rw (p.1, p.2)
    (fail_more c.args.cols c.args.equations.now c.args.cuts.now (map (λ r. r.items) c.args.sets.now) c.set-item.result.items (listed_set (λ r. r.items) c.args.sets.now c.loop-set.set-index c.set-item.result c.loop-set-test.true c.set-item.is)
    c.in_err-ray_of_set.field-0.0 (failed b.0 b.1))

pub loop-set-preserved : goal.loop-set-preserved
loop-set-preserved c =
    sets_next (λ r. r.items) c.args.cols c.args.equations.now c.args.cuts.now c.in_ok-pivots.pivots.items c.args.sets.now c.loop-set.set-index c.set-item.result c.loop-set-test.true c.set-item.is c.loop-set.rows.items c.push.new.self.items
    c.in_ok-ray_of_set.field-0 c.loop-set.invariant c.in_ok-push.ensures.items c.in_ok-ray_of_set.ensures.cols (rw (c.deref-in-loop-set.ensures.value, c.deref.ensures.value) at c.in_ok-ray_of_set.ensures.row)

pub returns-clause-as_many : goal.returns-clause-as_many
returns-clause-as_many c =
    let all = take_all c.loop-set.set-index c.args.sets.now c.loop-set-test.false in
    found_length c.args.cols c.args.equations.now c.args.cuts.now c.in_ok-pivots.pivots.items (map (λ r. r.items) (take c.loop-set.set-index c.args.sets.now)) c.loop-set.rows.items c.loop-set.invariant.1
    ∙ length-map (take c.loop-set.set-index c.args.sets.now) (λ r. r.items) ∙ rw all refl

pub returns-clause-rays : goal.returns-clause-rays
returns-clause-rays c V o i =
    let b = c.in_ok-pivots.ensures.pivots in
    let found = rw (take_all c.loop-set.set-index c.args.sets.now c.loop-set-test.false) at c.loop-set.invariant.1 in
    found_canonical c.args.cols c.args.equations.now c.args.cuts.now b.0 c.in_ok-pivots.pivots.items b.1 V (map (λ r. r.items) c.args.sets.now) c.loop-set.rows.items o i found

pub returns-clause-null : goal.returns-clause-null
returns-clause-null c = let b = c.in_ok-pivots.ensures.pivots in (b.0, c.in_ok-pivots.pivots.items, b.1)

pub returns-clause-determined : goal.returns-clause-determined
returns-clause-determined c =
    let b = c.in_ok-pivots.ensures.pivots in
    let found = rw (take_all c.loop-set.set-index c.args.sets.now c.loop-set-test.false) at c.loop-set.invariant.1 in
    found_determined c.args.cols c.args.equations.now c.args.cuts.now b.0 c.in_ok-pivots.pivots.items b.1 (map (λ r. r.items) c.args.sets.now) c.loop-set.rows.items found

pub returns-in_err-pivots-clause-lost : goal.returns-in_err-pivots-clause-lost
returns-in_err-pivots-clause-lost c = λ wide.
    let p = err_from_is_err_and c.from_residual.result c.from_residual.ensures.1 in
    rw (p.1, p.2) (if_thin_wide c.in_err-pivots.field-0.0 (λ h. inl h) (c.in_err-pivots.ensures.lost wide))

pub returns-in_err-ray_of_set-clause-lost : goal.returns-in_err-ray_of_set-clause-lost
returns-in_err-ray_of_set-clause-lost c = λ wide.
    let b = c.in_ok-pivots.ensures.pivots in
    let p = err_from_is_err_and c.from_residual-in_err-ray_of_set.result c.from_residual-in_err-ray_of_set.ensures.1 in
    let lost = rw (c.deref-in-loop-set.ensures.value, c.deref.ensures.value) at (c.in_err-ray_of_set.ensures.lost wide) in
    rw (p.1, p.2)
    (if_thin_wide c.in_err-ray_of_set.field-0.0
    (λ h. inr record {
      rows = _;
      determining = record {
        lines = b.0;
        pivots = c.in_ok-pivots.pivots.items;
        lineality = b.1;
        set = c.set-item.result.items;
        listed = listed_set (λ r. r.items) c.args.sets.now c.loop-set.set-index c.set-item.result c.loop-set-test.true c.set-item.is;
        rows = refl;
      };
      lost = h;
    }) lost)
