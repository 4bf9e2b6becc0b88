use Rattle.pm_vector.specs.Rows.{entry}
use Rattle.pm_types.proofs.fractions.over_one.Goals as goal
use Rattle.pm_types.specs.Views.{over_one}
use Rattle.pm_vector.proofs.Kept.{kept}
use Rattle.std.proofs.Common.{pos, refl, sym}
use Rattle.std.proofs.lemmas.List.{map_more, take_all}
use Rattle.std.proofs.lemmas.Result.{IfOk-from_err}

pub unreachable-requires : goal.unreachable-requires
unreachable-requires c =
    let entries = c.as_slice-entries.result.now in
    let in_range = rw (← c.as_slice-entries.ensures.value) at c.as_slice-entries.ensures.in_range in
    let small = in_range c.loop-x.x-index (pos 0) c.loop-x-test.true in
    c.in_default.ensures.wide.1 (rw (kept (entry entries c.loop-x.x-index) small) small)

pub returns-in_err-push-clause-value : goal.returns-in_err-push-clause-value
returns-in_err-push-clause-value c = IfOk-from_err c.from_residual-in_err-push.result _ c.from_residual-in_err-push.ensures.0

pub returns-in_err-push-clause-in_range : goal.returns-in_err-push-clause-in_range
returns-in_err-push-clause-in_range c = c.as_slice-entries.ensures.in_range

pub loop-x-preserved : goal.loop-x-preserved
loop-x-preserved c =
    let entries = c.as_slice-entries.result.now in
    let in_range = rw (← c.as_slice-entries.ensures.value) at c.as_slice-entries.ensures.in_range in
    let small = in_range c.loop-x.x-index (pos 0) c.loop-x-test.true in
    rw (c.in_ok-push.ensures.items, c.in-Ok.ensures.ok, kept (entry entries c.loop-x.x-index) small, c.loop-x.invariant)
    (sym (map_more over_one entries c.loop-x.x-index (pos 0) c.loop-x-test.true))

pub returns-clause-value : goal.returns-clause-value
returns-clause-value c =
    rw (c.loop-x.invariant, take_all c.loop-x.x-index c.as_slice-entries.result.now c.loop-x-test.false, c.as_slice-entries.ensures.value) refl

pub returns-clause-in_range : goal.returns-clause-in_range
returns-clause-in_range c = c.as_slice-entries.ensures.in_range
