-- Each objective is tested with the column count that is known before it.
use Rattle.std.proofs.Common.{List, drop, map, subst, sym, ◌+◌, option_map}
use Rattle.std.proofs.lemmas.Bool.{and_parts}
use Rattle.std.proofs.lemmas.Result.{err_from_is_err_and}
use Rattle.std.specs.List.{list_all}
use Rattle.std.specs.Prelude.{Option, ℕ}
use Rattle.pm_types.specs.Values.{PropertyValue}
use Rattle.pm_types.specs.Views.{view_of}
use Rattle.pm_filing.specs.FileReadings.{named_objective, named_objectives, named_values}
use Rattle.pm_filing.specs.ReadingViews.{fault_of, is_formed_objective, objectives_seen, part_seen}
use Rattle.pm_filing.proofs.TestTurns.{Left, left-bad, left-turn, next_seen}
use Rattle.pm_filing.proofs.tests_of_parts.test_objectives.Goals as goal

pub returns-in_err-cols-clause-fault : goal.returns-in_err-cols-clause-fault
returns-in_err-cols-clause-fault c =
    let of = c.args.of in
    let tied = named_values of (map part_seen c.args.tied.now) in
    let all = named_objectives (objectives_seen c.args.objectives.now) in
    let step = next_seen (option_map view_of) c.args.objectives.now c.loop-objective.objective-index c.objective-item.result c.loop-objective-test.true c.objective-item.is in
    let left = subst (λ (vs : List (Option PropertyValue)). Left of tied c.args.n all c.loop-objective.cols (named_objectives vs)) step c.loop-objective.invariant.0 in
    let p = err_from_is_err_and c.from_residual.result c.from_residual.ensures.1 in
    rw (p.1, p.2) (λ other. left-bad of tied c.args.n all c.loop-objective.cols (named_objective (option_map view_of c.objective-item.result)) (named_objectives (objectives_seen (drop (c.loop-objective.objective-index + 1) c.args.objectives.now))) (fault_of c.in_err-cols.field-0.0) left (c.in_err-cols.ensures.fault other))

pub loop-objective-preserved : goal.loop-objective-preserved
loop-objective-preserved c =
    let of = c.args.of in
    let tied = named_values of (map part_seen c.args.tied.now) in
    let all = named_objectives (objectives_seen c.args.objectives.now) in
    let item = option_map view_of c.objective-item.result in
    let later = objectives_seen (drop (c.loop-objective.objective-index + 1) c.args.objectives.now) in
    let step = next_seen (option_map view_of) c.args.objectives.now c.loop-objective.objective-index c.objective-item.result c.loop-objective-test.true c.objective-item.is in
    let left = subst (λ (vs : List (Option PropertyValue)). Left of tied c.args.n all c.loop-objective.cols (named_objectives vs)) step c.loop-objective.invariant.0 in
    let turned = left-turn of tied c.args.n all c.loop-objective.cols (named_objective item) (named_objectives later) left c.in_ok-cols.ensures.ok c.in_ok-cols.ensures.entries in (
      subst (λ (m : Option ℕ). Left of tied c.args.n all m (named_objectives later)) (sym c.in_ok-cols.ensures.cols) turned,
      (and_parts (is_formed_objective item) (list_all is_formed_objective later) (rw step at c.loop-objective.invariant.1)).1,
    )
