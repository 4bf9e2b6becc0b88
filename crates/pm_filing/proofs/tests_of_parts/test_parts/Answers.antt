-- Each part is tested with the column count that is known before it.
use Rattle.std.proofs.Common.{None, List, drop, map, subst, sym, ◌+◌}
use Rattle.std.proofs.lemmas.Bool.{and_parts}
use Rattle.std.proofs.lemmas.Result.{err_from_is_err_and}
use Rattle.std.specs.Prelude.{Option, ℕ}
use Rattle.pm_filing.specs.FileParts.{Part}
use Rattle.pm_filing.specs.FileReadings.{named_part, named_values}
use Rattle.pm_filing.specs.ReadingViews.{are_formed_parts, fault_of, is_formed_part, part_seen}
use Rattle.pm_filing.proofs.TestTurns.{Left, left-bad, left-turn, next_seen}
use Rattle.pm_filing.proofs.tests_of_parts.test_parts.Goals as goal

pub returns-in_err-cols-clause-fault : goal.returns-in_err-cols-clause-fault
returns-in_err-cols-clause-fault c =
    let of = c.args.of in
    let tied = named_values of (map part_seen c.args.tied.now) in
    let all = named_values of (map part_seen c.args.parts.now) in
    let step = next_seen part_seen c.args.parts.now c.loop-part.part-index c.part-item.result c.loop-part-test.true c.part-item.is in
    let left = subst (λ (ps : List Part). Left of tied None all c.loop-part.cols (named_values of ps)) step c.loop-part.invariant.0 in
    let p = err_from_is_err_and c.from_residual.result c.from_residual.ensures.1 in
    rw (p.1, p.2) (λ other. left-bad of tied None all c.loop-part.cols (named_part of (part_seen c.part-item.result)) (named_values of (map part_seen (drop (c.loop-part.part-index + 1) c.args.parts.now))) (fault_of c.in_err-cols.field-0.0) left (c.in_err-cols.ensures.fault other))

pub loop-part-preserved : goal.loop-part-preserved
loop-part-preserved c =
    let of = c.args.of in
    let tied = named_values of (map part_seen c.args.tied.now) in
    let all = named_values of (map part_seen c.args.parts.now) in
    let item = part_seen c.part-item.result in
    let later = map part_seen (drop (c.loop-part.part-index + 1) c.args.parts.now) in
    let step = next_seen part_seen c.args.parts.now c.loop-part.part-index c.part-item.result c.loop-part-test.true c.part-item.is in
    let left = subst (λ (ps : List Part). Left of tied None all c.loop-part.cols (named_values of ps)) step c.loop-part.invariant.0 in
    let turned = left-turn of tied None all c.loop-part.cols (named_part of item) (named_values of later) left c.in_ok-cols.ensures.ok c.in_ok-cols.ensures.entries in (
      subst (λ (m : Option ℕ). Left of tied None all m (named_values of later)) (sym c.in_ok-cols.ensures.cols) turned,
      (and_parts (is_formed_part item) (are_formed_parts later) (rw step at c.loop-part.invariant.1)).1,
    )
