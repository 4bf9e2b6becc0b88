-- A value is shown where what was asked is found; what was ensured wholly was ensured in part.
use Rattle.pm_telling.specs.Telling.{names_told}
use Rattle.std.proofs.Common.{Some, ap, false, refl, rules, sym, true≢false, ◌∙◌, ◌≡◌}
use Rattle.std.specs.Option.{is_some}
use Rattle.std.specs.Prelude.{None}
use Rattle.pm_machine.proofs.Names.{beside_named, ended_so, found_held, gives_shown, later_is, part_of, rounds_named, whole_is_part}
use Rattle.pm_machine.specs.Steps.{Gives}
use Rattle.pm_object.specs.State.{read_at, value_of}
use Rattle.pm_script.specs.Replies.{names_seen, seen}
use Rattle.pm_types.specs.Views.{view_of}
use Rattle.pm_machine.proofs.asking.give_value.Goals as goal

pub unreachable-requires : goal.unreachable-requires
unreachable-requires g c =
    let none : value_of c.args.p (read_at c.args.sub c.ensure.new.object.state.held) ≡ None = search rules in
    true≢false (sym (found_held _ c.args.sub _ _ _ c.args.p c.of.ensures.value (rw c.in-Found.is at c.in_ok-ending.ensures.ok)) ∙ ap is_some none)

pub returns-in-Some-clause-gives : goal.returns-in-Some-clause-gives
returns-in-Some-clause-gives g c =
    let held : value_of c.args.p (read_at c.args.sub c.ensure.new.object.state.held) ≡ Some (view_of c.in-Some.v.now) = search rules in
    let rounds = later_is _ c.rounds-before.result.now c.args.object.now.state c.ensure.new.object.state _ refl c.rounds-before.ensures c.in_ok-rounds.ensures in
    let names : names_seen c.in_ok-names.names ≡ names_told c.args.book.now c.ensure.new.object.state = rw c.rules.ensures.value at c.in_ok-names.ensures in
    gives_shown seen c.show.result c.args.book.now _ _ c.args.sub _ c.args.p c.of-of.result (view_of c.in-Some.v.now) _ c.of-of.ensures.value held
    (rounds_named c.args.book.now c.ensure.new.object.state _ _ _ names rounds) (ended_so _ c.args.sub _ _ _ _ _ c.of.ensures.value (rw c.in-Found.is at c.in_ok-ending.ensures.ok)) c.show.ensures

pub returns-in-Some-clause-err : goal.returns-in-Some-clause-err
returns-in-Some-clause-err g c = whole_is_part c.show.result _ c.args.sub _ c.args.p _ _ _ c.of.ensures.value c.in_ok-ending.ensures.ok

pub returns-in_err-rounds-clause-err : goal.returns-in_err-rounds-clause-err
returns-in_err-rounds-clause-err g c = whole_is_part c.from_residual-in_err-rounds.result _ c.args.sub _ c.args.p _ _ _ c.of.ensures.value c.in_ok-ending.ensures.ok

pub returns-in_err-names-clause-err : goal.returns-in_err-names-clause-err
returns-in_err-names-clause-err g c = whole_is_part c.from_residual-in_err-names.result _ c.args.sub _ c.args.p _ _ _ c.of.ensures.value c.in_ok-ending.ensures.ok

pub returns-in-NoChain-clause-gives : goal.returns-in-NoChain-clause-gives
returns-in-NoChain-clause-gives g c =
    let rounds = later_is _ c.rounds-before.result.now c.args.object.now.state c.ensure.new.object.state _ refl c.rounds-before.ensures c.in_ok-rounds.ensures in
    let names : names_seen c.in_ok-names.names ≡ names_told c.args.book.now c.ensure.new.object.state = rw c.rules.ensures.value at c.in_ok-names.ensures in
    rw c.refused_after.ensures
    (Gives.no_chain (ended_so _ c.args.sub _ _ _ _ _ c.of.ensures.value (rw c.in-NoChain.is at c.in_ok-ending.ensures.ok)) (beside_named false c.args.book.now _ _ c.args.object.now.state c.ensure.new.object.state names rounds))

pub returns-in-Crowded-clause-gives : goal.returns-in-Crowded-clause-gives
returns-in-Crowded-clause-gives g c =
    let rounds = later_is _ c.rounds-before.result.now c.args.object.now.state c.ensure.new.object.state _ refl c.rounds-before.ensures c.in_ok-rounds.ensures in
    let names : names_seen c.in_ok-names.names ≡ names_told c.args.book.now c.ensure.new.object.state = rw c.rules.ensures.value at c.in_ok-names.ensures in
    rw c.refused_after-in-Crowded.ensures
    (Gives.is_crowded (ended_so _ c.args.sub _ _ _ _ _ c.of.ensures.value (rw c.in-Crowded.is at c.in_ok-ending.ensures.ok)) (beside_named false c.args.book.now _ _ c.args.object.now.state c.ensure.new.object.state names rounds))

pub returns-in_err-ending-clause-err : goal.returns-in_err-ending-clause-err
returns-in_err-ending-clause-err g c = part_of c.from_residual.result _ c.args.sub _ c.args.p _ _ c.of.ensures.value c.in_err-ending.ensures.err
