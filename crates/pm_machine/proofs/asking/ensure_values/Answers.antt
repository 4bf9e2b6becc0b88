-- What was ensured is told with its rounds; what was ensured wholly was ensured in part.
use Rattle.pm_telling.specs.Telling.{names_told}
use Rattle.std.proofs.Common.{refl, true, ◌≡◌}
use Rattle.pm_machine.proofs.Names.{beside_named, ensured_in_part, later_is, rounds_named}
use Rattle.pm_machine.specs.Steps.{Ensures}
use Rattle.pm_script.specs.Replies.{names_seen}
use Rattle.pm_machine.proofs.asking.ensure_values.Goals as goal

pub returns-in-Found-clause-made : goal.returns-in-Found-clause-made
returns-in-Found-clause-made g c =
    let rounds = later_is _ c.rounds-before.result.now c.args.object.now.state c.ensure.new.object.state _ refl c.rounds-before.ensures c.in_ok-rounds.ensures in
    let names : names_seen c.in_ok-names.names ≡ names_told c.args.book.now c.ensure.new.object.state = rw c.rules.ensures.value at c.in_ok-names.ensures in
    Ensures.is_found (rw c.in-Found.is at c.in_ok-ending.ensures.ok) (rounds_named c.args.book.now c.ensure.new.object.state _ _ _ names rounds)

pub returns-in-NoChain-clause-made : goal.returns-in-NoChain-clause-made
returns-in-NoChain-clause-made g c =
    let rounds = later_is _ c.rounds-before.result.now c.args.object.now.state c.ensure.new.object.state _ refl c.rounds-before.ensures c.in_ok-rounds.ensures in
    let names : names_seen c.in_ok-names.names ≡ names_told c.args.book.now c.ensure.new.object.state = rw c.rules.ensures.value at c.in_ok-names.ensures in
    rw c.refused_after.ensures
    (Ensures.no_chain (rw c.in-NoChain.is at c.in_ok-ending.ensures.ok) (beside_named true c.args.book.now _ _ c.args.object.now.state c.ensure.new.object.state names rounds))

pub returns-in-Crowded-clause-made : goal.returns-in-Crowded-clause-made
returns-in-Crowded-clause-made g c =
    let rounds = later_is _ c.rounds-before.result.now c.args.object.now.state c.ensure.new.object.state _ refl c.rounds-before.ensures c.in_ok-rounds.ensures in
    let names : names_seen c.in_ok-names.names ≡ names_told c.args.book.now c.ensure.new.object.state = rw c.rules.ensures.value at c.in_ok-names.ensures in
    rw c.refused_after-in-Crowded.ensures
    (Ensures.is_crowded (rw c.in-Crowded.is at c.in_ok-ending.ensures.ok) (beside_named true c.args.book.now _ _ c.args.object.now.state c.ensure.new.object.state names rounds))

pub returns-in_err-rounds-clause-err : goal.returns-in_err-rounds-clause-err
returns-in_err-rounds-clause-err g c = ensured_in_part c.from_residual-in_err-rounds.result _ _ _ _ _ _ c.in_ok-ending.ensures.ok

pub returns-in_err-names-clause-err : goal.returns-in_err-names-clause-err
returns-in_err-names-clause-err g c = ensured_in_part c.from_residual-in_err-names.result _ _ _ _ _ _ c.in_ok-ending.ensures.ok
