-- The later rounds, seen through a view of each.
use Rattle.std.proofs.Common.{ap, sym, ◌∙◌, ◌≡◌}
use Rattle.std.proofs.lemmas.List.{drop-map}
use Rattle.std.proofs.lemmas.Result.{IfOk-weaker}
use Rattle.std.specs.Prelude.{drop, map}
use Rattle.pm_object.specs.Views.{round_seen}
use Rattle.pm_machine.proofs.asking.rounds_after.Goals as goal

pub returns : goal.returns
returns c =
    IfOk-weaker c.copy_rounds.result (λ v. map round_seen v.items ≡ map round_seen c.split_at.result.1.now) (λ v. map round_seen v.items ≡ drop c.args.before c.args.object.now.state.rounds)
    (λ v e. e ∙ ap (map round_seen) c.split_at.ensures.back ∙ sym (drop-map round_seen c.args.before c.rounds-rounds.result.now) ∙ ap (drop c.args.before) c.rounds-rounds.ensures) c.copy_rounds.ensures
