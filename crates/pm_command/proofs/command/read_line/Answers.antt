use Rattle.std.proofs.Common.{◌≡◌, Some, None}
use Rattle.std.proofs.lemmas.Result.{IfOk-weaker, IfErr-weaker}
use Rattle.pm_command.specs.Commands.{Spoken, command_of, spoken}
use Rattle.pm_command.specs.Grammar.{Speaks}
use Rattle.pm_command.specs.declared.command.LineFail.TheVariants.{BadCommand}
use Rattle.pm_command.proofs.Grammar.{read_is_spoken, none_is_spoken}
use Rattle.pm_command.proofs.command.read_line.Goals as goal

pub returns-clause-spoken : goal.returns-clause-spoken
returns-clause-spoken c =
    IfOk-weaker c.read_command.result (λ s. command_of c.args.line.now ≡ Some (spoken s)) (λ s. Speaks c.args.line.now (spoken s))
    (λ s is. read_is_spoken c.args.line.now (spoken s) is) c.read_command.ensures.ok

pub returns-clause-unspoken : goal.returns-clause-unspoken
returns-clause-unspoken c =
    IfErr-weaker c.read_command.result (λ e. e ≡ BadCommand → command_of c.args.line.now ≡ None) (λ e. e ≡ BadCommand → (s : Spoken) → Speaks c.args.line.now s → ⊥)
    (λ e none same s spoken. none_is_spoken c.args.line.now (none same) s spoken) c.read_command.ensures.refused
