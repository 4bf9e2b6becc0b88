-- A run of clients that say something of themselves is one of clients that say nothing.
use Rattle.std.specs.Prelude.{List, Option}
use Rattle.pm_client.specs.Meanings.{Meanings, unsaid}
use Rattle.pm_command.specs.Commands.{Spoken}
use Rattle.pm_command.specs.Lines.{Line}
use Rattle.pm_machine.specs.Machines.{Machine}
use Rattle.pm_machine.specs.Parts.{StepInPart}
use Rattle.pm_machine.specs.Run.{Run}
use Rattle.pm_machine.specs.Steps.{Step}
use Rattle.pm_rules.specs.declared.rule.Rule.{Rule}
use Rattle.pm_script.specs.Replies.{ReplySeen}

-- So it is of a step, of a part of one, and of a run: what is said of all runs of clients that say nothing holds of
-- these.
pub record Widens (m : Meanings) : Type 0 where
  pub steps : (book : List Rule) (old new : Machine) (command : Spoken) (reply : ReplySeen)
      → Step m book old command reply new → Step unsaid book old command reply new
  pub parts : (book : List Rule) (old new : Machine) (command : Spoken)
      → StepInPart m book old command new → StepInPart unsaid book old command new
  pub runs : (book : List Rule) (old new : Machine) (lines : List Line) (replies : List (Option ReplySeen))
      → Run m book old lines replies new → Run unsaid book old lines replies new
