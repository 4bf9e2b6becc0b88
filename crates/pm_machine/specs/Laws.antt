-- The laws of honesty and of evidence: by the definitions alone, for any clients.
use Rattle.pm_client.specs.Meanings.{unsaid}
use Rattle.std.specs.Prelude.{ℕ, IfSome, List}
use Rattle.pm_machine.specs.Parts.{AllHonest, StepInPart}
use Rattle.pm_machine.specs.Machines.{Machine}
use Rattle.pm_machine.specs.Steps.{AllKept, Step}
use Rattle.pm_rounds.specs.Standing.{EvidenceStands}
use Rattle.pm_rules.specs.declared.rule.Rule.{Rule}
use Rattle.pm_command.specs.Commands.{Spoken}
use Rattle.pm_script.specs.Replies.{ReplySeen}

-- whatever a step answers, each object stays honest, and kept
abbrev pub StepsKeep : Type 0
StepsKeep = (book : List Rule) (old new : Machine) (command : Spoken) (reply : ReplySeen)
    → Step unsaid book old command reply new → AllKept old → AllKept new

-- whatever part of a step happened, each object is honest
abbrev pub StepsInPartKeep : Type 0
StepsInPartKeep = (book : List Rule) (old new : Machine) (command : Spoken) → StepInPart unsaid book old command new
    → AllKept old → AllHonest new

-- of each object, each rule that was excluded with evidence has evidence that holds of it now
pub record AllStand (book : List Rule) (m : Machine) : Type 0 where
  pub each : (q : List ℕ) → IfSome (m.object q) (EvidenceStands book)

-- whatever a step answers, it stays so
abbrev pub StepsKeepEvidence : Type 0
StepsKeepEvidence = (book : List Rule) (old new : Machine) (command : Spoken) (reply : ReplySeen)
    → Step unsaid book old command reply new → AllStand book old → AllStand book new

-- and whatever part of a step happened
abbrev pub StepsInPartKeepEvidence : Type 0
StepsInPartKeepEvidence = (book : List Rule) (old new : Machine) (command : Spoken)
    → StepInPart unsaid book old command new → AllStand book old → AllStand book new
