-- What the objects of a run stand for, line by line.
use Rattle.pm_client.specs.Meanings.{unsaid}
use Rattle.std.specs.Prelude.{ℕ, ◌≡◌, List, [], ◌∷◌, None, Option, Some}
use Rattle.pm_command.specs.Commands.{Spoken}
use Rattle.pm_command.specs.Lines.{Line}
use Rattle.pm_laws_lineage.specs.Provenances.{AllStandFor, Records, Provenances, records_after}
use Rattle.pm_laws_lineage.specs.Laws.{HasRead, new_records}
use Rattle.pm_machine.specs.Machines.{Machine}
use Rattle.pm_machine.specs.Parts.{StepInPart}
use Rattle.pm_rules.specs.declared.rule.Rule.{Rule}
use Rattle.pm_script.specs.Replies.{ReplySeen}
use Rattle.pm_machine.specs.Run.{Answers, Run, command_at}

-- what is known of objects and files after a line that speaks this command, with this reply; a line that speaks none,
-- or has no reply, changes nothing
abbrev pub records_to : List Rule → List ℕ → Option Spoken → Option ReplySeen → Machine → Records → Records
records_to book bytes (Some command) (Some reply) m records = records_after book bytes command reply m records
records_to book bytes command reply m records = records

-- the bytes that the line reads, if it loads
abbrev pub HasReadTo : List Rule → Machine → Option Spoken → Option ReplySeen → Machine → List ℕ → Type 0
HasReadTo book old (Some command) (Some reply) new bytes = HasRead book old command reply new bytes
HasReadTo book old command reply new bytes = Unit {0}

-- where memory runs out in the command that comes next, whatever part of it happened, each object stands for what it
-- stood for
abbrev pub NextStands : List Rule → Machine → Records → Type 0
NextStands book old records = (command : Spoken) (new : Machine) → StepInPart unsaid book old command new
    → AllStandFor records.provenances new

-- it answers so to the lines, one after another, and after each of them the values of each object are right, in some
-- orders, for each thing that its lineage denotes; and so they are after a part of the next command
abbrev pub RunInLine : List Rule → Machine → Records → List Line → List (Option ReplySeen) → Machine → Type 0
RunInLine book old records [] [] new = (new ≡ old) × NextStands book old records
RunInLine book old records (line ∷ lines) (reply ∷ replies) new = (mid : Machine) × (bytes : List ℕ)
    × Answers unsaid book old line reply mid × HasReadTo book old (command_at line) reply mid bytes
    × AllStandFor (records_to book bytes (command_at line) reply mid records).provenances mid
    × RunInLine book mid (records_to book bytes (command_at line) reply mid records) lines replies new
RunInLine book old records [] (reply ∷ replies) new = ⊥
RunInLine book old records (line ∷ lines) [] new = ⊥

-- so is each run that begins without objects
abbrev pub RunKeepsLineage : Type 0
RunKeepsLineage = (book : List Rule) (start end : Machine) (lines : List Line)
    (replies : List (Option ReplySeen)) (provenances : Provenances)
    → ((q : List ℕ) → start.object q ≡ None) → Run unsaid book start lines replies end
    → RunInLine book start (new_records provenances) lines replies end
