-- The law of lineage: along every run each object stands for what it came of.
use Rattle.pm_client.specs.Meanings.{unsaid}
use Rattle.std.specs.Prelude.{ℕ, ◌≡◌, IsTrue, List, [], ◌∷◌, None, Some}
use Rattle.pm_command.specs.Commands.{Spoken, load_object}
use Rattle.pm_files.specs.Files.{SavedFile}
use Rattle.pm_filing.specs.FileReadings.{Reads}
use Rattle.pm_filing.specs.Filing.{loaded_object}
use Rattle.pm_laws_lineage.specs.Provenances.{AllStandFor, Records, Provenances, StandsFor, records_after}
use Rattle.pm_laws_lineage.specs.Lineages.{Denotes, Lineage}
use Rattle.pm_machine.specs.Machines.{Machine}
use Rattle.pm_machine.specs.Parts.{StepInPart}
use Rattle.pm_machine.specs.Steps.{HasBytes, Step}
use Rattle.pm_object.specs.State.{State, read_at, value_of}
use Rattle.pm_props.specs.Properties.{has_program}
use Rattle.pm_props.specs.declared.property.PropId.{PropId}
use Rattle.pm_props.specs.declared.property.PropId.TheVariants.{LinearObjective}
use Rattle.pm_rules.specs.declared.rule.Rule.{Rule}
use Rattle.pm_script.specs.Replies.{ReplySeen, loaded}
use Rattle.pm_geom.specs.Things.{Orders}
use Rattle.pm_types.specs.Right.{Right}
use Rattle.pm_types.specs.Things.{AreOrders, Thing}
use Rattle.pm_types.specs.Values.{PropertyValue, matrix}
use Rattle.pm_vector.specs.Numbers.{Ratio}

-- where it loads, it read these bytes, those of the file where the store tells its files
abbrev pub HasRead : List Rule → Machine → Spoken → ReplySeen → Machine → List ℕ → Type 0
HasRead book old (load_object name file) (loaded names) new bytes = HasBytes old.store file bytes
    × (f : SavedFile) × Reads bytes f × (new.object name ≡ Some (loaded_object book f))
HasRead book old command reply new bytes = Unit {0}

-- commands with their replies lead from one machine to another, and what is known of its objects goes along
abbrev pub Leads : List Rule → Machine → Records → List (Spoken × ReplySeen) → Machine → Records → Type 0
Leads book old records [] new later = (new ≡ old) × (later ≡ records)
Leads book old records (x ∷ run) new later = (mid : Machine) × (bytes : List ℕ) × Step unsaid book old x.0 x.1 mid
    × HasRead book old x.0 x.1 mid bytes
    × Leads book mid (records_after book bytes x.0 x.1 mid records) run new later

-- at the start no file is known
abbrev pub new_records : Provenances → Records
new_records provenances = record { provenances = provenances; saved = [] }

-- Whatever a run does that begins without objects: after it the values of each object are right, in some orders, for
-- each thing that its lineage denotes.
abbrev pub RunsKeepLineage : Type 0
RunsKeepLineage = (book : List Rule) (start end : Machine) (provenances : Provenances) (later : Records)
    (run : List (Spoken × ReplySeen)) → ((q : List ℕ) → start.object q ≡ None)
    → Leads book start (new_records provenances) run end later → AllStandFor later.provenances end

-- So it is where memory runs out in the command that comes next, whatever part of it happened: each object stands for
-- what it stood for before.
abbrev pub StepsInPartKeepLineage : Type 0
StepsInPartKeepLineage = (book : List Rule) (start old new : Machine) (provenances : Provenances) (later : Records)
    (run : List (Spoken × ReplySeen)) (command : Spoken) → ((q : List ℕ) → start.object q ≡ None)
    → Leads book start (new_records provenances) run old later → StepInPart unsaid book old command new
    → AllStandFor later.provenances new

-- A value that a linear program of such an object holds, for which an objective is held, is right, in some orders, for
-- each thing that the lineage denotes, by that objective.
abbrev pub ShownOfProgramIsRight : Type 0
ShownOfProgramIsRight = (l : Lineage) (o : State) (s : ℕ) (p : PropId) (v : PropertyValue) (n : ℕ) (c : List Ratio)
    → StandsFor l o → IsTrue (has_program p) → value_of p (read_at (Some s) o.held) ≡ Some v
    → value_of LinearObjective (read_at (Some s) o.held) ≡ Some (matrix n (c ∷ []))
    → (u : Thing) → Denotes l u → (q : Orders) × AreOrders u q × Right p v u q c

-- a value that such an object holds is right, in some orders, for each thing that its lineage denotes
abbrev pub ShownIsRight : Type 0
ShownIsRight = (l : Lineage) (o : State) (p : PropId) (v : PropertyValue) → StandsFor l o
    → value_of p (read_at None o.held) ≡ Some v
    → (u : Thing) → Denotes l u → (q : Orders) × AreOrders u q × Right p v u q []
