-- A run of the machine over the lines of a script.
use Rattle.std.specs.Prelude.{ℕ, ◌≡◌, ◌||◌, Bool, false, if◌then◌else◌, Option, Some, None, List, [], ◌∷◌, ◌++◌}
use Rattle.pm_client.specs.Meanings.{Meanings}
use Rattle.pm_client.specs.Starts.{Clients}
use Rattle.pm_machine.specs.Laws.{AllStand}
use Rattle.pm_machine.specs.Machines.{Files, Machine}
use Rattle.pm_machine.specs.Parts.{AllHonest}
use Rattle.pm_machine.specs.Steps.{Step}
use Rattle.pm_rules.specs.declared.rule.Rule.{Rule}
use Rattle.pm_command.specs.Commands.{Spoken, blank, command_of}
use Rattle.pm_command.specs.Lines.{Line, is_too_long, text_of}
use Rattle.pm_script.specs.Replies.{ReplySeen, is_refusal, nothing, refused, reply_text}
use Rattle.pm_script.specs.declared.refusal.Refusal.{Refusal}
use Rattle.pm_script.specs.declared.refusal.Refusal.TheVariants.{BadCommand, LineTooLong}
use Rattle.pm_machine.specs.Shown.{Shows}
use Rattle.pm_store.specs.Files.{FilesStay}

-- the command that the line speaks, if it speaks one; a line that is too long speaks none
abbrev pub command_at : Line → Option Spoken
command_at line = if is_too_long line then None else command_of (text_of line)

-- why a line that speaks no command is refused
abbrev pub refusal_of : Line → Refusal
refusal_of line = if is_too_long line then LineTooLong else BadCommand

-- a line that speaks no command is refused, for this reason, a blank one has no reply, and both change nothing; each
-- other one is a step
abbrev pub AnswersTo : Meanings → List Rule → Machine → Refusal → Option Spoken → Option ReplySeen → Machine → Type 0
AnswersTo m book old why (Some command) (Some reply) new = Step m book old command reply new
AnswersTo m book old why (Some blank) None new = new ≡ old
AnswersTo m book old why (Some command) None new = ⊥
AnswersTo m book old why None (Some reply) new = (reply ≡ refused why nothing) × (new ≡ old)
AnswersTo m book old why None None new = ⊥

-- from the machine old the reply to the line may be this one, and it goes on as new
abbrev pub Answers : Meanings → List Rule → Machine → Line → Option ReplySeen → Machine → Type 0
Answers m book old line reply new = AnswersTo m book old (refusal_of line) (command_at line) reply new

-- it answers so to the lines, one after another, each value that it shows is right when it is shown, and after each
-- line every object is honest, and each rule that was excluded with evidence has evidence that holds now
abbrev pub Run : Meanings → List Rule → Machine → List Line → List (Option ReplySeen) → Machine → Type 0
Run m book old [] [] new = new ≡ old
Run m book old (line ∷ lines) (reply ∷ replies) new = (mid : Machine) × Answers m book old line reply mid
    × Shows reply mid × AllHonest mid × AllStand book mid × Run m book mid lines replies new
Run m book old [] (reply ∷ replies) new = ⊥
Run m book old (line ∷ lines) [] new = ⊥

-- the text of a reply, with its rounds where they are traced
abbrev pub text_of_reply : Bool → ReplySeen → List ℕ
text_of_reply trace reply = reply_text trace reply

-- the same, where there is one
abbrev pub text_if : Bool → Option ReplySeen → List ℕ
text_if trace None = []
text_if trace (Some reply) = text_of_reply trace reply

-- the texts of the replies, one after another
abbrev pub replies_text : Bool → List (Option ReplySeen) → List ℕ
replies_text trace [] = []
replies_text trace (reply ∷ replies) = text_if trace reply ++ replies_text trace replies

-- the reply is a refusal
abbrev pub is_refused : Option ReplySeen → Bool
is_refused None = false
is_refused (Some reply) = is_refusal reply

-- some reply is one
abbrev pub any_refused : List (Option ReplySeen) → Bool
any_refused [] = false
any_refused (reply ∷ replies) = is_refused reply || any_refused replies

-- the machine has no object, these clients, and these files where they are told
pub record Starts (clients : Clients) (files : Option Files) (m : Machine) : Type 0 where
  pub none : (q : List ℕ) → m.object q ≡ None
  pub names : m.names ≡ []
  pub has : m.clients ≡ clients
  pub store : FilesStay files m.store.files
