-- How a run of the program ended, and what the sink took until then.
use Rattle.std.specs.Prelude.{ℕ, ◌≡◌, ◌+◌, ◌<◌, ◌≤◌, ◌⊎◌, Bool, true, false, Option, Some, None, IfSome, List, [], ◌∷◌, ◌++◌, drop, if◌then◌else◌, length, take, Result, Ok, Err}
use Rattle.pm_client.specs.Meanings.{Meanings}
use Rattle.pm_client.specs.Starts.{Clients}
use Rattle.pm_lines.specs.Coming.{most_ahead}
use Rattle.pm_lines.specs.Whole.{whole_lines}
use Rattle.pm_lines.specs.declared.reader.LinesFail.{LinesFail}
use Rattle.pm_lines.specs.declared.reader.LinesFail.TheVariants as line
use Rattle.pm_machine.specs.Parts.{AllHonest, StepInPart}
use Rattle.pm_machine.specs.Machines.{Files, Machine, Stays}
use Rattle.pm_rules.specs.declared.rule.Rule.{Rule}
use Rattle.pm_command.specs.Commands.{Spoken}
use Rattle.pm_command.specs.Lines.{Line, lines_of}
use Rattle.pm_script.specs.Replies.{ReplySeen}
use Rattle.pm_run.specs.Chosen.{IsBook, IsRefusedBook}
use Rattle.pm_run.specs.Demo.{demo_text}
use Rattle.pm_machine.specs.Run.{Answers, Run, Starts, any_refused, command_at, is_refused, replies_text, text_if, text_of_reply}
use Rattle.pm_run.specs.declared.status.RunFail.{RunFail}
use Rattle.pm_run.specs.declared.status.RunFail.TheVariants as why
use Rattle.pm_run.specs.declared.status.Status.{Status}
use Rattle.pm_run.specs.declared.status.Status.TheVariants.{Answered, SomeRefused, BadWords, SourceFault, SinkFault, OutOfMemory, TooLong, BadBook}
use Rattle.pm_store.specs.Files.{FilesStay}
use Rattle.pm_store.specs.Outside.{GainsTold, Rose}
use Rattle.pm_words.specs.Words.{WordsSeen}
use Rattle.pm_limits.specs.Limits.{most_script_bytes}

-- the number of a status
abbrev pub number_of : Status → ℕ
number_of Answered = 0
number_of SomeRefused = 1
number_of BadWords = 2
number_of SourceFault = 3
number_of SinkFault = 4
number_of OutOfMemory = 5
number_of TooLong = 6
number_of BadBook = 7

-- the status of an outcome over all lines
abbrev pub status_of : Result Bool RunFail → Status
status_of (Ok false) = Answered
status_of (Ok true) = SomeRefused
status_of (Err why.SourceFault) = SourceFault
status_of (Err why.SinkFault) = SinkFault
status_of (Err why.Memory) = OutOfMemory
status_of (Err why.TooLong) = TooLong

-- what it is for a run that the next line did not come
abbrev pub fail_of : LinesFail → RunFail
fail_of line.Fault = why.SourceFault
fail_of line.TooLong = why.TooLong
fail_of line.Memory = why.Memory

-- had and has: what the sink tells to have taken before and after, where it tells that

-- all of the front was taken, and then some first bytes of the piece, not all of them
abbrev pub GainsWithin : Option (List ℕ) → Option (List ℕ) → List ℕ → List ℕ → Type 0
GainsWithin old new front piece =
    IfSome old (λ had. (n : ℕ) × (n < length piece) × (new ≡ Some (had ++ front ++ take n piece)))

-- the line is answered, its reply is told if it has one, and whether that is a refusal
pub record AnswersOne (m : Meanings) (book : List Rule) (trace : Bool) (had has : Option (List ℕ)) (old : Machine)
    (line : Line) (some_refused : Bool) (new : Machine) : Type 0 where
  pub reply : Option ReplySeen
  pub answers : Answers m book old line reply new
  pub told : GainsTold had has (text_if trace reply)
  pub refusal : some_refused ≡ is_refused reply

-- all lines are answered, each reply is told, and whether some is a refusal
pub record AnsweredAll (m : Meanings) (book : List Rule) (trace : Bool) (had has : Option (List ℕ))
    (some_refused : Bool) (old : Machine) (lines : List Line) (new : Machine) : Type 0 where
  pub replies : List (Option ReplySeen)
  pub run : Run m book old lines replies new
  pub told : GainsTold had has (replies_text trace replies)
  pub refusal : some_refused ≡ any_refused replies

-- the bytes of lines, each with its LF where it has one
abbrev pub bytes_in : List Line → ℕ
bytes_in [] = 0
bytes_in (line ∷ lines) = length line.bytes + (if line.ended then 1 else 0) + bytes_in lines

-- the sink failed in a reply: the replies before it are told, no line after it was answered, and of those that were
-- read no more bytes are there than one read takes, so that each reply is written before more is read
pub record BrokeOff (m : Meanings) (book : List Rule) (trace : Bool) (had has : Option (List ℕ)) (old : Machine)
    (lines : List Line) (new : Machine) : Type 0 where
  pub first : List Line
  pub line : Line
  pub others : List Line
  pub whole : lines ≡ first ++ line ∷ others
  pub ahead : bytes_in others ≤ most_ahead
  pub replies : List (Option ReplySeen)
  pub reply : ReplySeen
  pub run : Run m book old (first ++ line ∷ []) (replies ++ Some reply ∷ []) new
  pub told : GainsWithin had has (replies_text trace replies) (text_of_reply trace reply)

-- the line is answered in part: first events of its command occurred; or wholly, and its reply is not told
abbrev pub InHand : Meanings → List Rule → Machine → Line → Machine → Type 0
InHand m book old line new =
    ((command : Spoken) × (command_at line ≡ Some command) × StepInPart m book old command new)
    ⊎ ((reply : ReplySeen) × Answers m book old line (Some reply) new)

-- nothing more happened, or the next line was in hand
abbrev pub NextInHand : Meanings → List Rule → Machine → List Line → Machine → Type 0
NextInHand m book old [] new = Stays old new
NextInHand m book old (line ∷ others) new = Stays old new ⊎ InHand m book old line new

-- memory ran out: first lines are answered, maybe none or all, and each reply to them is told; the next line was in
-- hand
pub record Stopped (m : Meanings) (book : List Rule) (trace : Bool) (had has : Option (List ℕ)) (old : Machine)
    (lines : List Line) (new : Machine) : Type 0 where
  pub first : List Line
  pub others : List Line
  pub whole : lines ≡ first ++ others
  pub replies : List (Option ReplySeen)
  pub mid : Machine
  pub run : Run m book old first replies mid
  pub told : GainsTold had has (replies_text trace replies)
  pub hand : NextInHand m book mid others new

-- the lines came to this outcome
abbrev pub HasOutcome : Meanings → List Rule → Bool → Option (List ℕ) → Option (List ℕ) → Machine → List Line
    → Result Bool RunFail → Machine → Type 0
HasOutcome m book trace had has old lines (Ok some_refused) new =
    AnsweredAll m book trace had has some_refused old lines new
HasOutcome m book trace had has old lines (Err why.SourceFault) new =
    (some_refused : Bool) × AnsweredAll m book trace had has some_refused old lines new
HasOutcome m book trace had has old lines (Err why.SinkFault) new = BrokeOff m book trace had has old lines new
HasOutcome m book trace had has old lines (Err why.Memory) new = Stopped m book trace had has old lines new
HasOutcome m book trace had has old lines (Err why.TooLong) new =
    (some_refused : Bool) × AnsweredAll m book trace had has some_refused old lines new

-- all of the script was read, and is no longer than the most; or first bytes of it, no more than the most, and of
-- these the lines that an LF ended
abbrev pub IsReadSoFar : List ℕ → Option (List ℕ) → List Line → Type 0
IsReadSoFar all left lines = ((lines ≡ lines_of all) × (length all ≤ most_script_bytes) × (left ≡ Some []))
    ⊎ ((n : ℕ) × (n ≤ length all) × (n ≤ most_script_bytes) × (left ≡ Some (drop n all))
    × (lines ≡ whole_lines (take n all)))

-- Which lines these are, with this outcome, of what the source told before to have left, if it did, and what it tells
-- now:
-- all lines of a script that was read to its end;
-- all lines of what was read so far, of which the first ones are answered, where the sink failed or memory ran out
-- (then more may be gone of the source);
-- all whole lines of what the source gave until it failed, without a last one that no LF ended;
-- all whole lines of the most bytes of a script, where it has more, of which one is gone.
abbrev pub IsRead : Option (List ℕ) → Option (List ℕ) → Result Bool RunFail → List Line → Type 0
IsRead script left (Ok some_refused) lines =
    IfSome script (λ all. (lines ≡ lines_of all) × (length all ≤ most_script_bytes) × (left ≡ Some []))
IsRead script left (Err why.SourceFault) lines =
    IfSome script (λ all. (n : ℕ) × (n ≤ length all) × (n ≤ most_script_bytes) × (left ≡ Some (drop n all))
    × (lines ≡ whole_lines (take n all)))
IsRead script left (Err why.SinkFault) lines = IfSome script (λ all. IsReadSoFar all left lines)
IsRead script left (Err why.Memory) lines =
    (mid : Option (List ℕ)) × IfSome script (λ all. IsReadSoFar all mid lines)
IsRead script left (Err why.TooLong) lines =
    IfSome script (λ all. (most_script_bytes < length all) × (left ≡ Some (drop (most_script_bytes + 1) all))
    × (lines ≡ whole_lines (take most_script_bytes all)))

-- What was told before and after: what the source has left, what the sink took, the files of the store, the count of
-- its faults; and the clients.
pub record World : Type 0 where
  pub script : Option (List ℕ)
  pub left : Option (List ℕ)
  pub had : Option (List ℕ)
  pub has : Option (List ℕ)
  pub files : Option Files
  pub kept : Option Files
  pub counted : ℕ
  pub counts : ℕ
  pub before : Clients
  pub after : Clients

-- a machine without objects over the clients and the files before ran so; at its end every object is honest, and
-- these are the clients, the files and the count of faults, which did not fall before it began
pub record FromNoObjects (w : World) (Ran : Machine → Machine → Type 0) : Type 0 where
  pub start : Machine
  pub end : Machine
  pub starts : Starts w.before w.files start
  pub ran : Ran start end
  pub honest : AllHonest end
  pub left : end.clients ≡ w.after
  pub kept : end.store.files ≡ w.kept
  pub counted : w.counted ≤ start.store.faults
  pub counts : end.store.faults ≡ w.counts

-- from a machine without objects the lines that were read came to this outcome
abbrev pub Ran : Meanings → List Rule → Bool → World → Result Bool RunFail → Type 0
Ran m book trace w outcome = (lines : List Line) × IsRead w.script w.left outcome lines
    × FromNoObjects w (λ start end. HasOutcome m book trace w.had w.has start lines outcome end)

-- so it was with the book that the words name, traced where they say so
abbrev pub RanBook : Meanings → WordsSeen → World → Result Bool RunFail → Type 0
RanBook m said w outcome = (book : List Rule) × IsBook said.rules w.before w.files book
    × Ran m book said.trace w outcome

-- The lines are those of the source; or of the demo of this number, and of the source nothing was read.
abbrev pub RanScript : Meanings → Option ℕ → WordsSeen → World → Result Bool RunFail → Type 0
RanScript m None said w outcome = RanBook m said w outcome
RanScript m (Some n) said w outcome = (w.left ≡ w.script) × (left : Option (List ℕ))
    × RanBook m said (record w { script = Some (demo_text n); left = left }) outcome

-- so it was with the script that the words say
abbrev pub RanWords : Meanings → WordsSeen → World → Result Bool RunFail → Type 0
RanWords m said w outcome = RanScript m said.demo said w outcome

-- nothing was read, nothing was told, no client was started, and no file was written
abbrev pub DidNotRun : World → Type 0
DidNotRun w = (w.left ≡ w.script) × (w.has ≡ w.had) × (w.after ≡ w.before) × FilesStay w.files w.kept

-- so a run with this status ended; memory may have run out before it
abbrev pub Ended : Meanings → WordsSeen → Status → World → Type 0
Ended m said Answered w = RanWords m said w (Ok false)
Ended m said SomeRefused w = RanWords m said w (Ok true)
Ended m said SourceFault w = RanWords m said w (Err why.SourceFault)
Ended m said SinkFault w = RanWords m said w (Err why.SinkFault)
Ended m said OutOfMemory w = DidNotRun w ⊎ RanWords m said w (Err why.Memory)
Ended m said TooLong w = RanWords m said w (Err why.TooLong)
Ended m said BadBook w = DidNotRun w
Ended m said BadWords w = DidNotRun w

-- the same, where the words say something; else it did not run
abbrev pub EndedBy : Meanings → Option WordsSeen → Status → World → Type 0
EndedBy m None status w = DidNotRun w
EndedBy m (Some said) status w = Ended m said status w

-- with this status it did not run
abbrev pub IsUnrun : Status → Type 0
IsUnrun BadWords = Unit {0}
IsUnrun BadBook = Unit {0}
IsUnrun status = ⊥

-- The words name a book, and the store failed, or the file of this name is absent or refused, where the store tells
-- its files.
-- old and new: the count of the store's faults before and after.
abbrev pub IsBadBook : Option WordsSeen → Clients → Option (List (List ℕ × List ℕ)) → ℕ → ℕ → Type 0
IsBadBook said clients files old new =
    (words : WordsSeen) × (name : List ℕ) × (said ≡ Some words) × (words.rules ≡ Some name)
    × (Rose old new ⊎ IfSome files (IsRefusedBook name clients))
