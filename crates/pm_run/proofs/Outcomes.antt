-- What an outcome over the lines gives for a whole run.
use Rattle.pm_client.specs.Meanings.{Meanings, unsaid}
use Rattle.pm_machine.proofs.Narrowing.{part_more}
use Rattle.pm_rounds.proofs.Narrowing.{narrows_unsaid}
use Rattle.std.proofs.Common.{arith, inl, inr, refl, subst, sym, ◌≡◌, ◌≤◌, ◌⊎◌, ℕ, Bool, true, false, List, [], ◌∷◌, ◌++◌, Option, Some, None, Result, Ok, Err, OnErr, IfOk}
use Rattle.pm_client.specs.Starts.{Clients}
use Rattle.pm_machine.proofs.Kept.{steps_in_part_keep}
use Rattle.pm_machine.proofs.Kept.{all_honest, stays_honest}
use Rattle.pm_machine.specs.Parts.{AllHonest, StepInPart}
use Rattle.pm_machine.specs.Sessions.{book_of, machine_at, machine_of}
use Rattle.pm_machine.specs.Machines.{Files, Machine, Stays}
use Rattle.pm_machine.specs.Steps.{AllKept}
use Rattle.pm_machine.specs.declared.session.Session.{Session}
use Rattle.pm_rules.specs.declared.rule.Rule.{Rule}
use Rattle.pm_command.specs.Commands.{Spoken}
use Rattle.pm_command.specs.Lines.{Line}
use Rattle.pm_script.specs.Replies.{ReplySeen, is_refusal}
use Rattle.pm_run.proofs.Came.{CameTo}
use Rattle.pm_run.proofs.Runs.{kept_run}
use Rattle.pm_run.proofs.Shown.{kept_by}
use Rattle.pm_run.specs.Chosen.{IsBook}
use Rattle.pm_run.specs.Demo.{demo_text}
use Rattle.pm_run.specs.Ends.{AnswersOne, DidNotRun, Ended, EndedBy, HasOutcome, InHand, IsBadBook, NextInHand, Ran, RanScript, RanWords, World, status_of}
use Rattle.pm_machine.specs.Run.{Answers, Starts, command_at, text_of_reply}
use Rattle.pm_run.specs.declared.status.RunFail.{RunFail}
use Rattle.pm_run.specs.declared.status.RunFail.TheVariants as why
use Rattle.pm_run.specs.declared.status.Status.{Status}
use Rattle.pm_run.specs.declared.status.Status.TheVariants.{OutOfMemory}
use Rattle.pm_machine.proofs.Beside.{files_stay}
use Rattle.pm_store.specs.Files.{FilesStay}
use Rattle.pm_store.specs.Outside.{GainsTold}
use Rattle.pm_words.specs.Words.{WordsSeen}

-- ---- at its end every object is honest
hand_honest : (M : Meanings) (book : List Rule) (old new : Machine) (line : Line) → InHand M book old line new → AllKept old → AllHonest new
hand_honest M book old new line (inl (command, at, part)) all =
    steps_in_part_keep book old new command (part_more unsaid M (narrows_unsaid M) book old command new part) all
hand_honest M book old new line (inr (reply, answers)) all = all_honest new (kept_by M book old new line (Some reply) answers all)

next_honest : (M : Meanings) (book : List Rule) (old new : Machine) (others : List Line) → NextInHand M book old others new → AllKept old → AllHonest new
next_honest M book old new [] s all = stays_honest old new s all
next_honest M book old new (line ∷ others) (inl s) all = stays_honest old new s all
next_honest M book old new (line ∷ others) (inr h) all = hand_honest M book old new line h all

outcome_honest : (M : Meanings) (book : List Rule) (trace : Bool) (had has : Option (List ℕ)) (old new : Machine) (lines : List Line) (r : Result Bool RunFail)
    → HasOutcome M book trace had has old lines r new → AllKept old → AllHonest new
outcome_honest M book trace had has old new lines (Ok some) h all = all_honest new (kept_run M book old new lines h.replies h.run all)
outcome_honest M book trace had has old new lines (Err why.SourceFault) (some, h) all = all_honest new (kept_run M book old new lines h.replies h.run all)
outcome_honest M book trace had has old new lines (Err why.SinkFault) h all =
    all_honest new (kept_run M book old new (h.first ++ h.line ∷ []) (h.replies ++ Some h.reply ∷ []) h.run all)
outcome_honest M book trace had has old new lines (Err why.Memory) h all =
    next_honest M book h.mid new h.others h.hand (kept_run M book old h.mid h.first h.replies h.run all)
outcome_honest M book trace had has old new lines (Err why.TooLong) (some, h) all = all_honest new (kept_run M book old new lines h.replies h.run all)

-- ---- whole runs
starts_new : (s : Session) (clients : Clients) (files : Option Files) (faults : ℕ) → ((q : List ℕ) → (machine_of s []).object q ≡ None) → (machine_of s []).names ≡ []
    → Starts clients files (machine_at s clients files faults)
starts_new s clients files faults none names = record { none = none; names = names; has = refl; store = files_stay files }

pub new_kept : (s : Session) (clients : Clients) (files : Option Files) (faults : ℕ) → ((q : List ℕ) → (machine_of s []).object q ≡ None) → AllKept (machine_at s clients files faults)
new_kept s clients files faults none = record { each = λ q. rw (none q) tt }

pub came : (M : Meanings) (book : List Rule) (trace : Bool) (s s' : Session) (before after : Clients) (script left had has : Option (List ℕ)) (files kept : Option Files) (faults faults' : ℕ) (r : Result Bool RunFail)
    → book_of s ≡ book → ((q : List ℕ) → (machine_of s []).object q ≡ None) → (machine_of s []).names ≡ []
    → CameTo M (book_of s) trace script left had has (machine_at s before files faults) r (machine_at s' after kept faults')
    → Ran M book trace (record { script = script; left = left; had = had; has = has; files = files; kept = kept; counted = faults; counts = faults'; before = before; after = after }) r
came M book trace s s' before after script left had has files kept faults faults' r is none names (lines, read, ran) = (
  lines,
  read,
  record {
    start = machine_at s before files faults;
    end = machine_at s' after kept faults';
    starts = starts_new s before files faults none names;
    ran = subst (λ (b : List Rule). HasOutcome M b trace had has (machine_at s before files faults) lines r (machine_at s' after kept faults')) is ran;
    honest = outcome_honest M (book_of s) trace had has (machine_at s before files faults) (machine_at s' after kept faults') lines r ran (new_kept s before files faults none);
    left = refl;
    kept = refl;
    counted = omega arith;
    counts = refl;
  },
)

-- what was told before the book was read is told after it
pub told_later : (before mid : Option Files) (m : Machine) (clients : Clients) → FilesStay before mid → Starts clients mid m → Starts clients before m
told_later None mid m clients stay s = record { none = s.none; names = s.names; has = s.has; store = tt }
told_later (Some all) mid m clients stay s = record { none = s.none; names = s.names; has = s.has; store = subst (λ z. FilesStay z m.store.files) stay s.store }

-- the same run, as it was told before the book was read
pub ran_later : (M : Meanings) (book : List Rule) (trace : Bool) (script left had has : Option (List ℕ)) (before mid kept : Option Files) (counted middle counts : ℕ) (first after : Clients) (r : Result Bool RunFail) → FilesStay before mid → counted ≤ middle
    → Ran M book trace (record { script = script; left = left; had = had; has = has; files = mid; kept = kept; counted = middle; counts = counts; before = first; after = after }) r
    → Ran M book trace (record { script = script; left = left; had = had; has = has; files = before; kept = kept; counted = counted; counts = counts; before = first; after = after }) r
ran_later M book trace script left had has before mid kept counted middle counts first after r stay rises (lines, read, f) =
    (lines, read, record { start = f.start; end = f.end; starts = told_later before mid f.start first stay f.starts; ran = f.ran; honest = f.honest; left = f.left; kept = f.kept; counted = (let u = f.counted in omega arith); counts = f.counts })

-- ---- a command in part
pub hand_of : {T E : Type 0} (r : Result T E) (M : Meanings) (book : List Rule) (old new : Machine) (line : Line) (command : Spoken) → command_at line ≡ Some command → StepInPart M book old command new
    → OnErr r (Stays old new ⊎ InHand M book old line new)
hand_of (Ok x) M book old new line command at part = tt
hand_of (Err e) M book old new line command at part = inr (inl (command, at, part))

-- ---- a reply
pub one_told : (M : Meanings) (book : List Rule) (trace : Bool) (old new : Machine) (line : Line) (reply : ReplySeen) (had has : Option (List ℕ)) (r : Result Bool RunFail)
    → Answers M book old line (Some reply) new → IfOk r (λ b. GainsTold had has (text_of_reply trace reply) × (b ≡ is_refusal reply)) → IfOk r (λ b. AnswersOne M book trace had has old line b new)
one_told M book trace old new line reply had has (Ok b) answers told = record { reply = Some reply; answers = answers; told = told.0; refusal = told.1 }
one_told M book trace old new line reply had has (Err e) answers told = tt

-- ---- how a run ended
pub ended_by : (M : Meanings) (said : WordsSeen) (w : World) (r : Result Bool RunFail) → RanWords M said w r → Ended M said (status_of r) w
ended_by M said w (Ok false) ran = ran
ended_by M said w (Ok true) ran = ran
ended_by M said w (Err why.SourceFault) ran = ran
ended_by M said w (Err why.SinkFault) ran = ran
ended_by M said w (Err why.Memory) ran = inr ran
ended_by M said w (Err why.TooLong) ran = ran

-- a run of the demo in place of the source, of which nothing was read
pub demo_ran : (M : Meanings) (said : WordsSeen) (n : ℕ) (book other : List Rule) (trace : Bool) (script same had has left : Option (List ℕ)) (files mid kept : Option Files) (counted middle counts : ℕ) (given before after : Clients) (text : List ℕ) (r : Result Bool RunFail) (status : Status) → status ≡ status_of r → said.demo ≡ Some n → same ≡ script
    → text ≡ demo_text n → trace ≡ said.trace → IsBook said.rules given files book → given ≡ before → FilesStay files mid → counted ≤ middle → other ≡ book
    → Ran M other trace (record { script = Some text; left = left; had = had; has = has; files = mid; kept = kept; counted = middle; counts = counts; before = before; after = after }) r
    → Ended M said status (record { script = script; left = same; had = had; has = has; files = files; kept = kept; counted = counted; counts = counts; before = before; after = after })
demo_ran M said n book other trace script same had has left files mid kept counted middle counts given before after text r status so is unread told traced found these stay rises this ran =
    subst (λ z. Ended M said z (record { script = script; left = same; had = had; has = has; files = files; kept = kept; counted = counted; counts = counts; before = before; after = after })) (sym so) (ended_by M said (record { script = script; left = same; had = had; has = has; files = files; kept = kept; counted = counted; counts = counts; before = before; after = after }) r
    (subst (λ z. RanScript M z said (record { script = script; left = same; had = had; has = has; files = files; kept = kept; counted = counted; counts = counts; before = before; after = after }) r) (sym is) (
      unread,
      left,
      (
        book,
        subst (λ z. IsBook said.rules z files book) these found,
        ran_later M book said.trace (Some (demo_text n)) left had has files mid kept counted middle counts before after r stay rises
            (subst (λ z. Ran M book z (record { script = Some (demo_text n); left = left; had = had; has = has; files = mid; kept = kept; counted = middle; counts = counts; before = before; after = after }) r) traced
            (subst (λ z. Ran M book trace (record { script = Some z; left = left; had = had; has = has; files = mid; kept = kept; counted = middle; counts = counts; before = before; after = after }) r) told
            (subst (λ z. Ran M z trace (record { script = Some text; left = left; had = had; has = has; files = mid; kept = kept; counted = middle; counts = counts; before = before; after = after }) r) this ran))),
      ),
    )))

-- memory ran out before anything was read
pub not_run : (M : Meanings) (said : Option WordsSeen) (w : World) → DidNotRun w → EndedBy M said OutOfMemory w
not_run M None w h = h
not_run M (Some said) w h = inl h

-- ---- the book
-- the words that were read are those that were given
pub bad_for : (given : Option WordsSeen) (said : WordsSeen) (clients : Clients) (files : Option Files) (old new : ℕ) → given ≡ Some said → IsBadBook (Some said) clients files old new → IsBadBook given clients files old new
bad_for given said clients files old new is h = subst (λ z. IsBadBook z clients files old new) (sym is) h

-- a book is refused by these clients as by those that are the same
pub bad_with : (said : Option WordsSeen) (before clients : Clients) (files : Option Files) (old new : ℕ) → before ≡ clients → IsBadBook said before files old new → IsBadBook said clients files old new
bad_with said before clients files old new are h = subst (λ z. IsBadBook said z files old new) are h
