-- What the lines of a script came to: some lines were read, and had this outcome.
use Rattle.pm_client.specs.Meanings.{Meanings, Narrows}
use Rattle.std.proofs.Common.{ap, inl, inr, refl, sym, ◌∙◌, ◌≡◌, ◌≤◌, ◌⊎◌, ℕ, Bool, true, false, List, [], ◌∷◌, ◌++◌, Option, Some, IfSome, Result, Ok, Err, IsErrOf, append_assoc, length}
use Rattle.pm_lines.specs.Coming.{BreaksOff, Exceeds, IsOver, ReaderSeen, most_ahead}
use Rattle.pm_lines.specs.declared.reader.LinesFail.{LinesFail}
use Rattle.pm_lines.specs.declared.reader.LinesFail.TheVariants as line
use Rattle.pm_machine.specs.Machines.{Machine, Stays}
use Rattle.pm_rules.specs.declared.rule.Rule.{Rule}
use Rattle.pm_command.specs.Lines.{Line}
use Rattle.pm_script.specs.Replies.{ReplySeen}
use Rattle.pm_run.proofs.Reading.{HasRead, goes_on, read_breaks, read_exceeds, read_over}
use Rattle.pm_run.proofs.Runs.{hand_more, reply_more, SoFar, so_far_fails, so_far_halts, so_far_whole}
use Rattle.pm_run.specs.Ends.{HasOutcome, InHand, IsRead, IsReadSoFar, fail_of}
use Rattle.pm_machine.specs.Run.{Answers, text_of_reply}
use Rattle.pm_run.specs.declared.status.RunFail.{RunFail}
use Rattle.pm_run.specs.declared.status.RunFail.TheVariants as why
use Rattle.pm_store.specs.Outside.{GainsPart}
use Rattle.pm_limits.specs.Limits.{most_script_bytes}

abbrev pub CameTo : Meanings → List Rule → Bool → Option (List ℕ) → Option (List ℕ) → Option (List ℕ) → Option (List ℕ) → Machine → Result Bool RunFail → Machine → Type 0
CameTo M book trace script left had has old r new = (lines : List Line) × IsRead script left r lines × HasOutcome M book trace had has old lines r new

-- before each line: first ones were read and answered
pub record Going (M : Meanings) (book : List Rule) (trace : Bool) (script left had has : Option (List ℕ)) (old : Machine) (r : ReaderSeen) (some_refused : Bool) (now : Machine) : Type 0 where
  pub first : List Line
  pub read : HasRead script left first r
  pub so_far : SoFar M book trace had has old first some_refused now

-- a reader that is at the end says so
pub not_at_end : {E : Type 0} (at_end : Bool) (r next : Result Bool E) → (at_end ≡ true → r ≡ Ok false) → r ≡ next → (next ≡ Ok false → ⊥) → at_end ≡ false
not_at_end true r next stays is other = absurd (other (sym is ∙ stays refl))
not_at_end false r next stays is other = refl

-- the source said that nothing is left
pub came_over : (M : Meanings) (book : List Rule) (trace : Bool) (script mid left had has : Option (List ℕ)) (old now : Machine) (r : ReaderSeen) (some : Bool)
    → Going M book trace script mid had has old r some now → r.read ≤ most_script_bytes → (r.at_end ≡ false → IfSome mid (λ all. IsOver all left r)) → (r.at_end ≡ true → left ≡ mid)
    → CameTo M book trace script left had has old (Ok some) now
came_over M book trace script mid left had has old now r some g bound over same =
    (g.first, read_over script mid left g.first r some g.read bound over same, so_far_whole M book trace had has old now g.first some g.so_far)

-- the next line did not come
came_not_on : (M : Meanings) (book : List Rule) (trace : Bool) (script mid left had has : Option (List ℕ)) (old now : Machine) (r new : ReaderSeen) (some : Bool) (f : LinesFail)
    → Going M book trace script mid had has old r some now → r.at_end ≡ false → r.read ≤ most_script_bytes → length r.given ≤ most_ahead → new.read ≤ most_script_bytes
    → (f ≡ line.Fault → IfSome mid (λ all. BreaksOff all left r new)) → (f ≡ line.TooLong → IfSome mid (λ all. Exceeds all left r))
    → CameTo M book trace script left had has old (Err (fail_of f)) now
came_not_on M book trace script mid left had has old now r new some line.Fault g on bound few bound' breaks exceeds =
    (g.first, read_breaks script mid left g.first r new g.read on (breaks refl) bound', (some, so_far_whole M book trace had has old now g.first some g.so_far))
came_not_on M book trace script mid left had has old now r new some line.TooLong g on bound few bound' breaks exceeds =
    (g.first, read_exceeds script mid left g.first r g.read on (exceeds refl), (some, so_far_whole M book trace had has old now g.first some g.so_far))
came_not_on M book trace script mid left had has old now r new some line.Memory g on bound few bound' breaks exceeds =
    let o = goes_on script mid g.first r bound few g.read in
    (g.first ++ o.others, (mid, o.lines), so_far_halts M book trace had has old now (g.first ++ o.others) g.first o.others some g.so_far refl)

pub came_breaking : (M : Meanings) (book : List Rule) (trace : Bool) (script mid left had has : Option (List ℕ)) (old now : Machine) (r new : ReaderSeen) (some : Bool)
    (advanced : Result Bool LinesFail) (f : LinesFail) (e : RunFail)
    → Going M book trace script mid had has old r some now → advanced ≡ Err f → e ≡ fail_of f → (r.at_end ≡ true → advanced ≡ Ok false) → r.read ≤ most_script_bytes → length r.given ≤ most_ahead → new.read ≤ most_script_bytes
    → (IsErrOf advanced line.Fault → IfSome mid (λ all. BreaksOff all left r new)) → (IsErrOf advanced line.TooLong → IfSome mid (λ all. Exceeds all left r))
    → CameTo M book trace script left had has old (Err e) now
came_breaking M book trace script mid left had has old now r new some advanced f e g was is stays bound few bound' breaks exceeds =
    rw is (came_not_on M book trace script mid left had has old now r new some f g (not_at_end r.at_end advanced (Err f) stays was (λ h. cc)) bound few bound'
    (λ h. breaks (was ∙ ap (λ (x : LinesFail). Err x) h)) (λ h. exceeds (was ∙ ap (λ (x : LinesFail). Err x) h)))

-- the next line came, and then its answer failed
is_read : (script left : Option (List ℕ)) (e : RunFail) (lines : List Line) → (e ≡ why.SinkFault) ⊎ (e ≡ why.Memory) → IfSome script (λ all. IsReadSoFar all left lines) → IsRead script left (Err e) lines
is_read script left e lines (inl is) read = rw is read
is_read script left e lines (inr is) read = rw is (left, read)

pub came_failing : (M N : Meanings) → Narrows M N → (book now_book : List Rule) (trace : Bool) (script left had between has : Option (List ℕ)) (old mid new : Machine) (r : ReaderSeen) (first : List Line) (line : Line) (some : Bool) (e : RunFail)
    → r.read ≤ most_script_bytes → length r.given ≤ most_ahead → HasRead script left (first ++ line ∷ []) r → SoFar M book trace had between old first some mid → now_book ≡ book → (e ≡ why.SinkFault) ⊎ (e ≡ why.Memory)
    → (e ≡ why.SinkFault → (reply : ReplySeen) × Answers N now_book mid line (Some reply) new × GainsPart between has (text_of_reply trace reply))
    → (e ≡ why.Memory → has ≡ between) → (e ≡ why.Memory → Stays mid new ⊎ InHand N now_book mid line new)
    → CameTo M book trace script left had has old (Err e) new
came_failing M N less book now_book trace script left had between has old mid new r first line some e bound few read s same either part still hand =
    let o = goes_on script left (first ++ line ∷ []) r bound few read in
    let lines = (first ++ line ∷ []) ++ o.others in (
      lines,
      is_read script left e lines either o.lines,
      so_far_fails M book now_book trace had between has old mid new lines first o.others line some e s same (append_assoc first (line ∷ []) o.others) o.ahead either
          (λ h. reply_more M N less now_book mid line new (λ reply. GainsPart between has (text_of_reply trace reply)) (part h)) still (λ h. hand_more M N less now_book mid line new (hand h)),
    )
