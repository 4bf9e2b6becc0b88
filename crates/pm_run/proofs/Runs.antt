-- Runs go on line by line, keep every object honest, and show right values.
use Rattle.pm_client.specs.Meanings.{Meanings, Narrows}
use Rattle.pm_machine.proofs.Narrowing.{answers_more, part_more}
use Rattle.std.proofs.Common.{ap, inl, inr, refl, subst, sym, ◌∙◌, ◌≡◌, ◌||◌, ◌≤◌, ◌⊎◌, ℕ, Bool, true, false, List, [], ◌∷◌, ◌++◌, Option, Some, None, Err, append_assoc, append-nil}
use Rattle.pm_machine.proofs.Kept.{all_honest}
use Rattle.pm_lines.specs.Coming.{most_ahead}
use Rattle.pm_machine.specs.Laws.{AllStand}
use Rattle.pm_machine.specs.Machines.{Machine, Stays}
use Rattle.pm_machine.specs.Parts.{AllHonest}
use Rattle.pm_machine.specs.Steps.{AllKept}
use Rattle.pm_rules.specs.declared.rule.Rule.{Rule}
use Rattle.pm_command.specs.Lines.{Line}
use Rattle.pm_script.specs.Replies.{ReplySeen}
use Rattle.pm_run.proofs.Shown.{kept_by, shows_right, stand_by}
use Rattle.pm_run.specs.Ends.{AnsweredAll, AnswersOne, BrokeOff, GainsWithin, HasOutcome, InHand, NextInHand, Stopped, bytes_in}
use Rattle.pm_machine.specs.Run.{Answers, Run, any_refused, is_refused, replies_text, text_if, text_of_reply}
use Rattle.pm_machine.specs.Shown.{Shows}
use Rattle.pm_run.specs.declared.status.RunFail.{RunFail}
use Rattle.pm_run.specs.declared.status.RunFail.TheVariants as why
use Rattle.pm_store.proofs.OutsideLemmas.{Gains-then}
use Rattle.pm_store.specs.Outside.{GainsTold, GainsPart}
use Rattle.std.proofs.Math.Bool.{or-false}

-- ---- honesty
pub kept_run : (M : Meanings) (book : List Rule) (old new : Machine) (lines : List Line) (replies : List (Option ReplySeen)) → Run M book old lines replies new → AllKept old → AllKept new
kept_run M book old new [] [] is all = subst AllKept (sym is) all
kept_run M book old new (line ∷ lines) (reply ∷ replies) (mid, first, right, honest, stand, rest) all =
    kept_run M book mid new lines replies rest (kept_by M book old mid line reply first all)
kept_run M book old new [] (reply ∷ replies) h all = absurd h
kept_run M book old new (line ∷ lines) [] h all = absurd h

-- ---- one line more
next_right : (M : Meanings) (book : List Rule) (old mid new : Machine) (lines : List Line) (replies : List (Option ReplySeen)) (line : Line) (reply : Option ReplySeen)
    → Run M book old lines replies mid → Answers M book mid line reply new → Shows reply new → AllHonest new → AllStand book new → Run M book old (lines ++ line ∷ []) (replies ++ reply ∷ []) new
next_right M book old mid new [] [] line reply is answers right last stand = (new, subst (λ (m : Machine). Answers M book m line reply new) is answers, right, last, stand, refl)
next_right M book old mid new (l ∷ lines) (r ∷ replies) line reply (next, first, right, honest, stands, rest) answers shown last stand =
    (next, first, right, honest, stands, next_right M book next mid new lines replies line reply rest answers shown last stand)
next_right M book old mid new [] (r ∷ replies) line reply h answers shown last stand = absurd h
next_right M book old mid new (l ∷ lines) [] line reply h answers shown last stand = absurd h

-- ---- what clients do that mean less
pub one_more : (M N : Meanings) → Narrows M N → (book : List Rule) (trace : Bool) (had has : Option (List ℕ)) (old : Machine) (line : Line) (some_refused : Bool) (new : Machine)
    → AnswersOne N book trace had has old line some_refused new → AnswersOne M book trace had has old line some_refused new
one_more M N less book trace had has old line some_refused new a =
    record { reply = a.reply; answers = answers_more M N less book old line a.reply new a.answers; told = a.told; refusal = a.refusal }

pub reply_more : (M N : Meanings) → Narrows M N → (book : List Rule) (old : Machine) (line : Line) (new : Machine) (P : ReplySeen → Type 0)
    → (reply : ReplySeen) × Answers N book old line (Some reply) new × P reply → (reply : ReplySeen) × Answers M book old line (Some reply) new × P reply
reply_more M N less book old line new P (reply, answers, p) = (reply, answers_more M N less book old line (Some reply) new answers, p)

pub hand_more : (M N : Meanings) → Narrows M N → (book : List Rule) (old : Machine) (line : Line) (new : Machine) → Stays old new ⊎ InHand N book old line new → Stays old new ⊎ InHand M book old line new
hand_more M N less book old line new (inl s) = inl s
hand_more M N less book old line new (inr (inl (command, at, part))) = inr (inl (command, at, part_more M N less book old command new part))
hand_more M N less book old line new (inr (inr (reply, answers))) = inr (inr (reply, answers_more M N less book old line (Some reply) new answers))

replies_text-append : (trace : Bool) (replies : List (Option ReplySeen)) (reply : Option ReplySeen)
    → replies_text trace (replies ++ reply ∷ []) ≡ replies_text trace replies ++ text_if trace reply
replies_text-append trace [] reply = append-nil (text_if trace reply)
replies_text-append trace (r ∷ replies) reply =
    ap (λ (t : List ℕ). text_if trace r ++ t) (replies_text-append trace replies reply)
    ∙ sym (append_assoc (text_if trace r) (replies_text trace replies) (text_if trace reply))

or-assoc : (a b c : Bool) → (a || (b || c)) ≡ ((a || b) || c)
or-assoc true b c = refl
or-assoc false b c = refl

any_refused-append : (replies : List (Option ReplySeen)) (reply : Option ReplySeen) → any_refused (replies ++ reply ∷ []) ≡ (any_refused replies || is_refused reply)
any_refused-append [] reply = or-false (is_refused reply)
any_refused-append (r ∷ replies) reply =
    ap (λ (b : Bool). is_refused r || b) (any_refused-append replies reply) ∙ or-assoc (is_refused r) (any_refused replies) (is_refused reply)

-- the first lines are answered, each reply is told, and every object is kept
pub record SoFar (M : Meanings) (book : List Rule) (trace : Bool) (had has : Option (List ℕ)) (old : Machine) (first : List Line) (some_refused : Bool) (now : Machine) : Type 0 where
  pub replies : List (Option ReplySeen)
  pub run : Run M book old first replies now
  pub told : GainsTold had has (replies_text trace replies)
  pub refusal : some_refused ≡ any_refused replies
  pub kept : AllKept now
  pub stand : AllStand book now

pub Gains-none : (a : Option (List ℕ)) → GainsTold a a []
Gains-none None = tt
Gains-none (Some had) = ap (λ (t : List ℕ). Some t) (sym (append-nil had))

pub so_far_start : (M : Meanings) (book : List Rule) (trace : Bool) (had : Option (List ℕ)) (m : Machine) → AllKept m → AllStand book m → SoFar M book trace had had m [] false m
so_far_start M book trace had m kept stand = record { replies = []; run = refl; told = Gains-none had; refusal = refl; kept = kept; stand = stand }

pub so_far_next : (M : Meanings) (book now_book : List Rule) (trace : Bool) (had between has : Option (List ℕ)) (old mid new : Machine) (first : List Line) (line : Line) (some last : Bool)
    → SoFar M book trace had between old first some mid → now_book ≡ book → AnswersOne M now_book trace between has mid line last new
    → SoFar M book trace had has old (first ++ line ∷ []) (some || last) new
so_far_next M book now_book trace had between has old mid new first line some last s same one =
    let answers : Answers M book mid line one.reply new = subst (λ (b : List Rule). Answers M b mid line one.reply new) same one.answers in
    let kept : AllKept new = kept_by M book mid new line one.reply answers s.kept in
    let stand : AllStand book new = stand_by M book mid new line one.reply answers s.stand in
    record {
      replies = s.replies ++ one.reply ∷ [];
      run = next_right M book old mid new first s.replies line one.reply s.run answers (shows_right M book mid new line one.reply answers kept) (all_honest new kept) stand;
      told = Gains-then had between has (replies_text trace s.replies) (text_if trace one.reply) (replies_text trace (s.replies ++ one.reply ∷ [])) s.told one.told
          (sym (replies_text-append trace s.replies one.reply));
      refusal = ap (λ (b : Bool). b || last) s.refusal ∙ ap (λ (b : Bool). any_refused s.replies || b) one.refusal ∙ sym (any_refused-append s.replies one.reply);
      kept = kept;
      stand = stand;
    }

pub so_far_whole : (M : Meanings) (book : List Rule) (trace : Bool) (had has : Option (List ℕ)) (old now : Machine) (first : List Line) (some : Bool)
    → SoFar M book trace had has old first some now → AnsweredAll M book trace had has some old first now
so_far_whole M book trace had has old now first some s = record { replies = s.replies; run = s.run; told = s.told; refusal = s.refusal }

within : (had between has : Option (List ℕ)) (front piece : List ℕ) → GainsTold had between front → GainsPart between has piece → GainsWithin had has front piece
within None between has front piece g h = tt
within (Some had) between has front piece g h =
    subst (λ (b : Option (List ℕ)). GainsPart b has piece) g h

so_far_part : (M : Meanings) (book now_book : List Rule) (trace : Bool) (had between has : Option (List ℕ)) (old mid new : Machine) (lines first others : List Line) (line : Line) (some : Bool)
    → SoFar M book trace had between old first some mid → now_book ≡ book → lines ≡ first ++ line ∷ others → bytes_in others ≤ most_ahead
    → (reply : ReplySeen) × Answers M now_book mid line (Some reply) new × GainsPart between has (text_of_reply trace reply) → BrokeOff M book trace had has old lines new
so_far_part M book now_book trace had between has old mid new lines first others line some s same whole ahead (reply, told, part) =
    let answers : Answers M book mid line (Some reply) new = subst (λ (b : List Rule). Answers M b mid line (Some reply) new) same told in
    let kept : AllKept new = kept_by M book mid new line (Some reply) answers s.kept in
    record {
      first = first;
      line = line;
      others = others;
      whole = whole;
      ahead = ahead;
      replies = s.replies;
      reply = reply;
      run = next_right M book old mid new first s.replies line (Some reply) s.run answers (shows_right M book mid new line (Some reply) answers kept) (all_honest new kept) (stand_by M book mid new line (Some reply) answers s.stand);
      told = within had between has (replies_text trace s.replies) (text_of_reply trace reply) s.told part;
    }

so_far_stops : (M : Meanings) (book now_book : List Rule) (trace : Bool) (had has : Option (List ℕ)) (old now new : Machine) (lines first others : List Line) (line : Line) (some : Bool)
    → SoFar M book trace had has old first some now → now_book ≡ book → lines ≡ first ++ line ∷ others → Stays now new ⊎ InHand M now_book now line new
    → Stopped M book trace had has old lines new
so_far_stops M book now_book trace had has old now new lines first others line some s same whole hand = record {
  first = first;
  others = line ∷ others;
  whole = whole;
  replies = s.replies;
  mid = now;
  run = s.run;
  told = s.told;
  hand = subst (λ (b : List Rule). Stays now new ⊎ InHand M b now line new) same hand;
}

-- the next line was read, and then its answer failed
pub so_far_fails : (M : Meanings) (book now_book : List Rule) (trace : Bool) (had between has : Option (List ℕ)) (old mid new : Machine) (lines first others : List Line) (line : Line) (some : Bool) (e : RunFail)
    → SoFar M book trace had between old first some mid → now_book ≡ book → lines ≡ first ++ line ∷ others → bytes_in others ≤ most_ahead → (e ≡ why.SinkFault) ⊎ (e ≡ why.Memory)
    → (e ≡ why.SinkFault → (reply : ReplySeen) × Answers M now_book mid line (Some reply) new × GainsPart between has (text_of_reply trace reply))
    → (e ≡ why.Memory → has ≡ between) → (e ≡ why.Memory → Stays mid new ⊎ InHand M now_book mid line new)
    → HasOutcome M book trace had has old lines (Err e) new
so_far_fails M book now_book trace had between has old mid new lines first others line some why.SinkFault s same whole ahead either part still hand =
    so_far_part M book now_book trace had between has old mid new lines first others line some s same whole ahead (part refl)
so_far_fails M book now_book trace had between has old mid new lines first others line some why.Memory s same whole ahead either part still hand =
    subst (λ (h : Option (List ℕ)). Stopped M book trace had h old lines new) (sym (still refl))
    (so_far_stops M book now_book trace had between old mid new lines first others line some s same whole (hand refl))
so_far_fails M book now_book trace had between has old mid new lines first others line some why.SourceFault s same whole ahead (inl e) part still hand = cc
so_far_fails M book now_book trace had between has old mid new lines first others line some why.SourceFault s same whole ahead (inr e) part still hand = cc
so_far_fails M book now_book trace had between has old mid new lines first others line some why.TooLong s same whole ahead (inl e) part still hand = cc
so_far_fails M book now_book trace had between has old mid new lines first others line some why.TooLong s same whole ahead (inr e) part still hand = cc

stays : (m : Machine) → Stays m m
stays m = record { names = refl; objects = λ q. refl; clients = refl; store = refl }

pub nothing_in_hand : (M : Meanings) (book : List Rule) (m : Machine) (lines : List Line) → NextInHand M book m lines m
nothing_in_hand M book m [] = stays m
nothing_in_hand M book m (line ∷ lines) = inl (stays m)

-- memory ran out before the next line
pub so_far_halts : (M : Meanings) (book : List Rule) (trace : Bool) (had has : Option (List ℕ)) (old now : Machine) (lines first others : List Line) (some : Bool)
    → SoFar M book trace had has old first some now → lines ≡ first ++ others → Stopped M book trace had has old lines now
so_far_halts M book trace had has old now lines first others some s whole = record {
  first = first;
  others = others;
  whole = whole;
  replies = s.replies;
  mid = now;
  run = s.run;
  told = s.told;
  hand = nothing_in_hand M book now others;
}
