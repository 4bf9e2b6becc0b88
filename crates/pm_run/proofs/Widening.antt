-- A run of clients that mean less is one of clients that mean more.
use Rattle.std.proofs.Common.{inl, inr, subst, ◌≡◌}
use Rattle.std.specs.Prelude.{Bool, Err, List, None, Ok, Option, Result, Some, [], false, true, ℕ, ◌∷◌, ◌++◌, ◌⊎◌}
use Rattle.pm_client.specs.Meanings.{Meanings, Narrows}
use Rattle.pm_client.specs.Starts.{Clients}
use Rattle.pm_command.specs.Lines.{Line}
use Rattle.pm_machine.proofs.Narrowing.{run_more}
use Rattle.pm_machine.specs.Machines.{Machine}
use Rattle.pm_rules.specs.declared.rule.Rule.{Rule}
use Rattle.pm_run.proofs.Runs.{hand_more}
use Rattle.pm_run.specs.Demo.{demo_text}
use Rattle.pm_run.specs.Ends.{AnsweredAll, BrokeOff, Ended, EndedBy, HasOutcome, NextInHand, Ran, RanBook, RanScript, RanWords, Stopped, World}
use Rattle.pm_run.specs.declared.status.RunFail.{RunFail}
use Rattle.pm_run.specs.declared.status.RunFail.TheVariants as why
use Rattle.pm_run.specs.declared.status.Status.{Status}
use Rattle.pm_run.specs.declared.status.Status.TheVariants.{Answered, SomeRefused, BadWords, SourceFault, SinkFault, OutOfMemory, TooLong, BadBook}
use Rattle.pm_words.specs.Words.{WordsSeen}

module _ (m n : Meanings) (less : Narrows m n) where
  all_more : (book : List Rule) (trace : Bool) (had has : Option (List ℕ)) (some : Bool) (old : Machine) (lines : List Line) (new : Machine) → AnsweredAll n book trace had has some old lines new → AnsweredAll m book trace had has some old lines new
  all_more book trace had has some old lines new a =
      record { replies = a.replies; run = run_more m n less book old lines a.replies new a.run; told = a.told; refusal = a.refusal }

  broke_more : (book : List Rule) (trace : Bool) (had has : Option (List ℕ)) (old : Machine) (lines : List Line) (new : Machine) → BrokeOff n book trace had has old lines new → BrokeOff m book trace had has old lines new
  broke_more book trace had has old lines new b = record {
    first = b.first;
    line = b.line;
    others = b.others;
    whole = b.whole;
    ahead = b.ahead;
    replies = b.replies;
    reply = b.reply;
    run = run_more m n less book old (b.first ++ b.line ∷ []) (b.replies ++ Some b.reply ∷ []) new b.run;
    told = b.told;
  }

  next_more : (book : List Rule) (old : Machine) (lines : List Line) (new : Machine) → NextInHand n book old lines new → NextInHand m book old lines new
  next_more book old [] new s = s
  next_more book old (line ∷ others) new h = hand_more m n less book old line new h

  stopped_more : (book : List Rule) (trace : Bool) (had has : Option (List ℕ)) (old : Machine) (lines : List Line) (new : Machine) → Stopped n book trace had has old lines new → Stopped m book trace had has old lines new
  stopped_more book trace had has old lines new s = record {
    first = s.first;
    others = s.others;
    whole = s.whole;
    replies = s.replies;
    mid = s.mid;
    run = run_more m n less book old s.first s.replies s.mid s.run;
    told = s.told;
    hand = next_more book s.mid s.others new s.hand;
  }

  outcome_more : (book : List Rule) (trace : Bool) (had has : Option (List ℕ)) (old : Machine) (lines : List Line) (r : Result Bool RunFail) (new : Machine) → HasOutcome n book trace had has old lines r new → HasOutcome m book trace had has old lines r new
  outcome_more book trace had has old lines (Ok some) new h = all_more book trace had has some old lines new h
  outcome_more book trace had has old lines (Err why.SourceFault) new (some, h) = (some, all_more book trace had has some old lines new h)
  outcome_more book trace had has old lines (Err why.SinkFault) new h = broke_more book trace had has old lines new h
  outcome_more book trace had has old lines (Err why.Memory) new h = stopped_more book trace had has old lines new h
  outcome_more book trace had has old lines (Err why.TooLong) new (some, h) = (some, all_more book trace had has some old lines new h)

  ran_more : (book : List Rule) (trace : Bool) (w : World) (r : Result Bool RunFail) → Ran n book trace w r → Ran m book trace w r
  ran_more book trace w r (lines, read, f) = (
    lines,
    read,
    record {
      start = f.start;
      end = f.end;
      starts = f.starts;
      ran = outcome_more book trace w.had w.has f.start lines r f.end f.ran;
      honest = f.honest;
      left = f.left;
      kept = f.kept;
      counted = f.counted;
      counts = f.counts;
    },
  )

  book_more : (said : WordsSeen) (w : World) (r : Result Bool RunFail) → RanBook n said w r → RanBook m said w r
  book_more said w r (book, is, ran) = (book, is, ran_more book said.trace w r ran)

  script_more : (demo : Option ℕ) (said : WordsSeen) (w : World) (r : Result Bool RunFail) → RanScript n demo said w r → RanScript m demo said w r
  script_more None said w r ran = book_more said w r ran
  script_more (Some k) said w r (unread, left, ran) = (unread, left, book_more said (record w { script = Some (demo_text k); left = left }) r ran)

  words_more : (said : WordsSeen) (w : World) (r : Result Bool RunFail) → RanWords n said w r → RanWords m said w r
  words_more said w r ran = script_more said.demo said w r ran

  ended_more : (said : WordsSeen) (status : Status) (w : World) → Ended n said status w → Ended m said status w
  ended_more said Answered w e = words_more said w (Ok false) e
  ended_more said SomeRefused w e = words_more said w (Ok true) e
  ended_more said SourceFault w e = words_more said w (Err why.SourceFault) e
  ended_more said SinkFault w e = words_more said w (Err why.SinkFault) e
  ended_more said OutOfMemory w (inl e) = inl e
  ended_more said OutOfMemory w (inr e) = inr (words_more said w (Err why.Memory) e)
  ended_more said TooLong w e = words_more said w (Err why.TooLong) e
  ended_more said BadBook w e = e
  ended_more said BadWords w e = e

  pub ended_by_more : (said : Option WordsSeen) (status : Status) (w : World) → EndedBy n said status w → EndedBy m said status w
  ended_by_more None status w e = e
  ended_by_more (Some said) status w e = ended_more said status w e

-- and where the clients before are these
pub ended_as : (m n : Meanings) → Narrows m n → (said : Option WordsSeen) (status : Status) (w : World) (before : Clients) → w.before ≡ before → EndedBy n said status w → EndedBy m said status (record w { before = before })
ended_as m n less said status w before is e = subst (λ z. EndedBy m said status (record w { before = z })) is (ended_by_more m n less said status w e)
