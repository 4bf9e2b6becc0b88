-- A fifth word that differs is one too many; until then each turn sees one word more, or one that was seen.
use Rattle.std.proofs.Common.{arith, refl, sym, ◌∙◌}
use Rattle.pm_command.proofs.Asked.{one_more, seen_before, seen_now, too_many}
use Rattle.pm_command.proofs.command.are_few.Goals as goal
use Rattle.pm_command.proofs.command.are_few.Goals.{then-not-is_among+else-len-eq-MOST_ASKED+in_ok-push, else-not-is_among}

pub returns-then-len-eq-MOST_ASKED : goal.returns-then-len-eq-MOST_ASKED
returns-then-len-eq-MOST_ASKED c =
    too_many (λ w. w.now) c.loop-word.seen.items c.args.words.now c.loop-word.word-index _ (omega arith) _
    (sym (rw c.deref.ensures.value at c.is_among.ensures) ∙ c.if-not-is_among.true) (omega (arith, c.len.ensures, c.if-len-eq-MOST_ASKED.true)) c.loop-word.invariant.0

pub loop-word-preserved : goal.loop-word-preserved
loop-word-preserved c = elim c.if-not-is_among.branch [
  | then-not-is_among+else-len-eq-MOST_ASKED+in_ok-push w ↦ rw (w.seen-is, w.in_ok-push.ensures.items) (
    seen_now (λ v. v.now) c.loop-word.seen.items c.args.words.now c.loop-word.word-index _ (omega arith) _ _
        (sym (rw c.deref.ensures.value at c.is_among.ensures) ∙ w.if-not-is_among.true) refl c.loop-word.invariant.0,
    one_more c.loop-word.seen.items _ c.loop-word.invariant.1 (λ e. w.if-len-eq-MOST_ASKED.false (omega (arith, w.len.ensures, e))),
  )
  | else-not-is_among w ↦ rw w.seen-is (
    seen_before (λ v. v.now) c.loop-word.seen.items c.args.words.now c.loop-word.word-index _ (omega arith) _
        (sym (rw c.deref.ensures.value at c.is_among.ensures) ∙ w.if-not-is_among.false) c.loop-word.invariant.0,
    c.loop-word.invariant.1,
  )
]
