use Rattle.std.proofs.Common.{◌≡◌, Some, length, refl, sym, subst, arith}
use Rattle.std.specs.Prelude.{ℕ, ◌+◌, slice_get}
use Rattle.std.proofs.lemmas.Option.{slice_get_read}
use Rattle.std.proofs.lemmas.Bool.{iff_false}
use Rattle.pm_cert.proofs.Standing.{StandsSoFar, stands_more, stands_on, stands_in_the_end}
use Rattle.pm_cert.proofs.standing_rows.Goals as goal
use Rattle.pm_cert.proofs.standing_rows.Goals.{then-finds_one, else-finds_one}

pub loop-k-init : goal.loop-k-init
loop-k-init c =
    let ends = c.ending_nowhere-standing.ensures in
    record {
      within = ends.within;
      ends = ends.each;
      onward = λ id rule l e is. absurd (omega arith);
      first = λ row e stands. stands.ends (ends.first row e).0 (ends.first row e).1;
    }

pub loop-k-preserved : goal.loop-k-preserved
loop-k-preserved c =
    let rules = c.args.rules.now in
    let i = c.loop-k.k in
    let item = c.index-rules-k.result in
    let there : slice_get rules i ≡ Some item = slice_get_read rules (length rules) i item refl (omega (arith, c.loop-k-test.true)) c.index-rules-k.is in
    let more = stands_more rules c.args.names c.args.barred.now c.args.asked c.needed-needed.result c.args.rows.now c.args.c c.needed-needed.ensures i c.loop-k.standing in
    let on = stands_on rules c.args.names c.args.barred.now c.args.asked c.needed-needed.result c.args.rows.now c.args.c c.needed-needed.ensures i c.loop-k.standing item there in
    elim c.if-finds_one.branch [
      | then-finds_one w ↦
          let exact = rw w.step.ensures at w.going_on-standing.ensures in
          subst (λ (n : ℕ). StandsSoFar rules c.args.names c.args.barred.now c.args.asked c.needed-needed.result c.args.rows.now c.args.c (i + 1) n) (sym w.standing-is)
          (more w.going_on-standing.result item there exact.within (c.finds_one.ensures.0 w.if-finds_one.true) exact.each exact.first c.loop-k.invariant)
      | else-finds_one w ↦
          subst (λ (n : ℕ). StandsSoFar rules c.args.names c.args.barred.now c.args.asked c.needed-needed.result c.args.rows.now c.args.c (i + 1) n) (sym w.standing-is)
          (on (λ finds. iff_false c.finds_one.ensures w.if-finds_one.false finds) c.loop-k.invariant)
    ]

pub returns-clause-stand : goal.returns-clause-stand
returns-clause-stand c = stands_in_the_end c.args.rules.now c.args.names c.args.barred.now c.args.asked c.needed-needed.result c.args.rows.now c.args.c c.needed-needed.ensures
    c.loop-k.k c.loop-k.standing c.loop-k-test.false c.loop-k.invariant
