use Rattle.std.proofs.Common.{◌≡◌, ◌<◌, Some, length, refl, arith}
use Rattle.std.specs.Prelude.{slice_get}
use Rattle.std.proofs.lemmas.Option.{slice_get_read, slice_get_within}
use Rattle.std.proofs.lemmas.Bool.{iff_false, false≢true}
use Rattle.pm_cert.proofs.Closed.{first_more}
use Rattle.pm_cert.proofs.is_closed.Goals as goal
use Rattle.pm_cert.proofs.is_closed.Goals.{else-finds_one-via-then-finds_one+else-not-all_go_on, else-finds_one-via-else-finds_one}

pub returns-then-not-all_go_on : goal.returns-then-not-all_go_on
returns-then-not-all_go_on c =
    let rules = c.args.rules.now in
    let item = c.index-rules-i.result in
    let there : slice_get rules c.loop-i.i ≡ Some item = slice_get_read rules (length rules) c.loop-i.i item refl (omega arith) c.index-rules-i.is in
    let exact = rw c.step.ensures at c.all_go_on.ensures in (
      (λ h. absurd (false≢true h)),
      (λ all. absurd (iff_false exact c.if-not-all_go_on.true (all (record { 0 = c.loop-i.i }) item there (c.finds_one.ensures.0 c.if-finds_one.true)))),
    )

pub loop-i-preserved : goal.loop-i-preserved
loop-i-preserved c =
    let rules = c.args.rules.now in
    let item = c.index-rules-i.result in
    let there : slice_get rules c.loop-i.i ≡ Some item = slice_get_read rules (length rules) c.loop-i.i item refl (omega arith) c.index-rules-i.is in
    first_more rules c.args.names c.args.barred.now c.args.needed c.args.rows.now c.args.c c.loop-i.i item there
    (elim c.else-finds_one.branch [
      | else-finds_one-via-then-finds_one+else-not-all_go_on w ↦ λ finds. (rw w.step.ensures at w.all_go_on.ensures).0 w.if-not-all_go_on.false
      | else-finds_one-via-else-finds_one w ↦ λ finds. absurd (iff_false c.finds_one.ensures w.if-finds_one.false finds)
    ])
    c.loop-i.invariant

pub returns : goal.returns
returns c = (
  (λ h id rule e. c.loop-i.invariant id rule (let within : id.0 < length c.args.rules.now = slice_get_within c.args.rules.now id.0 rule e in omega arith) e),
  (λ h. refl),
)
