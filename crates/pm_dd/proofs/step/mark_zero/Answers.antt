use Rattle.pm_dd.proofs.step.mark_zero.Goals as goal
use Rattle.std.proofs.Common.{arith, refl, ◌≡◌}
use Rattle.std.proofs.lemmas.Int.{ints}
use lib.IntN.{pos}

pub returns-then-value-eq0-clause-next : goal.returns-then-value-eq0-clause-next
returns-then-value-eq0-clause-next c =
    let t = c.if-value-eq0.true in
    let zero : c.args.value ≡ pos 0 = omega (arith, ints) in
    record {
      as_many = c.set.ensures.len;
      on = λ e. c.set.ensures.member;
      others = λ p np. c.set.ensures.others p (λ q. np q zero);
    }

pub returns-else-value-eq0-clause-next : goal.returns-else-value-eq0-clause-next
returns-else-value-eq0-clause-next c = record {
  as_many = refl;
  on = λ e. absurd (let t = c.if-value-eq0.false in omega (arith, ints));
  others = λ p np. refl;
}
