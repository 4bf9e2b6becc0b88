use Rattle.std.proofs.Common.{arith, length, sym, ◌∙◌, ◌≢◌}
use Rattle.pm_fraction.proofs.Digits.{own_digits}
use Rattle.pm_fraction.proofs.text.is_numeral.Goals as goal
use borrow.Author.Tests.{eqb-false}

pub returns-then-not-is_empty : goal.returns-then-not-is_empty
returns-then-not-is_empty c =
    let all = rw c.as_bytes.ensures.value at c.are_digits.ensures in
    let some : length c.args.text.now ≢ 0 = eqb-false (length c.args.text.now) 0 (sym c.is_empty.ensures ∙ c.if-not-is_empty.true) in
    (λ t. (omega arith, own_digits.to c.args.text.now (sym all ∙ t)), λ n. all ∙ own_digits.from c.args.text.now n.1)
