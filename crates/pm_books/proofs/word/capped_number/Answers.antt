use Rattle.std.proofs.Common.{◌≡◌, ◌-◌, ◌+◌, ◌*◌, get_or, min, refl, ◌∙◌, arith, rules}
use Rattle.pm_books.proofs.Numbers.{number_step}
use Rattle.pm_books.proofs.word.capped_number.Goals as goal

pub loop-b-preserved : goal.loop-b-preserved
loop-b-preserved c =
    let text = c.args.text.now in
    let i = c.loop-b.b-index in
    let next : c.min-number.result ≡ min (10 * c.loop-b.number + (get_or text i 0 - 48)) 1000001 = search rules in
    record {
      left = number_step 1000001 c.loop-b.number c.min-number.result i (get_or text i 0) text c.loop-b-test.true refl next ∙ c.loop-b.invariant.left;
      below = omega arith;
    }
