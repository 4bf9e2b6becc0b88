use Rattle.std.proofs.Common.{refl, sym, ◌∙◌}
use Rattle.std.proofs.lemmas.Nat.Bits.{shr_and_one}
use Rattle.pm_bits.proofs.Firsts.{differ_at_lowest, lowest_in_first, lowest_in_second}
use Rattle.pm_bits.proofs.words.compare_words.Goals as goal

pub overflow_shr-x : goal.overflow_shr-x
overflow_shr-x c = (differ_at_lowest c.args.x c.args.y c.ranges.x.fits c.ranges.y.fits c.if-x-y.false _ refl).0

pub returns-then-x-lowest-eq1 : goal.returns-then-x-lowest-eq1
returns-then-x-lowest-eq1 c =
    lowest_in_first c.args.x c.args.y c.ranges.x.fits c.ranges.y.fits c.if-x-y.false _ refl (sym (shr_and_one c.args.x _) ∙ c.if-x-lowest-eq1.true)

pub returns-else-x-lowest-eq1 : goal.returns-else-x-lowest-eq1
returns-else-x-lowest-eq1 c =
    lowest_in_second c.args.x c.args.y c.ranges.x.fits c.ranges.y.fits c.if-x-y.false _ refl (λ e. c.if-x-lowest-eq1.false (shr_and_one c.args.x _ ∙ e))
