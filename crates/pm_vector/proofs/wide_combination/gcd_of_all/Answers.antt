use Rattle.pm_vector.proofs.WrittenQuotients.{gcd_more, gcd_all}
use Rattle.pm_vector.proofs.wide_combination.gcd_of_all.Goals as goal
use Rattle.pm_vector.specs.Magnitudes.{magnitude_of}
use Rattle.pm_vector.specs.WideInts.{value_of}
use Rattle.std.proofs.Common.{arith, get_or, map, sym}
use Rattle.std.proofs.lemmas.List.{get_or-map, length-map}
use lib.IntN.{pos}

pub loop-number-preserved : goal.loop-number-preserved
loop-number-preserved c =
    let i = c.loop-number.number-index in
    gcd_more (map value_of c.args.numbers.now) i (magnitude_of c.loop-number.divisor) (magnitude_of c.gcd_with-divisor.result) _ (omega (arith, length-map c.args.numbers.now value_of)) c.loop-number.invariant
    (sym (get_or-map value_of c.args.numbers.now i _ (pos 0) c.loop-number-test.true)) c.gcd_with-divisor.ensures

pub returns : goal.returns
returns c = gcd_all (map value_of c.args.numbers.now) c.loop-number.number-index (magnitude_of c.loop-number.divisor) (omega (arith, length-map c.args.numbers.now value_of)) c.loop-number.invariant
