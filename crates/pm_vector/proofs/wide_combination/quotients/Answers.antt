use Rattle.pm_vector.proofs.Held.{kept}
use Rattle.pm_vector.proofs.WrittenQuotients.{first_more, no_quotient}
use Rattle.pm_vector.proofs.wide_combination.quotients.Goals as goal
use Rattle.pm_vector.specs.Magnitudes.{magnitude_of}
use Rattle.pm_vector.specs.Multiples.{HaveQuotients}
use Rattle.pm_vector.specs.Numbers.{InRange}
use Rattle.pm_vector.specs.WideInts.{value_of}
use Rattle.std.proofs.Common.{ap, arith, map, subst, sym, ◌∙◌}
use Rattle.std.proofs.lemmas.Int.{fits_signed_from_abs}
use Rattle.std.proofs.lemmas.List.{get_or-map, length-map}
use Rattle.std.specs.Int.{w128, ◌∣◌}
use Rattle.std.specs.Prelude.{unsigned_abs}
use lib.IntN.{pos, ◌*ℤ◌}

pub divided_by-requires-clause-divisor : goal.divided_by-requires-clause-divisor
divided_by-requires-clause-divisor c =
    subst (λ z. magnitude_of c.args.d ∣ unsigned_abs z) (get_or-map value_of c.args.numbers.now c.loop-number.number-index _ (pos 0) c.loop-number-test.true) (c.requires.divisor c.loop-number.number-index)

pub returns-in_default-clause-none : goal.returns-in_default-clause-none
returns-in_default-clause-none c =
    let same = length-map c.args.numbers.now value_of in
    λ all. no_quotient (map value_of c.args.numbers.now) (magnitude_of c.args.d) c.loop-number.number-index (value_of c.divided_by.result) (omega (arith, same, c.loop-number-test.true)) c.requires.positive
    (get_or-map value_of c.args.numbers.now c.loop-number.number-index _ (pos 0) c.loop-number-test.true ∙ c.divided_by.ensures) c.in_default.ensures
    (subst (λ n. HaveQuotients (map value_of c.args.numbers.now) (magnitude_of c.args.d) n) (sym same) all)

pub loop-number-preserved : goal.loop-number-preserved
loop-number-preserved c =
    let in_range = subst InRange (sym c.in-Some.ensures.1) c.in-Some.ensures.0 in
    first_more (map value_of c.args.numbers.now) (magnitude_of c.args.d) c.loop-number.number-index c.loop-number.made.items c.push.new.self.items c.in-Some.quotient c.loop-number.invariant
    (get_or-map value_of c.args.numbers.now c.loop-number.number-index _ (pos 0) c.loop-number-test.true ∙ c.divided_by.ensures ∙ ap (λ y. pos (magnitude_of c.args.d) *ℤ y) (sym c.in-Some.ensures.1))
    in_range
    (rw (kept c.in-Some.quotient (fits_signed_from_abs w128 c.in-Some.quotient in_range)) at c.in_ok-push.ensures.items)
