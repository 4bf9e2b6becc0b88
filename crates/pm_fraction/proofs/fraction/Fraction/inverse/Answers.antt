use Rattle.std.proofs.lemmas.Int.{by_lt_z}
use Rattle.pm_fraction.proofs.Quotients.{reduced_inverse, reduced_negative_inverse}
use lib.IntN.{pos}
use lib.Signed.{◌≤ℤ◌}
use Rattle.pm_fraction.proofs.fraction.Fraction.inverse.Goals as goal

pub from_parts-requires : goal.from_parts-requires
from_parts-requires c =
    rw (c.negated.ensures, c.negated-then-is_negative.ensures, c.parts-num.ensures.num, c.parts-num.ensures.den) (reduced_negative_inverse c.args.self.num c.args.self.den c.parts-num.ensures.reduced (c.is_negative.ensures.0 c.if-is_negative.true))

pub from_parts-requires-else-is_negative : goal.from_parts-requires-else-is_negative
from_parts-requires-else-is_negative c =
    let above : pos 0 ≤ℤ c.args.self.num = by_lt_z c.args.self.num (pos 0) (λ l. let f = c.is_negative.ensures.1 l in cc) (λ h. h) in
    rw (c.parts-num.ensures.num, c.parts-num.ensures.den) (reduced_inverse c.args.self.num c.args.self.den c.parts-num.ensures.reduced above c.requires)
