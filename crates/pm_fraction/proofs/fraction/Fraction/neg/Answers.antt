use Rattle.pm_fraction.proofs.Quotients.{reduced_opposite}
use Rattle.pm_fraction.proofs.fraction.Fraction.neg.Goals as goal

pub from_parts-requires : goal.from_parts-requires
from_parts-requires c =
    rw (c.negated.ensures, c.parts-num.ensures.num, c.parts-num.ensures.den) (reduced_opposite c.args.self.num c.args.self.den c.parts-num.ensures.reduced)
