use Rattle.pm_fraction.proofs.Quotients.{whole_reduced}
use lib.IntN.{pos}
use Rattle.pm_fraction.proofs.fraction.Fraction.zero.Goals as goal

pub from_parts-requires : goal.from_parts-requires
from_parts-requires c = whole_reduced (pos 0)
