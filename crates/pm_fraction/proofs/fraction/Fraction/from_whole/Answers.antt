use Rattle.pm_fraction.proofs.Quotients.{whole_reduced}
use Rattle.pm_fraction.proofs.fraction.Fraction.from_whole.Goals as goal

pub from_parts-requires : goal.from_parts-requires
from_parts-requires c = whole_reduced c.in_ok-new.field-0
