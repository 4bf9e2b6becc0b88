use Rattle.pm_build.proofs.SumFactors.{divisor_some, part_is, part_small}
use Rattle.pm_build.proofs.sums.part.Goals as goal
use Rattle.pm_vector.proofs.Kept.{kept}

pub nonzero_div-result : goal.nonzero_div-result
nonzero_div-result c = divisor_some c.args.number c.args.divisor c.requires.positive c.requires.divisor

pub returns-clause-value : goal.returns-clause-value
returns-clause-value c = rw (c.unsigned_abs.ensures.value, kept c.args.number c.requires.in_range) (part_is c.args.number c.args.divisor c.requires.positive c.requires.in_range c.requires.divisor)

pub returns-clause-in_range : goal.returns-clause-in_range
returns-clause-in_range c = rw (c.unsigned_abs.ensures.value, kept c.args.number c.requires.in_range) (part_small c.args.number c.args.divisor c.requires.positive c.requires.in_range c.requires.divisor)
