use Rattle.pm_bits.proofs.Members.{Holds-new, IsEmpty-new, length-bits_below}
use Rattle.pm_bits.proofs.row.BitRow.with_len.Goals as goal

pub invariant_of-result : goal.invariant_of-result
invariant_of-result c =
    Holds-new c.in_ok-words.words.items c.args.len c.div_ceil.result c.ranges.len.fits c.div_ceil.ensures c.in_ok-words.ensures

pub returns-clause-len : goal.returns-clause-len
returns-clause-len c = length-bits_below c.in_ok-words.words.items c.args.len

pub returns-clause-empty : goal.returns-clause-empty
returns-clause-empty c =
    IsEmpty-new c.in_ok-words.words.items c.args.len c.div_ceil.result c.ranges.len.fits c.div_ceil.ensures c.in_ok-words.ensures
