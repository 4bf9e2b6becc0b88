use Rattle.pm_rules.proofs.Halves.{half_written}
use Rattle.pm_script.proofs.chains.push_half.Goals as goal

pub returns : goal.returns
returns c = half_written c.write.result _ _ c.in_radix.result c.laid_out.result c.args.half c.in_radix.ensures c.laid_out.ensures c.write.ensures.bytes
