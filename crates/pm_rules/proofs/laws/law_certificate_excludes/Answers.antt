use Rattle.pm_rules.specs.declared.table.Claim.TheVariants.{NoChain}
use Rattle.pm_rules.proofs.Refutes.{refuted}
use Rattle.pm_rules.proofs.laws.law_certificate_excludes.Goals as goal

pub returns : goal.returns
returns c = λ book names barred held asked table certificate chain h. refuted book names barred held asked NoChain table certificate chain h tt
