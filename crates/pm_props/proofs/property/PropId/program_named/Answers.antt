use Rattle.pm_props.proofs.NameLemmas.{program_named_exactly}
use Rattle.pm_props.proofs.property.PropId.program_named.Goals as goal

pub returns-clause-exact : goal.returns-clause-exact
returns-clause-exact c = λ p. rw c.find_program.ensures (program_named_exactly c.args.text.now p)
