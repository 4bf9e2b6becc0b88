use Rattle.pm_props.proofs.NameLemmas.{named_exactly}
use Rattle.pm_props.proofs.property.PropId.named_by.Goals as goal

pub returns-clause-exact : goal.returns-clause-exact
returns-clause-exact c = λ p. rw c.find_named.ensures (named_exactly c.args.text.now p)
