use Rattle.pm_props.proofs.NameLemmas.{named_in_exactly}
use Rattle.pm_props.proofs.property.PropId.named_in.Goals as goal

pub returns-clause-exact : goal.returns-clause-exact
returns-clause-exact c = λ p. rw c.find_named_in.ensures (named_in_exactly c.args.of c.args.text.now p)
