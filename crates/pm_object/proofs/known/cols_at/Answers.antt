use Rattle.pm_object.proofs.KnownValues.{cols_between}
use Rattle.pm_object.proofs.known.cols_at.Goals as goal

pub returns-clause-some : goal.returns-clause-some
returns-clause-some c = (cols_between c.args.o.now.state c.in-Some.n c.in-Some.ensures.formed c.in-Some.ensures.value).0

pub returns-clause-few : goal.returns-clause-few
returns-clause-few c = (cols_between c.args.o.now.state c.in-Some.n c.in-Some.ensures.formed c.in-Some.ensures.value).1
