use Rattle.pm_props.proofs.KindLemmas.{kind_of_tables}
use Rattle.pm_props.proofs.kind.Kind.is_of.Goals as goal

pub returns : goal.returns
returns c = rw (c.are_in.ensures, c.every.ensures, c.names.ensures) (kind_of_tables c.args.sub c.args.of c.args.self.now)
