use Rattle.std.proofs.Common.{rules}
use Rattle.pm_object.proofs.Settling.{cols_fit}
use Rattle.pm_object.proofs.object.Object.cols.Goals as goal

pub returns-in-None-clause-fits : goal.returns-in-None-clause-fits
returns-in-None-clause-fits c = cols_fit c.args.self.now.state c.first_cols.result c.ambient.ensures.formed (search rules)
