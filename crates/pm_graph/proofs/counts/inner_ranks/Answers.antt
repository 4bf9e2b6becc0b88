use Rattle.pm_graph.proofs.CountTurns.{inner_of}
use Rattle.pm_graph.proofs.counts.inner_ranks.Goals as goal
use Rattle.pm_types.specs.Lists.{lists_of}

pub returns : goal.returns
returns c = inner_of lists_of c.args.ranks.now
