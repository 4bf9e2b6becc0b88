use Rattle.pm_graph.proofs.CountTurns.{f_vector_is}
use Rattle.pm_graph.proofs.counts.f_vector.Goals as goal
use Rattle.pm_geom.specs.FaceCounts.{inner}
use Rattle.pm_types.specs.Lists.{lists_of}
use Rattle.std.proofs.Common.{ap, arith, ◌∙◌}

pub returns : goal.returns
returns c = f_vector_is lists_of c.inner_ranks-faces-items.result.now c.loop-faces.counts.items c.loop-faces.faces-index c.args.l.now (omega arith) c.loop-faces.invariant (c.inner_ranks-faces-items.ensures ∙ ap inner c.ranks.ensures)
