use Rattle.pm_graph.proofs.RightGraphs.{dual_greatest_distance_is_diameter}
use Rattle.pm_graph.proofs.law_dual_greatest_distance_is_diameter.Goals as goal

pub returns : goal.returns
returns c = dual_greatest_distance_is_diameter
