use Rattle.pm_graph.proofs.RightGraphs.{greatest_distance_is_diameter}
use Rattle.pm_graph.proofs.law_greatest_distance_is_diameter.Goals as goal

pub returns : goal.returns
returns c = greatest_distance_is_diameter
