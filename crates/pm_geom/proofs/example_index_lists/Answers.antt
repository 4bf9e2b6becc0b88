use Rattle.pm_geom.proofs.SmallGraphs.{index_lists_are_read}
use Rattle.pm_geom.proofs.example_index_lists.Goals as goal

pub returns : goal.returns
returns c = index_lists_are_read
