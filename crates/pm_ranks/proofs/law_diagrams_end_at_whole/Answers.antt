use Rattle.pm_ranks.proofs.Diagrams.{diagrams_end_at_whole}
use Rattle.pm_ranks.proofs.law_diagrams_end_at_whole.Goals as goal

pub returns : goal.returns
returns c = diagrams_end_at_whole
