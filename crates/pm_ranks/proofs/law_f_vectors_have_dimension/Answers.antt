use Rattle.pm_ranks.proofs.Diagrams.{f_vectors_have_dimension}
use Rattle.pm_ranks.proofs.law_f_vectors_have_dimension.Goals as goal

pub returns : goal.returns
returns c = f_vectors_have_dimension
