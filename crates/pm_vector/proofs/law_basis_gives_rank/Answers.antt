use Rattle.pm_vector.proofs.Rank.{basis_gives_rank}
use Rattle.pm_vector.proofs.law_basis_gives_rank.Goals as goal

pub returns : goal.returns
returns c = basis_gives_rank
