use Rattle.pm_vector.proofs.Columns.{basis_is_independent}
use Rattle.pm_vector.proofs.law_basis_is_independent.Goals as goal

pub returns : goal.returns
returns c = basis_is_independent
