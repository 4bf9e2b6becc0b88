use Rattle.pm_elim.proofs.DualLaws.{dual_basis_is_unique}
use Rattle.pm_elim.proofs.duals.law_dual_basis_is_unique.Goals as goal

pub returns : goal.returns
returns c = dual_basis_is_unique
