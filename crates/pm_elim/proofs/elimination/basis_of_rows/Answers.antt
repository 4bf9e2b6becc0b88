use Rattle.pm_elim.proofs.EvidenceLaws.{err_joined, no_evidence_on_rows, on_ok_weaker, wide_is_evidence}
use Rattle.pm_elim.proofs.elimination.basis_of_rows.Goals as goal

pub returns-clause-never_wide : goal.returns-clause-never_wide
returns-clause-never_wide c = on_ok_weaker c.basis_of.result _ _ (no_evidence_on_rows c.args.cols c.args.rows.now) c.basis_of.ensures.never_wide

pub returns-clause-wide : goal.returns-clause-wide
returns-clause-wide c = err_joined c.basis_of.result _ _ _ (λ f w l. wide_is_evidence c.args.cols c.args.rows.now f w l) c.basis_of.ensures.wide c.basis_of.ensures.list
