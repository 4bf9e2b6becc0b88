-- What stands after a step, and after one that did not answer.
use Rattle.pm_machine.proofs.Names.{honest_step, kept_if_ok}
use Rattle.pm_script.specs.Replies.{seen}
use Rattle.pm_machine.proofs.session.Session.step.Goals as goal

pub returns-clause-kept : goal.returns-clause-kept
returns-clause-kept g c = kept_if_ok _ seen _ _ _ _ c.do_any-ran.result c.do_any-ran.ensures.step

pub returns-clause-honest : goal.returns-clause-honest
returns-clause-honest g c = honest_step _ seen _ _ _ _ c.do_any-ran.result c.do_any-ran.ensures.step c.do_any-ran.ensures.part
