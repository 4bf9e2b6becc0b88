-- What is said of the rules and rows is said of the book and its table.
use Rattle.pm_cert.proofs.verify.Goals as goal

pub returns-clause-claim : goal.returns-clause-claim
returns-clause-claim c = rw c.rules.ensures.value at c.verify_by_rules.ensures.claim
