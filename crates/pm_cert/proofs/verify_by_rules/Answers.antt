-- The tests together say that the table is a certificate, and a certificate bounds every chain.
use Rattle.pm_cert.proofs.Closed.{certificate_exactly, claim_holds}
use Rattle.pm_cert.proofs.verify_by_rules.Goals as goal

pub returns-then-begins_and_ends-clause-exact : goal.returns-then-begins_and_ends-clause-exact
returns-then-begins_and_ends-clause-exact c =
    let ends = c.begins_and_ends.ensures.0 c.if-begins_and_ends.true in
    certificate_exactly c.args.rules.now c.args.names c.args.barred.now c.args.held c.args.asked c.needed-needed.result c.args.c c.args.rows.now c.needed-needed.ensures
    c.is_closed.result ends.0 ends.1 c.is_closed.ensures

pub returns-then-begins_and_ends-clause-claim : goal.returns-then-begins_and_ends-clause-claim
returns-then-begins_and_ends-clause-claim c = λ h.
    claim_holds c.args.rules.now c.args.names c.args.barred.now c.args.held c.args.asked c.args.c c.args.rows.now ((returns-then-begins_and_ends-clause-exact c).0 h)
