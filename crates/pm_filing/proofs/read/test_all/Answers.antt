-- Heights are tied to all parts, or to none where rules found sites or heights.
use Rattle.std.proofs.Common.{sym, ◌∙◌}
use Rattle.pm_filing.proofs.read.test_all.Goals as goal

pub returns-then-finds_sites-clause-ok : goal.returns-then-finds_sites-clause-ok
returns-then-finds_sites-clause-ok c = rw (sym c.finds_sites.ensures ∙ c.if-finds_sites.true) c.test_parts.ensures.ok

pub returns-then-finds_sites-clause-fault : goal.returns-then-finds_sites-clause-fault
returns-then-finds_sites-clause-fault c = rw (sym c.finds_sites.ensures ∙ c.if-finds_sites.true) c.test_parts.ensures.fault

pub returns-else-finds_sites-clause-ok : goal.returns-else-finds_sites-clause-ok
returns-else-finds_sites-clause-ok c = rw (sym c.finds_sites.ensures ∙ c.if-finds_sites.false) c.test_parts-else-finds_sites.ensures.ok

pub returns-else-finds_sites-clause-fault : goal.returns-else-finds_sites-clause-fault
returns-else-finds_sites-clause-fault c = rw (sym c.finds_sites.ensures ∙ c.if-finds_sites.false) c.test_parts-else-finds_sites.ensures.fault
