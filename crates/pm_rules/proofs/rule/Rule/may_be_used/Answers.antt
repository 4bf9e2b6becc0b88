use Rattle.std.proofs.Common.{sym, ◌∙◌}
use Rattle.std.proofs.lemmas.Bool.{not-true, not_from_false}
use Rattle.pm_rules.proofs.rule.Rule.may_be_used.Goals as goal

pub returns-then-is_in_use : goal.returns-then-is_in_use
returns-then-is_in_use c = (
  (λ h. (c.is_in_use.ensures.0 c.if-is_in_use.true, sym c.is_barred.ensures ∙ not-true c.is_barred.result h)),
  (λ h. not_from_false c.is_barred.result (c.is_barred.ensures ∙ h.1)),
)
