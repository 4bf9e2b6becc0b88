use Rattle.std.proofs.Common.{◌∙◌, Some, ap, refl}
use Rattle.std.specs.Prelude.{codes}
use Rattle.pm_rules.specs.Rules.{rule_at}
use Rattle.pm_printed.specs.Texts.{weight_in}
use Rattle.pm_printed.proofs.Back.{solid}
use Rattle.pm_printed.proofs.Unread.{rule_parts}
use Rattle.pm_props.specs.declared.kind.RuleId.{RuleId}
use Rattle.pm_printed.proofs.line.spelled_of_rule.Goals as goal

pub returns-in-Some-clause-back : goal.returns-in-Some-clause-back
returns-in-Some-clause-back c = λ id of e.
    let rules = c.args.rules.now in
    let cut = c.spelled_rule.ensures.back (codes "rule") (weight_in (rule_at rules id)) id (solid (codes "rule") refl) of (e ∙ rule_parts rules c.requires id) in
    let parts = rw c.in-Some.is at cut in
    ap (λ (i : RuleId). Some i) parts.0

pub returns-in-None-clause-back : goal.returns-in-None-clause-back
returns-in-None-clause-back c = λ id of e.
    let rules = c.args.rules.now in
    let cut = c.spelled_rule.ensures.back (codes "rule") (weight_in (rule_at rules id)) id (solid (codes "rule") refl) of (e ∙ rule_parts rules c.requires id) in
    absurd (rw c.in-None.is at cut)
