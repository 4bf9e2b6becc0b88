use Rattle.std.proofs.Common.{◌≡◌, ◌∙◌, None, Some, ap, sym}
use Rattle.pm_rules.specs.Rules.{rule_at}
use Rattle.pm_printed.specs.Texts.{label_in}
use Rattle.pm_printed.proofs.Back.{labelled_back}
use Rattle.pm_printed.proofs.Unread.{label_lacks_space, rule_there}
use Rattle.pm_printed.proofs.line.spelled_rule.Goals as goal
use Rattle.std.proofs.lemmas.Option.{same_Some}

pub returns-in-Some-rule_labelled-clause-back : goal.returns-in-Some-rule_labelled-clause-back
returns-in-Some-rule_labelled-clause-back c = λ word rest id lacks of e.
    let rules = c.args.rules.now in
    let cut = c.cut_words.ensures word (label_in (rule_at rules id)) rest lacks (label_lacks_space rules c.requires id of) e in
    let parts = rw c.in-Some.is at cut in
    let there = rule_there rules c.requires id of in
    let found : c.rule_labelled.result ≡ Some id = c.rule_labelled.ensures ∙ labelled_back rules c.requires id there.0 of there.1 c.in-Some.label.now (parts.0 ∙ ap label_in there.1) in
    (same_Some c.in-Some-rule_labelled.id id (sym c.in-Some-rule_labelled.is ∙ found), parts.1)

pub returns-in-None-rule_labelled-clause-back : goal.returns-in-None-rule_labelled-clause-back
returns-in-None-rule_labelled-clause-back c = λ word rest id lacks of e.
    let rules = c.args.rules.now in
    let cut = c.cut_words.ensures word (label_in (rule_at rules id)) rest lacks (label_lacks_space rules c.requires id of) e in
    let parts = rw c.in-Some.is at cut in
    let there = rule_there rules c.requires id of in
    let found : c.rule_labelled.result ≡ Some id = c.rule_labelled.ensures ∙ labelled_back rules c.requires id there.0 of there.1 c.in-Some.label.now (parts.0 ∙ ap label_in there.1) in
    let none : c.rule_labelled.result ≡ None = c.in-None-rule_labelled.is in
    cc

pub returns-in-None-clause-back : goal.returns-in-None-clause-back
returns-in-None-clause-back c = λ word rest id lacks of e.
    let cut = c.cut_words.ensures word (label_in (rule_at c.args.rules.now id)) rest lacks (label_lacks_space c.args.rules.now c.requires id of) e in
    rw c.in-None.is at cut
