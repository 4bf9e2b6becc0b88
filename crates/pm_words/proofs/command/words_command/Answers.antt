use Rattle.std.proofs.Common.{rules, ap, ap₂, ◌≡◌, ◌∙◌, true}
use Rattle.clap.specs.Words.{app_of, rule_of, with_rule}
use Rattle.clap.specs.Simple.{app_of_fields, on_top, Shape}
use Rattle.pm_words.specs.Command.{demo_rule, rules_rule, trace_rule, bare_app}
use Rattle.pm_words.proofs.command.words_command.Goals as goal

pub returns : goal.returns
returns c =
    let rules_is : rule_of c.action-rules.result ≡ rules_rule = search rules in
    let trace_is : rule_of c.action-trace.result ≡ trace_rule = search rules in
    let demo_is : rule_of c.action-demo.result ≡ demo_rule = search rules in
    let step1 = c.no_binary_name.ensures in
    let step2 = rw step1 at c.disable_help_flag.ensures in
    let step3 = rw step2 at c.disable_version_flag-bare.ensures in
    let bare_is : app_of c.disable_version_flag-bare.result ≡ bare_app =
    ap app_of_fields step3 ∙ ap (on_top (λ (s : Shape). record s { no_binary_name = true; disable_help_flag = true; disable_version_flag = true })) c.new.ensures.app in
    c.in_ok-whole.ensures.shape (search rules)
    ∙ ap₂ with_rule (c.in_ok-with_trace.ensures.shape (search rules)
    ∙ ap₂ with_rule (c.in_ok-with_rules.ensures.shape (search rules) ∙ ap₂ with_rule bare_is rules_is) trace_is) demo_is
