use Rattle.std.proofs.Common.{◌≡◌, ◌∙◌, ap, ap₂, false, List, refl, Some, sym, true, ℕ}
use Rattle.std.specs.Prelude.{codes, Option}
use Rattle.pm_props.specs.declared.kind.RuleId.{RuleId}
use Rattle.pm_printed.specs.Printed.{is_plain}
use Rattle.pm_printed.proofs.Back.{solid}
use Rattle.pm_printed.proofs.Unread.{barred_parts}
use Rattle.pm_printed.proofs.line.spelled_barred.Goals as goal

abbrev told : RuleId → List ℕ → Option (RuleId × List ℕ)
told a b = Some (a, b)

pub returns-in_default-clause-back : goal.returns-in_default-clause-back
returns-in_default-clause-back c = λ x is e.
    let cut = c.spelled_rule.ensures.back (codes "barred") x.1 x.0 (solid (codes "barred") refl) is.rule (e ∙ barred_parts c.args.rules.now c.requires x) in
    absurd (rw c.in_default.is at cut)

pub returns-in_ok-why-clause-back : goal.returns-in_ok-why-clause-back
returns-in_ok-why-clause-back c = λ x is e.
    let cut = c.spelled_rule.ensures.back (codes "barred") x.1 x.0 (solid (codes "barred") refl) is.rule (e ∙ barred_parts c.args.rules.now c.requires x) in
    let parts = rw c.in-Some.is at cut in
    ap₂ told parts.0 (c.in_ok-why.ensures.ok ∙ parts.1)

pub returns-else-is_plain-clause-back : goal.returns-else-is_plain-clause-back
returns-else-is_plain-clause-back c = λ x is e.
    let cut = c.spelled_rule.ensures.back (codes "barred") x.1 x.0 (solid (codes "barred") refl) is.rule (e ∙ barred_parts c.args.rules.now c.requires x) in
    let parts = rw c.in-Some.is at cut in
    let plain : is_plain c.in-Some.why.now ≡ true = ap is_plain parts.1 ∙ is.why in
    let found : is_plain c.in-Some.why.now ≡ false = sym c.is_plain.ensures ∙ c.if-is_plain.false in
    cc
