use Rattle.std.proofs.Common.{◌≡◌, true, false, rules, tests}
use Rattle.std.proofs.lemmas.Iterator.{YieldsList-from_slice, cases_from_any}
use Rattle.std.specs.Str.{bytes_eq}
use Rattle.pm_rules.specs.declared.rule.Rule.{Rule}
use Rattle.pm_books.proofs.PartLemmas.{any_from_cases}
use Rattle.pm_books.proofs.read.has_label.Goals as goal

pub returns : goal.returns
returns c =
    let same = λ (rule : Rule). bytes_eq rule.label c.args.label.now in
    any_from_cases same c.args.had.now c.any.result
    (cases_from_any _ _ _ (λ rule. same rule ≡ true) (λ rule. same rule ≡ false) c.any.ensures.ran (YieldsList-from_slice c.args.had.now c.iter.ensures.rest)
    (λ x q k. search (rules, tests)) (λ x q k. search (rules, tests)))
