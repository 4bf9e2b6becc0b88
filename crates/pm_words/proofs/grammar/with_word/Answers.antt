use Rattle.std.proofs.Common.{codes, false, nat_eq, refl, sym, ◌∙◌, ◌≡◌}
use Rattle.std.specs.List.{starts_with}
use Rattle.std.specs.Str.{bytes_eq}
use Rattle.pm_words.proofs.Prefixes.{no_prefix}
use Rattle.pm_words.proofs.grammar.with_word.Goals as goal

pub returns-in-None : goal.returns-in-None
returns-in-None c =
    let trace : bytes_eq c.args.word.now (codes "--trace") ≡ false = sym c.eq.ensures ∙ c.if-eq.false in
    let rules : starts_with nat_eq c.args.word.now (codes "--rules=") ≡ false = no_prefix c.args.word.now (codes "--rules=") c.in_default.ensures.cases in
    let demo : starts_with nat_eq c.args.word.now (codes "--demo=") ≡ false = no_prefix c.args.word.now (codes "--demo=") c.in-None.ensures.cases in
    rw (trace, rules, demo) refl
