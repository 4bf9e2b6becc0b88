use Rattle.std.proofs.Common.{rules}
use Rattle.std.proofs.lemmas.Result.{IfOk-weaker}
use Rattle.std.specs.Prelude.{IfOk, string_bytes, ◌≡◌}
use Rattle.pm_fraction.proofs.ReadsBack.{answers_back}
use Rattle.pm_fraction.specs.Text.{text_of}
use Rattle.pm_fraction.proofs.fraction.Fraction.text.Goals as goal

pub returns-then-den-eq1-clause-reads_back : goal.returns-then-den-eq1-clause-reads_back
returns-then-den-eq1-clause-reads_back c =
    let text : IfOk c.format.result (λ s. string_bytes s ≡ text_of c.args.self) = search rules in
    IfOk-weaker c.format.result _ _ (λ s e. answers_back c.args.self c.num-num.ensures.reduced c.num-num.ensures.in_range c.den-den.ensures.in_range (string_bytes s) e) text

pub returns-else-den-eq1-clause-reads_back : goal.returns-else-den-eq1-clause-reads_back
returns-else-den-eq1-clause-reads_back c =
    let text : IfOk c.format-else-den-eq1.result (λ s. string_bytes s ≡ text_of c.args.self) = search rules in
    IfOk-weaker c.format-else-den-eq1.result _ _ (λ s e. answers_back c.args.self c.num-num.ensures.reduced c.num-num.ensures.in_range c.den-den.ensures.in_range (string_bytes s) e) text
