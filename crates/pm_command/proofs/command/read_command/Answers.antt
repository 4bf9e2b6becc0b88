use Rattle.std.proofs.Common.{ap, codes, refl, sym, ◌∙◌, ◌≡◌, true, false}
use Rattle.std.proofs.lemmas.Bool.{false_from_ne_true}
use Rattle.std.proofs.lemmas.Str.{IsUtf8-from_is_utf8, is_utf8-from_IsUtf8}
use Rattle.std.specs.Str.{bytes_eq, is_utf8}
use Rattle.pm_command.specs.Lines.{is_silent}
use Rattle.pm_command.proofs.command.read_command.Goals as goal

pub returns-in_default-clause-refused : goal.returns-in_default-clause-refused
returns-in_default-clause-refused c =
    let heard : is_silent c.args.line.now ≡ false = sym c.is_silent.ensures ∙ c.if-is_silent.false in
    let other : is_utf8 c.args.line.now ≡ false = false_from_ne_true (is_utf8 c.args.line.now) (λ e. c.in_default.ensures.cases.0 (IsUtf8-from_is_utf8 c.args.line.now e)) in
    λ _. rw (heard, other) refl

pub returns-then-eq-clause-ok : goal.returns-then-eq-clause-ok
returns-then-eq-clause-ok c =
    let heard : is_silent c.args.line.now ≡ false = sym c.is_silent.ensures ∙ c.if-is_silent.false in
    let utf8 : is_utf8 c.args.line.now ≡ true = is_utf8-from_IsUtf8 c.args.line.now c.in-Ok.ensures.cases.1 in
    let rules : bytes_eq c.args.line.now (codes "rules") ≡ true = ap (λ z. bytes_eq z (codes "rules")) (sym c.in-Ok.ensures.cases.0) ∙ sym c.eq.ensures ∙ c.if-eq.true in
    rw (heard, utf8, rules) refl

pub returns-clause-ok : goal.returns-clause-ok
returns-clause-ok c =
    let heard : is_silent c.args.line.now ≡ false = sym c.is_silent.ensures ∙ c.if-is_silent.false in
    let utf8 : is_utf8 c.args.line.now ≡ true = is_utf8-from_IsUtf8 c.args.line.now c.in-Ok.ensures.cases.1 in
    let other : bytes_eq c.args.line.now (codes "rules") ≡ false = ap (λ z. bytes_eq z (codes "rules")) (sym c.in-Ok.ensures.cases.0) ∙ sym c.eq.ensures ∙ c.if-eq.false in
    rw (heard, utf8, other) (rw (c.split_word.ensures.word, c.split_word.ensures.rest, c.in-Ok.ensures.cases.0) at c.read_words.ensures.ok)

pub returns-clause-refused : goal.returns-clause-refused
returns-clause-refused c =
    let heard : is_silent c.args.line.now ≡ false = sym c.is_silent.ensures ∙ c.if-is_silent.false in
    let utf8 : is_utf8 c.args.line.now ≡ true = is_utf8-from_IsUtf8 c.args.line.now c.in-Ok.ensures.cases.1 in
    let other : bytes_eq c.args.line.now (codes "rules") ≡ false = ap (λ z. bytes_eq z (codes "rules")) (sym c.in-Ok.ensures.cases.0) ∙ sym c.eq.ensures ∙ c.if-eq.false in
    rw (heard, utf8, other) (rw (c.split_word.ensures.word, c.split_word.ensures.rest, c.in-Ok.ensures.cases.0) at c.read_words.ensures.refused)

pub returns-then-is_silent-clause-ok : goal.returns-then-is_silent-clause-ok
returns-then-is_silent-clause-ok c =
    let silent : is_silent c.args.line.now ≡ true = sym c.is_silent.ensures ∙ c.if-is_silent.true in
    rw silent refl
