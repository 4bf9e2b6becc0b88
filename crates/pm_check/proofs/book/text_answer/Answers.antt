use Rattle.std.proofs.Common.{List, ◌∙◌, ap, string_bytes, subst, sym}
use Rattle.std.specs.Prelude.{Ok}
use Rattle.pm_books.specs.Gives.{GivesAs}
use Rattle.pm_books.specs.Grammar.{IsBookText}
use Rattle.pm_books.specs.Reading.{book_of}
use Rattle.pm_rules.specs.declared.rule.Rule.{Rule}
use Rattle.pm_standard.specs.Table.{standard_kinds_list}
use Rattle.pm_check.specs.Books.{IsBookAnswer, IsFaultAnswer, count_text}
use Rattle.pm_check.specs.Books.IsBookAnswer.{spells}
use Rattle.pm_check.proofs.Files.{fault_is, if_ok_more}
use Rattle.pm_check.proofs.book.text_answer.Goals as goal

pub returns-in-Ok-clause-found : goal.returns-in-Ok-clause-found
returns-in-Ok-clause-found c = λ utf8.
    let kinds = c.deref.ensures.value ∙ c.in_ok-kinds.ensures in
    spells c.in-Ok.book utf8 (subst (λ ks. IsBookText ks c.args.text.now c.in-Ok.book) kinds c.in-Ok.ensures.found) (c.in_ok-count_line-in-Ok.ensures ∙ ap count_text c.len.ensures)

pub returns-clause-found : goal.returns-clause-found
returns-clause-found c = λ utf8.
    let kinds = c.deref.ensures.value ∙ c.in_ok-kinds.ensures in
    let text = c.args.text.now in
    let only : (rules : List Rule) → IsBookText standard_kinds_list text rules → GivesAs (λ (b : List Rule). b) c.read_book.result (Ok rules) =
    λ rules h. c.read_book.ensures.only rules (subst (λ ks. IsBookText ks text rules) (sym kinds) h) in
    let exact : GivesAs (λ (b : List Rule). b) c.read_book.result (book_of standard_kinds_list text) =
    subst (λ ks. GivesAs (λ (b : List Rule). b) c.read_book.result (book_of ks text)) kinds c.read_book.ensures.exact in
    if_ok_more c.fault_answer.result (λ a. IsFaultAnswer c.in-Err.why c.as_bytes.result.now (string_bytes a.0) a.1) (λ a. IsBookAnswer text (string_bytes a.0) a.1)
    (λ a h. fault_is (λ (b : List Rule). b) text (string_bytes a.0) a.1 c.read_book.result c.in-Err.why utf8 c.in-Err.is only exact
    (subst (λ t. IsFaultAnswer c.in-Err.why t (string_bytes a.0) a.1) c.as_bytes.ensures.value h)) c.fault_answer.ensures.found
