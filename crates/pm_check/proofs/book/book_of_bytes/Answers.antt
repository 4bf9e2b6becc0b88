use Rattle.std.proofs.Common.{◌≡◌, List, ◌∙◌, inr, subst, sym}
use Rattle.std.specs.Prelude.{Ok}
use Rattle.pm_books.specs.Gives.{GivesAs}
use Rattle.pm_books.specs.Grammar.{IsBookText}
use Rattle.pm_rules.specs.declared.rule.Rule.{Rule}
use Rattle.pm_standard.specs.Table.{standard_kinds_list}
use Rattle.pm_check.specs.declared.status.NoAnswer.TheVariants.{BadBook}
use Rattle.pm_check.proofs.Files.{no_book}
use Rattle.pm_check.proofs.book.book_of_bytes.Goals as goal

pub returns-clause-refused : goal.returns-clause-refused
returns-clause-refused c = λ h.
    let kinds = c.deref.ensures.value ∙ c.in_ok-kinds.ensures in
    let text = c.in-Ok.ensures.cases.0 in
    let bad : c.no_answer.result ≡ BadBook = cc in
    let only : (rules : List Rule) → IsBookText standard_kinds_list c.args.bytes.now rules → GivesAs (λ (b : List Rule). b) c.read_book.result (Ok rules) =
    λ rules spells. c.read_book.ensures.only rules (subst (λ ks. IsBookText ks c.in-Ok.text.now rules) (sym kinds) (subst (λ t. IsBookText standard_kinds_list t rules) (sym text) spells)) in
    inr (inr (no_book (λ (b : List Rule). b) c.args.bytes.now c.read_book.result c.in-Err.why c.in-Err.is (c.no_answer.ensures.bad bad) only))
