use Rattle.std.proofs.Common.{◌∙◌, ◌≡◌, sym, subst, rules}
use Rattle.std.specs.Prelude.{IfOk}
use Rattle.std.proofs.lemmas.Iterator.{items_from_collect, YieldsList-from_map, YieldsList-from_slice}
use Rattle.pm_rules.specs.Books.{IsBook}
use Rattle.pm_standard.specs.Book.{standard_rule, standard_rules}
use Rattle.pm_standard.specs.Table.{standard_clients}
use Rattle.pm_standard.proofs.StandardBook.{standard_IsBook}
use Rattle.pm_standard.proofs.book.standard_book.Goals as goal

pub of_rules-requires : goal.of_rules-requires
of_rules-requires c =
    let collected : IfOk c.collect.result (λ v. v.items ≡ standard_rules) =
    items_from_collect c.collect.result c.collect.ensures.ran (YieldsList-from_map _ standard_rule
    (YieldsList-from_slice standard_clients (search rules)) (search rules) (λ x r q k. search rules)) in
    subst IsBook (sym (rw c.in_ok-rules.was at collected)) standard_IsBook

pub returns : goal.returns
returns c =
    let collected : IfOk c.collect.result (λ v. v.items ≡ standard_rules) =
    items_from_collect c.collect.result c.collect.ensures.ran (YieldsList-from_map _ standard_rule
    (YieldsList-from_slice standard_clients (search rules)) (search rules) (λ x r q k. search rules)) in
    c.of_rules.ensures ∙ (rw c.in_ok-rules.was at collected)
