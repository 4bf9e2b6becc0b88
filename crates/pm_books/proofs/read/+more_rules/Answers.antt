use Rattle.std.proofs.Common.{◌≡◌, ◌∷◌, [], ◌+◌, ◌<◌, length, map, subst, sym, ap, ◌∙◌, arith, length-append}
use Rattle.pm_rules.specs.Books.{IsBook}
use Rattle.pm_books.specs.Seen.{seen}
use Rattle.pm_books.proofs.ReadBooks.{rule_from_ok, next_IsBook, rules_end, rules_fault, rules_next, gives_fault}
use Rattle.pm_books.proofs.read.+more_rules.Goals as goal
use Rattle.pm_limits.specs.Limits.{most_rules}

pub returns-then-is_empty-clause-value : goal.returns-then-is_empty-clause-value
returns-then-is_empty-clause-value t c =
    rules_end _ c.args.kinds.now c.args.rules.items c.args.end c.args.tokens.now (sym c.is_empty.ensures ∙ c.if-is_empty.true)

pub returns-in-Err-clause-value : goal.returns-in-Err-clause-value
returns-in-Err-clause-value t c =
    gives_fault c.in-Err.fail _ (rules_fault c.args.kinds.now c.args.rules.items c.args.end c.args.tokens.now c.in-Err.fail c.requires.few (sym c.is_empty.ensures ∙ c.if-is_empty.false)
    (rw c.as_slice.ensures.value at c.in-Err.ensures))

pub more_rules-requires : goal.more_rules-requires
more_rules-requires t c =
    let had = c.args.rules.items in
    let read = (rw c.as_slice.ensures.value at c.in-Ok.ensures) in
    let next = rule_from_ok c.args.kinds.now had c.args.end (map seen c.args.tokens.now) (c.in-Ok.found.0, map seen c.in-Ok.found.1.now) read in
    let room : length had < most_rules = next.new_label.room in
    let longer : length c.push.new.self.items ≡ length had + 1 = ap length c.in_ok-push.ensures.items ∙ length-append had (c.in-Ok.found.0 ∷ []) in (
      omega (arith, room, longer, c.decreases),
      subst IsBook (sym c.in_ok-push.ensures.items) (next_IsBook had c.in-Ok.found.0 c.requires next),
    )

pub returns-clause-value : goal.returns-clause-value
returns-clause-value t c =
    let read = (rw c.as_slice.ensures.value at c.in-Ok.ensures) in
    let next = rules_next c.args.kinds.now c.args.rules.items c.push.new.self.items c.args.end c.args.tokens.now c.in-Ok.found.0 (map seen c.in-Ok.found.1.now) c.requires.few
    (sym c.is_empty.ensures ∙ c.if-is_empty.false) read c.in_ok-push.ensures.items in
    rw next c.more_rules.ensures.value
