use Rattle.std.proofs.Common.{map, sym, ◌∙◌}
use Rattle.pm_books.specs.Seen.{seen}
use Rattle.pm_books.proofs.PartLemmas.{ends_here, ends_behind, condition_here, condition_behind}
use Rattle.pm_books.proofs.parts.next_condition.Goals as goal

pub returns-in_default-clause-none : goal.returns-in_default-clause-none
returns-in_default-clause-none c = ends_here c.args.tokens.now c.in_default.ensures.cases

pub returns-in-None-clause-none : goal.returns-in-None-clause-none
returns-in-None-clause-none c = rw (c.in-Some.ensures.cases.0) (ends_behind (seen c.in-Some.first.now) c.in-Some.behind.now (sym c.if-not-is_not.false ∙ c.is_not.ensures) c.in-None.ensures.cases)

pub returns-then-not-is_not-clause-some : goal.returns-then-not-is_not-clause-some
returns-then-not-is_not-clause-some c =
    rw (c.in-Some.ensures.cases.0) (condition_here (seen c.in-Some.first.now) (map seen c.in-Some.behind.now) (sym c.if-not-is_not.true ∙ c.is_not.ensures))

pub returns-in-Some-split_first-clause-some : goal.returns-in-Some-split_first-clause-some
returns-in-Some-split_first-clause-some c =
    rw (c.in-Some.ensures.cases.0, c.in-Some-split_first.ensures.cases.0)
    (condition_behind (seen c.in-Some.first.now) (seen c.in-Some-split_first.second.now) (map seen c.in-Some-split_first.rest.now) (sym c.if-not-is_not.false ∙ c.is_not.ensures))
