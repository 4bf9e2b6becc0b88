use Rattle.std.proofs.Common.{map}
use Rattle.pm_books.specs.Seen.{seen, conditions_seen}
use Rattle.pm_books.proofs.PartLemmas.{condition_last, condition_next}
use Rattle.pm_books.proofs.parts.Conditions.+and_more.Goals as goal

pub returns-in-None : goal.returns-in-None
returns-in-None t c =
    condition_last (conditions_seen c.args.self) (conditions_seen c.with-more.result) c.args.end (map seen c.args.tokens.now) (map seen c.in-Some.behind.now) c.in-Some.negated (seen c.in-Some.token.now)
    c.in_ok-p.p c.in-Some.ensures.some c.in_ok-p.ensures c.with-more.ensures c.in-None.ensures.none

pub returns-in-Some-behind_comma : goal.returns-in-Some-behind_comma
returns-in-Some-behind_comma t c =
    let next = condition_next (conditions_seen c.args.self) (conditions_seen c.with-more.result) c.args.end (map seen c.args.tokens.now) (map seen c.in-Some.behind.now) (map seen c.in-Some-behind_comma.next.now)
    c.in-Some.negated (seen c.in-Some.token.now) c.in_ok-p.p c.in-Some.ensures.some c.in_ok-p.ensures c.with-more.ensures c.in-Some-behind_comma.ensures.some in
    rw next c.and_more.ensures
