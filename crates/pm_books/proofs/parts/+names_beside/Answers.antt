use Rattle.std.proofs.Common.{◌≡◌, ◌∷◌, map, ap}
use Rattle.std.proofs.lemmas.Result.{err_from_is_err_and}
use Rattle.pm_books.specs.Seen.{seen}
use Rattle.pm_books.proofs.PartLemmas.{names_none, names_fault, names_last, names_next}
use Rattle.pm_books.proofs.parts.+names_beside.Goals as goal

pub returns-in_default : goal.returns-in_default
returns-in_default t c = names_none c.args.set c.args.end c.args.tokens.now c.in_default.ensures.cases

pub returns-in_err-p : goal.returns-in_err-p
returns-in_err-p t c =
    let split : map seen c.args.tokens.now ≡ seen c.in-Some.first.now ∷ map seen c.in-Some.behind.now = ap (map seen) c.in-Some.ensures.cases.0 in
    let p = err_from_is_err_and c.from_residual.result c.from_residual.ensures.1 in
    rw (p.1, p.2, split) (names_fault c.args.set c.args.end (seen c.in-Some.first.now) (map seen c.in-Some.behind.now) c.in_err-p.field-0.0 c.in_err-p.ensures)

pub returns-in-None : goal.returns-in-None
returns-in-None t c =
    let split : map seen c.args.tokens.now ≡ seen c.in-Some.first.now ∷ map seen c.in-Some.behind.now = ap (map seen) c.in-Some.ensures.cases.0 in
    rw split (names_last c.args.set c.with-more.result c.args.end (seen c.in-Some.first.now) (map seen c.in-Some.behind.now) c.in_ok-p.p c.in_ok-p.ensures c.with-more.ensures.value c.in-None.ensures.none)

pub returns-in-Some-behind_comma : goal.returns-in-Some-behind_comma
returns-in-Some-behind_comma t c =
    let split : map seen c.args.tokens.now ≡ seen c.in-Some.first.now ∷ map seen c.in-Some.behind.now = ap (map seen) c.in-Some.ensures.cases.0 in
    let next = names_next c.args.set c.with-more.result c.args.end (seen c.in-Some.first.now) (map seen c.in-Some.behind.now) (map seen c.in-Some-behind_comma.next.now) c.in_ok-p.p c.in_ok-p.ensures
    c.with-more.ensures.value c.in-Some-behind_comma.ensures.some in
    rw (split, next) c.names_beside.ensures
