use Rattle.pm_vector.specs.Rows.{entry}
use Rattle.pm_vector.specs.Bases.{row_at}
use Rattle.pm_optima.proofs.QuotientLaws.{better_one, first_one, same_one}
use Rattle.pm_optima.proofs.quotients.with_row.Goals as goal
use Rattle.pm_vector.proofs.Kept.{kept}
use Rattle.std.proofs.Common.{[], ap, arith, pos, subst, sym, true≢false, ◌*ℤ◌, ◌<ℤ◌, ◌∙◌, ◌≡◌}
use Rattle.std.proofs.lemmas.Int.{by_lt_z, ints}
use Rattle.std.proofs.lemmas.List.{get_or_read}

pub returns-in-None : goal.returns-in-None
returns-in-None c =
    let row : c.index-rows-i.result ≡ row_at c.args.rows.now c.args.i = get_or_read c.args.rows.now c.args.i c.index-rows-i.result c.requires.within c.index-rows-i.is [] in
    let first : c.get-first.result ≡ entry (row_at c.args.rows.now c.args.i) 0 = c.get-first.ensures.value ∙ ap (λ x. entry x 0) row in
    let up : pos 0 <ℤ entry (row_at c.args.rows.now c.args.i) 0 = subst (λ z. pos 0 <ℤ z) first (let n = c.if-first-le0.false in omega (arith, ints)) in
    let lowest = rw (kept c.get.result c.get.ensures.in_range, kept c.get-first.result c.get-first.ensures.in_range, c.get.ensures.value, first) at c.quotient-quotient.ensures in
    first_one c.args.numbers.now c.args.rows.now c.args.i c.quotient-quotient.result up lowest (rw c.in-None.is at c.requires.best)

pub returns-then-exceeds : goal.returns-then-exceeds
returns-then-exceeds c =
    let row : c.index-rows-i.result ≡ row_at c.args.rows.now c.args.i = get_or_read c.args.rows.now c.args.i c.index-rows-i.result c.requires.within c.index-rows-i.is [] in
    let first : c.get-first.result ≡ entry (row_at c.args.rows.now c.args.i) 0 = c.get-first.ensures.value ∙ ap (λ x. entry x 0) row in
    let up : pos 0 <ℤ entry (row_at c.args.rows.now c.args.i) 0 = subst (λ z. pos 0 <ℤ z) first (let n = c.if-first-le0.false in omega (arith, ints)) in
    let lowest = rw (kept c.get.result c.get.ensures.in_range, kept c.get-first.result c.get-first.ensures.in_range, c.get.ensures.value, first) at c.quotient-quotient.ensures in
    better_one c.args.numbers.now c.args.rows.now c.args.i c.quotient-quotient.result up lowest c.in-Some.b (rw c.in-Some.is at c.requires.best) (c.exceeds.ensures.0 c.if-exceeds.true)

pub returns-else-exceeds : goal.returns-else-exceeds
returns-else-exceeds c =
    let row : c.index-rows-i.result ≡ row_at c.args.rows.now c.args.i = get_or_read c.args.rows.now c.args.i c.index-rows-i.result c.requires.within c.index-rows-i.is [] in
    let first : c.get-first.result ≡ entry (row_at c.args.rows.now c.args.i) 0 = c.get-first.ensures.value ∙ ap (λ x. entry x 0) row in
    let up : pos 0 <ℤ entry (row_at c.args.rows.now c.args.i) 0 = subst (λ z. pos 0 <ℤ z) first (let n = c.if-first-le0.false in omega (arith, ints)) in
    let lowest = rw (kept c.get.result c.get.ensures.in_range, kept c.get-first.result c.get-first.ensures.in_range, c.get.ensures.value, first) at c.quotient-quotient.ensures in
    same_one c.args.numbers.now c.args.rows.now c.args.i c.quotient-quotient.result up lowest c.in-Some.b (rw c.in-Some.is at c.requires.best)
    (let no = c.exceeds.ensures.1 in by_lt_z (c.in-Some.b.quotient.num *ℤ c.quotient-quotient.result.den) (c.quotient-quotient.result.num *ℤ c.in-Some.b.quotient.den) (λ l. absurd (true≢false (sym (no l) ∙ c.if-exceeds.false))) (λ l. l))
