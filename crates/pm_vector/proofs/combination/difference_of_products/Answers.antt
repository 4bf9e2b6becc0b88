-- Each exit says of the whole difference what its step says.
use Rattle.pm_vector.proofs.Kept.{kept}
use Rattle.pm_vector.proofs.LastDifference.{last_stays, last_value, last_wide}
use Rattle.pm_vector.proofs.combination.difference_of_products.Goals as goal
use Rattle.pm_vector.proofs.combination.difference_of_products.Goals.{After-minus}
use Rattle.std.proofs.Common.{◌≡◌}
use Rattle.std.proofs.lemmas.Int.{to_z-of_z}
use Rattle.std.proofs.lemmas.Result.{err_from_is_err_and}
use Rattle.std.specs.Int.{w128}
use lib.IntN.{◌*ℤ◌}

first : (c : After-minus) → c.in_ok-first.first ≡ c.args.p *ℤ c.args.x
first c = rw (to_z-of_z w128 c.args.p c.ranges.p, to_z-of_z w128 c.args.x c.ranges.x) at c.in_ok-first.ensures.value

second : (c : After-minus) → c.in_ok-second.second ≡ c.args.q *ℤ c.args.y
second c = rw (to_z-of_z w128 c.args.q c.ranges.q, to_z-of_z w128 c.args.y c.ranges.y) at c.in_ok-second.ensures.value

pub returns-clause-value : goal.returns-clause-value
returns-clause-value c =
    last_value c.args.p c.args.x c.args.q c.args.y c.in_ok-first.first c.in_ok-second.second (first c) (second c) c.minus.result
    (rw (kept c.in_ok-first.first c.in_ok-first.ensures.in_range, kept c.in_ok-second.second c.in_ok-second.ensures.in_range) at c.minus.ensures.value)

pub returns-clause-stays : goal.returns-clause-stays
returns-clause-stays c =
    last_stays c.args.p c.args.x c.args.q c.args.y c.in_ok-first.first c.in_ok-second.second (first c) (second c) c.minus.result c.in_ok-first.ensures.in_range c.in_ok-second.ensures.in_range
    (rw (kept c.in_ok-first.first c.in_ok-first.ensures.in_range, kept c.in_ok-second.second c.in_ok-second.ensures.in_range) at c.minus.ensures.value) c.minus.ensures.in_range

pub returns-clause-wide : goal.returns-clause-wide
returns-clause-wide c =
    last_wide c.args.p c.args.x c.args.q c.args.y c.in_ok-first.first c.in_ok-second.second (first c) (second c) c.minus.result
    (rw (kept c.in_ok-first.first c.in_ok-first.ensures.in_range, kept c.in_ok-second.second c.in_ok-second.ensures.in_range) at c.minus.ensures.wide)

pub returns-in_err-first-clause-wide : goal.returns-in_err-first-clause-wide
returns-in_err-first-clause-wide c =
    let wide = rw (to_z-of_z w128 c.args.p c.ranges.p, to_z-of_z w128 c.args.x c.ranges.x) at c.in_err-first.ensures.wide in
    let p = err_from_is_err_and c.from_residual.result c.from_residual.ensures.1 in
    rw p.1 (λ s. wide s.first)

pub returns-in_err-second-clause-wide : goal.returns-in_err-second-clause-wide
returns-in_err-second-clause-wide c =
    let wide = rw (to_z-of_z w128 c.args.q c.ranges.q, to_z-of_z w128 c.args.y c.ranges.y) at c.in_err-second.ensures.wide in
    let p = err_from_is_err_and c.from_residual-in_err-second.result c.from_residual-in_err-second.ensures.1 in
    rw p.1 (λ s. wide s.second)
