use Rattle.std.proofs.lemmas.Result.{IfErr-at_err, IfOk-weaker}
use Rattle.std.specs.Prelude.{◌≢◌}
use Rattle.pm_fraction.proofs.Quotients.{lowest_same, quotient_divisible, quotient_same, wide_same}
use Rattle.pm_fraction.specs.Arithmetic.{inverse_of, product_of, quotient_of}
use Rattle.pm_fraction.specs.Fractions.{IsTooWide}
use lib.IntN.{pos}
use Rattle.pm_fraction.proofs.fraction.Fraction.div.Goals as goal
use Rattle.pm_fraction.proofs.fraction.Fraction.div.Goals.{After-inverse}

not_zero : (c : After-inverse) → c.args.other.num ≢ pos 0
not_zero c e = let f = c.is_zero.ensures.1 e in cc

divisible : (c : After-inverse) → (product_of c.args.self (inverse_of c.args.other)).den ≢ pos 0 → (quotient_of c.args.self c.args.other).den ≢ pos 0
divisible c h = quotient_divisible c.args.self c.args.other h (not_zero c)

pub returns-clause-ok : goal.returns-clause-ok
returns-clause-ok c =
    IfOk-weaker c.mul.result _ _
    (λ r h. let l = rw c.inverse.ensures at h in lowest_same (product_of c.args.self (inverse_of c.args.other)) (quotient_of c.args.self c.args.other) r (divisible (goal.at.returns-clause-ok c).After-inverse l.divisible) (quotient_same c.args.self c.args.other) l)
    c.mul.ensures.ok

pub returns-clause-wide : goal.returns-clause-wide
returns-clause-wide c =
    λ e. let w : IsTooWide (product_of c.args.self (inverse_of c.args.other)) = rw (← c.inverse.ensures) (IfErr-at_err (λ _. IsTooWide (product_of c.args.self c.inverse.result)) e c.mul.ensures.wide) in
    wide_same (product_of c.args.self (inverse_of c.args.other)) (quotient_of c.args.self c.args.other) (divisible (goal.at.returns-clause-wide c).After-inverse w.is_lowest.divisible) (quotient_same c.args.self c.args.other) w
