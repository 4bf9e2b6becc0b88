use Rattle.std.proofs.lemmas.Result.{err_from_is_err_and}
use Rattle.pm_fraction.proofs.Products.{product_lowest}
use Rattle.pm_fraction.specs.Arithmetic.{product_of}
use Rattle.pm_fraction.specs.Fractions.{IsLowestTermsOf, ratio_of}
use lib.IntN.{◌*ℤ◌}
use Rattle.pm_fraction.proofs.fraction.Fraction.mul.Goals as goal
use Rattle.pm_fraction.proofs.fraction.Fraction.mul.Goals.{After-cancelled-second}

lowest : (c : After-cancelled-second) → IsLowestTermsOf (product_of c.args.self c.args.other) (ratio_of (c.cancelled-first.result.0 *ℤ c.cancelled-second.result.0) (c.cancelled-second.result.1 *ℤ c.cancelled-first.result.1))
lowest c =
    product_lowest c.args.self c.args.other c.parts-n.result.0 c.parts-n.result.1 c.parts-m.result.0 c.parts-m.result.1
    c.cancelled-first.result.0 c.cancelled-first.result.1 c.cancelled-second.result.0 c.cancelled-second.result.1
    c.parts-n.ensures.num c.parts-n.ensures.den c.parts-m.ensures.num c.parts-m.ensures.den c.parts-n.ensures.reduced c.parts-m.ensures.reduced
    c.cancelled-first.ensures c.cancelled-second.ensures

pub returns-clause-ok : goal.returns-clause-ok
returns-clause-ok c =
    rw (c.from_parts.ensures, c.in_ok-num.ensures.value, c.in_ok-den.ensures.value) (lowest (goal.at.returns-clause-ok c).After-cancelled-second)

pub from_parts-requires : goal.from_parts-requires
from_parts-requires c =
    rw (c.in_ok-num.ensures.value, c.in_ok-den.ensures.value) (lowest (goal.at.from_parts-requires c).After-cancelled-second).reduced

pub returns-in_err-num-clause-wide : goal.returns-in_err-num-clause-wide
returns-in_err-num-clause-wide c =
    let p = err_from_is_err_and c.from_residual.result c.from_residual.ensures.1 in
    rw p.1 record { lowest = _; is_lowest = lowest (goal.at.returns-in_err-num-clause-wide c).After-cancelled-second; leaves = λ h. c.in_err-num.ensures.wide.1 h.0 }

pub returns-in_err-den-clause-wide : goal.returns-in_err-den-clause-wide
returns-in_err-den-clause-wide c =
    let p = err_from_is_err_and c.from_residual-in_err-den.result c.from_residual-in_err-den.ensures.1 in
    rw p.1 record { lowest = _; is_lowest = lowest (goal.at.returns-in_err-den-clause-wide c).After-cancelled-second; leaves = λ h. c.in_err-den.ensures.wide.1 h.1 }
