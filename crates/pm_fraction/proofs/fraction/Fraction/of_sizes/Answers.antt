use Rattle.std.proofs.Common.{arith, ◌<◌}
use Rattle.std.proofs.lemmas.Result.{err_from_is_err_and}
use Rattle.std.specs.Prelude.{◌/◌}
use Rattle.pm_fraction.proofs.Quotients.{abs-signed, sizes_lowest}
use Rattle.pm_fraction.specs.Fractions.{IsLowestTermsOf, ratio_of, signed}
use lib.IntN.{pos}
use native.Mathlib.Nat.{pos_of_dvd_of_pos}
use Rattle.pm_fraction.proofs.fraction.Fraction.of_sizes.Goals as goal
use Rattle.pm_fraction.proofs.fraction.Fraction.of_sizes.Goals.{After-gcd-g}

some : (c : After-gcd-g) → 0 < c.gcd-g.result
some c = pos_of_dvd_of_pos c.gcd-g.ensures.1 c.requires

lowest : (c : After-gcd-g) → IsLowestTermsOf (ratio_of (signed c.args.is_negative c.args.top) (pos c.args.bottom)) (ratio_of (signed c.args.is_negative (c.args.top / c.gcd-g.result)) (pos (c.args.bottom / c.gcd-g.result)))
lowest c = sizes_lowest c.args.is_negative c.args.top c.args.bottom c.gcd-g.result c.requires (some c) c.gcd-g.ensures

pub nonzero_div-top : goal.nonzero_div-top
nonzero_div-top c = some (goal.at.nonzero_div-top c).After-gcd-g

pub nonzero_div-bottom : goal.nonzero_div-bottom
nonzero_div-bottom c = some (goal.at.nonzero_div-bottom c).After-gcd-g

pub from_parts-requires : goal.from_parts-requires
from_parts-requires c = rw (c.in_ok-num.ensures.value, c.in_ok-den.ensures.value) (lowest (goal.at.from_parts-requires c).After-gcd-g).reduced

pub returns-clause-ok : goal.returns-clause-ok
returns-clause-ok c = rw (c.from_parts.ensures, c.in_ok-num.ensures.value, c.in_ok-den.ensures.value) (lowest (goal.at.returns-clause-ok c).After-gcd-g)

pub returns-in_err-num-clause-wide : goal.returns-in_err-num-clause-wide
returns-in_err-num-clause-wide c =
    let p = err_from_is_err_and c.from_residual.result c.from_residual.ensures.1 in
    let size = abs-signed c.args.is_negative (c.args.top / c.gcd-g.result) in
    rw (p.1, p.2) (
      c.in_err-num.ensures.wide.0,
      record { lowest = _; is_lowest = lowest (goal.at.returns-in_err-num-clause-wide c).After-gcd-g; leaves = λ h. let k = c.in_err-num.ensures.wide.1 in let l = rw size at h.0 in omega arith },
    )

pub returns-in_err-den-clause-wide : goal.returns-in_err-den-clause-wide
returns-in_err-den-clause-wide c =
    let p = err_from_is_err_and c.from_residual-in_err-den.result c.from_residual-in_err-den.ensures.1 in
    rw (p.1, p.2) (
      c.in_err-den.ensures.wide.0,
      record { lowest = _; is_lowest = lowest (goal.at.returns-in_err-den-clause-wide c).After-gcd-g; leaves = λ h. let k = c.in_err-den.ensures.wide.1 in let l = h.1 in omega arith },
    )
