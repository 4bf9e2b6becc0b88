use Rattle.std.proofs.Common.{ap, ap₂, ◌∙◌}
use Rattle.std.proofs.lemmas.Nat.Gcd.{dvd_trans}
use Rattle.std.proofs.lemmas.Result.{err_from_is_err_and}
use Rattle.std.specs.Int.{IsGcd}
use Rattle.std.specs.Prelude.{int_div, unsigned_abs, ◌≡◌}
use Rattle.pm_fraction.proofs.Sums.{leaves_by_terms, sum_lowest}
use Rattle.pm_fraction.specs.Arithmetic.{SumGcds, sum_den, sum_of, terms}
use Rattle.pm_fraction.specs.Fractions.{IsLowestTermsOf, ratio_of}
use lib.IntN.{ℤ, ◌*ℤ◌}
use Rattle.pm_fraction.proofs.fraction.Fraction.add.Goals as goal
use Rattle.pm_fraction.proofs.fraction.Fraction.add.Goals.{After-common-g, After-common-h, After-exact-2, After-exact-3}

dens : (c : After-common-g) → IsGcd (unsigned_abs c.args.self.den) (unsigned_abs c.args.other.den) (unsigned_abs c.common-g.result)
dens c = rw (← c.parts-d.ensures.den, ← c.parts-e.ensures.den) c.common-g.ensures.gcd

gcds : (c : After-common-h) → IsGcd (unsigned_abs c.args.self.den) (unsigned_abs c.args.other.den) (unsigned_abs c.common-g.result) → SumGcds c.args.self c.args.other c.common-g.result c.common-h.result
gcds c w = record {
  g_positive = c.common-g.ensures.positive;
  h_positive = c.common-h.ensures.positive;
  of_dens = w;
  of_terms = rw (← c.in_ok-sum.ensures.ok) c.common-h.ensures.gcd;
}

den_is : (c : After-exact-2) → c.exact.result *ℤ c.exact-2.result ≡ sum_den c.args.self c.args.other c.common-g.result c.common-h.result
den_is c =
    ap₂ (λ (x y : ℤ). x *ℤ y) (c.exact.ensures.quotient ∙ ap (λ (x : ℤ). int_div x c.common-g.result) c.parts-d.ensures.den) (c.exact-2.ensures.quotient ∙ ap (λ (x : ℤ). int_div x c.common-h.result) c.parts-e.ensures.den)

num_is : (c : After-exact-3) → c.exact-3.result ≡ int_div (terms c.args.self c.args.other c.common-g.result) c.common-h.result
num_is c = c.exact-3.ensures.quotient ∙ ap (λ (x : ℤ). int_div x c.common-h.result) c.in_ok-sum.ensures.ok

lowest : (c : After-common-h) → SumGcds c.args.self c.args.other c.common-g.result c.common-h.result
    → IsLowestTermsOf (sum_of c.args.self c.args.other) (ratio_of (int_div (terms c.args.self c.args.other c.common-g.result) c.common-h.result) (sum_den c.args.self c.args.other c.common-g.result c.common-h.result))
lowest c w = sum_lowest c.args.self c.args.other c.common-g.result c.common-h.result c.parts-d.ensures.reduced c.parts-e.ensures.reduced w

pub exact-requires-clause-divides : goal.exact-requires-clause-divides
exact-requires-clause-divides c = c.common-g.ensures.gcd.0

pub exact-requires-2-clause-divides : goal.exact-requires-2-clause-divides
exact-requires-2-clause-divides c = dvd_trans _ c.common-h.ensures.gcd.1 c.common-g.ensures.gcd.1

pub exact-requires-3-clause-divides : goal.exact-requires-3-clause-divides
exact-requires-3-clause-divides c = c.common-h.ensures.gcd.0

pub returns-clause-stays : goal.returns-clause-stays
returns-clause-stays c =
    let p = goal.at.returns-clause-stays c in
    record {
      g = c.common-g.result;
      h = c.common-h.result;
      gcds = gcds p.After-common-h (dens p.After-common-g);
      stays = record { terms = c.in_ok-sum.ensures.stays; den = rw (← den_is p.After-exact-2, ← c.in_ok-den.ensures.value) c.in_ok-den.ensures.in_range };
    }

pub from_parts-requires : goal.from_parts-requires
from_parts-requires c =
    let p = goal.at.from_parts-requires c in
    rw (num_is p.After-exact-3, c.in_ok-den.ensures.value, den_is p.After-exact-2) (lowest p.After-common-h (gcds p.After-common-h (dens p.After-common-g))).reduced

pub returns-clause-ok : goal.returns-clause-ok
returns-clause-ok c =
    let p = goal.at.returns-clause-ok c in
    rw (c.from_parts.ensures, num_is p.After-exact-3, c.in_ok-den.ensures.value, den_is p.After-exact-2) (lowest p.After-common-h (gcds p.After-common-h (dens p.After-common-g)))

pub returns-in_err-sum-clause-wide : goal.returns-in_err-sum-clause-wide
returns-in_err-sum-clause-wide c =
    let p = err_from_is_err_and c.from_residual.result c.from_residual.ensures.1 in
    rw p.1 (leaves_by_terms c.args.self c.args.other c.common-g.result c.common-g.ensures.positive (dens (goal.at.returns-in_err-sum-clause-wide c).After-common-g) c.in_err-sum.ensures.wide.1)

pub returns-in_err-den-clause-wide : goal.returns-in_err-den-clause-wide
returns-in_err-den-clause-wide c =
    let p = err_from_is_err_and c.from_residual-in_err-den.result c.from_residual-in_err-den.ensures.1 in
    let q = goal.at.returns-in_err-den-clause-wide c in
    rw p.1 record {
      g = c.common-g.result;
      h = c.common-h.result;
      gcds = gcds q.After-common-h (dens q.After-common-g);
      leaves = λ s. c.in_err-den.ensures.wide.1 (rw (den_is q.After-exact-2) s.den);
    }

pub sum_of_terms-requires-clause-divides : goal.sum_of_terms-requires-clause-divides
sum_of_terms-requires-clause-divides c = (dens (goal.at.sum_of_terms-requires-clause-divides c).After-common-g).0

pub sum_of_terms-requires-clause-divides_other : goal.sum_of_terms-requires-clause-divides_other
sum_of_terms-requires-clause-divides_other c = (dens (goal.at.sum_of_terms-requires-clause-divides_other c).After-common-g).1
