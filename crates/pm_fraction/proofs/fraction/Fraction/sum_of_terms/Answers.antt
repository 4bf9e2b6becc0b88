use Rattle.std.proofs.Common.{ap, ap₂, ◌∙◌}
use Rattle.std.proofs.lemmas.Result.{IfErr-weaker, IfOk-weaker, err_from_is_err_and, on_ok_weaker}
use Rattle.std.specs.Prelude.{int_div, ◌≡◌}
use Rattle.pm_fraction.specs.Arithmetic.{first_term, second_term, terms}
use lib.IntN.{ℤ, ◌*ℤ◌, ◌+ℤ◌}
use Rattle.pm_fraction.proofs.fraction.Fraction.sum_of_terms.Goals as goal
use Rattle.pm_fraction.proofs.fraction.Fraction.sum_of_terms.Goals.{After-exact, After-exact-2}

first_is : (c : After-exact) → c.parts-n.result.0 *ℤ c.exact.result ≡ first_term c.args.self c.args.other c.args.g
first_is c =
    ap₂ (λ (x y : ℤ). x *ℤ y) c.parts-n.ensures.num (c.exact.ensures.quotient ∙ ap (λ (x : ℤ). int_div x c.args.g) c.parts-m.ensures.den)

second_is : (c : After-exact-2) → c.parts-m.result.0 *ℤ c.exact-2.result ≡ second_term c.args.self c.args.other c.args.g
second_is c =
    ap₂ (λ (x y : ℤ). x *ℤ y) c.parts-m.ensures.num (c.exact-2.ensures.quotient ∙ ap (λ (x : ℤ). int_div x c.args.g) c.parts-n.ensures.den)

pub returns-in_err-first-clause-wide : goal.returns-in_err-first-clause-wide
returns-in_err-first-clause-wide c =
    let p = err_from_is_err_and c.from_residual.result c.from_residual.ensures.1 in
    rw (p.1, p.2) (c.in_err-first.ensures.wide.0, λ s. c.in_err-first.ensures.wide.1 (rw (first_is (goal.at.returns-in_err-first-clause-wide c).After-exact) s.first))

pub returns-in_err-second-clause-wide : goal.returns-in_err-second-clause-wide
returns-in_err-second-clause-wide c =
    let p = err_from_is_err_and c.from_residual-in_err-second.result c.from_residual-in_err-second.ensures.1 in
    rw (p.1, p.2) (c.in_err-second.ensures.wide.0, λ s. c.in_err-second.ensures.wide.1 (rw (second_is (goal.at.returns-in_err-second-clause-wide c).After-exact-2) s.second))

pub returns : goal.returns
returns c =
    let first = c.in_ok-first.ensures.value ∙ first_is (goal.at.returns c).After-exact in
    let second = c.in_ok-second.ensures.value ∙ second_is (goal.at.returns c).After-exact-2 in
    let sum : c.in_ok-first.first +ℤ c.in_ok-second.second ≡ terms c.args.self c.args.other c.args.g = ap₂ (λ (x y : ℤ). x +ℤ y) first second in
    record {
      ok = IfOk-weaker c.plus.result _ _ (λ r e. e ∙ sum) c.plus.ensures.value;
      stays = on_ok_weaker c.plus.result (λ h. record { first = rw (← first) c.in_ok-first.ensures.in_range; second = rw (← second) c.in_ok-second.ensures.in_range; sum = rw (← sum) h }) c.plus.ensures.in_range;
      wide = IfErr-weaker c.plus.result _ _ (λ e w. (w.0, λ s. w.1 (rw sum s.sum))) c.plus.ensures.wide;
    }

pub exact-requires-clause-divides : goal.exact-requires-clause-divides
exact-requires-clause-divides c = rw c.parts-m.ensures.den c.requires.divides_other

pub exact-requires-2-clause-divides : goal.exact-requires-2-clause-divides
exact-requires-2-clause-divides c = rw c.parts-n.ensures.den c.requires.divides
