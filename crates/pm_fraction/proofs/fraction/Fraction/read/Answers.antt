use Rattle.std.proofs.Common.{ap, arith, sym, ◌∙◌}
use Rattle.std.proofs.lemmas.Result.{IfOk-weaker, err_from_is_err_and}
use Rattle.std.specs.Prelude.{◌≡◌}
use Rattle.std.specs.Str.Parse.{digits_value}
use Rattle.pm_fraction.proofs.Digits.{on_no_error}
use Rattle.pm_fraction.specs.Text.{AreLiteralsInRange, IsFractionText, before_slash, behind_slash, bottom_text, top_text}
use Rattle.pm_fraction.proofs.fraction.Fraction.read.Goals as goal
use Rattle.pm_fraction.proofs.fraction.Fraction.read.Goals.{After-literal, After-split_slash, In_ok-bottom}

top_is : (c : After-split_slash) → c.split_slash.result.0.now ≡ top_text c.args.text.now
top_is c = c.split_slash.ensures.before ∙ ap before_slash c.split_sign-is_negative.ensures.rest

bottom_is : (c : After-split_slash) → c.split_slash.result.1.now ≡ bottom_text c.args.text.now
bottom_is c = c.split_slash.ensures.behind ∙ ap behind_slash c.split_sign-is_negative.ensures.rest

is_text : (c : After-literal) → c.split_slash.result.0.now ≡ top_text c.args.text.now → c.split_slash.result.1.now ≡ bottom_text c.args.text.now → IsFractionText c.args.text.now
is_text c e f = record {
  top = rw (← e) (c.is_numeral.ensures.0 c.if-not-is_numeral.false);
  bottom = rw (← f) (c.is_numeral-else-not-is_numeral.ensures.0 c.if-not-is_numeral-2.false);
}

in_range : (c : In_ok-bottom) → c.split_slash.result.0.now ≡ top_text c.args.text.now → c.split_slash.result.1.now ≡ bottom_text c.args.text.now → AreLiteralsInRange c.args.text.now
in_range c e f = record { top = rw (← e) c.in_ok-top.ensures.fits; bottom = rw (← f) c.in_ok-bottom.ensures.fits }

pub returns-in_err-top-clause-err : goal.returns-in_err-top-clause-err
returns-in_err-top-clause-err c =
    let p = err_from_is_err_and c.from_residual.result c.from_residual.ensures.1 in
    let q = goal.at.returns-in_err-top-clause-err c in
    let top = top_is q.After-split_slash in
    let bottom = bottom_is q.After-split_slash in
    rw (p.1, p.2, c.in_err-top.ensures.wide.0) (is_text q.After-literal top bottom, λ h. let low = rw (← top) at h.top in let high = c.in_err-top.ensures.wide.1 in omega arith)

pub returns-in_err-bottom-clause-err : goal.returns-in_err-bottom-clause-err
returns-in_err-bottom-clause-err c =
    let p = err_from_is_err_and c.from_residual-in_err-bottom.result c.from_residual-in_err-bottom.ensures.1 in
    let q = goal.at.returns-in_err-bottom-clause-err c in
    let top = top_is q.After-split_slash in
    let bottom = bottom_is q.After-split_slash in
    rw (p.1, p.2, c.in_err-bottom.ensures.wide.0) (is_text q.After-literal top bottom, λ h. let low = rw (← bottom) at h.bottom in let high = c.in_err-bottom.ensures.wide.1 in omega arith)

pub returns-then-bottom-eq0-clause-err : goal.returns-then-bottom-eq0-clause-err
returns-then-bottom-eq0-clause-err c =
    let q = goal.at.returns-then-bottom-eq0-clause-err c in
    let top = top_is q.After-split_slash in
    let bottom = bottom_is q.After-split_slash in
    (is_text q.After-literal top bottom, in_range q.In_ok-bottom top bottom, ap (digits_value 10) (sym bottom) ∙ sym c.in_ok-bottom.ensures.ok ∙ c.if-bottom-eq0.true)

pub returns-clause-ok : goal.returns-clause-ok
returns-clause-ok c =
    let q = goal.at.returns-clause-ok c in
    let top = top_is q.After-split_slash in
    let bottom = bottom_is q.After-split_slash in
    IfOk-weaker c.of_sizes.result _ _
    (λ r h. record {
      text = is_text q.After-literal top bottom;
      literals = in_range q.In_ok-bottom top bottom;
      number = rw (c.split_sign-is_negative.ensures.sign, c.in_ok-top.ensures.ok, c.in_ok-bottom.ensures.ok, top, bottom) at h;
    })
    c.of_sizes.ensures.ok

pub returns-clause-err : goal.returns-clause-err
returns-clause-err c =
    on_no_error c.of_sizes.result _ (c.of_sizes.ensures.small (rw c.in_ok-top.ensures.ok c.in_ok-top.ensures.fits) (rw c.in_ok-bottom.ensures.ok c.in_ok-bottom.ensures.fits))
