use Rattle.std.proofs.Common.{ℕ, Some, ap}
use Rattle.pm_printed.proofs.Back.{cost_split, cost_unsplit}
use Rattle.pm_printed.proofs.number.cost_of.Goals as goal

pub returns-in-None-clause-back : goal.returns-in-None-clause-back
returns-in-None-clause-back c = λ d is e.
    let parts = cost_unsplit c.args.text.now c.split_once.result c.split_once.ensures.cases c.in-None.is d is e in
    c.cost_from.ensures.back d (ap (λ (n : ℕ). Some n) parts.0) (c.number_of.ensures d.minor is.minor parts.1)

pub returns-in-Some-clause-back : goal.returns-in-Some-clause-back
returns-in-Some-clause-back c = λ d is e.
    let parts = cost_split c.args.text.now c.split_once.result c.split_once.ensures.cases c.in-Some.class c.in-Some.minor c.in-Some.is d is e in
    c.cost_from-in-Some.ensures.back d (c.number_of-in-Some.ensures d.class is.class parts.0) (c.number_of-in-Some-2.ensures d.minor is.minor parts.1)
