use Rattle.pm_beneath.proofs.fronts.front_products.Goals as goal
use Rattle.pm_dd.proofs.StepFails.{product_never_lost}

pub returns-in-Err-clause-lost : goal.returns-in-Err-clause-lost
returns-in-Err-clause-lost c = λ e. c.refusal_of.ensures.lost (product_never_lost c.in-Err.fail c.args.wide _ e c.in-Err.ensures.never)
