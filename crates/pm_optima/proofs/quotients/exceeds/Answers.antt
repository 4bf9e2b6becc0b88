use Rattle.pm_optima.proofs.QuotientLaws.{above_of}
use Rattle.pm_optima.proofs.quotients.exceeds.Goals as goal
use Rattle.std.proofs.Common.{false, true, ◌≡◌}

pub returns-in_default : goal.returns-in_default
returns-in_default c = (
  λ t. absurd (let e : false ≡ true = t in cc),
  λ up. absurd (c.in_default.not-Greater (above_of _ _ _ c.cmp.ensures.cross up)),
)
