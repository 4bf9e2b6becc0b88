use Rattle.pm_vector.specs.Rows.{opposite}
use Rattle.pm_dd.proofs.leading.is_opposite.Goals as goal
use Rattle.std.proofs.Common.{ap, sym, ◌∙◌}
use Rattle.std.specs.Cmp.{signed_Decides}
use Rattle.std.specs.Cmp.Lexicographic.{pointwise_decides}

pub returns : goal.returns
returns c = λ t. (pointwise_decides signed_Decides c.args.second.now c.negate.new.v).0 (sym c.eq.ensures ∙ t) ∙ c.negate.ensures ∙ ap opposite c.in_ok-turned.ensures
