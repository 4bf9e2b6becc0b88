-- What is reached from the start is met in order.
use Rattle.std.proofs.Common.{◌≡◌, ◌⊎◌, inl, inr, subst}
use Rattle.pm_weights.specs.declared.Cost.{Cost}
use Rattle.pm_weights.specs.Weights.{IsAtMost}
use Rattle.pm_weights.proofs.CostOrder.{at_most_trans}
use Rattle.pm_rules.specs.declared.table.TableRow.{TableRow}
use Rattle.pm_rules.specs.Certificates.{IsTableRowBefore}
use Rattle.pm_plan.specs.declared.search.Goal.{Goal}
use Rattle.pm_plan.specs.declared.search.Search.{Search}
use Rattle.pm_plan.specs.Searches.{HasGoal}
use Rattle.pm_plan.proofs.Options.{and_parts_of, some_and_from}
use Rattle.pm_rules.proofs.RowOrder.{before_at_most}

pub goal_more : (s : Search) (a b : Cost) → HasGoal s a → IsAtMost a b → HasGoal s b
goal_more s a b h k =
    let g = and_parts_of s.goal (λ (g : Goal). IsAtMost g.row.cost a) h in
    some_and_from s.goal (λ (g : Goal). IsAtMost g.row.cost b) g.0 g.1 (at_most_trans g.0.row.cost a b g.2 k)

pub goal_later : (s : Search) (first row : TableRow) → HasGoal s first.cost → (first ≡ row) ⊎ IsTableRowBefore first row → HasGoal s row.cost
goal_later s first row h (inl e) = subst (λ (r : TableRow). HasGoal s r.cost) e h
goal_later s first row h (inr b) = goal_more s first.cost row.cost h (before_at_most first row b)
