-- Useful rules as a search sees them.
use Rattle.std.specs.Prelude.{◌≡◌, Some, List, All, Contains}
use Rattle.pm_props.specs.declared.set.PropSet.{PropSet}
use Rattle.pm_props.specs.declared.kind.RuleId.{RuleId}
use Rattle.pm_props.specs.Sets.{union}
use Rattle.pm_weights.specs.Weights.{plus}
use Rattle.pm_rules.specs.declared.rule.Rule.{Rule}
use Rattle.pm_rules.specs.declared.table.TableRow.{TableRow}
use Rattle.pm_rules.specs.Rules.{rule_at}
use Rattle.pm_rules.specs.Steps.{step_of}
use Rattle.pm_rules.specs.Chains.{IsUseful}
use Rattle.pm_plan.specs.declared.moves.Move.{Move}

-- the move that a rule of this number makes
abbrev pub move_of : RuleId → Rule → Move
move_of id rule = record { id = id; step = step_of rule; weight = rule.weight }

-- it is the move of a useful rule of the book
pub record IsMove (book : List Rule) (names : PropSet) (barred : List RuleId) (asked : PropSet) (m : Move)
    : Type 0 where
  pub rule : Rule
  pub there : rule_at book m.id ≡ Some rule
  pub useful : IsUseful book names barred asked m.id rule
  pub same : m ≡ move_of m.id rule

-- they are the moves of all useful rules, and nothing else
pub record AreMoves (book : List Rule) (names : PropSet) (barred : List RuleId) (asked : PropSet)
    (moves : List Move) : Type 0 where
  pub each : All (IsMove book names barred asked) moves
  pub whole : (id : RuleId) (rule : Rule) → rule_at book id ≡ Some rule
      → IsUseful book names barred asked id rule → Contains moves (move_of id rule)

-- the row to which the move leads from a row
abbrev pub after : TableRow → Move → TableRow
after row m = record { set = union row.set m.step.targets; cost = plus row.cost m.weight }
