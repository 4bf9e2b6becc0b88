-- What a table shows about chains, and the table that a planner answers.
use Rattle.std.specs.Prelude.{◌≡◌, ◌≢◌, ◌<◌, ◌⊎◌, Some, List, All, Any, AllPairs, Contains}
use Rattle.pm_props.specs.declared.set.PropSet.{PropSet}
use Rattle.pm_props.specs.declared.kind.RuleId.{RuleId}
use Rattle.pm_weights.specs.declared.Cost.{Cost}
use Rattle.pm_props.specs.Sets.{union, IsSubset}
use Rattle.pm_weights.specs.Weights.{no_cost, plus, IsBelow, IsAtMost}
use Rattle.pm_rules.specs.declared.rule.Rule.{Rule}
use Rattle.pm_rules.specs.declared.table.TableRow.{TableRow}
use Rattle.pm_rules.specs.declared.table.Claim.{Claim}
use Rattle.pm_rules.specs.declared.table.Claim.TheVariants.{Least, NoChain}
use Rattle.pm_rules.specs.Rules.{rule_at, IsEnabled}
use Rattle.pm_rules.specs.Chains.{IsChain, reached, weigh, IsUseful, AreUseful}

-- it is less than the least cost, or there is no chain
abbrev pub Within : Claim → Cost → Type 0
Within (Least least) cost = IsBelow cost least
Within NoChain cost = Unit {0}

-- a step from a row may end at the least cost or above it
abbrev pub EndsClaim : Claim → Cost → Type 0
EndsClaim (Least least) cost = IsAtMost least cost
EndsClaim NoChain cost = ⊥

-- a row with this set costs at most so much
abbrev pub HasRow : List TableRow → PropSet → Cost → Type 0
HasRow table set cost = Any (λ row. (row.set ≡ set) × IsAtMost row.cost cost) table

-- the table proves the claim
pub record IsCertificate (book : List Rule) (names : PropSet) (barred : List RuleId) (held asked : PropSet)
    (claim : Claim) (table : List TableRow) : Type 0 where
  pub start : Within claim no_cost → Contains table (record { set = held; cost = no_cost })
  pub steps : All (λ row. Within claim row.cost → (id : RuleId) (rule : Rule) → rule_at book id ≡ Some rule
      → IsUseful book names barred asked id rule
      → IsEnabled names barred row.set id rule
      → EndsClaim claim (plus row.cost rule.weight)
      ⊎ HasRow table (union row.set rule.kind.targets) (plus row.cost rule.weight)) table
  pub ends : All (λ row. Within claim row.cost → IsSubset asked row.set → ⊥) table

-- a chain of useful rules reaches the set at this cost
pub record Reaches (book : List Rule) (names : PropSet) (barred : List RuleId) (held asked : PropSet)
    (row : TableRow) (chain : List RuleId) : Type 0 where
  pub enabled : IsChain book names barred held chain
  pub useful : AreUseful book names barred asked chain
  pub set : reached book held chain ≡ row.set
  pub cost : weigh book chain ≡ row.cost

-- less cost, or at the same cost the lesser number
abbrev pub IsTableRowBefore : TableRow → TableRow → Type 0
IsTableRowBefore a b = IsBelow a.cost b.cost ⊎ ((a.cost ≡ b.cost) × (a.set < b.set))

-- exactly one row for each set that a chain of useful rules reaches within the claim, with the least cost of such a
-- chain, in order of cost and then of the set as a number
pub record IsTable (book : List Rule) (names : PropSet) (barred : List RuleId) (held asked : PropSet)
    (claim : Claim) (table : List TableRow) : Type 0 where
  pub reached : All (λ row. Within claim row.cost
      × ((chain : List RuleId) × Reaches book names barred held asked row chain)) table
  pub whole : (row : TableRow) (chain : List RuleId) → Reaches book names barred held asked row chain
      → Within claim row.cost → HasRow table row.set row.cost
  pub once : AllPairs (λ a b. a.set ≢ b.set) table
  pub ordered : AllPairs IsTableRowBefore table
