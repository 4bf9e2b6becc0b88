-- What a planner answers.
use Rattle.std.specs.Prelude.{◌≡◌, ◌≢◌, ◌≤◌, List, length, All, AllPairs}
use Rattle.pm_props.specs.declared.set.PropSet.{PropSet}
use Rattle.pm_props.specs.declared.kind.RuleId.{RuleId}
use Rattle.pm_weights.specs.declared.Cost.{Cost}
use Rattle.pm_weights.specs.Weights.{IsBelow, IsAtMost}
use Rattle.pm_rules.specs.declared.rule.Rule.{Rule}
use Rattle.pm_rules.specs.declared.table.TableRow.{TableRow}
use Rattle.pm_rules.specs.declared.table.Claim.TheVariants.{Least, NoChain}
use Rattle.pm_rules.specs.Chains.{LeadsTo, IsLeast, HasNoChain, AreUseful, weigh}
use Rattle.pm_rules.specs.Certificates.{HasRow, IsCertificate, Reaches, IsTableRowBefore, IsTable}
use Rattle.pm_plan.specs.declared.answer.PlanEnd.{PlanEnd}
use Rattle.pm_plan.specs.declared.answer.PlanEnd.TheVariants as the_end
use Rattle.pm_limits.specs.Limits.{most_table_rows}

-- a least chain, what it weighs, and its table
pub record IsPlan (book : List Rule) (names : PropSet) (barred : List RuleId) (held asked : PropSet)
    (chain : List RuleId) (weight : Cost) (table : List TableRow) : Type 0 where
  pub least : IsLeast book names barred held asked chain
  pub useful : AreUseful book names barred asked chain
  pub weighs : weight ≡ weigh book chain
  pub exact : IsTable book names barred held asked (Least weight) table
  pub certificate : IsCertificate book names barred held asked (Least weight) table
  pub few : length table ≤ most_table_rows

-- there is no chain, and the table has all sets that useful rules reach
pub record HasNoPlan (book : List Rule) (names : PropSet) (barred : List RuleId) (held asked : PropSet)
    (table : List TableRow) : Type 0 where
  pub none : HasNoChain book names barred held asked
  pub exact : IsTable book names barred held asked NoChain table
  pub certificate : IsCertificate book names barred held asked NoChain table
  pub few : length table ≤ most_table_rows

-- every chain to the asked names costs more
abbrev pub IsBelowChains : List Rule → PropSet → List RuleId → PropSet → PropSet → Cost → Type 0
IsBelowChains book names barred held asked cost = (chain : List RuleId)
    → LeadsTo book names barred held asked chain → IsBelow cost (weigh book chain)

-- the first most_faces rows of a table that would have more
-- one row for each set that a chain of useful rules reaches before the next row, and the next row is one more such
-- set, below every chain to the asked names
pub record IsCrowded (book : List Rule) (names : PropSet) (barred : List RuleId) (held asked : PropSet)
    (table : List TableRow) : Type 0 where
  pub full : length table ≡ most_table_rows
  pub reached : All (λ row. (chain : List RuleId) × Reaches book names barred held asked row chain) table
  pub least : All (λ row. (other : TableRow) (chain : List RuleId)
      → Reaches book names barred held asked other chain → other.set ≡ row.set
      → IsAtMost row.cost other.cost) table
  pub below : All (λ row. IsBelowChains book names barred held asked row.cost) table
  pub once : AllPairs (λ a b. a.set ≢ b.set) table
  pub ordered : AllPairs IsTableRowBefore table
  pub next : TableRow
  pub next_reached : (chain : List RuleId) × Reaches book names barred held asked next chain
  pub next_below : IsBelowChains book names barred held asked next.cost
  pub next_new : All (λ row. row.set ≢ next.set) table
  pub first : All (λ row. IsTableRowBefore row next) table
  pub whole : (row : TableRow) (chain : List RuleId) → Reaches book names barred held asked row chain
      → IsTableRowBefore row next → HasRow table row.set row.cost

-- what an answer without a plan says
abbrev pub SaysWhy : List Rule → PropSet → List RuleId → PropSet → PropSet → PlanEnd → Type 0
SaysWhy book names barred held asked (the_end.NoChain table) =
    HasNoPlan book names barred held asked table.rows.items
SaysWhy book names barred held asked (the_end.Crowded table) =
    IsCrowded book names barred held asked table.rows.items
SaysWhy book names barred held asked the_end.Memory = Unit {0}
