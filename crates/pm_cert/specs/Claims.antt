-- What a claim says, and what a table does for it at one row.
use Rattle.std.specs.Prelude.{◌≡◌, ◌<◌, ◌⊎◌, ℕ, Some, List, slice_get}
use Rattle.pm_props.specs.declared.set.PropSet.{PropSet}
use Rattle.pm_props.specs.declared.kind.RuleId.{RuleId}
use Rattle.pm_weights.specs.declared.Weight.{Weight}
use Rattle.pm_props.specs.Sets.{union, IsSubset}
use Rattle.pm_weights.specs.Weights.{plus, IsAtMost}
use Rattle.pm_rules.specs.declared.rule.Rule.{Rule}
use Rattle.pm_rules.specs.declared.step.Step.{Step}
use Rattle.pm_rules.specs.declared.table.TableRow.{TableRow}
use Rattle.pm_rules.specs.declared.table.Claim.{Claim}
use Rattle.pm_rules.specs.declared.table.Claim.TheVariants.{Least, NoChain}
use Rattle.pm_rules.specs.Steps.{IsOpen}
use Rattle.pm_rules.specs.Rules.{rule_at, IsEnabled}
use Rattle.pm_rules.specs.Chains.{weigh, LeadsTo, HasNoChain, IsUseful}
use Rattle.pm_rules.specs.Certificates.{Within, EndsClaim, HasRow}

-- the claim is true of all chains, also of those with rules that are not useful
abbrev pub IsTrueClaim : List Rule → PropSet → List RuleId → PropSet → PropSet → Claim → Type 0
IsTrueClaim book names barred held asked (Least least) = (chain : List RuleId)
    → LeadsTo book names barred held asked chain → IsAtMost least (weigh book chain)
IsTrueClaim book names barred held asked NoChain = HasNoChain book names barred held asked

-- where the step can be made from a row within the claim, it leads out of the claim or to a row that costs no more
pub record GoesOn (rows : List TableRow) (claim : Claim) (step : Step) (weight : Weight) (row : TableRow)
    : Type 0 where
  pub onward : Within claim row.cost → IsOpen step row.set
      → EndsClaim claim (plus row.cost weight)
      ⊎ HasRow rows (union row.set step.targets) (plus row.cost weight)

-- the row is within the claim and holds not all that is asked, and each useful rule leads from it out of the claim or
-- to a row that costs no more; or it is not within the claim
pub record StandsIn (book : List Rule) (names : PropSet) (barred : List RuleId) (asked : PropSet)
    (rows : List TableRow) (claim : Claim) (row : TableRow) : Type 0 where
  pub onward : Within claim row.cost → (id : RuleId) (rule : Rule) → rule_at book id ≡ Some rule
      → IsUseful book names barred asked id rule
      → IsEnabled names barred row.set id rule
      → EndsClaim claim (plus row.cost rule.weight)
      ⊎ HasRow rows (union row.set rule.kind.targets) (plus row.cost rule.weight)
  pub ends : Within claim row.cost → IsSubset asked row.set → ⊥

-- P of the first n rows
abbrev pub UpTo : ℕ → (TableRow → Type 0) → List TableRow → Type 0
UpTo n P rows = (k : ℕ) (row : TableRow) → k < n → slice_get rows k ≡ Some row → P row
