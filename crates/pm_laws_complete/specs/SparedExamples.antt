-- Which events spare rules.
use Rattle.pm_object.specs.declared.held.Excluded.{Excluded}
use Rattle.pm_object.specs.declared.held.Why.TheVariants as why
use Rattle.pm_props.specs.declared.kind.RuleId.{RuleId}
use Rattle.pm_rounds.specs.Events.{Event, excluded, settled}
use Rattle.pm_laws_complete.specs.Spared.{Spares}
use Rattle.std.specs.Prelude.{Bool, None, [], nat_eq, ◌∷◌, ℕ}

-- the rule 1 alone
abbrev pub first : RuleId → Bool
first id = nat_eq id.0 1

-- the rule of that number is excluded
abbrev pub out : ℕ → Event
out n = excluded (record { rule = record { 0 = n }; sub = None; why = why.Stored 0 })

pub record SparedIsRead : Type 0 where
  pub other : Spares first (settled ∷ out 2 ∷ [])
  pub none : Spares first []
  pub excluded : ¬ (Spares first (settled ∷ out 1 ∷ []))
