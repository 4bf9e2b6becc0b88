-- What is told of small objects, and what is not.
use Rattle.pm_geom.specs.declared.evidence.Evidence.TheVariants.{E4}
use Rattle.pm_object.specs.State.{HeldValue, State, empty_object}
use Rattle.pm_object.specs.declared.held.Excluded.{Excluded}
use Rattle.pm_object.specs.declared.held.Origin.{Origin}
use Rattle.pm_object.specs.declared.held.Origin.TheVariants.{Computed, Given, Stored}
use Rattle.pm_object.specs.declared.held.Why.TheVariants as why
use Rattle.pm_object_type.specs.declared.object_type.ObjectType.TheVariants.{Polytope}
use Rattle.pm_props.specs.declared.kind.RuleId.{RuleId}
use Rattle.pm_props.specs.declared.property.PropId.{PropId}
use Rattle.pm_props.specs.declared.property.PropId.TheVariants.{FullDim, MaximalValue, Pointed}
use Rattle.pm_rules.specs.declared.rule.Rule.{Rule}
use Rattle.pm_telling.specs.Telling.{evidence_of, held_told, origin_of, programs_told}
use Rattle.pm_types.specs.Values.{truth}
use Rattle.std.specs.Prelude.{List, None, Option, Some, [], codes, true, ℕ, ◌≡◌, ◌∷◌}

-- a value of the property at this place that came to be held so
abbrev pub held_at : Option ℕ → PropId → Origin → HeldValue
held_at place p origin = record { place = place; property = p; value = truth true; origin = origin }

-- a polytope with two linear programs, and these values
abbrev pub with_values : List HeldValue → State
with_values held = record (empty_object Polytope) { held = held; programs = codes "a" ∷ codes "b" ∷ [] }

pub record HeldIsTold : Type 0 where
  pub was_given : origin_of Pointed (held_at None FullDim Computed ∷ held_at None Pointed Given ∷ [])
      ≡ Some Given
  pub was_computed : origin_of Pointed (held_at None FullDim Given ∷ held_at None Pointed Computed ∷ [])
      ≡ Some Computed
  pub not_held : origin_of Pointed (held_at None FullDim Given ∷ []) ≡ None
  -- in the order of the table, and not in that in which they came
  pub in_order : held_told (with_values (held_at None FullDim Given ∷ held_at None Pointed Stored ∷ [])) None
      ≡ (Pointed, Stored) ∷ (FullDim, Given) ∷ []
  pub nothing : held_told (with_values []) None ≡ []
  -- the object's own, and not those of a program; and of each program its own
  pub not_of_programs : held_told (with_values (held_at (Some 1) MaximalValue Computed ∷ [])) None ≡ []
  pub of_the_second
      : programs_told
      (with_values (held_at None Pointed Given ∷ held_at (Some 1) MaximalValue Computed ∷ []))
      ≡ (codes "a", []) ∷ (codes "b", (MaximalValue, Computed) ∷ []) ∷ []
  pub no_programs : programs_told (empty_object Polytope) ≡ []

abbrev pub first : RuleId
first = record { 0 = 0 }

abbrev pub second : RuleId
second = record { 0 = 1 }

-- a rule of this label, of which nothing else is asked here
abbrev pub labelled : List ℕ → Rule
labelled label =
    record {
      label = label;
      kind = record { name = label; targets = 0; sources = 0; must = 0; must_not = 0 };
      weight = record { class = 0; minor = 1 };
      must = 0;
      must_not = 0;
    }

abbrev pub book : List Rule
book = labelled (codes "r") ∷ labelled (codes "s") ∷ []

-- the rule failed at the object, at its second program in an earlier run, or found a precondition wrong
abbrev pub failed_here : RuleId → Excluded
failed_here id = record { rule = id; sub = None; why = why.Failed (E4 [] []) }

abbrev pub failed_there : RuleId → Excluded
failed_there id = record { rule = id; sub = Some 1; why = why.Stored 4 }

abbrev pub found_false : RuleId → Excluded
found_false id = record { rule = id; sub = None; why = why.False Pointed }

pub record EvidenceIsTold : Type 0 where
  -- at each place, in the order in which they came, and none of another rule
  pub each_place : evidence_of book (codes "r")
      (failed_there first ∷ failed_here second ∷ failed_here first ∷ [])
      ≡ failed_there first ∷ failed_here first ∷ []
  pub of_the_other : evidence_of book (codes "s")
      (failed_there first ∷ failed_here second ∷ failed_here first ∷ []) ≡ failed_here second ∷ []
  -- a wrong precondition is no evidence
  pub no_evidence : evidence_of book (codes "r") (found_false first ∷ []) ≡ []
  pub no_such_rule : evidence_of book (codes "t") (failed_here first ∷ []) ≡ []
