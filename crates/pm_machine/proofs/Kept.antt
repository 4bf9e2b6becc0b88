-- A step leaves each object honest: by the definitions alone.
use Rattle.pm_client.specs.Meanings.{unsaid}
use Rattle.pm_vector.proofs.Filters.{map_among}
use Rattle.pm_vector.proofs.Lists.{among_Contains}
use Rattle.pm_command.specs.Commands.{RefSeen, Spoken}
use Rattle.pm_files.specs.Files.{SavedFile}
use Rattle.pm_filing.proofs.Loaded.{loaded_is_kept}
use Rattle.pm_machine.proofs.Keeping.{Keeping, each_weaker, stays_so}
use Rattle.pm_machine.proofs.KeepingSteps.{at_ref, some_not_none}
use Rattle.pm_machine.proofs.KeepingSteps as steps
use Rattle.pm_machine.specs.Machines.{Machine, Stays, shelf}
use Rattle.pm_machine.specs.Parts.{AllHonest, StepInPart}
use Rattle.pm_machine.specs.Steps.{AllKept, Named, Step, named_at}
use Rattle.pm_making.specs.Rows.{object_of}
use Rattle.pm_object.proofs.Formed.{only}
use Rattle.pm_object.proofs.Honesty.{based_is_kept, empty_is_kept, honesty_is_of_values, settled_is_kept, unsealed_has_no_rounds}
use Rattle.pm_object.proofs.Objectives.{objective_is_kept}
use Rattle.pm_object.specs.Honest.{IsHonest, IsKept, is_based}
use Rattle.pm_object.specs.State.{HeldValue, State, empty_object, file_value, given_at, is_given_at, is_held, is_sealed_at, read_at, take_refusal, with_disabled, with_held, with_program}
use Rattle.pm_object.specs.declared.held.Origin.TheVariants as origin
use Rattle.pm_object.specs.declared.held.TakeFail.{TakeFail}
use Rattle.pm_object.specs.declared.held.TakeFail.TheVariants as fail
use Rattle.pm_props.proofs.Places.{same_property_is}
use Rattle.pm_props.specs.declared.property.PropId.{PropId}
use Rattle.pm_props.specs.declared.property.PropId.TheVariants.{LinearObjective}
use Rattle.pm_rounds.proofs.Traces.{ensuring_in_part_keeps, reaching_keeps}
use Rattle.pm_rounds.specs.Events.{at_rest, unsettled}
use Rattle.pm_rules.specs.declared.rule.Rule.{Rule}
use Rattle.pm_script.specs.Replies.{ReplySeen}
use Rattle.pm_types.specs.Values.{PropertyValue}
use Rattle.std.proofs.Common.{ap, false, refl, subst, true}
use Rattle.std.specs.List.{Contains}
use Rattle.std.specs.Prelude.{Bool, List, None, Option, Some, [], if◌then◌else◌, map, not, ℕ, ◌∷◌, ◌≡◌}

-- an object that takes a value was not sealed
refusal_unsealed : (o : State) (sub : Option ℕ) (p : PropId) (v : PropertyValue) → take_refusal o sub p v ≡ None → is_sealed_at sub o ≡ false
refusal_unsealed o sub p v e = by _ (is_held p (read_at sub o.held)) (is_sealed_at sub o) e
  where
    by : (x : Option TakeFail) (a b : Bool) → (if a then Some fail.AlreadyHeld else (if b then Some fail.Sealed else x)) ≡ None → b ≡ false
    by x true b h = absurd (some_not_none h)
    by x false true h = absurd (some_not_none h)
    by x false false h = refl

-- a program takes its objective alone
refusal_given : (o : State) (sub : Option ℕ) (p : PropId) (v : PropertyValue) → take_refusal o sub p v ≡ None → is_given_at o.of sub p ≡ true
refusal_given o sub p v e = by _ (is_held p (read_at sub o.held)) (is_sealed_at sub o) (is_given_at o.of sub p) e
  where
    by : (x : Option TakeFail) (a b c : Bool) → (if a then Some fail.AlreadyHeld else (if b then Some fail.Sealed else (if not c then Some fail.NotOfType else x))) ≡ None → c ≡ true
    by x true b c h = absurd (some_not_none h)
    by x false true c h = absurd (some_not_none h)
    by x false false true h = refl
    by x false false false h = absurd (some_not_none h)

one_given : (p : PropId) (v : PropertyValue) (h : HeldValue) → Contains (given_at None p v ∷ []) h → is_based h.origin ≡ true
one_given p v h i = ap (λ (z : HeldValue). is_based z.origin) (only (among_Contains (given_at None p v ∷ []) i))

-- what is given leaves an object kept: to itself while no round was started, to a program its objective at any time
given_is_kept : (o : State) (sub : Option ℕ) (p : PropId) (v : PropertyValue) → take_refusal o sub p v ≡ None → IsKept o → IsKept (with_held o (given_at sub p v ∷ []))
given_is_kept o None p v e kept = based_is_kept o (given_at None p v ∷ []) (unsealed_has_no_rounds o (refusal_unsealed o None p v e)) (one_given p v) kept
given_is_kept o (Some s) p v e kept = subst (λ q. IsKept (with_held o (given_at (Some s) q v ∷ []))) (same_property_is LinearObjective p (refusal_given o (Some s) p v e)) (objective_is_kept o s v kept)

-- a program more leaves an object kept
program_is_kept : (o : State) (name : List ℕ) → IsKept o → IsKept (with_program o name)
program_is_kept o name kept = record { honest = honesty_is_of_values o (with_program o name) refl refl kept.honest; based = kept.based }

-- an object of given values alone is kept
pub made_is_kept : (f : SavedFile) → IsKept (object_of f)
made_is_kept f = based_is_kept (empty_object f.of) (map (λ v. file_value origin.Given v.0 v.1) f.values) refl given (empty_is_kept f.of)
  where
    given : (h : HeldValue) → Contains (map (λ v. file_value origin.Given v.0 v.1) f.values) h → is_based h.origin ≡ true
    given h i =
        let (v, j, is) = map_among (λ (v : PropId × PropertyValue). file_value origin.Given v.0 v.1) f.values (among_Contains (map (λ v. file_value origin.Given v.0 v.1) f.values) i) in
        ap (λ z. is_based z.origin) is

pub honesty : (book : List Rule) → Keeping book IsKept IsHonest
honesty book = record {
  weaker = λ o kept. kept.honest;
  empty = empty_is_kept;
  taken = given_is_kept;
  program = program_is_kept;
  disabled = λ o label kept. record { honest = honesty_is_of_values o (with_disabled o label) refl refl kept.honest; based = kept.based };
  settled = settled_is_kept;
  ensured = λ sub asked ending old new e kept. reaching_keeps unsaid book sub asked unsettled at_rest old new e.reaches kept;
  in_part = λ sub asked old new part kept. ensuring_in_part_keeps unsaid book sub asked old new part kept;
  made = made_is_kept;
  loaded = loaded_is_kept book;
}

pub kept_at : (m : Machine) (ref : RefSeen) (x : Named) → named_at (shelf m) ref ≡ Some x → AllKept m → IsKept x.object
kept_at m ref x e all = at_ref IsKept m ref x e all.each

pub all_honest : (m : Machine) → AllKept m → AllHonest m
all_honest m all = record { each = each_weaker IsKept IsHonest (λ o kept. kept.honest) m all.each }

pub stays_honest : (old new : Machine) → Stays old new → AllKept old → AllHonest new
stays_honest old new s all = all_honest new (record { each = stays_so IsKept old new s all.each })

pub steps_keep : (book : List Rule) (old new : Machine) (command : Spoken) (reply : ReplySeen) → Step unsaid book old command reply new → AllKept old → AllKept new
steps_keep book old new command reply h all = record { each = steps.steps_keep (honesty book) old new command reply h all.each }

pub steps_in_part_keep : (book : List Rule) (old new : Machine) (command : Spoken) → StepInPart unsaid book old command new → AllKept old → AllHonest new
steps_in_part_keep book old new command h all = record { each = steps.steps_in_part_keep (honesty book) old new command h all.each }
