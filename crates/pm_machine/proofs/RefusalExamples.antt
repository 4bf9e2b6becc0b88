-- Why commands are refused before they change anything, on small shelves.
use Rattle.pm_client.specs.Starts.{Clients}
use Rattle.pm_limits.specs.Limits.{most_file_bytes}
use Rattle.pm_machine.proofs.KeepingSteps.{some_not_none}
use Rattle.pm_machine.specs.Examples.{whole}
use Rattle.pm_machine.specs.Machines.{IsNewName, NewNameRefusal, Shelf, is_taken, no_room}
use Rattle.pm_machine.specs.RefusalExamples.{RefusalsAreRead, one_cone, one_polytope}
use Rattle.pm_machine.specs.Steps.{CopyRefusal, Named, NewObjectRefusal, PropertiesRefusal, PropertyRefusal, RuleRefusal, SaveRefusal, UnloadRefusal, asked_of, bytes_of, is_client, is_long, no_new_name, no_such_client, no_such_name, no_such_property, no_such_rule, no_such_type, property_at}
use Rattle.pm_object.specs.State.{State, empty_object}
use Rattle.pm_object.specs.declared.held.Condition.TheVariants as condition
use Rattle.pm_object_type.specs.declared.object_type.ObjectType.TheVariants.{Cone, Polytope}
use Rattle.pm_rules.specs.declared.rule.Rule.{Rule}
use Rattle.pm_script.specs.declared.refusal.Refusal.{Refusal}
use Rattle.pm_script.specs.declared.refusal.Refusal.TheVariants.{NameTaken, NotFit, ObjectsFull, UnknownProperty, UnknownRule}
use Rattle.std.proofs.Common.{arith, refl, subst, sym, true, true≢false, ◌∙◌}
use Rattle.std.specs.Prelude.{List, None, Some, [], codes, length, ℕ, ◌<◌, ◌∷◌, ◌≡◌, ◌≢◌, ◌≤◌}

-- ---- new names
not_full_first : (s : Shelf) (name : List ℕ) → s.object name ≢ None → NewNameRefusal s name ObjectsFull → ⊥
not_full_first s name taken (no_room free full) = taken free

not_refused : (s : Shelf) (name : List ℕ) (why : Refusal) → IsNewName s name → NewNameRefusal s name why → ⊥
not_refused s name _ (free, room) (is_taken taken) = taken free
not_refused s name _ (free, room) (no_room none full) = absurd (omega (arith, room, full))

name_not_first : (s : Shelf) (name : List ℕ) → NewObjectRefusal s name (codes "LP") NameTaken → ⊥
name_not_first s name (no_new_name some n) = some refl

-- ---- properties
some_named : {a b : Named} → Some a ≡ Some b → b ≡ a
some_named h = cc

is_there : (why : Refusal) → PropertyRefusal one_polytope (whole (codes "a")) (codes "VERTICES") why → ⊥
is_there _ (no_such_name none) = some_not_none none
is_there _ (no_such_property x at none) = some_not_none (subst (λ z. property_at z (codes "VERTICES") ≡ None) (some_named at) none)

are_there : (why : Refusal) → PropertiesRefusal one_cone (whole (codes "a")) (codes "RAYS" ∷ codes "FACETS" ∷ []) why → ⊥
are_there _ (no_such_name none) = some_not_none none
are_there _ (no_such_property x at none) = some_not_none (subst (λ z. asked_of z (codes "RAYS" ∷ codes "FACETS" ∷ []) ≡ None) (some_named at) none)

not_property_first : PropertyRefusal one_polytope (whole (codes "b")) (codes "RAYS") UnknownProperty → ⊥
not_property_first (no_such_property x at none) = some_not_none (sym at)

-- ---- the others
not_copied_over : CopyRefusal one_polytope (codes "b") (codes "a") NameTaken → ⊥
not_copied_over (no_new_name some n) = some refl

rule_not_first : (book : List Rule) (label : List ℕ) → RuleRefusal one_polytope book (codes "b") label UnknownRule → ⊥
rule_not_first book label (no_such_rule some none) = some refl

is_loaded_client : (name : List ℕ) (clients : Clients) → is_client name clients ≡ true → UnloadRefusal clients name UnknownRule → ⊥
is_loaded_client name clients there (no_such_client none) = true≢false (sym there ∙ none)

some_state : {a b : State} → Some a ≡ Some b → b ≡ a
some_state h = cc

is_short : (book : List Rule) → length (bytes_of book (empty_object Polytope)) ≤ most_file_bytes → SaveRefusal one_polytope book (codes "a") (NotFit condition.Size) → ⊥
is_short book short (is_long o at long) = absurd (omega (arith, short, subst (λ z. most_file_bytes < length (bytes_of book z)) (some_state at) long))

pub refusals_are_read : RefusalsAreRead
refusals_are_read = record {
  taken = λ s name t. is_taken t;
  full = λ s name free count. no_room free (omega (arith, count));
  taken_first = not_full_first;
  is_free = not_refused;
  no_type = λ s name. no_such_type refl;
  type_first = name_not_first;
  of_nothing = no_such_name refl;
  of_no_name = no_such_property (record { object = empty_object Polytope; sub = None }) refl refl;
  object_first = not_property_first;
  it_is_there = is_there;
  second_unknown = no_such_property (record { object = empty_object Cone; sub = None }) refl refl;
  of_no_object = no_such_name refl;
  both_there = are_there;
  copy_of_nothing = no_such_name refl;
  copy_over = no_new_name some_not_none (is_taken some_not_none);
  not_over_first = not_copied_over;
  no_rule = λ label. no_such_rule some_not_none refl;
  not_rule_first = rule_not_first;
  no_client = λ name. no_such_client refl;
  client_there = is_loaded_client;
  save_of_nothing = λ book. no_such_name refl;
  not_too_long = is_short;
}
