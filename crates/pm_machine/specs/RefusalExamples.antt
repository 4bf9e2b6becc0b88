-- Why commands are refused before they change anything, read on small shelves: which reason comes, and which does not.
use Rattle.std.specs.Prelude.{ℕ, ◌≡◌, ◌≢◌, ◌≤◌, true, Some, None, List, [], ◌∷◌, codes, if◌then◌else◌, length}
use Rattle.std.specs.Str.{bytes_eq}
use Rattle.pm_client.specs.Starts.{Clients}
use Rattle.pm_limits.specs.Limits.{most_file_bytes}
use Rattle.pm_machine.specs.Examples.{whole}
use Rattle.pm_machine.specs.Machines.{IsNewName, NewNameRefusal, Shelf}
use Rattle.pm_machine.specs.Steps.{CopyRefusal, NewObjectRefusal, PropertiesRefusal, PropertyRefusal, RuleRefusal, SaveRefusal, UnloadRefusal, bytes_of, is_client}
use Rattle.pm_object.specs.State.{State, empty_object}
use Rattle.pm_object.specs.declared.held.Condition.TheVariants as condition
use Rattle.pm_object_type.specs.declared.object_type.ObjectType.TheVariants.{Cone, Polytope}
use Rattle.pm_rules.specs.declared.rule.Rule.{Rule}
use Rattle.pm_script.specs.declared.refusal.Refusal.{Refusal}
use Rattle.pm_script.specs.declared.refusal.Refusal.TheVariants.{NameTaken, NotFit, ObjectsFull, UnknownName, UnknownProperty, UnknownRule, UnknownType}

-- this object alone
abbrev pub one_object : List ℕ → State → Shelf
one_object name o = record { names = name ∷ []; object = λ q. if bytes_eq q name then Some o else None }

-- a polytope, and a cone, under the name a
abbrev pub one_polytope : Shelf
one_polytope = one_object (codes "a") (empty_object Polytope)

abbrev pub one_cone : Shelf
one_cone = one_object (codes "a") (empty_object Cone)

pub record RefusalsAreRead : Type 0 where
  -- a new name: that it is held comes first, also where there is no room
  pub taken : (s : Shelf) (name : List ℕ) → s.object name ≢ None → NewNameRefusal s name NameTaken
  pub full : (s : Shelf) (name : List ℕ) → s.object name ≡ None → length s.names ≡ 32
      → NewNameRefusal s name ObjectsFull
  pub taken_first : (s : Shelf) (name : List ℕ) → s.object name ≢ None → NewNameRefusal s name ObjectsFull
      → ⊥
  pub is_free : (s : Shelf) (name : List ℕ) (why : Refusal) → IsNewName s name → NewNameRefusal s name why → ⊥
  -- a new object: its type comes before its name
  pub no_type : (s : Shelf) (name : List ℕ) → NewObjectRefusal s name (codes "LP") UnknownType
  pub type_first : (s : Shelf) (name : List ℕ) → NewObjectRefusal s name (codes "LP") NameTaken → ⊥
  -- a property: of no object, of no such name, and of none that is there
  pub of_nothing : PropertyRefusal one_polytope (whole (codes "b")) (codes "RAYS") UnknownName
  pub of_no_name : PropertyRefusal one_polytope (whole (codes "a")) (codes "RAYS") UnknownProperty
  pub object_first : PropertyRefusal one_polytope (whole (codes "b")) (codes "RAYS") UnknownProperty → ⊥
  pub it_is_there : (why : Refusal) → PropertyRefusal one_polytope (whole (codes "a")) (codes "VERTICES") why
      → ⊥
  -- several: each word counts
  pub second_unknown : PropertiesRefusal one_cone (whole (codes "a"))
      (codes "RAYS" ∷ codes "VERTICES" ∷ []) UnknownProperty
  pub of_no_object : PropertiesRefusal one_cone (whole (codes "b")) (codes "RAYS" ∷ []) UnknownName
  pub both_there : (why : Refusal)
      → PropertiesRefusal one_cone (whole (codes "a")) (codes "RAYS" ∷ codes "FACETS" ∷ []) why → ⊥
  -- a copy: what is copied comes before the new name
  pub copy_of_nothing : CopyRefusal one_polytope (codes "b") (codes "a") UnknownName
  pub copy_over : CopyRefusal one_polytope (codes "a") (codes "a") NameTaken
  pub not_over_first : CopyRefusal one_polytope (codes "b") (codes "a") NameTaken → ⊥
  -- a label: the object comes before it
  pub no_rule : (label : List ℕ) → RuleRefusal one_polytope [] (codes "a") label UnknownRule
  pub not_rule_first : (book : List Rule) (label : List ℕ)
      → RuleRefusal one_polytope book (codes "b") label UnknownRule → ⊥
  -- a client
  pub no_client : (name : List ℕ) → UnloadRefusal [] name UnknownRule
  pub client_there : (name : List ℕ) (clients : Clients) → is_client name clients ≡ true
      → UnloadRefusal clients name UnknownRule → ⊥
  -- a file: the object comes before its length
  pub save_of_nothing : (book : List Rule) → SaveRefusal one_polytope book (codes "b") UnknownName
  pub not_too_long : (book : List Rule) → length (bytes_of book (empty_object Polytope)) ≤ most_file_bytes
      → SaveRefusal one_polytope book (codes "a") (NotFit condition.Size) → ⊥
