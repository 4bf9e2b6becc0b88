-- Each refusal is one line.
use Rattle.std.proofs.Common.{refl, subst, ℕ, List, true, ◌≡◌, Option, Some}
use Rattle.pm_client.specs.Starts.{Clients}
use Rattle.pm_command.specs.Commands.{RefSeen, ShapeSeen}
use Rattle.pm_command.specs.declared.building.Builder.{Builder}
use Rattle.pm_geom.specs.Evidence.{evidence_number}
use Rattle.pm_json.specs.Texts.{Given}
use Rattle.pm_machine.specs.Building.{BuildRefusal, MakeRefusal, no_new_name, no_such_name, not_fit, other_type}
use Rattle.pm_machine.specs.Machines.{Machine, NameRefusal, NewNameRefusal, Shelf, Store, is_taken, no_room}
use Rattle.pm_machine.specs.Machines as machines
use Rattle.pm_machine.specs.Steps as steps
use Rattle.pm_machine.specs.Steps.{CopyRefusal, LoadRefusal, NewObjectRefusal, NewProgramRefusal, PropertiesRefusal, PropertyRefusal, RuleRefusal, SaveRefusal, TakeRefusal, TakeValue, UnloadRefusal, IsFault}
use Rattle.pm_object.specs.State.{State, word_of}
use Rattle.pm_object.specs.declared.held.Condition.{Condition}
use Rattle.pm_object.specs.declared.held.Condition.TheVariants as condition
use Rattle.pm_props.specs.declared.property.PropId.{PropId}
use Rattle.pm_rules.specs.declared.rule.Rule.{Rule}
use Rattle.pm_script.specs.Replies.{refusal_text, why_text}
use Rattle.pm_script.specs.declared.refusal.NotMadeWhy.{NotMadeWhy}
use Rattle.pm_script.specs.declared.refusal.NotMadeWhy.TheVariants.{Combination, Pair}
use Rattle.pm_script.specs.declared.refusal.Refusal.{Refusal}
use Rattle.pm_script.specs.declared.refusal.Refusal.TheVariants as refusal
use Rattle.pm_script.specs.declared.refusal.ValueWhy.{ValueWhy}
use Rattle.pm_script.specs.declared.refusal.ValueWhy.TheVariants.{Json, Shape, Number, Index, Limit, Computed, Columns, Row}
use Rattle.pm_types.specs.Values.{PropertyValue}
use Rattle.pm_laws_replies.proofs.FileNames.{fault_line}
use Rattle.pm_laws_replies.proofs.OneLine.{plain_decimal}
use Rattle.pm_laws_replies.specs.Told.{is_one_line}

-- the refusal is one line
abbrev pub IsLine : Refusal → Type 0
IsLine why = is_one_line (refusal_text why) ≡ true

plain_why : (w : ValueWhy) → is_one_line (why_text w) ≡ true
plain_why Json = refl
plain_why Shape = refl
plain_why Number = refl
plain_why Index = refl
plain_why Limit = refl
plain_why Computed = refl
plain_why Columns = refl
plain_why Row = refl

plain_condition : (c : Condition) → is_one_line (word_of c) ≡ true
plain_condition condition.OfType = refl
plain_condition condition.Bounded = refl
plain_condition condition.FullDim = refl
plain_condition condition.Centered = refl
plain_condition condition.Feasible = refl
plain_condition condition.Columns = refl
plain_condition condition.Rows = refl
plain_condition condition.Size = refl

pub line_not_fit : (c : Condition) → IsLine (refusal.NotFit c)
line_not_fit c = plain_condition c

pub line_not_made : (w : NotMadeWhy) → IsLine (refusal.NotMade w)
line_not_made (Combination first second column) = refl
line_not_made (Pair a b evidence) = plain_decimal (evidence_number evidence)

pub line_property : {s : Shelf} {ref : RefSeen} {text : List ℕ} {why : Refusal} → PropertyRefusal s ref text why → IsLine why
line_property (steps.no_such_name e) = refl
line_property (steps.no_such_property x e f) = refl

pub line_properties : {s : Shelf} {ref : RefSeen} {words : List (List ℕ)} {why : Refusal} → PropertiesRefusal s ref words why → IsLine why
line_properties (steps.no_such_name e) = refl
line_properties (steps.no_such_property x e f) = refl

pub line_new : {s : Shelf} {name : List ℕ} {why : Refusal} → NewNameRefusal s name why → IsLine why
line_new (machines.is_taken e) = refl
line_new (machines.no_room e f) = refl

pub line_name : {s : Shelf} {name : List ℕ} {why : Refusal} → NameRefusal s name why → IsLine why
line_name (machines.no_such_name e) = refl

pub line_object : {s : Shelf} {name text : List ℕ} {why : Refusal} → NewObjectRefusal s name text why → IsLine why
line_object (steps.no_such_type e) = refl
line_object (steps.no_new_name e r) = line_new r

pub line_program : {s : Shelf} {name sub text : List ℕ} {why : Refusal} → NewProgramRefusal s name sub text why → IsLine why
line_program (steps.other_word e) = refl
line_program (steps.no_such_name e f) = refl
line_program (steps.other_type e f) = refl
line_program (steps.is_taken e f) = refl
line_program (steps.no_room e f) = refl

by_some : (own why : Refusal) → Some own ≡ Some why → IsLine own → IsLine why
by_some own why e h = subst IsLine (some_same e) h
  where
    some_same : {X : Type 0} {a b : X} → Some a ≡ Some b → a ≡ b
    some_same e = cc

line_taking : {o : State} {sub : Option ℕ} {p : PropId} {g : Given} {r : Option Refusal} {v : Option PropertyValue} → TakeValue o sub p g r v → (why : Refusal) → r ≡ Some why → IsLine why
line_taking (steps.held_already e) why is = by_some refusal.AlreadyHeld why is refl
line_taking (steps.is_sealed e f) why is = by_some refusal.Sealed why is refl
line_taking (steps.is_no_json e f) why is = by_some (refusal.BadValue Json) why is refl
line_taking (steps.has_fault {why = w} e f g) why is = by_some (refusal.BadValue w) why is (plain_why w)
line_taking (steps.is_computed e) why is = by_some (refusal.BadValue Computed) why is refl
line_taking (steps.other_columns e) why is = by_some (refusal.BadValue Columns) why is refl
line_taking (steps.wrong_row e) why is = by_some (refusal.BadValue Row) why is refl
line_taking (steps.takes e f) why is = cc

pub line_take : {s : Shelf} {ref : RefSeen} {text json : List ℕ} {why : Refusal} → TakeRefusal s ref text json why → IsLine why
line_take (steps.no_property r) = line_property r
line_take (steps.not_taken {why = why} x p e f t) = line_taking t why refl

pub line_copy : {s : Shelf} {name to : List ℕ} {why : Refusal} → CopyRefusal s name to why → IsLine why
line_copy (steps.no_such_name e) = refl
line_copy (steps.no_new_name e r) = line_new r

pub line_save : {s : Shelf} {book : List Rule} {name : List ℕ} {why : Refusal} → SaveRefusal s book name why → IsLine why
line_save (steps.no_such_name e) = refl
line_save (steps.is_long o e f) = refl

pub line_rule : {s : Shelf} {book : List Rule} {name label : List ℕ} {why : Refusal} → RuleRefusal s book name label why → IsLine why
line_rule (steps.no_such_name e) = refl
line_rule (steps.no_such_rule e f) = refl

pub line_unload : {clients : Clients} {name : List ℕ} {why : Refusal} → UnloadRefusal clients name why → IsLine why
line_unload (steps.no_such_client e) = refl

pub line_make : {s : Shelf} {to : List ℕ} {shape : ShapeSeen} {why : Refusal} → MakeRefusal s to shape why → IsLine why
line_make (no_new_name r) = line_new r
line_make (not_fit {c = c} e f) = line_not_fit c

pub line_build : {s : Shelf} {b : Builder} {names : List (List ℕ)} {to : List ℕ} {why : Refusal} → BuildRefusal s b names to why → IsLine why
line_build (no_such_name e) = refl
line_build (no_new_name e r) = line_new r
line_build (other_type e f g) = refl

pub line_load : {old new : Store} {file : List ℕ} {why : Refusal} → LoadRefusal old new file why → IsLine why
line_load (steps.store_failed r) = refl
line_load (steps.no_such_file n) = refl
line_load (steps.bad_file {why = why} bytes e h r f) = fault_line bytes e why r f
