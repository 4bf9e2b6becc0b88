-- Why an object, or a program of it, does not take a value, for the reasons that are told.
use Rattle.std.specs.Prelude.{Bool, List, None, Option, Some, if◌then◌else◌, not, ℕ}
use Rattle.std.proofs.Common.{arith, false, refl, rules, sym, true, true≢false, ◌∙◌, ◌≡◌, ◌≢◌}
use Rattle.pm_object.specs.State.{State, CannotTake, agrees, cols_of, is_given_at, is_held, is_sealed_at, program_refusal, read_at, sites_agree}
use Rattle.pm_object.specs.declared.held.ProgramFail.{ProgramFail}
use Rattle.pm_object.specs.declared.held.ProgramFail.TheVariants as no_program
use Rattle.pm_object.specs.declared.held.TakeFail.{TakeFail}
use Rattle.pm_object.specs.declared.held.TakeFail.TheVariants.{AlreadyHeld, Columns, Memory, NotAThing, NotOfType, Sealed}
use Rattle.pm_types.specs.Forms.{are_rows}
use Rattle.pm_types.specs.Values.{PropertyValue}
use Rattle.pm_props.specs.declared.property.PropId.{PropId}

-- the reasons in the order in which they are asked
abbrev take_order : Bool → Bool → Bool → Bool → Bool → Bool → Option TakeFail
take_order a b c d s e = if a then Some AlreadyHeld else if b then Some Sealed else if not c then Some NotOfType else if not d then Some Columns else if not s then Some Columns else if not e then Some NotAThing else None

pub columns : (o : State) (sub : Option ℕ) (p : PropId) (v : PropertyValue) (e : TakeFail) → e ≡ Columns → (e ≢ Memory → CannotTake o sub p v e) → CannotTake o sub p v Columns
columns o sub p v e is refused = search rules

pub not_a_thing : (o : State) (sub : Option ℕ) (p : PropId) (v : PropertyValue) (e : TakeFail) → e ≡ NotAThing → (e ≢ Memory → CannotTake o sub p v e) → CannotTake o sub p v NotAThing
not_a_thing o sub p v e is refused = search rules

pub not_of_type : (o : State) (sub : Option ℕ) (p : PropId) (v : PropertyValue) (e : TakeFail) → e ≡ NotOfType → (e ≢ Memory → CannotTake o sub p v e) → CannotTake o sub p v NotOfType
not_of_type o sub p v e is refused = search rules

-- the value is not held, or the object is not sealed, so this is no reason
first_of : (a b c d s e : Bool) → take_order a b c d s e ≡ Some AlreadyHeld → a ≡ true
first_of true b c d s e h = refl
first_of false b c d s e h = grind arith

second_of : (a b c d s e : Bool) → take_order a b c d s e ≡ Some Sealed → b ≡ true
second_of a true c d s e h = refl
second_of a false c d s e h = grind arith

already : (o : State) (sub : Option ℕ) (p : PropId) (v : PropertyValue) (e : TakeFail) → e ≡ AlreadyHeld → (e ≢ Memory → CannotTake o sub p v e) → CannotTake o sub p v AlreadyHeld
already o sub p v e is refused = search rules

sealed : (o : State) (sub : Option ℕ) (p : PropId) (v : PropertyValue) (e : TakeFail) → e ≡ Sealed → (e ≢ Memory → CannotTake o sub p v e) → CannotTake o sub p v Sealed
sealed o sub p v e is refused = search rules

pub not_held : (o : State) (sub : Option ℕ) (p : PropId) (v : PropertyValue) (e : TakeFail) → e ≡ AlreadyHeld → (e ≢ Memory → CannotTake o sub p v e) → is_held p (read_at sub o.held) ≡ false → ⊥
not_held o sub p v e is refused missing =
    true≢false (sym (first_of (is_held p (read_at sub o.held)) (is_sealed_at sub o) (is_given_at o.of sub p) (agrees (cols_of o.held) p v) (sites_agree o.held p v) (are_rows o.of p v) (already o sub p v e is refused)) ∙ missing)

pub not_sealed : (o : State) (sub : Option ℕ) (p : PropId) (v : PropertyValue) (e : TakeFail) → e ≡ Sealed → (e ≢ Memory → CannotTake o sub p v e) → is_sealed_at sub o ≡ false → ⊥
not_sealed o sub p v e is refused unsealed =
    true≢false (sym (second_of (is_held p (read_at sub o.held)) (is_sealed_at sub o) (is_given_at o.of sub p) (agrees (cols_of o.held) p v) (sites_agree o.held p v) (are_rows o.of p v) (sealed o sub p v e is refused)) ∙ unsealed)

-- ---- why there is no linear program more
pub not_polytope : (o : State) (sub : List ℕ) (e : ProgramFail) → e ≡ no_program.NotPolytope → (e ≢ no_program.Memory → program_refusal o sub ≡ Some e) → program_refusal o sub ≡ Some no_program.NotPolytope
not_polytope o sub e is refused = search rules

pub taken_name : (o : State) (sub : List ℕ) (e : ProgramFail) → e ≡ no_program.NameTaken → (e ≢ no_program.Memory → program_refusal o sub ≡ Some e) → program_refusal o sub ≡ Some no_program.NameTaken
taken_name o sub e is refused = search rules

pub full : (o : State) (sub : List ℕ) (e : ProgramFail) → e ≡ no_program.Full → (e ≢ no_program.Memory → program_refusal o sub ≡ Some e) → program_refusal o sub ≡ Some no_program.Full
full o sub e is refused = search rules
