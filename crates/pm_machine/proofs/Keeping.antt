-- What is so of each object of a machine stays so, where one changes or none.
use Rattle.pm_client.specs.Meanings.{unsaid}
use Rattle.pm_files.specs.Files.{SavedFile}
use Rattle.pm_filing.specs.Filing.{loaded_object}
use Rattle.pm_machine.specs.Machines.{Becomes, Machine, Stays}
use Rattle.pm_making.specs.Rows.{object_of}
use Rattle.pm_object.specs.State.{State, empty_object, given_at, settling, take_refusal, with_disabled, with_held, with_program}
use Rattle.pm_object_type.specs.declared.object_type.ObjectType.{ObjectType}
use Rattle.pm_props.specs.declared.property.PropId.{PropId}
use Rattle.pm_props.specs.declared.set.PropSet.{PropSet}
use Rattle.pm_rounds.specs.Events.{Configuration, Ensured, EnsuredInPart, configuration}
use Rattle.pm_rounds.specs.declared.round.Ending.{Ending}
use Rattle.pm_rules.specs.declared.rule.Rule.{Rule}
use Rattle.pm_types.specs.Values.{PropertyValue}
use Rattle.std.proofs.Common.{ap, bytes_eq, false, inl, inr, subst, sym, true, true≢false, ◌∙◌, ◌≢◌}
use Rattle.std.proofs.lemmas.Slice.Eq.{bytes_eq-Decides}
use Rattle.std.specs.Prelude.{IfSome, List, None, Option, Some, [], ℕ, ◌∷◌, ◌≡◌}
use Rattle.std.proofs.lemmas.Bool.{cases_Bool}

pub same_bytes : (q name : List ℕ) → bytes_eq q name ≡ true → q ≡ name
same_bytes q name e = (bytes_eq-Decides q name).0 e

pub other_bytes : (q name : List ℕ) → bytes_eq q name ≡ false → q ≢ name
other_bytes q name e f = true≢false (sym ((bytes_eq-Decides q name).1 f) ∙ e)

-- so is each object
abbrev pub Each : (State → Type 0) → Machine → Type 0
Each P m = (q : List ℕ) → IfSome (m.object q) P

-- What commands do to an object keeps P; of one whose rounds were broken off Q is so.
pub record Keeping (book : List Rule) (P Q : State → Type 0) : Type 0 where
  pub weaker : (o : State) → P o → Q o
  pub empty : (of : ObjectType) → P (empty_object of)
  pub taken : (o : State) (sub : Option ℕ) (p : PropId) (v : PropertyValue) → take_refusal o sub p v ≡ None → P o → P (with_held o (given_at sub p v ∷ []))
  pub program : (o : State) (name : List ℕ) → P o → P (with_program o name)
  pub disabled : (o : State) (label : List ℕ) → P o → P (with_disabled o label)
  pub settled : (o : State) → P o → P (with_held o (settling o))
  pub ensured : (sub : Option ℕ) (asked : PropSet) (ending : Ending) (old new : Configuration) → Ensured unsaid book sub asked ending old new → P old.object → P new.object
  pub in_part : (sub : Option ℕ) (asked : PropSet) (old new : Configuration) → EnsuredInPart unsaid book sub asked old new → P old.object → Q new.object
  pub made : (f : SavedFile) → P (object_of f)
  pub loaded : (f : SavedFile) → P (loaded_object book f)

-- what is so of the object of one name, and of the others as before, is so of all
pub with_one : (P : State → Type 0) (name : List ℕ) (o : State) (old new : Machine) → new.object name ≡ Some o → ((q : List ℕ) → q ≢ name → new.object q ≡ old.object q) → P o → Each P old → Each P new
with_one P name o old new is others so all q = elim (cases_Bool (bytes_eq q name)) [
  | inl e ↦ subst (λ z. IfSome z P) (sym (ap new.object (same_bytes q name e) ∙ is)) so
  | inr e ↦ subst (λ z. IfSome z P) (sym (others q (other_bytes q name e))) (all q)
]

pub becomes_so : (P : State → Type 0) (name : List ℕ) (c : Configuration) (old new : Machine) → Becomes name c old new → P c.object → Each P old → Each P new
becomes_so P name c old new b so all = with_one P name c.object old new b.object b.others so all

pub same_so : (P : State → Type 0) (old new : Machine) → ((q : List ℕ) → new.object q ≡ old.object q) → Each P old → Each P new
same_so P old new same all q = subst (λ z. IfSome z P) (sym (same q)) (all q)

pub stays_so : (P : State → Type 0) (old new : Machine) → Stays old new → Each P old → Each P new
stays_so P old new s all = same_so P old new s.objects all

pub at_name : (P : State → Type 0) (m : Machine) (name : List ℕ) (o : State) → m.object name ≡ Some o → Each P m → P o
at_name P m name o is all = subst (λ z. IfSome z P) is (all name)

weaker_at : (P Q : State → Type 0) → ((o : State) → P o → Q o) → (x : Option State) → IfSome x P → IfSome x Q
weaker_at P Q f None h = tt
weaker_at P Q f (Some o) h = f o h

pub each_weaker : (P Q : State → Type 0) → ((o : State) → P o → Q o) → (m : Machine) → Each P m → Each Q m
each_weaker P Q f m all q = weaker_at P Q f (m.object q) (all q)

-- rounds on one object were broken off
pub becomes_in_part : {book : List Rule} {P Q : State → Type 0} → Keeping book P Q → (sub : Option ℕ) (asked : PropSet) (old new : Machine) (name : List ℕ) (o : State) (now : Configuration) → P o
    → EnsuredInPart unsaid book sub asked (configuration o old.clients) now → Becomes name now old new → Each P old → Each Q new
becomes_in_part {book} {P} {Q} k sub asked old new name o now so part becomes all =
    with_one Q name now.object old new becomes.object becomes.others (k.in_part sub asked (configuration o old.clients) now part so) (each_weaker P Q k.weaker old all)
