-- Which objects of a run are savable.
use Rattle.pm_command.specs.Commands.{Spoken}
use Rattle.pm_laws_lineage.proofs.Counts.{counts_savable}
use Rattle.pm_laws_lineage.proofs.Laws.{build_laws}
use Rattle.pm_laws_lineage.proofs.Lines.{line_at, refusal_given}
use Rattle.pm_laws_lineage.proofs.Objectives.{same_names}
use Rattle.pm_laws_lineage.proofs.Placed.{given_placed, loaded_placed, made_placed}
use Rattle.pm_laws_lineage.proofs.Saying.{ensured_is_said, settling_says}
use Rattle.pm_laws_lineage.proofs.Steps.{none_in_line, run_line}
use Rattle.pm_laws_lineage.specs.Laws.{Leads, new_records}
use Rattle.pm_laws_lineage.specs.Provenances.{Records, is_savable, states_one_count}
use Rattle.pm_laws_lineage.specs.Saved.{IsSaidOnce, KeepsHalves, ObjectsAreSavable}
use Rattle.pm_machine.proofs.Keeping.{Each, Keeping, at_name}
use Rattle.pm_machine.proofs.KeepingSteps.{steps_keep}
use Rattle.pm_machine.specs.Machines.{Machine}
use Rattle.pm_object.specs.State.{State, given_at, has_rounds, holds_stored, is_held, is_sealed_at, names_to_settle, read_at, take_refusal, with_held}
use Rattle.pm_object.specs.declared.held.TakeFail.{TakeFail}
use Rattle.pm_object.specs.declared.held.TakeFail.TheVariants as fail
use Rattle.pm_props.proofs.Places.{same_property_is}
use Rattle.pm_props.specs.declared.property.PropId.{PropId}
use Rattle.pm_props.specs.declared.property.PropId.TheVariants.{ConeAmbientDim, LinearObjective}
use Rattle.pm_rules.specs.declared.rule.Rule.{Rule}
use Rattle.pm_script.specs.Replies.{ReplySeen}
use Rattle.pm_types.specs.Values.{PropertyValue}
use Rattle.pm_vector.proofs.Lists.{Contains_among, among_Contains, among_append}
use Rattle.std.proofs.Common.{ap, false, inl, inr, refl, subst, sym, true, true≢false, ◌∙◌}
use Rattle.std.proofs.lemmas.Bool.{cases_Bool, or_parts}
use Rattle.std.specs.Option.{is_some}
use Rattle.std.specs.Prelude.{Bool, IfSome, List, None, Option, Some, [], if◌then◌else◌, length, nat_eq, not, ℕ, ◌++◌, ◌&&◌, ◌||◌, ◌∷◌, ◌≡◌}

some_not_none : {A : Type 0} {a : A} → Some a ≡ None → ⊥
some_not_none e = true≢false (ap is_some e)

refusal_unsealed : (o : State) (sub : Option ℕ) (p : PropId) (v : PropertyValue) → take_refusal o sub p v ≡ None → is_sealed_at sub o ≡ false
refusal_unsealed o sub p v e = by _ (is_held p (read_at sub o.held)) (is_sealed_at sub o) e
  where
    by : (x : Option TakeFail) (a b : Bool) → (if a then Some fail.AlreadyHeld else (if b then Some fail.Sealed else x)) ≡ None → b ≡ false
    by x true b h = absurd (some_not_none h)
    by x false true h = absurd (some_not_none h)
    by x false false h = refl

-- a value is given to an object only before rounds, and an objective to a program of it leaves nothing more unsaid
taken_nothing : (o : State) (sub : Option ℕ) (p : PropId) (v : PropertyValue) → take_refusal o sub p v ≡ None → (has_rounds o ≡ true → names_to_settle o.held ≡ []) → has_rounds o ≡ true → names_to_settle (o.held ++ given_at sub p v ∷ []) ≡ []
taken_nothing o None p v free none e = absurd (true≢false (sym e ∙ (or_parts (has_rounds o) (holds_stored o.held) (refusal_unsealed o None p v free)).0))
taken_nothing o (Some s) p v free none e =
    subst (λ q. names_to_settle (o.held ++ given_at (Some s) q v ∷ []) ≡ []) (same_property_is LinearObjective p (refusal_given o (Some s) p v free)) (same_names s v o.held ∙ none e)

taken_says : (o : State) (sub : Option ℕ) (p : PropId) (v : PropertyValue) → take_refusal o sub p v ≡ None → IsSaidOnce o → IsSaidOnce (with_held o (given_at sub p v ∷ []))
taken_says o sub p v free s = record {
  nothing = taken_nothing o sub p v free s.nothing;
  placed = λ h i own. elim (among_append o.held (given_at sub p v ∷ []) (among_Contains _ i)) [
    | inl j ↦ s.placed h (Contains_among j) own
    | inr j ↦ given_placed sub p v h j own
  ];
}

saying : (book : List Rule) → KeepsHalves book → Keeping book IsSaidOnce (λ o. Unit {0})
saying book keeps = record {
  weaker = λ o s. tt;
  empty = λ of. record { nothing = λ e. absurd (true≢false (sym e)); placed = λ h i own. elim (among_Contains [] i) [ ] };
  taken = taken_says;
  program = λ o name s. record { nothing = s.nothing; placed = s.placed };
  disabled = λ o label s. record { nothing = s.nothing; placed = s.placed };
  settled = λ o s. let said = settling_says o s in record { nothing = λ e. said.nothing; placed = said.placed };
  ensured = λ sub asked ending old new e s. (ensured_is_said book keeps sub asked ending old new e s).1;
  in_part = λ sub asked old new part s. tt;
  made = λ f. record { nothing = λ e. absurd (true≢false (sym e)); placed = λ h i own. made_placed f h (among_Contains _ i) own };
  loaded = λ f. record { nothing = λ e. absurd (true≢false (sym e)); placed = λ h i own. loaded_placed book f h (among_Contains _ i) own };
}

all_said : (book : List Rule) → KeepsHalves book → (old new : Machine) (records later : Records) (run : List (Spoken × ReplySeen)) → Leads book old records run new later → Each IsSaidOnce old → Each IsSaidOnce new
all_said book keeps old new records later [] (is, same) all = subst (Each IsSaidOnce) (sym is) all
all_said book keeps old new records later (x ∷ run) (mid, bytes, step, read, rest) all = all_said book keeps mid new _ later run rest (steps_keep (saying book keeps) old mid x.0 x.1 step all)

said_savable : (o : State) → names_to_settle o.held ≡ [] → is_savable o ≡ true
said_savable o e = ap (λ ps. nat_eq (length ps) 0 || (not (has_rounds o) && (is_held ConeAmbientDim o.held || states_one_count o.held))) e

pub objects_are_savable : ObjectsAreSavable
objects_are_savable book start end provenances later run none leads q o is why =
    let line = line_at later.provenances end q o is (run_line build_laws book start end (new_records provenances) later run leads (λ b l i. elim i [ ]) (none_in_line provenances start none)) in
    elim (cases_Bool (has_rounds o)) [
      | inr e ↦ counts_savable o e line.count
      | inl e ↦ elim why [
        | inl f ↦ absurd (true≢false (sym e ∙ f))
        | inr keeps ↦ said_savable o ((at_name IsSaidOnce end q o is (all_said book keeps start end (new_records provenances) later run leads (λ q. subst (λ z. IfSome z IsSaidOnce) (sym (none q)) tt))).nothing e)
      ]
    ]
