-- What an object was made of, as a fact of one object and of all objects of a machine.
use Rattle.pm_client.specs.Meanings.{unsaid}
use Rattle.pm_filing.specs.Filing.{loaded_object, unsettled_object}
use Rattle.pm_filing.specs.Whole.{is_kept}
use Rattle.pm_files.specs.Files.{SavedFile}
use Rattle.pm_laws_lineage.proofs.Counts.{CountIsOne, known_counts, savable_counts, taken_counts}
use Rattle.pm_laws_lineage.proofs.Given.{sound_given}
use Rattle.pm_laws_lineage.proofs.Objectives.{sound_objective}
use Rattle.pm_laws_lineage.proofs.Placed.{Placed, both_placed, ensured_placed, given_placed, loaded_placed, made_placed, settling_placed}
use Rattle.pm_laws_lineage.proofs.Reading.{stands_for}
use Rattle.pm_laws_lineage.proofs.Sound.{KnowsDimension, Sound, ensured_keeps, sound_settled}
use Rattle.pm_laws_lineage.proofs.Twice.{settling_knows}
use Rattle.pm_laws_lineage.specs.Lineages.{Lineage}
use Rattle.pm_laws_lineage.specs.Provenances.{AllStandFor, Provenance, Provenances, StandsFor, is_savable, keeps_lineage, lineage_of, made, made_with, of_its_values, provenance_given, put}
use Rattle.pm_machine.proofs.Keeping.{other_bytes, same_bytes}
use Rattle.pm_machine.proofs.Kept.{honesty}
use Rattle.pm_machine.specs.Machines.{Machine, OthersStay}
use Rattle.pm_machine.specs.Steps.{property_named}
use Rattle.pm_making.specs.Rows.{object_of}
use Rattle.pm_object.proofs.Formed.{held_stays, place_none, value_later}
use Rattle.pm_object.specs.Honest.{IsKept}
use Rattle.pm_object.specs.State.{State, agrees, cols_of, empty_object, given_at, has_rounds, is_given_at, is_held, is_sealed_at, read_at, settling, take_refusal, value_of, with_disabled, with_held, with_program}
use Rattle.pm_object.specs.declared.held.TakeFail.{TakeFail}
use Rattle.pm_object.specs.declared.held.TakeFail.TheVariants as fail
use Rattle.pm_object_type.specs.declared.object_type.ObjectType.{ObjectType}
use Rattle.pm_props.proofs.Places.{same_place_refl, same_property_is, same_property_refl}
use Rattle.pm_props.specs.Names.{property_named_in}
use Rattle.pm_props.specs.Places.{place_of, same_place, same_property}
use Rattle.pm_props.specs.declared.property.PropId.{PropId}
use Rattle.pm_props.specs.declared.property.PropId.TheVariants.{ConeAmbientDim, LinearObjective}
use Rattle.pm_props.specs.declared.set.PropSet.{PropSet}
use Rattle.pm_rounds.specs.Events.{Configuration, Ensured}
use Rattle.pm_rounds.specs.declared.round.Ending.{Ending}
use Rattle.pm_rules.specs.declared.rule.Rule.{Rule}
use Rattle.pm_types.specs.Values.{PropertyValue}
use Rattle.std.proofs.Common.{ap, bytes_eq, false, inl, inr, refl, subst, sym, true, true≢false, ◌∙◌}
use Rattle.std.proofs.lemmas.List.Elements.{filter-append}
use Rattle.std.specs.Option.{is_none, is_some}
use Rattle.std.specs.Prelude.{Bool, IfSome, List, None, Option, Some, [], if◌then◌else◌, not, ℕ, ◌++◌, ◌||◌, ◌∷◌, ◌≡◌}
use Rattle.std.proofs.lemmas.Bool.{cases_Bool}

-- an object of this provenance between commands
pub record InLine (provenance : Provenance) (o : State) : Type 0 where
  pub kept : IsKept o
  pub knows : KnowsDimension o
  pub count : CountIsOne o
  pub sound : Sound provenance o
  pub placed : Placed o.held

pub record AllInLine (provenances : Provenances) (m : Machine) : Type 0 where
  pub each : (q : List ℕ) → IfSome (m.object q) (InLine (provenances q))

-- ---- what is given
refusal_new : (o : State) (sub : Option ℕ) (p : PropId) (v : PropertyValue) → take_refusal o sub p v ≡ None → is_held p (read_at sub o.held) ≡ false
refusal_new o sub p v e = by _ (is_held p (read_at sub o.held)) e
  where
    by : (x : Option TakeFail) (a : Bool) → (if a then Some fail.AlreadyHeld else x) ≡ None → a ≡ false
    by x true h = absurd (true≢false (ap is_some h))
    by x false h = refl

-- it is read there
given_is_read : (o : State) (p : PropId) (v : PropertyValue) → is_held p (read_at None o.held) ≡ false → value_of p (read_at None (o.held ++ given_at None p v ∷ [])) ≡ Some v
given_is_read o p v new =
    ap (value_of p) (filter-append (λ h. same_place h.place (place_of None h.property)) o.held (given_at None p v ∷ []))
    ∙ value_later p (read_at None o.held) (read_at None (given_at None p v ∷ [])) (none_of (value_of p (read_at None o.held)) new)
    ∙ ap (λ t. value_of p (if t then given_at None p v ∷ [] else [])) (same_place_refl (place_of None p))
    ∙ ap (λ t. if t then Some v else None) (same_property_refl p)
  where
    none_of : (x : Option PropertyValue) → is_some x ≡ false → x ≡ None
    none_of None e = refl
    none_of (Some w) e = absurd (true≢false e)

some_not_none : {A : Type 0} {a : A} → Some a ≡ None → ⊥
some_not_none e = true≢false (ap is_some e)

pub refusal_given : (o : State) (sub : Option ℕ) (p : PropId) (v : PropertyValue) → take_refusal o sub p v ≡ None → is_given_at o.of sub p ≡ true
refusal_given o sub p v e = by _ (is_held p (read_at sub o.held)) (is_sealed_at sub o) (is_given_at o.of sub p) e
  where
    by : (x : Option TakeFail) (a b c : Bool) → (if a then Some fail.AlreadyHeld else (if b then Some fail.Sealed else (if not c then Some fail.NotOfType else x))) ≡ None → c ≡ true
    by x true b c h = absurd (some_not_none h)
    by x false true c h = absurd (some_not_none h)
    by x false false true h = refl
    by x false false false h = absurd (some_not_none h)

-- it agrees with the column count, and goes into the file
refusal_agrees : (o : State) (sub : Option ℕ) (p : PropId) (v : PropertyValue) → take_refusal o sub p v ≡ None → agrees (cols_of o.held) p v ≡ true
refusal_agrees o sub p v e = by _ (is_held p (read_at sub o.held)) (is_sealed_at sub o) (is_given_at o.of sub p) (agrees (cols_of o.held) p v) e
  where
    by : (x : Option TakeFail) (a b c d : Bool) → (if a then Some fail.AlreadyHeld else (if b then Some fail.Sealed else (if not c then Some fail.NotOfType else (if not d then Some fail.Columns else x)))) ≡ None → d ≡ true
    by x true b c d h = absurd (some_not_none h)
    by x false true c d h = absurd (some_not_none h)
    by x false false false d h = absurd (some_not_none h)
    by x false false true false h = absurd (some_not_none h)
    by x false false true true h = refl

given_goes : (o : State) (sub : Option ℕ) (p : PropId) (v : PropertyValue) → take_refusal o sub p v ≡ None → is_kept (given_at sub p v) ≡ true
given_goes o None p v free = ap (λ z. is_none z || same_property LinearObjective p) (place_none p)
given_goes o (Some s) p v free = by (is_none (place_of (Some s) p)) (refusal_given o (Some s) p v free)
  where
    by : (b : Bool) → same_property LinearObjective p ≡ true → (b || same_property LinearObjective p) ≡ true
    by true h = refl
    by false h = h

given_counts : (o : State) (sub : Option ℕ) (p : PropId) (v : PropertyValue) → take_refusal o sub p v ≡ None → CountIsOne o → CountIsOne (with_held o (given_at sub p v ∷ []))
given_counts o sub p v free = taken_counts o (given_at sub p v) (given_goes o sub p v free) (refusal_agrees o sub p v free)

-- ---- one object
no_rounds_known : (o : State) → has_rounds o ≡ false → KnowsDimension o
no_rounds_known o none = λ h. absurd (true≢false (sym h ∙ none))

module _ (book : List Rule) where
  pub in_line_settled : (provenance : Provenance) (o : State) → InLine provenance o → InLine provenance (with_held o (settling o))
  in_line_settled provenance o s = record { kept = (honesty book).settled o s.kept; knows = λ h. settling_knows o s.knows; count = known_counts (with_held o (settling o)) (settling_knows o s.knows); sound = sound_settled provenance o s.sound; placed = both_placed o.held (settling o) s.placed (settling_placed o) }

  pub in_line_ensured : (provenance : Provenance) (sub : Option ℕ) (asked : PropSet) (ending : Ending) (old new : Configuration) → Ensured unsaid book sub asked ending old new → InLine provenance old.object → InLine provenance new.object
  in_line_ensured provenance sub asked ending old new e s =
      let (sound, knows) = ensured_keeps provenance book sub asked ending old new e s.sound s.knows in
      record { kept = (honesty book).ensured sub asked ending old new e s.kept; knows = λ h. knows; count = known_counts new.object knows; sound = sound; placed = ensured_placed book sub asked ending old new e s.placed }

  pub in_line_program : (provenance : Provenance) (o : State) (name : List ℕ) → InLine provenance o → InLine provenance (with_program o name)
  in_line_program of_its_values o name s = record { kept = (honesty book).program o name s.kept; knows = s.knows; count = s.count; sound = tt; placed = s.placed }
  in_line_program (made l) o name s = record { kept = (honesty book).program o name s.kept; knows = s.knows; count = s.count; sound = s.sound; placed = s.placed }

  pub in_line_disabled : (provenance : Provenance) (o : State) (label : List ℕ) → InLine provenance o → InLine provenance (with_disabled o label)
  in_line_disabled of_its_values o label s = record { kept = (honesty book).disabled o label s.kept; knows = s.knows; count = s.count; sound = tt; placed = s.placed }
  in_line_disabled (made l) o label s = record { kept = (honesty book).disabled o label s.kept; knows = s.knows; count = s.count; sound = s.sound; placed = s.placed }

  -- what is given to the object itself
  pub in_line_taken : (provenance : Provenance) (o : State) (sub : Option ℕ) (p : PropId) (v : PropertyValue) → take_refusal o sub p v ≡ None → InLine provenance o → InLine of_its_values (with_held o (given_at sub p v ∷ []))
  in_line_taken provenance o sub p v free s = record {
    kept = (honesty book).taken o sub p v free s.kept;
    knows = λ h. held_stays ConeAmbientDim o.held (given_at sub p v ∷ []) (s.knows h);
    count = given_counts o sub p v free s.count;
    sound = tt;
    placed = both_placed o.held (given_at sub p v ∷ []) s.placed (given_placed sub p v);
  }

  -- what is given to the object itself, of which its lineage knows
  given_line : (o : State) (l : Lineage) (p : PropId) (v : PropertyValue) → take_refusal o None p v ≡ None → InLine (made l) o → (t : Bool) → keeps_lineage p ≡ t
      → InLine (if t then made_with l p (value_of p (read_at None (o.held ++ given_at None p v ∷ []))) else of_its_values) (with_held o (given_at None p v ∷ []))
  given_line o l p v free s false keeps = in_line_taken (made l) o None p v free s
  given_line o l p v free s true keeps = subst (λ z. InLine (made_with l p z) (with_held o (given_at None p v ∷ []))) (sym (given_is_read o p v (refusal_new o None p v free))) (record {
    kept = (honesty book).taken o None p v free s.kept;
    knows = λ h. held_stays ConeAmbientDim o.held (given_at None p v ∷ []) (s.knows h);
    count = given_counts o None p v free s.count;
    sound = sound_given o p v keeps l s.sound;
    placed = both_placed o.held (given_at None p v ∷ []) s.placed (given_placed None p v);
  })

  pub in_line_given : (provenance : Provenance) (o : State) (sub : Option ℕ) (text : List ℕ) (p : PropId) (v : PropertyValue) → sub ≡ None → property_named o.of sub text ≡ Some p → take_refusal o sub p v ≡ None → InLine provenance o
      → InLine (provenance_given provenance (property_named_in o.of text) (with_held o (given_at sub p v ∷ []))) (with_held o (given_at sub p v ∷ []))
  in_line_given of_its_values o sub text p v own property free s = in_line_taken of_its_values o sub p v free s
  in_line_given (made l) o sub text p v own property free s =
      subst (λ z. InLine (provenance_given (made l) (property_named_in o.of text) (with_held o (given_at z p v ∷ []))) (with_held o (given_at z p v ∷ []))) (sym own)
      (subst (λ z. InLine (provenance_given (made l) z (with_held o (given_at None p v ∷ []))) (with_held o (given_at None p v ∷ []))) (sym (subst (λ z. property_named o.of z text ≡ Some p) own property))
      (given_line o l p v (subst (λ z. take_refusal o z p v ≡ None) own free) s (keeps_lineage p) refl))

  -- a program takes its objective alone
  pub in_line_objective : (provenance : Provenance) (o : State) (s : ℕ) (p : PropId) (v : PropertyValue) → take_refusal o (Some s) p v ≡ None → InLine provenance o → InLine provenance (with_held o (given_at (Some s) p v ∷ []))
  in_line_objective provenance o s p v free is = record {
    kept = (honesty book).taken o (Some s) p v free is.kept;
    knows = λ h. held_stays ConeAmbientDim o.held (given_at (Some s) p v ∷ []) (is.knows h);
    count = given_counts o (Some s) p v free is.count;
    sound = subst (λ q. Sound provenance (with_held o (given_at (Some s) q v ∷ []))) (same_property_is LinearObjective p (refusal_given o (Some s) p v free)) (sound_objective provenance o s v is.sound);
    placed = both_placed o.held (given_at (Some s) p v ∷ []) is.placed (given_placed (Some s) p v);
  }

  pub in_line_empty : (of : ObjectType) → InLine of_its_values (empty_object of)
  in_line_empty of = record { kept = (honesty book).empty of; knows = no_rounds_known (empty_object of) refl; count = λ e. refl; sound = tt; placed = λ h i own. elim i [ ] }

  pub in_line_loaded : (provenance : Provenance) (f : SavedFile) → Sound provenance (loaded_object book f) → InLine provenance (loaded_object book f)
  in_line_loaded provenance f s = record { kept = (honesty book).loaded f; knows = no_rounds_known (loaded_object book f) refl; count = known_counts (loaded_object book f) (settling_knows (unsettled_object book f) (no_rounds_known (unsettled_object book f) refl)); sound = s; placed = loaded_placed book f }

  pub in_line_made : (provenance : Provenance) (f : SavedFile) → is_savable (object_of f) ≡ true → Sound provenance (object_of f) → InLine provenance (object_of f)
  in_line_made provenance f savable s = record { kept = (honesty book).made f; knows = no_rounds_known (object_of f) refl; count = savable_counts (object_of f) savable; sound = s; placed = made_placed f }

pub in_line_stands : (provenance : Provenance) (o : State) → InLine provenance o → StandsFor (lineage_of provenance o) o
in_line_stands provenance o s = stands_for provenance o s.kept.honest s.sound

-- ---- all objects
if_some : {P Q : State → Type 0} (x : Option State) → ((o : State) → P o → Q o) → IfSome x P → IfSome x Q
if_some None f h = tt
if_some (Some o) f h = f o h

pub all_stand : (provenances : Provenances) (m : Machine) → AllInLine provenances m → AllStandFor provenances m
all_stand provenances m all = record { each = λ q. if_some (m.object q) (λ o s. in_line_stands (provenances q) o s) (all.each q) }

pub same_line : (provenances : Provenances) (old new : Machine) → ((q : List ℕ) → new.object q ≡ old.object q) → AllInLine provenances old → AllInLine provenances new
same_line provenances old new same all = record { each = λ q. subst (λ z. IfSome z (InLine (provenances q))) (sym (same q)) (all.each q) }

-- one object changes
pub one_line : (provenances : Provenances) (name : List ℕ) (o : State) (old new : Machine) → new.object name ≡ Some o → OthersStay name old new → InLine (provenances name) o → AllInLine provenances old → AllInLine provenances new
one_line provenances name o old new is others s all = record {
  each = λ q. elim (cases_Bool (bytes_eq q name)) [
    | inl e ↦ subst (λ z. IfSome (new.object z) (InLine (provenances z))) (sym (same_bytes q name e)) (subst (λ z. IfSome z (InLine (provenances name))) (sym is) s)
    | inr e ↦ subst (λ z. IfSome z (InLine (provenances q))) (sym (others q (other_bytes q name e))) (all.each q)
  ];
}

-- one object changes, and how it came
pub new_line : (provenances : Provenances) (name : List ℕ) (provenance : Provenance) (o : State) (old new : Machine) → new.object name ≡ Some o → OthersStay name old new → InLine provenance o → AllInLine provenances old → AllInLine (put name provenance provenances) new
new_line provenances name provenance o old new is others s all = record {
  each = λ q. elim (cases_Bool (bytes_eq q name)) [
    | inl e ↦ subst (λ z. IfSome (new.object q) (InLine (if z then provenance else provenances q))) (sym e) (subst (λ z. IfSome (new.object z) (InLine provenance)) (sym (same_bytes q name e)) (subst (λ z. IfSome z (InLine provenance)) (sym is) s))
    | inr e ↦ subst (λ z. IfSome (new.object q) (InLine (if z then provenance else provenances q))) (sym e) (subst (λ z. IfSome z (InLine (provenances q))) (sym (others q (other_bytes q name e))) (all.each q))
  ];
}

pub line_at : (provenances : Provenances) (m : Machine) (name : List ℕ) (o : State) → m.object name ≡ Some o → AllInLine provenances m → InLine (provenances name) o
line_at provenances m name o is all = subst (λ z. IfSome z (InLine (provenances name))) is (all.each name)
