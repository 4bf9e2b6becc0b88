-- The first fault of the values of a data file.
use Rattle.pm_filing.specs.FileParts.{FileRead, Part, at_key, is_programs_key, objective_by, objective_in, objectives_from, objectives_of, parts_in, programs, programs_part, property_at, then_read, value, value_part}
use Rattle.pm_json.specs.Readings.{Read, and_then, before, reading}
use Rattle.pm_json.specs.declared.fail.ValueFail.{ValueFail}
use Rattle.pm_json.specs.declared.fail.ValueFail.TheVariants.{Limit, Shape}
use Rattle.pm_laws_texts.proofs.FirstOfValue.{at_items, items_tell, made_tells, moved, same_tells, shape_first, some_is}
use Rattle.pm_laws_texts.proofs.Values.{first_fault_is_read}
use Rattle.pm_laws_texts.specs.ValueFaults.{HasFault}
use Rattle.pm_laws_texts.specs.FileFaults.{AtKey, FirstKeyIsNamed, OfKey, OfKeyBy, OfObjective, OfOne, OfProgram, OfPrograms, OfPropertyAt, TellsKey}
use Rattle.pm_laws_texts.specs.Places.{AtItem, CountsFirst, Tells, order}
use Rattle.pm_object_type.specs.declared.object_type.ObjectType.{ObjectType}
use Rattle.pm_props.specs.declared.property.PropId.{PropId}
use Rattle.pm_props.specs.declared.property.PropId.TheVariants.{LinearObjective}
use Rattle.pm_types.specs.Values.{PropertyValue}
use Rattle.serde_json.specs.Data.{Data, Items, Members, array, boolean, item, member, no_items, no_members, null, number, object, string}
use Rattle.serde_json.specs.Find.{as_object, get}
use Rattle.std.proofs.Common.{ap, arith, false, inl, inr, refl, subst, sym, true}
use Rattle.std.proofs.lemmas.Bool.{ltb-false, ltb-true}
use Rattle.std.specs.Prelude.{Bool, Err, List, None, Ok, Option, Some, [], codes, if◌then◌else◌, is_some, nat_lt, suc, zero, ℕ, ◌++◌, ◌+◌, ◌≡◌, ◌≤◌, ◌∷◌}

-- ---- an objective
-- a fault one place further in
one_tells : {A : Type 0} (Stands : List ℕ → ValueFail → Type 0) (read : Read A) → Tells Stands read → Tells (OfOne Stands) read
one_tells Stands (Ok a) told = none
  where
    none : (r : List ℕ) (f : ValueFail) → ¬ (OfOne Stands r f)
    none [] f h = h
    none (zero ∷ r) f h = told r f h
    none (suc i ∷ r) f h = h
one_tells Stands (Err f) (r, is) = (0 ∷ r, record { stands = is.stands; first = first })
  where
    first : (s : List ℕ) (g : ValueFail) → OfOne Stands s g → CountsFirst (0 ∷ r) f s g
    first [] g h = absurd h
    first (suc i ∷ s) g h = absurd h
    first (zero ∷ s) g h = elim (is.first s g h) [
      | inl before ↦ inl (inr (refl, before))
      | inr same ↦ inr (ap (λ t. 0 ∷ t) same.0, same.1)
    ]

abbrev HasFaultAt : Data → List ℕ → ValueFail → Type 0
HasFaultAt d r f = HasFault LinearObjective d r f

objective_tells : (o : Option Data) → Tells (OfObjective o) (objective_by o)
objective_tells None = λ r f h. h
objective_tells (Some d) =
    same_tells (OfOne (HasFaultAt d)) (OfObjective (Some d)) (objective_by (Some d)) to back
    (made_tells (OfOne (HasFaultAt d)) (reading LinearObjective d) (λ v. Some v) (one_tells (HasFaultAt d) (reading LinearObjective d) (first_fault_is_read LinearObjective d)))
  where
    to : (r : List ℕ) (f : ValueFail) → OfOne (HasFaultAt d) r f → OfObjective (Some d) r f
    to [] f h = h
    to (zero ∷ r) f h = h
    to (suc i ∷ r) f h = h

    back : (r : List ℕ) (f : ValueFail) → OfObjective (Some d) r f → OfOne (HasFaultAt d) r f
    back [] f h = h
    back (zero ∷ r) f h = h
    back (suc i ∷ r) f h = h

never_at_start : (o : Option Data) (f : ValueFail) → ¬ (OfObjective o [] f)
never_at_start None f h = h
never_at_start (Some d) f h = h

-- ---- one program
one_program : (k : ℕ) (ms : Members) → Tells (OfProgram k (object ms)) (let r : Read (Option PropertyValue) = if nat_lt k 4 then objective_in (object ms) else Err Limit in r)
one_program k ms = by (nat_lt k 4) refl
  where
    by : (b : Bool) → nat_lt k 4 ≡ b → Tells (OfProgram k (object ms)) (let r : Read (Option PropertyValue) = if b then objective_in (object ms) else Err Limit in r)
    by true e =
        same_tells (OfObjective (get (codes "LINEAR_OBJECTIVE") (object ms))) (OfProgram k (object ms)) (objective_in (object ms)) (λ r f h. inr h)
        (λ r f h. elim h [
          | inl x ↦ (let l = ltb-true k 4 e in let m = x.2 in absurd (omega arith))
          | inr y ↦ y
        ]) (objective_tells (get (codes "LINEAR_OBJECTIVE") (object ms)))
    by false e = ([], record { stands = inl (refl, refl, ltb-false k 4 e); first = first })
      where
        first : (s : List ℕ) (g : ValueFail) → OfProgram k (object ms) s g → CountsFirst [] Limit s g
        first [] g (inl h) = inr (refl, subst (λ z. 3 ≤ order z) (sym h.1) (omega arith))
        first [] g (inr h) = absurd (never_at_start (get (codes "LINEAR_OBJECTIVE") (object ms)) g h)
        first (i ∷ s) g h = inl tt

-- the reading of the program of that number
abbrev program_read : ℕ → Data → Read (Option PropertyValue)
program_read k d = if is_some (as_object d) then (if nat_lt k 4 then objective_in d else Err Limit) else Err Shape

program_tells : (k : ℕ) (d : Data) → Tells (OfProgram k d) (program_read k d)
program_tells k null = ([], shape_first (OfProgram k null) (refl, refl))
program_tells k (boolean b) = ([], shape_first (OfProgram k (boolean b)) (refl, refl))
program_tells k (number n) = ([], shape_first (OfProgram k (number n)) (refl, refl))
program_tells k (string s) = ([], shape_first (OfProgram k (string s)) (refl, refl))
program_tells k (array ds) = ([], shape_first (OfProgram k (array ds)) (refl, refl))
program_tells k (object ms) = one_program k ms

program_then : (a b : Bool) (read : Read (Option PropertyValue)) (next : Option PropertyValue → Read (List (Option PropertyValue))) → (if a then (if b then and_then read next else Err Limit) else Err Shape) ≡ and_then (if a then (if b then read else Err Limit) else Err Shape) next
program_then true true read next = refl
program_then true false read next = refl
program_then false b read next = refl

programs_from_tell : (k : ℕ) (ds : Items) (m : ℕ → ℕ) → ((j : ℕ) → m j ≡ k + j) → Tells (AtItem (λ j. OfProgram (m j)) ds) (objectives_from k ds)
programs_from_tell k no_items m at = none
  where
    none : (r : List ℕ) (f : ValueFail) → ¬ (AtItem (λ j. OfProgram (m j)) no_items r f)
    none [] f h = h
    none (i ∷ r) f h = let e = h.1 in cc
programs_from_tell k (item d ds) m at =
    let more = programs_from_tell (suc k) ds (λ j. m (suc j)) (λ j. (let e = at (suc j) in omega arith)) in
    let here : k ≡ m 0 = (let e = at 0 in omega arith) in
    subst (λ z. Tells (AtItem (λ j. OfProgram (m j)) (item d ds)) z) (sym (program_then (is_some (as_object d)) (nat_lt k 4) (objective_in d) (λ v. before v (objectives_from (suc k) ds))))
    (items_tell (OfProgram (m 0) d) (AtItem (λ j. OfProgram (m (suc j))) ds) (AtItem (λ j. OfProgram (m j)) (item d ds)) (program_read k d) (λ v. before v (objectives_from (suc k) ds))
    (at_items (λ j. OfProgram (m j)) d ds) (λ r f h. (d, refl, h)) (λ i r f h. h) (λ f h. h)
    (subst (λ z. Tells (OfProgram z d) (program_read k d)) here (program_tells k d))
    (λ v is. made_tells (AtItem (λ j. OfProgram (m (suc j))) ds) (objectives_from (suc k) ds) (λ rest. v ∷ rest) more))

-- one program is read as an array of it
one_alone : (ms : Members) → Tells (OfOne (OfProgram 0 (object ms))) (objectives_from 0 (item (object ms) no_items))
one_alone ms =
    same_tells (AtItem OfProgram (item (object ms) no_items)) (OfOne (OfProgram 0 (object ms))) (objectives_from 0 (item (object ms) no_items)) to back
    (programs_from_tell 0 (item (object ms) no_items) (λ j. j) (λ j. omega arith))
  where
    to : (r : List ℕ) (f : ValueFail) → AtItem OfProgram (item (object ms) no_items) r f → OfOne (OfProgram 0 (object ms)) r f
    to [] f h = h
    to (zero ∷ r) f (d, is, has) = subst (λ z. OfProgram 0 z r f) (sym (some_is is)) has
    to (suc i ∷ r) f h = let e = h.1 in cc

    back : (r : List ℕ) (f : ValueFail) → OfOne (OfProgram 0 (object ms)) r f → AtItem OfProgram (item (object ms) no_items) r f
    back [] f h = h
    back (zero ∷ r) f h = (object ms, refl, h)
    back (suc i ∷ r) f h = absurd h

programs_tell : (d : Data) → Tells (OfPrograms d) (objectives_of d)
programs_tell null = ([], shape_first (OfPrograms null) (refl, refl))
programs_tell (boolean b) = ([], shape_first (OfPrograms (boolean b)) (refl, refl))
programs_tell (number n) = ([], shape_first (OfPrograms (number n)) (refl, refl))
programs_tell (string s) = ([], shape_first (OfPrograms (string s)) (refl, refl))
programs_tell (array ds) = programs_from_tell 0 ds (λ j. j) (λ j. omega arith)
programs_tell (object ms) = one_alone ms

-- ---- keys
property_tells : (o : Option PropId) (d : Data) → Tells (OfPropertyAt o d) (value_part o d)
property_tells None d = λ r f h. h
property_tells (Some p) d = made_tells (HasFault p d) (reading p d) (λ v. value p v ∷ []) (first_fault_is_read p d)

key_by : (b : Bool) (of : ObjectType) (key : List ℕ) (d : Data) → Tells (OfKeyBy b of key d) (if b then programs_part d else value_part (property_at of key d) d)
key_by true of key d = made_tells (OfPrograms d) (objectives_of d) (λ vs. programs vs ∷ []) (programs_tell d)
key_by false of key d = property_tells (property_at of key d) d

key_tells : (of : ObjectType) (key : List ℕ) (d : Data) → Tells (OfKey of key d) (if is_programs_key of key then programs_part d else value_part (property_at of key d) d)
key_tells of key d = key_by (is_programs_key of key) of key d

-- the first member, and then the rest
keys_tell : (of : ObjectType) (key : List ℕ) (d : Data) (ms : Members) (read : Read (List Part)) (rest : FileRead (List Part)) → Tells (OfKey of key d) read → TellsKey of ms rest
    → TellsKey of (member key d ms) (then_read (at_key key read) (λ part. then_read rest (λ parts. Ok (part ++ parts))))
keys_tell of key d ms (Err f) rest (r, is) more = (0 ∷ r, f, record { stands = is.stands; first = first }, refl)
  where
    first : (s : List ℕ) (g : ValueFail) → AtKey of (member key d ms) s g → CountsFirst (0 ∷ r) f s g
    first [] g h = absurd h
    first (suc i ∷ s) g h = inl (inl (omega arith))
    first (zero ∷ s) g h = elim (is.first s g h) [
      | inl before ↦ inl (inr (refl, before))
      | inr same ↦ inr (ap (λ t. 0 ∷ t) same.0, same.1)
    ]
keys_tell of key d ms (Ok part) (Ok parts) told more = none
  where
    none : (r : List ℕ) (f : ValueFail) → ¬ (AtKey of (member key d ms) r f)
    none [] f h = h
    none (zero ∷ r) f h = told r f h
    none (suc i ∷ r) f h = more (i ∷ r) f h
keys_tell of key d ms (Ok part) (Err fault) told ([], f, is, named) = absurd (nowhere ms is.stands)
  where
    nowhere : (ms : Members) → ¬ (AtKey of ms [] f)
    nowhere no_members h = h
    nowhere (member key d ms) h = h
keys_tell of key d ms (Ok part) (Err fault) told (i ∷ r, f, is, named) = (suc i ∷ r, f, record { stands = is.stands; first = first }, named)
  where
    later : (s : List ℕ) (g : ValueFail) (j : ℕ) → CountsFirst (i ∷ r) f (j ∷ s) g → CountsFirst (suc i ∷ r) f (suc j ∷ s) g
    later s g j (inl (inl less)) = inl (inl (omega arith))
    later s g j (inl (inr (same, before))) = inl (inr (ap suc same, before))
    later s g j (inr (same, least)) = inr (ap moved same, least)

    first : (s : List ℕ) (g : ValueFail) → AtKey of (member key d ms) s g → CountsFirst (suc i ∷ r) f s g
    first [] g h = absurd h
    first (zero ∷ s) g h = absurd (told s g h)
    first (suc j ∷ s) g h = later s g j (is.first (j ∷ s) g h)

pub first_key_is_named : FirstKeyIsNamed
first_key_is_named of no_members = λ r f h. h
first_key_is_named of (member key d ms) = keys_tell of key d ms (if is_programs_key of key then programs_part d else value_part (property_at of key d) d) (parts_in of ms) (key_tells of key d) (first_key_is_named of ms)
