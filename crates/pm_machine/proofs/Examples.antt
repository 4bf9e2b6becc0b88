-- The examples, by what the definitions say.
use Rattle.pm_client.specs.Meanings.{unsaid}
use Rattle.pm_telling.specs.Telling.{evidence_of, held_told, names_told, programs_told}
use Rattle.pm_machine.proofs.KeepingSteps.{some_not_none}
use Rattle.pm_rounds.specs.Events.{Configuration}
use Rattle.pm_props.specs.declared.property.PropId.TheVariants.{LinearObjective, MaximalValue}
use Rattle.pm_machine.specs.Machines.{Files, IsNewName, Machine, Stays, later_rounds, no_room, shelf}
use Rattle.pm_machine.specs.Steps.{CopyStep, DropStep, Ensures, EvidenceStep, Explains, Gives, HasBytes, HasNone, HistoryStep, IsSavedWhole, LoadStep, LookupStep, NewStep, Puts, SaveStep, ShowStep, TakeValue, bytes_of, has_label, is_computed, is_copied, is_crowded, is_dropped, is_loaded, is_made, is_planned, is_refused, is_saved, is_sealed, is_shown, is_told, no_chain, no_new_name, no_such_file, other_type, part_named, store_failed}
use Rattle.pm_object.specs.State.{State, empty_object, is_polytope, is_sealed_at, place_named, program_refusal, with_program}
use Rattle.pm_object.specs.declared.held.Origin.{Origin}
use Rattle.pm_object.specs.declared.held.Origin.TheVariants.{Computed}
use Rattle.pm_object.specs.declared.held.ProgramFail.{ProgramFail}
use Rattle.pm_object.specs.declared.held.ProgramFail.TheVariants as no_program
use Rattle.pm_object_type.specs.declared.object_type.ObjectType.TheVariants.{Cone, Polytope}
use Rattle.std.specs.Option.{is_some, option_and_then}
use Rattle.pm_rules.specs.declared.rule.Rule.{Rule}
use Rattle.pm_script.specs.Replies.{NamesSeen, Remarks, Rounds, done, explained, lists_held, loaded, nothing, refused, remarks, shows, tells, tells_evidence}
use Rattle.pm_script.specs.declared.refusal.Refusal.TheVariants.{BadValue, Crowded, NoChain, NoSuchFile, ObjectsFull, Sealed, StoreFault}
use Rattle.pm_script.specs.declared.refusal.ValueWhy.TheVariants as value_why
use Rattle.pm_store.specs.Files.{AreTold, IsPut, file_of}
use Rattle.pm_store.specs.Outside.{Rose}
use Rattle.pm_client.specs.Starts.{Clients}
use Rattle.pm_files.specs.Files.{SavedFile}
use Rattle.pm_filing.specs.Filing.{loaded_object}
use Rattle.pm_json.specs.Texts.{Given, value}
use Rattle.pm_object.specs.declared.held.Excluded.{Excluded}
use Rattle.pm_object_type.specs.declared.object_type.ObjectType.{ObjectType}
use Rattle.pm_props.specs.declared.kind.RuleId.{RuleId}
use Rattle.pm_props.specs.declared.property.PropId.{PropId}
use Rattle.pm_props.specs.declared.set.PropSet.{PropSet}
use Rattle.pm_rules.specs.declared.table.TableRow.{TableRow}
use Rattle.pm_types.specs.Values.{PropertyValue, matrix}
use Rattle.pm_weights.specs.declared.Cost.{Cost}
use Rattle.pm_filing.specs.FileParts.{FileFault, bad_row, too_long}
use Rattle.std.proofs.Common.{Bool, ap, arith, false, inl, inr, refl, subst, sym, true, true≢false, ◌∙◌}
use Rattle.std.specs.Prelude.{List, None, Option, Some, [], codes, if◌then◌else◌, length, nat_le, not, ℕ, ◌++◌, ◌∷◌, ◌≡◌, ◌≢◌}
use Rattle.pm_machine.specs.Examples.{AnswersAreRead, FilesAreKept, ObjectsAreRead, ProgramsAreRead, one_file, one_program, part, two_programs, whole, with_optimum, with_round_for}
use Rattle.pm_props.specs.Sets.{has, only, union}

abbrev is_long : FileFault → Bool
is_long too_long = true
is_long e = false

abbrev is_of_row : FileFault → Bool
is_of_row (bad_row name) = true
is_of_row e = false

-- ---- objects
gone : (name : List ℕ) (old new : Machine) (t : Rounds) → DropStep old name (done t) new → new.object name ≡ None
gone name old new t (is_dropped told some l) = l.object

not_dropped : (name : List ℕ) (old new : Machine) (t : Rounds) → old.object name ≡ None → DropStep old name (done t) new → ⊥
not_dropped name old new t none (is_dropped told some l) = some none

copied : (name to : List ℕ) (old new : Machine) (t : Rounds) → CopyStep old name to (done t) new → new.object to ≡ old.object name
copied name to old new t (is_copied o told at free room g) = g.object ∙ sym at

not_copied_over : (name to : List ℕ) (old new : Machine) (t : Rounds) → old.object to ≢ None → CopyStep old name to (done t) new → ⊥
not_copied_over name to old new t taken (is_copied o told at free room g) = taken free

nothing_copied : (name to : List ℕ) (old new : Machine) (t : Rounds) → old.object name ≡ None → CopyStep old name to (done t) new → ⊥
nothing_copied name to old new t none (is_copied o told at free room g) = some_not_none (sym at ∙ none)

room_for_copy : (name to : List ℕ) (old new : Machine) → length old.names ≡ 31 → CopyStep old name to (refused ObjectsFull nothing) new → ⊥
room_for_copy name to old new count (is_refused r s) = elim r [ no_new_name some n ↦ (elim n [ no_room free full ↦ absurd (omega (arith, count, full)) ]) ]

-- what is said of the object of a name is said of it
pub of_object : (old : Machine) (name : List ℕ) (o p : State) → old.object name ≡ Some o → old.object name ≡ Some p → p ≡ o
of_object old name o p h k = some_state (sym k ∙ h)
  where
    some_state : {a b : State} → Some a ≡ Some b → a ≡ b
    some_state h = cc

-- what the object of the name is, by two readings
module _ (old new : Machine) (name : List ℕ) (of : ObjectType) (held : List (PropId × Origin)) (programs : List (List ℕ × List (PropId × Origin))) where
  nothing_shown : old.object name ≡ None → ShowStep old name (lists_held of held programs) new → ⊥
  nothing_shown none (is_told o at typed holds are s) = some_not_none (sym at ∙ none)

  nothing_filled_in : old.object name ≡ Some (empty_object Polytope) → ShowStep old name (lists_held of held programs) new → held ≡ []
  nothing_filled_in is (is_told o at typed holds are s) = holds ∙ ap (λ (z : State). held_told z None) (of_object old name (empty_object Polytope) o is at)

  shown_stays : ShowStep old name (lists_held of held programs) new → Stays old new
  shown_stays (is_told o at typed holds are s) = s

module _ (book : List Rule) (old new : Machine) (name label : List ℕ) (excluded : List Excluded) (names : NamesSeen) where
  no_rule_shown : has_label label book ≡ false → EvidenceStep book old name label (tells_evidence excluded names) new → ⊥
  no_rule_shown none (is_told o at known out named s) = true≢false (sym known ∙ none)

  none_at_first : old.object name ≡ Some (empty_object Polytope) → EvidenceStep book old name label (tells_evidence excluded names) new → excluded ≡ []
  none_at_first is (is_told o at known out named s) = out ∙ ap (λ (z : State). evidence_of book label z.excluded) (of_object old name (empty_object Polytope) o is at)

pub objects_are_read : ObjectsAreRead
objects_are_read = record {
  first_goes = refl;
  middle_goes = refl;
  none_goes = refl;
  is_gone = gone;
  not_twice = not_dropped;
  same = copied;
  not_over = not_copied_over;
  not_of_nothing = nothing_copied;
  not_full = room_for_copy;
  shown_of_nothing = nothing_shown;
  shown_as_it_is = nothing_filled_in;
  show_stays = shown_stays;
  evidence_of_no_rule = no_rule_shown;
  no_evidence_at_first = none_at_first;
}

-- ---- answers
no_chain_told : (book : List Rule) (old new : Configuration) (sub : Option ℕ) (asked : PropSet) (more : Remarks) → Ensures unsaid book old sub asked (refused NoChain more) new
    → more ≡ remarks true (later_rounds old.object new.object) [] None (names_told book new.object)
no_chain_told book old new sub asked more (no_chain e told) = told

crowding_told : (book : List Rule) (old new : Configuration) (sub : Option ℕ) (asked : PropSet) (more : Remarks) → Ensures unsaid book old sub asked (refused Crowded more) new
    → more ≡ remarks true (later_rounds old.object new.object) [] None (names_told book new.object)
crowding_told book old new sub asked more (is_crowded e told) = told

not_given_told : (book : List Rule) (old new : Configuration) (sub : Option ℕ) (name : List ℕ) (p : PropId) (more : Remarks) → Gives unsaid book old sub name p (refused NoChain more) new
    → more ≡ remarks false (later_rounds old.object new.object) [] None (names_told book new.object)
not_given_told book old new sub name p more (no_chain e told) = told

plan_names : (book : List Rule) (clients : Clients) (o : State) (sub : Option ℕ) (asked : PropSet) (chain : List RuleId) (weight : Cost) (rows : List TableRow) (names : NamesSeen)
    → Explains book clients o sub asked (explained chain weight rows names) → names ≡ names_told book o
plan_names book clients o sub asked chain weight rows names (is_planned barred are plan so) = so

pub answers_are_read : AnswersAreRead
unfolding has union only
answers_are_read = record {
  later = λ r s. refl;
  none_later = λ r. refl;
  asked = refl;
  of_a_cone = refl;
  no_name = refl;
  settled_holds = refl;
  ensure_tells = no_chain_told;
  give_tells = not_given_told;
  crowded_tells = crowding_told;
  no_other = λ book old new sub asked h. elim h [ ];
  no_other_reason = λ book clients o sub asked h. elim h [ ];
  explain_names = plan_names;
}

-- ---- linear programs
abbrev refused_by : Bool → Bool → Bool → Option ProgramFail
refused_by a b c = if a then Some no_program.NotPolytope else if b then Some no_program.NameTaken else if c then Some no_program.Full else None

no_fifth : (o : State) (sub : List ℕ) → length o.programs ≡ 4 → program_refusal o sub ≡ None → ⊥
no_fifth o sub four e = by (not (is_polytope o.of)) (is_some (place_named sub o)) (subst (λ n. refused_by (not (is_polytope o.of)) (is_some (place_named sub o)) (nat_le 4 n) ≡ None) four e)
  where
    by : (a b : Bool) → refused_by a b true ≡ None → ⊥
    by true b h = some_not_none h
    by false true h = some_not_none h
    by false false h = some_not_none h

no_type_made : (old new : Machine) (name : List ℕ) (t : Rounds) → NewStep old (whole name) (codes "LP") (done t) new → ⊥
no_type_made old new name t (is_made of word free room told g) = some_not_none (sym word)

other_word_made : (old new : Machine) (name sub : List ℕ) (t : Rounds) → NewStep old (part name sub) (codes "Polytope") (done t) new → ⊥
other_word_made old new name sub t (is_made o word at free told becomes) = true≢false (sym word)

-- what is so of a linear program that is made
module _ (old new : Machine) (name sub : List ℕ) (t : Rounds) where
  made : NewStep old (part name sub) (codes "LP") (done t) new → (o : State) × (old.object name ≡ Some o) × (new.object name ≡ Some (with_program o sub))
  made (is_made o word at free told becomes) = (o, at, becomes.object)

  made_of : NewStep old (part name sub) (codes "LP") (done t) new → (o : State) → old.object name ≡ Some o → program_refusal o sub ≡ None
  made_of (is_made p word at free told becomes) o is = subst (λ (z : State). program_refusal z sub ≡ None) (of_object old name o p is at) free

-- an object, or a program of it, that is not sealed
not_sealed : (o : State) (sub : Option ℕ) (p : PropId) (g : Given) → is_sealed_at sub o ≡ false → TakeValue o sub p g (Some Sealed) None → ⊥
not_sealed o sub p g open' (is_sealed missing sealed) = true≢false (sym sealed ∙ open')

objective_given : TakeValue one_program (Some 0) LinearObjective (value (matrix 0 [])) (Some (BadValue value_why.Computed)) None → ⊥
objective_given (is_computed can) = some_not_none (sym can)

part_shown : (old new : Machine) (name sub text n : List ℕ) (of : ObjectType) (p : PropId) (v : PropertyValue) (t : Rounds) → LookupStep old (part name sub) text (shows n of p v t) new → n ≡ name ++ codes "." ++ sub
part_shown old new name sub text n of p v t (is_shown x at named so typed held told s) = so

history_told : (book : List Rule) (old new : Machine) (name : List ℕ) (t : Rounds) (excluded : List Excluded) → old.object name ≡ Some two_programs → HistoryStep book old name (tells t excluded) new
    → t.names.programs ≡ codes "a" ∷ codes "b" ∷ []
history_told book old new name t excluded is (is_told o at rounds out s) = ap (λ (r : Rounds). r.names.programs) rounds ∙ ap (λ (o : State). o.programs) (of_object old name two_programs o is at)

-- what is shown of two programs
type_told : (old new : Machine) (name : List ℕ) (of : ObjectType) (held : List (PropId × Origin)) (programs : List (List ℕ × List (PropId × Origin))) → old.object name ≡ Some two_programs
    → ShowStep old name (lists_held of held programs) new → of ≡ Polytope
type_told old new name of held programs is (is_told o at typed holds are s) = typed ∙ ap (λ (z : State). z.of) (of_object old name two_programs o is at)

no_cone : Cone ≡ Polytope → ⊥
no_cone e = cc

programs_told_of : (old new : Machine) (name : List ℕ) (of : ObjectType) (held : List (PropId × Origin)) (programs : List (List ℕ × List (PropId × Origin))) → old.object name ≡ Some (with_optimum two_programs)
    → ShowStep old name (lists_held of held programs) new → programs ≡ (codes "a", (MaximalValue, Computed) ∷ []) ∷ (codes "b", []) ∷ []
programs_told_of old new name of held programs is (is_told o at typed holds are s) = are ∙ ap programs_told (of_object old name (with_optimum two_programs) o is at)

programs_of_two : (old new : Machine) (name : List ℕ) (of : ObjectType) (held : List (PropId × Origin)) (programs : List (List ℕ × List (PropId × Origin))) → old.object name ≡ Some two_programs
    → ShowStep old name (lists_held of held programs) new → programs ≡ (codes "a", []) ∷ (codes "b", []) ∷ []
programs_of_two old new name of held programs is (is_told o at typed holds are s) = are ∙ ap programs_told (of_object old name two_programs o is at)

none_left_out : {X : Type 0} {x : X} {xs : List X} → [] ≡ x ∷ xs → ⊥
none_left_out e = cc

evidence_told_of : (book : List Rule) (old new : Machine) (name label : List ℕ) (excluded : List Excluded) (names : NamesSeen) → old.object name ≡ Some two_programs
    → EvidenceStep book old name label (tells_evidence excluded names) new → names.programs ≡ codes "a" ∷ codes "b" ∷ []
evidence_told_of book old new name label excluded names is (is_told o at known out named s) =
    ap (λ (n : NamesSeen). n.programs) named ∙ ap (λ (z : State). (names_told book z).programs) (of_object old name two_programs o is at)

pub programs_are_read : ProgramsAreRead
unfolding has union only
programs_are_read = record {
  the_object = refl;
  the_second = refl;
  no_such_program = refl;
  of_no_object = λ m ref none. ap (λ x. option_and_then (λ o. part_named o ref.sub) x) none;
  a_fan = refl;
  no_type = refl;
  for_programs = refl;
  for_no_programs = refl;
  no_object_of_it = no_type_made;
  no_program_of_it = other_word_made;
  is_made = made;
  of_nothing = λ old new name sub t none h. some_not_none (sym (made old new name sub t h).1 ∙ none);
  of_no_polytope = λ old new name sub t is h. some_not_none (made_of old new name sub t h (empty_object Cone) is);
  cone_has_none = λ old name sub is s. is_refused (other_type refl (empty_object Cone, is, refl)) s;
  not_twice = λ old new name t is h. some_not_none (made_of old new name (codes "a") t h one_program is);
  a_fifth = λ old new name sub t o is four h. no_fifth o sub four (made_of old new name sub t h o is);
  its_own = refl;
  not_of_the_object = refl;
  not_of_programs = refl;
  asked_of_it = refl;
  optimum_is_computed = is_computed refl;
  objective_is_given = objective_given;
  is_sealed = λ g. is_sealed refl refl;
  other_is_open = λ g h. not_sealed (with_optimum two_programs) (Some 1) LinearObjective g refl h;
  sealed_by_a_round = λ g. is_sealed refl refl;
  open_beside_a_round = λ g h. not_sealed (with_round_for None two_programs) (Some 1) LinearObjective g refl h;
  programs_told = λ book. refl;
  is_shown = part_shown;
  history_tells = history_told;
  type_shown = type_told;
  no_other_type = λ old new name held programs is s. no_cone (type_told old new name Cone held programs is s);
  programs_shown = programs_told_of;
  no_program_left_out = λ old new name of held is s. none_left_out (programs_of_two old new name of held [] is s);
  evidence_tells = evidence_told_of;
}

-- ---- files
-- what is so of a file that is loaded
module _ (book : List Rule) (old new : Machine) (name file : List ℕ) (names : List (List ℕ)) where
  loaded_of : LoadStep book old name file (loaded names) new → (f : SavedFile) × (new.object name ≡ Some (loaded_object book f))
  loaded_of (is_loaded bytes f free there reads ignored g) = (f, g.object)

  loaded_free : LoadStep book old name file (loaded names) new → IsNewName (shelf old) name
  loaded_free (is_loaded bytes f free there reads ignored g) = free

  loaded_there : LoadStep book old name file (loaded names) new → (bytes : List ℕ) × HasBytes old.store file bytes
  loaded_there (is_loaded bytes f free there reads ignored g) = (bytes, there)

none_told : (book : List Rule) (old new : Machine) (name : List ℕ) (names : List (List ℕ)) → old.store ≡ one_file (codes "g") [] → LoadStep book old name (codes "f") (loaded names) new → ⊥
none_told book old new name names is h =
    let (bytes, there) = loaded_there book old new name (codes "f") names h in
    some_not_none (sym (subst (λ k. HasBytes k (codes "f") bytes) is there))

one_told : (book : List Rule) (old new : Machine) (name : List ℕ) → old.store ≡ one_file (codes "f") [] → LoadStep book old name (codes "f") (refused NoSuchFile nothing) new → ⊥
one_told book old new name is (no_new_name r s) = elim r [ ]
one_told book old new name is (is_refused free r l) = elim r [ no_such_file none ↦ some_not_none (subst (λ k. HasNone k (codes "f")) is none) ]

-- what is so of a file that is saved
module _ (book : List Rule) (old new : Machine) (name file : List ℕ) (t : Rounds) where
  saved : SaveStep book old name file (done t) new → (o : State) × (old.object name ≡ Some o) × Puts (IsPut file (bytes_of book o)) old new × IsSavedWhole book o
  saved (is_saved o told at short p again) = (o, at, p, again)

store_fails : (book : List Rule) (old new : Machine) (name file : List ℕ) → SaveStep book old name file (refused StoreFault nothing) new → Rose old.store.faults new.store.faults
store_fails book old new name file (is_refused r s) = elim r [ ]
store_fails book old new name file (store_failed o at short fails p) = fails

written_told : (book : List Rule) (old new : Machine) (name : List ℕ) (t : Rounds) → old.store ≡ one_file (codes "f") [] → SaveStep book old name (codes "f") (done t) new
    → (o : State) × (all : Files) × (old.object name ≡ Some o) × (new.store.files ≡ Some all) × (file_of all (codes "f") ≡ Some (bytes_of book o))
written_told book old new name t is h =
    let (o, at, p, again) = saved book old new name (codes "f") t h in
    let told = subst (λ k. AreTold (IsPut (codes "f") (bytes_of book o)) k.files new.store.files) is p.files in
    (o, told.0, at, told.1, told.2.0)

pub files_are_kept : FilesAreKept
files_are_kept = record {
  is_of_file = loaded_of;
  not_over = λ book old new name file names over h. over (loaded_free book old new name file names h).0;
  not_of_nothing = none_told;
  it_is_there = one_told;
  not_in_between = λ book old new name file t h. elim h [ ];
  has_bytes = written_told;
  objects_stay = λ book old new name file q t h. (saved book old new name file t h).2.objects q;
  no_object = λ book old new name file t none h. some_not_none (sym (saved book old new name file t h).1 ∙ none);
  it_failed = store_fails;
  loaded_again = λ book old new name file t h. let (o, at, p, again) = saved book old new name file t h in (o, at, again);
  limit = refl;
  no_limit = λ e. true≢false (sym (ap is_long e));
  row = λ name. refl;
  no_row = λ name e. true≢false (sym (ap is_of_row e));
  as_before = λ book old new name file h. inl h;
  objects_stay_so = λ book old new name file q h. elim h [ inl s ↦ s.objects q | inr w ↦ w.3.objects q ];
  of_no_object = λ book old new name file none h. elim h [ inl s ↦ s | inr w ↦ absurd (some_not_none (sym w.1 ∙ none)) ];
}
