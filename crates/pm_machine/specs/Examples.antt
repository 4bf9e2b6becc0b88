-- The definitions of the commands read on small things: what holds of them and what does not.
use Rattle.pm_client.specs.Meanings.{unsaid}
use Rattle.pm_telling.specs.Telling.{names_told}
use Rattle.std.specs.Prelude.{ℕ, ◌≡◌, ◌≢◌, ◌++◌, true, false, Option, Some, None, List, [], String, codes, length, string_bytes, ◌∷◌}
use Rattle.pm_object_type.specs.declared.object_type.ObjectType.{ObjectType}
use Rattle.pm_object_type.specs.declared.object_type.ObjectType.TheVariants.{Cone, Fan, Polytope}
use Rattle.pm_rounds.specs.Events.{Configuration}
use Rattle.pm_object.specs.State.{HeldValue, RoundSeen, State, empty_object, with_program}
use Rattle.pm_object.specs.declared.held.Excluded.{Excluded}
use Rattle.pm_object.specs.declared.held.Origin.{Origin}
use Rattle.pm_object.specs.declared.held.Origin.TheVariants.{Computed, Given}
use Rattle.pm_object.specs.declared.held.RoundEnd.TheVariants as end
use Rattle.pm_rules.specs.declared.rule.Rule.{Rule}
use Rattle.pm_props.specs.Sets.{set_of}
use Rattle.pm_types.specs.Values.{PropertyValue, extended, matrix, plus_infinity, whole as whole_number}
use Rattle.pm_client.specs.Starts.{Clients}
use Rattle.pm_files.specs.Files.{SavedFile}
use Rattle.pm_filing.specs.FileParts.{bad_profile, bad_row, not_json, too_long}
use Rattle.pm_filing.specs.Filing.{loaded_object}
use Rattle.pm_machine.specs.Parts.{SavedInPart}
use Rattle.pm_script.specs.declared.refusal.FileWhy.TheVariants as file_why
use Rattle.std.specs.declared.alloc.Global.{Global}
use Rattle.pm_store.specs.Files.{file_of}
use Rattle.pm_store.specs.Outside.{Rose}
use Rattle.pm_machine.specs.Machines.{Files, Machine, Stays, Store, later_rounds, shelf, without_name}
use Rattle.pm_json.specs.Texts.{Given as ReadValue, value}
use Rattle.pm_machine.specs.Steps.{CopyStep, DropStep, Ensures, EvidenceStep, Explains, Gives, HistoryStep, IsFault, IsSavedWhole, LoadStep, LookupStep, NewStep, SaveStep, ShowStep, TakeValue, asked_in, bytes_of, has_label, is_program_word, named_at, part_named, property_named, settled_object, type_word}
use Rattle.pm_command.specs.Commands.{RefSeen}
use Rattle.pm_rules.specs.declared.table.TableRow.{TableRow}
use Rattle.pm_script.specs.Replies.{NamesSeen, Remarks, Rounds, done, explained, lists_held, loaded, nothing, refused, remarks, shows, tells, tells_evidence}
use Rattle.pm_script.specs.declared.refusal.ValueWhy.TheVariants as value_why
use Rattle.pm_script.specs.declared.refusal.Refusal.TheVariants.{BadValue, Crowded, NoChain, NoSuchFile, ObjectsFull, Sealed, StoreFault, UnknownName, UnknownType}
use Rattle.pm_weights.specs.declared.Cost.{Cost}
use lib.IntN.{pos}
use Rattle.pm_props.specs.declared.kind.RuleId.{RuleId}
use Rattle.pm_props.specs.declared.property.PropId.{PropId}
use Rattle.pm_props.specs.declared.property.PropId.TheVariants.{ConeAmbientDim, Facets, LinearObjective, MaximalFace, MaximalValue, Vertices}
use Rattle.pm_props.specs.declared.set.PropSet.{PropSet}

-- what `copy` and `drop` change, and when they are not done; what `show` and `evidence` tell
pub record ObjectsAreRead : Type 0 where
  -- the others stay, in their order
  pub first_goes : without_name (codes "a") (codes "a" ∷ codes "b" ∷ codes "c" ∷ [])
      ≡ codes "b" ∷ codes "c" ∷ []
  pub middle_goes : without_name (codes "b") (codes "a" ∷ codes "b" ∷ codes "c" ∷ [])
      ≡ codes "a" ∷ codes "c" ∷ []
  pub none_goes : without_name (codes "d") (codes "a" ∷ codes "b" ∷ []) ≡ codes "a" ∷ codes "b" ∷ []
  pub is_gone : (name : List ℕ) (old new : Machine) (t : Rounds) → DropStep old name (done t) new
      → new.object name ≡ None
  pub not_twice : (name : List ℕ) (old new : Machine) (t : Rounds) → old.object name ≡ None
      → DropStep old name (done t) new → ⊥
  -- a copy is as its object is: with its exclusions, rounds, disabled labels and linear programs
  pub same : (name to : List ℕ) (old new : Machine) (t : Rounds) → CopyStep old name to (done t) new
      → new.object to ≡ old.object name
  pub not_over : (name to : List ℕ) (old new : Machine) (t : Rounds) → old.object to ≢ None
      → CopyStep old name to (done t) new → ⊥
  pub not_of_nothing : (name to : List ℕ) (old new : Machine) (t : Rounds) → old.object name ≡ None
      → CopyStep old name to (done t) new → ⊥
  pub not_full : (name to : List ℕ) (old new : Machine) → length old.names ≡ 31
      → CopyStep old name to (refused ObjectsFull nothing) new → ⊥
  -- what the object holds is told, and nothing is filled in for it
  pub shown_of_nothing : (old new : Machine) (name : List ℕ) (of : ObjectType)
      (held : List (PropId × Origin)) (programs : List (List ℕ × List (PropId × Origin)))
      → old.object name ≡ None → ShowStep old name (lists_held of held programs) new → ⊥
  pub shown_as_it_is : (old new : Machine) (name : List ℕ) (of : ObjectType) (held : List (PropId × Origin))
      (programs : List (List ℕ × List (PropId × Origin))) → old.object name ≡ Some (empty_object Polytope)
      → ShowStep old name (lists_held of held programs) new → held ≡ []
  pub show_stays : (old new : Machine) (name : List ℕ) (of : ObjectType) (held : List (PropId × Origin))
      (programs : List (List ℕ × List (PropId × Origin)))
      → ShowStep old name (lists_held of held programs) new → Stays old new
  -- the evidence is of the rule that is named
  pub evidence_of_no_rule : (book : List Rule) (old new : Machine) (name label : List ℕ)
      (excluded : List Excluded) (names : NamesSeen) → has_label label book ≡ false
      → EvidenceStep book old name label (tells_evidence excluded names) new → ⊥
  pub no_evidence_at_first : (book : List Rule) (old new : Machine) (name label : List ℕ)
      (excluded : List Excluded) (names : NamesSeen) → old.object name ≡ Some (empty_object Polytope)
      → EvidenceStep book old name label (tells_evidence excluded names) new → excluded ≡ []

-- a polytope with these rounds
abbrev pub with_rounds : List RoundSeen → State
with_rounds rounds = record (empty_object Polytope) { rounds = rounds }

-- the column count 1, which goes without saying
abbrev pub one_column : HeldValue
one_column = record { place = None; property = ConeAmbientDim; value = whole_number (pos 1); origin = Given }

-- what `ensure`, `give` and `explain` ask and tell
pub record AnswersAreRead : Type 0 where
  -- of the rounds those that came later
  pub later : (r s : RoundSeen) → later_rounds (with_rounds (r ∷ [])) (with_rounds (r ∷ s ∷ [])) ≡ s ∷ []
  pub none_later : (r : RoundSeen) → later_rounds (with_rounds (r ∷ [])) (with_rounds (r ∷ [])) ≡ []
  -- each word names a property of the type
  pub asked : asked_in Polytope None (codes "VERTICES" ∷ codes "FACETS" ∷ [])
      ≡ Some (set_of (Vertices ∷ Facets ∷ []))
  pub of_a_cone : asked_in Cone None (codes "RAYS" ∷ []) ≡ Some (set_of (Vertices ∷ []))
  pub no_name : asked_in Polytope None (codes "VERTICES" ∷ codes "RAYS" ∷ []) ≡ None
  -- an object that is settled knows its column count
  pub settled_holds : (settled_object (empty_object Polytope)).held ≡ one_column ∷ []
  -- the rounds beside a refusal are told of `ensure` always, of `give` only where they are traced
  pub ensure_tells : (book : List Rule) (old new : Configuration) (sub : Option ℕ) (asked : PropSet)
      (more : Remarks) → Ensures unsaid book old sub asked (refused NoChain more) new
      → more ≡ remarks true (later_rounds old.object new.object) [] None (names_told book new.object)
  pub give_tells : (book : List Rule) (old new : Configuration) (sub : Option ℕ) (name : List ℕ) (p : PropId)
      (more : Remarks) → Gives unsaid book old sub name p (refused NoChain more) new
      → more ≡ remarks false (later_rounds old.object new.object) [] None (names_told book new.object)
  pub crowded_tells : (book : List Rule) (old new : Configuration) (sub : Option ℕ) (asked : PropSet)
      (more : Remarks) → Ensures unsaid book old sub asked (refused Crowded more) new
      → more ≡ remarks true (later_rounds old.object new.object) [] None (names_told book new.object)
  -- no other refusal comes of asking
  pub no_other : (book : List Rule) (old new : Configuration) (sub : Option ℕ) (asked : PropSet)
      → Ensures unsaid book old sub asked (refused UnknownName nothing) new → ⊥
  pub no_other_reason : (book : List Rule) (clients : Clients) (o : State) (sub : Option ℕ) (asked : PropSet)
      → Explains book clients o sub asked (refused UnknownName nothing) → ⊥
  -- the labels are those of the book, and the programs those of the object
  pub explain_names : (book : List Rule) (clients : Clients) (o : State) (sub : Option ℕ) (asked : PropSet)
      (chain : List RuleId) (weight : Cost) (rows : List TableRow) (names : NamesSeen)
      → Explains book clients o sub asked (explained chain weight rows names) → names ≡ names_told book o

-- a polytope with linear programs of these names
abbrev pub with_programs : List (List ℕ) → State
with_programs names = record (empty_object Polytope) { programs = names }

abbrev pub one_program : State
one_program = with_programs (codes "a" ∷ [])

abbrev pub two_programs : State
two_programs = with_programs (codes "a" ∷ codes "b" ∷ [])

-- REFs of an object, and of a program of it
abbrev pub whole : List ℕ → RefSeen
whole name = record { name = name; sub = None }

abbrev pub part : List ℕ → List ℕ → RefSeen
part name sub = record { name = name; sub = Some sub }

-- the first of the programs has this computed value
abbrev pub with_optimum : State → State
with_optimum o =
    record o {
      held = record {
        place = Some 0;
        property = MaximalValue;
        value = extended plus_infinity;
        origin = Computed;
      } ∷ [];
    }

-- a round was started for who asks this program, if one is asked
abbrev pub with_round_for : Option ℕ → State → State
with_round_for sub o =
    record o {
      rounds = record {
        sub = sub;
        weight = record { class = 0; minor = 0 };
        chain = [];
        end = end.Done;
      } ∷ [];
    }

-- what a REF with a part names, when a linear program is made, what it takes and what is told of it
pub record ProgramsAreRead : Type 0 where
  pub the_object : part_named one_program None ≡ Some (record { object = one_program; sub = None })
  pub the_second : part_named two_programs (Some (codes "b"))
      ≡ Some (record { object = two_programs; sub = Some 1 })
  pub no_such_program : part_named one_program (Some (codes "b")) ≡ None
  pub of_no_object : (m : Machine) (ref : RefSeen) → m.object ref.name ≡ None → named_at (shelf m) ref ≡ None
  -- the words for types
  pub a_fan : type_word (codes "Fan") ≡ Some Fan
  pub no_type : type_word (codes "LP") ≡ None
  pub for_programs : is_program_word (codes "LP") ≡ true
  pub for_no_programs : is_program_word (codes "Polytope") ≡ false
  -- LP comes with a part alone, and a part with LP alone
  pub no_object_of_it : (old new : Machine) (name : List ℕ) (t : Rounds)
      → NewStep old (whole name) (codes "LP") (done t) new → ⊥
  pub no_program_of_it : (old new : Machine) (name sub : List ℕ) (t : Rounds)
      → NewStep old (part name sub) (codes "Polytope") (done t) new → ⊥
  pub is_made : (old new : Machine) (name sub : List ℕ) (t : Rounds)
      → NewStep old (part name sub) (codes "LP") (done t) new
      → (o : State) × (old.object name ≡ Some o) × (new.object name ≡ Some (with_program o sub))
  pub of_nothing : (old new : Machine) (name sub : List ℕ) (t : Rounds) → old.object name ≡ None
      → NewStep old (part name sub) (codes "LP") (done t) new → ⊥
  pub of_no_polytope : (old new : Machine) (name sub : List ℕ) (t : Rounds)
      → old.object name ≡ Some (empty_object Cone) → NewStep old (part name sub) (codes "LP") (done t) new
      → ⊥
  pub cone_has_none : (old : Machine) (name sub : List ℕ) → old.object name ≡ Some (empty_object Cone)
      → Stays old old → NewStep old (part name sub) (codes "LP") (refused UnknownType nothing) old
  pub not_twice : (old new : Machine) (name : List ℕ) (t : Rounds) → old.object name ≡ Some one_program
      → NewStep old (part name (codes "a")) (codes "LP") (done t) new → ⊥
  pub a_fifth : (old new : Machine) (name sub : List ℕ) (t : Rounds) (o : State) → old.object name ≡ Some o
      → length o.programs ≡ 4 → NewStep old (part name sub) (codes "LP") (done t) new → ⊥
  -- a program has its own properties
  pub its_own : property_named Polytope (Some 0) (codes "MAXIMAL_VALUE") ≡ Some MaximalValue
  pub not_of_the_object : property_named Polytope None (codes "MAXIMAL_VALUE") ≡ None
  pub not_of_programs : property_named Polytope (Some 0) (codes "VERTICES") ≡ None
  pub asked_of_it : asked_in Polytope (Some 0) (codes "MAXIMAL_VALUE" ∷ codes "MAXIMAL_FACE" ∷ [])
      ≡ Some (set_of (MaximalValue ∷ MaximalFace ∷ []))
  -- it takes its objective alone, until it is sealed
  pub optimum_is_computed : TakeValue one_program (Some 0) MaximalValue (value (extended plus_infinity))
      (Some (BadValue value_why.Computed)) None
  pub objective_is_given : TakeValue one_program (Some 0) LinearObjective (value (matrix 0 []))
      (Some (BadValue value_why.Computed)) None → ⊥
  pub is_sealed : (g : ReadValue)
      → TakeValue (with_optimum two_programs) (Some 0) LinearObjective g (Some Sealed) None
  pub other_is_open : (g : ReadValue)
      → TakeValue (with_optimum two_programs) (Some 1) LinearObjective g (Some Sealed) None → ⊥
  pub sealed_by_a_round : (g : ReadValue)
      → TakeValue (with_round_for (Some 1) two_programs) (Some 1) LinearObjective g (Some Sealed) None
  pub open_beside_a_round : (g : ReadValue)
      → TakeValue (with_round_for None two_programs) (Some 1) LinearObjective g (Some Sealed) None → ⊥
  -- what is told names the program that is asked
  pub programs_told : (book : List Rule) → (names_told book two_programs).programs
      ≡ codes "a" ∷ codes "b" ∷ []
  pub is_shown : (old new : Machine) (name sub text : List ℕ) (n : List ℕ) (of : ObjectType) (p : PropId)
      (v : PropertyValue) (t : Rounds) → LookupStep old (part name sub) text (shows n of p v t) new
      → n ≡ name ++ codes "." ++ sub
  pub history_tells : (book : List Rule) (old new : Machine) (name : List ℕ) (t : Rounds)
      (excluded : List Excluded) → old.object name ≡ Some two_programs
      → HistoryStep book old name (tells t excluded) new → t.names.programs ≡ codes "a" ∷ codes "b" ∷ []
  -- an object is shown with its type and its programs, each with what it holds, and evidence with their names
  pub type_shown : (old new : Machine) (name : List ℕ) (of : ObjectType) (held : List (PropId × Origin))
      (programs : List (List ℕ × List (PropId × Origin))) → old.object name ≡ Some two_programs
      → ShowStep old name (lists_held of held programs) new → of ≡ Polytope
  pub no_other_type : (old new : Machine) (name : List ℕ) (held : List (PropId × Origin))
      (programs : List (List ℕ × List (PropId × Origin))) → old.object name ≡ Some two_programs
      → ShowStep old name (lists_held Cone held programs) new → ⊥
  pub programs_shown : (old new : Machine) (name : List ℕ) (of : ObjectType) (held : List (PropId × Origin))
      (programs : List (List ℕ × List (PropId × Origin))) → old.object name ≡ Some (with_optimum two_programs)
      → ShowStep old name (lists_held of held programs) new
      → programs ≡ (codes "a", (MaximalValue, Computed) ∷ []) ∷ (codes "b", []) ∷ []
  pub no_program_left_out : (old new : Machine) (name : List ℕ) (of : ObjectType) (held : List (PropId × Origin))
      → old.object name ≡ Some two_programs → ShowStep old name (lists_held of held []) new → ⊥
  pub evidence_tells : (book : List Rule) (old new : Machine) (name label : List ℕ) (excluded : List Excluded)
      (names : NamesSeen) → old.object name ≡ Some two_programs
      → EvidenceStep book old name label (tells_evidence excluded names) new
      → names.programs ≡ codes "a" ∷ codes "b" ∷ []

-- a store that tells this one file
abbrev pub one_file : List ℕ → List ℕ → Store
one_file name bytes = record { files = Some ((name, bytes) ∷ []); faults = 0 }

-- what `load` and `save` change, and when they are not done
pub record FilesAreKept : Type 0 where
  -- the object is that of a file that the bytes are read as
  pub is_of_file : (book : List Rule) (old new : Machine) (name file : List ℕ) (names : List (List ℕ))
      → LoadStep book old name file (loaded names) new
      → (f : SavedFile) × (new.object name ≡ Some (loaded_object book f))
  pub not_over : (book : List Rule) (old new : Machine) (name file : List ℕ) (names : List (List ℕ))
      → old.object name ≢ None → LoadStep book old name file (loaded names) new → ⊥
  pub not_of_nothing : (book : List Rule) (old new : Machine) (name : List ℕ) (names : List (List ℕ))
      → old.store ≡ one_file (codes "g") [] → LoadStep book old name (codes "f") (loaded names) new → ⊥
  pub it_is_there : (book : List Rule) (old new : Machine) (name : List ℕ)
      → old.store ≡ one_file (codes "f") []
      → LoadStep book old name (codes "f") (refused NoSuchFile nothing) new → ⊥
  pub not_in_between : (book : List Rule) (old new : Machine) (name file : List ℕ) (t : Rounds)
      → LoadStep book old name file (done t) new → ⊥
  -- the file has the bytes of the object, and the objects stay
  pub has_bytes : (book : List Rule) (old new : Machine) (name : List ℕ) (t : Rounds)
      → old.store ≡ one_file (codes "f") [] → SaveStep book old name (codes "f") (done t) new
      → (o : State) × (all : Files) × (old.object name ≡ Some o) × (new.store.files ≡ Some all)
      × (file_of all (codes "f") ≡ Some (bytes_of book o))
  pub objects_stay : (book : List Rule) (old new : Machine) (name file q : List ℕ) (t : Rounds)
      → SaveStep book old name file (done t) new → new.object q ≡ old.object q
  pub no_object : (book : List Rule) (old new : Machine) (name file : List ℕ) (t : Rounds)
      → old.object name ≡ None → SaveStep book old name file (done t) new → ⊥
  pub it_failed : (book : List Rule) (old new : Machine) (name file : List ℕ)
      → SaveStep book old name file (refused StoreFault nothing) new → Rose old.store.faults new.store.faults
  -- what was saved is loaded again
  pub loaded_again : (book : List Rule) (old new : Machine) (name file : List ℕ) (t : Rounds)
      → SaveStep book old name file (done t) new
      → (o : State) × (old.object name ≡ Some o) × IsSavedWhole book o
  -- a fault is told as it is
  pub limit : IsFault file_why.Limit too_long
  pub no_limit : ¬ (IsFault file_why.Limit not_json)
  pub row : (name : String Global) → IsFault (file_why.BadRow name) (bad_row (string_bytes name))
  pub no_row : (name : String Global) → ¬ (IsFault (file_why.BadRow name) (bad_profile (string_bytes name)))
  -- where memory was wanting, a file was written at most, and for an object
  pub as_before : (book : List Rule) (old new : Machine) (name file : List ℕ) → Stays old new
      → SavedInPart book old name file new
  pub objects_stay_so : (book : List Rule) (old new : Machine) (name file q : List ℕ)
      → SavedInPart book old name file new → new.object q ≡ old.object q
  pub of_no_object : (book : List Rule) (old new : Machine) (name file : List ℕ) → old.object name ≡ None
      → SavedInPart book old name file new → Stays old new
