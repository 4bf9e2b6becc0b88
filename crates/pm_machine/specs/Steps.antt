-- The machine: what each command may answer, and what it changes. Each command has a type of the ways in which it may
-- end: each way has its reply and says exactly when it comes, and the ways of one command exclude each other.
use Rattle.pm_client.specs.Meanings.{Meanings}
use Rattle.std.specs.Prelude.{ℕ, ◌≡◌, ◌≢◌, Bool, true, false, ◌++◌, ◌<◌, ◌≤◌, List, [], ◌∷◌, length, Option, Some, None, option_and_then, option_map, IfSome, if◌then◌else◌, codes, string_bytes}
use Rattle.std.specs.List.{list_any}
use Rattle.std.specs.Str.{bytes_eq}
use Rattle.pm_books.specs.Writing.{text_of}
use Rattle.pm_client.specs.Starts.{Clients}
use Rattle.pm_object_type.specs.declared.object_type.ObjectType.{ObjectType}
use Rattle.pm_object_type.specs.declared.object_type.ObjectType.TheVariants.{Polytope, Cone, Fan}
use Rattle.pm_json.specs.Texts.{Given, faulty, given_by, no_json, value}
use Rattle.pm_json.specs.declared.fail.ValueFail.{ValueFail}
use Rattle.pm_json.specs.declared.fail.ValueFail.TheVariants as fault
use Rattle.pm_rounds.specs.Chains.{AreBarred, held_names, table}
use Rattle.pm_rounds.specs.Events.{Configuration, Ensured, configuration}
use Rattle.pm_machine.specs.Building.{BuildStep, MakeStep}
use Rattle.pm_machine.specs.Machines.{Becomes, Files, Gains, IsNewName, Loses, Machine, NameRefusal, NewNameRefusal, OthersStay, Shelf, Stays, Store, later_rounds, no_rounds, shelf}
use Rattle.pm_rounds.specs.Reasons.{AreReasons}
use Rattle.pm_rounds.specs.declared.round.Ending.TheVariants as ending
use Rattle.pm_object.specs.Honest.{IsKept}
use Rattle.pm_object.specs.State.{CanTake, CannotTake, State, empty_object, given_at, is_disabled, is_held, is_sealed_at, place_named, program_refusal, read_at, settling, value_of, with_disabled, with_held, with_program}
use Rattle.pm_object.specs.declared.held.Excluded.{Excluded}
use Rattle.pm_object.specs.declared.held.Origin.{Origin}
use Rattle.pm_object.specs.declared.held.ProgramFail.{ProgramFail}
use Rattle.pm_object.specs.declared.held.ProgramFail.TheVariants as no_program
use Rattle.pm_object.specs.declared.held.TakeFail.TheVariants as fail
use Rattle.pm_filing.specs.Whole.{IsLoadedAgain}
use Rattle.pm_filing.specs.Filing.{loaded_object, read_over, saved_file}
use Rattle.pm_filing.specs.FileParts.{FileFault, bad_profile, bad_property, bad_row, no_type, not_json, too_long, unknown_type}
use Rattle.pm_filing.specs.FileReadings.{Reads, Refuses}
use Rattle.pm_files.specs.Files.{SavedFile, file_bytes}
use Rattle.pm_plan.specs.Plans.{HasNoPlan, IsCrowded, IsPlan}
use Rattle.pm_object.specs.declared.held.Condition.TheVariants as condition
use Rattle.pm_rules.specs.declared.table.TableRow.{TableRow}
use Rattle.pm_script.specs.declared.names.Bar.{Bar}
use Rattle.pm_script.specs.declared.refusal.FileWhy.{FileWhy}
use Rattle.pm_script.specs.declared.refusal.FileWhy.TheVariants as file_why
use Rattle.pm_store.specs.Files.{AreTold, FilesStay, IsPut, IsPutInPart, file_of, read_part}
use Rattle.pm_store.specs.Outside.{Rose}
use Rattle.pm_rules.specs.declared.rule.Rule.{Rule}
use Rattle.pm_command.specs.Commands.{RefSeen, Spoken, blank, new_object, take_value, give_value, look_up, ensure_values, explain_values, tell_history, show_object, tell_evidence, show_rules, disable_rule, unload_client, copy_object, drop_object, tell_origin, load_object, save_object, make_object, build_object}
use Rattle.pm_command.specs.Grammar.{ref_text}
use Rattle.pm_telling.specs.Telling.{evidence_of, held_told, named_rounds, names_told, origin_of, programs_told}
use Rattle.pm_script.specs.Replies.{NamesSeen, Remarks, ReplySeen, Rounds, done, ensured, explained, lists_held, lists_rules, loaded, nothing, planned, refused, remarks, shows, tells, tells_evidence, tells_origin, undef}
use Rattle.pm_script.specs.declared.refusal.Refusal.{Refusal}
use Rattle.pm_script.specs.declared.refusal.Refusal.TheVariants.{UnknownName, NameTaken, UnknownType, UnknownProperty, BadValue, AlreadyHeld, Sealed, ObjectsFull, NoChain, Crowded, StoreFault, BadFile, NoSuchFile, UnknownRule, NotFit}
use Rattle.pm_script.specs.declared.refusal.ValueWhy.{ValueWhy}
use Rattle.pm_script.specs.declared.refusal.ValueWhy.TheVariants as value_why
use Rattle.pm_props.specs.Names.{program_named, property_named_in}
use Rattle.pm_props.specs.Sets.{only, set_of}
use Rattle.pm_types.specs.Values.{PropertyValue}
use Rattle.pm_props.specs.declared.kind.RuleId.{RuleId}
use Rattle.pm_props.specs.declared.property.PropId.{PropId}
use Rattle.pm_props.specs.declared.set.PropSet.{PropSet}
use Rattle.pm_weights.specs.declared.Cost.{Cost}
use Rattle.pm_limits.specs.Limits.{most_file_bytes, most_objects}

-- what a REF names: an object, and a linear program of it where the REF has a part
pub record Named : Type 0 where
  pub object : State
  pub sub : Option ℕ

abbrev pub part_named : State → Option (List ℕ) → Option Named
part_named o None = Some (record { object = o; sub = None })
part_named o (Some name) = option_map (λ s. record { object = o; sub = Some s }) (place_named name o)

-- the object that a REF names, and the place of its program where the REF has a part
abbrev pub named_at : Shelf → RefSeen → Option Named
named_at s ref = option_and_then (λ o. part_named o ref.sub) (s.object ref.name)

-- the type that a word names
abbrev pub type_word : List ℕ → Option ObjectType
type_word text = if bytes_eq text (codes "Polytope") then Some Polytope
    else if bytes_eq text (codes "Cone") then Some Cone else if bytes_eq text (codes "Fan") then Some Fan
    else None

-- the word for linear programs
abbrev pub is_program_word : List ℕ → Bool
is_program_word text = bytes_eq text (codes "LP")

-- the property that a word names: in the table of the type, or, where a linear program is asked, in that of programs
abbrev pub property_named : ObjectType → Option ℕ → List ℕ → Option PropId
property_named of None text = property_named_in of text
property_named of (Some s) text = program_named text

-- the property that a word names there
abbrev pub property_at : Named → List ℕ → Option PropId
property_at x text = property_named x.object.of x.sub text

-- why a REF and a word name no property, first of these
pub data PropertyRefusal (s : Shelf) (ref : RefSeen) (text : List ℕ) : Refusal → Type 0 where
  no_such_name : named_at s ref ≡ None → PropertyRefusal s ref text UnknownName
  no_such_property : (x : Named) → named_at s ref ≡ Some x → property_at x text ≡ None
      → PropertyRefusal s ref text UnknownProperty

-- the reason of a fault in reading order; want of memory is no fault of a value
abbrev pub why_of : ValueFail → Option ValueWhy
why_of fault.Shape = Some value_why.Shape
why_of fault.Number = Some value_why.Number
why_of fault.Index = Some value_why.Index
why_of fault.Limit = Some value_why.Limit
why_of fault.Memory = None

-- why `new NAME TYPE` is refused, first of these
pub data NewObjectRefusal (s : Shelf) (name text : List ℕ) : Refusal → Type 0 where
  no_such_type : type_word text ≡ None → NewObjectRefusal s name text UnknownType
  no_new_name : {why : Refusal} → type_word text ≢ None → NewNameRefusal s name why
      → NewObjectRefusal s name text why

-- `new NAME TYPE`: the ways in which it may end
pub data NewObjectStep (old : Machine) (name text : List ℕ) : ReplySeen → Machine → Type 0 where
  is_refused : {new : Machine} {why : Refusal} → NewObjectRefusal (shelf old) name text why → Stays old new
      → NewObjectStep old name text (refused why nothing) new
  is_made : {new : Machine} {t : Rounds} (of : ObjectType) → type_word text ≡ Some of
      → old.object name ≡ None → length old.names < most_objects → t ≡ no_rounds
      → Gains name (empty_object of) old new
      → NewObjectStep old name text (done t) new

-- the object of the name gets no linear program of that name, for this reason
abbrev pub ProgramRefuses : Shelf → List ℕ → List ℕ → ProgramFail → Type 0
ProgramRefuses s name sub why = (o : State) × (s.object name ≡ Some o) × (program_refusal o sub ≡ Some why)

-- why `new NAME.SUB LP` is refused, first of these
pub data NewProgramRefusal (s : Shelf) (name sub text : List ℕ) : Refusal → Type 0 where
  other_word : is_program_word text ≡ false → NewProgramRefusal s name sub text UnknownType
  no_such_name : is_program_word text ≡ true → s.object name ≡ None
      → NewProgramRefusal s name sub text UnknownName
  other_type : is_program_word text ≡ true → ProgramRefuses s name sub no_program.NotPolytope
      → NewProgramRefusal s name sub text UnknownType
  is_taken : is_program_word text ≡ true → ProgramRefuses s name sub no_program.NameTaken
      → NewProgramRefusal s name sub text NameTaken
  no_room : is_program_word text ≡ true → ProgramRefuses s name sub no_program.Full
      → NewProgramRefusal s name sub text ObjectsFull

-- `new NAME.SUB LP`: the ways in which it may end
pub data NewProgramStep (old : Machine) (name sub text : List ℕ) : ReplySeen → Machine → Type 0 where
  is_refused : {new : Machine} {why : Refusal} → NewProgramRefusal (shelf old) name sub text why
      → Stays old new → NewProgramStep old name sub text (refused why nothing) new
  is_made : {new : Machine} {t : Rounds} (o : State) → is_program_word text ≡ true → old.object name ≡ Some o
      → program_refusal o sub ≡ None → t ≡ no_rounds
      → Becomes name (configuration (with_program o sub) old.clients) old new
      → NewProgramStep old name sub text (done t) new

abbrev pub NewOf : Machine → List ℕ → Option (List ℕ) → List ℕ → ReplySeen → Machine → Type 0
NewOf old name None text reply new = NewObjectStep old name text reply new
NewOf old name (Some sub) text reply new = NewProgramStep old name sub text reply new

-- `new REF TYPE`
abbrev pub NewStep : Machine → RefSeen → List ℕ → ReplySeen → Machine → Type 0
NewStep old ref text reply new = NewOf old ref.name ref.sub text reply new

-- The object, or its program at a place, takes the value that the text gives, unless the first of these holds: it is
-- held, the object (the program) is sealed, the text is no JSON, a fault of the value in reading order, it is another
-- value of a program than its objective, its columns differ or there are more or fewer heights than sites, a row
-- fails its test or has no primitive row within the range.
pub data TakeValue (o : State) (sub : Option ℕ) (p : PropId) : Given → Option Refusal → Option PropertyValue
    → Type 0 where
  held_already : {g : Given} {v : Option PropertyValue} → is_held p (read_at sub o.held) ≡ true
      → TakeValue o sub p g (Some AlreadyHeld) v
  is_sealed : {g : Given} {v : Option PropertyValue} → is_held p (read_at sub o.held) ≡ false
      → is_sealed_at sub o ≡ true → TakeValue o sub p g (Some Sealed) v
  is_no_json : {v : Option PropertyValue} → is_held p (read_at sub o.held) ≡ false
      → is_sealed_at sub o ≡ false → TakeValue o sub p no_json (Some (BadValue value_why.Json)) v
  has_fault : {e : ValueFail} {why : ValueWhy} {v : Option PropertyValue}
      → is_held p (read_at sub o.held) ≡ false → is_sealed_at sub o ≡ false → why_of e ≡ Some why
      → TakeValue o sub p (faulty e) (Some (BadValue why)) v
  is_computed : {w : PropertyValue} {v : Option PropertyValue} → CannotTake o sub p w fail.NotOfType
      → TakeValue o sub p (value w) (Some (BadValue value_why.Computed)) v
  other_columns : {w : PropertyValue} {v : Option PropertyValue} → CannotTake o sub p w fail.Columns
      → TakeValue o sub p (value w) (Some (BadValue value_why.Columns)) v
  wrong_row : {w : PropertyValue} {v : Option PropertyValue} → CannotTake o sub p w fail.NotAThing
      → TakeValue o sub p (value w) (Some (BadValue value_why.Row)) v
  takes : {w : PropertyValue} {v : Option PropertyValue} → v ≡ Some w → CanTake o sub p w
      → TakeValue o sub p (value w) None v

-- what taking does to the object: it takes the value, or it stays and there is a reason
abbrev pub Taken : State → Option ℕ → PropId → Given → Option Refusal → State → Type 0
Taken o sub p g (Some why) new = TakeValue o sub p g (Some why) None × (new ≡ o)
Taken o sub p g None new = (v : PropertyValue) × TakeValue o sub p g None (Some v)
    × (new ≡ with_held o (given_at sub p v ∷ []))

-- why `take REF PROP JSON` is refused, first of these
pub data TakeRefusal (s : Shelf) (ref : RefSeen) (text json : List ℕ) : Refusal → Type 0 where
  no_property : {why : Refusal} → PropertyRefusal s ref text why → TakeRefusal s ref text json why
  not_taken : {why : Refusal} (x : Named) (p : PropId) → named_at s ref ≡ Some x
      → property_at x text ≡ Some p → TakeValue x.object x.sub p (given_by p json) (Some why) None
      → TakeRefusal s ref text json why

-- `take REF PROP JSON`: the ways in which it may end
pub data TakeStep (old : Machine) (ref : RefSeen) (text json : List ℕ) : ReplySeen → Machine → Type 0 where
  is_refused : {new : Machine} {why : Refusal} → TakeRefusal (shelf old) ref text json why → Stays old new
      → TakeStep old ref text json (refused why nothing) new
  now_held : {new : Machine} {t : Rounds} (x : Named) (p : PropId) (v : PropertyValue)
      → named_at (shelf old) ref ≡ Some x → property_at x text ≡ Some p
      → TakeValue x.object x.sub p (given_by p json) None (Some v)
      → t ≡ no_rounds
      → Becomes ref.name (configuration (with_held x.object (given_at x.sub p v ∷ [])) old.clients) old new
      → TakeStep old ref text json (done t) new

-- what is said of them beside a refusal: always, or where they are traced
abbrev pub rounds_beside : Bool → List Rule → State → State → Remarks
rounds_beside always book old new = remarks always (later_rounds old new) [] None (names_told book new)

-- the object ensures the property p, of this program if one is asked, and its value is shown; or no chain leads
-- there, or too many sets of names cost less
pub data Gives (m : Meanings) (book : List Rule) (old : Configuration) (sub : Option ℕ) (name : List ℕ) (p : PropId)
    : ReplySeen → Configuration → Type 0 where
  no_chain : {new : Configuration} {more : Remarks} → Ensured m book sub (only p) ending.NoChain old new
      → more ≡ rounds_beside false book old.object new.object
      → Gives m book old sub name p (refused NoChain more) new
  is_crowded : {new : Configuration} {more : Remarks} → Ensured m book sub (only p) ending.Crowded old new
      → more ≡ rounds_beside false book old.object new.object
      → Gives m book old sub name p (refused Crowded more) new
  is_shown : {new : Configuration} {n : List ℕ} {of : ObjectType} {q : PropId} {v : PropertyValue} {t
      : Rounds} → Ensured m book sub (only p) ending.Found old new → n ≡ name → of ≡ old.object.of → q ≡ p
      → value_of p (read_at sub new.object.held) ≡ Some v
      → t ≡ named_rounds book new.object (later_rounds old.object new.object)
      → Gives m book old sub name p (shows n of q v t) new

-- what REF names does so for the property of this name
abbrev pub Gave : Meanings → List Rule → Machine → RefSeen → List ℕ → ReplySeen → Machine → Type 0
Gave m book old ref text reply new = (x : Named) × (named_at (shelf old) ref ≡ Some x) × (p : PropId)
    × (property_at x text ≡ Some p)
    × (c : Configuration) × Gives m book (configuration x.object old.clients) x.sub (ref_text ref) p reply c
    × Becomes ref.name c old new

-- `give REF PROP`: the ways in which it may end
pub data GiveStep (m : Meanings) (book : List Rule) (old : Machine) (ref : RefSeen)
    (text : List ℕ) : ReplySeen → Machine → Type 0 where
  is_refused : {new : Machine} {why : Refusal} → PropertyRefusal (shelf old) ref text why → Stays old new
      → GiveStep m book old ref text (refused why nothing) new
  is_asked : {new : Machine} {reply : ReplySeen} → Gave m book old ref text reply new
      → GiveStep m book old ref text reply new

-- the properties that the words name there, if each names one
abbrev pub all_named : ObjectType → Option ℕ → List (List ℕ) → Option (List PropId)
all_named of sub [] = Some []
all_named of sub (word ∷ words) = option_and_then (λ p. option_map (λ ps. p ∷ ps) (all_named of sub words))
    (property_named of sub word)

-- the same as a set: a property that is named twice counts once
abbrev pub asked_in : ObjectType → Option ℕ → List (List ℕ) → Option PropSet
asked_in of sub words = option_map set_of (all_named of sub words)

-- what the words ask of what a REF names
abbrev pub asked_of : Named → List (List ℕ) → Option PropSet
asked_of x words = asked_in x.object.of x.sub words

-- why a REF and words name no properties, first of these
pub data PropertiesRefusal (s : Shelf) (ref : RefSeen) (words : List (List ℕ)) : Refusal → Type 0 where
  no_such_name : named_at s ref ≡ None → PropertiesRefusal s ref words UnknownName
  no_such_property : (x : Named) → named_at s ref ≡ Some x → asked_of x words ≡ None
      → PropertiesRefusal s ref words UnknownProperty

-- the object ensures what is asked, of this program if one is asked; or no chain leads there, or too many sets of
-- names cost less
pub data Ensures (m : Meanings) (book : List Rule) (old : Configuration) (sub : Option ℕ)
    (asked : PropSet) : ReplySeen → Configuration → Type 0 where
  no_chain : {new : Configuration} {more : Remarks} → Ensured m book sub asked ending.NoChain old new
      → more ≡ rounds_beside true book old.object new.object
      → Ensures m book old sub asked (refused NoChain more) new
  is_crowded : {new : Configuration} {more : Remarks} → Ensured m book sub asked ending.Crowded old new
      → more ≡ rounds_beside true book old.object new.object
      → Ensures m book old sub asked (refused Crowded more) new
  is_found : {new : Configuration} {t : Rounds} → Ensured m book sub asked ending.Found old new
      → t ≡ named_rounds book new.object (later_rounds old.object new.object)
      → Ensures m book old sub asked (ensured t) new

-- what REF names does so for what these words ask
abbrev pub EnsuredAll : Meanings → List Rule → Machine → RefSeen → List (List ℕ) → ReplySeen → Machine → Type 0
EnsuredAll m book old ref words reply new = (x : Named) × (named_at (shelf old) ref ≡ Some x)
    × (asked : PropSet) × (asked_of x words ≡ Some asked)
    × (c : Configuration) × Ensures m book (configuration x.object old.clients) x.sub asked reply c
    × Becomes ref.name c old new

-- `ensure REF PROP ..`: the ways in which it may end
pub data EnsureStep (m : Meanings) (book : List Rule) (old : Machine) (ref : RefSeen)
    (words : List (List ℕ)) : ReplySeen → Machine → Type 0 where
  is_refused : {new : Machine} {why : Refusal} → PropertiesRefusal (shelf old) ref words why → Stays old new
      → EnsureStep m book old ref words (refused why nothing) new
  is_asked : {new : Machine} {reply : ReplySeen} → EnsuredAll m book old ref words reply new
      → EnsureStep m book old ref words reply new

-- the object when it is settled
abbrev pub settled_object : State → State
settled_object o = with_held o (settling o)

-- the chain is least from what the settled object holds to all that is asked, of this program if one is asked, among
-- those that avoid the rules barred there, and the table proves it least; or no chain leads there, or too many sets
-- of names cost less: then the barred rules are told with their reasons, and the table
pub data Explains (book : List Rule) (clients : Clients) (o : State) (sub : Option ℕ) (asked : PropSet)
    : ReplySeen → Type 0 where
  is_planned : {chain : List RuleId} {weight : Cost} {rows : List TableRow} {names : NamesSeen}
      (barred : List RuleId) → AreBarred book clients o sub barred
      → IsPlan book (table sub o.of) barred (held_names sub o) asked chain weight rows
      → names ≡ names_told book o → Explains book clients o sub asked (explained chain weight rows names)
  no_chain : {told : List (RuleId × Bar)} {rows : List TableRow} {names : NamesSeen} (barred : List RuleId)
      → AreBarred book clients o sub barred
      → HasNoPlan book (table sub o.of) barred (held_names sub o) asked rows
      → AreReasons book clients o sub told → names ≡ names_told book o
      → Explains book clients o sub asked (refused NoChain (planned told rows names))
  is_crowded : {told : List (RuleId × Bar)} {rows : List TableRow} {names : NamesSeen} (barred : List RuleId)
      → AreBarred book clients o sub barred
      → IsCrowded book (table sub o.of) barred (held_names sub o) asked rows
      → AreReasons book clients o sub told → names ≡ names_told book o
      → Explains book clients o sub asked (refused Crowded (planned told rows names))

-- the object that REF names is settled, and it is explained how what these words ask would be found
abbrev pub ExplainedAll : List Rule → Machine → RefSeen → List (List ℕ) → ReplySeen → Machine → Type 0
ExplainedAll book old ref words reply new = (x : Named) × (named_at (shelf old) ref ≡ Some x)
    × (asked : PropSet) × (asked_of x words ≡ Some asked)
    × Explains book old.clients (settled_object x.object) x.sub asked reply
    × Becomes ref.name (configuration (settled_object x.object) old.clients) old new

-- `explain REF PROP ..`: the ways in which it may end
pub data ExplainStep (book : List Rule) (old : Machine) (ref : RefSeen) (words : List (List ℕ)) : ReplySeen
    → Machine → Type 0 where
  is_refused : {new : Machine} {why : Refusal} → PropertiesRefusal (shelf old) ref words why → Stays old new
      → ExplainStep book old ref words (refused why nothing) new
  is_asked : {new : Machine} {reply : ReplySeen} → ExplainedAll book old ref words reply new
      → ExplainStep book old ref words reply new

-- `history NAME`: the ways in which it may end
pub data HistoryStep (book : List Rule) (old : Machine) (name : List ℕ) : ReplySeen → Machine → Type 0 where
  is_refused : {new : Machine} {why : Refusal} → NameRefusal (shelf old) name why → Stays old new
      → HistoryStep book old name (refused why nothing) new
  is_told : {new : Machine} {t : Rounds} {excluded : List Excluded} (o : State) → old.object name ≡ Some o
      → t ≡ named_rounds book o o.rounds → excluded ≡ o.excluded → Stays old new
      → HistoryStep book old name (tells t excluded) new

-- `show NAME`: the ways in which it may end
pub data ShowStep (old : Machine) (name : List ℕ) : ReplySeen → Machine → Type 0 where
  is_refused : {new : Machine} {why : Refusal} → NameRefusal (shelf old) name why → Stays old new
      → ShowStep old name (refused why nothing) new
  is_told : {new : Machine} {of : ObjectType} {held : List (PropId × Origin)} {programs
      : List (List ℕ × List (PropId × Origin))} (o : State) → old.object name ≡ Some o → of ≡ o.of
      → held ≡ held_told o None → programs ≡ programs_told o → Stays old new
      → ShowStep old name (lists_held of held programs) new

-- `lookup REF PROP`: the ways in which it may end
pub data LookupStep (old : Machine) (ref : RefSeen) (text : List ℕ) : ReplySeen → Machine → Type 0 where
  is_refused : {new : Machine} {why : Refusal} → PropertyRefusal (shelf old) ref text why → Stays old new
      → LookupStep old ref text (refused why nothing) new
  not_held : {new : Machine} (x : Named) (p : PropId) → named_at (shelf old) ref ≡ Some x
      → property_at x text ≡ Some p → value_of p (read_at x.sub x.object.held) ≡ None → Stays old new
      → LookupStep old ref text undef new
  is_shown : {new : Machine} {name : List ℕ} {of : ObjectType} {p : PropId} {v : PropertyValue} {t : Rounds}
      (x : Named) → named_at (shelf old) ref ≡ Some x → property_at x text ≡ Some p → name ≡ ref_text ref
      → of ≡ x.object.of
      → value_of p (read_at x.sub x.object.held) ≡ Some v → t ≡ no_rounds → Stays old new
      → LookupStep old ref text (shows name of p v t) new

-- why `copy NAME NEW` is refused, first of these
pub data CopyRefusal (s : Shelf) (name to : List ℕ) : Refusal → Type 0 where
  no_such_name : s.object name ≡ None → CopyRefusal s name to UnknownName
  no_new_name : {why : Refusal} → s.object name ≢ None → NewNameRefusal s to why → CopyRefusal s name to why

-- `copy NAME NEW`: the ways in which it may end
pub data CopyStep (old : Machine) (name to : List ℕ) : ReplySeen → Machine → Type 0 where
  is_refused : {new : Machine} {why : Refusal} → CopyRefusal (shelf old) name to why → Stays old new
      → CopyStep old name to (refused why nothing) new
  is_copied : {new : Machine} {t : Rounds} (o : State) → t ≡ no_rounds → old.object name ≡ Some o
      → old.object to ≡ None → length old.names < most_objects → Gains to o old new
      → CopyStep old name to (done t) new

-- `drop NAME`: the ways in which it may end
pub data DropStep (old : Machine) (name : List ℕ) : ReplySeen → Machine → Type 0 where
  is_refused : {new : Machine} {why : Refusal} → NameRefusal (shelf old) name why → Stays old new
      → DropStep old name (refused why nothing) new
  is_dropped : {new : Machine} {t : Rounds} → t ≡ no_rounds → old.object name ≢ None → Loses name old new
      → DropStep old name (done t) new

-- `origin REF PROP`: the ways in which it may end
pub data OriginStep (old : Machine) (ref : RefSeen) (text : List ℕ) : ReplySeen → Machine → Type 0 where
  is_refused : {new : Machine} {why : Refusal} → PropertyRefusal (shelf old) ref text why → Stays old new
      → OriginStep old ref text (refused why nothing) new
  not_held : {new : Machine} (x : Named) (p : PropId) → named_at (shelf old) ref ≡ Some x
      → property_at x text ≡ Some p → value_of p (read_at x.sub x.object.held) ≡ None → Stays old new
      → OriginStep old ref text undef new
  is_told : {new : Machine} {g : Origin} (x : Named) (p : PropId) → named_at (shelf old) ref ≡ Some x
      → property_at x text ≡ Some p → origin_of p (read_at x.sub x.object.held) ≡ Some g → Stays old new
      → OriginStep old ref text (tells_origin g) new

-- ---- files
-- the files that are told, if they are, are as before; the count of faults does not fall
pub record IsLookedAt (old new : Store) : Type 0 where
  pub files : FilesStay old.files new.files
  pub faults : old.faults ≤ new.faults

-- the store is looked at; all else stays
pub record Looks (old new : Machine) : Type 0 where
  pub names : new.names ≡ old.names
  pub objects : (q : List ℕ) → new.object q ≡ old.object q
  pub clients : new.clients ≡ old.clients
  pub store : IsLookedAt old.store new.store

-- the store is looked at, and one object more comes last, of a new name; all else stays
pub record LooksAndGains (name : List ℕ) (o : State) (old new : Machine) : Type 0 where
  pub names : new.names ≡ old.names ++ name ∷ []
  pub object : new.object name ≡ Some o
  pub others : OthersStay name old new
  pub clients : new.clients ≡ old.clients
  pub store : IsLookedAt old.store new.store

-- these are the bytes that are read of the file, where the store tells its files
abbrev pub HasBytes : Store → List ℕ → List ℕ → Type 0
HasBytes store file bytes = IfSome store.files (λ all. read_part (file_of all file) ≡ Some bytes)

-- there is no such file, where the store tells its files
abbrev pub HasNone : Store → List ℕ → Type 0
HasNone store file = IfSome store.files (λ all. file_of all file ≡ None)

-- the fault of a value
abbrev pub fault_of_why : ValueWhy → Option ValueFail
fault_of_why value_why.Shape = Some fault.Shape
fault_of_why value_why.Number = Some fault.Number
fault_of_why value_why.Index = Some fault.Index
fault_of_why value_why.Limit = Some fault.Limit
fault_of_why why = None

-- the file is refused for this fault
abbrev pub IsFault : FileWhy → FileFault → Type 0
IsFault file_why.Limit e = e ≡ too_long
IsFault file_why.NotJson e = e ≡ not_json
IsFault file_why.NoType e = e ≡ no_type
IsFault file_why.UnknownType e = e ≡ unknown_type
IsFault (file_why.BadProperty name why) e = (f : ValueFail) × (fault_of_why why ≡ Some f)
    × (e ≡ bad_property (string_bytes name) f)
IsFault (file_why.BadRow name) e = e ≡ bad_row (string_bytes name)
IsFault (file_why.BadProfile key) e = e ≡ bad_profile (string_bytes key)

-- the bytes are refused for this reason, and nothing changes; or they are read as a file, and the object that is made
-- of it is one more, of this name
pub data FileRead (book : List Rule) (name bytes : List ℕ) : ReplySeen → Machine → Machine → Type 0 where
  bad_file : {old new : Machine} {why : FileWhy} (e : FileFault) → Refuses bytes e → IsFault why e
      → Stays old new → FileRead book name bytes (refused (BadFile why) nothing) old new
  is_loaded : {old new : Machine} {names : List (List ℕ)} (f : SavedFile) → Reads bytes f
      → names ≡ read_over f → Gains name (loaded_object book f) old new
      → FileRead book name bytes (loaded names) old new

-- why no file is read as an object: the store fails, or there is no such file, or its bytes are refused
pub data LoadRefusal (old new : Store) (file : List ℕ) : Refusal → Type 0 where
  store_failed : Rose old.faults new.faults → LoadRefusal old new file StoreFault
  no_such_file : HasNone old file → LoadRefusal old new file NoSuchFile
  bad_file : {why : FileWhy} (bytes : List ℕ) (e : FileFault) → HasBytes old file bytes → Refuses bytes e
      → IsFault why e → LoadRefusal old new file (BadFile why)

-- `load NAME FILE`: the ways in which it may end
pub data LoadStep (book : List Rule) (old : Machine) (name file : List ℕ) : ReplySeen → Machine
    → Type 0 where
  no_new_name : {new : Machine} {why : Refusal} → NewNameRefusal (shelf old) name why → Stays old new
      → LoadStep book old name file (refused why nothing) new
  is_refused : {new : Machine} {why : Refusal} → IsNewName (shelf old) name
      → LoadRefusal old.store new.store file why → Looks old new
      → LoadStep book old name file (refused why nothing) new
  is_loaded : {new : Machine} {names : List (List ℕ)} (bytes : List ℕ) (f : SavedFile)
      → IsNewName (shelf old) name → HasBytes old.store file bytes → Reads bytes f → names ≡ read_over f
      → LooksAndGains name (loaded_object book f) old new
      → LoadStep book old name file (loaded names) new

-- what the store did with the bytes under the name, and how often it failed; all else stays
pub record Puts (Did : Files → Files → Type 0) (old new : Machine) : Type 0 where
  pub names : new.names ≡ old.names
  pub objects : (q : List ℕ) → new.object q ≡ old.object q
  pub clients : new.clients ≡ old.clients
  pub files : AreTold Did old.store.files new.store.files
  pub faults : old.store.faults ≤ new.store.faults

-- the bytes of the object's file
abbrev pub bytes_of : List Rule → State → List ℕ
bytes_of book o = file_bytes (saved_file book o)

-- the bytes of the object's file are read as a file of which the same object is loaded
abbrev pub IsSavedWhole : List Rule → State → Type 0
IsSavedWhole book o = (f : SavedFile) × Reads (bytes_of book o) f × IsLoadedAgain book o f

-- why `save NAME FILE` is refused before the store is asked, first of these
pub data SaveRefusal (s : Shelf) (book : List Rule) (name : List ℕ) : Refusal → Type 0 where
  no_such_name : s.object name ≡ None → SaveRefusal s book name UnknownName
  is_long : (o : State) → s.object name ≡ Some o → most_file_bytes < length (bytes_of book o)
      → SaveRefusal s book name (NotFit condition.Size)

-- `save NAME FILE`: the ways in which it may end
pub data SaveStep (book : List Rule) (old : Machine) (name file : List ℕ) : ReplySeen → Machine
    → Type 0 where
  is_refused : {new : Machine} {why : Refusal} → SaveRefusal (shelf old) book name why → Stays old new
      → SaveStep book old name file (refused why nothing) new
  store_failed : {new : Machine} (o : State) → old.object name ≡ Some o
      → length (bytes_of book o) ≤ most_file_bytes → Rose old.store.faults new.store.faults
      → Puts (IsPutInPart file (bytes_of book o)) old new
      → SaveStep book old name file (refused StoreFault nothing) new
  is_saved : {new : Machine} {t : Rounds} (o : State) → t ≡ no_rounds → old.object name ≡ Some o
      → length (bytes_of book o) ≤ most_file_bytes → Puts (IsPut file (bytes_of book o)) old new
      → IsSavedWhole book o
      → SaveStep book old name file (done t) new

-- `rules`: the book is listed
pub data RulesStep (book : List Rule) (old : Machine) : ReplySeen → Machine → Type 0 where
  is_listed : {new : Machine} {n : ℕ} {text : List ℕ} → n ≡ length book → text ≡ text_of book → Stays old new
      → RulesStep book old (lists_rules n text) new

-- some rule of the book has the label
abbrev pub has_label : List ℕ → List Rule → Bool
has_label label book = list_any (λ rule. bytes_eq rule.label label) book

-- the object where the label is disabled, once
abbrev pub disabling : State → List ℕ → State
disabling o label = if is_disabled label o.disabled then o else with_disabled o label

-- why the name of an object and the label of a rule are refused, first of these
pub data RuleRefusal (s : Shelf) (book : List Rule) (name label : List ℕ) : Refusal → Type 0 where
  no_such_name : s.object name ≡ None → RuleRefusal s book name label UnknownName
  no_such_rule : s.object name ≢ None → has_label label book ≡ false
      → RuleRefusal s book name label UnknownRule

-- `disable NAME LABEL`: the ways in which it may end
pub data DisableStep (book : List Rule) (old : Machine) (name label : List ℕ) : ReplySeen → Machine
    → Type 0 where
  is_refused : {new : Machine} {why : Refusal} → RuleRefusal (shelf old) book name label why → Stays old new
      → DisableStep book old name label (refused why nothing) new
  now_disabled : {new : Machine} {t : Rounds} (o : State) → t ≡ no_rounds → old.object name ≡ Some o
      → has_label label book ≡ true → Becomes name (configuration (disabling o label) old.clients) old new
      → DisableStep book old name label (done t) new

-- `evidence NAME LABEL`: the ways in which it may end
pub data EvidenceStep (book : List Rule) (old : Machine) (name label : List ℕ) : ReplySeen → Machine
    → Type 0 where
  is_refused : {new : Machine} {why : Refusal} → RuleRefusal (shelf old) book name label why → Stays old new
      → EvidenceStep book old name label (refused why nothing) new
  is_told : {new : Machine} {excluded : List Excluded} {names : NamesSeen} (o : State)
      → old.object name ≡ Some o → has_label label book ≡ true → excluded ≡ evidence_of book label o.excluded
      → names ≡ names_told book o → Stays old new
      → EvidenceStep book old name label (tells_evidence excluded names) new

-- some client has the name
abbrev pub is_client : List ℕ → Clients → Bool
is_client name clients = list_any (λ c. bytes_eq c.0.name name) clients

-- the clients without the first of the name
abbrev pub without_client : List ℕ → Clients → Clients
without_client name [] = []
without_client name (c ∷ clients) = if bytes_eq c.0.name name then clients
    else c ∷ without_client name clients

-- the first client of the name goes; all else stays
pub record Unloads (name : List ℕ) (old new : Machine) : Type 0 where
  pub names : new.names ≡ old.names
  pub objects : (q : List ℕ) → new.object q ≡ old.object q
  pub clients : new.clients ≡ without_client name old.clients
  pub store : new.store ≡ old.store

-- no client has the name
pub data UnloadRefusal (clients : Clients) (name : List ℕ) : Refusal → Type 0 where
  no_such_client : is_client name clients ≡ false → UnloadRefusal clients name UnknownRule

-- `unload CLIENT`: the ways in which it may end
pub data UnloadStep (old : Machine) (name : List ℕ) : ReplySeen → Machine → Type 0 where
  is_refused : {new : Machine} {why : Refusal} → UnloadRefusal old.clients name why → Stays old new
      → UnloadStep old name (refused why nothing) new
  is_unloaded : {new : Machine} {t : Rounds} → t ≡ no_rounds → is_client name old.clients ≡ true
      → Unloads name old new → UnloadStep old name (done t) new

-- from the machine old the reply to the command may be given, and it goes on as new
abbrev pub Step : Meanings → List Rule → Machine → Spoken → ReplySeen → Machine → Type 0
Step m book old blank reply new = ⊥
Step m book old (new_object ref text) reply new = NewStep old ref text reply new
Step m book old (take_value ref text json) reply new = TakeStep old ref text json reply new
Step m book old (give_value ref text) reply new = GiveStep m book old ref text reply new
Step m book old (look_up ref text) reply new = LookupStep old ref text reply new
Step m book old (ensure_values ref words) reply new = EnsureStep m book old ref words reply new
Step m book old (explain_values ref words) reply new = ExplainStep book old ref words reply new
Step m book old (tell_history name) reply new = HistoryStep book old name reply new
Step m book old (show_object name) reply new = ShowStep old name reply new
Step m book old (tell_evidence name label) reply new = EvidenceStep book old name label reply new
Step m book old show_rules reply new = RulesStep book old reply new
Step m book old (disable_rule name label) reply new = DisableStep book old name label reply new
Step m book old (unload_client name) reply new = UnloadStep old name reply new
Step m book old (copy_object name to) reply new = CopyStep old name to reply new
Step m book old (drop_object name) reply new = DropStep old name reply new
Step m book old (tell_origin ref text) reply new = OriginStep old ref text reply new
Step m book old (load_object name file) reply new = LoadStep book old name file reply new
Step m book old (save_object name file) reply new = SaveStep book old name file reply new
Step m book old (make_object to shape) reply new = MakeStep old to shape reply new
Step m book old (build_object builder names to) reply new = BuildStep m book builder old names to reply new

-- each object is honest, and while it has no round each of its values was given or stored
pub record AllKept (m : Machine) : Type 0 where
  pub each : (q : List ℕ) → IfSome (m.object q) IsKept
