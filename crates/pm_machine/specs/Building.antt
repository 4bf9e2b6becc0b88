-- The commands that build objects: what each reads and ensures, and the object that it makes.
use Rattle.pm_client.specs.Meanings.{Meanings}
use Rattle.std.specs.Prelude.{ℕ, ◌≡◌, ◌≢◌, ◌⊎◌, ◌++◌, Bool, false, true, List, [], ◌∷◌, map, Option, Some, None}
use Rattle.std.specs.List.{list_all}
use Rattle.std.specs.Option.{is_some}
use Rattle.pm_command.specs.Commands.{ShapeSeen}
use Rattle.pm_command.specs.declared.building.Builder.{Builder}
use Rattle.pm_files.specs.Files.{SavedFile}
use Rattle.pm_rounds.specs.Events.{Configuration, Ensured, EnsuredInPart, configuration}
use Rattle.pm_machine.specs.Machines.{Becomes, Gains, IsNewName, Machine, NewNameRefusal, Shelf, Stays, later_rounds, no_rounds, shelf}
use Rattle.pm_rounds.specs.declared.round.Ending.{Ending}
use Rattle.pm_rounds.specs.declared.round.Ending.TheVariants as ending
use Rattle.pm_object.specs.State.{RoundSeen, State}
use Rattle.pm_object.specs.declared.held.Condition.{Condition}
use Rattle.pm_object.specs.declared.held.Condition.TheVariants as condition
use Rattle.pm_object_type.specs.declared.object_type.ObjectType.{ObjectType}
use Rattle.pm_props.specs.Sets.{only}
use Rattle.pm_props.specs.declared.property.PropId.{PropId}
use Rattle.pm_rules.specs.declared.rule.Rule.{Rule}
use Rattle.pm_telling.specs.Telling.{rules_told}
use Rattle.pm_script.specs.Replies.{Remarks, ReplySeen, Rounds, done, nothing, refused, remarks}
use Rattle.pm_script.specs.declared.refusal.Refusal.{Refusal}
use Rattle.pm_script.specs.declared.refusal.Refusal.TheVariants.{UnknownName, NoChain, Crowded, NotFit, NotMade}
use Rattle.pm_script.specs.declared.refusal.NotMadeWhy.{NotMadeWhy}
use Rattle.pm_making.specs.Rows.{same_type, Makes, Unfit, Unmade, object_of, row_of, shape_condition, shape_file}

-- why `make NEW SHAPE N ..` is refused, first of these
pub data MakeRefusal (s : Shelf) (to : List ℕ) (shape : ShapeSeen) : Refusal → Type 0 where
  no_new_name : {why : Refusal} → NewNameRefusal s to why → MakeRefusal s to shape why
  not_fit : {c : Condition} → IsNewName s to → shape_condition shape ≡ Some c
      → MakeRefusal s to shape (NotFit c)

-- `make NEW SHAPE N ..`: the ways in which it may end
pub data MakeStep (old : Machine) (to : List ℕ) (shape : ShapeSeen) : ReplySeen → Machine → Type 0 where
  is_refused : {new : Machine} {why : Refusal} → MakeRefusal (shelf old) to shape why → Stays old new
      → MakeStep old to shape (refused why nothing) new
  is_made : {new : Machine} {t : Rounds} → IsNewName (shelf old) to → shape_condition shape ≡ None
      → t ≡ no_rounds → Gains to (object_of (shape_file shape)) old new → MakeStep old to shape (done t) new

-- ---- ensuring what is read
-- a property of the object of a name
pub record Wanted : Type 0 where
  pub name : List ℕ
  pub property : PropId

-- these properties of the object of this name, in their order
abbrev pub wanted_of : List ℕ → List PropId → List Wanted
wanted_of name ps = map (λ p. record { name = name; property = p }) ps

-- the object of the name ensures the property by these rounds, with this ending
pub record EnsuresOne (m : Meanings) (book : List Rule) (w : Wanted) (ending : Ending) (rounds : List RoundSeen)
    (old new : Machine) : Type 0 where
  pub object : State
  pub named : old.object w.name ≡ Some object
  pub now : Configuration
  pub ensured : Ensured m book None (only w.property) ending (configuration object old.clients) now
  pub rounds_are : rounds ≡ later_rounds object now.object
  pub becomes : Becomes w.name now old new

-- all of these are ensured, one after another, by these rounds
abbrev pub EnsuresAll : Meanings → List Rule → List Wanted → List RoundSeen → Machine → Machine → Type 0
EnsuresAll m book [] rounds old new = (rounds ≡ []) × Stays old new
EnsuresAll m book (w ∷ ws) rounds old new = (mid : Machine) × (first : List RoundSeen)
    × (more : List RoundSeen)
    × EnsuresOne m book w ending.Found first old mid × EnsuresAll m book ws more mid new
    × (rounds ≡ first ++ more)

-- some first of these are ensured, and the next one ends so, which is not found
abbrev pub EndsAt : Meanings → List Rule → List Wanted → Ending → List RoundSeen → Machine → Machine → Type 0
EndsAt m book [] e rounds old new = ⊥
EndsAt m book (w ∷ ws) e rounds old new = ((e ≢ ending.Found) × EnsuresOne m book w e rounds old new)
    ⊎ ((mid : Machine) × (first : List RoundSeen) × (more : List RoundSeen)
    × EnsuresOne m book w ending.Found first old mid × EndsAt m book ws e more mid new
    × (rounds ≡ first ++ more))

-- these rounds are of no program
abbrev pub told_rounds : List Rule → List RoundSeen → Rounds
told_rounds book rounds = record { rounds = rounds; names = rules_told book }

-- what is said of them beside a refusal, where they are traced
abbrev pub rounds_told : List Rule → List RoundSeen → Remarks
rounds_told book rounds = remarks false rounds [] None (rules_told book)

-- ---- the objects of a command
-- each name is that of an object
abbrev pub are_named : Shelf → List (List ℕ) → Bool
are_named s names = list_all (λ n. is_some (s.object n)) names

abbrev pub is_of_type : ObjectType → Option State → Bool
is_of_type type None = false
is_of_type type (Some o) = same_type type o.of

-- each name is that of an object of the type
abbrev pub are_of : ObjectType → Shelf → List (List ℕ) → Bool
are_of type s names = list_all (λ n. is_of_type type (s.object n)) names

-- the objects of these names
abbrev pub ObjectsAre : Machine → List (List ℕ) → List State → Type 0
ObjectsAre m names os = map m.object names ≡ map (λ o. Some o) os

-- what is read of each, that of the first object before that of the next
abbrev pub wanted_all : List PropId → List (List ℕ) → List Wanted
wanted_all ps [] = []
wanted_all ps (n ∷ []) = wanted_of n ps
wanted_all ps (n ∷ k ∷ ns) = wanted_of n ps ++ wanted_all ps (k ∷ ns)

-- what is read of the objects, which are of the type, is ensured by these rounds; they are then these
pub record HasEnsured (m : Meanings) (book : List Rule) (b : Builder) (names : List (List ℕ)) (to : List ℕ)
    (rounds : List RoundSeen) (os : List State) (old mid : Machine) : Type 0 where
  pub free : IsNewName (shelf old) to
  pub types : are_of (row_of b).of (shelf old) names ≡ true
  pub ensured : EnsuresAll m book (wanted_all (row_of b).reads names) rounds old mid
  pub objects : ObjectsAre mid names os

-- what is read of them is not found
pub record DoesNotRead (m : Meanings) (book : List Rule) (b : Builder) (names : List (List ℕ)) (to : List ℕ)
    (e : Ending) (more : Remarks) (old new : Machine) : Type 0 where
  pub free : IsNewName (shelf old) to
  pub types : are_of (row_of b).of (shelf old) names ≡ true
  pub rounds : List RoundSeen
  pub ends : EndsAt m book (wanted_all (row_of b).reads names) e rounds old new
  pub told : more ≡ rounds_told book rounds

-- why a command of this row is refused before it begins, first of these
pub data BuildRefusal (s : Shelf) (b : Builder) (names : List (List ℕ)) (to : List ℕ) : Refusal
    → Type 0 where
  no_such_name : are_named s names ≡ false → BuildRefusal s b names to UnknownName
  no_new_name : {why : Refusal} → are_named s names ≡ true → NewNameRefusal s to why
      → BuildRefusal s b names to why
  other_type : are_named s names ≡ true → IsNewName s to → are_of (row_of b).of s names ≡ false
      → BuildRefusal s b names to (NotFit condition.OfType)

-- `WORD NAME NEW`, `WORD NAME NAME NEW`: the ways in which it may end; what was ensured stays also where the object
-- is not made
pub data BuildStep (m : Meanings) (book : List Rule) (b : Builder) (old : Machine) (names : List (List ℕ))
    (to : List ℕ) : ReplySeen → Machine → Type 0 where
  is_refused : {new : Machine} {why : Refusal} → BuildRefusal (shelf old) b names to why → Stays old new
      → BuildStep m book b old names to (refused why nothing) new
  no_chain : {new : Machine} {more : Remarks} → DoesNotRead m book b names to ending.NoChain more old new
      → BuildStep m book b old names to (refused NoChain more) new
  is_crowded : {new : Machine} {more : Remarks} → DoesNotRead m book b names to ending.Crowded more old new
      → BuildStep m book b old names to (refused Crowded more) new
  not_fit : {new : Machine} {more : Remarks} {c : Condition} (rounds : List RoundSeen) (os : List State)
      → HasEnsured m book b names to rounds os old new → c ≢ condition.OfType → Unfit b os c
      → more ≡ rounds_told book rounds → BuildStep m book b old names to (refused (NotFit c) more) new
  not_made : {new : Machine} {more : Remarks} {why : NotMadeWhy} (rounds : List RoundSeen) (os : List State)
      → HasEnsured m book b names to rounds os old new → Unmade b os why
      → more ≡ rounds_told book rounds → BuildStep m book b old names to (refused (NotMade why) more) new
  is_made : {new mid : Machine} {t : Rounds} (rounds : List RoundSeen) (os : List State) (f : SavedFile)
      → HasEnsured m book b names to rounds os old mid → Makes b os f → Gains to (object_of f) mid new
      → t ≡ told_rounds book rounds → BuildStep m book b old names to (done t) new

-- ---- want of memory
-- the object of the name is ensured the property in part
pub record EnsuresOneInPart (m : Meanings) (book : List Rule) (w : Wanted) (old new : Machine) : Type 0 where
  pub object : State
  pub named : old.object w.name ≡ Some object
  pub now : Configuration
  pub ensured : EnsuredInPart m book None (only w.property) (configuration object old.clients) now
  pub becomes : Becomes w.name now old new

-- some first of these are ensured, and the next one in part or not at all
abbrev pub EnsuresInPart : Meanings → List Rule → List Wanted → Machine → Machine → Type 0
EnsuresInPart m book [] old new = Stays old new
EnsuresInPart m book (w ∷ ws) old new = Stays old new ⊎ (EnsuresOneInPart m book w old new
    ⊎ ((mid : Machine) × (rounds : List RoundSeen) × EnsuresOne m book w ending.Found rounds old mid
    × EnsuresInPart m book ws mid new))

-- nothing changed, or the new name was free and the objects are of the row's type: a command that would be refused
-- for a name or a type begins no round
abbrev pub MayHaveBegun : Builder → List (List ℕ) → List ℕ → Machine → Machine → Type 0
MayHaveBegun b names to old new = Stays old new
    ⊎ (IsNewName (shelf old) to × (are_of (row_of b).of (shelf old) names ≡ true))

-- a command of this row in part: some first of what it reads is ensured, where it may begin at all
abbrev pub BuiltInPart : Meanings → List Rule → Builder → List (List ℕ) → List ℕ → Machine → Machine → Type 0
BuiltInPart m book b names to old new = MayHaveBegun b names to old new
    × EnsuresInPart m book (wanted_all (row_of b).reads names) old new
