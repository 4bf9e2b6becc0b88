-- What the functions of building do, each in the terms of the commands.
use Rattle.pm_client.specs.Meanings.{Meanings}
use Rattle.std.specs.Prelude.{ℕ, ◌≡◌, ◌++◌, [], false, true, IfErr, IfOk, List, Option, None, Result, Ok, Err, Some}
use Rattle.std.specs.List.{AllByRecursion}
use Rattle.pm_files.specs.Files.{SavedFile}
use Rattle.pm_files.specs.Views.{file_of}
use Rattle.pm_files.specs.declared.file.FileObject.{FileObject}
use Rattle.pm_machine.specs.Building.{EndsAt, EnsuresAll, EnsuresOne, ObjectsAre, Wanted}
use Rattle.pm_making.specs.Rows.{Makes, Unfit, Unmade, object_of, row_of, same_type}
use Rattle.pm_making.specs.declared.unbuilt.Unbuilt.{Unbuilt}
use Rattle.pm_making.specs.declared.unbuilt.Unbuilt.TheVariants as unbuilt
use Rattle.pm_command.specs.declared.building.Builder.{Builder}
use Rattle.pm_machine.specs.Machines.{Gains, Machine, Stays}
use Rattle.pm_rounds.specs.declared.round.Ending.{Ending}
use Rattle.pm_rounds.specs.declared.round.Ending.TheVariants as ending
use Rattle.pm_object.specs.State.{RoundSeen, State}
use Rattle.pm_object_type.specs.declared.object_type.ObjectType.{ObjectType}
use Rattle.pm_props.specs.declared.property.PropId.{PropId}
use Rattle.pm_rules.specs.declared.rule.Rule.{Rule}
use Rattle.pm_script.specs.Replies.{Remarks, ReplySeen, Rounds, done, refused, remarks}
use Rattle.pm_script.specs.declared.refusal.Refusal.TheVariants.{NotFit, NotMade}
use Rattle.pm_making.specs.Made.{IsRead, IsUnbuilt}

-- what is said beside a refusal after these rounds
abbrev pub remarks_of : Rounds → Remarks
remarks_of t = remarks false t.rounds [] None t.names

-- the object of the values that were built is made, and these rounds are told; or a condition fails, or it is not made
abbrev pub MakesBuilt : List ℕ → Result FileObject Unbuilt → Rounds → ReplySeen → Machine → Machine → Type 0
MakesBuilt to (Ok f) t (done told) old new = (told ≡ t) × Gains to (object_of (file_of f)) old new
MakesBuilt to (Err (unbuilt.NotFit c)) t (refused (NotFit d) more) old new = (d ≡ c) × (more ≡ remarks_of t)
    × Stays old new
MakesBuilt to (Err (unbuilt.NotMade why)) t (refused (NotMade told) more) old new =
    (told ≡ why) × (more ≡ remarks_of t) × Stays old new
MakesBuilt to built t reply old new = ⊥

-- ---- ensuring
-- all of these are ensured, or one of them ends so
abbrev pub EnsuresTo : Meanings → List Rule → List Wanted → Ending → List RoundSeen → Machine → Machine → Type 0
EnsuresTo m book ws ending.Found rounds old new = EnsuresAll m book ws rounds old new
EnsuresTo m book ws e rounds old new = EndsAt m book ws e rounds old new

-- the property is ensured with this ending, and its rounds are put behind those before
pub record TellsOne (m : Meanings) (book : List Rule) (w : Wanted) (e : Ending) (before after : List RoundSeen)
    (old new : Machine) : Type 0 where
  pub rounds : List RoundSeen
  pub ensured : EnsuresOne m book w e rounds old new
  pub told : after ≡ before ++ rounds

-- so are all of these, or one of them ends so
pub record TellsAll (m : Meanings) (book : List Rule) (ws : List Wanted) (e : Ending) (before after : List RoundSeen)
    (old new : Machine) : Type 0 where
  pub rounds : List RoundSeen
  pub ensured : EnsuresTo m book ws e rounds old new
  pub told : after ≡ before ++ rounds

-- ---- building
-- an object of the type is found, which holds these properties, and it was settled
pub record HasRead (type : ObjectType) (ps : List PropId) (found : Option State) : Type 0 where
  pub object : State
  pub is : found ≡ Some object
  pub of_type : same_type type object.of ≡ true
  pub read : IsRead ps object

-- each object of a name is so for the row
abbrev pub HaveRead : Builder → Machine → List (List ℕ) → Type 0
HaveRead b m names = AllByRecursion (λ n. HasRead (row_of b).of (row_of b).reads (m.object n)) names

-- what was built of the objects of these names: values by the row, unless a condition fails or nothing is made
pub record IsBuilt (b : Builder) (m : Machine) (names : List (List ℕ)) (built : Result FileObject Unbuilt)
    : Type 0 where
  pub objects : List State
  pub are : ObjectsAre m names objects
  pub made : IfOk built (λ f. Makes b objects (file_of f))
  pub unbuilt : IfErr built (IsUnbuilt (Unfit b objects) (Unmade b objects))

-- an object is made of those of the names, and these rounds are told; or it is told which condition fails, or why
-- none is made
abbrev pub Builds : Builder → List (List ℕ) → List ℕ → Rounds → ReplySeen → Machine → Machine → Type 0
Builds b names to t (done told) old new = (os : List State) × (f : SavedFile) × ObjectsAre old names os
    × Makes b os f × (told ≡ t) × Gains to (object_of f) old new
Builds b names to t (refused (NotFit c) more) old new = (os : List State) × ObjectsAre old names os
    × Unfit b os c × (more ≡ remarks_of t) × Stays old new
Builds b names to t (refused (NotMade why) more) old new = (os : List State) × ObjectsAre old names os
    × Unmade b os why × (more ≡ remarks_of t) × Stays old new
Builds b names to t reply old new = ⊥
