-- What stands where memory ran out in a command: a first part of its events, maybe none or all.
use Rattle.pm_client.specs.Meanings.{Meanings}
use Rattle.std.specs.Prelude.{◌≡◌, ◌≤◌, ◌⊎◌, List, ℕ, Some, IfSome, length}
use Rattle.pm_rounds.specs.Events.{Configuration, EnsuredInPart, configuration}
use Rattle.pm_machine.specs.Machines.{Becomes, Machine, Stays, shelf}
use Rattle.pm_machine.specs.Steps.{Looks, Named, Puts, asked_of, bytes_of, named_at, property_at, settled_object}
use Rattle.pm_object.specs.Honest.{IsHonest}
use Rattle.pm_object.specs.State.{State}
use Rattle.pm_rules.specs.declared.rule.Rule.{Rule}
use Rattle.pm_store.specs.Files.{IsPutInPart}
use Rattle.pm_command.specs.Commands.{RefSeen, Spoken, ensure_values, explain_values, give_value, load_object, save_object, build_object}
use Rattle.pm_machine.specs.Building.{BuiltInPart}
use Rattle.pm_props.specs.Sets.{only}
use Rattle.pm_props.specs.declared.property.PropId.{PropId}
use Rattle.pm_props.specs.declared.set.PropSet.{PropSet}
use Rattle.pm_limits.specs.Limits.{most_file_bytes}

-- what REF names is ensured the property in part
pub record GaveInPart (m : Meanings) (book : List Rule) (old : Machine) (ref : RefSeen) (text : List ℕ)
    (new : Machine) : Type 0 where
  pub found : Named
  pub named : named_at (shelf old) ref ≡ Some found
  pub property : PropId
  pub is_property : property_at found text ≡ Some property
  pub now : Configuration
  pub ensured : EnsuredInPart m book found.sub (only property) (configuration found.object old.clients) now
  pub becomes : Becomes ref.name now old new

-- what REF names is ensured what the words ask for, in part
pub record EnsuredPartly (m : Meanings) (book : List Rule) (old : Machine) (ref : RefSeen) (words : List (List ℕ))
    (new : Machine) : Type 0 where
  pub found : Named
  pub named : named_at (shelf old) ref ≡ Some found
  pub asked : PropSet
  pub is_asked : asked_of found words ≡ Some asked
  pub now : Configuration
  pub ensured : EnsuredInPart m book found.sub asked (configuration found.object old.clients) now
  pub becomes : Becomes ref.name now old new

-- the object that REF names is settled, for words that ask for something
pub record IsSettled (old : Machine) (ref : RefSeen) (words : List (List ℕ)) (new : Machine) : Type 0 where
  pub found : Named
  pub named : named_at (shelf old) ref ≡ Some found
  pub asked : PropSet
  pub is_asked : asked_of found words ≡ Some asked
  pub becomes : Becomes ref.name (configuration (settled_object found.object) old.clients) old new

-- nothing changes, or the object's file, which is not too long, is written in part
abbrev pub SavedInPart : List Rule → Machine → List ℕ → List ℕ → Machine → Type 0
SavedInPart book old name file new = Stays old new
    ⊎ ((o : State) × (old.object name ≡ Some o) × (length (bytes_of book o) ≤ most_file_bytes)
    × Puts (IsPutInPart file (bytes_of book o)) old new)

-- of the events of the command first ones occurred: those of a command that ensures nothing are all or none
abbrev pub StepInPart : Meanings → List Rule → Machine → Spoken → Machine → Type 0
StepInPart m book old (give_value ref text) new = Stays old new ⊎ GaveInPart m book old ref text new
StepInPart m book old (ensure_values ref words) new = Stays old new ⊎ EnsuredPartly m book old ref words new
StepInPart m book old (explain_values ref words) new = Stays old new ⊎ IsSettled old ref words new
StepInPart m book old (load_object name file) new = Looks old new
StepInPart m book old (save_object name file) new = SavedInPart book old name file new
StepInPart m book old (build_object builder names to) new = BuiltInPart m book builder names to old new
StepInPart m book old command new = Stays old new

-- each object is honest
pub record AllHonest (m : Machine) : Type 0 where
  pub each : (q : List ℕ) → IfSome (m.object q) IsHonest
