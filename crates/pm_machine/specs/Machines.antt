-- The machine: objects by name, the clients, and the store; and what may become of them.
use Rattle.std.specs.Prelude.{ℕ, ◌≡◌, ◌≢◌, ◌++◌, ◌<◌, ◌≤◌, List, [], ◌∷◌, drop, filter, length, not, Option, Some, None}
use Rattle.std.specs.Str.{bytes_eq}
use Rattle.pm_client.specs.Starts.{Clients}
use Rattle.pm_rounds.specs.Events.{Configuration}
use Rattle.pm_object.specs.State.{RoundSeen, State}
use Rattle.pm_script.specs.Replies.{Rounds}
use Rattle.pm_script.specs.declared.refusal.Refusal.{Refusal}
use Rattle.pm_script.specs.declared.refusal.Refusal.TheVariants.{NameTaken, ObjectsFull, UnknownName}
use Rattle.pm_limits.specs.Limits.{most_objects}

-- files, each with its name
abbrev pub Files : Type 0
Files = List (List ℕ × List ℕ)

-- what stands outside: the files, where a store tells them, and how many faults it counted
pub record Store : Type 0 where
  pub files : Option Files
  pub faults : ℕ

-- the names of the objects in the order in which they came, the object of each name, the clients as kinds with counts
-- of their starts, and what stands outside
pub record Machine : Type 0 where
  pub names : List (List ℕ)
  pub object : List ℕ → Option State
  pub clients : Clients
  pub store : Store

-- the objects of a machine: their names in the order in which they came, and the object of each
pub record Shelf : Type 0 where
  pub names : List (List ℕ)
  pub object : List ℕ → Option State

abbrev pub shelf : Machine → Shelf
shelf m = record { names = m.names; object = m.object }

-- no rounds, and no names
abbrev pub no_rounds : Rounds
no_rounds = record { rounds = []; names = record { rules = []; programs = [] } }

-- the objects of other names stay
abbrev pub OthersStay : List ℕ → Machine → Machine → Type 0
OthersStay name old new = (q : List ℕ) → q ≢ name → new.object q ≡ old.object q

-- nothing changes
pub record Stays (old new : Machine) : Type 0 where
  pub names : new.names ≡ old.names
  pub objects : (q : List ℕ) → new.object q ≡ old.object q
  pub clients : new.clients ≡ old.clients
  pub store : new.store ≡ old.store

-- the object of the name and the clients become those of the configuration; all else stays
pub record Becomes (name : List ℕ) (c : Configuration) (old new : Machine) : Type 0 where
  pub names : new.names ≡ old.names
  pub object : new.object name ≡ Some c.object
  pub others : OthersStay name old new
  pub clients : new.clients ≡ c.clients
  pub store : new.store ≡ old.store

-- one object more, of a new name, which comes last; all else stays
pub record Gains (name : List ℕ) (o : State) (old new : Machine) : Type 0 where
  pub names : new.names ≡ old.names ++ name ∷ []
  pub object : new.object name ≡ Some o
  pub others : OthersStay name old new
  pub clients : new.clients ≡ old.clients
  pub store : new.store ≡ old.store

-- the names without this one, in their order
abbrev pub without_name : List ℕ → List (List ℕ) → List (List ℕ)
without_name name names = filter (λ q. not (bytes_eq name q)) names

-- the object of the name goes; all else stays
pub record Loses (name : List ℕ) (old new : Machine) : Type 0 where
  pub names : new.names ≡ without_name name old.names
  pub object : new.object name ≡ None
  pub others : OthersStay name old new
  pub clients : new.clients ≡ old.clients
  pub store : new.store ≡ old.store

-- a new object may have the name: no object has it, and there is room for one more
abbrev pub IsNewName : Shelf → List ℕ → Type 0
IsNewName s name = (s.object name ≡ None) × (length s.names < most_objects)

-- why no new object may have the name, first of these: an object has it, or there is no room for one more
pub data NewNameRefusal (s : Shelf) (name : List ℕ) : Refusal → Type 0 where
  is_taken : s.object name ≢ None → NewNameRefusal s name NameTaken
  no_room : s.object name ≡ None → most_objects ≤ length s.names → NewNameRefusal s name ObjectsFull

-- no object has the name
pub data NameRefusal (s : Shelf) (name : List ℕ) : Refusal → Type 0 where
  no_such_name : s.object name ≡ None → NameRefusal s name UnknownName

-- the rounds that the object new has beyond those of old
abbrev pub later_rounds : State → State → List RoundSeen
later_rounds old new = drop (length old.rounds) new.rounds
