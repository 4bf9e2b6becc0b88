-- Kinds of clients: what a client of a kind finds from what, and under which conditions.
use Rattle.std.specs.Prelude.{◌≡◌, ◌||◌, ℕ, Bool, false, not, Option, List, IsTrue}
use Rattle.pm_object_type.specs.declared.object_type.ObjectType.{ObjectType}
use Rattle.pm_props.specs.Properties.{is_in_use}
use Rattle.pm_props.specs.declared.property.PropId.{PropId}
use Rattle.pm_props.specs.declared.set.PropSet.{PropSet}
use Rattle.pm_props.specs.declared.kind.Kind.{Kind}
use Rattle.pm_props.specs.Sets.{has, union, set_of}

-- the properties that must be true or must be false
abbrev pub conditions_of : Kind → PropSet
conditions_of kind = union kind.must kind.must_not

-- all properties that the kind names
abbrev pub names_of : Kind → PropSet
names_of kind = union kind.targets (union kind.sources (conditions_of kind))

-- all names of the kind are in use
abbrev pub IsKindOf : Option ℕ → ObjectType → Kind → Type 0
IsKindOf sub of kind = (p : PropId) → IsTrue (has (names_of kind) p) → IsTrue (is_in_use sub of p)

-- so it is as far as p goes
abbrev pub is_in_or_unnamed : Option ℕ → ObjectType → PropSet → PropId → Bool
is_in_or_unnamed sub of names p = not (has names p) || is_in_use sub of p

-- some target has the tag, and no source has it
pub record IsFresh (tag : PropId → Bool) (kind : Kind) : Type 0 where
  pub target : (p : PropId) × IsTrue (has kind.targets p) × IsTrue (tag p)
  pub sources : (p : PropId) → IsTrue (has kind.sources p) → tag p ≡ false

-- the kind of a client that finds these from those, under no condition
abbrev pub finding : List ℕ → List PropId → List PropId → Kind
finding name targets sources = record {
  name = name;
  targets = set_of targets;
  sources = set_of sources;
  must = 0;
  must_not = 0;
}
