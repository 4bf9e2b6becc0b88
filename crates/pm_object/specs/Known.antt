-- What is read of an object that holds it: truth values, rows, sets and the column count.
use Rattle.std.specs.Prelude.{ℕ, ◌≡◌, Bool, IsTrue, Option, None, Some, List, [], ◌∷◌}
use Rattle.std.specs.List.{All}
use Rattle.std.specs.Option.{is_some, unwrap_or}
use Rattle.pm_vector.specs.Numbers.{Ratio}
use Rattle.pm_object_type.specs.declared.object_type.ObjectType.TheVariants.{Polytope}
use Rattle.pm_props.specs.declared.property.PropId.{PropId}
use Rattle.pm_props.specs.declared.property.PropId.TheVariants.{AffineHull, Facets, LinealitySpace, MaximalCones, Vertices, VerticesInFacets}
use Rattle.pm_types.specs.Forms.{rows_in}
use Rattle.pm_types.specs.Parts.{sets_in, truth_in}
use Rattle.pm_types.specs.Values.{IndexSets, PropertyValue, matrix}
use Rattle.pm_object.specs.State.{State, cols_of, is_held, read_at, value_of}

-- no sets, of no indices
abbrev pub no_sets : IndexSets
no_sets = record { rows = []; cols = 0 }

-- ---- of objects
-- the property is held and true
abbrev pub is_true : PropId → State → Bool
is_true p o = truth_in (value_of p (read_at None o.held))

-- the rows of a value that is held
abbrev pub held_rows : Option PropertyValue → List (List Ratio)
held_rows None = []
held_rows (Some v) = rows_in v

-- the rows that the object holds as its value of the property
abbrev pub rows_at : PropId → State → List (List Ratio)
rows_at p o = held_rows (value_of p (read_at None o.held))

-- the sets of a value that is held
abbrev pub held_sets : Option PropertyValue → IndexSets
held_sets None = no_sets
held_sets (Some v) = unwrap_or (sets_in v) no_sets

-- the sets that the object holds as its value of the property
abbrev pub sets_at : PropId → State → IndexSets
sets_at p o = held_sets (value_of p (read_at None o.held))

-- the column count, where it is known
abbrev pub cols_at : State → ℕ
cols_at o = unwrap_or (cols_of o.held) 1

-- the properties whose rows are read
abbrev pub IsOfRows : PropId → Type 0
IsOfRows Vertices = Unit {0}
IsOfRows LinealitySpace = Unit {0}
IsOfRows Facets = Unit {0}
IsOfRows AffineHull = Unit {0}
IsOfRows p = ⊥

-- the properties whose sets are read
abbrev pub IsOfSets : PropId → Type 0
IsOfSets VerticesInFacets = Unit {0}
IsOfSets MaximalCones = Unit {0}
IsOfSets p = ⊥

-- the object holds each of these, and its column count is known
pub record IsKnown (ps : List PropId) (o : State) : Type 0 where
  pub held : All (λ p. IsTrue (is_held p (read_at None o.held))) ps
  pub cols : IsTrue (is_some (cols_of o.held))

-- what is read of a polytope; objects of other types are not read
abbrev pub IsReadable : List PropId → State → Type 0
IsReadable ps o = o.of ≡ Polytope → IsKnown ps o
