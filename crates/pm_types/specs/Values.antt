-- Values of properties, as the definitions see them, and facts: a value of a property, of the object itself or of its
-- program at a place.
use Rattle.std.specs.Prelude.{ℕ, Bool, List, Option}
use Rattle.pm_vector.specs.Numbers.{Ratio}
use Rattle.pm_props.specs.declared.property.PropId.{PropId}
use lib.IntN.{ℤ}

-- sets of indices, with a column count
pub record IndexSets : Type 0 where
  pub rows : List (List ℕ)
  pub cols : ℕ

pub data Extended : Type 0 where
  finite : Ratio → Extended
  plus_infinity : Extended
  minus_infinity : Extended

pub data PropertyValue : Type 0 where
  -- rows of fractions; n is the stated column count, 0 where none is stated
  matrix : ℕ → List (List Ratio) → PropertyValue
  -- ascending rows of indices below n
  sets : List (List ℕ) → ℕ → PropertyValue
  -- a whole number
  whole : ℤ → PropertyValue
  -- a truth value
  truth : Bool → PropertyValue
  -- a fraction, or one of both infinities
  extended : Extended → PropertyValue
  -- for each node of a graph its neighbours, and the number of nodes
  edges : List (List ℕ) → ℕ → PropertyValue
  -- for each rank the faces, as sets of indices
  lattice : List (List (List ℕ)) → PropertyValue
  -- a list of whole numbers
  counts : List ℤ → PropertyValue

pub record Fact : Type 0 where
  pub place : Option ℕ
  pub property : PropId
  pub value : PropertyValue
