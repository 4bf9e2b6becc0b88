-- JSON of matrices, objectives and numbers: what is read, and what is a fault.
use Rattle.std.specs.Prelude.{ℕ, ◌≡◌, List, [], ◌∷◌, Ok, Err, codes, true}
use Rattle.pm_geom.specs.Examples.{pair}
use Rattle.pm_json.specs.Readings.{reading}
use Rattle.pm_json.specs.declared.fail.ValueFail.TheVariants.{Limit, Number, Shape}
use Rattle.pm_examples_objects.specs.ProgramExamples.{below_all, infinity, number}
use Rattle.pm_props.specs.declared.property.PropId.TheVariants.{F2Vector, LinearObjective, MaximalValue, Points}
use Rattle.pm_types.specs.Values.{extended, finite, matrix}
use Rattle.pm_types.specs.Views.{ratios}
use Rattle.serde_json.specs.Data.{Data, Items, array, boolean, item, member, no_items, no_members, object, string, unsigned}
use Rattle.serde_json.specs.Data as json
use lib.IntN.{pos}

-- the JSON number n
abbrev pub whole_number : ℕ → Data
whole_number n = json.number (unsigned n)

abbrev pub items_of : List Data → Items
items_of [] = no_items
items_of (d ∷ ds) = item d (items_of ds)

-- the JSON array of these
abbrev pub list : List Data → Data
list ds = array (items_of ds)

-- the array [a,b]
abbrev pub two : ℕ → ℕ → Data
two a b = list (whole_number a ∷ whole_number b ∷ [])

-- {"cols":n}
abbrev pub cols : ℕ → Data
cols n = object (member (codes "cols") (whole_number n) no_members)

-- a column count stands behind the rows, and is their length
pub record MatricesAreRead : Type 0 where
  pub stated : reading Points (list (two 1 0 ∷ cols 2 ∷ [])) ≡ Ok (matrix 2 (ratios (pair 1 0) ∷ []))
  pub unstated : reading Points (list (two 1 0 ∷ [])) ≡ Ok (matrix 2 (ratios (pair 1 0) ∷ []))
  pub another_count : reading Points (list (two 1 0 ∷ cols 3 ∷ [])) ≡ Err Shape
  pub in_front : reading Points (list (cols 2 ∷ two 1 0 ∷ [])) ≡ Err Shape
  pub alone : reading Points (list (cols 3 ∷ [])) ≡ Ok (matrix 3 [])
  pub none : reading Points (list []) ≡ Ok (matrix 0 [])
  pub no_columns : reading Points (list (cols 0 ∷ [])) ≡ Err Limit
  pub too_many : reading Points (list (cols 34 ∷ [])) ≡ Err Limit
  pub no_entries : reading Points (list (list [] ∷ [])) ≡ Err Limit
  pub table : reading F2Vector (list (list [] ∷ list [] ∷ [])) ≡ Ok (matrix 0 ([] ∷ [] ∷ []))
  pub table_of_none : reading F2Vector (list (cols 0 ∷ [])) ≡ Ok (matrix 0 [])

-- an objective is one array, a number a fraction or the text of an infinity
pub record NumbersAreRead : Type 0 where
  pub objective : reading LinearObjective (two 0 1) ≡ Ok (matrix 2 (ratios (pair 0 1) ∷ []))
  pub not_rows : reading LinearObjective (list (two 0 1 ∷ [])) ≡ Err Shape
  pub not_empty : reading LinearObjective (list []) ≡ Err Limit
  pub above : reading MaximalValue (string (codes "inf")) ≡ Ok infinity
  pub below : reading MaximalValue (string (codes "-inf")) ≡ Ok below_all
  pub whole : reading MaximalValue (whole_number 2) ≡ Ok (number (pos 2))
  pub half : reading MaximalValue (string (codes "2/4"))
      ≡ Ok (extended (finite (record { num = pos 1; den = pos 2 })))
  pub not_a_number : reading MaximalValue (string (codes "infinity")) ≡ Err Number
  pub not_a_text : reading MaximalValue (boolean true) ≡ Err Shape
