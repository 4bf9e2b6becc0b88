-- Faults of small JSON values: where they stand, and which is the first.
use Rattle.std.specs.Prelude.{◌≡◌, [], ◌∷◌, Err, codes}
use Rattle.pm_json.specs.Readings.{reading}
use Rattle.pm_json.specs.declared.fail.ValueFail.TheVariants.{Limit, Number, Shape}
use Rattle.pm_laws_texts.specs.ValueFaults.{HasFault}
use Rattle.pm_laws_texts.specs.Places.{CountsFirst, IsFirst, IsReadBefore}
use Rattle.pm_props.specs.declared.property.PropId.TheVariants.{ConeAmbientDim, FVector, LinearObjective, MaximalValue, Pointed, Vertices}
use Rattle.serde_json.specs.Data.{Data, Items, array, item, member, no_items, no_members, number, object, string, unsigned}

-- ---- JSON values
abbrev pub one : Data → Items
one d = item d no_items

abbrev pub two : Data → Data → Items
two d e = item d (one e)

abbrev pub three : Data → Data → Data → Items
three d e f = item d (two e f)

abbrev pub nought : Data
nought = number (unsigned 0)

abbrev pub x : Data
x = string (codes "x")

-- [[0,"x"],[0,0,0]]
abbrev pub two_rows : Data
two_rows = array (two (array (two nought x)) (array (three nought nought nought)))

-- [[0,0],{"cols":3}]
abbrev pub with_cols : Data
with_cols = array
    (two (array (two nought nought)) (object (member (codes "cols") (number (unsigned 3)) no_members)))

-- a place before those in it, and the items in their order
pub record PlacesAreOrdered : Type 0 where
  pub rows : IsReadBefore (0 ∷ 1 ∷ []) (1 ∷ 0 ∷ [])
  pub entries : IsReadBefore (1 ∷ 0 ∷ []) (1 ∷ 2 ∷ [])
  pub row_before_entry : IsReadBefore (1 ∷ []) (1 ∷ 0 ∷ [])
  pub not_after : ¬ (IsReadBefore (1 ∷ 0 ∷ []) (0 ∷ 1 ∷ []))
  pub not_itself : ¬ (IsReadBefore (1 ∷ []) (1 ∷ []))
  pub shape_first : CountsFirst (1 ∷ []) Shape (1 ∷ []) Number
  pub not_number : ¬ (CountsFirst (1 ∷ []) Number (1 ∷ []) Shape)
  pub limit_before : CountsFirst (0 ∷ []) Limit (1 ∷ []) Shape

pub record FaultsStand : Type 0 where
  pub text : HasFault Vertices two_rows (0 ∷ 1 ∷ []) Number
  pub longer : HasFault Vertices two_rows (1 ∷ 2 ∷ []) Shape
  pub not_nought : ¬ (HasFault Vertices two_rows (0 ∷ 0 ∷ []) Number)
  pub not_shape : ¬ (HasFault Vertices two_rows (0 ∷ 1 ∷ []) Shape)
  pub answered : reading Vertices two_rows ≡ Err Number
  pub not_second : ¬ (IsFirst (HasFault Vertices two_rows) (1 ∷ 2 ∷ []) Shape)
  -- a later row that is too short has its fault at its end, and a first row too
  pub short : HasFault Vertices (array (two (array (two nought nought)) (array (one nought))))
      (1 ∷ 1 ∷ []) Shape
  pub not_short
      : ¬ (HasFault Vertices (array (two (array (two nought nought)) (array (two nought nought))))
      (1 ∷ 2 ∷ []) Shape)
  pub no_entry : HasFault LinearObjective (array no_items) (0 ∷ []) Limit
  -- a column count behind the rows that is not their length
  pub columns : HasFault Vertices with_cols (1 ∷ []) Shape
  pub not_in_a_row : ¬ (HasFault Vertices with_cols (0 ∷ 0 ∷ []) Number)
  -- other kinds of values
  pub no_array : IsFirst (HasFault FVector x) [] Shape
  pub no_count : HasFault FVector (array (two nought x)) (1 ∷ []) Number
  pub a_count : ¬ (HasFault FVector (array (one nought)) (0 ∷ []) Number)
  pub no_truth : IsFirst (HasFault Pointed nought) [] Shape
  pub no_dimension : HasFault ConeAmbientDim nought [] Limit
  pub no_number : HasFault MaximalValue x [] Number
  pub infinite : ¬ (HasFault MaximalValue (string (codes "inf")) [] Number)
