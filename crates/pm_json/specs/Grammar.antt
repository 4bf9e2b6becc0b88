-- Which JSON value is which value of a property.
-- A matrix is an array of its rows, which are arrays of their entries; behind the rows maybe {"cols":n}, n the column
-- count, and without it a matrix without rows states none, 0. LP.LINEAR_OBJECTIVE and SITE_HEIGHTS are their one row.
-- Sets are an array of sets, arrays of their indices in any order, none twice; behind them maybe {"cols":n}, and
-- without it the column count is one more than the greatest index, or 0. Edges are an array of the sets of
-- neighbours, and a lattice an array of ranks, arrays of sets. Counts are an array of whole numbers. Each value has
-- the form of its property, which bounds the numbers of rows, columns, indices and faces.
use Rattle.std.specs.Prelude.{◌≡◌, ◌≤◌, ⊤, ℕ, Bool, true, not, ◌&&◌, IsTrue, List, [], ◌∷◌, None, Ok, Option, Some}
use Rattle.pm_vector.specs.Numbers.{Ratio}
use Rattle.pm_json.specs.Readings.{above_sets, and_then, cols_member, entry_of, has_index, number_value_of, object_behind, rows_before, whole_count_of, whole_number_of}
use Rattle.pm_props.specs.declared.property.PropId.{PropId}
use Rattle.pm_props.specs.declared.property.PropId.TheVariants.{F2Vector, LinearObjective, SiteHeights}
use Rattle.pm_types.specs.Forms.{is_formed}
use Rattle.pm_types.specs.Values.{PropertyValue, matrix, sets, whole, truth, counts, edges, lattice, extended}
use Rattle.serde_json.specs.Data.{Data, Num, Items, item, no_items}
use Rattle.serde_json.specs.Find.{as_array, as_bool, as_i64, as_number}
use lib.IntN.{pos}

-- ---- arrays
-- the items are these, one by one
abbrev pub AreItems : {A : Type 0} → (Data → A → Type 0) → Items → List A → Type 0
AreItems Is no_items [] = ⊤
AreItems Is no_items (a ∷ others) = ⊥
AreItems Is (item d ds) [] = ⊥
AreItems Is (item d ds) (a ∷ others) = Is d a × AreItems Is ds others

-- an array of these
abbrev pub IsArrayOf : {A : Type 0} → (Data → A → Type 0) → Data → List A → Type 0
IsArrayOf Is d others = (ds : Items) × (as_array d ≡ Some ds) × AreItems Is ds others

-- ---- matrices
-- a text or a whole number that is the fraction
abbrev pub IsEntryOf : Data → Ratio → Type 0
IsEntryOf d q = entry_of d ≡ Ok q

abbrev pub IsJsonRow : Data → List Ratio → Type 0
IsJsonRow d r = IsArrayOf IsEntryOf d r

-- {"cols":n}
abbrev pub IsColsOf : Data → ℕ → Type 0
IsColsOf d n = and_then (cols_member d) whole_number_of ≡ Ok (pos n)

-- the column count that is stated behind these rows, or not; one that is stated where there are no rows is from
-- `least` on
abbrev pub StatesCols : ℕ → Option Data → ℕ → List (List Ratio) → Type 0
StatesCols least None n [] = n ≡ 0
StatesCols least None n (r ∷ rows) = ⊤
StatesCols least (Some d) n [] = IsColsOf d n × (least ≤ n)
StatesCols least (Some d) n (r ∷ rows) = IsColsOf d n

pub record IsMatrixOf (least : ℕ) (d : Data) (n : ℕ) (rows : List (List Ratio)) : Type 0 where
  pub items : Items
  pub array : as_array d ≡ Some items
  pub each : AreItems IsJsonRow (rows_before items) rows
  pub cols : StatesCols least (object_behind items) n rows

-- ---- sets
abbrev pub IsIndexOf : Data → ℕ → Type 0
IsIndexOf d j = whole_number_of d ≡ Ok (pos j)

-- no index twice
abbrev pub are_apart : List ℕ → Bool
are_apart [] = true
are_apart (j ∷ js) = not (has_index j js) && are_apart js

-- the set of the indices of an array
pub record IsSetOf (d : Data) (set : List ℕ) : Type 0 where
  pub indices : List ℕ
  pub array : IsArrayOf IsIndexOf d indices
  pub apart : IsTrue (are_apart indices)
  pub members : (j : ℕ) → has_index j set ≡ has_index j indices

-- the column count that is stated behind these sets, or else follows from them
abbrev pub HasColumnCount : Option Data → ℕ → List (List ℕ) → Type 0
HasColumnCount None n rows = n ≡ above_sets rows
HasColumnCount (Some d) n rows = IsColsOf d n

pub record AreJsonSets (d : Data) (rows : List (List ℕ)) (n : ℕ) : Type 0 where
  pub items : Items
  pub array : as_array d ≡ Some items
  pub each : AreItems IsSetOf (rows_before items) rows
  pub cols : HasColumnCount (object_behind items) n rows

-- ---- values
-- the one row
abbrev pub IsOneRowOf : Data → List (List Ratio) → Type 0
IsOneRowOf d rows = (r : List Ratio) × (rows ≡ r ∷ []) × IsJsonRow d r

abbrev pub AreJsonRows : PropId → Data → ℕ → List (List Ratio) → Type 0
AreJsonRows LinearObjective d n rows = IsOneRowOf d rows
AreJsonRows SiteHeights d n rows = IsOneRowOf d rows
AreJsonRows F2Vector d n rows = IsMatrixOf 0 d n rows
AreJsonRows p d n rows = IsMatrixOf 1 d n rows

abbrev pub IsJsonText : PropId → Data → PropertyValue → Type 0
IsJsonText p d (matrix n rows) = AreJsonRows p d n rows
IsJsonText p d (sets rows n) = AreJsonSets d rows n
IsJsonText p d (whole k) = (n : Num) × (as_number d ≡ Some n) × (as_i64 n ≡ Some k)
IsJsonText p d (truth b) = as_bool d ≡ Some b
IsJsonText p d (counts ks) = IsArrayOf (λ e k. whole_count_of e ≡ Ok k) d ks
IsJsonText p d (edges rows n) = IsArrayOf IsSetOf d rows
IsJsonText p d (lattice ranks) = IsArrayOf (IsArrayOf IsSetOf) d ranks
IsJsonText p d (extended x) = number_value_of d ≡ Ok x

-- the JSON value d is the value v of p
pub record IsJsonOf (p : PropId) (d : Data) (v : PropertyValue) : Type 0 where
  pub text : IsJsonText p d v
  pub formed : IsTrue (is_formed p v)
