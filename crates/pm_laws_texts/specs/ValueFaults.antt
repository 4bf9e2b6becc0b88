-- Which faults a JSON value has as a value of a property, and where they stand.
use Rattle.std.specs.Prelude.{ℕ, zero, suc, ◌+◌, ◌≡◌, ◌<◌, ◌≤◌, ◌⊎◌, ⊤, true, false, List, [], ◌∷◌, None, Option, Some, codes}
use Rattle.pm_json.specs.Readings.{is_count_text, is_fraction_text, object_behind, rows_before}
use Rattle.pm_json.specs.declared.fail.ValueFail.{ValueFail}
use Rattle.pm_json.specs.declared.fail.ValueFail.TheVariants.{Index, Limit, Number, Shape}
use Rattle.pm_laws_texts.specs.Places.{AtItem, OfArray, OneTooMany, TooFew, count}
use Rattle.pm_limits.specs.Limits.{most_columns, most_faces, most_places, most_rows, most_site_columns}
use Rattle.pm_props.specs.Properties.{is_ambient, value_kind}
use Rattle.pm_props.specs.declared.property.PropId.{PropId}
use Rattle.pm_props.specs.declared.property.PropId.TheVariants.{F2Vector, LinearObjective, SiteHeights, Sites}
use Rattle.pm_props.specs.declared.property.ValueKind.{ValueKind}
use Rattle.pm_props.specs.declared.property.ValueKind.TheVariants as kind
use Rattle.pm_types.specs.Forms.{is_dimension}
use Rattle.std.specs.Str.{bytes_eq}
use Rattle.serde_json.specs.Data.{Data, Items, array, boolean, item, member, no_items, no_members, number, object, string}
use Rattle.serde_json.specs.Find.{as_i64, as_integer, get_item, get_member}
use lib.IntN.{ℤ, negsuc, pos}

-- ---- numbers
-- the number of a whole number
abbrev pub IsWhole : Data → ℤ → Type 0
IsWhole (number n) z = as_integer n ≡ Some z
IsWhole d z = ⊥

-- it is no number, or none that is whole
abbrev pub NotWhole : Data → ValueFail → Type 0
NotWhole (number n) f = (f ≡ Number) × (as_integer n ≡ None)
NotWhole d f = f ≡ Shape

-- it is no fraction: a text that writes none, a number that is not whole, or something else
abbrev pub NoFraction : Data → ValueFail → Type 0
NoFraction (string s) f = (f ≡ Number) × (is_fraction_text s ≡ false)
NoFraction (number n) f = (f ≡ Number) × (as_integer n ≡ None)
NoFraction d f = f ≡ Shape

-- ---- matrices
-- a fault of the entry of this number of the first row
abbrev pub OfFirstEntry : ℕ → ℕ → Data → List ℕ → ValueFail → Type 0
OfFirstEntry most k d r f = ((r ≡ []) × NoFraction d f) ⊎ OneTooMany most k r f

-- the first row has from `least` to `most` entries
abbrev pub OfFirstRow : ℕ → ℕ → Items → List ℕ → ValueFail → Type 0
OfFirstRow least most ds r f = AtItem (OfFirstEntry most) ds r f ⊎ TooFew Limit least ds r f

-- a later row has n entries
abbrev pub OfLaterEntry : ℕ → ℕ → Data → List ℕ → ValueFail → Type 0
OfLaterEntry n k d r f = (r ≡ []) × (NoFraction d f ⊎ ((f ≡ Shape) × (n ≤ k)))

abbrev pub OfLaterRow : ℕ → Items → List ℕ → ValueFail → Type 0
OfLaterRow n ds r f = AtItem (OfLaterEntry n) ds r f ⊎ TooFew Shape n ds r f

-- the row of this number, where the first has n entries
abbrev pub OfRow : ℕ → ℕ → ℕ → ℕ → Data → List ℕ → ValueFail → Type 0
OfRow least most n zero d r f = OfArray (OfFirstRow least most) d r f
OfRow least most n (suc k) d r f = OfArray (OfLaterRow n) d r f ⊎ OneTooMany most_rows (suc k) r f

-- how many items the first item has
abbrev pub first_count : Items → ℕ
first_count (item (array es) ds) = count es
first_count ds = 0

abbrev pub OfRows : ℕ → ℕ → Items → List ℕ → ValueFail → Type 0
OfRows least most ds r f = AtItem (OfRow least most (first_count ds)) ds r f

-- ---- the column count behind rows
-- {"cols":n}, read from its one member
abbrev pub NoNumberIn : Option Data → ValueFail → Type 0
NoNumberIn None f = f ≡ Shape
NoNumberIn (Some d) f = NotWhole d f

abbrev pub NumberIn : Option Data → ℤ → Type 0
NumberIn None z = ⊥
NumberIn (Some d) z = IsWhole d z

-- it is no {"cols":n}
abbrev pub NoCols : Data → ValueFail → Type 0
NoCols (object (member key d no_members)) f =
    NoNumberIn (get_member (codes "cols") (member key d no_members)) f
NoCols d f = f ≡ Shape

abbrev pub IsCols : Data → ℤ → Type 0
IsCols (object (member key d no_members)) z =
    NumberIn (get_member (codes "cols") (member key d no_members)) z
IsCols d z = ⊥

-- n is no count from `least` to `most`
abbrev pub IsBeyond : ℕ → ℕ → ℤ → Type 0
IsBeyond least most (pos n) = (n < least) ⊎ (most < n)
IsBeyond least most (negsuc n) = ⊤

-- n is not the length of the rows, or where there are none no count of columns
abbrev pub IsNoWidth : ℕ → ℕ → Items → ℤ → ValueFail → Type 0
IsNoWidth least most no_items z f = (f ≡ Limit) × IsBeyond least most z
IsNoWidth least most (item d ds) z f = (f ≡ Shape) × ¬ (z ≡ pos (first_count (item d ds)))

-- the fault is one of the object behind the rows
abbrev pub OfBehind : ℕ → ℕ → Items → Option Data → List ℕ → ValueFail → Type 0
OfBehind least most rows None r f = ⊥
OfBehind least most rows (Some d) r f =
    (r ≡ count rows ∷ []) × (NoCols d f ⊎ ((z : ℤ) × IsCols d z × IsNoWidth least most rows z f))

abbrev pub OfMatrix : ℕ → ℕ → Data → List ℕ → ValueFail → Type 0
OfMatrix least most d r f = OfArray (λ ds s g. OfRows least most (rows_before ds) s g
    ⊎ OfBehind least most (rows_before ds) (object_behind ds) s g) d r f

-- LP.LINEAR_OBJECTIVE and SITE_HEIGHTS are one row
abbrev pub OfMatrixOf : PropId → Data → List ℕ → ValueFail → Type 0
OfMatrixOf LinearObjective d r f = OfArray (OfFirstRow 1 most_columns) d r f
OfMatrixOf SiteHeights d r f = OfArray (OfFirstRow 0 most_rows) d r f
OfMatrixOf F2Vector d r f = OfMatrix 0 most_columns d r f
OfMatrixOf Sites d r f = OfMatrix 1 most_site_columns d r f
OfMatrixOf p d r f = OfMatrix 1 most_columns d r f

-- ---- lists of counts
-- it is no whole number of 64 bits, nor a text that writes one
abbrev pub NoCount : Data → ValueFail → Type 0
NoCount (string s) f = (f ≡ Number) × (is_count_text s ≡ false)
NoCount (number n) f = (f ≡ Number) × (as_i64 n ≡ None)
NoCount d f = f ≡ Shape

abbrev pub OfCount : ℕ → Data → List ℕ → ValueFail → Type 0
OfCount k d r f = ((r ≡ []) × NoCount d f) ⊎ OneTooMany most_rows k r f

abbrev pub OfCounts : Data → List ℕ → ValueFail → Type 0
OfCounts d r f = OfArray (AtItem OfCount) d r f

-- ---- sets
-- the number is no index: it is negative, or beyond the limit
abbrev pub IsNoIndex : ℤ → ValueFail → Type 0
IsNoIndex (pos j) f = (f ≡ Limit) × (most_rows ≤ j)
IsNoIndex (negsuc j) f = f ≡ Index

abbrev pub NoIndex : Data → ValueFail → Type 0
NoIndex d f = NotWhole d f ⊎ ((z : ℤ) × IsWhole d z × IsNoIndex z f)

-- an item before number k is the index j
abbrev pub HasIndex : Items → ℕ → ℕ → Type 0
HasIndex ds k j = (i : ℕ) × (i < k) × (d : Data) × (get_item i ds ≡ Some d) × IsWhole d (pos j)
    × (j < most_rows)

-- the item of number k is an index that one before it is
abbrev pub IsRepeated : Items → ℕ → Data → Type 0
IsRepeated ds k d = (j : ℕ) × HasIndex ds k j × IsWhole d (pos j)

abbrev pub OfIndex : Items → ℕ → Data → List ℕ → ValueFail → Type 0
OfIndex ds k d r f = (r ≡ []) × (NoIndex d f ⊎ ((f ≡ Shape) × IsRepeated ds k d))

abbrev pub OfSet : Items → List ℕ → ValueFail → Type 0
OfSet ds r f = AtItem (OfIndex ds) ds r f

-- the set of number k in a list
abbrev pub OfListed : ℕ → Data → List ℕ → ValueFail → Type 0
OfListed k d r f = OfArray OfSet d r f ⊎ OneTooMany most_rows k r f

-- an index of one of the sets is n or more
abbrev pub HasAbove : Items → ℕ → Type 0
HasAbove ds n = (i : ℕ) × (es : Items) × (j : ℕ) × (get_item i ds ≡ Some (array es))
    × HasIndex es (count es) j × (n ≤ j)

-- the column count behind the sets is none, or an index is not below it: that is tested after the last item
abbrev pub OfSetsBehind : Items → Option Data → List ℕ → ValueFail → Type 0
OfSetsBehind rows None r f = ⊥
OfSetsBehind rows (Some d) r f = (r ≡ count rows ∷ [])
    × (NoCols d f ⊎ ((z : ℤ) × IsCols d z × (f ≡ Limit) × IsBeyond 0 most_rows z))

abbrev pub OfHighIndex : Items → Option Data → List ℕ → ValueFail → Type 0
OfHighIndex rows None r f = ⊥
OfHighIndex rows (Some d) r f = (r ≡ suc (count rows) ∷ []) × (f ≡ Index)
    × ((n : ℕ) × IsCols d (pos n) × HasAbove rows n)

abbrev pub OfSets : Data → List ℕ → ValueFail → Type 0
OfSets d r f =
    OfArray (λ ds s g.
    (AtItem OfListed (rows_before ds) s g ⊎ OfSetsBehind (rows_before ds) (object_behind ds) s g)
    ⊎ OfHighIndex (rows_before ds) (object_behind ds) s g) d r f

-- ---- edges
-- the set of number i has j
abbrev pub IsNeighbour : Items → ℕ → ℕ → Type 0
IsNeighbour ds i j = (es : Items) × (get_item i ds ≡ Some (array es)) × HasIndex es (count es) j

-- a node is a neighbour of its own, or no neighbour of one of its neighbours
abbrev pub IsOneWay : Items → Type 0
IsOneWay ds = (i j : ℕ) × IsNeighbour ds i j × ((i ≡ j) ⊎ ¬ (IsNeighbour ds j i))

-- after the last node it is tested that all neighbours are nodes, and then that all are neighbours of one another
abbrev pub OfNodes : Items → List ℕ → ValueFail → Type 0
OfNodes ds r f = ((r ≡ count ds ∷ []) × (f ≡ Index) × HasAbove ds (count ds))
    ⊎ ((r ≡ suc (count ds) ∷ []) × (f ≡ Shape) × IsOneWay ds)

abbrev pub OfEdges : Data → List ℕ → ValueFail → Type 0
OfEdges d r f = OfArray (λ ds s g. AtItem OfListed ds s g ⊎ OfNodes ds s g) d r f

-- ---- lattices
abbrev pub items_in : Data → Items
items_in (array ds) = ds
items_in d = no_items

-- how many items the items have in all
abbrev pub count_in : Items → ℕ
count_in no_items = 0
count_in (item d ds) = count (items_in d) + count_in ds

-- and how many these
abbrev pub count_within : Items → ℕ
count_within no_items = 0
count_within (item d ds) = count_in (items_in d) + count_within ds

-- the first k items
abbrev pub first_items : ℕ → Items → Items
first_items zero ds = no_items
first_items (suc k) no_items = no_items
first_items (suc k) (item d ds) = item d (first_items k ds)

-- an index of a face, where k indices come before the face
abbrev pub OfPlace : ℕ → Items → ℕ → Data → List ℕ → ValueFail → Type 0
OfPlace k ds c d r f = OfIndex ds c d r f ⊎ OneTooMany most_places (k + c) r f

-- a face, where m faces with k indices come before it
abbrev pub OfFace : ℕ → ℕ → Data → List ℕ → ValueFail → Type 0
OfFace m k d r f = OfArray (λ ds s g. AtItem (OfPlace k ds) ds s g) d r f ⊎ OneTooMany most_faces m r f

-- the faces of a rank, where so many come before it
abbrev pub OfRank : ℕ → ℕ → Data → List ℕ → ValueFail → Type 0
OfRank m k d r f =
    OfArray (λ ds s g. AtItem (λ b. OfFace (m + b) (k + count_in (first_items b ds))) ds s g) d r f

abbrev pub OfLattice : Data → List ℕ → ValueFail → Type 0
OfLattice d r f =
    OfArray (λ ds s g.
    AtItem (λ a. OfRank (count_in (first_items a ds)) (count_within (first_items a ds))) ds s g) d r f

-- ---- whole numbers, truth values, numbers
-- it is no whole number of 64 bits, or for CONE_AMBIENT_DIM no dimension
abbrev pub NoWholeOf : PropId → Data → ValueFail → Type 0
NoWholeOf p (number n) f = ((f ≡ Number) × (as_i64 n ≡ None))
    ⊎ ((f ≡ Limit) × ((z : ℤ) × (as_i64 n ≡ Some z) × (is_ambient p ≡ true) × (is_dimension z ≡ false)))
NoWholeOf p d f = f ≡ Shape

abbrev pub NoTruth : Data → ValueFail → Type 0
NoTruth (boolean b) f = ⊥
NoTruth d f = f ≡ Shape

-- it is no fraction, and neither inf nor -inf
abbrev pub NoNumber : Data → ValueFail → Type 0
NoNumber (string s) f = NoFraction (string s) f × (bytes_eq s (codes "inf") ≡ false)
    × (bytes_eq s (codes "-inf") ≡ false)
NoNumber d f = NoFraction d f

-- ---- values
-- the fault stands there in d as a value of p, of this kind
abbrev pub HasFaultOf : ValueKind → PropId → Data → List ℕ → ValueFail → Type 0
HasFaultOf kind.Mat p d r f = OfMatrixOf p d r f
HasFaultOf kind.Sets p d r f = OfSets d r f
HasFaultOf kind.Counts p d r f = OfCounts d r f
HasFaultOf kind.Edges p d r f = OfEdges d r f
HasFaultOf kind.Int p d r f = (r ≡ []) × NoWholeOf p d f
HasFaultOf kind.Bool p d r f = (r ≡ []) × NoTruth d f
HasFaultOf kind.Number p d r f = (r ≡ []) × NoNumber d f
HasFaultOf kind.Lattice p d r f = OfLattice d r f

abbrev pub HasFault : PropId → Data → List ℕ → ValueFail → Type 0
HasFault p d r f = HasFaultOf (value_kind p) p d r f
