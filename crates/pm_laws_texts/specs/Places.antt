-- Faults at places of a JSON value, in reading order. A place is the way to an element: the number of an item, then
-- that of an item in it, and so on; the number after that of the last item is the end of an array.
use Rattle.std.specs.Prelude.{ℕ, suc, ◌≡◌, ◌<◌, ◌≤◌, ◌⊎◌, ⊤, List, [], ◌∷◌, Err, Ok, Result, Some}
use Rattle.pm_json.specs.declared.fail.ValueFail.{ValueFail}
use Rattle.pm_json.specs.declared.fail.ValueFail.TheVariants.{Index, Limit, Memory, Number, Shape}
use Rattle.serde_json.specs.Data.{Data, Items, array, item, no_items}
use Rattle.serde_json.specs.Find.{get_item}

-- r is read before s: it leads to a less item where both part, or s leads further
abbrev pub IsReadBefore : List ℕ → List ℕ → Type 0
IsReadBefore r [] = ⊥
IsReadBefore [] (j ∷ s) = ⊤
IsReadBefore (i ∷ r) (j ∷ s) = (i < j) ⊎ ((i ≡ j) × IsReadBefore r s)

-- the order of the faults of one element
abbrev pub order : ValueFail → ℕ
order Shape = 0
order Number = 1
order Index = 2
order Limit = 3
order Memory = 4

-- the fault f at r counts before g at s, or is the same
abbrev pub CountsFirst : List ℕ → ValueFail → List ℕ → ValueFail → Type 0
CountsFirst r f s g = IsReadBefore r s ⊎ ((r ≡ s) × (order f ≤ order g))

-- f at r is the first of the faults that stand somewhere
pub record IsFirst (Stands : List ℕ → ValueFail → Type 0) (r : List ℕ) (f : ValueFail) : Type 0 where
  pub stands : Stands r f
  pub first : (s : List ℕ) (g : ValueFail) → Stands s g → CountsFirst r f s g

-- what a reading tells of the faults that stand somewhere: where it is Ok there is none, and else its fault is the
-- first
abbrev pub Tells : {A : Type 0} → (List ℕ → ValueFail → Type 0) → Result A ValueFail → Type 0
Tells Stands (Ok a) = (r : List ℕ) (f : ValueFail) → ¬ (Stands r f)
Tells Stands (Err f) = (r : List ℕ) × IsFirst Stands r f

-- ---- arrays
abbrev pub count : Items → ℕ
count no_items = 0
count (item d ds) = suc (count ds)

-- the fault is one of an item: Has says which faults the item of a number has, and where in it
abbrev pub AtItem : (ℕ → Data → List ℕ → ValueFail → Type 0) → Items → List ℕ → ValueFail → Type 0
AtItem Has ds [] f = ⊥
AtItem Has ds (i ∷ r) f = (d : Data) × (get_item i ds ≡ Some d) × Has i d r f

-- it is that this is no array, or one of its items
abbrev pub OfArray : (Items → List ℕ → ValueFail → Type 0) → Data → List ℕ → ValueFail → Type 0
OfArray Has (array ds) r f = Has ds r f
OfArray Has d r f = (r ≡ []) × (f ≡ Shape)

-- it is that there are so many items before, of `most`
abbrev pub OneTooMany : ℕ → ℕ → List ℕ → ValueFail → Type 0
OneTooMany most k r f = (r ≡ []) × (f ≡ Limit) × (most ≤ k)

-- it stands at the end, where there are fewer than `least` items
abbrev pub TooFew : ValueFail → ℕ → Items → List ℕ → ValueFail → Type 0
TooFew g least ds r f = (r ≡ count ds ∷ []) × (f ≡ g) × (count ds < least)
