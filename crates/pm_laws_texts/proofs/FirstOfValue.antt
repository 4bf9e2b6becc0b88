-- Readings that tell the first fault: of parts that are read one after the other, of arrays, of the items of a list.
use Rattle.pm_json.specs.Readings.{Read, and_then, items_of}
use Rattle.pm_json.specs.declared.fail.ValueFail.{ValueFail}
use Rattle.pm_json.specs.declared.fail.ValueFail.TheVariants.{Index, Limit, Memory, Number, Shape}
use Rattle.pm_laws_texts.specs.Places.{AtItem, CountsFirst, IsFirst, OfArray, Tells, count, order}
use Rattle.serde_json.specs.Data.{Data, Items, array, boolean, item, no_items, null, number, object, string}
use Rattle.serde_json.specs.Find.{get_item}
use Rattle.std.proofs.Common.{ap, arith, false, inl, inr, refl, subst, sym, true, ◌∙◌}
use Rattle.std.specs.Prelude.{Bool, Err, List, Ok, Some, [], if◌then◌else◌, suc, zero, ℕ, ◌<◌, ◌≡◌, ◌≤◌, ◌⊎◌, ◌∷◌}

-- ---- one part after the other
-- the faults of the whole are those of the first part and those of the rest, which come later
pub record AreParts (First Rest Whole : List ℕ → ValueFail → Type 0) : Type 0 where
  pub split : (r : List ℕ) (f : ValueFail) → Whole r f → First r f ⊎ Rest r f
  pub first : (r : List ℕ) (f : ValueFail) → First r f → Whole r f
  pub rest : (r : List ℕ) (f : ValueFail) → Rest r f → Whole r f
  pub before : (r : List ℕ) (f : ValueFail) (s : List ℕ) (g : ValueFail) → First r f → Rest s g → CountsFirst r f s g

first_fails : (First Rest Whole : List ℕ → ValueFail → Type 0) (f : ValueFail) → AreParts First Rest Whole → (r : List ℕ) × IsFirst First r f → (r : List ℕ) × IsFirst Whole r f
first_fails First Rest Whole f parts (r, is) = (
  r,
  record {
    stands = parts.first r f is.stands;
    first = λ s g h. elim (parts.split s g h) [
      | inl x ↦ is.first s g x
      | inr y ↦ parts.before r f s g is.stands y
    ];
  },
)

rest_tells : {B : Type 0} (First Rest Whole : List ℕ → ValueFail → Type 0) (read : Read B) → AreParts First Rest Whole → ((r : List ℕ) (f : ValueFail) → ¬ (First r f)) → Tells Rest read → Tells Whole read
rest_tells First Rest Whole (Ok b) parts none told = λ r f h. elim (parts.split r f h) [
  | inl x ↦ none r f x
  | inr y ↦ told r f y
]
rest_tells First Rest Whole (Err f) parts none (r, is) = (
  r,
  record {
    stands = parts.rest r f is.stands;
    first = λ s g h. elim (parts.split s g h) [
      | inl x ↦ absurd (none s g x)
      | inr y ↦ is.first s g y
    ];
  },
)

pub then_tells : {A B : Type 0} (First Rest Whole : List ℕ → ValueFail → Type 0) (first : Read A) (next : A → Read B) → AreParts First Rest Whole → Tells First first → ((a : A) → first ≡ Ok a → Tells Rest (next a))
    → Tells Whole (and_then first next)
then_tells First Rest Whole (Err f) next parts told rest = first_fails First Rest Whole f parts told
then_tells First Rest Whole (Ok a) next parts told rest = rest_tells First Rest Whole (next a) parts told (rest a refl)

-- what is made of it has no faults of its own
pub made_tells : {A B : Type 0} (Stands : List ℕ → ValueFail → Type 0) (read : Read A) (make : A → B) → Tells Stands read → Tells Stands (and_then read (λ a. Ok (make a)))
made_tells Stands (Ok a) make told = told
made_tells Stands (Err f) make told = told

-- the same faults, said otherwise
pub same_tells : {A : Type 0} (Stands Others : List ℕ → ValueFail → Type 0) (read : Read A) → ((r : List ℕ) (f : ValueFail) → Stands r f → Others r f) → ((r : List ℕ) (f : ValueFail) → Others r f → Stands r f)
    → Tells Stands read → Tells Others read
same_tells Stands Others (Ok a) to back told = λ r f h. told r f (back r f h)
same_tells Stands Others (Err f) to back (r, is) = (r, record { stands = to r f is.stands; first = λ s g h. is.first s g (back s g h) })

-- ---- faults of one element
-- a fault at the element itself counts before those in it
pub here_first : (f : ValueFail) (i : ℕ) (s : List ℕ) (g : ValueFail) → CountsFirst [] f (i ∷ s) g
here_first f i s g = inl tt

pub same_place : (r s : List ℕ) (f g : ValueFail) → r ≡ [] → s ≡ [] → order f ≤ order g → CountsFirst r f s g
same_place r s f g e h k = inr (e ∙ sym h, k)

pub shape_least : (g : ValueFail) → order Shape ≤ order g
shape_least Shape = omega arith
shape_least Number = omega arith
shape_least Index = omega arith
shape_least Limit = omega arith
shape_least Memory = omega arith

-- a wrong shape of the element itself is the first of all faults
pub shape_first : (Stands : List ℕ → ValueFail → Type 0) → Stands [] Shape → IsFirst Stands [] Shape
shape_first Stands h = record { stands = h; first = first }
  where
    first : (s : List ℕ) (g : ValueFail) → Stands s g → CountsFirst [] Shape s g
    first [] g k = inr (refl, shape_least g)
    first (i ∷ s) g k = inl tt

-- ---- arrays
pub array_tells : {A : Type 0} (Has : Items → List ℕ → ValueFail → Type 0) (d : Data) (read : Items → Read A) → ((ds : Items) → d ≡ array ds → Tells (Has ds) (read ds)) → Tells (OfArray Has d) (and_then (items_of d) read)
array_tells Has null read told = ([], shape_first (OfArray Has null) (refl, refl))
array_tells Has (boolean b) read told = ([], shape_first (OfArray Has (boolean b)) (refl, refl))
array_tells Has (number n) read told = ([], shape_first (OfArray Has (number n)) (refl, refl))
array_tells Has (string s) read told = ([], shape_first (OfArray Has (string s)) (refl, refl))
array_tells Has (object ms) read told = ([], shape_first (OfArray Has (object ms)) (refl, refl))
array_tells Has (array ds) read told = told ds refl

-- ---- items, one after the other
-- the faults of the first item, and of the rest, where an item is counted from the first of the rest
abbrev pub AtFirst : (List ℕ → ValueFail → Type 0) → List ℕ → ValueFail → Type 0
AtFirst Stands (zero ∷ r) f = Stands r f
AtFirst Stands r f = ⊥

abbrev pub AtRest : (List ℕ → ValueFail → Type 0) → List ℕ → ValueFail → Type 0
AtRest Stands (suc i ∷ r) f = Stands (i ∷ r) f
AtRest Stands r f = ⊥

first_tells : {A : Type 0} (Stands : List ℕ → ValueFail → Type 0) (read : Read A) → Tells Stands read → Tells (AtFirst Stands) read
first_tells Stands (Ok a) told = none
  where
    none : (r : List ℕ) (f : ValueFail) → ¬ (AtFirst Stands r f)
    none [] f h = h
    none (zero ∷ r) f h = told r f h
    none (suc i ∷ r) f h = h
first_tells Stands (Err f) (r, is) = (0 ∷ r, record { stands = is.stands; first = first })
  where
    first : (s : List ℕ) (g : ValueFail) → AtFirst Stands s g → CountsFirst (0 ∷ r) f s g
    first [] g h = absurd h
    first (suc i ∷ s) g h = absurd h
    first (zero ∷ s) g h = elim (is.first s g h) [
      | inl before ↦ inl (inr (refl, before))
      | inr same ↦ inr (ap (λ t. 0 ∷ t) same.0, same.1)
    ]

abbrev pub moved : List ℕ → List ℕ
moved [] = []
moved (k ∷ t) = suc k ∷ t

-- a fault of the rest stands at an item or at the end
rest_tells_later : {A : Type 0} (Stands : List ℕ → ValueFail → Type 0) (read : Read A) → ((f : ValueFail) → ¬ (Stands [] f)) → Tells Stands read → Tells (AtRest Stands) read
rest_tells_later Stands (Ok a) within told = none
  where
    none : (r : List ℕ) (f : ValueFail) → ¬ (AtRest Stands r f)
    none [] f h = h
    none (zero ∷ r) f h = h
    none (suc i ∷ r) f h = told (i ∷ r) f h
rest_tells_later Stands (Err f) within ([], is) = absurd (within f is.stands)
rest_tells_later Stands (Err f) within (i ∷ r, is) = (suc i ∷ r, record { stands = is.stands; first = first })
  where
    later : (s : List ℕ) (g : ValueFail) (j : ℕ) → CountsFirst (i ∷ r) f (j ∷ s) g → CountsFirst (suc i ∷ r) f (suc j ∷ s) g
    later s g j (inl (inl less)) = inl (inl (omega arith))
    later s g j (inl (inr (same, before))) = inl (inr (ap suc same, before))
    later s g j (inr (same, least)) = inr (ap moved same, least)

    first : (s : List ℕ) (g : ValueFail) → AtRest Stands s g → CountsFirst (suc i ∷ r) f s g
    first [] g h = absurd h
    first (zero ∷ s) g h = absurd h
    first (suc j ∷ s) g h = later s g j (is.first (j ∷ s) g h)

-- an item and then the rest
pub items_tell : {A B : Type 0} (First Rest Whole : List ℕ → ValueFail → Type 0) (first : Read A) (next : A → Read B) → ((r : List ℕ) (f : ValueFail) → Whole r f → AtFirst First r f ⊎ AtRest Rest r f)
    → ((r : List ℕ) (f : ValueFail) → First r f → Whole (0 ∷ r) f) → ((i : ℕ) (r : List ℕ) (f : ValueFail) → Rest (i ∷ r) f → Whole (suc i ∷ r) f) → ((f : ValueFail) → ¬ (Rest [] f))
    → Tells First first → ((a : A) → first ≡ Ok a → Tells Rest (next a)) → Tells Whole (and_then first next)
items_tell First Rest Whole first next split one more within told rest =
    then_tells (AtFirst First) (AtRest Rest) Whole first next
    (record { split = split; first = to_first; rest = to_rest; before = before })
    (first_tells First first told) (λ a is. rest_tells_later Rest (next a) within (rest a is))
  where
    to_first : (r : List ℕ) (f : ValueFail) → AtFirst First r f → Whole r f
    to_first [] f h = absurd h
    to_first (zero ∷ r) f h = one r f h
    to_first (suc i ∷ r) f h = absurd h

    to_rest : (r : List ℕ) (f : ValueFail) → AtRest Rest r f → Whole r f
    to_rest [] f h = absurd h
    to_rest (zero ∷ r) f h = absurd h
    to_rest (suc i ∷ r) f h = more i r f h

    before : (r : List ℕ) (f : ValueFail) (s : List ℕ) (g : ValueFail) → AtFirst First r f → AtRest Rest s g → CountsFirst r f s g
    before [] f s g h k = absurd h
    before (suc i ∷ r) f s g h k = absurd h
    before (zero ∷ r) f [] g h k = absurd k
    before (zero ∷ r) f (zero ∷ s) g h k = absurd k
    before (zero ∷ r) f (suc j ∷ s) g h k = inl (inl (omega arith))

-- a test between two parts
pub test_then : {A B : Type 0} (read : Read A) (b : Bool) (f : ValueFail) (next : A → Read B) → and_then read (λ a. if b then next a else Err f) ≡ and_then (and_then read (λ a. if b then Ok a else Err f)) next
test_then (Ok a) true f next = refl
test_then (Ok a) false f next = refl
test_then (Err g) b f next = refl

-- ---- items of a list
pub item_below : (ds : Items) (i : ℕ) (d : Data) → get_item i ds ≡ Some d → i < count ds
item_below no_items i d h = cc
item_below (item e ds) zero d h = omega arith
item_below (item e ds) (suc i) d h = let l = item_below ds i d h in omega arith

pub some_is : {X : Type 0} {x y : X} → Some x ≡ Some y → x ≡ y
some_is h = cc

-- a fault at an item is one at the first item, or at one of the rest
pub at_items : (Has : ℕ → Data → List ℕ → ValueFail → Type 0) (d : Data) (ds : Items) (r : List ℕ) (f : ValueFail) → AtItem Has (item d ds) r f → AtFirst (Has 0 d) r f ⊎ AtRest (AtItem (λ i. Has (suc i)) ds) r f
at_items Has d ds [] f h = absurd h
at_items Has d ds (zero ∷ r) f h = let (e, is, has) = h in inl (subst (λ z. Has 0 z r f) (sym (some_is is)) has)
at_items Has d ds (suc i ∷ r) f h = inr h
