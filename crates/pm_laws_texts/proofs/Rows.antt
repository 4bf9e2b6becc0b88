-- The first fault of a row, and of the rows of a matrix.
use Rattle.pm_json.specs.Readings.{Read, and_then, before, entries_from, entry_of, first_row_of, is_fraction_text, items_of, later_row_from, later_rows_from, rows_from}
use Rattle.pm_json.specs.declared.fail.ValueFail.{ValueFail}
use Rattle.pm_json.specs.declared.fail.ValueFail.TheVariants.{Limit, Number, Shape}
use Rattle.pm_json.proofs.Parts.{and_then-ok, else-ok, err_ok, same_Ok, then-ok}
use Rattle.pm_laws_texts.proofs.FirstOfValue.{AtFirst, AtRest, array_tells, at_items, items_tell, item_below, made_tells, moved, same_place, same_tells, shape_first, shape_least, test_then, then_tells}
use Rattle.pm_laws_texts.specs.ValueFaults.{NoFraction, OfFirstEntry, OfFirstRow, OfLaterEntry, OfLaterRow, OfRow, OfRows, first_count}
use Rattle.pm_laws_texts.specs.Places.{AtItem, CountsFirst, IsFirst, OfArray, OneTooMany, Tells, TooFew, count, order}
use Rattle.pm_limits.specs.Limits.{most_rows}
use Rattle.pm_vector.specs.Numbers.{Ratio}
use Rattle.serde_json.specs.Data.{Data, Items, array, boolean, float, item, negative, no_items, null, number, object, string, unsigned}
use Rattle.std.proofs.Common.{ap, arith, false, inl, inr, refl, subst, sym, true, true≢false, cond, ltb, ◌∙◌}
use Rattle.std.proofs.lemmas.Bool.{eqb-false, eqb-true, ltb-false, ltb-true}
use Rattle.std.specs.Prelude.{Bool, Err, List, None, Ok, Some, [], if◌then◌else◌, length, nat_lt, suc, zero, ℕ, ◌+◌, ◌<◌, ◌==◌, ◌≡◌, ◌≤◌, ◌⊎◌, ◌∷◌}

-- ---- fractions
-- the fault of an element alone
abbrev pub Alone : (ValueFail → Type 0) → List ℕ → ValueFail → Type 0
Alone Is r f = (r ≡ []) × Is f

one_fault : (Is : ValueFail → Type 0) (f : ValueFail) → Is f → ((g : ValueFail) → Is g → g ≡ f) → (r : List ℕ) × IsFirst (Alone Is) r f
one_fault Is f is only = ([], record { stands = (refl, is); first = λ s g h. inr (sym h.0, subst (λ k. order f ≤ order k) (sym (only g h.1)) (omega arith)) })

-- one test
test_tells : {A : Type 0} (Is : ValueFail → Type 0) (b : Bool) (a : A) (f : ValueFail) → (b ≡ true → (g : ValueFail) → ¬ (Is g)) → (b ≡ false → Is f) → ((g : ValueFail) → Is g → g ≡ f) → Tells (Alone Is) (if b then Ok a else Err f)
test_tells Is true a f none is only = λ r g h. none refl g h.1
test_tells Is false a f none is only = one_fault Is f (is refl) only

pub entry_tells : (d : Data) → Tells (Alone (NoFraction d)) (entry_of d)
entry_tells null = one_fault (NoFraction null) Shape refl (λ g h. h)
entry_tells (boolean b) = one_fault (NoFraction (boolean b)) Shape refl (λ g h. h)
entry_tells (array ds) = one_fault (NoFraction (array ds)) Shape refl (λ g h. h)
entry_tells (object ms) = one_fault (NoFraction (object ms)) Shape refl (λ g h. h)
entry_tells (number (unsigned n)) = λ r f h. (let e : Some _ ≡ None = h.1.1 in cc)
entry_tells (number (negative z)) = λ r f h. (let e : Some _ ≡ None = h.1.1 in cc)
entry_tells (number (float x)) = one_fault (NoFraction (number (float x))) Number (refl, refl) (λ g h. h.0)
entry_tells (string s) = test_tells (NoFraction (string s)) (is_fraction_text s) _ Number (λ e g h. true≢false (sym e ∙ h.1)) (λ e. (refl, e)) (λ g h. h.0)

-- ---- a first row
fraction_before : (d : Data) (f : ValueFail) → NoFraction d f → order f ≤ 3
fraction_before null f h = subst (λ z. order z ≤ 3) (sym h) (omega arith)
fraction_before (boolean b) f h = subst (λ z. order z ≤ 3) (sym h) (omega arith)
fraction_before (array ds) f h = subst (λ z. order z ≤ 3) (sym h) (omega arith)
fraction_before (object ms) f h = subst (λ z. order z ≤ 3) (sym h) (omega arith)
fraction_before (number n) f h = subst (λ z. order z ≤ 3) (sym h.0) (omega arith)
fraction_before (string s) f h = subst (λ z. order z ≤ 3) (sym h.0) (omega arith)

not_less : (k most : ℕ) → nat_lt k most ≡ false → most ≤ k
not_less k most e = grind arith

-- the count of items before, tested
pub limit_tells : {A : Type 0} (most k : ℕ) (a : A) → Tells (OneTooMany most k) (if nat_lt k most then Ok a else Err Limit)
limit_tells most k a = by (nat_lt k most) refl
  where
    by : (b : Bool) → nat_lt k most ≡ b → Tells (OneTooMany most k) (if b then Ok a else Err Limit)
    by true e = λ r f h. (let l = ltb-true k most e in let m = h.2 in omega arith)
    by false e = ([], record { stands = (refl, refl, not_less k most e); first = λ s g h. inr (sym h.0, subst (λ z. 3 ≤ order z) (sym h.1) (omega arith)) })

-- a fault of the entry itself counts before that there are too many
first_entry_tells : (most k : ℕ) (d : Data) → Tells (OfFirstEntry most k d) (and_then (entry_of d) (λ q. if nat_lt k most then Ok q else Err Limit))
first_entry_tells most k d =
    then_tells (Alone (NoFraction d)) (OneTooMany most k) (OfFirstEntry most k d) (entry_of d) (λ q. if nat_lt k most then Ok q else Err Limit)
    (record { split = λ r f h. h; first = λ r f h. inl h; rest = λ r f h. inr h; before = λ r f s g h e. same_place r s f g h.0 e.0 (subst (λ z. order f ≤ order z) (sym e.1) (fraction_before d f h.1)) })
    (entry_tells d) (λ q is. limit_tells most k q)

-- the entries, of which the first has the number k
first_entries_tell : (most k : ℕ) (ds : Items) (m : ℕ → ℕ) → ((j : ℕ) → m j ≡ k + j) → Tells (AtItem (λ j. OfFirstEntry most (m j)) ds) (entries_from most k ds)
first_entries_tell most k no_items m at = none
  where
    none : (r : List ℕ) (f : ValueFail) → ¬ (AtItem (λ j. OfFirstEntry most (m j)) no_items r f)
    none [] f h = h
    none (i ∷ r) f h = let e = h.1 in cc
first_entries_tell most k (item d ds) m at =
    let more = first_entries_tell most (suc k) ds (λ j. m (suc j)) (λ j. (let e = at (suc j) in omega arith)) in
    let here = at 0 in
    subst (λ z. Tells (AtItem (λ j. OfFirstEntry most (m j)) (item d ds)) z) (sym (test_then (entry_of d) (nat_lt k most) Limit (λ q. before q (entries_from most (suc k) ds))))
    (items_tell (OfFirstEntry most (m 0) d) (AtItem (λ j. OfFirstEntry most (m (suc j))) ds) (AtItem (λ j. OfFirstEntry most (m j)) (item d ds))
    (and_then (entry_of d) (λ q. if nat_lt k most then Ok q else Err Limit)) (λ q. before q (entries_from most (suc k) ds))
    (at_items (λ j. OfFirstEntry most (m j)) d ds) (λ r f h. (d, refl, h)) (λ i r f h. h) (λ f h. h)
    (subst (λ n. Tells (OfFirstEntry most n d) (and_then (entry_of d) (λ q. if nat_lt k most then Ok q else Err Limit))) (sym_at k (m 0) here) (first_entry_tells most k d))
    (λ q is. made_tells (AtItem (λ j. OfFirstEntry most (m (suc j))) ds) (entries_from most (suc k) ds) (λ rest. q ∷ rest) more))
  where
    sym_at : (k n : ℕ) → n ≡ k + 0 → k ≡ n
    sym_at k n e = omega arith

pub entries_count : (most k : ℕ) (ds : Items) (r : List Ratio) → entries_from most k ds ≡ Ok r → length r ≡ count ds
entries_count most k no_items r e = subst (λ (w : List Ratio). length w ≡ 0) (same_Ok [] r e) refl
entries_count most k (item d ds) r e =
    and_then-ok (entry_of d) (λ q. cond (ltb k most) (before q (entries_from most (suc k) ds)) (Err Limit)) r e
    (λ q is f. let p = then-ok (ltb k most) (before q (entries_from most (suc k) ds)) Limit r f in
    and_then-ok (entries_from most (suc k) ds) (λ qs. Ok (q ∷ qs)) r p.1
    (λ qs left g.
    let rest = entries_count most (suc k) ds qs left in
    subst (λ (w : List Ratio). length w ≡ suc (count ds)) (same_Ok (q ∷ qs) r g) (omega arith)))

-- the end of a list, tested
less_at_end : (f : ValueFail) (least n : ℕ) (ds : Items) → n ≡ count ds → (r : List Ratio) → Tells (TooFew f least ds) (if nat_lt n least then Err f else Ok r)
less_at_end f least n ds e r = by (nat_lt n least) refl
  where
    by : (b : Bool) → nat_lt n least ≡ b → Tells (TooFew f least ds) (if b then Err f else Ok r)
    by true h = (count ds ∷ [], record { stands = (refl, refl, (let l = ltb-true n least h in omega arith)); first = λ s g k. inr (sym k.0, subst (λ z. order f ≤ order z) (sym k.1) (omega arith)) })
    by false h = λ s g k. (let l = ltb-false n least h in let m = k.2 in omega arith)

-- an item comes before the end
pub before_end : (Has : ℕ → Data → List ℕ → ValueFail → Type 0) (ds : Items) (r : List ℕ) (f : ValueFail) (s : List ℕ) (g : ValueFail) → AtItem Has ds r f → s ≡ count ds ∷ [] → CountsFirst r f s g
before_end Has ds [] f s g h e = absurd h
before_end Has ds (i ∷ r) f s g (d, is, has) e = subst (λ z. CountsFirst (i ∷ r) f z g) (sym e) (inl (inl (item_below ds i d is)))

pub first_row_tells : (least most : ℕ) (ds : Items) → Tells (OfFirstRow least most ds) (first_row_of least most ds)
first_row_tells least most ds =
    then_tells (AtItem (OfFirstEntry most) ds) (TooFew Limit least ds) (OfFirstRow least most ds) (entries_from most 0 ds) (λ r. if nat_lt (length r) least then Err Limit else Ok r)
    (record { split = λ r f h. h; first = λ r f h. inl h; rest = λ r f h. inr h; before = λ r f s g h e. before_end (OfFirstEntry most) ds r f s g h e.0 })
    (first_entries_tell most 0 ds (λ j. j) (λ j. omega arith)) (λ r is. less_at_end Limit least (length r) ds (entries_count most 0 ds r is) r)

-- ---- a later row
-- the end of the entries that are left, of which m come in all
abbrev EndsEarly : ℕ → ℕ → Items → List ℕ → ValueFail → Type 0
EndsEarly n m ds r f = (r ≡ count ds ∷ []) × (f ≡ Shape) × (m < n)

abbrev OfLaterFrom : ℕ → (ℕ → ℕ) → Items → List ℕ → ValueFail → Type 0
OfLaterFrom n m ds r f = AtItem (λ j. OfLaterEntry n (m j)) ds r f ⊎ EndsEarly n (m (count ds)) ds r f

never_empty : (n : ℕ) (m : ℕ → ℕ) (ds : Items) (f : ValueFail) → ¬ (OfLaterFrom n m ds [] f)
never_empty n m ds f (inl h) = h
never_empty n m ds f (inr h) = let e = h.0 in cc

later_split : (n : ℕ) (m : ℕ → ℕ) (d : Data) (ds : Items) (r : List ℕ) (f : ValueFail) → OfLaterFrom n m (item d ds) r f → AtFirst (OfLaterEntry n (m 0) d) r f ⊎ AtRest (OfLaterFrom n (λ j. m (suc j)) ds) r f
later_split n m d ds r f (inl h) = elim (at_items (λ j. OfLaterEntry n (m j)) d ds r f h) [
  | inl x ↦ inl x
  | inr y ↦ inr (rest_of r y)
]
  where
    rest_of : (r : List ℕ) → AtRest (AtItem (λ j. OfLaterEntry n (m (suc j))) ds) r f → AtRest (OfLaterFrom n (λ j. m (suc j)) ds) r f
    rest_of [] y = y
    rest_of (zero ∷ r) y = y
    rest_of (suc i ∷ r) y = inl y
later_split n m d ds r f (inr h) = inr (subst (λ z. AtRest (OfLaterFrom n (λ j. m (suc j)) ds) z f) (sym h.0) (inr (refl, h.1, h.2)))

later_more : (n : ℕ) (m : ℕ → ℕ) (d : Data) (ds : Items) (i : ℕ) (r : List ℕ) (f : ValueFail) → OfLaterFrom n (λ j. m (suc j)) ds (i ∷ r) f → OfLaterFrom n m (item d ds) (suc i ∷ r) f
later_more n m d ds i r f (inl h) = inl h
later_more n m d ds i r f (inr h) = inr (ap moved h.0, h.1, h.2)

later_entries_tell : (n k : ℕ) (ds : Items) (m : ℕ → ℕ) → ((j : ℕ) → m j ≡ k + j) → k ≤ n → Tells (OfLaterFrom n m ds) (later_row_from n k ds)
later_entries_tell n k no_items m at low = by (k == n) refl
  where
    here : m 0 ≡ k + 0
    here = at 0

    no_item : (r : List ℕ) (f : ValueFail) → ¬ (AtItem (λ j. OfLaterEntry n (m j)) no_items r f)
    no_item [] f h = h
    no_item (i ∷ r) f h = let e = h.1 in cc

    by : (b : Bool) → (k == n) ≡ b → Tells (OfLaterFrom n m no_items) (let r : Read (List Ratio) = if b then Ok [] else Err Shape in r)
    by true e = λ r f h. elim h [
      | inl x ↦ no_item r f x
      | inr y ↦ (let same = eqb-true k n e in let less = y.2 in omega arith)
    ]
    by false e = (
      0 ∷ [],
      record {
        stands = inr (refl, refl, (let other = eqb-false k n e in omega arith));
        first = λ s g h. elim h [
          | inl x ↦ absurd (no_item s g x)
          | inr y ↦ inr (sym y.0, subst (λ z. 0 ≤ order z) (sym y.1) (omega arith))
        ];
      },
    )
later_entries_tell n k (item d ds) m at low = by (nat_lt k n) refl (λ l. later_entries_tell n (suc k) ds (λ j. m (suc j)) (λ j. (let f = at (suc j) in omega arith)) (omega (arith, l)))
  where
    here : m 0 ≡ k + 0
    here = at 0

    by : (b : Bool) → nat_lt k n ≡ b → (k < n → Tells (OfLaterFrom n (λ j. m (suc j)) ds) (later_row_from n (suc k) ds)) → Tells (OfLaterFrom n m (item d ds)) (if b then and_then (entry_of d) (λ q. before q (later_row_from n (suc k) ds)) else Err Shape)
    by false e more = (0 ∷ [], record { stands = inl (d, refl, (refl, inr (refl, (let l = ltb-false k n e in omega arith)))); first = λ s g h. zero_first s g (later_split n m d ds s g h) })
      where
        zero_first : (s : List ℕ) (g : ValueFail) → AtFirst (OfLaterEntry n (m 0) d) s g ⊎ AtRest (OfLaterFrom n (λ j. m (suc j)) ds) s g → CountsFirst (0 ∷ []) Shape s g
        zero_first [] g (inl h) = absurd h
        zero_first [] g (inr h) = absurd h
        zero_first (zero ∷ s) g (inl h) = inr (ap (λ t. 0 ∷ t) (sym h.0), shape_least g)
        zero_first (zero ∷ s) g (inr h) = absurd h
        zero_first (suc i ∷ s) g (inl h) = absurd h
        zero_first (suc i ∷ s) g (inr h) = inl (inl (omega arith))
    by true e more =
        let l = ltb-true k n e in
        items_tell (OfLaterEntry n (m 0) d) (OfLaterFrom n (λ j. m (suc j)) ds) (OfLaterFrom n m (item d ds)) (entry_of d) (λ q. before q (later_row_from n (suc k) ds))
        (later_split n m d ds) (λ r f h. inl (d, refl, h)) (later_more n m d ds) (never_empty n (λ j. m (suc j)) ds)
        (same_tells (Alone (NoFraction d)) (OfLaterEntry n (m 0) d) (entry_of d) (λ r f h. (h.0, inl h.1)) (λ r f h. (
          h.0,
          elim h.1 [
            | inl x ↦ x
            | inr y ↦ (let more = y.1 in absurd (omega arith))
          ],
        )) (entry_tells d))
        (λ q is. made_tells (OfLaterFrom n (λ j. m (suc j)) ds) (later_row_from n (suc k) ds) (λ rest. q ∷ rest) (more l))

later_row_tells : (n : ℕ) (ds : Items) → Tells (OfLaterRow n ds) (later_row_from n 0 ds)
later_row_tells n ds = later_entries_tell n 0 ds (λ j. j) (λ j. omega arith) (omega arith)

-- ---- the rows
-- a fault in a row stands behind the fault that there are too many rows
inside_later : (n : ℕ) (ds : Items) (f : ValueFail) → ¬ (OfLaterRow n ds [] f)
inside_later n ds f (inl h) = h
inside_later n ds f (inr h) = let e = h.0 in cc

-- the row of number k > 0, and the test of k
row_tells : (least most n k : ℕ) (d : Data) → Tells (OfRow least most n (suc k) d) (and_then (items_of d) (λ es. if nat_lt (suc k) most_rows then later_row_from n 0 es else Err Limit))
row_tells least most n k d = by (nat_lt (suc k) most_rows) refl
  where
    by : (b : Bool) → nat_lt (suc k) most_rows ≡ b → Tells (OfRow least most n (suc k) d) (and_then (items_of d) (λ es. if b then later_row_from n 0 es else Err Limit))
    by true e =
        same_tells (OfArray (OfLaterRow n) d) (OfRow least most n (suc k) d) (and_then (items_of d) (later_row_from n 0)) (λ r f h. inl h)
        (λ r f h. elim h [
          | inl x ↦ x
          | inr y ↦ (let l = ltb-true (suc k) most_rows e in let m = y.2 in absurd (omega arith))
        ])
        (array_tells (OfLaterRow n) d (later_row_from n 0) (λ es is. later_row_tells n es))
    by false e = too_many d
      where
        many : most_rows ≤ suc k
        many = let l = ltb-false (suc k) most_rows e in omega arith

        too_many : (d : Data) → Tells (OfRow least most n (suc k) d) (and_then (items_of d) (λ es. let r : Read (List Ratio) = Err Limit in r))
        too_many null = ([], shape_first (OfRow least most n (suc k) null) (inl (refl, refl)))
        too_many (boolean b) = ([], shape_first (OfRow least most n (suc k) (boolean b)) (inl (refl, refl)))
        too_many (number x) = ([], shape_first (OfRow least most n (suc k) (number x)) (inl (refl, refl)))
        too_many (string s) = ([], shape_first (OfRow least most n (suc k) (string s)) (inl (refl, refl)))
        too_many (object ms) = ([], shape_first (OfRow least most n (suc k) (object ms)) (inl (refl, refl)))
        too_many (array es) = ([], record { stands = inr (refl, refl, many); first = first })
          where
            first : (s : List ℕ) (g : ValueFail) → OfRow least most n (suc k) (array es) s g → CountsFirst [] Limit s g
            first [] g (inl h) = absurd (inside_later n es g h)
            first [] g (inr h) = inr (refl, subst (λ z. 3 ≤ order z) (sym h.1) (omega arith))
            first (i ∷ s) g h = inl tt

pub row_then : {A B C : Type 0} (read : Read A) (b : Bool) (row : A → Read B) (next : B → Read C) → and_then read (λ a. if b then and_then (row a) next else Err Limit) ≡ and_then (and_then read (λ a. if b then row a else Err Limit)) next
row_then (Ok a) true row next = refl
row_then (Ok a) false row next = refl
row_then (Err f) b row next = refl

pub then_then : {A B C : Type 0} (read : Read A) (row : A → Read B) (next : B → Read C) → and_then read (λ a. and_then (row a) next) ≡ and_then (and_then read row) next
then_then (Ok a) row next = refl
then_then (Err f) row next = refl

-- the length of a first row
pub first_width : (least most : ℕ) (d : Data) (ds : Items) (r : List Ratio) → and_then (items_of d) (first_row_of least most) ≡ Ok r → length r ≡ first_count (item d ds)
first_width least most null ds r e = absurd (err_ok Shape r e)
first_width least most (boolean b) ds r e = absurd (err_ok Shape r e)
first_width least most (number n) ds r e = absurd (err_ok Shape r e)
first_width least most (string s) ds r e = absurd (err_ok Shape r e)
first_width least most (object ms) ds r e = absurd (err_ok Shape r e)
first_width least most (array es) ds r e =
    and_then-ok (entries_from most 0 es) (λ q. cond (ltb (length q) least) (Err Limit) (Ok q)) r e
    (λ q is f. let p = else-ok (ltb (length q) least) (Ok q) Limit r f in subst (λ (w : List Ratio). length w ≡ count es) (same_Ok q r p.1) (entries_count most 0 es q is))

later_rows_tell : (least most n k : ℕ) (ds : Items) (m : ℕ → ℕ) → ((j : ℕ) → m j ≡ suc k + j) → Tells (AtItem (λ j. OfRow least most n (m j)) ds) (later_rows_from n (suc k) ds)
later_rows_tell least most n k no_items m at = none
  where
    none : (r : List ℕ) (f : ValueFail) → ¬ (AtItem (λ j. OfRow least most n (m j)) no_items r f)
    none [] f h = h
    none (i ∷ r) f h = let e = h.1 in cc
later_rows_tell least most n k (item d ds) m at =
    let more = later_rows_tell least most n (suc k) ds (λ j. m (suc j)) (λ j. (let e = at (suc j) in omega arith)) in
    let here : suc k ≡ m 0 = (let e = at 0 in omega arith) in
    subst (λ z. Tells (AtItem (λ j. OfRow least most n (m j)) (item d ds)) z) (sym (row_then (items_of d) (nat_lt (suc k) most_rows) (later_row_from n 0) (λ r. before r (later_rows_from n (suc (suc k)) ds))))
    (items_tell (OfRow least most n (m 0) d) (AtItem (λ j. OfRow least most n (m (suc j))) ds) (AtItem (λ j. OfRow least most n (m j)) (item d ds))
    (and_then (items_of d) (λ es. if nat_lt (suc k) most_rows then later_row_from n 0 es else Err Limit)) (λ r. before r (later_rows_from n (suc (suc k)) ds))
    (at_items (λ j. OfRow least most n (m j)) d ds) (λ r f h. (d, refl, h)) (λ i r f h. h) (λ f h. h)
    (subst (λ z. Tells (OfRow least most n z d) (and_then (items_of d) (λ es. if nat_lt (suc k) most_rows then later_row_from n 0 es else Err Limit))) here (row_tells least most n k d))
    (λ r is. made_tells (AtItem (λ j. OfRow least most n (m (suc j))) ds) (later_rows_from n (suc (suc k)) ds) (λ rest. r ∷ rest) more))

pub rows_tell : (least most : ℕ) (ds : Items) → Tells (OfRows least most ds) (rows_from least most ds)
rows_tell least most no_items = none
  where
    none : (r : List ℕ) (f : ValueFail) → ¬ (OfRows least most no_items r f)
    none [] f h = h
    none (i ∷ r) f h = let e = h.1 in cc
rows_tell least most (item d ds) =
    let n = first_count (item d ds) in
    subst (λ z. Tells (OfRows least most (item d ds)) z) (sym (then_then (items_of d) (first_row_of least most) (λ r. and_then (before r (later_rows_from (length r) 1 ds)) (λ rows. Ok (record { cols = length r; rows = rows })))))
    (items_tell (OfRow least most n 0 d) (AtItem (λ j. OfRow least most n (suc j)) ds) (OfRows least most (item d ds))
    (and_then (items_of d) (first_row_of least most)) (λ r. and_then (before r (later_rows_from (length r) 1 ds)) (λ rows. Ok (record { cols = length r; rows = rows })))
    (at_items (OfRow least most n) d ds) (λ r f h. (d, refl, h)) (λ i r f h. h) (λ f h. h)
    (array_tells (OfFirstRow least most) d (first_row_of least most) (λ es is. first_row_tells least most es))
    (λ r is.
    let wide : length r ≡ first_count (item d ds) = first_width least most d ds r is in
    made_tells (AtItem (λ j. OfRow least most n (suc j)) ds) (before r (later_rows_from (length r) 1 ds)) (λ rows. record { cols = length r; rows = rows })
    (made_tells (AtItem (λ j. OfRow least most n (suc j)) ds) (later_rows_from (length r) 1 ds) (λ rest. r ∷ rest)
    (subst (λ z. Tells (AtItem (λ j. OfRow least most n (suc j)) ds) (later_rows_from z 1 ds)) (sym wide) (later_rows_tell least most n 0 ds (λ j. suc j) (λ j. omega arith))))))
