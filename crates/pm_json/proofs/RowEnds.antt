-- The reading of a row an item at a time, and where it ends: behind the last item, and at the first that has a fault.
use Rattle.std.proofs.Common.{refl, sym, ap, ◌∙◌, ◌≡◌, ◌≢◌, ◌≤◌, ◌<◌, ℕ, suc, List, [], ◌∷◌, ◌++◌, length, drop, drop-cons, Ok, Err, append-nil, length-append, arith}
use Rattle.std.proofs.lemmas.Bool.{lt-ltb, le-ltb, eq-eqb, ne_eqb}
use Rattle.serde_json.specs.Data.{Data, Items, no_items, item}
use Rattle.pm_vector.specs.Numbers.{Ratio}
use Rattle.pm_json.specs.Readings.{entry_of, entries_from, later_row_from, with_front}
use Rattle.pm_json.specs.declared.fail.ValueFail.{ValueFail}
use Rattle.pm_json.specs.declared.fail.ValueFail.TheVariants.{Shape, Limit}
use Rattle.pm_json.proofs.Readings.{with_front-before}
use Rattle.serde_json.specs.declared.value.Value.{Value}

-- the item that is read next, before those that follow
pub next_item : (vs : List Value) (i : ℕ) (v : Value) → i < length vs → v ≡ lib.ListN.get_or vs i v → drop i vs ≡ v ∷ drop (suc i) vs
next_item vs i v within is = drop-cons vs i v within ∙ ap (λ w. w ∷ drop (suc i) vs) (sym is)

pub later_row_from-long : (n : ℕ) (front : List Ratio) (d : Data) (ds : Items) → n ≤ length front → with_front front (later_row_from n (length front) (item d ds)) ≡ Err Shape
later_row_from-long n front d ds full = rw (le-ltb (length front) n full) refl

pub later_row_from-whole : (n : ℕ) (front : List Ratio) → length front ≡ n → with_front front (later_row_from n (length front) no_items) ≡ Ok front
later_row_from-whole n front whole = rw (eq-eqb (length front) n whole) (ap (λ l. Ok l) (append-nil front))

pub later_row_from-short : (n : ℕ) (front : List Ratio) → length front ≢ n → with_front front (later_row_from n (length front) no_items) ≡ Err Shape
later_row_from-short n front short = rw (ne_eqb (length front) n short) refl

pub entries_from-item : (most : ℕ) (front : List Ratio) (z : Ratio) (d : Data) (ds : Items) → length front < most → entry_of d ≡ Ok z
    → with_front front (entries_from most (length front) (item d ds)) ≡ with_front (front ++ z ∷ []) (entries_from most (length (front ++ z ∷ [])) ds)
entries_from-item most front z d ds room is =
    let one : suc (length front) ≡ length (front ++ z ∷ []) = omega (arith, length-append front (z ∷ [])) in
    rw (is, lt-ltb (length front) most room) (with_front-before front z (entries_from most (suc (length front)) ds) ∙ ap (λ k. with_front (front ++ z ∷ []) (entries_from most k ds)) one)

pub entries_from-long : (most : ℕ) (front : List Ratio) (z : Ratio) (d : Data) (ds : Items) → most ≤ length front → entry_of d ≡ Ok z → with_front front (entries_from most (length front) (item d ds)) ≡ Err Limit
entries_from-long most front z d ds full is = rw (is, le-ltb (length front) most full) refl

-- an entry that is a fault
pub later_row_from-no_entry : (n : ℕ) (front : List Ratio) (d : Data) (ds : Items) (fault : ValueFail) → length front < n → entry_of d ≡ Err fault
    → with_front front (later_row_from n (length front) (item d ds)) ≡ Err fault
later_row_from-no_entry n front d ds fault room is = rw (lt-ltb (length front) n room, is) refl

pub entries_from-no_entry : (most : ℕ) (front : List Ratio) (k : ℕ) (d : Data) (ds : Items) (fault : ValueFail) → entry_of d ≡ Err fault
    → with_front front (entries_from most k (item d ds)) ≡ Err fault
entries_from-no_entry most front k d ds fault is = rw is refl

-- the end of a row
pub entries_from-end : (most : ℕ) (front : List Ratio) → with_front front (entries_from most (length front) no_items) ≡ Ok front
entries_from-end most front = ap (λ l. Ok l) (append-nil front)
