-- Indices, and the reading of a set and of a list of sets, an item at a time.
use Rattle.std.proofs.Common.{refl, sym, ap, ◌∙◌, ◌≡◌, ◌<◌, ◌≤◌, ℕ, suc, List, [], ◌∷◌, ◌++◌, length, Ok, Bool, true, false, MatchBool, Err, length-append, append-nil, drop, map, arith, Some, None}
use Rattle.std.specs.List.{AllWithin, HoldsAt, list_any}
use Rattle.std.proofs.lemmas.List.Elements.{All-from_all_within}
use Rattle.std.proofs.lemmas.List.Folds.{list_any_at, list_any_none}
use Rattle.std.proofs.lemmas.List.{map-append}
use Rattle.std.proofs.lemmas.Bool.{lt-ltb, le-ltb}
use Rattle.std.specs.Prelude.{is_some}
use Rattle.serde_json.specs.Data.{Data, Items, no_items, item}
use Rattle.serde_json.specs.Find.{as_object}
use Rattle.serde_json.specs.View.{items_view, view}
use Rattle.serde_json.specs.declared.value.Value.{Value}
use lib.IntN.{ℤ, pos, negsuc, nat_abs}
use lib.Signed.{lt_z}
use Rattle.std.proofs.lemmas.Bool.{true≢false}
use Rattle.pm_json.specs.declared.fail.ValueFail.{ValueFail}
use Rattle.pm_json.specs.declared.fail.ValueFail.TheVariants.{Limit, Shape}
use Rattle.pm_json.specs.Readings.{Read, SetsSeen, and_then, index_below_limit, has_index, index_of, items_of, set_from, sets_from, stated_last, stated_of, with_index}
use Rattle.pm_json.proofs.Readings.{with_front_sets, with_front_sets-before}
use Rattle.pm_json.proofs.RowEnds.{next_item}
use Rattle.pm_limits.specs.Limits.{most_rows}

-- what a search for an index says
pub any_from_cases : {X : Type 0} (p : X → Bool) (xs : List X) (r : Bool)
    → MatchBool r ((k : ℕ) × (k < length xs) × HoldsAt (λ x. p x ≡ true) xs k) (AllWithin (λ x. p x ≡ false) xs 0 (length xs)) → r ≡ list_any p xs
any_from_cases p [] true h = absurd (omega (arith, h.1))
any_from_cases p (x ∷ xs) true h = sym (list_any_at p (x ∷ xs) h.0 x h.1 (h.2 x))
any_from_cases p xs false h = sym (list_any_none p xs (All-from_all_within (λ x. p x ≡ false) xs h))

-- an index below the limit
pub index_small : (k : ℤ) → lt_z k (pos 0) ≡ false → lt_z k (pos most_rows) ≡ true → (let r : Read ℕ = Ok (nat_abs k) in r) ≡ index_below_limit k
index_small (pos j) from below = rw below refl
index_small (negsuc j) from below = absurd (true≢false from)

pub set_from-item : (set : List ℕ) (j : ℕ) (d : Data) (ds : Items) → index_of d ≡ Ok j → has_index j set ≡ false → set_from set (item d ds) ≡ set_from (with_index j set) ds
set_from-item set j d ds is new = rw (is, new) refl

-- the faults of a set: an index that is none, and one that it has already
pub set_from-no_index : (set : List ℕ) (d : Data) (ds : Items) (fault : ValueFail) → index_of d ≡ Err fault → set_from set (item d ds) ≡ Err fault
set_from-no_index set d ds fault is = rw is refl

pub set_from-again : (set : List ℕ) (j : ℕ) (d : Data) (ds : Items) → index_of d ≡ Ok j → has_index j set ≡ true → set_from set (item d ds) ≡ Err Shape
set_from-again set j d ds is again = rw (is, again) refl

pub sets_from-item : (front : List (List ℕ)) (set : List ℕ) (k : ℕ) (d : Data) (es ds : Items) → is_some (as_object d) ≡ false → items_of d ≡ Ok es → k < most_rows → set_from [] es ≡ Ok set
    → with_front_sets front (sets_from k (item d ds)) ≡ with_front_sets (front ++ set ∷ []) (sets_from (suc k) ds)
sets_from-item front set k d es ds listed items room is = rw (listed, items, lt-ltb k most_rows room, is) (with_front_sets-before front set (sets_from (suc k) ds))

-- the item that is read next, before those that follow
pub sets_from-next : {all : Read SetsSeen} (front : List (List ℕ)) (k : ℕ) (vs : List Value) (i : ℕ) (v : Value) → i < length vs → v ≡ lib.ListN.get_or vs i v
    → all ≡ with_front_sets front (sets_from k (items_view (drop i vs)))
    → all ≡ with_front_sets front (sets_from k (item (view v) (items_view (drop (suc i) vs))))
sets_from-next front k vs i v within is e = e ∙ ap (λ w. with_front_sets front (sets_from k (items_view w))) (next_item vs i v within is)

-- the end, with and without a column count
pub sets_from-end : (front : List (List ℕ)) (k : ℕ) → with_front_sets front (sets_from k no_items) ≡ Ok (record { rows = front; stated = None })
sets_from-end front k = ap (λ sets. Ok (record { rows = sets; stated = None })) (append-nil front)

pub sets_from-stated : (front : List (List ℕ)) (k n : ℕ) (d : Data) (ds : Items) → is_some (as_object d) ≡ true
    → stated_last d ds ≡ Ok (record { rows = []; stated = Some n })
    → with_front_sets front (sets_from k (item d ds)) ≡ Ok (record { rows = front; stated = Some n })
sets_from-stated front k n d ds object is = rw (object, is) (ap (λ sets. Ok (record { rows = sets; stated = Some n })) (append-nil front))

-- the faults: of the column count, of an item that is no array, of a set, and a set too many
pub sets_from-not_stated : (front : List (List ℕ)) (k : ℕ) (d : Data) (ds : Items) (fault : ValueFail) → is_some (as_object d) ≡ true
    → stated_last d ds ≡ Err fault → with_front_sets front (sets_from k (item d ds)) ≡ Err fault
sets_from-not_stated front k d ds fault object is = rw (object, is) refl

pub sets_from-no_items : (front : List (List ℕ)) (k : ℕ) (d : Data) (ds : Items) (fault : ValueFail) → is_some (as_object d) ≡ false → items_of d ≡ Err fault
    → with_front_sets front (sets_from k (item d ds)) ≡ Err fault
sets_from-no_items front k d ds fault listed is = rw (listed, is) refl

pub sets_from-no_set : (front : List (List ℕ)) (k : ℕ) (d : Data) (es ds : Items) (fault : ValueFail) → is_some (as_object d) ≡ false → items_of d ≡ Ok es → k < most_rows
    → set_from [] es ≡ Err fault → with_front_sets front (sets_from k (item d ds)) ≡ Err fault
sets_from-no_set front k d es ds fault listed items room is = rw (listed, items, lt-ltb k most_rows room, is) refl

pub sets_from-full : (front : List (List ℕ)) (k : ℕ) (d : Data) (es ds : Items) → is_some (as_object d) ≡ false → items_of d ≡ Ok es → most_rows ≤ k → with_front_sets front (sets_from k (item d ds)) ≡ Err Limit
sets_from-full front k d es ds listed items full = rw (listed, items, le-ltb k most_rows full) refl

-- the rows with one more below them
pub sets_below : {A : Type 0} (f : A → List ℕ) (rows new : List A) (r : A) (ds : Items) → new ≡ rows ++ r ∷ []
    → with_front_sets (map f rows ++ f r ∷ []) (sets_from (suc (length rows)) ds) ≡ with_front_sets (map f new) (sets_from (length new) ds)
sets_below f rows new r ds e =
    let one : suc (length rows) ≡ length (rows ++ r ∷ []) = omega (arith, length-append rows (r ∷ [])) in
    ap (λ front. with_front_sets front (sets_from (suc (length rows)) ds)) (sym (map-append f rows (r ∷ [])))
    ∙ ap (λ k. with_front_sets (map f (rows ++ r ∷ [])) (sets_from k ds)) one
    ∙ ap (λ l. with_front_sets (map f l) (sets_from (length l) ds)) (sym e)
