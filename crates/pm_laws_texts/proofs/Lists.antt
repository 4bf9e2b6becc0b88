-- The first fault of a list of sets, and of edges.
use Rattle.pm_json.proofs.Parts.{and_then-ok, err_ok, same_Ok, then-ok}
use Rattle.pm_json.specs.Readings.{above_set, above_sets, and_then, before, has_index, items_of, nodes_from, set_from}
use Rattle.pm_json.specs.declared.fail.ValueFail.{ValueFail}
use Rattle.pm_json.specs.declared.fail.ValueFail.TheVariants.{Limit, Shape}
use Rattle.pm_laws_texts.proofs.FirstOfValue.{at_items, items_tell, made_tells, some_is}
use Rattle.pm_laws_texts.proofs.Rows.{row_then}
use Rattle.pm_laws_texts.proofs.Sets.{Holds, listed_tells, or_cases, set_holds}
use Rattle.pm_laws_texts.specs.ValueFaults.{HasAbove, HasIndex, OfListed}
use Rattle.pm_laws_texts.specs.Places.{AtItem, Tells, count}
use Rattle.pm_limits.specs.Limits.{most_rows}
use Rattle.serde_json.specs.Data.{Data, Items, array, boolean, item, no_items, null, number, object, string}
use Rattle.std.proofs.Common.{ap, arith, cond, eqb, false, inl, inr, ltb, refl, subst, sym, true, true≢false, ◌∙◌}
use Rattle.std.proofs.lemmas.Bool.{eqb-true}
use Rattle.std.proofs.Math.Nat.{le-max_left, le-max_right}
use Rattle.std.specs.Prelude.{Bool, Err, List, None, Ok, Some, [], if◌then◌else◌, max, nat_lt, suc, zero, ℕ, ◌+◌, ◌<◌, ◌||◌, ◌≡◌, ◌≤◌, ◌⊎◌, ◌∷◌}

-- ---- sets that were read, beside their arrays
pub record IsReadAs (d : Data) (set : List ℕ) : Type 0 where
  pub items : Items
  pub array : d ≡ array items
  pub holds : Holds items (count items) set

abbrev pub AreReadAs : Items → List (List ℕ) → Type 0
AreReadAs no_items [] = Unit {0}
AreReadAs (item d ds) (set ∷ rows) = IsReadAs d set × AreReadAs ds rows
AreReadAs no_items (set ∷ rows) = ⊥
AreReadAs (item d ds) [] = ⊥

pub one_read : (d : Data) (set : List ℕ) → and_then (items_of d) (set_from []) ≡ Ok set → IsReadAs d set
one_read null set e = absurd (err_ok Shape set e)
one_read (boolean b) set e = absurd (err_ok Shape set e)
one_read (number n) set e = absurd (err_ok Shape set e)
one_read (string s) set e = absurd (err_ok Shape set e)
one_read (object ms) set e = absurd (err_ok Shape set e)
one_read (array es) set e = record { items = es; array = refl; holds = set_holds es set e }

-- ---- nodes
pub nodes_tell : (k : ℕ) (ds : Items) (m : ℕ → ℕ) → ((j : ℕ) → m j ≡ k + j) → Tells (AtItem (λ j. OfListed (m j)) ds) (nodes_from k ds)
nodes_tell k no_items m at = none
  where
    none : (r : List ℕ) (f : ValueFail) → ¬ (AtItem (λ j. OfListed (m j)) no_items r f)
    none [] f h = h
    none (i ∷ r) f h = let e = h.1 in cc
nodes_tell k (item d ds) m at =
    let more = nodes_tell (suc k) ds (λ j. m (suc j)) (λ j. (let e = at (suc j) in omega arith)) in
    let here : k ≡ m 0 = (let e = at 0 in omega arith) in
    subst (λ z. Tells (AtItem (λ j. OfListed (m j)) (item d ds)) z) (sym (row_then (items_of d) (nat_lt k most_rows) (set_from []) (λ set. before set (nodes_from (suc k) ds))))
    (items_tell (OfListed (m 0) d) (AtItem (λ j. OfListed (m (suc j))) ds) (AtItem (λ j. OfListed (m j)) (item d ds))
    (and_then (items_of d) (λ es. if nat_lt k most_rows then set_from [] es else Err Limit)) (λ set. before set (nodes_from (suc k) ds))
    (at_items (λ j. OfListed (m j)) d ds) (λ r f h. (d, refl, h)) (λ i r f h. h) (λ f h. h)
    (subst (λ n. Tells (OfListed n d) (and_then (items_of d) (λ es. if nat_lt k most_rows then set_from [] es else Err Limit))) here (listed_tells k d))
    (λ set is. made_tells (AtItem (λ j. OfListed (m (suc j))) ds) (nodes_from (suc k) ds) (λ rest. set ∷ rest) more))

pub nodes_read : (k : ℕ) (ds : Items) (rows : List (List ℕ)) → nodes_from k ds ≡ Ok rows → AreReadAs ds rows
nodes_read k no_items rows e = subst (AreReadAs no_items) (same_Ok [] rows e) tt
nodes_read k (item d ds) rows e =
    and_then-ok (items_of d) (λ es. cond (ltb k most_rows) (and_then (set_from [] es) (λ set. before set (nodes_from (suc k) ds))) (Err Limit)) rows e
    (λ es is f. let p = then-ok (ltb k most_rows) (and_then (set_from [] es) (λ set. before set (nodes_from (suc k) ds))) Limit rows f in
    and_then-ok (set_from [] es) (λ set. before set (nodes_from (suc k) ds)) rows p.1
    (λ set made g. and_then-ok (nodes_from (suc k) ds) (λ others. Ok (set ∷ others)) rows g
    (λ others left h. subst (AreReadAs (item d ds)) (same_Ok (set ∷ others) rows h) (one_read d set (ap (λ r. and_then r (set_from [])) is ∙ made), nodes_read (suc k) ds others left))))

-- ---- an index that is too high
in_set : (n : ℕ) (set : List ℕ) → n < above_set set → (j : ℕ) × (has_index j set ≡ true) × (n ≤ j)
in_set n [] h = absurd (omega arith)
in_set n (j ∷ set) h = by (two (suc j) (above_set set) n h) (λ l. in_set n set l)
  where
    two : (a b n : ℕ) → n < max a b → (n < a) ⊎ (n < b)
    two a b n h = grind arith

    same : (j : ℕ) → eqb j j ≡ true
    same j = grind arith

    by : (n < suc j) ⊎ (n < above_set set) → (n < above_set set → (i : ℕ) × (has_index i set ≡ true) × (n ≤ i)) → (i : ℕ) × (has_index i (j ∷ set) ≡ true) × (n ≤ i)
    by (inl l) more = (j, ap (λ t. t || has_index j set) (same j), omega arith)
    by (inr l) more = let (i, is, above) = more l in (i, second (eqb j i) (has_index i set) is, above)
      where
        second : (a b : Bool) → b ≡ true → (a || b) ≡ true
        second true b h = refl
        second false b h = h

none_in_set : (n j : ℕ) (set : List ℕ) → above_set set ≤ n → has_index j set ≡ true → j < n
none_in_set n j [] h e = absurd (true≢false (sym e))
none_in_set n j (k ∷ set) h e =
    let left = le-max_left (suc k) (above_set set) in
    let right = le-max_right (suc k) (above_set set) in
    elim (or_cases (eqb k j) (has_index j set) e) [
      | inl here ↦ (let same = eqb-true k j here in omega arith)
      | inr there ↦ none_in_set n j set (omega arith) there
    ]

pub high_index : (n : ℕ) (ds : Items) (rows : List (List ℕ)) → AreReadAs ds rows → n < above_sets rows → HasAbove ds n
high_index n no_items [] read h = absurd (omega arith)
high_index n no_items (set ∷ rows) read h = absurd read
high_index n (item d ds) [] read h = absurd read
high_index n (item d ds) (set ∷ rows) read h = elim (two (above_set set) (above_sets rows) n h) [
  | inl l ↦
      let (j, is, above) = in_set n set l in
      (0, read.0.items, j, ap (λ e. Some e) read.0.array, read.0.holds.from j is, above)
  | inr l ↦
      let (i, es, j, there, has, above) = high_index n ds rows read.1 l in
      (suc i, es, j, there, has, above)
]
  where
    two : (a b n : ℕ) → n < max a b → (n < a) ⊎ (n < b)
    two a b n h = grind arith

pub no_high_index : (n : ℕ) (ds : Items) (rows : List (List ℕ)) → AreReadAs ds rows → above_sets rows ≤ n → ¬ (HasAbove ds n)
no_high_index n no_items [] read h (i, es, j, there, has, above) = let e : None ≡ Some (array es) = there in cc
no_high_index n no_items (set ∷ rows) read h a = read
no_high_index n (item d ds) [] read h a = read
no_high_index n (item d ds) (set ∷ rows) read h (zero, es, j, there, has, above) =
    let left = le-max_left (above_set set) (above_sets rows) in
    let same : read.0.items ≡ es = same_array (sym read.0.array ∙ some_is there) in
    let below = none_in_set n j set (omega arith) (read.0.holds.to j (subst (λ z. HasIndex z (count z) j) (sym same) has)) in
    omega arith
  where
    same_array : {xs ys : Items} → array xs ≡ array ys → xs ≡ ys
    same_array h = cc
no_high_index n (item d ds) (set ∷ rows) read h (suc i, es, j, there, has, above) =
    let right = le-max_right (above_set set) (above_sets rows) in
    no_high_index n ds rows read.1 (omega arith) (i, es, j, there, has, above)
