-- The first fault of edges.
use Rattle.pm_json.specs.Readings.{above_sets, and_then, edges_of, edges_with, has_index, nodes_from}
use Rattle.pm_json.specs.declared.fail.ValueFail.{ValueFail}
use Rattle.pm_json.specs.declared.fail.ValueFail.TheVariants.{Index, Shape}
use Rattle.pm_laws_texts.proofs.FirstOfValue.{array_tells, some_is, then_tells}
use Rattle.pm_laws_texts.proofs.Lists.{AreReadAs, high_index, no_high_index, nodes_read, nodes_tell}
use Rattle.pm_laws_texts.proofs.Matrices.{same_order}
use Rattle.pm_laws_texts.proofs.Rows.{before_end}
use Rattle.pm_laws_texts.specs.ValueFaults.{HasIndex, IsNeighbour, IsOneWay, OfEdges, OfListed, OfNodes}
use Rattle.pm_laws_texts.specs.Places.{AtItem, CountsFirst, Tells, count}
use Rattle.pm_types.specs.Forms.{are_joined_back, is_joined_back, joins}
use Rattle.pm_types.specs.Values.{edges}
use Rattle.serde_json.specs.Data.{Data, Items, array, item, no_items}
use Rattle.std.proofs.Common.{ap, arith, false, inl, inr, refl, subst, sym, true, true≢false, ◌∙◌}
use Rattle.std.proofs.lemmas.Bool.{and_parts, eq-eqb, eqb-true, leb-false, leb-true}
use Rattle.std.specs.List.{list_all, slice_index_or}
use Rattle.std.specs.Prelude.{Bool, Err, List, None, Ok, Some, [], if◌then◌else◌, length, nat_eq, nat_le, not, suc, zero, ℕ, ◌&&◌, ◌+◌, ◌<◌, ◌==◌, ◌||◌, ◌≡◌, ◌≤◌, ◌⊎◌, ◌∷◌}

-- ---- neighbours that were read
read_count : (ds : Items) (rows : List (List ℕ)) → AreReadAs ds rows → length rows ≡ count ds
read_count no_items [] read = refl
read_count no_items (set ∷ rows) read = absurd read
read_count (item d ds) [] read = absurd read
read_count (item d ds) (set ∷ rows) read = ap suc (read_count ds rows read.1)

neighbour_from : (ds : Items) (rows : List (List ℕ)) → AreReadAs ds rows → (i j : ℕ) → has_index j (slice_index_or rows i []) ≡ true → IsNeighbour ds i j
neighbour_from no_items [] read i j h = absurd (true≢false (sym h))
neighbour_from no_items (set ∷ rows) read i j h = absurd read
neighbour_from (item d ds) [] read i j h = absurd read
neighbour_from (item d ds) (set ∷ rows) read zero j h = (read.0.items, ap (λ e. Some e) read.0.array, read.0.holds.from j h)
neighbour_from (item d ds) (set ∷ rows) read (suc i) j h = neighbour_from ds rows read.1 i j h

same_array : {xs ys : Items} → array xs ≡ array ys → xs ≡ ys
same_array h = cc

neighbour_to : (ds : Items) (rows : List (List ℕ)) → AreReadAs ds rows → (i j : ℕ) → IsNeighbour ds i j → has_index j (slice_index_or rows i []) ≡ true
neighbour_to no_items [] read i j (es, there, has) = let e : None ≡ Some (array es) = there in cc
neighbour_to no_items (set ∷ rows) read i j h = absurd read
neighbour_to (item d ds) [] read i j h = absurd read
neighbour_to (item d ds) (set ∷ rows) read zero j (es, there, has) =
    let same : read.0.items ≡ es = same_array (sym read.0.array ∙ some_is there) in
    read.0.holds.to j (subst (λ z. HasIndex z (count z) j) (sym same) has)
neighbour_to (item d ds) (set ∷ rows) read (suc i) j h = neighbour_to ds rows read.1 i j h

-- ---- tests of lists
all_pass : (test : ℕ → Bool) (set : List ℕ) → list_all test set ≡ true → (j : ℕ) → has_index j set ≡ true → test j ≡ true
all_pass test [] e j h = absurd (true≢false (sym h))
all_pass test (k ∷ set) e j h =
    let p = and_parts (test k) (list_all test set) e in
    by (k == j) refl p.0 (all_pass test set p.1 j) h
  where
    by : (b : Bool) → (k == j) ≡ b → test k ≡ true → (has_index j set ≡ true → test j ≡ true) → (b || has_index j set) ≡ true → test j ≡ true
    by true same here more h = subst (λ i. test i ≡ true) (eqb-true k j same) here
    by false other here more h = more h

one_fails : (test : ℕ → Bool) (set : List ℕ) → list_all test set ≡ false → (j : ℕ) × (has_index j set ≡ true) × (test j ≡ false)
one_fails test [] e = absurd (true≢false e)
one_fails test (k ∷ set) e = by (test k) refl e (λ h. one_fails test set h)
  where
    same : (k : ℕ) → (k == k) ≡ true
    same k = grind arith

    later : (a b : Bool) → b ≡ true → (a || b) ≡ true
    later true b h = refl
    later false b h = h

    by : (b : Bool) → test k ≡ b → (b && list_all test set) ≡ false → (list_all test set ≡ false → (j : ℕ) × (has_index j set ≡ true) × (test j ≡ false)) → (j : ℕ) × (has_index j (k ∷ set) ≡ true) × (test j ≡ false)
    by false here e more = (k, ap (λ t. t || has_index k set) (same k), here)
    by true here e more = let (j, is, fails) = more e in (j, later (k == j) (has_index j set) is, fails)

-- ---- nodes that are joined back
all_joined : (rows : List (List ℕ)) (k : ℕ) (others : List (List ℕ)) → are_joined_back rows k others ≡ true → (i j : ℕ) → has_index j (slice_index_or others i []) ≡ true → joins rows (k + i) j ≡ true
all_joined rows k [] e i j h = absurd (true≢false (sym h))
all_joined rows k (row ∷ others) e zero j h =
    let p = and_parts (is_joined_back rows k row) (are_joined_back rows (suc k) others) e in
    subst (λ n. joins rows n j ≡ true) (plus_none k) (all_pass (joins rows k) row p.0 j h)
  where
    plus_none : (k : ℕ) → k ≡ k + 0
    plus_none k = omega arith
all_joined rows k (row ∷ others) e (suc i) j h =
    let p = and_parts (is_joined_back rows k row) (are_joined_back rows (suc k) others) e in
    subst (λ n. joins rows n j ≡ true) (one_more k i) (all_joined rows (suc k) others p.1 i j h)
  where
    one_more : (k i : ℕ) → suc k + i ≡ k + suc i
    one_more k i = omega arith

one_not_joined : (rows : List (List ℕ)) (k : ℕ) (others : List (List ℕ)) → are_joined_back rows k others ≡ false → (i j : ℕ) × (has_index j (slice_index_or others i []) ≡ true) × (joins rows (k + i) j ≡ false)
one_not_joined rows k [] e = absurd (true≢false e)
one_not_joined rows k (row ∷ others) e = by (is_joined_back rows k row) refl e (λ h. one_not_joined rows (suc k) others h)
  where
    plus_none : (k : ℕ) → k ≡ k + 0
    plus_none k = omega arith

    one_more : (k i : ℕ) → suc k + i ≡ k + suc i
    one_more k i = omega arith

    by : (b : Bool) → is_joined_back rows k row ≡ b → (b && are_joined_back rows (suc k) others) ≡ false → (are_joined_back rows (suc k) others ≡ false → (i j : ℕ) × (has_index j (slice_index_or others i []) ≡ true) × (joins rows (suc k + i) j ≡ false)) → (i j : ℕ) × (has_index j (slice_index_or (row ∷ others) i []) ≡ true) × (joins rows (k + i) j ≡ false)
    by false here e more = let (j, is, fails) = one_fails (joins rows k) row here in (0, j, is, subst (λ n. joins rows n j ≡ false) (plus_none k) fails)
    by true here e more = let (i, j, is, fails) = more e in (suc i, j, is, subst (λ n. joins rows n j ≡ false) (one_more k i) fails)

-- ---- the two tests after the last node
none_before : (n : ℕ) → 0 + n ≡ n
none_before n = omega arith

joined_tells : (ds : Items) (rows : List (List ℕ)) → AreReadAs ds rows → (b : Bool) → are_joined_back rows 0 rows ≡ b → (b ≡ true → ¬ (IsOneWay ds)) × (b ≡ false → IsOneWay ds)
joined_tells ds rows read true e = (
  λ t way. (let (i, j, has, wrong) = way in
      let back = subst (λ n. joins rows n j ≡ true) (none_before i) (all_joined rows 0 rows e i j (neighbour_to ds rows read i j has)) in
      let p = and_parts (not (nat_eq j i)) (has_index i (slice_index_or rows j [])) back in
      elim wrong [
        | inl same ↦ not_both (nat_eq j i) (eq-eqb j i (sym same)) p.0
        | inr none ↦ none (neighbour_from ds rows read j i p.1)
      ]),
  λ f. absurd (true≢false f),
)
  where
    not_both : (b : Bool) → b ≡ true → ¬ (not b ≡ true)
    not_both true h k = true≢false (sym k)
    not_both false h k = true≢false (sym h)
joined_tells ds rows read false e = (λ t. absurd (true≢false (sym t)), λ f. (let (i, j, is, fails) = one_not_joined rows 0 rows e in (i, j, neighbour_from ds rows read i j is, why (nat_eq j i) (has_index i (slice_index_or rows j [])) refl refl (subst (λ n. joins rows n j ≡ false) (none_before i) fails))))
  where
    why : {i j : ℕ} (a b : Bool) → nat_eq j i ≡ a → has_index i (slice_index_or rows j []) ≡ b → (not a && b) ≡ false → (i ≡ j) ⊎ ¬ (IsNeighbour ds j i)
    why {i} {j} true b p q h = inl (sym (eqb-true j i p))
    why {i} {j} false true p q h = absurd (true≢false h)
    why {i} {j} false false p q h = inr (λ n. true≢false (sym (neighbour_to ds rows read j i n) ∙ q))

nodes_are_tested : (ds : Items) (rows : List (List ℕ)) → AreReadAs ds rows → Tells (OfNodes ds) (edges_with rows)
nodes_are_tested ds rows read = by (nat_le (above_sets rows) (length rows)) refl (are_joined_back rows 0 rows) refl
  where
    counted : length rows ≡ count ds
    counted = read_count ds rows read

    by : (a : Bool) → nat_le (above_sets rows) (length rows) ≡ a → (b : Bool) → are_joined_back rows 0 rows ≡ b → Tells (OfNodes ds) (if a then (if b then Ok (edges rows (length rows)) else Err Shape) else Err Index)
    by false p b q = (
      count ds ∷ [],
      record {
        stands = inl (refl, refl, high_index (count ds) ds rows read (subst (λ n. n < above_sets rows) counted (leb-false (above_sets rows) (length rows) p)));
        first = λ s g h. elim h [
          | inl x ↦ inr (sym x.0, same_order Index g x.1)
          | inr y ↦ subst (λ z. CountsFirst (count ds ∷ []) Index z g) (sym y.0) (inl (inl (omega arith)))
        ];
      },
    )
    by true p true q = λ r f h. elim h [
      | inl x ↦ no_high_index (count ds) ds rows read (subst (λ n. above_sets rows ≤ n) counted (leb-true (above_sets rows) (length rows) p)) x.2
      | inr y ↦ (joined_tells ds rows read true q).0 refl y.2
    ]
    by true p false q = (
      suc (count ds) ∷ [],
      record {
        stands = inr (refl, refl, (joined_tells ds rows read false q).1 refl);
        first = λ s g h. elim h [
          | inl x ↦ absurd (no_high_index (count ds) ds rows read (subst (λ n. above_sets rows ≤ n) counted (leb-true (above_sets rows) (length rows) p)) x.2)
          | inr y ↦ inr (sym y.0, same_order Shape g y.1)
        ];
      },
    )

-- the nodes stand before the tests
before_tests : (ds : Items) (r : List ℕ) (f : ValueFail) (s : List ℕ) (g : ValueFail) → AtItem OfListed ds r f → OfNodes ds s g → CountsFirst r f s g
before_tests ds r f s g h (inl x) = before_end OfListed ds r f s g h x.0
before_tests ds [] f s g h (inr y) = absurd h
before_tests ds (i ∷ r) f s g h (inr y) = elim (before_end OfListed ds (i ∷ r) f (count ds ∷ []) g h refl) [
  | inl l ↦ elim l [
    | inl less ↦ subst (λ z. CountsFirst (i ∷ r) f z g) (sym y.0) (inl (inl (omega arith)))
    | inr same ↦ subst (λ z. CountsFirst (i ∷ r) f z g) (sym y.0) (inl (inl (let e = same.0 in omega arith)))
  ]
  | inr e ↦ subst (λ z. CountsFirst (i ∷ r) f z g) (sym y.0) (inl (inl (let same : i ≡ count ds = first_same i (count ds) r [] e.0 in omega arith)))
]
  where
    first_same : (i j : ℕ) (r s : List ℕ) → i ∷ r ≡ j ∷ s → i ≡ j
    first_same i j r s h = cc

pub edges_tell : (d : Data) → Tells (OfEdges d) (edges_of d)
edges_tell d =
    array_tells (λ ds s g. AtItem OfListed ds s g ⊎ OfNodes ds s g) d (λ ds. and_then (nodes_from 0 ds) edges_with)
    (λ ds is. then_tells (AtItem OfListed ds) (OfNodes ds) (λ s g. AtItem OfListed ds s g ⊎ OfNodes ds s g) (nodes_from 0 ds) edges_with
    (record { split = λ r f h. h; first = λ r f h. inl h; rest = λ r f h. inr h; before = before_tests ds })
    (nodes_tell 0 ds (λ j. j) (λ j. omega arith)) (λ rows made. nodes_are_tested ds rows (nodes_read 0 ds rows made)))
