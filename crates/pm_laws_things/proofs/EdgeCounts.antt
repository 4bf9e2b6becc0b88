-- Graphs that are the same but for the names of their nodes have as many edges; and a graph has its like under other names.
use Rattle.pm_vector.proofs.Filters.{any_from, any_to}
use Rattle.pm_vector.proofs.Lists.{AllPairs_cons, All_among, Among, Contains_among, among_All, among_Contains, here, there}
use Rattle.pm_geom.specs.Graphs.{IsAscending, IsGraph, edge_count, edge_count_from, holds}
use Rattle.pm_laws_normal_fans.proofs.Places.{among_at, by_order, no_pairs}
use Rattle.pm_laws_things.proofs.SameGraphs.{IsSameGraph}
use Rattle.pm_laws_things.proofs.Sums.{count_is, one, sum, sum_as, sum_front, sum_plus, sum_renamed, sum_turned}
use Rattle.std.proofs.Common.{ap, arith, false, refl, subst, sym, true, true≢false, ◌∙◌}
use Rattle.std.proofs.lemmas.Bool.{eqb-true, lt-ltb, ltb-true}
use Rattle.std.specs.List.{AllPairs, Contains, count_by, slice_index_or}
use Rattle.std.specs.Prelude.{Bool, List, [], if◌then◌else◌, length, nat_lt, suc, zero, ℕ, ◌&&◌, ◌+◌, ◌<◌, ◌==◌, ◌≤◌, ◌∷◌, ◌≡◌}

-- ---- what is held
eq_refl : (x : ℕ) → (x == x) ≡ true
eq_refl x = grind arith

pub holds_to : (set : List ℕ) (j : ℕ) → holds set j ≡ true → Contains set j
holds_to set j e = let (y, i, same) = any_to (λ (z : ℕ). z == j) set e in subst (λ z. Contains set z) (eqb-true y j same) (Contains_among i)

pub holds_from : (set : List ℕ) (j : ℕ) → Contains set j → holds set j ≡ true
holds_from set j c = any_from (λ (z : ℕ). z == j) (among_Contains set c) (eq_refl j)

same_truth : (s t : Bool) → (s ≡ true → t ≡ true) → (t ≡ true → s ≡ true) → s ≡ t
same_truth true t f g = sym (f refl)
same_truth false true f g = g refl
same_truth false false f g = refl

abbrev pub joined : List (List ℕ) → ℕ → ℕ → Bool
joined rows i j = holds (slice_index_or rows i []) j

-- ---- edges as sums
edges_from : (rows : List (List ℕ)) (s : ℕ) → edge_count_from s rows ≡ sum (length rows) (λ i. count_by (nat_lt (s + i)) (slice_index_or rows i []))
edges_from [] s = refl
edges_from (r ∷ rows) s =
    let first : s ≡ s + 0 = omega arith in
    ap (λ z. count_by (nat_lt s) r + z) (edges_from rows (suc s) ∙ sum_as (length rows) (λ i. count_by (nat_lt (suc s + i)) (slice_index_or rows i [])) (λ i. count_by (nat_lt (s + suc i)) (slice_index_or rows i [])) (λ i l. next i))
    ∙ ap (λ z. count_by (nat_lt z) r + sum (length rows) (λ i. count_by (nat_lt (s + suc i)) (slice_index_or rows i []))) first
    ∙ sym (sum_front (length rows) (λ i. count_by (nat_lt (s + i)) (slice_index_or (r ∷ rows) i [])))
  where
    next : (i : ℕ) → count_by (nat_lt (suc s + i)) (slice_index_or rows i []) ≡ count_by (nat_lt (s + suc i)) (slice_index_or rows i [])
    next i = let e : suc s + i ≡ s + suc i = omega arith in ap (λ z. count_by (nat_lt z) (slice_index_or rows i [])) e

not_less : (i j : ℕ) → ¬ (i < j) → nat_lt i j ≡ false
not_less i j n = by (nat_lt i j) refl
  where
    by : (t : Bool) → nat_lt i j ≡ t → t ≡ false
    by true e = absurd (n (ltb-true i j e))
    by false e = refl

module _ (m : ℕ) (E : ℕ → ℕ → Type 0) (rows : List (List ℕ)) (g : IsGraph m E rows) where
  pub to_edge : (i j : ℕ) → i < m → joined rows i j ≡ true → E i j
  to_edge i j l e = (g.edges i j l).0 (holds_to (slice_index_or rows i []) j e)

  pub from_edge : (i j : ℕ) → i < m → E i j → joined rows i j ≡ true
  from_edge i j l e = holds_from (slice_index_or rows i []) j ((g.edges i j l).1 e)

  edge_sum : edge_count rows ≡ sum m (λ i. sum m (λ j. one (joined rows i j && nat_lt i j)))
  edge_sum = edges_from rows 0 ∙ ap (λ n. sum n (λ i. count_by (nat_lt (0 + i)) (slice_index_or rows i []))) g.nodes
      ∙ sum_as m (λ i. count_by (nat_lt (0 + i)) (slice_index_or rows i [])) (λ i. sum m (λ j. one (joined rows i j && nat_lt i j))) at
    where
      at : (i : ℕ) → i < m → count_by (nat_lt (0 + i)) (slice_index_or rows i []) ≡ sum m (λ j. one (joined rows i j && nat_lt i j))
      at i l =
          let n = g.nodes in
          let e : 0 + i ≡ i = omega arith in
          ap (λ z. count_by (nat_lt z) (slice_index_or rows i [])) e ∙ count_is m (nat_lt i) (slice_index_or rows i []) (among_All (IsAscending m) (among_at [] rows i (omega arith)) g.ascending)

  abbrev all_ends : ℕ
  all_ends = sum m (λ i. sum m (λ j. one (joined rows i j)))

  module _ (turn : (i j : ℕ) → E i j → E j i) (apart : (i j : ℕ) → E i j → ¬ (i ≡ j)) where
    joined_back : (i j : ℕ) → i < m → j < m → joined rows i j ≡ joined rows j i
    joined_back i j li lj = same_truth (joined rows i j) (joined rows j i) (λ e. from_edge j i lj (turn i j (to_edge i j li e))) (λ e. from_edge i j li (turn j i (to_edge j i lj e)))

    split : (i j : ℕ) (t : Bool) → (t ≡ true → ¬ (i ≡ j)) → one t ≡ one (t && nat_lt i j) + one (t && nat_lt j i)
    split i j false n = omega arith
    split i j true n = by_order i j
        (λ l. first (nat_lt i j) (nat_lt j i) (lt-ltb i j l) (not_less j i (λ k. omega arith)))
        (λ l. second (nat_lt i j) (nat_lt j i) (not_less i j (λ k. omega arith)) (lt-ltb j i l))
        (λ e. absurd (n refl e))
      where
        first : (a b : Bool) → a ≡ true → b ≡ false → 1 ≡ one a + one b
        first a b p q = rw (p, q) refl

        second : (a b : Bool) → a ≡ false → b ≡ true → 1 ≡ one a + one b
        second a b p q = rw (p, q) refl

    -- the neighbours above a node, and those below it
    abbrev up : ℕ → ℕ
    up i = sum m (λ j. one (joined rows i j && nat_lt i j))

    abbrev down : ℕ → ℕ
    down i = sum m (λ j. one (joined rows i j && nat_lt j i))

    ends_are_twice : all_ends ≡ edge_count rows + edge_count rows
    ends_are_twice =
        sum_as m (λ i. sum m (λ j. one (joined rows i j))) (λ i. up i + down i)
        (λ i li. sum_as m (λ j. one (joined rows i j)) (λ j. one (joined rows i j && nat_lt i j) + one (joined rows i j && nat_lt j i)) (λ j lj. split i j (joined rows i j) (λ e. apart i j (to_edge i j li e)))
        ∙ sum_plus m (λ j. one (joined rows i j && nat_lt i j)) (λ j. one (joined rows i j && nat_lt j i)))
        ∙ sum_plus m up down
        ∙ ap (λ z. sum m up + z) down_is_up
        ∙ ap (λ z. z + z) (sym edge_sum)
      where
        down_is_up : sum m down ≡ sum m up
        down_is_up = sum_turned m m (λ i j. one (joined rows i j && nat_lt j i))
            ∙ sum_as m (λ j. sum m (λ i. one (joined rows i j && nat_lt j i))) up (λ j lj. sum_as m (λ i. one (joined rows i j && nat_lt j i)) (λ i. one (joined rows j i && nat_lt j i)) (λ i li. ap (λ b. one (b && nat_lt j i)) (joined_back i j li lj)))

half : (a b : ℕ) → a + a ≡ b + b → a ≡ b
half a b e = omega (arith, e)

pub as_many_edges : (m k : ℕ) (E D : ℕ → ℕ → Type 0) → IsSameGraph m E k D → ((i j : ℕ) → E i j → E j i) → ((i j : ℕ) → E i j → ¬ (i ≡ j)) → ((i j : ℕ) → D i j → D j i) → ((i j : ℕ) → D i j → ¬ (i ≡ j))
    → (rows others : List (List ℕ)) → IsGraph m E rows → IsGraph k D others → edge_count rows ≡ edge_count others
as_many_edges m k E D s te ae td ad rows others g h =
    half (edge_count rows) (edge_count others) (sym (ends_are_twice m E rows g te ae)
    ∙ sum_renamed m k s.to s.back s.to_within s.back_within s.back_to s.to_back (λ i. sum m (λ j. one (joined rows i j))) (λ i. sum k (λ j. one (joined others i j))) row
    ∙ ends_are_twice k D others h td ad)
  where
    same : (i j : ℕ) → i < m → j < m → joined others (s.to i) (s.to j) ≡ joined rows i j
    same i j li lj = same_truth (joined others (s.to i) (s.to j)) (joined rows i j)
        (λ e. from_edge m E rows g i j li (subst (λ y. E i y) (s.back_to j lj) (subst (λ x. E x (s.back (s.to j))) (s.back_to i li) (s.edge_back (s.to i) (s.to j) (s.to_within i li) (to_edge k D others h (s.to i) (s.to j) (s.to_within i li) e)))))
        (λ e. from_edge k D others h (s.to i) (s.to j) (s.to_within i li) (s.edge i j li (to_edge m E rows g i j li e)))

    row : (i : ℕ) → i < m → sum k (λ j. one (joined others (s.to i) j)) ≡ sum m (λ j. one (joined rows i j))
    row i li = sym (sum_renamed m k s.to s.back s.to_within s.back_within s.back_to s.to_back (λ j. one (joined rows i j)) (λ j. one (joined others (s.to i) j)) (λ j lj. ap one (same i j li lj)))

-- ---- a graph under other names
-- the places from s on, n of them, that pass the test
passing : ℕ → ℕ → (ℕ → Bool) → List ℕ
passing s zero p = []
passing s (suc n) p = if p s then s ∷ passing (suc s) n p else passing (suc s) n p

from_passing : (s n : ℕ) (p : ℕ → Bool) (j : ℕ) → Among j (passing s n p) → (s ≤ j) × (j < s + n) × (p j ≡ true)
unfolding passing
from_passing s zero p j i = elim i [ ]
from_passing s (suc n) p j i = by (p s) refl j i (from_passing (suc s) n p j)
  where
    further : (x : ℕ) → (suc s ≤ x) × (x < suc s + n) × (p x ≡ true) → (s ≤ x) × (x < s + suc n) × (p x ≡ true)
    further x h = let a = h.0 in let b = h.1 in (omega (arith, a), omega (arith, b), h.2)

    first : p s ≡ true → (x : ℕ) → Among x (s ∷ passing (suc s) n p) → (Among x (passing (suc s) n p) → (suc s ≤ x) × (x < suc s + n) × (p x ≡ true)) → (s ≤ x) × (x < s + suc n) × (p x ≡ true)
    first e x here rest = (omega arith, omega arith, e)
    first e x (there k) rest = further x (rest k)

    by : (t : Bool) → p s ≡ t → (x : ℕ) → Among x (if t then s ∷ passing (suc s) n p else passing (suc s) n p) → (Among x (passing (suc s) n p) → (suc s ≤ x) × (x < suc s + n) × (p x ≡ true)) → (s ≤ x) × (x < s + suc n) × (p x ≡ true)
    by true e x k rest = first e x k rest
    by false e x k rest = further x (rest k)

to_passing : (s n : ℕ) (p : ℕ → Bool) (j : ℕ) → s ≤ j → j < s + n → p j ≡ true → Among j (passing s n p)
unfolding passing
to_passing s zero p j a b e = absurd (omega (arith, a, b))
to_passing s (suc n) p j a b e = by_order s j
    (λ l. later (p s) (to_passing (suc s) n p j (omega arith) (omega (arith, b)) e))
    (λ l. absurd (omega (arith, a)))
    (λ q. now (p s) (ap p q ∙ e) q)
  where
    later : (t : Bool) → Among j (passing (suc s) n p) → Among j (if t then s ∷ passing (suc s) n p else passing (suc s) n p)
    later true i = there i
    later false i = i

    now : (t : Bool) → t ≡ true → s ≡ j → Among j (if t then s ∷ passing (suc s) n p else passing (suc s) n p)
    now true f q = subst (λ z. Among z (s ∷ passing (suc s) n p)) q here
    now false f q = absurd (true≢false (sym f))

passing_rises : (s n : ℕ) (p : ℕ → Bool) → AllPairs (λ i j. i < j) (passing s n p)
unfolding passing
passing_rises s zero p = no_pairs (λ i j. i < j)
passing_rises s (suc n) p = by (p s) (passing_rises (suc s) n p)
  where
    by : (t : Bool) → AllPairs (λ i j. i < j) (passing (suc s) n p) → AllPairs (λ i j. i < j) (if t then s ∷ passing (suc s) n p else passing (suc s) n p)
    by true rest = AllPairs_cons (λ i j. i < j) s (passing (suc s) n p) (λ j i. let h = (from_passing (suc s) n p j i).0 in omega (arith, h)) rest
    by false rest = rest

-- a list for each place from s on, n of them
lists : ℕ → ℕ → ℕ → (ℕ → ℕ → Bool) → List (List ℕ)
lists k s zero d = []
lists k s (suc n) d = passing 0 k (d s) ∷ lists k (suc s) n d

lists_length : (k s n : ℕ) (d : ℕ → ℕ → Bool) → length (lists k s n d) ≡ n
unfolding lists
lists_length k s zero d = refl
lists_length k s (suc n) d = ap suc (lists_length k (suc s) n d)

lists_at : (k s n : ℕ) (d : ℕ → ℕ → Bool) (i : ℕ) → i < n → slice_index_or (lists k s n d) i [] ≡ passing 0 k (d (s + i))
unfolding lists
lists_at k s zero d i l = absurd (omega arith)
lists_at k s (suc n) d zero l = let e : s ≡ s + 0 = omega arith in ap (λ z. passing 0 k (d z)) e
lists_at k s (suc n) d (suc i) l = let e : suc s + i ≡ s + suc i = omega arith in lists_at k (suc s) n d i (omega arith) ∙ ap (λ z. passing 0 k (d z)) e

lists_rise : (k s n : ℕ) (d : ℕ → ℕ → Bool) (row : List ℕ) → Among row (lists k s n d) → IsAscending k row
unfolding lists
lists_rise k s zero d row i = elim i [ ]
lists_rise k s (suc n) d row here = (All_among (λ j. j < k) (passing 0 k (d s)) (λ j i. let h = (from_passing 0 k (d s) j i).1 in omega (arith, h)), passing_rises 0 k (d s))
lists_rise k s (suc n) d row (there i) = lists_rise k (suc s) n d row i

pub graph_of : (k : ℕ) (D : ℕ → ℕ → Type 0) (d : ℕ → ℕ → Bool) → ((i j : ℕ) → i < k → D i j → (j < k) × (d i j ≡ true)) → ((i j : ℕ) → i < k → j < k → d i j ≡ true → D i j) → (rows : List (List ℕ)) × IsGraph k D rows
graph_of k D d from to = (
  lists k 0 k d,
  record {
    nodes = lists_length k 0 k d;
    ascending = All_among (IsAscending k) (lists k 0 k d) (λ row i. lists_rise k 0 k d row i);
    edges = λ i j l. (
      λ c. let h = from_passing 0 k (d i) j (among_Contains (passing 0 k (d i)) (subst (λ row. Contains row j) (at i l) c)) in to i j l (let b = h.1 in omega (arith, b)) h.2,
      λ e. let h = from i j l e in subst (λ row. Contains row j) (sym (at i l)) (Contains_among (to_passing 0 k (d i) j (omega arith) (let b = h.0 in omega (arith, b)) h.1)),
    );
  },
)
  where
    at : (i : ℕ) → i < k → slice_index_or (lists k 0 k d) i [] ≡ passing 0 k (d i)
    at i l = let e : 0 + i ≡ i = omega arith in lists_at k 0 k d i l ∙ ap (λ z. passing 0 k (d z)) e

pub graph_as : (m k : ℕ) (E D : ℕ → ℕ → Type 0) → IsSameGraph m E k D → (rows : List (List ℕ)) → IsGraph m E rows → (others : List (List ℕ)) × IsGraph k D others
graph_as m k E D s rows g = graph_of k D (λ i j. joined rows (s.back i) (s.back j))
    (λ i j l e. (s.end_back i j e, from_edge m E rows g (s.back i) (s.back j) (s.back_within i l) (s.edge_back i j l e)))
    (λ i j li lj e. subst (λ y. D i y) (s.to_back j lj) (subst (λ x. D x (s.to (s.back j))) (s.to_back i li) (s.edge (s.back i) (s.back j) (s.back_within i li) (to_edge m E rows g (s.back i) (s.back j) (s.back_within i li) e))))
