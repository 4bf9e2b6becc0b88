-- Index lists, the graph of the unit square, and graphs of no, one and two nodes.
use Rattle.pm_vector.proofs.ConeLaws.{in_generator}
use Rattle.pm_vector.proofs.Lists.{AllPairs_cons, All_among, Among, among_Contains, here, there}
use Rattle.pm_vector.proofs.RowLaws.{dot-plus}
use Rattle.pm_geom.proofs.Square.{square_is_read}
use Rattle.pm_vector.specs.Rows.{dot}
use Rattle.pm_geom.specs.Examples.{edges, square}
use Rattle.pm_geom.specs.Faces.{IsFace, ray}
use Rattle.pm_geom.specs.GraphExamples.{IndexListsAreRead, SmallGraphsAreRead, SquareGraphIsRead, apart_graph, point_graph, square_graph}
use Rattle.pm_geom.specs.Graphs.{AreNeighbours, IsAscending, IsConnected, IsDiameter, IsDistance, IsEdge, IsGraph, IsWalk, pair_of}
use Rattle.std.proofs.Common.{arith, inl, inr, refl, subst, sym}
use Rattle.std.proofs.lemmas.Bool.{cases_lt}
use Rattle.std.proofs.lemmas.Int.{ints}
use Rattle.std.specs.List.{Contains}
use Rattle.std.specs.Prelude.{Bool, IsTrue, List, [], false, suc, true, zero, ℕ, ◌<◌, ◌==◌, ◌↔◌, ◌∷◌, ◌≡◌, ◌≤◌, ◌⊎◌, ◌||◌}
use lib.IntN.{pos}

-- ---- lists of indices
none_ascend : (n : ℕ) → IsAscending n []
none_ascend n = (λ i d l. absurd (omega arith), λ i j d l m. absurd (omega arith))

one_ascends : (n a : ℕ) → a < n → IsAscending n (a ∷ [])
one_ascends n a l = (All_among (λ j. j < n) (a ∷ []) below, AllPairs_cons (λ i j. i < j) a [] (λ y i. elim i [ ]) (none_ascend n).1)
  where
    below : (j : ℕ) → Among j (a ∷ []) → j < n
    below j here = l
    below j (there i) = elim i [ ]

two_ascend : (n a b : ℕ) → a < b → b < n → IsAscending n (a ∷ b ∷ [])
two_ascend n a b l m = (All_among (λ j. j < n) (a ∷ b ∷ []) below, AllPairs_cons (λ i j. i < j) a (b ∷ []) after (one_ascends n b m).1)
  where
    below : (j : ℕ) → Among j (a ∷ b ∷ []) → j < n
    below j here = omega arith
    below j (there here) = m
    below j (there (there i)) = elim i [ ]

    after : (j : ℕ) → Among j (b ∷ []) → a < j
    after j here = l
    after j (there i) = elim i [ ]

pub index_lists_are_read : IndexListsAreRead
index_lists_are_read = record {
  has = refl;
  lacks = refl;
  sets = refl;
  ascending = two_ascend 3 0 2 (omega arith) (omega arith);
  beyond = λ a. absurd (let l = a.0 1 0 (omega arith) in omega arith);
  falling = λ a. absurd (let l = a.1 0 1 0 (omega arith) (omega arith) in omega arith);
  twice = λ a. absurd (let l = a.1 0 1 0 (omega arith) (omega arith) in omega arith);
  lexicographic = refl;
  shorter = refl;
  not_itself = λ e. cc;
}

-- ---- sides and diagonals
by_four : (P : ℕ → Type 0) → P 0 → P 1 → P 2 → P 3 → (j : ℕ) → j < 4 → P j
by_four P a b c d zero l = a
by_four P a b c d (suc zero) l = b
by_four P a b c d (suc (suc zero)) l = c
by_four P a b c d (suc (suc (suc zero))) l = d
by_four P a b c d (suc (suc (suc (suc j)))) l = absurd (omega arith)

module _ (i j k : ℕ) (lk : k < 4) (places : (x : ℕ) → x < 4 → IsTrue (pair_of i j x) ↔ (dot (ray edges k) (ray square x) ≡ pos 0)) where
  side_face : IsFace 3 square [] square (pair_of i j)
  side_face = record { a = ray edges k; valid = (square_is_read.facets.each k [] lk).inside; places = places }

or_turned : (a b : Bool) → IsTrue (a || b) → IsTrue (b || a)
or_turned true true h = refl
or_turned true false h = refl
or_turned false true h = refl
or_turned false false h = h

face_turned : (i j : ℕ) → IsFace 3 square [] square (pair_of i j) → IsFace 3 square [] square (pair_of j i)
face_turned i j f = record { a = f.a; valid = f.valid; places = λ x l. (λ t. (f.places x l).0 (or_turned (x == j) (x == i) t), λ e. or_turned (x == i) (x == j) ((f.places x l).1 e)) }

left_face : IsFace 3 square [] square (pair_of 0 1)
left_face = side_face 0 1 0 (omega arith) (by_four (λ x. IsTrue (pair_of 0 1 x) ↔ (dot (ray edges 0) (ray square x) ≡ pos 0))
    (λ t. refl, λ e. refl)
    (λ t. refl, λ e. refl)
    (λ t. absurd cc, λ e. absurd (omega (arith, ints)))
    (λ t. absurd cc, λ e. absurd (omega (arith, ints))))

low_face : IsFace 3 square [] square (pair_of 0 2)
low_face = side_face 0 2 1 (omega arith) (by_four (λ x. IsTrue (pair_of 0 2 x) ↔ (dot (ray edges 1) (ray square x) ≡ pos 0))
    (λ t. refl, λ e. refl)
    (λ t. absurd cc, λ e. absurd (omega (arith, ints)))
    (λ t. refl, λ e. refl)
    (λ t. absurd cc, λ e. absurd (omega (arith, ints))))

high_face : IsFace 3 square [] square (pair_of 1 3)
high_face = side_face 1 3 2 (omega arith) (by_four (λ x. IsTrue (pair_of 1 3 x) ↔ (dot (ray edges 2) (ray square x) ≡ pos 0))
    (λ t. absurd cc, λ e. absurd (omega (arith, ints)))
    (λ t. refl, λ e. refl)
    (λ t. absurd cc, λ e. absurd (omega (arith, ints)))
    (λ t. refl, λ e. refl))

right_face : IsFace 3 square [] square (pair_of 2 3)
right_face = side_face 2 3 3 (omega arith) (by_four (λ x. IsTrue (pair_of 2 3 x) ↔ (dot (ray edges 3) (ray square x) ≡ pos 0))
    (λ t. absurd cc, λ e. absurd (omega (arith, ints)))
    (λ t. absurd cc, λ e. absurd (omega (arith, ints)))
    (λ t. refl, λ e. refl)
    (λ t. refl, λ e. refl))

side : (i j : ℕ) → i < 4 → j < 4 → ¬ (i ≡ j) → IsFace 3 square [] square (pair_of i j) → IsEdge 3 square [] square i j
side i j li lj ne f = record { first = li; second = lj; apart = ne; face = f }

-- the two diagonals have one midpoint
no_diagonal : ¬ (IsFace 3 square [] square (pair_of 0 3))
no_diagonal f =
    let a = f.a in
    let p = (f.places 0 (omega arith)).0 refl in
    let q = (f.places 3 (omega arith)).0 refl in
    let s = dot-plus a (ray square 0) (ray square 3) in
    let t = dot-plus a (ray square 1) (ray square 2) in
    let x = f.valid.holds (ray square 1) refl (in_generator (there here)) in
    let y = f.valid.holds (ray square 2) refl (in_generator (there (there here))) in
    let z : dot a (ray square 1) ≡ pos 0 = omega (arith, ints) in
    absurd (let w = (f.places 1 (omega arith)).1 z in cc)

no_other_diagonal : ¬ (IsFace 3 square [] square (pair_of 1 2))
no_other_diagonal f =
    let a = f.a in
    let p = (f.places 1 (omega arith)).0 refl in
    let q = (f.places 2 (omega arith)).0 refl in
    let s = dot-plus a (ray square 0) (ray square 3) in
    let t = dot-plus a (ray square 1) (ray square 2) in
    let x = f.valid.holds (ray square 0) refl (in_generator here) in
    let y = f.valid.holds (ray square 3) refl (in_generator (there (there (there here)))) in
    let z : dot a (ray square 0) ≡ pos 0 = omega (arith, ints) in
    absurd (let w = (f.places 0 (omega arith)).1 z in cc)

first_in : (a b : ℕ) → Contains (a ∷ b ∷ []) a
first_in a b = (0, omega arith, refl)

second_in : (a b : ℕ) → Contains (a ∷ b ∷ []) b
second_in a b = (1, omega arith, refl)

two_of : {a b k : ℕ} → Among k (a ∷ b ∷ []) → (k ≡ a) ⊎ (k ≡ b)
two_of here = inl refl
two_of (there here) = inr refl
two_of (there (there i)) = elim i [ ]

only_one : {a k : ℕ} → Among k (a ∷ []) → k ≡ a
only_one here = refl
only_one (there i) = elim i [ ]

-- the list of a node with two neighbours
two_neighbours : (i a b : ℕ) → IsEdge 3 square [] square i a → IsEdge 3 square [] square i b → ((j : ℕ) → j < 4 → IsEdge 3 square [] square i j → Contains (a ∷ b ∷ []) j) → (j : ℕ) → Contains (a ∷ b ∷ []) j ↔ IsEdge 3 square [] square i j
two_neighbours i a b ea eb back j = (
  λ c. elim (two_of (among_Contains (a ∷ b ∷ []) c)) [ inl e ↦ subst (λ x. IsEdge 3 square [] square i x) (sym e) ea | inr e ↦ subst (λ x. IsEdge 3 square [] square i x) (sym e) eb ],
  λ e. back j e.second e,
)

at_zero : (j : ℕ) → Contains (1 ∷ 2 ∷ []) j ↔ IsEdge 3 square [] square 0 j
at_zero = two_neighbours 0 1 2 (side 0 1 (omega arith) (omega arith) (λ e. absurd (omega arith)) left_face) (side 0 2 (omega arith) (omega arith) (λ e. absurd (omega arith)) low_face)
    (by_four (λ j. IsEdge 3 square [] square 0 j → Contains (1 ∷ 2 ∷ []) j) (λ e. absurd (e.apart refl)) (λ e. first_in 1 2) (λ e. second_in 1 2) (λ e. absurd (no_diagonal e.face)))

at_one : (j : ℕ) → Contains (0 ∷ 3 ∷ []) j ↔ IsEdge 3 square [] square 1 j
at_one = two_neighbours 1 0 3 (side 1 0 (omega arith) (omega arith) (λ e. absurd (omega arith)) (face_turned 0 1 left_face)) (side 1 3 (omega arith) (omega arith) (λ e. absurd (omega arith)) high_face)
    (by_four (λ j. IsEdge 3 square [] square 1 j → Contains (0 ∷ 3 ∷ []) j) (λ e. first_in 0 3) (λ e. absurd (e.apart refl)) (λ e. absurd (no_other_diagonal e.face)) (λ e. second_in 0 3))

at_two : (j : ℕ) → Contains (0 ∷ 3 ∷ []) j ↔ IsEdge 3 square [] square 2 j
at_two = two_neighbours 2 0 3 (side 2 0 (omega arith) (omega arith) (λ e. absurd (omega arith)) (face_turned 0 2 low_face)) (side 2 3 (omega arith) (omega arith) (λ e. absurd (omega arith)) right_face)
    (by_four (λ j. IsEdge 3 square [] square 2 j → Contains (0 ∷ 3 ∷ []) j) (λ e. first_in 0 3) (λ e. absurd (no_other_diagonal (face_turned 2 1 e.face))) (λ e. absurd (e.apart refl)) (λ e. second_in 0 3))

at_three : (j : ℕ) → Contains (1 ∷ 2 ∷ []) j ↔ IsEdge 3 square [] square 3 j
at_three = two_neighbours 3 1 2 (side 3 1 (omega arith) (omega arith) (λ e. absurd (omega arith)) (face_turned 1 3 high_face)) (side 3 2 (omega arith) (omega arith) (λ e. absurd (omega arith)) (face_turned 2 3 right_face))
    (by_four (λ j. IsEdge 3 square [] square 3 j → Contains (1 ∷ 2 ∷ []) j) (λ e. absurd (no_diagonal (face_turned 3 0 e.face))) (λ e. first_in 1 2) (λ e. second_in 1 2) (λ e. absurd (e.apart refl)))

graph : IsGraph 4 (IsEdge 3 square [] square) square_graph
graph = record { nodes = refl; ascending = All_among (IsAscending 4) square_graph rises; edges = λ i j l. at_node i l j }
  where
    rises : (row : List ℕ) → Among row square_graph → IsAscending 4 row
    rises row here = two_ascend 4 1 2 (omega arith) (omega arith)
    rises row (there here) = two_ascend 4 0 3 (omega arith) (omega arith)
    rises row (there (there here)) = two_ascend 4 0 3 (omega arith) (omega arith)
    rises row (there (there (there here))) = two_ascend 4 1 2 (omega arith) (omega arith)
    rises row (there (there (there (there i)))) = elim i [ ]

    at_node : (i : ℕ) → i < 4 → (j : ℕ) → AreNeighbours square_graph i j ↔ IsEdge 3 square [] square i j
    at_node = by_four (λ i. (j : ℕ) → AreNeighbours square_graph i j ↔ IsEdge 3 square [] square i j) at_zero at_one at_two at_three

-- ---- walks
pub distance_at_most : (E : ℕ → ℕ → Type 0) (i j d k : ℕ) → IsDistance E i j d → IsWalk E i j k → d ≤ k
distance_at_most E i j d k s w = elim (cases_lt k d) [ inl l ↦ absurd (s.least k l w) | inr l ↦ l ]

IsReached : ℕ → ℕ → Type 0
IsReached i j = (k : ℕ) × (k ≤ 2) × IsWalk (AreNeighbours square_graph) i j k

reached : (i j : ℕ) → i < 4 → j < 4 → IsReached i j
unfolding IsReached
reached i j li lj = by_four (λ i. (j : ℕ) → j < 4 → (k : ℕ) × (k ≤ 2) × IsWalk (AreNeighbours square_graph) i j k)
    (by_four (λ j. (k : ℕ) × (k ≤ 2) × IsWalk (AreNeighbours square_graph) 0 j k) (0, omega arith, refl) (1, omega arith, (1, first_in 1 2, refl)) (1, omega arith, (2, second_in 1 2, refl)) (2, omega arith, (1, first_in 1 2, (3, second_in 0 3, refl))))
    (by_four (λ j. (k : ℕ) × (k ≤ 2) × IsWalk (AreNeighbours square_graph) 1 j k) (1, omega arith, (0, first_in 0 3, refl)) (0, omega arith, refl) (2, omega arith, (0, first_in 0 3, (2, second_in 1 2, refl))) (1, omega arith, (3, second_in 0 3, refl)))
    (by_four (λ j. (k : ℕ) × (k ≤ 2) × IsWalk (AreNeighbours square_graph) 2 j k) (1, omega arith, (0, first_in 0 3, refl)) (2, omega arith, (0, first_in 0 3, (1, first_in 1 2, refl))) (0, omega arith, refl) (1, omega arith, (3, second_in 0 3, refl)))
    (by_four (λ j. (k : ℕ) × (k ≤ 2) × IsWalk (AreNeighbours square_graph) 3 j k) (2, omega arith, (1, first_in 1 2, (0, first_in 0 3, refl))) (1, omega arith, (1, first_in 1 2, refl)) (1, omega arith, (2, second_in 1 2, refl)) (0, omega arith, refl))
    i li j lj

no_step : ¬ (IsWalk (AreNeighbours square_graph) 0 3 1)
no_step x = elim (two_of (among_Contains (1 ∷ 2 ∷ []) x.1)) [ inl e ↦ (let s = x.2 in omega arith) | inr e ↦ (let s = x.2 in omega arith) ]

no_fewer : (m : ℕ) → m < 2 → ¬ (IsWalk (AreNeighbours square_graph) 0 3 m)
no_fewer zero l e = absurd (omega arith)
no_fewer (suc zero) l x = no_step x
no_fewer (suc (suc m)) l x = absurd (omega arith)

across : IsDistance (AreNeighbours square_graph) 0 3 2
across = record { walk = (1, first_in 1 2, (3, second_in 0 3, refl)); least = no_fewer }

bound : (i j d : ℕ) → i < 4 → j < 4 → IsDistance (AreNeighbours square_graph) i j d → d ≤ 2
unfolding IsReached
bound i j d li lj s = let w = reached i j li lj in let m = distance_at_most (AreNeighbours square_graph) i j d w.0 s w.2 in let l = w.1 in omega arith

diameter : IsDiameter 4 (AreNeighbours square_graph) 2
unfolding IsReached
diameter = record { connected = λ i j li lj. (let w = reached i j li lj in (w.0, w.2)); greatest = record { bound = bound; reached = inr (0, 3, omega arith, omega arith, across) } }

no_three : ¬ (IsDiameter 4 (AreNeighbours square_graph) 3)
no_three d = elim d.greatest.reached [ inl e ↦ absurd (omega arith) | inr w ↦ absurd (let l = bound w.0 w.1 3 w.2 w.3 w.4 in omega arith) ]

pub square_graph_is_read : SquareGraphIsRead
square_graph_is_read = record {
  side = side 0 1 (omega arith) (omega arith) (λ e. absurd (omega arith)) left_face;
  diagonal = λ e. no_diagonal e.face;
  no_loop = λ e. e.apart refl;
  graph = graph;
  one_way = λ g. (let e = only_one (among_Contains (1 ∷ []) ((g.edges 3 2 (omega arith)).1 ((at_three 2).0 (second_in 1 2)))) in absurd (omega arith));
  with_diagonals = λ g. no_diagonal ((g.edges 0 3 (omega arith)).0 (2, omega arith, refl)).face;
  sides = refl;
  walk = across.walk;
  no_step = no_step;
  long_walk = (1, first_in 1 2, (0, first_in 0 3, (1, first_in 1 2, (3, second_in 0 3, refl))));
  distance = across;
  not_least = λ d. absurd (let l = distance_at_most (AreNeighbours square_graph) 0 3 4 2 d across.walk in omega arith);
  diameter = diameter;
  not_one = λ d. absurd (let l = d.greatest.bound 0 3 2 (omega arith) (omega arith) across in omega arith);
  not_three = no_three;
}

-- ---- no, one and two nodes
alone : (E : ℕ → ℕ → Type 0) (i j d : ℕ) → i < 1 → j < 1 → IsDistance E i j d → d ≤ 0
alone E i j d li lj s = distance_at_most E i j d 0 s (let e : i ≡ j = omega arith in e)

no_neighbour : (i h : ℕ) → ¬ (AreNeighbours apart_graph i h)
no_neighbour zero h c = elim (among_Contains [] c) [ ]
no_neighbour (suc zero) h c = elim (among_Contains [] c) [ ]
no_neighbour (suc (suc i)) h c = elim (among_Contains [] c) [ ]

no_walk : (k : ℕ) → ¬ (IsWalk (AreNeighbours apart_graph) 0 1 k)
no_walk zero e = absurd (omega arith)
no_walk (suc k) w = no_neighbour 0 w.0 w.1

stays : (i j d : ℕ) → IsDistance (AreNeighbours apart_graph) i j d → d ≤ 0
stays i j zero s = omega arith
stays i j (suc d) s = absurd (no_neighbour i s.walk.0 s.walk.1)

apart : ¬ (IsConnected 2 (AreNeighbours apart_graph))
apart c = let w = c 0 1 (omega arith) (omega arith) in no_walk w.0 w.1

no_one : ¬ (IsDiameter 1 (AreNeighbours point_graph) 1)
no_one d = elim d.greatest.reached [ inl e ↦ absurd (omega arith) | inr w ↦ absurd (let l = alone (AreNeighbours point_graph) w.0 w.1 1 w.2 w.3 w.4 in omega arith) ]

pub small_graphs_are_read : SmallGraphsAreRead
small_graphs_are_read = record {
  none = record { connected = λ i j li lj. absurd (omega arith); greatest = record { bound = λ i j d li lj s. absurd (omega arith); reached = inl refl } };
  point = record { connected = λ i j li lj. (0, (let e : i ≡ j = omega arith in e)); greatest = record { bound = λ i j d li lj s. alone (AreNeighbours point_graph) i j d li lj s; reached = inl refl } };
  point_not_one = no_one;
  apart = apart;
  apart_has_none = λ k d. apart d.connected;
  apart_distance = record { bound = λ i j d li lj s. stays i j d s; reached = inl refl };
}
