-- Tests that tell the graph of the rays and that of the facets, by which rays lie on which facets.
use Rattle.pm_geom.proofs.Holds.{holds_among, or_left, or_right}
use Rattle.pm_vector.specs.Cones.{InCone}
use Rattle.pm_vector.specs.Rows.{HasCols, Row, dot}
use Rattle.pm_vector.proofs.Lists.{AllPairs_cons, All_among, Among, among_All, here, there}
use Rattle.pm_geom.specs.Cones.{IsOrder, IsValid}
use Rattle.pm_geom.specs.Faces.{ray}
use Rattle.pm_geom.specs.Graphs.{IsAscending, IsEdge, IsGraph, IsRidge, holds}
use Rattle.pm_graph.proofs.Holds.{contains_holds, holds_contains}
use Rattle.pm_ranks.proofs.EdgeFacets.{edges_by_facets}
use Rattle.pm_ranks.proofs.Facets.{ridges_by_facets}
use Rattle.pm_ranks.proofs.Tests.{and_both, and_first, and_second, is_zero, is_zero_from, is_zero_to}
use Rattle.std.proofs.Common.{arith, inl, inr, refl, subst, sym, ◌∙◌}
use Rattle.std.proofs.lemmas.Bool.{cases_eq, eq-eqb, eqb-true, leb-true, ltb-true, or_cases}
use Rattle.std.specs.List.{AllPairs, slice_index_or}
use Rattle.std.specs.Prelude.{Bool, IsTrue, List, [], false, length, nat_le, nat_lt, not, suc, true, zero, ℕ, ◌&&◌, ◌<◌, ◌==◌, ◌||◌, ◌↔◌, ◌∷◌, ◌≡◌, ◌≤◌}
use lib.IntN.{pos}

not_both : (b : Bool) → IsTrue b → IsTrue (not b) → ⊥
not_both true t f = cc
not_both false t f = cc

not_from : (b : Bool) → ¬ (IsTrue b) → IsTrue (not b)
not_from true n = absurd (n refl)
not_from false n = refl

-- ---- all places below m
abbrev every : ℕ → (ℕ → Bool) → Bool
every zero p = true
every (suc m) p = p m && every m p

every_at : (m : ℕ) (p : ℕ → Bool) → IsTrue (every m p) → (j : ℕ) → j < m → IsTrue (p j)
every_at zero p t j l = absurd (omega arith)
every_at (suc m) p t j l = elim (cases_eq j m) [
  | inl e ↦ subst (λ k. IsTrue (p k)) (sym e) (and_first (p m) (every m p) t)
  | inr ne ↦ every_at m p (and_second (p m) (every m p) t) j (let q = ne in omega arith)
]

every_from : (m : ℕ) (p : ℕ → Bool) → ((j : ℕ) → j < m → IsTrue (p j)) → IsTrue (every m p)
every_from zero p f = refl
every_from (suc m) p f = and_both (p m) (every m p) (f m (omega arith)) (every_from m p (λ j l. f j (omega arith)))

-- ---- rising lists
abbrev rises : ℕ → ℕ → List ℕ → Bool
rises a m [] = true
rises a m (x ∷ xs) = nat_le a x && (nat_lt x m && rises (suc x) m xs)

rises_among : (a m : ℕ) (xs : List ℕ) → IsTrue (rises a m xs) → (j : ℕ) → Among j xs → (a ≤ j) × (j < m)
rises_among a m [] t j i = elim i [ ]
rises_among a m (x ∷ xs) t j here = let r = and_second (nat_le a x) (nat_lt x m && rises (suc x) m xs) t in (leb-true a x (and_first (nat_le a x) (nat_lt x m && rises (suc x) m xs) t), ltb-true x m (and_first (nat_lt x m) (rises (suc x) m xs) r))
rises_among a m (x ∷ xs) t j (there i) =
    let w = rises_among (suc x) m xs (and_second (nat_lt x m) (rises (suc x) m xs) (and_second (nat_le a x) (nat_lt x m && rises (suc x) m xs) t)) j i in
    let l = leb-true a x (and_first (nat_le a x) (nat_lt x m && rises (suc x) m xs) t) in
    let k = w.0 in
    (omega arith, w.1)

rises_pairs : (a m : ℕ) (xs : List ℕ) → IsTrue (rises a m xs) → AllPairs (λ i j. i < j) xs
rises_pairs a m [] t = λ i j d l k. absurd (omega arith)
rises_pairs a m (x ∷ xs) t =
    let r = and_second (nat_lt x m) (rises (suc x) m xs) (and_second (nat_le a x) (nat_lt x m && rises (suc x) m xs) t) in
    AllPairs_cons (λ i j. i < j) x xs (λ y i. let w = rises_among (suc x) m xs r y i in let l = w.0 in omega arith) (rises_pairs (suc x) m xs r)

abbrev pub is_rising : ℕ → List ℕ → Bool
is_rising m xs = rises 0 m xs

pub rising_ascends : (m : ℕ) (xs : List ℕ) → IsTrue (is_rising m xs) → IsAscending m xs
rising_ascends m xs t = (All_among (λ j. j < m) xs (λ j i. (rises_among 0 m xs t j i).1), rises_pairs 0 m xs t)

-- ---- lists of neighbours
abbrev same_test : Bool → Bool → Bool
same_test true b = b
same_test false b = not b

tested_same : (a b : Bool) → IsTrue (same_test a b) → a ≡ b
tested_same true true t = refl
tested_same true false t = absurd cc
tested_same false true t = absurd cc
tested_same false false t = refl

-- whether these are the lists of the graph on m nodes that the test e joins
abbrev pub is_graph : ℕ → (ℕ → ℕ → Bool) → List (List ℕ) → Bool
is_graph m e rows = (length rows == m) && every m (λ i. is_rising m (slice_index_or rows i []) && every m (λ j. same_test (holds (slice_index_or rows i []) j) (e i j)))

module _ (m : ℕ) (E : ℕ → ℕ → Type 0) (e : ℕ → ℕ → Bool) (tested : (i j : ℕ) → E i j ↔ ((i < m) × (j < m) × IsTrue (e i j))) (rows : List (List ℕ)) (t : IsTrue (is_graph m e rows)) where
  nodes : length rows ≡ m
  nodes = eqb-true (length rows) m (and_first (length rows == m) _ t)

  row_at : (i : ℕ) → i < m → IsTrue (is_rising m (slice_index_or rows i []) && every m (λ j. same_test (holds (slice_index_or rows i []) j) (e i j)))
  row_at i l = every_at m (λ i. is_rising m (slice_index_or rows i []) && every m (λ j. same_test (holds (slice_index_or rows i []) j) (e i j))) (and_second (length rows == m) _ t) i l

  row_ascends : (i : ℕ) → i < m → IsAscending m (slice_index_or rows i [])
  row_ascends i l = rising_ascends m (slice_index_or rows i []) (and_first _ _ (row_at i l))

  row_holds : (i j : ℕ) → i < m → j < m → holds (slice_index_or rows i []) j ≡ e i j
  row_holds i j li lj = tested_same _ _ (every_at m (λ j. same_test (holds (slice_index_or rows i []) j) (e i j)) (and_second _ _ (row_at i li)) j lj)

  pub graph_by_test : IsGraph m E rows
  graph_by_test = record {
    nodes = nodes;
    ascending = λ i d l. (let s = nodes in let a = row_ascends i (omega arith) in subst (λ r. IsAscending m r) (default_same rows i [] d (omega arith)) a);
    edges = λ i j l. (
      λ c.
          let lj : j < m = among_below j (holds_among (slice_index_or rows i []) j (contains_holds (slice_index_or rows i []) j c)) (row_ascends i l) in
          (tested i j).1 (l, lj, sym (row_holds i j l lj) ∙ contains_holds (slice_index_or rows i []) j c),
      λ x. let w = (tested i j).0 x in holds_contains (slice_index_or rows i []) j (row_holds i j l w.1 ∙ w.2),
    );
  }
    where
      among_below : (j : ℕ) {xs : List ℕ} → Among j xs → IsAscending m xs → j < m
      among_below j i a = among_All (λ k. k < m) i a.0

      default_same : (xs : List (List ℕ)) (i : ℕ) (c d : List ℕ) → i < length xs → slice_index_or xs i c ≡ slice_index_or xs i d
      default_same [] i c d l = absurd (omega arith)
      default_same (x ∷ xs) zero c d l = refl
      default_same (x ∷ xs) (suc i) c d l = default_same xs i c d (omega arith)

-- ---- places of which no third one lies wherever two do: m places, of which z tells whether the place p lies on the thing q, of n
abbrev third : (ℕ → ℕ → Bool) → ℕ → ℕ → ℕ → ℕ → Bool
third z n i j l = every n (λ q. not (z i q) || (not (z j q) || z l q))

abbrev pub alone : (ℕ → ℕ → Bool) → ℕ → ℕ → ℕ → ℕ → Bool
alone z m n i j = not (i == j) && every m (λ l. (l == i) || ((l == j) || not (third z n i j l)))

module _ (Z : ℕ → ℕ → Type 0) (z : ℕ → ℕ → Bool) (lies : (p q : ℕ) → Z p q → IsTrue (z p q)) (lies_back : (p q : ℕ) → IsTrue (z p q) → Z p q) (m n : ℕ) where
  third_from : (i j l : ℕ) → ((q : ℕ) → q < n → Z i q → Z j q → Z l q) → IsTrue (third z n i j l)
  third_from i j l f = every_from n (λ q. not (z i q) || (not (z j q) || z l q)) (λ q k. at q k (z i q) refl (z j q) refl)
    where
      at : (q : ℕ) → q < n → (a : Bool) → z i q ≡ a → (b : Bool) → z j q ≡ b → IsTrue (not a || (not b || z l q))
      at q k true ea true eb = lies l q (f q k (lies_back i q ea) (lies_back j q eb))
      at q k true ea false eb = refl
      at q k false ea b eb = refl

  third_to : (i j l : ℕ) → IsTrue (third z n i j l) → (q : ℕ) → q < n → Z i q → Z j q → Z l q
  third_to i j l t q k a b = lies_back l q (both (z i q) (z j q) (lies i q a) (lies j q b) (every_at n (λ q. not (z i q) || (not (z j q) || z l q)) t q k))
    where
      both : (a b : Bool) → IsTrue a → IsTrue b → IsTrue (not a || (not b || z l q)) → IsTrue (z l q)
      both true true ea eb h = h
      both true false ea eb h = absurd cc
      both false b ea eb h = absurd cc

  pub alone_to : (i j : ℕ) → IsTrue (alone z m n i j) → ¬ (i ≡ j) × ((l : ℕ) → l < m → ¬ (l ≡ i) → ¬ (l ≡ j) → ¬ ((q : ℕ) → q < n → Z i q → Z j q → Z l q))
  alone_to i j t = (
    λ e. not_both (i == j) (eq-eqb i j e) (and_first (not (i == j)) _ t),
    λ l ll ni nj f. elim (or_cases (l == i) _ (every_at m (λ l. (l == i) || ((l == j) || not (third z n i j l))) (and_second (not (i == j)) _ t) l ll)) [
      | inl a ↦ ni (eqb-true l i a)
      | inr r ↦ elim (or_cases (l == j) _ r) [ inl b ↦ nj (eqb-true l j b) | inr c ↦ not_both (third z n i j l) (third_from i j l f) c ]
    ],
  )

  pub alone_from : (i j : ℕ) → ¬ (i ≡ j) → ((l : ℕ) → l < m → ¬ (l ≡ i) → ¬ (l ≡ j) → ¬ ((q : ℕ) → q < n → Z i q → Z j q → Z l q)) → IsTrue (alone z m n i j)
  alone_from i j ne f = and_both (not (i == j)) _ (not_from (i == j) (λ t. ne (eqb-true i j t))) (every_from m (λ l. (l == i) || ((l == j) || not (third z n i j l))) (λ l ll. elim (cases_eq l i) [
    | inl e ↦ or_left (l == i) _ (eq-eqb l i e)
    | inr ni ↦ or_right (l == i) _ (elim (cases_eq l j) [
      | inl e ↦ or_left (l == j) _ (eq-eqb l j e)
      | inr nj ↦ or_right (l == j) _ (not_from (third z n i j l) (λ t. f l ll ni nj (third_to i j l t)))
    ])
  ]))

-- ---- the graphs of a cone
abbrev LiesOn : List Row → List Row → ℕ → ℕ → Type 0
LiesOn V F i k = dot (ray F k) (ray V i) ≡ pos 0

abbrev HoldsRay : List Row → List Row → ℕ → ℕ → Type 0
HoldsRay V F k i = dot (ray F k) (ray V i) ≡ pos 0

-- whether the ray at i lies on the facet at k
abbrev pub on_facet : List Row → List Row → ℕ → ℕ → Bool
on_facet V F i k = is_zero (dot (ray F k) (ray V i))

-- whether the facet at k holds the ray at i
abbrev pub holds_ray : List Row → List Row → ℕ → ℕ → Bool
holds_ray V F k i = is_zero (dot (ray F k) (ray V i))

module _ (n : ℕ) (G L : List Row) (hg : HasCols n G) (hl : HasCols n L) (V F : List Row) (oV : IsOrder n (InCone G L) V) (oF : IsOrder n (IsValid n G L) F) (rows : List (List ℕ)) where
  edge_test : (i j : ℕ) → IsEdge n G L V i j ↔ ((i < length V) × (j < length V) × IsTrue (alone (on_facet V F) (length V) (length F) i j))
  edge_test i j = (
    λ e. let w = (edges_by_facets n G L hg hl V F oV oF i j).0 e in (w.0, w.1, alone_from (LiesOn V F) (on_facet V F) (λ i k. is_zero_from (dot (ray F k) (ray V i))) (λ i k. is_zero_to (dot (ray F k) (ray V i))) (length V) (length F) i j w.2 w.3),
    λ w. (edges_by_facets n G L hg hl V F oV oF i j).1 (let a = alone_to (LiesOn V F) (on_facet V F) (λ i k. is_zero_from (dot (ray F k) (ray V i))) (λ i k. is_zero_to (dot (ray F k) (ray V i))) (length V) (length F) i j w.2 in (w.0, w.1, a.0, a.1)),
  )

  ridge_test : (i k : ℕ) → IsRidge n G L V F i k ↔ ((i < length F) × (k < length F) × IsTrue (alone (holds_ray V F) (length F) (length V) i k))
  ridge_test i k = (
    λ e. let w = (ridges_by_facets n G L hg hl V F oV oF i k).0 e in (w.0, w.1, alone_from (HoldsRay V F) (holds_ray V F) (λ k i. is_zero_from (dot (ray F k) (ray V i))) (λ k i. is_zero_to (dot (ray F k) (ray V i))) (length F) (length V) i k w.2 w.3),
    λ w. (ridges_by_facets n G L hg hl V F oV oF i k).1 (let a = alone_to (HoldsRay V F) (holds_ray V F) (λ k i. is_zero_from (dot (ray F k) (ray V i))) (λ k i. is_zero_to (dot (ray F k) (ray V i))) (length F) (length V) i k w.2 in (w.0, w.1, a.0, a.1)),
  )

  -- lists that pass the test are the graph of the rays
  pub ray_graph : IsTrue (is_graph (length V) (alone (on_facet V F) (length V) (length F)) rows) → IsGraph (length V) (IsEdge n G L V) rows
  ray_graph t = graph_by_test (length V) (IsEdge n G L V) (alone (on_facet V F) (length V) (length F)) edge_test rows t

  -- lists that pass the other test are the graph of the facets
  pub facet_graph : IsTrue (is_graph (length F) (alone (holds_ray V F) (length F) (length V)) rows) → IsGraph (length F) (IsRidge n G L V F) rows
  facet_graph t = graph_by_test (length F) (IsRidge n G L V F) (alone (holds_ray V F) (length F) (length V)) ridge_test rows t
