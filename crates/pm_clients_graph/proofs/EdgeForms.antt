-- What the forms of sets, lattices and edges bound, and the form of a graph's lists of neighbours.
use Rattle.pm_vector.proofs.Lists.{All_among, Among, Contains_among, here, there}
use Rattle.pm_clients_graph.specs.Degrees.{degrees}
use Rattle.pm_geom.specs.FaceCounts.{at_rank}
use Rattle.pm_geom.specs.Graphs.{AreNeighbours, IsGraph, holds}
use Rattle.pm_graph.proofs.Holds.{contains_holds}
use Rattle.pm_graph.specs.Edges.{IsFaceEdge, IsIndexEdge, IsSetEdge, whole_of}
use Rattle.pm_graph.specs.Levels.{AreBelow}
use Rattle.pm_types.proofs.Indices.{ascending_indices}
use Rattle.pm_types.specs.Forms.{are_indices, are_joined_back, has_64_bits, is_counts_form, is_edges_form, is_joined_back, is_lattice_form, is_sets_form, joins}
use Rattle.pm_types.specs.Values.{IndexSets}
use Rattle.std.proofs.Common.{arith, inl, inr, leb, ltb, refl, subst, sym, true, ◌&&◌, ◌∙◌}
use Rattle.std.proofs.lemmas.Bool.{and_from, and_parts, le-leb, leb-true, lt-ltb, ltb-true, ne_eqb, not_from_false}
use Rattle.std.proofs.lemmas.List.{length-map}
use Rattle.std.proofs.lemmas.List.Folds.{list_all-map}
use Rattle.std.proofs.lemmas.List.Sums.{AllPass-from_list_all, list_all-from_AllPass}
use Rattle.std.specs.List.{All, AllPairs, Contains, list_all, slice_index_or, sum_by}
use Rattle.std.specs.Prelude.{Bool, List, [], length, nat_eq, nat_le, not, suc, zero, ℕ, ◌+◌, ◌-◌, ◌<◌, ◌∷◌, ◌≡◌, ◌≤◌, ◌^◌}
use lib.IntN.{pos}
use Rattle.pm_limits.specs.Limits.{most_faces, most_indices, most_places, most_rows}

-- ---- forms that were read
-- the indices of an ascending list are below n, and at most so many
indices_below : (n low : ℕ) (r : List ℕ) → are_indices n low r ≡ true → (j : ℕ) → Among j r → j < n
indices_below n low [] h j i = elim i [ ]
indices_below n low (k ∷ r) h j i =
    let p = and_parts (leb low k && ltb k n) (are_indices n (suc k) r) h in
    first_or_later j i (ltb-true k n (and_parts (leb low k) (ltb k n) p.0).1) (indices_below n (suc k) r p.1 j)
  where
    first_or_later : (j : ℕ) → Among j (k ∷ r) → k < n → (Among j r → j < n) → j < n
    first_or_later j here l f = l
    first_or_later j (there i) l f = f i

few_indices : (n low : ℕ) (r : List ℕ) → low ≤ n → are_indices n low r ≡ true → length r ≤ n - low
few_indices n low [] l h = omega arith
few_indices n low (k ∷ r) l h =
    let p = and_parts (leb low k && ltb k n) (are_indices n (suc k) r) h in
    let q = and_parts (leb low k) (ltb k n) p.0 in
    let above = leb-true low k q.0 in
    let below = ltb-true k n q.1 in
    let rest = few_indices n (suc k) r (omega arith) p.1 in
    omega arith

pub index_sets : (rows : List (List ℕ)) (n : ℕ) → is_sets_form rows n ≡ true → (length rows ≤ most_rows) × (n ≤ most_rows) × (list_all (are_indices n 0) rows ≡ true)
index_sets rows n form =
    let p = and_parts (nat_le (length rows) most_rows && nat_le n most_rows) (list_all (are_indices n 0) rows) form in
    let q = and_parts (nat_le (length rows) most_rows) (nat_le n most_rows) p.0 in
    (leb-true (length rows) most_rows q.0, leb-true n most_rows q.1, p.1)

pub sets_below : (rows : List (List ℕ)) (n : ℕ) → is_sets_form rows n ≡ true → AreBelow n rows
sets_below rows n form k d l =
    let each = AllPass-from_list_all (are_indices n 0) rows (index_sets rows n form).2 in
    All_among (λ j. j < n) (slice_index_or rows k d) (indices_below n 0 (slice_index_or rows k d) (each k d l))

-- edges in their form have the number of their nodes
pub edges_with_nodes : (rows : List (List ℕ)) (n : ℕ) → (is_edges_form rows && nat_eq n (length rows)) ≡ true → is_edges_form rows ≡ true
edges_with_nodes rows n form = (and_parts (is_edges_form rows) (nat_eq n (length rows)) form).0

pub sets_of_edges : (rows : List (List ℕ)) → is_edges_form rows ≡ true → is_sets_form rows (length rows) ≡ true
sets_of_edges rows form = (and_parts (is_sets_form rows (length rows)) (are_joined_back rows 0 rows) form).0

pub few_neighbours : (rows : List (List ℕ)) → is_edges_form rows ≡ true → All (λ row. length row ≤ most_rows) rows
few_neighbours rows form k d l =
    let sets = index_sets rows (length rows) (sets_of_edges rows form) in
    let nodes = sets.0 in
    let row = few_indices (length rows) 0 (slice_index_or rows k d) (omega arith) (AllPass-from_list_all (are_indices (length rows) 0) rows sets.2 k d l) in
    omega arith

-- what is so of each element, and of the default, is so at each place
passes_at : {X : Type 0} (p : X → Bool) (xs : List X) (k : ℕ) (d : X) → p d ≡ true → list_all p xs ≡ true → p (slice_index_or xs k d) ≡ true
passes_at p [] k d e h = e
passes_at p (x ∷ xs) zero d e h = (and_parts (p x) (list_all p xs) h).0
passes_at p (x ∷ xs) (suc k) d e h = passes_at p xs k d e (and_parts (p x) (list_all p xs) h).1

pub few_in_whole : (ranks : List (List (List ℕ))) → is_lattice_form ranks ≡ true → length (whole_of ranks) ≤ most_rows
few_in_whole ranks form =
    let all = (and_parts (nat_le (sum_by length ranks) most_faces && nat_le (sum_by (sum_by length) ranks) most_places) (list_all (list_all (are_indices most_indices 0)) ranks) form).1 in
    let last = passes_at (list_all (are_indices most_indices 0)) ranks (length ranks - 1) [] refl all in
    few_indices most_rows 0 (whole_of ranks) (omega arith) (passes_at (are_indices most_indices 0) (at_rank ranks (length ranks - 1)) 0 [] refl last)

-- ---- the form of a graph
-- E joins nodes below n, each to others, and both ways
pub record JoinsNodes (n : ℕ) (E : ℕ → ℕ → Type 0) : Type 0 where
  pub below : (i j : ℕ) → E i j → j < n
  pub apart : (i j : ℕ) → E i j → ¬ (i ≡ j)
  pub back : (i j : ℕ) → E i j → E j i

module _ (n : ℕ) (E : ℕ → ℕ → Type 0) (rows : List (List ℕ)) (g : IsGraph n E rows) (few : n ≤ most_rows) (nodes : JoinsNodes n E) where
  each_row : list_all (are_indices (length rows) 0) rows ≡ true
  each_row = subst (λ m. list_all (are_indices m 0) rows ≡ true) (sym g.nodes) (list_all-from_AllPass (are_indices n 0) rows (λ k d l. ascending_indices n n (slice_index_or rows k d) (omega arith) (g.ascending k d l)))

  row_joined : (i : ℕ) → i < n → (row : List ℕ) → row ≡ slice_index_or rows i [] → is_joined_back rows i row ≡ true
  row_joined i l row e = list_all-from_AllPass (joins rows i) row (All_among (λ j. joins rows i j ≡ true) row (λ j a.
      let c : AreNeighbours rows i j = subst (λ r. Contains r j) e (Contains_among a) in
      let x = (g.edges i j l).0 c in
      let b = (g.edges j i (nodes.below i j x)).1 (nodes.back i j x) in
      and_from (not (nat_eq j i)) (holds (slice_index_or rows j []) i) (not_from_false (nat_eq j i) (ne_eqb j i (λ s. nodes.apart i j x (sym s)))) (contains_holds (slice_index_or rows j []) i b)))

  rows_joined : (i : ℕ) (others : List (List ℕ)) → ((k : ℕ) → k < length others → (i + k < n) × (slice_index_or others k [] ≡ slice_index_or rows (i + k) [])) → are_joined_back rows i others ≡ true
  rows_joined i [] f = refl
  rows_joined i (row ∷ others) f =
      let own = f 0 (omega arith) in
      let at : i + 0 ≡ i = omega arith in
      let first = subst (λ m. (m < n) × (row ≡ slice_index_or rows m [])) at own in
      and_from (is_joined_back rows i row) (are_joined_back rows (suc i) others) (row_joined i first.0 row first.1)
      (rows_joined (suc i) others (λ k l. (let next : i + suc k ≡ suc i + k = omega arith in subst (λ m. (m < n) × (slice_index_or others k [] ≡ slice_index_or rows m [])) next (f (suc k) (omega arith)))))

  pub graph_form : is_edges_form rows ≡ true
  graph_form =
      let count = g.nodes in
      let small : nat_le (length rows) most_rows ≡ true = le-leb (length rows) most_rows (omega arith) in
      and_from (is_sets_form rows (length rows)) (are_joined_back rows 0 rows)
      (and_from (nat_le (length rows) most_rows && nat_le (length rows) most_rows) (list_all (are_indices (length rows) 0) rows) (and_from (nat_le (length rows) most_rows) (nat_le (length rows) most_rows) small small) each_row)
      (rows_joined 0 rows (λ k l. (omega arith, (let same : k ≡ 0 + k = omega arith in subst (λ m. slice_index_or rows k [] ≡ slice_index_or rows m []) same refl))))

pub indices_are_nodes : (s : IndexSets) → JoinsNodes s.cols (IsIndexEdge s)
indices_are_nodes s = record {
  below = λ i j e. e.second;
  apart = λ i j e. e.apart;
  back = λ i j e. record { first = e.second; second = e.first; apart = λ q. e.apart (sym q); alone = λ l b ni nj f. e.alone l b nj ni (λ set c ci cj. f set c cj ci) };
}

pub sets_are_nodes : (rows : List (List ℕ)) → JoinsNodes (length rows) (IsSetEdge rows)
sets_are_nodes rows = record {
  below = λ i j e. e.second;
  apart = λ i j e. e.apart;
  back = λ i j e. record { first = e.second; second = e.first; apart = λ q. e.apart (sym q); alone = λ l b ni nj f. e.alone l b nj ni (λ x ci cj. f x cj ci) };
}

pub places_are_nodes : (ranks : List (List (List ℕ))) → JoinsNodes (length (whole_of ranks)) (IsFaceEdge ranks)
places_are_nodes ranks = record {
  below = λ i j e. e.second;
  apart = λ i j e. e.apart;
  back = λ i j e. record { first = e.second; second = e.first; apart = λ q. e.apart (sym q); face = elim e.face [ inl f ↦ inr f | inr f ↦ inl f ] };
}

-- ---- the form of degrees
pub degrees_form : (rows : List (List ℕ)) → is_edges_form rows ≡ true → is_counts_form (degrees rows) ≡ true
degrees_form rows form =
    let nodes = (index_sets rows (length rows) (sets_of_edges rows form)).0 in
    let count = length-map rows (λ row. pos (length row)) in
    and_from (nat_le (length (degrees rows)) most_rows) (list_all has_64_bits (degrees rows)) (le-leb (length (degrees rows)) most_rows (omega arith))
    (list_all-map has_64_bits (λ row. pos (length row)) rows ∙ list_all-from_AllPass (λ row. has_64_bits (pos (length row))) rows (λ k d l. (let few = few_neighbours rows form k d l in lt-ltb (length (slice_index_or rows k d)) (2 ^ 63) (omega arith))))
