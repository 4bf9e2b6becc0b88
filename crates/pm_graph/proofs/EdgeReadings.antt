-- Edges of tables, read for the sets that they hold.
use Rattle.pm_vector.proofs.Lists.{Among, Contains_among, among_Contains, here, there}
use Rattle.pm_bits.specs.Sets.{has}
use Rattle.pm_bits.specs.Table.{Table, row_at}
use Rattle.pm_geom.specs.Graphs.{IsGraph, holds}
use Rattle.pm_graph.proofs.Holds.{contains_holds, holds_contains}
use Rattle.pm_graph.specs.Edges.{IsIndexEdge, IsRowEdge, IsSetEdge}
use Rattle.pm_graph.specs.Tables.{AreColumnsOf, IsTableOf}
use Rattle.pm_types.specs.Values.{IndexSets}
use Rattle.std.proofs.Common.{ap, arith, refl, subst, sym, ◌∙◌}
use Rattle.std.specs.List.{Contains, slice_index_or}
use Rattle.std.specs.Prelude.{IsTrue, List, [], suc, zero, ℕ, ◌<◌, ◌↔◌, ◌∷◌, ◌≡◌}

-- a graph of one relation is that of another that says the same
pub graph_as : (n m : ℕ) (E E' : ℕ → ℕ → Type 0) (rows rows' : List (List ℕ)) → n ≡ m → rows ≡ rows' → ((i j : ℕ) → i < n → E i j ↔ E' i j) → IsGraph n E rows → IsGraph m E' rows'
graph_as n m E E' rows rows' en er h g = subst (λ k. IsGraph k E' rows') en (subst (λ r. IsGraph n E' r) er (record {
  nodes = g.nodes;
  ascending = g.ascending;
  edges = λ i j l. (λ c. (h i j l).0 ((g.edges i j l).0 c), λ e. (g.edges i j l).1 ((h i j l).1 e));
}))

module _ (rows : List (List ℕ)) (t : Table) (is : IsTableOf rows t) where
  bit_to : (i j : ℕ) → IsTrue (has (row_at t i) j) → Contains (slice_index_or rows i []) j
  bit_to i j h = holds_contains (slice_index_or rows i []) j (sym (is.bits i j) ∙ h)

  bit_from : (i j : ℕ) → Contains (slice_index_or rows i []) j → IsTrue (has (row_at t i) j)
  bit_from i j c = is.bits i j ∙ contains_holds (slice_index_or rows i []) j c

  pub set_edge : (i k : ℕ) → IsRowEdge t i k ↔ IsSetEdge rows i k
  set_edge i k = (
    λ e. record {
      first = let l = e.first in let q = is.count in omega arith;
      second = let l = e.second in let q = is.count in omega arith;
      apart = e.apart;
      alone = λ l ll ni nk h. e.alone l (let q = is.count in omega arith) ni nk (λ x a b. bit_from l x (h x (bit_to i x a) (bit_to k x b)));
    },
    λ e. record {
      first = let l = e.first in let q = is.count in omega arith;
      second = let l = e.second in let q = is.count in omega arith;
      apart = e.apart;
      alone = λ l ll ni nk h. e.alone l (let q = is.count in omega arith) ni nk (λ x a b. bit_to l x (h x (bit_from i x a) (bit_from k x b)));
    },
  )

-- a set that holds something is one of the list
holder : (rows : List (List ℕ)) (x i : ℕ) → IsTrue (holds (slice_index_or rows x []) i) → Contains rows (slice_index_or rows x [])
holder rows x i t = Contains_among (inside rows x i t)
  where
    inside : (rs : List (List ℕ)) (x i : ℕ) → IsTrue (holds (slice_index_or rs x []) i) → Among (slice_index_or rs x []) rs
    inside [] x i t = absurd cc
    inside (r ∷ rs) zero i t = here
    inside (r ∷ rs) (suc x) i t = there (inside rs x i t)

place_of : (rows : List (List ℕ)) {set : List ℕ} → Among set rows → (x : ℕ) × (slice_index_or rows x [] ≡ set)
place_of [] i = elim i [ ]
place_of (r ∷ rows) here = (0, refl)
place_of (r ∷ rows) (there i) = let w = place_of rows i in (suc w.0, w.1)

module _ (s : IndexSets) (t : Table) (is : AreColumnsOf s.cols s.rows t.rows) where
  -- what is asked of all sets is asked of all places of the rows
  third_to : (i j l : ℕ) → i < s.cols → j < s.cols → l < s.cols → ((set : List ℕ) → Contains s.rows set → Contains set i → Contains set j → Contains set l) → (x : ℕ) → IsTrue (has (row_at t i) x) → IsTrue (has (row_at t j) x) → IsTrue (has (row_at t l) x)
  third_to i j l li lj ll h x a b =
      let hi = sym (is.bits x i li) ∙ a in
      let hj = sym (is.bits x j lj) ∙ b in
      let set = slice_index_or s.rows x [] in
      is.bits x l ll ∙ contains_holds (slice_index_or s.rows x []) l (h (slice_index_or s.rows x []) (holder s.rows x i hi) (holds_contains (slice_index_or s.rows x []) i hi) (holds_contains (slice_index_or s.rows x []) j hj))

  third_from : (i j l : ℕ) → i < s.cols → j < s.cols → l < s.cols → ((x : ℕ) → IsTrue (has (row_at t i) x) → IsTrue (has (row_at t j) x) → IsTrue (has (row_at t l) x)) → (set : List ℕ) → Contains s.rows set → Contains set i → Contains set j → Contains set l
  third_from i j l li lj ll h set c ci cj =
      let w = place_of s.rows (among_Contains s.rows c) in
      let bi = is.bits w.0 i li ∙ ap (λ r. holds r i) w.1 ∙ contains_holds set i ci in
      let bj = is.bits w.0 j lj ∙ ap (λ r. holds r j) w.1 ∙ contains_holds set j cj in
      holds_contains set l (sym (is.bits w.0 l ll ∙ ap (λ r. holds r l) w.1) ∙ h w.0 bi bj)

  pub index_edge : (i j : ℕ) → IsRowEdge t i j ↔ IsIndexEdge s i j
  index_edge i j = (
    λ e.
        let q = is.count in
        let li : i < s.cols = (let l = e.first in omega arith) in
        let lj : j < s.cols = (let l = e.second in omega arith) in
        record { first = li; second = lj; apart = e.apart; alone = λ l ll ni nj h. e.alone l (omega arith) ni nj (third_to i j l li lj ll h) },
    λ e.
        let q = is.count in
        record {
          first = let l = e.first in omega arith;
          second = let l = e.second in omega arith;
          apart = e.apart;
          alone = λ l ll ni nj h. e.alone l (let m = ll in omega arith) ni nj (third_from i j l e.first e.second (let m = ll in omega arith) h);
        },
  )
