-- Graphs of right sets are the graphs of the cone.
use Rattle.pm_vector.proofs.Lists.{Among, Contains_among, among_Contains, here, there}
use Rattle.pm_vector.specs.Rows.{Row, dot}
use Rattle.pm_geom.specs.Faces.{ray}
use Rattle.pm_geom.specs.Graphs.{AreNeighbours, IsEdge, IsGreatestDistance, IsRidge}
use Rattle.pm_graph.specs.Laws.{DualGreatestDistanceIsDiameter, GreatestDistanceIsDiameter, IndexEdgesAreEdges, SetEdgesAreRidges}
use Rattle.pm_ranks.proofs.Dual.{dual_graph_is_connected}
use Rattle.pm_ranks.proofs.EdgeFacets.{edges_by_facets}
use Rattle.pm_ranks.proofs.Facets.{ridges_by_facets}
use Rattle.pm_ranks.proofs.GraphWalks.{greatest_distance_to}
use Rattle.pm_ranks.proofs.Walks.{graph_is_connected}
use Rattle.pm_types.specs.Right.{IsIncidence}
use Rattle.std.proofs.Common.{arith, refl, subst, sym}
use Rattle.std.specs.List.{Contains, slice_index_or}
use Rattle.std.specs.Prelude.{List, [], length, suc, zero, ℕ, ◌<◌, ◌↔◌, ◌∷◌, ◌≡◌}
use lib.IntN.{pos}

-- ---- the sets of facets
pub sets_are_facets : (F V : List Row) (rows : List (List ℕ)) → IsIncidence F V rows → length rows ≡ length F
sets_are_facets [] V [] h = refl
sets_are_facets [] V (r ∷ rows) h = absurd h
sets_are_facets (f ∷ F) V [] h = absurd h
sets_are_facets (f ∷ F) V (r ∷ rows) h = let e = sets_are_facets F V rows h.1 in omega arith

-- the set at k holds the rays in the facet at k
pub set_at : (F V : List Row) (rows : List (List ℕ)) → IsIncidence F V rows → (k : ℕ) → k < length F → (j : ℕ) → Contains (slice_index_or rows k []) j ↔ ((j < length V) × (dot (ray F k) (ray V j) ≡ pos 0))
set_at [] V rows h k l j = absurd (omega arith)
set_at (f ∷ F) V [] h k l j = absurd h
set_at (f ∷ F) V (r ∷ rows) h zero l j = h.0 j
set_at (f ∷ F) V (r ∷ rows) h (suc k) l j = set_at F V rows h.1 k (omega arith) j

place_of_set : (rows : List (List ℕ)) {set : List ℕ} → Among set rows → (k : ℕ) × (k < length rows) × (slice_index_or rows k [] ≡ set)
place_of_set [] i = elim i [ ]
place_of_set (r ∷ rows) here = (0, omega arith, refl)
place_of_set (r ∷ rows) (there i) = let w = place_of_set rows i in (suc w.0, (let l = w.1 in omega arith), w.2)

set_among : (rows : List (List ℕ)) (k : ℕ) → k < length rows → Among (slice_index_or rows k []) rows
set_among [] k l = absurd (omega arith)
set_among (r ∷ rows) zero l = here
set_among (r ∷ rows) (suc k) l = there (set_among rows k (omega arith))

module _ (F V : List Row) (rows : List (List ℕ)) (h : IsIncidence F V rows) where
  -- what is asked of all sets is asked of all facets
  all_facets : (i j l : ℕ) → i < length V → j < length V → l < length V → ((set : List ℕ) → Contains rows set → Contains set i → Contains set j → Contains set l) → (k : ℕ) → k < length F → dot (ray F k) (ray V i) ≡ pos 0 → dot (ray F k) (ray V j) ≡ pos 0 → dot (ray F k) (ray V l) ≡ pos 0
  all_facets i j l li lj ll f k lk zi zj =
      let n = sets_are_facets F V rows h in
      ((set_at F V rows h k lk l).0 (f (slice_index_or rows k []) (Contains_among (set_among rows k (omega arith))) ((set_at F V rows h k lk i).1 (li, zi)) ((set_at F V rows h k lk j).1 (lj, zj)))).1

  all_sets : (i j l : ℕ) → l < length V → ((k : ℕ) → k < length F → dot (ray F k) (ray V i) ≡ pos 0 → dot (ray F k) (ray V j) ≡ pos 0 → dot (ray F k) (ray V l) ≡ pos 0) → (set : List ℕ) → Contains rows set → Contains set i → Contains set j → Contains set l
  all_sets i j l ll f set c ci cj =
      let w = place_of_set rows (among_Contains rows c) in
      let n = sets_are_facets F V rows h in
      let lk : w.0 < length F = (let m = w.1 in omega arith) in
      let zi = ((set_at F V rows h w.0 lk i).0 (subst (λ s. Contains s i) (sym w.2) ci)).1 in
      let zj = ((set_at F V rows h w.0 lk j).0 (subst (λ s. Contains s j) (sym w.2) cj)).1 in
      subst (λ s. Contains s l) w.2 ((set_at F V rows h w.0 lk l).1 (ll, f w.0 lk zi zj))

pub index_edges_are_edges : IndexEdgesAreEdges
index_edges_are_edges n G L hg hl V F oV oF rows h i j = (
  λ e. (edges_by_facets n G L hg hl V F oV oF i j).1 (e.first, e.second, e.apart, λ l ll ni nj f. e.alone l ll ni nj (all_sets F V rows h i j l ll f)),
  λ e.
      let w = (edges_by_facets n G L hg hl V F oV oF i j).0 e in
      record { first = w.0; second = w.1; apart = w.2; alone = λ l ll ni nj f. w.3 l ll ni nj (all_facets F V rows h i j l w.0 w.1 ll f) },
)

pub set_edges_are_ridges : SetEdgesAreRidges
set_edges_are_ridges n G L hg hl V F oV oF rows h i k = (
  λ e.
      let m = sets_are_facets F V rows h in
      let li : i < length F = (let l = e.first in omega arith) in
      let lk : k < length F = (let l = e.second in omega arith) in
      (ridges_by_facets n G L hg hl V F oV oF i k).1 (
        li,
        lk,
        e.apart,
        λ l ll ni nk f. e.alone l (omega arith) ni nk (λ j ci ck.
            let wi = (set_at F V rows h i li j).0 ci in
            let wk = (set_at F V rows h k lk j).0 ck in
            (set_at F V rows h l ll j).1 (wi.0, f j wi.0 wi.1 wk.1)),
      ),
  λ e.
      let m = sets_are_facets F V rows h in
      let w = (ridges_by_facets n G L hg hl V F oV oF i k).0 e in
      record {
        first = let l = w.0 in omega arith;
        second = let l = w.1 in omega arith;
        apart = w.2;
        alone = λ l ll ni nk f. w.3 l (let q = ll in omega arith) ni nk (λ j lj zi zk. ((set_at F V rows h l (let q = ll in omega arith) j).0 (f j ((set_at F V rows h i w.0 j).1 (lj, zi)) ((set_at F V rows h k w.1 j).1 (lj, zk)))).1);
      },
)

-- ---- diameters
pub greatest_distance_is_diameter : GreatestDistanceIsDiameter
greatest_distance_is_diameter n G L hg hl V o rows g k d = record {
  connected = λ i j li lj. (let w = graph_is_connected n G L hg hl V o i j li lj in (w.0, w.2));
  greatest = greatest_distance_to (length V) (IsEdge n G L V) rows g k (subst (λ m. IsGreatestDistance m (AreNeighbours rows) k) g.nodes d);
}

pub dual_greatest_distance_is_diameter : DualGreatestDistanceIsDiameter
dual_greatest_distance_is_diameter n G L hg hl V F oV oF rows g k d = record {
  connected = λ i j li lj. (let w = dual_graph_is_connected n G L hg hl V F oV oF i j li lj in (w.0, w.2));
  greatest = greatest_distance_to (length F) (IsRidge n G L V F) rows g k (subst (λ m. IsGreatestDistance m (AreNeighbours rows) k) g.nodes d);
}
