-- A connected graph has a diameter.
use Rattle.pm_vector.proofs.Lists.{Among, Contains_among, among_Contains, here, there}
use Rattle.pm_geom.proofs.SmallGraphs.{distance_at_most}
use Rattle.pm_geom.specs.Graphs.{AreNeighbours, IsConnected, IsDiameter, IsDistance, IsEdge, IsRidge, IsWalk}
use Rattle.pm_ranks.proofs.Dual.{dual_graph_is_connected}
use Rattle.pm_ranks.proofs.GraphWalks.{connected_from, diameter_to}
use Rattle.pm_ranks.proofs.Least.{greatest, least}
use Rattle.pm_ranks.proofs.Walks.{graph_is_connected}
use Rattle.pm_ranks.specs.Laws.{DualGraphHasDiameter, GraphHasDiameter}
use Rattle.std.proofs.Common.{arith, inl, inr}
use Rattle.std.proofs.lemmas.Bool.{cases_eq}
use Rattle.std.specs.List.{slice_index_or}
use Rattle.std.specs.Prelude.{List, [], length, suc, zero, ℕ, ◌<◌, ◌∷◌, ◌≡◌, ◌≤◌, ◌⊎◌}

some_step : (P : ℕ → Type 0) → ((k : ℕ) → P k ⊎ ¬ (P k)) → (xs : List ℕ) → ((k : ℕ) × Among k xs × P k) ⊎ ((k : ℕ) → Among k xs → ¬ (P k))
some_step P dec [] = inr (λ k i. elim i [ ])
some_step P dec (x ∷ xs) = elim (dec x) [
  | inl p ↦ inl (x, here, p)
  | inr out ↦ elim (some_step P dec xs) [ inl w ↦ inl (w.0, there w.1, w.2) | inr f ↦ inr (both out f) ]
]
  where
    both : ¬ (P x) → ((k : ℕ) → Among k xs → ¬ (P k)) → (k : ℕ) → Among k (x ∷ xs) → ¬ (P k)
    both out f k here = out
    both out f k (there i) = f k i

walk_decided : (rows : List (List ℕ)) (k i j : ℕ) → IsWalk (AreNeighbours rows) i j k ⊎ ¬ (IsWalk (AreNeighbours rows) i j k)
walk_decided rows zero i j = cases_eq i j
walk_decided rows (suc k) i j = elim (some_step (λ h. IsWalk (AreNeighbours rows) h j k) (λ h. walk_decided rows k h j) (slice_index_or rows i [])) [
  | inl w ↦ inl (w.0, Contains_among w.1, w.2)
  | inr f ↦ inr (λ w. f w.0 (among_Contains (slice_index_or rows i []) w.1) w.2)
]

module _ (n : ℕ) (rows : List (List ℕ)) (joined : IsConnected n (AreNeighbours rows)) where
  abbrev D : ℕ → ℕ → ℕ → Type 0
  D i j d = IsDistance (AreNeighbours rows) i j d

  distance : (i j : ℕ) → i < n → j < n → (d : ℕ) × D i j d
  distance i j li lj =
      let w = joined i j li lj in
      let s = least (λ k. IsWalk (AreNeighbours rows) i j k) (λ k. walk_decided rows k i j) w.0 w.1 in
      (s.number, record { walk = s.has; least = s.least })

  -- k is the greatest distance from i
  record IsFarthest (i k : ℕ) : Type 0 where
    bound : (j d : ℕ) → j < n → D i j d → d ≤ k
    reached : (k ≡ 0) ⊎ ((j : ℕ) × (j < n) × D i j k)

  farthest : (i : ℕ) → i < n → (k : ℕ) × IsFarthest i k
  farthest i li =
      let g = greatest (D i) n (λ j lj. distance i j li lj) in
      (g.number, record { bound = λ j d lj e. (let w = g.all j lj in let l = w.1 in let m = distance_at_most (AreNeighbours rows) i j d w.0 e w.2.walk in omega arith); reached = g.some })

  pub diameter : (k : ℕ) × IsDiameter n (AreNeighbours rows) k
  diameter =
      let g = greatest IsFarthest n farthest in (
        g.number,
        record {
          connected = joined;
          greatest = record {
            bound = λ i j d li lj e. (let w = g.all i li in let l = w.1 in let m = w.2.bound j d lj e in omega arith);
            reached = elim g.some [ inl e ↦ inl e | inr w ↦ elim w.2.reached [ inl e ↦ inl e | inr u ↦ inr (w.0, u.0, w.1, u.1, u.2) ] ];
          };
        },
      )

pub graph_has_diameter : GraphHasDiameter
graph_has_diameter n G L hg hl V o rows g =
    let joined = connected_from (length V) (IsEdge n G L V) rows g (λ i j li lj. (let w = graph_is_connected n G L hg hl V o i j li lj in (w.0, w.2))) in
    let d = diameter (length V) rows joined in
    (d.0, diameter_to (length V) (IsEdge n G L V) rows g d.0 d.1)

pub dual_graph_has_diameter : DualGraphHasDiameter
dual_graph_has_diameter n G L hg hl V F oV oF rows g =
    let joined = connected_from (length F) (IsRidge n G L V F) rows g (λ i j li lj. (let w = dual_graph_is_connected n G L hg hl V F oV oF i j li lj in (w.0, w.2))) in
    let d = diameter (length F) rows joined in
    (d.0, diameter_to (length F) (IsRidge n G L V F) rows g d.0 d.1)
