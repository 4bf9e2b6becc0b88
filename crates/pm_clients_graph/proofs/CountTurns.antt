-- The turns of the loops that count neighbours and edges.
use Rattle.pm_clients_graph.specs.Degrees.{degrees}
use Rattle.pm_geom.specs.Graphs.{edge_count, edge_count_from}
use Rattle.std.proofs.Common.{ap, arith, drop, sym, ◌∙◌}
use Rattle.std.proofs.lemmas.List.{at_drop_all, at_drop_more, take_all}
use Rattle.std.proofs.lemmas.Simd.{map-map}
use Rattle.std.specs.List.{slice_index_or}
use Rattle.std.specs.Prelude.{List, [], count_by, length, map, nat_lt, suc, take, ℕ, ◌+◌, ◌<◌, ◌≡◌, ◌≤◌}
use lib.IntN.{pos, ℤ}

-- the numbers of all lists are the degrees
pub all_degrees : {X : Type 0} (items : X → List ℕ) (xs : List X) (numbers : List ℤ) (k : ℕ) (rows : List (List ℕ)) → length xs ≤ k → numbers ≡ map (λ x. pos (length (items x))) (take k xs) → map items xs ≡ rows → numbers ≡ degrees rows
all_degrees items xs numbers k rows l so_far all =
    let mapped : degrees (map items xs) ≡ map (λ x. pos (length (items x))) xs = map-map (λ (row : List ℕ). pos (length row)) items xs in
    so_far ∙ ap (map (λ x. pos (length (items x)))) (take_all k xs l) ∙ sym mapped ∙ ap degrees all

module _ (rows : List (List ℕ)) (k count : ℕ) (left : edge_count rows ≡ count + edge_count_from k (drop k rows)) where
  -- one node more is counted
  pub next_edges : (more : ℕ) (row : List ℕ) → k < length rows → row ≡ slice_index_or rows k [] → more ≡ count_by (nat_lt k) row → edge_count rows ≡ (count + more) + edge_count_from (k + 1) (drop (k + 1) rows)
  next_edges more row l is own =
      let first : edge_count_from k (drop k rows) ≡ count_by (nat_lt k) (slice_index_or rows k []) + edge_count_from (suc k) (drop (k + 1) rows) = at_drop_more (edge_count_from k) rows k [] l in
      let this : more ≡ count_by (nat_lt k) (slice_index_or rows k []) = own ∙ ap (count_by (nat_lt k)) is in
      let next : suc k ≡ k + 1 = omega arith in
      let rest = ap (λ m. edge_count_from m (drop (k + 1) rows)) next in
      omega (arith, left, first, this, rest)

  -- all nodes are counted
  pub edges_counted : length rows ≤ k → count ≡ edge_count rows
  edges_counted l = let none : edge_count_from k (drop k rows) ≡ 0 = at_drop_all (edge_count_from k) rows k l in omega (arith, left, none)
