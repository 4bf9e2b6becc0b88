-- The symmetric table of pairs of faces.
use Rattle.pm_vector.proofs.Lists.{Among, here, there}
use Rattle.pm_vector.specs.Numbers.{Ratio}
use Rattle.pm_geom.specs.FaceCounts.{f2_entry, f2_of, inclusion_count, inner}
use Rattle.pm_graph.proofs.PlaceCounts.{range_among}
use Rattle.pm_graph.specs.Counts.{IsTriangle, f2_matrix, lower_count, lower_counts, mirrored, whole}
use Rattle.pm_fraction.specs.Matrices.{FractionMatrix}
use Rattle.std.proofs.Common.{ap, ap₂, arith, inl, inr, refl, sym, ◌∙◌}
use Rattle.std.proofs.lemmas.Bool.{cases_lt}
use Rattle.std.proofs.lemmas.Bool.Decides.{nat_tests}
use Rattle.std.proofs.lemmas.List.FromFn.{get_or-map-range_with_len, length-map-range_with_len, map-range_with_len_more}
use Rattle.std.proofs.lemmas.Simd.{map-map}
use Rattle.std.specs.List.{All, range_with_len, slice_index_or}
use Rattle.std.specs.Prelude.{List, [], cond, false, length, map, nat_lt, true, ℕ, ◌+◌, ◌++◌, ◌<◌, ◌^◌, ◌∷◌, ◌≡◌, ◌≤◌}

-- the rows are those of the lists of faces
pub record AreCountsOf (lists : List (List (List ℕ))) (rows : List (List ℕ)) : Type 0 where
  pub rows_are : rows ≡ map (lower_counts lists) (range_with_len 0 (length lists))
  pub small : All (All (λ n. n < 2 ^ 126)) rows

module _ (lists : List (List (List ℕ))) (rows : List (List ℕ)) (v : AreCountsOf lists rows) where
  pub count_is : length rows ≡ length lists
  count_is = ap length v.rows_are ∙ length-map-range_with_len (lower_counts lists) 0 (length lists)

  row_is : (k : ℕ) → k < length lists → slice_index_or rows k [] ≡ lower_counts lists k
  row_is k l = ap (λ rs. slice_index_or rs k []) v.rows_are ∙ get_or-map-range_with_len (lower_counts lists) 0 (length lists) k k [] l (omega arith)

  entry_is : (k i : ℕ) → k < length lists → i ≤ k → slice_index_or (slice_index_or rows k []) i 0 ≡ lower_count lists k i
  entry_is k i l m = ap (λ r. slice_index_or r i 0) (row_is k l) ∙ get_or-map-range_with_len (lower_count lists k) 0 (k + 1) i i 0 (omega arith) (omega arith)

  pub is_triangle : IsTriangle rows
  is_triangle = record { lengths = λ k l. ap length (row_is k (let n = count_is in omega arith)) ∙ length-map-range_with_len (lower_count lists k) 0 (k + 1); small = v.small }

below : (i k : ℕ) → i < k → nat_lt i k ≡ true
below i k l = grind (arith, nat_tests)

not_below : (i k : ℕ) → k ≤ i → nat_lt i k ≡ false
not_below i k l = grind (arith, nat_tests)

module _ (ranks : List (List (List ℕ))) (rows : List (List ℕ)) (v : AreCountsOf (inner ranks) rows) (i k : ℕ) (li : i < length (inner ranks)) (lk : k < length (inner ranks)) where
  abbrev at : ℕ → List (List ℕ)
  at j = slice_index_or (inner ranks) j []

  falling : k < i → mirrored rows i k ≡ f2_entry ranks i k
  falling l =
      ap (λ b. cond b (slice_index_or (slice_index_or rows i []) k 0) (slice_index_or (slice_index_or rows k []) i 0)) (below k i l)
      ∙ entry_is (inner ranks) rows v i k li (omega arith)
      ∙ ap (λ b. cond b (inclusion_count (at k) (at i)) (length (at i))) (below k i l)
      ∙ sym (ap (λ b. cond b (inclusion_count (at i) (at k)) (cond (nat_lt k i) (inclusion_count (at k) (at i)) (length (at i)))) (not_below i k (omega arith)) ∙ ap (λ b. cond b (inclusion_count (at k) (at i)) (length (at i))) (below k i l))

  rising : i < k → mirrored rows i k ≡ f2_entry ranks i k
  rising l =
      ap (λ b. cond b (slice_index_or (slice_index_or rows i []) k 0) (slice_index_or (slice_index_or rows k []) i 0)) (not_below k i (omega arith))
      ∙ entry_is (inner ranks) rows v k i lk (omega arith)
      ∙ ap (λ b. cond b (inclusion_count (at i) (at k)) (length (at k))) (below i k l)
      ∙ sym (ap (λ b. cond b (inclusion_count (at i) (at k)) (cond (nat_lt k i) (inclusion_count (at k) (at i)) (length (at i)))) (below i k l))

  level : i ≡ k → mirrored rows i k ≡ f2_entry ranks i k
  level e =
      ap (λ b. cond b (slice_index_or (slice_index_or rows i []) k 0) (slice_index_or (slice_index_or rows k []) i 0)) (not_below k i (omega arith))
      ∙ entry_is (inner ranks) rows v k i lk (omega arith)
      ∙ ap (λ b. cond b (inclusion_count (at i) (at k)) (length (at k))) (not_below i k (omega arith))
      ∙ ap (λ j. length (at j)) (sym e)
      ∙ sym (ap (λ b. cond b (inclusion_count (at i) (at k)) (cond (nat_lt k i) (inclusion_count (at k) (at i)) (length (at i)))) (not_below i k (omega arith)) ∙ ap (λ b. cond b (inclusion_count (at k) (at i)) (length (at i))) (not_below k i (omega arith)))

  pub mirrored_is : mirrored rows i k ≡ f2_entry ranks i k
  mirrored_is = elim (cases_lt k i) [ inl l ↦ falling l | inr g ↦ elim (cases_lt i k) [ inl l ↦ rising l | inr h ↦ level (omega arith) ] ]

-- ---- the matrix
map_agrees : {X Y : Type 0} (f g : X → Y) (xs : List X) → ((x : X) → Among x xs → f x ≡ g x) → map f xs ≡ map g xs
map_agrees f g [] h = refl
map_agrees f g (x ∷ xs) h = ap₂ (λ y ys. y ∷ ys) (h x here) (map_agrees f g xs (λ y i. h y (there i)))

abbrev matrix_of : ℕ → List (List Ratio) → FractionMatrix
matrix_of c r = record { cols = c; rows = r }

table_is : (ranks : List (List (List ℕ))) (rows : List (List ℕ)) (v : AreCountsOf (inner ranks) rows) → map (λ i. map (λ k. whole (mirrored rows i k)) (range_with_len 0 (length (inner ranks)))) (range_with_len 0 (length (inner ranks))) ≡ map (map whole) (f2_of ranks)
table_is ranks rows v =
    map_agrees (λ i. map (λ k. whole (mirrored rows i k)) (range_with_len 0 (length (inner ranks)))) (λ i. map whole (map (f2_entry ranks i) (range_with_len 0 (length (inner ranks))))) (range_with_len 0 (length (inner ranks)))
    (λ i qi. map_agrees (λ k. whole (mirrored rows i k)) (λ k. whole (f2_entry ranks i k)) (range_with_len 0 (length (inner ranks)))
    (λ k qk. ap whole (mirrored_is ranks rows v i k (let w = range_among 0 (length (inner ranks)) qi in let l = w.1 in omega arith) (let w = range_among 0 (length (inner ranks)) qk in let l = w.1 in omega arith)))
    ∙ sym (map-map whole (f2_entry ranks i) (range_with_len 0 (length (inner ranks)))))
    ∙ sym (map-map (map whole) (λ i. map (f2_entry ranks i) (range_with_len 0 (length (inner ranks)))) (range_with_len 0 (length (inner ranks))))

pub matrix_is : (ranks : List (List (List ℕ))) (rows : List (List ℕ)) (v : AreCountsOf (inner ranks) rows) (m : FractionMatrix) (d i : ℕ) → d ≡ length (inner ranks) → i ≡ d → m.cols ≡ d → m.rows ≡ map (λ i. map (λ k. whole (mirrored rows i k)) (range_with_len 0 d)) (range_with_len 0 i) → m ≡ f2_matrix ranks
matrix_is ranks rows v m d i ed ei ec er =
    ap₂ matrix_of (ec ∙ ed) (er ∙ ap (λ n. map (λ i. map (λ k. whole (mirrored rows i k)) (range_with_len 0 d)) (range_with_len 0 n)) ei ∙ ap (λ n. map (λ i. map (λ k. whole (mirrored rows i k)) (range_with_len 0 n)) (range_with_len 0 n)) ed ∙ table_is ranks rows v)

pub row_more : (rows : List (List ℕ)) (d n i : ℕ) (old new : List (List Ratio)) (row slice : List Ratio) → n ≡ d → slice ≡ row → row ≡ map (λ k. whole (mirrored rows i k)) (range_with_len 0 n) → new ≡ old ++ slice ∷ [] → old ≡ map (λ i. map (λ k. whole (mirrored rows i k)) (range_with_len 0 d)) (range_with_len 0 i) → new ≡ map (λ i. map (λ k. whole (mirrored rows i k)) (range_with_len 0 d)) (range_with_len 0 (i + 1))
row_more rows d n i old new row slice en es er e eo =
    e ∙ ap₂ (λ xs x. xs ++ x ∷ []) eo (es ∙ er ∙ ap (λ m. map (λ k. whole (mirrored rows i k)) (range_with_len 0 m)) en) ∙ sym (map-range_with_len_more (λ i. map (λ k. whole (mirrored rows i k)) (range_with_len 0 d)) 0 i i (omega arith))

pub entry_more : (rows : List (List ℕ)) (i k n : ℕ) (old new : List Ratio) (f : Ratio) → new ≡ old ++ f ∷ [] → f ≡ whole n → n ≡ mirrored rows i k → old ≡ map (λ k. whole (mirrored rows i k)) (range_with_len 0 k) → new ≡ map (λ k. whole (mirrored rows i k)) (range_with_len 0 (k + 1))
entry_more rows i k n old new f e ef en eo = e ∙ ap₂ (λ xs x. xs ++ x ∷ []) eo (ef ∙ ap whole en) ∙ sym (map-range_with_len_more (λ k. whole (mirrored rows i k)) 0 k k (omega arith))
