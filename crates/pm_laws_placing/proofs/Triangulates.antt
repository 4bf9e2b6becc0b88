-- The last cells of the placing are a triangulation.
use Rattle.pm_vector.proofs.ConeLaws.{in_line, in_of}
use Rattle.pm_vector.proofs.Lists.{All_among, Among, Any_among, among_All, among_Any, among_Contains, among_append_left, among_append_right, here, there}
use Rattle.pm_vector.specs.Cones.{InCone, InSpan}
use Rattle.pm_vector.specs.Rows.{HasCols, Row}
use Rattle.pm_vector.proofs.Spans.{place_of, span_of}
use Rattle.pm_laws_placing.proofs.CellSteps.{Carried, among_map, map_among}
use Rattle.pm_laws_placing.proofs.CellMasks.{among_rows_at, at_has, cell_free, holds_among, mask, rows_at_among, shared_to, without}
use Rattle.pm_laws_placing.proofs.LeastSums.{least_cells_triangulate}
use Rattle.pm_laws_placing.proofs.Meets.{from_cell, meet}
use Rattle.pm_laws_placing.proofs.Places.{Distinct, length_stated, rising_distinct, rising_of, stated_all}
use Rattle.pm_laws_placing.proofs.Sequences.{State, last_state, length_both, st_cols}
use Rattle.pm_laws_placing.proofs.Starts.{Free, free_independent}
use Rattle.pm_laws_placing.specs.LeastSums.{InCell, IsCellList, IsLeastCell}
use Rattle.pm_laws_placing.specs.Placing.{IsPlacing, PlacingTriangulates, stated_places}
use Rattle.pm_geom.specs.Triangulations.{IsIndependentModulo, IsTriangulation, rows_at, shared}
use Rattle.pm_geom.specs.Faces.{ray}
use Rattle.pm_geom.specs.Graphs.{IsAscending}
use Rattle.std.specs.Prelude.{ℕ, zero, suc, ◌+◌, ◌<◌, ◌≤◌, ◌≡◌, ◌↔◌, Bool, List, [], ◌∷◌, ◌++◌, length, map, take}
use Rattle.std.specs.List.{All}
use Rattle.std.proofs.Common.{arith, sym, subst, ◌∙◌}

take_all : (xs : List ℕ) (k p : ℕ) → length xs ≤ k → Among p xs → Among p (take k xs)
take_all [] k p l i = elim i [ ]
take_all (x ∷ xs) zero p l i = absurd (omega arith)
take_all (x ∷ xs) (suc k) p l here = here
take_all (x ∷ xs) (suc k) p l (there i) = there (take_all xs k p (omega arith) i)

module _ (G L : List Row) (s : List ℕ) (alone : (k : ℕ) → Among k s → ¬ (InSpan (rows_at G (without k s).rest ++ L) (ray G k))) where
  free_part : (t : List ℕ) (N : List Row) → Distinct t → ((k : ℕ) → Among k t → Among k s) → ((k : ℕ) → Among k t → (l : Row) → Among l N → InSpan (rows_at G (without k s).rest ++ L) l) → Free N (rows_at G t)
  unfolding Free Distinct
  free_part [] N d sub lines = tt
  free_part (k ∷ t) N d sub lines = (
    λ h. alone k (sub k here) (span_of (rows_at G (without k s).rest ++ L) N (λ l i. lines k here l i) h),
    free_part t (ray G k ∷ N) d.1 (λ j i. sub j (there i)) later,
  )
    where
      later : (j : ℕ) → Among j t → (l : Row) → Among l (ray G k ∷ N) → InSpan (rows_at G (without j s).rest ++ L) l
      later j i l here = in_line (among_append_left L (among_rows_at G (without j s).rest k ((without j s).from k (sub k here) (λ e. d.0 (subst (λ (z : ℕ). Among z t) (sym e) i)))))
      later j i l (there q) = lines j (there i) l q

  pub free_cell_rows : Distinct s → IsIndependentModulo L (rows_at G s)
  free_cell_rows d = free_independent L (rows_at G s) (free_part s L d (λ k i. i) (λ k i l il. in_line (among_append_right (rows_at G (without k s).rest) il)))

module _ (n : ℕ) (K G L : List Row) (hK : HasCols n K) (hG : HasCols n G) (hL : HasCols n L) (gens : (x : Row) → length x ≡ n → InCone K [] x ↔ InSpan L x) (T : List (List ℕ)) (pl : IsPlacing n K G (length (K ++ G)) T) where
  st : State n K G L hK hG hL gens (length (K ++ G)) T pl (length (K ++ G))
  st = last_state n K G L hK hG hL gens (length (K ++ G)) T pl

  carried : Carried G L st.P T
  carried = subst (λ (Z : List (List ℕ)). Carried G L st.P Z) pl.last st.carried

  all_placed : (j : ℕ) → j < length G → Among j st.P
  all_placed j l = (st.members j).1 (take_all (stated_places pl.marks) (length (K ++ G)) (length K + j) (let a = length_stated pl.marks in let b = pl.enlarging.as_many in omega arith) (stated_all pl.marks (length K + j) (let b = pl.enlarging.as_many in let c = length_both K G in omega arith)))

  rising : (s : List ℕ) → Among s T → Distinct s
  rising s i = rising_distinct s (rising_of s (among_All (λ s. IsAscending (length G) s) i (subst (λ (Z : List (List ℕ)). All (λ s. IsAscending (length G) s) Z) pl.last (pl.ascending (length (K ++ G)) pl.enough (omega arith)))).1)

  placed_row : (x : Row) → Among x G → Among x (rows_at G st.P)
  placed_row x i = let w = place_of i in subst (λ (y : Row). Among y (rows_at G st.P)) w.2 (among_rows_at G st.P w.0 (all_placed w.0 w.1))

  W_cols : HasCols n (rows_at G st.P)
  W_cols = st_cols n K G L hK hG hL gens (length (K ++ G)) T pl (length (K ++ G)) st (omega arith)

  cells : IsCellList n (rows_at G st.P) L (map (mask st.P) T)
  cells = least_cells_triangulate n (rows_at G st.P) L W_cols hL (map (mask st.P) T) carried.least.cells carried.least.all

  cell_of : (s : List ℕ) → Among s T → IsLeastCell (rows_at G st.P) L (mask st.P s)
  cell_of s i = among_All (λ m. IsLeastCell (rows_at G st.P) L m) (among_map (mask st.P) i) carried.least.cells

  from_mask : (s : List ℕ) (x : Row) → InCell (rows_at G st.P) L (mask st.P s) x → InCone (rows_at G s) L x
  from_mask s x h = from_cell G L st.P s (mask st.P s) (λ p q a t. holds_among s p (sym (at_has s a) ∙ t)) x h

  part : (s t r : List ℕ) → ((j : ℕ) → Among j r → Among j s) → (x : Row) → InCone (rows_at G r) L x → InCone (rows_at G s) L x
  part s t r f x h = in_of (rows_at G s) (rows_at G r) L (λ g i. let w = rows_at_among G r g i in subst (λ (y : Row). Among y (rows_at G s)) w.2 (among_rows_at G s w.0 (f w.0 w.1))) h

  pub triangulation : IsTriangulation n G L T
  triangulation = record {
    independent = All_among (λ s. IsIndependentModulo L (rows_at G s)) T (λ s i. free_cell_rows G L s (λ k ik. cell_free G L st.P s (carried.inside s i) (cell_of s i) k ik (without k s)) (rising s i));
    covers = λ x lx h.
        let w = among_Any (λ m. InCell (rows_at G st.P) L m x) (map (mask st.P) T) (cells.covers x lx (in_of (rows_at G st.P) G L placed_row h)) in
        let r = map_among (mask st.P) T w.1 in
        Any_among (λ s. InCone (rows_at G s) L x) r.1 (from_mask r.0 x (subst (λ (m : List Bool). InCell (rows_at G st.P) L m x) (sym r.2) w.2));
    meets = λ s t cs ct x lx. (
      λ h. meet n G L st.P T W_cols hL carried s t (among_Contains T cs) (among_Contains T ct) x h,
      λ h. (part s t (shared s t) (λ j i. (shared_to s t j i).0) x h, part t s (shared s t) (λ j i. (shared_to s t j i).1) x h),
    );
  }

pub placing_triangulates : PlacingTriangulates
placing_triangulates n K G L hK hG hL gens T pl = triangulation n K G L hK hG hL gens T pl
