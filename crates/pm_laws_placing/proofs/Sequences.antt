-- The cells of all rows are a triangulation.
use Rattle.pm_vector.proofs.ConeLaws.{in_generator, in_line, in_line_opposite, in_of, in_through}
use Rattle.pm_vector.proofs.Lists.{All_among, Among, Any_among, Contains_among, all_append, all_from, among_All, among_Any, among_Contains, among_append, among_append_left, among_append_right, here, there}
use Rattle.pm_vector.proofs.RowLaws.{length-opposite}
use Rattle.pm_vector.specs.Cones.{InCone, InSpan}
use Rattle.pm_vector.specs.Rows.{HasCols, Row, opposite}
use Rattle.pm_vector.proofs.Spans.{at_place, span_of}
use Rattle.pm_vector.specs.Bases.{row_at}
use Rattle.pm_laws_placing.proofs.CellSteps.{Carried, among_map, carried_on, map_among}
use Rattle.pm_laws_placing.proofs.CellMasks.{among_rows_at, mask, rows_at_among}
use Rattle.pm_laws_placing.proofs.Different.{same_cell, same_facet}
use Rattle.pm_laws_placing.proofs.Meets.{meet}
use Rattle.pm_laws_placing.proofs.Places.{Rising, front_marked, length_stated, marked_front, rising_of, stated_below, stated_fresh, stated_lower, take_among, take_newest, take_next, take_older}
use Rattle.pm_laws_placing.proofs.Starts.{Free, carried_first, free_independent}
use Rattle.pm_laws_placing.specs.LeastSums.{IsLeastCell, Within, has}
use Rattle.pm_laws_placing.specs.Placing.{IsCellStep, IsExchange, IsOnlyOff, IsPlacing, places_marked, stated_places}
use Rattle.pm_geom.specs.Triangulations.{rows_at}
use Rattle.pm_geom.proofs.Facets.{order_as}
use Rattle.pm_geom.proofs.Polar.{cols_at, membership_decided}
use Rattle.pm_geom.proofs.Reduce.{same_modulo_as}
use Rattle.pm_geom.specs.Cones.{IsFacetRow, IsOrder, IsValid, SameModulo}
use Rattle.pm_geom.specs.Faces.{ray}
use Rattle.pm_geom.specs.Graphs.{IsAscending}
use Rattle.std.specs.Prelude.{ℕ, zero, suc, ◌+◌, ◌<◌, ◌≤◌, ◌≡◌, ◌↔◌, Bool, true, false, List, [], ◌∷◌, ◌++◌, length, map, take}
use Rattle.std.specs.List.{Contains, slice_index_or}
use Rattle.std.proofs.Common.{arith, ap, refl, sym, subst, ◌∙◌, inl, inr}
use Rattle.std.proofs.lemmas.Bool.{cases_Bool, cases_lt}
use native.Mathlib.Decide.{ℕ_discrete}

-- ---- rows of K ++ G
pub row_past : (K G : List Row) (j : ℕ) → row_at (K ++ G) (length K + j) ≡ ray G j
row_past [] G j = let e : 0 + j ≡ j = omega arith in ap (λ (k : ℕ). row_at G k) e
row_past (x ∷ K) G j = let e : suc (length K) + j ≡ suc (length K + j) = omega arith in ap (λ (k : ℕ). row_at (x ∷ (K ++ G)) k) e ∙ row_past K G j

pub row_first : (K G : List Row) (p : ℕ) → p < length K → Among (row_at (K ++ G) p) K
row_first [] G p l = absurd (omega arith)
row_first (x ∷ K) G zero l = here
row_first (x ∷ K) G (suc p) l = there (row_first K G p (omega arith))

pub row_place : (K G : List Row) (x : Row) → Among x K → (p : ℕ) × (p < length K) × (row_at (K ++ G) p ≡ x)
row_place [] G x i = elim i [ ]
row_place (k ∷ K) G x here = (0, omega arith, refl)
row_place (k ∷ K) G x (there i) = let r = row_place K G x i in (suc r.0, (let l = r.1 in omega arith), r.2)

pub length_both : (K G : List Row) → length (K ++ G) ≡ length K + length G
length_both [] G = omega arith
length_both (x ∷ K) G = let h = length_both K G in omega arith

in_take : (X : List Row) (i p : ℕ) → p < i → p < length X → Among (row_at X p) (take i X)
in_take [] i p m l = absurd (omega arith)
in_take (x ∷ X) zero p m l = absurd (omega arith)
in_take (x ∷ X) (suc i) zero m l = here
in_take (x ∷ X) (suc i) (suc p) m l = there (in_take X i p (omega arith) (omega arith))

take_in : (X : List Row) (i : ℕ) (x : Row) → Among x (take i X) → (p : ℕ) × (p < i) × (p < length X) × (row_at X p ≡ x)
take_in [] zero x a = elim a [ ]
take_in [] (suc i) x a = elim a [ ]
take_in (y ∷ X) zero x a = elim a [ ]
take_in (y ∷ X) (suc i) x here = (0, omega arith, omega arith, refl)
take_in (y ∷ X) (suc i) x (there a) = let r = take_in X i x a in (suc r.0, (let l = r.1 in omega arith), (let l = r.2 in omega arith), r.3)

pub difference_of : (a p : ℕ) → a ≤ p → (j : ℕ) × (p ≡ a + j)
difference_of zero p h = (p, omega arith)
difference_of (suc a) zero h = absurd (omega arith)
difference_of (suc a) (suc p) h = let r = difference_of a p (omega arith) in (r.0, (let e = r.1 in omega arith))

-- ---- a list of cells with the same cells
carried_same : (G L : List Row) (P : List ℕ) (T U : List (List ℕ)) → ((s : List ℕ) → Contains U s ↔ Contains T s) → Carried G L P T → Carried G L P U
carried_same G L P T U same c = record {
  least = record {
    cells = All_among (λ m. IsLeastCell (rows_at G P) L m) (map (mask P) U) (λ m i. let r = map_among (mask P) U i in subst (λ (x : List Bool). IsLeastCell (rows_at G P) L x) r.2 (among_All (λ m. IsLeastCell (rows_at G P) L m) (among_map (mask P) (old r.0 r.1)) c.least.cells));
    all = λ d ld.
        let w = among_Any (λ m. Within m d) (map (mask P) T) (c.least.all d ld) in
        let r = map_among (mask P) T w.1 in
        Any_among (λ m. Within m d) (among_map (mask P) (new r.0 r.1)) (subst (λ (x : List Bool). Within x d) (sym r.2) w.2);
  };
  inside = λ s i. c.inside s (old s i);
  spans = λ s i. c.spans s (old s i);
}
  where
    old : (s : List ℕ) → Among s U → Among s T
    old s i = among_Contains T ((same s).0 (Contains_among i))

    new : (s : List ℕ) → Among s T → Among s U
    new s i = among_Contains U ((same s).1 (Contains_among i))

-- ---- all fronts
module _ (n : ℕ) (K G L : List Row) (hK : HasCols n K) (hG : HasCols n G) (hL : HasCols n L) (gens : (x : Row) → length x ≡ n → InCone K [] x ↔ InSpan L x) (f : ℕ) (T : List (List ℕ)) (pl : IsPlacing n K G f T) where
  lead : ℕ
  lead = length K

  m : ℕ
  m = length (places_marked true pl.marks 0)

  order_list : List ℕ
  order_list = stated_places pl.marks

  X_cols : HasCols n (K ++ G)
  X_cols = all_append (λ (x : Row). length x ≡ n) K G hK hG

  marks_many : length pl.marks ≡ length (K ++ G)
  marks_many = pl.enlarging.as_many

  k_span : (x : Row) → Among x K → InSpan L x
  k_span x i = (gens x (cols_at i hK)).0 (in_generator i)

  row_cols : (p : ℕ) → p < length (K ++ G) → length (row_at (K ++ G) p) ≡ n
  row_cols p l = cols_at (at_place (K ++ G) p l) X_cols

  ray_cols : (j : ℕ) → length K + j < length (K ++ G) → length (ray G j) ≡ n
  ray_cols j l = subst (λ (x : Row). length x ≡ n) (row_past K G j) (row_cols (length K + j) l)

  -- the lines, by the first rows
  l_gen : (Q : List Row) → ((x : Row) → Among x K → Among x Q) → (l : Row) → Among l L → InCone Q [] l × InCone Q [] (opposite l)
  l_gen Q sub l i = (
    in_of Q K [] sub ((gens l (cols_at i hL)).1 (in_line i)),
    in_of Q K [] sub ((gens (opposite l) (length-opposite l ∙ cols_at i hL)).1 (in_line_opposite i)),
  )

  -- ---- the start
  free_cell : (s : List ℕ) (N : List Row) → Rising s → ((j : ℕ) → Among j s → (length K + j < length (K ++ G)) × ¬ (InSpan (take (length K + j) (K ++ G)) (ray G j))) → ((j : ℕ) → Among j s → (l : Row) → Among l N → InSpan (take (length K + j) (K ++ G)) l) → Free N (rows_at G s)
  unfolding Free Rising
  free_cell [] N rise out lines = tt
  free_cell (j ∷ s) N rise out lines = (
    λ h. (out j here).1 (span_of (take (length K + j) (K ++ G)) N (λ l i. lines j here l i) h),
    free_cell s (ray G j ∷ N) rise.1 (λ k i. out k (there i)) later,
  )
    where
      later : (k : ℕ) → Among k s → (l : Row) → Among l (ray G j ∷ N) → InSpan (take (length K + k) (K ++ G)) l
      later k i l here = let u = rise.0 k i in let v = (out j here).0 in in_line (subst (λ (x : Row). Among x (take (length K + k) (K ++ G))) (row_past K G j) (in_take (K ++ G) (length K + k) (length K + j) (omega arith) v))
      later k i l (there q) = lines k (there i) l q

  first_marked : (j : ℕ) → Among j pl.first → (length K + j < length (K ++ G)) × ¬ (InSpan (take (length K + j) (K ++ G)) (ray G j))
  first_marked j i =
      let w = front_marked pl.marks (length K + j) (among_Contains (take (length (places_marked true pl.marks 0)) (stated_places pl.marks)) ((pl.is_first.same j).0 (Contains_among i))) in
      let l : length K + j < length (K ++ G) = (let a = w.0 in let b = marks_many in omega arith) in
      (l, subst (λ (x : Row). ¬ (InSpan (take (length K + j) (K ++ G)) x)) (row_past K G j) ((pl.enlarging.exact (length K + j) l).0 w.1))

  first_rising : Rising pl.first
  first_rising = rising_of pl.first (among_All (λ s. IsAscending (length G) s) (subst (λ (Z : List (List ℕ)). Among pl.first Z) (sym pl.start) here) (pl.ascending (length (places_marked true pl.marks 0)) (omega arith) pl.enough)).1

  start_carried : Carried G L pl.first (pl.cells (length (places_marked true pl.marks 0)))
  start_carried = subst (λ (Z : List (List ℕ)). Carried G L pl.first Z) (sym pl.start) (carried_first G L pl.first (free_independent L (rows_at G pl.first) (free_cell pl.first L first_rising first_marked
      (λ j i l il. let q = l_gen K (λ x ix. ix) l il in span_of (take (length K + j) (K ++ G)) L (λ x ix. line_in j i x ix) (in_line il)))))
    where
      -- a line is in the span of the first rows
      line_in : (j : ℕ) → Among j pl.first → (l : Row) → Among l L → InSpan (take (length K + j) (K ++ G)) l
      line_in j i l il = cone_span (take (length K + j) (K ++ G)) K (λ x ix. let r = row_place K G x ix in in_line (subst (λ (y : Row). Among y (take (length K + j) (K ++ G))) r.2 (in_take (K ++ G) (length K + j) r.0 (let a = r.1 in omega arith) (let a = r.1 in let b = length_both K G in omega arith)))) ((gens l (cols_at il hL)).1 (in_line il))
        where
          cone_span : (Q W : List Row) → ((x : Row) → Among x W → InSpan Q x) → {x : Row} → InCone W [] x → InSpan Q x
          cone_span Q W f h = in_through [] Q W [] f (λ y k. elim k [ ]) h

  -- all rows are in the span of the first cell and the lines
  all_spanned : (i : ℕ) → i ≤ length (K ++ G) → (x : Row) → Among x (take i (K ++ G)) → InSpan (rows_at G pl.first ++ L) x
  all_spanned i l x a = let r = take_in (K ++ G) i x a in subst (λ (y : Row). InSpan (rows_at G pl.first ++ L) y) r.3 (at_row i r.0 r.1 r.2)
    where
      at_row : (i p : ℕ) → p < i → p < length (K ++ G) → InSpan (rows_at G pl.first ++ L) (row_at (K ++ G) p)
      at_row zero p u v = absurd (omega arith)
      at_row (suc i) p u v = elim (cases_lt p (length K)) [
        | inl k ↦ span_of (rows_at G pl.first ++ L) L (λ y b. in_line (among_append_right (rows_at G pl.first) b)) (k_span (row_at (K ++ G) p) (row_first K G p k))
        | inr k ↦ (let w = difference_of (length K) p k in elim (cases_Bool (has pl.marks p)) [
          | inl t ↦ subst (λ (q : ℕ). InSpan (rows_at G pl.first ++ L) (row_at (K ++ G) q)) (sym w.1) (subst (λ (y : Row). InSpan (rows_at G pl.first ++ L) y) (sym (row_past K G w.0)) (in_line (among_append_left L (among_rows_at G pl.first w.0
              (among_Contains pl.first ((pl.is_first.same w.0).1 (Contains_among (subst (λ (q : ℕ). Among q (take (length (places_marked true pl.marks 0)) (stated_places pl.marks))) w.1 (marked_front pl.marks p (let b = marks_many in omega arith) t (length (places_marked true pl.marks 0)) (omega arith))))))))))
          | inr e ↦ span_of (rows_at G pl.first ++ L) (take p (K ++ G)) (λ y b. let r = take_in (K ++ G) p y b in subst (λ (z : Row). InSpan (rows_at G pl.first ++ L) z) r.3 (at_row i r.0 (let c = r.1 in omega arith) r.2)) (unmarked p v e)
        ])
      ]
        where
          unmarked : (p : ℕ) → p < length (K ++ G) → has pl.marks p ≡ false → InSpan (take p (K ++ G)) (row_at (K ++ G) p)
          unmarked p v e = elim (membership_decided n [] (take p (K ++ G)) tt (all_from (λ (y : Row). length y ≡ n) (take p (K ++ G)) (λ y b. let r = take_in (K ++ G) p y b in subst (λ (z : Row). length z ≡ n) r.3 (row_cols r.0 r.2))) (row_at (K ++ G) p) (row_cols p v)) [
            | inl h ↦ h
            | inr out ↦ absurd (let t = (pl.enlarging.exact p v).1 out in cc)
          ]

  -- ---- what is so at each front
  pub record State (k : ℕ) : Type 0 where
    pub P : List ℕ
    pub members : (j : ℕ) → Among j P ↔ Among (length K + j) (take k (stated_places pl.marks))
    pub carried : Carried G L P (pl.cells k)

  place_cols : (k : ℕ) (st : State k) (j : ℕ) → Among j st.P → length K + j < length (K ++ G)
  place_cols k st j i = let a = stated_below pl.marks (length K + j) (take_among (stated_places pl.marks) k (length K + j) ((st.members j).0 i)) in let b = marks_many in omega arith

  pub st_cols : (k : ℕ) (st : State k) → k ≤ f → HasCols n (rows_at G st.P)
  st_cols k st l = all_from (λ (x : Row). length x ≡ n) (rows_at G st.P) (λ x i. let w = rows_at_among G st.P x i in subst (λ (y : Row). length y ≡ n) w.2 (ray_cols w.0 (place_cols k st w.0 w.1)))

  module _ (k : ℕ) (st : State k) (lk : k < f) (mk : length (places_marked true pl.marks 0) ≤ k) where
    kl : k < length pl.marks
    kl = let a = pl.within in let b = marks_many in omega arith

    p : ℕ
    p = slice_index_or (stated_places pl.marks) k 0

    many : k < length (stated_places pl.marks)
    many = let a = length_stated pl.marks in let b = kl in omega arith

    abbrev pub step : IsCellStep n (length K) (K ++ G) G (take k (stated_places pl.marks)) (slice_index_or (stated_places pl.marks) k 0) (pl.cells k) (pl.cells (suc k))
    step = pl.step k mk lk

    -- a row that is no ray
    at_line : slice_index_or (stated_places pl.marks) k 0 < length K → State (suc k)
    at_line lp = record {
      P = st.P;
      members = λ j. (
        λ i. take_older (stated_places pl.marks) k (length K + j) ((st.members j).0 i),
        λ i. elim (take_next (stated_places pl.marks) k (length K + j) many i) [ inl a ↦ (st.members j).1 a | inr e ↦ absurd (omega arith) ],
      );
      carried = carried_same G L st.P (pl.cells k) (pl.cells (suc k)) (step.line lp) st.carried;
    }

    module _ (j : ℕ) (pj : slice_index_or (stated_places pl.marks) k 0 ≡ length K + j) where
      jl : length K + j < length (K ++ G)
      jl = let a = stated_below pl.marks (slice_index_or (stated_places pl.marks) k 0) (take_among (stated_places pl.marks) (suc k) (slice_index_or (stated_places pl.marks) k 0) (take_newest (stated_places pl.marks) k many)) in let b = marks_many in let e = pj in omega arith

      front : List Row
      front = map (row_at (K ++ G)) (take k (stated_places pl.marks))

      -- all rows of K are in the front
      lines_front : (x : Row) → Among x K → Among x front
      unfolding front
      lines_front x i = let r = row_place K G x i in subst (λ (y : Row). Among y (map (row_at (K ++ G)) (take k (stated_places pl.marks)))) r.2 (among_map (row_at (K ++ G)) (stated_lower pl.marks k r.0 mk kl (let a = r.1 in let e = pj in omega arith) (let a = r.1 in let b = length_both K G in let c = marks_many in omega arith)))

      to_rays : {x : Row} → InCone front [] x → InCone (rows_at G st.P) L x
      unfolding front
      to_rays h = in_through (rows_at G st.P) L front [] each (λ l i. elim i [ ]) h
        where
          each : (g : Row) → Among g (map (row_at (K ++ G)) (take k (stated_places pl.marks))) → InCone (rows_at G st.P) L g
          each g i =
              let r = map_among (row_at (K ++ G)) (take k (stated_places pl.marks)) i in
              subst (λ (x : Row). InCone (rows_at G st.P) L x) r.2 (elim (cases_lt r.0 (length K)) [
                | inl a ↦ in_of (rows_at G st.P) [] L (λ x q. elim q [ ]) (k_span (row_at (K ++ G) r.0) (row_first K G r.0 a))
                | inr a ↦ (let w = difference_of (length K) r.0 a in subst (λ (q : ℕ). InCone (rows_at G st.P) L (row_at (K ++ G) q)) (sym w.1) (subst (λ (x : Row). InCone (rows_at G st.P) L x) (sym (row_past K G w.0)) (in_generator (among_rows_at G st.P w.0 ((st.members w.0).1 (subst (λ (q : ℕ). Among q (take k (stated_places pl.marks))) w.1 r.1))))))
              ])

      from_rays : {x : Row} → InCone (rows_at G st.P) L x → InCone front [] x
      unfolding front
      from_rays h = in_through front [] (rows_at G st.P) L each (λ l i. l_gen front lines_front l i) h
        where
          each : (g : Row) → Among g (rows_at G st.P) → InCone (map (row_at (K ++ G)) (take k (stated_places pl.marks))) [] g
          each g i = let w = rows_at_among G st.P g i in in_generator (subst (λ (x : Row). Among x (map (row_at (K ++ G)) (take k (stated_places pl.marks)))) (row_past K G w.0 ∙ w.2) (among_map (row_at (K ++ G)) ((st.members w.0).0 w.1)))

      order : IsOrder n (IsValid n (rows_at G st.P) L) step.facets
      unfolding front
      order = order_as n (IsValid n front []) (IsValid n (rows_at G st.P) L) (λ a la v. record { cols = la; holds = λ x lx h. v.holds x lx (from_rays h) }) (λ a la v. record { cols = la; holds = λ x lx h. v.holds x lx (to_rays h) }) step.order

      spanned : InSpan (rows_at G st.P ++ L) (ray G j)
      spanned = span_of (rows_at G st.P ++ L) (rows_at G pl.first ++ L) each (all_spanned (length (K ++ G)) (omega arith) (ray G j) (subst (λ (x : Row). Among x (take (length (K ++ G)) (K ++ G))) (row_past K G j) (in_take (K ++ G) (length (K ++ G)) (length K + j) jl jl)))
        where
          each : (r : Row) → Among r (rows_at G pl.first ++ L) → InSpan (rows_at G st.P ++ L) r
          each r i = elim (among_append (rows_at G pl.first) L i) [
            | inr a ↦ in_line (among_append_right (rows_at G st.P) a)
            | inl a ↦ (let w = rows_at_among G pl.first r a in
                let c = front_marked pl.marks (length K + w.0) (among_Contains (take (length (places_marked true pl.marks 0)) (stated_places pl.marks)) ((pl.is_first.same w.0).0 (Contains_among w.1))) in
                in_line (among_append_left L (subst (λ (x : Row). Among x (rows_at G st.P)) w.2 (among_rows_at G st.P w.0 ((st.members w.0).1 (marked_front pl.marks (length K + w.0) c.0 c.1 k mk))))))
          ]

      fresh : ¬ (Among j st.P)
      fresh i = stated_fresh pl.marks k kl (subst (λ (q : ℕ). Among q (take k (stated_places pl.marks))) (sym pj) ((st.members j).0 i))

      at_ray_place : State (suc k)
      at_ray_place = record {
        P = j ∷ st.P;
        members = λ i. (to i, λ a. elim (take_next (stated_places pl.marks) k (length K + i) many a) [ inl b ↦ there ((st.members i).1 b) | inr e ↦ (let q : j ≡ i = (let u = pj in omega arith) in subst (λ (z : ℕ). Among i (z ∷ st.P)) (sym q) here) ]);
        carried = carried_on n G L st.P (pl.cells k) (pl.cells (suc k)) step.facets j (st_cols k st (omega arith)) hL (ray_cols j jl) order spanned fresh (step.ray_placed j pj) st.carried;
      }
        where
          to : (i : ℕ) → Among i (j ∷ st.P) → Among (length K + i) (take (suc k) (stated_places pl.marks))
          to i here = subst (λ (q : ℕ). Among q (take (suc k) (stated_places pl.marks))) pj (take_newest (stated_places pl.marks) k many)
          to i (there a) = take_older (stated_places pl.marks) k (length K + i) ((st.members i).0 a)

      -- ---- no cell is made twice
      module _ (a a' : Row) (ca : Contains step.facets a) (ca' : Contains step.facets a') (s s' : List ℕ) (is : Among s (pl.cells k)) (is' : Among s' (pl.cells k)) (i i' : ℕ) (off : IsOnlyOff G a s i) (off' : IsOnlyOff G a' s' i') (u : List ℕ) (ex : IsExchange s i j u) (ex' : IsExchange s' i' j u) where
        facet : (b : Row) → Contains step.facets b → IsFacetRow n (rows_at G st.P) L b
        facet b c = among_All (λ b. IsFacetRow n (rows_at G st.P) L b) (among_Contains step.facets c) order.each

        -- a place of the one cell's wall is one of the other's
        over : (t t' : List ℕ) (h h' : ℕ) → Among t (pl.cells k) → IsExchange t h j u → IsExchange t' h' j u → (q : ℕ) → Among q t → ¬ (q ≡ h) → Among q t' × ¬ (q ≡ h')
        over t t' h h' it e e' q iq ne = elim ((e'.same q).0 ((e.same q).1 (inl (Contains_among iq, ne)))) [
          | inl w ↦ (among_Contains t' w.0, w.1)
          | inr w ↦ absurd (fresh (subst (λ (z : ℕ). Among z st.P) w (st.carried.inside t it q iq)))
        ]

        pub one_facet : SameModulo n (IsValid n (map (row_at (K ++ G)) (take k (stated_places pl.marks))) []) a a'
        unfolding front
        one_facet = same_modulo_as n (IsValid n (rows_at G st.P) L) (IsValid n front []) (λ b lb v. record { cols = lb; holds = λ x lx h. v.holds x lx (to_rays h) }) (λ b lb v. record { cols = lb; holds = λ x lx h. v.holds x lx (from_rays h) })
            (same_facet n G L st.P (pl.cells k) (st_cols k st (omega arith)) hL st.carried a a' (facet a ca) (facet a' ca') s is i off (λ q iq ne. let w = over s s' i i' is ex ex' q iq ne in off'.others q (Contains_among w.0) w.1))

        pub one_cell : a ≡ a' → i ≡ i'
        one_cell e = elim (ℕ_discrete i i') [
          | yes q ↦ q
          | no ne ↦ absurd (same_cell n G L st.P (pl.cells k) (st_cols k st (omega arith)) hL st.carried a (facet a ca) s s' is is' i i' off (subst (λ (b : Row). IsOnlyOff G b s' i') (sym e) off')
              (λ q iq n. (over s s' i i' is ex ex' q iq n).0) (λ q iq n. (over s' s i' i is' ex' ex q iq n).1) (λ x h g. meet n G L st.P (pl.cells k) (st_cols k st (omega arith)) hL st.carried s s' is is' x (h, g)) ne)
        ]

        pub same_places : a ≡ a' → (q : ℕ) → Contains s q ↔ Contains s' q
        same_places e q = (λ c. way s s' i i' is ex ex' off' (one_cell e) q (among_Contains s c), λ c. way s' s i' i is' ex' ex off (sym (one_cell e)) q (among_Contains s' c))
          where
            way : {b : Row} → (t t' : List ℕ) (h h' : ℕ) → Among t (pl.cells k) → IsExchange t h j u → IsExchange t' h' j u → IsOnlyOff G b t' h' → h ≡ h' → (q : ℕ) → Among q t → Contains t' q
            way t t' h h' it x x' o e q iq = elim (ℕ_discrete q h) [ yes w ↦ subst (λ (z : ℕ). Contains t' z) (sym (w ∙ e)) o.member | no ne ↦ Contains_among (over t t' h h' it x x' q iq ne).0 ]

    next_state : State (suc k)
    next_state = elim (cases_lt (slice_index_or (stated_places pl.marks) k 0) (length K)) [
      | inl a ↦ at_line a
      | inr a ↦ let w = difference_of (length K) (slice_index_or (stated_places pl.marks) k 0) a in at_ray_place w.0 w.1
    ]

  first_state : State (length (places_marked true pl.marks 0))
  first_state = record {
    P = pl.first;
    members = λ j. (λ i. among_Contains (take (length (places_marked true pl.marks 0)) (stated_places pl.marks)) ((pl.is_first.same j).0 (Contains_among i)), λ a. among_Contains pl.first ((pl.is_first.same j).1 (Contains_among a)));
    carried = start_carried;
  }

  pub states : (d k : ℕ) → k ≡ length (places_marked true pl.marks 0) + d → k ≤ f → State k
  states zero k e l = subst (λ (q : ℕ). State q) (let z : length (places_marked true pl.marks 0) ≡ k = omega arith in z) first_state
  states (suc d) zero e l = absurd (omega arith)
  states (suc d) (suc k) e l = next_state k (states d k (omega arith) (omega arith)) (omega arith) (omega arith)

  pub last_state : State f
  last_state = let w = difference_of (length (places_marked true pl.marks 0)) f pl.enough in states w.0 f w.1 (omega arith)
