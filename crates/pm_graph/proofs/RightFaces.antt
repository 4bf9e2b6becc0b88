-- The graph of all faces is that of the cone.
use Rattle.pm_geom.proofs.Holds.{among_holds, holds_among}
use Rattle.pm_vector.proofs.Lists.{Among, Contains_among, among_All, among_Contains, here, there}
use Rattle.pm_vector.specs.Rows.{HasCols, Row}
use Rattle.pm_geom.specs.Cones.{IsOrder}
use Rattle.pm_vector.specs.Cones.{InCone}
use Rattle.pm_geom.specs.FaceCounts.{IsHasseDiagram, SamePlaces, at_rank}
use Rattle.pm_geom.specs.Faces.{IsFace}
use Rattle.pm_geom.specs.Graphs.{IsEdge, holds, pair_of}
use Rattle.pm_graph.proofs.Holds.{same_bool}
use Rattle.pm_graph.proofs.Rising.{rising_full, rising_two}
use Rattle.pm_graph.specs.Edges.{HasFace, IsFaceEdge, whole_of}
use Rattle.pm_graph.specs.Laws.{FaceEdgesAreEdges}
use Rattle.pm_ranks.proofs.Diagrams.{diagram_ends, face_among, face_at, last_has_all, rank_inside, same_face}
use Rattle.pm_ranks.proofs.Facets.{each_has_rank}
use Rattle.pm_ranks.proofs.Tests.{at_pair, pair_at}
use Rattle.pm_ranks.proofs.Whole.{second_rank, whole_is_face}
use Rattle.std.proofs.Common.{arith, inl, inr, refl, subst, sym, ◌∙◌}
use Rattle.std.proofs.lemmas.Bool.{cases_lt}
use Rattle.std.specs.List.{slice_index_or}
use Rattle.std.specs.Prelude.{List, [], length, suc, true, zero, ℕ, ◌-◌, ◌<◌, ◌↔◌, ◌∷◌, ◌≡◌, ◌≤◌, ◌⊎◌}

first_among : {f : List ℕ} (faces : List (List ℕ)) → Among f faces → Among (slice_index_or faces 0 []) faces
first_among [] i = elim i [ ]
first_among (g ∷ faces) i = here

-- a face of a rank is one of the faces
has_face : (ranks : List (List (List ℕ))) (k : ℕ) (f : List ℕ) → Among f (at_rank ranks k) → HasFace ranks f
has_face ranks k f i = go ranks k (rank_inside ranks k i) i
  where
    go : (rs : List (List (List ℕ))) (k : ℕ) → k < length rs → Among f (at_rank rs k) → HasFace rs f
    go [] k l i = elim i [ ]
    go (r ∷ rs) zero l i = (0, r, omega arith, refl, Contains_among i)
    go (r ∷ rs) (suc k) l i = let w = go rs k (omega arith) i in (suc w.0, w.1, (let l = w.2 in omega arith), w.3, w.4)

face_has : (ranks : List (List (List ℕ))) (f : List ℕ) → HasFace ranks f → (k : ℕ) × Among f (at_rank ranks k)
face_has ranks f w = (w.0, go ranks w.0 w.1 w.2 w.3 (among_Contains w.1 w.4))
  where
    go : (rs : List (List (List ℕ))) (k : ℕ) (faces : List (List ℕ)) → k < length rs → slice_index_or rs k faces ≡ faces → Among f faces → Among f (at_rank rs k)
    go [] k faces l e i = absurd (omega arith)
    go (r ∷ rs) zero faces l e i = subst (λ fs. Among f fs) (sym e) i
    go (r ∷ rs) (suc k) faces l e i = go rs k faces (omega arith) e i

pair_holds : (i j m : ℕ) → SamePlaces m (holds (i ∷ j ∷ [])) (pair_of i j)
pair_holds i j m x l = same_bool (holds (i ∷ j ∷ []) x) (pair_of i j x)
    (λ t. pair_at i j x (of_two (holds_among (i ∷ j ∷ []) x t)))
    (λ t. elim (at_pair i j x t) [
      | inl e ↦ among_holds (i ∷ j ∷ []) x (subst (λ y. Among y (i ∷ j ∷ [])) (sym e) here)
      | inr e ↦ among_holds (i ∷ j ∷ []) x (subst (λ y. Among y (i ∷ j ∷ [])) (sym e) (there here))
    ])
  where
    of_two : {x i j : ℕ} → Among x (i ∷ j ∷ []) → (x ≡ i) ⊎ (x ≡ j)
    of_two here = inl refl
    of_two (there here) = inr refl
    of_two (there (there i)) = elim i [ ]

pair_turns : (i j x : ℕ) → pair_of i j x ≡ pair_of j i x
pair_turns i j x = same_bool (pair_of i j x) (pair_of j i x) (λ t. pair_at j i x (turn (at_pair i j x t))) (λ t. pair_at i j x (turn (at_pair j i x t)))
  where
    turn : {P Q : Type 0} → P ⊎ Q → Q ⊎ P
    turn (inl p) = inr p
    turn (inr q) = inl q

module _ (n : ℕ) (G L : List Row) (hg : HasCols n G) (hl : HasCols n L) (V : List Row) (o : IsOrder n (InCone G L) V) (ranks : List (List (List ℕ))) (H : IsHasseDiagram n G L V ranks) where
  whole_has_all : length (whole_of ranks) ≡ length V
  whole_has_all =
      let (t, r) = each_has_rank n G L hg hl V o (λ j. true) (whole_is_face n G L V) in
      let last : Among (whole_of ranks) (at_rank ranks t) = first_at t (diagram_ends n G L V ranks H t r) (face_among n G L V ranks H t (λ j. true) r).1 in
      let up = (face_at n G L V ranks H t (whole_of ranks) last).0 in
      let full = rising_full 0 (length V) (whole_of ranks) (λ x i. (omega arith, among_All (λ j. j < length V) i up.0)) up.1 (λ x l m. holds_among (whole_of ranks) x (last_has_all n G L V ranks H t r (whole_of ranks) last x m)) in
      omega arith
    where
      first_at : (t : ℕ) → length ranks ≡ suc t → {g : List ℕ} → Among g (at_rank ranks t) → Among (whole_of ranks) (at_rank ranks t)
      first_at t e i = let s : length ranks - 1 ≡ t = omega arith in subst (λ k. Among (slice_index_or (at_rank ranks k) 0 []) (at_rank ranks t)) (sym s) (first_among (at_rank ranks t) i)

  pair_is_face : (i j : ℕ) → HasFace ranks (i ∷ j ∷ []) → IsFace n G L V (pair_of i j)
  pair_is_face i j h = let w = face_has ranks (i ∷ j ∷ []) h in same_face n G L V (pair_holds i j (length V)) (face_at n G L V ranks H w.0 (i ∷ j ∷ []) w.1).1.face

  -- a face of two rays is a pair that rises
  risen : (i j : ℕ) → i < j → i < length V → j < length V → IsFace n G L V (pair_of i j) → HasFace ranks (i ∷ j ∷ [])
  risen i j l li lj f =
      let r = (second_rank n G L hg hl V o (pair_of i j)).1 (f, (i, j, li, lj, (λ e. omega arith), λ x lx. (at_pair i j x, pair_at i j x))) in
      let (g, a, s) = face_among n G L V ranks H 2 (pair_of i j) r in
      let up = (face_at n G L V ranks H 2 g a).0 in
      let e = rising_two i j l g up.1 (holds_among g i (sym (s i li) ∙ pair_at i j i (inl refl))) (holds_among g j (sym (s j lj) ∙ pair_at i j j (inr refl)))
      (λ x m. at_pair i j x (s x (among_All (λ j. j < length V) m up.0) ∙ among_holds g x m)) in
      has_face ranks 2 (i ∷ j ∷ []) (subst (λ h. Among h (at_rank ranks 2)) e a)

  edges : (i j : ℕ) → IsFaceEdge ranks i j ↔ IsEdge n G L V i j
  edges i j = (
    λ e. let n' = whole_has_all in record {
      first = let l = e.first in omega arith;
      second = let l = e.second in omega arith;
      apart = e.apart;
      face = elim e.face [ inl h ↦ pair_is_face i j h | inr h ↦ same_face n G L V (λ x l. pair_turns j i x) (pair_is_face j i h) ];
    },
    λ e. let n' = whole_has_all in record {
      first = let l = e.first in omega arith;
      second = let l = e.second in omega arith;
      apart = e.apart;
      face = elim (cases_lt i j) [
        | inl l ↦ inl (risen i j l e.first e.second e.face)
        | inr l ↦ inr (risen j i (let q = e.apart in less j i l (λ s. q (sym s))) e.second e.first (same_face n G L V (λ x l. pair_turns i j x) e.face))
      ];
    },
  )
    where
      less : (j i : ℕ) → j ≤ i → ¬ (j ≡ i) → j < i
      less j i l ne = elim (cases_lt j i) [ inl k ↦ k | inr k ↦ absurd (ne (omega arith)) ]

pub face_edges_are_edges : FaceEdgesAreEdges
face_edges_are_edges n G L hg hl V o ranks H = (whole_has_all n G L hg hl V o ranks H, edges n G L hg hl V o ranks H)
