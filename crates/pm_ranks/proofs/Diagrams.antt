-- All faces by their ranks: the last rank is that of the whole.
use Rattle.pm_vector.proofs.Lists.{Among, among_All, among_Contains, here, there}
use Rattle.pm_vector.specs.Rows.{Row}
use Rattle.pm_geom.specs.FaceCounts.{IsHasseDiagram, SamePlaces, at_rank, f_of, inner}
use Rattle.pm_geom.specs.Faces.{HasChain, HasRank, IsFace}
use Rattle.pm_geom.specs.Graphs.{IsAscending, holds}
use Rattle.pm_ranks.proofs.RankLaws.{rank_is_one, ranks_rise}
use Rattle.pm_ranks.specs.Laws.{DiagramsEndAtWhole, FVectorsHaveDimension}
use Rattle.std.proofs.Common.{arith, inl, inr, length-take-le, refl, subst, sym, ◌∙◌}
use Rattle.std.proofs.lemmas.Bool.{cases_eq, cases_lt}
use Rattle.std.proofs.lemmas.List.{length-map}
use Rattle.std.specs.Prelude.{Bool, IsTrue, List, [], false, length, suc, true, zero, ℕ, ◌-◌, ◌<◌, ◌∷◌, ◌≡◌, ◌≤◌, ◌⊎◌}

-- ---- tests that agree on the places
module _ (n : ℕ) (G L V : List Row) where
  face_as : {f g : ℕ → Bool} → SamePlaces (length V) f g → IsFace n G L V f → IsFace n G L V g
  face_as {f} {g} s h = record { a = h.a; valid = h.valid; places = λ j l. (λ t. (h.places j l).0 (s j l ∙ t), λ e. sym (s j l) ∙ (h.places j l).1 e) }

  chain_as : (k : ℕ) {f g : ℕ → Bool} → SamePlaces (length V) f g → HasChain n G L V k f → HasChain n G L V k g
  chain_as zero s c = c
  chain_as (suc k) {f} {g} s c = (c.0, c.1, (let i = c.2 in record { included = λ j l t. sym (s j l) ∙ i.included j l t; j = i.j; below = i.below; has = sym (s i.j i.below) ∙ i.has; lacks = i.lacks }), c.3)

  pub same_rank : (k : ℕ) {f g : ℕ → Bool} → SamePlaces (length V) f g → HasRank n G L V f k → HasRank n G L V g k
  same_rank k {f} {g} s r = record { face = face_as s r.face; chain = chain_as k s r.chain; greatest = λ c. r.greatest (chain_as (suc k) (λ j l. sym (s j l)) c) }

  pub same_face : {f g : ℕ → Bool} → SamePlaces (length V) f g → IsFace n G L V f → IsFace n G L V g
  same_face {f} {g} s h = face_as s h

all_or_lacks : (m : ℕ) (f : ℕ → Bool) → ((j : ℕ) → j < m → IsTrue (f j)) ⊎ ((j : ℕ) × (j < m) × ¬ (IsTrue (f j)))
all_or_lacks zero f = inl (λ j l. absurd (omega arith))
all_or_lacks (suc m) f = elim (all_or_lacks m f) [
  | inr w ↦ inr (w.0, (let l = w.1 in omega arith), w.2)
  | inl h ↦ go (f m) refl h
]
  where
    go : (b : Bool) → f m ≡ b → ((j : ℕ) → j < m → IsTrue (f j)) → ((j : ℕ) → j < suc m → IsTrue (f j)) ⊎ ((j : ℕ) × (j < suc m) × ¬ (IsTrue (f j)))
    go true e h = inl (λ j l. elim (cases_eq j m) [ inl q ↦ subst (λ x. IsTrue (f x)) (sym q) e | inr ne ↦ h j (omega arith) ])
    go false e h = inr (m, omega arith, λ t. let y : true ≡ false = sym t ∙ e in cc)

-- ---- ranks that are not empty
pub rank_inside : (ranks : List (List (List ℕ))) (k : ℕ) {f : List ℕ} → Among f (at_rank ranks k) → k < length ranks
rank_inside [] k i = elim i [ ]
rank_inside (r ∷ ranks) zero i = omega arith
rank_inside (r ∷ ranks) (suc k) i = let l = rank_inside ranks k i in omega arith

rank_among : (ranks : List (List (List ℕ))) (k : ℕ) → k < length ranks → Among (at_rank ranks k) ranks
rank_among [] k l = absurd (omega arith)
rank_among (r ∷ ranks) zero l = here
rank_among (r ∷ ranks) (suc k) l = there (rank_among ranks k (omega arith))

some_face : (faces : List (List ℕ)) → ¬ (faces ≡ []) → (f : List ℕ) × Among f faces
some_face [] h = absurd (h refl)
some_face (f ∷ faces) h = (f, here)

module _ (n : ℕ) (G L V : List Row) (ranks : List (List (List ℕ))) (H : IsHasseDiagram n G L V ranks) where
  pub face_at : (k : ℕ) (f : List ℕ) → Among f (at_rank ranks k) → IsAscending (length V) f × HasRank n G L V (holds f) k
  face_at k f i = among_All (λ f. IsAscending (length V) f × HasRank n G L V (holds f) k) i (H.each k).each

  pub face_among : (k : ℕ) (f : ℕ → Bool) → HasRank n G L V f k → (g : List ℕ) × Among g (at_rank ranks k) × SamePlaces (length V) f (holds g)
  face_among k f r = let w = (H.each k).all f r in (w.1, among_Contains (at_rank ranks k) (w.0, w.2, w.3), w.4)

  module _ (t : ℕ) (whole : HasRank n G L V (λ j. true) t) where
    below_or_all : (f : ℕ → Bool) (k : ℕ) → HasRank n G L V f k → (k < t) ⊎ ((j : ℕ) → j < length V → IsTrue (f j))
    below_or_all f k r = elim (all_or_lacks (length V) f) [
      | inl h ↦ inr h
      | inr w ↦ inl (ranks_rise n G L V f (λ j. true) k t r whole (record { included = λ j l q. refl; j = w.0; below = w.1; has = refl; lacks = w.2 }))
    ]

    at_most : (f : ℕ → Bool) (k : ℕ) → HasRank n G L V f k → k ≤ t
    at_most f k r = elim (below_or_all f k r) [
      | inl l ↦ omega arith
      | inr h ↦ (let e = rank_is_one n G L V (λ j. true) k t (same_rank n G L V k (λ j l. h j l) r) whole in omega arith)
    ]

    pub diagram_ends : length ranks ≡ suc t
    diagram_ends =
        let w = face_among t (λ j. true) whole in
        let up = rank_inside ranks t w.1 in
        elim (cases_lt (suc t) (length ranks)) [
          | inl more ↦ absurd (let f = some_face (at_rank ranks (suc t)) (among_All (λ faces. ¬ (faces ≡ [])) (rank_among ranks (suc t) more) H.full) in let l = at_most (holds f.0) (suc t) (face_at (suc t) f.0 f.1).1 in omega arith)
          | inr few ↦ omega arith
        ]

    pub last_has_all : (f : List ℕ) → Among f (at_rank ranks t) → (j : ℕ) → j < length V → IsTrue (holds f j)
    last_has_all f i = elim (below_or_all (holds f) t (face_at t f i).1) [ inl l ↦ absurd (omega arith) | inr h ↦ h ]

pub diagrams_end_at_whole : DiagramsEndAtWhole
diagrams_end_at_whole n G L V ranks H t whole = diagram_ends n G L V ranks H t whole

pub f_vectors_have_dimension : FVectorsHaveDimension
f_vectors_have_dimension n G L V ranks H d whole = let e = diagram_ends n G L V ranks H (suc d) whole in len ranks d e
  where
    len : (rs : List (List (List ℕ))) (d : ℕ) → length rs ≡ suc (suc d) → length (f_of rs) ≡ d
    len [] d e = absurd (omega arith)
    len (r ∷ rs) d e = length-map (inner (r ∷ rs)) length ∙ length-take-le (suc (length rs) - 2) rs (omega arith) ∙ omega arith
