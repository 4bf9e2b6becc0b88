-- The rows with a mark, by their places; and the cones that they generate.
use Rattle.pm_vector.proofs.ConeLaws.{in_of}
use Rattle.pm_vector.proofs.Lists.{Among, here, there}
use Rattle.pm_vector.specs.Cones.{InCone}
use Rattle.pm_vector.specs.Rows.{HasCols, Row}
use Rattle.pm_vector.specs.Bases.{row_at}
use Rattle.pm_geom.specs.StatedOrder.{rows_marked}
use Rattle.pm_redund.specs.Keeping.{IsMore}
use Rattle.std.proofs.Common.{arith, inl, inr, refl, subst, sym, ◌∙◌}
use Rattle.std.proofs.lemmas.Bool.{cases_eq}
use Rattle.std.proofs.lemmas.List.{get_or-set_other, get_or-set_same}
use Rattle.std.specs.Prelude.{Bool, IsTrue, List, [], false, get_or, length, slice_set, suc, true, zero, ℕ, ◌<◌, ◌∷◌, ◌≡◌, ◌≤◌, ◌⊎◌}

pub true_or_not : (b : Bool) → IsTrue b ⊎ ¬ (IsTrue b)
true_or_not true = inl refl
true_or_not false = inr (λ e. cc)

pub marked_below : (M : List Bool) (i : ℕ) → IsTrue (get_or M i false) → i < length M
marked_below [] i t = absurd (let e : false ≡ true = t in cc)
marked_below (m ∷ M) zero t = omega arith
marked_below (m ∷ M) (suc i) t = let l = marked_below M i t in omega arith

pub marked_at : (M : List Bool) (G : List Row) (i : ℕ) → i < length G → IsTrue (get_or M i false) → Among (row_at G i) (rows_marked true M G)
marked_at [] G i l t = absurd (let e : false ≡ true = t in cc)
marked_at (m ∷ M) [] i l t = absurd (omega arith)
marked_at (true ∷ M) (x ∷ G) zero l t = here
marked_at (false ∷ M) (x ∷ G) zero l t = absurd (let e : false ≡ true = t in cc)
marked_at (true ∷ M) (x ∷ G) (suc i) l t = there (marked_at M G i (omega arith) t)
marked_at (false ∷ M) (x ∷ G) (suc i) l t = marked_at M G i (omega arith) t

-- a marked row has a place
pub record IsMarkedAt (M : List Bool) (G : List Row) (x : Row) : Type 0 where
  pub i : ℕ
  pub within : i < length G
  pub marked : IsTrue (get_or M i false)
  pub is : row_at G i ≡ x

next_at : (m : Bool) (M : List Bool) (y : Row) (G : List Row) {x : Row} → IsMarkedAt M G x → IsMarkedAt (m ∷ M) (y ∷ G) x
next_at m M y G p = record { i = suc p.i; within = (let l = p.within in omega arith); marked = p.marked; is = p.is }

pub at_marked : (M : List Bool) (G : List Row) {x : Row} → Among x (rows_marked true M G) → IsMarkedAt M G x
at_marked [] G i = elim i [ ]
at_marked (m ∷ M) [] i = elim i [ ]
at_marked (true ∷ M) (y ∷ G) here = record { i = 0; within = omega arith; marked = refl; is = refl }
at_marked (true ∷ M) (y ∷ G) (there i) = next_at true M y G (at_marked M G i)
at_marked (false ∷ M) (y ∷ G) i = next_at false M y G (at_marked M G i)

pub among_place : (G : List Row) (i : ℕ) → i < length G → Among (row_at G i) G
among_place [] i l = absurd (omega arith)
among_place (x ∷ G) zero l = here
among_place (x ∷ G) (suc i) l = there (among_place G i (omega arith))

pub marked_among : (M : List Bool) (G : List Row) {x : Row} → Among x (rows_marked true M G) → Among x G
marked_among M G {x} i = let p = at_marked M G i in subst (λ (y : Row). Among y G) p.is (among_place G p.i p.within)

pub marked_cols : (n : ℕ) (M : List Bool) (G : List Row) → HasCols n G → HasCols n (rows_marked true M G)
marked_cols n [] G h = tt
marked_cols n (m ∷ M) [] h = tt
marked_cols n (true ∷ M) (x ∷ G) h = (h.0, marked_cols n M G h.1)
marked_cols n (false ∷ M) (x ∷ G) h = marked_cols n M G h.1

pub marked_few : (M : List Bool) (G : List Row) → length (rows_marked true M G) ≤ length G
marked_few [] G = omega arith
marked_few (m ∷ M) [] = omega arith
marked_few (true ∷ M) (x ∷ G) = let h = marked_few M G in omega arith
marked_few (false ∷ M) (x ∷ G) = let h = marked_few M G in omega arith

-- ---- more marks
pub more_among : (M N : List Bool) (G : List Row) → IsMore M N → (x : Row) → Among x (rows_marked true M G) → Among x (rows_marked true N G)
unfolding IsMore
more_among M N G f x i = let p = at_marked M G i in subst (λ (y : Row). Among y (rows_marked true N G)) p.is (marked_at N G p.i p.within (f p.i p.marked))

pub more_cone : (M N : List Bool) (G L : List Row) → IsMore M N → {x : Row} → InCone (rows_marked true M G) L x → InCone (rows_marked true N G) L x
more_cone M N G L f h = in_of (rows_marked true N G) (rows_marked true M G) L (more_among M N G f) h

pub cone_of_marked : (M : List Bool) (G L : List Row) {x : Row} → InCone (rows_marked true M G) L x → InCone G L x
cone_of_marked M G L h = in_of G (rows_marked true M G) L (λ y i. marked_among M G i) h

-- ---- one mark taken away
pub set_off : (M : List Bool) (k : ℕ) → k < length M → ¬ (IsTrue (get_or (slice_set M k false) k false))
set_off M k l t = let e = get_or-set_same M k false false l in let f : false ≡ true = sym e ∙ t in cc

pub set_keeps : (M : List Bool) (k j : ℕ) (b : Bool) → ¬ (j ≡ k) → IsTrue (get_or M j false) → IsTrue (get_or (slice_set M k b) j false)
set_keeps M k j b ne t = get_or-set_other M k j b false ne ∙ t

pub set_kept : (M : List Bool) (k j : ℕ) (b : Bool) → ¬ (j ≡ k) → IsTrue (get_or (slice_set M k b) j false) → IsTrue (get_or M j false)
set_kept M k j b ne t = sym (get_or-set_other M k j b false ne) ∙ t

pub set_less : (M : List Bool) (k : ℕ) → k < length M → IsMore (slice_set M k false) M
unfolding IsMore
set_less M k l j t = elim (cases_eq j k) [
  | inl e ↦ absurd (set_off M k l (subst (λ (i : ℕ). IsTrue (get_or (slice_set M k false) i false)) e t))
  | inr ne ↦ set_kept M k j false ne t
]

pub set_more : (M N : List Bool) (k : ℕ) → k < length M → IsMore M N → IsMore (slice_set M k false) (slice_set N k false)
unfolding IsMore
set_more M N k l f j t = elim (cases_eq j k) [
  | inl e ↦ absurd (set_off M k l (subst (λ (i : ℕ). IsTrue (get_or (slice_set M k false) i false)) e t))
  | inr ne ↦ set_keeps N k j false ne (f j (set_kept M k j false ne t))
]

pub place_cols : (n : ℕ) (G : List Row) (i : ℕ) → i < length G → HasCols n G → length (row_at G i) ≡ n
place_cols n [] i l h = absurd (omega arith)
place_cols n (x ∷ G) zero l h = h.0
place_cols n (x ∷ G) (suc i) l h = place_cols n G i (omega arith) h.1
