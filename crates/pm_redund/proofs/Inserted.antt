-- One chosen row more: its place among the rows of a program, and what they generate.
use Rattle.pm_vector.proofs.ConeLaws.{in_generator}
use Rattle.pm_vector.specs.Bases.{row_at}
use Rattle.pm_vector.specs.Cones.{InCone}
use Rattle.pm_vector.specs.Rows.{Row}
use Rattle.pm_geom.specs.StatedOrder.{rows_marked}
use Rattle.pm_redund.proofs.Marked.{marked_at, set_keeps}
use Rattle.pm_redund.specs.Keeping.{IsMore}
use Rattle.pm_simplex.specs.Generated.{lifted}
use Rattle.std.proofs.Common.{ap, arith, inl, inr, refl, subst, sym}
use Rattle.std.proofs.lemmas.Bool.{cases_eq}
use Rattle.std.proofs.lemmas.List.{get_or-set_same}
use Rattle.std.proofs.lemmas.List.Recursion.{is_count_by}
use Rattle.std.specs.List.{count_by, insert}
use Rattle.std.specs.Prelude.{Bool, IsTrue, List, [], cond, false, get_or, length, replicate, slice_set, suc, take, true, zero, ℕ, ◌+◌, ◌<◌, ◌∷◌, ◌≡◌, ◌≤◌}
use lib.IntN.{pos}

-- how many marks are set
abbrev pub count_set : List Bool → ℕ
count_set [] = 0
count_set (true ∷ M) = suc (count_set M)
count_set (false ∷ M) = count_set M

count_next : (b : Bool) (M : List Bool) → count_set (b ∷ M) ≡ cond b (1 + count_set M) (count_set M)
count_next true M = omega arith
count_next false M = refl

counted : (M : List Bool) → count_set M ≡ count_by (λ b. b) M
counted M = is_count_by count_set (λ b. b) refl count_next M

inserted_at : (M : List Bool) (G : List Row) (i : ℕ) → i < length M → i < length G → get_or M i false ≡ false → insert (lifted (rows_marked true M G)) (count_set (take i M)) (pos 0 ∷ row_at G i) ≡ lifted (rows_marked true (slice_set M i true) G)
inserted_at [] G i l m t = absurd (omega arith)
inserted_at (b ∷ M) [] i l m t = absurd (omega arith)
inserted_at (true ∷ M) (x ∷ G) zero l m t = absurd (let e : true ≡ false = t in cc)
inserted_at (false ∷ M) (x ∷ G) zero l m t = refl
inserted_at (true ∷ M) (x ∷ G) (suc i) l m t = ap (λ (Z : List Row). (pos 0 ∷ x) ∷ Z) (inserted_at M G i (omega arith) (omega arith) t)
inserted_at (false ∷ M) (x ∷ G) (suc i) l m t = inserted_at M G i (omega arith) (omega arith) t

pub inserted : (M : List Bool) (G : List Row) (i : ℕ) → i < length M → i < length G → get_or M i false ≡ false → insert (lifted (rows_marked true M G)) (count_by (λ b. b) (take i M)) (pos 0 ∷ row_at G i) ≡ lifted (rows_marked true (slice_set M i true) G)
inserted M G i l m t = subst (λ (n : ℕ). insert (lifted (rows_marked true M G)) n (pos 0 ∷ row_at G i) ≡ lifted (rows_marked true (slice_set M i true) G)) (counted (take i M)) (inserted_at M G i l m t)

count_within : (M : List Bool) (G : List Row) (i : ℕ) → length M ≡ length G → count_set (take i M) ≤ length (lifted (rows_marked true M G))
count_within [] G zero e = omega arith
count_within [] G (suc i) e = omega arith
count_within (b ∷ M) [] i e = absurd (omega arith)
count_within (b ∷ M) (x ∷ G) zero e = omega arith
count_within (true ∷ M) (x ∷ G) (suc i) e = let h = count_within M G i (omega arith) in omega arith
count_within (false ∷ M) (x ∷ G) (suc i) e = let h = count_within M G i (omega arith) in omega arith

pub insert_within : (M : List Bool) (G : List Row) (i : ℕ) → length M ≡ length G → count_by (λ b. b) (take i M) ≤ length (lifted (rows_marked true M G))
insert_within M G i e = let c = counted (take i M) in let h = count_within M G i e in omega arith

pub set_itself : (M : List Bool) (i : ℕ) → get_or M i false ≡ true → slice_set M i true ≡ M
set_itself [] i t = absurd (let e : false ≡ true = t in cc)
set_itself (true ∷ M) zero t = refl
set_itself (false ∷ M) zero t = absurd (let e : false ≡ true = t in cc)
set_itself (b ∷ M) (suc i) t = ap (λ (Z : List Bool). b ∷ Z) (set_itself M i t)

pub all_marked : (G : List Row) (n : ℕ) → n ≡ length G → rows_marked true (replicate n true) G ≡ G
all_marked [] zero e = refl
all_marked [] (suc n) e = refl
all_marked (x ∷ G) zero e = absurd (omega arith)
all_marked (x ∷ G) (suc n) e = ap (λ (Z : List Row). x ∷ Z) (all_marked G n (omega arith))

-- ---- more marks
pub more_itself : (M : List Bool) → IsMore M M
unfolding IsMore
more_itself M i t = t

pub more_then : (M N O : List Bool) → IsMore M N → IsMore N O → IsMore M O
unfolding IsMore
more_then M N O f g i t = g i (f i t)

pub more_set : (M : List Bool) (i : ℕ) → i < length M → IsMore M (slice_set M i true)
unfolding IsMore
more_set M i l j t = elim (cases_eq j i) [
  | inl e ↦ subst (λ (k : ℕ). IsTrue (get_or (slice_set M i true) k false)) (sym e) (get_or-set_same M i true false l)
  | inr ne ↦ set_keeps M i j true ne t
]

pub set_generates : (M : List Bool) (G L : List Row) (i : ℕ) → i < length M → i < length G → InCone (rows_marked true (slice_set M i true) G) L (row_at G i)
set_generates M G L i l m = in_generator (marked_at (slice_set M i true) G i m (get_or-set_same M i true false l))

pub none_set : (n i : ℕ) → ¬ (IsTrue (get_or (replicate n false) i false))
none_set zero i t = let e : false ≡ true = t in cc
none_set (suc n) zero t = let e : false ≡ true = t in cc
none_set (suc n) (suc i) t = none_set n i t
