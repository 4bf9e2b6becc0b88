-- The rows with a mark, one by one.
use Rattle.std.specs.Prelude.{ℕ, ◌+◌, ◌≡◌, ◌<◌, ◌≤◌, ◌⊎◌, Bool, true, false, cond, List, [], ◌∷◌, ◌++◌, drop, length, get_or}
use Rattle.std.specs.Bool.{beq}
use Rattle.std.proofs.Common.{ap, arith, inl, inr, refl, sym, ◌∙◌}
use Rattle.std.proofs.Math.ListN.{drop_of_length-le}
use Rattle.std.proofs.lemmas.List.{append_assoc, drop_more}
use Rattle.pm_vector.specs.Rows.{Row}
use Rattle.pm_vector.proofs.Lists.{Among, here, there}
use Rattle.pm_vector.specs.Bases.{row_at}
use Rattle.pm_geom.specs.StatedOrder.{rows_marked}

at_next : (b : Bool) (marks : List Bool) (X : List Row) (i : ℕ) → i < length marks → i < length X →
    rows_marked b (drop i marks) (drop i X) ≡ cond (beq b (get_or marks i false)) (row_at X i ∷ rows_marked b (drop (i + 1) marks) (drop (i + 1) X)) (rows_marked b (drop (i + 1) marks) (drop (i + 1) X))
at_next b marks X i l m = rw (drop_more marks i false l, drop_more X i [] m) refl

pub marked_more : (b : Bool) (marks : List Bool) (X : List Row) (i : ℕ) (W : List Row) → i < length marks → i < length X → beq b (get_or marks i false) ≡ true →
    (W ++ row_at X i ∷ []) ++ rows_marked b (drop (i + 1) marks) (drop (i + 1) X) ≡ W ++ rows_marked b (drop i marks) (drop i X)
marked_more b marks X i W l m t = append_assoc W (row_at X i ∷ []) (rows_marked b (drop (i + 1) marks) (drop (i + 1) X)) ∙ ap (λ (Z : List Row). W ++ Z) (sym (at_next b marks X i l m ∙ rw t refl))

pub marked_skip : (b : Bool) (marks : List Bool) (X : List Row) (i : ℕ) → i < length marks → i < length X → beq b (get_or marks i false) ≡ false →
    rows_marked b (drop (i + 1) marks) (drop (i + 1) X) ≡ rows_marked b (drop i marks) (drop i X)
marked_skip b marks X i l m t = sym (at_next b marks X i l m ∙ rw t refl)

pub marked_end : (b : Bool) (marks : List Bool) (X : List Row) (i : ℕ) (W : List Row) → length marks ≤ i → W ++ rows_marked b (drop i marks) (drop i X) ≡ W
marked_end b marks X i W l = ap (λ (Z : List Bool). W ++ rows_marked b Z (drop i X)) (drop_of_length-le marks l) ∙ nil W
  where
    nil : (Z : List Row) → Z ++ [] ≡ Z
    nil [] = refl
    nil (z ∷ Z) = ap (λ (Y : List Row). z ∷ Y) (nil Z)

pub beq_turned : (a b : Bool) → beq a b ≡ beq b a
beq_turned true true = refl
beq_turned true false = refl
beq_turned false true = refl
beq_turned false false = refl

pub marked_lengths : (marks : List Bool) (X : List Row) → length marks ≡ length X → length (rows_marked true marks X) + length (rows_marked false marks X) ≡ length X
marked_lengths [] [] e = refl
marked_lengths [] (x ∷ X) e = absurd (omega arith)
marked_lengths (m ∷ marks) [] e = absurd (omega arith)
marked_lengths (true ∷ marks) (x ∷ X) e = let h = marked_lengths marks X (omega arith) in omega arith
marked_lengths (false ∷ marks) (x ∷ X) e = let h = marked_lengths marks X (omega arith) in omega arith

pub among_marked : (marks : List Bool) (X : List Row) → length marks ≡ length X → {r : Row} → Among r X → Among r (rows_marked true marks X) ⊎ Among r (rows_marked false marks X)
among_marked [] [] e i = elim i [ ]
among_marked [] (x ∷ X) e i = absurd (omega arith)
among_marked (m ∷ marks) [] e i = elim i [ ]
among_marked (true ∷ marks) (x ∷ X) e here = inl here
among_marked (true ∷ marks) (x ∷ X) e (there i) = elim (among_marked marks X (omega arith) i) [ inl j ↦ inl (there j) | inr j ↦ inr j ]
among_marked (false ∷ marks) (x ∷ X) e here = inr here
among_marked (false ∷ marks) (x ∷ X) e (there i) = elim (among_marked marks X (omega arith) i) [ inl j ↦ inl j | inr j ↦ inr (there j) ]
