-- The rows of a program: how many there are, how long they are, and how their list grows.
use Rattle.pm_vector.proofs.Lists.{all_append}
use Rattle.pm_vector.specs.Rows.{HasCols, Row}
use Rattle.pm_vector.specs.Bases.{row_at}
use Rattle.pm_dd.proofs.Marks.{marked_more, marked_skip}
use Rattle.pm_fraction.specs.Fractions.{ratio_of}
use Rattle.pm_geom.specs.StatedOrder.{rows_marked}
use Rattle.pm_simplex.specs.Generated.{equations_of, lifted, no_objective, tied}
use Rattle.std.proofs.Common.{ap, arith, refl, ◌∙◌}
use Rattle.std.proofs.Math.ListN.{drop_of_length-le}
use Rattle.std.proofs.lemmas.List.{append-nil, append_assoc, length-append, length-replicate}
use Rattle.std.specs.Bool.{beq}
use Rattle.std.specs.Prelude.{Bool, List, [], drop, false, get_or, length, suc, true, ℕ, ◌+◌, ◌++◌, ◌<◌, ◌∷◌, ◌≡◌}
use lib.IntN.{pos}

pub lifted_cols : (n : ℕ) (X : List Row) → HasCols n X → HasCols (n + 1) (lifted X)
lifted_cols n [] h = tt
lifted_cols n (x ∷ X) h = (let e = h.0 in omega arith, lifted_cols n X h.1)

pub lifted_length : (X : List Row) → length (lifted X) ≡ length X
lifted_length [] = refl
lifted_length (x ∷ X) = ap suc (lifted_length X)

pub tied_length : (opposed : Bool) (r : Row) → length (tied opposed r) ≡ length r + 1
tied_length true r = omega arith
tied_length false r = omega arith

pub equations_cols : (n : ℕ) (L : List Row) (opposed : Bool) (r : Row) → HasCols n L → length r ≡ n → HasCols (n + 1) (equations_of L opposed r)
equations_cols n L opposed r h e = all_append (λ (x : Row). length x ≡ n + 1) (lifted L) (tied opposed r ∷ []) (lifted_cols n L h) (let f = tied_length opposed r in omega arith, tt)

pub equations_length : (L : List Row) (opposed : Bool) (r : Row) → length (equations_of L opposed r) ≡ length L + 1
equations_length L opposed r = length-append (lifted L) (tied opposed r ∷ []) ∙ (let e = lifted_length L in omega arith)

pub objective_length : (n : ℕ) → length (no_objective n) ≡ n
objective_length n = length-replicate n (ratio_of (pos 0) (pos 1))

-- ---- one row more
pub lift_more : (M : List Bool) (X : List Row) (i : ℕ) (W : List Row) → i < length M → i < length X → get_or M i false ≡ true → (W ++ (pos 0 ∷ row_at X i) ∷ []) ++ lifted (rows_marked true (drop (i + 1) M) (drop (i + 1) X)) ≡ W ++ lifted (rows_marked true (drop i M) (drop i X))
lift_more M X i W l m t = append_assoc W ((pos 0 ∷ row_at X i) ∷ []) (lifted (rows_marked true (drop (i + 1) M) (drop (i + 1) X))) ∙ ap (λ (Z : List Row). W ++ lifted Z) (marked_more true M X i [] l m (ap (λ (b : Bool). beq true b) t))

pub lift_skip : (M : List Bool) (X : List Row) (i : ℕ) (W : List Row) → i < length M → i < length X → get_or M i false ≡ false → W ++ lifted (rows_marked true (drop (i + 1) M) (drop (i + 1) X)) ≡ W ++ lifted (rows_marked true (drop i M) (drop i X))
lift_skip M X i W l m t = ap (λ (Z : List Row). W ++ lifted Z) (marked_skip true M X i l m (ap (λ (b : Bool). beq true b) t))

-- the rows before the marks' end
pub lift_end : (M : List Bool) (X : List Row) (i : ℕ) (W : List Row) → length M ≡ i → W ++ lifted (rows_marked true (drop i M) (drop i X)) ≡ W
lift_end M X i W e = ap (λ (Z : List Bool). W ++ lifted (rows_marked true Z (drop i X))) (drop_of_length-le M (omega arith)) ∙ append-nil W
