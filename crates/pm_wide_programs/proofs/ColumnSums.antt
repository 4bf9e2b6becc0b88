-- Sums of rows, column by column.
use Rattle.pm_dual.proofs.RowSums.{drop_all, drop_row}
use Rattle.pm_vector.proofs.Lists.{all_append}
use Rattle.pm_vector.proofs.Ring.{ring}
use Rattle.pm_vector.proofs.RowLaws.{entry-plus, entry-times, length-times}
use Rattle.pm_vector.specs.Bases.{row_at}
use Rattle.pm_vector.specs.Cones.{combination}
use Rattle.pm_vector.specs.Rows.{HasCols, Row, Same, entry, plus, times}
use Rattle.std.proofs.Common.{add-one, ap, arith, drop, inl, inr, refl, sym, ◌∙◌}
use Rattle.std.proofs.lemmas.Bool.{cases_lt}
use Rattle.std.proofs.lemmas.Int.{ints}
use Rattle.std.proofs.lemmas.List.{get_or_past}
use Rattle.std.specs.Prelude.{List, [], length, suc, zero, ℕ, ◌+◌, ◌++◌, ◌<◌, ◌∷◌, ◌≡◌, ◌≤◌, ◌⊎◌}
use lib.IntN.{pos, ℤ, ◌*ℤ◌, ◌+ℤ◌}

-- ---- one column
one_more : (s n u v t a e x g : ℤ) → u ≡ t +ℤ v → t ≡ e *ℤ x → a ≡ x → n ≡ s +ℤ a *ℤ e → s +ℤ u ≡ g → n +ℤ v ≡ g
one_more s n u v t a e x g p q r f h = let k : a *ℤ e ≡ e *ℤ x = ap (λ z. z *ℤ e) r ∙ turn in omega (arith, ints)
  where
    turn : x *ℤ e ≡ e *ℤ x
    turn = simp ring

-- the entry of one row more
pub next_column : (c : Row) (X : List Row) (i j : ℕ) (s n a g : ℤ) → i < length c → i < length X → a ≡ entry (row_at X i) j → n ≡ s +ℤ a *ℤ entry c i → s +ℤ entry (combination (drop i c) (drop i X)) j ≡ g → n +ℤ entry (combination (drop (i + 1) c) (drop (i + 1) X)) j ≡ g
next_column c X i j s n a g l m e f h =
    rw add-one
    (one_more s n (entry (combination (drop i c) (drop i X)) j) (entry (combination (drop (suc i) c) (drop (suc i) X)) j) (entry (times (entry c i) (row_at X i)) j) a (entry c i) (entry (row_at X i) j) g
    (ap (λ r. entry r j) (drop_row c X i l m) ∙ entry-plus (times (entry c i) (row_at X i)) (combination (drop (suc i) c) (drop (suc i) X)) j) (entry-times (entry c i) (row_at X i) j) e f h)

pub last_column : (c : Row) (X : List Row) (i j : ℕ) (s g : ℤ) → length c ≤ i → s +ℤ entry (combination (drop i c) (drop i X)) j ≡ g → s ≡ g
last_column c X i j s g l h = let e = ap (λ r. entry r j) (drop_all c X i l) in none (entry (combination (drop i c) (drop i X)) j) e h
  where
    none : (u : ℤ) → u ≡ pos 0 → s +ℤ u ≡ g → s ≡ g
    none u e f = omega (arith, ints)

-- ---- all columns
past_columns : (n : ℕ) (c : Row) (X : List Row) (j : ℕ) → n ≤ j → HasCols n X → entry (combination c X) j ≡ pos 0
past_columns n [] X j l h = refl
past_columns n (k ∷ c) [] j l h = refl
past_columns n (k ∷ c) (x ∷ X) j l h =
    let cols : length x ≡ n = h.0 in
    none (entry (plus (times k x) (combination c X)) j) (entry (times k x) j) (entry (combination c X) j) (entry-plus (times k x) (combination c X) j)
    (get_or_past (times k x) j (pos 0) (let t = length-times k x in omega arith)) (past_columns n c X j l h.1)
  where
    none : (u v w : ℤ) → u ≡ v +ℤ w → v ≡ pos 0 → w ≡ pos 0 → u ≡ pos 0
    none u v w e f g = omega (arith, ints)

-- a sum of rows that is 0 in each column but the first is a constant
pub constant_sum : (s v : ℤ) (x c : Row) (A B : List Row) (n : ℕ) → length x ≡ n → 0 < n → HasCols n A → HasCols n B → v ≡ entry (plus (times s x) (combination c (A ++ B))) 0
    → ((j : ℕ) → 1 ≤ j → j < n → entry (plus (times s x) (combination c (A ++ B))) j ≡ pos 0) → Same (v ∷ []) (plus (times s x) (combination c (A ++ B)))
constant_sum s v x c A B n cols some hA hB first zero_else = record { at = each }
  where
    past : (j : ℕ) → n ≤ j → entry (plus (times s x) (combination c (A ++ B))) j ≡ pos 0
    past j l =
        both (entry (plus (times s x) (combination c (A ++ B))) j) (entry (times s x) j) (entry (combination c (A ++ B)) j) (entry-plus (times s x) (combination c (A ++ B)) j)
        (get_or_past (times s x) j (pos 0) (let t = length-times s x in omega arith)) (past_columns n c (A ++ B) j l (all_append (λ r. length r ≡ n) A B hA hB))
      where
        both : (u v w : ℤ) → u ≡ v +ℤ w → v ≡ pos 0 → w ≡ pos 0 → u ≡ pos 0
        both u v w e f g = omega (arith, ints)

    inside : (j : ℕ) → (j < n) ⊎ (n ≤ j) → 1 ≤ j → entry (plus (times s x) (combination c (A ++ B))) j ≡ pos 0
    inside j d l = elim d [ inl m ↦ zero_else j l m | inr m ↦ past j m ]

    each : (j : ℕ) → entry (v ∷ []) j ≡ entry (plus (times s x) (combination c (A ++ B))) j
    each zero = first
    each (suc j) = sym (inside (suc j) (cases_lt (suc j) n) (omega arith))

-- the entry of a row, taken s times, and of a sum of rows
pub with_row : (s v w a : ℤ) (x r : Row) (j : ℕ) → w ≡ s *ℤ a → a ≡ entry x j → v ≡ w +ℤ entry r j → v ≡ entry (plus (times s x) r) j
with_row s v w a x r j e f g = g ∙ ap (λ z. z +ℤ entry r j) (e ∙ ap (λ z. s *ℤ z) f ∙ sym (entry-times s x j)) ∙ sym (entry-plus (times s x) r j)
