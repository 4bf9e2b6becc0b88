-- The primitive rows so far.
use Rattle.pm_vector.specs.Numbers.{Ratio}
use Rattle.pm_vector.specs.Rows.{Row, Stands}
use Rattle.pm_fraction.specs.FractionRows.{ArePrimitiveRowsOf, IsPrimitiveRowOf}
use Rattle.pm_fraction.specs.Wideness.{IsWideInRow, IsWideRow, RowStays, RowsStay}
use Rattle.pm_fraction.specs.declared.fails.RowsFail.TheVariants.{Memory, Wide}
use Rattle.pm_fraction.specs.declared.fails.RowsFail.{RowsFail}
use Rattle.std.proofs.Common.{arith, below_more, get_or, length, refl, ◌++◌, ◌+◌, ◌<◌, ◌≡◌, ◌∙◌, ℕ, List, [], ◌∷◌}
use Rattle.std.proofs.lemmas.List.{get_or_append_left, get_or_push, length_push}

-- the first n rows have these primitive rows, made within the range
pub record PrimitiveSoFar (rows : List (List Ratio)) (n : ℕ) (xs : List Row) : Type 0 where
  pub count : length xs ≡ n
  pub each : (i : ℕ) → i < n → IsPrimitiveRowOf (get_or rows i []) (get_or xs i [])
  pub multiple : (i : ℕ) → i < n → Stands (get_or rows i []) (get_or xs i [])
  pub stay : RowsStay rows n

-- what holds of each row and its whole row, one row on
one_more : (P : List Ratio → Row → Type 0) (rows : List (List Ratio)) (n : ℕ) (xs : List Row) (x : Row) → length xs ≡ n → ((i : ℕ) → i < n → P (get_or rows i []) (get_or xs i [])) → P (get_or rows n []) x
    → (i : ℕ) → i < n + 1 → P (get_or rows i []) (get_or (xs ++ x ∷ []) i [])
one_more P rows n xs x count all last =
    below_more (λ i. P (get_or rows i []) (get_or (xs ++ x ∷ []) i [])) n
    (λ i below. let within : i < length xs = omega arith in rw (get_or_append_left xs (x ∷ []) [] i within) (all i below))
    (rw (get_or_push xs x [] n count) last)

pub PrimitiveSoFar-none : (rows : List (List Ratio)) → PrimitiveSoFar rows 0 []
PrimitiveSoFar-none rows = record {
  count = refl;
  each = λ i below. absurd (omega arith);
  multiple = λ i below. absurd (omega arith);
  stay = record { stay = λ i below. absurd (omega arith) };
}

pub PrimitiveSoFar-more : (rows : List (List Ratio)) (n : ℕ) (xs : List Row) (x : Row) → PrimitiveSoFar rows n xs → IsPrimitiveRowOf (get_or rows n []) x → Stands (get_or rows n []) x → RowStays (get_or rows n []) → PrimitiveSoFar rows (n + 1) (xs ++ x ∷ [])
PrimitiveSoFar-more rows n xs x s primitive multiple stays = record {
  count = length_push xs x ∙ (rw s.count refl);
  each = one_more IsPrimitiveRowOf rows n xs x s.count s.each primitive;
  multiple = one_more Stands rows n xs x s.count s.multiple multiple;
  stay = record { stay = below_more (λ i. RowStays (get_or rows i [])) n s.stay.stay stays };
}

pub ArePrimitiveRows-all : (rows : List (List Ratio)) (xs : List Row) → PrimitiveSoFar rows (length rows) xs → ArePrimitiveRowsOf rows xs
ArePrimitiveRows-all rows xs s = record { count = s.count; each = s.each; multiple = s.multiple }

-- the first row that leaves the range
pub IsWideRow-first : (rows : List (List Ratio)) (n : ℕ) (e : RowsFail) → n < length rows → RowsStay rows n → IsWideInRow (get_or rows n []) n e → IsWideRow rows e
IsWideRow-first rows n (Wide row first second) within before h = rw h.0 (record { within = within; before = before; wide = h.1 })
IsWideRow-first rows n Memory within before h = tt
