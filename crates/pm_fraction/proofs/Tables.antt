-- Rows of fractions, one row or one entry on. V stands for the type of a row in memory, of which `items` gives the entries.
use Rattle.pm_vector.specs.Numbers.{Ratio}
use Rattle.pm_vector.specs.Rows.{ratio_at}
use Rattle.pm_fraction.specs.Matrices.{FractionMatrix, IsFraction, IsMatrix, IsTransposeOf}
use Rattle.std.proofs.Common.{All, ap, arith, below_more, get_or, length, map, pos, refl, sym, take, ◌++◌, ◌+◌, ◌<◌, ◌≡◌, ◌∙◌, ℕ, List, [], ◌∷◌}
use Rattle.std.proofs.lemmas.List.Elements.{All-nil, All-push}
use Rattle.std.proofs.lemmas.List.{get_or-map, get_or_append_left, get_or_push, get_or_read, length-map, length_push, map_more, map_push, take_more}

-- the value that is read at a place
pub fraction_read : (r : List Ratio) (i : ℕ) (x : Ratio) → i < length r → x ≡ get_or r i x → x ≡ ratio_at r i
fraction_read r i x within e = get_or_read r i x within e (record { num = pos 0; den = pos 1 })

-- ---- copies
pub copy_more : (r copy : List Ratio) (i : ℕ) (x : Ratio) → i < length r → x ≡ get_or r i x → copy ≡ take i r → copy ++ x ∷ [] ≡ take (i + 1) r
copy_more r copy i x within e so_far = rw (so_far, take_more r i x within, ← e) refl

pub column_more : (rows : List (List Ratio)) (i j : ℕ) (column row : List Ratio) (x : Ratio) → i < length rows → row ≡ get_or rows i [] → j < length row → x ≡ get_or row j x
    → column ≡ map (λ r. ratio_at r j) (take i rows) → column ++ x ∷ [] ≡ map (λ r. ratio_at r j) (take (i + 1) rows)
column_more rows i j column row x within is in_row e so_far =
    let read : x ≡ ratio_at (get_or rows i []) j = fraction_read row j x in_row e ∙ (rw is refl) in
    rw (so_far, map_more (λ r. ratio_at r j) rows i [] within, read) refl

-- ---- rows in memory
module _ {V : Type 0} (items : V → List Ratio) (cols : ℕ) (rows : List V) where
  pub row_length : (i : ℕ) (v : V) → All (λ r. length r ≡ cols) (map items rows) → i < length (map items rows) → v ≡ get_or rows i v → length (items v) ≡ cols
  row_length i v shape within is =
      let in_rows : i < length rows = rw length-map at within in
      let read : get_or (map items rows) i (items v) ≡ items v = get_or-map items rows i v (items v) in_rows ∙ ap items (sym is) in
      rw read at (shape i (items v) within)

  pub IsMatrix-push : (v : V) → IsMatrix (record { cols = cols; rows = map items rows }) → length (items v) ≡ cols → All IsFraction (items v) → IsMatrix (record { cols = cols; rows = map items (rows ++ v ∷ []) })
  IsMatrix-push v m l e = rw map_push (record {
    shape = All-push (λ r. length r ≡ cols) (map items rows) (items v) m.shape l;
    entries = All-push (All IsFraction) (map items rows) (items v) m.entries e;
  })

-- ---- the transpose
-- the first j rows of t are the first j columns of a
pub record TransposedSoFar (a : FractionMatrix) (j : ℕ) (t : List (List Ratio)) : Type 0 where
  pub matrix : IsMatrix (record { cols = length a.rows; rows = t })
  pub count : length t ≡ j
  pub columns : (k : ℕ) → k < j → get_or t k [] ≡ map (λ r. ratio_at r k) a.rows

pub TransposedSoFar-none : (a : FractionMatrix) → TransposedSoFar a 0 []
TransposedSoFar-none a = record {
  matrix = record { shape = All-nil (λ r. length r ≡ length a.rows); entries = All-nil (All IsFraction) };
  count = refl;
  columns = λ k below. absurd (omega arith);
}

pub TransposedSoFar-more : (a : FractionMatrix) (j : ℕ) (t : List (List Ratio)) (column : List Ratio) → TransposedSoFar a j t → column ≡ map (λ r. ratio_at r j) a.rows → All IsFraction column → TransposedSoFar a (j + 1) (t ++ column ∷ [])
TransposedSoFar-more a j t column s is entries = record {
  matrix = record {
    shape = All-push (λ r. length r ≡ length a.rows) t column s.matrix.shape (rw (is, length-map) refl);
    entries = All-push (All IsFraction) t column s.matrix.entries entries;
  };
  count = length_push t column ∙ (rw s.count refl);
  columns = below_more (λ k. get_or (t ++ column ∷ []) k [] ≡ map (λ r. ratio_at r k) a.rows) j
      (λ k below. let in_t : k < length t = (let n = s.count in omega arith) in get_or_append_left t (column ∷ []) [] k in_t ∙ s.columns k below)
      (get_or_push t column [] j s.count ∙ is);
}

pub IsTransposeOf-columns : (a : FractionMatrix) (t : List (List Ratio)) → TransposedSoFar a a.cols t → IsTransposeOf a (record { cols = length a.rows; rows = t })
IsTransposeOf-columns a t s = record {
  cols = refl;
  rows = s.count;
  entries = λ i j in_rows in_cols. rw (s.columns j in_cols) (get_or-map (λ r. ratio_at r j) a.rows i [] (record { num = pos 0; den = pos 1 }) in_rows);
}
