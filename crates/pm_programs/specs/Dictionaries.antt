-- Dictionaries (Chvatal, Linear Programming, chapter 2): each basic variable as an affine function of the others, by
-- fractions in lowest terms.
use Rattle.std.specs.Prelude.{ℕ, ◌≡◌, ◌<◌, ◌⊎◌, List, [], length}
use Rattle.std.specs.List.{slice_index_or}
use Rattle.pm_vector.specs.Numbers.{InRangeRatio, Ratio}
use Rattle.pm_vector.specs.Rows.{Row, entry, ratio_at}
use Rattle.pm_vector.specs.Bases.{row_at, column}
use Rattle.pm_fraction.specs.Arithmetic.{SumLeaves, opposite_of, product_of, quotient_of, sum_of}
use Rattle.pm_fraction.specs.Fractions.{IsLowestTermsOf, IsTooWide, ratio_of}
use Rattle.pm_programs.specs.Tableaux.{IsTableauOf}
use lib.IntN.{pos, neg_ℤ}

-- the fraction in row i and place k of D; 0 outside
abbrev pub at : List (List Ratio) → ℕ → ℕ → Ratio
at D i k = ratio_at (slice_index_or D i []) k

-- row i of D writes the variable P_i by those of the columns N: its fraction at place k is -R_i(N_k) / R_i(P_i) in
-- lowest terms, for a tableau R of the equations S with the basis P
pub record IsDictionaryOf (S : List Row) (P N : List ℕ) (D : List (List Ratio)) : Type 0 where
  pub whole : List Row
  pub tableau : IsTableauOf S P whole
  pub entries : (i k : ℕ) → i < length P → k < length N
      → IsLowestTermsOf (ratio_of (neg_ℤ (entry (row_at whole i) (column N k)))
      (entry (row_at whole i) (column P i))) (at D i k)

-- the fraction 1
abbrev pub one : Ratio
one = ratio_of (pos 1) (pos 1)

-- r is -(a / p) in lowest terms
pub record IsOppositeQuotient (a p r : Ratio) : Type 0 where
  pub quotient : Ratio
  pub lowest : IsLowestTermsOf (quotient_of a p) quotient
  pub opposite : r ≡ opposite_of quotient

-- r is e + f b in lowest terms, made by a product and then a sum
pub record IsProductSum (e f b r : Ratio) : Type 0 where
  pub product : Ratio
  pub lowest : IsLowestTermsOf (product_of f b) product
  pub sum : IsLowestTermsOf (sum_of e product) r

-- row i of D
abbrev pub row_of : List (List Ratio) → ℕ → List Ratio
row_of D i = slice_index_or D i []

-- each row of D has this many places
pub record HasPlaces (cols : ℕ) (D : List (List Ratio)) : Type 0 where
  pub each : (i : ℕ) → i < length D → length (row_of D i) ≡ cols

-- after a pivot at place j of the pivot row x, whose fraction there is p, r is the fraction of this row at place k: 1
-- / p at j, else -(a / p) for the old fraction a
pub record IsNewHere (x : List Ratio) (j k : ℕ) (r : Ratio) : Type 0 where
  pub corner : k ≡ j → IsLowestTermsOf (quotient_of one (ratio_at x j)) r
  pub rest : ¬ (k ≡ j) → IsOppositeQuotient (ratio_at x k) (ratio_at x j) r

-- after that pivot, r is the fraction of another row y at place k: f / p at j, where f is the old fraction of y
-- there, else e + f b for the old fraction e of y and the new one b of the pivot row
pub record IsNewElsewhere (x y : List Ratio) (j k : ℕ) (b r : Ratio) : Type 0 where
  pub corner : k ≡ j → IsLowestTermsOf (quotient_of (ratio_at y j) (ratio_at x j)) r
  pub rest : ¬ (k ≡ j) → IsProductSum (ratio_at y k) (ratio_at y j) b r

-- D' has the fractions of D after the pivot at row l and place j
pub record IsPivoted (rows cols : ℕ) (D : List (List Ratio)) (l j : ℕ) (D' : List (List Ratio))
    : Type 0 where
  pub here : (k : ℕ) → k < cols → IsNewHere (row_of D l) j k (at D' l k)
  pub elsewhere : (i k : ℕ) → i < rows → ¬ (i ≡ l) → k < cols
      → IsNewElsewhere (row_of D l) (row_of D i) j k (at D' l k) (at D' i k)

-- both parts of each of the first fractions of x are in the range
abbrev pub AllFit : ℕ → List Ratio → Type 0
AllFit cols x = (k : ℕ) → k < cols → InRangeRatio (ratio_at x k)

-- r is row i of D after the pivot at row l and place j, where b is the new pivot row
pub record IsRowAfter (cols : ℕ) (D : List (List Ratio)) (l j : ℕ) (b : List Ratio) (i : ℕ) (r : List Ratio)
    : Type 0 where
  pub count : length r ≡ cols
  pub here : i ≡ l → r ≡ b
  pub elsewhere : ¬ (i ≡ l) → (k : ℕ) → k < cols
      → IsNewElsewhere (row_of D l) (row_of D i) j k (ratio_at b k) (ratio_at r k)
  pub fits : AllFit cols r

-- the sum of e and the product of f and b, which is made, leaves the range
pub record SumIsWide (e f b : Ratio) : Type 0 where
  pub product : Ratio
  pub lowest : IsLowestTermsOf (product_of f b) product
  pub leaves : SumLeaves e product

-- the product of f and b leaves the range, or its sum with e does
abbrev pub ProductSumIsWide : Ratio → Ratio → Ratio → Type 0
ProductSumIsWide e f b = IsTooWide (product_of f b) ⊎ SumIsWide e f b

-- the operation for the new fraction of the pivot row x at place k leaves the range
pub record IsWideHere (x : List Ratio) (j k : ℕ) : Type 0 where
  pub corner : k ≡ j → IsTooWide (quotient_of one (ratio_at x j))
  pub rest : ¬ (k ≡ j) → IsTooWide (quotient_of (ratio_at x k) (ratio_at x j))

-- an operation for the new fraction of another row y at place k leaves the range, where b is the new fraction of the
-- pivot row there
pub record IsWideElsewhere (x y : List Ratio) (j k : ℕ) (b : Ratio) : Type 0 where
  pub corner : k ≡ j → IsTooWide (quotient_of (ratio_at y j) (ratio_at x j))
  pub rest : ¬ (k ≡ j) → ProductSumIsWide (ratio_at y k) (ratio_at y j) b

-- so it is for the new fraction of the pivot row, which is made
pub record IsWideOutside (x y : List Ratio) (j k : ℕ) : Type 0 where
  pub b : Ratio
  pub new : IsNewHere x j k b
  pub wide : IsWideElsewhere x y j k b

-- in the pivot of D at row l and place j, an operation for the new fraction in row i at place k leaves the range
pub record IsWidePlace (D : List (List Ratio)) (l j i k : ℕ) : Type 0 where
  pub here : i ≡ l → IsWideHere (row_of D l) j k
  pub outside : ¬ (i ≡ l) → IsWideOutside (row_of D l) (row_of D i) j k
