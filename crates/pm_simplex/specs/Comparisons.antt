-- The order of the rows in a ratio test.
use Rattle.pm_vector.specs.Numbers.{Ratio}
use Rattle.pm_vector.specs.Rows.{Row, entry}
use Rattle.pm_vector.specs.Bases.{column, row_at}
use Rattle.pm_programs.specs.Dictionaries.{HasPlaces, IsDictionaryOf, at, row_of}
use Rattle.pm_programs.specs.Lex.{IsLexPositive, keys}
use Rattle.pm_simplex.specs.Sizes.{IsQuotientBelow}
use Rattle.pm_simplex.specs.States.{columns_of, is_signed, key_columns, key_in}
use Rattle.pm_programs.specs.Tableaux.{IsSign, pivot_row}
use Rattle.pm_simplex.specs.declared.dictionary.Dictionary.{Dictionary}
use Rattle.pm_simplex.specs.declared.layout.Layout.{Layout}
use Rattle.std.specs.Prelude.{Bool, IsTrue, List, if◌then◌else◌, length, map, ℕ, ◌<◌, ◌≡◌, ◌⊎◌}
use lib.IntN.{negsuc, pos, ℤ, ◌*ℤ◌}
use lib.Signed.{◌<ℤ◌}

-- the rows of a dictionary in memory
abbrev pub rows_of : Dictionary → List (List Ratio)
rows_of d = map (λ r. r.items) d.rows.items

-- the column c is that of a basic variable or among the others
abbrev pub IsCovered : List ℕ → List ℕ → ℕ → Type 0
IsCovered P N c = ((i : ℕ) × (i < length P) × (column P i ≡ c))
    ⊎ ((k : ℕ) × (k < length N) × (column N k ≡ c))

-- there is a row for each basic variable, and in each row a fraction for each other column
pub record IsRectangular (d : Dictionary) : Type 0 where
  pub count : length d.rows.items ≡ length d.basis.items
  pub places : HasPlaces (length d.others.items) (rows_of d)

-- moreover each column of the layout is covered, and no basic variable has the column of the constants
pub record IsShaped (y : Layout) (d : Dictionary) : Type 0 where
  pub rectangular : IsRectangular d
  pub cover : (c : ℕ) → c < columns_of y → IsCovered d.basis.items d.others.items c
  pub variables : (i : ℕ) → i < length d.basis.items → 0 < column d.basis.items i

-- the columns are below m, no column is both basic and another, and no two others are equal
pub record IsApart (m : ℕ) (P N : List ℕ) : Type 0 where
  pub basic_inside : (i : ℕ) → i < length P → column P i < m
  pub other_inside : (k : ℕ) → k < length N → column N k < m
  pub apart : (i k : ℕ) → i < length P → k < length N → ¬ (column P i ≡ column N k)
  pub different : (k l : ℕ) → k < length N → l < length N → ¬ (k ≡ l) → ¬ (column N k ≡ column N l)

-- what row i says of the column c in the lexicographic order
abbrev pub key_of : Dictionary → ℕ → ℕ → Ratio
key_of d i c = key_in (column d.basis.items i) d.others.items (row_of (rows_of d) i) c

-- in the column c, the quotient of row i by the size of its fraction at j is less than that of row l
abbrev pub IsKeyBelow : Dictionary → ℕ → ℕ → ℕ → ℕ → Type 0
IsKeyBelow d i l j c = IsQuotientBelow (key_of d i c) (at (rows_of d) i j) (key_of d l c)
    (at (rows_of d) l j)

-- after a pivot at row i of R and the column e, row l is lexicographically positive
abbrev pub StaysPositive : Layout → List Row → ℤ → ℕ → ℕ → ℕ → Type 0
StaysPositive y R s i l e = IsLexPositive (keys (key_columns y) (pivot_row s (row_at R i) e (row_at R l)))

-- row i is before row l in the ratio test at place j: after a pivot at i, row l stays lexicographically positive, for
-- every tableau that the dictionary writes
pub record IsRowBelow (y : Layout) (d : Dictionary) (i l j : ℕ) : Type 0 where
  pub stays : (S : List Row) (t : IsDictionaryOf S d.basis.items d.others.items (rows_of d)) (s : ℤ)
      → IsSign s
      → pos 0 <ℤ (s *ℤ entry (row_at t.whole i) (column d.others.items j))
      → pos 0 <ℤ (s *ℤ entry (row_at t.whole l) (column d.others.items j))
      → StaysPositive y t.whole s i l (column d.others.items j)

-- 1 for a variable that enters upward, and -1 for one that enters downward
abbrev pub direction : Bool → ℤ
direction up = if up then pos 1 else negsuc 0

-- the variable of row i may not be negative, and falls as the variable at place j moves
pub record HindersAt (y : Layout) (d : Dictionary) (j : ℕ) (up : Bool) (i : ℕ) : Type 0 where
  pub signed : IsTrue (is_signed y (column d.basis.items i))
  pub falls : (direction up *ℤ (at (rows_of d) i j).num) <ℤ pos 0

-- row l hinders, and is before each other of the first n rows that hinders
pub record IsLeastOf (y : Layout) (d : Dictionary) (j : ℕ) (up : Bool) (n l : ℕ) : Type 0 where
  pub within : l < n
  pub hinders : HindersAt y d j up l
  pub least : (i : ℕ) → i < n → ¬ (i ≡ l) → HindersAt y d j up i → IsRowBelow y d l i j
