-- Rows of whole numbers.
use Rattle.std.specs.Prelude.{ℕ, ◌≡◌, ◌<◌, List, [], ◌∷◌, length}
use Rattle.std.specs.List.{AllByRecursion, slice_index_or}
use Rattle.pm_vector.specs.Numbers.{Ratio}
use lib.IntN.{ℤ, pos, negsuc, neg_ℤ, ◌+ℤ◌, ◌*ℤ◌}
use lib.Signed.{◌<ℤ◌}

-- a row of whole numbers
abbrev pub Row : Type 0
Row = List ℤ

-- the i-th entry, and 0 past the end
abbrev pub entry : Row → ℕ → ℤ
entry x i = slice_index_or x i (pos 0)

-- the sum of the products of the entries
abbrev pub dot : Row → Row → ℤ
dot [] x = pos 0
dot (a ∷ as') [] = pos 0
dot (a ∷ as') (x ∷ xs) = a *ℤ x +ℤ dot as' xs

-- the sum of two rows, entry by entry
abbrev pub plus : Row → Row → Row
plus [] y = y
plus (a ∷ x) [] = a ∷ x
plus (a ∷ x) (b ∷ y) = (a +ℤ b) ∷ plus x y

-- k times a row, entry by entry
abbrev pub times : ℤ → Row → Row
times k [] = []
times k (a ∷ x) = (k *ℤ a) ∷ times k x

-- -x
unfoldable pub opposite : Row → Row
opposite x = times (negsuc 0) x

-- p x - q v
unfoldable pub difference : ℤ → Row → ℤ → Row → Row
difference p x q v = plus (times p x) (times (neg_ℤ q) v)

-- the rows agree in every entry, one past the end being 0
pub record Same (x y : Row) : Type 0 where
  pub at : (i : ℕ) → entry x i ≡ entry y i

-- every entry is 0
abbrev pub IsZero : Row → Type 0
IsZero x = (i : ℕ) → entry x i ≡ pos 0

-- each row of X has n entries
abbrev pub HasCols : ℕ → List Row → Type 0
HasCols n X = AllByRecursion (λ x. length x ≡ n) X

-- p v = q w for some p, q > 0
pub record SameDirection (v w : Row) : Type 0 where
  pub p : ℤ
  pub q : ℤ
  pub p_positive : pos 0 <ℤ p
  pub q_positive : pos 0 <ℤ q
  pub same : Same (times p v) (times q w)

-- the i-th fraction of a row, and 0/1 past the end
abbrev pub ratio_at : List Ratio → ℕ → Ratio
ratio_at r i = slice_index_or r i (record { num = pos 0; den = pos 1 })

-- the whole row x stands for the row r of fractions: p x is q r, entry by entry, for some p, q > 0; all denominators
-- are positive
pub record Stands (r : List Ratio) (x : Row) : Type 0 where
  pub p : ℤ
  pub q : ℤ
  pub p_positive : pos 0 <ℤ p
  pub q_positive : pos 0 <ℤ q
  pub cols : length x ≡ length r
  pub denominators : (i : ℕ) → i < length r → pos 0 <ℤ (ratio_at r i).den
  pub same : (i : ℕ) → i < length r → p *ℤ (entry x i *ℤ (ratio_at r i).den) ≡ q *ℤ (ratio_at r i).num
