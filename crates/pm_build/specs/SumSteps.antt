-- The row of the sum of two points, and the numbers on the way to it.
-- For rows v and w with v_0, w_0 > 0 let g be the greatest common divisor of v_0 and w_0, p = w_0/g and q = v_0/g.
-- The sum of
-- their points has the row of the numbers v_0 p and p v_k + q w_k, which is then divided by its first entry.
use Rattle.std.specs.Prelude.{ℕ, zero, suc, ◌<◌, ◌≡◌, List, length, unsigned_abs}
use Rattle.std.specs.Int.{IsGcd}
use Rattle.pm_vector.specs.Numbers.{InRange, Ratio}
use Rattle.pm_vector.specs.Rows.{Row, entry}
use Rattle.pm_types.specs.OverFirst.{IsOverFirst}
use lib.IntN.{ℤ, pos, ◌*ℤ◌, ◌+ℤ◌}

-- p is w_0/g, and q is v_0/g
pub record AreFactors (v w : Row) (p q : ℤ) : Type 0 where
  pub g : ℕ
  pub divisor : IsGcd (unsigned_abs (entry v 0)) (unsigned_abs (entry w 0)) g
  pub first : entry w 0 ≡ p *ℤ pos g
  pub second : entry v 0 ≡ q *ℤ pos g

-- the entries of the row before it is divided
abbrev pub sum_entry : ℤ → ℤ → Row → Row → ℕ → ℤ
sum_entry p q v w zero = entry v 0 *ℤ p
sum_entry p q v w (suc k) = p *ℤ entry v (suc k) +ℤ q *ℤ entry w (suc k)

-- the numbers on the way to entry k: v_0 p for the first, and p v_k, q w_k and their sum for each other
abbrev pub ColumnStays : ℤ → ℤ → Row → Row → ℕ → Type 0
ColumnStays p q v w zero = InRange (entry v 0 *ℤ p)
ColumnStays p q v w (suc k) = InRange (p *ℤ entry v (suc k)) × InRange (q *ℤ entry w (suc k))
    × InRange (p *ℤ entry v (suc k) +ℤ q *ℤ entry w (suc k))

-- those of the first n entries are in the range
pub record NumbersStay (p q : ℤ) (v w : Row) (n : ℕ) : Type 0 where
  pub stay : (k : ℕ) → k < n → ColumnStays p q v w k

-- all of them are
pub record SumStays (v w : Row) : Type 0 where
  pub p : ℤ
  pub q : ℤ
  pub factors : AreFactors v w p q
  pub numbers : NumbersStay p q v w (length v)

-- one of entry k is not, and k is the first such
pub record IsWideAt (v w : Row) (k : ℕ) : Type 0 where
  pub p : ℤ
  pub q : ℤ
  pub factors : AreFactors v w p q
  pub within : k < length v
  pub before : NumbersStay p q v w k
  pub wide : ¬ (ColumnStays p q v w k)

-- x has these entries, and the numbers on the way to them are in the range
pub record IsSumBefore (p q : ℤ) (v w x : Row) : Type 0 where
  pub cols : length x ≡ length v
  pub entries : (k : ℕ) → k < length v → entry x k ≡ sum_entry p q v w k
  pub numbers : NumbersStay p q v w (length v)

-- r is the row of the sum of the points of v and w: its first entry is 1, and each other one is v_k/v_0 + w_k/w_0
pub record IsSumRow (v w : Row) (r : List Ratio) : Type 0 where
  pub p : ℤ
  pub q : ℤ
  pub whole : Row
  pub factors : AreFactors v w p q
  pub before : IsSumBefore p q v w whole
  pub over : IsOverFirst whole r
