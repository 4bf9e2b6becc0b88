-- Two rows with one direction are multiples of one row, so that a primitive row is determined by its direction.

use Rattle.pm_vector.proofs.Ring.{ring}
use Rattle.pm_vector.proofs.RowLaws.{entry-difference, entry-times, length-difference}
use Rattle.pm_vector.proofs.Signs.{mul_cancel}
use Rattle.pm_vector.specs.Divisors.{IsPrimitive}
use Rattle.pm_vector.specs.Rows.{Row, Same, difference, entry, times}
use Rattle.std.proofs.Common.{arith, sym, ◌∙◌}
use Rattle.std.proofs.lemmas.Int.{by_lt_z, ints}
use Rattle.std.specs.Prelude.{length, suc, zero, ℕ, ◌≡◌}
use lib.IntN.{negsuc, pos, ℤ, ◌*ℤ◌, ◌+ℤ◌, ◌-ℤ◌}
use lib.Signed.{lt_z_yes, ◌<ℤ◌, ◌≤ℤ◌}

-- ---- two rows with one direction are multiples of one row
record Common (n : ℕ) (x y : Row) : Type 0 where
  z : Row
  s : ℤ
  t : ℤ
  cols : length z ≡ n
  s_positive : pos 0 <ℤ s
  t_positive : pos 0 <ℤ t
  first : Same x (times s z)
  second : Same y (times t z)

common_first : (n : ℕ) (x y : Row) → Common n (difference (pos 1) x (pos 1) y) y → Common n x y
common_first n x y c =
    let s0 = c.s_positive in
    let t0 = c.t_positive in
    record {
      z = c.z;
      s = c.s +ℤ c.t;
      t = c.t;
      cols = c.cols;
      s_positive = omega (arith, ints);
      t_positive = c.t_positive;
      first = record { at = λ i. let g = simp (entry-difference, entry-times, ring) at (c.first.at i) in let k = simp entry-times at (c.second.at i) in simp (entry-times, ring) (omega (arith, ints)) };
      second = c.second;
    }

common_swap : (n : ℕ) (x y : Row) → Common n x y → Common n y x
common_swap n x y c = record { z = c.z; s = c.t; t = c.s; cols = c.cols; s_positive = c.t_positive; t_positive = c.s_positive; first = c.second; second = c.first }

common_same : (n : ℕ) (p q : ℤ) (x y : Row) → length x ≡ n → pos 0 <ℤ q → p ≡ q → ((i : ℕ) → p *ℤ entry x i ≡ q *ℤ entry y i) → Common n x y
common_same n p q x y lx hq same e = record {
  z = x;
  s = pos 1;
  t = pos 1;
  cols = lx;
  s_positive = lt_z_yes tt;
  t_positive = lt_z_yes tt;
  first = record { at = λ i. simp (entry-times, ring) };
  second = record { at = λ i. let g = simp same at (e i) in simp (entry-times, ring) (sym (mul_cancel hq g)) };
}

smaller : (p q : ℤ) (x y : Row) → ((i : ℕ) → p *ℤ entry x i ≡ q *ℤ entry y i) → (i : ℕ) → p *ℤ entry (difference (pos 1) x (pos 1) y) i ≡ (q -ℤ p) *ℤ entry y i
smaller p q x y e i = let g = e i in simp (entry-difference, ring) (omega (arith, ints))

common : (f n : ℕ) (p q : ℤ) (x y : Row) → length x ≡ n → length y ≡ n → pos 0 <ℤ p → pos 0 <ℤ q → (p +ℤ q) ≤ℤ pos f → ((i : ℕ) → p *ℤ entry x i ≡ q *ℤ entry y i) → Common n x y
common zero n p q x y lx ly hp hq h e = absurd (omega (arith, ints))
common (suc f) n p q x y lx ly hp hq h e =
    by_lt_z p q
    (λ l. common_first n x y (common f n p (q -ℤ p) (difference (pos 1) x (pos 1) y) y (length-difference n (pos 1) x (pos 1) y lx ly) ly hp (omega (arith, ints)) (omega (arith, ints)) (smaller p q x y e)))
    (λ l. by_lt_z q p
    (λ m. common_swap n y x (common_first n y x (common f n q (p -ℤ q) (difference (pos 1) y (pos 1) x) x (length-difference n (pos 1) y (pos 1) x ly lx) lx hq (omega (arith, ints)) (omega (arith, ints)) (smaller q p y x (λ i. sym (e i))))))
    (λ m. common_same n p q x y lx hq (omega (arith, ints)) e))

pub primitive_unique : (n : ℕ) (p q : ℤ) (x y : Row) → length x ≡ n → length y ≡ n → pos 0 <ℤ p → pos 0 <ℤ q → IsPrimitive x → IsPrimitive y → ((i : ℕ) → p *ℤ entry x i ≡ q *ℤ entry y i) → Same x y
primitive_unique n p q x y lx ly hp hq px py e =
    let b : (p +ℤ q) ≤ℤ pos (bound (p +ℤ q)) = bounded (p +ℤ q) in
    let c = common (bound (p +ℤ q)) n p q x y lx ly hp hq b e in
    let s1 = px.whole c.s c.z (c.cols ∙ sym lx) c.s_positive c.first in
    let t1 = py.whole c.t c.z (c.cols ∙ sym ly) c.t_positive c.second in
    record { at = λ i. let g = simp (entry-times, s1, ring) at (c.first.at i) in let k = simp (entry-times, t1, ring) at (c.second.at i) in g ∙ sym k }
  where
    bound : ℤ → ℕ
    bound (pos k) = k
    bound (negsuc k) = 0

    bounded : (k : ℤ) → k ≤ℤ pos (bound k)
    bounded (pos k) = omega (arith, ints)
    bounded (negsuc k) = omega (arith, ints)
