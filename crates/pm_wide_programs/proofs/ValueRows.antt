-- Rows of wide numbers, place by place.
use Rattle.pm_vector.proofs.Products.{dot-take_more}
use Rattle.pm_vector.specs.Rows.{Row, dot, entry}
use Rattle.pm_vector.specs.WideInts.{value_of}
use Rattle.pm_vector.specs.declared.wide_int.WideInt.{WideInt}
use Rattle.pm_wide_programs.specs.Values.{values}
use Rattle.std.proofs.Common.{List, add-one, arith, get_or, length, subst, sym, take, true≢false, ℕ, ◌+◌, ◌<◌, ◌≡◌, ◌≤◌}
use Rattle.std.proofs.lemmas.Int.{ints}
use Rattle.std.proofs.lemmas.List.{get_or-map, length-map, take_all}
use Rattle.std.specs.Prelude.{IsTrue, false}
use lib.IntN.{negsuc, pos, ℤ, ◌*ℤ◌, ◌+ℤ◌}
use lib.Signed.{◌<ℤ◌, ◌≤ℤ◌}

pub length_values : (x : List WideInt) → length (values x) ≡ length x
length_values x = simp length-map

pub value_at : (x : List WideInt) (i : ℕ) (d : WideInt) → i < length x → entry (values x) i ≡ value_of (get_or x i d)
value_at x i d l = get_or-map value_of x i d (pos 0) l

-- the sum of the first products, and one product more
pub product_more : (a : Row) (x : List WideInt) (i : ℕ) (d : WideInt) (s n t : ℤ) → i < length a → i < length x → t ≡ entry a i → n ≡ s +ℤ t *ℤ value_of (get_or x i d) → s ≡ dot (take i a) (take i (values x)) → n ≡ dot (take (i + 1) a) (take (i + 1) (values x))
product_more a x i d s n t la lx e f g =
    let lv : i < length (values x) = omega (arith, length_values x) in
    let at = value_at x i d lx in
    let more = dot-take_more a (values x) i la lv in
    rw add-one (cc)

pub product_all : (a : Row) (x : List WideInt) (n : ℕ) (s : ℤ) → length a ≤ n → length x ≤ n → s ≡ dot (take n a) (take n (values x)) → s ≡ dot a (values x)
product_all a x n s la lx e = rw (take_all n a la, take_all n (values x) (omega (arith, length_values x))) at e

pub at_value : (P : ℤ → Type 0) (x : List WideInt) (i : ℕ) (d : WideInt) → i < length x → P (value_of (get_or x i d)) → P (entry (values x) i)
at_value P x i d l h = subst P (sym (value_at x i d l)) h

-- a number that is read at a place is that of the row
pub read_more : (x : List WideInt) (i : ℕ) (d : WideInt) (s n a b : ℤ) → i < length x → b ≡ a → n ≡ s +ℤ b *ℤ value_of (get_or x i d) → n ≡ s +ℤ a *ℤ entry (values x) i
read_more x i d s n a b l e f = let at = value_at x i d l in cc

pub read_up : (x : List WideInt) (i : ℕ) (d : WideInt) → i < length x → (value_of (get_or x i d) <ℤ pos 0 → IsTrue false) → pos 0 ≤ℤ entry (values x) i
read_up x i d l h = subst (λ z. pos 0 ≤ℤ z) (sym (value_at x i d l)) (up (value_of (get_or x i d)) h)
  where
    up : (z : ℤ) → (z <ℤ pos 0 → IsTrue false) → pos 0 ≤ℤ z
    up (pos n) k = omega (arith, ints)
    up (negsuc n) k = absurd (true≢false (sym (k (omega (arith, ints)))))
