-- Products of short rows.
use Rattle.pm_vector.specs.Rows.{Row, dot, entry}
use Rattle.pm_incidence.specs.Short.{IsLittle, IsShort}
use Rattle.pm_incidence.proofs.Products.{only_one}
use Rattle.pm_incidence.specs.Incidence.{AllStay}
use Rattle.pm_vector.proofs.Products.{dot-take_more}
use Rattle.pm_vector.specs.Products.{ProductsStay}
use Rattle.std.proofs.Common.{FitsSigned, add-one, arith, inl, inr, length, of_z, subst, suc, sym, take, to_z, zero, ◌+◌, ◌*◌, ◌^◌, ◌<◌, ◌∙◌, ◌≡◌, ◌≤◌, ℕ}
use Rattle.std.proofs.Math.Nat.{mul-le-mul}
use Rattle.std.proofs.lemmas.Bool.{cases_lt}
use Rattle.std.proofs.lemmas.Int.{fits_signed_from_abs, ints, to_z-of_z, unsigned_abs-mul}
use Rattle.std.proofs.lemmas.List.{get_or_past}
use Rattle.std.proofs.lemmas.List.Elements.{All-contains}
use Rattle.std.specs.Int.{w64, w128}
use Rattle.std.specs.Prelude.{All, List, [], unsigned_abs, ◌∷◌}
use lib.IntN.{pos, ℤ, ◌*ℤ◌, ◌+ℤ◌}

pub little_at : (x : Row) → All IsLittle x → (i : ℕ) → IsLittle (entry x i)
little_at x all i = elim (cases_lt i (length x)) [
  | inl within ↦ all i (pos 0) within
  | inr past ↦ rw get_or_past (omega arith)
]

pub little_product : (a b : ℤ) → IsLittle a → IsLittle b → unsigned_abs (a *ℤ b) ≤ 2 ^ 56
little_product a b p q =
    let within = mul-le-mul {n₁ = unsigned_abs a} {m₁ = unsigned_abs b} {n₂ = 2 ^ 28} {m₂ = 2 ^ 28} (omega arith) (omega arith) in
    rw unsigned_abs-mul within

-- a product of the first entries of two rows of little numbers
first_products : (k : ℕ) (a b : Row) → ((i : ℕ) → IsLittle (entry a i)) → ((i : ℕ) → IsLittle (entry b i)) → unsigned_abs (dot (take k a) (take k b)) ≤ length a * 2 ^ 56
first_products zero a b p q = omega arith
first_products (suc k) [] b p q = omega arith
first_products (suc k) (x ∷ a) [] p q = omega arith
first_products (suc k) (x ∷ a) (y ∷ b) p q =
    let here = little_product x y (p 0) (q 0) in
    let rest = first_products k a b (λ i. p (suc i)) (λ i. q (suc i)) in
    omega (arith, ints)

module _ (a b : Row) (short_a : IsShort a) (short_b : IsShort b) where
  pub short_product : (i : ℕ) → unsigned_abs (entry a i *ℤ entry b i) ≤ 2 ^ 56
  short_product i = little_product (entry a i) (entry b i) (little_at a short_a.little i) (little_at b short_b.little i)

  -- the sums of the first products are at most 2^62 in absolute value
  pub short_sum : (k : ℕ) → unsigned_abs (dot (take k a) (take k b)) ≤ 64 * 2 ^ 56
  short_sum k =
      let few = short_a.few in
      let within = first_products k a b (little_at a short_a.little) (little_at b short_b.little) in
      omega arith

  pub short_stays : ProductsStay a b
  short_stays = record {
    products = λ i. let h = short_product i in omega arith;
    sums = λ k. let h = short_sum k in omega arith;
  }

  pub short_fits : (i : ℕ) → FitsSigned w64 (entry a i *ℤ entry b i)
  short_fits i =
      let h = short_product i in
      let within : unsigned_abs (entry a i *ℤ entry b i) < 2 ^ 63 = omega arith in
      fits_signed_from_abs w64 (entry a i *ℤ entry b i) within

-- the products of a short row with short rows stay in the range
pub AllStay-short : (f : Row) (V : List Row) → IsShort f → All IsShort V → AllStay (f ∷ []) V
AllStay-short f V short all = record {
  stay = λ g v c d. subst (λ y. ProductsStay y v) (sym (only_one c)) (short_stays f v short (All-contains IsShort V v all d));
}

-- what 64 bits hold of what 128 bits hold of z
abbrev pub held : ℤ → ℤ
held z = to_z w64 (of_z w64 (to_z w128 (of_z w128 z)))

kept_little : (z : ℤ) → IsLittle z → held z ≡ z
kept_little z h =
    let wide : unsigned_abs z < 2 ^ 127 = omega arith in
    let narrow : unsigned_abs z < 2 ^ 63 = omega arith in
    rw (to_z-of_z w128 z (fits_signed_from_abs w128 z wide)) (to_z-of_z w64 z (fits_signed_from_abs w64 z narrow))

-- one product on, s being the sum of the first i
module _ (a b : Row) (short_a : IsShort a) (short_b : IsShort b) (i : ℕ) (in_a : i < length a) (in_b : i < length b) (s : ℤ) (so_far : s ≡ dot (take i a) (take i b)) where
  kept_a : held (entry a i) ≡ entry a i
  kept_a = kept_little (entry a i) (little_at a short_a.little i)

  kept_b : held (entry b i) ≡ entry b i
  kept_b = kept_little (entry b i) (little_at b short_b.little i)

  next_is : s +ℤ entry a i *ℤ entry b i ≡ dot (take (i + 1) a) (take (i + 1) b)
  next_is = rw (so_far, add-one) (sym (dot-take_more a b i in_a in_b))

  next_fits : FitsSigned w64 (s +ℤ entry a i *ℤ entry b i)
  next_fits =
      let h = short_sum a b short_a short_b (i + 1) in
      let within : unsigned_abs (dot (take (i + 1) a) (take (i + 1) b)) < 2 ^ 63 = omega arith in
      rw next_is (fits_signed_from_abs w64 (dot (take (i + 1) a) (take (i + 1) b)) within)

  pub held_product_fits : FitsSigned w64 (held (entry a i) *ℤ held (entry b i))
  held_product_fits = rw (kept_a, kept_b) (short_fits a b short_a short_b i)

  kept_product : to_z w64 (of_z w64 (held (entry a i) *ℤ held (entry b i))) ≡ entry a i *ℤ entry b i
  kept_product = rw (kept_a, kept_b) (to_z-of_z w64 (entry a i *ℤ entry b i) (short_fits a b short_a short_b i))

  pub held_sum_fits : FitsSigned w64 (s +ℤ to_z w64 (of_z w64 (held (entry a i) *ℤ held (entry b i))))
  held_sum_fits = rw kept_product next_fits

  pub held_sum_is : to_z w64 (of_z w64 (s +ℤ to_z w64 (of_z w64 (held (entry a i) *ℤ held (entry b i))))) ≡ dot (take (i + 1) a) (take (i + 1) b)
  held_sum_is = rw kept_product (to_z-of_z w64 (s +ℤ entry a i *ℤ entry b i) next_fits ∙ next_is)
