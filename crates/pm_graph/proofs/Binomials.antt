-- Binomial coefficients, one from another.
use Rattle.pm_geom.specs.FaceCounts.{binom}
use Rattle.std.proofs.Common.{ap, arith, refl, subst, sym, ◌∙◌}
use Rattle.std.proofs.Math.Nat.{mul-div_cancel_left, mul-le-mul, mul_comm, pow-le-pow_right, pow-suc}
use Rattle.std.specs.Prelude.{suc, zero, ℕ, ◌*◌, ◌+◌, ◌/◌, ◌<◌, ◌^◌, ◌≡◌, ◌≤◌}
use Rattle.pm_limits.specs.Limits.{most_columns, most_dimensions}

-- (k + 1) binom(n, k + 1) + k binom(n, k) = n binom(n, k)
absorbed_step : (n j a b c : ℕ) → suc (suc j) * c + suc j * b ≡ n * b → suc j * b + j * a ≡ n * a → suc (suc j) * (b + c) + suc j * (a + b) ≡ suc n * (a + b)
absorbed_step n j a b c e f = omega arith

absorbed : (n k : ℕ) → suc k * binom n (suc k) + k * binom n k ≡ n * binom n k
absorbed zero zero = refl
absorbed zero (suc k) = omega arith
absorbed (suc n) zero = let e = absorbed n zero in omega arith
absorbed (suc n) (suc j) = absorbed_step n j (binom n j) (binom n (suc j)) (binom n (suc (suc j))) (absorbed n (suc j)) (absorbed n j)

next_step : (q s a b : ℕ) → suc q * b + q * a ≡ (q + 1 + s) * a → suc s * (a + b) ≡ (suc (suc q) + s) * b
next_step q s a b e = omega arith

-- (s + 1) binom(k + s + 1, k) = (k + s + 1) binom(k + s, k)
pub next_binom : (k s : ℕ) → (s + 1) * binom (k + s + 1) k ≡ (k + s + 1) * binom (k + s) k
next_binom zero s = omega arith
next_binom (suc q) s =
    let e : suc q + s + 1 ≡ suc (suc q + s) = omega arith in
    let n : suc q + s ≡ q + 1 + s = omega arith in
    let a = absorbed (suc q + s) q in
    let b = next_step q s (binom (suc q + s) q) (binom (suc q + s) (suc q)) (subst (λ m. suc q * binom (suc q + s) (suc q) + q * binom (suc q + s) q ≡ m * binom (suc q + s) q) n a) in
    subst (λ m. (s + 1) * binom m (suc q) ≡ (suc q + s + 1) * binom (suc q + s) (suc q)) (sym e) (let c : (s + 1) * (binom (suc q + s) q + binom (suc q + s) (suc q)) ≡ (suc q + s + 1) * binom (suc q + s) (suc q) = grown q s (binom (suc q + s) q) (binom (suc q + s) (suc q)) b in c)
  where
    grown : (q s a b : ℕ) → suc s * (a + b) ≡ (suc (suc q) + s) * b → (s + 1) * (a + b) ≡ (suc q + s + 1) * b
    grown q s a b e = omega arith

pub binom_bound : (n k : ℕ) → binom n k ≤ 2 ^ n
binom_bound zero zero = omega arith
binom_bound zero (suc k) = omega arith
binom_bound (suc n) zero = let h = binom_bound n 0 in rw pow-suc (omega arith)
binom_bound (suc n) (suc k) = let a = binom_bound n k in let b = binom_bound n (suc k) in rw pow-suc (omega arith)

pub binom_small : (n k : ℕ) → n ≤ most_dimensions → binom n k ≤ 2 ^ 32
binom_small n k l = let a = binom_bound n k in let b = pow-le-pow_right {n = 2} (omega arith) {i = n} {j = most_dimensions} l in omega arith

-- ---- the loop that counts up
pub choose_fits : (k s count n : ℕ) → count ≡ binom (k + s) k → k + s < n → n ≤ most_dimensions → count * (k + s + 1) < 2 ^ 64
choose_fits k s count n e l m =
    let b = binom_small (k + s) k (omega arith) in
    fits (binom (k + s) k) (k + s + 1) count e b (omega arith)
  where
    fits : (b m count : ℕ) → count ≡ b → b ≤ 2 ^ 32 → m ≤ most_columns → count * m < 2 ^ 64
    fits b m count e lb lm = let p = mul-le-mul {n₁ = count} {m₁ = m} {n₂ = 2 ^ 32} {m₂ = most_columns} (omega arith) lm in omega arith

pub choose_step : (k s count : ℕ) → count ≡ binom (k + s) k → count * (k + s + 1) / (s + 1) ≡ binom (k + (s + 1)) k
choose_step k s count e =
    let n : k + s + 1 ≡ k + (s + 1) = omega arith in
    let m = next_binom k s in
    ap (λ x. x / (s + 1)) (product k s count e m) ∙ mul-div_cancel_left (binom (k + s + 1) k) {n = s + 1} (omega arith) ∙ ap (λ x. binom x k) n
  where
    product : (k s count : ℕ) → count ≡ binom (k + s) k → (s + 1) * binom (k + s + 1) k ≡ (k + s + 1) * binom (k + s) k → count * (k + s + 1) ≡ (s + 1) * binom (k + s + 1) k
    product k s count e m = turned count (k + s + 1) (binom (k + s) k) ((s + 1) * binom (k + s + 1) k) e m
      where
        turned : (c n b p : ℕ) → c ≡ b → p ≡ n * b → c * n ≡ p
        turned c n b p e q = ap (λ x. x * n) e ∙ mul_comm b n ∙ sym q

pub binom_self : (k : ℕ) → binom k k ≡ 1
binom_self zero = refl
binom_self (suc k) = let a = binom_self k in let z = none_above k k (omega arith) in omega arith
  where
    none_above : (n k : ℕ) → n ≤ k → binom n (suc k) ≡ 0
    none_above zero k l = refl
    none_above (suc n) zero l = absurd (omega arith)
    none_above (suc n) (suc k) l = let a = none_above n k (omega arith) in let b = none_above n (suc k) (omega arith) in omega arith
