-- Signs of products, and cancellation of a positive factor.
use Rattle.pm_vector.proofs.Ring.{ring}
use Rattle.std.proofs.Common.{ap, arith}
use Rattle.std.proofs.lemmas.Int.{by_lt_z, ints}
use Rattle.std.specs.Prelude.{suc, zero, ◌≡◌}
use lib.IntN.{neg_ℤ, negsuc, pos, ℤ, ◌*ℤ◌, ◌-ℤ◌}
use lib.Signed.{◌<ℤ◌, ◌≤ℤ◌}

pub mul_nonneg : {a b : ℤ} → pos 0 ≤ℤ a → pos 0 ≤ℤ b → pos 0 ≤ℤ (a *ℤ b)
mul_nonneg {a = pos m} {b = pos n} h k = omega (arith, ints)
mul_nonneg {a = pos m} {b = negsuc n} h k = absurd k.le
mul_nonneg {a = negsuc m} {b} h k = absurd h.le

pub mul_pos : {a b : ℤ} → pos 0 <ℤ a → pos 0 <ℤ b → pos 0 <ℤ (a *ℤ b)
mul_pos {a = pos zero} {b} h k = omega (arith, ints)
mul_pos {a = pos (suc m)} {b = pos zero} h k = omega (arith, ints)
mul_pos {a = pos (suc m)} {b = pos (suc n)} h k = omega (arith, ints)
mul_pos {a = pos (suc m)} {b = negsuc n} h k = absurd k.lt
mul_pos {a = negsuc m} {b} h k = absurd h.lt

pub sq_nonneg : (a : ℤ) → pos 0 ≤ℤ (a *ℤ a)
sq_nonneg (pos m) = omega (arith, ints)
sq_nonneg (negsuc m) = omega (arith, ints)

-- a positive factor is cancelled from an order
pub nonneg_cancel : {a b : ℤ} → pos 0 <ℤ a → pos 0 ≤ℤ (a *ℤ b) → pos 0 ≤ℤ b
nonneg_cancel {a} {b} h k =
    by_lt_z b (pos 0)
    (λ neg. let n : pos 0 <ℤ neg_ℤ b = omega (arith, ints) in
    let q = simp ring at (mul_pos h n) in
    omega (arith, ints))
    (λ p. p)

pub pos_cancel : {a b : ℤ} → pos 0 <ℤ a → pos 0 <ℤ (a *ℤ b) → pos 0 <ℤ b
pos_cancel {a} {b} h k =
    by_lt_z (pos 0) b
    (λ p. p)
    (λ p. let n : pos 0 ≤ℤ neg_ℤ b = omega (arith, ints) in
    let g : pos 0 ≤ℤ a = omega (arith, ints) in
    let q = simp ring at (mul_nonneg g n) in
    omega (arith, ints))

pub mul_le : {a b c : ℤ} → pos 0 ≤ℤ a → b ≤ℤ c → (a *ℤ b) ≤ℤ (a *ℤ c)
mul_le {a} {b} {c} h k =
    let n : pos 0 ≤ℤ (c -ℤ b) = omega (arith, ints) in
    let q = simp ring at (mul_nonneg h n) in
    omega (arith, ints)

pub le_cancel : {a b c : ℤ} → pos 0 <ℤ a → (a *ℤ b) ≤ℤ (a *ℤ c) → b ≤ℤ c
le_cancel {a} {b} {c} h k =
    let n : pos 0 ≤ℤ (a *ℤ (c -ℤ b)) = simp ring (omega (arith, ints)) in
    let q = nonneg_cancel h n in
    omega (arith, ints)

pub mul_cancel : {a b c : ℤ} → pos 0 <ℤ a → a *ℤ b ≡ a *ℤ c → b ≡ c
mul_cancel {a} {b} {c} h e =
    let p : (a *ℤ b) ≤ℤ (a *ℤ c) = omega (arith, ints) in
    let q : (a *ℤ c) ≤ℤ (a *ℤ b) = omega (arith, ints) in
    let r = le_cancel h p in
    let s = le_cancel h q in
    omega (arith, ints)

pub weaken : {a b : ℤ} → a <ℤ b → a ≤ℤ b
weaken {a} {b} h = omega (arith, ints)

-- an equation times a number
pub times_both : (k : ℤ) {a b : ℤ} → a ≡ b → k *ℤ a ≡ k *ℤ b
times_both k e = ap (λ z. k *ℤ z) e
