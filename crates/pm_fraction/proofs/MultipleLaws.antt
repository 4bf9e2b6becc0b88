-- The least common multiple of two numbers, a / g * b for their greatest common divisor g.
use Rattle.pm_vector.proofs.DivisorLaws.{common_divisor}
use Rattle.pm_fraction.specs.Multiples.{IsLcm}
use Rattle.std.proofs.Common.{ap, arith, inl, inr, ◌*◌, ◌/◌, ◌<◌, ◌≡◌, ◌∙◌, ℕ}
use Rattle.std.proofs.Math.Nat.{div-mul_cancel, dvd-mul_left, dvd-mul_right, dvd_of_mul-dvd-mul_left, dvd_of_mul-dvd-mul_right, mul-dvd-mul_left, mul-dvd-mul_right, mul_comm}
use Rattle.std.proofs.lemmas.Bool.{cases_lt}
use Rattle.std.proofs.lemmas.Nat.Gcd.{dvd-zero, dvd_antisymm, dvd_refl, dvd_trans}
use Rattle.std.specs.Int.{IsGcd, ◌∣◌}

-- the greatest common divisor of multiples
IsGcd-mul : (c a b g : ℕ) → 0 < c → IsGcd a b g → IsGcd (c * a) (c * b) (c * g)
IsGcd-mul c a b g some h = (mul-dvd-mul_left g c h.0, mul-dvd-mul_left g c h.1, λ d p q. dvd_trans d (w.1.2 d p q) below)
  where
    w : (n : ℕ) × IsGcd (c * a) (c * b) n
    w = common_divisor (c * a) (c * b)

    k : ℕ
    k = w.0 / c

    is_multiple : c * k ≡ w.0
    is_multiple = mul_comm c k ∙ div-mul_cancel c (w.1.2 c (dvd-mul_right c a) (dvd-mul_right c b))

    below : w.0 ∣ c * g
    below =
        let in_a : c * k ∣ c * a = rw is_multiple w.1.0 in
        let in_b : c * k ∣ c * b = rw is_multiple w.1.1 in
        rw (← is_multiple) (mul-dvd-mul_left k c (h.2 k (dvd_of_mul-dvd-mul_left k some in_a) (dvd_of_mul-dvd-mul_left k some in_b)))

module _ (a b g : ℕ) (some : 0 < g) (h : IsGcd a b g) where
  with_divisor : (a / g * b) * g ≡ a * b
  with_divisor = let e = div-mul_cancel g h.0 in omega (arith, ap (λ (n : ℕ). n * b) e)

  left : a ∣ a / g * b
  left =
      let e = div-mul_cancel g h.0 in
      let f = div-mul_cancel g h.1 in
      let same : a / g * b ≡ a * (b / g) = omega (arith, ap (λ (n : ℕ). a / g * n) f, ap (λ (n : ℕ). n * (b / g)) e) in
      rw same (dvd-mul_right a (b / g))

  common : (c : ℕ) → a ∣ c → b ∣ c → a / g * b ∣ c
  common c p q = elim (cases_lt 0 c) [
    | inl positive ↦
        let at_a : a * b ∣ c * a = rw (mul_comm c a) (mul-dvd-mul_left b a q) in
        let at_b : a * b ∣ c * b = mul-dvd-mul_right a p b in
        let both : a * b ∣ c * g = (IsGcd-mul c a b g positive h).2 (a * b) at_a at_b in
        let both' : (a / g * b) * g ∣ c * g = rw with_divisor both in
        dvd_of_mul-dvd-mul_right (a / g * b) some both'
    | inr none ↦ let z : c ≡ 0 = omega arith in rw z (dvd-zero (a / g * b))
  ]

  pub IsLcm-from_gcd : IsLcm a b (a / g * b)
  IsLcm-from_gcd = record { multiples = λ c. (λ m. (dvd_trans a left m, dvd_trans b (dvd-mul_left b (a / g)) m), λ w. common c w.0 w.1) }

pub lcm_unique : (a b m n : ℕ) → IsLcm a b m → IsLcm a b n → m ≡ n
lcm_unique a b m n p q = dvd_antisymm ((p.multiples n).1 ((q.multiples n).0 (dvd_refl n))) ((q.multiples m).1 ((p.multiples m).0 (dvd_refl m)))

pub gcd_positive : (a b g : ℕ) → 0 < a → IsGcd a b g → 0 < g
gcd_positive a b g some h = elim (cases_lt 0 g) [
  | inl positive ↦ positive
  | inr none ↦
      let zero : g ≡ 0 = omega arith in
      let from_zero : 0 ∣ a = rw zero at h.0 in
      let e : a ≡ 0 = dvd_antisymm (dvd-zero a) from_zero in
      absurd (omega arith)
]

-- no least common multiple is below the number that the quotient gives
pub lcm_is : (a b g m : ℕ) → 0 < a → IsGcd a b g → IsLcm a b m → m ≡ a / g * b
lcm_is a b g m some h l = lcm_unique a b m (a / g * b) l (IsLcm-from_gcd a b g (gcd_positive a b g some h) h)
