-- From words to the bits of numbers and back, by one place for each: the number k * 64 + b has bit b of word k.
use Rattle.std.proofs.Common.{◌≡◌, ℕ, ◌+◌, ◌*◌, ◌/◌, ◌%◌, ◌^◌, ◌<◌, ◌≤◌, ◌==◌, ◌&&◌, ◌||◌, true, false, List, length, get_or, bit_and, bit_or, max, min, arith, ap, sym, ◌∙◌, refl, inl, inr}
use Rattle.std.specs.Int.{bit_at}
use Rattle.std.proofs.lemmas.Nat.{div-mul-add, mod-mul-add, and_le_r}
use Rattle.std.proofs.lemmas.Nat.Bits.{bit_at_and, bit_at_or, bit_at-lt, same_from_bits_below, bit_at-zero}
use Rattle.std.proofs.lemmas.List.{ext_get_or, get_or_past}
use Rattle.std.proofs.lemmas.Bool.{cases_lt, eqb-true, eqb-false, eq-eqb, ne_eqb, cases_Bool}
use Rattle.pm_bits.specs.Words.{has_bit, EachWord, IsWithin, AreMade}

-- ---- one word

-- two bits are the same where their tests are
pub same_bits : (m n : ℕ) → m < 2 → n < 2 → (m == 1) ≡ (n == 1) → m ≡ n
same_bits m n small_m small_n e = elim (cases_Bool (n == 1)) [
  | inl h ↦ eqb-true m 1 (e ∙ h) ∙ sym (eqb-true n 1 h)
  | inr h ↦ (let no : n ≡ 1 → ⊥ = eqb-false n 1 h in let none : m ≡ 1 → ⊥ = eqb-false m 1 (e ∙ h) in omega arith)
]

pub within_bit : (x y b : ℕ) → bit_and x y ≡ y → bit_at y b ≡ 1 → bit_at x b ≡ 1
within_bit x y b e h = omega (arith, bit_at_and x y b, ap (λ (n : ℕ). bit_at n b) e, bit_at-lt x b)

pub within_from_bits : (x y : ℕ) → y < 2 ^ 64 → ((b : ℕ) → b < 64 → bit_at y b ≡ 1 → bit_at x b ≡ 1) → bit_and x y ≡ y
within_from_bits x y small h =
    same_from_bits_below 64 (bit_and x y) y (omega (arith, and_le_r x y)) small
    (λ b below. elim (cases_lt (bit_at y b) 1) [
      | inl none ↦ omega (arith, bit_at_and x y b)
      | inr some ↦ omega (arith, bit_at_and x y b, bit_at-lt y b, h b below (omega (arith, bit_at-lt y b)))
    ])

-- ---- the place of a number

pub has_bit_at : (words : List ℕ) (k b : ℕ) → b < 64 → has_bit words (k * 64 + b) ≡ (bit_at (get_or words k 0) b == 1)
has_bit_at words k b below = rw (div-mul-add k 64 b below, mod-mul-add k 64 b below) refl

pub has_bit_past : (words : List ℕ) (i : ℕ) → length words ≤ i / 64 → has_bit words i ≡ false
has_bit_past words i past = rw (get_or_past words (i / 64) 0 past, bit_at-zero (i % 64)) refl

-- words with the same bits are the same
pub same_words : (a b : List ℕ) → length a ≡ length b → ((k : ℕ) → get_or a k 0 < 2 ^ 64) → ((k : ℕ) → get_or b k 0 < 2 ^ 64) → ((i : ℕ) → has_bit a i ≡ has_bit b i) → a ≡ b
same_words a b long small_a small_b h =
    ext_get_or 0 a b long (λ k inside. same_from_bits_below 64 (get_or a k 0) (get_or b k 0) (small_a k) (small_b k)
    (λ j below. same_bits (bit_at (get_or a k 0) j) (bit_at (get_or b k 0) j) (bit_at-lt (get_or a k 0) j) (bit_at-lt (get_or b k 0) j)
    (sym (has_bit_at a k j below) ∙ h (k * 64 + j) ∙ has_bit_at b k j below)))

-- ---- one set of bits in another

pub bits_within : (a b : List ℕ) → length a ≡ length b → EachWord IsWithin 0 (length a) a b → (i : ℕ) → has_bit b i ≡ true → has_bit a i ≡ true
bits_within a b long h i is = elim (cases_lt (i / 64) (length a)) [
  | inl inside ↦ eq-eqb (bit_at (get_or a (i / 64) 0) (i % 64)) 1 (within_bit (get_or a (i / 64) 0) (get_or b (i / 64) 0) (i % 64) (h (i / 64) (omega arith) inside) (eqb-true _ 1 is))
  | inr past ↦ absurd (let e : true ≡ false = sym is ∙ has_bit_past b i (omega arith) in cc)
]

pub words_within : (a b : List ℕ) → ((k : ℕ) → get_or b k 0 < 2 ^ 64) → ((i : ℕ) → has_bit b i ≡ true → has_bit a i ≡ true) → (start n : ℕ) → EachWord IsWithin start n a b
words_within a b small h start n k low high =
    within_from_bits (get_or a k 0) (get_or b k 0) (small k)
    (λ j below is. eqb-true _ 1 (sym (has_bit_at a k j below) ∙ h (k * 64 + j) (has_bit_at b k j below ∙ eq-eqb _ 1 is)))

-- ---- the bits of two sets together

pub and_test : (m n : ℕ) → m < 2 → n < 2 → (p : ℕ) → p ≡ min m n → (p == 1) ≡ ((m == 1) && (n == 1))
and_test m n small_m small_n p e = elim (cases_lt m 1) [
  | inl none ↦ rw (ne_eqb m 1 (omega arith)) (ne_eqb p 1 (omega arith))
  | inr some ↦ (let m_is : m ≡ 1 = omega arith in let p_is : p ≡ n = omega arith in rw (m_is, p_is) refl)
]

or_test : (m n : ℕ) → m < 2 → n < 2 → (p : ℕ) → p ≡ max m n → (p == 1) ≡ ((m == 1) || (n == 1))
or_test m n small_m small_n p e = elim (cases_lt m 1) [
  | inl none ↦ (let m_is : m ≡ 0 = omega arith in let p_is : p ≡ n = omega arith in rw (m_is, p_is) refl)
  | inr some ↦ (let m_is : m ≡ 1 = omega arith in let p_is : p ≡ 1 = omega arith in rw (m_is, p_is) refl)
]

pub bits_met : (a b both : List ℕ) → length a ≡ length b → length a ≡ length both → AreMade bit_and 0 (length a) a b both → (i : ℕ) → has_bit both i ≡ (has_bit a i && has_bit b i)
bits_met a b both long long' h i = elim (cases_lt (i / 64) (length a)) [
  | inl inside ↦ and_test (bit_at (get_or a (i / 64) 0) (i % 64)) (bit_at (get_or b (i / 64) 0) (i % 64)) (bit_at-lt (get_or a (i / 64) 0) (i % 64)) (bit_at-lt (get_or b (i / 64) 0) (i % 64)) _
      (ap (λ (n : ℕ). bit_at n (i % 64)) (h (i / 64) (omega arith) inside) ∙ bit_at_and (get_or a (i / 64) 0) (get_or b (i / 64) 0) (i % 64))
  | inr past ↦ rw (has_bit_past both i (omega arith), has_bit_past a i past) refl
]

pub bits_joined : (a b either : List ℕ) → length a ≡ length b → length a ≡ length either → AreMade bit_or 0 (length a) a b either → (i : ℕ) → has_bit either i ≡ (has_bit a i || has_bit b i)
bits_joined a b either long long' h i = elim (cases_lt (i / 64) (length a)) [
  | inl inside ↦ or_test (bit_at (get_or a (i / 64) 0) (i % 64)) (bit_at (get_or b (i / 64) 0) (i % 64)) (bit_at-lt (get_or a (i / 64) 0) (i % 64)) (bit_at-lt (get_or b (i / 64) 0) (i % 64)) _
      (ap (λ (n : ℕ). bit_at n (i % 64)) (h (i / 64) (omega arith) inside) ∙ bit_at_or (get_or a (i / 64) 0) (get_or b (i / 64) 0) (i % 64))
  | inr past ↦ rw (has_bit_past either i (omega arith), has_bit_past a i past, has_bit_past b i (omega arith)) refl
]
