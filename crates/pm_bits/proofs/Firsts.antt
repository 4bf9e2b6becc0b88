-- The first bit in which two words, and two rows of words, differ.
use Rattle.std.proofs.Common.{◌≡◌, ℕ, ◌+◌, ◌*◌, ◌/◌, ◌%◌, ◌^◌, ◌<◌, ◌≤◌, ◌==◌, List, length, get_or, arith, ap, sym, ◌∙◌, refl, inl, inr}
use Rattle.std.specs.Int.{bit_at, trailing_zeros, w64}
use Rattle.std.specs.Int.Bits.{bit_xor}
use Rattle.std.proofs.lemmas.Nat.{div-add-mod', mod_below, xor_lt}
use Rattle.std.proofs.lemmas.Nat.Bits.{bit_at_xor, bit_at-lt, bit_at-zero, same_from_bits, bit_at-trailing_zeros}
use Rattle.std.proofs.lemmas.Bool.{cases_lt, eq-eqb, ne_eqb}
use Rattle.std.proofs.lemmas.List.{ext_get_or}
use Rattle.std.specs.declared.cmp.Ordering.{Ordering}
use Rattle.std.specs.declared.cmp.Ordering.TheVariants.{Less, Equal, Greater}
use Rattle.std.specs.Ordering.{MatchOrdering}
use Rattle.pm_bits.specs.Words.{EachWord, HasLowestBit, HasFirstBit}
use Rattle.pm_bits.proofs.Bits.{has_bit_at}

same_from_no_xor : (x y : ℕ) → bit_xor x y ≡ 0 → x ≡ y
same_from_no_xor x y e =
    same_from_bits x y (λ i. omega (arith, bit_at_xor x y i, ap (λ (n : ℕ). bit_at n i) e, bit_at-zero i, bit_at-lt x i, bit_at-lt y i))

-- the lowest 1 of the difference of two words that are not the same
pub differ_at_lowest : (x y : ℕ) → x < 2 ^ 64 → y < 2 ^ 64 → (x ≡ y → ⊥) → (n : ℕ) → n ≡ trailing_zeros w64 (bit_xor x y)
    → (n < 64) × (bit_at x n + bit_at y n ≡ 1) × ((k : ℕ) → k < n → bit_at x k ≡ bit_at y k)
differ_at_lowest x y small_x small_y other n n_is =
    let some : 0 < bit_xor x y = elim (cases_lt 0 (bit_xor x y)) [ inl h ↦ h | inr none ↦ absurd (other (same_from_no_xor x y (omega arith))) ] in
    let lowest = bit_at-trailing_zeros w64 (bit_xor x y) some (xor_lt 64 x y small_x small_y) in
    let one : bit_at (bit_xor x y) n ≡ 1 = ap (λ (i : ℕ). bit_at (bit_xor x y) i) n_is ∙ lowest.1 in (
      (rw n_is lowest.0),
      omega (arith, bit_at_xor x y n, bit_at-lt x n, bit_at-lt y n),
      (λ k below. let none : bit_at (bit_xor x y) k ≡ 0 = lowest.2 k (omega arith) in omega (arith, bit_at_xor x y k, bit_at-lt x k, bit_at-lt y k)),
    )

pub lowest_in_first : (x y : ℕ) → x < 2 ^ 64 → y < 2 ^ 64 → (x ≡ y → ⊥) → (n : ℕ) → n ≡ trailing_zeros w64 (bit_xor x y) → bit_at x n ≡ 1 → HasLowestBit x y
lowest_in_first x y small_x small_y other n n_is is =
    let d = differ_at_lowest x y small_x small_y other n n_is in (n, d.0, is, (omega (arith, d.1)), d.2)

pub lowest_in_second : (x y : ℕ) → x < 2 ^ 64 → y < 2 ^ 64 → (x ≡ y → ⊥) → (n : ℕ) → n ≡ trailing_zeros w64 (bit_xor x y) → (bit_at x n ≡ 1 → ⊥) → HasLowestBit y x
lowest_in_second x y small_x small_y other n n_is is =
    let d = differ_at_lowest x y small_x small_y other n n_is in
    (n, d.0, (omega (arith, d.1, bit_at-lt x n)), (omega (arith, d.1, bit_at-lt x n)), (λ k below. sym (d.2 k below)))

-- words that are the same before one place, and differ there by their lowest bit
pub first_from_lowest : (a b : List ℕ) (k : ℕ) → EachWord (λ x y. x ≡ y) 0 k a b → HasLowestBit (get_or a k 0) (get_or b k 0) → HasFirstBit a b
first_from_lowest a b k same (j, below, has_one, has_none, before) = (
  k * 64 + j,
  (has_bit_at a k j below ∙ eq-eqb _ 1 has_one),
  (has_bit_at b k j below ∙ ne_eqb _ 1 (omega arith)),
  (λ i under.
      let place : i / 64 * 64 + i % 64 ≡ i = div-add-mod' i 64 in
      let low : i % 64 < 64 = mod_below i 64 (omega arith) in
      elim (cases_lt (i / 64) k) [
        | inl earlier ↦ ap (λ (w : ℕ). bit_at w (i % 64) == 1) (same (i / 64) (omega arith) earlier)
        | inr here ↦ (let word : i / 64 ≡ k = omega arith in rw word (ap (λ (d : ℕ). d == 1) (before (i % 64) (omega arith))))
      ]),
)

-- the order of the words at the first place where they differ is that of the rows
pub order_from_words : (o : Ordering) (a b : List ℕ) (k : ℕ) → EachWord (λ x y. x ≡ y) 0 k a b → (o ≡ Equal → ⊥)
    → MatchOrdering o (HasLowestBit (get_or a k 0) (get_or b k 0)) (get_or a k 0 ≡ get_or b k 0) (HasLowestBit (get_or b k 0) (get_or a k 0)) → MatchOrdering o (HasFirstBit a b) (a ≡ b) (HasFirstBit b a)
order_from_words Less a b k same other lowest = first_from_lowest a b k same lowest
order_from_words Equal a b k same other lowest = absurd (other refl)
order_from_words Greater a b k same other lowest = first_from_lowest b a k (λ i low high. sym (same i low high)) lowest

pub same_from_each_word : (a b : List ℕ) (n : ℕ) → length a ≡ length b → length a ≤ n → EachWord (λ x y. x ≡ y) 0 n a b → a ≡ b
same_from_each_word a b n long all same = ext_get_or 0 a b long (λ k inside. same k (omega arith) (omega arith))

pub each_word_from_same : (a b : List ℕ) (start n : ℕ) → a ≡ b → EachWord (λ x y. x ≡ y) start n a b
each_word_from_same a b start n e k low high = ap (λ (ws : List ℕ). get_or ws k 0) e
