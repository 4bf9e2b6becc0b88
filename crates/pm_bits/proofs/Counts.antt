-- The members of a row are as many as the ones of its words.
use Rattle.std.proofs.Common.{◌≡◌, ℕ, zero, suc, ◌+◌, ◌-◌, ◌*◌, ◌/◌, ◌%◌, ◌^◌, ◌<◌, ◌≤◌, ◌==◌, Bool, false, cond, List, [], ◌∷◌, ◌++◌, length, get_or, map, arith, ap, ap₂, sym, subst, ◌∙◌, refl, inl, inr, add-zero}
use Rattle.std.specs.Prelude.{sum_by, count_by, count_ones}
use Rattle.std.specs.List.{range_with_len}
use Rattle.std.specs.Int.{bit_at}
use Rattle.std.specs.Simd.Lanes.{mask_l}
use Rattle.std.proofs.lemmas.Bool.{cases_Bool, eqb-true, eqb-false, cond-true, cond-false}
use Rattle.std.proofs.lemmas.List.{get_or_past}
use Rattle.std.proofs.lemmas.List.Sums.{sum_by-cons, sum_by-append, count_by-le-length}
use Rattle.std.proofs.lemmas.List.FromFn.{length-map-range_with_len, get_or-map-range_with_len, length-range_with_len}
use Rattle.std.proofs.lemmas.Simd.{ones-mask_l, mask_l-lt, bit_mask_l}
use Rattle.std.proofs.lemmas.Nat.Bits.{same_from_bits_below, bit_at-lt}
use Rattle.pm_bits.specs.Words.{has_bit, bit_count}
use Rattle.pm_bits.specs.Sets.{has, member_count}
use Rattle.pm_bits.proofs.Bits.{has_bit_at}
use Rattle.pm_bits.proofs.Members.{IsRowOf}

-- ---- counts over neighbouring numbers

-- the numbers of a run are counted alike where the tests agree on them
pub count_by-agree : (p q : ℕ → Bool) (a n : ℕ) → ((k : ℕ) → a ≤ k → k < a + n → p k ≡ q k) → count_by p (range_with_len a n) ≡ count_by q (range_with_len a n)
count_by-agree p q a zero h = refl
count_by-agree p q a (suc n) h =
    sum_by-cons (λ k. cond (p k) 1 0) a (range_with_len (a + 1) n)
    ∙ ap₂ (λ (x y : ℕ). x + y) (ap (λ (b : Bool). cond b 1 0) (h a (omega arith) (omega arith))) (count_by-agree p q (a + 1) n (λ k low high. h k (omega arith) (omega arith)))
    ∙ sym (sum_by-cons (λ k. cond (q k) 1 0) a (range_with_len (a + 1) n))

pub range_with_len-add : (a m n : ℕ) → range_with_len a (m + n) ≡ range_with_len a m ++ range_with_len (a + m) n
range_with_len-add a zero n = ap₂ range_with_len (omega arith) (omega arith)
range_with_len-add a (suc m) n =
    let e : suc m + n ≡ suc (m + n) = omega arith in
    let f : a + 1 + m ≡ a + suc m = omega arith in
    rw (e, range_with_len-add (a + 1) m n, f) refl

pub count_by-add : (p : ℕ → Bool) (a m n : ℕ) → count_by p (range_with_len a (m + n)) ≡ count_by p (range_with_len a m) + count_by p (range_with_len (a + m) n)
count_by-add p a m n = ap (count_by p) (range_with_len-add a m n) ∙ sum_by-append (λ k. cond (p k) 1 0) (range_with_len a m) (range_with_len (a + m) n)

pub count_by-none : (a n : ℕ) → count_by (λ (k : ℕ). false) (range_with_len a n) ≡ 0
count_by-none a zero = refl
count_by-none a (suc n) = let none : sum_by (λ (k : ℕ). 0) (range_with_len (a + 1) n) ≡ 0 = count_by-none (a + 1) n in sum_by-cons (λ (k : ℕ). 0) a (range_with_len (a + 1) n) ∙ (omega arith)

-- a run that starts later, counted by the numbers before
count_by-shift : (p : ℕ → Bool) (c a n : ℕ) → count_by p (range_with_len (a + c) n) ≡ count_by (λ k. p (k + c)) (range_with_len a n)
count_by-shift p c a zero = refl
count_by-shift p c a (suc n) =
    let e : a + c + 1 ≡ a + 1 + c = omega arith in
    sum_by-cons (λ k. cond (p k) 1 0) (a + c) (range_with_len (a + c + 1) n)
    ∙ ap (λ (x : ℕ). cond (p (a + c)) 1 0 + x) (ap (λ (s : ℕ). count_by p (range_with_len s n)) e ∙ count_by-shift p c (a + 1) n)
    ∙ sym (sum_by-cons (λ k. cond (p (k + c)) 1 0) a (range_with_len (a + 1) n))

-- ---- the ones of a word

cond_of_test : (n : ℕ) → n < 2 → cond (n == 1) 1 0 ≡ n
cond_of_test n small = elim (cases_Bool (n == 1)) [
  | inl h ↦ cond-true (n == 1) 1 0 h ∙ sym (eqb-true n 1 h)
  | inr h ↦ (let other : n ≡ 1 → ⊥ = eqb-false n 1 h in cond-false (n == 1) 1 0 h ∙ (omega arith))
]

pub ones_of_word : (w n : ℕ) → w < 2 ^ n → count_ones w ≡ count_by (λ k. bit_at w k == 1) (range_with_len 0 n)
ones_of_word w n small =
    let ms = map (λ k. bit_at w k == 1) (range_with_len 0 n) in
    let long : length ms ≡ n = length-map-range_with_len (λ k. bit_at w k == 1) 0 n in
    let below : mask_l ms < 2 ^ n = subst (λ (m : ℕ). mask_l ms < 2 ^ m) long (mask_l-lt ms) in
    let same : mask_l ms ≡ w = same_from_bits_below n (mask_l ms) w below small
    (λ i inside. bit_mask_l ms i ∙ ap (λ (b : Bool). cond b 1 0) (get_or-map-range_with_len (λ k. bit_at w k == 1) 0 n i i false inside (omega arith)) ∙ cond_of_test (bit_at w i) (bit_at-lt w i)) in
    ap count_ones (sym same) ∙ ones-mask_l (λ k. bit_at w k == 1) (range_with_len 0 n)

-- ---- the ones of a row of words

has_bit-cons : (w : ℕ) (ws : List ℕ) (i : ℕ) → has_bit (w ∷ ws) (i + 64) ≡ has_bit ws i
has_bit-cons w ws i =
    let word : (i + 64) / 64 ≡ suc (i / 64) = omega arith in
    let bit : (i + 64) % 64 ≡ i % 64 = omega arith in
    rw (word, bit) refl

first_bits : (w : ℕ) (ws : List ℕ) (k : ℕ) → k < 64 → has_bit (w ∷ ws) k ≡ (bit_at w k == 1)
first_bits w ws k below =
    let e : k ≡ 0 * 64 + k = omega arith in
    ap (has_bit (w ∷ ws)) e ∙ has_bit_at (w ∷ ws) 0 k below

pub ones_of_words : (words : List ℕ) → ((k : ℕ) → get_or words k 0 < 2 ^ 64) → count_by (has_bit words) (range_with_len 0 (length words * 64)) ≡ sum_by count_ones words
ones_of_words [] small = refl
ones_of_words (w ∷ ws) small =
    let size : suc (length ws) * 64 ≡ 64 + length ws * 64 = omega arith in
    ap (λ (n : ℕ). count_by (has_bit (w ∷ ws)) (range_with_len 0 n)) size
    ∙ count_by-add (has_bit (w ∷ ws)) 0 64 (length ws * 64)
    ∙ ap₂ (λ (x y : ℕ). x + y)
    (count_by-agree (has_bit (w ∷ ws)) (λ k. bit_at w k == 1) 0 64 (λ k low high. first_bits w ws k (omega arith)) ∙ sym (ones_of_word w 64 (small 0)))
    (count_by-shift (has_bit (w ∷ ws)) 64 0 (length ws * 64) ∙ count_by-agree (λ k. has_bit (w ∷ ws) (k + 64)) (has_bit ws) 0 (length ws * 64) (λ k low high. has_bit-cons w ws k) ∙ ones_of_words ws (λ k. small (suc k)))
    ∙ sym (sum_by-cons count_ones w ws)

-- ---- the members of a row

pub member_count-is : (row : List Bool) (words : List ℕ) → IsRowOf row words → member_count row ≡ bit_count words
member_count-is row words r =
    let n = length row in
    let size : n + (length words * 64 - n) ≡ length words * 64 = omega (arith, r.room) in
    let past : (k : ℕ) → n ≤ k → has_bit words k ≡ false = λ k above. sym (r.bits k) ∙ get_or_past row k false above in
    let none = count_by-agree (has_bit words) (λ k. false) (0 + n) (length words * 64 - n) (λ k low high. past k (omega arith)) ∙ count_by-none (0 + n) (length words * 64 - n) in
    count_by-agree (has row) (has_bit words) 0 n (λ k low high. r.bits k)
    ∙ (let split = count_by-add (has_bit words) 0 n (length words * 64 - n) in sym (add-zero _) ∙ ap (λ (x : ℕ). count_by (has_bit words) (range_with_len 0 n) + x) (sym none) ∙ sym split)
    ∙ ap (λ (m : ℕ). count_by (has_bit words) (range_with_len 0 m)) size

-- there are no more members than numbers below the length
pub bit_count-fits : (row : List Bool) (words : List ℕ) → IsRowOf row words → bit_count words < 2 ^ 64
bit_count-fits row words r =
    let few = count_by-le-length (has row) (range_with_len 0 (length row)) in
    let long = length-range_with_len 0 (length row) in
    omega (arith, few, long, r.in_range, member_count-is row words r)
