-- The members of a row, by the bits of its words.
use Rattle.std.proofs.Common.{◌≡◌, ℕ, ◌+◌, ◌*◌, ◌/◌, ◌%◌, ◌^◌, ◌<◌, ◌≤◌, Bool, false, List, length, replicate, arith, ap, ap₂, sym, subst, ◌∙◌, refl, inl, inr}
use Rattle.std.specs.Int.{div_ceil}
use Rattle.std.proofs.lemmas.Bool.{cases_lt}
use Rattle.std.proofs.lemmas.List.{get_or_past, length-replicate, ext_get_or, get_or-replicate}
use Rattle.std.proofs.lemmas.List.FromFn.{length-map-range_with_len, get_or-map-range_with_len}
use Rattle.std.proofs.lemmas.Nat.Bits.{bit_at-zero}
use Rattle.std.proofs.lemmas.Nat.{div-add-mod', mod_below}
use Rattle.std.specs.declared.cmp.Ordering.{Ordering}
use Rattle.std.specs.declared.cmp.Ordering.TheVariants.{Less, Equal, Greater}
use Rattle.std.specs.Ordering.{MatchOrdering}
use Rattle.pm_bits.specs.Words.{has_bit, bits_below, Holds, HasFirstBit}
use Rattle.pm_bits.specs.Sets.{has, IsEmpty, HasFirstDifference}
use Rattle.pm_bits.proofs.Bits.{has_bit_past}

pub length-bits_below : (words : List ℕ) (n : ℕ) → length (bits_below words n) ≡ n
length-bits_below words n = length-map-range_with_len (has_bit words) 0 n

-- below the length and from it on, the members are the numbers whose bits are set
pub has-bits_below : (words : List ℕ) (n : ℕ) → Holds words n → (i : ℕ) → has (bits_below words n) i ≡ has_bit words i
has-bits_below words n h i = elim (cases_lt i n) [
  | inl below ↦ get_or-map-range_with_len (has_bit words) 0 n i i false below (omega arith)
  | inr above ↦ get_or_past (bits_below words n) i false (omega (arith, length-bits_below words n)) ∙ sym (h.clear i above)
]

-- ---- a new row

pub has_bit-zeros : (n i : ℕ) → has_bit (replicate n 0) i ≡ false
has_bit-zeros n i = elim (cases_lt (i / 64) n) [
  | inl inside ↦ rw (get_or-replicate {A = ℕ} n (i / 64) 0 0 inside, bit_at-zero (i % 64)) refl
  | inr past ↦ has_bit_past (replicate n 0) i (let long : length (replicate {A = ℕ} n 0) ≡ n = length-replicate n 0 in omega arith)
]

pub Holds-zeros : (n : ℕ) → n < 2 ^ 64 → Holds (replicate (div_ceil n 64) 0) n
Holds-zeros n in_range =
    let zeros : List ℕ = replicate (div_ceil n 64) 0 in
    let long : length zeros ≡ div_ceil n 64 = length-replicate (div_ceil n 64) 0 in
    let split : n / 64 * 64 + n % 64 ≡ n = div-add-mod' n 64 in
    let low : n % 64 < 64 = mod_below n 64 (omega arith) in
    record { in_range = in_range; room = omega arith; tight = omega arith; clear = λ i _. has_bit-zeros (div_ceil n 64) i }

-- words with no bit set, as many as n bits take
pub Holds-new : (words : List ℕ) (n m : ℕ) → n < 2 ^ 64 → m ≡ div_ceil n 64 → words ≡ replicate m 0 → Holds words n
Holds-new words n m in_range m_is words_are =
    let e : words ≡ replicate (div_ceil n 64) 0 = words_are ∙ ap (λ (k : ℕ). replicate k 0) m_is in
    subst (λ (ws : List ℕ). Holds ws n) (sym e) (Holds-zeros n in_range)

pub IsEmpty-new : (words : List ℕ) (n m : ℕ) → n < 2 ^ 64 → m ≡ div_ceil n 64 → words ≡ replicate m 0 → IsEmpty (bits_below words n)
IsEmpty-new words n m in_range m_is words_are i =
    has-bits_below words n (Holds-new words n m in_range m_is words_are) i ∙ ap (λ (ws : List ℕ). has_bit ws i) words_are ∙ has_bit-zeros m i

-- ---- a row and its words

-- the members of the row are the numbers whose bits are set in the words, which just hold them
pub record IsRowOf (row : List Bool) (words : List ℕ) : Type 0 where
  pub bits : (i : ℕ) → has row i ≡ has_bit words i
  pub in_range : length row < 2 ^ 64
  pub room : length row ≤ length words * 64
  pub tight : length words * 64 < length row + 64

-- a row as it is seen, and the slice of its words
pub IsRowOf-seen : (row : List Bool) (slice words : List ℕ) (n : ℕ) → bits_below words n ≡ row → Holds words n → slice ≡ words → IsRowOf row slice
IsRowOf-seen row slice words n seen h same =
    let long : length row ≡ n = ap length (sym seen) ∙ length-bits_below words n in
    let as_many : length slice ≡ length words = ap length same in record {
      bits = λ i. ap (λ (r : List Bool). has r i) (sym seen) ∙ has-bits_below words n h i ∙ ap (λ (ws : List ℕ). has_bit ws i) (sym same);
      in_range = omega (arith, h.in_range);
      room = omega (arith, h.room);
      tight = omega (arith, h.tight);
    }

-- rows of one length have as many words
pub same_room : (one other : List Bool) (a b : List ℕ) → IsRowOf one a → IsRowOf other b → length one ≡ length other → length a ≡ length b
same_room one other a b r s e = omega (arith, r.room, r.tight, s.room, s.tight)

HasFirstDifference-from_bits : (one other : List Bool) (a b : List ℕ) → IsRowOf one a → IsRowOf other b → HasFirstBit a b → HasFirstDifference one other
HasFirstDifference-from_bits one other a b r s (i, has_it, has_not, before) = (
  i,
  (r.bits i ∙ has_it),
  (s.bits i ∙ has_not),
  (λ k below. r.bits k ∙ before k below ∙ sym (s.bits k)),
)

-- the order of the words is that of the rows
pub order_of_rows : (o : Ordering) (one other : List Bool) (a b : List ℕ) → IsRowOf one a → IsRowOf other b → length one ≡ length other → MatchOrdering o (HasFirstBit a b) (a ≡ b) (HasFirstBit b a)
    → MatchOrdering o (HasFirstDifference one other) (one ≡ other) (HasFirstDifference other one)
order_of_rows Less one other a b r s long h = HasFirstDifference-from_bits one other a b r s h
order_of_rows Equal one other a b r s long h =
    ext_get_or false one other long (λ i below. r.bits i ∙ ap (λ (ws : List ℕ). has_bit ws i) h ∙ sym (s.bits i))
order_of_rows Greater one other a b r s long h = HasFirstDifference-from_bits other one b a s r h

-- ---- a row that was written

-- as many words that have no bit past the length hold the row, and are what is seen of it
pub Holds-written : (old slice written items : List ℕ) (n : ℕ) → Holds old n → slice ≡ old → length written ≡ length slice → items ≡ written → ((i : ℕ) → n ≤ i → has_bit written i ≡ false) → Holds items n
Holds-written old slice written items n h same long as_written clear =
    let as_many : length items ≡ length old = ap length as_written ∙ long ∙ ap length same in record {
      in_range = omega (arith, h.in_range);
      room = omega (arith, h.room);
      tight = omega (arith, h.tight);
      clear = λ i above. ap (λ (ws : List ℕ). has_bit ws i) as_written ∙ clear i above;
    }

pub has-written : (written items : List ℕ) (n : ℕ) → Holds items n → items ≡ written → (i : ℕ) → has (bits_below items n) i ≡ has_bit written i
has-written written items n h as_written i =
    has-bits_below items n h i ∙ ap (λ (ws : List ℕ). has_bit ws i) as_written

-- the words of two rows together: op is `and` or `or`
pub members-written : (op : Bool → Bool → Bool) (one other : List Bool) (a b written items : List ℕ) (n : ℕ) → IsRowOf one a → IsRowOf other b → ((i : ℕ) → has_bit written i ≡ op (has_bit a i) (has_bit b i)) → Holds items n → items ≡ written
    → (i : ℕ) → has (bits_below items n) i ≡ op (has one i) (has other i)
members-written op one other a b written items n r s made h as_written i = has-written written items n h as_written i ∙ made i ∙ sym (ap₂ op (r.bits i) (s.bits i))

pub clear-written : (op : Bool → Bool → Bool) → op false false ≡ false → (one other : List Bool) (a b written : List ℕ) (n : ℕ) → IsRowOf one a → IsRowOf other b → n ≡ length one → n ≡ length other
    → ((i : ℕ) → has_bit written i ≡ op (has_bit a i) (has_bit b i)) → (i : ℕ) → n ≤ i → has_bit written i ≡ false
clear-written op none one other a b written n r s long long' made i above =
    made i ∙ ap₂ op (sym (r.bits i) ∙ get_or_past one i false (omega arith)) (sym (s.bits i) ∙ get_or_past other i false (omega arith)) ∙ none
