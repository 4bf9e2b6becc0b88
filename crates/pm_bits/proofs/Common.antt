-- The members that two rows have in common.
use Rattle.std.proofs.Common.{◌≡◌, ℕ, ◌+◌, ◌^◌, ◌<◌, ◌≤◌, ◌&&◌, Bool, false, List, length, map, get_or, take, bit_and, arith, ap, ap₂, sym, ◌∙◌, inl, inr}
use Rattle.std.specs.List.{range_with_len}
use Rattle.std.specs.Prelude.{count_by, count_ones, sum_by}
use Rattle.std.specs.Simd.Lanes.{zip2}
use Rattle.std.proofs.lemmas.Bool.{cases_lt}
use Rattle.std.proofs.lemmas.List.{get_or_past, take_all}
use Rattle.std.proofs.lemmas.List.FromFn.{length-map-range_with_len, get_or-map-range_with_len}
use Rattle.std.proofs.lemmas.List.Sums.{sum_by_more, sum_by-take-le}
use Rattle.std.proofs.lemmas.Nat.{and_le_r}
use Rattle.std.proofs.lemmas.Simd.{get_or-zip2, length-zip2}
use Rattle.pm_bits.specs.Sets.{has, common_count, member_count, IsIntersection}
use Rattle.pm_bits.specs.Words.{bit_count}
use Rattle.pm_bits.proofs.Bits.{bits_met}
use Rattle.pm_bits.proofs.Counts.{count_by-agree, ones_of_words}
use Rattle.pm_bits.proofs.Members.{IsRowOf}

-- the row of the members that both have
unfoldable pub met_row : List Bool → List Bool → List Bool
met_row one other = map (λ i. has one i && has other i) (range_with_len 0 (length one))

pub length-met_row : (one other : List Bool) → length (met_row one other) ≡ length one
unfolding met_row
length-met_row one other = length-map-range_with_len (λ i. has one i && has other i) 0 (length one)

pub has-met_row : (one other : List Bool) → IsIntersection (met_row one other) one other
unfolding met_row
has-met_row one other i = elim (cases_lt i (length one)) [
  | inl below ↦ get_or-map-range_with_len (λ k. has one k && has other k) 0 (length one) i i false below (omega arith)
  | inr past ↦ get_or_past (met_row one other) i false (let e = length-met_row one other in omega arith) ∙ ap (λ b. b && has other i) (sym (get_or_past one i false past))
]

pub member_count-met_row : (one other : List Bool) → member_count (met_row one other) ≡ common_count one other
member_count-met_row one other =
    ap (λ n. count_by (has (met_row one other)) (range_with_len 0 n)) (length-met_row one other)
    ∙ count_by-agree (has (met_row one other)) (λ i. has one i && has other i) 0 (length one) (λ k low high. has-met_row one other k)

-- the words of that row
pub IsRowOf-met : (one other : List Bool) (a b : List ℕ) → IsRowOf one a → IsRowOf other b → length one ≡ length other → length a ≡ length b → IsRowOf (met_row one other) (zip2 bit_and a b)
IsRowOf-met one other a b r s e long =
    let size = length-met_row one other in
    let words = length-zip2 bit_and a b long in record {
      bits = λ i. has-met_row one other i ∙ ap₂ (λ x y. x && y) (r.bits i) (s.bits i)
          ∙ sym (bits_met a b (zip2 bit_and a b) long (sym words) (λ k low high. get_or-zip2 bit_and a b k 0 0 0 high (omega arith)) i);
      in_range = omega (arith, r.in_range);
      room = omega (arith, r.room);
      tight = omega (arith, r.tight);
    }

-- ---- word by word

pub met_small : (a b : List ℕ) → length a ≡ length b → ((k : ℕ) → get_or b k 0 < 2 ^ 64) → (k : ℕ) → get_or (zip2 bit_and a b) k 0 < 2 ^ 64
met_small a b long small k = elim (cases_lt k (length a)) [
  | inl inside ↦ (let e = get_or-zip2 bit_and a b k 0 0 0 inside (omega arith) in omega (arith, and_le_r (get_or a k 0) (get_or b k 0), small k))
  | inr past ↦ (let e = get_or_past (zip2 bit_and a b) k 0 (let n = length-zip2 bit_and a b long in omega arith) in omega arith)
]

pub common_more : (a b : List ℕ) (i ones : ℕ) → length a ≡ length b → i < length a → ones ≡ sum_by count_ones (take i (zip2 bit_and a b))
    → ones + count_ones (bit_and (get_or a i 0) (get_or b i 0)) ≡ sum_by count_ones (take (i + 1) (zip2 bit_and a b))
common_more a b i ones long inside e =
    let next = sum_by_more count_ones (zip2 bit_and a b) i 0 (let n = length-zip2 bit_and a b long in omega arith) in
    let here = ap count_ones (get_or-zip2 bit_and a b i 0 0 0 inside (omega arith)) in
    omega arith

-- the ones of the first words are no more than all
pub common_part : (a b : List ℕ) (i : ℕ) → length a ≡ length b → ((k : ℕ) → get_or b k 0 < 2 ^ 64) → sum_by count_ones (take i (zip2 bit_and a b)) ≤ bit_count (zip2 bit_and a b)
common_part a b i long small =
    let total = ones_of_words (zip2 bit_and a b) (met_small a b long small) in
    let part = sum_by-take-le count_ones (zip2 bit_and a b) i in
    omega arith

pub common_all : (a b : List ℕ) (i ones : ℕ) → length a ≡ length b → length a ≤ i → ((k : ℕ) → get_or b k 0 < 2 ^ 64) → ones ≡ sum_by count_ones (take i (zip2 bit_and a b)) → ones ≡ bit_count (zip2 bit_and a b)
common_all a b i ones long last small e =
    e ∙ ap (λ (ws : List ℕ). sum_by count_ones ws) (take_all i (zip2 bit_and a b) (let n = length-zip2 bit_and a b long in omega arith))
    ∙ sym (ones_of_words (zip2 bit_and a b) (met_small a b long small))
