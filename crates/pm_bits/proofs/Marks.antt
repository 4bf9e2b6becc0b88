-- A bit that is set in a word of a row.
use Rattle.std.proofs.Common.{◌≡◌, ◌≢◌, ℕ, ◌*◌, ◌/◌, ◌%◌, ◌^◌, ◌<◌, true, List, length, get_or, set, arith, sym, ◌∙◌, refl, inl, inr, get_or-set_same, get_or-set_other}
use Rattle.std.specs.Int.{w64}
use Rattle.std.specs.Int.Bits.{bit_or}
use Rattle.std.proofs.lemmas.Nat.{div-add-mod', mod_below, div_below}
use Rattle.std.proofs.lemmas.Nat.Bits.{bit_at_set_same, bit_at_set_other}
use Rattle.std.proofs.lemmas.Bool.{cases_eq}
use Rattle.pm_bits.specs.Words.{has_bit}

-- the words with the bit of number i set
abbrev pub marked : List ℕ → ℕ → List ℕ
marked words i = set words (i / 64) (bit_or (get_or words (i / 64) 0) (1 * 2 ^ (i % 64) % 2 ^ 64))

pub has_bit-marked_same : (words : List ℕ) (i : ℕ) → i < length words * 64 → has_bit (marked words i) i ≡ true
has_bit-marked_same words i inside =
    let word : i / 64 < length words = div_below i 64 (length words) (omega arith) inside in
    rw (get_or-set_same words (i / 64) (bit_or (get_or words (i / 64) 0) (1 * 2 ^ (i % 64) % 2 ^ 64)) 0 word, bit_at_set_same w64 (get_or words (i / 64) 0) (i % 64) (mod_below i 64 (omega arith))) refl

pub has_bit-marked_other : (words : List ℕ) (i : ℕ) → i < length words * 64 → (k : ℕ) → k ≢ i → has_bit (marked words i) k ≡ has_bit words k
has_bit-marked_other words i inside k other =
    let word : i / 64 < length words = div_below i 64 (length words) (omega arith) inside in
    elim (cases_eq (k / 64) (i / 64)) [
      | inl same ↦ (
          let bit : k % 64 ≢ i % 64 = λ e. other (sym (div-add-mod' k 64) ∙ (rw (same, e) (div-add-mod' i 64))) in
          rw (same, get_or-set_same words (i / 64) (bit_or (get_or words (i / 64) 0) (1 * 2 ^ (i % 64) % 2 ^ 64)) 0 word, bit_at_set_other w64 (get_or words (i / 64) 0) (i % 64) (mod_below i 64 (omega arith)) (k % 64) bit) refl
          )
      | inr apart ↦ (rw (get_or-set_other words (i / 64) (k / 64) (bit_or (get_or words (i / 64) 0) (1 * 2 ^ (i % 64) % 2 ^ 64)) 0 apart) refl)
    ]
