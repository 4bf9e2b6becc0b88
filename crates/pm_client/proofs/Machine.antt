-- Whole numbers of 64 bits: their bits, tests of them, and differences that are not saturated.
use Rattle.pm_types.proofs.Bits.{below_from_test, below_test, bits_from_fits, fits_from_bits}
use Rattle.pm_types.specs.Forms.{has_64_bits}
use Rattle.std.proofs.Common.{SFits, ap, arith, eqb, of_z, to_z, true, w64, ◌∙◌}
use Rattle.std.proofs.lemmas.Bool.Decides.{Decides-eqb, Decides-like}
use Rattle.std.proofs.lemmas.Int.{ints, to_z-of_z, to_z_pos}
use Rattle.std.specs.Int.{saturate_signed}
use Rattle.std.specs.Prelude.{IsTrue, ℕ, ◌<◌, ◌^◌, ◌≡◌, ◌↔◌}
use lib.IntN.{negsuc, pos, ℤ, ◌+ℤ◌, ◌-ℤ◌}
use lib.Signed.{◌<ℤ◌, ◌≤ℤ◌}

-- the bits of a number are those of the natural n
pub same_bits : (z : ℤ) (n : ℕ) → has_64_bits z ≡ true → n < 2 ^ 63 → IsTrue (eqb (of_z w64 z) n) ↔ (z ≡ pos n)
same_bits (pos m) n h l = Decides-like (eqb m n) (λ e. ap pos e) (λ e. omega (arith, ints)) (Decides-eqb m n)
same_bits (negsuc m) n h l =
    let k = below_from_test m (2 ^ 63) h in
    Decides-like (eqb (of_z w64 (negsuc m)) n) (λ e. absurd (omega arith)) (λ e. absurd (omega (arith, ints))) (Decides-eqb (of_z w64 (negsuc m)) n)

-- ---- differences
saturated_bits : (z : ℤ) → has_64_bits (saturate_signed w64 z) ≡ true
saturated_bits (pos n) = below_test _ _ (omega arith)
saturated_bits (negsuc n) = below_test _ _ (omega arith)

not_saturated : (z : ℤ) → SFits w64 z → saturate_signed w64 z ≡ z
not_saturated (pos n) h = let l = h.sfits in ap pos (omega arith)
not_saturated (negsuc n) h = let l = h.sfits in ap negsuc (omega arith)

fits_between : (z : ℤ) → z <ℤ pos (2 ^ 63) → pos 0 ≤ℤ (z +ℤ pos (2 ^ 63)) → SFits w64 z
fits_between (pos n) h k = record { sfits = omega (arith, ints) }
fits_between (negsuc n) h k = record { sfits = omega (arith, ints) }

difference_fits : (d e : ℕ) → d < 2 ^ 63 → e < 2 ^ 63 → SFits w64 (pos d -ℤ pos e)
difference_fits d e h k = fits_between (pos d -ℤ pos e) (omega (arith, ints)) (omega (arith, ints))

less_fits : (d e : ℕ) → d < 2 ^ 63 → e < 2 ^ 63 → SFits w64 (pos d -ℤ pos e -ℤ pos 1)
less_fits d e h k = fits_between (pos d -ℤ pos e -ℤ pos 1) (omega (arith, ints)) (omega (arith, ints))

-- the difference of two naturals less 1, found by two saturating differences
module _ (i j r s : ℤ) (first : r ≡ saturate_signed w64 (to_z w64 (of_z w64 i) -ℤ to_z w64 (of_z w64 j))) (second : s ≡ saturate_signed w64 (to_z w64 (of_z w64 r) -ℤ pos 1)) where
  pub found_bits : has_64_bits s ≡ true
  found_bits = ap has_64_bits second ∙ saturated_bits (to_z w64 (of_z w64 r) -ℤ pos 1)

  pub found_less : (d e : ℕ) → i ≡ pos d → j ≡ pos e → d < 2 ^ 63 → e < 2 ^ 63 → s ≡ pos d -ℤ pos e -ℤ pos 1
  found_less d e p q h k =
      let one : r ≡ pos d -ℤ pos e = first ∙ ap (λ z. saturate_signed w64 (to_z w64 (of_z w64 z) -ℤ to_z w64 (of_z w64 j))) p ∙ ap (λ z. saturate_signed w64 (to_z w64 d -ℤ to_z w64 (of_z w64 z))) q
      ∙ ap (λ z. saturate_signed w64 (z -ℤ to_z w64 e)) (to_z_pos w64 d h) ∙ ap (λ z. saturate_signed w64 (pos d -ℤ z)) (to_z_pos w64 e k) ∙ not_saturated (pos d -ℤ pos e) (difference_fits d e h k) in
      second ∙ ap (λ z. saturate_signed w64 (to_z w64 (of_z w64 z) -ℤ pos 1)) one ∙ ap (λ z. saturate_signed w64 (z -ℤ pos 1)) (to_z-of_z w64 (pos d -ℤ pos e) (difference_fits d e h k)) ∙ not_saturated (pos d -ℤ pos e -ℤ pos 1) (less_fits d e h k)

pub small_bits : (n : ℕ) → n < 2 ^ 63 → has_64_bits (pos n) ≡ true
small_bits n h = below_test n (2 ^ 63) h

pub bits_below : (d : ℕ) → has_64_bits (pos d) ≡ true → d < 2 ^ 63
bits_below d h = below_from_test d (2 ^ 63) h

-- a natural that was cast, and the difference of two
pub cast_back : (z : ℤ) → has_64_bits z ≡ true → to_z w64 (of_z w64 z) ≡ z
cast_back z h = to_z-of_z w64 z (fits_from_bits z h)

pub cast_difference : (n m : ℕ) → n < 2 ^ 63 → m < 2 ^ 63 → to_z w64 (of_z w64 (to_z w64 n -ℤ to_z w64 m)) ≡ pos n -ℤ pos m
cast_difference n m h k =
    ap (λ z. to_z w64 (of_z w64 (z -ℤ to_z w64 m))) (to_z_pos w64 n h) ∙ ap (λ z. to_z w64 (of_z w64 (pos n -ℤ z))) (to_z_pos w64 m k) ∙ to_z-of_z w64 (pos n -ℤ pos m) (difference_fits n m h k)

pub difference_bits : (n m : ℕ) → n < 2 ^ 63 → m < 2 ^ 63 → has_64_bits (pos n -ℤ pos m) ≡ true
difference_bits n m h k = bits_from_fits (pos n -ℤ pos m) (difference_fits n m h k)
