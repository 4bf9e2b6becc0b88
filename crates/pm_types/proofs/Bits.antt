-- Whole numbers of 64 bits.
use Rattle.pm_types.specs.Forms.{has_64_bits}
use Rattle.std.proofs.Common.{SFits, arith, true, w64}
use Rattle.std.specs.Prelude.{nat_lt, ℕ, ◌<◌, ◌^◌, ◌≡◌}
use lib.IntN.{negsuc, pos, ℤ}

pub below_test : (n m : ℕ) → n < m → nat_lt n m ≡ true
below_test n m h = grind arith

pub below_from_test : (n m : ℕ) → nat_lt n m ≡ true → n < m
below_from_test n m h = grind arith

pub fits_from_bits : (z : ℤ) → has_64_bits z ≡ true → SFits w64 z
fits_from_bits (pos n) h = record { sfits = below_from_test n (2 ^ 63) h }
fits_from_bits (negsuc n) h = record { sfits = below_from_test n (2 ^ 63) h }

pub bits_from_fits : (z : ℤ) → SFits w64 z → has_64_bits z ≡ true
bits_from_fits (pos n) h = below_test n (2 ^ 63) (h.sfits)
bits_from_fits (negsuc n) h = below_test n (2 ^ 63) (h.sfits)
