-- Fractions of whole numbers, in lowest terms.
use Rattle.pm_vector.specs.Numbers.{InRangeRatio, IsReduced, Ratio, SameRatio}
use Rattle.std.specs.Prelude.{Bool, int_lt, ℕ, if◌then◌else◌, ◌≢◌}
use lib.IntN.{neg_ℤ, pos, ℤ}

-- n / d
abbrev pub ratio_of : ℤ → ℤ → Ratio
ratio_of n d = record { num = n; den = d }

-- -n or n
abbrev pub signed : Bool → ℕ → ℤ
signed is_negative n = if is_negative then neg_ℤ (pos n) else pos n

-- n / d is below 0, where d is not 0
abbrev pub is_quotient_negative : ℤ → ℤ → Bool
is_quotient_negative n d = if int_lt d (pos 0) then int_lt (pos 0) n else int_lt n (pos 0)

-- r is the number x in lowest terms; no r is it where the denominator of x is 0
pub record IsLowestTermsOf (x r : Ratio) : Type 0 where
  pub divisible : x.den ≢ pos 0
  pub reduced : IsReduced r
  pub same : SameRatio r x

-- the number x has lowest terms, and these leave the range
pub record IsTooWide (x : Ratio) : Type 0 where
  pub lowest : Ratio
  pub is_lowest : IsLowestTermsOf x lowest
  pub leaves : ¬ (InRangeRatio lowest)
