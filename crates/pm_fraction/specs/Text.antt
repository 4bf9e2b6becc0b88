-- Fractions as texts: an optional `-`, digits, and optionally `/` and digits.
use Rattle.pm_vector.specs.Numbers.{Ratio}
use Rattle.pm_fraction.specs.Fractions.{IsLowestTermsOf, ratio_of, signed}
use Rattle.pm_fraction.specs.declared.error.NumError.TheVariants.{DivideByZero, NotANumber, Wide, ZeroDenominator}
use Rattle.pm_fraction.specs.declared.error.NumError.{NumError}
use Rattle.std.specs.Fmt.{signed_decimal}
use Rattle.std.specs.List.{after_first, before_first, list_any}
use Rattle.std.specs.Ordering.{int_eq}
use Rattle.std.specs.Prelude.{Bool, IfErr, IfOk, List, Result, codes, drop, if◌then◌else◌, ℕ, ◌++◌, ◌<◌, ◌==◌, ◌^◌, ◌≡◌}
use Rattle.std.specs.Str.Parse.{IsNumeral, digits_value, starts_with_minus}
use lib.IntN.{pos}

-- c is the code of `/`
abbrev pub is_slash : ℕ → Bool
is_slash c = c == 47

-- bs less a leading `-`
abbrev pub without_minus : List ℕ → List ℕ
without_minus bs = if starts_with_minus bs then drop 1 bs else bs

-- what stands before the first `/`: all where there is none
abbrev pub before_slash : List ℕ → List ℕ
before_slash bs = before_first is_slash bs

-- what stands behind the first `/`: `1` where there is none
abbrev pub behind_slash : List ℕ → List ℕ
behind_slash bs = if list_any is_slash bs then after_first is_slash bs else codes "1"

-- the part before the `/` of bs less a leading `-`
abbrev pub top_text : List ℕ → List ℕ
top_text bs = before_slash (without_minus bs)

-- the part behind it
abbrev pub bottom_text : List ℕ → List ℕ
bottom_text bs = behind_slash (without_minus bs)

-- both parts are digits, and not empty
pub record IsFractionText (bs : List ℕ) : Type 0 where
  pub top : IsNumeral 10 (top_text bs)
  pub bottom : IsNumeral 10 (bottom_text bs)

-- neither part writes a number above 2^127 - 1
pub record AreLiteralsInRange (bs : List ℕ) : Type 0 where
  pub top : digits_value 10 (top_text bs) < 2 ^ 127
  pub bottom : digits_value 10 (bottom_text bs) < 2 ^ 127

-- the number that bs writes
abbrev pub text_ratio : List ℕ → Ratio
text_ratio bs = ratio_of (signed (starts_with_minus bs) (digits_value 10 (top_text bs)))
    (pos (digits_value 10 (bottom_text bs)))

-- bs writes the fraction r
pub record IsReadAs (bs : List ℕ) (r : Ratio) : Type 0 where
  pub text : IsFractionText bs
  pub literals : AreLiteralsInRange bs
  pub number : IsLowestTermsOf (text_ratio bs) r

-- why bs writes no fraction
abbrev pub CannotBeRead : List ℕ → NumError → Type 0
CannotBeRead bs NotANumber = ¬ (IsFractionText bs)
CannotBeRead bs Wide = IsFractionText bs × ¬ (AreLiteralsInRange bs)
CannotBeRead bs ZeroDenominator = IsFractionText bs × AreLiteralsInRange bs
    × (digits_value 10 (bottom_text bs) ≡ 0)
CannotBeRead bs DivideByZero = ⊥

-- `Fraction::read` may give this answer on bs: there is one such
abbrev pub IsReadAnswer : List ℕ → Result Ratio NumError → Type 0
IsReadAnswer bs answer = IfOk answer (λ r. IsReadAs bs r) × IfErr answer (λ e. CannotBeRead bs e)

-- the text of p: `n` for n/1, else `n/d`
abbrev pub text_of : Ratio → List ℕ
text_of p = if int_eq p.den (pos 1) then signed_decimal p.num
    else signed_decimal p.num ++ (codes "/" ++ signed_decimal p.den)
