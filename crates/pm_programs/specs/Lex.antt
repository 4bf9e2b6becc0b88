-- Lists of numbers in lexicographic order.
use Rattle.std.specs.Prelude.{ℕ, zero, suc, ◌≡◌, ◌⊎◌, List, [], ◌∷◌, map}
use Rattle.pm_vector.specs.Numbers.{Ratio, SameRatio, IsBelow}
use Rattle.pm_vector.specs.Rows.{Row, entry}
use lib.IntN.{ℤ, pos, neg_ℤ}
use lib.Signed.{◌<ℤ◌, ◌≤ℤ◌}

-- the first number of x that is not 0 is positive, and there is one
abbrev pub IsLexPositive : Row → Type 0
IsLexPositive [] = ⊥
IsLexPositive (a ∷ x) = (pos 0 <ℤ a) ⊎ ((a ≡ pos 0) × IsLexPositive x)

-- x is lexicographically positive, or zero
abbrev pub IsLexNonNeg : Row → Type 0
IsLexNonNeg [] = Unit {0}
IsLexNonNeg (a ∷ x) = (pos 0 <ℤ a) ⊎ ((a ≡ pos 0) × IsLexNonNeg x)

-- the entry of x in the column c; in the column 0, that of the constants, the opposite, so that it has the sign of a
-- basic variable's value
abbrev pub key : Row → ℕ → ℤ
key x zero = neg_ℤ (entry x 0)
key x (suc v) = entry x (suc v)

-- the keys of x in the columns K
abbrev pub keys : List ℕ → Row → Row
keys K x = map (key x) K

-- where v and w first differ in value, w has the greater fraction, and they differ somewhere
abbrev pub IsLexBelow : List Ratio → List Ratio → Type 0
IsLexBelow [] w = ⊥
IsLexBelow (a ∷ v) [] = ⊥
IsLexBelow (a ∷ v) (b ∷ w) = IsBelow a b ⊎ (SameRatio a b × IsLexBelow v w)

-- w exceeds v where u is positive, and equals it where u is 0
pub record Rises (v w : Ratio) (u : ℤ) : Type 0 where
  pub above : pos 0 <ℤ u → IsBelow v w
  pub level : u ≡ pos 0 → SameRatio v w

-- the denominator of v is positive, and no part exceeds m in size
pub record IsBounded (m : ℕ) (v : Ratio) : Type 0 where
  pub positive : pos 0 <ℤ v.den
  pub den_small : v.den ≤ℤ pos m
  pub num_small : v.num ≤ℤ pos m
  pub num_large : neg_ℤ (pos m) ≤ℤ v.num
