-- Sums, products and quotients of fractions.
use Rattle.pm_vector.specs.Numbers.{InRange, Ratio}
use Rattle.std.specs.Int.{IsGcd}
use Rattle.std.specs.Prelude.{if◌then◌else◌, int_div, int_lt, unsigned_abs}
use lib.IntN.{neg_ℤ, pos, ℤ, ◌*ℤ◌, ◌+ℤ◌}
use lib.Signed.{◌<ℤ◌}

-- -p
abbrev pub opposite_of : Ratio → Ratio
opposite_of p = record { num = neg_ℤ p.num; den = p.den }

-- 1 / p, where p is not 0
abbrev pub inverse_of : Ratio → Ratio
inverse_of p = if int_lt p.num (pos 0) then record { num = neg_ℤ p.den; den = neg_ℤ p.num }
    else record { num = p.den; den = p.num }

-- the number p + q, not reduced
abbrev pub sum_of : Ratio → Ratio → Ratio
sum_of p q = record { num = p.num *ℤ q.den +ℤ q.num *ℤ p.den; den = p.den *ℤ q.den }

-- the number p q, not reduced
abbrev pub product_of : Ratio → Ratio → Ratio
product_of p q = record { num = p.num *ℤ q.num; den = p.den *ℤ q.den }

-- the number p / q, not reduced
abbrev pub quotient_of : Ratio → Ratio → Ratio
quotient_of p q = record { num = p.num *ℤ q.den; den = p.den *ℤ q.num }

-- the numerator of p over the least common denominator, for the greatest common divisor g of the denominators; n / d
-- is `int_div n d`
abbrev pub first_term : Ratio → Ratio → ℤ → ℤ
first_term p q g = p.num *ℤ int_div q.den g

-- the numerator of q over the least common denominator
abbrev pub second_term : Ratio → Ratio → ℤ → ℤ
second_term p q g = q.num *ℤ int_div p.den g

-- their sum
abbrev pub terms : Ratio → Ratio → ℤ → ℤ
terms p q g = first_term p q g +ℤ second_term p q g

-- the denominator of the sum in lowest terms
abbrev pub sum_den : Ratio → Ratio → ℤ → ℤ → ℤ
sum_den p q g h = int_div p.den g *ℤ int_div q.den h

-- g is the greatest common divisor of the denominators, and h that of g and of the sum of the terms
pub record SumGcds (p q : Ratio) (g h : ℤ) : Type 0 where
  pub g_positive : pos 0 <ℤ g
  pub h_positive : pos 0 <ℤ h
  pub of_dens : IsGcd (unsigned_abs p.den) (unsigned_abs q.den) (unsigned_abs g)
  pub of_terms : IsGcd (unsigned_abs (terms p q g)) (unsigned_abs g) (unsigned_abs h)

-- both terms and their sum are in the range
pub record AreTermsInRange (p q : Ratio) (g : ℤ) : Type 0 where
  pub first : InRange (first_term p q g)
  pub second : InRange (second_term p q g)
  pub sum : InRange (terms p q g)

-- so they are, and the denominator too
pub record AreSumStepsInRange (p q : Ratio) (g h : ℤ) : Type 0 where
  pub terms : AreTermsInRange p q g
  pub den : InRange (sum_den p q g h)

-- the sum is made within the range
pub record SumStays (p q : Ratio) : Type 0 where
  pub g : ℤ
  pub h : ℤ
  pub gcds : SumGcds p q g h
  pub stays : AreSumStepsInRange p q g h

-- one of the numbers on the way to the sum leaves the range
pub record SumLeaves (p q : Ratio) : Type 0 where
  pub g : ℤ
  pub h : ℤ
  pub gcds : SumGcds p q g h
  pub leaves : ¬ (AreSumStepsInRange p q g h)
