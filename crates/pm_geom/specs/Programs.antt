-- Linear programs (Chvatal, Linear Programming, chapters 1 and 5): the greatest c.x over the points x with first
-- coordinate 1, a.x >= 0 for the rows a of A and b.x = 0 for the rows b of B.
use Rattle.pm_vector.specs.Cones.{combination}
use Rattle.pm_vector.specs.Numbers.{Ratio}
use Rattle.pm_vector.specs.Rows.{Row, Same, dot, entry, plus, ratio_at}
use Rattle.std.specs.List.{AllByRecursion}
use Rattle.std.specs.Prelude.{List, [], length, ℕ, ◌+◌, ◌++◌, ◌<◌, ◌∷◌, ◌≡◌}
use lib.IntN.{pos, ℤ, ◌*ℤ◌}
use lib.Signed.{◌<ℤ◌, ◌≤ℤ◌}

-- the whole row x is k > 0 times the row r of fractions
pub record IsTimes (k : ℤ) (r : List Ratio) (x : Row) : Type 0 where
  pub positive : pos 0 <ℤ k
  pub cols : length x ≡ length r
  pub denominators : (i : ℕ) → i < length r → pos 0 <ℤ (ratio_at r i).den
  pub same : (i : ℕ) → i < length r → entry x i *ℤ (ratio_at r i).den ≡ k *ℤ (ratio_at r i).num

-- the whole row x has no negative product with a row of A, and the product 0 with each row of B
pub record Solves (A B : List Row) (x : Row) : Type 0 where
  pub inequalities : AllByRecursion (λ a. pos 0 ≤ℤ dot a x) A
  pub equations : AllByRecursion (λ b. dot b x ≡ pos 0) B

-- the fractions p, of which the first is 1, solve the rows
pub record IsPoint (A B : List Row) (p : List Ratio) : Type 0 where
  pub some : 0 < length p
  pub first : (ratio_at p 0).num ≡ (ratio_at p 0).den
  pub k : ℤ
  pub whole : Row
  pub times : IsTimes k p whole
  pub solves : Solves A B whole

-- the fractions p, of which the first is 0, solve the rows
pub record IsDirection (A B : List Row) (p : List Ratio) : Type 0 where
  pub some : 0 < length p
  pub first : (ratio_at p 0).num ≡ pos 0
  pub k : ℤ
  pub whole : Row
  pub times : IsTimes k p whole
  pub solves : Solves A B whole

-- c.p = v
pub record HasValue (c p : List Ratio) (v : Ratio) : Type 0 where
  pub k : ℤ
  pub h : ℤ
  pub objective : Row
  pub point : Row
  pub objective_times : IsTimes k c objective
  pub point_times : IsTimes h p point
  pub positive : pos 0 <ℤ v.den
  pub value : dot objective point *ℤ v.den ≡ (k *ℤ h) *ℤ v.num

-- y has a number for each row of A, which is not negative, and one for each row of B
pub record AreMultipliers (A B : List Row) (y : List Ratio) : Type 0 where
  pub as_many : length y ≡ length A + length B
  pub not_negative : (i : ℕ) → i < length A → pos 0 ≤ℤ (ratio_at y i).num

-- c and the sum of y_i times row i of A and B are together the constant v: so c.x <= v at each point
pub record IsDual (A B : List Row) (c : List Ratio) (v : Ratio) (y : List Ratio) : Type 0 where
  pub multipliers : AreMultipliers A B y
  pub k : ℤ
  pub objective : Row
  pub coefficients : Row
  pub constant : ℤ
  pub objective_times : IsTimes k c objective
  pub coefficients_times : IsTimes k y coefficients
  pub positive : pos 0 <ℤ v.den
  pub constant_times : constant *ℤ v.den ≡ k *ℤ v.num
  pub sum : Same (plus objective (combination coefficients (A ++ B))) (constant ∷ [])

-- c has its greatest value v at the point p, as the dual y shows
pub record IsOptimal (A B : List Row) (c : List Ratio) (v : Ratio) (p y : List Ratio) : Type 0 where
  pub cols : length p ≡ length c
  pub point : IsPoint A B p
  pub value : HasValue c p v
  pub dual : IsDual A B c v y

-- from the point p in the direction d, c grows without bound
pub record IsUnbounded (A B : List Row) (c p d : List Ratio) : Type 0 where
  pub point_cols : length p ≡ length c
  pub direction_cols : length d ≡ length c
  pub point : IsPoint A B p
  pub direction : IsDirection A B d
  pub rate : Ratio
  pub value : HasValue c d rate
  pub improves : pos 0 <ℤ rate.num

-- the sum of y_i times row i of A and B is a negative constant: so there is no point
pub record IsInfeasible (A B : List Row) (y : List Ratio) : Type 0 where
  pub multipliers : AreMultipliers A B y
  pub k : ℤ
  pub coefficients : Row
  pub constant : ℤ
  pub coefficients_times : IsTimes k y coefficients
  pub negative : constant <ℤ pos 0
  pub sum : Same (combination coefficients (A ++ B)) (constant ∷ [])

-- v is the value of c at a point of the rows S: at some row of S, with its first entry m > 0, c has the value m v
pub record IsAttained (S : Row → Type 0) (c : List Ratio) (v : Ratio) : Type 0 where
  pub k : ℤ
  pub objective : Row
  pub whole : Row
  pub times : IsTimes k c objective
  pub cols : length whole ≡ length c
  pub inside : S whole
  pub first : pos 0 <ℤ entry whole 0
  pub positive : pos 0 <ℤ v.den
  pub value : dot objective whole *ℤ v.den ≡ (k *ℤ entry whole 0) *ℤ v.num

-- c exceeds the value v at no point of the rows S
pub record IsNotExceeded (S : Row → Type 0) (c : List Ratio) (v : Ratio) : Type 0 where
  pub holds : (k : ℤ) (objective x : Row) → IsTimes k c objective → S x → pos 0 <ℤ entry x 0
      → (dot objective x *ℤ v.den) ≤ℤ ((k *ℤ entry x 0) *ℤ v.num)

-- v is the greatest value of c at the points of the rows S
pub record IsMaximum (S : Row → Type 0) (c : List Ratio) (v : Ratio) : Type 0 where
  pub attained : IsAttained S c v
  pub greatest : IsNotExceeded S c v

-- the rows S have a point, and c improves along one of their directions
pub record IsWithoutBound (S : Row → Type 0) (c : List Ratio) : Type 0 where
  pub k : ℤ
  pub objective : Row
  pub point : Row
  pub direction : Row
  pub times : IsTimes k c objective
  pub point_cols : length point ≡ length c
  pub direction_cols : length direction ≡ length c
  pub point_inside : S point
  pub direction_inside : S direction
  pub first : pos 0 <ℤ entry point 0
  pub level : entry direction 0 ≡ pos 0
  pub improves : pos 0 <ℤ dot objective direction

-- the rows S have no point
abbrev pub HasNoPoint : (Row → Type 0) → Type 0
HasNoPoint S = (x : Row) → S x → ¬ (pos 0 <ℤ entry x 0)
