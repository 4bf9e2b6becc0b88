-- A multiple of a row that is above another at each row of a list.
use Rattle.pm_vector.proofs.Lists.{Among, here, there}
use Rattle.pm_vector.proofs.Ring.{ring}
use Rattle.pm_vector.proofs.Signs.{mul_nonneg, weaken}
use Rattle.pm_vector.specs.Rows.{Row, dot}
use Rattle.std.proofs.Common.{arith}
use Rattle.std.proofs.lemmas.Int.{by_lt_z, ints}
use Rattle.std.specs.Prelude.{List, [], ◌∷◌, ◌≡◌}
use lib.IntN.{pos, ℤ, ◌*ℤ◌, ◌+ℤ◌, ◌-ℤ◌}
use lib.Signed.{lt_z_yes, ◌<ℤ◌, ◌≤ℤ◌}

-- a multiple that is large enough
pub enough_here : (m bz by : ℤ) → pos 0 ≤ℤ m → pos 0 <ℤ bz → pos 0 ≤ℤ by → by ≤ℤ ((m +ℤ by) *ℤ bz)
enough_here m bz by hm hz hy =
    let one : pos 0 ≤ℤ (bz -ℤ pos 1) = omega (arith, ints) in
    let a = simp ring at (mul_nonneg hy one) in
    let b = mul_nonneg hm (weaken hz) in
    simp ring (omega (arith, ints))

pub enough_still : (m bz by c : ℤ) → pos 0 ≤ℤ c → pos 0 ≤ℤ bz → by ≤ℤ (m *ℤ bz) → by ≤ℤ ((m +ℤ c) *ℤ bz)
enough_still m bz by c hc hz h =
    let a = simp ring at (mul_nonneg hc hz) in
    simp ring (omega (arith, ints))

-- ---- a multiple of z that is above y at each row of a list
pub record Enough (B : List Row) (z y : Row) : Type 0 where
  pub m : ℤ
  pub positive : pos 0 <ℤ m
  pub above : (b : Row) → Among b B → dot b y ≤ℤ (m *ℤ dot b z)

enough_more : (B : List Row) (b z y : Row) → ((g : Row) → Among g (b ∷ B) → pos 0 ≤ℤ dot g z) → (dot b z ≡ pos 0 → dot b y ≤ℤ pos 0) → Enough B z y → Enough (b ∷ B) z y
enough_more B b z y f g e =
    by_lt_z (pos 0) (dot b z)
    (λ up. by_lt_z (dot b y) (pos 0) (λ low. record { m = e.m; positive = e.positive; above = keep low }) (λ high. record { m = e.m +ℤ dot b y; positive = let p = e.positive in omega (arith, ints); above = raise up high }))
    (λ flat. let z0 = f b here in let o : dot b z ≡ pos 0 = omega (arith, ints) in record { m = e.m; positive = e.positive; above = level o })
  where
    keep : dot b y <ℤ pos 0 → (g : Row) → Among g (b ∷ B) → dot g y ≤ℤ (e.m *ℤ dot g z)
    keep low g here = let p = mul_nonneg (weaken e.positive) (f b here) in omega (arith, ints)
    keep low g (there i) = e.above g i

    raise : pos 0 <ℤ dot b z → pos 0 ≤ℤ dot b y → (g : Row) → Among g (b ∷ B) → dot g y ≤ℤ ((e.m +ℤ dot b y) *ℤ dot g z)
    raise up high g here = enough_here e.m (dot b z) (dot b y) (weaken e.positive) up high
    raise up high g (there i) = enough_still e.m (dot g z) (dot g y) (dot b y) high (f g (there i)) (e.above g i)

    level : dot b z ≡ pos 0 → (g : Row) → Among g (b ∷ B) → dot g y ≤ℤ (e.m *ℤ dot g z)
    level o g' here = let p = g o in simp (o, ring) (omega (arith, ints))
    level o g' (there i) = e.above g' i

pub enough : (B : List Row) (z y : Row) → ((g : Row) → Among g B → pos 0 ≤ℤ dot g z) → ((g : Row) → Among g B → dot g z ≡ pos 0 → dot g y ≤ℤ pos 0) → Enough B z y
enough [] z y f g = record { m = pos 1; positive = lt_z_yes tt; above = λ b i. elim i [ ] }
enough (b ∷ B) z y f g = enough_more B b z y f (g b here) (enough B z y (λ h i. f h (there i)) (λ h i. g h (there i)))
