-- What stands for a product has its sign, and is it where it is no end of the range.
use Rattle.pm_vector.specs.Numbers.{InRange}
use Rattle.pm_dd.specs.Building.{NextZeros, StandsFor}
use Rattle.std.specs.Prelude.{ℕ, ◌-◌, ◌^◌, ◌≡◌, Bool, List, unsigned_abs}
use Rattle.std.proofs.Common.{arith, inl, inr}
use Rattle.std.proofs.lemmas.Bool.{cases_lt}
use Rattle.std.proofs.lemmas.Int.{by_lt_z, ints}
use lib.IntN.{ℤ, neg_ℤ, pos}
use lib.Signed.{◌<ℤ◌, ◌≤ℤ◌}

-- a number that is compared with the ends of the range stands for z
pub stands : (z v : ℤ) → (InRange z → v ≡ z) → (¬ (InRange z) → pos 0 ≤ℤ z → v ≡ pos (2 ^ 127 - 1)) → (¬ (InRange z) → z <ℤ pos 0 → v ≡ neg_ℤ (pos (2 ^ 127 - 1))) → StandsFor z v
stands z v same above below = record {
  same = same;
  above = λ h. above (λ r. omega (arith, ints)) (omega (arith, ints));
  below = λ h. below (λ r. omega (arith, ints)) (omega (arith, ints));
}

module _ (z v : ℤ) (s : StandsFor z v) where
  stand_cases : (C : Type 0) → (InRange z → v ≡ z → C) → (pos (2 ^ 127) ≤ℤ z → v ≡ pos (2 ^ 127 - 1) → C) → (z ≤ℤ neg_ℤ (pos (2 ^ 127)) → v ≡ neg_ℤ (pos (2 ^ 127 - 1)) → C) → C
  stand_cases C same above below = elim (cases_lt (unsigned_abs z) (2 ^ 127)) [
    | inl h ↦ same h (s.same h)
    | inr h ↦ by_lt_z z (pos 0)
        (λ neg. let l : z ≤ℤ neg_ℤ (pos (2 ^ 127)) = omega (arith, ints) in below l (s.below l))
        (λ not. let l : pos (2 ^ 127) ≤ℤ z = omega (arith, ints) in above l (s.above l))
  ]

  pub stand_in_range : InRange v
  stand_in_range = stand_cases (InRange v) (λ h e. omega (arith, ints)) (λ h e. omega (arith, ints)) (λ h e. omega (arith, ints))

  pub above_of : pos 0 <ℤ v → pos 0 <ℤ z
  above_of up = stand_cases (pos 0 <ℤ z) (λ h e. omega (arith, ints)) (λ h e. omega (arith, ints)) (λ h e. omega (arith, ints))

  pub above_to : pos 0 <ℤ z → pos 0 <ℤ v
  above_to up = stand_cases (pos 0 <ℤ v) (λ h e. omega (arith, ints)) (λ h e. omega (arith, ints)) (λ h e. omega (arith, ints))

  pub below_of : v <ℤ pos 0 → z <ℤ pos 0
  below_of down = stand_cases (z <ℤ pos 0) (λ h e. omega (arith, ints)) (λ h e. omega (arith, ints)) (λ h e. omega (arith, ints))

  pub below_to : z <ℤ pos 0 → v <ℤ pos 0
  below_to down = stand_cases (v <ℤ pos 0) (λ h e. omega (arith, ints)) (λ h e. omega (arith, ints)) (λ h e. omega (arith, ints))

  pub from_of : pos 0 ≤ℤ v → pos 0 ≤ℤ z
  from_of up = stand_cases (pos 0 ≤ℤ z) (λ h e. omega (arith, ints)) (λ h e. omega (arith, ints)) (λ h e. omega (arith, ints))

  pub to_of : v ≤ℤ pos 0 → z ≤ℤ pos 0
  to_of down = stand_cases (z ≤ℤ pos 0) (λ h e. omega (arith, ints)) (λ h e. omega (arith, ints)) (λ h e. omega (arith, ints))

  pub zero_of : v ≡ pos 0 → z ≡ pos 0
  zero_of none = stand_cases (z ≡ pos 0) (λ h e. omega (arith, ints)) (λ h e. omega (arith, ints)) (λ h e. omega (arith, ints))

  pub zero_to : z ≡ pos 0 → v ≡ pos 0
  zero_to none = stand_cases (v ≡ pos 0) (λ h e. omega (arith, ints)) (λ h e. omega (arith, ints)) (λ h e. omega (arith, ints))

  -- between the ends of the range it is the number itself
  pub same_between : neg_ℤ (pos (2 ^ 127 - 1)) <ℤ v → v <ℤ pos (2 ^ 127 - 1) → v ≡ z
  same_between low high = stand_cases (v ≡ z) (λ h e. e) (λ h e. absurd (omega (arith, ints))) (λ h e. absurd (omega (arith, ints)))

  pub zeros_of_stand : (y : List Bool) (f : ℕ) (x : List Bool) → NextZeros y f v x → NextZeros y f z x
  zeros_of_stand y f x n = record { as_many = n.as_many; on = λ e. n.on (zero_to e); others = λ p no. n.others p (λ q e. no q (zero_of e)) }
