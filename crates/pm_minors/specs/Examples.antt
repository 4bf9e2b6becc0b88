-- Small minors, and a size by which rows are never lost.
use Rattle.std.specs.Prelude.{ℕ, ◌≡◌, ◌≤◌, List, [], ◌∷◌, length, take}
use Rattle.std.specs.List.{All, AllPairs}
use Rattle.pm_vector.specs.Rows.{HasCols, Row}
use Rattle.pm_geom.specs.Cones.{CutOut, IsExtreme, SameModulo}
use Rattle.pm_geom.specs.StatedOrder.{IsStatedFront}
use Rattle.pm_dd.specs.Lost.{DescriptionIsLost}
use Rattle.pm_dd.specs.Tame.{AreTame}
use Rattle.pm_limits.specs.Limits.{most_rows}
use Rattle.pm_minors.specs.Minors.{IsAtMost, minor}
use lib.IntN.{ℤ, pos, ◌*ℤ◌, ◌+ℤ◌, ◌-ℤ◌}

pub record MinorsAreRead : Type 0 where
  -- two rows
  pub two : (a b c d : ℤ) → minor (0 ∷ 1 ∷ []) ((a ∷ b ∷ []) ∷ (c ∷ d ∷ []) ∷ []) ≡ a *ℤ d -ℤ b *ℤ c
  -- in the other order of the columns
  pub turned : (a b c d : ℤ) → minor (1 ∷ 0 ∷ []) ((a ∷ b ∷ []) ∷ (c ∷ d ∷ []) ∷ []) ≡ b *ℤ c -ℤ a *ℤ d
  -- three rows
  pub three : (a b c d e f g h i : ℤ)
      → minor (0 ∷ 1 ∷ 2 ∷ []) ((a ∷ b ∷ c ∷ []) ∷ (d ∷ e ∷ f ∷ []) ∷ (g ∷ h ∷ i ∷ []) ∷ [])
      ≡ a *ℤ (e *ℤ i -ℤ f *ℤ h) -ℤ b *ℤ (d *ℤ i -ℤ f *ℤ g) +ℤ c *ℤ (d *ℤ h -ℤ e *ℤ g)
  -- more rows than columns
  pub none : (x : Row) → minor [] (x ∷ []) ≡ pos 0
  -- rows of 4 entries below 10^9 in size are never lost, nor are rows of 10 entries of at most 2000 (by the bound of
  -- Hadamard), or rows of 33 entries of at most 2
  pub four : (X : List Row) → HasCols 4 X → All (IsAtMost 999999999) X → ¬ (DescriptionIsLost 4 X)
  pub ten : (X : List Row) → HasCols 10 X → All (IsAtMost 2000) X → ¬ (DescriptionIsLost 10 X)
  pub most : (X : List Row) → HasCols 33 X → All (IsAtMost 2) X → ¬ (DescriptionIsLost 33 X)
  -- and rows of 4 entries of at most 10 are tame where their fronts have few rays
  pub tame : (X : List Row) → HasCols 4 X → All (IsAtMost 10) X
      → ((Y : List Row) (f : ℕ) → IsStatedFront X Y f → (V : List Row) → All (IsExtreme 4 (CutOut (take f Y))) V
      → AllPairs (λ v w. ¬ (SameModulo 4 (CutOut (take f Y)) v w)) V → length V ≤ most_rows) → AreTame 4 X
