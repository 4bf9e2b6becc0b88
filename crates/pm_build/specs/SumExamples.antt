-- The definitions of sums read on small rows: what holds, and what does not.
use Rattle.std.specs.Prelude.{ℕ, ◌≡◌, Bool, true, false, List, [], ◌∷◌, None, Some}
use Rattle.pm_vector.specs.Numbers.{Ratio}
use Rattle.pm_vector.specs.Rows.{Row}
use Rattle.pm_build.specs.Conditions.{sum_count, sum_refusal}
use Rattle.pm_build.specs.Examples.{held, no, one, segment}
use Rattle.pm_build.specs.Points.{far, is_point, pairs, points}
use Rattle.pm_build.specs.SumSteps.{AreFactors, IsSumRow, IsWideAt, sum_entry}
use Rattle.pm_types.specs.OverFirst.{IsOverFirst}
use Rattle.pm_build.specs.Sums.{AreSums, IsFirstWide, sum_lines}
use Rattle.pm_object.specs.State.{State}
use Rattle.pm_object.specs.declared.held.Condition.TheVariants as condition
use Rattle.pm_object_type.specs.declared.object_type.ObjectType.TheVariants.{Cone}
use Rattle.pm_props.specs.declared.property.PropId.TheVariants.{ConeAmbientDim, Feasible, LinealitySpace, Vertices}
use Rattle.pm_types.specs.Values.{matrix, truth, whole}
use Rattle.pm_types.specs.Views.{ratios}
use lib.IntN.{ℤ, pos}

-- the point 1/2 and the point 1/4 of the line
abbrev pub half : Row
half = pos 2 ∷ one ∷ []

abbrev pub quarter : Row
quarter = pos 4 ∷ one ∷ []

-- two rows whose first entries have no common divisor, and a product above the range
abbrev pub thin : Row
thin = pos 18446744073709551616 ∷ one ∷ []

abbrev pub thinner : Row
thinner = pos 18446744073709551615 ∷ one ∷ []

-- n / d
abbrev pub over : ℤ → ℤ → Ratio
over n d = record { num = n; den = d }

-- the point 0, and the direction to the right
abbrev pub origin : List Ratio
origin = ratios (one ∷ no ∷ [])

abbrev pub rightward : List Ratio
rightward = ratios (no ∷ one ∷ [])

-- a polytope of so many columns, which is empty or not, with these vertices
abbrev pub with_vertices : ℕ → Bool → List (List Ratio) → State
with_vertices n b rows =
    record segment {
      held = held ConeAmbientDim (whole (pos n)) ∷ held Feasible (truth b)
          ∷ held Vertices (matrix n rows) ∷ held LinealitySpace (matrix n (rightward ∷ [])) ∷ [];
    }

-- the half-line from 0 to the right
abbrev pub half_line : State
half_line = with_vertices 2 true (rightward ∷ origin ∷ [])

pub record SumsAreRead : Type 0 where
  -- which rows stand for points
  pub point : is_point origin ≡ true
  pub no_point : is_point rightward ≡ false
  pub points_alone : points (rightward ∷ origin ∷ []) ≡ origin ∷ []
  pub far_alone : far (rightward ∷ origin ∷ []) ≡ rightward ∷ []
  -- the second of a pair changes first
  pub in_order : pairs (half ∷ thin ∷ []) (quarter ∷ thinner ∷ [])
      ≡ (half, quarter) ∷ (half, thinner) ∷ (thin, quarter) ∷ (thin, thinner) ∷ []
  -- the factors of 2 and 4 are 2 and 1, without a common divisor
  pub factors : AreFactors half quarter (pos 2) (pos 1)
  pub no_factors : ¬ (AreFactors half quarter (pos 4) (pos 2))
  -- 1/2 + 1/4 is 3/4, and not 1/2
  pub first_entry : sum_entry (pos 2) (pos 1) half quarter 0 ≡ pos 4
  pub second_entry : sum_entry (pos 2) (pos 1) half quarter 1 ≡ pos 3
  pub divided : IsOverFirst (pos 4 ∷ pos 3 ∷ []) (over one one ∷ over (pos 3) (pos 4) ∷ [])
  pub not_divided : ¬ (IsOverFirst (pos 4 ∷ pos 3 ∷ []) (over (pos 4) one ∷ over (pos 3) one ∷ []))
  pub row : IsSumRow half quarter (over one one ∷ over (pos 3) (pos 4) ∷ [])
  pub no_row : ¬ (IsSumRow half quarter (over one one ∷ []))
  pub sums : AreSums ((half, quarter) ∷ []) ((over one one ∷ over (pos 3) (pos 4) ∷ []) ∷ [])
  pub no_sums : ¬ (AreSums ((half, quarter) ∷ []) [])
  -- 2^64 times 2^64 - 1 leaves the range; there is no column 2
  pub wide : IsWideAt thin thinner 0
  pub no_column : ¬ (IsWideAt thin thinner 2)
  pub first_wide : IsFirstWide ((thin, thinner) ∷ []) thin thinner 0
  pub no_pair : ¬ (IsFirstWide [] thin thinner 0)
  -- conditions, and the first that fails
  pub fits : sum_refusal half_line half_line ≡ None
  pub of_type : sum_refusal half_line (record half_line { of = Cone }) ≡ Some condition.OfType
  pub empty : sum_refusal half_line (with_vertices 3 false []) ≡ Some condition.Feasible
  pub columns : sum_refusal half_line (with_vertices 3 true []) ≡ Some condition.Columns
  -- one point, and the directions of both
  pub count : sum_count half_line half_line ≡ 3
  pub lines : sum_lines half_line half_line ≡ rightward ∷ rightward ∷ []
