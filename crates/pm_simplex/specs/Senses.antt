-- The sense of a linear program: the greatest value of its objective, or the least, which is the opposite of the
-- greatest value of the opposite objective.
use Rattle.pm_vector.specs.Numbers.{Ratio}
use Rattle.pm_vector.specs.Rows.{Row, opposite}
use Rattle.pm_fraction.specs.Arithmetic.{opposite_of}
use Rattle.pm_simplex.specs.declared.sense.Sense.{Sense}
use Rattle.pm_simplex.specs.declared.sense.Sense.TheVariants.{Maximal, Minimal}
use Rattle.pm_types.specs.Programs.{IsGreatest, opposite_extended, opposite_objective}
use Rattle.pm_types.specs.Values.{Extended}
use Rattle.std.specs.Prelude.{List}

-- the objective whose greatest value is asked
abbrev pub objective_in : Sense → List Ratio → List Ratio
objective_in Maximal c = c
objective_in Minimal c = opposite_objective c

-- that greatest value, where x is the optimum
abbrev pub value_in : Sense → Extended → Extended
value_in Maximal x = x
value_in Minimal x = opposite_extended x

-- the same of a fraction
abbrev pub ratio_in : Sense → Ratio → Ratio
ratio_in Maximal v = v
ratio_in Minimal v = opposite_of v

-- x is the optimum of c at the points of S
abbrev pub IsOptimum : Sense → (Row → Type 0) → List Ratio → Extended → Type 0
IsOptimum sense S c x = IsGreatest S (objective_in sense c) (value_in sense x)

-- the row, or its opposite
abbrev pub row_in : Sense → Row → Row
row_in Maximal w = w
row_in Minimal w = opposite w
