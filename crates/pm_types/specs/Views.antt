-- The code's values as values of properties, and whole numbers as fractions over 1.
use Rattle.std.specs.Prelude.{List, map}
use Rattle.pm_vector.specs.Numbers.{Ratio}
use Rattle.pm_vector.specs.Rows.{Row}
use Rattle.pm_types.specs.Values.{PropertyValue, matrix, sets, whole, truth, counts, edges, lattice, extended, Extended, finite, plus_infinity, minus_infinity}
use Rattle.pm_types.specs.declared.number.Number.{Number}
use Rattle.pm_types.specs.declared.number.Number.TheVariants as number
use Rattle.pm_types.specs.declared.value.Value.{Value}
use Rattle.pm_types.specs.declared.value.Value.TheVariants as value
use lib.IntN.{ℤ, pos}

-- k/1
abbrev pub over_one : ℤ → Ratio
over_one k = record { num = k; den = pos 1 }

-- each entry of a row over 1
abbrev pub ratios : Row → List Ratio
ratios x = map over_one x

-- the number
abbrev pub extended_of : Number → Extended
extended_of (number.Finite q) = finite q
extended_of number.Plus = plus_infinity
extended_of number.Minus = minus_infinity

-- the value
abbrev pub view_of : Value → PropertyValue
view_of (value.Mat m) = matrix m.cols m.rows
view_of (value.Sets s) = sets s.rows s.cols
view_of (value.Int k) = whole k
view_of (value.Bool b) = truth b
view_of (value.Counts c) = counts c
view_of (value.Edges s) = edges s.rows s.cols
view_of (value.Lattice l) = lattice l
view_of (value.Number x) = extended (extended_of x)
