-- Rows of wide numbers.
use Rattle.pm_vector.specs.Rows.{Row}
use Rattle.pm_vector.specs.WideInts.{value_of}
use Rattle.pm_vector.specs.declared.wide_int.WideInt.{WideInt}
use Rattle.std.specs.Prelude.{List, map}

-- the row of the numbers that x stands for
abbrev pub values : List WideInt → Row
values x = map value_of x
