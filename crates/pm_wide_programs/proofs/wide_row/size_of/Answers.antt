use Rattle.pm_vector.specs.Magnitudes.{magnitude_of}
use Rattle.pm_vector.specs.WideInts.{value_of}
use Rattle.pm_wide_programs.proofs.WholeQuotients.{size_is}
use Rattle.pm_wide_programs.proofs.wide_row.size_of.Goals as goal
use Rattle.std.specs.Prelude.{unsigned_abs}

pub returns : goal.returns
returns c = size_is (magnitude_of c.of_digit.result) (unsigned_abs (value_of c.args.n)) (magnitude_of c.gcd_with.result) c.of_digit.ensures c.gcd_with.ensures
