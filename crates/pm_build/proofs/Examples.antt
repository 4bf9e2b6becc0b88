-- The examples, computed.
use Rattle.pm_vector.specs.Rows.{Row, entry}
use Rattle.pm_build.specs.Examples.{ConditionsAreRead, ObjectsAreRead, RowsAreRead}
use Rattle.std.proofs.Common.{ap, arith, refl, ◌≡◌}
use Rattle.std.proofs.lemmas.Int.{ints}
use lib.IntN.{negsuc, pos}

pub rows : RowsAreRead
rows = record {
  second = refl;
  not_first = λ e. let n : pos 0 ≡ pos 1 = ap (λ (x : Row). entry x 0) e in absurd (omega (arith, ints));
  opposed = refl;
  two_units = refl;
  pairs = refl;
  not_behind = λ e. let n : pos 1 ≡ negsuc 0 = ap (λ (x : Row). entry x 0) e in absurd (omega (arith, ints));
  no_dimension = refl;
  corners = refl;
  not_without_nought = λ e. let n : pos 0 ≡ pos 1 = ap (λ (x : Row). entry x 0) e in absurd (omega (arith, ints));
  powers = refl;
  no_first_power = λ e. let n : pos 2 ≡ pos 1 = ap (λ (x : Row). entry x 0) e in absurd (omega (arith, ints));
  points = refl;
  not_from_nought = λ e. let n : pos 1 ≡ pos 0 = ap (λ (x : Row). entry x 0) e in absurd (omega (arith, ints));
  apex = refl;
  not_in_the_base = λ e. let n : pos 1 ≡ pos 0 = ap (λ (x : Row). entry x 2) e in absurd (omega (arith, ints));
}

pub conditions : ConditionsAreRead
conditions = record {
  words = refl;
  most = refl;
  too_many = refl;
  triangle = refl;
  few_points = refl;
  many_points = refl;
  too_many_points = refl;
  high_power = refl;
  too_high = refl;
  true' = refl;
  untrue = refl;
  not_held = refl;
  columns = refl;
  facets = refl;
  none = refl;
  fits = refl;
  of_type = refl;
  bounded_first = refl;
  then_full = refl;
  then_centered = refl;
  last = refl;
  of_types = refl;
  both = refl;
  widest = refl;
  too_wide = refl;
  with_room = refl;
  without_room = refl;
}

pub objects : ObjectsAreRead
objects = record {
  no_rows = refl;
  some_rows = refl;
  behind = refl;
  between = refl;
  below = refl;
  square_rows = refl;
  cube = refl;
  point = refl;
  simplex = refl;
  cross = refl;
  cyclic = refl;
  polar = refl;
  product = refl;
  pyramid = refl;
}
