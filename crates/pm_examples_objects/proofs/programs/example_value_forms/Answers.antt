-- Each is computed.
use Rattle.std.proofs.Common.{refl}
use Rattle.pm_examples_objects.proofs.programs.example_value_forms.Goals as goal

pub returns : goal.returns
returns c = record {
  sets_rise = refl;
  not_below = refl;
  falling = refl;
  twice = refl;
  most_columns = refl;
  more_columns = refl;
  not_sets = refl;
  faces_rise = refl;
  faces_fall = refl;
  no_such_ray = refl;
  not_a_lattice = refl;
  numbers = refl;
  too_great = refl;
  too_little = refl;
  not_numbers = refl;
  whole_numbers = refl;
  no_64_bits = refl;
  columns = refl;
  too_many_columns = refl;
  no_columns = refl;
  truth_value = refl;
  not_a_truth_value = refl;
}
