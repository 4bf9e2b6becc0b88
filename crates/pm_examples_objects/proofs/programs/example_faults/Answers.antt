-- Each is computed.
use Rattle.std.proofs.Common.{refl}
use Rattle.pm_examples_objects.proofs.programs.example_faults.Goals as goal

pub returns : goal.returns
returns c = record {
  above = refl;
  below = refl;
  inside = refl;
  no_node = refl;
  one_way = refl;
  limit_first = refl;
  shape_first = refl;
  index_last = refl;
  too_long = refl;
  no_number = refl;
  no_entry = refl;
}
