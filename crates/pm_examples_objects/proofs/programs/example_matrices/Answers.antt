-- Each is computed.
use Rattle.std.proofs.Common.{refl}
use Rattle.pm_examples_objects.proofs.programs.example_matrices.Goals as goal

pub returns : goal.returns
returns c = record {
  stated = refl;
  unstated = refl;
  another_count = refl;
  in_front = refl;
  alone = refl;
  none = refl;
  no_columns = refl;
  too_many = refl;
  no_entries = refl;
  table = refl;
  table_of_none = refl;
}
