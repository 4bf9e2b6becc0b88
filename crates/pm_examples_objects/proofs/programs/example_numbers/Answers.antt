-- Each is computed.
use Rattle.std.proofs.Common.{refl}
use Rattle.pm_examples_objects.proofs.programs.example_numbers.Goals as goal

pub returns : goal.returns
returns c = record {
  objective = refl;
  not_rows = refl;
  not_empty = refl;
  above = refl;
  below = refl;
  whole = refl;
  half = refl;
  not_a_number = refl;
  not_a_text = refl;
}
