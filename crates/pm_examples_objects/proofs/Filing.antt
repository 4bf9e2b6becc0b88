-- The examples, by what the definitions say.
use Rattle.std.proofs.Common.{refl}
use Rattle.pm_examples_objects.specs.Filing.{FilesAreLoaded, ObjectsAreSaved}
use Rattle.pm_props.specs.Sets.{has, only, union}

pub files_are_loaded : FilesAreLoaded
unfolding has union only
files_are_loaded = record {
  given = λ book. refl;
  stored = λ book. refl;
  then_sealed = λ book. refl;
  else_open = λ book. refl;
  second_label = λ rule. refl;
  no_label = λ rule. refl;
  is_marked = λ rule. refl;
  programs = λ rule. refl;
  second_place = refl;
  second_mark = λ rule. refl;
  is_read_over = λ rule. refl;
}

pub objects_are_saved : ObjectsAreSaved
unfolding has union only
objects_are_saved = record {
  given = λ book. refl;
  stored = λ book. refl;
  computed = λ book. refl;
  failed = λ rule. refl;
  marked_again = λ rule. refl;
  not_false = λ rule. refl;
  not_of_a_program = λ rule. refl;
  of_its_program = λ rule. refl;
  not_of_another = λ rule. refl;
  programs = λ rule. refl;
  no_value_of_a_program = λ rule. refl;
}
