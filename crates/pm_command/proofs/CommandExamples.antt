-- Small lines, written out.
use Rattle.std.proofs.Common.{refl}
use Rattle.std.specs.Char.{encode_utf8}
use Rattle.std.specs.Str.{chars, is_utf8}
use Rattle.pm_command.specs.Examples.{CommandsAreRead, NoCommandsAreRead}

pub commands_are_read : CommandsAreRead
unfolding is_utf8 chars encode_utf8
commands_are_read = record {
  four = refl;
  not_five = refl;
  no_words = refl;
  cube = refl;
  simplex = refl;
  cross = refl;
  cyclic = refl;
  polar = refl;
  pyramid = refl;
  normal_fan = refl;
  face_fan = refl;
  product = refl;
  minkowski = refl;
  refine = refl;
  show = refl;
  evidence = refl;
}

pub no_commands_are_read : NoCommandsAreRead
unfolding is_utf8 chars encode_utf8
no_commands_are_read = record {
  zero_cube = refl;
  leading_zero = refl;
  too_large = refl;
  signed = refl;
  no_number = refl;
  two_of_one = refl;
  one_of_two = refl;
  three_of_two = refl;
  prism = refl;
  no_name = refl;
  part = refl;
  doubled = refl;
  doubled_before = refl;
  doubled_behind = refl;
  trailing = refl;
  polar_alone = refl;
  polar_of_part = refl;
  pyramid_doubled = refl;
  fan_apart = refl;
  fan_of_two = refl;
  show_of_part = refl;
  show_two = refl;
  evidence_alone = refl;
  evidence_of_part = refl;
  product_of_one = refl;
  product_doubled = refl;
}
