use Rattle.pm_client.proofs.example_row_lists.Goals as goal
use Rattle.std.proofs.Common.{refl}

pub returns : goal.returns
returns c = record {
  points = refl;
  no_generator = refl;
  facets = refl;
  no_half_space = refl;
  rays = refl;
  half_spaces = refl;
  turned = refl;
  mixed = refl;
  added = refl;
  not_to_facets = refl;
  not_to_cones = refl;
  memory = refl;
  memory_of_double = refl;
  doubling = refl;
  not_doubling = refl;
  placing = refl;
  not_placing = refl;
  placing_doubles = refl;
  of_double = refl;
  of_ranks = refl;
}
