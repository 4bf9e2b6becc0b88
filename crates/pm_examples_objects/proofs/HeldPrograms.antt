-- A polytope with two linear programs, and others that there are not.
use Rattle.std.proofs.Common.{refl, sym, true, true≢false}
use Rattle.pm_examples_objects.specs.Programs.{NamesArePrograms, NamesHavePlaces, ObjectivesAreGiven, ObjectivesAreTaken, ProgramsAreRefused, ProgramsAreSealed, ValuesArePlaced}

pub names_have_places : NamesHavePlaces
names_have_places = record { first = refl; second = refl; nowhere = refl; first_of_two = refl }

pub programs_are_refused : ProgramsAreRefused
programs_are_refused = record { cone = refl; taken = refl; taken_first = refl; full = refl; third = refl }

pub names_are_programs : NamesArePrograms
names_are_programs = record {
  two = record { few = refl; words = refl; different = refl; polytope = λ h. refl };
  none = record { few = refl; words = refl; different = refl; polytope = λ h. absurd (true≢false (sym h)) };
  no_cone = λ p. true≢false (sym (p.polytope refl));
  not_five = λ p. true≢false (sym p.few);
  not_twice = λ p. true≢false (sym p.different);
  no_word = λ p. true≢false (sym p.words);
}

pub values_are_placed : ValuesArePlaced
values_are_placed = record {
  own = refl;
  own_in_program = refl;
  of_program = refl;
  not_own = refl;
  no_third = refl;
  backed = λ h. refl;
  not_backed = λ f. true≢false (sym (f refl));
  not_by_programs = λ f. true≢false (sym (f refl));
  of_no_order = λ h. absurd (true≢false (sym h));
  of_no_program = λ h. absurd (true≢false (sym h));
}

pub objectives_are_given : ObjectivesAreGiven
objectives_are_given = record { own = refl; not_own = refl; objective = refl; no_face = refl; no_facets = refl }

pub programs_are_sealed : ProgramsAreSealed
programs_are_sealed = record {
  not_sealed = refl;
  by_round = refl;
  other_round = refl;
  own_round = refl;
  object = refl;
  object_not_sealed = refl;
  by_value = refl;
  other_value = refl;
  own_value = refl;
  given = refl;
}

pub objectives_are_taken : ObjectivesAreTaken
objectives_are_taken = record { taken = refl; twice = refl; other = refl; sealed = refl; own = refl; columns = refl }
