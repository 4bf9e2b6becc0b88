-- Small objects, told.
use Rattle.std.proofs.Common.{refl}
use Rattle.pm_telling.specs.Examples.{EvidenceIsTold, HeldIsTold}

pub held_is_told : HeldIsTold
held_is_told = record {
  was_given = refl;
  was_computed = refl;
  not_held = refl;
  in_order = refl;
  nothing = refl;
  not_of_programs = refl;
  of_the_second = refl;
  no_programs = refl;
}

pub evidence_is_told : EvidenceIsTold
evidence_is_told = record {
  each_place = refl;
  of_the_other = refl;
  no_evidence = refl;
  no_such_rule = refl;
}
