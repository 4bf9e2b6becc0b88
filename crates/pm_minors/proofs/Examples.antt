-- Small minors, and sizes by which rows are never lost.
use Rattle.pm_minors.specs.Examples.{MinorsAreRead}
use Rattle.pm_minors.proofs.Laws.{description_is_never_lost, rows_are_tame}
use Rattle.pm_vector.proofs.Ring.{ring}
use Rattle.std.proofs.Common.{arith, inl, inr, refl}
use Rattle.std.proofs.lemmas.Int.{ints}
use Rattle.std.specs.Prelude.{◌*◌, ◌-◌, ◌^◌}

pub minors_are_read : MinorsAreRead
minors_are_read = record {
  two = λ a b c d. simp ring (omega (arith, ints));
  turned = λ a b c d. simp ring (omega (arith, ints));
  three = λ a b c d e f g h i. simp ring (omega (arith, ints));
  none = λ x. refl;
  four = λ X cols small. description_is_never_lost 4 999999999 (2 ^ 127 - 1) X (omega arith) cols small (inl (omega arith)) (omega arith);
  ten = λ X cols small. description_is_never_lost 10 2000 (2 ^ 127 - 1) X (omega arith) cols small (inr (omega arith)) (omega arith);
  most = λ X cols small. description_is_never_lost 33 2 (2 ^ 127 - 1) X (omega arith) cols small (inr (omega arith)) (omega arith);
  tame = λ X cols small few. rows_are_tame 4 10 6000 (160000 * 409600000000) X (omega arith) (omega arith) (omega arith) cols small (inl (omega arith)) (omega arith)
      (160000, inr (omega arith), inl (409600000000, inr (omega arith), omega arith)) (omega arith) few;
}
