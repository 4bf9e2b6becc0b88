use Rattle.pm_bits.specs.Examples.{UnionsAreRead, bits}
use Rattle.pm_bits.specs.Sets.{IsIntersection, IsUnion}
use Rattle.std.proofs.Common.{refl}
use Rattle.std.specs.Prelude.{false, suc, true, zero, ◌≡◌}
use Rattle.pm_bits.proofs.example_unions.Goals as goal

union : IsUnion (bits true true true) (bits true true false) (bits false true true)
union zero = refl
union (suc zero) = refl
union (suc (suc zero)) = refl
union (suc (suc (suc i))) = refl

intersection : IsIntersection (bits false true false) (bits true true false) (bits false true true)
intersection zero = refl
intersection (suc zero) = refl
intersection (suc (suc zero)) = refl
intersection (suc (suc (suc i))) = refl

unions_are_read : UnionsAreRead
unions_are_read = record {
  union = union;
  intersection = intersection;
  not_less = λ u. let e : false ≡ true = u 0 in cc;
  not_more = λ m. let e : true ≡ false = m 0 in cc;
  none = λ u. let e : true ≡ false = u 0 in cc;
}

pub returns : goal.returns
returns c = unions_are_read
