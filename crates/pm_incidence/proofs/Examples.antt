-- The examples of incidence hold.
use Rattle.pm_vector.proofs.Lists.{all_at, among_Contains}
use Rattle.pm_vector.specs.Rows.{Row, entry}
use Rattle.pm_incidence.specs.Examples.{IncidenceIsRead, ShortRowsAreRead, pair, vertices}
use Rattle.pm_incidence.specs.Short.{IsLittle}
use Rattle.std.proofs.Common.{ap, arith, refl}
use Rattle.std.proofs.lemmas.Int.{ints}
use Rattle.std.proofs.lemmas.List.{length-replicate}
use Rattle.std.proofs.lemmas.List.Elements.{All-cons, All-nil, All-replicate}
use Rattle.std.specs.Prelude.{[], ◌∷◌, ◌≡◌}
use lib.IntN.{ℤ, negsuc, pos}

abbrev first : Row → ℤ
first x = entry x 0

zero_one : pos 0 ≡ pos 1 → ⊥
zero_one h = omega (arith, ints)

two_one : pos 2 ≡ pos 1 → ⊥
two_one h = omega (arith, ints)

pub incidence_is_read : IncidenceIsRead
incidence_is_read = record {
  sets = refl;
  from_three = refl;
  memory = tt;
  not_read = λ h. all_at (λ (x : Row). x ≡ pair (pos 1) (pos 1) → ⊥) (among_Contains vertices h.0) ((λ e. zero_one (ap first e)), ((λ e. two_one (ap first e)), ((λ e. zero_one (ap first e)), tt))) refl;
}

pub short_rows_are_read : ShortRowsAreRead
short_rows_are_read = record {
  greatest = record {
    few = omega arith;
    little = All-cons IsLittle (pos 268435455) (negsuc 268435454 ∷ []) (omega (arith, ints)) (All-cons IsLittle (negsuc 268435454) [] (omega (arith, ints)) (All-nil IsLittle));
  };
  too_great = λ h. let e : IsLittle (negsuc 268435455) = h.little 1 (pos 0) (omega arith) in omega (arith, ints);
  longest = record {
    few = let e = length-replicate 64 (pos 1) in omega arith;
    little = All-replicate IsLittle 64 (pos 1) (omega (arith, ints));
  };
  too_long = λ h. let e = length-replicate 65 (pos 1) in let few = h.few in omega arith;
}
