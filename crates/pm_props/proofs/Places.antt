-- The tests of equality of properties and of places.
use Rattle.pm_props.proofs.Numbers.{number_is}
use Rattle.pm_props.specs.Places.{same_place, same_property}
use Rattle.pm_props.specs.Properties.{number}
use Rattle.pm_props.specs.declared.property.PropId.{PropId}
use Rattle.std.proofs.Common.{ap, arith, refl, sym, true, true≢false}
use Rattle.std.specs.Prelude.{None, Option, Some, nat_eq, ℕ, ◌≡◌}

eq_is : (a b : ℕ) → nat_eq a b ≡ true → a ≡ b
eq_is a b h = grind arith

eq_refl : (a : ℕ) → nat_eq a a ≡ true
eq_refl a = grind arith

pub same_property_is : (p q : PropId) → same_property p q ≡ true → p ≡ q
same_property_is p q h = number_is p q (eq_is (number p) (number q) h)

pub same_property_refl : (p : PropId) → same_property p p ≡ true
same_property_refl p = eq_refl (number p)

pub same_place_is : (r s : Option ℕ) → same_place r s ≡ true → r ≡ s
same_place_is None None h = refl
same_place_is None (Some s) h = absurd (true≢false (sym h))
same_place_is (Some r) None h = absurd (true≢false (sym h))
same_place_is (Some r) (Some s) h = ap Some (eq_is r s h)

pub same_place_refl : (r : Option ℕ) → same_place r r ≡ true
same_place_refl None = refl
same_place_refl (Some r) = eq_refl r
