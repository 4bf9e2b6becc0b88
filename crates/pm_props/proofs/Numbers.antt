-- A property is determined by its number.
use Rattle.pm_props.specs.Properties.{number, property_at}
use Rattle.pm_props.specs.declared.property.PropId.{PropId}
use Rattle.std.proofs.Common.{ap, arith, sym, ◌∙◌}
use Rattle.std.specs.Prelude.{None, Option, Some, ◌≡◌}

pub property_at-number : (p : PropId) → property_at (number p) ≡ Some p
property_at-number p = grind arith

or_else : PropId → Option PropId → PropId
or_else q None = q
or_else q (Some p) = p

pub number_is : (p q : PropId) → number p ≡ number q → p ≡ q
unfolding or_else
number_is p q e = ap (or_else p) (sym (property_at-number p) ∙ ap property_at e ∙ property_at-number q)
