-- The examples of orders and objects.
use Rattle.pm_geom.proofs.SmallThings.{half_line_is_read}
use Rattle.pm_geom.specs.Cones.{SameModulo}
use Rattle.pm_geom.specs.Examples.{half_line, pair}
use Rattle.pm_laws_things.specs.OrderExamples.{half_line_thing}
use Rattle.pm_laws_values.proofs.Fresh.{ray_direction}
use Rattle.pm_laws_values.proofs.OneOrder.{facets_itself}
use Rattle.pm_laws_values.specs.OrderExamples.{OneOrderIsRead, first_rays, longer_rays, given_alone}
use Rattle.pm_laws_values.specs.Orders.{AreOneOrder}
use Rattle.pm_object.specs.Honest.{facts}
use Rattle.pm_object_type.specs.declared.object_type.ObjectType.TheVariants.{Cone, Polytope}
use Rattle.pm_props.specs.declared.property.PropId.TheVariants.{NVertices, Vertices}
use Rattle.pm_types.specs.Values.{PropertyValue, whole}
use Rattle.pm_vector.proofs.Lists.{Among, among_Contains, there}
use Rattle.pm_vector.specs.Cones.{InCone}
use Rattle.pm_vector.specs.Rows.{SameDirection, entry, times}
use Rattle.std.proofs.Common.{arith, inl, inr, refl, sym, true≢false}
use Rattle.std.specs.Prelude.{None, [], suc, zero, ℕ, ◌≡◌}
use lib.IntN.{pos}
use lib.Signed.{lt_z_yes}

up_twice : SameDirection (pair 0 1) (pair 0 2)
up_twice = record { p = pos 2; q = pos 1; p_positive = lt_z_yes tt; q_positive = lt_z_yes tt; same = record { at = each } }
  where
    each : (i : ℕ) → entry (times (pos 2) (pair 0 1)) i ≡ entry (times (pos 1) (pair 0 2)) i
    each zero = refl
    each (suc zero) = refl
    each (suc (suc i)) = refl

out_thrice : SameDirection (pair 1 0) (pair 3 0)
out_thrice = record { p = pos 3; q = pos 1; p_positive = lt_z_yes tt; q_positive = lt_z_yes tt; same = record { at = each } }
  where
    each : (i : ℕ) → entry (times (pos 3) (pair 1 0)) i ≡ entry (times (pos 1) (pair 3 0)) i
    each zero = refl
    each (suc zero) = refl
    each (suc (suc i)) = refl

multiples : AreOneOrder half_line_thing first_rays longer_rays
multiples = record {
  rays = (ray_direction Polytope 2 half_line [] (pair 0 1) (pair 0 2) refl up_twice, (ray_direction Polytope 2 half_line [] (pair 1 0) (pair 3 0) refl out_thrice, tt));
  facets = facets_itself 2 half_line [] (refl, (refl, tt)) tt half_line half_line_is_read.facets;
  cones = refl;
}

apart : ¬ (SameModulo 2 (InCone half_line []) (pair 0 1) (pair 1 0))
apart = half_line_is_read.rays.once 0 1 [] (omega arith) (omega arith)

pub one_order_is_read : OneOrderIsRead
one_order_is_read = record {
  multiples = multiples;
  not_turned = λ h. apart h.rays.0;
  nothing_given = record { type = refl; values = λ f. (λ c. c, λ c. c) };
  other_type = λ h. let e : Cone ≡ Polytope = h.type in absurd cc;
  vertices = inl (refl, refl);
  number = λ h. elim h [
    | inl e ↦ true≢false (sym e.0)
    | inr z ↦ elsewhere z.v (among_Contains _ z.first.held)
  ];
}
  where
    elsewhere : (v : PropertyValue) → Among (record { place = None; property = Vertices; value = v }) (facts (given_alone NVertices (whole (pos 2))).held) → ⊥
    elsewhere v (there i) = elim i [ ]
