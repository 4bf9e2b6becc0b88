-- Cones of which the conditions of clients hold, and the orders that clients keep.
use Rattle.pm_examples_values.proofs.OneTarget.{chooses, none_of, one_of, untagged}
use Rattle.pm_examples_values.specs.RunExamples.{ConditionsAreMet, OrdersAreKept, counting, from_one}
use Rattle.pm_examples_values.proofs.RayExamples.{half_line_values_are_read, line_dimensions_are_read}
use Rattle.pm_examples_values.specs.ConeExamples.{line_cone}
use Rattle.pm_examples_values.specs.RayExamples.{half_line_orders, line_orders}
use Rattle.pm_examples_values.specs.RowExamples.{half_cone}
use Rattle.pm_props.proofs.Every.{has-set_of}
use Rattle.pm_props.specs.Properties.{facets_tag, rays_tag}
use Rattle.pm_props.specs.declared.property.PropId.TheVariants.{NVertices, Pointed, Points, Vertices}
use Rattle.pm_types.specs.Right.{Right}
use Rattle.pm_types.specs.Values.{truth}
use Rattle.pm_vector.specs.Rows.{entry}
use Rattle.std.proofs.Common.{ap, arith, refl, subst}
use Rattle.std.proofs.lemmas.Int.{ints}
use Rattle.std.specs.List.{slice_index_or}
use Rattle.std.specs.Prelude.{[], false, length, true, ◌∷◌, ◌≡◌}
use lib.IntN.{pos}

pub conditions_are_met : ConditionsAreMet
conditions_are_met = record {
  none = record { must = λ p h. absurd (none_of p h); must_not = λ p h. absurd (none_of p h) };
  pointed_cone = record {
    must = λ p h. subst (λ q. Right q (truth true) half_cone half_line_orders []) (one_of Pointed p h) half_line_values_are_read.pointed;
    must_not = λ p h. absurd (none_of p h);
  };
  no_line = λ m. half_line_values_are_read.has_no_line (m.must_not Pointed (has-set_of (Pointed ∷ []) Pointed));
  cone_with_line = record {
    must = λ p h. absurd (none_of p h);
    must_not = λ p h. subst (λ q. Right q (truth false) line_cone line_orders []) (one_of Pointed p h) line_dimensions_are_read.has_a_line;
  };
  not_pointed = λ m. line_dimensions_are_read.not_pointed (m.must Pointed (has-set_of (Pointed ∷ []) Pointed));
}

pub orders_are_kept : OrdersAreKept
orders_are_kept = record {
  chosen = record {
    rays = λ n. absurd (n (chooses rays_tag (from_one Vertices Points) Vertices Points (has-set_of (Vertices ∷ []) Vertices) refl refl refl));
    facets = λ n. refl;
    cones = λ n. refl;
  };
  facets = λ k. let e : pos 1 ≡ pos 0 = ap (λ X. entry (slice_index_or X 0 []) 0) (k.facets (untagged facets_tag (from_one Vertices Points) Vertices refl refl)) in omega (arith, ints);
  cones = λ k. let e : 1 ≡ 0 = ap length (k.cones (untagged facets_tag (from_one Vertices Points) Vertices refl refl)) in omega arith;
  kept = record { rays = λ n. refl; facets = λ n. refl; cones = λ n. refl };
  turned = λ k. let e : pos 1 ≡ pos 0 = ap (λ X. entry (slice_index_or X 0 []) 0) (k.rays (untagged rays_tag counting NVertices refl refl)) in omega (arith, ints);
}
