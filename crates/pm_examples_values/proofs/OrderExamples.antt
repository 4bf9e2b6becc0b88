-- The examples of the orders that a property reads hold.
use Rattle.pm_examples_values.proofs.RayExamples.{far_at, first_of, half_line_values_are_read}
use Rattle.pm_examples_values.specs.OrderExamples.{OrdersAreShown, turned_orders}
use Rattle.pm_examples_values.specs.RayExamples.{half_line_orders}
use Rattle.std.proofs.Common.{ap, arith, refl}
use Rattle.std.proofs.lemmas.Int.{ints}
use Rattle.std.specs.Prelude.{[], length, ◌∷◌, ◌≡◌}
use lib.IntN.{pos}

pub orders_are_shown : OrdersAreShown
orders_are_shown = record {
  rays = λ o. refl;
  facets = λ o. refl;
  cones = λ o. refl;
  both = λ o. refl;
  no_rays = λ o. refl;
  no_facets = λ o. refl;
  hidden = λ h. let l : 0 ≡ 2 = ap length (h half_line_orders) in omega arith;
  far_face = half_line_values_are_read.far_face;
  turned = λ h. let e : pos 1 ≡ pos 0 = ((far_at (0 ∷ []) turned_orders.rays h 0).0 (first_of 0 [])).1 in omega (arith, ints);
  not_read = λ k o p h. h;
}
