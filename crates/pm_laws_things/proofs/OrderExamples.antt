-- The examples of orders.
use Rattle.pm_vector.proofs.ConeLaws.{in_cone_set}
use Rattle.pm_vector.proofs.Lists.{AllPairs_cons, All_among, Among, Any_among, Contains_among, among_All, among_Any, among_Contains, here, there}
use Rattle.pm_vector.specs.Cones.{InCone, IsConeSet}
use Rattle.pm_vector.specs.Rows.{Row, entry}
use Rattle.pm_relations.proofs.Orders.{alike_back}
use Rattle.pm_geom.proofs.SmallThings.{half_line_is_read}
use Rattle.pm_geom.specs.Cones.{IsExtreme, IsOrder, SameModulo}
use Rattle.pm_geom.specs.Examples.{half_line, pair}
use Rattle.pm_geom.specs.Faces.{ray}
use Rattle.pm_geom.specs.Things.{Orders}
use Rattle.pm_laws_normal_fans.proofs.Places.{no_pairs, pairs_head}
use Rattle.pm_laws_things.specs.OrderExamples.{FirstIsFar, OrdersAreRead, half_line_thing}
use Rattle.pm_types.specs.Things.{AreOrders}
use Rattle.std.proofs.Common.{arith, refl, subst, true≢false}
use Rattle.std.proofs.lemmas.Int.{ints}
use Rattle.std.specs.List.{Contains}
use Rattle.std.specs.Prelude.{List, [], length, map, suc, zero, ℕ, ◌<◌, ◌∷◌, ◌≡◌, ◌↔◌}
use lib.IntN.{pos}

-- ---- the other order of two rows
turn : (v w : Row) {x : Row} → Among x (v ∷ w ∷ []) → Among x (w ∷ v ∷ [])
turn v w here = there here
turn v w (there here) = here
turn v w (there (there i)) = elim i [ ]

swapped : (n : ℕ) (S : Row → Type 0) → IsConeSet S → (v w : Row) → IsOrder n S (v ∷ w ∷ []) → IsOrder n S (w ∷ v ∷ [])
swapped n S cs v w o = record {
  each = All_among (λ u. IsExtreme n S u) (w ∷ v ∷ []) (λ x i. among_All (λ u. IsExtreme n S u) (turn w v i) o.each);
  all = λ r e. let (x, i, s) = among_Any (λ u. SameModulo n S r u) (v ∷ w ∷ []) (o.all r e) in Any_among (λ u. SameModulo n S r u) (turn v w i) s;
  once = AllPairs_cons (λ x y. ¬ (SameModulo n S x y)) w (v ∷ []) first (AllPairs_cons (λ x y. ¬ (SameModulo n S x y)) v [] (λ y i. elim i [ ]) (no_pairs (λ x y. ¬ (SameModulo n S x y))));
}
  where
    first : (y : Row) → Among y (v ∷ []) → ¬ (SameModulo n S w y)
    first y here s = pairs_head (λ x y. ¬ (SameModulo n S x y)) v (w ∷ []) o.once here (alike_back n S cs s)
    first y (there i) s = elim i [ ]

-- ---- the half line
first_orders : Orders
first_orders = record { rays = half_line; facets = half_line; cones = [] }

turned_orders : Orders
turned_orders = record { rays = pair 1 0 ∷ pair 0 1 ∷ []; facets = half_line; cones = [] }

are_first : AreOrders half_line_thing first_orders
unfolding first_orders
are_first = record { rays = half_line_is_read.rays; facets = half_line_is_read.facets; cones = refl }

are_turned : AreOrders half_line_thing turned_orders
unfolding turned_orders
are_turned = record { rays = swapped 2 (InCone half_line []) (in_cone_set half_line []) (pair 0 1) (pair 1 0) half_line_is_read.rays; facets = half_line_is_read.facets; cones = refl }

-- ---- the far face
not_far : ¬ (pos 1 ≡ pos 0)
not_far e = omega (arith, ints)

far_at : (j : ℕ) → Contains (0 ∷ []) j ↔ ((j < length half_line) × (entry (ray half_line j) 0 ≡ pos 0))
far_at j = (λ h. to j (among_Contains (0 ∷ []) h), λ h. from j h.0 h.1)
  where
    to : (j : ℕ) → Among j (0 ∷ []) → (j < length half_line) × (entry (ray half_line j) 0 ≡ pos 0)
    to zero i = (omega arith, refl)
    to (suc j) (there i) = elim i [ ]

    first : Among {X = ℕ} 0 (0 ∷ [])
    first = here

    from : (j : ℕ) → j < length half_line → entry (ray half_line j) 0 ≡ pos 0 → Contains (0 ∷ []) j
    from zero l e = Contains_among first
    from (suc zero) l e = absurd (not_far e)
    from (suc (suc j)) l e = absurd (omega arith)

first_is_far : FirstIsFar first_orders
unfolding first_orders
first_is_far = record { js = 0 ∷ []; places = refl; ascending = λ i j d l m. absurd (omega arith); far = far_at }

-- the vertex is not far
same_first : (j k : ℕ) (js : List ℕ) → pos k ∷ [] ≡ map pos (j ∷ js) → j ≡ k
same_first j k js e = cc

not_first : FirstIsFar turned_orders → ⊥
unfolding turned_orders
not_first h = by h.js h.places h.far
  where
    by : (js : List ℕ) → pos 0 ∷ [] ≡ map pos js → ((j : ℕ) → Contains js j ↔ ((j < length turned_orders.rays) × (entry (ray turned_orders.rays j) 0 ≡ pos 0))) → ⊥
    by [] e far = cc
    by (j ∷ js) e far = not_far ((far 0).0 (subst (λ k. Contains (j ∷ js) k) (same_first j 0 js e) (Contains_among here))).1

pub orders_read : OrdersAreRead
orders_read = record {
  in_some = record { orders = first_orders; are_orders = are_first; holds = first_is_far };
  not_in_all = λ all. not_first (all turned_orders are_turned);
  number = record { rays = refl; facets = refl };
  truth = record { rays = refl; facets = refl };
  fan = record { rays = refl; facets = refl };
  of_rays = λ n. true≢false n.rays;
  of_facets = λ n. true≢false n.facets;
  of_cones = λ n. true≢false n.rays;
}
