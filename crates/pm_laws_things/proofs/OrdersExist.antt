-- Each thing has orders, and what speaks of none is right in all or in none.
use Rattle.pm_vector.proofs.Lists.{All_among, Any_among, Contains_among, among_All}
use Rattle.pm_vector.specs.Cones.{InCone, InSpan}
use Rattle.pm_vector.specs.Rows.{Row}
use Rattle.pm_geom.proofs.Facets.{facet_rows_cut_out}
use Rattle.pm_geom.proofs.Reduce.{extremes_generate}
use Rattle.pm_geom.specs.Cones.{InLineality, IsExtremeRay, SameModulo}
use Rattle.pm_geom.specs.Things.{AreConeOrders, AreFanOrders, IsConeThing, IsFanThing, Orders}
use Rattle.pm_laws_normal_fans.proofs.Places.{among_range, from_zero, range_once}
use Rattle.pm_laws_things.proofs.FanRays.{HasRays, apart_pairs, has_rays}
use Rattle.pm_laws_things.specs.Orders.{OrdersExist, SomeOrdersAreAll}
use Rattle.pm_object_type.specs.declared.object_type.ObjectType.TheVariants.{Cone, Fan, Polytope}
use Rattle.pm_object_type.specs.declared.object_type.ObjectType.{ObjectType}
use Rattle.pm_types.proofs.Frame.{right_in_orders}
use Rattle.pm_types.specs.Things.{AreOrdersOf, IsOfType}
use Rattle.std.proofs.Common.{arith, inl, refl}
use Rattle.std.specs.List.{Any, range_with_len}
use Rattle.std.specs.Prelude.{List, [], length, ℕ, ◌<◌, ◌≡◌}

cone_orders : (n : ℕ) (G L : List Row) → IsConeThing n G L → (o : Orders) × AreConeOrders n G L o
cone_orders n G L h =
    let (V, K, hk, rays, line, gen) = extremes_generate n G L h.generators h.lines in
    let (F, E, he, facets, null, valid, cut) = facet_rows_cut_out n G L h.generators h.lines in
    (record { rays = V; facets = F; cones = [] }, record { rays = rays; facets = facets; cones = refl })

fan_orders : (n : ℕ) (Gs : List (List Row)) (L : List Row) → IsFanThing n Gs L → (o : Orders) × AreFanOrders n Gs L o
fan_orders n Gs L h = (
  record { rays = r.rows; facets = []; cones = range_with_len 0 (length Gs) },
  record {
    each = All_among (λ v. Any (λ G. IsExtremeRay n G L v) Gs) r.rows (λ v i. (r.each v i).0);
    all = All_among (λ G. (x : Row) → IsExtremeRay n G L x → Any (λ v. SameModulo n (InSpan L) x v) r.rows) Gs
        (λ G i x e. let (v, j, s) = r.all G i x e in Any_among (λ v. SameModulo n (InSpan L) x v) j s);
    once = apart_pairs n L h.lines r.rows r.apart;
    facets = refl;
    places = All_among (λ i. i < length Gs) (range_with_len 0 (length Gs)) (λ k i. let l = (among_range 0 (length Gs) i).1 in omega arith);
    every = λ k l. Contains_among (from_zero (length Gs) k l);
    places_once = range_once 0 (length Gs);
  },
)
  where
    r : HasRays n L h.lines Gs
    r = has_rays n L h.lines Gs (λ G i. (among_All (λ H. IsConeThing n H L) i h.cones).generators)
        (λ G i. among_All (λ H. (x : Row) → length x ≡ n → InLineality (InCone H L) x → InSpan L x) i h.lineality)

orders_of : (of : ObjectType) (n : ℕ) (G L : List Row) (Gs : List (List Row)) → IsOfType of n G L Gs → (o : Orders) × AreOrdersOf of n G L Gs o
orders_of Polytope n G L Gs h = cone_orders n G L h.0.cone
orders_of Cone n G L Gs h = cone_orders n G L h.0
orders_of Fan n G L Gs h = fan_orders n Gs L h.0

pub orders_exist : OrdersExist
orders_exist t h = orders_of t.of t.cols t.generators t.lines t.cones h.kind

pub some_orders_are_all : SomeOrdersAreAll
some_orders_are_all p n v t c h = (
  λ s o are. right_in_orders p v t s.orders o c (record { rays = inl n.rays; facets = inl n.facets; cones = inl n.facets }) s.holds,
  λ all. let (o, are) = orders_exist t h in record { orders = o; are_orders = are; holds = all o are },
)
