-- The normal fans of the square and of a point.
use Rattle.pm_vector.proofs.ConeLaws.{in_generator, none_from_zero}
use Rattle.pm_vector.proofs.Lists.{All_among, Among, Any_among, Contains_among, among_Any, here, there}
use Rattle.pm_vector.proofs.Ring.{ring}
use Rattle.pm_vector.proofs.RowLaws.{dot_comm, entry-plus}
use Rattle.pm_vector.proofs.Signs.{mul_nonneg, weaken}
use Rattle.pm_vector.specs.Cones.{InCone, InSpan}
use Rattle.pm_vector.specs.Rows.{HasCols, IsZero, Row, dot, entry, plus, times}
use Rattle.pm_geom.proofs.Apart.{apart}
use Rattle.pm_geom.proofs.Lineality.{valid_generated}
use Rattle.pm_geom.proofs.Reduce.{same_modulo_as}
use Rattle.pm_geom.proofs.ShortRows.{by_three, by_two, first_entry}
use Rattle.pm_geom.proofs.Square.{square_is_read}
use Rattle.pm_geom.proofs.ValidRows.{null_in}
use Rattle.pm_geom.specs.Cones.{IsValid, SameModulo, Vanishes}
use Rattle.pm_geom.specs.Examples.{edges, pair, square, triple}
use Rattle.pm_laws_normal_fans.proofs.ExampleRefinements.{on_line}
use Rattle.pm_laws_normal_fans.proofs.ExampleVertices.{corner, least_at, on_cone, opposed, square_polytope}
use Rattle.pm_laws_normal_fans.proofs.FacetFans.{normal_fan_of_facets}
use Rattle.pm_laws_normal_fans.proofs.NormalFans.{pointed, some_vertex}
use Rattle.pm_laws_normal_fans.proofs.SumLaws.{least_multiple, line_zero}
use Rattle.pm_laws_normal_fans.specs.Examples.{NormalFansAreRead, fan, five, minus, quadrants, unit_square, whole_line}
use Rattle.pm_laws_normal_fans.specs.FaceFans.{AreHull, AreOrdersOf}
use Rattle.pm_laws_normal_fans.specs.Fans.{Fan, InPlace}
use Rattle.pm_laws_normal_fans.specs.NormalFans.{IsConeOfVertex, IsNormalFan}
use Rattle.pm_laws_normal_fans.specs.Shadows.{AreUsed, IsShadowFan}
use Rattle.pm_laws_normal_fans.specs.Sums.{In, IsBoundedPolytope, IsLeastAt, IsVertex, value}
use Rattle.std.proofs.Common.{arith, inr, refl, ◌∙◌}
use Rattle.std.proofs.lemmas.Int.{ints}
use Rattle.std.specs.List.{Any, Contains}
use Rattle.std.specs.Prelude.{List, [], length, suc, zero, ℕ, ◌<◌, ◌↔◌, ◌∷◌, ◌≡◌}
use lib.IntN.{pos, ℤ, ◌*ℤ◌}
use lib.Signed.{le_z_yes, lt_z_yes, ◌<ℤ◌, ◌≤ℤ◌}

-- ---- the rows of the square
pub square_orders : AreOrdersOf 3 unit_square square edges
square_orders = record { rays = square_is_read.order; facets = square_is_read.facets }

-- only 0 vanishes on the square
vanishing_zero : (a b c : ℤ) → Vanishes 3 square [] (a ∷ b ∷ c ∷ []) → IsZero (a ∷ b ∷ c ∷ [])
vanishing_zero a b c v zero = let e = simp ring at (v.holds (triple 1 0 0) refl (in_generator here)) in omega (arith, ints)
vanishing_zero a b c v (suc zero) =
    let e = simp ring at (v.holds (triple 1 0 0) refl (in_generator here)) in
    let f = simp ring at (v.holds (triple 1 1 0) refl (in_generator (there (there here)))) in
    omega (arith, ints)
vanishing_zero a b c v (suc (suc zero)) =
    let e = simp ring at (v.holds (triple 1 0 0) refl (in_generator here)) in
    let f = simp ring at (v.holds (triple 1 0 1) refl (in_generator (there here))) in
    omega (arith, ints)
vanishing_zero a b c v (suc (suc (suc i))) = refl

pub zero_product : (a x : Row) → InSpan [] a → dot a x ≡ pos 0
zero_product a x h = dot_comm a x ∙ null_in x [] [] (λ g i. elim i [ ]) (λ l i. elim i [ ]) h

pub square_hull : AreHull 3 unit_square []
square_hull = record {
  cols = tt;
  same = λ a la. (
    λ v. none_from_zero a (by_three (λ a. Vanishes 3 square [] a → IsZero a) vanishing_zero a la v),
    λ h. record { cols = la; holds = λ x lx k. zero_product a x h },
  );
}

-- each edge holds a vertex, and no two are alike
abbrev HasVertex : Row → Type 0
HasVertex b = Any (λ a. dot b a ≡ pos 0) square

on_edge : (b : Row) → Among b edges → HasVertex b
on_edge b here = Any_among (λ a. dot b a ≡ pos 0) {xs = square} here refl
on_edge b (there here) = Any_among (λ a. dot b a ≡ pos 0) {xs = square} here refl
on_edge b (there (there here)) = Any_among (λ a. dot b a ≡ pos 0) {xs = square} (there here) refl
on_edge b (there (there (there here))) = Any_among (λ a. dot b a ≡ pos 0) {xs = square} (there (there here)) refl
on_edge b (there (there (there (there i)))) = elim i [ ]

square_cols : HasCols 3 square
square_cols = square_is_read.polytope.cone.generators

pub square_used : AreUsed 3 edges [] square edges
square_used = record {
  each = All_among (λ b. Contains edges b × HasVertex b) edges (λ b i. (Contains_among i, on_edge b i));
  all = All_among (λ b. HasVertex b → Contains edges b) edges (λ b i h. Contains_among i);
  once = λ i j d l k s. square_orders.facets.once i j d l k (same_modulo_as 3 (InCone edges []) (IsValid 3 square [])
      (λ a la h. (valid_generated 3 square [] square_cols tt edges [] tt square_orders.facets square_hull.same a la).1 h)
      (λ a la h. (valid_generated 3 square [] square_cols tt edges [] tt square_orders.facets square_hull.same a la).0 h) s);
}

-- ---- its normal fan
pub both : IsNormalFan 3 (In unit_square) (fan quadrants) × IsShadowFan 2 edges [] square edges
both = normal_fan_of_facets 2 unit_square square edges [] edges square_polytope square_orders square_hull square_used

quadrant : (a b : ℤ) → pos 0 ≤ℤ a → pos 0 ≤ℤ b → InPlace (fan quadrants) 0 (a ∷ b ∷ [])
quadrant a b h k = record { m = pos 1; c = a ∷ b ∷ []; d = []; positive = lt_z_yes tt; not_negative = (h, (k, tt)); same = record { at = at } }
  where
    at : (i : ℕ) → entry (times (pos 1) (a ∷ b ∷ [])) i ≡ entry (plus (plus (times a (pair 1 0)) (plus (times b (pair 0 1)) [])) []) i
    at zero = simp ring (omega (arith, ints))
    at (suc zero) = simp ring (omega (arith, ints))
    at (suc (suc i)) = refl

at_corner : IsConeOfVertex 3 (In unit_square) (triple 1 0 0) (fan quadrants) 0
at_corner c l = by_two (λ c. InPlace (fan quadrants) 0 c ↔ IsLeastAt 3 (In unit_square) (triple 1 0 0) c) both_ways c (omega arith)
  where
    least : (a b : ℤ) → InPlace (fan quadrants) 0 (a ∷ b ∷ []) → IsLeastAt 3 (In unit_square) (triple 1 0 0) (a ∷ b ∷ [])
    least a b h = record { cols = refl; least = by_three (λ x. InCone square [] x → pos 0 <ℤ entry x 0 → (entry x 0 *ℤ value (a ∷ b ∷ []) (triple 1 0 0)) ≤ℤ (pos 1 *ℤ value (a ∷ b ∷ []) x)) go }
      where
        go : (p q r : ℤ) → InCone square [] (p ∷ q ∷ r ∷ []) → pos 0 <ℤ p → (p *ℤ value (a ∷ b ∷ []) (triple 1 0 0)) ≤ℤ (pos 1 *ℤ value (a ∷ b ∷ []) (p ∷ q ∷ r ∷ []))
        go p q r i up =
            let ea = simp ring at (on_cone (pair 1 0) (pair 1 0 ∷ pair 0 1 ∷ []) tt (a ∷ b ∷ []) h) in
            let ha : pos 0 ≤ℤ a = omega (arith, ints) in
            let eb = simp ring at (on_cone (pair 0 1) (pair 1 0 ∷ pair 0 1 ∷ []) tt (a ∷ b ∷ []) h) in
            let hb : pos 0 ≤ℤ b = omega (arith, ints) in
            let eq = simp ring at (on_cone (triple 0 1 0) square tt (p ∷ q ∷ r ∷ []) i) in
            let hq : pos 0 ≤ℤ q = omega (arith, ints) in
            let er = simp ring at (on_cone (triple 0 0 1) square tt (p ∷ q ∷ r ∷ []) i) in
            let hr : pos 0 ≤ℤ r = omega (arith, ints) in
            let m = mul_nonneg ha hq in
            let n = mul_nonneg hb hr in
            simp ring (omega (arith, ints))

    both_ways : (a b : ℤ) → InPlace (fan quadrants) 0 (a ∷ b ∷ []) ↔ IsLeastAt 3 (In unit_square) (triple 1 0 0) (a ∷ b ∷ [])
    both_ways a b = (
      least a b,
      λ h.
          let p = simp ring at (h.least (triple 1 1 0) refl (in_generator (there (there here))) (lt_z_yes tt)) in
          let q = simp ring at (h.least (triple 1 0 1) refl (in_generator (there here)) (lt_z_yes tt)) in
          quadrant a b (omega (arith, ints)) (omega (arith, ints)),
    )

at_opposite : ¬ (IsConeOfVertex 3 (In unit_square) (triple 1 0 0) (fan quadrants) 3)
at_opposite h = apart ((pos 0 ∷ minus ∷ []) ∷ (minus ∷ pos 0 ∷ []) ∷ []) [] (minus ∷ minus ∷ []) (pair 1 1) tt tt tt
    ((h (pair 1 1) refl).1 ((at_corner (pair 1 1) refl).0 (quadrant (pos 1) (pos 1) (le_z_yes tt) (le_z_yes tt))))

-- ---- what is no normal fan
abbrev three_quadrants : Fan
three_quadrants = fan ((pair 1 0 ∷ pair 0 1 ∷ []) ∷ (pair 1 0 ∷ (pos 0 ∷ minus ∷ []) ∷ []) ∷ (pair 0 1 ∷ (minus ∷ pos 0 ∷ []) ∷ []) ∷ [])

three : ¬ (IsNormalFan 3 (In unit_square) three_quadrants)
three n = let w = n.all (triple 1 1 1) (corner (triple 1 1 1) (there (there (there here))) (lt_z_yes tt)) in go w.0 w.1 w.2
  where
    go : (k : ℕ) → k < 3 → ¬ (IsConeOfVertex 3 (In unit_square) (triple 1 1 1) three_quadrants k)
    go zero l c = apart (pair 1 0 ∷ pair 0 1 ∷ []) [] (pair 1 1) (minus ∷ minus ∷ []) tt tt tt ((c (minus ∷ minus ∷ []) refl).1 opposed)
    go (suc zero) l c = apart (pair 1 0 ∷ (pos 0 ∷ minus ∷ []) ∷ []) [] (pair 1 0) (minus ∷ minus ∷ []) tt tt tt ((c (minus ∷ minus ∷ []) refl).1 opposed)
    go (suc (suc zero)) l c = apart (pair 0 1 ∷ (minus ∷ pos 0 ∷ []) ∷ []) [] (pair 0 1) (minus ∷ minus ∷ []) tt tt tt ((c (minus ∷ minus ∷ []) refl).1 opposed)
    go (suc (suc (suc k))) l c = absurd (omega arith)

-- what is least at a corner of which v is a multiple, is least at v
like_corner : (v w : Row) → SameModulo 3 (In unit_square) v w → (c : Row) → IsLeastAt 3 (In unit_square) w c → IsLeastAt 3 (In unit_square) v c
like_corner v w s c h =
    let tip = pointed 3 unit_square square_polytope in
    least_multiple 3 (In unit_square) tip w v c s.p s.k (weaken s.p_positive) s.k_positive
    (record { at = λ i. let q = s.same.at i in let o = line_zero 3 (In unit_square) tip s.w s.cols s.line i in let f = simp (entry-plus, o) at q in omega (arith, ints) }) h

abbrev one_ray : List Row
one_ray = pair 1 0 ∷ []

-- at each corner an objective is least that is not on that ray
least_off_ray : (w : Row) → Among w square → (c : Row) × (length c ≡ 2) × IsLeastAt 3 (In unit_square) w c × ¬ (InCone one_ray [] c)
least_off_ray w here = (
  pair 0 1,
  refl,
  least_at (triple 0 0 1) (triple 1 0 0) (pair 0 1) refl tt (by_three _ (λ a b c. simp ring (omega (arith, ints)))) (le_z_yes tt),
  apart one_ray [] (pos 0 ∷ minus ∷ []) (pair 0 1) tt tt tt,
)
least_off_ray w (there here) = (
  pos 0 ∷ minus ∷ [],
  refl,
  least_at (pos 1 ∷ pos 0 ∷ minus ∷ []) (triple 1 0 1) (pos 0 ∷ minus ∷ []) refl tt (by_three _ (λ a b c. simp ring (omega (arith, ints)))) (le_z_yes tt),
  apart one_ray [] (pair 0 1) (pos 0 ∷ minus ∷ []) tt tt tt,
)
least_off_ray w (there (there here)) = (
  pair 0 1,
  refl,
  least_at (triple 0 0 1) (triple 1 1 0) (pair 0 1) refl tt (by_three _ (λ a b c. simp ring (omega (arith, ints)))) (le_z_yes tt),
  apart one_ray [] (pos 0 ∷ minus ∷ []) (pair 0 1) tt tt tt,
)
least_off_ray w (there (there (there here))) = (
  pos 0 ∷ minus ∷ [],
  refl,
  least_at (pos 1 ∷ pos 0 ∷ minus ∷ []) (triple 1 1 1) (pos 0 ∷ minus ∷ []) refl tt (by_three _ (λ a b c. simp ring (omega (arith, ints)))) (le_z_yes tt),
  apart one_ray [] (pair 0 1) (pos 0 ∷ minus ∷ []) tt tt tt,
)
least_off_ray w (there (there (there (there i)))) = elim i [ ]

with_ray : ¬ (IsNormalFan 3 (In unit_square) (fan (one_ray ∷ quadrants)))
with_ray n =
    let (v, vv, c) = n.each 0 (omega arith) in
    let (w, iw, s) = among_Any (λ w. SameModulo 3 (In unit_square) v w) square (square_orders.rays.all v vv.extreme) in
    let (b, lb, h, off) = least_off_ray w iw in
    off ((c b (omega arith)).1 (like_corner v w s b h))

-- ---- a point
on_five : (x : Row) → InCone (pair 1 5 ∷ []) [] x → dot (pos 5 ∷ minus ∷ []) x ≡ pos 0
on_five x h = null_in (pos 5 ∷ minus ∷ []) (pair 1 5 ∷ []) [] only (λ l i. elim i [ ]) h
  where
    only : (g : Row) → Among g (pair 1 5 ∷ []) → dot (pos 5 ∷ minus ∷ []) g ≡ pos 0
    only g here = refl
    only g (there i) = elim i [ ]

-- each objective is least at each row of the cone over the point
all_least : (v c : Row) → length v ≡ 2 → In five v → length c ≡ 1 → IsLeastAt 2 (In five) v c
all_least v [] lv iv l = absurd (omega arith)
all_least v (a ∷ b ∷ c) lv iv l = absurd (omega arith)
all_least v (a ∷ []) lv iv l = record { cols = refl; least = λ x lx ix up. by_two (λ v. In five v → (entry x 0 *ℤ value (a ∷ []) v) ≤ℤ (entry v 0 *ℤ value (a ∷ []) x)) (λ p q iv. by_two (λ x. In five x → (entry x 0 *ℤ value (a ∷ []) (p ∷ q ∷ [])) ≤ℤ (p *ℤ value (a ∷ []) x)) (go p q iv) x lx ix) v lv iv }
  where
    go : (p q : ℤ) → In five (p ∷ q ∷ []) → (r s : ℤ) → In five (r ∷ s ∷ []) → (r *ℤ value (a ∷ []) (p ∷ q ∷ [])) ≤ℤ (p *ℤ value (a ∷ []) (r ∷ s ∷ []))
    go p q iv r s ix =
        let e = simp ring at (on_five (p ∷ q ∷ []) iv) in
        let f = simp ring at (on_five (r ∷ s ∷ []) ix) in
        let q5 : q ≡ pos 5 *ℤ p = omega (arith, ints) in
        let s5 : s ≡ pos 5 *ℤ r = omega (arith, ints) in
        simp (q5, s5, ring) (omega (arith, ints))

five_polytope : IsBoundedPolytope 2 five
five_polytope = record {
  thing = record { cone = record { generators = (refl, tt); lines = tt }; first = λ x l h. first_entry (pair 1 5 ∷ []) [] tt tt x h; proper = inr (pair 1 5, refl, in_generator here, lt_z_yes tt) };
  bounded = record { only_zero = by_two (λ x. In five x → entry x 0 ≡ pos 0 → IsZero x) zero_row };
  some = (pair 1 5, refl, in_generator here, lt_z_yes tt);
}
  where
    zero_row : (p q : ℤ) → In five (p ∷ q ∷ []) → p ≡ pos 0 → IsZero (p ∷ q ∷ [])
    zero_row p q h o zero = o
    zero_row p q h o (suc zero) = let e = simp ring at (on_five (p ∷ q ∷ []) h) in omega (arith, ints)
    zero_row p q h o (suc (suc i)) = refl

point : IsNormalFan 2 (In five) whole_line
point = record { each = each; all = λ v vv. (0, omega arith, cone_of v vv) }
  where
    cone_of : (v : Row) → IsVertex 2 (In five) v → IsConeOfVertex 2 (In five) v whole_line 0
    cone_of v vv c l = (λ h. all_least v c vv.extreme.cols vv.extreme.inside (omega arith), λ h. on_line c (omega arith))

    each : (k : ℕ) → k < 1 → (v : Row) × IsVertex 2 (In five) v × IsConeOfVertex 2 (In five) v whole_line k
    each zero l = let w = some_vertex 2 five five_polytope in (w.0, w.1, cone_of w.0 w.1)
    each (suc k) l = absurd (omega arith)

pub normal_fans_are_read : NormalFansAreRead
normal_fans_are_read = record {
  at_corner = at_corner;
  at_opposite = at_opposite;
  square = both.0;
  three = three;
  with_ray = with_ray;
  point = point;
}
