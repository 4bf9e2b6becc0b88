-- The rows of the normal fan of the square.
use Rattle.pm_vector.proofs.ConeLaws.{in_generator, in_line}
use Rattle.pm_vector.proofs.Lists.{Among, All_among, Any_among, among_All, among_Any, among_Contains, here, there}
use Rattle.pm_vector.specs.Rows.{Row, dot, entry}
use Rattle.pm_geom.proofs.Apart.{apart}
use Rattle.pm_geom.specs.Cones.{IsExtreme, IsExtremeRay, SameModulo}
use Rattle.pm_geom.specs.Examples.{edges, pair, square, triple}
use Rattle.pm_laws_normal_fans.proofs.ExampleNormalFans.{both, square_hull, square_orders, square_used}
use Rattle.pm_laws_normal_fans.specs.Examples.{ShadowsAreRead, minus, unit_square}
use Rattle.pm_laws_normal_fans.specs.FaceFans.{AreHull, AreOrdersOf}
use Rattle.pm_laws_normal_fans.specs.Shadows.{AreUsed, IsShadowFan, shadow_fan}
use Rattle.pm_laws_normal_fans.specs.Sums.{In}
use Rattle.std.proofs.Common.{arith, refl}
use Rattle.std.proofs.lemmas.Int.{ints}
use Rattle.std.specs.List.{Any, Contains}
use Rattle.std.specs.Prelude.{List, [], ◌∷◌, ◌≡◌}
use Rattle.pm_vector.specs.Cones.{InSpan}
use lib.IntN.{pos}

no_orders : ¬ (AreOrdersOf 3 unit_square edges square)
no_orders o = let i : Among (triple 0 1 0) edges = here in apart square [] (pos 1 ∷ minus ∷ pos 0 ∷ []) (triple 0 1 0) tt tt tt (among_All (λ v. IsExtreme 3 (In unit_square) v) i o.rays.each).inside

no_hull : ¬ (AreHull 3 unit_square (triple 0 0 1 ∷ []))
no_hull h = let e : pos 1 ≡ pos 0 = ((h.same (triple 0 0 1) refl).1 (in_line here)).holds (triple 1 0 1) refl (in_generator (there here)) in omega (arith, ints)

abbrev two_corners : List Row
two_corners = triple 1 0 0 ∷ triple 1 0 1 ∷ []

abbrev east : Row
east = pos 1 ∷ minus ∷ pos 0 ∷ []

unused : ¬ (AreUsed 3 edges [] two_corners edges)
unused u =
    let i : Among east edges = there (there (there here)) in
    let w = among_Any (λ a. dot east a ≡ pos 0) two_corners (among_All (λ b. Contains edges b × Any (λ a. dot b a ≡ pos 0) two_corners) i u.each).1 in
    other w.0 w.1 w.2
  where
    other : (a : Row) → Among a two_corners → dot east a ≡ pos 0 → ⊥
    other a here e = omega (arith, ints)
    other a (there here) e = omega (arith, ints)
    other a (there (there i)) e = elim i [ ]

lacks : ¬ (AreUsed 3 edges [] square (triple 0 1 0 ∷ []))
lacks u =
    let i : Among (triple 0 0 1) edges = there here in
    let o : Among (triple 1 0 0) square = here in
    let c = among_All (λ b. Any (λ a. dot b a ≡ pos 0) square → Contains (triple 0 1 0 ∷ []) b) i u.all (Any_among (λ a. dot (triple 0 0 1) a ≡ pos 0) o refl) in
    let i : Among (triple 0 0 1) (triple 0 1 0 ∷ []) = among_Contains (triple 0 1 0 ∷ []) c in
    let e : pos 0 ≡ pos 1 = among_All (λ b. entry b 1 ≡ pos 1) i (All_among (λ b. entry b 1 ≡ pos 1) (triple 0 1 0 ∷ []) only) in
    omega (arith, ints)
  where
    only : (b : Row) → Among b (triple 0 1 0 ∷ []) → entry b 1 ≡ pos 1
    only b here = refl
    only b (there i) = elim i [ ]

no_shadows : ¬ (IsShadowFan 2 edges [] square [])
no_shadows f =
    let extreme : IsExtremeRay 2 (pair 1 0 ∷ pair 0 1 ∷ []) [] (pair 1 0) = (both.1.rays 0 0 (omega arith) (omega arith)).1 refl in
    let i : Among (pair 1 0 ∷ pair 0 1 ∷ []) (shadow_fan edges [] square).cones = here in
    let w = among_Any (λ v. SameModulo 2 (InSpan []) (pair 1 0) v) [] (among_All (λ G. (r : Row) → IsExtremeRay 2 G [] r → Any (λ v. SameModulo 2 (InSpan []) r v) []) i f.orders.all (pair 1 0) extreme) in
    none w.0 w.1
  where
    none : (v : Row) → Among v [] → ⊥
    none v i = elim i [ ]

pub shadows_are_read : ShadowsAreRead
shadows_are_read = record {
  without_first = refl;
  at_corner = refl;
  cones = refl;
  orders = square_orders;
  no_orders = no_orders;
  hull = square_hull;
  no_hull = no_hull;
  used = square_used;
  unused = unused;
  lacks = lacks;
  shadows = both.1;
  no_shadows = no_shadows;
}
