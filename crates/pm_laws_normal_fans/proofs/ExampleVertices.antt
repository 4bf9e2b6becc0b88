-- Vertices of the square, and objectives that are least there.
use Rattle.pm_vector.proofs.ConeLaws.{dot_in, in_generator, none_to_zero}
use Rattle.pm_vector.proofs.Lists.{Among, among_All, here}
use Rattle.pm_vector.proofs.Ring.{ring}
use Rattle.pm_vector.proofs.Signs.{mul_nonneg}
use Rattle.pm_vector.specs.Cones.{InCone}
use Rattle.pm_vector.specs.Rows.{IsZero, Row, dot, entry}
use Rattle.pm_geom.proofs.Apart.{not_below, not_below_at, products}
use Rattle.pm_geom.proofs.ShortRows.{by_three}
use Rattle.pm_geom.proofs.Square.{square_is_read}
use Rattle.pm_geom.specs.Cones.{IsExtremeRay}
use Rattle.pm_geom.specs.Examples.{half_line, pair, square, triple}
use Rattle.pm_laws_normal_fans.specs.Examples.{VerticesAreRead, generated, minus, unit_square}
use Rattle.pm_laws_normal_fans.specs.Sums.{IsInhabited, In, IsBounded, IsBoundedPolytope, IsLeastAt, IsVertex, value}
use Rattle.std.proofs.Common.{T, arith, refl}
use Rattle.std.proofs.lemmas.Int.{ints}
use Rattle.std.specs.Prelude.{List, [], length, suc, zero, ◌∷◌, ◌≡◌}
use lib.IntN.{pos, ℤ, ◌*ℤ◌, ◌+ℤ◌}
use lib.Signed.{le_z_yes, lt_z_yes, ◌<ℤ◌, ◌≤ℤ◌}

-- a row that is not negative at the generators is not negative on their cone
pub on_cone : (e : Row) (V : List Row) → T (products not_below e V) → (x : Row) → InCone V [] x → pos 0 ≤ℤ dot e x
on_cone e V t x h = dot_in e V [] (λ g i. not_below_at e i t) (λ l i. elim i [ ]) h

pub square_bounded : IsBounded 3 (In unit_square)
square_bounded = record { only_zero = λ x lx h o. by_three (λ x. InCone square [] x → entry x 0 ≡ pos 0 → IsZero x) zero_row x lx h o }
  where
    zero_row : (a b c : ℤ) → InCone square [] (a ∷ b ∷ c ∷ []) → a ≡ pos 0 → IsZero (a ∷ b ∷ c ∷ [])
    zero_row a b c h o zero = o
    zero_row a b c h o (suc zero) =
        let p = simp ring at (on_cone (triple 0 1 0) square tt (a ∷ b ∷ c ∷ []) h) in
        let q = simp ring at (on_cone (pos 1 ∷ minus ∷ pos 0 ∷ []) square tt (a ∷ b ∷ c ∷ []) h) in
        omega (arith, ints)
    zero_row a b c h o (suc (suc zero)) =
        let p = simp ring at (on_cone (triple 0 0 1) square tt (a ∷ b ∷ c ∷ []) h) in
        let q = simp ring at (on_cone (pos 1 ∷ pos 0 ∷ minus ∷ []) square tt (a ∷ b ∷ c ∷ []) h) in
        omega (arith, ints)
    zero_row a b c h o (suc (suc (suc i))) = refl

pub square_polytope : IsBoundedPolytope 3 unit_square
square_polytope = record { thing = square_is_read.polytope; bounded = square_bounded; some = (triple 1 0 0, refl, in_generator here, lt_z_yes tt) }

-- each generator is a vertex
pub corner : (v : Row) → Among v square → pos 0 <ℤ entry v 0 → IsVertex 3 (In unit_square) v
corner v i up = record { extreme = among_All (IsExtremeRay 3 square []) i square_is_read.vertices; point = up }

unbounded : ¬ (IsBounded 2 (InCone half_line []))
unbounded h = let e : pos 1 ≡ pos 0 = h.only_zero (pair 0 1) refl (in_generator here) refl 1 in omega (arith, ints)

-- ---- what is least
-- where e is the objective less its value at v, and is not negative on the square
pub least_at : (e v c : Row) → suc (length c) ≡ 3 → T (products not_below e square) → ((x : Row) → length x ≡ 3 → (entry v 0 *ℤ value c x) ≡ (entry x 0 *ℤ value c v +ℤ entry v 0 *ℤ dot e x)) → pos 0 ≤ℤ entry v 0 → IsLeastAt 3 (In unit_square) v c
least_at e v c l t same up = record { cols = l; least = λ x lx h ux. let p = mul_nonneg up (on_cone e square t x h) in let q = same x lx in omega (arith, ints) }

pub least : IsLeastAt 3 (In unit_square) (triple 1 0 0) (pair 1 1)
least = least_at (triple 0 1 1) (triple 1 0 0) (pair 1 1) refl tt (by_three _ (λ a b c. simp ring (omega (arith, ints)))) (le_z_yes tt)

pub opposed : IsLeastAt 3 (In unit_square) (triple 1 1 1) (minus ∷ minus ∷ [])
opposed = least_at (pos 2 ∷ minus ∷ minus ∷ []) (triple 1 1 1) (minus ∷ minus ∷ []) refl tt (by_three _ (λ a b c. simp ring (omega (arith, ints)))) (le_z_yes tt)

on_edge : IsLeastAt 3 (In unit_square) (triple 2 0 1) (pair 1 0)
on_edge = least_at (triple 0 1 0) (triple 2 0 1) (pair 1 0) refl tt (by_three _ (λ a b c. simp ring (omega (arith, ints)))) (le_z_yes tt)

greatest : ¬ (IsLeastAt 3 (In unit_square) (triple 1 1 1) (pair 1 1))
greatest h = let e : (pos 1 *ℤ value (pair 1 1) (triple 1 1 1)) ≤ℤ (pos 1 *ℤ value (pair 1 1) (triple 1 0 0)) = h.least (triple 1 0 0) refl (in_generator here) (lt_z_yes tt) in omega (arith, ints)

empty : ¬ (IsInhabited 3 (generated []))
empty (x, l, i, up) = let e = none_to_zero x i 0 in omega (arith, ints)

pub vertices_are_read : VerticesAreRead
vertices_are_read = record {
  value = refl;
  bounded = square_bounded;
  unbounded = unbounded;
  corner = corner (triple 1 0 0) here (lt_z_yes tt);
  midpoint = λ v. square_is_read.midpoint v.extreme;
  direction = λ v. let p : pos 0 <ℤ pos 0 = v.point in omega (arith, ints);
  least = least;
  greatest = greatest;
  opposed = opposed;
  on_edge = on_edge;
  columns = λ h. let e : 4 ≡ 3 = h.cols in omega arith;
  polytope = square_polytope;
  half = λ h. unbounded h.bounded;
  empty = empty;
}
