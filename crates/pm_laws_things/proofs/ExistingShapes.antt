-- There are cubes, simplices, cross-polytopes and cyclic polytopes.
use Rattle.pm_vector.proofs.ConeLaws.{in_generator, none_to_zero}
use Rattle.pm_vector.proofs.Lists.{Among, here}
use Rattle.pm_vector.specs.Cones.{InCone}
use Rattle.pm_vector.specs.Rows.{IsZero, Row, entry}
use Rattle.pm_build.proofs.PaddedRows.{nothing_at}
use Rattle.pm_build.proofs.Vectors.{corners_cols, curve_cols, opposite_cols}
use Rattle.pm_build.specs.Rows.{curve_points, headed, opposite_units, simplex_corners}
use Rattle.pm_geom.proofs.Polar.{cut_at, cut_from}
use Rattle.pm_laws_things.proofs.Points.{first_generated}
use Rattle.pm_laws_things.proofs.ShapeLaws.{cube_from, cube_to, headed_cols, headed_first}
use Rattle.pm_laws_things.proofs.SomeThings.{origin, origin_cols, some_cut, some_polytope}
use Rattle.pm_laws_things.specs.Built.{InCube, IsCube, IsHull}
use Rattle.pm_laws_things.specs.Existence.{ShapesExist, SomeThing}
use Rattle.std.proofs.Common.{ap, arith, inl, inr, refl}
use Rattle.std.proofs.lemmas.Int.{ints}
use Rattle.std.specs.Prelude.{List, [], length, map, suc, ℕ, ◌-◌, ◌≤◌, ◌∷◌, ◌≡◌, ◌⊎◌}
use lib.IntN.{pos}
use lib.Signed.{◌<ℤ◌}
use Rattle.pm_limits.specs.Limits.{most_dimensions}

-- ---- convex hulls
hull_proper : (d : ℕ) (V : List Row) → ((v : Row) → Among v V → length v ≡ d)
    → ((x : Row) → length x ≡ suc d → InCone (map headed V) [] x → IsZero x) ⊎ ((x : Row) × (length x ≡ suc d) × InCone (map headed V) [] x × (pos 0 <ℤ entry x 0))
hull_proper d [] lengths = inl (λ x lx h. none_to_zero x h)
hull_proper d (v ∷ V) lengths = inr (headed v, ap suc (lengths v here), in_generator here, omega (arith, ints))

some_hull : (d : ℕ) (V : List Row) → d ≤ most_dimensions → ((v : Row) → Among v V → length v ≡ d) → SomeThing (IsHull d V)
some_hull d V few lengths =
    some_polytope (IsHull d V) (suc d) (map headed V) [] (omega arith) (omega arith)
    (record {
      cone = record { generators = headed_cols (suc d) d V refl lengths; lines = tt };
      first = λ x lx h. first_generated (map headed V) (headed_first V) x h;
      proper = hull_proper d V lengths;
    })
    (record { of = refl; cols = refl; points = λ x lx up. (λ h. h, λ h. h) })

-- ---- the cube
origin_inside : (d : ℕ) → InCube d (origin (suc d))
origin_inside d = record { within = λ i l. let e : entry (origin (suc d)) (suc i) ≡ pos 0 = nothing_at (suc d - 1) i in let f : entry (origin (suc d)) 0 ≡ pos 1 = refl in (omega (arith, ints), omega (arith, ints)) }

some_cube : (d : ℕ) → d ≤ most_dimensions → SomeThing (IsCube d)
some_cube d few =
    let V = opposite_units d d in
    let lp = origin_cols (suc d) (omega arith) in
    some_cut (InCube d) (suc d) (omega arith) (omega arith) (map headed V) (headed_cols (suc d) d V refl (opposite_cols d))
    (λ x lx up. (λ c. cut_from (map headed V) x (cube_to d x lx c), λ s. cube_from d x lx (λ a i. cut_at x i s)))
    (origin (suc d)) lp (omega (arith, ints)) (cut_from (map headed V) (origin (suc d)) (cube_to d (origin (suc d)) lp (origin_inside d)))

pub shapes_exist : ShapesExist
shapes_exist = record {
  cube = some_cube;
  simplex = λ d few. some_hull d (simplex_corners d) few (corners_cols d);
  cross = λ d few. some_hull d (opposite_units d d) few (opposite_cols d);
  cyclic = λ d n few. some_hull d (curve_points d n) few (curve_cols d n);
}
