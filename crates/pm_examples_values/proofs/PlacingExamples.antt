-- The examples of triangulations of the square hold.
use Rattle.pm_vector.proofs.ConeLaws.{none_to_zero}
use Rattle.pm_vector.proofs.Lists.{all_at, among_All, here}
use Rattle.pm_vector.proofs.RowLaws.{entry-plus, entry-times}
use Rattle.pm_vector.specs.Rows.{Row}
use Rattle.pm_examples_values.proofs.DimensionExamples.{no_lineality}
use Rattle.pm_examples_values.specs.Examples.{square_thing}
use Rattle.pm_examples_values.specs.PlacingExamples.{TriangulationsAreRead}
use Rattle.pm_examples_values.specs.RayExamples.{SquareHas}
use Rattle.pm_geom.proofs.Square.{pointed}
use Rattle.pm_geom.specs.Examples.{square}
use Rattle.pm_geom.specs.Triangulations.{IsTriangulation}
use Rattle.pm_laws_placing.proofs.Examples.{square_is_triangulated}
use Rattle.pm_laws_placing.specs.Examples.{lower, upper}
use Rattle.pm_props.specs.declared.property.PropId.TheVariants.{PlacingTriangulation}
use Rattle.pm_types.specs.Right.{InLines, IsBasis}
use Rattle.pm_types.specs.Values.{sets}
use Rattle.std.proofs.Common.{arith, refl, subst, sym}
use Rattle.std.proofs.lemmas.Int.{ints}
use Rattle.std.specs.List.{AllPairs}
use Rattle.std.specs.Prelude.{List, [], length, suc, zero, ℕ, ◌∷◌, ◌≡◌}
use lib.IntN.{pos}

-- no row spans the lineality of the square
no_row_spans : (K : List Row) → IsBasis 3 (InLines square_thing) K → K ≡ []
no_row_spans [] b = refl
no_row_spans (k ∷ K) b =
    let z = none_to_zero k ((pointed k (all_at (λ (x : Row). length x ≡ 3) here b.cols)).0 (among_All (InLines square_thing) here b.inside)) in
    let e = b.independent (pos 1 ∷ []) (λ i. let q = z i in simp (entry-plus, entry-times) (omega (arith, ints))) 0 (omega arith) in
    absurd (omega (arith, ints))

triangulates : (T : List (List ℕ)) → SquareHas PlacingTriangulation (sets T 4) → IsTriangulation 3 square [] T
triangulates T h = subst (λ K. IsTriangulation 3 square K T) (no_row_spans h.1.lines h.1.basis) h.1.triangulation

-- two sets that differ
apart : AllPairs (λ r s. ¬ (r ≡ s)) (lower ∷ upper ∷ [])
apart zero zero d l m = absurd (omega arith)
apart zero (suc zero) d l m = λ e. cc
apart zero (suc (suc j)) d l m = absurd (omega arith)
apart (suc i) zero d l m = absurd (omega arith)
apart (suc i) (suc zero) d l m = absurd (omega arith)
apart (suc i) (suc (suc j)) d l m = absurd (omega arith)

pub triangulations_are_read : TriangulationsAreRead
triangulations_are_read = record {
  two = (refl, record { different = apart; lines = no_lineality.rows; basis = no_lineality.basis; triangulation = subst (λ K. IsTriangulation 3 square K (lower ∷ upper ∷ [])) (sym (no_row_spans no_lineality.rows no_lineality.basis)) square_is_triangulated.two });
  one = λ h. square_is_triangulated.one (triangulates (lower ∷ []) h);
  twice = λ h. h.1.different 1 2 [] (omega arith) (omega arith) refl;
  overlapping = λ h. square_is_triangulated.overlapping (triangulates (lower ∷ (0 ∷ 1 ∷ 3 ∷ []) ∷ upper ∷ []) h);
  quadrangle = λ h. square_is_triangulated.quadrangle (triangulates ((0 ∷ 1 ∷ 2 ∷ 3 ∷ []) ∷ []) h);
  more_columns = λ h. let e : 5 ≡ 4 = h.0 in omega arith;
}
