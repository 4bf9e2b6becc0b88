-- The greatest value at the solutions of half-spaces is that of the thing that these cut out.
use Rattle.pm_vector.proofs.Lists.{all_append, append_all}
use Rattle.pm_vector.proofs.RowLaws.{dot_comm}
use Rattle.pm_vector.specs.Cones.{InCone}
use Rattle.pm_vector.specs.Numbers.{Ratio}
use Rattle.pm_vector.specs.Rows.{HasCols, Row, dot, entry}
use Rattle.pm_clients_lp.proofs.Greatest.{fit, fit_length, fit_same, greatest_as}
use Rattle.pm_vector.proofs.ConeLaws.{in_same}
use Rattle.pm_dd.specs.Fronts.{HalfSpaces}
use Rattle.pm_vector.proofs.DotLaws.{dot-unit}
use Rattle.pm_vector.specs.Evidence.{unit}
use Rattle.pm_geom.specs.Programs.{Solves}
use Rattle.pm_incidence.specs.Thinning.{half_spaces}
use Rattle.pm_object_type.specs.declared.object_type.ObjectType.TheVariants.{Polytope}
use Rattle.pm_relations.proofs.Thinning.{solves_as}
use Rattle.pm_types.specs.Programs.{IsGreatest}
use Rattle.pm_types.specs.Right.{CutsOutPolytope, empty, proper}
use Rattle.pm_types.specs.Values.{Extended, finite, minus_infinity, plus_infinity}
use Rattle.std.proofs.Common.{arith, subst, ◌∙◌}
use Rattle.std.proofs.lemmas.Int.{ints}
use Rattle.std.specs.Prelude.{List, [], length, ℕ, ◌<◌, ◌∷◌, ◌↔◌, ◌≡◌}
use lib.IntN.{pos}
use lib.Signed.{◌≤ℤ◌}

pub solves_halves : (A E : List Row) (x : Row) → Solves A E x ↔ HalfSpaces E A x
solves_halves A E x = (λ s. (s.equations, s.inequalities), λ h. record { inequalities = h.1; equations = h.0 })

module _ (n : ℕ) (some : 0 < n) (G L : List Row) (hg : HasCols n G) (hl : HasCols n L) (A E : List Row) (c : List Ratio) (cols : length c ≡ n) where
  first_at : (x : Row) → dot (unit n 0) x ≡ entry x 0
  first_at x = dot_comm (unit n 0) x ∙ dot-unit x n 0 some

  -- x0 >= 0 is added
  with_first : (x : Row) → Solves (half_spaces Polytope n A) E x ↔ (Rattle.pm_types.specs.Right.Solves A E x × (pos 0 ≤ℤ entry x 0))
  with_first x = (
    λ s. let (a, b) = append_all (λ (r : Row). pos 0 ≤ℤ dot r x) A (unit n 0 ∷ []) s.inequalities in ((solves_as A E x).1 (s.equations, a), subst (λ z. pos 0 ≤ℤ z) (first_at x) b.0),
    λ h. let s = (solves_as A E x).0 h.0 in record { inequalities = all_append (λ (r : Row). pos 0 ≤ℤ dot r x) A (unit n 0 ∷ []) s.1 (let e = first_at x in let up = h.1 in omega (arith, ints), tt); equations = s.0 },
  )

  -- so the greatest value at the solutions is that of the polytope
  pub cut_greatest : CutsOutPolytope n (InCone G L) A E → (x : Extended) → IsGreatest (Solves (half_spaces Polytope n A) E) c x → IsGreatest (InCone G L) c x
  cut_greatest (proper w lw sw up eq) x h =
      greatest_as n G L hg hl (Solves (half_spaces Polytope n A) E) (λ y ly. (λ s. (with_first y).1 ((eq y ly).0 s), λ s. (eq y ly).1 ((with_first y).0 s))) c cols x h
  cut_greatest (empty never eq) (finite v) h = absurd (never h.attained.whole (h.attained.cols ∙ cols) ((with_first h.attained.whole).0 h.attained.inside).0 h.attained.first)
  cut_greatest (empty never eq) plus_infinity h = absurd (never h.point (h.point_cols ∙ cols) ((with_first h.point).0 h.point_inside).0 h.first)
  cut_greatest (empty never eq) minus_infinity h = λ y i up.
      let s = fit_same n G L hg hl y i in
      let z = (eq (fit n y) (fit_length n y)).0 (in_same s i) 0 in
      let e = s.at 0 in
      omega (arith, ints)
