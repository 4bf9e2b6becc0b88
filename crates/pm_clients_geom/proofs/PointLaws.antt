-- Whether inequalities and equations have a point, by the greatest value of their program.
use Rattle.pm_vector.proofs.Lists.{all_append, append_all}
use Rattle.pm_vector.proofs.RowLaws.{dot_comm}
use Rattle.pm_vector.specs.Rows.{Row, dot, entry}
use Rattle.pm_clients_geom.specs.Points.{HasSolution}
use Rattle.pm_vector.proofs.DotLaws.{dot-unit}
use Rattle.pm_vector.specs.Evidence.{unit}
use Rattle.pm_geom.specs.Programs.{HasNoPoint, IsMaximum, IsWithoutBound}
use Rattle.pm_geom.specs.Programs as programs
use Rattle.pm_vector.specs.Numbers.{Ratio}
use Rattle.pm_incidence.specs.Thinning.{half_spaces}
use Rattle.pm_object_type.specs.declared.object_type.ObjectType.TheVariants.{Polytope}
use Rattle.pm_redund.proofs.Lifted.{objective_length}
use Rattle.pm_simplex.specs.Generated.{no_objective}
use Rattle.pm_relations.proofs.Thinning.{solves_as}
use Rattle.std.proofs.Common.{arith, ◌∙◌}
use Rattle.std.proofs.lemmas.Int.{ints}
use Rattle.std.specs.Prelude.{List, [], length, ℕ, ◌<◌, ◌∷◌, ◌≡◌, ◌↔◌}
use lib.IntN.{pos}
use lib.Signed.{◌<ℤ◌, ◌≤ℤ◌}

module _ (n : ℕ) (A E : List Row) where
  found_point : (x : Row) → length x ≡ n → programs.Solves A E x → pos 0 <ℤ entry x 0 → HasSolution n A E
  found_point x lx s up = record { row = x; cols = lx; solves = (solves_as A E x).1 (s.equations, s.inequalities); first = up }

  pub pointless_has_none : HasNoPoint (programs.Solves A E) → ¬ (HasSolution n A E)
  pointless_has_none h w =
      let s = (solves_as A E w.row).0 w.solves in
      h w.row (record { inequalities = s.1; equations = s.0 }) w.first

  -- a point has x0 >= 0
  module _ (some : 0 < n) where
    first_at : (x : Row) → dot (unit n 0) x ≡ entry x 0
    first_at x = dot_comm (unit n 0) x ∙ dot-unit x n 0 some

    pub with_first : HasSolution n (half_spaces Polytope n A) E ↔ HasSolution n A E
    with_first = (
      λ w. let s = (solves_as (half_spaces Polytope n A) E w.row).0 w.solves in
          record { row = w.row; cols = w.cols; solves = (solves_as A E w.row).1 (s.0, (append_all (λ (a : Row). pos 0 ≤ℤ dot a w.row) A (unit n 0 ∷ []) s.1).0); first = w.first },
      λ w. let s = (solves_as A E w.row).0 w.solves in
          let up : pos 0 ≤ℤ dot (unit n 0) w.row = (let e = first_at w.row in let f = w.first in omega (arith, ints)) in
          record { row = w.row; cols = w.cols; solves = (solves_as (half_spaces Polytope n A) E w.row).1 (s.0, all_append (λ (a : Row). pos 0 ≤ℤ dot a w.row) A (unit n 0 ∷ []) s.1 (up, tt)); first = w.first },
    )
