-- The examples of points hold.
use Rattle.pm_vector.proofs.Lists.{among_All, here}
use Rattle.pm_vector.proofs.Ring.{ring}
use Rattle.pm_vector.specs.Rows.{Row, dot, entry}
use Rattle.pm_clients_geom.specs.RedundancyExamples.{PointsAreRead, pair}
use Rattle.pm_types.specs.Right.{Solves}
use Rattle.std.proofs.Common.{arith, refl}
use Rattle.std.proofs.lemmas.Int.{ints}
use Rattle.std.proofs.lemmas.List.Elements.{All-nil}
use Rattle.std.specs.List.{All}
use Rattle.std.specs.Prelude.{List, [], length, ◌∷◌, ◌≡◌}
use lib.IntN.{negsuc, pos}
use lib.Signed.{le_z_yes, lt_z_yes, ◌<ℤ◌}

abbrev far_apart : List Row
far_apart = pair (negsuc 0) (pos 1) ∷ pair (pos 0) (negsuc 0) ∷ []

none_between : (x : Row) → length x ≡ 2 → Solves far_apart [] x → pos 0 <ℤ entry x 0 → ⊥
none_between [] l s up = omega arith
none_between (a ∷ []) l s up = omega arith
none_between (a ∷ b ∷ []) l s up = let p = simp ring at s.inequalities.0 in let q = simp ring at s.inequalities.1.0 in omega (arith, ints)
none_between (a ∷ b ∷ c ∷ x) l s up = omega arith

no_one : (x : Row) → length x ≡ 1 → Solves [] ((pos 1 ∷ []) ∷ []) x → pos 0 <ℤ entry x 0 → ⊥
no_one [] l s up = omega arith
no_one (a ∷ []) l s up = let none : dot (pos 1 ∷ []) (a ∷ []) ≡ pos 0 = among_All {X = Row} (λ (e : Row). dot e (a ∷ []) ≡ pos 0) (here {xs = []}) s.equations in let e = simp ring at none in omega (arith, ints)
no_one (a ∷ b ∷ x) l s up = omega arith

no_first : (x : Row) → length x ≡ 0 → pos 0 <ℤ entry x 0 → ⊥
no_first [] l up = omega (arith, ints)
no_first (a ∷ x) l up = omega arith

no_equations : (x : Row) → All (λ (e : Row). dot e x ≡ pos 0) []
no_equations x = All-nil (λ (e : Row). dot e x ≡ pos 0)

pub points_are_read : PointsAreRead
points_are_read = record {
  between = record { row = pair (pos 1) (pos 1); cols = refl; solves = record { inequalities = (le_z_yes tt, (le_z_yes tt, tt)); equations = no_equations (pair (pos 1) (pos 1)) }; first = lt_z_yes tt };
  apart = λ h. none_between h.row h.cols h.solves h.first;
  all = record { row = pos 1 ∷ []; cols = refl; solves = record { inequalities = tt; equations = no_equations (pos 1 ∷ []) }; first = lt_z_yes tt };
  contradicted = λ h. no_one h.row h.cols h.solves h.first;
  no_columns = λ h. no_first h.row h.cols h.first;
}
