-- Whether a row is in a cone, as a linear program (Schrijver, Theory of Linear and Integer Programming, sections 7.3
-- and 8.1). Rows r outside of cone(K) + span(L) are those with some y that has product -1 with r, no negative product
-- with a row of K and the product 0 with each of L. The program has these y as its points (1, y), and the objective
-- 0.
use Rattle.pm_vector.specs.Numbers.{Ratio}
use Rattle.pm_vector.specs.Rows.{Row, opposite}
use Rattle.pm_fraction.specs.Fractions.{ratio_of}
use Rattle.pm_geom.specs.declared.evidence.Evidence.{Evidence}
use Rattle.pm_geom.specs.StatedOrder.{rows_marked}
use Rattle.pm_simplex.specs.Answers.{ShowsProgram}
use Rattle.std.specs.List.{Contains}
use Rattle.std.specs.Prelude.{Bool, List, [], if◌then◌else◌, map, replicate, true, ℕ, ◌+◌, ◌++◌, ◌∷◌}
use lib.IntN.{negsuc, pos}

-- the rows of X as rows of the program, which are 0 for the constant
abbrev pub lifted : List Row → List Row
lifted X = map (λ x. pos 0 ∷ x) X

-- the row that is asked about: r or its opposite
abbrev pub turned : Bool → Row → Row
turned opposed r = if opposed then opposite r else r

-- the equation of r: its product with y is -1; or 1, where the opposite is asked about
abbrev pub tied : Bool → Row → Row
tied opposed r = (if opposed then negsuc 0 else pos 1) ∷ r

-- all equations: those of the lines, and then that of r
abbrev pub equations_of : List Row → Bool → Row → List Row
equations_of L opposed r = lifted L ++ tied opposed r ∷ []

-- the objective 0
abbrev pub no_objective : ℕ → List Ratio
no_objective n = replicate n (ratio_of (pos 0) (pos 1))

-- e shows a pivot that leaves the range, in the program of r over the rows K
abbrev pub IsWideProgram : ℕ → List Row → List Row → Bool → Row → Evidence → Type 0
IsWideProgram n K L opposed r e = ShowsProgram (lifted K) (equations_of L opposed r) (no_objective (n + 1)) e

-- so it does for some row of G, or its opposite, over some rows of G in list order
pub record IsWideThinning (n : ℕ) (G L : List Row) (e : Evidence) : Type 0 where
  pub marks : List Bool
  pub row : Row
  pub opposed : Bool
  pub listed : Contains G row
  pub shown : IsWideProgram n (rows_marked true marks G) L opposed row e
