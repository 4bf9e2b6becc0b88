-- A state of the simplex method: the program of the one inequality 1 >= 0 in no coordinate, with the objective 0. The
-- columns are 0 for the constant, 1 for the slack, 2 for the auxiliary variable, 3 for the objective and 4 for that
-- of the first phase.
use Rattle.pm_vector.specs.Numbers.{Ratio}
use Rattle.pm_vector.specs.Rows.{Row}
use Rattle.pm_fraction.specs.Fractions.{ratio_of}
use Rattle.pm_simplex.specs.Comparisons.{rows_of}
use Rattle.pm_simplex.specs.Running.{IsState}
use Rattle.pm_simplex.specs.declared.dictionary.Dictionary.{Dictionary}
use Rattle.pm_simplex.specs.declared.layout.Layout.{Layout}
use Rattle.std.specs.Prelude.{List, [], length, ◌∷◌, ◌≡◌}
use lib.IntN.{ℤ, negsuc, pos}

-- a row of five entries
abbrev pub five : ℤ → ℤ → ℤ → ℤ → ℤ → Row
five a b c d e = a ∷ b ∷ c ∷ d ∷ e ∷ []

-- the equations of that program
abbrev pub one_system : List Row
one_system = five (pos 1) (negsuc 0) (pos 1) (pos 0) (pos 0)
    ∷ five (pos 0) (pos 0) (pos 0) (negsuc 0) (pos 0) ∷ five (pos 0) (pos 0) (negsuc 0) (pos 0) (negsuc 0)
    ∷ []

-- a row of two whole fractions
abbrev pub two : ℤ → ℤ → List Ratio
two a b = ratio_of a (pos 1) ∷ ratio_of b (pos 1) ∷ []

-- slack = 1 + auxiliary, objective = 0, phase = -auxiliary
abbrev pub StateIsThere : Type 0
StateIsThere = (y : Layout) (d : Dictionary) → y.cols ≡ 1 → y.slacks ≡ 1 → y.residuals ≡ 0
    → d.basis.items ≡ 1 ∷ 3 ∷ 4 ∷ [] → d.others.items ≡ 0 ∷ 2 ∷ [] → length d.rows.items ≡ 3
    → rows_of d ≡ two (pos 1) (pos 1) ∷ two (pos 0) (pos 0) ∷ two (pos 0) (negsuc 0) ∷ []
    → IsState y one_system d 1
