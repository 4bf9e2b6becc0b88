-- The equations of a linear program, as rows over all columns: of the constant, the coordinates, the slacks, the
-- residuals, the auxiliary variable and the two objectives.
use Rattle.pm_vector.specs.Numbers.{Ratio}
use Rattle.pm_vector.specs.Rows.{Row, entry, times}
use Rattle.pm_vector.specs.Bases.{row_at}
use Rattle.pm_simplex.specs.Starts.{help_of, own_column}
use Rattle.pm_simplex.specs.States.{auxiliary, columns_of, upward}
use Rattle.pm_simplex.specs.declared.layout.Layout.{Layout}
use Rattle.std.specs.Prelude.{List, [], if◌then◌else◌, map, nat_eq, nat_lt, ℕ, ◌+◌, ◌++◌, ◌∷◌}
use lib.IntN.{neg_ℤ, pos, ℤ, ◌*ℤ◌}

-- the product of the denominators
unfoldable pub denominator_of : List Ratio → ℤ
denominator_of [] = pos 1
denominator_of (f ∷ r) = denominator_of r *ℤ f.den

-- the fractions times that product
unfoldable pub whole_of : List Ratio → Row
whole_of [] = []
whole_of (f ∷ r) = (denominator_of r *ℤ f.num) ∷ times f.den (whole_of r)

-- by how much row i has its own variable: k for the objective, which stands k times there, else 1
unfoldable pub scale_of : Layout → ℤ → ℕ → ℤ
scale_of y k i = if nat_eq i (y.slacks + y.residuals) then k else pos 1

-- the entry of equation i in the column v: a x - slack + auxiliary = 0, b x - residual = 0, C x - k objective = 0,
-- and -auxiliary - objective of the first phase = 0
unfoldable pub system_entry : Layout → List Row → List Row → Row → ℤ → ℕ → ℕ → ℤ
system_entry y A B C k i v = if nat_lt v y.cols then entry (row_at ((A ++ B) ++ C ∷ []) i) v
    else (if nat_eq v (own_column y i) then neg_ℤ (scale_of y k i)
    else (if nat_eq v (auxiliary y) then help_of y i else pos 0))

-- these equations, for the whole row C, which is k times the objective
unfoldable pub system_of : Layout → List Row → List Row → Row → ℤ → List Row
system_of y A B C k = map (λ i. map (system_entry y A B C k i) (upward 0 (columns_of y)))
    (upward 0 (y.slacks + y.residuals + 2))

-- the equations of the program with the rows A and B and the objective c
unfoldable pub equations_of : Layout → List Row → List Row → List Ratio → List Row
equations_of y A B c = system_of y A B (whole_of c) (denominator_of c)
