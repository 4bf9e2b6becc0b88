-- The states of the simplex method.
use Rattle.pm_vector.specs.Numbers.{Ratio}
use Rattle.pm_fraction.specs.Arithmetic.{opposite_of}
use Rattle.pm_fraction.specs.Fractions.{ratio_of}
use Rattle.pm_simplex.specs.declared.layout.Layout.{Layout}
use Rattle.std.specs.Prelude.{Bool, List, [], if◌then◌else◌, map, nat_eq, nat_le, nat_lt, suc, zero, ℕ, ◌&&◌, ◌+◌, ◌∷◌, ◌||◌}
use lib.IntN.{pos}

-- the column of the first slack, behind those of the constants and the free coordinates
abbrev pub first_slack : Layout → ℕ
first_slack y = y.cols

-- the column of the auxiliary variable, behind those of the slacks and the residuals
abbrev pub auxiliary : Layout → ℕ
auxiliary y = y.cols + y.slacks + y.residuals

-- the column of the objective
abbrev pub objective_column : Layout → ℕ
objective_column y = y.cols + y.slacks + y.residuals + 1

-- the column of the objective of the first phase
abbrev pub phase_column : Layout → ℕ
phase_column y = y.cols + y.slacks + y.residuals + 2

-- how many columns there are
abbrev pub columns_of : Layout → ℕ
columns_of y = y.cols + y.slacks + y.residuals + 3

-- the variable of the column c may not be negative: a slack or the auxiliary variable
abbrev pub is_signed : Layout → ℕ → Bool
is_signed y c = (nat_le y.cols c && nat_lt c (y.cols + y.slacks)) || nat_eq c
    (y.cols + y.slacks + y.residuals)

-- n, n + 1, .. (m of them)
abbrev pub upward : ℕ → ℕ → List ℕ
upward n zero = []
upward n (suc m) = n ∷ upward (n + 1) m

-- the columns of the lexicographic order: that of the constants, then those of the slacks
abbrev pub key_columns : Layout → List ℕ
key_columns y = 0 ∷ upward y.cols y.slacks

-- the fraction of a row in the column c as the order takes it: the opposite but for the constants
abbrev pub key_sign : ℕ → Ratio → Ratio
key_sign zero r = r
key_sign (suc c) r = opposite_of r

-- so taken, the fraction of the row x at the place of c among N; 0 where it is not there
abbrev pub key_found : ℕ → List ℕ → List Ratio → Ratio
key_found c [] x = ratio_of (pos 0) (pos 1)
key_found c (n ∷ N) [] = ratio_of (pos 0) (pos 1)
key_found c (n ∷ N) (r ∷ x) = if nat_eq n c then key_sign c r else key_found c N x

-- what the row x, whose own variable has the column p, says of the column c in the order: 1 in its own column
abbrev pub key_in : ℕ → List ℕ → List Ratio → ℕ → Ratio
key_in p N x c = if nat_eq c p then ratio_of (pos 1) (pos 1) else key_found c N x

-- what a row whose own column is no key says of all key columns
abbrev pub key_vector : Layout → List ℕ → List Ratio → List Ratio
key_vector y N x = map (λ c. key_found c N x) (key_columns y)
