-- Numbers of faces of a lattice with few ranks.
use Rattle.pm_geom.specs.FaceCounts.{f_of}
use Rattle.pm_graph.specs.Counts.{f2_matrix}
use Rattle.pm_fraction.specs.Matrices.{FractionMatrix}
use Rattle.std.specs.Prelude.{ℕ, Bool, List, [], if◌then◌else◌, length, map, nat_le, ◌+◌}
use lib.IntN.{ℤ, pos}
use Rattle.pm_limits.specs.Limits.{most_columns}

-- there are at most 34 ranks: one more than a thing has columns
abbrev pub has_few_ranks : List (List (List ℕ)) → Bool
has_few_ranks ranks = nat_le (length ranks) (most_columns + 1)

-- the f-vector (Ziegler, section 8.3), where there are few ranks
abbrev pub f_numbers : List (List (List ℕ)) → List ℤ
f_numbers ranks = if has_few_ranks ranks then map pos (f_of ranks) else []

-- the f2-vector as a matrix, where there are few ranks
abbrev pub f2_table : List (List (List ℕ)) → FractionMatrix
f2_table ranks = if has_few_ranks ranks then f2_matrix ranks else record { cols = 0; rows = [] }
