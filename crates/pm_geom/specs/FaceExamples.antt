-- Ranks, inclusions and lexicographic order read on small things: what holds, and what does not.
use Rattle.pm_vector.specs.Rows.{Row}
use Rattle.pm_geom.specs.Examples.{pair, segment}
use Rattle.pm_geom.specs.Faces.{HasRank, IsStrictlyIn}
use Rattle.pm_geom.specs.Generators.{IsBefore}
use Rattle.std.specs.Prelude.{Bool, [], false, true, ℕ, ◌==◌, ◌∷◌}
use lib.IntN.{pos}

-- the set {} of places
abbrev pub none : ℕ → Bool
none j = false

-- the set {i}
abbrev pub only : ℕ → ℕ → Bool
only i j = j == i

-- the set of all places
abbrev pub every : ℕ → Bool
every j = true

-- the ranks of the faces of a segment, by its vertices at the places 0 and 1
pub record RanksAreRead : Type 0 where
  -- {} has rank 0, {0} rank 1, and {0, 1} rank 2
  pub empty : HasRank 2 segment [] segment none 0
  pub vertex : HasRank 2 segment [] segment (only 0) 1
  pub whole : HasRank 2 segment [] segment every 2
  -- but {0} neither rank 0 nor rank 2, and {0, 1} not rank 1
  pub not_less : ¬ (HasRank 2 segment [] segment (only 0) 0)
  pub not_more : ¬ (HasRank 2 segment [] segment (only 0) 2)
  pub whole_not_less : ¬ (HasRank 2 segment [] segment every 1)

-- which sets of places are strictly included in others
pub record InclusionsAreRead : Type 0 where
  -- {0} in {0, 1}, but not the other way round
  pub included : IsStrictlyIn 2 (only 0) every
  pub not_turned : ¬ (IsStrictlyIn 2 every (only 0))
  -- no set in itself
  pub not_itself : (m : ℕ) (f : ℕ → Bool) → ¬ (IsStrictlyIn m f f)
  -- nor {0} in {0, 1} where only the place 0 counts
  pub beyond : ¬ (IsStrictlyIn 1 (only 0) every)

-- which rows come before others in lexicographic order
pub record OrderIsRead : Type 0 where
  -- (0,1) before (1,0), but not the other way round; (1,0) before (1,2), by the second entry
  pub before : IsBefore (pair 0 1) (pair 1 0)
  pub second : IsBefore (pair 1 0) (pair 1 2)
  pub not_turned : ¬ (IsBefore (pair 1 0) (pair 0 1))
  -- no row before itself, nor before one that only goes on where it ends
  pub not_itself : (x : Row) → ¬ (IsBefore x x)
  pub not_longer : ¬ (IsBefore (pos 1 ∷ []) (pair 1 2))
