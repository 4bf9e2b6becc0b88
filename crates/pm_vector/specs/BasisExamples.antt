-- The definitions read on rows of one and two entries: what holds of them, and what does not.
use Rattle.std.specs.Prelude.{ℕ, [], ◌∷◌}
use Rattle.pm_vector.specs.Rows.{Row}
use Rattle.pm_vector.specs.Bases.{SameSpan, IsReducedBasis, IsEchelonBasis, IsRank}
use lib.IntN.{ℤ, pos, negsuc}

-- the row (a)
abbrev pub single : ℤ → Row
single a = a ∷ []

-- the row (a,b)
abbrev pub pair : ℕ → ℕ → Row
pair a b = pos a ∷ pos b ∷ []

-- what holds of bases, spans and ranks of such rows, and what does not
pub record BasesAreRead : Type 0 where
  -- the rows (2,4), (1,3) span the plane, whose echelon basis is (1,0), (0,1)
  pub plane : IsEchelonBasis 2 (pair 1 0 ∷ pair 0 1 ∷ []) (0 ∷ 1 ∷ [])
  pub span : SameSpan (pair 2 4 ∷ pair 1 3 ∷ []) (pair 1 0 ∷ pair 0 1 ∷ [])
  pub rank : IsRank (pair 2 4 ∷ pair 1 3 ∷ []) 2
  -- no rows are the echelon basis of the span of a zero row
  pub none : IsEchelonBasis 2 [] []
  pub null : SameSpan (pair 0 0 ∷ []) []
  -- (2) is not primitive, and (-1) not positive at its column
  pub twice : ¬ (IsReducedBasis 1 (single (pos 2) ∷ []) (0 ∷ []))
  pub negative : ¬ (IsReducedBasis 1 (single (negsuc 0) ∷ []) (0 ∷ []))
  -- (1,1) is not 0 at the column of (0,1)
  pub slanted : ¬ (IsReducedBasis 2 (pair 1 1 ∷ pair 0 1 ∷ []) (0 ∷ 1 ∷ []))
  -- with the columns the other way round the basis is reduced, and no echelon basis
  pub backward : IsReducedBasis 2 (pair 0 1 ∷ pair 1 0 ∷ []) (1 ∷ 0 ∷ [])
  pub not_ascending : ¬ (IsEchelonBasis 2 (pair 0 1 ∷ pair 1 0 ∷ []) (1 ∷ 0 ∷ []))
  -- (1,1) is a reduced basis with the column 1, before which it is not 0
  pub late : IsReducedBasis 2 (pair 1 1 ∷ []) (1 ∷ [])
  pub not_before : ¬ (IsEchelonBasis 2 (pair 1 1 ∷ []) (1 ∷ []))
  -- parallel rows have not the rank 2, nor has the plane the rank 1
  pub parallel : ¬ (IsRank (pair 1 0 ∷ pair 2 0 ∷ []) 2)
  pub more : ¬ (IsRank (pair 1 0 ∷ pair 0 1 ∷ []) 1)
