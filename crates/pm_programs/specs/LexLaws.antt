-- Why a strict lexicographic rise of bounded fractions ends.
use Rattle.std.specs.Prelude.{ℕ, ◌≡◌, ◌<◌, List, length}
use Rattle.std.specs.List.{AllByRecursion}
use Rattle.pm_vector.specs.Numbers.{Ratio}
use Rattle.pm_programs.specs.Lex.{IsBounded, IsLexBelow}

-- lists of fractions whose parts do not exceed m have a rank that rises with each strict lexicographic rise, and
-- stays below a number that only the length gives: so such a rise ends
abbrev pub LexIsFinite : Type 0
LexIsFinite = (m : ℕ) → (rank : List Ratio → ℕ) × (top : ℕ → ℕ)
    × ((v : List Ratio) → AllByRecursion (IsBounded m) v → rank v < top (length v))
    × ((v w : List Ratio) → length v ≡ length w → AllByRecursion (IsBounded m) v
    → AllByRecursion (IsBounded m) w → IsLexBelow v w → rank v < rank w)
