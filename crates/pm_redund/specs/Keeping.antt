-- How rows that are enough are found among few (Clarkson, More output-sensitive geometric algorithms, 1994): marks that
-- grow, functionals that no row is below, and rows that one meets alone.
use Rattle.pm_vector.specs.Rows.{Row, dot}
use Rattle.pm_geom.specs.StatedOrder.{rows_marked}
use Rattle.pm_redund.specs.Redundancy.{IsRedundant}
use Rattle.pm_redund.specs.declared.chosen.Chosen.{Chosen}
use Rattle.pm_redund.specs.declared.enough.Enough.{Enough}
use Rattle.pm_redund.specs.declared.support.Support.{Support}
use Rattle.pm_simplex.specs.Generated.{lifted}
use Rattle.std.specs.List.{All}
use Rattle.std.specs.Prelude.{Bool, IsTrue, List, false, get_or, length, map, true, ℕ, ◌<◌, ◌≡◌, ◌⊎◌}
use lib.IntN.{pos, ℤ, ◌*ℤ◌}
use lib.Signed.{◌<ℤ◌, ◌≤ℤ◌}

-- ---- chosen rows
-- each mark of M is set in N too
unfoldable pub IsMore : List Bool → List Bool → Type 0
IsMore M N = (i : ℕ) → IsTrue (get_or M i false) → IsTrue (get_or N i false)

-- the rows of G have marks, and the marked ones are rows of a program
pub record IsChosen (G : List Row) (chosen : Chosen) : Type 0 where
  pub as_many : length chosen.marks.items ≡ length G
  pub lifted : chosen.lifted.items ≡ lifted (rows_marked true chosen.marks.items G)

-- the row at i is not redundant, whichever of the others are marked
abbrev pub IsNeeded : List Row → List Row → ℕ → Type 0
IsNeeded G L i = (marks : List Bool) → ¬ (IsRedundant G L marks i)

-- each row with a mark is needed
pub record AreNeeded (G L : List Row) (marks : List Bool) : Type 0 where
  pub as_many : length marks ≡ length G
  pub each : (i : ℕ) → IsTrue (get_or marks i false) → IsNeeded G L i

-- rows are chosen, and those that are marked as sure are needed
pub record IsPartly (G L : List Row) (enough : Enough) : Type 0 where
  pub chosen : IsChosen G enough.chosen
  pub sure : AreNeeded G L enough.sure.items

-- ---- functionals
-- the products of y with the rows of X
abbrev pub products : Row → List Row → List ℤ
products y X = map (λ x. dot y x) X

-- no row of G is below the functional, which is 0 on the lines L
pub record IsSupport (n : ℕ) (G L : List Row) (support : Support) : Type 0 where
  pub cols : length support.row ≡ n
  pub heights : support.heights.items ≡ products support.row G
  pub above : All (λ h. pos 0 ≤ℤ h) support.heights.items
  pub level : All (λ l. dot support.row l ≡ pos 0) L

-- ---- rows that are met
-- on the way from the functional with these heights to the one with these levels, the row at j comes below 0 after that
-- at k; or it is 0 for both
abbrev pub IsMetAfter : List ℤ → List ℤ → ℕ → ℕ → Type 0
IsMetAfter levels heights k j =
    ((get_or levels j (pos 0) ≡ pos 0) × (get_or heights j (pos 0) ≡ pos 0))
    ⊎ ((get_or levels k (pos 0) *ℤ get_or heights j (pos 0)) <ℤ (get_or levels j (pos 0) *ℤ get_or heights k (pos 0)))

-- the row at k is above the functional, and is met before any other
pub record IsAlone (levels heights : List ℤ) (k : ℕ) : Type 0 where
  pub high : pos 0 <ℤ get_or heights k (pos 0)
  pub first : (j : ℕ) → j < length levels → ¬ (j ≡ k) → IsMetAfter levels heights k j
