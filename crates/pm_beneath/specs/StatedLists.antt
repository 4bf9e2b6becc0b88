-- The double description list of lines and rays, and how its rows are taken.
use Rattle.std.specs.Prelude.{ℕ, ◌*◌, ◌≡◌, Bool, true, List, ◌++◌, drop, length}
use Rattle.pm_vector.specs.Rows.{Row}
use Rattle.pm_dd.specs.Arrangement.{Leads}
use Rattle.pm_dd.specs.Fronts.{both_signs}
use Rattle.pm_vector.specs.Enlarging.{MarkEnlarging}
use Rattle.pm_vector.specs.Evidence.{IsBasisOf}
use Rattle.pm_laws_placing.specs.Placing.{places_marked, stated_places}
use Rattle.pm_geom.specs.Triangulations.{rows_at}

-- D is l1, -l1, l2, -l2, .. and then G, for the echelon basis l1, l2, .. of L; J has the rays in the stated order of
-- D, which are at these places in G, and the first `start` of them enlarge the span
pub record IsStatedList (n : ℕ) (L G basis D J : List Row) (places : List ℕ) (start : ℕ) : Type 0 where
  pub pivots : List ℕ
  pub is_basis : IsBasisOf n L basis pivots
  pub list : D ≡ both_signs basis ++ G
  pub marks : List Bool
  pub enlarging : MarkEnlarging (both_signs basis ++ G) marks
  pub leads : Leads (both_signs basis ++ G) marks basis
  pub places_are : places ≡ stated_places (drop (2 * length basis) marks)
  pub rows_are : J ≡ rows_at G (stated_places (drop (2 * length basis) marks))
  pub start_is : start ≡ length (places_marked true (drop (2 * length basis) marks) 0)
