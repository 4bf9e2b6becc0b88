-- Places of rows by their first entries.
use Rattle.std.specs.Prelude.{ℕ, ◌≡◌, ◌<◌, ◌↔◌, List, [], map}
use Rattle.std.specs.List.{AllPairs, Contains, slice_index_or}
use Rattle.pm_vector.specs.Numbers.{Ratio}
use Rattle.pm_relations.specs.FirstEntries.{HasZeroFirst}
use lib.IntN.{ℤ, pos}

-- the numbers are the places below n, ascending, of the rows whose first entry is 0
pub record AreZeroPlaces (rows : List (List Ratio)) (n : ℕ) (ks : List ℤ) : Type 0 where
  pub js : List ℕ
  pub places : ks ≡ map pos js
  pub ascending : AllPairs (λ i j. i < j) js
  pub zero : (j : ℕ) → Contains js j ↔ ((j < n) × HasZeroFirst (slice_index_or rows j []))
