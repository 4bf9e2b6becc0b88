-- The laws of dictionaries.
use Rattle.std.specs.Prelude.{ℕ, ◌≡◌, ◌<◌, List, length, slice_set}
use Rattle.pm_vector.specs.Numbers.{Ratio}
use Rattle.pm_vector.specs.Rows.{Row}
use Rattle.pm_vector.specs.Bases.{column}
use Rattle.pm_programs.specs.Dictionaries.{IsDictionaryOf, IsPivoted, at}
use lib.IntN.{pos}

-- the dictionary of a basis is unique: wherever the columns are the same, so are the fractions
abbrev pub DictionaryIsUnique : Type 0
DictionaryIsUnique = (S : List Row) (P N N' : List ℕ) (D D' : List (List Ratio)) → IsDictionaryOf S P N D
    → IsDictionaryOf S P N' D'
    → (i k k' : ℕ) → i < length P → k < length N → k' < length N' → column N k ≡ column N' k'
    → at D i k ≡ at D' i k'

-- a pivot leads to the dictionary of the basis in which the entering variable stands for the leaving one
abbrev pub PivotIsDictionary : Type 0
PivotIsDictionary = (S : List Row) (P N : List ℕ) (D D' : List (List Ratio)) (l j : ℕ)
    → IsDictionaryOf S P N D → l < length P → j < length N → ¬ ((at D l j).num ≡ pos 0)
    → IsPivoted (length P) (length N) D l j D'
    → IsDictionaryOf S (slice_set P l (column N j)) (slice_set N j (column P l)) D'
