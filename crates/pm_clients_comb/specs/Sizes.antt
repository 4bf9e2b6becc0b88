-- Sets of places.
use Rattle.std.specs.Prelude.{ℕ, IsTrue, List}
use Rattle.pm_types.specs.Forms.{are_indices}

-- the places ascend
abbrev pub IsAscending : List ℕ → Type 0
IsAscending set = (n : ℕ) × IsTrue (are_indices n 0 set)
