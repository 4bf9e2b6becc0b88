-- The examples of cones of whose rows the elimination is lost by wide numbers.
use Rattle.pm_elim.proofs.LostExamples.{lost_eliminations_are_read}
use Rattle.pm_elim.specs.Lost.{IsLost}
use Rattle.pm_elim.specs.LostExamples.{odd_next, odd_row}
use Rattle.pm_fan.specs.Dimensions.{cone_rows}
use Rattle.pm_fan.specs.Examples.{LostConesAreRead}
use Rattle.pm_vector.proofs.Lists.{Among, Contains_among, among_Contains, here, there}
use Rattle.pm_vector.specs.Rows.{Row}
use Rattle.std.specs.Prelude.{List, [], ℕ, ◌∷◌}

-- the two rows, as rays
abbrev two : List Row
two = odd_row ∷ odd_next ∷ []

-- the cones that have one of them each
abbrev apart : List (List ℕ)
apart = (0 ∷ []) ∷ (1 ∷ []) ∷ []

not_lost : (set : List ℕ) → Among set apart → IsLost 3 (cone_rows two [] set) → ⊥
not_lost set here h = lost_eliminations_are_read.not_one 3 odd_row h
not_lost set (there here) h = lost_eliminations_are_read.not_one 3 odd_next h
not_lost set (there (there i)) h = elim i [ ]

none : (set : List ℕ) → Among set [] → ⊥
none set i = elim i [ ]

pub lost_cones_are_read : LostConesAreRead
lost_cones_are_read = record {
  lost = record {
    set = 0 ∷ 1 ∷ [];
    listed = Contains_among (there (here {xs = []}));
    lost = lost_eliminations_are_read.lost;
  };
  over_line = record {
    set = 0 ∷ [];
    listed = Contains_among (here {xs = []});
    lost = lost_eliminations_are_read.lost;
  };
  not_apart = λ h. not_lost h.set (among_Contains apart h.listed) h.lost;
  not_without_cone = λ h. none h.set (among_Contains [] h.listed);
}
