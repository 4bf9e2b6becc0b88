-- The examples of maximal cones that are lost by wide numbers, and of failures.
use Rattle.pm_client.proofs.Lost.{one_stays}
use Rattle.pm_client.proofs.NoRows.{none_primitive}
use Rattle.pm_client.proofs.PrimitiveWholes.{by_one, two_whole}
use Rattle.pm_client.proofs.ReadRows.{same_rows}
use Rattle.pm_clients_fans.specs.Cones.{ReadsLostCone}
use Rattle.pm_clients_fans.specs.Examples.{LostMaximalConesAreRead, with_cones}
use Rattle.pm_elim.proofs.LostExamples.{lost_eliminations_are_read}
use Rattle.pm_elim.specs.LostExamples.{odd_next, odd_row}
use Rattle.pm_fan.specs.Dimensions.{cone_rows}
use Rattle.pm_types.specs.Values.{sets}
use Rattle.pm_vector.proofs.Lists.{Among, Contains_among, among_Contains, here, there}
use Rattle.pm_vector.specs.Rows.{Row}
use Rattle.std.proofs.Common.{ap, arith, refl, subst, sym, ◌∙◌}
use Rattle.std.proofs.lemmas.List.{length-append, length-map}
use Rattle.std.specs.List.{Contains}
use Rattle.std.specs.Prelude.{List, Some, [], length, ℕ, ◌∷◌, ◌≡◌}

abbrev two : List Row
two = odd_row ∷ odd_next ∷ []

lost : ReadsLostCone (with_cones ((0 ∷ 1 ∷ []) ∷ []))
lost = record {
  V = two;
  L = [];
  index = record { rows = (0 ∷ 1 ∷ []) ∷ []; cols = 2 };
  read = record {
    rays = record { cols = 3; rows = _; reads = refl; primitive = two_whole odd_row odd_next (by_one odd_row 1 refl) (by_one odd_next 0 refl) };
    lines = record { cols = 0; rows = []; reads = refl; primitive = none_primitive };
    reads = refl;
  };
  lost = record {
    set = 0 ∷ 1 ∷ [];
    listed = Contains_among (here {xs = []});
    lost = lost_eliminations_are_read.lost;
  };
}

-- ---- without lines the rows of a cone of one ray are one row
same_sets : (m n : ℕ) (X Y : List (List ℕ)) → Some (sets X m) ≡ Some (sets Y n) → X ≡ Y
same_sets m n X Y e = cc

abbrev apart : List (List ℕ)
apart = (0 ∷ []) ∷ (1 ∷ []) ∷ []

one_ray : (set : List ℕ) → Among set apart → length set ≡ 1
one_ray set here = refl
one_ray set (there here) = refl
one_ray set (there (there i)) = elim i [ ]

not_lost : ReadsLostCone (with_cones apart) → ⊥
not_lost h =
    let cones : h.index.rows ≡ apart = sym (same_sets 2 h.index.cols apart h.index.rows h.read.reads) in
    let none : h.read.lines.rows ≡ [] = sym (same_rows 0 h.read.lines.cols [] h.read.lines.rows h.read.lines.reads) in
    let lines : length h.L ≡ 0 = h.read.lines.primitive.count ∙ ap length none in
    let one : length h.lost.set ≡ 1 = one_ray h.lost.set (among_Contains apart (subst (λ (C : List (List ℕ)). Contains C h.lost.set) cones h.lost.listed)) in
    let all : length (cone_rows h.V h.L h.lost.set) ≡ 1 = simp (length-append, length-map) (omega arith) in
    one_stays 3 (cone_rows h.V h.L h.lost.set) all h.lost.lost

pub lost_maximal_cones_are_read : LostMaximalConesAreRead
lost_maximal_cones_are_read = record {
  lost = lost;
  not_lost = not_lost;
  fails = λ e right rows. (right, rows, lost);
  not_fails = λ e h. not_lost h.2;
}
