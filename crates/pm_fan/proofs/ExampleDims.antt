-- The examples of dimensions.
use Rattle.pm_geom.proofs.OneRow.{one_row}
use Rattle.pm_vector.proofs.ConeLaws.{in_line}
use Rattle.pm_vector.proofs.Lists.{Among, here, there}
use Rattle.pm_vector.specs.Rows.{Row}
use Rattle.pm_vector.proofs.BasisExamples.{bases_are_read}
use Rattle.pm_vector.proofs.Rank.{basis_gives_rank, rank_is_determined}
use Rattle.pm_vector.proofs.Spans.{same_span, same_span_refl}
use Rattle.pm_vector.specs.Bases.{IsRank, SameSpan}
use Rattle.pm_fan.specs.Examples.{DimensionsAreRead, axes}
use Rattle.std.proofs.Common.{arith, refl}
use Rattle.std.proofs.lemmas.List.Elements.{All-cons, All-nil}
use Rattle.std.specs.List.{All}
use Rattle.std.specs.Prelude.{List, [], length, ℕ, ◌+◌, ◌<◌, ◌^◌, ◌∷◌}
use lib.IntN.{pos}

-- the second axis
abbrev up : Row
up = pos 0 ∷ pos 1 ∷ []

-- the first
abbrev right : Row
right = pos 1 ∷ pos 0 ∷ []

quadrant : IsRank axes 2
quadrant = basis_gives_rank 2 axes (0 ∷ 1 ∷ []) axes bases_are_read.plane.basis (same_span_refl axes)

ray_up : IsRank (up ∷ []) 1
ray_up = basis_gives_rank 2 (up ∷ []) (1 ∷ []) (up ∷ []) (one_row 2 up 1 refl refl) (same_span_refl (up ∷ []))

apex : IsRank [] 0
apex = basis_gives_rank 2 [] [] [] bases_are_read.none.basis (same_span_refl [])

-- the first axis twice
twice : (T : List Row) (r : Row) → Among r (right ∷ T) → Among r (right ∷ right ∷ T)
twice T r here = here
twice T r (there i) = there (there i)

once : (T : List Row) (r : Row) → Among r (right ∷ right ∷ T) → Among r (right ∷ T)
once T r here = here
once T r (there i) = i

same_twice : (T : List Row) → SameSpan (right ∷ T) (right ∷ right ∷ T)
same_twice T = same_span (right ∷ T) (right ∷ right ∷ T) (λ r i. in_line (twice T r i)) (λ r i. in_line (once T r i))

half_plane : IsRank (right ∷ right ∷ up ∷ []) 2
half_plane = basis_gives_rank 2 axes (0 ∷ 1 ∷ []) (right ∷ right ∷ up ∷ []) bases_are_read.plane.basis (same_twice (up ∷ []))

line : IsRank (right ∷ right ∷ []) 1
line = basis_gives_rank 2 (right ∷ []) (0 ∷ []) (right ∷ right ∷ []) (one_row 2 right 0 refl refl) (same_twice [])

abbrev IsPlaced : List ℕ → Type 0
IsPlaced set = All (λ j. j < 2) set × (0 + length set < 2 ^ 30)

pub dimensions : DimensionsAreRead
dimensions = record {
  rows = refl;
  each = (quadrant, (ray_up, (apex, tt)));
  over_line = (half_plane, (line, tt));
  one_less = λ h. h.1;
  one_more = λ h. h.1;
  other_order = λ h. let e = rank_is_determined [] 1 0 h.0 apex in absurd (omega arith);
  below_nought = λ h. h;
  places = All-cons IsPlaced (0 ∷ 1 ∷ []) [] (All-cons (λ j. j < 2) 0 (1 ∷ []) (omega arith) (All-cons (λ j. j < 2) 1 [] (omega arith) (All-nil (λ j. j < 2))), omega arith) (All-nil IsPlaced);
  no_place = λ h. let l = (h 0 [] (omega arith)).0 0 0 (omega arith) in omega arith;
}
