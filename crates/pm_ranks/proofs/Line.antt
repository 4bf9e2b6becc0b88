-- The line through (1,0,0) along (0,1,0).
use Rattle.pm_vector.proofs.ConeLaws.{in_of, lines_opposite, none_to_zero}
use Rattle.pm_vector.specs.Cones.{InCone, InSpan}
use Rattle.pm_vector.specs.Rows.{Row}
use Rattle.pm_vector.proofs.Spans.{same_span_refl}
use Rattle.pm_vector.specs.Bases.{IsRank}
use Rattle.pm_geom.proofs.Apart.{lineality_spanned}
use Rattle.pm_geom.proofs.SmallThings.{line_is_read}
use Rattle.pm_geom.specs.Cones.{InLineality}
use Rattle.pm_geom.specs.Examples.{triple}
use Rattle.pm_geom.specs.Faces.{HasRank}
use Rattle.pm_ranks.proofs.RankLaws.{rank_is_one}
use Rattle.pm_ranks.proofs.Small.{rank_more}
use Rattle.pm_ranks.proofs.Whole.{first_rank, whole_has_rank}
use Rattle.pm_ranks.specs.Examples.{LineHasRanks}
use Rattle.std.proofs.Common.{arith, refl}
use Rattle.std.proofs.lemmas.Int.{ints}
use Rattle.std.specs.Prelude.{List, [], length, true, ◌↔◌, ◌∷◌, ◌≡◌}
use lib.IntN.{pos}

abbrev points : List Row
points = triple 1 0 0 ∷ []

abbrev lines : List Row
lines = triple 0 1 0 ∷ []

lineality : (x : Row) → length x ≡ 3 → InLineality (InCone points lines) x ↔ InSpan lines x
lineality x l = (
  lineality_spanned 3 points lines (refl, tt) (refl, tt) (triple 1 0 0) tt tt x l,
  λ h. record { inside = in_of points [] lines (λ g i. elim i [ ]) h; opposed = in_of points [] lines (λ g i. elim i [ ]) (lines_opposite lines x h) },
)

none : IsRank [] 0
none = record { basis = []; independent = λ c z i l. absurd (omega arith); span = same_span_refl []; as_many = refl }

lines_rank : IsRank lines 1
lines_rank = rank_more [] 0 (triple 0 1 0) none (λ h. let z : pos 1 ≡ pos 0 = none_to_zero (triple 0 1 0) h 1 in absurd (omega (arith, ints)))

point : HasRank 3 points lines points (λ x. true) 1
point = (first_rank 3 points lines (refl, tt) (refl, tt) points line_is_read.rays (λ x. true)).1 (0, omega arith, λ x lx. (λ t. omega arith, λ e. refl))

pub line_has_ranks : LineHasRanks
line_has_ranks = record {
  whole = point;
  not_two = λ r. absurd (let e = rank_is_one 3 points lines points (λ x. true) 1 2 point r in omega arith);
  rows = (whole_has_rank 3 points lines (refl, tt) (refl, tt) points lines (refl, tt) line_is_read.rays lineality 1 lines_rank 1).0 point;
}
