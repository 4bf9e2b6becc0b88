-- Rows of n entries span at most n dimensions.
use Rattle.pm_vector.proofs.ConeLaws.{dot_in, in_zero, none_to_zero}
use Rattle.pm_vector.proofs.Lists.{all_at}
use Rattle.pm_vector.proofs.RowLaws.{length-opposite}
use Rattle.pm_vector.specs.Cones.{InSpan}
use Rattle.pm_vector.specs.Rows.{HasCols, Row, opposite}
use Rattle.pm_vector.proofs.Rank.{independent_are_few}
use Rattle.pm_vector.proofs.Spans.{span_at, span_of, span_to}
use Rattle.pm_vector.specs.Bases.{IsRank}
use Rattle.pm_elim.proofs.PrefixLaws.{at_most_columns}
use Rattle.pm_vector.specs.Evidence.{unit}
use Rattle.pm_geom.specs.Cones.{IsValid}
use Rattle.pm_incidence.proofs.Described.{units_echelon, zero_facets}
use Rattle.std.proofs.Common.{arith, ◌∙◌}
use Rattle.std.specs.List.{range_with_len}
use Rattle.std.specs.Prelude.{List, [], length, map, ℕ, ◌≡◌, ◌≤◌}

-- each row of n entries is in the span of the unit rows, which are the facets of {0}
in_units : (n : ℕ) (x : Row) → length x ≡ n → InSpan (map (unit n) (range_with_len 0 n)) x
in_units n x lx =
    let facets = zero_facets n [] [] (λ y ly. (λ h. none_to_zero y h, λ z. in_zero z)) in
    (facets.basis.lines x lx).0 (record { inside = valid x lx; opposed = valid (opposite x) (length-opposite x ∙ lx) })
  where
    valid : (a : Row) → length a ≡ n → IsValid n [] [] a
    valid a la = record { cols = la; holds = λ x lx h. dot_in a [] [] (λ g i. elim i [ ]) (λ l i. elim i [ ]) h }

pub rank_by_columns : (n : ℕ) (X : List Row) → HasCols n X → (k : ℕ) → IsRank X k → k ≤ n
rank_by_columns n X cols k r =
    let few = independent_are_few r.basis (map (unit n) (range_with_len 0 n)) r.independent (λ i l. span_of (map (unit n) (range_with_len 0 n)) X (λ x j. in_units n x (all_at (λ (y : Row). length y ≡ n) j cols)) (span_to r.span (span_at i l))) in
    let units = at_most_columns n (map (unit n) (range_with_len 0 n)) (range_with_len 0 n) (units_echelon n) in
    let same = r.as_many in
    omega arith
