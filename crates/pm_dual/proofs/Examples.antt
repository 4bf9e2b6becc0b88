-- The examples: maxima by what excludes what, and what a search goes by from the objective's entries.
use Rattle.pm_dual.proofs.Exact.{boundless_has_point, maximum_has_point, maximum_is_bound}
use Rattle.pm_vector.specs.Rows.{Row}
use Rattle.pm_dual.specs.Examples.{MaximaAreRead, SearchObjectivesAreRead}
use Rattle.pm_dual.specs.SearchObjectives.{IsConstant, IsSearchObjective}
use Rattle.pm_geom.proofs.ProgramExamples.{programs_are_read}
use Rattle.pm_geom.specs.ProgramExamples.{ProgramsAreRead, nothing, positive_line, ratio, row, segment, wholes}
use Rattle.std.proofs.Common.{ap, arith, refl}
use Rattle.std.specs.Prelude.{[], length, suc, zero, ◌≡◌}
use lib.IntN.{pos}

pub maxima_read : MaximaAreRead
maxima_read =
    let r : ProgramsAreRead = programs_are_read in
    let c = wholes (row (pos 0) (pos 1)) in
    record {
      segment_has = record { value = ratio (pos 1) (pos 1); maximum = r.maximum };
      segment_bounded = λ u. maximum_is_bound segment [] c (ratio (pos 1) (pos 1)) r.maximum u;
      line_has_none = λ m. maximum_is_bound positive_line [] c m.value m.maximum r.no_bound;
      line_has_point = λ none. boundless_has_point positive_line [] c r.no_bound none;
      nothing_has_none = λ m. maximum_has_point nothing [] c m.value m.maximum r.empty;
      nothing_bounded = λ u. boundless_has_point nothing [] c u r.empty;
    }

varies : ¬ (IsConstant (row (pos 0) (pos 2)))
varies h = let e : pos 2 ≡ pos 0 = h 1 (omega arith) in cc

is_constant : IsConstant (row (pos 5) (pos 0))
is_constant zero l = absurd (omega arith)
is_constant (suc zero) l = refl
is_constant (suc (suc i)) l = refl

itself : (w : Row) → w ≡ row (pos 0) (pos 2) → IsSearchObjective (row (pos 0) (pos 2)) w
itself w e = record { cols = ap length e; itself = λ n. e; ones = λ h. absurd (varies h) }

ones : (w : Row) → w ≡ row (pos 1) (pos 1) → IsSearchObjective (row (pos 5) (pos 0)) w
ones w e = record { cols = ap length e; itself = λ n. absurd (n is_constant); ones = λ h. e }

pub search_objectives_are_read : SearchObjectivesAreRead
search_objectives_are_read = record {
  itself = λ w. (λ h. h.itself varies, itself w);
  ones = λ w. (λ h. h.ones is_constant, ones w);
}
