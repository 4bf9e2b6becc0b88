-- Where no pivot of a null space without one of the rows is new, the rows are dependent.
use Rattle.pm_vector.proofs.Columns.{basis_is_independent}
use Rattle.pm_vector.proofs.Lists.{Among, all_at}
use Rattle.pm_vector.proofs.Spans.{place_of, span_at}
use Rattle.pm_vector.specs.Bases.{column}
use Rattle.pm_vector.specs.Cones.{InSpan, IsIndependent}
use Rattle.pm_vector.specs.Rows.{HasCols, Row, dot}
use Rattle.pm_elim.proofs.DualLaws.{IsPivotOf, some_new}
use Rattle.pm_vector.proofs.Independent.{orthogonal_are_few}
use Rattle.pm_vector.specs.NullSpaces.{IsNullBasis}
use Rattle.std.proofs.Common.{arith, subst}
use Rattle.std.proofs.lemmas.List.Edits.{length-remove}
use Rattle.std.specs.Prelude.{List, length, remove, ℕ, ◌+◌, ◌<◌, ◌≡◌, ◌≤◌}
use lib.IntN.{pos}

-- the null space of independent rows has at most the columns that they leave
module _ (n : ℕ) (X N : List Row) (P : List ℕ) (cols : HasCols n X) (free : IsIndependent X) (b : IsNullBasis n X N P) where
  apart : (a e : Row) → Among a X → Among e N → dot a e ≡ pos 0
  apart a e i j =
      let p = place_of j in
      let inside : InSpan N e = subst (λ (z : Row). InSpan N z) p.2 (span_at p.0 p.1) in
      all_at (λ (r : Row). dot r e ≡ pos 0) i ((b.null e (all_at (λ (x : Row). length x ≡ n) j b.echelon.cols)).0 inside)

  pub null_of_independent : length X + length N ≤ n
  null_of_independent =
      orthogonal_are_few n X N cols b.echelon.cols free (basis_is_independent n N P b.echelon.basis) apart

pub dependent_of_none_new : (n : ℕ) (rows : List Row) (j : ℕ) (N : List Row) (P : List ℕ) (M : List Row) (Q : List ℕ)
    → HasCols n rows → j < length rows → IsNullBasis n rows N P → IsNullBasis n (remove rows j) M Q
    → n ≤ length M + length (remove rows j) → ((t : ℕ) → t < length M → IsPivotOf P (column Q t))
    → ¬ (IsIndependent rows)
dependent_of_none_new n rows j N P M Q cols jl a b many all free =
    let few = null_of_independent n rows N P cols free a in
    let fewer = length-remove rows j jl in
    let as_many = a.echelon.as_many in
    some_new rows j jl n N P M Q a b (omega arith) all
