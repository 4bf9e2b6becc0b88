-- The rays of all rows, sorted, are the generators of the cone.
use Rattle.std.specs.Prelude.{ℕ, ◌≡◌, ◌<◌, List, [], ◌++◌, length, take}
use Rattle.std.specs.List.{All}
use Rattle.std.specs.List.Sorted.{IsPermutation, IsSorted}
use Rattle.std.specs.Ordering.{int_cmp}
use Rattle.std.specs.Cmp.Lexicographic.{slice_cmp}
use Rattle.std.proofs.Common.{arith, subst}
use Rattle.std.proofs.lemmas.List.Sorted.{All-permutation}
use Rattle.pm_vector.specs.Divisors.{IsPrimitive}
use Rattle.pm_vector.specs.Rows.{HasCols, Row}
use Rattle.pm_vector.proofs.Ring.{ring}
use Rattle.pm_vector.proofs.RowLaws.{entry-times}
use Rattle.pm_vector.proofs.Lists.{all_from, among_All}
use Rattle.pm_vector.specs.NullSpaces.{IsNullBasis}
use Rattle.pm_elim.proofs.DualLaws.{null_basis_unique}
use Rattle.pm_geom.specs.Cones.{CutOut, IsExtreme, IsOrder, SameModulo}
use Rattle.pm_geom.specs.Faces.{ray}
use Rattle.pm_geom.specs.Generators.{AreGenerators, VanishAt}
use Rattle.pm_geom.proofs.Facets.{order_as}
use Rattle.pm_dd.specs.Arrangement.{IsArrangement}
use Rattle.pm_dd.specs.Form.{AreReduced}
use Rattle.pm_dd.specs.Fronts.{HalfSpaces}
use Rattle.pm_dd.proofs.Arranged.{all_lines, all_of, all_to}
use Rattle.pm_dd.proofs.Ascending.{ascending, order_permutation}
use Rattle.pm_dd.proofs.Building.{multiple_alike}
use Rattle.pm_dd.proofs.Description.{cut_cone_set}
use Rattle.pm_dd.proofs.StepLaws.{at_place}
use lib.IntN.{pos}
use lib.Signed.{lt_z_yes}

-- no row stands twice in an order
pub apart_in : (n : ℕ) (X V : List Row) → IsOrder n (CutOut X) V → (i j : ℕ) → i < j → j < length V → ¬ (ray V i ≡ ray V j)
apart_in n X V o i j l m e =
    let li : i < length V = omega arith in
    let x = among_All (λ v. IsExtreme n (CutOut X) v) (at_place V i li) o.each in
    let same : SameModulo n (CutOut X) (ray V i) (ray V i) = multiple_alike n (CutOut X) (cut_cone_set X) (ray V i) (ray V i) (pos 1) x.cols (lt_z_yes tt) x.inside (record { at = λ k. simp (entry-times, ring) }) in
    o.once i j [] l m (subst (λ (w : Row). SameModulo n (CutOut X) (ray V i) w) e same)

pub generators_answered : (n : ℕ) (X E J : List Row) (start : ℕ) → HasCols n X → IsArrangement X E J start → (V W K : List Row) (P : List ℕ) → IsOrder n (HalfSpaces E J) V → AreReduced n (E ++ take start J) V → IsPermutation V W → IsSorted (slice_cmp int_cmp) W → IsNullBasis n (E ++ take start J) K P → AreGenerators n (CutOut X) W K
generators_answered n X E J start hX a V W K P o r p s b = record {
  pivots = P;
  basis = all_lines n X E J start hX a K P b;
  order = order;
  primitive = All-permutation IsPrimitive V W p r.primitive;
  reduced = All-permutation (VanishAt P) V W p (subst (λ (Q : List ℕ). All (VanishAt Q) V) (null_basis_unique n (E ++ take start J) r.null K r.pivots P r.basis b).1 r.zeros);
  ascending = ascending n W cols s (apart_in n X W order);
}
  where
    order : IsOrder n (CutOut X) W
    order = order_permutation n (CutOut X) (cut_cone_set X) V W p (order_as n (HalfSpaces E J) (CutOut X) (λ x lx. all_of n X E J start hX a x) (λ x lx. all_to n X E J start hX a x) o)

    cols : HasCols n W
    cols = all_from (λ (x : Row). length x ≡ n) W (λ x i. (among_All (λ v. IsExtreme n (CutOut X) v) i order.each).cols)
