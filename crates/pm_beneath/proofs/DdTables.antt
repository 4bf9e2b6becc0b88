-- What double description of the polar hands out at a front is a table of the facets.
use Rattle.pm_vector.proofs.RowLaws.{dot_comm}
use Rattle.pm_vector.specs.Rows.{Row, dot, entry}
use Rattle.pm_vector.specs.Bases.{row_at}
use Rattle.pm_beneath.specs.CellLists.{IsFacetTable}
use Rattle.pm_dd.proofs.Stands.{below_of, below_to}
use Rattle.pm_dd.specs.Building.{StandFor}
use Rattle.pm_dd.specs.Tables.{IsRayTable}
use Rattle.pm_geom.specs.Faces.{ray}
use Rattle.std.specs.Prelude.{ℕ, Bool, List}
use Rattle.std.proofs.Common.{subst, sym, ◌∙◌}
use lib.IntN.{ℤ, pos}
use lib.Signed.{◌<ℤ◌}

pub facet_table : (n : ℕ) (E J : List Row) (f : ℕ) (V : List Row) (Z : List (List Bool)) (vs : List ℤ) → IsRayTable n E J f V Z → StandFor (row_at J f) V vs → IsFacetTable J V vs Z f
facet_table n E J f V Z vs t p = record {
  values_many = p.as_many;
  zeros_many = t.as_many;
  values = λ i l. let e = dot_comm (row_at J f) (ray V i) in (
    λ h. subst (λ (z : ℤ). z <ℤ pos 0) e (below_of (dot (row_at J f) (ray V i)) (entry vs i) (p.each i l) h),
    λ h. below_to (dot (row_at J f) (ray V i)) (entry vs i) (p.each i l) (subst (λ (z : ℤ). z <ℤ pos 0) (sym e) h),
  );
  zeros = λ i q l m. let z = (t.zeros i l).exact q in (λ h. dot_comm (ray V i) (row_at J q) ∙ (z.0 h).1, λ e. z.1 (m, dot_comm (row_at J q) (ray V i) ∙ e));
}
