-- Which row lists of a view are lost by wide numbers, and how a wide client fails: what holds, and what does not.
use Rattle.pm_vector.specs.Rows.{Row}
use Rattle.pm_client.specs.Examples.{named}
use Rattle.pm_client.specs.Sound.{EliminatesExtended, FailsRightly}
use Rattle.pm_client.specs.declared.ClientFail.TheVariants.{Failed}
use Rattle.pm_clients_geom.specs.Lists.{IsLostExtendedList, IsLostList}
use Rattle.pm_clients_geom.specs.Stays.{DimFails, RowsFail}
use Rattle.pm_clients_geom.specs.declared.dims.DimWork.TheVariants as dimension
use Rattle.pm_clients_geom.specs.declared.rows.RowsWork.TheVariants as rows
use Rattle.pm_elim.specs.LostExamples.{odd_next, odd_row, one_entry, two_rows}
use Rattle.pm_geom.specs.declared.evidence.Evidence.{Evidence}
use Rattle.pm_object.specs.Reading.{ViewSeen}
use Rattle.pm_object_type.specs.declared.object_type.ObjectType.TheVariants.{Cone}
use Rattle.pm_props.specs.declared.property.PropId.TheVariants.{LinealitySpace, Vertices}
use Rattle.pm_types.specs.Values.{matrix}
use Rattle.pm_types.specs.Views.{ratios}
use Rattle.std.specs.Prelude.{List, None, [], codes, map, ℕ, ◌∷◌}

-- a view of a cone with n columns, whose VERTICES are these rows, and whose LINEALITY_SPACE has no row
abbrev pub with_rays : ℕ → List Row → ViewSeen
with_rays n X = record {
  of = Cone;
  cols = n;
  kind = named (codes "cone_dim_v_wide") 1 2;
  sub = None;
  facts = record { place = None; property = LinealitySpace; value = matrix 0 [] }
      ∷ record { place = None; property = Vertices; value = matrix n (map ratios X) }
      ∷ [];
}

pub record LostListsAreRead : Type 0 where
  -- of (2, 1, -1) and (1, 1, 2^126) the second becomes (0, 1, 2^127 + 1)
  pub lost : IsLostList (with_rays 3 (odd_row ∷ odd_next ∷ [])) LinealitySpace Vertices
  -- one row alone needs no step
  pub not_lost : ¬ (IsLostList (with_rays 3 (odd_row ∷ [])) LinealitySpace Vertices)
  -- the extended list of (2, 1) and (-1, 2^126) begins with (2, -1, 1, 0) and (1, 2^126, 0, 1)
  pub extended : IsLostExtendedList (with_rays 2 two_rows) LinealitySpace Vertices
  -- that of rows of one entry has one row
  pub not_extended : ¬ (IsLostExtendedList (with_rays 1 one_entry) LinealitySpace Vertices)
  -- right evidence is how the wide clients fail where their list is lost, and not elsewhere
  pub dimension_fails : (e : Evidence) → FailsRightly (with_rays 3 (odd_row ∷ odd_next ∷ [])) (Failed e)
      → DimFails dimension.ConeDimVWide (with_rays 3 (odd_row ∷ odd_next ∷ [])) (Failed e)
  pub not_dimension_fails : (e : Evidence)
      → ¬ (DimFails dimension.ConeDimVWide (with_rays 3 (odd_row ∷ [])) (Failed e))
  pub hull_fails : (e : Evidence) → FailsRightly (with_rays 2 two_rows) (Failed e) → EliminatesExtended (Failed e)
      → RowsFail rows.HullFromVerticesWide (with_rays 2 two_rows) (Failed e)
  pub not_hull_fails : (e : Evidence) → ¬ (RowsFail rows.HullFromVerticesWide (with_rays 1 one_entry) (Failed e))
