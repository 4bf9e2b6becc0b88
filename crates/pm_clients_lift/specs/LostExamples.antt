-- Which sites of a view are lost by wide numbers, and how a wide client fails: what holds, and what does not.
use Rattle.pm_client.specs.Examples.{named}
use Rattle.pm_client.specs.Sound.{FailsRightly}
use Rattle.pm_client.specs.declared.ClientFail.TheVariants.{Failed}
use Rattle.pm_clients_lift.specs.LiftedSites.{ReadsLostDelaunaySites, ReadsLostSites}
use Rattle.pm_clients_lift.specs.Works.{LiftFails}
use Rattle.pm_clients_lift.specs.declared.lifts.LiftWork.TheVariants as work
use Rattle.pm_geom.specs.declared.evidence.Evidence.{Evidence}
use Rattle.pm_geom.specs.declared.evidence.Evidence.TheVariants.{E4}
use Rattle.pm_lift.specs.Examples.{far, one_half}
use Rattle.pm_object.specs.Reading.{ViewSeen}
use Rattle.pm_object_type.specs.declared.object_type.ObjectType.TheVariants.{Polytope}
use Rattle.pm_props.specs.declared.property.PropId.TheVariants.{SiteHeights, Sites}
use Rattle.pm_types.specs.Values.{matrix}
use Rattle.pm_types.specs.Views.{ratios}
use Rattle.pm_vector.specs.Numbers.{Ratio}
use Rattle.pm_vector.specs.Rows.{Row}
use Rattle.std.specs.Prelude.{List, None, [], codes, length, map, ℕ, ◌∷◌}

-- a view of n columns whose SITES are these rows, with these heights
abbrev pub with_sites : ℕ → List Row → List Ratio → ViewSeen
with_sites n X W = record {
  of = Polytope;
  cols = n;
  kind = named (codes "regular_cells_wide") 1 2;
  sub = None;
  facts = record { place = None; property = Sites; value = matrix n (map ratios X) }
      ∷ record { place = None; property = SiteHeights; value = matrix (length W) (W ∷ []) }
      ∷ [];
}

pub record LostSitesAreRead : Type 0 where
  -- the site (1, 2^127 - 1) at the height 1/2, and on the paraboloid
  pub lost : ReadsLostSites (with_sites 2 far one_half)
  pub lost_delaunay : ReadsLostDelaunaySites (with_sites 2 far one_half)
  -- no sites are not
  pub not_lost : ¬ (ReadsLostSites (with_sites 0 [] []))
  pub not_lost_delaunay : ¬ (ReadsLostDelaunaySites (with_sites 0 [] []))
  -- right evidence is how the wide clients fail where the sites are lost, and not elsewhere
  pub fails : (e : Evidence) → FailsRightly (with_sites 2 far one_half) (Failed e)
      → LiftFails work.RegularCellsWide (with_sites 2 far one_half) (Failed e)
  pub not_fails : (a b : Row) → ¬ (LiftFails work.RegularCellsWide (with_sites 0 [] []) (Failed (E4 a b)))
  pub fails_delaunay : (e : Evidence) → FailsRightly (with_sites 2 far one_half) (Failed e)
      → LiftFails work.DelaunayWide (with_sites 2 far one_half) (Failed e)
  pub not_fails_delaunay : (a b : Row) → ¬ (LiftFails work.DelaunayWide (with_sites 0 [] []) (Failed (E4 a b)))
