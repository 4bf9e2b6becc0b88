-- Which thinnings of a view's rows are lost by wide numbers, and which rows from its sets; and how the wide clients
-- fail: what holds, and what does not.
use Rattle.pm_vector.specs.Rows.{Row}
use Rattle.pm_client.specs.Examples.{named}
use Rattle.pm_client.specs.Sound.{FailsRightly}
use Rattle.pm_client.specs.declared.ClientFail.TheVariants.{Failed}
use Rattle.pm_clients_geom.specs.Thinned.{ReadsLostRows, ReadsLostSets, ThinFails}
use Rattle.pm_clients_geom.specs.declared.thinning.ThinWork.TheVariants as thin
use Rattle.pm_elim.specs.LostExamples.{odd_next, odd_row, one_entry, two_rows}
use Rattle.pm_geom.specs.declared.evidence.Evidence.{Evidence}
use Rattle.pm_geom.specs.declared.evidence.Evidence.TheVariants.{E4, E5Rows}
use Rattle.pm_incidence.specs.LostExamples.{first_unit}
use Rattle.pm_object.specs.Reading.{ViewSeen}
use Rattle.pm_object_type.specs.declared.object_type.ObjectType.TheVariants.{Cone}
use Rattle.pm_props.specs.declared.property.PropId.{PropId}
use Rattle.pm_props.specs.declared.property.PropId.TheVariants.{AffineHull, Equations, Facets, Inequalities, InputLineality, LinealitySpace, Points, Vertices, VerticesInFacets}
use Rattle.pm_types.specs.Values.{Fact, IndexSets, matrix, sets}
use Rattle.pm_types.specs.Views.{ratios}
use Rattle.std.specs.Prelude.{List, None, [], codes, map, ℕ, ◌∷◌}

-- the value of a property that has these rows of n entries
abbrev pub with_rows : ℕ → PropId → List Row → Fact
with_rows n p X = record { place = None; property = p; value = matrix n (map ratios X) }

-- a view of a cone with n columns and these values
abbrev pub with_values : ℕ → List Fact → ViewSeen
with_values n facts = record {
  of = Cone;
  cols = n;
  kind = named (codes "thin_points_f_wide") 1 2;
  sub = None;
  facts = facts;
}

-- POINTS with one line, and the facet x >= 0, on which (1, 1, 2^126) does not lie
abbrev pub with_points : Row → List Row → ViewSeen
with_points line X = with_values 3 (with_rows 3 InputLineality (line ∷ []) ∷ with_rows 3 Points X
    ∷ with_rows 3 Facets (first_unit ∷ []) ∷ [])

-- INEQUALITIES with one equation, and the ray (1, 0, 0), on which that row does not vanish
abbrev pub with_inequalities : Row → List Row → ViewSeen
with_inequalities equation X = with_values 3 (with_rows 3 Equations (equation ∷ []) ∷ with_rows 3 Inequalities X
    ∷ with_rows 3 Vertices (first_unit ∷ []) ∷ [])

-- the one ray of VERTICES_IN_FACETS lies on two facets, or the one facet has two rays
abbrev pub one_ray : IndexSets
one_ray = record { rows = (0 ∷ []) ∷ (0 ∷ []) ∷ []; cols = 1 }

abbrev pub one_facet : IndexSets
one_facet = record { rows = (0 ∷ 1 ∷ []) ∷ []; cols = 2 }

-- rows of the second property in n columns, with no row of the first, and their sets
abbrev pub with_sets : ℕ → PropId → PropId → List Row → IndexSets → ViewSeen
with_sets n first second X s = with_values n (with_rows n first [] ∷ with_rows n second X
    ∷ record { place = None; property = VerticesInFacets; value = sets s.rows s.cols } ∷ [])

pub record LostThinnedAreRead : Type 0 where
  -- reduced by the line (2, 1, -1) the point (1, 1, 2^126) becomes (0, 1, 2^127 + 1); so does that inequality
  pub points : ReadsLostRows (with_points odd_row (odd_next ∷ [])) InputLineality Points Facets
  pub inequalities : ReadsLostRows (with_inequalities odd_row (odd_next ∷ [])) Equations Inequalities Vertices
  -- with no point there is nothing to be reduced
  pub not_points : ¬ (ReadsLostRows (with_points odd_row []) InputLineality Points Facets)
  pub not_inequalities : ¬ (ReadsLostRows (with_inequalities odd_row []) Equations Inequalities Vertices)
  -- the null space of (2, 1) and (-1, 2^126) is lost, that of rows of one entry is not
  pub rays : ReadsLostSets (with_sets 2 AffineHull Facets two_rows one_ray) AffineHull Facets
  pub not_rays : ¬ (ReadsLostSets (with_sets 1 AffineHull Facets one_entry one_ray) AffineHull Facets)
  pub facets : ReadsLostSets (with_sets 2 LinealitySpace Vertices two_rows one_facet) LinealitySpace Vertices
  pub not_facets : ¬ (ReadsLostSets (with_sets 1 LinealitySpace Vertices one_entry one_facet) LinealitySpace Vertices)
  -- right evidence is how the wide clients fail where what they read is lost, and not elsewhere
  pub points_fail : (e : Evidence) → FailsRightly (with_points odd_row (odd_next ∷ [])) (Failed e)
      → ThinFails thin.ThinPointsFWide (with_points odd_row (odd_next ∷ [])) (Failed e)
  pub not_points_fail : (e : Evidence) → ¬ (ThinFails thin.ThinPointsFWide (with_points odd_row []) (Failed e))
  pub inequalities_fail : (e : Evidence) → FailsRightly (with_inequalities odd_row (odd_next ∷ [])) (Failed e)
      → ThinFails thin.ThinInequalitiesVWide (with_inequalities odd_row (odd_next ∷ [])) (Failed e)
  pub not_inequalities_fail : (x y : Row)
      → ¬ (ThinFails thin.ThinInequalitiesVWide (with_inequalities odd_row []) (Failed (E4 x y)))
  pub rays_fail : (e : Evidence) → FailsRightly (with_sets 2 AffineHull Facets two_rows one_ray) (Failed e)
      → ThinFails thin.VerticesFromSetsWide (with_sets 2 AffineHull Facets two_rows one_ray) (Failed e)
  pub not_rays_fail : (e : Evidence)
      → ¬ (ThinFails thin.VerticesFromSetsWide (with_sets 1 AffineHull Facets one_entry one_ray) (Failed e))
  pub facets_fail : (e : Evidence)
      → FailsRightly (with_sets 2 LinealitySpace Vertices two_rows one_facet) (Failed e)
      → ThinFails thin.FacetsFromSetsWide (with_sets 2 LinealitySpace Vertices two_rows one_facet) (Failed e)
  pub not_facets_fail : (e : Evidence)
      → ¬ (ThinFails thin.FacetsFromSetsWide (with_sets 1 LinealitySpace Vertices one_entry one_facet) (Failed e))
  -- of too many facets it is enough that the evidence is right, and so it is for the standard clients
  pub many_fail : (places : List ℕ) → FailsRightly (with_inequalities odd_row []) (Failed (E5Rows places))
      → ThinFails thin.ThinInequalitiesVWide (with_inequalities odd_row []) (Failed (E5Rows places))
  pub standard_fails : (e : Evidence) → FailsRightly (with_points odd_row []) (Failed e)
      → ThinFails thin.ThinPointsF (with_points odd_row []) (Failed e)
