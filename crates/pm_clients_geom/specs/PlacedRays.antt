-- What the clients that place rays are for, what they find, and how they fail.
use Rattle.pm_client.specs.Fails.{IfOutOfRange}
use Rattle.pm_vector.specs.Rows.{Row}
use Rattle.pm_beneath.specs.declared.fails.PlaceFail.{PlaceFail}
use Rattle.pm_beneath.specs.declared.fails.PlaceFail.TheVariants as place
use Rattle.pm_client.specs.Sound.{FailsRightly, are_parts, cell_count, double_list, doubling, eliminated_by, enlarging_rows, first_part, has_way}
use Rattle.pm_client.specs.declared.ClientFail.{ClientFail}
use Rattle.pm_client.specs.declared.ClientFail.TheVariants.{Failed, Memory}
use Rattle.pm_clients_geom.specs.Hulls.{ReadsLostParts}
use Rattle.pm_clients_geom.specs.Lists.{ReadsParts}
use Rattle.pm_clients_geom.specs.declared.placing.PlaceWork.{PlaceWork}
use Rattle.pm_clients_geom.specs.declared.placing.PlaceWork.TheVariants as work
use Rattle.pm_geom.specs.Graphs.{IsAscending}
use Rattle.pm_geom.specs.Triangulations.{IsTriangulation}
use Rattle.pm_dd.specs.Hulls.{AreFacets}
use Rattle.pm_object.specs.Reading.{ViewSeen}
use Rattle.pm_props.specs.Properties.{is_generator}
use Rattle.pm_props.specs.Sets.{set_of}
use Rattle.pm_props.specs.declared.kind.Kind.{Kind}
use Rattle.pm_props.specs.declared.property.PropId.{PropId}
use Rattle.pm_types.specs.Values.{IndexSets}
use Rattle.std.specs.List.{All, AllPairs}
use Rattle.std.specs.Prelude.{IsTrue, List, [], length, ◌∷◌, ◌≡◌, ◌≤◌}
use Rattle.pm_limits.specs.Limits.{most_rows}

-- a client of the kind places points or rays, of a thing with lines
pub record PlacesRays (kind : Kind) (first second : PropId) : Type 0 where
  pub sources : kind.sources ≡ set_of (second ∷ first ∷ [])
  pub parts : IsTrue (are_parts first second)
  pub generators : IsTrue (is_generator second)
  pub doubles : IsTrue (has_way kind doubling)
  pub counts : IsTrue (has_way kind cell_count)
  pub lists : eliminated_by kind ≡ first_part ∷ double_list ∷ enlarging_rows ∷ []

-- L and G were read; F are the facet rows of what they generate, H the rows that vanish there, and the sets of places
-- of G, each once, a triangulation of it
pub record ArePlaced (v : ViewSeen) (first second : PropId) (L G F H : List Row) (cells : IndexSets)
    : Type 0 where
  pub read : ReadsParts v first second L G
  pub few_rays : length G ≤ most_rows
  pub facets : AreFacets v.cols G L F H
  pub few_facets : length F ≤ most_rows
  pub triangulation : IsTriangulation v.cols G L cells.rows
  pub few_cells : length cells.rows ≤ most_rows
  pub ascending : All (IsAscending (length G)) cells.rows
  pub different : AllPairs (λ r s. ¬ (r ≡ s)) cells.rows
  pub cols : cells.cols ≡ length G

-- the failure of a client whose placing was given up
abbrev pub fail_of_place : PlaceFail → ClientFail
fail_of_place (place.Wide e) = Failed e
fail_of_place (place.Many e) = Failed e
fail_of_place place.Memory = Memory

-- a client that places rays fails for want of memory, or with evidence that holds of the view; a wide one with evidence
-- of a number out of the range only where what it reads is lost by wide numbers too
abbrev pub PlaceFails : PlaceWork → ViewSeen → ClientFail → Type 0
PlaceFails work.BbFacetsWide v e = FailsRightly v e × IfOutOfRange e (ReadsLostParts v)
PlaceFails work.BbFacetsVWide v e = FailsRightly v e × IfOutOfRange e (ReadsLostParts v)
PlaceFails work.PlacingWide v e = FailsRightly v e × IfOutOfRange e (ReadsLostParts v)
PlaceFails w v e = FailsRightly v e
