-- How a client of one's own may fail, whose name no rule has: as each standard rule does that finds the same from the
-- same.
use Rattle.std.specs.List.{Contains, list_any}
use Rattle.std.specs.Prelude.{None, [], ◌∷◌, ◌≡◌, codes, false, true}
use Rattle.pm_client.specs.Sound.{has_way}
use Rattle.pm_props.specs.Kinds.{finding}
use Rattle.pm_props.specs.declared.kind.Kind.{Kind}
use Rattle.pm_props.specs.declared.property.PropId.TheVariants.{Equations, Graph, Inequalities, LinealitySpace, Vertices, VerticesInFacets}
use Rattle.pm_standard.specs.Named.{does_the_same, row_named}
use Rattle.pm_standard.specs.Table.{standard_clients, table_row}
use Rattle.pm_standard.specs.Ways as way
use Rattle.pm_standard.specs.Ways.{Way, is_way}
use Rattle.pm_standard.specs.declared.standard.StandardClient.{StandardClient}
use Rattle.pm_standard.specs.declared.standard.StandardClient.TheVariants as client

-- a client of one's own that finds what dd_vertices finds
abbrev pub my_vertices : Kind
my_vertices = finding (codes "my_vertices") (Vertices ∷ LinealitySpace ∷ []) (Inequalities ∷ Equations ∷ [])

-- one that finds them from sets, and one that finds GRAPH from what dd_vertices reads
abbrev pub from_sets : Kind
from_sets = finding (codes "my_vertices") (Vertices ∷ LinealitySpace ∷ []) (VerticesInFacets ∷ [])

abbrev pub graph_from_rows : Kind
graph_from_rows = finding (codes "my_vertices") (Graph ∷ []) (Inequalities ∷ Equations ∷ [])

-- one that finds GRAPH under the name of dd_vertices_f
abbrev pub misnamed : Kind
misnamed = finding (codes "dd_vertices_f") (Graph ∷ []) (Vertices ∷ [])

pub record ForeignsAreRead : Type 0 where
  pub unnamed : row_named my_vertices.name ≡ None
  -- it does what dd_vertices does; one that finds the same from other sources does not, nor does one that finds other
  -- targets
  pub same : does_the_same my_vertices client.DdVertices ≡ true
  pub other_sources : does_the_same from_sets client.DdVertices ≡ false
  pub other_targets : does_the_same graph_from_rows client.DdVertices ≡ false
  -- it may fail as dd_vertices
  pub as_the_rule : has_way my_vertices way.doubling ≡ true
  -- in no way in which no standard rule fails that finds the same from the same
  pub no_other : (kind : Kind) (w : Way) → row_named kind.name ≡ None → has_way kind w ≡ true
      → (c : StandardClient) × Contains standard_clients c × (does_the_same kind c ≡ true)
      × (list_any (is_way w) (table_row c).ways ≡ true)
  -- where a rule has the name, it is the rule's ways that count
  pub by_name : has_way misnamed way.doubling ≡ true
  pub only_by_name : has_way misnamed way.thinning_programs ≡ false
