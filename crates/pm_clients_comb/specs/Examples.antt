-- Sizes of three sets of places below 4; which clients find incidence, and how the wide one fails.
use Rattle.pm_relations.specs.Sizes.{has_place, holding, place_sizes, set_sizes}
use Rattle.pm_client.specs.declared.ClientFail.TheVariants.{Failed, Memory}
use Rattle.pm_clients_comb.specs.Incidence.{FindsIncidence}
use Rattle.pm_clients_comb.specs.Works.{SetsFail}
use Rattle.pm_clients_comb.specs.declared.client.SetsWork.TheVariants as work
use Rattle.pm_geom.specs.declared.evidence.Evidence.{Evidence}
use Rattle.pm_object.specs.Reading.{ViewSeen}
use Rattle.pm_props.specs.Sets.{set_of}
use Rattle.pm_props.specs.declared.property.PropId.TheVariants.{Vertices}
use Rattle.pm_standard.specs.Table.{standard_kind}
use Rattle.pm_standard.specs.declared.standard.StandardClient.TheVariants as client
use Rattle.std.specs.Prelude.{ℕ, List, [], false, true, ◌∷◌, ◌≡◌}
use lib.IntN.{pos}

abbrev pub three_sets : List (List ℕ)
three_sets = (0 ∷ 2 ∷ 3 ∷ []) ∷ [] ∷ (2 ∷ []) ∷ []

pub record SizesAreRead : Type 0 where
  -- the sets have 3, 0 and 1 places; place 2 is in two of them, place 1 in none
  pub of_sets : set_sizes three_sets ≡ pos 3 ∷ pos 0 ∷ pos 1 ∷ []
  pub of_places : place_sizes three_sets 4 ≡ pos 1 ∷ pos 0 ∷ pos 2 ∷ pos 1 ∷ []
  pub in_two : holding three_sets 2 ≡ 2
  pub has : has_place 3 (0 ∷ 2 ∷ 3 ∷ []) ≡ true
  pub has_not : has_place 1 (0 ∷ 2 ∷ 3 ∷ []) ≡ false

pub record IncidenceIsRead : Type 0 where
  -- sets are found from rays and facets, in either way; sizes are no sets, and rays alone do not do
  pub finds : FindsIncidence (standard_kind client.Incidence)
  pub finds_wide : FindsIncidence (standard_kind client.IncidenceWide)
  pub no_sizes : ¬ (FindsIncidence (standard_kind client.VertexSizes))
  pub no_rays_alone : ¬ (FindsIncidence (record (standard_kind client.Incidence) {
    sources = set_of (Vertices ∷ []);
  }))
  -- the wide one has no evidence
  pub memory : (v : ViewSeen) → SetsFail work.IncidenceWide v Memory
  pub no_evidence : (v : ViewSeen) (e : Evidence) → ¬ (SetsFail work.IncidenceWide v (Failed e))
