-- The examples of sizes and of incidence hold.
use Rattle.pm_clients_comb.specs.Examples.{IncidenceIsRead, SizesAreRead}
use Rattle.pm_client.proofs.ViewLaws.{has_listed}
use Rattle.pm_client.specs.declared.ClientFail.{ClientFail}
use Rattle.pm_client.specs.declared.ClientFail.TheVariants.{Failed, Memory}
use Rattle.pm_props.specs.Sets.{set_of}
use Rattle.pm_props.specs.declared.property.PropId.TheVariants as property
use Rattle.pm_standard.specs.Table.{standard_kind}
use Rattle.pm_standard.specs.declared.standard.StandardClient.TheVariants as client
use Rattle.std.proofs.Common.{ap, false, refl, sym, true, true≢false, ◌∙◌}
use Rattle.std.specs.Prelude.{Bool, [], ◌∷◌}

pub sizes_are_read : SizesAreRead
sizes_are_read = record { of_sets = refl; of_places = refl; in_two = refl; has = refl; has_not = refl }

is_evidence : ClientFail → Bool
is_evidence (Failed e) = true
is_evidence Memory = false

pub incidence_is_read : IncidenceIsRead
unfolding is_evidence
incidence_is_read = record {
  finds = record { targets = refl; sources = refl };
  finds_wide = record { targets = refl; sources = refl };
  no_sizes = λ h. true≢false (sym (has_listed _ (property.VerticesInFacets ∷ []) property.VerticesInFacets h.targets) ∙ has_listed (standard_kind client.VertexSizes).targets (property.VertexSizes ∷ []) property.VerticesInFacets refl);
  no_rays_alone = λ h. true≢false (sym (has_listed _ (property.Vertices ∷ property.Facets ∷ []) property.Facets h.sources) ∙ has_listed (set_of (property.Vertices ∷ [])) (property.Vertices ∷ []) property.Facets refl);
  memory = λ v. refl;
  no_evidence = λ v e h. true≢false (ap is_evidence h);
}
