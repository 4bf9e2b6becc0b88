use Rattle.pm_client.proofs.Foreign.{foreign_has_way, foreign_ways}
use Rattle.pm_client.proofs.example_foreigns.Goals as goal
use Rattle.pm_client.specs.ForeignExamples.{from_sets, graph_from_rows, my_vertices}
use Rattle.pm_props.specs.Sets.{has, only, union}
use Rattle.pm_standard.specs.Ways.{doubling}
use Rattle.pm_standard.specs.declared.standard.StandardClient.TheVariants as client
use Rattle.pm_standard.specs.Named.{does_the_same}
use Rattle.pm_vector.proofs.Lists.{here}
use Rattle.std.proofs.Common.{ap, false, refl, true, ◌∙◌, ◌≡◌}
use Rattle.std.proofs.lemmas.Bool.{eq-eqb}
use Rattle.std.specs.Prelude.{nat_eq, ℕ, ◌&&◌}

same : does_the_same my_vertices client.DdVertices ≡ true
same = ap (λ b. b && nat_eq sources sources) (eq-eqb targets targets refl) ∙ eq-eqb sources sources refl
  where
    targets : ℕ
    targets = my_vertices.targets

    sources : ℕ
    sources = my_vertices.sources

other_sources : does_the_same from_sets client.DdVertices ≡ false
unfolding has union only
other_sources = refl

other_targets : does_the_same graph_from_rows client.DdVertices ≡ false
unfolding has union only
other_targets = refl

pub returns : goal.returns
returns c = record {
  unnamed = refl;
  same = same;
  other_sources = other_sources;
  other_targets = other_targets;
  as_the_rule = foreign_has_way my_vertices doubling refl client.DdVertices here same refl;
  no_other = λ kind w. foreign_ways kind w;
  by_name = refl;
  only_by_name = refl;
}
