use Rattle.pm_clients_graph.proofs.EdgeForms.{edges_with_nodes}
use Rattle.pm_clients_graph.proofs.OneSource.{has_alone}
use Rattle.pm_clients_graph.proofs.client.n_ridges.Goals as goal
use Rattle.pm_props.specs.declared.property.PropId.TheVariants.{DualGraph, NRidges}
use Rattle.pm_clients_graph.proofs.Answered.{ridges_sound}
use Rattle.std.proofs.Common.{ap, ◌∙◌}

pub edges_of-requires-clause-source : goal.edges_of-requires-clause-source
edges_of-requires-clause-source c = has_alone _ DualGraph (ap (λ k. k.sources) c.requires.kind)

pub edge_count-ridges-requires : goal.edge_count-ridges-requires
edge_count-ridges-requires c = record { form = edges_with_nodes c.edges_of.result.now.rows c.edges_of.result.now.cols c.edges_of.ensures.forms.formed }

pub put_value-requires-clause-target : goal.put_value-requires-clause-target
put_value-requires-clause-target c = has_alone _ NRidges (ap (λ d. d.kind.targets) c.requires.empty ∙ ap (λ k. k.targets) c.requires.kind)

pub returns-clause-sound : goal.returns-clause-sound
returns-clause-sound c =
    ridges_sound c.args.view.now c.args.draft.now c.put_value.new.draft c.edges_of.result.now.rows c.edges_of.result.now.cols c.edges_of.ensures.value c.edge_count-ridges.result c.edge_count-ridges.ensures.count c.edge_count-ridges.ensures.few
    (record { targets = ap (λ k. k.targets) c.requires.kind; empty = c.requires.empty; put = c.in_ok-put_value.ensures.ok })
