use Rattle.pm_clients_graph.proofs.EdgeForms.{edges_with_nodes}
use Rattle.pm_clients_graph.proofs.OneSource.{has_alone}
use Rattle.pm_clients_graph.proofs.client.n_edges.Goals as goal
use Rattle.pm_props.specs.declared.property.PropId.TheVariants.{Graph, NEdges}
use Rattle.pm_clients_graph.proofs.Answered.{edges_sound}
use Rattle.std.proofs.Common.{ap, ◌∙◌}

pub edges_of-requires-clause-source : goal.edges_of-requires-clause-source
edges_of-requires-clause-source c = has_alone _ Graph (ap (λ k. k.sources) c.requires.kind)

pub edge_count-edges-requires : goal.edge_count-edges-requires
edge_count-edges-requires c = record { form = edges_with_nodes c.edges_of.result.now.rows c.edges_of.result.now.cols c.edges_of.ensures.forms.formed }

pub put_value-requires-clause-target : goal.put_value-requires-clause-target
put_value-requires-clause-target c = has_alone _ NEdges (ap (λ d. d.kind.targets) c.requires.empty ∙ ap (λ k. k.targets) c.requires.kind)

pub returns-clause-sound : goal.returns-clause-sound
returns-clause-sound c =
    edges_sound c.args.view.now c.args.draft.now c.put_value.new.draft c.edges_of.result.now.rows c.edges_of.result.now.cols c.edges_of.ensures.value c.edges_of.ensures.forms c.edge_count-edges.result c.edge_count-edges.ensures.count c.edge_count-edges.ensures.few
    (record { targets = ap (λ k. k.targets) c.requires.kind; empty = c.requires.empty; put = c.in_ok-put_value.ensures.ok })
