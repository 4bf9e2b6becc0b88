use Rattle.pm_clients_graph.proofs.OneSource.{has_alone}
use Rattle.pm_clients_graph.proofs.client.vertex_degrees.Goals as goal
use Rattle.pm_props.specs.declared.property.PropId.TheVariants.{Graph, VertexDegrees}
use Rattle.pm_clients_graph.proofs.Answered.{degrees_sound}
use Rattle.std.proofs.Common.{ap, ◌∙◌}

pub edges_of-requires-clause-source : goal.edges_of-requires-clause-source
edges_of-requires-clause-source c = has_alone _ Graph (ap (λ k. k.sources) c.requires.kind)

pub put_value-requires-clause-target : goal.put_value-requires-clause-target
put_value-requires-clause-target c = has_alone _ VertexDegrees (ap (λ d. d.kind.targets) c.requires.empty ∙ ap (λ k. k.targets) c.requires.kind)

pub returns-clause-sound : goal.returns-clause-sound
returns-clause-sound c =
    degrees_sound c.args.view.now c.args.draft.now c.put_value.new.draft c.edges_of.result.now.rows c.edges_of.result.now.cols c.edges_of.ensures.value c.edges_of.ensures.forms
    (record { targets = ap (λ k. k.targets) c.requires.kind; empty = c.requires.empty; put = rw (c.from_vec.ensures, c.in_ok-numbers.ensures) at c.in_ok-put_value.ensures.ok })
