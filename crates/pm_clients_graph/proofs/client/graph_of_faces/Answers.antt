use Rattle.pm_clients_graph.proofs.OneSource.{has_alone, no_fan_reads}
use Rattle.pm_clients_graph.proofs.client.graph_of_faces.Goals as goal
use Rattle.pm_props.specs.declared.property.PropId.TheVariants.{Graph, HasseDiagram}
use Rattle.pm_object_type.specs.declared.object_type.ObjectType.TheVariants.{Fan}
use Rattle.pm_clients_graph.proofs.Answered.{graph_of_faces_sound}
use Rattle.pm_clients_graph.proofs.EdgeForms.{few_in_whole}
use Rattle.std.proofs.Common.{ap, arith, refl, rules, sym, ◌∙◌, ◌≡◌}

pub prove-unreachable-requires : goal.prove-unreachable-requires
prove-unreachable-requires c =
    let fan : c.of.result ≡ Fan = search rules in
    no_fan_reads c.args.view.now HasseDiagram c.of.ensures.view (ap (λ k. k.sources) c.requires.kind) refl refl (sym c.of.ensures.value ∙ fan)

pub lattice_of-lattice-requires-clause-source : goal.lattice_of-lattice-requires-clause-source
lattice_of-lattice-requires-clause-source c = has_alone _ HasseDiagram (ap (λ k. k.sources) c.requires.kind)

pub graph_of_faces-requires : goal.graph_of_faces-requires
graph_of_faces-requires c = let few = few_in_whole c.lattice_of-lattice.result.now c.lattice_of-lattice.ensures.forms.formed in omega arith

pub put_value-requires-clause-target : goal.put_value-requires-clause-target
put_value-requires-clause-target c = has_alone _ Graph (ap (λ d. d.kind.targets) c.requires.empty ∙ ap (λ k. k.targets) c.requires.kind)

pub returns-clause-sound : goal.returns-clause-sound
returns-clause-sound c =
    let v = c.args.view.now in
    let no_fan = no_fan_reads v HasseDiagram c.of.ensures.view (ap (λ k. k.sources) c.requires.kind) refl refl in
    graph_of_faces_sound v c.args.draft.now c.put_value.new.draft no_fan c.in_ok-graph.graph.rows c.in_ok-graph.graph.cols c.lattice_of-lattice.result.now c.lattice_of-lattice.ensures.value c.lattice_of-lattice.ensures.forms c.in_ok-graph.ensures.graph c.in_ok-graph.ensures.cols
    (record { targets = ap (λ k. k.targets) c.requires.kind; empty = c.requires.empty; put = c.in_ok-put_value.ensures.ok })
