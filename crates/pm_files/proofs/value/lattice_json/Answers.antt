-- Each turn puts one rank more behind the others.
use Rattle.pm_files.proofs.value.lattice_json.Goals as goal
use Rattle.pm_files.proofs.Lists.{array_is, all_made, map_twice}
use Rattle.pm_files.specs.ValueJson.{edges_json}
use Rattle.pm_geom.proofs.Copies.{made}
use Rattle.pm_types.specs.Lists.{lists_of}
use Rattle.serde_json.specs.View.{view}
use Rattle.std.proofs.Common.{ap, arith, map, ◌∙◌}

pub loop-faces-preserved : goal.loop-faces-preserved
loop-faces-preserved c =
    rw c.in_ok-push.ensures.items (made view (λ faces. edges_json (lists_of faces)) c.args.ranks.now c.loop-faces.items.items c.in_ok-edges_json.field-0 c.loop-faces.faces-index c.faces-item.result c.loop-faces.invariant (omega arith)
    (c.in_ok-edges_json.ensures ∙ ap (λ v. edges_json (map (λ set. set.items) v)) c.deref.ensures.value ∙ ap (λ faces. edges_json (lists_of faces)) c.faces-item.is))

pub returns : goal.returns
returns c =
    array_is c.loop-faces.items (map edges_json (map lists_of c.args.ranks.now))
    (all_made (λ faces. edges_json (lists_of faces)) c.args.ranks.now c.loop-faces.items.items c.loop-faces.faces-index c.loop-faces.invariant c.loop-faces-test.false ∙ map_twice lists_of edges_json c.args.ranks.now)
