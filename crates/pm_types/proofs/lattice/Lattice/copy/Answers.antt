-- Each turn copies one rank more.
use Rattle.pm_geom.proofs.Copies.{copied}
use Rattle.pm_types.proofs.lattice.Lattice.copy.Goals as goal
use Rattle.pm_types.specs.Lists.{lists_of}
use Rattle.std.proofs.Common.{arith, ◌∙◌, ap, map}

pub loop-faces-preserved : goal.loop-faces-preserved
loop-faces-preserved c =
    rw c.in_ok-push.ensures.items (copied lists_of c.deref-faces-items.result.now c.loop-faces.ranks.items c.in_ok-copy_sets.field-0 c.loop-faces.faces-index c.faces-item.result c.loop-faces.invariant (omega arith) (c.in_ok-copy_sets.ensures ∙ ap (map (λ list. list.items)) c.deref.ensures.value ∙ ap lists_of c.faces-item.is))
