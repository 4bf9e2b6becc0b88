use Rattle.pm_graph.proofs.Bounds.{all_hold, below_rises, one_more_holds}
use Rattle.pm_graph.proofs.Views.{view_in}
use Rattle.pm_graph.proofs.inclusions.index_bound.Goals as goal
use Rattle.pm_graph.specs.Levels.{AreBelow}
use Rattle.pm_types.specs.Lists.{lists_of}
use Rattle.std.proofs.Common.{arith, length, map, subst, ◌<◌}
use Rattle.std.proofs.lemmas.List.{length-map}

pub loop-faces-preserved : goal.loop-faces-preserved
loop-faces-preserved c =
    let l : c.loop-faces.faces-index < length c.args.ranks.now = c.loop-faces-test.true in
    one_more_holds (AreBelow c.loop-faces.bound) (AreBelow c.faces_bound-bound.result) (map lists_of c.args.ranks.now) c.loop-faces.faces-index (lists_of c.faces-item.result)
    (λ rows h. below_rises c.loop-faces.bound c.faces_bound-bound.result c.faces_bound-bound.ensures.least rows h)
    (let w = length-map c.args.ranks.now lists_of in omega arith) (view_in lists_of c.args.ranks.now c.loop-faces.faces-index c.faces-item.result (lists_of c.faces-item.result) l c.faces-item.is) c.loop-faces.invariant
    (subst (λ xs. AreBelow c.faces_bound-bound.result (map (λ face. face.items) xs)) c.deref.ensures.value c.faces_bound-bound.ensures.above)

pub returns : goal.returns
returns c = all_hold (AreBelow c.loop-faces.bound) (map lists_of c.args.ranks.now) c.loop-faces.faces-index (let w = length-map c.args.ranks.now lists_of in omega arith) c.loop-faces.invariant
