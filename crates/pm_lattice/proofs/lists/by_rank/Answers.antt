-- Each face is put at the end of its rank.
use Rattle.pm_lattice.proofs.ListTurns.{AreLevels, levels_end, levels_passed, levels_put}
use Rattle.pm_lattice.proofs.lists.by_rank.Goals as goal
use Rattle.pm_lattice.proofs.lists.by_rank.Goals.{then-rank-top+in_ok-members+in_ok-push, else-rank-top}
use Rattle.std.proofs.Common.{arith, get_or, subst, sym, take, ◌+◌}
use Rattle.std.proofs.lemmas.List.{get_or_default}

pub loop-place-preserved : goal.loop-place-preserved
loop-place-preserved c =
    let faces = c.args.faces.now in
    let ranks = c.args.ranks.now in
    let place = c.loop-place.place in
    let rank = get_or ranks place 0 in
    elim c.if-rank-top.branch [
      | then-rank-top+in_ok-members+in_ok-push w ↦ subst (λ v. AreLevels c.args.top (take (place + 1) faces) (take (place + 1) ranks) v.items) (sym w.levels-is)
          (levels_put faces ranks place c.loop-place-test.true c.requires.as_many c.index-faces-place.result c.index-faces-place.is rank (get_or_default ranks place 0 rank (omega (arith, c.loop-place-test.true, c.requires.as_many)))
          c.args.top c.loop-place.levels.items c.loop-place.invariant w.if-rank-top.true w.index_mut.result.now w.index_mut.ensures.value
          w.in_ok-members.field-0 w.in_ok-members.ensures w.push.new.self w.in_ok-push.ensures.items)
      | else-rank-top w ↦ subst (λ v. AreLevels c.args.top (take (place + 1) faces) (take (place + 1) ranks) v.items) (sym w.levels-is)
          (levels_passed faces ranks place c.loop-place-test.true c.requires.as_many c.index-faces-place.result c.index-faces-place.is rank (get_or_default ranks place 0 rank (omega (arith, c.loop-place-test.true, c.requires.as_many)))
          c.args.top c.loop-place.levels.items c.loop-place.invariant w.if-rank-top.false)
    ]

pub returns : goal.returns
returns c = levels_end c.args.top c.args.faces.now c.args.ranks.now c.loop-place.place c.loop-place.levels.items (omega arith) c.requires.as_many c.loop-place.invariant
