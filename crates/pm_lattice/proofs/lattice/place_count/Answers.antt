use Rattle.pm_lattice.proofs.Closing.{member_count_le, place_count_pushed}
use Rattle.pm_lattice.proofs.Heights.{len_item}
use Rattle.pm_lattice.proofs.lattice.place_count.Goals as goal
use Rattle.std.proofs.Common.{ap, arith, sym, take, [], ◌+◌, ◌++◌, ◌∷◌, ◌∙◌}
use Rattle.std.proofs.lemmas.List.{take_more}

pub overflow_add-places : goal.overflow_add-places
overflow_add-places c = omega (arith, c.loop-face.invariant.small, c.requires.few, c.requires.short, c.count-places.ensures, member_count_le c.face-item.result, len_item c.args.faces.now c.args.len c.loop-face.face-index c.face-item.result c.loop-face-test.true c.face-item.is c.requires.lengths)

pub loop-face-preserved : goal.loop-face-preserved
loop-face-preserved c = record {
  sum = omega (
    arith,
    c.loop-face.invariant.sum,
    c.count-places.ensures,
    place_count_pushed (take c.loop-face.face-index c.args.faces.now) (take (c.loop-face.face-index + 1) c.args.faces.now) c.face-item.result (take_more c.args.faces.now c.loop-face.face-index c.face-item.result c.loop-face-test.true ∙ ap (λ x. take c.loop-face.face-index c.args.faces.now ++ x ∷ []) (sym c.face-item.is)),
  );
  small = omega (arith, c.loop-face.invariant.small, c.requires.short, c.count-places.ensures, member_count_le c.face-item.result, len_item c.args.faces.now c.args.len c.loop-face.face-index c.face-item.result c.loop-face-test.true c.face-item.is c.requires.lengths);
}
