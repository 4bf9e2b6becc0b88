use Rattle.pm_elim.proofs.ReductionLaws.{reduced_length}
use Rattle.pm_incidence.proofs.thin.thinned.Goals as goal
use Rattle.std.proofs.Common.{arith, length, refl}
use Rattle.std.proofs.lemmas.List.{get_or_default}

pub returns-clause-thinned : goal.returns-clause-thinned
returns-clause-thinned c = record {
  reduced = c.in_ok-made.made;
  cols = reduced_length (length c.args.row.now) c.args.basis.now.rows c.args.basis.now.pivots c.args.row.now c.in_ok-made.made c.requires.is_basis.basis.cols refl c.in_ok-made.ensures.reduced;
  direction = c.in_ok-made.ensures.direction;
  zeros = λ k d l. rw (get_or_default c.args.basis.now.pivots k d 0 l) (c.in_ok-made.ensures.zero k (let e = c.requires.is_basis.basis.as_many in omega arith));
  primitive = c.primitive.ensures.primitive;
}
