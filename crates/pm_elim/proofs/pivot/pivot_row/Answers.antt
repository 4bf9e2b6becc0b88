use Rattle.pm_vector.specs.Rows.{entry}
use Rattle.pm_elim.proofs.PivotLaws.{pivot_of_negative, pivot_of_positive}
use Rattle.pm_elim.proofs.pivot.pivot_row.Goals as goal
use Rattle.pm_elim.proofs.pivot.pivot_row.Goals.{else-is_negative_at, then-is_negative_at}
use Rattle.std.proofs.Common.{arith, refl}
use Rattle.std.proofs.lemmas.Int.{by_lt_z, ints}
use Rattle.std.specs.Prelude.{pos, ◌<ℤ◌}

pub returns : goal.returns
returns c = elim c.if-is_negative_at.branch [
  | then-is_negative_at w ↦ pivot_of_negative c.args.row c.args.pivot c.primitive.new.v c.requires.before (w.if-is_negative_at.ensures.0 refl) (rw (w.made-is, w.negate.ensures) at c.primitive.ensures.primitive)
  | else-is_negative_at w ↦
      let not_zero = c.requires.not_zero in
      let up : pos 0 <ℤ entry c.args.row c.args.pivot =
      by_lt_z (pos 0) (entry c.args.row c.args.pivot) (λ h. h)
      (λ h. by_lt_z (entry c.args.row c.args.pivot) (pos 0)
      (λ k. let t = w.if-is_negative_at.ensures.1 k in cc)
      (λ k. absurd (not_zero (omega (arith, ints))))) in
      pivot_of_positive c.args.row c.args.pivot c.primitive.new.v c.requires.before up (rw w.made-is at c.primitive.ensures.primitive)
]
