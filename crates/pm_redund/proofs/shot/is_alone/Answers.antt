use Rattle.pm_redund.proofs.shot.is_alone.Goals as goal
use Rattle.pm_redund.proofs.shot.is_alone.Goals.{else-j-k-via-then-j-k+else-not-is_passed, else-j-k-via-else-j-k}
use Rattle.pm_redund.specs.Keeping.{IsMetAfter}
use Rattle.std.proofs.Common.{arith, subst, sym, ℕ}
use native.Mathlib.Decide.{ℕ_discrete}

pub loop-j-preserved : goal.loop-j-preserved
loop-j-preserved c = λ m l other. elim (ℕ_discrete m c.loop-j.j) [
  | yes e ↦ elim c.else-j-k.branch [
    | else-j-k-via-then-j-k+else-not-is_passed w ↦ subst (λ (q : ℕ). IsMetAfter c.args.levels.now c.args.heights.now c.args.k q) (sym e) (w.is_passed.ensures w.if-not-is_passed.false)
    | else-j-k-via-else-j-k w ↦ absurd (let t = w.if-j-k.false in other (omega arith))
  ]
  | no before ↦ c.loop-j.invariant m (omega arith) other
]
