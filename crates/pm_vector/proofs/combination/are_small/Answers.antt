-- Each test tells of its part, where all of them are true.
use Rattle.pm_vector.proofs.Differences.{small_stays}
use Rattle.std.proofs.lemmas.Int.{to_z-of_z}
use Rattle.std.specs.Int.{w128}
use Rattle.pm_vector.proofs.combination.are_small.Goals as goal
use Rattle.pm_vector.proofs.combination.are_small.Goals.{else-is_small, else-is_small-2, then-is_small, then-is_small-2}

pub returns-then-all_small : goal.returns-then-all_small
returns-then-all_small c = λ is. elim c.if-is_small-2.branch [
  | else-is_small-2 w ↦ absurd (let t = c.if-all_small.true in let f = w.value-is in cc)
  | then-is_small-2 w ↦ elim c.if-is_small.branch [
    | else-is_small x ↦ absurd (let t = w.if-is_small-2.true in let f = x.value-is in cc)
    | then-is_small x ↦ small_stays c.args.p c.args.v.now c.args.q c.args.w.now
        (rw (to_z-of_z w128 c.args.p c.ranges.p) at (c.is_small.ensures.0 x.if-is_small.true))
        (rw (to_z-of_z w128 c.args.q c.ranges.q) at (x.is_small-then-is_small.ensures.0 (let t = w.if-is_small-2.true in let v = x.value-is in cc)))
        (w.all_small.ensures.0 (let t = c.if-all_small.true in let v = w.value-is in cc))
        (c.all_small-then-all_small.ensures.0 is)
  ]
]
