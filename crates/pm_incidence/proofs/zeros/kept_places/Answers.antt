use Rattle.pm_incidence.proofs.Appended.{below_all, below_more, below_none, below_skip}
use Rattle.pm_incidence.proofs.zeros.kept_places.Goals as goal
use Rattle.pm_incidence.proofs.zeros.kept_places.Goals.{then-is_kept+in_ok-push, else-is_kept}
use Rattle.pm_incidence.specs.Thinning.{IsKeptSet}
use Rattle.std.proofs.Common.{arith, false, length, true, ◌≡◌}

pub loop-i-init : goal.loop-i-init
loop-i-init c = rw c.new-places.ensures.items (below_none (IsKeptSet c.args.zeros.now.rows c.args.marks.now))

pub loop-i-preserved : goal.loop-i-preserved
loop-i-preserved c = elim c.if-is_kept.branch [
  | then-is_kept+in_ok-push w ↦ rw w.places-is (below_more (IsKeptSet c.args.zeros.now.rows c.args.marks.now) c.loop-i.i c.loop-i.places.items w.push.new.self.items w.in_ok-push.ensures.items c.loop-i.invariant (c.is_kept.ensures.0 w.if-is_kept.true))
  | else-is_kept w ↦ rw w.places-is (below_skip (IsKeptSet c.args.zeros.now.rows c.args.marks.now) c.loop-i.i c.loop-i.places.items c.loop-i.invariant (λ k. let e : false ≡ true = rw w.if-is_kept.false at (c.is_kept.ensures.1 k) in cc))
]

pub returns-clause-kept : goal.returns-clause-kept
returns-clause-kept c =
    let h = c.loop-i.invariant in
    let all = below_all (IsKeptSet c.args.zeros.now.rows c.args.marks.now) c.loop-i.i (length c.args.zeros.now.rows) c.loop-i.places.items (let e = c.len-i-end.ensures in let l = c.loop-i-test.false in omega arith) (let e = c.len-i-end.ensures in let l = c.loop-i.auto.i-end in omega arith) h in
    record { each = all.0; every = all.1; ascending = h.ascending }

pub returns-clause-few : goal.returns-clause-few
returns-clause-few c = let f = c.loop-i.invariant.few in let e = c.len-i-end.ensures in let l = c.loop-i.auto.i-end in omega arith
