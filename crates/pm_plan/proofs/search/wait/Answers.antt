use Rattle.std.proofs.Common.{sym, Option, subst}
use Rattle.pm_weights.specs.declared.Cost.{Cost}
use Rattle.pm_plan.specs.Searches.{Waits}
use Rattle.pm_plan.proofs.Places.{waits_first, waits_again}
use Rattle.pm_plan.proofs.search.wait.Goals as goal
use Rattle.pm_plan.proofs.search.wait.Goals.{in-Some, in_default}

pub returns : goal.returns
returns c =
    let old = c.args.waiting.now in
    let new = c.insert.new.self in
    elim c.match-had.branch [
      | in-Some w ↦ subst (λ (had : Option Cost). Waits old new had c.args.row.now c.args.link) (sym w.in-Some.is)
          (waits_again old w.remove.new.self new w.in-Some.had c.args.row.now c.args.link w.remove.ensures.updates (rw w.waiting-is at c.in_ok-insert.ensures.updates))
      | in_default w ↦ subst (λ (had : Option Cost). Waits old new had c.args.row.now c.args.link) (sym w.in_default.is)
          (waits_first old new c.args.row.now c.args.link (rw w.waiting-is at c.in_ok-insert.ensures.updates))
    ]
