-- The lines of rounds after their number, and those of a plan.
use Rattle.std.proofs.Common.{codes}
use Rattle.pm_script.proofs.Counted.{counted}
use Rattle.pm_script.proofs.reply.reply_lines.Goals as goal

pub returns-in_ok-push_counted-in-Ensured : goal.returns-in_ok-push_counted-in-Ensured
returns-in_ok-push_counted-in-Ensured c =
    rw c.in-Ensured.is (counted _ (codes "ok") _ c.in-Ensured.rounds.items (rw (c.new-text.ensures.bytes, c.deref-in-Ensured.ensures.value) at c.in_ok-push_counted-in-Ensured.ensures))

pub returns-in_ok-push_plan-in-Explained : goal.returns-in_ok-push_plan-in-Explained
returns-in_ok-push_plan-in-Explained c =
    rw c.in-Explained.is (rw (c.new-text-in-Explained.ensures.bytes, c.deref-in-Explained.ensures.value) at c.in_ok-push_plan-in-Explained.ensures)
