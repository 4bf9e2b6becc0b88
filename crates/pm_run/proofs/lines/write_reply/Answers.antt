use Rattle.pm_run.proofs.lines.write_reply.Goals as goal

pub returns-clause-told : goal.returns-clause-told
returns-clause-told g c = (rw (c.deref.ensures.value, c.in_ok-text.ensures) at c.in_ok-write_all.ensures.ok, c.is_refusal.ensures)
