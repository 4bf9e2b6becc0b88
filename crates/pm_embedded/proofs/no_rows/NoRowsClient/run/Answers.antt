-- No rows are right as INEQUALITIES, whatever FACETS are.
use Rattle.pm_embedded.proofs.Soundness.{has_inequalities, no_rows_sound}
use Rattle.pm_embedded.proofs.no_rows.NoRowsClient.run.Goals as goal
use Rattle.std.proofs.Common.{ap, ◌∙◌}

pub put_value-requires-clause-target : goal.put_value-requires-clause-target
put_value-requires-clause-target c = has_inequalities c.args.draft.now.kind (ap (λ d. d.kind) c.requires.empty ∙ c.requires.kind)

pub returns-clause-sound : goal.returns-clause-sound
returns-clause-sound c = no_rows_sound c.args.view.now c.requires.kind c.cols-cols.ensures.view c.args.draft.now c.put_value.new.draft (record { targets = ap (λ k. k.targets) c.requires.kind; empty = c.requires.empty; put = rw c.new-rows.ensures at c.in_ok-put_value.ensures.ok })
