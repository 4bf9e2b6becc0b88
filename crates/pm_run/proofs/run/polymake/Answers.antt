-- What is said of the words that were read.
use Rattle.std.proofs.Common.{refl}
use Rattle.pm_machine.proofs.Beside.{files_stay}
use Rattle.pm_run.proofs.Outcomes.{bad_for, not_run}
use Rattle.pm_run.proofs.run.polymake.Goals as goal

pub returns-in-Ok-clause-bad_book : goal.returns-in-Ok-clause-bad_book
returns-in-Ok-clause-bad_book g c =
    λ e. bad_for _ _ _ (g.F.Store.files c.args.store.now) (g.F.Store.faults c.args.store.now) (g.F.Store.faults c.run_words.new.store) c.in-Ok.ensures.said (c.run_words.ensures.bad_book e)

pub returns-in-Err-Memory-clause-run : goal.returns-in-Err-Memory-clause-run
returns-in-Err-Memory-clause-run g c = not_run _ _ _ (refl, refl, refl, files_stay _)
