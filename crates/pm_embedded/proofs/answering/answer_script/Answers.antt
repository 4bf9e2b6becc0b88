-- The one client is of no rows, and says so of itself.
use Rattle.pm_embedded.proofs.Soundness.{all_narrow, ended_with, neither, over_one, put_alone}
use Rattle.pm_embedded.proofs.answering.answer_script.Goals as goal
use Rattle.pm_embedded.specs.NoRows.{no_rows, own}
use Rattle.pm_run.proofs.Outcomes.{bad_with, not_run}
use Rattle.pm_run.proofs.Widening.{ended_by_more}
use Rattle.std.proofs.Common.{Some, [], ap, refl, ◌∷◌}

-- memory ran out before it ran
pub returns-in_default-clause-run : goal.returns-in_default-clause-run
returns-in_default-clause-run c = (Some c.args.script.now, (no_rows, 0) ∷ [], not_run _ _ _ (refl, refl, refl, refl))

pub returns-in_default-new-clause-run : goal.returns-in_default-new-clause-run
returns-in_default-new-clause-run c = (Some c.args.script.now, (no_rows, 0) ∷ [], not_run _ _ _ (refl, refl, refl, refl))

pub returns-in_default-push_client-clause-run : goal.returns-in_default-push_client-clause-run
returns-in_default-push_client-clause-run c = (Some c.args.script.now, (no_rows, 0) ∷ [], not_run _ _ _ (refl, refl, refl, refl))

-- it ran
pub returns-clause-run : goal.returns-clause-run
returns-clause-run c = (
  _,
  _,
  ended_with own _ _ _ _ _ (ap Some c.in-Ok.ensures)
      (put_alone _ _ (over_one neither _ (λ x p a. refl)) c.new-clients.result.items c.push_client.new.clients.items (no_rows, 0) c.new-clients.ensures.items c.in-Ok-push_client.ensures.pushed)
      (ended_by_more own _ (all_narrow _ _ _ (over_one neither _ (λ x p a. record { kind = refl; puts = λ v d q. q; wants = λ v e q. q })) _) _ _ _ c.polymake.ensures.run),
)

pub returns-clause-bad_book : goal.returns-clause-bad_book
returns-clause-bad_book c = λ e. bad_with _ _ _ (Some c.args.store.now.files) c.args.store.now.faults c.polymake.new.store.faults
    (put_alone _ _ (over_one neither _ (λ x p a. refl)) c.new-clients.result.items c.push_client.new.clients.items (no_rows, 0) c.new-clients.ensures.items c.in-Ok-push_client.ensures.pushed)
    (c.polymake.ensures.bad_book e)
