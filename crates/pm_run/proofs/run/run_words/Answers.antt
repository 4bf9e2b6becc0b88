-- The demo in place of the source.
use Rattle.std.proofs.Common.{ap, map, refl}
use Rattle.pm_run.proofs.Outcomes.{demo_ran}
use Rattle.pm_words.specs.Spoken.{seen_words}
use Rattle.pm_run.proofs.run.run_words.Goals as goal

pub returns-in-Ok-demo_script-clause-run : goal.returns-in-Ok-demo_script-clause-run
returns-in-Ok-demo_script-clause-run g c =
    demo_ran _ (seen_words c.args.said.now) c.in-Some.n _ _ _ _ _ _ _ _ _ _ _ _ _ _ _ _ _ _ c.run_text.result _ c.ended-in-Some.ensures c.in-Some.is refl c.in-Ok-demo_script.ensures refl c.in-Ok.ensures.found
    (ap (map _) c.deref.ensures.value) c.chosen_book.ensures.stay c.chosen_book.ensures.never_falls refl c.run_text.ensures.run.1
