-- What the run ensures of its view is so of the object.
use Rattle.std.proofs.Common.{rules, sym, ◌∙◌}
use Rattle.pm_transact.proofs.Committing.{named_held}
use Rattle.pm_rounds.proofs.round.run_client.Goals as goal

pub view-view-requires-clause-sources : goal.view-view-requires-clause-sources
view-view-requires-clause-sources g c = λ p h. sym (named_held c.args.transaction.now.sub c.args.object.now.state.held p) ∙ c.requires.may.sources p h

pub returns-clause-started : goal.returns-clause-started
returns-clause-started g c = search rules

pub returns-clause-sound : goal.returns-clause-sound
returns-clause-sound g c = rw c.view-view.ensures at c.run_first.ensures.sound

pub returns-clause-failed : goal.returns-clause-failed
returns-clause-failed g c = rw c.view-view.ensures at c.run_first.ensures.failed

pub returns-clause-fails : goal.returns-clause-fails
returns-clause-fails g c = rw c.view-view.ensures at c.run_first.ensures.fails

pub returns-clause-gives : goal.returns-clause-gives
returns-clause-gives g c = rw c.view-view.ensures at c.run_first.ensures.gives
