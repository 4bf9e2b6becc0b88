use Rattle.pm_run.proofs.ShippedExamples.{answers_are_shipped, clients_are_shipped, failures_are_shipped, kinds_are_shipped}
use Rattle.pm_run.proofs.examples.example_shipped.Goals as goal

pub returns : goal.returns
returns c = record { clients = clients_are_shipped; answers = answers_are_shipped; failures = failures_are_shipped; kinds = kinds_are_shipped }
