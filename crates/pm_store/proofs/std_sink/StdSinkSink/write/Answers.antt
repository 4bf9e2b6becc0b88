use Rattle.pm_store.proofs.OutsideLemmas.{Gains-told}
use Rattle.pm_store.proofs.std_sink.StdSinkSink.write.Goals as goal

pub returns-in-Ok-clause-within : goal.returns-in-Ok-clause-within
returns-in-Ok-clause-within g c = c.in-Ok.ensures.bound

pub returns-in-Ok-clause-takes : goal.returns-in-Ok-clause-takes
returns-in-Ok-clause-takes g c = Gains-told _ _ _ c.in-Ok.ensures.bytes
