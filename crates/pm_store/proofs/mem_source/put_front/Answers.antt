use Rattle.std.proofs.Common.{arith}
use Rattle.pm_store.proofs.OutsideLemmas.{Fronts-all}
use Rattle.pm_store.proofs.mem_source.put_front.Goals as goal

pub returns : goal.returns
returns c = Fronts-all _ _ _ _ (omega arith) c.copy_from_slice.ensures.after
