use Rattle.pm_clients_comb.proofs.SizeTurns.{found_is}
use Rattle.pm_clients_comb.proofs.sizes.has_place.Goals as goal

pub returns : goal.returns
returns c = found_is c.args.set.now c.args.place c.requires.0 c.requires.1 c.binary_search.result c.is_ok.result c.binary_search.ensures.position c.is_ok.ensures.value
