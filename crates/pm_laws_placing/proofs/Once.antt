-- No cell is made twice.
use Rattle.pm_vector.proofs.Lists.{among_Contains}
use Rattle.pm_laws_placing.proofs.Sequences.{difference_of, one_facet, same_places, states}
use Rattle.pm_laws_placing.specs.Placing.{NewCellsAreOnce, places_marked}
use Rattle.std.specs.Prelude.{true, length}
use Rattle.std.proofs.Common.{arith}

pub new_cells_are_once : NewCellsAreOnce
new_cells_are_once n K G L hK hG hL gens f T pl k mk lk j pj a a' ca ca' s s' cs cs' i i' off off' u ex ex' =
    let w = difference_of (length (places_marked true pl.marks 0)) k mk in
    let st = states n K G L hK hG hL gens f T pl w.0 k w.1 (omega arith) in
    let is = among_Contains (pl.cells k) cs in
    let is' = among_Contains (pl.cells k) cs' in (
      one_facet n K G L hK hG hL gens f T pl k st lk mk j pj a a' ca ca' s s' is is' i i' off off' u ex ex',
      λ e q. same_places n K G L hK hG hL gens f T pl k st lk mk j pj a a' ca ca' s s' is is' i i' off off' u ex ex' e q,
    )
