use Rattle.pm_clients_fans.proofs.Shown.{simplices_length}
use Rattle.pm_clients_fans.proofs.dims.are_simplices.Goals as goal
use Rattle.std.proofs.Common.{arith, map, true≢false, sym}
use Rattle.std.proofs.lemmas.List.{length-map}

pub returns-then-sets-numbers : goal.returns-then-sets-numbers
returns-then-sets-numbers c = (
  λ y. absurd (true≢false (sym y)),
  λ h. absurd (let e = simplices_length c.args.l (map (λ s. s.items) c.args.sets.now) c.args.numbers.now h in let m = length-map c.args.sets.now (λ s. s.items) in let n = c.if-sets-numbers.true in omega arith),
)
