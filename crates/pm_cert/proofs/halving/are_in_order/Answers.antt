use Rattle.std.proofs.Common.{arith, refl}
use Rattle.pm_cert.proofs.Ordered.{in_order_from_neighbours}
use Rattle.pm_cert.proofs.halving.are_in_order.Goals as goal

pub returns : goal.returns
returns c = ((λ t. in_order_from_neighbours c.args.rows.now (λ k d l. c.loop-i.invariant k d (omega (arith, c.loop-i-test.false, l)))), (λ h. refl))
