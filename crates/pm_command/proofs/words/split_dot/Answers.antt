use Rattle.std.proofs.Common.{arith}
use Rattle.pm_command.proofs.words.split_dot.Goals as goal

pub returns-in-Some : goal.returns-in-Some
returns-in-Some c = let parts = c.in-Some.ensures.byte (omega arith) (λ w o found. found) in record { name = parts.0; sub = parts.1 }
