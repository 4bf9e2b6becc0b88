use Rattle.std.proofs.Common.{arith}
use Rattle.pm_command.proofs.words.split_word.Goals as goal

pub returns-in-Some : goal.returns-in-Some
returns-in-Some c = let parts = c.in-Some.ensures.byte (omega arith) (λ w o found. found) in record { word = parts.0; rest = parts.1 }
