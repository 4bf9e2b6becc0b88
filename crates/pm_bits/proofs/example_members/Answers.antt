use Rattle.pm_bits.proofs.example_members.Goals as goal
use Rattle.std.proofs.Common.{refl}

pub returns : goal.returns
returns c = record { two = refl; none = refl; not_turned = λ e. cc }
