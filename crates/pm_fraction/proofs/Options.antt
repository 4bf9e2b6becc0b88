-- What holds for an empty option of any value.
use Rattle.std.proofs.Common.{IfNone, Option}
use Rattle.std.specs.Prelude.{None, Some}

pub IfNone-any : {X : Type 0} (o : Option X) (P : Type 0) → P → IfNone o P
IfNone-any None P p = p
IfNone-any (Some x) P p = tt
