-- Facts on optional values.
use Rattle.std.proofs.Common.{IfNone, IfSome}
use Rattle.std.specs.Prelude.{None, Option, Some}

pub none_weaker : {X : Type 0} (o : Option X) (P Q : Type 0) → (P → Q) → IfNone o P → IfNone o Q
none_weaker None P Q f h = f h
none_weaker (Some x) P Q f h = tt

pub some_weaker : {X : Type 0} (o : Option X) (P Q : X → Type 0) → ((x : X) → P x → Q x) → IfSome o P → IfSome o Q
some_weaker None P Q f h = tt
some_weaker (Some x) P Q f h = f x h
