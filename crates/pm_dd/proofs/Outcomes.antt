-- What holds of a value, or of a refusal, where it is weakened.
use Rattle.std.specs.Prelude.{Err, IfErr, IfOk, IfSome, None, Ok, Option, Result, Some}
use Rattle.pm_dd.specs.Lost.{IfWide}
use Rattle.pm_dd.specs.Refusals.{fail_of_elimination}
use Rattle.pm_dd.specs.declared.fails.DdFail.{DdFail}
use Rattle.pm_dd.specs.declared.fails.DdFail.TheVariants.{Many, Memory, Wide}
use Rattle.pm_elim.specs.Refusals.{IfWide as IfWideElimination}
use Rattle.pm_elim.specs.declared.evidence.ElimFail.{ElimFail}
use Rattle.pm_elim.specs.declared.evidence.ElimFail.TheVariants.{Memory as ElimMemory, Wide as ElimWide}

pub ok_weaker : {T E : Type 0} (r : Result T E) (P Q : T → Type 0) → ((x : T) → P x → Q x) → IfOk r P → IfOk r Q
ok_weaker (Ok x) P Q f h = f x h
ok_weaker (Err e) P Q f h = tt

pub err_weaker : {T E : Type 0} (r : Result T E) (P Q : E → Type 0) → ((x : E) → P x → Q x) → IfErr r P → IfErr r Q
err_weaker (Ok x) P Q f h = tt
err_weaker (Err e) P Q f h = f e h

pub some_weaker : {T : Type 0} (o : Option T) (P Q : T → Type 0) → ((x : T) → P x → Q x) → IfSome o P → IfSome o Q
some_weaker (Some x) P Q f h = f x h
some_weaker None P Q f h = tt

-- so it is for what a refusal for a number out of the range shows
pub wide_weaker : (f : DdFail) (Q R : Type 0) → (Q → R) → IfWide f Q → IfWide f R
wide_weaker (Wide e) Q R g h = g h
wide_weaker (Many e) Q R g h = tt
wide_weaker Memory Q R g h = tt

-- and for that of an elimination
pub elimination_lost : (f : ElimFail) (Q : Type 0) → IfWideElimination f (λ _. Q) → IfWide (fail_of_elimination f) Q
elimination_lost (ElimWide e) Q h = h
elimination_lost ElimMemory Q h = tt
