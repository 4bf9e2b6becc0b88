-- What was read, taken apart.
use Rattle.std.proofs.Common.{refl, ap, ◌≡◌, Bool, true, false, cond, Ok, Err}
use Rattle.std.proofs.lemmas.Bool.{false≢true}
use Rattle.std.specs.Prelude.{IfOk, Result}
use Rattle.std.specs.Result.{is_ok, result_unwrap_or}
use Rattle.pm_json.specs.Readings.{Read, and_then}
use Rattle.pm_json.specs.declared.fail.ValueFail.{ValueFail}

pub same_Ok : {A : Type 0} (x y : A) → (let r : Read A = Ok x in r) ≡ Ok y → x ≡ y
same_Ok x y e = ap (λ r. result_unwrap_or r x) e

pub err_ok : {A : Type 0} (fault : ValueFail) (y : A) → (let r : Read A = Err fault in r) ≡ Ok y → ⊥
err_ok fault y e = false≢true (ap is_ok e)

pub and_then-ok : {A B P : Type 0} (r : Read A) (next : A → Read B) (y : B) → and_then r next ≡ Ok y → ((x : A) → r ≡ Ok x → next x ≡ Ok y → P) → P
and_then-ok (Ok x) next y e k = k x refl e
and_then-ok (Err fault) next y e k = absurd (err_ok fault y e)

pub then-ok : {A : Type 0} (b : Bool) (r : Read A) (fault : ValueFail) (y : A) → cond b r (Err fault) ≡ Ok y → (b ≡ true) × (r ≡ Ok y)
then-ok true r fault y e = (refl, e)
then-ok false r fault y e = absurd (err_ok fault y e)

pub else-ok : {A : Type 0} (b : Bool) (r : Read A) (fault : ValueFail) (y : A) → cond b (Err fault) r ≡ Ok y → (b ≡ false) × (r ≡ Ok y)
else-ok false r fault y e = (refl, e)
else-ok true r fault y e = absurd (err_ok fault y e)

pub either-ok : {A P : Type 0} (b : Bool) (r s : Read A) (y : A) → cond b r s ≡ Ok y → (r ≡ Ok y → P) → (s ≡ Ok y → P) → P
either-ok true r s y e f g = f e
either-ok false r s y e f g = g e

pub both_ok : {T E : Type 0} (r : Result T E) {P Q R : T → Type 0} → ((a : T) → P a → Q a → R a) → IfOk r P → IfOk r Q → IfOk r R
both_ok (Ok a) f h g = f a h g
both_ok (Err e) f h g = tt
