-- Steps of reading, backwards.
use Rattle.std.proofs.lemmas.Option.{none-some as none_some, same_Some as some_is}
use Rattle.std.proofs.Common.{refl, sym, ap, ◌≡◌, ℕ, List, Option, Some, None, Ok, Err, Bool, true, false, true≢false}
use Rattle.std.specs.Prelude.{if◌then◌else◌, option_and_then, option_map}
use Rattle.pm_filing.specs.FileParts.{FileFault, FileRead, at_key, or_else_fault, then_read}
use Rattle.pm_json.specs.Readings.{Read}

abbrev is_read : {A : Type 0} → FileRead A → Bool
is_read (Ok a) = true
is_read (Err e) = false

pub err_ok : {A : Type 0} (e : FileFault) (a : A) → Err e ≡ Ok a → ⊥
err_ok e a h = true≢false (sym (ap is_read h))

abbrev file_ok : {A : Type 0} → A → FileRead A
file_ok a = Ok a

pub ok_is : {A : Type 0} (a b : A) → file_ok a ≡ file_ok b → a ≡ b
ok_is a b h = cc

pub ok_from : {A B : Type 0} (r : FileRead A) (next : A → FileRead B) (b : B) → then_read r next ≡ Ok b → (a : A) × (r ≡ Ok a) × (next a ≡ Ok b)
ok_from (Ok a) next b h = (a, refl, h)
ok_from (Err e) next b h = absurd (err_ok e b h)

pub some_from : {A : Type 0} (fault : FileFault) (o : Option A) (a : A) → or_else_fault fault o ≡ Ok a → o ≡ Some a
some_from fault None a h = absurd (err_ok fault a h)
some_from fault (Some x) a h = ap Some (ok_is x a h)

pub key_from : {A : Type 0} (key : List ℕ) (r : Read A) (a : A) → at_key key r ≡ Ok a → r ≡ Ok a
key_from key (Ok x) a h = ap Ok (ok_is x a h)
key_from key (Err why) a h = absurd (err_ok _ a h)

pub then_from : {A B : Type 0} (f : A → Option B) (x : Option A) (b : B) → option_and_then f x ≡ Some b → (a : A) × (x ≡ Some a) × (f a ≡ Some b)
then_from f None b h = absurd (none_some b h)
then_from f (Some a) b h = (a, refl, h)

pub map_from : {A B : Type 0} (f : A → B) (x : Option A) (b : B) → option_map f x ≡ Some b → (a : A) × (x ≡ Some a) × (f a ≡ b)
map_from f None b h = absurd (none_some b h)
map_from f (Some a) b h = (a, refl, some_is (f a) b h)

pub if_from : {A : Type 0} (b : Bool) (x : Option A) (a : A) → (if b then x else None) ≡ Some a → (b ≡ true) × (x ≡ Some a)
if_from true x a h = (refl, h)
if_from false x a h = absurd (none_some a h)
