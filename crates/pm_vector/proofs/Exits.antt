-- What a result says where it is told whether it is an error.
use Rattle.std.proofs.Common.{false, sym, true, ◌≡◌}
use Rattle.std.specs.Prelude.{Err, Ok, OnErr, OnOk, Result, is_err}
use mathlib.Core.Bool.{true≢false}

module _ {T E : Type 0} where
  pub at_error : (r : Result T E) (P : Type 0) → true ≡ is_err r → OnErr r P → P
  at_error (Ok x) P told h = absurd (true≢false told)
  at_error (Err e) P told h = h

  pub at_value : (r : Result T E) (P : Type 0) → false ≡ is_err r → OnOk r P → P
  at_value (Ok x) P told h = h
  at_value (Err e) P told h = absurd (true≢false (sym told))
