-- Digits, the sign and the slash of a text.
use Rattle.pm_fraction.specs.Text.{is_slash}
use Rattle.std.proofs.Common.{Bool, List, [], ap, arith, false, length, refl, rules, true, ◌∷◌}
use Rattle.std.proofs.lemmas.Str.Parse.{IsDigitsTest, IsNumeralModel, numerals_by_value}
use Rattle.std.specs.Char.{is_ascii_digit}
use Rattle.std.specs.List.{list_all, list_any, position_or_len}
use Rattle.std.specs.Prelude.{Result, Ok, Err, IfErr, IsOk, ℕ, ◌<◌, ◌==◌, ◌≡◌}
use Rattle.std.specs.Str.Parse.{digits_value, starts_with_minus}
use borrow.Author.Tests.{eqb-true}

-- ---- digits
tells_digits : IsDigitsTest (λ ds. list_all is_ascii_digit ds ≡ true)
tells_digits = search rules

pub own_digits : IsNumeralModel (λ ds. list_all is_ascii_digit ds ≡ true) (digits_value 10)
own_digits = numerals_by_value (λ ds. list_all is_ascii_digit ds ≡ true) tells_digits

-- ---- the first slash
some_further : (b : Bool) (c : ℕ) (cs : List ℕ) → is_slash c ≡ b → position_or_len is_slash (c ∷ cs) < length (c ∷ cs) → (position_or_len is_slash cs < length cs → list_any is_slash cs ≡ true) → list_any is_slash (c ∷ cs) ≡ true
some_further true c cs e h f = rw e refl
some_further false c cs e h f = rw e (f (let k = rw e at h in omega arith))

pub some_slash : (bs : List ℕ) → position_or_len is_slash bs < length bs → list_any is_slash bs ≡ true
some_slash [] h = absurd (omega arith)
some_slash (c ∷ cs) h = some_further (is_slash c) c cs refl h (λ k. some_slash cs k)

none_further : (b : Bool) (c : ℕ) (cs : List ℕ) → is_slash c ≡ b → position_or_len is_slash (c ∷ cs) ≡ length (c ∷ cs) → (position_or_len is_slash cs ≡ length cs → list_any is_slash cs ≡ false) → list_any is_slash (c ∷ cs) ≡ false
none_further true c cs e h f = absurd (let k = rw e at h in omega arith)
none_further false c cs e h f = rw e (f (let k = rw e at h in omega arith))

pub no_slash : (bs : List ℕ) → position_or_len is_slash bs ≡ length bs → list_any is_slash bs ≡ false
no_slash [] h = refl
no_slash (c ∷ cs) h = none_further (is_slash c) c cs refl h (λ k. no_slash cs k)

-- ---- an `Ok` says nothing of errors
pub on_no_error : {T E : Type 0} (r : Result T E) (Q : E → Type 0) → IsOk r → IfErr r Q
on_no_error (Ok x) Q h = tt
on_no_error (Err y) Q h = cc

-- ---- the sign
pub no_minus : (bs : List ℕ) → ((rest : List ℕ) → bs ≡ 45 ∷ rest → ⊥) → starts_with_minus bs ≡ false
no_minus [] h = refl
no_minus (c ∷ cs) h = by_test (c == 45) refl
  where
    by_test : (b : Bool) → (c == 45) ≡ b → (c == 45) ≡ false
    by_test true e = absurd (h cs (ap (λ (x : ℕ). x ∷ cs) (eqb-true c 45 e)))
    by_test false e = e
