-- What the bytes of a short name are within their array, and texts of ASCII bytes.
use Rattle.std.proofs.Common.{◌≡◌, ◌≤◌, ◌-◌, ℕ, zero, suc, true, ltb, List, [], ◌∷◌, ◌++◌, length, take, drop, replicate, refl, ◌∙◌, arith, length-append, length-drop}
use Rattle.std.specs.Prelude.{Result, Ok, Err, IsOk, MatchResult}
use Rattle.std.specs.Str.{IsAscii}
use Rattle.std.specs.List.{list_all}
use Rattle.std.proofs.lemmas.List.{drop_at, take_at, drop-replicate, length-replicate}
use Rattle.std.proofs.lemmas.Bool.{and_parts, ltb-true}

-- the array after a text was copied to its front
abbrev pub padded : List ℕ → List ℕ
padded text = text ++ drop (length text) (replicate 32 zero)

pub length-padded : (text : List ℕ) → length text ≤ 32 → length (padded text) ≡ 32
length-padded text short = length-append text (drop (length text) (replicate 32 zero)) ∙ (rw (length-drop (length text) (replicate 32 zero), length-replicate 32 zero) (omega arith))

pub drop-padded : (text : List ℕ) → drop (length text) (padded text) ≡ replicate (32 - length text) 0
drop-padded text = drop_at text (drop (length text) (replicate 32 zero)) (length text) refl ∙ drop-replicate (length text) 32 0

pub take-padded : (text : List ℕ) → take (length text) (padded text) ≡ text
take-padded text = take_at text (drop (length text) (replicate 32 zero)) (length text) refl

-- a text is ASCII where each byte passes the test
pub ascii_from_test : (bs : List ℕ) → list_all (λ b. ltb b 128) bs ≡ true → IsAscii bs
ascii_from_test [] h zero = omega arith
ascii_from_test [] h (suc i) = omega arith
ascii_from_test (b ∷ bs) h zero = ltb-true b 128 (and_parts (ltb b 128) (list_all (λ b. ltb b 128) bs) h).0
ascii_from_test (b ∷ bs) h (suc i) = ascii_from_test bs (and_parts (ltb b 128) (list_all (λ b. ltb b 128) bs) h).1 i

-- a call that fails only where a fact does not hold succeeds where it does
pub ok_where : {X E : Type 0} (r : Result X E) (P : X → Type 0) (Q : E → Type 0) (U : Type 0) → MatchResult r P (λ e. ¬ U × Q e) → U → IsOk r
ok_where (Ok x) P Q U h u = refl
ok_where (Err e) P Q U h u = absurd (h.0 u)
