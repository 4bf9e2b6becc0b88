-- Text is ASCII where a test of its bytes says so.
use Rattle.std.proofs.Common.{◌≡◌, ℕ, true, List, [], ◌∷◌, nat_lt, ◌<◌}
use Rattle.std.specs.List.{list_all, All}
use Rattle.std.specs.Str.{IsAscii}
use Rattle.std.proofs.lemmas.Bool.{and_parts, ltb-true}
use Rattle.std.proofs.lemmas.List.Elements.{All-cons, All-nil}
use Rattle.std.proofs.lemmas.Str.Ascii.{IsAscii-from_all}

pub ascii_by_test : (bs : List ℕ) → list_all (λ b. nat_lt b 128) bs ≡ true → IsAscii bs
ascii_by_test bs h = IsAscii-from_all bs (each bs h)
  where
    each : (xs : List ℕ) → list_all (λ b. nat_lt b 128) xs ≡ true → All (λ b. b < 128) xs
    each [] h = All-nil (λ b. b < 128)
    each (x ∷ xs) h = let both = and_parts (nat_lt x 128) (list_all (λ b. nat_lt b 128) xs) h in All-cons (λ b. b < 128) x xs (ltb-true x 128 both.0) (each xs both.1)
