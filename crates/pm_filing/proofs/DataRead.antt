-- The text of a file as JSON.
use Rattle.std.proofs.Common.{refl, ◌≡◌, ◌≤◌, ℕ, List, length, Ok, Err, inl, inr}
use Rattle.std.proofs.lemmas.Bool.{cases_Bool, le-leb}
use Rattle.std.proofs.lemmas.Str.{IsUtf8-from_is_utf8, is_utf8-from_IsUtf8}
use Rattle.std.specs.Prelude.{IfOk, Result}
use Rattle.std.specs.Str.{IsUtf8, is_utf8}
use Rattle.serde_json.specs.Read.{read}
use Rattle.pm_filing.specs.FileParts.{data_in, not_json, or_else_fault}
use Rattle.pm_limits.specs.Limits.{most_file_bytes}

pub data-read : (bytes text : List ℕ) → length bytes ≤ most_file_bytes → IsUtf8 bytes → text ≡ bytes → data_in bytes ≡ or_else_fault not_json (read text)
data-read bytes text short utf8 is = rw (is, le-leb (length bytes) most_file_bytes short, is_utf8-from_IsUtf8 bytes utf8) refl

pub data-bad : (bytes : List ℕ) → length bytes ≤ most_file_bytes → ¬ (IsUtf8 bytes) → data_in bytes ≡ Err not_json
data-bad bytes short bad = elim (cases_Bool (is_utf8 bytes)) [
  | inl t ↦ absurd (bad (IsUtf8-from_is_utf8 bytes t))
  | inr f ↦ rw (le-leb (length bytes) most_file_bytes short, f) refl
]

pub if_ok : {T E : Type 0} (r : Result T E) {P Q : T → Type 0} → ((a : T) → P a → Q a) → IfOk r P → IfOk r Q
if_ok (Ok a) f h = f a h
if_ok (Err e) f h = tt
