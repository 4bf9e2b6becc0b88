-- A list within an array that ends in zeros.
use Rattle.std.proofs.Common.{◌≡◌, ℕ, ◌-◌, ◌≤◌, List, ◌++◌, length, take, drop, replicate, arith}
use Rattle.std.proofs.lemmas.List.{length-take-le, take-append-drop}

pub length_kept : (bytes : List ℕ) (len : ℕ) → len ≤ 32 → length bytes ≡ 32 → length (take len bytes) ≡ len
length_kept bytes len short whole = length-take-le len bytes (omega arith)

pub padded_back : (bytes : List ℕ) (len : ℕ) → len ≤ 32 → length bytes ≡ 32
    → drop len bytes ≡ replicate (32 - len) 0
    → take len bytes ++ replicate (32 - length (take len bytes)) 0 ≡ bytes
padded_back bytes len short whole zeros =
    rw (length_kept bytes len short whole, ← zeros) (take-append-drop len bytes)
