-- The first line of a script.
use Rattle.std.proofs.Common.{◌≡◌, ◌≢◌, ℕ, suc, zero, ◌<◌, ◌≤◌, List, [], ◌∷◌, ◌++◌, take, drop, length, get_or, true, false, ap, sym, ◌∙◌, arith, eqb}
use Rattle.std.proofs.lemmas.Bool.{eq-eqb, ne_eqb, cond-true, cond-false}
use Rattle.std.proofs.Math.ListN.{drop_of_length-le}
use Rattle.pm_command.specs.Lines.{Line, lines_of, onto_first, without_last_cr}

-- the first n bytes are no LF
abbrev pub NoBreak : ℕ → List ℕ → Type 0
NoBreak n bytes = (k : ℕ) → k < n → get_or bytes k 0 ≢ 10

abbrev ended_line : List ℕ → Line
ended_line bytes = record { bytes = bytes; ended = true }

abbrev last_line : List ℕ → Line
last_line bytes = record { bytes = bytes; ended = false }

lines_of-break : (b : ℕ) (bytes : List ℕ) → b ≡ 10 → lines_of (b ∷ bytes) ≡ ended_line [] ∷ lines_of bytes
lines_of-break b bytes e = cond-true (eqb b 10) (ended_line [] ∷ lines_of bytes) (onto_first b (lines_of bytes)) (eq-eqb b 10 e)

-- a byte that is no LF stands before the first line
pub lines_of-other : (b : ℕ) (bytes : List ℕ) → b ≢ 10 → lines_of (b ∷ bytes) ≡ onto_first b (lines_of bytes)
lines_of-other b bytes n = cond-false (eqb b 10) (ended_line [] ∷ lines_of bytes) (onto_first b (lines_of bytes)) (ne_eqb b 10 n)

NoBreak-rest : (n b : ℕ) (bytes : List ℕ) → NoBreak (suc n) (b ∷ bytes) → NoBreak n bytes
NoBreak-rest n b bytes clear k h = clear (suc k) (omega arith)

-- the bytes before the first LF are the first line
pub lines_of-line : (n : ℕ) (bytes : List ℕ) → n < length bytes → NoBreak n bytes → get_or bytes n 0 ≡ 10
    → lines_of bytes ≡ ended_line (take n bytes) ∷ lines_of (drop (suc n) bytes)
lines_of-line n [] h clear e = absurd (omega arith)
lines_of-line zero (b ∷ bytes) h clear e = lines_of-break b bytes e
lines_of-line (suc n) (b ∷ bytes) h clear e =
    lines_of-other b bytes (clear 0 (omega arith))
    ∙ ap (onto_first b) (lines_of-line n bytes (omega arith) (NoBreak-rest n b bytes clear) e)

-- bytes without an LF are one line
lines_of-last : (bytes : List ℕ) → 0 < length bytes → NoBreak (length bytes) bytes → lines_of bytes ≡ last_line bytes ∷ []
lines_of-last [] h clear = absurd (omega arith)
lines_of-last (b ∷ []) h clear = lines_of-other b [] (clear 0 (omega arith))
lines_of-last (b ∷ c ∷ bytes) h clear =
    lines_of-other b (c ∷ bytes) (clear 0 (omega arith))
    ∙ ap (onto_first b) (lines_of-last (c ∷ bytes) (omega arith) (NoBreak-rest (length (c ∷ bytes)) b (c ∷ bytes) clear))

-- and nothing is after them
pub lines_of-last_rest : (n : ℕ) (bytes : List ℕ) → 0 < length bytes → length bytes ≤ n → NoBreak n bytes → lines_of bytes ≡ last_line bytes ∷ lines_of (drop n bytes)
lines_of-last_rest n bytes h past clear =
    let none : drop n bytes ≡ [] = drop_of_length-le bytes past in
    lines_of-last bytes h (λ k below. clear k (omega arith)) ∙ ap (λ (t : List ℕ). last_line bytes ∷ lines_of t) (sym none)

-- ---- the CR at the end
pub without_last_cr-cr : (front : List ℕ) (b : ℕ) → b ≡ 13 → without_last_cr (front ++ b ∷ []) ≡ front
without_last_cr-cr [] b e = cond-true (eqb b 13) [] (b ∷ []) (eq-eqb b 13 e)
without_last_cr-cr (c ∷ []) b e = ap (λ (t : List ℕ). c ∷ t) (without_last_cr-cr [] b e)
without_last_cr-cr (c ∷ d ∷ front) b e = ap (λ (t : List ℕ). c ∷ t) (without_last_cr-cr (d ∷ front) b e)

pub without_last_cr-other : (front : List ℕ) (b : ℕ) → b ≢ 13 → without_last_cr (front ++ b ∷ []) ≡ front ++ b ∷ []
without_last_cr-other [] b n = cond-false (eqb b 13) [] (b ∷ []) (ne_eqb b 13 n)
without_last_cr-other (c ∷ []) b n = ap (λ (t : List ℕ). c ∷ t) (without_last_cr-other [] b n)
without_last_cr-other (c ∷ d ∷ front) b n = ap (λ (t : List ℕ). c ∷ t) (without_last_cr-other (d ∷ front) b n)
