-- Lines of bytes in two parts.
use Rattle.std.proofs.Common.{◌≡◌, ◌+◌, ◌-◌, subst, ℕ, zero, suc, ◌<◌, ◌≤◌, List, [], ◌∷◌, ◌++◌, take, drop, length, get_or, filter, ap, sym, ◌∙◌, refl, arith, true, false}
use Rattle.std.proofs.lemmas.List.{drop-drop, drop-take, take_all}
use Rattle.pm_command.proofs.Breaks.{NoBreak, lines_of-other}
use Rattle.pm_command.specs.Lines.{Line, lines_of, onto_first}
use Rattle.pm_lines.specs.Whole.{HasNoBreak, whole_lines}

abbrev pub ended_line : List ℕ → Line
ended_line bytes = record { bytes = bytes; ended = true }

abbrev pub last_line : List ℕ → Line
last_line bytes = record { bytes = bytes; ended = false }

-- the bytes before the first LF are the first line
pub lines_at_break : (part rest : List ℕ) → HasNoBreak part → lines_of (part ++ 10 ∷ rest) ≡ ended_line part ∷ lines_of rest
lines_at_break [] rest clear = refl
lines_at_break (b ∷ part) rest clear = lines_of-other b (part ++ 10 ∷ rest) clear.0 ∙ ap (onto_first b) (lines_at_break part rest clear.1)

pub whole_at_break : (part rest : List ℕ) → HasNoBreak part → whole_lines (part ++ 10 ∷ rest) ≡ ended_line part ∷ whole_lines rest
whole_at_break part rest clear = ap (filter (λ (line : Line). line.ended)) (lines_at_break part rest clear)

-- bytes without an LF are one line
pub lines_of-open : (b : ℕ) (bytes : List ℕ) → HasNoBreak (b ∷ bytes) → lines_of (b ∷ bytes) ≡ last_line (b ∷ bytes) ∷ []
lines_of-open b [] clear = lines_of-other b [] clear.0
lines_of-open b (d ∷ bytes) clear = lines_of-other b (d ∷ bytes) clear.0 ∙ ap (onto_first b) (lines_of-open d bytes clear.1)

-- and none that an LF ended
pub whole_of-open : (bytes : List ℕ) → HasNoBreak bytes → whole_lines bytes ≡ []
whole_of-open [] clear = refl
whole_of-open (b ∷ bytes) clear = ap (filter (λ (line : Line). line.ended)) (lines_of-open b bytes clear)

pub clear_append : (xs ys : List ℕ) → HasNoBreak xs → HasNoBreak ys → HasNoBreak (xs ++ ys)
clear_append [] ys h k = k
clear_append (x ∷ xs) ys h k = (h.0, clear_append xs ys h.1 k)

-- the bytes before the first LF have none
pub clear_front : (n : ℕ) (bytes : List ℕ) → n ≤ length bytes → NoBreak n bytes → HasNoBreak (take n bytes)
clear_front zero bytes h clear = tt
clear_front (suc n) [] h clear = tt
clear_front (suc n) (b ∷ bytes) h clear = (clear 0 (omega arith), clear_front n bytes (omega arith) (λ k below. clear (suc k) (omega arith)))

-- bytes up to an LF, and those after it
pub at_break : (n : ℕ) (bytes : List ℕ) → n < length bytes → get_or bytes n 0 ≡ 10 → bytes ≡ take n bytes ++ 10 ∷ drop (suc n) bytes
at_break n [] h e = absurd (omega arith)
at_break zero (b ∷ bytes) h e = ap (λ (t : ℕ). t ∷ bytes) e
at_break (suc n) (b ∷ bytes) h e = ap (λ (t : List ℕ). b ∷ t) (at_break n bytes (omega arith) e)

-- where the place is the length, no byte is an LF
pub clear_whole : (n : ℕ) (bytes : List ℕ) → n ≡ length bytes → NoBreak n bytes → HasNoBreak bytes
clear_whole n bytes e clear = subst HasNoBreak (take_all n bytes (omega arith)) (clear_front n bytes (omega arith) clear)

-- bytes taken from the front of a range
pub skip_front : (at end count : ℕ) (xs : List ℕ) → at + count ≤ end → take (end - (at + count)) (drop (at + count) xs) ≡ drop count (take (end - at) (drop at xs))
skip_front at end count xs h =
    let split : end - at ≡ count + (end - (at + count)) = omega arith in
    ap (λ (t : List ℕ). take (end - (at + count)) t) (sym (drop-drop count at xs))
    ∙ sym (drop-take count (end - (at + count)) (drop at xs))
    ∙ ap (λ (n : ℕ). drop count (take n (drop at xs))) (sym split)
