-- The words of which books are made.
use Rattle.std.specs.Prelude.{ℕ, Bool, false, not, ◌&&◌, ◌||◌, ◌==◌, List, [], ◌∷◌, length, nat_le, codes}
use Rattle.std.specs.List.{list_all}
use Rattle.std.specs.Str.{bytes_eq}

-- A to Z, a to z, and `_`
abbrev pub is_letter : ℕ → Bool
is_letter b = (nat_le 65 b && nat_le b 90) || ((nat_le 97 b && nat_le b 122) || b == 95)

-- 0 to 9
abbrev pub is_digit : ℕ → Bool
is_digit b = nat_le 48 b && nat_le b 57

-- a letter, a digit, `_` or `.`
abbrev pub is_word_byte : ℕ → Bool
is_word_byte b = is_letter b || (is_digit b || b == 46)

-- a letter or `_`, and then letters, digits, `_` or `.`
abbrev pub is_word : List ℕ → Bool
is_word [] = false
is_word (b ∷ bs) = is_letter b && list_all is_word_byte bs

abbrev pub precondition_word : List ℕ
precondition_word = codes "precondition"

-- a word of at most 32 bytes without `.` that is not `precondition`
abbrev pub is_label : List ℕ → Bool
is_label text =
    is_word text
    && (nat_le (length text) 32
    && (list_all (λ b. not (b == 46)) text && not (bytes_eq text precondition_word)))
