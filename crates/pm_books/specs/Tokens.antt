-- The tokens of a text: words, numbers, and every other byte that is no white space and in no comment.
use Rattle.std.specs.Prelude.{ℕ, suc, zero, ◌+◌, ◌-◌, Bool, true, false, not, ◌&&◌, ◌||◌, ◌==◌, if◌then◌else◌, nat_lt, List, [], ◌∷◌, length, take, drop, slice_index}
use Rattle.std.specs.List.{prefix_len}
use Rattle.pm_rules.specs.Words.{is_letter, is_digit, is_word_byte}

-- a token: the place of its first byte, and its bytes
pub record Token : Type 0 where
  pub place : ℕ
  pub text : List ℕ

-- space, tab, CR or LF
abbrev pub is_space : ℕ → Bool
is_space b = b == 32 || (b == 9 || (b == 13 || b == 10))

-- the bytes from the first that is neither white space nor in a comment; `#` begins a comment, which ends with its
-- line; with true in place of false the bytes begin inside a comment
-- 35 is `#`, and 10 is LF
abbrev pub after_gap : Bool → List ℕ → List ℕ
after_gap inside [] = []
after_gap true (b ∷ bs) = after_gap (not (b == 10)) bs
after_gap false (b ∷ bs) = if b == 35 then after_gap true bs
    else (if is_space b then after_gap false bs else b ∷ bs)

-- digits, and with them a point and more digits where both follow; 46 is the point
abbrev pub number_len : List ℕ → ℕ
number_len bytes =
    let whole = prefix_len is_digit bytes in
    let more = prefix_len is_digit (drop (whole + 1) bytes) in
    if slice_index bytes whole == 46 && nat_lt 0 more then whole + 1 + more else whole

-- the length of the token that these bytes begin with: as much as is a word or a number, or one byte
abbrev pub token_len : List ℕ → ℕ
token_len [] = 0
token_len (b ∷ bs) = if is_letter b then suc (prefix_len is_word_byte bs)
    else (if is_digit b then number_len (b ∷ bs) else 1)

-- the first n tokens of what is left of a text with so many bytes
abbrev pub tokens_left : ℕ → ℕ → List ℕ → List Token
tokens_left total zero bytes = []
tokens_left total (suc n) bytes =
    let rest = after_gap false bytes in
    let here = token_len rest in
    if length rest == 0 then [] else record { place = total - length rest; text = take here rest }
    ∷ tokens_left total n (drop here rest)

-- all of them, in order
abbrev pub tokens_of : List ℕ → List Token
tokens_of text = tokens_left (length text) (length text) text
