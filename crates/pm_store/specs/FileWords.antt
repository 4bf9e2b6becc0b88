-- The words that name files.
use Rattle.std.specs.Prelude.{ℕ, Bool, false, not, ◌&&◌, ◌||◌, ◌==◌, List, [], ◌∷◌, length, nat_le}
use Rattle.std.specs.List.{list_all}

-- a letter, a digit, `_`, `-` or `.`
abbrev pub is_file_byte : ℕ → Bool
is_file_byte b =
    (nat_le 48 b && nat_le b 57) ||
    ((nat_le 65 b && nat_le b 90) || ((nat_le 97 b && nat_le b 122) || (b == 95 || (b == 45 || b == 46))))

-- there is a first byte, and it is neither `-` nor `.`
abbrev pub begins_file_word : List ℕ → Bool
begins_file_word [] = false
begins_file_word (b ∷ bs) = not (b == 45 || b == 46)

-- letters, digits, `_`, `-` and `.`, 1 to 64 of them, not beginning with `-` or `.`
abbrev pub is_file_word : List ℕ → Bool
is_file_word text = begins_file_word text && (nat_le (length text) 64 && list_all is_file_byte text)
