-- The words of a line, which stand at single spaces.
use Rattle.std.specs.Prelude.{ℕ, ◌==◌, ◌&&◌, ◌||◌, ◌++◌, Bool, false, not, List, [], ◌∷◌, Option, Some, None, length, nat_le, fold, if◌then◌else◌}
use Rattle.std.specs.Char.{is_ascii_alphabetic, is_ascii_alphanumeric, is_ascii_uppercase, is_ascii_digit}
use Rattle.std.specs.List.{list_all, list_any, before_first, after_first, slice_split}
use Rattle.std.specs.Str.{bytes_eq}
use Rattle.std.specs.Str.Parse.{digits_value}
use Rattle.pm_limits.specs.Limits.{most_asked}

abbrev pub is_space : ℕ → Bool
is_space b = b == 32

abbrev pub is_dot : ℕ → Bool
is_dot b = b == 46

-- what stands before the first space, or all
abbrev pub first_word : List ℕ → List ℕ
first_word text = before_first is_space text

-- what stands after the first space, or nothing
abbrev pub rest : List ℕ → List ℕ
rest text = after_first is_space text

abbrev pub is_name_byte : ℕ → Bool
is_name_byte b = is_ascii_alphanumeric b || b == 95

-- a letter, then letters, digits or _, at most 32 bytes
abbrev pub is_name : List ℕ → Bool
is_name [] = false
is_name (b ∷ word) = is_ascii_alphabetic b && list_all is_name_byte word && nat_le (length (b ∷ word)) 32

abbrev pub is_property_byte : ℕ → Bool
is_property_byte b = is_ascii_uppercase b || is_ascii_digit b || b == 95

-- capital letters, digits or _, from 1 to 32 bytes
abbrev pub is_property_word : List ℕ → Bool
is_property_word word = nat_le 1 (length word) && nat_le (length word) 32 && list_all is_property_byte word

-- letters, one at least
abbrev pub is_type_word : List ℕ → Bool
is_type_word word = nat_le 1 (length word) && list_all is_ascii_alphabetic word

-- the words of a text, which stand at single spaces
abbrev pub words_of : List ℕ → List (List ℕ)
words_of text = slice_split is_space text

-- the words with one more, if it is not among them
abbrev pub with_word : List (List ℕ) → List ℕ → List (List ℕ)
with_word words w = if list_any (bytes_eq w) words then words else words ++ w ∷ []

-- the different words, in the order in which each comes first
abbrev pub distinct : List (List ℕ) → List (List ℕ)
distinct words = fold with_word [] words

-- property words, of which at most four are different
abbrev pub are_asked : List (List ℕ) → Bool
are_asked words = list_all is_property_word words && nat_le (length (distinct words)) most_asked

-- decimal digits, at most four, of which the first is not 0
abbrev pub is_number_word : List ℕ → Bool
is_number_word [] = false
is_number_word (b ∷ word) = not (b == 48) && list_all is_ascii_digit (b ∷ word)
    && nat_le (length (b ∷ word)) 4

-- the number, from 1 to 9999, that such a word writes
abbrev pub number_of : List ℕ → Option ℕ
number_of word = if is_number_word word then Some (digits_value 10 word) else None
