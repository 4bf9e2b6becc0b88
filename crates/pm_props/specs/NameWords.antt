-- Which words name objects, and linear programs of an object.
use Rattle.std.specs.Prelude.{ℕ, ◌==◌, ◌&&◌, ◌||◌, Bool, false, List, [], ◌∷◌, length, nat_le}
use Rattle.std.specs.Char.{is_ascii_alphabetic, is_ascii_alphanumeric}
use Rattle.std.specs.List.{list_all}

abbrev pub is_name_byte : ℕ → Bool
is_name_byte b = is_ascii_alphanumeric b || b == 95

-- a letter, then letters, digits or _, at most 32 bytes
abbrev pub is_name : List ℕ → Bool
is_name [] = false
is_name (b ∷ word) = is_ascii_alphabetic b && list_all is_name_byte word && nat_le (length (b ∷ word)) 32
