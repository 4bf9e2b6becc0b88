-- The grammar of lines: the texts that speak a command, by cases.
use Rattle.std.specs.Prelude.{ℕ, ◌≡◌, ◌&&◌, ◌++◌, Bool, true, IsTrue, List, [], ◌∷◌, length, nat_le, Option, Some, None, codes, decimal}
use Rattle.std.specs.List.{join_with_byte}
use Rattle.std.specs.Str.{IsUtf8}
use Rattle.pm_command.specs.Commands.{RefSeen, Spoken, blank, new_object, take_value, give_value, look_up, ensure_values, explain_values, tell_history, show_object, tell_evidence, show_rules, disable_rule, unload_client, copy_object, drop_object, tell_origin, load_object, save_object, ShapeSeen, cube_shape, simplex_shape, cross_shape, cyclic_shape, make_object, build_object}
use Rattle.pm_command.specs.Builders.{word_of}
use Rattle.pm_command.specs.declared.building.Builder.TheVariants.{One, Two}
use Rattle.pm_command.specs.Lines.{is_silent}
use Rattle.pm_rules.specs.Words.{is_label, is_word}
use Rattle.pm_store.specs.FileWords.{is_file_word}
use Rattle.pm_command.specs.Words.{are_asked, is_name, is_property_word, is_type_word}

abbrev pub part_text : List ℕ → Option (List ℕ) → List ℕ
part_text name None = name
part_text name (Some sub) = name ++ codes "." ++ sub

-- NAME, or NAME.SUB
abbrev pub ref_text : RefSeen → List ℕ
ref_text r = part_text r.name r.sub

abbrev pub is_sub : Option (List ℕ) → Bool
is_sub None = true
is_sub (Some sub) = is_name sub

-- each part is a name
abbrev pub is_ref : RefSeen → Bool
is_ref r = is_name r.name && is_sub r.sub

-- the words in a row, with a space between each two
abbrev pub spaced : List (List ℕ) → List ℕ
spaced words = join_with_byte 32 words

-- words that ask for properties, one at least
abbrev pub are_some_asked : List (List ℕ) → Bool
are_some_asked words = nat_le 1 (length words) && are_asked words

-- a number of a shape
abbrev pub is_made_number : ℕ → Bool
is_made_number n = nat_le 1 n && nat_le n 9999

-- the name of a shape and its numbers, in decimal digits
abbrev pub shape_text : ShapeSeen → List ℕ
shape_text (cube_shape d) = codes "cube " ++ decimal d
shape_text (simplex_shape d) = codes "simplex " ++ decimal d
shape_text (cross_shape d) = codes "cross " ++ decimal d
shape_text (cyclic_shape d n) = codes "cyclic " ++ decimal d ++ codes " " ++ decimal n

-- each number is such
abbrev pub is_shape : ShapeSeen → Bool
is_shape (cube_shape d) = is_made_number d
is_shape (simplex_shape d) = is_made_number d
is_shape (cross_shape d) = is_made_number d
is_shape (cyclic_shape d n) = is_made_number d && is_made_number n

-- the text is UTF-8, it is this line, and the words are such
pub record IsLine (text line : List ℕ) (words : Bool) : Type 0 where
  pub utf8 : IsUtf8 text
  pub same : text ≡ line
  pub allowed : IsTrue words

-- the line speaks the command s
abbrev pub Speaks : List ℕ → Spoken → Type 0
Speaks text blank = IsTrue (is_silent text)
Speaks text (new_object obj of) = IsLine text (codes "new " ++ ref_text obj ++ codes " " ++ of)
    (is_ref obj && is_type_word of)
Speaks text (take_value obj prop json) =
    IsLine text (codes "take " ++ ref_text obj ++ codes " " ++ prop ++ codes " " ++ json)
    (is_ref obj && is_property_word prop && nat_le 1 (length json))
Speaks text (give_value obj prop) = IsLine text (codes "give " ++ ref_text obj ++ codes " " ++ prop)
    (is_ref obj && is_property_word prop)
Speaks text (look_up obj prop) = IsLine text (codes "lookup " ++ ref_text obj ++ codes " " ++ prop)
    (is_ref obj && is_property_word prop)
Speaks text (ensure_values obj props) =
    IsLine text (codes "ensure " ++ ref_text obj ++ codes " " ++ spaced props)
    (is_ref obj && are_some_asked props)
Speaks text (explain_values obj props) =
    IsLine text (codes "explain " ++ ref_text obj ++ codes " " ++ spaced props)
    (is_ref obj && are_some_asked props)
Speaks text (tell_history name) = IsLine text (codes "history " ++ name) (is_name name)
Speaks text (show_object name) = IsLine text (codes "show " ++ name) (is_name name)
Speaks text (tell_evidence name label) =
    IsLine text (codes "evidence " ++ name ++ codes " " ++ label) (is_name name && is_label label)
Speaks text show_rules = IsLine text (codes "rules") true
Speaks text (disable_rule name label) =
    IsLine text (codes "disable " ++ name ++ codes " " ++ label) (is_name name && is_label label)
Speaks text (unload_client client) = IsLine text (codes "unload " ++ client) (is_word client)
Speaks text (copy_object name to) = IsLine text (codes "copy " ++ name ++ codes " " ++ to)
    (is_name name && is_name to)
Speaks text (drop_object name) = IsLine text (codes "drop " ++ name) (is_name name)
Speaks text (tell_origin obj prop) = IsLine text (codes "origin " ++ ref_text obj ++ codes " " ++ prop)
    (is_ref obj && is_property_word prop)
Speaks text (load_object name file) = IsLine text (codes "load " ++ name ++ codes " " ++ file)
    (is_name name && is_file_word file)
Speaks text (save_object name file) = IsLine text (codes "save " ++ name ++ codes " " ++ file)
    (is_name name && is_file_word file)
Speaks text (make_object new shape) = IsLine text (codes "make " ++ new ++ codes " " ++ shape_text shape)
    (is_name new && is_shape shape)
Speaks text (build_object (One what) (name ∷ []) new) =
    IsLine text (spaced (word_of (One what) ∷ name ∷ new ∷ [])) (is_name name && is_name new)
Speaks text (build_object (Two what) (first ∷ second ∷ []) new) =
    IsLine text (spaced (word_of (Two what) ∷ first ∷ second ∷ new ∷ []))
    (is_name first && is_name second && is_name new)
Speaks text (build_object builder names new) = ⊥
