-- The commands that lines speak. A REF is NAME, or NAME.SUB for the part SUB of an object.
-- `rules` asks for the book; `disable NAME LABEL` bars the rule of the label on an object, and `unload CLIENT` lets
-- the first client of the name go; both are words as in books.
-- `ensure REF PROP ..` asks that values be held, and `explain REF PROP ..` how they would be found: at most four
-- properties, and one that is named twice counts once. `history NAME` asks what happened to an object.
-- `show NAME` asks what an object holds, and `evidence NAME LABEL` why the rule of the label is barred there.
-- `load NAME FILE` makes an object of what a file holds, and `save NAME FILE` writes an object to a file; FILE is a
-- word that names a file.
-- `copy NAME NEW` makes an object of the name NEW that is as that of NAME, and `drop NAME` lets an object go; `origin
-- REF PROP` asks how a value came to be held.
-- `make NEW SHAPE N ..` makes a polytope of the name NEW: `cube N`, `simplex N` or `cross N` of the dimension N, or
-- `cyclic N M` of the dimension N with M points; a number is from 1 to 9999, in decimal digits of which the first is
-- not 0.
-- `WORD NAME NEW` and `WORD NAME NAME NEW` build an object of the name NEW of one other, or of two; the words are
-- those of Builders.antt.
-- `new REF TYPE` makes an object; `take REF PROP JSON` gives it a value, and the JSON text is all that stands after
-- the third space, one byte at least; `give REF PROP` asks for a value, and `lookup REF PROP` for one that is held.
-- A line of spaces and tabs alone, or whose first byte is #, is blank. Any other line is no command, and so is one
-- that is no UTF-8.
use Rattle.std.specs.Prelude.{ℕ, Bool, true, false, ◌&&◌, List, [], ◌∷◌, map, string_bytes, Option, Some, None, option_map, option_and_then, if◌then◌else◌, codes}
use Rattle.std.specs.List.{before_first, after_first}
use Rattle.std.specs.Str.{is_utf8, bytes_eq}
use Rattle.pm_command.specs.Lines.{is_silent}
use Rattle.pm_rules.specs.Words.{is_label, is_word}
use Rattle.pm_store.specs.FileWords.{is_file_word}
use Rattle.pm_command.specs.Words.{are_asked, is_dot, first_word, rest, is_name, is_property_word, is_type_word, number_of, words_of}
use Rattle.pm_command.specs.declared.command.Ref.{Ref}
use Rattle.pm_command.specs.declared.command.Command.{Command}
use Rattle.pm_command.specs.declared.command.Shape.{Shape}
use Rattle.pm_command.specs.declared.command.Shape.TheVariants as shape
use Rattle.pm_command.specs.declared.command.Command.TheVariants.{Blank, New, Take, Give, Lookup, Ensure, Explain, History, Show, Evidence, Rules, Disable, Unload, Copy, DropObject, Origin, Load, Save, Make, Build}
use Rattle.pm_command.specs.Builders.{builder_named, builder_of, operands_of}
use Rattle.pm_command.specs.declared.building.Builder.{Builder}
use Rattle.pm_command.specs.declared.building.Builder.TheVariants.{One, Two}

-- a REF, by the bytes of its words
pub record RefSeen : Type 0 where
  pub name : List ℕ
  pub sub : Option (List ℕ)

-- a polytope that is made: cube_shape d, simplex_shape d and cross_shape d of dimension d, cyclic_shape d n of
-- dimension d with n points
pub data ShapeSeen : Type 0 where
  cube_shape : ℕ → ShapeSeen
  simplex_shape : ℕ → ShapeSeen
  cross_shape : ℕ → ShapeSeen
  cyclic_shape : ℕ → ℕ → ShapeSeen

-- a command, by the bytes of its words
pub data Spoken : Type 0 where
  blank : Spoken
  new_object : RefSeen → List ℕ → Spoken
  take_value : RefSeen → List ℕ → List ℕ → Spoken
  give_value : RefSeen → List ℕ → Spoken
  look_up : RefSeen → List ℕ → Spoken
  ensure_values : RefSeen → List (List ℕ) → Spoken
  explain_values : RefSeen → List (List ℕ) → Spoken
  tell_history : List ℕ → Spoken
  show_object : List ℕ → Spoken
  tell_evidence : List ℕ → List ℕ → Spoken
  show_rules : Spoken
  disable_rule : List ℕ → List ℕ → Spoken
  unload_client : List ℕ → Spoken
  copy_object : List ℕ → List ℕ → Spoken
  drop_object : List ℕ → Spoken
  tell_origin : RefSeen → List ℕ → Spoken
  load_object : List ℕ → List ℕ → Spoken
  save_object : List ℕ → List ℕ → Spoken
  make_object : List ℕ → ShapeSeen → Spoken
  build_object : Builder → List (List ℕ) → List ℕ → Spoken

abbrev pub part_of : List ℕ → List ℕ → Option RefSeen
part_of name sub = if is_name name && is_name sub then Some (record { name = name; sub = Some sub })
    else None

-- the REF that the word is
abbrev pub ref_of : List ℕ → Option RefSeen
ref_of word = if is_name word then Some (record { name = word; sub = None })
    else part_of (before_first is_dot word) (after_first is_dot word)

abbrev pub property_of : List ℕ → Option (List ℕ)
property_of word = if is_property_word word then Some word else None

abbrev pub type_of : List ℕ → Option (List ℕ)
type_of word = if is_type_word word then Some word else None

abbrev pub json_of : List ℕ → Option (List ℕ)
json_of [] = None
json_of (b ∷ json) = Some (b ∷ json)

-- what is spoken of a REF and another word, where both are such
abbrev pub of_both : (RefSeen → List ℕ → Spoken) → Option RefSeen → Option (List ℕ) → Option Spoken
of_both speak obj word = option_and_then (λ o. option_map (speak o) word) obj

abbrev pub of_three : Option RefSeen → Option (List ℕ) → Option (List ℕ) → Option Spoken
of_three obj prop json =
    option_and_then (λ o. option_and_then (λ p. option_map (take_value o p) json) prop) obj

abbrev pub new_line : List ℕ → Option Spoken
new_line words = of_both new_object (ref_of (first_word words)) (type_of (rest words))

abbrev pub take_line : List ℕ → Option Spoken
take_line words = of_three (ref_of (first_word words)) (property_of (first_word (rest words)))
    (json_of (rest (rest words)))

abbrev pub give_line : List ℕ → Option Spoken
give_line words = of_both give_value (ref_of (first_word words)) (property_of (rest words))

abbrev pub lookup_line : List ℕ → Option Spoken
lookup_line words = of_both look_up (ref_of (first_word words)) (property_of (rest words))

-- the text, if it is words that ask for properties
abbrev pub asked_of : List ℕ → Option (List ℕ)
asked_of text = if are_asked (words_of text) then Some text else None

abbrev pub ensure_line : List ℕ → Option Spoken
ensure_line words = of_both (λ obj text. ensure_values obj (words_of text)) (ref_of (first_word words))
    (asked_of (rest words))

abbrev pub explain_line : List ℕ → Option Spoken
explain_line words = of_both (λ obj text. explain_values obj (words_of text)) (ref_of (first_word words))
    (asked_of (rest words))

abbrev pub history_line : List ℕ → Option Spoken
history_line word = if is_name word then Some (tell_history word) else None

abbrev pub show_line : List ℕ → Option Spoken
show_line word = if is_name word then Some (show_object word) else None

abbrev pub evidence_of : List ℕ → List ℕ → Option Spoken
evidence_of name label = if is_name name && is_label label then Some (tell_evidence name label) else None

abbrev pub evidence_line : List ℕ → Option Spoken
evidence_line words = evidence_of (first_word words) (rest words)

abbrev pub disable_of : List ℕ → List ℕ → Option Spoken
disable_of name label = if is_name name && is_label label then Some (disable_rule name label) else None

abbrev pub disable_line : List ℕ → Option Spoken
disable_line words = disable_of (first_word words) (rest words)

abbrev pub unload_line : List ℕ → Option Spoken
unload_line word = if is_word word then Some (unload_client word) else None

abbrev pub copy_of : List ℕ → List ℕ → Option Spoken
copy_of name to = if is_name name && is_name to then Some (copy_object name to) else None

abbrev pub copy_line : List ℕ → Option Spoken
copy_line words = copy_of (first_word words) (rest words)

abbrev pub drop_line : List ℕ → Option Spoken
drop_line word = if is_name word then Some (drop_object word) else None

abbrev pub origin_line : List ℕ → Option Spoken
origin_line words = of_both tell_origin (ref_of (first_word words)) (property_of (rest words))

-- what is spoken of the name of an object and the word of a file, where both are such
abbrev pub of_file : (List ℕ → List ℕ → Spoken) → List ℕ → List ℕ → Option Spoken
of_file speak name file = if is_name name && is_file_word file then Some (speak name file) else None

abbrev pub load_line : List ℕ → Option Spoken
load_line words = of_file load_object (first_word words) (rest words)

abbrev pub save_line : List ℕ → Option Spoken
save_line words = of_file save_object (first_word words) (rest words)

-- the cyclic polytope of two numbers, where both are such
abbrev pub cyclic_of : Option ℕ → Option ℕ → Option ShapeSeen
cyclic_of d n = option_and_then (λ d. option_map (cyclic_shape d) n) d

-- the shape, from its word and the numbers after it
abbrev pub shape_of : List ℕ → List ℕ → Option ShapeSeen
shape_of word numbers =
    if bytes_eq word (codes "cube") then option_map cube_shape (number_of numbers)
    else (if bytes_eq word (codes "simplex") then option_map simplex_shape (number_of numbers)
    else (if bytes_eq word (codes "cross") then option_map cross_shape (number_of numbers)
    else (if bytes_eq word (codes "cyclic") then cyclic_of (number_of (first_word numbers))
    (number_of (rest numbers))
    else None)))

abbrev pub make_of : List ℕ → Option ShapeSeen → Option Spoken
make_of new shape = if is_name new then option_map (make_object new) shape else None

abbrev pub make_line : List ℕ → Option Spoken
make_line words = make_of (first_word words) (shape_of (first_word (rest words)) (rest (rest words)))

-- two names, where both are such
abbrev pub two_names : List ℕ → Option (List ℕ × List ℕ)
two_names words = if is_name (first_word words)
    && is_name (rest words) then Some (first_word words, rest words) else None

-- what is spoken of two names
abbrev pub of_names : (List ℕ → List ℕ → Spoken) → Option (List ℕ × List ℕ) → Option Spoken
of_names speak names = option_map (λ n. speak n.0 n.1) names

-- what is spoken of the names of two objects and of the new one
abbrev pub of_three_names : (List ℕ → List ℕ → List ℕ → Spoken) → List ℕ → Option (List ℕ × List ℕ)
    → Option Spoken
of_three_names speak first names = if is_name first then of_names (speak first) names else None

-- the names of the objects that an object is built of, and its own
abbrev pub built_line : Builder → List ℕ → Option Spoken
built_line (One what) words = of_names (λ name new. build_object (One what) (name ∷ []) new)
    (two_names words)
built_line (Two what) words =
    of_three_names (λ first second new. build_object (Two what) (first ∷ second ∷ []) new) (first_word words)
    (two_names (rest words))

-- a command that makes an object, or builds one of others, by its first word and what stands after it
abbrev pub build_line : List ℕ → List ℕ → Option Spoken
build_line first words =
    if bytes_eq first (codes "make") then make_line words
    else option_and_then (λ b. built_line b words) (builder_named first)

-- a command on files, by its first word and what stands after it
abbrev pub file_line : List ℕ → List ℕ → Option Spoken
file_line first words =
    if bytes_eq first (codes "load") then load_line words
    else (if bytes_eq first (codes "save") then save_line words
    else build_line first words)

-- a command that copies an object, lets it go, or asks where a value is from, by its first word and what stands after
-- it
abbrev pub object_line : List ℕ → List ℕ → Option Spoken
object_line first words =
    if bytes_eq first (codes "copy") then copy_line words
    else (if bytes_eq first (codes "drop") then drop_line words
    else (if bytes_eq first (codes "origin") then origin_line words
    else file_line first words))

-- a command that tells what an object holds, or why a rule is barred there, by its first word and what stands after it
abbrev pub told_line : List ℕ → List ℕ → Option Spoken
told_line first words =
    if bytes_eq first (codes "show") then show_line words
    else (if bytes_eq first (codes "evidence") then evidence_line words
    else object_line first words)

-- a command on chains, from its first word and what stands after it
abbrev pub chain_line : List ℕ → List ℕ → Option Spoken
chain_line first words =
    if bytes_eq first (codes "ensure") then ensure_line words
    else (if bytes_eq first (codes "explain") then explain_line words
    else (if bytes_eq first (codes "history") then history_line words
    else told_line first words))

-- the command, from its first word and what stands after it
abbrev pub line_of : List ℕ → List ℕ → Option Spoken
line_of first words =
    if bytes_eq first (codes "new") then new_line words
    else (if bytes_eq first (codes "take") then take_line words
    else (if bytes_eq first (codes "give") then give_line words
    else (if bytes_eq first (codes "lookup") then lookup_line words
    else (if bytes_eq first (codes "disable") then disable_line words
    else (if bytes_eq first (codes "unload") then unload_line words
    else chain_line first words)))))

-- the command that the line speaks
abbrev pub command_of : List ℕ → Option Spoken
command_of text = if is_silent text then Some blank
    else (if is_utf8 text then (if bytes_eq text (codes "rules") then Some show_rules
    else line_of (first_word text) (rest text)) else None)

-- a command that reads or writes a file
abbrev pub is_on_files : Spoken → Bool
is_on_files (load_object name file) = true
is_on_files (save_object name file) = true
is_on_files command = false

-- ---- the code's commands
abbrev pub seen_ref : Ref → RefSeen
seen_ref r = record { name = string_bytes r.name; sub = option_map string_bytes r.sub }

abbrev pub seen_shape : Shape → ShapeSeen
seen_shape (shape.Cube d) = cube_shape d
seen_shape (shape.Simplex d) = simplex_shape d
seen_shape (shape.Cross d) = cross_shape d
seen_shape (shape.Cyclic d n) = cyclic_shape d n

-- what the code's command says
abbrev pub spoken : Command → Spoken
spoken Blank = blank
spoken (New obj of) = new_object (seen_ref obj) (string_bytes of)
spoken (Take obj prop json) = take_value (seen_ref obj) (string_bytes prop) (string_bytes json)
spoken (Give obj prop) = give_value (seen_ref obj) (string_bytes prop)
spoken (Lookup obj prop) = look_up (seen_ref obj) (string_bytes prop)
spoken (Ensure obj props) = ensure_values (seen_ref obj) (map string_bytes props.items)
spoken (Explain obj props) = explain_values (seen_ref obj) (map string_bytes props.items)
spoken (History name) = tell_history (string_bytes name)
spoken (Show name) = show_object (string_bytes name)
spoken (Evidence name label) = tell_evidence (string_bytes name) (string_bytes label)
spoken Rules = show_rules
spoken (Disable name label) = disable_rule (string_bytes name) (string_bytes label)
spoken (Unload client) = unload_client (string_bytes client)
spoken (Copy name to) = copy_object (string_bytes name) (string_bytes to)
spoken (DropObject name) = drop_object (string_bytes name)
spoken (Origin obj prop) = tell_origin (seen_ref obj) (string_bytes prop)
spoken (Load name file) = load_object (string_bytes name) (string_bytes file)
spoken (Save name file) = save_object (string_bytes name) (string_bytes file)
spoken (Make new made) = make_object (string_bytes new) (seen_shape made)
spoken (Build what new) = build_object (builder_of what) (operands_of what) (string_bytes new)
