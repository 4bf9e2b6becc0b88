-- Replies can be told apart by their bytes: which replies a command may have, and which values they show.
use Rattle.std.specs.Prelude.{ℕ, ◌≡◌, ◌==◌, ◌++◌, Bool, true, false, not, List, [], ◌∷◌, Option, Some, None, Ok, length, map}
use Rattle.std.specs.List.{list_all}
use Rattle.pm_books.specs.Writing.{text_of}
use Rattle.pm_command.specs.Commands.{RefSeen, Spoken, blank, new_object, take_value, give_value, look_up, ensure_values, explain_values, tell_history, show_object, tell_evidence, show_rules, disable_rule, unload_client, copy_object, drop_object, tell_origin, load_object, save_object, make_object, build_object}
use Rattle.pm_command.specs.declared.building.Builder.{Builder}
use Rattle.pm_command.specs.Grammar.{is_ref, ref_text}
use Rattle.pm_files.specs.ValueJson.{json_of, value_text}
use Rattle.pm_json.specs.Readings.{reading}
use Rattle.pm_machine.specs.Run.{replies_text, text_if}
use Rattle.serde_json.specs.Read.{read}
use Rattle.pm_object.specs.declared.held.Excluded.{Excluded}
use Rattle.pm_object.specs.declared.held.Origin.{Origin}
use Rattle.pm_object_type.specs.declared.object_type.ObjectType.{ObjectType}
use Rattle.pm_props.specs.declared.kind.RuleId.{RuleId}
use Rattle.pm_props.specs.declared.property.PropId.{PropId}
use Rattle.pm_rules.specs.declared.rule.Rule.{Rule}
use Rattle.pm_rules.specs.declared.table.TableRow.{TableRow}
use Rattle.pm_script.specs.Replies.{NamesSeen, ReplySeen, Rounds, done, ensured, explained, lists_held, lists_rules, loaded, name_shown, no_rounds, nothing, planned, program_lines, refusal_text, refused, reply_text, shows, tells, tells_evidence, tells_origin, told, undef}
use Rattle.pm_script.specs.declared.names.Bar.{Bar}
use Rattle.pm_script.specs.declared.refusal.Refusal.{Refusal}
use Rattle.pm_types.specs.Values.{PropertyValue}
use Rattle.pm_weights.specs.declared.Cost.{Cost}

-- ---- texts of one line
-- the byte is no LF, which is 10, so that it ends no line
abbrev pub is_in_line : ℕ → Bool
is_in_line b = not (b == 10)

-- no byte of the text is an LF
abbrev pub is_one_line : List ℕ → Bool
is_one_line text = list_all is_in_line text

-- no label of a rule and no name of a linear program has an LF
pub record NamesAreOneLine (names : NamesSeen) : Type 0 where
  pub labels : list_all (λ rule. is_one_line rule.0) names.rules ≡ true
  pub programs : list_all is_one_line names.programs ≡ true

-- ---- which replies a command may have
-- the command is carried out or refused, in one line
abbrev pub is_done_in_one_line : Spoken → Bool
is_done_in_one_line (new_object ref text) = true
is_done_in_one_line (take_value ref text json) = true
is_done_in_one_line (copy_object name to) = true
is_done_in_one_line (drop_object name) = true
is_done_in_one_line (save_object name file) = true
is_done_in_one_line (disable_rule name label) = true
is_done_in_one_line (unload_client name) = true
is_done_in_one_line (make_object to shape) = true
is_done_in_one_line command = false

-- a round may be begun for it
abbrev pub may_begin_rounds : Spoken → Bool
may_begin_rounds (give_value ref text) = true
may_begin_rounds (ensure_values ref words) = true
may_begin_rounds (build_object builder names to) = true
may_begin_rounds command = false

-- it asks for the book
abbrev pub lists_book : Spoken → Bool
lists_book show_rules = true
lists_book command = false

-- a blank line has no reply, and the book is never refused
abbrev pub may_be_refused : Spoken → Bool
may_be_refused blank = false
may_be_refused show_rules = false
may_be_refused command = true

-- where it asks for a value, its REF is a name, or two with a point between them
abbrev pub has_well_formed_ref : Spoken → Bool
has_well_formed_ref (give_value ref text) = is_ref ref
has_well_formed_ref (look_up ref text) = is_ref ref
has_well_formed_ref command = true

-- The replies that a command may have by a book, as far as their lines go: no command has another reply, and no reply
-- has other lines behind it.
pub data IsReply (book : List Rule) : Spoken → ReplySeen → Type 0 where
  is_refused : {command : Spoken} {why : Refusal} → may_be_refused command ≡ true
      → is_one_line (refusal_text why) ≡ true → IsReply book command (refused why nothing)
  is_refused_after_rounds : {command : Spoken} {why : Refusal} {always : Bool} {t : Rounds}
      → may_begin_rounds command ≡ true → is_one_line (refusal_text why) ≡ true → NamesAreOneLine t.names
      → IsReply book command (refused why (told always t))
  is_refused_by_plan : {ref : RefSeen} {words : List (List ℕ)} {why : Refusal} {barred : List (RuleId × Bar)}
      {rows : List TableRow} {names : NamesSeen} → is_one_line (refusal_text why) ≡ true → NamesAreOneLine names
      → IsReply book (explain_values ref words) (refused why (planned barred rows names))
  is_done : {command : Spoken} {t : Rounds} → is_done_in_one_line command ≡ true → t ≡ no_rounds
      → IsReply book command (done t)
  is_built : {b : Builder} {names : List (List ℕ)} {to : List ℕ} {t : Rounds} → NamesAreOneLine t.names
      → IsReply book (build_object b names to) (done t)
  is_shown : {ref : RefSeen} {text name : List ℕ} {of : ObjectType} {p : PropId} {v : PropertyValue} {t : Rounds}
      → name ≡ ref_text ref → NamesAreOneLine t.names
      → IsReply book (give_value ref text) (shows name of p v t)
  is_looked_up : {ref : RefSeen} {text name : List ℕ} {of : ObjectType} {p : PropId} {v : PropertyValue} {t : Rounds}
      → name ≡ ref_text ref → t ≡ no_rounds
      → IsReply book (look_up ref text) (shows name of p v t)
  is_not_held : {ref : RefSeen} {text : List ℕ} → IsReply book (look_up ref text) undef
  has_no_origin : {ref : RefSeen} {text : List ℕ} → IsReply book (tell_origin ref text) undef
  has_origin : {ref : RefSeen} {text : List ℕ} {o : Origin}
      → IsReply book (tell_origin ref text) (tells_origin o)
  is_ensured : {ref : RefSeen} {words : List (List ℕ)} {t : Rounds} → NamesAreOneLine t.names
      → IsReply book (ensure_values ref words) (ensured t)
  is_explained : {ref : RefSeen} {words : List (List ℕ)} {chain : List RuleId} {weight : Cost} {rows : List TableRow}
      {names : NamesSeen} → NamesAreOneLine names
      → IsReply book (explain_values ref words) (explained chain weight rows names)
  has_history : {name : List ℕ} {t : Rounds} {excluded : List Excluded} → NamesAreOneLine t.names
      → IsReply book (tell_history name) (tells t excluded)
  is_listed : {n : ℕ} {text : List ℕ} → n ≡ length book → text ≡ text_of book
      → IsReply book show_rules (lists_rules n text)
  is_loaded : {name file : List ℕ} {names : List (List ℕ)} → IsReply book (load_object name file) (loaded names)
  tells_what_is_held : {name : List ℕ} {of : ObjectType} {held : List (PropId × Origin)}
      {programs : List (List ℕ × List (PropId × Origin))} → list_all (λ p. is_one_line p.0) programs ≡ true
      → IsReply book (show_object name) (lists_held of held programs)
  has_evidence : {name label : List ℕ} {excluded : List Excluded} {names : NamesSeen} → NamesAreOneLine names
      → IsReply book (tell_evidence name label) (tells_evidence excluded names)

-- A line that speaks no command (None) is refused, a blank one has no reply, and each other one has a reply that its
-- command may have.
abbrev pub IsReplyTo : List Rule → Option Spoken → Option ReplySeen → Type 0
IsReplyTo book (Some command) (Some reply) = (has_well_formed_ref command ≡ true) × IsReply book command reply
IsReplyTo book (Some blank) None = Unit {0}
IsReplyTo book (Some command) None = ⊥
IsReplyTo book None (Some reply) = (why : Refusal) × (is_one_line (refusal_text why) ≡ true)
    × (reply ≡ refused why nothing)
IsReplyTo book None None = ⊥

-- these are replies to the lines, one after another
abbrev pub AreReplies : List Rule → List (Option Spoken) → List (Option ReplySeen) → Type 0
AreReplies book [] [] = Unit {0}
AreReplies book (line ∷ lines) (reply ∷ replies) = IsReplyTo book line reply × AreReplies book lines replies
AreReplies book [] (reply ∷ replies) = ⊥
AreReplies book (line ∷ lines) [] = ⊥

-- ---- the values that texts show
-- the value that a reply shows: the name of the object or program, the name of the property, and the value's text
abbrev pub value_shown : ReplySeen → Option (List ℕ × List ℕ × List ℕ)
value_shown (shows name of p v t) = Some (name, name_shown of p, value_text p v)
value_shown reply = None

-- the same, where there is a reply
abbrev pub value_shown_if : Option ReplySeen → Option (List ℕ × List ℕ × List ℕ)
value_shown_if None = None
value_shown_if (Some reply) = value_shown reply

-- Two replies to one line show the same value, or none, where their texts are equal, or one begins with the other, or
-- both go on to one text: so of a reply the line and the bytes tell what it shows, whatever stands behind it.
abbrev pub RepliesToOneLineShowTheSame : Type 0
RepliesToOneLineShowTheSame = (book : List Rule) (trace : Bool) (line : Option Spoken)
    (reply other : Option ReplySeen) (behind beyond : List ℕ) → IsReplyTo book line reply
    → IsReplyTo book line other → text_if trace reply ++ behind ≡ text_if trace other ++ beyond
    → value_shown_if reply ≡ value_shown_if other

-- Two lists of replies to the same lines with one text, taken together, have the same texts line by line, and show
-- the same values line by line.
abbrev pub RepliesAreToldApart : Type 0
RepliesAreToldApart = (book : List Rule) (trace : Bool) (lines : List (Option Spoken))
    (replies others : List (Option ReplySeen)) → AreReplies book lines replies → AreReplies book lines others
    → replies_text trace replies ≡ replies_text trace others
    → (map (text_if trace) replies ≡ map (text_if trace) others)
    × (map value_shown_if replies ≡ map value_shown_if others)

-- the value is read back from its text, as one in the form of its property is
pub record IsReadBack (p : PropId) (v : PropertyValue) : Type 0 where
  pub text : read (value_text p v) ≡ Some (json_of p v)
  pub value : reading p (json_of p v) ≡ Ok v

-- Of what is shown the name of the property tells the property, whatever the type of the object, and the text tells
-- the value, where it is read back.
abbrev pub ShownTextsTellValues : Type 0
ShownTextsTellValues = (of og : ObjectType) (p q : PropId) (v w : PropertyValue)
    → name_shown of p ≡ name_shown og q → value_text p v ≡ value_text q w
    → (p ≡ q) × (IsReadBack p v → IsReadBack q w → v ≡ w)

-- ---- replies to `load` and `show`
-- Whatever names a file has, the reply to `load` is one line.
abbrev pub LoadedIsOneLine : Type 0
LoadedIsOneLine = (trace : Bool) (names : List (List ℕ)) → (line : List ℕ)
    × (reply_text trace (loaded names) ≡ line ++ 10 ∷ []) × (is_one_line line ≡ true)

-- And it tells these names, in their order.
abbrev pub LoadedNamesAreTold : Type 0
LoadedNamesAreTold = (trace : Bool) (names others : List (List ℕ))
    → reply_text trace (loaded names) ≡ reply_text trace (loaded others) → names ≡ others

-- Where `show` tells a linear program, no value of an object or program is shown, whatever stands behind.
abbrev pub ProgramLinesShowNoValue : Type 0
ProgramLinesShowNoValue = (of on : ObjectType) (held : List (PropId × Origin)) (name : List ℕ) (ref : RefSeen)
    (p : PropId) (v : PropertyValue) (behind beyond : List ℕ) → is_ref ref ≡ true
    → program_lines on (name, held) ++ behind ≡ reply_text false (shows (ref_text ref) of p v no_rounds) ++ beyond
    → ⊥
