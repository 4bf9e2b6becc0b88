-- What is replied to a command.
use Rattle.std.specs.Prelude.{ℕ, ◌-◌, ◌/◌, ◌%◌, ◌^◌, List, [], ◌∷◌, ◌++◌, Bool, true, false, ◌||◌, if◌then◌else◌, Option, Some, None, flat_map, length, map, replicate, string_bytes, codes, decimal}
use Rattle.std.specs.Fmt.{digits}
use Rattle.std.specs.List.{slice_get}
use Rattle.pm_geom.specs.Evidence.{evidence_number}
use Rattle.pm_object.specs.State.{RoundSeen, word_of}
use Rattle.pm_object.specs.Views.{round_seen}
use Rattle.pm_object.specs.declared.held.Excluded.{Excluded}
use Rattle.pm_object.specs.declared.held.Origin.{Origin}
use Rattle.pm_object.specs.declared.held.Origin.TheVariants as origin
use Rattle.pm_object.specs.declared.held.RoundEnd.{RoundEnd}
use Rattle.pm_object.specs.declared.held.RoundEnd.TheVariants as end
use Rattle.pm_object.specs.declared.held.Why.{Why}
use Rattle.pm_object.specs.declared.held.Why.TheVariants as why
use Rattle.pm_weights.specs.Weights.{cost_text, weight_text}
use Rattle.pm_props.specs.declared.kind.RuleId.{RuleId}
use Rattle.pm_props.specs.declared.set.PropSet.{PropSet}
use Rattle.pm_weights.specs.declared.Cost.{Cost}
use Rattle.pm_weights.specs.declared.Weight.{Weight}
use Rattle.pm_rules.specs.Words.{is_word}
use Rattle.pm_rules.specs.declared.table.Table.{Table}
use Rattle.pm_rules.specs.declared.table.TableRow.{TableRow}
use Rattle.pm_script.specs.declared.names.Bar.{Bar}
use Rattle.pm_script.specs.declared.names.Bar.TheVariants as bar
use Rattle.pm_script.specs.declared.names.Names.{Names}
use Rattle.pm_object_type.specs.declared.object_type.ObjectType.{ObjectType}
use Rattle.pm_object_type.specs.declared.object_type.ObjectType.TheVariants.{Cone, Fan, Polytope}
use Rattle.pm_props.specs.Names.{program_name}
use Rattle.pm_props.specs.Properties.{first_name, has_program, name_in}
use Rattle.pm_types.specs.Values.{PropertyValue}
use Rattle.pm_types.specs.Views.{view_of}
use Rattle.pm_props.specs.declared.property.PropId.{PropId}
use Rattle.pm_files.specs.EvidenceJson.{evidence_text}
use Rattle.pm_files.specs.ValueJson.{value_text}
use Rattle.pm_script.specs.declared.refusal.Refusal.{Refusal}
use Rattle.pm_script.specs.declared.refusal.Refusal.TheVariants.{BadCommand, UnknownName, NameTaken, UnknownType, UnknownProperty, BadValue, AlreadyHeld, Sealed, ObjectsFull, NoChain, Crowded, StoreFault, BadFile, NoSuchFile, LineTooLong, UnknownRule, NotFit, NotMade}
use Rattle.pm_script.specs.declared.refusal.FileWhy.{FileWhy}
use Rattle.pm_script.specs.declared.refusal.FileWhy.TheVariants as file_why
use Rattle.pm_script.specs.declared.refusal.NotMadeWhy.{NotMadeWhy}
use Rattle.pm_script.specs.declared.refusal.NotMadeWhy.TheVariants.{Combination, Pair}
use Rattle.pm_script.specs.declared.refusal.ValueWhy.{ValueWhy}
use Rattle.pm_script.specs.declared.refusal.ValueWhy.TheVariants.{Json, Shape, Number, Index, Limit, Computed, Columns, Row}
use Rattle.pm_script.specs.declared.reply.Reply.{Reply}
use Rattle.pm_script.specs.declared.shown.ProgramHeld.{ProgramHeld}
use Rattle.pm_script.specs.declared.reply.Reply.TheVariants as reply
use Rattle.serde_json.specs.Data.{string}
use Rattle.serde_json.specs.Written.{compact_text}

-- the label and the weight of each rule, by its number, and the name of each program of an object, by its place
pub record NamesSeen : Type 0 where
  pub rules : List (List ℕ × Weight)
  pub programs : List (List ℕ)

-- rounds, with the names that their lines need
pub record Rounds : Type 0 where
  pub rounds : List RoundSeen
  pub names : NamesSeen

-- no rounds, and no names
abbrev pub no_rounds : Rounds
no_rounds = record { rounds = []; names = record { rules = []; programs = [] } }

-- What follows a refusal: nothing; the rounds of the command, which are always shown (true), or where they are
-- traced; or the rules that are barred, each with the reason, and the table of the planner. A reply of the code that
-- has something of two of these is mixed; no command has it.
pub data Remarks : Type 0 where
  nothing : Remarks
  told : Bool → Rounds → Remarks
  planned : List (RuleId × Bar) → List TableRow → NamesSeen → Remarks
  mixed : Bool → List RoundSeen → List (RuleId × Bar) → Option (List TableRow) → NamesSeen → Remarks

-- done, after these rounds; shows name of p v, the value v of the property p of what has that name, an object of that
-- type or a program of one, with the rounds that found it; ensured, by these rounds; explained, by a chain with its
-- weight and table; tells, what happened to an object; lists_rules n text, where the book has n rules and this text;
-- tells_origin, how a value came to be held; loaded, with the names that were read over; lists_held of held programs,
-- what an object of the type holds, and each of its programs by its name; tells_evidence, of these exclusions; undef,
-- where no value is held; refused, why, and what is said beside it
pub data ReplySeen : Type 0 where
  done : Rounds → ReplySeen
  shows : List ℕ → ObjectType → PropId → PropertyValue → Rounds → ReplySeen
  ensured : Rounds → ReplySeen
  explained : List RuleId → Cost → List TableRow → NamesSeen → ReplySeen
  tells : Rounds → List Excluded → ReplySeen
  lists_rules : ℕ → List ℕ → ReplySeen
  tells_origin : Origin → ReplySeen
  loaded : List (List ℕ) → ReplySeen
  lists_held : ObjectType → List (PropId × Origin) → List (List ℕ × List (PropId × Origin)) → ReplySeen
  tells_evidence : List Excluded → NamesSeen → ReplySeen
  undef : ReplySeen
  refused : Refusal → Remarks → ReplySeen

-- ---- the code's replies
abbrev pub names_seen : Names → NamesSeen
names_seen n = record {
  rules = n.rules.items;
  programs = map string_bytes n.subs.items;
}

-- what is said beside a refusal: rounds that are told, or rules and a table
abbrev pub remarks : Bool → List RoundSeen → List (RuleId × Bar) → Option Table → NamesSeen → Remarks
remarks false [] barred (Some table) names = planned barred table.rows.items names
remarks false [] [] None names = nothing
remarks always rounds [] None names = told always (record { rounds = rounds; names = names })
remarks always rounds barred None names = mixed always rounds barred None names
remarks always rounds barred (Some table) names = mixed always rounds barred (Some table.rows.items) names

-- the name of a program, and what it holds
abbrev pub program_seen : ProgramHeld → List ℕ × List (PropId × Origin)
program_seen p = (string_bytes p.name, p.held.items)

-- what the code's reply says
abbrev pub seen : Reply → ReplySeen
seen (reply.Done rounds names) =
    done (record { rounds = map round_seen rounds.items; names = names_seen names })
seen (reply.Value name of p v rounds names) =
    shows (string_bytes name) of p (view_of v)
    (record { rounds = map round_seen rounds.items; names = names_seen names })
seen (reply.Ensured rounds names) =
    ensured (record { rounds = map round_seen rounds.items; names = names_seen names })
seen (reply.Explained chain weight table names) =
    explained chain.items weight table.rows.items (names_seen names)
seen (reply.History rounds excluded names) =
    tells (record { rounds = map round_seen rounds.items; names = names_seen names }) excluded.items
seen (reply.Rules count text) = lists_rules count (string_bytes text)
seen (reply.Origin o) = tells_origin o
seen (reply.Loaded names) = loaded (map string_bytes names.items)
seen (reply.Held of held programs) = lists_held of held.items (map program_seen programs.items)
seen (reply.Evidence excluded names) = tells_evidence excluded.items (names_seen names)
seen reply.Undef = undef
seen (reply.Refused why always rounds barred table names) =
    refused why (remarks always (map round_seen rounds.items) barred.items table (names_seen names))

-- ---- texts
abbrev pub why_text : ValueWhy → List ℕ
why_text Json = codes "json"
why_text Shape = codes "shape"
why_text Number = codes "number"
why_text Index = codes "index"
why_text Limit = codes "limit"
why_text Computed = codes "computed"
why_text Columns = codes "columns"
why_text Row = codes "row"

abbrev pub file_why_text : FileWhy → List ℕ
file_why_text file_why.Limit = codes "Limit"
file_why_text file_why.NotJson = codes "NotJson"
file_why_text file_why.NoType = codes "NoType"
file_why_text file_why.UnknownType = codes "UnknownType"
file_why_text (file_why.BadProperty name why) =
    codes "BadProperty " ++ string_bytes name ++ codes " " ++ why_text why
file_why_text (file_why.BadRow name) = codes "BadRow " ++ string_bytes name
file_why_text (file_why.BadProfile key) = codes "BadProfile " ++ string_bytes key

abbrev pub not_made_text : NotMadeWhy → List ℕ
not_made_text (Combination first second column) = codes "combination"
not_made_text (Pair a b evidence) = codes "E" ++ decimal (evidence_number evidence)

-- the number and the name of a refusal
abbrev pub refusal_name : Refusal → List ℕ
refusal_name BadCommand = codes "1 BadCommand"
refusal_name UnknownName = codes "2 UnknownName"
refusal_name NameTaken = codes "3 NameTaken"
refusal_name UnknownType = codes "4 UnknownType"
refusal_name UnknownProperty = codes "5 UnknownProperty"
refusal_name (BadValue why) = codes "6 BadValue"
refusal_name AlreadyHeld = codes "7 AlreadyHeld"
refusal_name Sealed = codes "8 Sealed"
refusal_name ObjectsFull = codes "9 ObjectsFull"
refusal_name NoChain = codes "10 NoChain"
refusal_name Crowded = codes "11 Crowded"
refusal_name StoreFault = codes "12 StoreFault"
refusal_name (BadFile why) = codes "13 BadFile"
refusal_name NoSuchFile = codes "14 NoSuchFile"
refusal_name LineTooLong = codes "15 LineTooLong"
refusal_name UnknownRule = codes "16 UnknownRule"
refusal_name (NotFit condition) = codes "17 NotFit"
refusal_name (NotMade why) = codes "18 NotMade"

-- the reason behind them, where there is one
abbrev pub reason_text : Refusal → List ℕ
reason_text (BadValue why) = codes " " ++ why_text why
reason_text (BadFile why) = codes " " ++ file_why_text why
reason_text (NotFit condition) = codes " " ++ word_of condition
reason_text (NotMade why) = codes " " ++ not_made_text why
reason_text why = []

abbrev pub refusal_text : Refusal → List ℕ
refusal_text why = refusal_name why ++ reason_text why

-- the label of a rule, and its weight
abbrev pub label_in : Option (List ℕ × Weight) → List ℕ
label_in None = []
label_in (Some rule) = rule.0

abbrev pub weight_in : Option (List ℕ × Weight) → List ℕ
weight_in None = []
weight_in (Some rule) = weight_text rule.1

-- the label of the rule of a number; nothing where no name tells it
abbrev pub label_text : NamesSeen → RuleId → List ℕ
label_text names id = label_in (slice_get names.rules id.0)

-- the weight of the rule of a number
abbrev pub weight_text_of : NamesSeen → RuleId → List ℕ
weight_text_of names id = weight_in (slice_get names.rules id.0)

-- a space, and the label
abbrev pub spaced_label : NamesSeen → RuleId → List ℕ
spaced_label names id = codes " " ++ label_text names id

abbrev pub name_of_program : Option (List ℕ) → List ℕ
name_of_program None = []
name_of_program (Some name) = name

-- ` @` and the name of a program, where one is meant
abbrev pub place_text : NamesSeen → Option ℕ → List ℕ
place_text names None = []
place_text names (Some k) = codes " @" ++ name_of_program (slice_get names.programs k)

abbrev pub failed_text : ℕ → List ℕ
failed_text k = codes "failed E" ++ decimal k

abbrev pub false_text : PropId → List ℕ
false_text p = codes "false " ++ first_name p

-- how a round ended
abbrev pub end_text : NamesSeen → RoundEnd → List ℕ
end_text names end.Done = codes "done"
end_text names (end.Failed id k) = codes "failed " ++ label_text names id ++ codes " E" ++ decimal k
end_text names (end.False id p) = codes "false " ++ label_text names id ++ codes " " ++ first_name p

-- `round W: LABEL .. -> END`
abbrev pub round_text : NamesSeen → RoundSeen → List ℕ
round_text names r = codes "round " ++ cost_text r.weight ++ place_text names r.sub ++ codes ":"
    ++ flat_map (spaced_label names) r.chain
    ++ codes " -> " ++ end_text names r.end ++ codes "\n"

abbrev pub rounds_text : Rounds → List ℕ
rounds_text t = flat_map (round_text t.names) t.rounds

abbrev pub exclusion_text : Why → List ℕ
exclusion_text (why.Failed evidence) = failed_text (evidence_number evidence)
exclusion_text (why.False p) = false_text p
exclusion_text (why.Stored k) = failed_text k

-- `excluded LABEL WHY`
abbrev pub excluded_text : NamesSeen → Excluded → List ℕ
excluded_text names e = codes "excluded " ++ label_text names e.rule ++ codes " " ++ exclusion_text e.why
    ++ place_text names e.sub ++ codes "\n"

abbrev pub bar_text : Bar → List ℕ
bar_text (bar.Failed k) = failed_text k
bar_text (bar.False p) = false_text p
bar_text bar.Disabled = codes "disabled"
bar_text bar.NoClient = codes "no-client"

-- `barred LABEL WHY`
abbrev pub barred_text : NamesSeen → RuleId × Bar → List ℕ
barred_text names x = codes "barred " ++ label_text names x.0 ++ codes " " ++ bar_text x.1 ++ codes "\n"

-- a number below 2^64 as 16 hexadecimal digits
abbrev pub half_text : ℕ → List ℕ
half_text n = replicate (16 - length (digits 16 false n)) 48 ++ digits 16 false n

-- a set as 32 hexadecimal digits, of which bit k stands for the property of number k
abbrev pub property_set_text : PropSet → List ℕ
property_set_text s = half_text (s / 2 ^ 64) ++ half_text (s % 2 ^ 64)

-- `row COST SET`
abbrev pub table_row_text : TableRow → List ℕ
table_row_text row = codes "row " ++ cost_text row.cost ++ codes " " ++ property_set_text row.set
    ++ codes "\n"

-- `rule LABEL WEIGHT`
abbrev pub rule_text : NamesSeen → RuleId → List ℕ
rule_text names id = codes "rule " ++ label_text names id ++ codes " " ++ weight_text_of names id
    ++ codes "\n"

abbrev pub remarks_text : Bool → Remarks → List ℕ
remarks_text trace nothing = []
remarks_text trace (told always rounds) = if trace || always then rounds_text rounds else []
remarks_text trace (planned barred rows names) =
    flat_map (barred_text names) barred ++ flat_map table_row_text rows
remarks_text trace (mixed always rounds barred (Some rows) names) =
    flat_map (barred_text names) barred ++ flat_map table_row_text rows
remarks_text trace (mixed always rounds barred None names) =
    if trace || always then rounds_text (record { rounds = rounds; names = names }) else []

-- given by a script or a file or filled in where it goes without saying, computed in an earlier run, or computed by a
-- client
abbrev pub origin_text : Origin → List ℕ
origin_text origin.Given = codes "given"
origin_text origin.Stored = codes "stored"
origin_text origin.Computed = codes "computed"

-- a name that was read over: as it stands where it is a word, and else as its JSON text, which has no LF
abbrev pub told_name : List ℕ → List ℕ
told_name name = if is_word name then name else compact_text (string name)

-- a space, and such a name
abbrev pub spaced_name : List ℕ → List ℕ
spaced_name name = codes " " ++ told_name name

-- ` ignored` and the names that were read over, where there are such
abbrev pub ignored_text : List (List ℕ) → List ℕ
ignored_text [] = []
ignored_text (name ∷ names) = codes " ignored" ++ flat_map spaced_name (name ∷ names)

-- the name of a property as it is asked of an object of the type, or of a linear program
abbrev pub name_shown : ObjectType → PropId → List ℕ
name_shown of p = if has_program p then program_name p else name_in of p

-- the word of a type, as `new` reads it
abbrev pub word_of_type : ObjectType → List ℕ
word_of_type Polytope = codes "Polytope"
word_of_type Cone = codes "Cone"
word_of_type Fan = codes "Fan"

-- `PROP ORIGIN`
abbrev pub held_line : ObjectType → PropId × Origin → List ℕ
held_line of x = name_shown of x.0 ++ codes " " ++ origin_text x.1 ++ codes "\n"

-- ` N`, and a line for each of the N properties
abbrev pub held_lines : ObjectType → List (PropId × Origin) → List ℕ
held_lines of held = codes " " ++ decimal (length held) ++ codes "\n" ++ flat_map (held_line of) held

-- `program: NAME N`, and its lines; no value line begins so, since no object's name has a colon
abbrev pub program_lines : ObjectType → List ℕ × List (PropId × Origin) → List ℕ
program_lines of p = codes "program: " ++ p.0 ++ held_lines of p.1

-- evidence whole behind its number, or the number alone that came with a file
abbrev pub evidence_shown : Why → List ℕ
evidence_shown (why.Failed evidence) = codes "E" ++ decimal (evidence_number evidence) ++ codes " "
    ++ evidence_text evidence
evidence_shown (why.False p) = false_text p
evidence_shown (why.Stored k) = codes "stored E" ++ decimal k

-- `evidence LABEL [@SUB] Ek JSON`
abbrev pub evidence_line : NamesSeen → Excluded → List ℕ
evidence_line names e = codes "evidence " ++ label_text names e.rule ++ place_text names e.sub ++ codes " "
    ++ evidence_shown e.why ++ codes "\n"

-- the reply's lines, each with its LF; rounds that found a value, or what a new object is made of, are shown where
-- they are traced
abbrev pub reply_text : Bool → ReplySeen → List ℕ
reply_text trace (done t) = codes "ok\n" ++ (if trace then rounds_text t else [])
reply_text trace (shows name of p v t) =
    name ++ codes " " ++ name_shown of p ++ codes " " ++ value_text p v ++ codes "\n"
    ++ (if trace then rounds_text t else [])
reply_text trace (ensured t) = codes "ok " ++ decimal (length t.rounds) ++ codes "\n" ++ rounds_text t
reply_text trace (explained chain weight rows names) =
    codes "plan " ++ cost_text weight ++ codes "\n" ++ flat_map (rule_text names) chain
    ++ flat_map table_row_text rows
reply_text trace (tells t excluded) = codes "rounds " ++ decimal (length t.rounds) ++ codes "\n"
    ++ rounds_text t ++ flat_map (excluded_text t.names) excluded
reply_text trace (lists_rules n text) = codes "rules " ++ decimal n ++ codes "\n" ++ text
reply_text trace (tells_origin o) = origin_text o ++ codes "\n"
reply_text trace (loaded names) = codes "ok" ++ ignored_text names ++ codes "\n"
reply_text trace (lists_held of held programs) =
    codes "object " ++ word_of_type of ++ held_lines of held ++ flat_map (program_lines of) programs
reply_text trace (tells_evidence excluded names) =
    codes "ok " ++ decimal (length excluded) ++ codes "\n" ++ flat_map (evidence_line names) excluded
reply_text trace undef = codes "undef\n"
reply_text trace (refused why more) = codes "no " ++ refusal_text why ++ codes "\n"
    ++ remarks_text trace more

-- the reply is a refusal
abbrev pub is_refusal : ReplySeen → Bool
is_refusal (refused why more) = true
is_refusal reply = false
