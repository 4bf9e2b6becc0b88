-- The grammar of books, read from left to right. Each definition reads a part of the grammar from the tokens that are
-- left, where the text has `end` bytes, and gives it with the tokens behind it, or the first fault:
--     book  = { rule }
--     rule  = LABEL ":" "rule" names ":" names "{" CLIENT "}" "weight" WEIGHT ";" [ "precondition" ":" cond { ","
--     cond } ";" ] names = NAME { "," NAME } cond  = [ "!" ] NAME
-- A fault stands at the first byte of its token, at the end of the text, or just past the rule whose signature it is.
use Rattle.std.specs.Prelude.{ℕ, zero, suc, ◌+◌, ◌-◌, ◌*◌, Bool, true, false, not, ◌&&◌, ◌==◌, if◌then◌else◌, nat_eq, nat_lt, nat_le, Option, Some, None, Result, Ok, Err, List, [], ◌∷◌, ◌++◌, length, take, drop, codes, find}
use Rattle.std.specs.List.{list_any, prefix_len}
use Rattle.std.specs.Str.{bytes_eq}
use Rattle.pm_props.specs.declared.property.PropId.{PropId}
use Rattle.pm_props.specs.declared.property.ValueKind.{ValueKind}
use Rattle.pm_props.specs.declared.property.ValueKind.TheVariants as value
use Rattle.pm_props.specs.declared.set.PropSet.{PropSet}
use Rattle.pm_props.specs.declared.kind.Kind.{Kind}
use Rattle.pm_weights.specs.declared.Weight.{Weight}
use Rattle.pm_props.specs.Properties.{value_kind}
use Rattle.pm_props.specs.Sets.{has, only, union, intersection}
use Rattle.pm_props.specs.Names.{property_named}
use Rattle.pm_rules.specs.declared.rule.Rule.{Rule}
use Rattle.pm_books.specs.declared.fail.BookFail.{BookFail}
use Rattle.pm_books.specs.declared.fail.BookFail.TheVariants.{Syntax, UnknownProperty, UnknownClient, SignatureMismatch, SameLabel, WeightRange, TooManyRules}
use Rattle.pm_rules.specs.Words.{is_digit, is_word, is_label, precondition_word}
use Rattle.pm_books.specs.Tokens.{Token, tokens_of}
use Rattle.pm_limits.specs.Limits.{most_rules, most_weight}

-- the second reads on where the first has read
infixl 10 ◌>>=◌
abbrev pub ◌>>=◌ : {A B : Type 0} → Result A BookFail → (A → Result B BookFail) → Result B BookFail
(Ok x) >>= f = f x
(Err e) >>= f = Err e

-- a token that passes a test
unfoldable pub token_where : (List ℕ → Bool) → ℕ → List Token → Result (Token × List Token) BookFail
token_where test end [] = Err (Syntax end)
token_where test end (t ∷ ts) = if test t.text then Ok (t, ts) else Err (Syntax t.place)

-- what comes behind a token with this text
unfoldable pub after : List ℕ → ℕ → List Token → Result (List Token) BookFail
after text end ts = token_where (λ word. bytes_eq word text) end ts >>= λ found. Ok found.1

-- ---- names
-- a property that is not in the set
abbrev pub new_name : ℕ → PropSet → Option PropId → Result PropId BookFail
new_name place set None = Err (UnknownProperty place)
new_name place set (Some p) = if has set p then Err (Syntax place) else Ok p

unfoldable pub name_of : PropSet → Token → Result PropId BookFail
name_of set t = if is_word t.text then new_name t.place set (property_named t.text) else Err (Syntax t.place)

abbrev pub is_comma : Token → Bool
is_comma t = bytes_eq t.text (codes ",")

-- names that are not in the set, added to it; with true a name is due, and else a comma may follow
unfoldable pub names_from : Bool → PropSet → ℕ → List Token → Result (PropSet × List Token) BookFail
names_from true set end [] = Err (Syntax end)
names_from true set end (t ∷ ts) = name_of set t >>= λ p. names_from false (union set (only p)) end ts
names_from false set end [] = Ok (set, [])
names_from false set end (t ∷ ts) = if is_comma t then names_from true set end ts else Ok (set, t ∷ ts)

-- ---- preconditions
-- the values of these properties are true and false
abbrev pub is_truth : ValueKind → Bool
is_truth value.Bool = true
is_truth value.Mat = false
is_truth value.Sets = false
is_truth value.Int = false
is_truth value.Number = false
is_truth value.Edges = false
is_truth value.Lattice = false
is_truth value.Counts = false

-- what must be true, and what must be false
pub record Conditions : Type 0 where
  pub must : PropSet
  pub must_not : PropSet

abbrev pub with_condition : Conditions → Bool → PropId → Conditions
with_condition found true p = record { must = found.must; must_not = union found.must_not (only p) }
with_condition found false p = record { must = union found.must (only p); must_not = found.must_not }

unfoldable pub condition_of : Conditions → Token → Result PropId BookFail
condition_of found t = name_of (union found.must found.must_not) t >>= λ p.
    if is_truth (value_kind p) then Ok p else Err (Syntax t.place)

-- what may come next: a condition, the name behind `!`, or a comma
pub data Due : Type 0 where
  condition : Due
  name : Due
  comma : Due

abbrev pub is_not : Token → Bool
is_not t = bytes_eq t.text (codes "!")

unfoldable pub conditions_from : Due → Conditions → ℕ → List Token
    → Result (Conditions × List Token) BookFail
conditions_from condition found end [] = Err (Syntax end)
conditions_from condition found end (t ∷ ts) =
    if is_not t then conditions_from name found end ts
    else (condition_of found t >>= λ p. conditions_from comma (with_condition found false p) end ts)
conditions_from name found end [] = Err (Syntax end)
conditions_from name found end (t ∷ ts) = condition_of found t >>= λ p.
    conditions_from comma (with_condition found true p) end ts
conditions_from comma found end [] = Ok (found, [])
conditions_from comma found end (t ∷ ts) = if is_comma t then conditions_from condition found end ts
    else Ok (found, t ∷ ts)

-- ---- labels, clients and weights
unfoldable pub label_from : List Rule → ℕ → List Token → Result (List ℕ × List Token) BookFail
label_from had end ts = token_where is_label end ts >>= λ found.
    if list_any (λ rule. bytes_eq rule.label found.0.text) had then Err (SameLabel found.0.place)
    else (if nat_lt (length had) most_rules then Ok (found.0.text, found.1)
    else Err (TooManyRules found.0.place))

-- the first kind of the client's name
abbrev pub known_kind : ℕ → Option Kind → Result Kind BookFail
known_kind place None = Err (UnknownClient place)
known_kind place (Some kind) = Ok kind

unfoldable pub kind_from : List Kind → ℕ → List Token → Result (Kind × List Token) BookFail
kind_from kinds end ts = token_where is_word end ts >>= λ found.
    known_kind found.0.place (find (λ kind. bytes_eq kind.name found.0.text) kinds) >>= λ kind.
    Ok (kind, found.1)

-- the number that digits spell behind those of n
abbrev pub number_on : ℕ → List ℕ → ℕ
number_on n [] = n
number_on n (b ∷ bs) = number_on (10 * n + (b - 48)) bs

-- the minor alone, or the class, a point and the minor
abbrev pub weight_of : List ℕ → Weight
weight_of text =
    let whole = prefix_len is_digit text in
    if length text == whole then record { class = 0; minor = number_on 0 text }
    else record { class = number_on 0 (take whole text); minor = number_on 0 (drop (whole + 1) text) }

abbrev pub is_weight : Weight → Bool
is_weight w = nat_le w.class most_weight && (nat_le w.minor most_weight && nat_lt 0 (w.class + w.minor))

-- what begins with a digit is a number
abbrev pub is_number : List ℕ → Bool
is_number [] = false
is_number (b ∷ bs) = is_digit b

unfoldable pub weight_from : ℕ → List Token → Result (Weight × List Token) BookFail
weight_from end ts = token_where is_number end ts >>= λ found.
    if is_weight (weight_of found.0.text) then Ok (weight_of found.0.text, found.1)
    else Err (WeightRange found.0.place)

-- ---- rules
-- `LABEL : rule names : names`
pub record Head : Type 0 where
  pub label : List ℕ
  pub targets : PropSet
  pub sources : PropSet
  pub rest : List Token

unfoldable pub head_from : List Rule → ℕ → List Token → Result Head BookFail
head_from had end ts = do
  label ← label_from had end ts
  begun ← after (codes ":") end label.1
  named ← after (codes "rule") end begun
  targets ← names_from true 0 end named
  parted ← after (codes ":") end targets.1
  sources ← names_from true 0 end parted
  Ok (record { label = label.0; targets = targets.0; sources = sources.0; rest = sources.1 })

-- `{ CLIENT } weight WEIGHT`
pub record Body : Type 0 where
  pub kind : Kind
  pub weight : Weight
  pub rest : List Token

unfoldable pub body_from : List Kind → ℕ → List Token → Result Body BookFail
body_from kinds end ts = do
  opened ← after (codes "{") end ts
  kind ← kind_from kinds end opened
  closed ← after (codes "}") end kind.1
  weighed ← after (codes "weight") end closed
  weight ← weight_from end weighed
  Ok (record { kind = kind.0; weight = weight.0; rest = weight.1 })

-- `;` and what may follow it to the rule's last `;`; past is the place behind that
pub record Tail : Type 0 where
  pub conditions : Conditions
  pub past : ℕ
  pub rest : List Token

abbrev pub no_conditions : Conditions
no_conditions = record { must = 0; must_not = 0 }

unfoldable pub close_from : ℕ → List Token → Result (ℕ × List Token) BookFail
close_from end ts = token_where (λ word. bytes_eq word (codes ";")) end ts >>= λ found.
    Ok (found.0.place + 1, found.1)

abbrev pub begins_with : List ℕ → List Token → Bool
begins_with text [] = false
begins_with text (t ∷ ts) = bytes_eq t.text text

unfoldable pub preconditions_from : ℕ → List Token → Result Tail BookFail
preconditions_from end ts = do
  begun ← after precondition_word end ts
  listed ← after (codes ":") end begun
  found ← conditions_from condition no_conditions end listed
  closed ← close_from end found.1
  Ok (record { conditions = found.0; past = closed.0; rest = closed.1 })

unfoldable pub tail_from : ℕ → List Token → Result Tail BookFail
tail_from end ts = close_from end ts >>= λ closed.
    if begins_with precondition_word closed.1 then preconditions_from end closed.1
    else Ok (record { conditions = no_conditions; past = closed.0; rest = closed.1 })

-- the rule's targets and sources are those of its kind, and it has the kind's preconditions
abbrev pub is_within : PropSet → PropSet → Bool
is_within s t = nat_eq (intersection s t) s

abbrev pub agrees : Kind → Head → Conditions → Bool
agrees kind head found =
    nat_eq head.targets kind.targets
    && (nat_eq head.sources kind.sources &&
    (is_within kind.must found.must && is_within kind.must_not found.must_not))

-- the fault behind a rule that does not agree with its kind: at the same place a token that can begin no rule comes
-- first
abbrev pub mismatch : ℕ → List Token → BookFail
mismatch past [] = SignatureMismatch past
mismatch past (t ∷ ts) = if t.place == past && not (is_label t.text) then Syntax past
    else SignatureMismatch past

abbrev pub made_rule : Head → Body → Tail → Rule
made_rule head body tail = record {
  label = head.label;
  kind = body.kind;
  weight = body.weight;
  must = tail.conditions.must;
  must_not = tail.conditions.must_not;
}

unfoldable pub rule_from : List Kind → List Rule → ℕ → List Token → Result (Rule × List Token) BookFail
rule_from kinds had end ts = do
  head ← head_from had end ts
  body ← body_from kinds end head.rest
  tail ← tail_from end body.rest
  if agrees body.kind head tail.conditions then Ok (made_rule head body tail, tail.rest)
      else Err (mismatch tail.past tail.rest)

-- the rules had, and those that are left, of which there are at most n
unfoldable pub rules_from : ℕ → List Kind → List Rule → ℕ → List Token → Result (List Rule) BookFail
rules_from n kinds had end [] = Ok had
rules_from zero kinds had end (t ∷ ts) = Err (TooManyRules t.place)
rules_from (suc n) kinds had end (t ∷ ts) = rule_from kinds had end (t ∷ ts) >>= λ found.
    rules_from n kinds (had ++ found.0 ∷ []) end found.1

-- the book that a text spells, or its first fault. Behind 256 rules any further one is at fault
unfoldable pub book_of : List Kind → List ℕ → Result (List Rule) BookFail
book_of kinds text = rules_from (most_rules + 1) kinds [] (length text) (tokens_of text)
