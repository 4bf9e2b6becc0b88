-- Which faults the text of a book has, and which is the first. A fault stands at a byte: the first of a word, the end
-- of the text, or the one behind the `;` that ends a rule.
use Rattle.std.specs.Prelude.{◌≡◌, ◌≢◌, ℕ, ◌+◌, ◌<◌, ◌≤◌, ◌⊎◌, ⊤, All, Any, IsTrue, None, Some, List, [], ◌∷◌, ◌++◌, codes, find, flat_map, length, map}
use Rattle.std.specs.List.{list_all}
use Rattle.std.specs.Str.{bytes_eq}
use Rattle.pm_books.specs.Grammar.{AddConditions, AreNames, Condition, Written, condition_item, name_item, separated, texts, words_of}
use Rattle.pm_books.specs.Reading.{Conditions, is_number, no_conditions, weight_of}
use Rattle.pm_books.specs.Tokens.{Token, tokens_of}
use Rattle.pm_books.specs.declared.fail.BookFail.{BookFail}
use Rattle.pm_books.specs.declared.fail.BookFail.TheVariants.{Memory, SameLabel, SignatureMismatch, Syntax, TooManyRules, UnknownClient, UnknownProperty, WeightRange}
use Rattle.pm_limits.specs.Limits.{most_rules}
use Rattle.pm_props.specs.Names.{IsNameOf}
use Rattle.pm_props.specs.Properties.{value_kind}
use Rattle.pm_props.specs.Sets.{IsWithin}
use Rattle.pm_props.specs.declared.kind.Kind.{Kind}
use Rattle.pm_props.specs.declared.property.PropId.{PropId}
use Rattle.pm_props.specs.declared.property.ValueKind.TheVariants as value
use Rattle.pm_props.specs.declared.set.PropSet.{PropSet}
use Rattle.pm_rules.specs.Words.{is_label, is_word, precondition_word}
use Rattle.pm_weights.specs.Weights.{IsWeight}

-- ---- which words can stand where
-- one word or more
abbrev pub AreWords : List (List ℕ) → Type 0
AreWords names = (0 < length names) × IsTrue (list_all is_word names)

-- a rule as it is written, whatever its words name
pub record HasForm (w : Written) : Type 0 where
  pub label : IsTrue (is_label w.label)
  pub targets : AreWords w.targets
  pub sources : AreWords w.sources
  pub client : IsTrue (is_word w.client)
  pub weight : IsTrue (is_number w.weight)
  pub conditions : IsTrue (list_all (λ c. is_word c.name) w.conditions)

-- these are the words of such rules
pub record AreRules (rules : List Written) (all : List (List ℕ)) : Type 0 where
  pub form : All HasForm rules
  pub words : all ≡ flat_map words_of rules

-- these are the first words of some rules
abbrev pub Begin : List (List ℕ) → Type 0
Begin words = (rules : List Written) × (more : List (List ℕ)) × AreRules rules (words ++ more)

-- ---- which words mean something
-- the words that mean something: a label, the name of a target, that of a source, a client, a weight, the name of a
-- condition, and that of one behind `!`
pub data Spot : Type 0 where
  label : Spot
  target : Spot
  source : Spot
  client : Spot
  weight : Spot
  condition : Spot
  negated : Spot

-- items with a comma behind each
abbrev pub followed : List (List (List ℕ)) → List (List ℕ)
followed items = flat_map (λ item. item ++ codes "," ∷ []) items

-- the words of a rule up to its sources, up to its client and up to its conditions, and others
abbrev pub to_sources : Written → List (List ℕ) → List (List ℕ)
to_sources w more =
    w.label ∷ codes ":" ∷ codes "rule" ∷ (separated (map name_item w.targets) ++ codes ":" ∷ more)

abbrev pub to_client : Written → List (List ℕ) → List (List ℕ)
to_client w more = to_sources w (separated (map name_item w.sources) ++ codes "{" ∷ more)

abbrev pub to_conditions : Written → List (List ℕ) → List (List ℕ)
to_conditions w more =
    to_client w (w.client ∷ codes "}" ∷ codes "weight" ∷ w.weight ∷ codes ";"
    ∷ precondition_word ∷ codes ":" ∷ more)

-- the words before the spot in a rule that is begun: of a list those that it has so far
abbrev pub words_before : Spot → Written → List (List ℕ)
words_before label w = []
words_before target w = w.label ∷ codes ":" ∷ codes "rule" ∷ followed (map name_item w.targets)
words_before source w = to_sources w (followed (map name_item w.sources))
words_before client w = to_client w []
words_before weight w = to_client w (w.client ∷ codes "}" ∷ codes "weight" ∷ [])
words_before condition w = to_conditions w (followed (map condition_item w.conditions))
words_before negated w = to_conditions w (followed (map condition_item w.conditions) ++ codes "!" ∷ [])

-- and they can stand there
abbrev pub IsBegun : Spot → Written → Type 0
IsBegun label w = ⊤
IsBegun target w = IsTrue (is_label w.label) × IsTrue (list_all is_word w.targets)
IsBegun source w = IsTrue (is_label w.label) × AreWords w.targets × IsTrue (list_all is_word w.sources)
IsBegun client w = IsTrue (is_label w.label) × AreWords w.targets × AreWords w.sources
IsBegun weight w = IsTrue (is_label w.label) × AreWords w.targets × AreWords w.sources
    × IsTrue (is_word w.client)
IsBegun condition w = HasForm w
IsBegun negated w = HasForm w

-- behind whole rules and the begun one this spot comes next
pub record IsAt (spot : Spot) (had : List Written) (w : Written) (before : List (List ℕ)) : Type 0 where
  pub form : All HasForm had
  pub begun : IsBegun spot w
  pub words : before ≡ flat_map words_of had ++ words_before spot w

-- the word at place k names no property, or one that a name before it in the list names
abbrev pub OfName : List (List ℕ) → List ℕ → ℕ → BookFail → Type 0
OfName names word k f = IsTrue (is_word word)
    × (((f ≡ UnknownProperty k) × ((p : PropId) → ¬ (IsNameOf word p)))
    ⊎ ((f ≡ Syntax k) × ((p : PropId) × IsNameOf word p × Any (λ name. IsNameOf name p) names)))

-- the same of the name of a condition, which may also name a property that is not true or false
abbrev pub OfCondition : List Condition → List ℕ → ℕ → BookFail → Type 0
OfCondition conditions word k f = OfName (map (λ c. c.name) conditions) word k f
    ⊎ (IsTrue (is_word word) × (f ≡ Syntax k)
    × ((p : PropId) × IsNameOf word p × (value_kind p ≢ value.Bool)))

-- a rule before has the label, or 256 rules come before
abbrev pub OfLabel : List Written → List ℕ → ℕ → BookFail → Type 0
OfLabel had word k f = IsTrue (is_label word)
    × (((f ≡ SameLabel k) × Any (λ w. w.label ≡ word) had)
    ⊎ ((f ≡ TooManyRules k) × (most_rules ≤ length had)))

abbrev pub OfWord : List Kind → Spot → List Written → Written → List ℕ → ℕ → BookFail → Type 0
OfWord kinds label had w word k f = OfLabel had word k f
OfWord kinds target had w word k f = OfName w.targets word k f
OfWord kinds source had w word k f = OfName w.sources word k f
OfWord kinds client had w word k f = IsTrue (is_word word) × (f ≡ UnknownClient k)
    × (find (λ kind. bytes_eq kind.name word) kinds ≡ None)
OfWord kinds weight had w word k f = IsTrue (is_number word) × (f ≡ WeightRange k)
    × ¬ (IsWeight (weight_of word))
OfWord kinds condition had w word k f = OfCondition w.conditions word k f
OfWord kinds negated had w word k f = OfCondition w.conditions word k f

-- ---- which rules agree with their kinds
-- the words behind a whole rule are none of it
abbrev pub IsEnd : Written → List (List ℕ) → Type 0
IsEnd w [] = ⊤
IsEnd w (word ∷ after) = w.conditions ≡ [] → word ≢ precondition_word

-- each name means a property, and the first kind of the client's name has other targets or sources, or a precondition
-- that is not there
pub record Differs (kinds : List Kind) (w : Written) : Type 0 where
  pub kind : Kind
  pub targets : PropSet
  pub sources : PropSet
  pub conditions : Conditions
  pub is_kind : find (λ k. bytes_eq k.name w.client) kinds ≡ Some kind
  pub are_targets : AreNames w.targets targets
  pub are_sources : AreNames w.sources sources
  pub are_conditions : AddConditions w.conditions no_conditions conditions
  pub other : ¬ ((targets ≡ kind.targets) × (sources ≡ kind.sources)
      × IsWithin kind.must conditions.must × IsWithin kind.must_not conditions.must_not)

-- ---- faults
-- a word with which the words before begin no rules; the end of words that are no rules; a word that does not mean
-- what
-- it should; a rule that does not agree with its kind
pub data HasFault (kinds : List Kind) (text : List ℕ) : BookFail → Type 0 where
  no_such_word : (before : List Token) (t : Token) (after : List Token)
      → tokens_of text ≡ before ++ t ∷ after
      → Begin (texts before) → ¬ (Begin (texts before ++ t.text ∷ [])) → HasFault kinds text (Syntax t.place)
  ends_too_soon : Begin (texts (tokens_of text))
      → ((rules : List Written) → ¬ (AreRules rules (texts (tokens_of text))))
      → HasFault kinds text (Syntax (length text))
  of_word : (before : List Token) (t : Token) (after : List Token) (spot : Spot) (had : List Written)
      (w : Written) (f : BookFail) → tokens_of text ≡ before ++ t ∷ after → IsAt spot had w (texts before)
      → OfWord kinds spot had w t.text t.place f → HasFault kinds text f
  of_rule : (before : List Token) (last : Token) (after : List Token) (had : List Written) (w : Written)
      → tokens_of text ≡ before ++ last ∷ after → AreRules (had ++ w ∷ []) (texts (before ++ last ∷ []))
      → IsEnd w (texts after) → Differs kinds w → HasFault kinds text (SignatureMismatch (last.place + 1))

-- ---- the first
abbrev pub place : BookFail → ℕ
place (Syntax k) = k
place (UnknownProperty k) = k
place (UnknownClient k) = k
place (SignatureMismatch k) = k
place (SameLabel k) = k
place (WeightRange k) = k
place (TooManyRules k) = k
place Memory = 0

-- the order of the faults at one place; want of memory is none of a text
abbrev pub order : BookFail → ℕ
order (Syntax k) = 0
order (UnknownProperty k) = 1
order (UnknownClient k) = 2
order (SignatureMismatch k) = 3
order (SameLabel k) = 4
order (WeightRange k) = 5
order (TooManyRules k) = 6
order Memory = 7

-- f counts before g, or is the same
abbrev pub CountsFirst : BookFail → BookFail → Type 0
CountsFirst f g = (place f < place g) ⊎ ((place f ≡ place g) × (order f ≤ order g))

-- the fault of least place, and there the first
pub record IsFirstFault (kinds : List Kind) (text : List ℕ) (f : BookFail) : Type 0 where
  pub stands : HasFault kinds text f
  pub first : (g : BookFail) → HasFault kinds text g → CountsFirst f g
