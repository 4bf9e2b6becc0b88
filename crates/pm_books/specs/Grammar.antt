-- The grammar of books on words, the texts of their tokens.
use Rattle.std.specs.Prelude.{◌≡◌, ◌≢◌, ℕ, ◌<◌, ◌≤◌, Bool, false, IsTrue, if◌then◌else◌, Some, List, [], ◌∷◌, ◌++◌, length, map, find, AllPairs, codes}
use Rattle.std.specs.List.{flat_map, AllZip}
use Rattle.std.specs.Str.{bytes_eq}
use Rattle.pm_props.specs.declared.property.PropId.{PropId}
use Rattle.pm_props.specs.declared.property.ValueKind.TheVariants as value
use Rattle.pm_props.specs.declared.set.PropSet.{PropSet}
use Rattle.pm_props.specs.declared.kind.Kind.{Kind}
use Rattle.pm_props.specs.Properties.{value_kind}
use Rattle.pm_props.specs.Sets.{has, only, union, IsWithin}
use Rattle.pm_props.specs.Names.{IsNameOf}
use Rattle.pm_weights.specs.Weights.{IsWeight}
use Rattle.pm_rules.specs.declared.rule.Rule.{Rule}
use Rattle.pm_rules.specs.Words.{is_word, is_label, precondition_word}
use Rattle.pm_books.specs.Tokens.{Token, tokens_of}
use Rattle.pm_books.specs.Reading.{is_number, weight_of, Conditions, with_condition, no_conditions}
use Rattle.pm_limits.specs.Limits.{most_rules}

-- a condition as it is written: a name, behind `!` or not
pub record Condition : Type 0 where
  pub negated : Bool
  pub name : List ℕ

-- a rule as it is written: names, numbers and conditions as they stand there
pub record Written : Type 0 where
  pub label : List ℕ
  pub targets : List (List ℕ)
  pub sources : List (List ℕ)
  pub client : List ℕ
  pub weight : List ℕ
  pub conditions : List Condition

-- items with commas between them
abbrev pub behind_comma : List (List ℕ) → List (List ℕ)
behind_comma item = codes "," ∷ item

abbrev pub separated : List (List (List ℕ)) → List (List ℕ)
separated [] = []
separated (item ∷ items) = item ++ flat_map behind_comma items

abbrev pub name_item : List ℕ → List (List ℕ)
name_item name = name ∷ []

abbrev pub condition_item : Condition → List (List ℕ)
condition_item c = if c.negated then codes "!" ∷ c.name ∷ [] else c.name ∷ []

abbrev pub precondition_words : List Condition → List (List ℕ)
precondition_words [] = []
precondition_words (c ∷ cs) = precondition_word ∷ codes ":"
    ∷ (separated (map condition_item (c ∷ cs)) ++ codes ";" ∷ [])

-- `LABEL : rule names : names { CLIENT } weight WEIGHT ;` and the preconditions, if there are any
abbrev pub words_behind_label : Written → List (List ℕ)
words_behind_label w =
    codes ":" ∷ codes "rule" ∷ (separated (map name_item w.targets)
    ++ codes ":" ∷ (separated (map name_item w.sources)
    ++ codes "{" ∷ w.client ∷ codes "}" ∷ codes "weight" ∷ w.weight ∷ codes ";"
    ∷ precondition_words w.conditions))

-- the words of a rule
abbrev pub words_of : Written → List (List ℕ)
words_of w = w.label ∷ words_behind_label w

-- each name is that of a property that is not in the set before it, and with all of them the set is the last
abbrev pub AddNames : List (List ℕ) → PropSet → PropSet → Type 0
AddNames [] set last = set ≡ last
AddNames (name ∷ names) set last = (p : PropId) × IsNameOf name p × (has set p ≡ false)
    × AddNames names (union set (only p)) last

-- one name or more, and the set of their properties
abbrev pub AreNames : List (List ℕ) → PropSet → Type 0
AreNames names set = (0 < length names) × AddNames names 0 set

-- each condition is on a property that is true or false and in no set before it; it adds it to one of the sets
abbrev pub AddConditions : List Condition → Conditions → Conditions → Type 0
AddConditions [] found last = found ≡ last
AddConditions (c ∷ cs) found last = (p : PropId) × IsNameOf c.name p × (value_kind p ≡ value.Bool)
    × (has (union found.must found.must_not) p ≡ false)
    × AddConditions cs (with_condition found c.negated p) last

-- what is written is this rule, with the first kind of its client's name
pub record Means (kinds : List Kind) (w : Written) (rule : Rule) : Type 0 where
  pub label : IsTrue (is_label w.label)
  pub labelled : rule.label ≡ w.label
  pub targets : AreNames w.targets rule.kind.targets
  pub sources : AreNames w.sources rule.kind.sources
  pub client : IsTrue (is_word w.client)
  pub kind : find (λ kind. bytes_eq kind.name w.client) kinds ≡ Some rule.kind
  pub number : IsTrue (is_number w.weight)
  pub weight : weight_of w.weight ≡ rule.weight
  pub range : IsWeight rule.weight
  pub conditions : AddConditions w.conditions no_conditions
      (record { must = rule.must; must_not = rule.must_not })
  -- the kind's preconditions are there
  pub must : IsWithin rule.kind.must rule.must
  pub must_not : IsWithin rule.kind.must_not rule.must_not

abbrev pub texts : List Token → List (List ℕ)
texts ts = map (λ t. t.text) ts

-- the text's tokens are the words of rules that mean these, no label comes twice, and they are at most 256
pub record IsBookText (kinds : List Kind) (text : List ℕ) (rules : List Rule) : Type 0 where
  pub written : List Written
  pub words : texts (tokens_of text) ≡ flat_map words_of written
  pub means : AllZip (Means kinds) written rules
  pub few : length rules ≤ most_rules
  pub labels : AllPairs (λ a b. a.label ≢ b.label) rules
