-- A book that is printed is a text of the grammar, and spells the book.
use Rattle.std.proofs.Common.{◌≡◌, ℕ, suc, Bool, true, false, Result, Ok, Err, Some, List, [], ◌∷◌, ◌++◌, length, map, find, refl, ap, ◌∙◌, arith, lit<, append_assoc, codes}
use Rattle.std.specs.List.{flat_map, All, AllByRecursion, AllZip}
use Rattle.std.specs.Str.{bytes_eq}
use Rattle.std.specs.Result.{IfOk}
use Rattle.pm_vector.proofs.Lists.{all_append}
use Rattle.pm_props.specs.declared.property.PropId.{PropId}
use Rattle.pm_props.specs.declared.kind.Kind.{Kind}
use Rattle.pm_props.specs.Properties.{first_name}
use Rattle.pm_props.specs.Sets.{members}
use Rattle.pm_rules.specs.declared.rule.Rule.{Rule}
use Rattle.pm_rules.specs.Words.{precondition_word}
use Rattle.pm_rules.proofs.Labels.{label_is_word}
use Rattle.pm_rules.specs.Books.{IsRule, IsBook, FirstKinds}
use Rattle.pm_rules.specs.Rules.{conditions}
use Rattle.pm_books.specs.Grammar.{behind_comma, separated, name_item, condition_item, precondition_words, words_behind_label, words_of, Means, texts, IsBookText}
use Rattle.pm_books.specs.Writing.{spaced, condition_of_rule, written_of, line_of, text_of}
use Rattle.pm_books.proofs.SpelledParts.{first_word}
use Rattle.pm_books.proofs.Spacing.{tokens_in, Stops, IsToken, line_next, list_stops, label_next, list_next, word_token}
use Rattle.pm_books.proofs.PrintedWeights.{weight_token, weight_number, weight_back}
use Rattle.pm_books.proofs.PrintedNames.{names_back, conditions_back}

-- ---- the words of a rule are tokens
colon : IsToken (codes ":")
colon = record { begins = λ rest. refl; some = lit< tt; ends = λ rest stops. refl }

comma : IsToken (codes ",")
comma = record { begins = λ rest. refl; some = lit< tt; ends = λ rest stops. refl }

semicolon : IsToken (codes ";")
semicolon = record { begins = λ rest. refl; some = lit< tt; ends = λ rest stops. refl }

opened : IsToken (codes "{")
opened = record { begins = λ rest. refl; some = lit< tt; ends = λ rest stops. refl }

closed : IsToken (codes "}")
closed = record { begins = λ rest. refl; some = lit< tt; ends = λ rest stops. refl }

negation : IsToken (codes "!")
negation = record { begins = λ rest. refl; some = lit< tt; ends = λ rest stops. refl }

name_token : (p : PropId) → IsToken (first_name p)
name_token p = word_token (first_name p) (first_word p)

more_names : (ps : List PropId) → AllByRecursion IsToken (flat_map behind_comma (map name_item (map first_name ps)))
more_names [] = tt
more_names (p ∷ ps) = (comma, (name_token p, more_names ps))

all_names : (ps : List PropId) → AllByRecursion IsToken (separated (map name_item (map first_name ps)))
all_names [] = tt
all_names (p ∷ ps) = (name_token p, more_names ps)

condition_tokens : (negated : Bool) (p : PropId) → AllByRecursion IsToken (condition_item (record { negated = negated; name = first_name p }))
condition_tokens true p = (negation, (name_token p, tt))
condition_tokens false p = (name_token p, tt)

more_conditions : (rule : Rule) (ps : List PropId) → AllByRecursion IsToken (flat_map behind_comma (map condition_item (map (condition_of_rule rule) ps)))
more_conditions rule [] = tt
more_conditions rule (p ∷ ps) = (
  comma,
  all_append IsToken (condition_item (condition_of_rule rule p)) (flat_map behind_comma (map condition_item (map (condition_of_rule rule) ps)))
      (condition_tokens (condition_of_rule rule p).negated p) (more_conditions rule ps),
)

all_conditions : (rule : Rule) (ps : List PropId) → AllByRecursion IsToken (precondition_words (map (condition_of_rule rule) ps))
all_conditions rule [] = tt
all_conditions rule (p ∷ ps) = (
  word_token precondition_word refl,
  (
    colon,
    all_append IsToken (separated (map condition_item (map (condition_of_rule rule) (p ∷ ps)))) (codes ";" ∷ [])
        (all_append IsToken (condition_item (condition_of_rule rule p)) (flat_map behind_comma (map condition_item (map (condition_of_rule rule) ps)))
        (condition_tokens (condition_of_rule rule p).negated p) (more_conditions rule ps))
        (semicolon, tt),
  ),
)

rule_tokens : (rule : Rule) → IsRule rule → AllByRecursion IsToken (words_behind_label (written_of rule))
rule_tokens rule is =
    let w = written_of rule in
    let end : List (List ℕ) = codes "{" ∷ w.client ∷ codes "}" ∷ codes "weight" ∷ w.weight ∷ codes ";" ∷ precondition_words w.conditions in (
      colon,
      (
        word_token (codes "rule") refl,
        all_append IsToken (separated (map name_item w.targets)) (codes ":" ∷ (separated (map name_item w.sources) ++ end)) (all_names (members rule.kind.targets)) (
          colon,
          all_append IsToken (separated (map name_item w.sources)) end (all_names (members rule.kind.sources))
              (opened, (word_token rule.kind.name is.client, (closed, (word_token (codes "weight") refl, (weight_token rule.weight is.weight, (semicolon, all_conditions rule (members (conditions rule)))))))),
        ),
      ),
    )

-- ---- lines
line_words : (total : ℕ) (rule : Rule) (rest : List ℕ) → IsRule rule → texts (tokens_in total (line_of rule ++ rest)) ≡ words_of (written_of rule) ++ texts (tokens_in total rest)
unfolding line_of
line_words total rule rest is =
    let words : List (List ℕ) = words_behind_label (written_of rule) in
    let stops : Stops (spaced words ++ 10 ∷ rest) = list_stops words (10 ∷ rest) refl in
    let parts : (rule.label ++ spaced words ++ 10 ∷ []) ++ rest ≡ rule.label ++ (spaced words ++ 10 ∷ rest) =
    append_assoc (rule.label ++ spaced words) (10 ∷ []) rest ∙ append_assoc rule.label (spaced words) (10 ∷ rest) in
    ap (λ s. texts (tokens_in total s)) parts
    ∙ label_next total rule.label (spaced words ++ 10 ∷ rest) (word_token rule.label (label_is_word rule.label is.label)) stops
    ∙ ap (λ ts. rule.label ∷ ts) (list_next total words (10 ∷ rest) (rule_tokens rule is) refl ∙ ap (λ ts. words ++ texts ts) (line_next total rest))

first_of_all : {X : Type 0} (P : X → Type 0) (x : X) (xs : List X) → All P (x ∷ xs) → P x
first_of_all P x xs all = all 0 x (omega arith)

rest_of_all : {X : Type 0} (P : X → Type 0) (x : X) (xs : List X) → All P (x ∷ xs) → All P xs
rest_of_all P x xs all = λ k d h. all (suc k) d (omega arith)

book_words : (total : ℕ) (rules : List Rule) → All IsRule rules → texts (tokens_in total (text_of rules)) ≡ flat_map words_of (map written_of rules)
book_words total [] all = refl
book_words total (rule ∷ rules) all = line_words total rule (text_of rules) (first_of_all IsRule rule rules all)
    ∙ ap (λ ws. words_of (written_of rule) ++ ws) (book_words total rules (rest_of_all IsRule rule rules all))

-- ---- what is printed means the rules
means_back : (kinds : List Kind) (rule : Rule) → IsRule rule → find (λ kind. bytes_eq kind.name rule.kind.name) kinds ≡ Some rule.kind → Means kinds (written_of rule) rule
means_back kinds rule is first = record {
  label = is.label;
  labelled = refl;
  targets = names_back rule.kind.targets is.targets;
  sources = names_back rule.kind.sources is.sources;
  client = is.client;
  kind = first;
  number = weight_number rule.weight is.weight;
  weight = weight_back rule.weight is.weight;
  range = is.weight;
  conditions = conditions_back rule is;
  must = is.must;
  must_not = is.must_not;
}

all_mean : (kinds : List Kind) (rules : List Rule) → All IsRule rules → FirstKinds kinds rules → AllZip (Means kinds) (map written_of rules) rules
all_mean kinds [] all firsts = tt
all_mean kinds (rule ∷ rules) all firsts = (
  means_back kinds rule (first_of_all IsRule rule rules all) (firsts 0 rule (omega arith)),
  all_mean kinds rules (rest_of_all IsRule rule rules all) (λ k d h. firsts (suc k) d (omega arith)),
)

pub printed_book : (kinds : List Kind) (rules : List Rule) → IsBook rules → FirstKinds kinds rules → IsBookText kinds (text_of rules) rules
printed_book kinds rules book firsts = record {
  written = map written_of rules;
  words = book_words (length (text_of rules)) rules book.each;
  means = all_mean kinds rules book.each firsts;
  few = book.few;
  labels = book.labels;
}

-- ---- the text that the code returned
pub if_ok_more : {X E : Type 0} (r : Result X E) (P Q : X → Type 0) → IfOk r P → ((x : X) → P x → Q x) → IfOk r Q
if_ok_more (Ok x) P Q h f = f x h
if_ok_more (Err e) P Q h f = tt
