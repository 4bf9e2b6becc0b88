-- What is spelled by the grammar is read: rules and books.
use Rattle.std.proofs.Common.{◌≡◌, ℕ, ◌+◌, ◌<◌, true, false, ◌&&◌, eqb, leb, ltb, IsTrue, Some, Ok, List, [], ◌∷◌, ◌++◌, length, map, find, refl, sym, ap, ◌∙◌, subst, append_assoc, codes}
use Rattle.std.specs.List.{list_any}
use Rattle.std.specs.Str.{bytes_eq}
use Rattle.std.proofs.lemmas.Bool.{and_from, eq-eqb, le-leb, lt-ltb}
use Rattle.pm_props.specs.declared.set.PropSet.{PropSet}
use Rattle.pm_props.specs.declared.kind.Kind.{Kind}
use Rattle.pm_weights.specs.declared.Weight.{Weight}
use Rattle.pm_props.specs.Sets.{intersection, IsWithin}
use Rattle.pm_weights.specs.Weights.{IsWeight}
use Rattle.pm_rules.specs.declared.rule.Rule.{Rule}
use Rattle.pm_rules.specs.Words.{is_word, is_label, precondition_word}
use Rattle.pm_books.specs.Tokens.{Token}
use Rattle.pm_books.specs.Reading.{Conditions, label_from, kind_from, weight_of, is_weight, is_number, weight_from, Head, head_from, body_from, no_conditions, close_from, begins_with, preconditions_from, tail_from, is_within, agrees, rule_from}
use Rattle.pm_books.specs.Grammar.{Condition, Written, separated, name_item, condition_item, precondition_words, words_of, AreNames, AddConditions, Means, texts}
use Rattle.pm_books.proofs.SpelledParts.{ReadsAs, NoCommaNext, head_same, token_where_reads, after_reads, names_read, conditions_read}
use Rattle.pm_limits.specs.Limits.{most_rules, most_weight}

-- ---- labels, clients and weights
label_reads : (had : List Rule) (end : ℕ) (ts : List Token) (label : List ℕ) (words : List (List ℕ)) → texts ts ≡ label ∷ words → IsTrue (is_label label)
    → list_any (λ rule. bytes_eq rule.label label) had ≡ false → length had < most_rules → ReadsAs (label_from had end ts) label words
unfolding label_from
label_reads had end ts label words e good new room =
    let t = token_where_reads is_label end ts label words e good in
    let new' : list_any (λ rule. bytes_eq rule.label t.0.text) had ≡ false = subst (λ w. list_any (λ rule. bytes_eq rule.label w) had ≡ false) (sym t.1) new in
    let room' : ltb (length had) most_rules ≡ true = lt-ltb (length had) most_rules room in
    (t.2.0, (rw (t.2.1, new', room') (ap (λ w. Ok (w, t.2.0)) t.1)), t.2.2)

kind_reads : (kinds : List Kind) (end : ℕ) (ts : List Token) (client : List ℕ) (kind : Kind) (words : List (List ℕ)) → texts ts ≡ client ∷ words → IsTrue (is_word client)
    → find (λ k. bytes_eq k.name client) kinds ≡ Some kind → ReadsAs (kind_from kinds end ts) kind words
unfolding kind_from
kind_reads kinds end ts client kind words e good found =
    let t = token_where_reads is_word end ts client words e good in
    let found' : find (λ k. bytes_eq k.name t.0.text) kinds ≡ Some kind = subst (λ w. find (λ k. bytes_eq k.name w) kinds ≡ Some kind) (sym t.1) found in
    (t.2.0, (rw (t.2.1, found') refl), t.2.2)

weight_test : (w : Weight) → IsWeight w → is_weight w ≡ true
weight_test w h =
    and_from (leb w.class most_weight) (leb w.minor most_weight && ltb 0 (w.class + w.minor)) (le-leb w.class most_weight h.class)
    (and_from (leb w.minor most_weight) (ltb 0 (w.class + w.minor)) (le-leb w.minor most_weight h.minor) (lt-ltb 0 (w.class + w.minor) h.some))

weight_reads : (end : ℕ) (ts : List Token) (text : List ℕ) (weight : Weight) (words : List (List ℕ)) → texts ts ≡ text ∷ words → IsTrue (is_number text) → weight_of text ≡ weight → IsWeight weight
    → ReadsAs (weight_from end ts) weight words
unfolding weight_from
weight_reads end ts text weight words e good is range =
    let t = token_where_reads is_number end ts text words e good in
    let is' : weight_of t.0.text ≡ weight = ap weight_of t.1 ∙ is in
    let range' : is_weight (weight_of t.0.text) ≡ true = ap is_weight is' ∙ weight_test weight range in
    (t.2.0, (rw (t.2.1, range') (ap (λ w. Ok (w, t.2.0)) is')), t.2.2)

close_reads : (end : ℕ) (ts : List Token) (words : List (List ℕ)) → texts ts ≡ codes ";" ∷ words → (past : ℕ) × ReadsAs (close_from end ts) past words
unfolding close_from
close_reads end ts words e =
    let t = token_where_reads (λ w. bytes_eq w (codes ";")) end ts (codes ";") words e refl in
    (t.0.place + 1, (t.2.0, (rw t.2.1 refl), t.2.2))

-- ---- parts of a rule
head_reads : (had : List Rule) (end : ℕ) (ts : List Token) (label : List ℕ) (targets sources : List (List ℕ)) (found wanted : PropSet) (words : List (List ℕ))
    → texts ts ≡ label ∷ codes ":" ∷ codes "rule" ∷ (separated (map name_item targets) ++ codes ":" ∷ (separated (map name_item sources) ++ words))
    → IsTrue (is_label label) → list_any (λ rule. bytes_eq rule.label label) had ≡ false → length had < most_rules → AreNames targets found → AreNames sources wanted → NoCommaNext words
    → (rest : List Token) × (head_from had end ts ≡ Ok (record { label = label; targets = found; sources = wanted; rest = rest })) × (texts rest ≡ words)
unfolding head_from
head_reads had end ts label targets sources found wanted words e good new room are_targets are_sources none =
    let behind : List (List ℕ) = separated (map name_item sources) ++ words in
    let named : List (List ℕ) = separated (map name_item targets) ++ codes ":" ∷ behind in
    let first = label_reads had end ts label (codes ":" ∷ codes "rule" ∷ named) e good new room in
    let begun = after_reads (codes ":") end first.0 (codes "rule" ∷ named) first.2 in
    let ruled = after_reads (codes "rule") end begun.0 named begun.2 in
    let found_read = names_read targets found end ruled.0 (codes ":" ∷ behind) are_targets ruled.2 refl in
    let parted = after_reads (codes ":") end found_read.0 behind found_read.2 in
    let wanted_read = names_read sources wanted end parted.0 words are_sources parted.2 none in
    (wanted_read.0, (rw (first.1, begun.1, ruled.1, found_read.1, parted.1, wanted_read.1) refl), wanted_read.2)

body_reads : (kinds : List Kind) (end : ℕ) (ts : List Token) (client text : List ℕ) (kind : Kind) (weight : Weight) (words : List (List ℕ))
    → texts ts ≡ codes "{" ∷ client ∷ codes "}" ∷ codes "weight" ∷ text ∷ words → IsTrue (is_word client) → find (λ k. bytes_eq k.name client) kinds ≡ Some kind
    → IsTrue (is_number text) → weight_of text ≡ weight → IsWeight weight
    → (rest : List Token) × (body_from kinds end ts ≡ Ok (record { kind = kind; weight = weight; rest = rest })) × (texts rest ≡ words)
unfolding body_from
body_reads kinds end ts client text kind weight words e good found number is range =
    let opened = after_reads (codes "{") end ts (client ∷ codes "}" ∷ codes "weight" ∷ text ∷ words) e in
    let known = kind_reads kinds end opened.0 client kind (codes "}" ∷ codes "weight" ∷ text ∷ words) opened.2 good found in
    let closed = after_reads (codes "}") end known.0 (codes "weight" ∷ text ∷ words) known.2 in
    let weighed = after_reads (codes "weight") end closed.0 (text ∷ words) closed.2 in
    let last = weight_reads end weighed.0 text weight words weighed.2 number is range in
    (last.0, (rw (opened.1, known.1, closed.1, weighed.1, last.1) refl), last.2)

-- no preconditions come next
abbrev pub NoPreconditionNext : List (List ℕ) → Type 0
NoPreconditionNext [] = Unit {0}
NoPreconditionNext (word ∷ words) = bytes_eq word precondition_word ≡ false

begins_with_text : (text : List ℕ) (ts : List Token) (word : List ℕ) (words : List (List ℕ)) → texts ts ≡ word ∷ words → begins_with text ts ≡ bytes_eq word text
begins_with_text text [] word words e = cc
begins_with_text text (t ∷ ts) word words e = ap (λ w. bytes_eq w text) (head_same t.text word (texts ts) words e)

no_precondition : (ts : List Token) (words : List (List ℕ)) → texts ts ≡ words → NoPreconditionNext words → begins_with precondition_word ts ≡ false
no_precondition [] words e none = refl
no_precondition (t ∷ ts) [] e none = cc
no_precondition (t ∷ ts) (word ∷ words) e none = begins_with_text precondition_word (t ∷ ts) word words e ∙ none

-- the rest of a rule, with these conditions
abbrev HasTail : ℕ → List Token → Conditions → List (List ℕ) → Type 0
HasTail end ts conditions words = (past : ℕ) × (rest : List Token) × (tail_from end ts ≡ Ok (record { conditions = conditions; past = past; rest = rest })) × (texts rest ≡ words)

tail_reads : (end : ℕ) (ts : List Token) (cs : List Condition) (last : Conditions) (words : List (List ℕ)) → texts ts ≡ codes ";" ∷ (precondition_words cs ++ words)
    → AddConditions cs no_conditions last → NoPreconditionNext words → HasTail end ts last words
unfolding tail_from preconditions_from
tail_reads end ts [] last words e added none =
    let closed = close_reads end ts words e in
    let plain = no_precondition closed.1.0 words closed.1.2 none in
    (closed.0, closed.1.0, (rw (closed.1.1, plain) (ap (λ c. Ok (record { conditions = c; past = closed.0; rest = closed.1.0 })) added)), closed.1.2)
tail_reads end ts (c ∷ cs) last words e added none =
    let items : List (List ℕ) = separated (map condition_item (c ∷ cs)) in
    let e' : texts ts ≡ codes ";" ∷ precondition_word ∷ codes ":" ∷ (items ++ codes ";" ∷ words) =
    e ∙ ap (λ ws. codes ";" ∷ precondition_word ∷ codes ":" ∷ ws) (append_assoc items (codes ";" ∷ []) words) in
    let closed = close_reads end ts (precondition_word ∷ codes ":" ∷ (items ++ codes ";" ∷ words)) e' in
    let begun : begins_with precondition_word closed.1.0 ≡ true = begins_with_text precondition_word closed.1.0 precondition_word (codes ":" ∷ (items ++ codes ";" ∷ words)) closed.1.2 ∙ refl in
    let listed = after_reads precondition_word end closed.1.0 (codes ":" ∷ (items ++ codes ";" ∷ words)) closed.1.2 in
    let opened = after_reads (codes ":") end listed.0 (items ++ codes ";" ∷ words) listed.2 in
    let read = conditions_read c cs no_conditions last end opened.0 (codes ";" ∷ words) added opened.2 refl in
    let shut = close_reads end read.0 words read.2 in
    (shut.0, shut.1.0, (rw (closed.1.1, begun, listed.1, opened.1, read.1, shut.1.1) refl), shut.1.2)

-- ---- rules
agrees_from : (kind : Kind) (head : Head) (found : Conditions) → head.targets ≡ kind.targets → head.sources ≡ kind.sources → IsWithin kind.must found.must → IsWithin kind.must_not found.must_not
    → agrees kind head found ≡ true
agrees_from kind head found t s m n =
    and_from (eqb head.targets kind.targets) (eqb head.sources kind.sources && (is_within kind.must found.must && is_within kind.must_not found.must_not)) (eq-eqb head.targets kind.targets t)
    (and_from (eqb head.sources kind.sources) (is_within kind.must found.must && is_within kind.must_not found.must_not) (eq-eqb head.sources kind.sources s)
    (and_from (is_within kind.must found.must) (is_within kind.must_not found.must_not) (eq-eqb (intersection kind.must found.must) kind.must m)
    (eq-eqb (intersection kind.must_not found.must_not) kind.must_not n)))

-- the words of a rule and what comes behind it, part by part
pub words_parted : (a b : List (List ℕ)) (x : List (List ℕ)) (words : List (List ℕ)) → (a ++ codes ":" ∷ (b ++ x)) ++ words ≡ a ++ codes ":" ∷ (b ++ (x ++ words))
words_parted a b x words =
    append_assoc a (codes ":" ∷ (b ++ x)) words ∙ ap (λ ws. a ++ codes ":" ∷ ws) (append_assoc b x words)

pub rule_reads : (kinds : List Kind) (had : List Rule) (end : ℕ) (ts : List Token) (w : Written) (rule : Rule) (words : List (List ℕ)) → texts ts ≡ words_of w ++ words → Means kinds w rule
    → list_any (λ r. bytes_eq r.label rule.label) had ≡ false → length had < most_rules → NoPreconditionNext words → ReadsAs (rule_from kinds had end ts) rule words
unfolding rule_from
rule_reads kinds had end ts w rule words e means new room none =
    let a : List (List ℕ) = separated (map name_item w.targets) in
    let b : List (List ℕ) = separated (map name_item w.sources) in
    let tail_words : List (List ℕ) = codes ";" ∷ (precondition_words w.conditions ++ words) in
    let body_words : List (List ℕ) = codes "{" ∷ w.client ∷ codes "}" ∷ codes "weight" ∷ w.weight ∷ tail_words in
    let e' : texts ts ≡ w.label ∷ codes ":" ∷ codes "rule" ∷ (a ++ codes ":" ∷ (b ++ body_words)) =
    e ∙ ap (λ ws. w.label ∷ codes ":" ∷ codes "rule" ∷ ws) (words_parted a b (codes "{" ∷ w.client ∷ codes "}" ∷ codes "weight" ∷ w.weight ∷ codes ";" ∷ precondition_words w.conditions) words) in
    let new' : list_any (λ r. bytes_eq r.label w.label) had ≡ false = subst (λ l. list_any (λ r. bytes_eq r.label l) had ≡ false) means.labelled new in
    let head = head_reads had end ts w.label w.targets w.sources rule.kind.targets rule.kind.sources body_words e' means.label new' room means.targets means.sources refl in
    let body = body_reads kinds end head.0 w.client w.weight rule.kind rule.weight tail_words head.2 means.client means.kind means.number means.weight means.range in
    let found : Conditions = record { must = rule.must; must_not = rule.must_not } in
    let tail = tail_reads end body.0 w.conditions found words body.2 means.conditions none in
    let fits = agrees_from rule.kind (record { label = w.label; targets = rule.kind.targets; sources = rule.kind.sources; rest = head.0 }) found refl refl means.must means.must_not in
    (tail.1, (rw (head.1, body.1, tail.2, fits) (ap (λ (l : List ℕ). Ok (record { label = l; kind = rule.kind; weight = rule.weight; must = rule.must; must_not = rule.must_not }, tail.1)) (sym means.labelled))), tail.3)
