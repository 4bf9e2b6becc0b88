-- What was read is spelled by the grammar: rules and books.
use Rattle.std.proofs.Common.{◌≡◌, ℕ, zero, suc, ◌+◌, true, ◌&&◌, cond, eqb, ltb, IsTrue, Some, Result, Ok, Err, List, [], ◌∷◌, ◌++◌, inl, inr, length, map, find, refl, sym, ap, ◌∙◌, subst, append_assoc, append-nil, codes}
use Rattle.std.specs.List.{flat_map, list_any, AllZip}
use Rattle.std.specs.Str.{bytes_eq}
use Rattle.std.proofs.lemmas.Bool.{cases_Bool, and_parts, eqb-true}
use Rattle.std.proofs.lemmas.Slice.Eq.{bytes_eq-Decides}
use Rattle.std.specs.Prelude.{IfOk}
use Rattle.pm_books.specs.Gives.{GivesAs}
use Rattle.pm_props.specs.declared.kind.Kind.{Kind}
use Rattle.pm_weights.specs.declared.Weight.{Weight}
use Rattle.pm_weights.specs.Weights.{IsWeight}
use Rattle.pm_rules.specs.declared.rule.Rule.{Rule}
use Rattle.pm_books.specs.declared.fail.BookFail.{BookFail}
use Rattle.pm_books.specs.declared.fail.BookFail.TheVariants.{SameLabel, WeightRange, TooManyRules}
use Rattle.pm_rules.specs.Words.{is_word, is_label, precondition_word}
use Rattle.pm_books.specs.Tokens.{Token, tokens_of}
use Rattle.pm_books.specs.Reading.{◌>>=◌, token_where, after, names_from, conditions_from, label_from, known_kind, kind_from, weight_of, is_weight, is_number, weight_from, Head, head_from, Body, body_from, Tail, no_conditions, close_from, begins_with, preconditions_from, tail_from, is_within, agrees, mismatch, made_rule, rule_from, rules_from, book_of}
use Rattle.pm_books.specs.Reading.Due.{condition}
use Rattle.pm_books.specs.Grammar.{Condition, Written, separated, name_item, condition_item, precondition_words, words_of, AreNames, AddConditions, Means, texts, IsBookText}
use Rattle.pm_books.proofs.ReadRules.{bind_ok, ok_same, guard_ok, unless_ok, token_where_ok}
use Rattle.pm_books.proofs.ReadBooks.{label_from_ok, known_kind_ok, weight_from_test, within_from_test, rules_are_book, no_rules_IsBook}
use Rattle.pm_books.proofs.SpelledRules.{words_parted}
use Rattle.pm_books.proofs.FoundParts.{token_where_found, after_found, names_found, conditions_found}
use Rattle.pm_limits.specs.Limits.{most_rules}

-- ---- labels, clients and weights
label_found : (had : List Rule) (end : ℕ) (ts : List Token) (x : List ℕ × List Token) → label_from had end ts ≡ Ok x → texts ts ≡ x.0 ∷ texts x.1
unfolding label_from
label_found had end ts x h =
    let step = bind_ok (token_where is_label end ts) (λ found. cond (list_any (λ rule. bytes_eq rule.label found.0.text) had) (Err (SameLabel found.0.place))
    (cond (ltb (length had) most_rules) (Ok (found.0.text, found.1)) (Err (TooManyRules found.0.place)))) x h in
    let first = unless_ok (list_any (λ rule. bytes_eq rule.label step.0.0.text) had) (cond (ltb (length had) most_rules) (Ok (step.0.0.text, step.0.1)) (Err (TooManyRules step.0.0.place))) (SameLabel step.0.0.place) x step.2 in
    let second = guard_ok (ltb (length had) most_rules) (Ok (step.0.0.text, step.0.1)) (TooManyRules step.0.0.place) x first.1 in
    token_where_found is_label end ts step.0 step.1 ∙ ap (λ (y : List ℕ × List Token). y.0 ∷ texts y.1) (ok_same (step.0.0.text, step.0.1) x second.1)

kind_found : (kinds : List Kind) (end : ℕ) (ts : List Token) (x : Kind × List Token) → kind_from kinds end ts ≡ Ok x
    → (client : List ℕ) × (texts ts ≡ client ∷ texts x.1) × IsTrue (is_word client) × (find (λ kind. bytes_eq kind.name client) kinds ≡ Some x.0)
unfolding kind_from
kind_found kinds end ts x h =
    let step = bind_ok (token_where is_word end ts) (λ found. known_kind found.0.place (find (λ kind. bytes_eq kind.name found.0.text) kinds) >>= λ kind. Ok (kind, found.1)) x h in
    let known = bind_ok (known_kind step.0.0.place (find (λ kind. bytes_eq kind.name step.0.0.text) kinds)) (λ (kind : Kind). Ok (kind, step.0.1)) x step.2 in
    let found = known_kind_ok step.0.0.place (find (λ kind. bytes_eq kind.name step.0.0.text) kinds) known.0 known.1 in
    let same = ok_same (known.0, step.0.1) x known.2 in (
      step.0.0.text,
      token_where_found is_word end ts step.0 step.1 ∙ ap (λ (y : Kind × List Token). step.0.0.text ∷ texts y.1) same,
      token_where_ok is_word end ts step.0 step.1,
      found ∙ ap (λ (y : Kind × List Token). Some y.0) same,
    )

weight_found : (end : ℕ) (ts : List Token) (x : Weight × List Token) → weight_from end ts ≡ Ok x
    → (text : List ℕ) × (texts ts ≡ text ∷ texts x.1) × IsTrue (is_number text) × (weight_of text ≡ x.0) × IsWeight x.0
unfolding weight_from
weight_found end ts x h =
    let step = bind_ok (token_where is_number end ts) (λ found. cond (is_weight (weight_of found.0.text)) (Ok (weight_of found.0.text, found.1)) (Err (WeightRange found.0.place))) x h in
    let parts = guard_ok (is_weight (weight_of step.0.0.text)) (Ok (weight_of step.0.0.text, step.0.1)) (WeightRange step.0.0.place) x step.2 in
    let same = ok_same (weight_of step.0.0.text, step.0.1) x parts.1 in (
      step.0.0.text,
      token_where_found is_number end ts step.0 step.1 ∙ ap (λ (y : Weight × List Token). step.0.0.text ∷ texts y.1) same,
      token_where_ok is_number end ts step.0 step.1,
      ap (λ (y : Weight × List Token). y.0) same,
      subst (λ (y : Weight × List Token). IsWeight y.0) same (weight_from_test (weight_of step.0.0.text) parts.0),
    )

close_found : (end : ℕ) (ts : List Token) (x : ℕ × List Token) → close_from end ts ≡ Ok x → texts ts ≡ codes ";" ∷ texts x.1
unfolding close_from
close_found end ts x h =
    let step = bind_ok (token_where (λ w. bytes_eq w (codes ";")) end ts) (λ found. Ok (found.0.place + 1, found.1)) x h in
    token_where_found (λ w. bytes_eq w (codes ";")) end ts step.0 step.1
    ∙ ap (λ w. w ∷ texts step.0.1) ((bytes_eq-Decides step.0.0.text (codes ";")).0 (token_where_ok (λ w. bytes_eq w (codes ";")) end ts step.0 step.1))
    ∙ ap (λ (y : ℕ × List Token). codes ";" ∷ texts y.1) (ok_same (step.0.0.place + 1, step.0.1) x step.2)

-- ---- parts of a rule
record FoundHead (ts : List Token) (head : Head) : Type 0 where
  targets : List (List ℕ)
  sources : List (List ℕ)
  words : texts ts ≡ head.label ∷ codes ":" ∷ codes "rule" ∷ (separated (map name_item targets) ++ codes ":" ∷ (separated (map name_item sources) ++ texts head.rest))
  good : IsTrue (is_label head.label)
  are_targets : AreNames targets head.targets
  are_sources : AreNames sources head.sources

head_found : (had : List Rule) (end : ℕ) (ts : List Token) (head : Head) → head_from had end ts ≡ Ok head → FoundHead ts head
unfolding head_from
head_found had end ts head h =
    let label = bind_ok (label_from had end ts) _ head h in
    let begun = bind_ok (after (codes ":") end label.0.1) _ head label.2 in
    let ruled = bind_ok (after (codes "rule") end begun.0) _ head begun.2 in
    let targets = bind_ok (names_from true 0 end ruled.0) _ head ruled.2 in
    let parted = bind_ok (after (codes ":") end targets.0.1) _ head targets.2 in
    let sources = bind_ok (names_from true 0 end parted.0) _ head parted.2 in
    let found = names_found end ruled.0 targets.0 targets.1 in
    let wanted = names_found end parted.0 sources.0 sources.1 in
    let behind : texts targets.0.1 ≡ codes ":" ∷ (separated (map name_item wanted.0) ++ texts sources.0.1) = after_found (codes ":") end targets.0.1 parted.0 parted.1 ∙ ap (λ ws. codes ":" ∷ ws) wanted.2 in
    let named : texts ruled.0 ≡ separated (map name_item found.0) ++ codes ":" ∷ (separated (map name_item wanted.0) ++ texts sources.0.1) =
    found.2 ∙ ap (λ ws. separated (map name_item found.0) ++ ws) behind in
    let all : texts ts ≡ label.0.0 ∷ codes ":" ∷ codes "rule" ∷ (separated (map name_item found.0) ++ codes ":" ∷ (separated (map name_item wanted.0) ++ texts sources.0.1)) =
    label_found had end ts label.0 label.1 ∙ ap (λ ws. label.0.0 ∷ ws) (after_found (codes ":") end label.0.1 begun.0 begun.1)
    ∙ ap (λ ws. label.0.0 ∷ codes ":" ∷ ws) (after_found (codes "rule") end begun.0 ruled.0 ruled.1) ∙ ap (λ ws. label.0.0 ∷ codes ":" ∷ codes "rule" ∷ ws) named in
    let made : Head = record { label = label.0.0; targets = targets.0.0; sources = sources.0.0; rest = sources.0.1 } in
    let found_head : FoundHead ts made = record {
      targets = found.0;
      sources = wanted.0;
      words = all;
      good = (label_from_ok had end ts label.0 label.1).word;
      are_targets = found.1;
      are_sources = wanted.1;
    } in
    subst (FoundHead ts) (ok_same made head sources.2) found_head

record FoundBody (kinds : List Kind) (ts : List Token) (body : Body) : Type 0 where
  client : List ℕ
  text : List ℕ
  words : texts ts ≡ codes "{" ∷ client ∷ codes "}" ∷ codes "weight" ∷ text ∷ texts body.rest
  good : IsTrue (is_word client)
  kind_is : find (λ kind. bytes_eq kind.name client) kinds ≡ Some body.kind
  number : IsTrue (is_number text)
  weight_is : weight_of text ≡ body.weight
  range : IsWeight body.weight

body_found : (kinds : List Kind) (end : ℕ) (ts : List Token) (body : Body) → body_from kinds end ts ≡ Ok body → FoundBody kinds ts body
unfolding body_from
body_found kinds end ts body h =
    let opened = bind_ok (after (codes "{") end ts) _ body h in
    let kind = bind_ok (kind_from kinds end opened.0) _ body opened.2 in
    let closed = bind_ok (after (codes "}") end kind.0.1) _ body kind.2 in
    let weighed = bind_ok (after (codes "weight") end closed.0) _ body closed.2 in
    let weight = bind_ok (weight_from end weighed.0) _ body weighed.2 in
    let client = kind_found kinds end opened.0 kind.0 kind.1 in
    let text = weight_found end weighed.0 weight.0 weight.1 in
    let all : texts ts ≡ codes "{" ∷ client.0 ∷ codes "}" ∷ codes "weight" ∷ text.0 ∷ texts weight.0.1 =
    after_found (codes "{") end ts opened.0 opened.1 ∙ ap (λ ws. codes "{" ∷ ws) client.1 ∙ ap (λ ws. codes "{" ∷ client.0 ∷ ws) (after_found (codes "}") end kind.0.1 closed.0 closed.1)
    ∙ ap (λ ws. codes "{" ∷ client.0 ∷ codes "}" ∷ ws) (after_found (codes "weight") end closed.0 weighed.0 weighed.1) ∙ ap (λ ws. codes "{" ∷ client.0 ∷ codes "}" ∷ codes "weight" ∷ ws) text.1 in
    let made : Body = record { kind = kind.0.0; weight = weight.0.0; rest = weight.0.1 } in
    let found_body : FoundBody kinds ts made = record {
      client = client.0;
      text = text.0;
      words = all;
      good = client.2;
      kind_is = client.3;
      number = text.2;
      weight_is = text.3;
      range = text.4;
    } in
    subst (FoundBody kinds ts) (ok_same made body weight.2) found_body

-- what a tail was found to be
FoundTail : List Token → Tail → Type 0
FoundTail ts tail = (cs : List Condition) × AddConditions cs no_conditions tail.conditions × (texts ts ≡ codes ";" ∷ (precondition_words cs ++ texts tail.rest))

tail_found : (end : ℕ) (ts : List Token) (tail : Tail) → tail_from end ts ≡ Ok tail → FoundTail ts tail
unfolding tail_from preconditions_from FoundTail
tail_found end ts tail h =
    let closed = bind_ok (close_from end ts) _ tail h in
    elim (cases_Bool (begins_with precondition_word closed.0.1)) [
      | inl e ↦ (
          let h' : preconditions_from end closed.0.1 ≡ Ok tail = (rw e at closed.2) in
          let begun = bind_ok (after precondition_word end closed.0.1) _ tail h' in
          let listed = bind_ok (after (codes ":") end begun.0) _ tail begun.2 in
          let found = bind_ok (conditions_from condition no_conditions end listed.0) _ tail listed.2 in
          let shut = bind_ok (close_from end found.0.1) _ tail found.2 in
          let read = conditions_found no_conditions end listed.0 found.0 found.1 in
          let items : List (List ℕ) = separated (map condition_item (read.0 ∷ read.1)) in
          let all : texts ts ≡ codes ";" ∷ (precondition_words (read.0 ∷ read.1) ++ texts shut.0.1) =
          close_found end ts closed.0 closed.1 ∙ ap (λ ws. codes ";" ∷ ws) (after_found precondition_word end closed.0.1 begun.0 begun.1)
          ∙ ap (λ ws. codes ";" ∷ precondition_word ∷ ws) (after_found (codes ":") end begun.0 listed.0 listed.1)
          ∙ ap (λ ws. codes ";" ∷ precondition_word ∷ codes ":" ∷ ws) (read.3 ∙ ap (λ ws. items ++ ws) (close_found end found.0.1 shut.0 shut.1) ∙ sym (append_assoc items (codes ";" ∷ []) (texts shut.0.1))) in
          let made : Tail = record { conditions = found.0.0; past = shut.0.0; rest = shut.0.1 } in
          subst (λ (t : Tail). (cs : List Condition) × AddConditions cs no_conditions t.conditions × (texts ts ≡ codes ";" ∷ (precondition_words cs ++ texts t.rest))) (ok_same made tail shut.2) (read.0 ∷ read.1, read.2, all)
          )
      | inr e ↦ (
          let made : Tail = record { conditions = no_conditions; past = closed.0.0; rest = closed.0.1 } in
          let h' : ◌≡◌ {A = Result Tail BookFail} (Ok made) (Ok tail) = (rw e at closed.2) in
          subst (λ (t : Tail). (cs : List Condition) × AddConditions cs no_conditions t.conditions × (texts ts ≡ codes ";" ∷ (precondition_words cs ++ texts t.rest))) (ok_same made tail h')
          ([], refl, close_found end ts closed.0 closed.1)
          )
    ]

-- ---- rules
FoundRule : List Kind → List Token → Rule × List Token → Type 0
FoundRule kinds ts x = (w : Written) × Means kinds w x.0 × (texts ts ≡ words_of w ++ texts x.1)

made_found : (kinds : List Kind) (ts : List Token) (head : Head) (body : Body) (tail : Tail) → FoundHead ts head → FoundBody kinds head.rest body → FoundTail body.rest tail
    → agrees body.kind head tail.conditions ≡ true → FoundRule kinds ts (made_rule head body tail, tail.rest)
unfolding FoundRule FoundTail
made_found kinds ts head body tail h b (cs, added, behind) fits =
    let kind = body.kind in
    let found = tail.conditions in
    let first = and_parts (eqb head.targets kind.targets) (eqb head.sources kind.sources && (is_within kind.must found.must && is_within kind.must_not found.must_not)) fits in
    let second = and_parts (eqb head.sources kind.sources) (is_within kind.must found.must && is_within kind.must_not found.must_not) first.1 in
    let third = and_parts (is_within kind.must found.must) (is_within kind.must_not found.must_not) second.1 in
    let w : Written = record { label = head.label; targets = h.targets; sources = h.sources; client = b.client; weight = b.text; conditions = cs } in
    let a : List (List ℕ) = separated (map name_item h.targets) in
    let s : List (List ℕ) = separated (map name_item h.sources) in
    let rest : List (List ℕ) = codes "{" ∷ b.client ∷ codes "}" ∷ codes "weight" ∷ b.text ∷ codes ";" ∷ precondition_words cs in
    let body_words : texts head.rest ≡ rest ++ texts tail.rest = b.words ∙ ap (λ ws. codes "{" ∷ b.client ∷ codes "}" ∷ codes "weight" ∷ b.text ∷ ws) behind in (
      w,
      record {
        label = h.good;
        labelled = refl;
        targets = subst (AreNames h.targets) (eqb-true head.targets kind.targets first.0) h.are_targets;
        sources = subst (AreNames h.sources) (eqb-true head.sources kind.sources second.0) h.are_sources;
        client = b.good;
        kind = b.kind_is;
        number = b.number;
        weight = b.weight_is;
        range = b.range;
        conditions = added;
        must = within_from_test kind.must found.must third.0;
        must_not = within_from_test kind.must_not found.must_not third.1;
      },
      h.words ∙ ap (λ ws. head.label ∷ codes ":" ∷ codes "rule" ∷ (a ++ codes ":" ∷ (s ++ ws))) body_words
          ∙ ap (λ ws. head.label ∷ codes ":" ∷ codes "rule" ∷ ws) (sym (words_parted a s rest (texts tail.rest))),
    )

rule_found : (kinds : List Kind) (had : List Rule) (end : ℕ) (ts : List Token) (x : Rule × List Token) → rule_from kinds had end ts ≡ Ok x → FoundRule kinds ts x
unfolding rule_from
rule_found kinds had end ts x h =
    let head = bind_ok (head_from had end ts) _ x h in
    let body = bind_ok (body_from kinds end head.0.rest) _ x head.2 in
    let tail = bind_ok (tail_from end body.0.rest) _ x body.2 in
    let parts = guard_ok (agrees body.0.kind head.0 tail.0.conditions) (Ok (made_rule head.0 body.0 tail.0, tail.0.rest)) (mismatch tail.0.past tail.0.rest) x tail.2 in
    subst (FoundRule kinds ts) (ok_same (made_rule head.0 body.0 tail.0, tail.0.rest) x parts.1)
    (made_found kinds ts head.0 body.0 tail.0 (head_found had end ts head.0 head.1) (body_found kinds end head.0.rest body.0 body.1) (tail_found end body.0.rest tail.0 tail.1) parts.0)

-- the rules had, and new ones that the words mean
FoundRules : List Kind → List Rule → List Token → List Rule → Type 0
FoundRules kinds had ts rules = (more : List Rule) × (rules ≡ had ++ more) × ((ws : List Written) × AllZip (Means kinds) ws more × (texts ts ≡ flat_map words_of ws))

rules_found : (n : ℕ) (kinds : List Kind) (had : List Rule) (end : ℕ) (ts : List Token) (rules : List Rule) → rules_from n kinds had end ts ≡ Ok rules → FoundRules kinds had ts rules
unfolding rules_from FoundRules FoundRule
rules_found n kinds had end [] rules h = ([], sym (ok_same had rules h) ∙ sym (append-nil had), ([], tt, refl))
rules_found zero kinds had end (t ∷ ts) rules h = cc
rules_found (suc n) kinds had end (t ∷ ts) rules h =
    let step = bind_ok (rule_from kinds had end (t ∷ ts)) (λ found. rules_from n kinds (had ++ found.0 ∷ []) end found.1) rules h in
    let one = rule_found kinds had end (t ∷ ts) step.0 step.1 in
    let more = rules_found n kinds (had ++ step.0.0 ∷ []) end step.0.1 rules step.2 in (
      step.0.0 ∷ more.0,
      more.1 ∙ append_assoc had (step.0.0 ∷ []) more.0,
      (one.0 ∷ more.2.0, (one.1, more.2.1), one.2 ∙ ap (λ ws. words_of one.0 ++ ws) more.2.2),
    )

-- what is read of a text is spelled there
pub found_book : (kinds : List Kind) (text : List ℕ) (rules : List Rule) → book_of kinds text ≡ Ok rules → IsBookText kinds text rules
unfolding book_of FoundRules
found_book kinds text rules h =
    let found = rules_found (most_rules + 1) kinds [] (length text) (tokens_of text) rules h in
    let book = rules_are_book (most_rules + 1) kinds [] (length text) (tokens_of text) rules h no_rules_IsBook in
    record {
      written = found.2.0;
      words = found.2.2;
      means = subst (AllZip (Means kinds) found.2.0) (sym found.1) found.2.1;
      few = book.few;
      labels = book.labels;
    }

-- what a call that gives what is read knows of its answer
pub if_ok_from_gives : (answer read : Result (List Rule) BookFail) (P : List Rule → Type 0) → GivesAs (λ (rules : List Rule). rules) answer read → ((rules : List Rule) → read ≡ Ok rules → P rules) → IfOk answer P
if_ok_from_gives (Ok rules) read P h f = f rules h
if_ok_from_gives (Err e) read P h f = tt
