-- Each text of the grammar is read as its book.
use Rattle.std.proofs.Common.{◌≡◌, ◌≢◌, ℕ, zero, suc, ◌+◌, ◌≤◌, false, Ok, List, [], ◌∷◌, ◌++◌, length, get_or, refl, sym, ap, ◌∙◌, subst, arith, append_assoc, append-nil, length-append, inl, inr}
use Rattle.std.specs.List.{flat_map, list_any, AllPairs, AllZip}
use Rattle.std.specs.Str.{bytes_eq}
use Rattle.std.proofs.lemmas.Bool.{cases_Bool}
use Rattle.std.proofs.lemmas.Slice.Eq.{bytes_eq-Decides}
use Rattle.std.proofs.lemmas.List.{get_or_append_left, get_or_at, get_or_default}
use Rattle.std.proofs.lemmas.List.Folds.{Any-from_list_any}
use Rattle.pm_props.specs.declared.kind.Kind.{Kind}
use Rattle.pm_rules.specs.declared.rule.Rule.{Rule}
use Rattle.pm_rules.proofs.Labels.{label_is_no_precondition}
use Rattle.pm_books.specs.Tokens.{Token, tokens_of}
use Rattle.pm_books.specs.Reading.{rules_from, book_of}
use Rattle.pm_books.specs.Grammar.{Written, words_of, Means, texts, IsBookText}
use Rattle.pm_books.proofs.SpelledRules.{NoPreconditionNext, rule_reads}
use Rattle.pm_limits.specs.Limits.{most_rules}

-- ---- labels that come once
abbrev pub NewLabels : List Rule → List Rule → Type 0
NewLabels had [] = Unit {0}
NewLabels had (r ∷ rules) = (list_any (λ q. bytes_eq q.label r.label) had ≡ false) × NewLabels (had ++ r ∷ []) rules

abbrev Differ : List Rule → Type 0
Differ rules = AllPairs (λ (a b : Rule). a.label ≢ b.label) rules

label_new : (had rest : List Rule) (r : Rule) → Differ (had ++ r ∷ rest) → list_any (λ q. bytes_eq q.label r.label) had ≡ false
label_new had rest r differ = elim (cases_Bool (list_any (λ q. bytes_eq q.label r.label) had)) [
  | inr e ↦ e
  | inl e ↦ (
      let found = Any-from_list_any (λ (q : Rule). bytes_eq q.label r.label) had e in
      let all = had ++ r ∷ rest in
      let left : get_or all found.0 r ≡ found.1 = get_or_append_left had (r ∷ rest) r found.0 found.2 ∙ (let other : get_or had found.0 r ≡ get_or had found.0 found.1 = get_or_default had found.0 r found.1 found.2 in other) ∙ found.3 in
      let right : get_or all (length had) r ≡ r = get_or_at had r rest r (length had) refl in
      let same : found.1.label ≡ r.label = (bytes_eq-Decides found.1.label r.label).0 found.4 in
      absurd (differ found.0 (length had) r found.2 (omega (arith, length-append had (r ∷ rest))) (ap (λ (q : Rule). q.label) left ∙ same ∙ ap (λ (q : Rule). q.label) (sym right)))
      )
]

new_labels : (had rules : List Rule) → Differ (had ++ rules) → NewLabels had rules
new_labels had [] differ = tt
new_labels had (r ∷ rules) differ = (label_new had rules r differ, new_labels (had ++ r ∷ []) rules (subst Differ (sym (append_assoc had (r ∷ []) rules)) differ))

-- ---- one rule after the other
labels_come_next : (kinds : List Kind) (ws : List Written) (rules : List Rule) → AllZip (Means kinds) ws rules → NoPreconditionNext (flat_map words_of ws)
labels_come_next kinds [] rules means = tt
labels_come_next kinds (w ∷ ws) [] means = absurd means
labels_come_next kinds (w ∷ ws) (r ∷ rules) means = label_is_no_precondition w.label means.0.label

rules_read : (n : ℕ) (kinds : List Kind) (had : List Rule) (end : ℕ) (ts : List Token) (ws : List Written) (rules : List Rule) → texts ts ≡ flat_map words_of ws → AllZip (Means kinds) ws rules
    → NewLabels had rules → length had + length rules ≤ most_rules → length rules ≤ n → rules_from n kinds had end ts ≡ Ok (had ++ rules)
unfolding rules_from
rules_read n kinds had end [] [] [] e means new few enough = ap (λ r. Ok r) (sym (append-nil had))
rules_read n kinds had end (t ∷ ts) [] [] e means new few enough = cc
rules_read n kinds had end ts [] (r ∷ rules) e means new few enough = absurd means
rules_read n kinds had end ts (w ∷ ws) [] e means new few enough = absurd means
rules_read n kinds had end [] (w ∷ ws) (r ∷ rules) e means new few enough = cc
rules_read zero kinds had end (t ∷ ts) (w ∷ ws) (r ∷ rules) e means new few enough = absurd (omega arith)
rules_read (suc n) kinds had end (t ∷ ts) (w ∷ ws) (r ∷ rules) e means new few enough =
    let one = rule_reads kinds had end (t ∷ ts) w r (flat_map words_of ws) e means.0 new.0 (omega arith) (labels_come_next kinds ws rules means.1) in
    let more = rules_read n kinds (had ++ r ∷ []) end one.0 ws rules one.2 means.1 new.1 (omega (arith, length-append had (r ∷ []))) (omega arith) in
    rw one.1 (more ∙ ap (λ q. Ok q) (append_assoc had (r ∷ []) rules))

-- the only book of a text of the grammar is read
pub only_book : (kinds : List Kind) (text : List ℕ) (rules : List Rule) → IsBookText kinds text rules → book_of kinds text ≡ Ok rules
unfolding book_of
only_book kinds text rules h =
    rules_read (most_rules + 1) kinds [] (length text) (tokens_of text) h.written rules h.words h.means (new_labels [] rules h.labels) (omega (arith, h.few)) (omega (arith, h.few))
