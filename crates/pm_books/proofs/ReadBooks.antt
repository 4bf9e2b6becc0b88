-- What is read is a book.
use Rattle.pm_props.specs.Properties.{count}
use Rattle.std.proofs.Common.{◌≡◌, ◌≢◌, ℕ, zero, suc, ◌+◌, ◌-◌, ◌<◌, ◌≤◌, true, false, ◌&&◌, cond, eqb, ltb, leb, IsTrue, Option, Some, None, Result, Ok, Err, List, [], ◌∷◌, ◌++◌, length, map, find, refl, sym, ap, ◌∙◌, subst, arith, get_or, length-append, lit<, codes, inl, inr, ◌^◌}
use Rattle.std.specs.List.{list_any}
use Rattle.std.specs.Str.{bytes_eq}
use Rattle.std.proofs.lemmas.Bool.{cases_Bool, and_parts, both_ways, leb-true, ltb-true, eqb-true, eqb-false}
use Rattle.std.proofs.lemmas.Slice.Eq.{bytes_eq-Decides}
use Rattle.std.proofs.lemmas.List.Elements.{All-push}
use Rattle.std.proofs.lemmas.List.Quantifiers.{all_pairs_push}
use Rattle.std.proofs.lemmas.List.Folds.{list_any_at}
use Rattle.pm_props.specs.declared.set.PropSet.{PropSet}
use Rattle.pm_props.specs.declared.kind.Kind.{Kind}
use Rattle.pm_weights.specs.declared.Weight.{Weight}
use Rattle.pm_props.specs.Sets.{intersection, IsWithin}
use Rattle.pm_weights.specs.Weights.{IsWeight}
use Rattle.pm_props.proofs.NameLemmas.{find_passes}
use Rattle.pm_rules.specs.declared.rule.Rule.{Rule}
use Rattle.pm_books.specs.declared.fail.BookFail.{BookFail}
use Rattle.pm_books.specs.declared.fail.BookFail.TheVariants.{Syntax, UnknownProperty, UnknownClient, SignatureMismatch, SameLabel, WeightRange, TooManyRules, Memory}
use Rattle.pm_rules.specs.Words.{is_word, is_label, precondition_word}
use Rattle.pm_rules.specs.Books.{IsNamed, IsRule, IsBook}
use Rattle.pm_books.specs.declared.token.Token.{Token as CodeToken}
use Rattle.pm_books.specs.Tokens.{Token}
use Rattle.pm_books.specs.Seen.{seen}
use Rattle.pm_books.specs.Gives.{FailsAs}
use Rattle.pm_books.specs.Reading.{◌>>=◌, token_where, after, names_from, conditions_from, label_from, known_kind, kind_from, weight_of, is_weight, is_number, weight_from, Head, head_from, Body, body_from, Tail, no_conditions, close_from, begins_with, preconditions_from, tail_from, is_within, agrees, mismatch, made_rule, rule_from, rules_from}
use Rattle.pm_books.specs.Reading.Due.{condition}
use Rattle.pm_books.proofs.ReadRules.{bind_ok, ok_same, guard_ok, unless_ok, token_where_ok, names_are_named, AreConditions, conditions_are, none_AreConditions}
use Rattle.pm_limits.specs.Limits.{most_rules, most_weight}

-- ---- labels, clients and weights
pub record IsNewLabel (had : List Rule) (label : List ℕ) : Type 0 where
  pub word : IsTrue (is_label label)
  pub new : list_any (λ rule. bytes_eq rule.label label) had ≡ false
  pub room : length had < most_rules

pub label_from_ok : (had : List Rule) (end : ℕ) (ts : List Token) (x : List ℕ × List Token) → label_from had end ts ≡ Ok x → IsNewLabel had x.0
unfolding label_from
label_from_ok had end ts x h =
    let step = bind_ok (token_where is_label end ts) (λ found. cond (list_any (λ rule. bytes_eq rule.label found.0.text) had) (Err (SameLabel found.0.place))
    (cond (ltb (length had) most_rules) (Ok (found.0.text, found.1)) (Err (TooManyRules found.0.place)))) x h in
    let first = unless_ok (list_any (λ rule. bytes_eq rule.label step.0.0.text) had) (cond (ltb (length had) most_rules) (Ok (step.0.0.text, step.0.1)) (Err (TooManyRules step.0.0.place))) (SameLabel step.0.0.place) x step.2 in
    let second = guard_ok (ltb (length had) most_rules) (Ok (step.0.0.text, step.0.1)) (TooManyRules step.0.0.place) x first.1 in
    subst (λ (y : List ℕ × List Token). IsNewLabel had y.0) (ok_same (step.0.0.text, step.0.1) x second.1)
    (record { word = token_where_ok is_label end ts step.0 step.1; new = first.0; room = ltb-true (length had) most_rules second.0 })

pub known_kind_ok : (place : ℕ) (found : Option Kind) (kind : Kind) → known_kind place found ≡ Ok kind → found ≡ Some kind
known_kind_ok place None kind h = cc
known_kind_ok place (Some k) kind h = ap (λ (r : Kind). Some r) (ok_same k kind h)

kind_from_ok : (kinds : List Kind) (end : ℕ) (ts : List Token) (x : Kind × List Token) → kind_from kinds end ts ≡ Ok x → IsTrue (is_word x.0.name)
unfolding kind_from
kind_from_ok kinds end ts x h =
    let step = bind_ok (token_where is_word end ts) (λ found. known_kind found.0.place (find (λ kind. bytes_eq kind.name found.0.text) kinds) >>= λ kind. Ok (kind, found.1)) x h in
    let known = bind_ok (known_kind step.0.0.place (find (λ kind. bytes_eq kind.name step.0.0.text) kinds)) (λ (kind : Kind). Ok (kind, step.0.1)) x step.2 in
    let passes = find_passes (λ (kind : Kind). bytes_eq kind.name step.0.0.text) kinds known.0 (known_kind_ok step.0.0.place (find (λ kind. bytes_eq kind.name step.0.0.text) kinds) known.0 known.1) in
    let named : known.0.name ≡ step.0.0.text = (bytes_eq-Decides known.0.name step.0.0.text).0 passes in
    let same = ok_same (known.0, step.0.1) x known.2 in
    subst (λ (y : Kind × List Token). IsTrue (is_word y.0.name)) same (subst (λ (n : List ℕ). IsTrue (is_word n)) (sym named) (token_where_ok is_word end ts step.0 step.1))

pub weight_from_test : (w : Weight) → is_weight w ≡ true → IsWeight w
weight_from_test w h =
    let first = and_parts (leb w.class most_weight) (leb w.minor most_weight && ltb 0 (w.class + w.minor)) h in
    let second = and_parts (leb w.minor most_weight) (ltb 0 (w.class + w.minor)) first.1 in
    record { class = leb-true w.class most_weight first.0; minor = leb-true w.minor most_weight second.0; some = ltb-true 0 (w.class + w.minor) second.1 }

weight_from_ok : (end : ℕ) (ts : List Token) (x : Weight × List Token) → weight_from end ts ≡ Ok x → IsWeight x.0
unfolding weight_from
weight_from_ok end ts x h =
    let step = bind_ok (token_where is_number end ts) (λ found. cond (is_weight (weight_of found.0.text)) (Ok (weight_of found.0.text, found.1)) (Err (WeightRange found.0.place))) x h in
    let parts = guard_ok (is_weight (weight_of step.0.0.text)) (Ok (weight_of step.0.0.text, step.0.1)) (WeightRange step.0.0.place) x step.2 in
    subst (λ (y : Weight × List Token). IsWeight y.0) (ok_same (weight_of step.0.0.text, step.0.1) x parts.1) (weight_from_test (weight_of step.0.0.text) parts.0)

-- ---- parts of a rule
pub record IsHead (had : List Rule) (head : Head) : Type 0 where
  pub label : IsNewLabel had head.label
  pub targets : IsNamed head.targets
  pub sources : IsNamed head.sources

zero_below : 0 < 2 ^ count
zero_below = lit< tt

pub head_from_ok : (had : List Rule) (end : ℕ) (ts : List Token) (head : Head) → head_from had end ts ≡ Ok head → IsHead had head
unfolding head_from
head_from_ok had end ts head h =
    let label = bind_ok (label_from had end ts) _ head h in
    let begun = bind_ok (after (codes ":") end label.0.1) _ head label.2 in
    let named = bind_ok (after (codes "rule") end begun.0) _ head begun.2 in
    let targets = bind_ok (names_from true 0 end named.0) _ head named.2 in
    let parted = bind_ok (after (codes ":") end targets.0.1) _ head targets.2 in
    let sources = bind_ok (names_from true 0 end parted.0) _ head parted.2 in
    subst (IsHead had) (ok_same (record { label = label.0.0; targets = targets.0.0; sources = sources.0.0; rest = sources.0.1 }) head sources.2)
    (record {
      label = label_from_ok had end ts label.0 label.1;
      targets = names_are_named true 0 end named.0 targets.0 targets.1 zero_below (λ e. cc);
      sources = names_are_named true 0 end parted.0 sources.0 sources.1 zero_below (λ e. cc);
    })

pub record IsBody (body : Body) : Type 0 where
  pub client : IsTrue (is_word body.kind.name)
  pub weight : IsWeight body.weight

pub body_from_ok : (kinds : List Kind) (end : ℕ) (ts : List Token) (body : Body) → body_from kinds end ts ≡ Ok body → IsBody body
unfolding body_from
body_from_ok kinds end ts body h =
    let opened = bind_ok (after (codes "{") end ts) _ body h in
    let kind = bind_ok (kind_from kinds end opened.0) _ body opened.2 in
    let closed = bind_ok (after (codes "}") end kind.0.1) _ body kind.2 in
    let weighed = bind_ok (after (codes "weight") end closed.0) _ body closed.2 in
    let weight = bind_ok (weight_from end weighed.0) _ body weighed.2 in
    subst IsBody (ok_same (record { kind = kind.0.0; weight = weight.0.0; rest = weight.0.1 }) body weight.2)
    (record { client = kind_from_ok kinds end opened.0 kind.0 kind.1; weight = weight_from_ok end weighed.0 weight.0 weight.1 })

preconditions_from_ok : (end : ℕ) (ts : List Token) (tail : Tail) → preconditions_from end ts ≡ Ok tail → AreConditions tail.conditions
unfolding preconditions_from
preconditions_from_ok end ts tail h =
    let begun = bind_ok (after precondition_word end ts) _ tail h in
    let listed = bind_ok (after (codes ":") end begun.0) _ tail begun.2 in
    let found = bind_ok (conditions_from condition no_conditions end listed.0) _ tail listed.2 in
    let closed = bind_ok (close_from end found.0.1) _ tail found.2 in
    subst (λ (t : Tail). AreConditions t.conditions) (ok_same (record { conditions = found.0.0; past = closed.0.0; rest = closed.0.1 }) tail closed.2)
    (conditions_are condition no_conditions end listed.0 found.0 found.1 none_AreConditions)

tail_from_ok : (end : ℕ) (ts : List Token) (tail : Tail) → tail_from end ts ≡ Ok tail → AreConditions tail.conditions
unfolding tail_from
tail_from_ok end ts tail h =
    let closed = bind_ok (close_from end ts) _ tail h in
    elim (cases_Bool (begins_with precondition_word closed.0.1)) [
      | inl e ↦ preconditions_from_ok end closed.0.1 tail (rw e at closed.2)
      | inr e ↦ (let h' : ◌≡◌ {A = Result Tail BookFail} (Ok (record { conditions = no_conditions; past = closed.0.0; rest = closed.0.1 })) (Ok tail) = (rw e at closed.2) in
          subst (λ (t : Tail). AreConditions t.conditions) (ok_same (record { conditions = no_conditions; past = closed.0.0; rest = closed.0.1 }) tail h') none_AreConditions)
    ]

-- ---- rules
pub record IsNextRule (had : List Rule) (rule : Rule) : Type 0 where
  pub new_label : IsNewLabel had rule.label
  pub good : IsRule rule

pub within_from_test : (s t : PropSet) → is_within s t ≡ true → IsWithin s t
within_from_test s t h = eqb-true (intersection s t) s h

made_rule_ok : (had : List Rule) (head : Head) (body : Body) (tail : Tail) → IsHead had head → IsBody body → AreConditions tail.conditions → agrees body.kind head tail.conditions ≡ true
    → IsNextRule had (made_rule head body tail)
made_rule_ok had head body tail is_head is_body is_tail fits =
    let kind = body.kind in
    let found = tail.conditions in
    let first = and_parts (eqb head.targets kind.targets) (eqb head.sources kind.sources && (is_within kind.must found.must && is_within kind.must_not found.must_not)) fits in
    let second = and_parts (eqb head.sources kind.sources) (is_within kind.must found.must && is_within kind.must_not found.must_not) first.1 in
    let third = and_parts (is_within kind.must found.must) (is_within kind.must_not found.must_not) second.1 in
    record {
      new_label = is_head.label;
      good = record {
        label = is_head.label.word;
        client = is_body.client;
        targets = subst IsNamed (eqb-true head.targets kind.targets first.0) is_head.targets;
        sources = subst IsNamed (eqb-true head.sources kind.sources second.0) is_head.sources;
        weight = is_body.weight;
        flags = is_tail.flags;
        apart = is_tail.apart;
        must = within_from_test kind.must found.must third.0;
        must_not = within_from_test kind.must_not found.must_not third.1;
        must_below = is_tail.must_below;
        must_not_below = is_tail.must_not_below;
      };
    }

pub rule_from_ok : (kinds : List Kind) (had : List Rule) (end : ℕ) (ts : List Token) (x : Rule × List Token) → rule_from kinds had end ts ≡ Ok x → IsNextRule had x.0
unfolding rule_from
rule_from_ok kinds had end ts x h =
    let head = bind_ok (head_from had end ts) _ x h in
    let body = bind_ok (body_from kinds end head.0.rest) _ x head.2 in
    let tail = bind_ok (tail_from end body.0.rest) _ x body.2 in
    let parts = guard_ok (agrees body.0.kind head.0 tail.0.conditions) (Ok (made_rule head.0 body.0 tail.0, tail.0.rest)) (mismatch tail.0.past tail.0.rest) x tail.2 in
    subst (λ (y : Rule × List Token). IsNextRule had y.0) (ok_same (made_rule head.0 body.0 tail.0, tail.0.rest) x parts.1)
    (made_rule_ok had head.0 body.0 tail.0 (head_from_ok had end ts head.0 head.1) (body_from_ok kinds end head.0.rest body.0 body.1) (tail_from_ok end body.0.rest tail.0 tail.1) parts.0)

-- a book with one rule more
pub next_IsBook : (had : List Rule) (rule : Rule) → IsBook had → IsNextRule had rule → IsBook (had ++ rule ∷ [])
next_IsBook had rule book next = record {
  few = omega (arith, next.new_label.room, length-append had (rule ∷ []));
  labels = all_pairs_push (λ (a b : Rule). a.label ≢ b.label) had rule book.labels (λ k d within same.
      both_ways (list_any (λ r. bytes_eq r.label rule.label) had) next.new_label.new
      (list_any_at (λ (r : Rule). bytes_eq r.label rule.label) had k d within ((bytes_eq-Decides (get_or had k d).label rule.label).1 same)));
  each = All-push IsRule had rule book.each next.good;
}

pub rules_are_book : (n : ℕ) (kinds : List Kind) (had : List Rule) (end : ℕ) (ts : List Token) (rules : List Rule) → rules_from n kinds had end ts ≡ Ok rules → IsBook had → IsBook rules
unfolding rules_from
rules_are_book n kinds had end [] rules h book = subst IsBook (ok_same had rules h) book
rules_are_book zero kinds had end (t ∷ ts) rules h book = cc
rules_are_book (suc n) kinds had end (t ∷ ts) rules h book =
    let step = bind_ok (rule_from kinds had end (t ∷ ts)) (λ found. rules_from n kinds (had ++ found.0 ∷ []) end found.1) rules h in
    rules_are_book n kinds (had ++ step.0.0 ∷ []) end step.0.1 rules step.2 (next_IsBook had step.0.0 book (rule_from_ok kinds had end (t ∷ ts) step.0 step.1))

pub no_rules_IsBook : IsBook []
no_rules_IsBook = record { few = omega arith; labels = λ i j d h k. absurd (omega arith); each = λ k d h. absurd (omega arith) }

-- ---- one rule after the other
pub rules_end : (n : ℕ) (kinds : List Kind) (had : List Rule) (end : ℕ) (ts : List CodeToken) → eqb (length ts) 0 ≡ true → rules_from n kinds had end (map seen ts) ≡ Ok had
unfolding rules_from
rules_end n kinds had end [] e = refl
rules_end n kinds had end (t ∷ ts) e = absurd (let f : suc (length ts) ≡ 0 = eqb-true (suc (length ts)) 0 e in omega arith)

rules_one : (n m : ℕ) (kinds : List Kind) (had : List Rule) (end : ℕ) (ts : List CodeToken) → n ≡ suc m → eqb (length ts) 0 ≡ false
    → rules_from n kinds had end (map seen ts) ≡ (rule_from kinds had end (map seen ts) >>= λ found. rules_from m kinds (had ++ found.0 ∷ []) end found.1)
unfolding rules_from
rules_one n m kinds had end [] e some = absurd (let ne : 0 ≡ 0 → ⊥ = eqb-false 0 0 some in ne refl)
rules_one n m kinds had end (t ∷ ts) e some = ap (λ k. rules_from k kinds had end (map seen (t ∷ ts))) e

pub rules_fault : (kinds : List Kind) (had : List Rule) (end : ℕ) (ts : List CodeToken) (e : BookFail) → length had ≤ most_rules → eqb (length ts) 0 ≡ false
    → rule_from kinds had end (map seen ts) ≡ Err e → rules_from ((most_rules + 1) - length had) kinds had end (map seen ts) ≡ Err e
rules_fault kinds had end ts e few some h = rules_one ((most_rules + 1) - length had) (most_rules - length had) kinds had end ts (omega arith) some ∙ (rw h refl)

pub rules_next : (kinds : List Kind) (had more : List Rule) (end : ℕ) (ts : List CodeToken) (rule : Rule) (rest : List Token) → length had ≤ most_rules → eqb (length ts) 0 ≡ false
    → rule_from kinds had end (map seen ts) ≡ Ok (rule, rest) → more ≡ had ++ rule ∷ [] → rules_from ((most_rules + 1) - length had) kinds had end (map seen ts) ≡ rules_from ((most_rules + 1) - length more) kinds more end rest
rules_next kinds had more end ts rule rest few some h is_more =
    let count : (most_rules + 1) - length more ≡ most_rules - length had = omega (arith, ap length is_more, length-append had (rule ∷ [])) in
    rules_one ((most_rules + 1) - length had) (most_rules - length had) kinds had end ts (omega arith) some ∙ (rw h refl)
    ∙ ap (λ r. rules_from (most_rules - length had) kinds r end rest) (sym is_more) ∙ ap (λ k. rules_from k kinds more end rest) (sym count)

-- a fault that was met is what the function gives
pub gives_fault : {Y : Type 0} (e : BookFail) (read : Result Y BookFail) → read ≡ Err e → FailsAs e read
gives_fault Memory read h = tt
gives_fault (Syntax k) read h = h
gives_fault (UnknownProperty k) read h = h
gives_fault (UnknownClient k) read h = h
gives_fault (SignatureMismatch k) read h = h
gives_fault (SameLabel k) read h = h
gives_fault (WeightRange k) read h = h
gives_fault (TooManyRules k) read h = h
