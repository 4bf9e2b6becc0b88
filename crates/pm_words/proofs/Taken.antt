-- Words of the program are at most five, and its command takes them.
use Rattle.std.proofs.Common.{◌≡◌, ◌≢◌, ◌∙◌, ℕ, zero, suc, ◌+◌, ◌<◌, ◌≤◌, Bool, true, false, List, [], ◌∷◌, ◌++◌, length, drop, Option, Some, None, is_none, refl, sym, ap, subst, arith, inl, inr, nat_eq, codes, fold, ◌&&◌, not, ◌==◌, cond, ◌||◌}
use Rattle.std.proofs.lemmas.Bool.{and_from, and_parts, cases_Bool, cond-true, cond-false}
use Rattle.std.proofs.lemmas.Slice.Eq.{bytes_eq-Decides}
use Rattle.std.specs.List.{starts_with, list_all}
use Rattle.std.specs.Prelude.{nat_le}
use Rattle.std.specs.Str.{bytes_eq}
use Rattle.clap.specs.Takes.{turn_passes, walk_passes}
use Rattle.clap.specs.Walk.{Row, Text, Walk, has_row, walked}
use Rattle.pm_store.specs.FileWords.{begins_file_word, is_file_byte, is_file_word}
use Rattle.pm_words.specs.Command.{are_taken}
use Rattle.pm_words.specs.Words.{WordsSeen, demo_number, nothing_said, with_demo, with_rules, with_trace, with_word, words_of}
use Rattle.pm_words.proofs.Inversions.{TraceBeside, RulesBeside, DemoBeside, trace_beside, rules_beside, demo_beside}
use Rattle.pm_words.proofs.Prefixes.{prefix_is}
use Rattle.pm_words.proofs.Walks.{between, demo_next, demo_settled, demo_settles, demo_turn, demo_value_next, demo_value_turn, demo_word_next, demo_word_turn, has_row-new, new_row, ruled, rules_next, rules_settled, rules_settles, rules_turn, rules_value_next, rules_value_turn, rules_word_next, rules_word_turn, settled_at, settles, shape, shown, trace_next, trace_turn, traced, waits_for}

-- ---- values begin with a byte that is no hyphen
record Begins (text : List ℕ) : Type 0 where
  first : ℕ
  rest : List ℕ
  text_is : text ≡ first ∷ rest
  other : first ≢ 45

begins : (name : List ℕ) → is_file_word name ≡ true → Begins name
begins [] h = cc
begins (b ∷ name) h =
    let parts = and_parts (begins_file_word (b ∷ name)) (nat_le (length (b ∷ name)) 64 && list_all is_file_byte (b ∷ name)) h in
    record {
      first = b;
      rest = name;
      text_is = refl;
      other = λ e. let bad : false ≡ true = subst (λ (x : ℕ). not (x == 45 || x == 46) ≡ true) e parts.0 in cc;
    }

numbered : (text : List ℕ) (n : ℕ) → demo_number text ≡ Some n → Begins text
numbered [] n h = cc
numbered (b ∷ c ∷ text) n h = cc
numbered (b ∷ []) n h =
    record {
      first = b;
      rest = [];
      text_is = refl;
      other = λ e. let bad : demo_number (45 ∷ []) ≡ Some n = subst (λ (x : ℕ). demo_number (x ∷ []) ≡ Some n) e h in cc;
    }

-- ---- the first word
-- what it is, beside others
data FirstWord (word : List ℕ) (others : Option WordsSeen) (said : WordsSeen) : Type 0 where
  trace : word ≡ codes "--trace" → TraceBeside others said → FirstWord word others said
  rules : (name : List ℕ) → word ≡ codes "--rules=" ++ name → RulesBeside name others said → FirstWord word others said
  demo : (text : List ℕ) → word ≡ codes "--demo=" ++ text → DemoBeside text others said → FirstWord word others said

demo_word : (word : List ℕ) (others : Option WordsSeen) (said : WordsSeen)
    → cond (starts_with nat_eq word (codes "--demo=")) (with_demo (drop 7 word) others) None ≡ Some said → FirstWord word others said
demo_word word others said e = elim (cases_Bool (starts_with nat_eq word (codes "--demo="))) [
  | inl h ↦
      demo (drop 7 word) (prefix_is word (codes "--demo=") h)
      (demo_beside (drop 7 word) others said (sym (cond-true (starts_with nat_eq word (codes "--demo=")) (with_demo (drop 7 word) others) None h) ∙ e))
  | inr h ↦ let none = cond-false (starts_with nat_eq word (codes "--demo=")) (with_demo (drop 7 word) others) None h in cc
]

value_word : (word : List ℕ) (others : Option WordsSeen) (said : WordsSeen)
    → cond (starts_with nat_eq word (codes "--rules=")) (with_rules (drop 8 word) others) (cond (starts_with nat_eq word (codes "--demo=")) (with_demo (drop 7 word) others) None) ≡ Some said → FirstWord word others said
value_word word others said e =
    let after = cond (starts_with nat_eq word (codes "--demo=")) (with_demo (drop 7 word) others) None in
    elim (cases_Bool (starts_with nat_eq word (codes "--rules="))) [
      | inl h ↦
          rules (drop 8 word) (prefix_is word (codes "--rules=") h)
          (rules_beside (drop 8 word) others said (sym (cond-true (starts_with nat_eq word (codes "--rules=")) (with_rules (drop 8 word) others) after h) ∙ e))
      | inr h ↦ demo_word word others said (sym (cond-false (starts_with nat_eq word (codes "--rules=")) (with_rules (drop 8 word) others) after h) ∙ e)
    ]

first_word : (word : List ℕ) (others : Option WordsSeen) (said : WordsSeen) → with_word word others ≡ Some said → FirstWord word others said
first_word word others said e =
    let after = cond (starts_with nat_eq word (codes "--rules=")) (with_rules (drop 8 word) others) (cond (starts_with nat_eq word (codes "--demo=")) (with_demo (drop 7 word) others) None) in
    elim (cases_Bool (bytes_eq word (codes "--trace"))) [
      | inl h ↦
          trace ((bytes_eq-Decides word (codes "--trace")).0 h)
          (trace_beside others said (sym (cond-true (bytes_eq word (codes "--trace")) (with_trace others) after h) ∙ e))
      | inr h ↦ value_word word others said (sym (cond-false (bytes_eq word (codes "--trace")) (with_trace others) after h) ∙ e)
    ]

-- ---- the first item: a word, or an option and its value
pub data FirstItem (words : List (List ℕ)) (said : WordsSeen) : Type 0 where
  traces : (rest : List (List ℕ)) → words ≡ codes "--trace" ∷ rest → TraceBeside (words_of rest) said → FirstItem words said
  rules_joined : (name : List ℕ) (rest : List (List ℕ)) → words ≡ (codes "--rules=" ++ name) ∷ rest → RulesBeside name (words_of rest) said → FirstItem words said
  rules_apart : (name : List ℕ) (rest : List (List ℕ)) → words ≡ codes "--rules" ∷ name ∷ rest → RulesBeside name (words_of rest) said → FirstItem words said
  demo_joined : (text : List ℕ) (rest : List (List ℕ)) → words ≡ (codes "--demo=" ++ text) ∷ rest → DemoBeside text (words_of rest) said → FirstItem words said
  demo_apart : (text : List ℕ) (rest : List (List ℕ)) → words ≡ codes "--demo" ∷ text ∷ rest → DemoBeside text (words_of rest) said → FirstItem words said

item_of : (word : List ℕ) (rest : List (List ℕ)) (said : WordsSeen) → FirstWord word (words_of rest) said → FirstItem (word ∷ rest) said
item_of word rest said (trace e beside) = traces rest (ap (λ (w : List ℕ). w ∷ rest) e) beside
item_of word rest said (rules name e beside) = rules_joined name rest (ap (λ (w : List ℕ). w ∷ rest) e) beside
item_of word rest said (demo text e beside) = demo_joined text rest (ap (λ (w : List ℕ). w ∷ rest) e) beside

demo_item : (word next : List ℕ) (rest : List (List ℕ)) (said : WordsSeen)
    → cond (bytes_eq word (codes "--demo")) (with_demo next (words_of rest)) (with_word word (words_of (next ∷ rest))) ≡ Some said → FirstItem (word ∷ next ∷ rest) said
demo_item word next rest said e = elim (cases_Bool (bytes_eq word (codes "--demo"))) [
  | inl h ↦
      demo_apart next rest (ap (λ (w : List ℕ). w ∷ next ∷ rest) ((bytes_eq-Decides word (codes "--demo")).0 h))
      (demo_beside next (words_of rest) said (sym (cond-true (bytes_eq word (codes "--demo")) (with_demo next (words_of rest)) (with_word word (words_of (next ∷ rest))) h) ∙ e))
  | inr h ↦
      item_of word (next ∷ rest) said
      (first_word word (words_of (next ∷ rest)) said (sym (cond-false (bytes_eq word (codes "--demo")) (with_demo next (words_of rest)) (with_word word (words_of (next ∷ rest))) h) ∙ e))
]

pub first_item : (word : List ℕ) (rest : List (List ℕ)) (said : WordsSeen) → words_of (word ∷ rest) ≡ Some said → FirstItem (word ∷ rest) said
first_item word [] said e = item_of word [] said (first_word word (Some nothing_said) said e)
first_item word (next ∷ rest) said e =
    let others = cond (bytes_eq word (codes "--demo")) (with_demo next (words_of rest)) (with_word word (words_of (next ∷ rest))) in
    elim (cases_Bool (bytes_eq word (codes "--rules"))) [
      | inl h ↦
          rules_apart next rest (ap (λ (w : List ℕ). w ∷ next ∷ rest) ((bytes_eq-Decides word (codes "--rules")).0 h))
          (rules_beside next (words_of rest) said (sym (cond-true (bytes_eq word (codes "--rules")) (with_rules next (words_of rest)) others h) ∙ e))
      | inr h ↦ demo_item word next rest said (sym (cond-false (bytes_eq word (codes "--rules")) (with_rules next (words_of rest)) others h) ∙ e)
    ]

-- ---- the walk
-- it passes the words, and ends between two options
record Passes (w : Walk) (words : List (List ℕ)) : Type 0 where
  passes : walk_passes shape [] w words ≡ true
  rows : List Row
  pending : Option (Text × List Text)
  skip : ℕ
  ends : fold (walked shape.rules []) w words ≡ between rows pending skip
  settled : settles rows pending skip ≡ true

one_word : (w next : Walk) (word : List ℕ) (rest : List (List ℕ)) → turn_passes shape [] w word ≡ true → walked shape.rules [] w word ≡ next → Passes next rest → Passes w (word ∷ rest)
unfolding walk_passes
one_word w next word rest turn is p =
    record {
      passes = and_from (turn_passes shape [] w word) (walk_passes shape [] (walked shape.rules [] w word) rest) turn (ap (λ (v : Walk). walk_passes shape [] v rest) is ∙ p.passes);
      rows = p.rows;
      pending = p.pending;
      skip = p.skip;
      ends = ap (λ (v : Walk). fold (walked shape.rules []) v rest) is ∙ p.ends;
      settled = p.settled;
    }

same_words : (w : Walk) (a b : List (List ℕ)) → a ≡ b → Passes w b → Passes w a
same_words w a b e h = subst (Passes w) (sym e) h

-- what is still said has no row
record IsNew (said : WordsSeen) (rows : List Row) : Type 0 where
  trace_new : said.trace ≡ true → has_row (codes "trace") rows ≡ false
  rules_new : (name : List ℕ) → said.rules ≡ Some name → has_row (codes "rules") rows ≡ false
  demo_new : (n : ℕ) → said.demo ≡ Some n → has_row (codes "demo") rows ≡ false

after_trace : (said other : WordsSeen) (rows : List Row) (values : List Text) → said ≡ record other { trace = true } → other.trace ≡ false → IsNew said rows → IsNew other (rows ++ new_row traced values ∷ [])
after_trace said other rows values is once new = record {
  trace_new = λ e. cc;
  rules_new = λ name e. has_row-new (codes "rules") rows traced values (new.rules_new name (ap (λ (s : WordsSeen). s.rules) is ∙ e)) refl;
  demo_new = λ n e. has_row-new (codes "demo") rows traced values (new.demo_new n (ap (λ (s : WordsSeen). s.demo) is ∙ e)) refl;
}

after_rules : (said other : WordsSeen) (name : List ℕ) (rows : List Row) (values : List Text) → said ≡ record other { rules = Some name } → other.rules ≡ None → IsNew said rows → IsNew other (rows ++ new_row ruled values ∷ [])
after_rules said other name rows values is once new = record {
  trace_new = λ e. has_row-new (codes "trace") rows ruled values (new.trace_new (ap (λ (s : WordsSeen). s.trace) is ∙ e)) refl;
  rules_new = λ name e. cc;
  demo_new = λ n e. has_row-new (codes "demo") rows ruled values (new.demo_new n (ap (λ (s : WordsSeen). s.demo) is ∙ e)) refl;
}

after_demo : (said other : WordsSeen) (number : ℕ) (rows : List Row) (values : List Text) → said ≡ record other { demo = Some number } → other.demo ≡ None → IsNew said rows → IsNew other (rows ++ new_row shown values ∷ [])
after_demo said other number rows values is once new = record {
  trace_new = λ e. has_row-new (codes "trace") rows shown values (new.trace_new (ap (λ (s : WordsSeen). s.trace) is ∙ e)) refl;
  rules_new = λ name e. has_row-new (codes "rules") rows shown values (new.rules_new name (ap (λ (s : WordsSeen). s.rules) is ∙ e)) refl;
  demo_new = λ n e. cc;
}

-- from between two options, words that say what has no row so far are passed
abbrev Passed : List (List ℕ) → WordsSeen → Type 0
Passed words said = (rows : List Row) (p : Option (Text × List Text)) (k : ℕ) → settles rows p k ≡ true → IsNew said (settled_at rows p) → Passes (between rows p k) words

pass_trace : (rest : List (List ℕ)) (said other : WordsSeen) → said ≡ record other { trace = true } → other.trace ≡ false → Passed rest other → Passed (codes "--trace" ∷ rest) said
pass_trace rest said other is once others rows p k s new =
    let free = new.trace_new (ap (λ (x : WordsSeen). x.trace) is) in
    let now = settled_at rows p ++ new_row traced (codes "true" ∷ []) ∷ [] in
    one_word (between rows p k) (between now None k) (codes "--trace") rest (trace_turn rows p k s free) (trace_next rows p k free)
    (others now None k refl (after_trace said other (settled_at rows p) (codes "true" ∷ []) is once new))

pass_rules : (name : List ℕ) (rest : List (List ℕ)) (said other : WordsSeen) → said ≡ record other { rules = Some name } → other.rules ≡ None → Passed rest other → Passed ((codes "--rules=" ++ name) ∷ rest) said
pass_rules name rest said other is once others rows p k s new =
    let free = new.rules_new name (ap (λ (x : WordsSeen). x.rules) is) in
    let now = settled_at rows p ++ new_row ruled (name ∷ []) ∷ [] in
    one_word (between rows p k) (between now None k) (codes "--rules=" ++ name) rest (rules_turn rows p k name s free) (rules_next rows p k name free)
    (others now None k refl (after_rules said other name (settled_at rows p) (name ∷ []) is once new))

pass_demo : (text : List ℕ) (n : ℕ) (rest : List (List ℕ)) (said other : WordsSeen) → said ≡ record other { demo = Some n } → other.demo ≡ None → Passed rest other → Passed ((codes "--demo=" ++ text) ∷ rest) said
pass_demo text n rest said other is once others rows p k s new =
    let free = new.demo_new n (ap (λ (x : WordsSeen). x.demo) is) in
    let now = settled_at rows p ++ new_row shown (text ∷ []) ∷ [] in
    one_word (between rows p k) (between now None k) (codes "--demo=" ++ text) rest (demo_turn rows p k text s free) (demo_next rows p k text free)
    (others now None k refl (after_demo said other n (settled_at rows p) (text ∷ []) is once new))

rules_value : (b : ℕ) (name : List ℕ) (rest : List (List ℕ)) (said other : WordsSeen) → b ≢ 45 → said ≡ record other { rules = Some (b ∷ name) } → other.rules ≡ None → Passed rest other → Passed (codes "--rules" ∷ (b ∷ name) ∷ rest) said
rules_value b name rest said other h is once others rows p k s new =
    let now = settled_at rows p in
    let free = new.rules_new (b ∷ name) (ap (λ (x : WordsSeen). x.rules) is) in
    let after = after_rules said other (b ∷ name) now ((b ∷ name) ∷ []) is once new in
    one_word (between rows p k) (waits_for (codes "rules") now k) (codes "--rules") ((b ∷ name) ∷ rest) (rules_word_turn rows p k s) (rules_word_next rows p k)
    (one_word (waits_for (codes "rules") now k) (between now (Some (codes "rules", (b ∷ name) ∷ [])) k) (b ∷ name) rest (rules_value_turn now k b name h) (rules_value_next now k b name h)
    (others now (Some (codes "rules", (b ∷ name) ∷ [])) k (rules_settles now k (b ∷ name) free) (subst (IsNew other) (sym (rules_settled now (b ∷ name) free)) after)))

demo_value : (b : ℕ) (text : List ℕ) (n : ℕ) (rest : List (List ℕ)) (said other : WordsSeen) → b ≢ 45 → said ≡ record other { demo = Some n } → other.demo ≡ None → Passed rest other → Passed (codes "--demo" ∷ (b ∷ text) ∷ rest) said
demo_value b text n rest said other h is once others rows p k s new =
    let now = settled_at rows p in
    let free = new.demo_new n (ap (λ (x : WordsSeen). x.demo) is) in
    let after = after_demo said other n now ((b ∷ text) ∷ []) is once new in
    one_word (between rows p k) (waits_for (codes "demo") now k) (codes "--demo") ((b ∷ text) ∷ rest) (demo_word_turn rows p k s) (demo_word_next rows p k)
    (one_word (waits_for (codes "demo") now k) (between now (Some (codes "demo", (b ∷ text) ∷ [])) k) (b ∷ text) rest (demo_value_turn now k b text h) (demo_value_next now k b text h)
    (others now (Some (codes "demo", (b ∷ text) ∷ [])) k (demo_settles now k (b ∷ text) free) (subst (IsNew other) (sym (demo_settled now (b ∷ text) free)) after)))

pass_rules_apart : (name : List ℕ) (rest : List (List ℕ)) (said other : WordsSeen) → is_file_word name ≡ true → said ≡ record other { rules = Some name } → other.rules ≡ None → Passed rest other → Passed (codes "--rules" ∷ name ∷ rest) said
pass_rules_apart name rest said other h is once others =
    let b = begins name h in
    subst (λ (n : List ℕ). said ≡ record other { rules = Some n } → Passed (codes "--rules" ∷ n ∷ rest) said) (sym b.text_is)
    (λ is. rules_value b.first b.rest rest said other b.other is once others) is

pass_demo_apart : (text : List ℕ) (n : ℕ) (rest : List (List ℕ)) (said other : WordsSeen) → demo_number text ≡ Some n → said ≡ record other { demo = Some n } → other.demo ≡ None → Passed rest other → Passed (codes "--demo" ∷ text ∷ rest) said
pass_demo_apart text n rest said other h is once others =
    let b = numbered text n h in
    subst (λ (t : List ℕ). Passed (codes "--demo" ∷ t ∷ rest) said) (sym b.text_is) (demo_value b.first b.rest n rest said other b.other is once others)

fewer : (n : ℕ) (words more : List (List ℕ)) → words ≡ more → length words < suc n → length more < suc n
fewer n words more e h = subst (λ (ws : List (List ℕ)). length ws < suc n) e h

nothing_walked : (w : Walk) → walk_passes shape [] w [] ≡ true
unfolding walk_passes
nothing_walked w = refl

all_passed : (n : ℕ) (words : List (List ℕ)) (said : WordsSeen) → length words < n → words_of words ≡ Some said → Passed words said
all_passed zero words said h e rows p k s new = absurd (omega arith)
all_passed (suc n) [] said h e rows p k s new = record { passes = nothing_walked (between rows p k); rows = rows; pending = p; skip = k; ends = refl; settled = s }
all_passed (suc n) (word ∷ rest) said h e rows p k s new = elim (first_item word rest said e) [
  | traces others is b ↦
      let l = fewer n (word ∷ rest) (codes "--trace" ∷ others) is h in
      same_words (between rows p k) (word ∷ rest) (codes "--trace" ∷ others) is (pass_trace others said b.other b.said_is b.once (all_passed n others b.other (omega arith) b.other_is) rows p k s new)
  | rules_joined name others is b ↦
      let l = fewer n (word ∷ rest) ((codes "--rules=" ++ name) ∷ others) is h in
      same_words (between rows p k) (word ∷ rest) ((codes "--rules=" ++ name) ∷ others) is (pass_rules name others said b.other b.said_is b.once (all_passed n others b.other (omega arith) b.other_is) rows p k s new)
  | rules_apart name others is b ↦
      let l = fewer n (word ∷ rest) (codes "--rules" ∷ name ∷ others) is h in
      same_words (between rows p k) (word ∷ rest) (codes "--rules" ∷ name ∷ others) is
      (pass_rules_apart name others said b.other b.named b.said_is b.once (all_passed n others b.other (omega arith) b.other_is) rows p k s new)
  | demo_joined text others is b ↦
      let l = fewer n (word ∷ rest) ((codes "--demo=" ++ text) ∷ others) is h in
      same_words (between rows p k) (word ∷ rest) ((codes "--demo=" ++ text) ∷ others) is
      (pass_demo text b.number others said b.other b.said_is b.once (all_passed n others b.other (omega arith) b.other_is) rows p k s new)
  | demo_apart text others is b ↦
      let l = fewer n (word ∷ rest) (codes "--demo" ∷ text ∷ others) is h in
      same_words (between rows p k) (word ∷ rest) (codes "--demo" ∷ text ∷ others) is
      (pass_demo_apart text b.number others said b.other b.numbered b.said_is b.once (all_passed n others b.other (omega arith) b.other_is) rows p k s new)
]

nothing_yet : (said : WordsSeen) → IsNew said (settled_at [] None)
nothing_yet said = record { trace_new = λ e. refl; rules_new = λ name e. refl; demo_new = λ n e. refl }

passed_is_taken : (words : List (List ℕ)) → Passes (between [] None 0) words → are_taken words ≡ true
unfolding are_taken
passed_is_taken words p = rw (p.ends, p.passes, p.settled) refl

-- the command takes words of the program
pub words_are_taken : (words : List (List ℕ)) (said : WordsSeen) → words_of words ≡ Some said → are_taken words ≡ true
words_are_taken words said e = passed_is_taken words (all_passed (suc (length words)) words said (omega arith) e [] None 0 refl (nothing_yet said))

-- ---- how many words say it
abbrev count : Bool → ℕ → ℕ
count said k = cond said k 0

abbrev size : WordsSeen → ℕ
size said = count said.trace 1 + count (not (is_none said.rules)) 2 + count (not (is_none said.demo)) 2

size_trace : (said other : WordsSeen) → said ≡ record other { trace = true } → other.trace ≡ false → size said ≡ suc (size other)
size_trace said other is once = ap size is ∙ rw once (omega arith)

size_rules : (said other : WordsSeen) (name : List ℕ) → said ≡ record other { rules = Some name } → other.rules ≡ None → size said ≡ suc (suc (size other))
size_rules said other name is once = ap size is ∙ rw once (omega arith)

size_demo : (said other : WordsSeen) (n : ℕ) → said ≡ record other { demo = Some n } → other.demo ≡ None → size said ≡ suc (suc (size other))
size_demo said other n is once = ap size is ∙ rw once (omega arith)

are_few : (n : ℕ) (words : List (List ℕ)) (said : WordsSeen) → length words < n → words_of words ≡ Some said → length words ≤ size said
are_few zero words said h e = absurd (omega arith)
are_few (suc n) [] said h e = omega arith
are_few (suc n) (word ∷ rest) said h e = elim (first_item word rest said e) [
  | traces others is b ↦
      let l : length (word ∷ rest) ≡ suc (length others) = ap length is in
      let m = size_trace said b.other b.said_is b.once in
      let f = are_few n others b.other (omega arith) b.other_is in
      omega arith
  | rules_joined name others is b ↦
      let l : length (word ∷ rest) ≡ suc (length others) = ap length is in
      let m = size_rules said b.other name b.said_is b.once in
      let f = are_few n others b.other (omega arith) b.other_is in
      omega arith
  | rules_apart name others is b ↦
      let l : length (word ∷ rest) ≡ suc (suc (length others)) = ap length is in
      let m = size_rules said b.other name b.said_is b.once in
      let f = are_few n others b.other (omega arith) b.other_is in
      omega arith
  | demo_joined text others is b ↦
      let l : length (word ∷ rest) ≡ suc (length others) = ap length is in
      let m = size_demo said b.other b.number b.said_is b.once in
      let f = are_few n others b.other (omega arith) b.other_is in
      omega arith
  | demo_apart text others is b ↦
      let l : length (word ∷ rest) ≡ suc (suc (length others)) = ap length is in
      let m = size_demo said b.other b.number b.said_is b.once in
      let f = are_few n others b.other (omega arith) b.other_is in
      omega arith
]

count_most : (said : Bool) (k : ℕ) → count said k ≤ k
count_most true k = omega arith
count_most false k = omega arith

size_most : (said : WordsSeen) → size said ≤ 5
size_most said =
    let t = count_most said.trace 1 in
    let r = count_most (not (is_none said.rules)) 2 in
    let d = count_most (not (is_none said.demo)) 2 in
    omega arith

-- ---- words that are refused
-- words that the command does not take are none of the program
pub not_taken : (words : List (List ℕ)) → are_taken words ≢ true → words_of words ≡ None
not_taken words out = elim (words_of words) as (λ o. words_of words ≡ o → o ≡ None) [ None ↦ λ e. refl | Some said ↦ λ e. absurd (out (words_are_taken words said e)) ] refl

-- nor are more than five
pub too_many : (words : List (List ℕ)) → 5 < length words → words_of words ≡ None
too_many words many = elim (words_of words) as (λ o. words_of words ≡ o → o ≡ None) [
  | None ↦ λ e. refl
  | Some said ↦ λ e. let few = are_few (suc (length words)) words said (omega arith) e in let most = size_most said in absurd (omega arith)
] refl
