-- What opens the reply to a command, and that no later line of such a reply does.
use Rattle.std.proofs.Common.{ap, eqb, refl, sym, true≢false, ℕ, List, [], ◌∷◌, ◌++◌, Bool, true, false, not, ◌≡◌, ◌∙◌, ◌&&◌, ◌||◌, if◌then◌else◌, codes, inl, inr, flat_map}
use Rattle.std.proofs.lemmas.Bool.{and_parts, and_from, cases_Bool, eq-eqb, eqb-true}
use Rattle.pm_books.specs.Writing.{line_of, spaced, text_of, written_of}
use Rattle.pm_books.specs.Grammar.{words_behind_label}
use Rattle.pm_command.specs.Commands.{Spoken, give_value, ensure_values, explain_values, tell_history, show_object, tell_evidence, build_object}
use Rattle.pm_command.specs.Grammar.{ref_text}
use Rattle.pm_command.specs.Words.{is_name, is_name_byte}
use Rattle.pm_object.specs.State.{RoundSeen}
use Rattle.pm_props.specs.declared.kind.RuleId.{RuleId}
use Rattle.pm_rules.specs.Words.{is_word}
use Rattle.pm_rules.specs.declared.rule.Rule.{Rule}
use Rattle.pm_rules.specs.declared.table.TableRow.{TableRow}
use Rattle.pm_object.specs.declared.held.Excluded.{Excluded}
use Rattle.pm_script.specs.declared.names.Bar.{Bar}
use Rattle.pm_script.specs.Replies.{NamesSeen, barred_text, end_text, place_text, spaced_label, evidence_line, excluded_text, ignored_text, round_text, rule_text, spaced_name, table_row_text, told_name}
use Rattle.pm_weights.specs.Weights.{cost_text}
use Rattle.serde_json.specs.Data.{string}
use Rattle.serde_json.specs.Written.{compact_text}
use Rattle.pm_laws_replies.specs.Told.{NamesAreOneLine, is_in_line, is_one_line}
use Rattle.pm_laws_replies.proofs.Lines.{Later, Whole, more, none, whole_append}
use Rattle.pm_laws_replies.proofs.OneLine.{first_of, high_first, low_first, no_space, plain_json, plain_map}
use Rattle.pm_laws_replies.proofs.Words.{all_more, name_bytes, plain_word}
use Rattle.pm_laws_replies.proofs.Blocks.{is_barred_line, is_evidence_line, is_excluded_line, is_round, is_row_line, is_rule_line, later_all, later_map, low_append, low_cost}
use Rattle.std.proofs.Math.Bool.{and-false}

-- ---- heads of texts
abbrev pub starts : List ℕ → List ℕ → Bool
starts [] text = true
starts (a ∷ word) [] = false
starts (a ∷ word) (b ∷ text) = eqb a b && starts word text

abbrev pub behind_space : List ℕ → Bool
behind_space [] = false
behind_space (b ∷ text) = eqb b 32 && high_first text

-- the text begins with the name, a space and a byte from `A` on
abbrev pub named : List ℕ → List ℕ → Bool
named [] text = behind_space text
named (a ∷ name) [] = false
named (a ∷ name) (b ∷ text) = eqb a b && named name text

-- `ok`, `object`, or `no`
abbrev pub opens_ok : List ℕ → Bool
opens_ok text = first_of 111 110 text

-- `plan`, or `no`
abbrev pub opens_plan : List ℕ → Bool
opens_plan text = first_of 112 110 text

abbrev pub opens_history : List ℕ → Bool
opens_history text = starts (codes "rounds") text || starts (codes "no ") text

abbrev pub opens_value : List ℕ → List ℕ → Bool
opens_value name text = starts (codes "no ") text || named name text

abbrev pub opens_any : List ℕ → Bool
opens_any text = true

abbrev pub opens_of : Spoken → List ℕ → Bool
opens_of (give_value ref text) = opens_value (ref_text ref)
opens_of (ensure_values ref words) = opens_ok
opens_of (build_object builder names to) = opens_ok
opens_of (explain_values ref words) = opens_plan
opens_of (tell_history name) = opens_history
opens_of (show_object name) = opens_ok
opens_of (tell_evidence name label) = opens_ok
opens_of command = opens_any

-- ---- names, and what is none
eqb_same : (n : ℕ) → eqb n n ≡ true
eqb_same n = eq-eqb n n refl

pub named_own : (name text : List ℕ) → named name (name ++ 32 ∷ text) ≡ high_first text
named_own [] text = refl
named_own (a ∷ name) text = ap (λ b. b && named name (name ++ 32 ∷ text)) (eqb_same a) ∙ named_own name text

spaced_not : (b : ℕ) → not (eqb b 32) ≡ true → eqb b 32 ≡ false
spaced_not b h = by (eqb b 32) h
  where
    by : (c : Bool) → not c ≡ true → c ≡ false
    by true h = absurd (true≢false (sym h))
    by false h = refl

pub not_named : (name word text : List ℕ) → no_space name ≡ true → no_space word ≡ true → high_first text ≡ false → named name (word ++ 32 ∷ text) ≡ false
not_named [] [] text h k l = l
not_named [] (b ∷ word) text h k l = ap (λ c. c && high_first (word ++ 32 ∷ text)) (spaced_not b (and_parts (not (eqb b 32)) (no_space word) k).0)
not_named (a ∷ name) [] text h k l = ap (λ c. c && named name text) (spaced_not a (and_parts (not (eqb a 32)) (no_space name) h).0)
not_named (a ∷ name) (b ∷ word) text h k l =
    ap (λ c. eqb a b && c) (not_named name word text (and_parts (not (eqb a 32)) (no_space name) h).1 (and_parts (not (eqb b 32)) (no_space word) k).1 l) ∙ and-false (eqb a b)

pub nowhere_named : (name text : List ℕ) → no_space text ≡ true → named name text ≡ false
nowhere_named [] [] k = refl
nowhere_named [] (b ∷ text) k = ap (λ c. c && high_first text) (spaced_not b (and_parts (not (eqb b 32)) (no_space text) k).0)
nowhere_named (a ∷ name) [] k = refl
nowhere_named (a ∷ name) (b ∷ text) k = ap (λ c. eqb a b && c) (nowhere_named name text (and_parts (not (eqb b 32)) (no_space text) k).1) ∙ and-false (eqb a b)

-- a word alone in its line is no name before a value
pub not_named_line : (name word text : List ℕ) → is_one_line name ≡ true → no_space word ≡ true → named name (word ++ 10 ∷ text) ≡ false
not_named_line [] [] text h k = refl
not_named_line [] (b ∷ word) text h k = ap (λ c. c && high_first (word ++ 10 ∷ text)) (spaced_not b (and_parts (not (eqb b 32)) (no_space word) k).0)
not_named_line (a ∷ name) [] text h k = ap (λ c. c && named name text) (not_lf a (and_parts (is_in_line a) (is_one_line name) h).0)
  where
    not_lf : (a : ℕ) → is_in_line a ≡ true → eqb a 10 ≡ false
    not_lf a h = by (eqb a 10) h
      where
        by : (c : Bool) → not c ≡ true → c ≡ false
        by true h = absurd (true≢false (sym h))
        by false h = refl
not_named_line (a ∷ name) (b ∷ word) text h k =
    ap (λ c. eqb a b && c) (not_named_line name word text (and_parts (is_in_line a) (is_one_line name) h).1 (and_parts (not (eqb b 32)) (no_space word) k).1) ∙ and-false (eqb a b)

pub low_not_high : (text : List ℕ) → low_first text ≡ true → high_first text ≡ false
low_not_high [] h = refl
low_not_high (b ∷ text) h = ap not h

-- a name has no space
not_space : (b : ℕ) → is_name_byte b ≡ true → not (eqb b 32) ≡ true
not_space b h = elim (cases_Bool (eqb b 32)) [
  | inl e ↦ absurd (true≢false (sym h ∙ ap is_name_byte (eqb-true b 32 e)))
  | inr e ↦ ap not e
]

pub unspaced_name : (name : List ℕ) → is_name name ≡ true → no_space name ≡ true
unspaced_name [] h = refl
unspaced_name (b ∷ name) h =
    let bytes = name_bytes b name h in
    and_from (not (eqb b 32)) (no_space name) (not_space b bytes.0) (all_more is_name_byte (λ c. not (eqb c 32)) not_space name bytes.1)

-- ---- the book
empty_line : (x : List ℕ) → [] ≡ x ++ 10 ∷ [] → ⊥
empty_line [] e = cc
empty_line (b ∷ x) e = cc

onto_whole : (b : ℕ) (x : List ℕ) → Whole (x ++ 10 ∷ []) → not (eqb b 10) ≡ true → Whole (b ∷ (x ++ 10 ∷ []))
onto_whole b x (none e) h = absurd (empty_line x (sym e))
onto_whole b x (more line rest e o w) h = more (b ∷ line) rest (ap (λ z. b ∷ z) e) (and_from (is_in_line b) (is_one_line line) h o) w

-- what ends with an LF is whole lines
pub whole_end : (x : List ℕ) → Whole (x ++ 10 ∷ [])
whole_end [] = more [] [] refl refl (none refl)
whole_end (b ∷ x) = elim (cases_Bool (eqb b 10)) [
  | inl e ↦ more [] (x ++ 10 ∷ []) (ap (λ z. z ∷ (x ++ 10 ∷ [])) (eqb-true b 10 e)) refl (whole_end x)
  | inr e ↦ onto_whole b x (whole_end x) (ap not e)
]

whole_rule : (rule : Rule) → Whole (line_of rule)
unfolding line_of
whole_rule rule = whole_end (rule.label ++ spaced (words_behind_label (written_of rule)))

pub whole_book : (book : List Rule) → Whole (text_of book)
whole_book [] = none refl
whole_book (rule ∷ book) = whole_append (whole_rule rule) (whole_book book)

-- ---- what was read over
pub plain_told : (name : List ℕ) → is_one_line (told_name name) ≡ true
plain_told name = elim (cases_Bool (is_word name)) [
  | inl e ↦ ap (λ b. is_one_line (if b then name else compact_text (string name))) e ∙ plain_word name e
  | inr e ↦ ap (λ b. is_one_line (if b then name else compact_text (string name))) e ∙ plain_json (string name)
]

pub plain_ignored : (names : List (List ℕ)) → is_one_line (ignored_text names) ≡ true
plain_ignored [] = refl
plain_ignored (name ∷ names) = plain_map spaced_name plain_told (name ∷ names)

-- ---- the lines behind each first line
module _ (names : NamesSeen) (lines : NamesAreOneLine names) where
  pub later_rounds_ok : (rs : List RoundSeen) → Later opens_ok (flat_map (round_text names) rs)
  later_rounds_ok rs = later_all opens_ok (round_text names) (is_round names lines) (λ r rest. refl) rs

  pub later_rounds_value : (name : List ℕ) → no_space name ≡ true → (rs : List RoundSeen) → Later (opens_value name) (flat_map (round_text names) rs)
  later_rounds_value name h rs = later_all (opens_value name) (round_text names) (is_round names lines) shut rs
    where
      shut : (r : RoundSeen) (rest : List ℕ) → opens_value name (round_text names r ++ rest) ≡ false
      shut r rest =
          let c = cost_text r.weight in
          let l1 = c ++ place_text names r.sub in
          let l2 = l1 ++ codes ":" in
          let l3 = l2 ++ flat_map (spaced_label names) r.chain in
          let l4 = l3 ++ codes " -> " in
          let l5 = l4 ++ end_text names r.end in
          let l6 = l5 ++ codes "\n" in
          let low : low_first (l6 ++ rest) ≡ true = low_append l6 rest (low_append l5 (codes "\n") (low_append l4 (end_text names r.end) (low_append l3 (codes " -> ")
          (low_append l2 (flat_map (spaced_label names) r.chain) (low_append l1 (codes ":") (low_append c (place_text names r.sub) (low_cost r.weight))))))) in
          not_named name (codes "round") (l6 ++ rest) h refl (low_not_high (l6 ++ rest) low)

  pub later_plan : (chain : List RuleId) (rows : List TableRow) → Later opens_plan (flat_map (rule_text names) chain ++ flat_map table_row_text rows)
  later_plan chain rows = later_map opens_plan (rule_text names) (is_rule_line names lines) (λ r rest. refl) chain (flat_map table_row_text rows) (later_all opens_plan table_row_text is_row_line (λ r rest. refl) rows)

  pub later_barred : (barred : List (RuleId × Bar)) (rows : List TableRow) → Later opens_plan (flat_map (barred_text names) barred ++ flat_map table_row_text rows)
  later_barred barred rows = later_map opens_plan (barred_text names) (is_barred_line names lines) (λ r rest. refl) barred (flat_map table_row_text rows) (later_all opens_plan table_row_text is_row_line (λ r rest. refl) rows)

  pub later_history : (rs : List RoundSeen) (excluded : List Excluded) → Later opens_history (flat_map (round_text names) rs ++ flat_map (excluded_text names) excluded)
  later_history rs excluded = later_map opens_history (round_text names) (is_round names lines) (λ r rest. refl) rs (flat_map (excluded_text names) excluded)
      (later_all opens_history (excluded_text names) (is_excluded_line names lines) (λ r rest. refl) excluded)

  pub later_evidence : (excluded : List Excluded) → Later opens_ok (flat_map (evidence_line names) excluded)
  later_evidence excluded = later_all opens_ok (evidence_line names) (is_evidence_line names lines) (λ r rest. refl) excluded
