-- The names that were read over are told by the reply to `load`.
use Rattle.std.proofs.Common.{ap, ap₂, append_assoc, codes, eqb, refl, sym, true≢false, ℕ, List, [], ◌∷◌, ◌++◌, Bool, true, false, not, ◌≡◌, ◌∙◌, Some, if◌then◌else◌, inl, inr, flat_map}
use Rattle.std.specs.List.{list_all}
use Rattle.std.proofs.lemmas.Bool.{and_parts, and_from, cases_Bool, eqb-true}
use Rattle.std.proofs.lemmas.List.{append_cancel_left, append_cancel_right}
use Rattle.json.proofs.Printed.Strings.{content-escape}
use Rattle.json.specs.Print.{escape, quoted}
use Rattle.json.specs.Text.{content, plain}
use Rattle.pm_rules.specs.Words.{is_letter, is_word, is_word_byte}
use Rattle.pm_script.specs.Replies.{ignored_text, spaced_name, told_name}
use Rattle.serde_json.specs.Data.{string}
use Rattle.serde_json.specs.Written.{compact_text}
use Rattle.pm_laws_replies.specs.Told.{LoadedNamesAreTold}
use Rattle.pm_laws_replies.proofs.OneLine.{no_space}
use Rattle.pm_laws_replies.proofs.Words.{all_more}

-- ---- a word has no space, and is in no quotes
no_space_byte : (b : ℕ) → is_word_byte b ≡ true → not (eqb b 32) ≡ true
no_space_byte b h = elim (cases_Bool (eqb b 32)) [
  | inl e ↦ absurd (true≢false (sym h ∙ ap is_word_byte (eqb-true b 32 e)))
  | inr e ↦ ap not e
]

no_space_letter : (b : ℕ) → is_letter b ≡ true → not (eqb b 32) ≡ true
no_space_letter b h = elim (cases_Bool (eqb b 32)) [
  | inl e ↦ absurd (true≢false (sym h ∙ ap is_letter (eqb-true b 32 e)))
  | inr e ↦ ap not e
]

unspaced_word : (name : List ℕ) → is_word name ≡ true → no_space name ≡ true
unspaced_word [] h = refl
unspaced_word (b ∷ name) h =
    let both = and_parts (is_letter b) (list_all is_word_byte name) h in
    and_from (not (eqb b 32)) (no_space name) (no_space_letter b both.0) (all_more is_word_byte (λ c. not (eqb c 32)) no_space_byte name both.1)

not_quoted : (name x y : List ℕ) → is_word name ≡ true → name ++ x ≡ 34 ∷ y → ⊥
not_quoted [] x y h e = true≢false (sym h)
not_quoted (b ∷ name) x y h e =
    let same : b ≡ 34 = cc in
    true≢false (sym (and_parts (is_letter b) (list_all is_word_byte name) h).0 ∙ ap is_letter same)

-- ---- where a name ends
-- nothing stands there, or a space
abbrev ends_name : List ℕ → Bool
ends_name [] = true
ends_name (b ∷ text) = eqb b 32

ends_before : (names : List (List ℕ)) → ends_name (flat_map spaced_name names) ≡ true
ends_before [] = refl
ends_before (name ∷ names) = refl

no_end : (b : ℕ) (c x y : List ℕ) → ends_name x ≡ true → no_space (b ∷ c) ≡ true → x ≡ (b ∷ c) ++ y → ⊥
no_end b c [] y h k e = cc
no_end b c (a ∷ x) y h k e =
    let same : a ≡ b = cc in
    true≢false (sym (and_parts (not (eqb b 32)) (no_space c) k).0 ∙ ap not (ap (λ z. eqb z 32) (sym same) ∙ h))

same_word : (a b x y : List ℕ) → no_space a ≡ true → no_space b ≡ true → ends_name x ≡ true → ends_name y ≡ true → a ++ x ≡ b ++ y → (a ≡ b) × (x ≡ y)
same_word [] [] x y h k o p e = (refl, e)
same_word [] (c ∷ b) x y h k o p e = absurd (no_end c b x y o k e)
same_word (c ∷ a) [] x y h k o p e = absurd (no_end c a y x p h (sym e))
same_word (c ∷ a) (d ∷ b) x y h k o p e =
    let same : c ≡ d = cc in
    let tails : a ++ x ≡ b ++ y = cc in
    let r = same_word a b x y (and_parts (not (eqb c 32)) (no_space a) h).1 (and_parts (not (eqb d 32)) (no_space b) k).1 o p tails in
    let s = r.0 in
    (cc, r.1)

-- a quoted text ends by itself
some_same : {X : Type 0} {a b : X} → Some a ≡ Some b → a ≡ b
some_same e = cc

rest_same : (a : ℕ) (x y : List ℕ) → a ∷ x ≡ a ∷ y → x ≡ y
rest_same a x y e = cc

same_quoted : (a b x y : List ℕ) → quoted a ++ x ≡ quoted b ++ y → (a ≡ b) × (x ≡ y)
same_quoted a b x y e =
    let inner : escape a ++ 34 ∷ x ≡ escape b ++ 34 ∷ y =
    sym (append_assoc (escape a) (34 ∷ []) x) ∙ rest_same 34 ((escape a ++ 34 ∷ []) ++ x) ((escape b ++ 34 ∷ []) ++ y) e ∙ append_assoc (escape b) (34 ∷ []) y in
    let same : a ≡ b = some_same (sym (content-escape a x) ∙ ap (content plain) inner ∙ content-escape b y) in
    (same, append_cancel_left (quoted b) x y (ap (λ z. quoted z ++ x) (sym same) ∙ e))

-- ---- the names
told_word : (name : List ℕ) → is_word name ≡ true → told_name name ≡ name
told_word name e = ap (λ b. if b then name else compact_text (string name)) e

told_text : (name : List ℕ) → is_word name ≡ false → told_name name ≡ quoted name
told_text name e = ap (λ b. if b then name else compact_text (string name)) e

same_name : (a b x y : List ℕ) → ends_name x ≡ true → ends_name y ≡ true → told_name a ++ x ≡ told_name b ++ y → (a ≡ b) × (x ≡ y)
same_name a b x y o p e = elim (cases_Bool (is_word a)) [
  | inl h ↦ elim (cases_Bool (is_word b)) [
    | inl k ↦ same_word a b x y (unspaced_word a h) (unspaced_word b k) o p (ap (λ z. z ++ x) (sym (told_word a h)) ∙ e ∙ ap (λ z. z ++ y) (told_word b k))
    | inr k ↦ absurd (not_quoted a x ((escape b ++ 34 ∷ []) ++ y) h (ap (λ z. z ++ x) (sym (told_word a h)) ∙ e ∙ ap (λ z. z ++ y) (told_text b k)))
  ]
  | inr h ↦ elim (cases_Bool (is_word b)) [
    | inl k ↦ absurd (not_quoted b y ((escape a ++ 34 ∷ []) ++ x) k (ap (λ z. z ++ y) (sym (told_word b k)) ∙ sym e ∙ ap (λ z. z ++ x) (told_text a h)))
    | inr k ↦ same_quoted a b x y (ap (λ z. z ++ x) (sym (told_text a h)) ∙ e ∙ ap (λ z. z ++ y) (told_text b k))
  ]
]

same_names : (names others : List (List ℕ)) → flat_map spaced_name names ≡ flat_map spaced_name others → names ≡ others
same_names [] [] e = refl
same_names [] (b ∷ others) e = cc
same_names (a ∷ names) [] e = cc
same_names (a ∷ names) (b ∷ others) e =
    let r = same_name a b (flat_map spaced_name names) (flat_map spaced_name others) (ends_before names) (ends_before others)
    (rest_same 32 (told_name a ++ flat_map spaced_name names) (told_name b ++ flat_map spaced_name others) e) in
    ap₂ (λ p q. p ∷ q) r.0 (same_names names others r.1)

same_ignored : (names others : List (List ℕ)) → ignored_text names ≡ ignored_text others → names ≡ others
same_ignored [] [] e = refl
same_ignored [] (b ∷ others) e = cc
same_ignored (a ∷ names) [] e = cc
same_ignored (a ∷ names) (b ∷ others) e = same_names (a ∷ names) (b ∷ others) (append_cancel_left (codes " ignored") (flat_map spaced_name (a ∷ names)) (flat_map spaced_name (b ∷ others)) e)

pub loaded_names : LoadedNamesAreTold
loaded_names trace names others e =
    same_ignored names others
    (append_cancel_left (codes "ok") (ignored_text names) (ignored_text others) (append_cancel_right (codes "ok" ++ ignored_text names) (codes "ok" ++ ignored_text others) (codes "\n") e))
