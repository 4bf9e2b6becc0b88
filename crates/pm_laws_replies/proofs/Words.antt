-- Names and words have no LF.
use Rattle.std.proofs.Common.{ap, eqb, refl, sym, true≢false, ℕ, List, [], ◌∷◌, Bool, true, false, not, ◌≡◌, ◌∙◌, ◌&&◌, ◌||◌, nat_le, length, inl, inr}
use Rattle.std.specs.Char.{is_ascii_alphabetic}
use Rattle.std.specs.Int.{is_in_range}
use Rattle.std.specs.List.{list_all}
use Rattle.std.proofs.lemmas.Bool.{and_parts, and_from, cases_Bool, eqb-true}
use Rattle.pm_command.specs.Words.{is_name, is_name_byte}
use Rattle.pm_rules.specs.Words.{is_letter, is_word, is_word_byte}
use Rattle.pm_laws_replies.specs.Told.{is_in_line, is_one_line}

-- ---- names
pub not_line : (b : ℕ) → is_name_byte b ≡ true → is_in_line b ≡ true
not_line b h = elim (cases_Bool (eqb b 10)) [
  | inl e ↦ absurd (true≢false (sym h ∙ ap is_name_byte (eqb-true b 10 e)))
  | inr e ↦ ap not e
]

pub letter_byte : (b : ℕ) → is_ascii_alphabetic b ≡ true → is_name_byte b ≡ true
letter_byte b h = by (is_in_range 65 90 b) (is_in_range 97 122 b) (is_in_range 48 57 b) (eqb b 95) h
  where
    by : (x y z w : Bool) → (x || y) ≡ true → (((z || x) || y) || w) ≡ true
    by true y true w h = refl
    by true y false w h = refl
    by false true true w h = refl
    by false true false w h = refl
    by false false z w h = absurd (true≢false (sym h))

pub all_more : (test other : ℕ → Bool) → ((b : ℕ) → test b ≡ true → other b ≡ true) → (word : List ℕ) → list_all test word ≡ true → list_all other word ≡ true
all_more test other f [] h = refl
all_more test other f (b ∷ word) h = and_from (other b) (list_all other word) (f b (and_parts (test b) (list_all test word) h).0) (all_more test other f word (and_parts (test b) (list_all test word) h).1)

pub name_bytes : (b : ℕ) (name : List ℕ) → is_name (b ∷ name) ≡ true → (is_name_byte b ≡ true) × (list_all is_name_byte name ≡ true)
name_bytes b name h =
    let two = and_parts (is_ascii_alphabetic b && list_all is_name_byte name) (nat_le (length (b ∷ name)) 32) h in
    let one = and_parts (is_ascii_alphabetic b) (list_all is_name_byte name) two.0 in
    (letter_byte b one.0, one.1)

pub plain_name : (name : List ℕ) → is_name name ≡ true → is_one_line name ≡ true
plain_name [] h = refl
plain_name (b ∷ name) h =
    let bytes = name_bytes b name h in
    and_from (is_in_line b) (is_one_line name) (not_line b bytes.0) (all_more is_name_byte is_in_line not_line name bytes.1)

-- ---- words
pub word_line : (b : ℕ) → is_word_byte b ≡ true → is_in_line b ≡ true
word_line b h = elim (cases_Bool (eqb b 10)) [
  | inl e ↦ absurd (true≢false (sym h ∙ ap is_word_byte (eqb-true b 10 e)))
  | inr e ↦ ap not e
]

pub letter_line : (b : ℕ) → is_letter b ≡ true → is_in_line b ≡ true
letter_line b h = elim (cases_Bool (eqb b 10)) [
  | inl e ↦ absurd (true≢false (sym h ∙ ap is_letter (eqb-true b 10 e)))
  | inr e ↦ ap not e
]

pub plain_word : (name : List ℕ) → is_word name ≡ true → is_one_line name ≡ true
plain_word [] h = refl
plain_word (b ∷ name) h =
    let both = and_parts (is_letter b) (list_all is_word_byte name) h in
    and_from (is_in_line b) (is_one_line name) (letter_line b both.0) (all_more is_word_byte is_in_line word_line name both.1)
