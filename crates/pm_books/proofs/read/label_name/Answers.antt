use Rattle.std.proofs.Common.{◌≡◌, ℕ, zero, suc, ◌<◌, ◌≤◌, ◌&&◌, ◌||◌, true, leb, eqb, List, [], ◌∷◌, length, inl, inr, arith}
use Rattle.std.specs.List.{list_all}
use Rattle.std.specs.Str.{IsAscii}
use Rattle.std.proofs.lemmas.Bool.{and_parts, or_cases, leb-true, eqb-true}
use Rattle.pm_rules.specs.Words.{is_letter, is_digit, is_word_byte, is_word, is_label}
use Rattle.pm_rules.proofs.Labels.{label_is_word, label_is_short}
use Rattle.pm_books.proofs.read.label_name.Goals as goal

letter_small : (b : ℕ) → is_letter b ≡ true → b < 128
letter_small b h = elim (or_cases (leb 65 b && leb b 90) ((leb 97 b && leb b 122) || eqb b 95) h) [
  | inl e ↦ omega (arith, leb-true b 90 (and_parts (leb 65 b) (leb b 90) e).1)
  | inr e ↦ elim (or_cases (leb 97 b && leb b 122) (eqb b 95) e) [
    | inl e ↦ omega (arith, leb-true b 122 (and_parts (leb 97 b) (leb b 122) e).1)
    | inr e ↦ omega (arith, eqb-true b 95 e)
  ]
]

byte_small : (b : ℕ) → is_word_byte b ≡ true → b < 128
byte_small b h = elim (or_cases (is_letter b) (is_digit b || eqb b 46) h) [
  | inl e ↦ letter_small b e
  | inr e ↦ elim (or_cases (is_digit b) (eqb b 46) e) [
    | inl e ↦ omega (arith, leb-true b 57 (and_parts (leb 48 b) (leb b 57) e).1)
    | inr e ↦ omega (arith, eqb-true b 46 e)
  ]
]

bytes_ascii : (bs : List ℕ) → list_all is_word_byte bs ≡ true → IsAscii bs
bytes_ascii [] h i = omega arith
bytes_ascii (b ∷ bs) h zero = byte_small b (and_parts (is_word_byte b) (list_all is_word_byte bs) h).0
bytes_ascii (b ∷ bs) h (suc i) = bytes_ascii bs (and_parts (is_word_byte b) (list_all is_word_byte bs) h).1 i

word_ascii : (bs : List ℕ) → is_word bs ≡ true → IsAscii bs
word_ascii [] h i = omega arith
word_ascii (b ∷ bs) h zero = letter_small b (and_parts (is_letter b) (list_all is_word_byte bs) h).0
word_ascii (b ∷ bs) h (suc i) = bytes_ascii bs (and_parts (is_letter b) (list_all is_word_byte bs) h).1 i

label_fits : (text : List ℕ) → is_label text ≡ true → (length text ≤ 32) × IsAscii text
label_fits text h = (label_is_short text h, word_ascii text (label_is_word text h))

pub unwrap-requires : goal.unwrap-requires
unwrap-requires c = c.of_bytes.ensures.some.1 (label_fits c.args.text.now c.requires)

pub returns : goal.returns
returns c = (rw c.unwrap.ensures at c.of_bytes.ensures.value)
