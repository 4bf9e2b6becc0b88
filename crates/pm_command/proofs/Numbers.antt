-- Numbers as words of a line.
use Rattle.std.proofs.Common.{refl, sym, ap, subst, ◌∙◌, ◌≡◌, ◌≢◌, ℕ, zero, suc, ◌<◌, ◌≤◌, ◌^◌, true, false, List, [], ◌∷◌, length, Some, None, not, eqb, leb, ◌&&◌, decimal, arith, rules, get_or}
use Rattle.std.proofs.lemmas.Bool.{and_parts, and_from, cond-true, le-leb, leb-true, ne_eqb, not_from_false}
use Rattle.std.proofs.lemmas.Fmt.{decimal-digits_value, decimal_digit, decimal_nonempty, digits_decimal, digits_value-decimal, first_decimal, length-decimal-le}
use Rattle.std.proofs.lemmas.Int.Digits.{digits_value-lt}
use Rattle.std.proofs.lemmas.Option.{cond_some}
use Rattle.std.proofs.lemmas.Str.Parse.{IsDigitsTest, IsNumeralModel, numerals_by_value}
use Rattle.std.specs.Char.{is_ascii_digit}
use Rattle.std.specs.List.{list_all}
use Rattle.std.specs.Str.Parse.{digits_value}
use Rattle.pm_command.proofs.Splits.{lacks, lacks-passes}
use Rattle.pm_command.specs.Grammar.{is_made_number}
use Rattle.pm_command.specs.Words.{is_number_word, number_of}

are_digits : IsDigitsTest (λ ds. list_all is_ascii_digit ds ≡ true)
are_digits = search rules

pub own_digits : IsNumeralModel (λ ds. list_all is_ascii_digit ds ≡ true) (digits_value 10)
own_digits = numerals_by_value (λ ds. list_all is_ascii_digit ds ≡ true) are_digits

-- ---- a word that is a number
pub record IsNumberWord (word : List ℕ) : Type 0 where
  pub some : 0 < length word
  pub first : get_or word 0 0 ≢ 48
  pub digits : list_all is_ascii_digit word ≡ true
  pub few : length word ≤ 4

pub number_word : (word : List ℕ) → is_number_word word ≡ true → IsNumberWord word
number_word [] h = cc
number_word (b ∷ word) h =
    let p = and_parts (not (eqb b 48) && list_all is_ascii_digit (b ∷ word)) (leb (length (b ∷ word)) 4) h in
    let q = and_parts (not (eqb b 48)) (list_all is_ascii_digit (b ∷ word)) p.0 in
    record {
      some = omega arith;
      first = λ (e : b ≡ 48). let bad : false ≡ true = subst (λ (x : ℕ). not (eqb x 48) ≡ true) e q.0 in cc;
      digits = q.1;
      few = leb-true (length (b ∷ word)) 4 p.1;
    }

power : (k : ℕ) → k ≤ 4 → 10 ^ k ≤ 10000
power zero h = omega arith
power (suc zero) h = omega arith
power (suc (suc zero)) h = omega arith
power (suc (suc (suc zero))) h = omega arith
power (suc (suc (suc (suc zero)))) h = omega arith
power (suc (suc (suc (suc (suc k))))) h = absurd (omega arith)

pub number_below : (word : List ℕ) → IsNumberWord word → digits_value 10 word < 10000
number_below word w = let l = digits_value-lt 10 word (own_digits.to word w.digits) in let p = power (length word) w.few in omega arith

-- the word is the number in decimal digits
pub number_written : (word : List ℕ) → IsNumberWord word → decimal (digits_value 10 word) ≡ word
number_written word w = decimal-digits_value own_digits word w.digits w.some (λ e. absurd (w.first e)) (let b = number_below word w in omega arith)

number_positive : (word : List ℕ) → IsNumberWord word → 0 < digits_value 10 word
number_positive word w = positive (digits_value 10 word) (number_written word w)
  where
    positive : (n : ℕ) → decimal n ≡ word → 0 < n
    positive zero e = absurd (w.first (ap (λ (x : List ℕ). get_or x 0 0) (sym e ∙ decimal_digit 0 (omega arith))))
    positive (suc n) e = omega arith

pub number_is : (word : List ℕ) (n : ℕ) → number_of word ≡ Some n → (word ≡ decimal n) × (is_made_number n ≡ true)
number_is word n e =
    let p = cond_some (is_number_word word) (digits_value 10 word) n e in
    let w = number_word word p.0 in
    let below = number_below word w in
    let positive = number_positive word w in (
      sym (number_written word w) ∙ ap decimal p.1,
      subst (λ (k : ℕ). is_made_number k ≡ true) p.1 (and_from (leb 1 (digits_value 10 word)) (leb (digits_value 10 word) 9999) (le-leb 1 (digits_value 10 word) (omega arith)) (le-leb (digits_value 10 word) 9999 (omega arith))),
    )

-- ---- a number in decimal digits
record IsMade (n : ℕ) : Type 0 where
  low : 1 ≤ n
  high : n ≤ 9999

made : (n : ℕ) → is_made_number n ≡ true → IsMade n
made n h = let p = and_parts (leb 1 n) (leb n 9999) h in record { low = leb-true 1 n p.0; high = leb-true n 9999 p.1 }

word_of_number : (word : List ℕ) → 0 < length word → 48 < get_or word 0 0 → list_all is_ascii_digit word ≡ true → length word ≤ 4 → is_number_word word ≡ true
word_of_number [] some first digits few = absurd (omega arith)
word_of_number (b ∷ word) some first digits few =
    and_from (not (eqb b 48) && list_all is_ascii_digit (b ∷ word)) (leb (length (b ∷ word)) 4)
    (and_from (not (eqb b 48)) (list_all is_ascii_digit (b ∷ word)) (not_from_false (eqb b 48) (other b first)) digits) (le-leb (length (b ∷ word)) 4 few)
  where
    other : (b : ℕ) → 48 < b → eqb b 48 ≡ false
    other b h = ne_eqb b 48 (λ e. absurd (omega arith))

pub decimal_digits : (n : ℕ) → is_made_number n ≡ true → list_all is_ascii_digit (decimal n) ≡ true
decimal_digits n h = let m = made n h in let a = m.high in digits_decimal own_digits n (omega arith)

pub number_of-decimal : (n : ℕ) → is_made_number n ≡ true → number_of (decimal n) ≡ Some n
number_of-decimal n h =
    let m = made n h in
    let low = m.low in
    let high = m.high in
    let is = word_of_number (decimal n) (decimal_nonempty n (omega arith)) (first_decimal n (omega arith) (omega arith)) (decimal_digits n h) (length-decimal-le 4 n (omega arith) (omega arith) (omega arith)) in
    cond-true (is_number_word (decimal n)) (Some (digits_value 10 (decimal n))) None is ∙ ap Some (digits_value-decimal own_digits n (omega arith))

pub decimal_lacks_space : (n : ℕ) → is_made_number n ≡ true → lacks 32 (decimal n) ≡ true
decimal_lacks_space n h = lacks-passes is_ascii_digit 32 (decimal n) refl (decimal_digits n h)
