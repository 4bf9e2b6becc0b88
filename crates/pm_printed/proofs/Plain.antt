-- Printed lines are letters, digits, signs and spaces of ASCII; so they have no LF, and their parts no space.
use Rattle.std.proofs.Common.{◌≡◌, ◌≢◌, ℕ, zero, suc, ◌+◌, ◌-◌, ◌/◌, ◌%◌, ◌<◌, ◌≤◌, ◌^◌, Bool, true, false, ◌&&◌, not, IsTrue, List, [], ◌∷◌, ◌++◌, length, get_or, replicate, eqb, leb, cond, Some, refl, sym, ap, ◌∙◌, subst, arith, rules}
use Rattle.std.specs.Prelude.{All, slice_get}
use Rattle.std.specs.Char.{digit_value}
use Rattle.std.specs.List.{list_all}
use Rattle.std.specs.Fmt.{decimal, digits}
use Rattle.std.specs.Str.{IsAscii, IsUtf8}
use Rattle.std.specs.Str.Parse.{AllDigits, IsNumeral, digits_value}
use Rattle.std.proofs.lemmas.Bool.{and_from, and_parts, cond_both, leb-true, le-leb}
use Rattle.std.proofs.lemmas.Bool.Decides.{nat_tests}
use Rattle.std.proofs.lemmas.Fmt.{decimal_is_IsNumeral, digits_is_IsNumeral}
use Rattle.std.proofs.lemmas.List.Folds.{list_all-append}
use Rattle.std.proofs.lemmas.List.Sums.{AllPass-from_list_all}
use Rattle.std.proofs.lemmas.Str.{IsUtf8-from_ascii}
use Rattle.std.proofs.lemmas.Str.Ascii.{IsAscii-from_reads}
use Rattle.pm_weights.specs.declared.Cost.{Cost}
use Rattle.pm_weights.specs.Weights.{cost_text, pair_text}
use Rattle.pm_rules.specs.Words.{is_letter, is_digit, is_word_byte, is_word}
use Rattle.pm_printed.specs.Printed.{IsCost, is_plain}
use Rattle.pm_printed.specs.Cuts.{Lacks}
use Rattle.pm_printed.specs.Texts.{half_text, set_text}

-- ---- what passes a test
abbrev is_plain_byte : ℕ → Bool
is_plain_byte b = leb 32 b && leb b 126

plain_from_bounds : (b : ℕ) → 32 ≤ b → b ≤ 126 → is_plain_byte b ≡ true
plain_from_bounds b low high = and_from (leb 32 b) (leb b 126) (le-leb 32 b low) (le-leb b 126 high)

bounds_of_plain : (b : ℕ) → is_plain_byte b ≡ true → (32 ≤ b) × (b ≤ 126)
bounds_of_plain b h = let parts = and_parts (leb 32 b) (leb b 126) h in (leb-true 32 b parts.0, leb-true b 126 parts.1)

pub more_pass : (p q : ℕ → Bool) → ((b : ℕ) → p b ≡ true → q b ≡ true) → (xs : List ℕ) → list_all p xs ≡ true → list_all q xs ≡ true
more_pass p q f [] h = refl
more_pass p q f (x ∷ xs) h = let parts = and_parts (p x) (list_all p xs) h in and_from (q x) (list_all q xs) (f x parts.0) (more_pass p q f xs parts.1)

pub all_join : (p : ℕ → Bool) (xs ys : List ℕ) → list_all p xs ≡ true → list_all p ys ≡ true → list_all p (xs ++ ys) ≡ true
all_join p xs ys h k = list_all-append p xs ys ∙ and_from (list_all p xs) (list_all p ys) h k

-- a byte that does not pass is not there
pub lacks_what_fails : (p : ℕ → Bool) (c : ℕ) (xs : List ℕ) → p c ≡ false → list_all p xs ≡ true → Lacks c xs
lacks_what_fails p c xs fails h = λ i l e.
    let passes : p (get_or xs i 0) ≡ true = AllPass-from_list_all p xs h i 0 l in
    let at : p (get_or xs i 0) ≡ p c = ap p e in
    cc

-- ---- plain lines
pub plain_lacks_end : (xs : List ℕ) → is_plain xs ≡ true → Lacks 10 xs
plain_lacks_end xs h = lacks_what_fails is_plain_byte 10 xs refl h

pub plain_is_ascii : (xs : List ℕ) → is_plain xs ≡ true → IsAscii xs
plain_is_ascii xs h = IsAscii-from_reads xs (length xs) (omega arith) (λ k l.
    let bounds = bounds_of_plain (get_or xs k 0) (AllPass-from_list_all is_plain_byte xs h k 0 l) in
    omega arith)

pub plain_is_text : (xs : List ℕ) → is_plain xs ≡ true → IsUtf8 xs
plain_is_text xs h = IsUtf8-from_ascii xs (plain_is_ascii xs h)

-- ---- digits
pub digit_bounds : (c : ℕ) → digit_value c < 16 → (48 ≤ c) × (c ≤ 102)
digit_bounds c h = grind (arith, nat_tests)

ten_bounds : (c : ℕ) → digit_value c < 10 → (48 ≤ c) × (c ≤ 57)
ten_bounds c h = grind (arith, nat_tests)

-- a test that 0 to 9 and a to f pass
hex_pass : (p : ℕ → Bool) → ((c : ℕ) → 48 ≤ c → c ≤ 102 → p c ≡ true) → (ds : List ℕ) → AllDigits 16 ds → list_all p ds ≡ true
hex_pass p f [] h = refl
hex_pass p f (d ∷ ds) h = let bounds = digit_bounds d h.0 in and_from (p d) (list_all p ds) (f d bounds.0 bounds.1) (hex_pass p f ds h.1)

pub ten_pass : (p : ℕ → Bool) → ((c : ℕ) → 48 ≤ c → c ≤ 57 → p c ≡ true) → (ds : List ℕ) → AllDigits 10 ds → list_all p ds ≡ true
ten_pass p f [] h = refl
ten_pass p f (d ∷ ds) h = let bounds = ten_bounds d h.0 in and_from (p d) (list_all p ds) (f d bounds.0 bounds.1) (ten_pass p f ds h.1)

pub decimal_pass : (p : ℕ → Bool) → ((c : ℕ) → 48 ≤ c → c ≤ 57 → p c ≡ true) → (n : ℕ) → n < 2 ^ 64 → list_all p (decimal n) ≡ true
decimal_pass p f n h = ten_pass p f (decimal n) (decimal_is_IsNumeral n h).0.1

-- ---- costs and sets
pub cost_pass : (p : ℕ → Bool) → ((c : ℕ) → 48 ≤ c → c ≤ 57 → p c ≡ true) → p 46 ≡ true → (c : Cost) → IsCost c → list_all p (cost_text c) ≡ true
cost_pass p f point c is =
    cond_both (eqb c.class 0) (decimal c.minor) (decimal c.class ++ 46 ∷ decimal c.minor) (λ t. list_all p t ≡ true)
    (λ e. decimal_pass p f c.minor is.minor)
    (λ e. all_join p (decimal c.class) (46 ∷ decimal c.minor) (decimal_pass p f c.class is.class) (and_from (p 46) (list_all p (decimal c.minor)) point (decimal_pass p f c.minor is.minor)))

pub zeros_are_digits : (k : ℕ) (ds : List ℕ) → AllDigits 16 ds → AllDigits 16 (replicate k 48 ++ ds)
zeros_are_digits zero ds h = h
zeros_are_digits (suc k) ds h = (omega arith, zeros_are_digits k ds h)

pub digits_join : (ds es : List ℕ) → AllDigits 16 ds → AllDigits 16 es → AllDigits 16 (ds ++ es)
digits_join [] es h k = k
digits_join (d ∷ ds) es h k = (h.0, digits_join ds es h.1 k)

small_half : (n : ℕ) → n < 2 ^ 64 → n < 16 ^ 64
small_half n h = omega arith

pub half_digits : (n : ℕ) → n < 2 ^ 64 → AllDigits 16 (half_text n)
half_digits n h = zeros_are_digits (16 - length (digits 16 false n)) (digits 16 false n) (digits_is_IsNumeral 16 false (omega arith) (omega arith) n (small_half n h)).0.1

pub set_digits : (s : ℕ) → s < 2 ^ 64 → AllDigits 16 (set_text s)
set_digits s h =
    let low : s % 2 ^ 64 < 2 ^ 64 = omega arith in
    let high : s / 2 ^ 64 < 2 ^ 64 = omega arith in
    digits_join (half_text (s / 2 ^ 64)) (half_text (s % 2 ^ 64)) (half_digits (s / 2 ^ 64) high) (half_digits (s % 2 ^ 64) low)

pub set_pass : (p : ℕ → Bool) → ((c : ℕ) → 48 ≤ c → c ≤ 102 → p c ≡ true) → (s : ℕ) → s < 2 ^ 64 → list_all p (set_text s) ≡ true
set_pass p f s h = hex_pass p f (set_text s) (set_digits s h)

-- ---- words
letter_bounds : (b : ℕ) → is_letter b ≡ true → (48 ≤ b) × (b ≤ 122)
letter_bounds b h = grind (arith, nat_tests)

word_byte_bounds : (b : ℕ) → is_word_byte b ≡ true → (46 ≤ b) × (b ≤ 122)
word_byte_bounds b h = grind (arith, nat_tests)

pub word_pass : (p : ℕ → Bool) → ((c : ℕ) → 46 ≤ c → c ≤ 122 → p c ≡ true) → (w : List ℕ) → is_word w ≡ true → list_all p w ≡ true
word_pass p f [] h = refl
word_pass p f (b ∷ bs) h =
    let parts = and_parts (is_letter b) (list_all is_word_byte bs) h in
    let first = letter_bounds b parts.0 in
    and_from (p b) (list_all p bs) (f b (omega arith) (omega arith)) (more_pass is_word_byte p (λ c k. let bounds = word_byte_bounds c k in f c bounds.0 bounds.1) bs parts.1)
