-- What `read` answers on the text of a fraction is that fraction.
use Rattle.pm_vector.specs.Numbers.{InRange, InRangeRatio, IsReduced, Ratio}
use Rattle.pm_fraction.proofs.Products.{not_zero}
use Rattle.pm_fraction.proofs.Quotients.{same_through}
use Rattle.pm_fraction.proofs.Reduced.{same_reduced}
use Rattle.pm_fraction.specs.Fractions.{IsLowestTermsOf, ratio_of, signed}
use Rattle.pm_fraction.specs.OrderLaws.{same_numbers}
use Rattle.pm_fraction.specs.Text.{IsReadAnswer, IsReadAs, before_slash, behind_slash, bottom_text, is_slash, text_of, text_ratio, top_text, without_minus}
use Rattle.pm_fraction.specs.declared.error.NumError.TheVariants.{DivideByZero, NotANumber, Wide, ZeroDenominator}
use Rattle.pm_fraction.specs.declared.error.NumError.{NumError}
use Rattle.std.proofs.Common.{Bool, List, [], add-one, ap, ap₂, append-nil, arith, drop, false, length, refl, subst, sym, take, true, ◌++◌, ◌∷◌, ◌∙◌}
use Rattle.std.proofs.lemmas.Bool.Decides.{nat_tests}
use Rattle.std.proofs.lemmas.Fmt.{decimal_is_IsNumeral_wide}
use Rattle.std.proofs.lemmas.Int.{ints}
use Rattle.std.proofs.lemmas.Str.Parse.{digit_from_value}
use Rattle.std.specs.Fmt.{decimal, signed_decimal}
use Rattle.std.specs.List.{list_any, position_or_len}
use Rattle.std.specs.Ordering.{int_eq}
use Rattle.std.specs.Prelude.{Err, Ok, Result, codes, suc, ℕ, ◌<◌, ◌==◌, ◌^◌, ◌≡◌, ◌≢◌}
use Rattle.std.specs.Str.Parse.{AllDigits, IsNumeral, digits_value, starts_with_minus}
use lib.IntN.{negsuc, pos, ℤ}

-- ---- the parts of a text
differ : (c d : ℕ) → c ≢ d → (c == d) ≡ false
differ c d h = grind (arith, nat_tests)

no_slash_digit : (c : ℕ) (cs : List ℕ) → AllDigits 10 (c ∷ cs) → is_slash c ≡ false
no_slash_digit c cs h = let r = digit_from_value c h.0 in differ c 47 (λ e. omega arith)

no_minus_digit : (c : ℕ) (cs : List ℕ) → AllDigits 10 (c ∷ cs) → (c == 45) ≡ false
no_minus_digit c cs h = let r = digit_from_value c h.0 in differ c 45 (λ e. omega arith)

position_in_digits : (ds : List ℕ) → AllDigits 10 ds → position_or_len is_slash ds ≡ length ds
position_in_digits [] h = refl
position_in_digits (c ∷ cs) h = rw (no_slash_digit c cs h) (let e = position_in_digits cs h.1 in omega arith)

any_in_digits : (ds : List ℕ) → AllDigits 10 ds → list_any is_slash ds ≡ false
any_in_digits [] h = refl
any_in_digits (c ∷ cs) h = rw (no_slash_digit c cs h) (any_in_digits cs h.1)

position_past_digits : (ds es : List ℕ) → AllDigits 10 ds → position_or_len is_slash (ds ++ 47 ∷ es) ≡ length ds
position_past_digits [] es h = refl
position_past_digits (c ∷ cs) es h = rw (no_slash_digit c cs h) (let e = position_past_digits cs es h.1 in omega arith)

any_past_digits : (ds es : List ℕ) → AllDigits 10 ds → list_any is_slash (ds ++ 47 ∷ es) ≡ true
any_past_digits [] es h = refl
any_past_digits (c ∷ cs) es h = rw (no_slash_digit c cs h) (any_past_digits cs es h.1)

take_all : (ds : List ℕ) → take (length ds) ds ≡ ds
take_all [] = refl
take_all (c ∷ cs) = ap (λ (xs : List ℕ). c ∷ xs) (take_all cs)

take_front : (ds es : List ℕ) → take (length ds) (ds ++ es) ≡ ds
take_front [] es = refl
take_front (c ∷ cs) es = ap (λ (xs : List ℕ). c ∷ xs) (take_front cs es)

drop_past : (ds es : List ℕ) → drop (suc (length ds)) (ds ++ 47 ∷ es) ≡ es
drop_past [] es = refl
drop_past (c ∷ cs) es = drop_past cs es

-- what the two parts of a text are
record HasParts (bs : List ℕ) (is_negative : Bool) (ds es : List ℕ) : Type 0 where
  sign : starts_with_minus bs ≡ is_negative
  top : top_text bs ≡ ds
  bottom : bottom_text bs ≡ es

parts : (bs unsigned : List ℕ) (is_negative : Bool) (ds es : List ℕ) → starts_with_minus bs ≡ is_negative → without_minus bs ≡ unsigned → before_slash unsigned ≡ ds → behind_slash unsigned ≡ es → HasParts bs is_negative ds es
parts bs unsigned is_negative ds es s u t b = record { sign = s; top = ap before_slash u ∙ t; bottom = ap behind_slash u ∙ b }

before_in_digits : (ds : List ℕ) → AllDigits 10 ds → before_slash ds ≡ ds
before_in_digits ds h = rw (position_in_digits ds h) (take_all ds)

behind_in_digits : (ds : List ℕ) → AllDigits 10 ds → behind_slash ds ≡ codes "1"
behind_in_digits ds h = rw (any_in_digits ds h) refl

before_past_digits : (ds es : List ℕ) → AllDigits 10 ds → before_slash (ds ++ 47 ∷ es) ≡ ds
before_past_digits ds es h = rw (position_past_digits ds es h) (take_front ds (47 ∷ es))

behind_past_digits : (ds es : List ℕ) → AllDigits 10 ds → behind_slash (ds ++ 47 ∷ es) ≡ es
behind_past_digits ds es h = rw (any_past_digits ds es h, position_past_digits ds es h, add-one) (drop_past ds es)

plain_sign : (ds es : List ℕ) → IsNumeral 10 ds → starts_with_minus (ds ++ es) ≡ false
plain_sign [] es h = absurd (omega arith)
plain_sign (c ∷ cs) es h = no_minus_digit c cs h.1

-- ---- a text that has the parts of a fraction is read as it
read_as : (bs : List ℕ) (p : Ratio) (is_negative : Bool) (ds es : List ℕ) → IsReduced p → HasParts bs is_negative ds es → IsNumeral 10 ds → IsNumeral 10 es
    → digits_value 10 ds < 2 ^ 127 → digits_value 10 es < 2 ^ 127 → p ≡ ratio_of (signed is_negative (digits_value 10 ds)) (pos (digits_value 10 es)) → IsReadAs bs p
read_as bs p is_negative ds es r h top bottom fits_top fits_bottom e =
    let num_is : signed (starts_with_minus bs) (digits_value 10 (top_text bs)) ≡ signed is_negative (digits_value 10 ds) =
    ap₂ signed h.sign (ap (digits_value 10) h.top) in
    let den_is : pos (digits_value 10 (bottom_text bs)) ≡ pos (digits_value 10 es) = ap (λ (xs : List ℕ). pos (digits_value 10 xs)) h.bottom in
    let number : text_ratio bs ≡ p = ap₂ ratio_of num_is den_is ∙ sym e in
    record {
      text = record { top = rw h.top top; bottom = rw h.bottom bottom };
      literals = record { top = rw h.top fits_top; bottom = rw h.bottom fits_bottom };
      number = subst (λ (x : Ratio). IsLowestTermsOf x p) (sym number) record { divisible = not_zero p.den r.positive; reduced = r; same = refl };
    }

-- ---- the text of a fraction
record IsDecimal (n : ℕ) : Type 0 where
  numeral : IsNumeral 10 (decimal n)
  value : digits_value 10 (decimal n) ≡ n

decimals : (n : ℕ) → n < 2 ^ 127 → IsDecimal n
decimals n h = let w = decimal_is_IsNumeral_wide n (omega arith) in record { numeral = w.0; value = w.1 }

abbrev with_minus : Bool → List ℕ → List ℕ
with_minus true bs = 45 ∷ bs
with_minus false bs = bs

sign_is : (b : Bool) (bs : List ℕ) → starts_with_minus bs ≡ false → starts_with_minus (with_minus b bs) ≡ b
sign_is true bs h = refl
sign_is false bs h = h

unsigned_is : (b : Bool) (bs : List ℕ) → starts_with_minus bs ≡ false → without_minus (with_minus b bs) ≡ bs
unsigned_is true bs h = refl
unsigned_is false bs h = rw h refl

joined : (b : Bool) (ds es : List ℕ) → with_minus b ds ++ (codes "/" ++ es) ≡ with_minus b (ds ++ 47 ∷ es)
joined true ds es = refl
joined false ds es = refl

reads_whole : (b : Bool) (n : ℕ) → n < 2 ^ 127 → IsReduced (ratio_of (signed b n) (pos 1)) → IsReadAs (with_minus b (decimal n)) (ratio_of (signed b n) (pos 1))
reads_whole b n h r =
    let w = decimals n h in
    let plain : starts_with_minus (decimal n) ≡ false = subst (λ (bs : List ℕ). starts_with_minus bs ≡ false) (append-nil (decimal n)) (plain_sign (decimal n) [] w.numeral) in
    let p = parts (with_minus b (decimal n)) (decimal n) b (decimal n) (codes "1") (sign_is b (decimal n) plain) (unsigned_is b (decimal n) plain) (before_in_digits (decimal n) w.numeral.1) (behind_in_digits (decimal n) w.numeral.1) in
    read_as (with_minus b (decimal n)) (ratio_of (signed b n) (pos 1)) b (decimal n) (codes "1") r p w.numeral (omega arith, (omega arith, tt)) (rw w.value h) (omega arith) (ap (λ (m : ℕ). ratio_of (signed b m) (pos 1)) (sym w.value))

reads_quotient : (b : Bool) (n k : ℕ) → n < 2 ^ 127 → k < 2 ^ 127 → IsReduced (ratio_of (signed b n) (pos k)) → IsReadAs (with_minus b (decimal n ++ 47 ∷ decimal k)) (ratio_of (signed b n) (pos k))
reads_quotient b n k h g r =
    let w = decimals n h in
    let v = decimals k g in
    let bs = decimal n ++ 47 ∷ decimal k in
    let plain = plain_sign (decimal n) (47 ∷ decimal k) w.numeral in
    let p = parts (with_minus b bs) bs b (decimal n) (decimal k) (sign_is b bs plain) (unsigned_is b bs plain) (before_past_digits (decimal n) (decimal k) w.numeral.1) (behind_past_digits (decimal n) (decimal k) w.numeral.1) in
    read_as (with_minus b bs) (ratio_of (signed b n) (pos k)) b (decimal n) (decimal k) r p w.numeral v.numeral (rw w.value h) (rw v.value g) (ap₂ (λ (m l : ℕ). ratio_of (signed b m) (pos l)) (sym w.value) (sym v.value))

reads_sized : (b : Bool) (n k : ℕ) → n < 2 ^ 127 → k < 2 ^ 127 → IsReduced (ratio_of (signed b n) (pos k)) → signed_decimal (signed b n) ≡ with_minus b (decimal n)
    → IsReadAs (text_of (ratio_of (signed b n) (pos k))) (ratio_of (signed b n) (pos k))
reads_sized b n k h g r s = by_den (int_eq (pos k) (pos 1)) refl
  where
    by_den : (t : Bool) → int_eq (pos k) (pos 1) ≡ t → IsReadAs (text_of (ratio_of (signed b n) (pos k))) (ratio_of (signed b n) (pos k))
    by_den true e =
        let one : 1 ≡ k = let f = same_numbers (pos k) (pos 1) e in omega (arith, ints) in
        let text : text_of (ratio_of (signed b n) (pos k)) ≡ with_minus b (decimal n) = rw e s in
        rw text (subst (λ (l : ℕ). IsReadAs (with_minus b (decimal n)) (ratio_of (signed b n) (pos l))) one (reads_whole b n h (subst (λ (l : ℕ). IsReduced (ratio_of (signed b n) (pos l))) (sym one) r)))
    by_den false e =
        let text : text_of (ratio_of (signed b n) (pos k)) ≡ with_minus b (decimal n ++ 47 ∷ decimal k) = rw (e, s) (joined b (decimal n) (decimal k)) in
        rw text (reads_quotient b n k h g r)

reads_parts : (z d : ℤ) → IsReduced (ratio_of z d) → InRange z → InRange d → IsReadAs (text_of (ratio_of z d)) (ratio_of z d)
reads_parts (pos n) (pos k) r h g = reads_sized false n k h g r refl
reads_parts (negsuc m) (pos k) r h g = reads_sized true (suc m) k h g r refl
reads_parts z (negsuc k) r h g = absurd r.positive.lt

pub reads_text : (p : Ratio) → IsReduced p → InRangeRatio p → IsReadAs (text_of p) p
reads_text p r h = reads_parts p.num p.den r h.0 h.1

-- ---- a text has one answer
pub one_answer : (bs : List ℕ) (p : Ratio) (answer : Result Ratio NumError) → IsReadAs bs p → IsReadAnswer bs answer → answer ≡ Ok p
one_answer bs p (Ok r) w (h, k) =
    ap Ok (same_reduced r p h.number.reduced w.number.reduced (same_through (text_ratio bs).num (text_ratio bs).den p.num p.den r.num r.den w.number.divisible h.number.same (sym w.number.same)))
one_answer bs p (Err NotANumber) w (h, k) = absurd (k w.text)
one_answer bs p (Err Wide) w (h, k) = absurd (k.1 w.literals)
one_answer bs p (Err ZeroDenominator) w (h, k) = absurd (w.number.divisible (ap pos k.2))
one_answer bs p (Err DivideByZero) w (h, k) = absurd k

-- so what `read` may answer on the text of a fraction is that fraction
pub answers_back : (p : Ratio) → IsReduced p → InRange p.num → InRange p.den → (bs : List ℕ) → bs ≡ text_of p → (answer : Result Ratio NumError) → IsReadAnswer bs answer → answer ≡ Ok p
answers_back p r h k bs e answer w = one_answer bs p answer (rw e (reads_text p r (h, k))) w
