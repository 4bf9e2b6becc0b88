-- A weight that is printed is a number, and the number is worth the weight.
use Rattle.std.proofs.Common.{◌≡◌, ℕ, ◌<◌, ◌≤◌, ◌^◌, true, false, eqb, List, [], ◌∷◌, ◌++◌, length, refl, sym, ap, ◌∙◌, arith, rules, append-nil, length-append}
use Rattle.std.specs.List.{list_all, prefix_len}
use Rattle.std.specs.Fmt.{decimal}
use Rattle.std.proofs.Math.Seq.{take-append_seam, drop-append-add}
use Rattle.std.proofs.lemmas.Bool.{and_parts, cond_both, eqb-true, eq-eqb, ne_eqb}
use Rattle.std.proofs.lemmas.Str.Parse.{IsNumeralModel, numerals_by_fold}
use Rattle.std.proofs.lemmas.Fmt.{digits_decimal, digits_value-decimal, decimal_nonempty}
use Rattle.pm_weights.specs.declared.Weight.{Weight}
use Rattle.pm_weights.specs.Weights.{IsWeight, weight_text}
use Rattle.pm_rules.specs.Words.{is_digit}
use Rattle.pm_books.specs.Reading.{is_number, number_on, weight_of}
use Rattle.pm_books.proofs.Spacing.{IsToken, whole_prefix, digits_token, pair_token}
use Rattle.pm_limits.specs.Limits.{most_weight}

own : IsNumeralModel (λ ds. list_all is_digit ds ≡ true) (number_on 0)
own = numerals_by_fold (λ ds. list_all is_digit ds ≡ true) (search rules) number_on (search rules)

small : (n : ℕ) → n ≤ most_weight → n < 2 ^ 64
small n h = omega arith

starts : (ds rest : List ℕ) → list_all is_digit ds ≡ true → 0 < length ds → is_number (ds ++ rest) ≡ true
starts [] rest h some = absurd (omega arith)
starts (d ∷ ds) rest h some = (and_parts (is_digit d) (list_all is_digit ds) h).0

-- ---- both parts of a weight
pub weight_token : (w : Weight) → IsWeight w → IsToken (weight_text w)
weight_token w is =
    let class : w.class < 2 ^ 64 = small w.class is.class in
    let minor : w.minor < 2 ^ 64 = small w.minor is.minor in
    cond_both (eqb w.class 0) (decimal w.minor) (decimal w.class ++ 46 ∷ decimal w.minor) IsToken
    (λ e. digits_token (decimal w.minor) (digits_decimal own w.minor minor) (decimal_nonempty w.minor minor))
    (λ e. pair_token (decimal w.class) (decimal w.minor) (digits_decimal own w.class class) (decimal_nonempty w.class class) (digits_decimal own w.minor minor) (decimal_nonempty w.minor minor))

pub weight_number : (w : Weight) → IsWeight w → is_number (weight_text w) ≡ true
weight_number w is =
    let class : w.class < 2 ^ 64 = small w.class is.class in
    let minor : w.minor < 2 ^ 64 = small w.minor is.minor in
    cond_both (eqb w.class 0) (decimal w.minor) (decimal w.class ++ 46 ∷ decimal w.minor) (λ t. is_number t ≡ true)
    (λ e. ap is_number (sym (append-nil (decimal w.minor))) ∙ starts (decimal w.minor) [] (digits_decimal own w.minor minor) (decimal_nonempty w.minor minor))
    (λ e. starts (decimal w.class) (46 ∷ decimal w.minor) (digits_decimal own w.class class) (decimal_nonempty w.class class))

minor_back : (ds : List ℕ) → list_all is_digit ds ≡ true → weight_of ds ≡ record { class = 0; minor = number_on 0 ds }
minor_back ds h =
    let whole : prefix_len is_digit ds ≡ length ds = ap (prefix_len is_digit) (sym (append-nil ds)) ∙ whole_prefix is_digit ds [] h refl in
    rw (whole, eq-eqb (length ds) (length ds) refl) refl

pair_back : (ds es : List ℕ) → list_all is_digit ds ≡ true → weight_of (ds ++ 46 ∷ es) ≡ record { class = number_on 0 ds; minor = number_on 0 es }
pair_back ds es h =
    let text : List ℕ = ds ++ 46 ∷ es in
    let whole : prefix_len is_digit text ≡ length ds = whole_prefix is_digit ds (46 ∷ es) h refl in
    let longer : eqb (length text) (length ds) ≡ false = ne_eqb (length text) (length ds) (λ e. omega (arith, length-append ds (46 ∷ es))) in
    rw (whole, longer, take-append_seam ds (46 ∷ es), drop-append-add ds (46 ∷ es) 1) refl

pub weight_back : (w : Weight) → IsWeight w → weight_of (weight_text w) ≡ w
weight_back w is =
    let class : w.class < 2 ^ 64 = small w.class is.class in
    let minor : w.minor < 2 ^ 64 = small w.minor is.minor in
    let of_minor : number_on 0 (decimal w.minor) ≡ w.minor = digits_value-decimal own w.minor minor in
    let of_class : number_on 0 (decimal w.class) ≡ w.class = digits_value-decimal own w.class class in
    let made : ℕ → ℕ → Weight = λ c m. record { class = c; minor = m } in
    cond_both (eqb w.class 0) (decimal w.minor) (decimal w.class ++ 46 ∷ decimal w.minor) (λ t. weight_of t ≡ w)
    (λ e. minor_back (decimal w.minor) (digits_decimal own w.minor minor) ∙ ap (λ m. made 0 m) of_minor ∙ ap (λ c. made c w.minor) (sym (eqb-true w.class 0 e)))
    (λ e. pair_back (decimal w.class) (decimal w.minor) (digits_decimal own w.class class) ∙ ap (λ c. made c (number_on 0 (decimal w.minor))) of_class ∙ ap (λ m. made w.class m) of_minor)
