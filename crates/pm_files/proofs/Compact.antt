-- The text of a matrix, an entry at a time: no byte of a fraction's text is escaped, and the text is read as the JSON.
use Rattle.std.proofs.Common.{ap, ap₂, append-nil, append_assoc, arith, refl, suc, sym, true, false, ◌≡◌, ◌≢◌, ◌≤◌, ◌+◌, ◌∙◌, ℕ, List, [], ◌∷◌, ◌++◌, map, Bool, Some, option_and_then, option_map}
use Rattle.std.proofs.lemmas.Fmt.{decimal_is_IsNumeral_wide}
use Rattle.std.proofs.lemmas.Str.Parse.{digit_from_value}
use Rattle.std.specs.Fmt.{decimal, signed_decimal}
use Rattle.std.specs.Ordering.{int_eq}
use Rattle.std.specs.Prelude.{Err, Ok, OnOk, Result, codes, if◌then◌else◌, is_ok}
use Rattle.std.specs.Str.Parse.{AllDigits}
use Rattle.json.specs.Json as json
use Rattle.json.specs.Print.{escape}
use Rattle.json.specs.Lex.{tokens}
use Rattle.json.specs.Tree.{json_tokens, depth, items_depth, HasNumbers, ItemsHaveNumbers}
use Rattle.json.proofs.Printed.Strings.{escape_byte_plain}
use Rattle.json.proofs.Printed.Tokens.{tokens-print}
use Rattle.json.proofs.Printed.Trees.{ArePrintable-json_tokens, value-json_tokens}
use Rattle.serde_json.specs.Data.{Data, array}
use Rattle.serde_json.specs.Read.{max_depth, of_items, of_json, read}
use Rattle.serde_json.specs.View.{items_of}
use Rattle.serde_json.specs.Written.{compact_text, items_outline, outline}
use Rattle.serde_json.proofs.Texts.{print-outline}
use Rattle.pm_vector.specs.Numbers.{InRange, InRangeRatio, Ratio}
use Rattle.pm_fraction.specs.Text.{text_of}
use Rattle.pm_files.specs.ValueJson.{fraction_json, matrix_json, row_json}
use lib.IntN.{pos, negsuc, ℤ}

-- ---- fractions
plain_after : (ds es : List ℕ) → AllDigits 10 ds → escape es ≡ es → escape (ds ++ es) ≡ ds ++ es
plain_after [] es h e = e
plain_after (c ∷ cs) es h e =
    let r = digit_from_value c h.0 in
    ap₂ (λ (a b : List ℕ). a ++ b) (escape_byte_plain c (λ q. omega arith) (λ q. omega arith) (omega arith)) (plain_after cs es h.1 e)

plain_number : (z : ℤ) (es : List ℕ) → InRange z → escape es ≡ es → escape (signed_decimal z ++ es) ≡ signed_decimal z ++ es
plain_number (pos n) es h e = plain_after (decimal n) es (decimal_is_IsNumeral_wide n (omega arith)).0.1 e
plain_number (negsuc n) es h e =
    ap₂ (λ (a b : List ℕ). a ++ b) (escape_byte_plain 45 (λ q. omega arith) (λ q. omega arith) (omega arith))
    (plain_after (decimal (suc n)) es (decimal_is_IsNumeral_wide (suc n) (omega arith)).0.1 e)

plain_alone : (z : ℤ) → InRange z → escape (signed_decimal z) ≡ signed_decimal z
plain_alone z h = ap escape (sym (append-nil (signed_decimal z))) ∙ plain_number z [] h refl ∙ append-nil (signed_decimal z)

pub plain_ratio : (q : Ratio) → InRangeRatio q → escape (text_of q) ≡ text_of q
plain_ratio q h = by (int_eq q.den (pos 1))
  where
    by : (b : Bool) → escape (if b then signed_decimal q.num else signed_decimal q.num ++ (codes "/" ++ signed_decimal q.den)) ≡ (if b then signed_decimal q.num else signed_decimal q.num ++ (codes "/" ++ signed_decimal q.den))
    by true = plain_alone q.num h.0
    by false = plain_number q.num (47 ∷ signed_decimal q.den) h.0 (ap₂ (λ (a b : List ℕ). a ++ b) (escape_byte_plain 47 (λ e. omega arith) (λ e. omega arith) (omega arith)) (plain_alone q.den h.1))

-- a text in quotes behind another
pub quoted_behind : {T E : Type 0} (r : Result T E) (a b c d t : List ℕ) → b ≡ a ++ 34 ∷ [] → c ≡ b ++ t → d ≡ (if is_ok r then c ++ 34 ∷ [] else c) → OnOk r (d ≡ a ++ 34 ∷ (t ++ 34 ∷ []))
quoted_behind (Ok x) a b c d t first second third = third ∙ ap (λ (l : List ℕ). l ++ 34 ∷ []) (second ∙ ap (λ (l : List ℕ). l ++ t) first) ∙ ap (λ (l : List ℕ). l ++ 34 ∷ []) (append_assoc a (34 ∷ []) t) ∙ append_assoc a (34 ∷ t) (34 ∷ [])
quoted_behind (Err e) a b c d t first second third = tt

-- ---- the text is read as the JSON
-- what is written for d is read as d, and nests n levels at most
record Comes (n : ℕ) (d : Data) : Type 0 where
  same : of_json (outline d) ≡ Some d
  numbers : HasNumbers (outline d)
  shallow : depth (outline d) ≤ n

record ListComes (n : ℕ) (ds : List Data) : Type 0 where
  same : of_items (items_outline (items_of ds)) ≡ Some (items_of ds)
  numbers : ItemsHaveNumbers (items_outline (items_of ds))
  shallow : items_depth (items_outline (items_of ds)) ≤ n

entry_comes : (q : Ratio) → Comes 0 (fraction_json q)
entry_comes q = record { same = refl; numbers = tt; shallow = omega arith }

list_comes : {X : Type 0} (n : ℕ) (f : X → Data) → ((x : X) → Comes n (f x)) → (xs : List X) → ListComes n (map f xs)
list_comes n f h [] = record { same = refl; numbers = tt; shallow = omega arith }
list_comes n f h (x ∷ xs) =
    let first = h x in
    let rest = list_comes n f h xs in
    record { same = rw (first.same, rest.same) refl; numbers = (first.numbers, rest.numbers); shallow = let a = first.shallow in let b = rest.shallow in omega arith }

array_comes : {X : Type 0} (n : ℕ) (f : X → Data) → ((x : X) → Comes n (f x)) → (xs : List X) → Comes (n + 1) (array (items_of (map f xs)))
array_comes n f h xs =
    let l = list_comes n f h xs in
    record { same = ap (λ o. option_map array o) l.same; numbers = l.numbers; shallow = let a = l.shallow in omega arith }

rows_come : (rows : List (List Ratio)) → Comes 2 (array (items_of (map row_json rows)))
rows_come rows = array_comes 1 row_json (λ r. array_comes 0 fraction_json entry_comes r) rows

is_read : (d : Data) → Comes 2 d → read (compact_text d) ≡ Some d
is_read d c =
    let j = outline d in
    let known : tokens (compact_text d) ≡ json_tokens j ++ [] = ap tokens (sym (print-outline d)) ∙ tokens-print (json_tokens j) (ArePrintable-json_tokens j c.numbers) ∙ sym (append-nil (json_tokens j)) in
    ap (λ ts. option_and_then of_json (option_and_then (λ p. json.if_last p.0 p.1) (json.value max_depth ts))) known
    ∙ ap (λ o. option_and_then of_json (option_and_then (λ p. json.if_last p.0 p.1) o)) (value-json_tokens j max_depth [] (let s = c.shallow in omega arith)) ∙ c.same

pub matrix_is_read : (n : ℕ) (rows : List (List Ratio)) → rows ≢ [] → read (compact_text (matrix_json n rows)) ≡ Some (matrix_json n rows)
matrix_is_read n [] some = absurd (some refl)
matrix_is_read n (r ∷ rows) some = is_read (matrix_json n (r ∷ rows)) (rows_come (r ∷ rows))
