-- Texts without an LF.
use Rattle.std.proofs.Common.{ap, arith, cond, eqb, refl, sym, subst, true≢false, zero, suc, ℕ, List, [], ◌∷◌, ◌++◌, Bool, true, false, not, ◌≡◌, ◌∙◌, ◌&&◌, ◌||◌, ◌<◌, ◌/◌, ◌%◌, ◌+◌, if◌then◌else◌, nat_lt, rules, inl, inr, flat_map, pos, negsuc, ℤ}
use Rattle.std.specs.List.{list_all}
use Rattle.std.specs.Fmt.{decimal, digit_glyph, digits, digits_onto, signed_decimal}
use Rattle.std.specs.Char.{digit_char}
use Rattle.std.proofs.lemmas.Bool.{and_parts, and_from, cases_Bool, eqb-true, ne_eqb}
use Rattle.std.proofs.lemmas.List.Folds.{list_all-append}
use Rattle.json.specs.Print.{escape, escape_byte, escape_letter, quoted}
use Rattle.serde_json.specs.Data.{Num, unsigned, negative, float, Data, null, boolean, number, string, array, object, Items, no_items, item, Members, no_members, member}
use Rattle.serde_json.specs.Written.{comma_if, compact_text, items_text, members_text, number_text}
use Rattle.pm_object_type.specs.declared.object_type.ObjectType.{ObjectType}
use Rattle.pm_object_type.specs.declared.object_type.ObjectType.TheVariants.{Cone, Fan, Polytope}
use Rattle.pm_props.proofs.Every.{all_properties}
use Rattle.pm_props.specs.Properties.{first_name}
use Rattle.pm_props.specs.declared.property.PropId.{PropId}
use Rattle.pm_script.specs.Replies.{name_shown}
use Rattle.pm_laws_replies.specs.Told.{is_in_line, is_one_line}

pub inside_above : (b : ℕ) → 10 < b → is_in_line b ≡ true
inside_above b h = ap not (ne_eqb b 10 (λ e. omega arith))

pub plain_append : (a b : List ℕ) → is_one_line a ≡ true → is_one_line b ≡ true → is_one_line (a ++ b) ≡ true
plain_append a b h k = list_all-append is_in_line a b ∙ and_from (is_one_line a) (is_one_line b) h k

pub plain_map : {A : Type 0} (f : A → List ℕ) → ((a : A) → is_one_line (f a) ≡ true) → (xs : List A) → is_one_line (flat_map f xs) ≡ true
plain_map f h [] = refl
plain_map f h (x ∷ xs) = plain_append (f x) (flat_map f xs) (h x) (plain_map f h xs)

-- ---- numbers
pub plain_glyph : (u : Bool) (d : ℕ) → is_in_line (digit_glyph u d) ≡ true
plain_glyph u d = by (nat_lt d 10) u
  where
    by : (b u : Bool) → is_in_line (if b then 48 + d else (if u then 55 + d else 87 + d)) ≡ true
    by true u = inside_above (48 + d) (omega arith)
    by false true = inside_above (55 + d) (omega arith)
    by false false = inside_above (87 + d) (omega arith)

plain_more : (u : Bool) (d : ℕ) (acc : List ℕ) → is_one_line acc ≡ true → is_one_line (digit_glyph u d ∷ acc) ≡ true
plain_more u d acc h = and_from (is_in_line (digit_glyph u d)) (is_one_line acc) (plain_glyph u d) h

pub plain_either : (b : Bool) (x y : List ℕ) → is_one_line x ≡ true → is_one_line y ≡ true → is_one_line (if b then x else y) ≡ true
plain_either true x y h k = h
plain_either false x y h k = k

pub plain_onto : (k base : ℕ) (u : Bool) (n : ℕ) (acc : List ℕ) → is_one_line acc ≡ true → is_one_line (digits_onto k base u n acc) ≡ true
plain_onto zero base u n acc h = h
plain_onto (suc k) base u n acc h = plain_either (eqb (n / base) 0) (digit_glyph u (n % base) ∷ acc) (digits_onto k base u (n / base) (digit_glyph u (n % base) ∷ acc))
    (plain_more u (n % base) acc h) (plain_onto k base u (n / base) (digit_glyph u (n % base) ∷ acc) (plain_more u (n % base) acc h))

pub plain_digits : (base : ℕ) (u : Bool) (n : ℕ) → is_one_line (digits base u n) ≡ true
unfolding digits
plain_digits base u n = plain_onto 64 base u n [] refl

pub plain_decimal : (n : ℕ) → is_one_line (decimal n) ≡ true
plain_decimal n = plain_digits 10 false n

pub plain_signed : (z : ℤ) → is_one_line (signed_decimal z) ≡ true
plain_signed (pos n) = plain_decimal n
plain_signed (negsuc n) = plain_decimal (suc n)

-- the first byte is below `A`
abbrev pub low_first : List ℕ → Bool
low_first [] = false
low_first (b ∷ text) = nat_lt b 65

low_glyph : (n : ℕ) → nat_lt (digit_glyph false (n % 10)) 65 ≡ true
low_glyph n = elim (cases_Bool (nat_lt (n % 10) 10)) [
  | inl e ↦ ap (λ b. nat_lt (if b then 48 + n % 10 else 87 + n % 10) 65) e ∙ below (48 + n % 10) (omega arith)
  | inr e ↦ absurd (true≢false (sym (below_ten (n % 10) (omega arith)) ∙ e))
]
  where
    below : (a : ℕ) → a < 65 → nat_lt a 65 ≡ true
    below a h = search (arith, rules)

    below_ten : (a : ℕ) → a < 10 → nat_lt a 10 ≡ true
    below_ten a h = search (arith, rules)

pub low_either : (b : Bool) (x y : List ℕ) → low_first x ≡ true → low_first y ≡ true → low_first (if b then x else y) ≡ true
low_either true x y h k = h
low_either false x y h k = k

low_onto : (k n : ℕ) (acc : List ℕ) → low_first acc ≡ true → low_first (digits_onto k 10 false n acc) ≡ true
low_onto zero n acc h = h
low_onto (suc k) n acc h = low_either (eqb (n / 10) 0) (digit_glyph false (n % 10) ∷ acc) (digits_onto k 10 false (n / 10) (digit_glyph false (n % 10) ∷ acc)) (low_glyph n) (low_onto k (n / 10) (digit_glyph false (n % 10) ∷ acc) (low_glyph n))

pub low_decimal : (n : ℕ) → low_first (decimal n) ≡ true
unfolding digits
low_decimal n = low_either (eqb (n / 10) 0) (digit_glyph false (n % 10) ∷ []) (digits_onto 63 10 false (n / 10) (digit_glyph false (n % 10) ∷ [])) (low_glyph n) (low_onto 63 (n / 10) (digit_glyph false (n % 10) ∷ []) (low_glyph n))

-- ---- JSON
plain_letter : (a b c d e f : Bool) (x : ℕ) → is_in_line x ≡ true → is_in_line (cond a x (cond b 98 (cond c 102 (cond d 110 (cond e 114 (cond f 116 0)))))) ≡ true
plain_letter true b c d e f x h = h
plain_letter false true c d e f x h = refl
plain_letter false false true d e f x h = refl
plain_letter false false false true e f x h = refl
plain_letter false false false false true f x h = refl
plain_letter false false false false false true x h = refl
plain_letter false false false false false false x h = refl

plain_hex : (d : ℕ) → is_in_line (digit_char d) ≡ true
plain_hex d = by (nat_lt d 10)
  where
    by : (b : Bool) → is_in_line (cond b (48 + d) (87 + d)) ≡ true
    by true = inside_above (48 + d) (omega arith)
    by false = inside_above (87 + d) (omega arith)

plain_byte : (x : ℕ) → is_one_line (escape_byte x) ≡ true
unfolding escape_byte
plain_byte x = elim (cases_Bool (eqb x 10)) [
  | inl e ↦ subst (λ z. is_one_line (escape_byte z) ≡ true) (sym (eqb-true x 10 e)) refl
  | inr e ↦ by (nat_lt 0 (escape_letter x)) (nat_lt x 32) (ap not e)
]
  where
    by : (b c : Bool) → is_in_line x ≡ true → is_one_line (cond b (92 ∷ escape_letter x ∷ []) (cond c (92 ∷ 117 ∷ 48 ∷ 48 ∷ digit_char (x / 16) ∷ digit_char (x % 16) ∷ []) (x ∷ []))) ≡ true
    by true c h = and_from (is_in_line (escape_letter x)) true (plain_letter ((eqb x 34) || (eqb x 92)) (eqb x 8) (eqb x 12) (eqb x 10) (eqb x 13) (eqb x 9) x h) refl
    by false true h = and_from (is_in_line (digit_char (x / 16))) (is_in_line (digit_char (x % 16)) && true) (plain_hex (x / 16)) (and_from (is_in_line (digit_char (x % 16))) true (plain_hex (x % 16)) refl)
    by false false h = and_from (is_in_line x) true h refl

pub plain_quoted : (s : List ℕ) → is_one_line (quoted s) ≡ true
plain_quoted s = plain_append (escape s) (34 ∷ []) (plain_map escape_byte plain_byte s) refl

plain_comma : (b : Bool) → is_one_line (comma_if b) ≡ true
plain_comma true = refl
plain_comma false = refl

plain_number : (n : Num) → is_one_line (number_text n) ≡ true
plain_number (unsigned n) = plain_decimal n
plain_number (negative z) = plain_signed z
plain_number (float x) = refl

mutual
  pub plain_json : (d : Data) → is_one_line (compact_text d) ≡ true
  plain_json null = refl
  plain_json (boolean true) = refl
  plain_json (boolean false) = refl
  plain_json (number n) = plain_number n
  plain_json (string s) = plain_quoted s
  plain_json (array ds) = plain_items false ds
  plain_json (object ms) = plain_members false ms

  plain_items : (b : Bool) (ds : Items) → is_one_line (items_text b ds) ≡ true
  plain_items b no_items = refl
  plain_items b (item d ds) = plain_append (comma_if b) (compact_text d ++ items_text true ds) (plain_comma b) (plain_append (compact_text d) (items_text true ds) (plain_json d) (plain_items true ds))

  plain_members : (b : Bool) (ms : Members) → is_one_line (members_text b ms) ≡ true
  plain_members b no_members = refl
  plain_members b (member k d ms) =
      plain_append (comma_if b) (quoted k ++ 58 ∷ (compact_text d ++ members_text true ms)) (plain_comma b)
      (plain_append (quoted k) (58 ∷ (compact_text d ++ members_text true ms)) (plain_quoted k) (plain_append (compact_text d) (members_text true ms) (plain_json d) (plain_members true ms)))

-- ---- names of properties
abbrev pub no_space : List ℕ → Bool
no_space text = list_all (λ b. not (eqb b 32)) text

-- the first byte is `A` or above
abbrev pub high_first : List ℕ → Bool
high_first [] = false
high_first (b ∷ text) = not (nat_lt b 65)

abbrev is_good : List ℕ → Bool
is_good name = is_one_line name && (no_space name && high_first name)

abbrev good_shown : ObjectType → PropId → Bool
good_shown of p = is_good (name_shown of p)

good : (of : ObjectType) (p : PropId) → good_shown of p ≡ true
good Polytope p = all_properties (good_shown Polytope) refl p
good Cone p = all_properties (good_shown Cone) refl p
good Fan p = all_properties (good_shown Fan) refl p

pub plain_shown : (of : ObjectType) (p : PropId) → is_one_line (name_shown of p) ≡ true
plain_shown of p = (and_parts (is_one_line (name_shown of p)) (no_space (name_shown of p) && high_first (name_shown of p)) (good of p)).0

pub unspaced_shown : (of : ObjectType) (p : PropId) → no_space (name_shown of p) ≡ true
unspaced_shown of p = (and_parts (no_space (name_shown of p)) (high_first (name_shown of p)) (and_parts (is_one_line (name_shown of p)) (no_space (name_shown of p) && high_first (name_shown of p)) (good of p)).1).0

pub high_shown : (of : ObjectType) (p : PropId) → high_first (name_shown of p) ≡ true
high_shown of p = (and_parts (no_space (name_shown of p)) (high_first (name_shown of p)) (and_parts (is_one_line (name_shown of p)) (no_space (name_shown of p) && high_first (name_shown of p)) (good of p)).1).1

pub plain_first : (p : PropId) → is_one_line (first_name p) ≡ true
plain_first p = all_properties (λ q. is_one_line (first_name q)) refl p

pub space_append : (a b : List ℕ) → no_space a ≡ true → no_space b ≡ true → no_space (a ++ b) ≡ true
space_append a b h k = list_all-append (λ c. not (eqb c 32)) a b ∙ and_from (no_space a) (no_space b) h k

-- no name of a property begins with `o` or `n`
abbrev pub first_of : ℕ → ℕ → List ℕ → Bool
first_of a b [] = false
first_of a b (c ∷ text) = eqb c a || eqb c b

abbrev apart_shown : ObjectType → PropId → Bool
apart_shown of p = not (first_of 111 110 (name_shown of p))

apart : (of : ObjectType) (p : PropId) → apart_shown of p ≡ true
apart Polytope p = all_properties (apart_shown Polytope) refl p
apart Cone p = all_properties (apart_shown Cone) refl p
apart Fan p = all_properties (apart_shown Fan) refl p

first_front : (a b : List ℕ) → high_first a ≡ true → not (first_of 111 110 a) ≡ true → first_of 111 110 (a ++ b) ≡ false
first_front [] b h k = absurd (true≢false (sym h))
first_front (x ∷ a) b h k = not_true (first_of 111 110 (x ∷ a)) k
  where
    not_true : (c : Bool) → not c ≡ true → c ≡ false
    not_true true h = absurd (true≢false (sym h))
    not_true false h = refl

pub first_shown : (of : ObjectType) (p : PropId) (rest : List ℕ) → first_of 111 110 (name_shown of p ++ rest) ≡ false
first_shown of p rest = first_front (name_shown of p) rest (high_shown of p) (apart of p)
