-- What is spelled by the grammar is read: names and conditions.
use Rattle.std.proofs.Common.{◌≡◌, ℕ, ◌<◌, Bool, true, false, ◌&&◌, eqb, Result, Ok, List, [], ◌∷◌, ◌++◌, inl, inr, map, refl, sym, ap, ◌∙◌, subst, arith, append_assoc, codes}
use Rattle.std.specs.List.{flat_map, list_all}
use Rattle.std.proofs.lemmas.Bool.{cases_Bool, and_parts, eqb-true, false≢true}
use Rattle.std.specs.Str.{bytes_eq}
use Rattle.std.proofs.lemmas.Slice.Eq.{bytes_eq-Decides}
use Rattle.pm_props.specs.declared.property.PropId.{PropId}
use Rattle.pm_props.proofs.Every.{all_properties}
use Rattle.pm_props.specs.declared.property.ValueKind.TheVariants as value
use Rattle.pm_props.specs.declared.set.PropSet.{PropSet}
use Rattle.pm_props.specs.Properties.{value_kind, first_name, cone_name, fan_name}
use Rattle.pm_props.specs.Sets.{has, only, union}
use Rattle.pm_props.specs.Names.{IsNameOf}
use Rattle.pm_props.proofs.NameLemmas.{named_by_name}
use Rattle.pm_books.specs.declared.fail.BookFail.{BookFail}
use Rattle.pm_rules.specs.Words.{is_letter, is_word_byte, is_word}
use Rattle.pm_books.specs.Tokens.{Token}
use Rattle.pm_books.specs.Reading.{token_where, after, name_of, is_comma, names_from, Conditions, with_condition, condition_of, is_not, conditions_from}
use Rattle.pm_books.specs.Reading.Due.{condition, comma}
use Rattle.pm_books.specs.Grammar.{Condition, behind_comma, separated, name_item, condition_item, AddNames, AreNames, AddConditions, texts}

-- ---- names are words
abbrev has_words : PropId → Bool
has_words p = is_word (first_name p) && (is_word (cone_name p) && is_word (fan_name p))

words : (p : PropId) → (is_word (first_name p) ≡ true) × ((is_word (cone_name p) ≡ true) × (is_word (fan_name p) ≡ true))
words p =
    let both = and_parts (is_word (first_name p)) (is_word (cone_name p) && is_word (fan_name p)) (all_properties has_words refl p) in
    (both.0, and_parts (is_word (cone_name p)) (is_word (fan_name p)) both.1)

pub first_word : (p : PropId) → is_word (first_name p) ≡ true
first_word p = (words p).0

name_is_word : (text : List ℕ) (p : PropId) → IsNameOf text p → is_word text ≡ true
name_is_word text p (inl e) = ap is_word e ∙ first_word p
name_is_word text p (inr (inl e)) = ap is_word e ∙ (words p).1.0
name_is_word text p (inr (inr e)) = ap is_word e ∙ (words p).1.1

-- ---- lists of words
pub head_same : {X : Type 0} (x y : X) (xs ys : List X) → x ∷ xs ≡ y ∷ ys → x ≡ y
head_same x y xs ys e = cc

pub tail_same : {X : Type 0} (x y : X) (xs ys : List X) → x ∷ xs ≡ y ∷ ys → xs ≡ ys
tail_same x y xs ys e = cc

-- what was read, and the words of the tokens behind it
abbrev pub ReadsAs : {X : Type 0} → Result (X × List Token) BookFail → X → List (List ℕ) → Type 0
ReadsAs read x words = (rest : List Token) × (read ≡ Ok (x, rest)) × (texts rest ≡ words)

pub token_where_reads : (test : List ℕ → Bool) (end : ℕ) (ts : List Token) (word : List ℕ) (words : List (List ℕ)) → texts ts ≡ word ∷ words → test word ≡ true
    → (t : Token) × (t.text ≡ word) × ReadsAs (token_where test end ts) t words
unfolding token_where
token_where_reads test end [] word words e passes = cc
token_where_reads test end (t ∷ ts) word words e passes =
    let text : t.text ≡ word = head_same t.text word (texts ts) words e in
    let passes' : test t.text ≡ true = ap test text ∙ passes in
    (t, text, (ts, (rw passes' refl), tail_same t.text word (texts ts) words e))

pub after_reads : (word : List ℕ) (end : ℕ) (ts : List Token) (words : List (List ℕ)) → texts ts ≡ word ∷ words → (rest : List Token) × (after word end ts ≡ Ok rest) × (texts rest ≡ words)
unfolding after
after_reads word end ts words e =
    let t = token_where_reads (λ w. bytes_eq w word) end ts word words e ((bytes_eq-Decides word word).1 refl) in
    (t.2.0, (rw t.2.1 refl), t.2.2)

-- no comma comes next
abbrev pub NoCommaNext : List (List ℕ) → Type 0
NoCommaNext [] = Unit {0}
NoCommaNext (word ∷ words) = bytes_eq word (codes ",") ≡ false

-- ---- names
name_of_reads : (set : PropSet) (t : Token) (p : PropId) → IsNameOf t.text p → has set p ≡ false → name_of set t ≡ Ok p
unfolding name_of
name_of_reads set t p named new = rw (name_is_word t.text p named, named_by_name t.text p named, new) refl

comma_word : bytes_eq (codes ",") (codes ",") ≡ true
comma_word = refl

more_names_read : (names : List (List ℕ)) (set last : PropSet) (end : ℕ) (ts : List Token) (words : List (List ℕ)) → AddNames names set last → texts ts ≡ flat_map behind_comma (map name_item names) ++ words
    → NoCommaNext words → ReadsAs (names_from false set end ts) last words
unfolding names_from
more_names_read [] set last end [] words added e none = ([], ap (λ s. Ok (s, [])) added, e)
more_names_read [] set last end (t ∷ ts) [] added e none = cc
more_names_read [] set last end (t ∷ ts) (word ∷ words) added e none =
    let not_comma : is_comma t ≡ false = ap (λ w. bytes_eq w (codes ",")) (head_same t.text word (texts ts) words e) ∙ none in
    (t ∷ ts, (rw not_comma (ap (λ s. Ok (s, t ∷ ts)) added)), e)
more_names_read (n ∷ names) set last end [] words added e none = cc
more_names_read (n ∷ names) set last end (t ∷ []) words added e none =
    let short = tail_same t.text (codes ",") [] (n ∷ (flat_map behind_comma (map name_item names) ++ words)) e in cc
more_names_read (n ∷ names) set last end (t ∷ u ∷ us) words (p, named, new, added) e none =
    let behind : List (List ℕ) = flat_map behind_comma (map name_item names) ++ words in
    let tail = tail_same t.text (codes ",") (u.text ∷ texts us) (n ∷ behind) e in
    let is_sign : is_comma t ≡ true = ap (λ w. bytes_eq w (codes ",")) (head_same t.text (codes ",") (u.text ∷ texts us) (n ∷ behind) e) ∙ comma_word in
    let text : u.text ≡ n = head_same u.text n (texts us) behind tail in
    let read : name_of set u ≡ Ok p = name_of_reads set u p (subst (λ w. IsNameOf w p) (sym text) named) new in
    let more = more_names_read names (union set (only p)) last end us words added (tail_same u.text n (texts us) behind tail) none in
    (more.0, (rw (is_sign, read) more.1), more.2)

pub names_read : (names : List (List ℕ)) (set : PropSet) (end : ℕ) (ts : List Token) (words : List (List ℕ)) → AreNames names set → texts ts ≡ separated (map name_item names) ++ words
    → NoCommaNext words → ReadsAs (names_from true 0 end ts) set words
unfolding names_from
names_read [] set end ts words are e none = absurd (let some : 0 < 0 = are.0 in omega arith)
names_read (n ∷ names) set end [] words are e none = cc
names_read (n ∷ names) set end (t ∷ ts) words (some, (p, named, new, added)) e none =
    let behind : List (List ℕ) = flat_map behind_comma (map name_item names) ++ words in
    let text : t.text ≡ n = head_same t.text n (texts ts) behind e in
    let read : name_of 0 t ≡ Ok p = name_of_reads 0 t p (subst (λ w. IsNameOf w p) (sym text) named) new in
    let more = more_names_read names (union 0 (only p)) set end ts words added (tail_same t.text n (texts ts) behind e) none in
    (more.0, (rw read more.1), more.2)

-- ---- conditions
condition_of_reads : (found : Conditions) (t : Token) (p : PropId) → IsNameOf t.text p → value_kind p ≡ value.Bool → has (union found.must found.must_not) p ≡ false → condition_of found t ≡ Ok p
unfolding condition_of
condition_of_reads found t p named flag new = rw (name_of_reads (union found.must found.must_not) t p named new, flag) refl

not_word : bytes_eq (codes "!") (codes "!") ≡ true
not_word = refl

-- a name is not `!`
name_no_sign : (text : List ℕ) → is_word text ≡ true → bytes_eq text (codes "!") ≡ false
name_no_sign [] h = refl
name_no_sign (b ∷ bs) h = elim (cases_Bool (eqb b 33)) [
  | inl e ↦ absurd (false≢true (sym (ap is_letter (eqb-true b 33 e)) ∙ (and_parts (is_letter b) (list_all is_word_byte bs) h).0))
  | inr e ↦ rw e refl
]

-- what is read behind a condition
abbrev HasRead : Conditions → ℕ → List Token → Bool → PropId → List (List ℕ) → Type 0
HasRead found end ts negated p words =
    (rest : List Token) × (conditions_from condition found end ts ≡ conditions_from comma (with_condition found negated p) end rest) × (texts rest ≡ words)

plain_reads : (text : List ℕ) (found : Conditions) (end : ℕ) (ts : List Token) (words : List (List ℕ)) (p : PropId) → IsNameOf text p → value_kind p ≡ value.Bool
    → has (union found.must found.must_not) p ≡ false → texts ts ≡ text ∷ words → HasRead found end ts false p words
unfolding conditions_from
plain_reads text found end [] words p named flag new e = cc
plain_reads text found end (t ∷ ts) words p named flag new e =
    let is_text : t.text ≡ text = head_same t.text text (texts ts) words e in
    let named' : IsNameOf t.text p = subst (λ w. IsNameOf w p) (sym is_text) named in
    let no_sign : is_not t ≡ false = name_no_sign t.text (name_is_word t.text p named') in
    let read : condition_of found t ≡ Ok p = condition_of_reads found t p named' flag new in
    (ts, (rw (no_sign, read) refl), tail_same t.text text (texts ts) words e)

negated_reads : (text : List ℕ) (found : Conditions) (end : ℕ) (ts : List Token) (words : List (List ℕ)) (p : PropId) → IsNameOf text p → value_kind p ≡ value.Bool
    → has (union found.must found.must_not) p ≡ false → texts ts ≡ codes "!" ∷ text ∷ words → HasRead found end ts true p words
unfolding conditions_from
negated_reads text found end [] words p named flag new e = cc
negated_reads text found end (t ∷ []) words p named flag new e = let short = tail_same t.text (codes "!") [] (text ∷ words) e in cc
negated_reads text found end (t ∷ u ∷ us) words p named flag new e =
    let tail = tail_same t.text (codes "!") (u.text ∷ texts us) (text ∷ words) e in
    let is_text : u.text ≡ text = head_same u.text text (texts us) words tail in
    let named' : IsNameOf u.text p = subst (λ w. IsNameOf w p) (sym is_text) named in
    let sign : is_not t ≡ true = ap (λ w. bytes_eq w (codes "!")) (head_same t.text (codes "!") (u.text ∷ texts us) (text ∷ words) e) ∙ not_word in
    let read : condition_of found u ≡ Ok p = condition_of_reads found u p named' flag new in
    (us, (rw (sign, read) refl), tail_same u.text text (texts us) words tail)

condition_reads : (negated : Bool) (text : List ℕ) (found : Conditions) (end : ℕ) (ts : List Token) (words : List (List ℕ)) (p : PropId) → IsNameOf text p → value_kind p ≡ value.Bool
    → has (union found.must found.must_not) p ≡ false → texts ts ≡ condition_item (record { negated = negated; name = text }) ++ words → HasRead found end ts negated p words
condition_reads true text found end ts words p named flag new e = negated_reads text found end ts words p named flag new e
condition_reads false text found end ts words p named flag new e = plain_reads text found end ts words p named flag new e

more_conditions_read : (cs : List Condition) (found last : Conditions) (end : ℕ) (ts : List Token) (words : List (List ℕ)) → AddConditions cs found last
    → texts ts ≡ flat_map behind_comma (map condition_item cs) ++ words → NoCommaNext words → ReadsAs (conditions_from comma found end ts) last words
unfolding conditions_from
more_conditions_read [] found last end [] words added e none = ([], ap (λ f. Ok (f, [])) added, e)
more_conditions_read [] found last end (t ∷ ts) [] added e none = cc
more_conditions_read [] found last end (t ∷ ts) (word ∷ words) added e none =
    let not_comma : is_comma t ≡ false = ap (λ w. bytes_eq w (codes ",")) (head_same t.text word (texts ts) words e) ∙ none in
    (t ∷ ts, (rw not_comma (ap (λ f. Ok (f, t ∷ ts)) added)), e)
more_conditions_read (c ∷ cs) found last end [] words added e none = cc
more_conditions_read (c ∷ cs) found last end (t ∷ ts) words (p, named, flag, new, added) e none =
    let behind : List (List ℕ) = flat_map behind_comma (map condition_item cs) ++ words in
    let e' : t.text ∷ texts ts ≡ codes "," ∷ (condition_item c ++ behind) = e ∙ ap (λ ws. codes "," ∷ ws) (append_assoc (condition_item c) (flat_map behind_comma (map condition_item cs)) words) in
    let is_sign : is_comma t ≡ true = ap (λ w. bytes_eq w (codes ",")) (head_same t.text (codes ",") (texts ts) (condition_item c ++ behind) e') ∙ comma_word in
    let it = condition_reads c.negated c.name found end ts behind p named flag new (tail_same t.text (codes ",") (texts ts) (condition_item c ++ behind) e') in
    let more = more_conditions_read cs (with_condition found c.negated p) last end it.0 words added it.2 none in
    (more.0, (rw is_sign (it.1 ∙ more.1)), more.2)

pub conditions_read : (c : Condition) (cs : List Condition) (found last : Conditions) (end : ℕ) (ts : List Token) (words : List (List ℕ)) → AddConditions (c ∷ cs) found last
    → texts ts ≡ separated (map condition_item (c ∷ cs)) ++ words → NoCommaNext words → ReadsAs (conditions_from condition found end ts) last words
conditions_read c cs found last end ts words (p, named, flag, new, added) e none =
    let behind : List (List ℕ) = flat_map behind_comma (map condition_item cs) ++ words in
    let it = condition_reads c.negated c.name found end ts behind p named flag new (e ∙ append_assoc (condition_item c) (flat_map behind_comma (map condition_item cs)) words) in
    let more = more_conditions_read cs (with_condition found c.negated p) last end it.0 words added it.2 none in
    (more.0, it.1 ∙ more.1, more.2)
