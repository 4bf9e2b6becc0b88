-- A line feed behind JSON that was printed changes no token of it.
use Rattle.std.proofs.Common.{◌≡◌, ℕ, Bool, true, false, cond, ◌&&◌, List, [], ◌∷◌, ◌++◌, refl, sym, ap, ap₂, ◌∙◌, append_assoc}
use Rattle.json.specs.Token.{Token, begin_object, end_object, begin_array, end_array, key, string, number, boolean, null, bad}
use Rattle.json.specs.Word.{ends_word, word}
use Rattle.json.specs.Lex.{Lexeme, token, comma, colon, string_token, lex, between, fresh, punctuate, tokens}
use Rattle.json.specs.Print.{escape, quoted, token_text, begins, ends, print_from, print, IsPrintable, ArePrintable}
use Rattle.json.proofs.Printed.Strings.{content-escape, lex-escape}
use Rattle.json.proofs.Printed.Numbers.{lex-number, in_word-ended}

abbrev token_lexemes : Token → List Lexeme
token_lexemes begin_object = token begin_object ∷ []
token_lexemes end_object = token end_object ∷ []
token_lexemes begin_array = token begin_array ∷ []
token_lexemes end_array = token end_array ∷ []
token_lexemes (key s) = token (string s) ∷ colon ∷ []
token_lexemes (string s) = token (string s) ∷ []
token_lexemes (number s) = token (number s) ∷ []
token_lexemes (boolean b) = token (boolean b) ∷ []
token_lexemes null = token null ∷ []
token_lexemes bad = []

-- a word ends before what follows a value, if what ends all ends one
value_ends : (ts : List Token) (end : List ℕ) → ends_word end ≡ true → ends_word (print_from true ts ++ end) ≡ true
unfolding print_from
value_ends [] end h = h
value_ends (begin_object ∷ ts) end h = refl
value_ends (end_object ∷ ts) end h = refl
value_ends (begin_array ∷ ts) end h = refl
value_ends (end_array ∷ ts) end h = refl
value_ends (key s ∷ ts) end h = refl
value_ends (string s ∷ ts) end h = refl
value_ends (number s ∷ ts) end h = refl
value_ends (boolean b ∷ ts) end h = refl
value_ends (null ∷ ts) end h = refl
value_ends (bad ∷ ts) end h = refl

-- and before nothing
ended : (ts : List Token) → ends_word (print_from true ts) ≡ true
unfolding print_from
ended [] = refl
ended (begin_object ∷ ts) = refl
ended (end_object ∷ ts) = refl
ended (begin_array ∷ ts) = refl
ended (end_array ∷ ts) = refl
ended (key s ∷ ts) = refl
ended (string s ∷ ts) = refl
ended (number s ∷ ts) = refl
ended (boolean b ∷ ts) = refl
ended (null ∷ ts) = refl
ended (bad ∷ ts) = refl

lex-quoted : (s r : List ℕ) → lex between (quoted s ++ r) ≡ token (string s) ∷ lex between r
unfolding lex
lex-quoted s r =
    let e = append_assoc (escape s) (34 ∷ []) r in
    ap (λ l. lex between (34 ∷ l)) e ∙ ap₂ (λ o l. token (string_token o) ∷ l) (content-escape s r) (lex-escape s r)

lex-token_text : (t : Token) (r : List ℕ) → IsPrintable t → (ends t ≡ true → ends_word r ≡ true) → lex between (token_text t ++ r) ≡ token_lexemes t ++ lex between r
unfolding lex word
lex-token_text begin_object r h ended = refl
lex-token_text end_object r h ended = refl
lex-token_text begin_array r h ended = refl
lex-token_text end_array r h ended = refl
lex-token_text (key s) r h ended = ap (lex between) (append_assoc (quoted s) (58 ∷ []) r) ∙ lex-quoted s (58 ∷ r)
lex-token_text (string s) r h ended = lex-quoted s r
lex-token_text (number s) r h ended = lex-number s r h (ended refl)
lex-token_text (boolean true) r h ended = ap₂ (λ b l. token (cond b (boolean true) bad) ∷ l) (ended refl) (in_word-ended r (ended refl))
lex-token_text (boolean false) r h ended = ap₂ (λ b l. token (cond b (boolean false) bad) ∷ l) (ended refl) (in_word-ended r (ended refl))
lex-token_text null r h ended = ap₂ (λ b l. token (cond b null bad) ∷ l) (ended refl) (in_word-ended r (ended refl))
lex-token_text bad r h ended = absurd h

lex-separator : (b : Bool) (r : List ℕ) → lex between (cond b (44 ∷ []) [] ++ r) ≡ cond b (comma ∷ []) [] ++ lex between r
unfolding lex
lex-separator true r = refl
lex-separator false r = refl

-- the lexemes of what is printed, before another text
lex-printed : (c : Bool) (ts : List Token) (end : List ℕ) → ArePrintable ts → ends_word end ≡ true → lex between end ≡ [] → lex between (print_from c ts ++ end) ≡ lex between (print_from c ts)
unfolding lex print_from ArePrintable
lex-printed c [] end h e none = none
lex-printed c (t ∷ ts) end h e none =
    let rest = print_from (ends t) ts in
    let sep = cond (c && begins t) (44 ∷ []) [] in
    ap (lex between) (append_assoc sep (token_text t ++ rest) end ∙ ap (λ l. sep ++ l) (append_assoc (token_text t) rest end))
    ∙ lex-separator (c && begins t) _
    ∙ ap (λ l. cond (c && begins t) (comma ∷ []) [] ++ l)
    (lex-token_text t (rest ++ end) h.0 (λ is. ap (λ b. ends_word (print_from b ts ++ end)) is ∙ value_ends ts end e)
    ∙ ap (λ l. token_lexemes t ++ l) (lex-printed (ends t) ts end h.1 e none)
    ∙ sym (lex-token_text t rest h.0 (λ is. ap (λ b. ends_word (print_from b ts)) is ∙ ended ts)))
    ∙ sym (lex-separator (c && begins t) _)

pub tokens-line : (ts : List Token) → ArePrintable ts → tokens (print ts ++ 10 ∷ []) ≡ tokens (print ts)
unfolding lex
tokens-line ts h = ap (punctuate fresh) (lex-printed false ts (10 ∷ []) h refl refl)
