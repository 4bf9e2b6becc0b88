-- Words with spaces between them are the tokens of their text.
use Rattle.std.proofs.Common.{◌≡◌, ℕ, suc, ◌+◌, ◌<◌, ◌≤◌, Bool, true, false, ◌||◌, eqb, leb, List, [], ◌∷◌, ◌++◌, length, get_or, take, drop, refl, sym, ap, ap₂, ◌∙◌, subst, arith, append_assoc, length-append, inl, inr, codes}
use Rattle.std.specs.List.{list_all, prefix_len, AllByRecursion}
use Rattle.std.specs.Str.{bytes_eq}
use Rattle.std.proofs.Math.Seq.{take-append_seam, drop-append_seam, drop-append-add}
use Rattle.std.proofs.lemmas.Bool.{and_parts, or_cases, or_left, or_right, cond_both, ne_eqb, leb-true, lt-leb, lt-ltb, both_ways, false≢true, false_from_ne_true}
use Rattle.std.proofs.lemmas.Slice.Eq.{bytes_eq-Decides}
use Rattle.pm_rules.specs.Words.{is_letter, is_digit, is_word_byte, is_word}
use Rattle.pm_books.specs.Tokens.{Token, after_gap, number_len, token_len, tokens_left}
use Rattle.pm_books.specs.Grammar.{texts}
use Rattle.pm_books.specs.Writing.{is_tight, spaced_word, spaced}
use Rattle.pm_books.proofs.Lexing.{enough, tokens_more}

abbrev pub tokens_in : ℕ → List ℕ → List Token
tokens_in total bytes = tokens_left total (length bytes) bytes

-- nothing, or a byte first that is in no word and no number
abbrev pub Stops : List ℕ → Type 0
Stops [] = Unit {0}
Stops (b ∷ bs) = is_word_byte b ≡ false

-- a text that is one token where what comes behind it stops it
pub record IsToken (w : List ℕ) : Type 0 where
  pub begins : (rest : List ℕ) → after_gap false (w ++ rest) ≡ w ++ rest
  pub some : 0 < length w
  pub ends : (rest : List ℕ) → Stops rest → token_len (w ++ rest) ≡ length w

-- ---- one token after the other
token_next : (total : ℕ) (w rest : List ℕ) → IsToken w → Stops rest → texts (tokens_in total (w ++ rest)) ≡ w ∷ texts (tokens_in total rest)
token_next total w rest is stops =
    let bytes : List ℕ = w ++ rest in
    let some : eqb (length bytes) 0 ≡ false = ne_eqb (length bytes) 0 (λ e. omega (arith, is.some, length-append w rest)) in
    let more = tokens_more total (length bytes) bytes bytes (sym (is.begins rest)) some (omega arith) in
    ap texts more ∙ ap (λ k. take k bytes ∷ texts (tokens_in total (drop k bytes))) (is.ends rest stops)
    ∙ ap₂ (λ (f r : List ℕ). f ∷ texts (tokens_in total r)) (take-append_seam w rest) (drop-append_seam w rest)

space_next : (total : ℕ) (bytes : List ℕ) → tokens_in total (32 ∷ bytes) ≡ tokens_in total bytes
space_next total bytes = enough total (suc (length bytes)) (length bytes) bytes (omega arith) (omega arith)

pub line_next : (total : ℕ) (bytes : List ℕ) → tokens_in total (10 ∷ bytes) ≡ tokens_in total bytes
line_next total bytes = enough total (suc (length bytes)) (length bytes) bytes (omega arith) (omega arith)

spaced_next : (total : ℕ) (w rest : List ℕ) → IsToken w → Stops rest → texts (tokens_in total (spaced_word w ++ rest)) ≡ w ∷ texts (tokens_in total rest)
unfolding spaced_word
spaced_next total w rest is stops = cond_both (is_tight w) w (32 ∷ w) (λ s. texts (tokens_in total (s ++ rest)) ≡ w ∷ texts (tokens_in total rest))
    (λ e. token_next total w rest is stops)
    (λ e. ap texts (space_next total (w ++ rest)) ∙ token_next total w rest is stops)

spaced_stops : (w rest : List ℕ) → Stops (spaced_word w ++ rest)
unfolding spaced_word
spaced_stops w rest = cond_both (is_tight w) w (32 ∷ w) (λ s. Stops (s ++ rest))
    (λ e. elim (or_cases (bytes_eq w (codes ",")) (bytes_eq w (codes ";")) e) [
      | inl h ↦ subst (λ s. Stops (s ++ rest)) (sym ((bytes_eq-Decides w (codes ",")).0 h)) refl
      | inr h ↦ subst (λ s. Stops (s ++ rest)) (sym ((bytes_eq-Decides w (codes ";")).0 h)) refl
    ])
    (λ e. refl)

pub list_stops : (ws : List (List ℕ)) (rest : List ℕ) → Stops rest → Stops (spaced ws ++ rest)
list_stops [] rest stops = stops
list_stops (w ∷ ws) rest stops = subst Stops (sym (append_assoc (spaced_word w) (spaced ws) rest)) (spaced_stops w (spaced ws ++ rest))

pub label_next : (total : ℕ) (w rest : List ℕ) → IsToken w → Stops rest → texts (tokens_in total (w ++ rest)) ≡ w ∷ texts (tokens_in total rest)
label_next total w rest is stops = token_next total w rest is stops

pub list_next : (total : ℕ) (ws : List (List ℕ)) (rest : List ℕ) → AllByRecursion IsToken ws → Stops rest → texts (tokens_in total (spaced ws ++ rest)) ≡ ws ++ texts (tokens_in total rest)
list_next total [] rest all stops = refl
list_next total (w ∷ ws) rest all stops =
    ap (λ s. texts (tokens_in total s)) (append_assoc (spaced_word w) (spaced ws) rest)
    ∙ spaced_next total w (spaced ws ++ rest) all.0 (list_stops ws rest stops)
    ∙ ap (λ ts. w ∷ ts) (list_next total ws rest all.1 stops)

-- ---- words
other_byte : (test : ℕ → Bool) (b k : ℕ) → test b ≡ true → test k ≡ false → eqb b k ≡ false
other_byte test b k passes fails = ne_eqb b k (λ e. both_ways (test k) fails (sym (ap test e) ∙ passes))

no_gap : (test : ℕ → Bool) (b : ℕ) (bs : List ℕ) → test b ≡ true → test 35 ≡ false → test 32 ≡ false → test 9 ≡ false → test 13 ≡ false → test 10 ≡ false
    → after_gap false (b ∷ bs) ≡ b ∷ bs
no_gap test b bs passes hash space tab cr lf =
    rw (other_byte test b 35 passes hash, other_byte test b 32 passes space, other_byte test b 9 passes tab, other_byte test b 13 passes cr, other_byte test b 10 passes lf) refl

pub whole_prefix : (test : ℕ → Bool) (xs rest : List ℕ) → list_all test xs ≡ true → prefix_len test rest ≡ 0 → prefix_len test (xs ++ rest) ≡ length xs
whole_prefix test [] rest h none = none
whole_prefix test (x ∷ xs) rest h none =
    let parts = and_parts (test x) (list_all test xs) h in
    let more : prefix_len test (xs ++ rest) ≡ length xs = whole_prefix test xs rest parts.1 none in
    rw parts.0 (omega arith)

stops_prefix : (test : ℕ → Bool) (rest : List ℕ) → ((b : ℕ) → test b ≡ true → is_word_byte b ≡ true) → Stops rest → prefix_len test rest ≡ 0
stops_prefix test [] within stops = refl
stops_prefix test (b ∷ bs) within stops =
    let fails : test b ≡ false = false_from_ne_true (test b) (λ h. both_ways (is_word_byte b) stops (within b h)) in
    rw fails refl

pub word_token : (w : List ℕ) → is_word w ≡ true → IsToken w
word_token [] h = absurd (false≢true h)
word_token (b ∷ bs) h =
    let parts = and_parts (is_letter b) (list_all is_word_byte bs) h in
    record {
      begins = λ rest. no_gap is_letter b (bs ++ rest) parts.0 refl refl refl refl refl;
      some = omega arith;
      ends = λ rest stops. rw parts.0 (ap suc (whole_prefix is_word_byte bs rest parts.1 (stops_prefix is_word_byte rest (λ b h. h) stops)));
    }

-- ---- numbers
digit_in_word : (b : ℕ) → is_digit b ≡ true → is_word_byte b ≡ true
digit_in_word b h = or_right (is_letter b) (is_digit b || eqb b 46) (or_left (is_digit b) (eqb b 46) h)

digit_no_letter : (b : ℕ) → is_digit b ≡ true → is_letter b ≡ false
digit_no_letter b h =
    let parts = and_parts (leb 48 b) (leb b 57) h in
    let most : b ≤ 57 = leb-true b 57 parts.1 in
    rw (lt-leb 65 b (omega arith), lt-leb 97 b (omega arith), ne_eqb b 95 (λ e. omega arith)) refl

digits_len : (ds rest : List ℕ) → list_all is_digit ds ≡ true → 0 < length ds → token_len (ds ++ rest) ≡ number_len (ds ++ rest)
digits_len [] rest h some = absurd (omega arith)
digits_len (d ∷ ds) rest h some = let parts = and_parts (is_digit d) (list_all is_digit ds) h in rw (digit_no_letter d parts.0, parts.0) refl

seam : (ds rest : List ℕ) → get_or (ds ++ rest) (length ds) 0 ≡ get_or rest 0 0
seam [] rest = refl
seam (d ∷ ds) rest = seam ds rest

stops_no_point : (rest : List ℕ) → Stops rest → eqb (get_or rest 0 0) 46 ≡ false
stops_no_point [] stops = refl
stops_no_point (b ∷ bs) stops = ne_eqb b 46 (λ e. both_ways (is_word_byte b) stops (ap is_word_byte e))

number_whole : (ds rest : List ℕ) → list_all is_digit ds ≡ true → Stops rest → number_len (ds ++ rest) ≡ length ds
number_whole ds rest h stops =
    let whole : prefix_len is_digit (ds ++ rest) ≡ length ds = whole_prefix is_digit ds rest h (stops_prefix is_digit rest digit_in_word stops) in
    let point : eqb (get_or (ds ++ rest) (length ds) 0) 46 ≡ false = ap (λ b. eqb b 46) (seam ds rest) ∙ stops_no_point rest stops in
    rw (whole, point) refl

number_pair : (ds es rest : List ℕ) → list_all is_digit ds ≡ true → list_all is_digit es ≡ true → 0 < length es → Stops rest
    → number_len (ds ++ (46 ∷ (es ++ rest))) ≡ length ds + 1 + length es
number_pair ds es rest h k some stops =
    let tail : List ℕ = 46 ∷ (es ++ rest) in
    let whole : prefix_len is_digit (ds ++ tail) ≡ length ds = whole_prefix is_digit ds tail h refl in
    let more : prefix_len is_digit (es ++ rest) ≡ length es = whole_prefix is_digit es rest k (stops_prefix is_digit rest digit_in_word stops) in
    rw (whole, seam ds tail, drop-append-add ds tail 1, more, lt-ltb 0 (length es) some) refl

pub digits_token : (ds : List ℕ) → list_all is_digit ds ≡ true → 0 < length ds → IsToken ds
digits_token [] h some = absurd (omega arith)
digits_token (d ∷ ds) h some = record {
  begins = λ rest. no_gap is_digit d (ds ++ rest) (and_parts (is_digit d) (list_all is_digit ds) h).0 refl refl refl refl refl;
  some = some;
  ends = λ rest stops. digits_len (d ∷ ds) rest h some ∙ number_whole (d ∷ ds) rest h stops;
}

pub pair_token : (ds es : List ℕ) → list_all is_digit ds ≡ true → 0 < length ds → list_all is_digit es ≡ true → 0 < length es → IsToken (ds ++ 46 ∷ es)
pair_token [] es h some k more = absurd (omega arith)
pair_token (d ∷ ds) es h some k more = record {
  begins = λ rest. no_gap is_digit d ((ds ++ 46 ∷ es) ++ rest) (and_parts (is_digit d) (list_all is_digit ds) h).0 refl refl refl refl refl;
  some = omega arith;
  ends = λ rest stops. ap token_len (append_assoc (d ∷ ds) (46 ∷ es) rest) ∙ digits_len (d ∷ ds) (46 ∷ (es ++ rest)) h some
      ∙ number_pair (d ∷ ds) es rest h k more stops ∙ omega (arith, length-append (d ∷ ds) (46 ∷ es));
}
