-- Ends of runs, worked by hand.
use Rattle.std.proofs.Common.{◌≡◌, ◌∙◌, ℕ, Bool, true, false, List, [], ◌∷◌, ◌++◌, ◌<◌, Some, ap, arith, get_or, length, refl, subst, sym, take}
use Rattle.std.specs.Prelude.{codes}
use Rattle.std.specs.List.{AllZip, flat_map}
use Rattle.std.specs.Str.{IsUtf8, chars, is_utf8}
use Rattle.std.proofs.lemmas.Bool.{false≢true}
use Rattle.std.proofs.lemmas.Fmt.{decimal_digit}
use Rattle.std.proofs.lemmas.List.{length-take}
use Rattle.std.proofs.lemmas.Str.{is_utf8-from_IsUtf8}
use Rattle.pm_books.specs.Grammar.{IsBookText, Means, Written, texts, words_of}
use Rattle.pm_books.specs.Tokens.{tokens_of}
use Rattle.pm_rules.specs.declared.rule.Rule.{Rule}
use Rattle.pm_standard.specs.Table.{standard_kinds_list}
use Rattle.pm_check.specs.Books.{IsBookAnswer, count_text}
use Rattle.pm_check.specs.Books.IsBookAnswer.{fault, no_text, spells}
use Rattle.pm_check.specs.Ends.{AnswersBook}
use Rattle.pm_check.specs.Examples.{RunsEnd}
use Rattle.pm_check.proofs.VerdictExamples.{differ}

none_spelled : IsBookText standard_kinds_list [] []
none_spelled = record { written = []; words = refl; means = tt; few = omega arith; labels = λ i j d l m. absurd (omega arith) }

is_text : IsUtf8 []
is_text = ([], (refl, refl))

is_no_text : IsUtf8 (255 ∷ []) → ⊥
unfolding is_utf8 chars
is_no_text utf8 = false≢true (is_utf8-from_IsUtf8 (255 ∷ []) utf8)

count_is_told : count_text 0 ≡ codes "ok 0\n"
count_is_told = ap (λ (w : List ℕ). codes "ok " ++ w ++ codes "\n") (decimal_digit 0 (omega arith))

-- a text without words spells no rules
nothing_written : (written : List Written) (rules : List Rule) → AllZip (Means standard_kinds_list) written rules → texts (tokens_of []) ≡ flat_map words_of written → rules ≡ []
nothing_written [] [] means e = refl
nothing_written [] (rule ∷ rules) means e = absurd means
nothing_written (w ∷ written) rules means e = cc

answer_of_none : (line : List ℕ) (right : Bool) → IsBookAnswer [] line right → (right ≡ true) × (line ≡ codes "ok 0\n")
answer_of_none line right (no_text none e) = absurd (none is_text)
answer_of_none line right (spells rules utf8 is e) = (refl, e ∙ ap (λ (rs : List Rule). count_text (length rs)) (nothing_written is.written rules is.means is.words) ∙ count_is_told)
answer_of_none line right (fault why utf8 none of e) = absurd (none [] none_spelled)

text_of_right : (bytes line : List ℕ) → IsBookAnswer bytes line true → IsUtf8 bytes
text_of_right bytes line (spells rules utf8 is e) = utf8

answer_is : IsBookAnswer [] (codes "ok 0\n") true
answer_is = spells [] is_text none_spelled (sym count_is_told)

-- the file is empty, and its answer the one line
line_of : (line : List ℕ) (right : Bool) → AnswersBook (codes "b") (Some ((codes "b", []) ∷ [])) line right → (right ≡ true) × (line ≡ codes "ok 0\n")
line_of line right a = answer_of_none line right (subst (λ (bytes : List ℕ). IsBookAnswer bytes line right) (let same : a.bytes ≡ [] = (let there = a.there in cc) in same) a.answer)

no_part : (n : ℕ) (line : List ℕ) → line ≡ codes "ok 0\n" → n < length line → Some (codes "ok 0\n") ≡ Some (take n line) → ⊥
no_part n line is below e =
    let same : codes "ok 0\n" ≡ take n line = cc in
    let five : length line ≡ 5 = ap length is in
    omega (arith, length-take n line, ap length same)

pub runs_end : RunsEnd
runs_end = record {
  book = (codes "ok 0\n", record { bytes = []; there = refl; short = omega arith; answer = answer_is }, refl);
  other_count = λ e.
      let taken = e.2 in
      let same : e.0 ≡ codes "ok 1\n" = cc in
      differ 48 49 refl (ap (λ (l : List ℕ). get_or l 3 0) (sym (line_of e.0 true e.1).1 ∙ same));
  other_status = λ e. let right = (line_of e.0 false e.1).0 in cc;
  no_text = (codes "no text\n", record { bytes = 255 ∷ []; there = refl; short = omega arith; answer = no_text is_no_text refl }, refl);
  is_no_book = λ e. is_no_text (subst IsUtf8 (let there = e.1.there in let same : e.1.bytes ≡ 255 ∷ [] = cc in same) (text_of_right e.1.bytes e.0 e.1.answer));
  bad_words = (tt, refl);
  written = λ e. let taken = e.1 in cc;
  answered = λ e. absurd e.1;
  of_words = λ e. absurd e.0;
  source_fault = refl;
  after_fault = λ e. let taken = e in cc;
  in_part = (codes "ok 0\n", true, record { bytes = []; there = refl; short = omega arith; answer = answer_is }, (2, omega arith, refl));
  whole = λ e. no_part e.3.0 e.0 (line_of e.0 e.1 e.2).1 e.3.1 e.3.2;
}
