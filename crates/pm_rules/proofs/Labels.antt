-- What a label is: a word of at most 32 bytes that is not `precondition`.
use Rattle.std.proofs.Common.{◌≡◌, ℕ, ◌≤◌, false, not, ◌&&◌, leb, eqb, true, IsTrue, List, length}
use Rattle.std.specs.List.{list_all}
use Rattle.std.specs.Str.{bytes_eq}
use Rattle.std.proofs.lemmas.Bool.{and_parts, not-true, leb-true}
use Rattle.pm_rules.specs.Words.{is_word, is_label, precondition_word}

pub label_is_word : (label : List ℕ) → IsTrue (is_label label) → is_word label ≡ true
label_is_word label h = (and_parts (is_word label) (leb (length label) 32 && (list_all (λ b. not (eqb b 46)) label && not (bytes_eq label precondition_word))) h).0

module _ (label : List ℕ) (h : IsTrue (is_label label)) where
  second : IsTrue (leb (length label) 32 && (list_all (λ b. not (eqb b 46)) label && not (bytes_eq label precondition_word)))
  second = (and_parts (is_word label) (leb (length label) 32 && (list_all (λ b. not (eqb b 46)) label && not (bytes_eq label precondition_word))) h).1

  pub label_is_short : length label ≤ 32
  label_is_short = leb-true (length label) 32 (and_parts (leb (length label) 32) (list_all (λ b. not (eqb b 46)) label && not (bytes_eq label precondition_word)) second).0

  pub label_is_no_precondition : bytes_eq label precondition_word ≡ false
  label_is_no_precondition =
      let third = and_parts (leb (length label) 32) (list_all (λ b. not (eqb b 46)) label && not (bytes_eq label precondition_word)) second in
      let fourth = and_parts (list_all (λ b. not (eqb b 46)) label) (not (bytes_eq label precondition_word)) third.1 in
      not-true (bytes_eq label precondition_word) fourth.1
