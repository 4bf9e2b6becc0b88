-- Words and places, worked by hand.
use Rattle.std.proofs.Common.{◌≡◌, ℕ, List, ◌++◌, ap, ap₂, arith, refl}
use Rattle.std.specs.Prelude.{codes}
use Rattle.std.specs.Fmt.{decimal}
use Rattle.std.proofs.lemmas.Fmt.{decimal_digit}
use Rattle.pm_check.specs.Examples.{PlacesAreTold, WordsAsk, WordsAskNothing}

pub words_ask : WordsAsk
words_ask = record {
  plan = refl;
  nothing_held = refl;
  program = refl;
  by_book = refl;
  barred = refl;
  book = refl;
  no_words = refl;
  other_word = refl;
  no_type = refl;
  no_colon = refl;
  nothing_asked = refl;
  only_barred = refl;
  two_books = refl;
}

pub words_ask_nothing : WordsAskNothing
words_ask_nothing = record {
  unknown_held = refl;
  unknown_asked = refl;
  unknown_rule = refl;
}

one_digit : decimal 1 ≡ codes "1"
one_digit = decimal_digit 1 (omega arith)

two_digit : decimal 2 ≡ codes "2"
two_digit = decimal_digit 2 (omega arith)

pub places_are_told : PlacesAreTold
places_are_told = record {
  first = (refl, refl);
  end_of_line = (refl, refl);
  next_line = (refl, refl);
  last = (refl, refl);
  syntax = ap₂ (λ (a b : List ℕ). codes "Syntax" ++ codes " at line " ++ a ++ codes ", column " ++ b ++ codes "\n") two_digit two_digit;
  label = ap₂ (λ (a b : List ℕ). codes "SameLabel" ++ codes " at line " ++ a ++ codes ", column " ++ b ++ codes "\n") two_digit one_digit;
  count = ap (λ (a : List ℕ). codes "ok " ++ a ++ codes "\n") (decimal_digit 3 (omega arith));
}
