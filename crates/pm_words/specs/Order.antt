-- What the words mean: three options, each written at most once and in one of its ways, one after another in any
-- order.
use Rattle.std.specs.Prelude.{ℕ, ◌+◌, ◌≡◌, ◌≤◌, ◌↔◌, ◌⊎◌, Bool, true, false, List, [], ◌∷◌, ◌++◌, Option, Some, None, codes}
use Rattle.pm_store.specs.FileWords.{is_file_word}
use Rattle.pm_words.specs.Words.{WordsSeen, words_of}

-- the words that say whether rounds are traced
abbrev pub AreTraceWords : Bool → List (List ℕ) → Type 0
AreTraceWords true words = words ≡ codes "--trace" ∷ []
AreTraceWords false words = words ≡ []

-- the words that name the file of the rules, which is a file word, or no file
abbrev pub AreRulesWords : Option (List ℕ) → List (List ℕ) → Type 0
AreRulesWords (Some name) words = (is_file_word name ≡ true)
    × ((words ≡ codes "--rules" ∷ name ∷ []) ⊎ (words ≡ (codes "--rules=" ++ name) ∷ []))
AreRulesWords None words = words ≡ []

-- the digit n
abbrev pub digit : ℕ → List ℕ
digit n = (48 + n) ∷ []

-- the words that ask for a demo, by its number from 1 to 8, or for none
abbrev pub AreDemoWords : Option ℕ → List (List ℕ) → Type 0
AreDemoWords (Some n) words = (1 ≤ n) × (n ≤ 8)
    × ((words ≡ codes "--demo" ∷ digit n ∷ []) ⊎ (words ≡ (codes "--demo=" ++ digit n) ∷ []))
AreDemoWords None words = words ≡ []

-- the three lists one after another, in one of their six orders
pub data InSomeOrder (a b c words : List (List ℕ)) : Type 0 where
  abc : words ≡ a ++ (b ++ c) → InSomeOrder a b c words
  acb : words ≡ a ++ (c ++ b) → InSomeOrder a b c words
  bac : words ≡ b ++ (a ++ c) → InSomeOrder a b c words
  bca : words ≡ b ++ (c ++ a) → InSomeOrder a b c words
  cab : words ≡ c ++ (a ++ b) → InSomeOrder a b c words
  cba : words ≡ c ++ (b ++ a) → InSomeOrder a b c words

-- the words are those of the three options, in any order
pub record AreOptions (words : List (List ℕ)) (said : WordsSeen) : Type 0 where
  pub trace : List (List ℕ)
  pub rules : List (List ℕ)
  pub demo : List (List ℕ)
  pub trace_words : AreTraceWords said.trace trace
  pub rules_words : AreRulesWords said.rules rules
  pub demo_words : AreDemoWords said.demo demo
  pub order : InSomeOrder trace rules demo words

-- words say what such options say, and nothing where they are no such options
abbrev pub WordsAreOptions : Type 0
WordsAreOptions = (words : List (List ℕ)) (said : WordsSeen) → words_of words ≡ Some said
    ↔ AreOptions words said
