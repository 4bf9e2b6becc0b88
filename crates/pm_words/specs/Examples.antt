-- Words, worked by hand: what they say, and what no words of the program are.
use Rattle.std.specs.Prelude.{◌≡◌, List, [], ◌∷◌, Some, None, true, false, codes, ℕ}
use Rattle.pm_words.specs.Words.{WordsSeen, words_of}

abbrev pub rules_word : List ℕ
rules_word = codes "--rules"

abbrev pub trace_word : List ℕ
trace_word = codes "--trace"

abbrev pub book : List ℕ
book = codes "book-1"

-- the rules of the book, traced or not
abbrev pub of_book : WordsSeen
of_book = record { rules = Some book; trace = false; demo = None }

abbrev pub of_book_traced : WordsSeen
of_book_traced = record { rules = Some book; trace = true; demo = None }

abbrev pub demo_word : List ℕ
demo_word = codes "--demo"

abbrev pub of_demo : ℕ → WordsSeen
of_demo n = record { rules = None; trace = false; demo = Some n }

pub record WordsSay : Type 0 where
  pub nothing : words_of [] ≡ Some (record { rules = None; trace = false; demo = None })
  pub trace : words_of (trace_word ∷ []) ≡ Some (record { rules = None; trace = true; demo = None })
  pub apart : words_of (rules_word ∷ book ∷ []) ≡ Some of_book
  pub joined : words_of (codes "--rules=book-1" ∷ []) ≡ Some of_book
  pub trace_apart : words_of (trace_word ∷ rules_word ∷ book ∷ []) ≡ Some of_book_traced
  pub apart_trace : words_of (rules_word ∷ book ∷ trace_word ∷ []) ≡ Some of_book_traced
  pub trace_joined : words_of (trace_word ∷ codes "--rules=book-1" ∷ []) ≡ Some of_book_traced
  pub joined_trace : words_of (codes "--rules=book-1" ∷ trace_word ∷ []) ≡ Some of_book_traced
  pub first_demo : words_of (demo_word ∷ codes "1" ∷ []) ≡ Some (of_demo 1)
  pub last_demo : words_of (codes "--demo=8" ∷ []) ≡ Some (of_demo 8)
  pub all_three : words_of (codes "--demo=3" ∷ rules_word ∷ book ∷ trace_word ∷ [])
      ≡ Some (record of_book_traced { demo = Some 3 })
  pub all_apart : words_of (trace_word ∷ demo_word ∷ codes "3" ∷ rules_word ∷ book ∷ [])
      ≡ Some (record of_book_traced { demo = Some 3 })

pub record WordsSayNothing : Type 0 where
  pub hyphens : words_of (codes "--" ∷ []) ≡ None
  pub short_help : words_of (codes "-h" ∷ []) ≡ None
  pub help : words_of (codes "--help" ∷ []) ≡ None
  pub version : words_of (codes "--version" ∷ []) ≡ None
  pub stray : words_of (book ∷ []) ≡ None
  pub empty_word : words_of ([] ∷ []) ≡ None
  pub value : words_of (codes "--trace=1" ∷ []) ≡ None
  pub no_name : words_of (rules_word ∷ []) ≡ None
  pub empty_name : words_of (rules_word ∷ [] ∷ []) ≡ None
  pub empty_joined : words_of (codes "--rules=" ∷ []) ≡ None
  pub trace_as_name : words_of (rules_word ∷ trace_word ∷ []) ≡ None
  pub hyphen_name : words_of (codes "--rules=-a" ∷ []) ≡ None
  pub trace_twice : words_of (trace_word ∷ trace_word ∷ []) ≡ None
  pub rules_twice : words_of (rules_word ∷ book ∷ codes "--rules=book-1" ∷ []) ≡ None
  pub stray_after : words_of (rules_word ∷ book ∷ book ∷ []) ≡ None
  pub demo_0 : words_of (demo_word ∷ codes "0" ∷ []) ≡ None
  pub demo_9 : words_of (codes "--demo=9" ∷ []) ≡ None
  pub demo_12 : words_of (demo_word ∷ codes "12" ∷ []) ≡ None
  pub no_demo : words_of (demo_word ∷ []) ≡ None
  pub empty_demo : words_of (codes "--demo=" ∷ []) ≡ None
  pub demo_twice : words_of (demo_word ∷ codes "3" ∷ codes "--demo=3" ∷ []) ≡ None
  pub stray_digit : words_of (demo_word ∷ codes "3" ∷ codes "3" ∷ []) ≡ None
  pub demo_of_rules : words_of (rules_word ∷ demo_word ∷ codes "3" ∷ []) ≡ None
