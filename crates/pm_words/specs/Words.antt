-- The words of the program, after its name: `--trace`, `--rules NAME` or `--rules=NAME`, and `--demo N` or
-- `--demo=N`, in any order, each at most once.
use Rattle.std.specs.Prelude.{ℕ, ◌-◌, Bool, true, false, ◌&&◌, nat_eq, nat_le, List, [], ◌∷◌, drop, Option, Some, None, is_none, if◌then◌else◌, codes}
use Rattle.std.specs.List.{starts_with}
use Rattle.std.specs.Str.{bytes_eq}
use Rattle.pm_store.specs.FileWords.{is_file_word}

-- what words say: the file of the rules, if they name one, whether rounds are traced, and the number of the demo, if
-- they ask for one
pub record WordsSeen : Type 0 where
  pub rules : Option (List ℕ)
  pub trace : Bool
  pub demo : Option ℕ

-- no words
abbrev pub nothing_said : WordsSeen
nothing_said = record { rules = None; trace = false; demo = None }

-- `--trace` beside words that do not say so
abbrev pub with_trace : Option WordsSeen → Option WordsSeen
with_trace None = None
with_trace (Some said) = if said.trace then None else Some (record said { trace = true })

-- the rules of a file NAME beside words that name no rules
abbrev pub with_rules : List ℕ → Option WordsSeen → Option WordsSeen
with_rules name None = None
with_rules name (Some said) = if is_none said.rules
    && is_file_word name then Some (record said { rules = Some name }) else None

-- the number of a demo: one digit from 1 to 8
abbrev pub demo_number : List ℕ → Option ℕ
demo_number (b ∷ []) = if nat_le 49 b && nat_le b 56 then Some (b - 48) else None
demo_number text = None

-- a demo of a number beside words that ask for none
abbrev pub with_number : Option ℕ → WordsSeen → Option WordsSeen
with_number None said = None
with_number (Some n) said = if is_none said.demo then Some (record said { demo = Some n }) else None

-- the demo N beside words that ask for none
abbrev pub with_demo : List ℕ → Option WordsSeen → Option WordsSeen
with_demo text None = None
with_demo text (Some said) = with_number (demo_number text) said

-- one word, `--trace`, `--rules=NAME` or `--demo=N`, beside others
abbrev pub with_word : List ℕ → Option WordsSeen → Option WordsSeen
with_word word others =
    if bytes_eq word (codes "--trace") then with_trace others
    else if starts_with nat_eq word (codes "--rules=") then with_rules (drop 8 word) others
    else if starts_with nat_eq word (codes "--demo=") then with_demo (drop 7 word) others
    else None

-- what the words say, if they are words of the program
abbrev pub words_of : List (List ℕ) → Option WordsSeen
words_of [] = Some nothing_said
words_of (word ∷ []) = with_word word (Some nothing_said)
words_of (word ∷ next ∷ words) =
    if bytes_eq word (codes "--rules") then with_rules next (words_of words)
    else if bytes_eq word (codes "--demo") then with_demo next (words_of words)
    else with_word word (words_of (next ∷ words))
