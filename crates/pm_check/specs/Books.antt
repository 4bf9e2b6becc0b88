-- Books: the one by which a plan is judged, and what is answered of a file that may be one.
use Rattle.std.specs.Prelude.{◌≡◌, ℕ, ◌+◌, ◌<◌, ◌≤◌, ◌⊎◌, ◌==◌, ◌++◌, Bool, true, false, if◌then◌else◌, Option, Some, None, IfSome, List, [], ◌∷◌, Err, count_by, length, take, codes, decimal}
use Rattle.std.specs.Str.{IsUtf8}
use Rattle.pm_books.specs.Grammar.{IsBookText}
use Rattle.pm_books.specs.Reading.{book_of}
use Rattle.pm_books.specs.declared.fail.BookFail.{BookFail}
use Rattle.pm_books.specs.declared.fail.BookFail.TheVariants.{Syntax, UnknownProperty, UnknownClient, SignatureMismatch, SameLabel, WeightRange, TooManyRules, Memory}
use Rattle.pm_limits.specs.Limits.{most_file_bytes}
use Rattle.pm_rules.specs.declared.rule.Rule.{Rule}
use Rattle.pm_standard.specs.Book.{standard_rules}
use Rattle.pm_standard.specs.Table.{standard_kinds_list}
use Rattle.pm_store.specs.Files.{file_of}

-- ---- which book it is
-- the bytes are not too long, text, and spell these rules
pub record IsTextOf (bytes : List ℕ) (book : List Rule) : Type 0 where
  pub short : length bytes ≤ most_file_bytes
  pub utf8 : IsUtf8 bytes
  pub spells : IsBookText standard_kinds_list bytes book

-- the bytes are too long, no text, or spell no rules
abbrev pub IsRefusedText : List ℕ → Type 0
IsRefusedText bytes = (most_file_bytes < length bytes)
    ⊎ ((¬ (IsUtf8 bytes)) ⊎ ((book : List Rule) → ¬ (IsBookText standard_kinds_list bytes book)))

-- the standard book without a name, else the one that the file of this name spells, where the store tells its files
abbrev pub IsBookNamed : Option (List ℕ) → Option (List (List ℕ × List ℕ)) → List Rule → Type 0
IsBookNamed None files book = book ≡ standard_rules
IsBookNamed (Some name) files book = (bytes : List ℕ) × IfSome files (λ all. file_of all name ≡ Some bytes)
    × IsTextOf bytes book

-- there is no such file, or it spells no book
abbrev pub IsRefusedFile : Option (List ℕ) → Type 0
IsRefusedFile None = Unit {0}
IsRefusedFile (Some bytes) = IsRefusedText bytes

-- there is no such file, or it is too long to be a book
abbrev pub IsNoFile : Option (List ℕ) → Type 0
IsNoFile None = Unit {0}
IsNoFile (Some bytes) = most_file_bytes < length bytes

-- ---- what is wrong with one
-- the line of a place, counted from 1
abbrev pub line_at : ℕ → List ℕ → ℕ
line_at place text = 1 + count_by (λ b. b == 10) (take place text)

-- the column behind the bytes, from this one on: each byte is a column, and an LF begins with 1 anew
abbrev pub column_from : ℕ → List ℕ → ℕ
column_from column [] = column
column_from column (b ∷ bs) = if b == 10 then column_from 1 bs else column_from (column + 1) bs

-- the column of a place, counted from 1; a column is a byte
abbrev pub column_at : ℕ → List ℕ → ℕ
column_at place text = column_from 1 (take place text)

-- `NAME at line L, column C`
abbrev pub at_text : List ℕ → ℕ → List ℕ → List ℕ
at_text name place text = name ++ codes " at line " ++ decimal (line_at place text) ++ codes ", column "
    ++ decimal (column_at place text) ++ codes "\n"

-- the line that tells a fault; that memory ran out is none
abbrev pub fault_text : BookFail → List ℕ → List ℕ
fault_text (Syntax place) text = at_text (codes "Syntax") place text
fault_text (UnknownProperty place) text = at_text (codes "UnknownProperty") place text
fault_text (UnknownClient place) text = at_text (codes "UnknownClient") place text
fault_text (SignatureMismatch place) text = at_text (codes "SignatureMismatch") place text
fault_text (SameLabel place) text = at_text (codes "SameLabel") place text
fault_text (WeightRange place) text = at_text (codes "WeightRange") place text
fault_text (TooManyRules place) text = at_text (codes "TooManyRules") place text
fault_text Memory text = []

-- `ok N`
abbrev pub count_text : ℕ → List ℕ
count_text n = codes "ok " ++ decimal n ++ codes "\n"

-- the line tells this fault, and it is a no
pub record IsFaultAnswer (why : BookFail) (bytes line : List ℕ) (right : Bool) : Type 0 where
  pub other : why ≡ Memory → ⊥
  pub says : line ≡ fault_text why bytes
  pub no_yes : right ≡ false

-- the bytes are no text; or they spell a book of so many rules; or this is the first fault, and they spell none
pub data IsBookAnswer (bytes line : List ℕ) : Bool → Type 0 where
  no_text : ¬ (IsUtf8 bytes) → line ≡ codes "no text\n" → IsBookAnswer bytes line false
  spells : (rules : List Rule) → IsUtf8 bytes → IsBookText standard_kinds_list bytes rules
      → line ≡ count_text (length rules) → IsBookAnswer bytes line true
  fault : (why : BookFail) → IsUtf8 bytes
      → ((rules : List Rule) → ¬ (IsBookText standard_kinds_list bytes rules))
      → book_of standard_kinds_list bytes ≡ Err why
      → line ≡ fault_text why bytes → IsBookAnswer bytes line false
