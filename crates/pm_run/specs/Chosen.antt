-- The book of a run: the standard one, or the text of a file that the words name.
use Rattle.std.specs.Prelude.{ℕ, ◌≡◌, ◌<◌, ◌≤◌, ◌⊎◌, Bool, not, Option, Some, None, IfSome, List, ◌++◌, filter, length, map}
use Rattle.std.specs.List.{list_any}
use Rattle.std.specs.Str.{IsUtf8, bytes_eq}
use Rattle.pm_books.specs.Grammar.{IsBookText}
use Rattle.pm_client.specs.Starts.{Clients}
use Rattle.pm_standard.specs.Table.{standard_kinds_list}
use Rattle.pm_props.specs.declared.kind.Kind.{Kind}
use Rattle.pm_standard.specs.Book.{standard_rules}
use Rattle.pm_rules.specs.declared.rule.Rule.{Rule}
use Rattle.pm_store.specs.Files.{file_of}
use Rattle.pm_limits.specs.Limits.{most_file_bytes}

-- some standard kind has the name of this one
unfoldable pub has_standard_name : Kind → Bool
has_standard_name kind = list_any (λ standard. bytes_eq standard.name kind.name) standard_kinds_list

-- those kinds whose names no standard one has
abbrev pub without_standard_names : List Kind → List Kind
without_standard_names kinds = filter (λ kind. not (has_standard_name kind)) kinds

-- the kinds that a book may name: the standard ones, and those of the clients whose names no standard one has
unfoldable pub kinds_of : Clients → List Kind
kinds_of clients = standard_kinds_list ++ without_standard_names (map (λ client. client.0) clients)

-- the bytes are text, not too long, and spell these rules
pub record IsTextOf (clients : Clients) (bytes : List ℕ) (book : List Rule) : Type 0 where
  pub short : length bytes ≤ most_file_bytes
  pub utf8 : IsUtf8 bytes
  pub spells : IsBookText (kinds_of clients) bytes book

-- the bytes are no text, too long, or spell no rules
abbrev pub IsRefusedText : Clients → List ℕ → Type 0
IsRefusedText clients bytes =
    (most_file_bytes < length bytes)
    ⊎ ((¬ (IsUtf8 bytes)) ⊎ ((book : List Rule) → ¬ (IsBookText (kinds_of clients) bytes book)))

-- These are the rules of the book: without a name the standard ones, with a name those that a text spells.
-- Where the store tells its files, that is the text of the file of this name.
abbrev pub IsBook : Option (List ℕ) → Clients → Option (List (List ℕ × List ℕ)) → List Rule → Type 0
IsBook None clients files book = book ≡ standard_rules
IsBook (Some name) clients files book =
    (bytes : List ℕ) × IfSome files (λ all. file_of all name ≡ Some bytes) × IsTextOf clients bytes book

-- there is no such file, or its text is refused
abbrev pub IsRefusedFile : Clients → Option (List ℕ) → Type 0
IsRefusedFile clients None = Unit {0}
IsRefusedFile clients (Some bytes) = IsRefusedText clients bytes

-- of these files the one of this name is absent, or its text is refused
abbrev pub IsRefusedBook : List ℕ → Clients → List (List ℕ × List ℕ) → Type 0
IsRefusedBook name clients files = IsRefusedFile clients (file_of files name)
