-- Files by their names, and what a call of a store may do to them.
use Rattle.std.specs.Prelude.{◌≡◌, ◌≢◌, ℕ, List, [], ◌∷◌, take, Option, Some, None, IfSome, option_map, ◌⊎◌, if◌then◌else◌, ◌+◌}
use Rattle.std.specs.Str.{bytes_eq}
use Rattle.pm_limits.specs.Limits.{most_file_bytes}

-- the bytes of the file of this name, if there is one
abbrev pub file_of : List (List ℕ × List ℕ) → List ℕ → Option (List ℕ)
file_of [] name = None
file_of (file ∷ files) name = if bytes_eq file.0 name then Some file.1 else file_of files name

-- no two files have one name
abbrev pub HasNamesOnce : List (List ℕ × List ℕ) → Type 0
HasNamesOnce [] = Unit {0}
HasNamesOnce (file ∷ files) = (file_of files file.0 ≡ None) × HasNamesOnce files

-- the most bytes of a file that are read
abbrev pub most_read : ℕ
most_read = most_file_bytes + 1

-- what is read of a file, if there is one
abbrev pub read_part : Option (List ℕ) → Option (List ℕ)
read_part file = option_map (take most_read) file

-- the files of other names are as before
abbrev pub OthersStay : List ℕ → List (List ℕ × List ℕ) → List (List ℕ × List ℕ) → Type 0
OthersStay name old new = (q : List ℕ) → q ≢ name → file_of new q ≡ file_of old q

-- the file of this name has these bytes now, and the others are as before
abbrev pub IsPut : List ℕ → List ℕ → List (List ℕ × List ℕ) → List (List ℕ × List ℕ) → Type 0
IsPut name bytes old new = (file_of new name ≡ Some bytes) × OthersStay name old new

-- a file is as before, absent, or has some first bytes of the new ones
abbrev pub IsInPart : List ℕ → Option (List ℕ) → Option (List ℕ) → Type 0
IsInPart bytes old new = (new ≡ old) ⊎ ((new ≡ None) ⊎ ((n : ℕ) × (new ≡ Some (take n bytes))))

-- the file of this name is as before, absent, or has some first bytes of the new ones, and the others are as before
abbrev pub IsPutInPart : List ℕ → List ℕ → List (List ℕ × List ℕ) → List (List ℕ × List ℕ) → Type 0
IsPutInPart name bytes old new = IsInPart bytes (file_of old name) (file_of new name)
    × OthersStay name old new

-- The files that are told, if they are, are told afterwards too, and are related so.
abbrev pub AreTold : (List (List ℕ × List ℕ) → List (List ℕ × List ℕ) → Type 0)
    → Option (List (List ℕ × List ℕ)) → Option (List (List ℕ × List ℕ)) → Type 0
AreTold P old new = IfSome old (λ had. (has : List (List ℕ × List ℕ)) × (new ≡ Some has) × P had has)

-- The files that are told, if they are, are the same as before.
abbrev pub FilesStay : Option (List (List ℕ × List ℕ)) → Option (List (List ℕ × List ℕ)) → Type 0
FilesStay old new = IfSome old (λ files. new ≡ Some files)
