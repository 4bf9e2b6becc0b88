-- A store in memory, as its callers see it.
use Rattle.std.specs.Prelude.{ℕ, List, [], ◌∷◌, Contains, string_bytes, if◌then◌else◌}
use Rattle.std.specs.Str.{bytes_eq}
use Rattle.pm_store.specs.Outside.{next_count}
use Rattle.pm_store.specs.declared.mem_store.StoredFile.{StoredFile}
use Rattle.pm_store.specs.declared.store.StoreFail.{StoreFail}
use Rattle.pm_store.specs.declared.store.StoreFail.TheVariants.{Memory, Failed}

-- The files in the order in which they came, each with its name, the numbers of the calls that fail,
-- how many calls there were, which is the number of the next one, and how many of them failed.
pub record StoreState : Type 0 where
  pub files : List (List ℕ × List ℕ)
  pub failing : List ℕ
  pub calls : ℕ
  pub faults : ℕ

-- a file with its name
abbrev pub seen_file : StoredFile → List ℕ × List ℕ
seen_file file = (string_bytes file.name, file.bytes.items)

-- the files with these bytes under this name: in its place where it has one, else last
abbrev pub put_file : List (List ℕ × List ℕ) → List ℕ → List ℕ → List (List ℕ × List ℕ)
put_file [] name bytes = (name, bytes) ∷ []
put_file (file ∷ files) name bytes = if bytes_eq file.0 name then (file.0, bytes) ∷ files
    else file ∷ put_file files name bytes

-- the next call fails: its number is listed
abbrev pub StoreFails : StoreState → Type 0
StoreFails s = Contains s.failing s.calls

-- after a call that changed no file and did not fail
abbrev pub after_call : StoreState → StoreState
after_call s = record s { calls = next_count s.calls }

-- after a call that put these bytes
abbrev pub after_put : StoreState → List ℕ → List ℕ → StoreState
after_put s name bytes = record s { files = put_file s.files name bytes; calls = next_count s.calls }

-- after a call that failed
abbrev pub after_fault : StoreState → StoreState
after_fault s = record s { calls = next_count s.calls; faults = next_count s.faults }

-- after a call that was refused for this reason
abbrev pub after_refusal : StoreState → StoreFail → StoreState
after_refusal s Memory = after_call s
after_refusal s Failed = after_fault s
