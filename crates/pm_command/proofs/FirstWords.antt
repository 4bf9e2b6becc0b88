-- What a line speaks, by its first word.
use Rattle.std.proofs.Common.{List, bytes_eq, codes, false, refl, true, ℕ, ◌≡◌}
use Rattle.pm_command.specs.Commands.{build_line, chain_line, copy_line, disable_line, drop_line, evidence_line, ensure_line, file_line, explain_line, give_line, history_line, line_of, load_line, lookup_line, new_line, object_line, origin_line, save_line, show_line, take_line, told_line, unload_line}

pub is_new : (first words : List ℕ) → bytes_eq first (codes "new") ≡ true → line_of first words ≡ new_line words
is_new first words a = rw (a) refl

pub is_take : (first words : List ℕ) → bytes_eq first (codes "new") ≡ false → bytes_eq first (codes "take") ≡ true → line_of first words ≡ take_line words
is_take first words a b = rw (a, b) refl

pub is_give : (first words : List ℕ) → bytes_eq first (codes "new") ≡ false → bytes_eq first (codes "take") ≡ false → bytes_eq first (codes "give") ≡ true → line_of first words ≡ give_line words
is_give first words a b d = rw (a, b, d) refl

pub is_lookup : (first words : List ℕ) → bytes_eq first (codes "new") ≡ false → bytes_eq first (codes "take") ≡ false → bytes_eq first (codes "give") ≡ false → bytes_eq first (codes "lookup") ≡ true → line_of first words ≡ lookup_line words
is_lookup first words a b d e = rw (a, b, d, e) refl

pub is_disable : (first words : List ℕ) → bytes_eq first (codes "new") ≡ false → bytes_eq first (codes "take") ≡ false → bytes_eq first (codes "give") ≡ false → bytes_eq first (codes "lookup") ≡ false → bytes_eq first (codes "disable") ≡ true → line_of first words ≡ disable_line words
is_disable first words a b d e f = rw (a, b, d, e, f) refl

pub is_unload : (first words : List ℕ) → bytes_eq first (codes "new") ≡ false → bytes_eq first (codes "take") ≡ false → bytes_eq first (codes "give") ≡ false → bytes_eq first (codes "lookup") ≡ false → bytes_eq first (codes "disable") ≡ false → bytes_eq first (codes "unload") ≡ true
    → line_of first words ≡ unload_line words
is_unload first words a b d e f k = rw (a, b, d, e, f, k) refl

pub is_on_chains : (first words : List ℕ) → bytes_eq first (codes "new") ≡ false → bytes_eq first (codes "take") ≡ false → bytes_eq first (codes "give") ≡ false → bytes_eq first (codes "lookup") ≡ false → bytes_eq first (codes "disable") ≡ false → bytes_eq first (codes "unload") ≡ false
    → line_of first words ≡ chain_line first words
is_on_chains first words a b d e f k = rw (a, b, d, e, f, k) refl

-- ---- commands on chains
pub is_ensure : (first words : List ℕ) → bytes_eq first (codes "ensure") ≡ true → chain_line first words ≡ ensure_line words
is_ensure first words a = rw (a) refl

pub is_explain : (first words : List ℕ) → bytes_eq first (codes "ensure") ≡ false → bytes_eq first (codes "explain") ≡ true → chain_line first words ≡ explain_line words
is_explain first words a b = rw (a, b) refl

pub is_history : (first words : List ℕ) → bytes_eq first (codes "ensure") ≡ false → bytes_eq first (codes "explain") ≡ false → bytes_eq first (codes "history") ≡ true → chain_line first words ≡ history_line words
is_history first words a b d = rw (a, b, d) refl

pub is_told : (first words : List ℕ) → bytes_eq first (codes "ensure") ≡ false → bytes_eq first (codes "explain") ≡ false → bytes_eq first (codes "history") ≡ false → chain_line first words ≡ told_line first words
is_told first words a b d = rw (a, b, d) refl

-- ---- commands that tell of an object
pub is_show : (first words : List ℕ) → bytes_eq first (codes "show") ≡ true → told_line first words ≡ show_line words
is_show first words a = rw (a) refl

pub is_evidence : (first words : List ℕ) → bytes_eq first (codes "show") ≡ false → bytes_eq first (codes "evidence") ≡ true → told_line first words ≡ evidence_line words
is_evidence first words a b = rw (a, b) refl

pub is_on_objects : (first words : List ℕ) → bytes_eq first (codes "show") ≡ false → bytes_eq first (codes "evidence") ≡ false → told_line first words ≡ object_line first words
is_on_objects first words a b = rw (a, b) refl

-- ---- commands on objects
pub is_copy : (first words : List ℕ) → bytes_eq first (codes "copy") ≡ true → object_line first words ≡ copy_line words
is_copy first words a = rw (a) refl

pub is_drop : (first words : List ℕ) → bytes_eq first (codes "copy") ≡ false → bytes_eq first (codes "drop") ≡ true → object_line first words ≡ drop_line words
is_drop first words a b = rw (a, b) refl

pub is_origin : (first words : List ℕ) → bytes_eq first (codes "copy") ≡ false → bytes_eq first (codes "drop") ≡ false → bytes_eq first (codes "origin") ≡ true → object_line first words ≡ origin_line words
is_origin first words a b d = rw (a, b, d) refl

pub is_on_files : (first words : List ℕ) → bytes_eq first (codes "copy") ≡ false → bytes_eq first (codes "drop") ≡ false → bytes_eq first (codes "origin") ≡ false → object_line first words ≡ file_line first words
is_on_files first words a b d = rw (a, b, d) refl

-- ---- commands on files
pub is_load : (first words : List ℕ) → bytes_eq first (codes "load") ≡ true → file_line first words ≡ load_line words
is_load first words a = rw (a) refl

pub is_save : (first words : List ℕ) → bytes_eq first (codes "load") ≡ false → bytes_eq first (codes "save") ≡ true → file_line first words ≡ save_line words
is_save first words a b = rw (a, b) refl

pub is_on_building : (first words : List ℕ) → bytes_eq first (codes "load") ≡ false → bytes_eq first (codes "save") ≡ false → file_line first words ≡ build_line first words
is_on_building first words a b = rw (a, b) refl
