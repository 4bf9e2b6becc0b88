-- Rows whose set has members, and the places of the sets that hold an index among those.
use Rattle.pm_vector.proofs.Lists.{Among, here, there}
use Rattle.pm_vector.specs.Numbers.{Ratio}
use Rattle.pm_fan.specs.Fans.{has_members, holders_from, with_members}
use Rattle.pm_geom.specs.Graphs.{holds}
use Rattle.pm_types.specs.Forms.{are_indices}
use Rattle.std.proofs.Common.{ap, arith, false, refl, true}
use Rattle.std.proofs.lemmas.Bool.{and_from, le-leb, lt-ltb}
use Rattle.std.specs.List.{filter, list_all}
use Rattle.std.specs.Prelude.{Bool, cond, List, [], if◌then◌else◌, length, map, nat_le, nat_lt, suc, ℕ, ◌&&◌, ◌+◌, ◌∷◌, ◌≡◌, ◌≤◌}

among_either : {r : List Ratio} (x : List Ratio) (xs rows : List (List Ratio)) (b : Bool) → (Among r xs → Among r rows) → Among r (if b then x ∷ xs else xs) → Among r (x ∷ rows)
among_either x xs rows true rest here = here
among_either x xs rows true rest (there j) = there (rest j)
among_either x xs rows false rest j = there (rest j)

pub kept_among : (sets : List (List ℕ)) (rows : List (List Ratio)) (r : List Ratio) → Among r (with_members sets rows) → Among r rows
kept_among [] rows r i = elim i [ ]
kept_among (set ∷ sets) [] r i = elim i [ ]
kept_among (set ∷ sets) (x ∷ rows) r i = among_either x (with_members sets rows) rows (has_members set) (λ j. kept_among sets rows r j) i

pub kept_few : (sets : List (List ℕ)) (rows : List (List Ratio)) → length (with_members sets rows) ≤ length rows
kept_few [] rows = omega arith
kept_few (set ∷ sets) [] = omega arith
kept_few (set ∷ sets) (x ∷ rows) = by (kept_few sets rows) (has_members set)
  where
    by : length (with_members sets rows) ≤ length rows → (b : Bool) → length (if b then x ∷ with_members sets rows else with_members sets rows) ≤ length (x ∷ rows)
    by rest true = omega arith
    by rest false = omega arith

pub kept_few_sets : (sets : List (List ℕ)) (rows : List (List Ratio)) → length (with_members sets rows) ≤ length sets
kept_few_sets [] rows = omega arith
kept_few_sets (set ∷ sets) [] = omega arith
kept_few_sets (set ∷ sets) (x ∷ rows) = by (kept_few_sets sets rows) (has_members set)
  where
    by : length (with_members sets rows) ≤ length sets → (b : Bool) → length (if b then x ∷ with_members sets rows else with_members sets rows) ≤ length (set ∷ sets)
    by rest true = omega arith
    by rest false = omega arith

pub kept_length : (sets : List (List ℕ)) (rows : List (List Ratio)) → length sets ≡ length rows → length (filter has_members sets) ≡ length (with_members sets rows)
kept_length [] rows e = refl
kept_length (set ∷ sets) [] e = absurd (omega arith)
kept_length (set ∷ sets) (x ∷ rows) e = by (kept_length sets rows (omega arith)) (has_members set)
  where
    by : length (filter has_members sets) ≡ length (with_members sets rows) → (b : Bool) → length (cond b (set ∷ filter has_members sets) (filter has_members sets)) ≡ length (if b then x ∷ with_members sets rows else with_members sets rows)
    by rest true = ap suc rest
    by rest false = rest

-- ---- places that ascend
three : (a b c : Bool) → a ≡ true → b ≡ true → c ≡ true → (a && b && c) ≡ true
three a b c p q r = rw (p, q, r) refl

pub holders_ascend : (m low i : ℕ) (sets : List (List ℕ)) (j : ℕ) → low ≤ i → i + length sets ≤ m → are_indices m low (holders_from i sets j) ≡ true
holders_ascend m low i [] j l b = refl
holders_ascend m low i (set ∷ sets) j l b = by (holders_ascend m (suc i) (suc i) sets j (omega arith) (omega arith)) (holders_ascend m low (suc i) sets j (omega arith) (omega arith)) (holds set j)
  where
    by : are_indices m (suc i) (holders_from (suc i) sets j) ≡ true → are_indices m low (holders_from (suc i) sets j) ≡ true → (t : Bool) → are_indices m low (if t then i ∷ holders_from (suc i) sets j else holders_from (suc i) sets j) ≡ true
    by next rest true = three (nat_le low i) (nat_lt i m) (are_indices m (suc i) (holders_from (suc i) sets j)) (le-leb low i l) (lt-ltb i m (omega arith)) next
    by next rest false = rest

pub all_ascend : (m : ℕ) (f : ℕ → List ℕ) (js : List ℕ) → ((j : ℕ) → are_indices m 0 (f j) ≡ true) → list_all (are_indices m 0) (map f js) ≡ true
all_ascend m f [] h = refl
all_ascend m f (j ∷ js) h = and_from (are_indices m 0 (f j)) (list_all (are_indices m 0) (map f js)) (h j) (all_ascend m f js h)
