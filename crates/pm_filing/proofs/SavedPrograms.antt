-- The programs of a file that is written, one after another.
use Rattle.std.proofs.Common.{ap, append-nil, append_assoc, arith, drop, refl, sym, ◌+◌, ◌++◌, ◌<◌, ◌≡◌, ◌∙◌, ◌∷◌, List, [], Some, ℕ, suc, zero, length}
use Rattle.std.specs.Prelude.{IfSome, map, slice_get}
use Rattle.pm_files.specs.Files.{SavedProgram}
use Rattle.pm_filing.specs.Filing.{name_told, saved_program, saved_programs}
use Rattle.pm_object.specs.State.{State}
use Rattle.pm_rules.specs.declared.rule.Rule.{Rule}

-- what stands at a place, and what is left there
record IsNext {X : Type 0} (xs : List X) (i : ℕ) : Type 0 where
  x : X
  got : slice_get xs i ≡ Some x
  left : drop i xs ≡ x ∷ drop (i + 1) xs

next_at : {X : Type 0} (xs : List X) (i : ℕ) → i < length xs → IsNext xs i
next_at [] i h = absurd (omega arith)
next_at (y ∷ ys) zero h = record { x = y; got = refl; left = refl }
next_at (y ∷ ys) (suc i) h =
    let n = next_at ys i (omega arith) in
    let k : suc i + 1 ≡ suc (i + 1) = omega arith in
    record { x = n.x; got = n.got; left = rw k n.left }

pub next_program : (book : List Rule) (o : State) (front all : List SavedProgram) (names : List (List ℕ)) (k : ℕ) (p : SavedProgram) → k < length names → IfSome (slice_get names k) (λ name. p ≡ saved_program book o k name)
    → front ++ saved_programs book o k (drop k names) ≡ all → (front ++ p ∷ []) ++ saved_programs book o (k + 1) (drop (k + 1) names) ≡ all
next_program book o front all names k p h is so_far =
    let n = next_at names k h in
    let made : p ≡ saved_program book o k n.x = rw n.got at is in
    let one : k + 1 ≡ suc k = omega arith in
    append_assoc front (p ∷ []) (saved_programs book o (k + 1) (drop (k + 1) names))
    ∙ ap (λ q. front ++ q ∷ saved_programs book o (k + 1) (drop (k + 1) names)) made
    ∙ ap (λ j. front ++ saved_program book o k n.x ∷ saved_programs book o j (drop (k + 1) names)) one
    ∙ ap (λ xs. front ++ saved_programs book o k xs) (sym n.left) ∙ so_far

drop_all : {X : Type 0} (xs : List X) → drop (length xs) xs ≡ []
drop_all [] = refl
drop_all (x ∷ xs) = drop_all xs

pub all_programs : (book : List Rule) (o : State) (front all : List SavedProgram) (names : List (List ℕ)) (k : ℕ) → k ≡ length names → front ++ saved_programs book o k (drop k names) ≡ all → front ≡ all
all_programs book o front all names k e so_far =
    sym (append-nil front) ∙ ap (λ xs. front ++ saved_programs book o k xs) (sym (ap (λ j. drop j names) e ∙ drop_all names)) ∙ so_far

-- their names
pub names_saved : (book : List Rule) (o : State) (k : ℕ) (names : List (List ℕ)) → map name_told (saved_programs book o k names) ≡ names
names_saved book o k [] = refl
names_saved book o k (name ∷ names) = ap (λ t. name ∷ t) (names_saved book o (suc k) names)
