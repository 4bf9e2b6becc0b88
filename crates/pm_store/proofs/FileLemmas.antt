-- Files put and found by their names.
use Rattle.std.proofs.Common.{◌≡◌, ◌≢◌, ℕ, zero, suc, ◌<◌, Bool, true, false, List, [], ◌∷◌, ◌++◌, map, set, get_or, length, take, min, Some, None, refl, ap, sym, ◌∙◌, inl, inr, arith}
use Rattle.std.proofs.lemmas.Bool.{cases_Bool, cases_lt, false_from_ne_true, ltb-false, cond-true}
use Rattle.std.proofs.lemmas.List.{take_all}
use Rattle.std.proofs.lemmas.List.Quantifiers.{position-Some}
use Rattle.std.proofs.lemmas.List.Sums.{fails_before_first}
use Rattle.std.proofs.lemmas.Slice.Eq.{bytes_eq-Decides}
use Rattle.std.specs.List.{position, position_or_len}
use Rattle.std.specs.Prelude.{nat_lt}
use Rattle.std.specs.Str.{bytes_eq}
use Rattle.pm_store.specs.Files.{HasNamesOnce, file_of}
use Rattle.pm_store.specs.MemStore.{put_file}

same_name : (xs : List ℕ) → bytes_eq xs xs ≡ true
same_name xs = (bytes_eq-Decides xs xs).1 refl

other_name : (xs ys : List ℕ) → (xs ≡ ys → ⊥) → bytes_eq xs ys ≡ false
other_name xs ys ne = false_from_ne_true _ (λ e. ne ((bytes_eq-Decides xs ys).0 e))

-- what was put is found
pub put_has : (files : List (List ℕ × List ℕ)) (name bytes : List ℕ) → file_of (put_file files name bytes) name ≡ Some bytes
put_has [] name bytes = simp (same_name name)
put_has (file ∷ files) name bytes = elim (cases_Bool (bytes_eq file.0 name)) [
  | inl e ↦ simp e
  | inr e ↦ simp e (put_has files name bytes)
]

-- files of other names stay
pub put_others : (files : List (List ℕ × List ℕ)) (name bytes q : List ℕ) → q ≢ name → file_of (put_file files name bytes) q ≡ file_of files q
put_others [] name bytes q ne = simp (other_name name q (λ e. ne (sym e)))
put_others (file ∷ files) name bytes q ne = elim (cases_Bool (bytes_eq file.0 name)) [
  | inl e ↦
      let other = other_name file.0 q (λ h. ne (sym h ∙ (bytes_eq-Decides file.0 name).0 e)) in
      simp (e, other)
  | inr e ↦ simp (e, put_others files name bytes q ne)
]

-- each name stands once
pub put_once : (files : List (List ℕ × List ℕ)) (name bytes : List ℕ) → HasNamesOnce files → HasNamesOnce (put_file files name bytes)
put_once [] name bytes once = (refl, tt)
put_once (file ∷ files) name bytes once = elim (cases_Bool (bytes_eq file.0 name)) [
  | inl e ↦ rw e once
  | inr e ↦
      let other : file.0 ≢ name = λ h. let same = (bytes_eq-Decides file.0 name).1 h in cc in
      rw e (put_others files name bytes file.0 other ∙ once.0, put_once files name bytes once.1)
]

-- the first that passes has the file
pub found_at : {X : Type 0} (seen : X → List ℕ × List ℕ) (xs : List X) (i : ℕ) (d : X) (name : List ℕ) → i < length xs
    → bytes_eq (seen (get_or xs i d)).0 name ≡ true → ((k : ℕ) → k < i → bytes_eq (seen (get_or xs k d)).0 name ≡ false)
    → file_of (map seen xs) name ≡ Some (seen (get_or xs i d)).1
found_at seen [] i d name within same before = absurd (omega arith)
found_at seen (x ∷ xs) zero d name within same before = simp same
found_at seen (x ∷ xs) (suc i) d name within same before =
    let first : bytes_eq (seen x).0 name ≡ false = before 0 (omega arith) in
    simp first (found_at seen xs i d name (omega arith) same (λ k h. before (suc k) (omega arith)))

-- where none passes there is no file
pub found_nowhere : {X : Type 0} (seen : X → List ℕ × List ℕ) (xs : List X) (d : X) (name : List ℕ)
    → ((k : ℕ) → k < length xs → bytes_eq (seen (get_or xs k d)).0 name ≡ false) → file_of (map seen xs) name ≡ None
found_nowhere seen [] d name other = refl
found_nowhere seen (x ∷ xs) d name other =
    let first : bytes_eq (seen x).0 name ≡ false = other 0 (omega arith) in
    simp first (found_nowhere seen xs d name (λ k h. other (suc k) (omega arith)))

-- a write at the first that passes, under the same name
pub put_at : {X : Type 0} (seen : X → List ℕ × List ℕ) (xs : List X) (i : ℕ) (d new : X) (name : List ℕ) → i < length xs
    → bytes_eq (seen (get_or xs i d)).0 name ≡ true → ((k : ℕ) → k < i → bytes_eq (seen (get_or xs k d)).0 name ≡ false)
    → (seen new).0 ≡ (seen (get_or xs i d)).0 → map seen (set xs i new) ≡ put_file (map seen xs) name (seen new).1
put_at seen [] i d new name within same before named = absurd (omega arith)
put_at seen (x ∷ xs) zero d new name within same before named =
    simp same (ap (λ (n : List ℕ). (n, (seen new).1) ∷ map seen xs) named)
put_at seen (x ∷ xs) (suc i) d new name within same before named =
    let first : bytes_eq (seen x).0 name ≡ false = before 0 (omega arith) in
    simp first (ap (λ t. seen x ∷ t) (put_at seen xs i d new name (omega arith) same (λ k h. before (suc k) (omega arith)) named))

-- a file more, where none passes
pub put_last : {X : Type 0} (seen : X → List ℕ × List ℕ) (xs : List X) (d new : X) (name : List ℕ)
    → ((k : ℕ) → k < length xs → bytes_eq (seen (get_or xs k d)).0 name ≡ false) → (seen new).0 ≡ name
    → map seen (xs ++ new ∷ []) ≡ put_file (map seen xs) name (seen new).1
put_last seen [] d new name other named = ap (λ (n : List ℕ). (n, (seen new).1) ∷ []) named
put_last seen (x ∷ xs) d new name other named =
    let first : bytes_eq (seen x).0 name ≡ false = other 0 (omega arith) in
    simp first (ap (λ t. seen x ∷ t) (put_last seen xs d new name (λ k h. other (suc k) (omega arith)) named))

-- where no element passes, there is no position
pub position_none : {X : Type 0} (p : X → Bool) (xs : List X) (d : X) → position p xs ≡ None → (k : ℕ) → k < length xs → p (get_or xs k d) ≡ false
position_none p xs d none k within = elim (cases_Bool (nat_lt (position_or_len p xs) (length xs))) [
  | inl e ↦ let some = cond-true (nat_lt (position_or_len p xs) (length xs)) (Some (position_or_len p xs)) None e in cc
  | inr e ↦ fails_before_first p xs k d (omega (arith, ltb-false _ _ e))
]

-- a first part of at most n bytes
pub take_short : (n : ℕ) (xs : List ℕ) → take (min (length xs) n) xs ≡ take n xs
take_short n xs = elim (cases_lt (length xs) n) [
  | inl h ↦
      let least : min (length xs) n ≡ length xs = omega arith in
      rw least (take_all (length xs) xs (omega arith) ∙ sym (take_all n xs (omega arith)))
  | inr h ↦ let least : min (length xs) n ≡ n = omega arith in rw least refl
]

-- a name, as the search for it tests it
abbrev pub has_name : {X : Type 0} → (X → List ℕ × List ℕ) → List ℕ → X → Bool
has_name seen name x = bytes_eq (seen x).0 name

pub found_absent : {X : Type 0} (seen : X → List ℕ × List ℕ) (xs : List X) (name : List ℕ) → None ≡ position (has_name seen name) xs → file_of (map seen xs) name ≡ None
found_absent seen [] name none = refl
found_absent seen (x ∷ xs) name none = found_nowhere seen (x ∷ xs) x name (position_none (has_name seen name) (x ∷ xs) x (sym none))

pub found_present : {X : Type 0} (seen : X → List ℕ × List ℕ) (xs : List X) (i : ℕ) (d : X) (name : List ℕ) → Some i ≡ position (has_name seen name) xs
    → file_of (map seen xs) name ≡ Some (seen (get_or xs i d)).1
found_present seen xs i d name some =
    let at = position-Some (has_name seen name) xs i d (sym some) in
    found_at seen xs i d name at.0 at.1 at.2

pub put_absent : {X : Type 0} (seen : X → List ℕ × List ℕ) (xs : List X) (new : X) (name bytes : List ℕ) → None ≡ position (has_name seen name) xs
    → (seen new).0 ≡ name → (seen new).1 ≡ bytes → map seen (xs ++ new ∷ []) ≡ put_file (map seen xs) name bytes
put_absent seen xs new name bytes none named content =
    put_last seen xs new new name (position_none (has_name seen name) xs new (sym none)) named
    ∙ ap (λ (b : List ℕ). put_file (map seen xs) name b) content

pub put_present : {X : Type 0} (seen : X → List ℕ × List ℕ) (xs : List X) (i : ℕ) (d new : X) (name bytes : List ℕ) → Some i ≡ position (has_name seen name) xs
    → (seen new).0 ≡ (seen (get_or xs i d)).0 → (seen new).1 ≡ bytes → map seen (set xs i new) ≡ put_file (map seen xs) name bytes
put_present seen xs i d new name bytes some named content =
    let at = position-Some (has_name seen name) xs i d (sym some) in
    put_at seen xs i d new name at.0 at.1 at.2 named ∙ ap (λ (b : List ℕ). put_file (map seen xs) name b) content
