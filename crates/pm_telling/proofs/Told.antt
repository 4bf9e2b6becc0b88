-- The names of programs that are told, one after another.
use Rattle.pm_script.specs.Replies.{NamesSeen}
use Rattle.pm_weights.specs.declared.Weight.{Weight}
use Rattle.std.proofs.Common.{ap, arith, sym, take, true≢false, ◌∙◌}
use Rattle.std.proofs.lemmas.List.{map-append}
use Rattle.std.specs.Option.{is_some}
use Rattle.std.specs.Prelude.{List, Some, [], map, slice_get, suc, zero, ℕ, ◌+◌, ◌++◌, ◌∷◌, ◌≡◌}

pub take_more : {X : Type 0} (xs : List X) (i : ℕ) (x : X) → Some x ≡ slice_get xs i → take (i + 1) xs ≡ take i xs ++ x ∷ []
take_more [] i x e = absurd (true≢false (ap is_some e))
take_more (y ∷ xs) zero x e = ap (λ z. z ∷ []) (sym (some_is e))
  where
    some_is : {A : Type 0} {a b : A} → Some a ≡ Some b → a ≡ b
    some_is h = cc
take_more (y ∷ xs) (suc i) x e = let next : suc i + 1 ≡ suc (i + 1) = omega arith in rw next (ap (λ t. y ∷ t) (take_more xs i x e))

abbrev told : List (List ℕ × Weight) → List (List ℕ) → NamesSeen
told rules programs = record { rules = rules; programs = programs }

told_so : (rules more : List (List ℕ × Weight)) (programs others : List (List ℕ)) → rules ≡ more → programs ≡ others → told rules programs ≡ told more others
told_so rules more programs others r p = cc

-- one name more
pub told_more : {S : Type 0} (f : S → List ℕ) (subs news : List S) (rules more : List (List ℕ × Weight)) (programs : List (List ℕ)) (i : ℕ) (x : S) (name : List ℕ)
    → told rules (map f subs) ≡ told more (take i programs) → news ≡ subs ++ x ∷ [] → f x ≡ name → Some name ≡ slice_get programs i
    → told rules (map f news) ≡ told more (take (i + 1) programs)
told_more f subs news rules more programs i x name before pushed same at =
    told_so rules more (map f news) (take (i + 1) programs) (ap (λ (n : NamesSeen). n.rules) before)
    (ap (map f) pushed ∙ map-append f subs (x ∷ []) ∙ ap (λ t. t ++ f x ∷ []) (ap (λ (n : NamesSeen). n.programs) before) ∙ ap (λ t. take i programs ++ t ∷ []) same ∙ sym (take_more programs i name at))
