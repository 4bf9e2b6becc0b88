-- Words that are cut at a mark, by what they are and by their bytes.
use Rattle.std.proofs.Common.{◌≡◌, ◌∙◌, ℕ, ◌+◌, Bool, List, [], ◌∷◌, Option, Some, None, length, take, drop, map, ap, ap₂, refl, subst, sym, cond, eqb, false, not, ltb}
use Rattle.std.specs.List.{position, prefix_len}
use Rattle.std.specs.Option.{option_map}
use Rattle.std.specs.Str.{bytes_eq}
use Rattle.std.proofs.lemmas.List.{drop-map, length-map, take-map}
use Rattle.pm_object_type.specs.declared.object_type.ObjectType.{ObjectType}
use Rattle.pm_check.specs.Words.{cut, with_asked}

front_of_map : {A B : Type 0} (f : A → B) (p : B → Bool) (xs : List A) → prefix_len p (map f xs) ≡ prefix_len (λ x. p (f x)) xs
front_of_map f p [] = refl
front_of_map f p (x ∷ xs) = ap (λ n. cond (p (f x)) (1 + n) 0) (front_of_map f p xs)

place_of_map : {A B : Type 0} (f : A → B) (p : B → Bool) (xs : List A) → position p (map f xs) ≡ position (λ x. p (f x)) xs
place_of_map f p xs = ap₂ (λ (k n : ℕ). cond (ltb k n) (Some k) None) (front_of_map f (λ y. not (p y)) xs) (length-map xs f)

abbrev apart : List (List ℕ) → ℕ → List (List ℕ) × List (List ℕ)
apart words k = (take k words, drop (k + 1) words)

abbrev parted : {A : Type 0} → (A → List ℕ) → List A → ℕ → List (List ℕ) × List (List ℕ)
parted f words k = (map f (take k words), map f (drop (k + 1) words))

both_same : {A : Type 0} (f : A → List ℕ) (words : List A) (o : Option ℕ) → option_map (parted f words) o ≡ option_map (apart (map f words)) o
both_same f words None = refl
both_same f words (Some k) = ap₂ (λ (a b : List (List ℕ)). Some (a, b)) (sym (take-map f k words)) (sym (drop-map f (k + 1) words))

pub cut_of_map : {A : Type 0} (f : A → List ℕ) (mark : List ℕ) (words : List A) (place : Option ℕ) → place ≡ position (λ w. bytes_eq (f w) mark) words
    → option_map (parted f words) place ≡ cut mark (map f words)
cut_of_map f mark words place e =
    subst (λ (o : Option ℕ). option_map (parted f words) place ≡ option_map (apart (map f words)) o) (e ∙ sym (place_of_map f (λ w. bytes_eq w mark) words)) (both_same f words place)

-- of names that are not none what is said is said
pub asked_some : {A : Type 0} (f : A → List ℕ) (program : Bool) (book : Option (List ℕ)) (of : ObjectType) (held : List (List ℕ)) (asked : List A) (barred : List (List ℕ)) → eqb (length asked) 0 ≡ false
    → Some (record { program = program; book = book; of = of; held = held; asked = map f asked; barred = barred }) ≡ with_asked program book of held (map f asked, barred)
asked_some f program book of held [] barred some = cc
asked_some f program book of held (x ∷ xs) barred some = refl
