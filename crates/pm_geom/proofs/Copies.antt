-- One more element of a list that is copied element by element, seen through a view of the elements.
use Rattle.std.proofs.Common.{ap, arith, get_or, refl, sym, ◌∙◌}
use Rattle.std.proofs.lemmas.List.{map-append, take_more}
use Rattle.std.specs.Prelude.{List, [], length, map, suc, take, zero, ℕ, ◌+◌, ◌++◌, ◌∷◌, ◌≡◌, ◌<◌}

get_map : {X Y : Type 0} (f : X → Y) (xs : List X) (i : ℕ) (d : X) → get_or (map f xs) i (f d) ≡ f (get_or xs i d)
get_map f [] i d = refl
get_map f (x ∷ xs) zero d = refl
get_map f (x ∷ xs) (suc i) d = get_map f xs i d

length_map : {X Y : Type 0} (f : X → Y) (xs : List X) → length (map f xs) ≡ length xs
length_map f [] = refl
length_map f (x ∷ xs) = ap suc (length_map f xs)

pub made : {X Y Z : Type 0} (f : X → Y) (g : Z → Y) (xs : List Z) (ys : List X) (x : X) (i : ℕ) (d : Z) → map f ys ≡ take i (map g xs) → i < length xs → f x ≡ g (get_or xs i d) → map f (ys ++ x ∷ []) ≡ take (i + 1) (map g xs)
made f g xs ys x i d h l e =
    let m = length_map g xs in
    map-append f ys (x ∷ []) ∙ ap (λ zs. zs ++ f x ∷ []) h ∙ ap (λ y. take i (map g xs) ++ y ∷ []) (e ∙ sym (get_map g xs i d)) ∙ sym (take_more (map g xs) i (g d) (omega arith))

pub copied : {X Y : Type 0} (f : X → Y) (xs ys : List X) (x : X) (i : ℕ) (d : X) → map f ys ≡ take i (map f xs) → i < length xs → f x ≡ f (get_or xs i d) → map f (ys ++ x ∷ []) ≡ take (i + 1) (map f xs)
copied f xs ys x i d h l e = made f f xs ys x i d h l e
