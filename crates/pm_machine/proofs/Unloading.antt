-- The first client of a name, and the clients without it.
use Rattle.pm_client.specs.Starts.{Clients}
use Rattle.pm_transact.proofs.Committing.{drop_at}
use Rattle.pm_rounds.proofs.Following.{drop_end}
use Rattle.pm_machine.specs.Steps.{is_client, without_client}
use Rattle.pm_props.specs.declared.kind.Kind.{Kind}
use Rattle.std.proofs.Common.{ap, arith, bytes_eq, drop, false, get_or, refl, subst, sym, take, true, ◌∙◌}
use Rattle.std.specs.List.{remove}
use Rattle.std.specs.Prelude.{List, [], if◌then◌else◌, length, map, suc, zero, ℕ, ◌+◌, ◌++◌, ◌<◌, ◌≤◌, ◌∷◌, ◌||◌, ◌≡◌}

-- none of the first i clients has the name
pub record NotBefore (name : List ℕ) (clients : Clients) (i : ℕ) : Type 0 where
  pub is : is_client name clients ≡ is_client name (drop i clients)
  pub without : without_client name clients ≡ take i clients ++ without_client name (drop i clients)

pub none_before : (name : List ℕ) (clients : Clients) → NotBefore name clients 0
none_before name clients = record { is = refl; without = refl }

take_at : {X : Type 0} (xs : List X) (i : ℕ) (x : X) → i < length xs → x ≡ get_or xs i x → take (i + 1) xs ≡ take i xs ++ x ∷ []
take_at [] i x h e = absurd (omega arith)
take_at (y ∷ ys) zero x h e = ap (λ z. z ∷ []) (sym e)
take_at (y ∷ ys) (suc i) x h e = let k : suc i + 1 ≡ suc (i + 1) = omega arith in rw k (ap (λ t. y ∷ t) (take_at ys i x (omega arith) e))

map_at : {X Y : Type 0} (f : X → Y) (xs : List X) (i : ℕ) (x : X) → i < length xs → x ≡ get_or xs i x → f x ≡ get_or (map f xs) i (f x)
map_at f [] i x h e = absurd (omega arith)
map_at f (y ∷ ys) zero x h e = ap f e
map_at f (y ∷ ys) (suc i) x h e = map_at f ys i x (omega arith) e

map_remove : {X Y : Type 0} (f : X → Y) (xs : List X) (i : ℕ) → map f (remove xs i) ≡ remove (map f xs) i
map_remove f [] zero = refl
map_remove f [] (suc i) = refl
map_remove f (x ∷ xs) zero = refl
map_remove f (x ∷ xs) (suc i) = ap (λ t. f x ∷ t) (map_remove f xs i)

length_mapped : {X Y : Type 0} (f : X → Y) (xs : List X) → length (map f xs) ≡ length xs
length_mapped f [] = refl
length_mapped f (x ∷ xs) = ap suc (length_mapped f xs)

append_one : {X : Type 0} (xs : List X) (x : X) (ys : List X) → (xs ++ x ∷ []) ++ ys ≡ xs ++ x ∷ ys
append_one [] x ys = refl
append_one (z ∷ xs) x ys = ap (λ t. z ∷ t) (append_one xs x ys)

module _ {B : Type 0} (f : B → Kind × ℕ) (name : List ℕ) (xs : List B) (i : ℕ) (x : B) (low : i < length xs) (at : x ≡ get_or xs i x) (s : NotBefore name (map f xs) i) where
  within : i < length (map f xs)
  within = subst (λ n. i < n) (sym (length_mapped f xs)) low

  here' : drop i (map f xs) ≡ f x ∷ drop (i + 1) (map f xs)
  here' = drop_at (map f xs) i (f x) within (map_at f xs i x low at)

  pub not_this : bytes_eq (f x).0.name name ≡ false → NotBefore name (map f xs) (i + 1)
  not_this no' = record {
    is = s.is ∙ ap (λ t. is_client name t) here' ∙ ap (λ t. t || is_client name (drop (i + 1) (map f xs))) no';
    without = s.without ∙ ap (λ t. take i (map f xs) ++ without_client name t) here'
        ∙ ap (λ t. take i (map f xs) ++ (if t then drop (i + 1) (map f xs) else f x ∷ without_client name (drop (i + 1) (map f xs)))) no'
        ∙ sym (append_one (take i (map f xs)) (f x) (without_client name (drop (i + 1) (map f xs))))
        ∙ ap (λ t. t ++ without_client name (drop (i + 1) (map f xs))) (sym (take_at (map f xs) i (f x) within (map_at f xs i x low at)));
  }

  pub this_is : bytes_eq (f x).0.name name ≡ true → is_client name (map f xs) ≡ true
  this_is named = s.is ∙ ap (λ t. is_client name t) here' ∙ ap (λ t. t || is_client name (drop (i + 1) (map f xs))) named

  pub without_this : bytes_eq (f x).0.name name ≡ true → without_client name (map f xs) ≡ map f (remove xs i)
  without_this named =
      let next : i + 1 ≡ suc i = omega arith in
      s.without ∙ ap (λ t. take i (map f xs) ++ without_client name t) here'
      ∙ ap (λ t. take i (map f xs) ++ (if t then drop (i + 1) (map f xs) else f x ∷ without_client name (drop (i + 1) (map f xs)))) named
      ∙ ap (λ k. take i (map f xs) ++ drop k (map f xs)) next ∙ sym (map_remove f xs i)

pub none_named : {B : Type 0} (f : B → Kind × ℕ) (name : List ℕ) (xs : List B) (i : ℕ) → length xs ≤ i → NotBefore name (map f xs) i → is_client name (map f xs) ≡ false
none_named f name xs i h s = s.is ∙ ap (λ t. is_client name t) (drop_end (map f xs) i (subst (λ n. n ≤ i) (sym (length_mapped f xs)) h))
