-- Elements of filtered and mapped lists, and tests on some element.
use Rattle.pm_vector.proofs.Lists.{Among, here, there}
use Rattle.std.proofs.Common.{cond, false, filter, refl, subst, sym, true, true≢false}
use Rattle.std.specs.List.{list_any}
use Rattle.std.specs.Prelude.{Bool, List, [], map, ◌||◌, ◌≡◌, ◌∷◌}

pub among_filter : {X : Type 0} (p : X → Bool) {x : X} {xs : List X} → Among x xs → p x ≡ true → Among x (filter p xs)
among_filter {X} p {x} (here {xs}) t = subst (λ b. Among x (cond b (x ∷ filter p xs) (filter p xs))) (sym t) here
among_filter {X} p {x} (there {y = y} {xs} i) t = by (p y) (among_filter p i t)
  where
    by : (b : Bool) → Among x (filter p xs) → Among x (cond b (y ∷ filter p xs) (filter p xs))
    by true j = there j
    by false j = j

pub filter_among : {X : Type 0} (p : X → Bool) {x : X} (xs : List X) → Among x (filter p xs) → Among x xs × (p x ≡ true)
filter_among p [] i = elim i [ ]
filter_among {X} p {x} (y ∷ xs) i = by (p y) refl (filter_among p xs) i
  where
    first : {z w : X} {zs ws : List X} → p w ≡ true → (Among z zs → Among z ws × (p z ≡ true)) → Among z (w ∷ zs) → Among z (w ∷ ws) × (p z ≡ true)
    first e more here = (here, e)
    first e more (there j) = let m = more j in (there m.0, m.1)

    by : (b : Bool) → p y ≡ b → (Among x (filter p xs) → Among x xs × (p x ≡ true)) → Among x (cond b (y ∷ filter p xs) (filter p xs)) → Among x (y ∷ xs) × (p x ≡ true)
    by true e more j = first e more j
    by false e more j = let m = more j in (there m.0, m.1)

pub among_map : {X Y : Type 0} (f : X → Y) {x : X} {xs : List X} → Among x xs → Among (f x) (map f xs)
among_map f here = here
among_map f (there i) = there (among_map f i)

pub map_among : {X Y : Type 0} (f : X → Y) {y : Y} (xs : List X) → Among y (map f xs) → (x : X) × Among x xs × (y ≡ f x)
map_among f [] i = elim i [ ]
map_among {X} {Y} f {y} (x ∷ xs) i = first i (map_among f xs)
  where
    first : {z : Y} → Among z (f x ∷ map f xs) → (Among z (map f xs) → (w : X) × Among w xs × (z ≡ f w)) → (w : X) × Among w (x ∷ xs) × (z ≡ f w)
    first here more = (x, here, refl)
    first (there j) more = let m = more j in (m.0, there m.1, m.2)

or_true : (b : Bool) → (b || true) ≡ true
or_true true = refl
or_true false = refl

pub any_from : {X : Type 0} (p : X → Bool) {x : X} {xs : List X} → Among x xs → p x ≡ true → list_any p xs ≡ true
any_from p {x} (here {xs}) t = subst (λ b. (b || list_any p xs) ≡ true) (sym t) refl
any_from p {x} (there {y = y} {xs} i) t = subst (λ b. (p y || b) ≡ true) (sym (any_from p i t)) (or_true (p y))

pub any_to : {X : Type 0} (p : X → Bool) (xs : List X) → list_any p xs ≡ true → (x : X) × Among x xs × (p x ≡ true)
any_to p [] h = absurd (true≢false (sym h))
any_to {X} p (y ∷ xs) h = by (p y) refl (any_to p xs) h
  where
    by : (b : Bool) → p y ≡ b → (list_any p xs ≡ true → (x : X) × Among x xs × (p x ≡ true)) → (b || list_any p xs) ≡ true → (x : X) × Among x (y ∷ xs) × (p x ≡ true)
    by true e more i = (y, here, e)
    by false e more i = let m = more i in (m.0, there m.1, m.2)
