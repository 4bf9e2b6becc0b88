-- Elements of lists, as a type to match on, and what is true of each.
use Rattle.std.proofs.Common.{arith, inl, inr, refl, subst, sym}
use Rattle.std.specs.List.{All, AllByRecursion, AllPairs, Any, Contains}
use Rattle.std.specs.Prelude.{List, [], suc, zero, ◌++◌, ◌∷◌, ◌⊎◌}

pub data Among {X : Type 0} (x : X) : List X → Type 0 where
  here : {xs : List X} → Among x (x ∷ xs)
  there : {y : X} {xs : List X} → Among x xs → Among x (y ∷ xs)

pub all_at : {X : Type 0} (P : X → Type 0) {x : X} {xs : List X} → Among x xs → AllByRecursion P xs → P x
all_at P here h = h.0
all_at P (there i) h = all_at P i h.1

pub all_from : {X : Type 0} (P : X → Type 0) (xs : List X) → ((x : X) → Among x xs → P x) → AllByRecursion P xs
all_from P [] f = tt
all_from P (x ∷ xs) f = (f x here, all_from P xs (λ y i. f y (there i)))

pub all_append : {X : Type 0} (P : X → Type 0) (xs ys : List X) → AllByRecursion P xs → AllByRecursion P ys → AllByRecursion P (xs ++ ys)
all_append P [] ys h k = k
all_append P (x ∷ xs) ys h k = (h.0, all_append P xs ys h.1 k)

pub append_all : {X : Type 0} (P : X → Type 0) (xs ys : List X) → AllByRecursion P (xs ++ ys) → AllByRecursion P xs × AllByRecursion P ys
append_all P [] ys h = (tt, h)
append_all P (x ∷ xs) ys h = let (a, b) = append_all P xs ys h.1 in ((h.0, a), b)

-- ---- to std's words, which go by places
pub All_among : {X : Type 0} (P : X → Type 0) (xs : List X) → ((x : X) → Among x xs → P x) → All P xs
All_among P [] f k d h = absurd (omega arith)
All_among P (x ∷ xs) f zero d h = f x here
All_among P (x ∷ xs) f (suc k) d h = All_among P xs (λ y i. f y (there i)) k d (omega arith)

pub among_All : {X : Type 0} (P : X → Type 0) {x : X} {xs : List X} → Among x xs → All P xs → P x
among_All P {x} (here {xs}) h = h 0 x (omega arith)
among_All P {x} (there {xs} i) h = among_All P i (λ k d l. h (suc k) d (omega arith))

pub Any_among : {X : Type 0} (P : X → Type 0) {x : X} {xs : List X} → Among x xs → P x → Any P xs
Any_among P {x} (here {xs}) h = (0, x, omega arith, refl, h)
Any_among P {x} (there {y = y} {xs} i) h = let a = Any_among P i h in (suc a.0, a.1, (let l = a.2 in omega arith), a.3, a.4)

pub among_Any : {X : Type 0} (P : X → Type 0) (xs : List X) → Any P xs → (x : X) × Among x xs × P x
among_Any P [] a = absurd (let l = a.2 in omega arith)
among_Any P (x ∷ xs) (zero, d, l, e, p) = (x, here, subst P (sym e) p)
among_Any P (x ∷ xs) (suc k, d, l, e, p) = let w = among_Any P xs (k, d, omega arith, e, p) in (w.0, there w.1, w.2)

pub AllPairs_cons : {X : Type 0} (R : X → X → Type 0) (x : X) (xs : List X) → ((y : X) → Among y xs → R x y) → AllPairs R xs → AllPairs R (x ∷ xs)
AllPairs_cons R x xs f h zero zero d l m = absurd (omega arith)
AllPairs_cons R x xs f h zero (suc j) d l m = All_among (R x) xs f j d (omega arith)
AllPairs_cons R x xs f h (suc i) zero d l m = absurd (omega arith)
AllPairs_cons R x xs f h (suc i) (suc j) d l m = h i j d (omega arith) (omega arith)

pub among_append_left : {X : Type 0} {x : X} {xs : List X} (ys : List X) → Among x xs → Among x (xs ++ ys)
among_append_left ys here = here
among_append_left ys (there i) = there (among_append_left ys i)

pub among_append_right : {X : Type 0} {x : X} (xs : List X) {ys : List X} → Among x ys → Among x (xs ++ ys)
among_append_right [] i = i
among_append_right (y ∷ xs) i = there (among_append_right xs i)

pub among_append : {X : Type 0} {x : X} (xs ys : List X) → Among x (xs ++ ys) → Among x xs ⊎ Among x ys
among_append [] ys i = inr i
among_append (y ∷ xs) ys here = inl here
among_append (y ∷ xs) ys (there i) = elim (among_append xs ys i) [ inl j ↦ inl (there j) | inr j ↦ inr j ]

pub among_Contains : {X : Type 0} (xs : List X) {x : X} → Contains xs x → Among x xs
among_Contains [] w = absurd (let l = w.1 in omega arith)
among_Contains (y ∷ xs) {x} (zero, l, e) = subst (λ z. Among x (z ∷ xs)) (sym e) here
among_Contains (y ∷ xs) (suc k, l, e) = there (among_Contains xs (k, omega arith, e))

pub Contains_among : {X : Type 0} {x : X} {xs : List X} → Among x xs → Contains xs x
Contains_among (here {xs}) = (0, omega arith, refl)
Contains_among (there {xs = xs} i) = let r = Contains_among i in (suc r.0, (let l = r.1 in omega arith), r.2)
