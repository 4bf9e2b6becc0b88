-- Lists of indices that rise.
use Rattle.pm_vector.proofs.Lists.{Among, Contains_among, here, there}
use Rattle.std.proofs.Common.{arith, inl, inr, refl, subst}
use Rattle.std.proofs.lemmas.Bool.{cases_lt}
use Rattle.std.specs.List.{AllPairs}
use Rattle.std.specs.Prelude.{List, [], length, suc, ℕ, ◌+◌, ◌-◌, ◌<◌, ◌∷◌, ◌≡◌, ◌≤◌, ◌⊎◌}

rises_tail : (x : ℕ) (xs : List ℕ) → AllPairs (λ i j. i < j) (x ∷ xs) → AllPairs (λ i j. i < j) xs
rises_tail x xs h i j d l m = h (suc i) (suc j) d (omega arith) (omega arith)

first_below : (x y : ℕ) (xs : List ℕ) → AllPairs (λ i j. i < j) (x ∷ xs) → Among y xs → x < y
first_below x y xs h i = let c = Contains_among i in subst (λ z. x < z) c.2 (h 0 (suc c.0) y (omega arith) (let l = c.1 in omega arith))

first_is_least : (m : ℕ) {x : ℕ} {xs : List ℕ} → AllPairs (λ i j. i < j) (x ∷ xs) → m ≤ x → Among m (x ∷ xs) → x ≡ m
first_is_least m h l here = refl
first_is_least m {x} h l (there {xs = xs} i) = absurd (let q = first_below x m xs h i in omega arith)

not_first : {x y : ℕ} {xs : List ℕ} → ¬ (y ≡ x) → Among y (x ∷ xs) → Among y xs
not_first ne here = absurd (ne refl)
not_first ne (there i) = i

-- a rising list of all numbers from m on that are below n
pub rising_full : (m n : ℕ) (xs : List ℕ) → ((x : ℕ) → Among x xs → (m ≤ x) × (x < n)) → AllPairs (λ i j. i < j) xs → ((x : ℕ) → m ≤ x → x < n → Among x xs) → length xs ≡ n - m
rising_full m n [] f h g = elim (cases_lt m n) [ inl l ↦ elim (g m (omega arith) l) [ ] | inr k ↦ omega arith ]
rising_full m n (x ∷ xs) f h g =
    let b = f x here in
    let e = first_is_least m h b.0 (g m (omega arith) (let l = b.0 in let k = b.1 in omega arith)) in
    let r = rising_full (m + 1) n xs
    (λ y i. (let l = first_below x y xs h i in omega arith, (f y (there i)).1))
    (rises_tail x xs h)
    (λ y l k. not_first (λ q. omega arith) (g y (omega arith) k)) in
    let k = b.1 in omega arith

three_of_two : (i j x y z : ℕ) → (x ≡ i) ⊎ (x ≡ j) → (y ≡ i) ⊎ (y ≡ j) → (z ≡ i) ⊎ (z ≡ j) → x < y → y < z → ⊥
three_of_two i j x y z (inl a) (inl b) c l m = omega arith
three_of_two i j x y z (inl a) (inr b) (inl c) l m = omega arith
three_of_two i j x y z (inl a) (inr b) (inr c) l m = omega arith
three_of_two i j x y z (inr a) (inl b) (inl c) l m = omega arith
three_of_two i j x y z (inr a) (inl b) (inr c) l m = omega arith
three_of_two i j x y z (inr a) (inr b) c l m = omega arith

only_one : {x y : ℕ} → Among y (x ∷ []) → y ≡ x
only_one here = refl
only_one (there i) = elim i [ ]

-- a rising list of exactly the numbers i and j
pub rising_two : (i j : ℕ) → i < j → (xs : List ℕ) → AllPairs (λ i j. i < j) xs → Among i xs → Among j xs → ((x : ℕ) → Among x xs → (x ≡ i) ⊎ (x ≡ j)) → xs ≡ i ∷ j ∷ []
rising_two i j l [] h a b f = elim a [ ]
rising_two i j l (x ∷ []) h a b f = absurd (let p = only_one a in let q = only_one b in omega arith)
rising_two i j l (x ∷ y ∷ []) h a b f = both (f x here) (f y (there here)) (first_below x y (y ∷ []) h here)
  where
    both : (x ≡ i) ⊎ (x ≡ j) → (y ≡ i) ⊎ (y ≡ j) → x < y → x ∷ y ∷ [] ≡ i ∷ j ∷ []
    both (inl p) (inr q) m = cc
    both (inl p) (inl q) m = absurd (omega arith)
    both (inr p) (inl q) m = absurd (omega arith)
    both (inr p) (inr q) m = absurd (omega arith)
rising_two i j l (x ∷ y ∷ z ∷ xs) h a b f = absurd (three_of_two i j x y z (f x here) (f y (there here)) (f z (there (there here))) (first_below x y (y ∷ z ∷ xs) h here) (first_below y z (z ∷ xs) (rises_tail x (y ∷ z ∷ xs) h) here))
