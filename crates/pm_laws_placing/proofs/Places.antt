-- The places of a list in the stated order.
use Rattle.pm_vector.proofs.Lists.{Among, among_append, among_append_left, among_append_right, here, there}
use Rattle.pm_laws_placing.specs.LeastSums.{has}
use Rattle.pm_laws_placing.specs.Placing.{places_marked, stated_places}
use Rattle.std.specs.Prelude.{ℕ, zero, suc, ◌+◌, ◌<◌, ◌≤◌, ◌≡◌, ◌⊎◌, Bool, true, false, List, [], ◌∷◌, ◌++◌, length, take}
use Rattle.std.specs.List.{AllPairs, slice_index_or}
use Rattle.std.proofs.Common.{arith, ap, refl, sym, subst, ◌∙◌, inl, inr}
use Rattle.std.proofs.lemmas.Bool.{cases_Bool}

-- ---- the places with a mark
pub marked_in : (b : Bool) (marks : List Bool) (i p : ℕ) → Among p (places_marked b marks i) → (q : ℕ) × (p ≡ i + q) × (q < length marks) × (has marks q ≡ b)
marked_in b [] i p m = elim m [ ]
marked_in true (true ∷ marks) i p here = (0, omega arith, omega arith, refl)
marked_in true (true ∷ marks) i p (there m) = let r = marked_in true marks (suc i) p m in (suc r.0, (let e = r.1 in omega arith), (let l = r.2 in omega arith), r.3)
marked_in true (false ∷ marks) i p m = let r = marked_in true marks (suc i) p m in (suc r.0, (let e = r.1 in omega arith), (let l = r.2 in omega arith), r.3)
marked_in false (false ∷ marks) i p here = (0, omega arith, omega arith, refl)
marked_in false (false ∷ marks) i p (there m) = let r = marked_in false marks (suc i) p m in (suc r.0, (let e = r.1 in omega arith), (let l = r.2 in omega arith), r.3)
marked_in false (true ∷ marks) i p m = let r = marked_in false marks (suc i) p m in (suc r.0, (let e = r.1 in omega arith), (let l = r.2 in omega arith), r.3)

pub in_marked : (b : Bool) (marks : List Bool) (i q p : ℕ) → q < length marks → has marks q ≡ b → p ≡ i + q → Among p (places_marked b marks i)
in_marked b [] i q p l h e = absurd (omega arith)
in_marked true (true ∷ marks) i zero p l h e = let f : i ≡ p = omega arith in subst (λ (z : ℕ). Among z (i ∷ places_marked true marks (suc i))) f here
in_marked true (true ∷ marks) i (suc q) p l h e = there (in_marked true marks (suc i) q p (omega arith) h (omega arith))
in_marked true (false ∷ marks) i zero p l h e = absurd cc
in_marked true (false ∷ marks) i (suc q) p l h e = in_marked true marks (suc i) q p (omega arith) h (omega arith)
in_marked false (false ∷ marks) i zero p l h e = let f : i ≡ p = omega arith in subst (λ (z : ℕ). Among z (i ∷ places_marked false marks (suc i))) f here
in_marked false (false ∷ marks) i (suc q) p l h e = there (in_marked false marks (suc i) q p (omega arith) h (omega arith))
in_marked false (true ∷ marks) i zero p l h e = absurd cc
in_marked false (true ∷ marks) i (suc q) p l h e = in_marked false marks (suc i) q p (omega arith) h (omega arith)

-- ---- rising lists, and lists without an element twice
unfoldable pub Rising : List ℕ → Type 0
Rising [] = Unit {0}
Rising (x ∷ xs) = ((y : ℕ) → Among y xs → x < y) × Rising xs

unfoldable pub Distinct : List ℕ → Type 0
Distinct [] = Unit {0}
Distinct (x ∷ xs) = ¬ (Among x xs) × Distinct xs

pub rising_distinct : (xs : List ℕ) → Rising xs → Distinct xs
unfolding Rising Distinct
rising_distinct [] r = tt
rising_distinct (x ∷ xs) r = (λ i. let l = r.0 x i in omega arith, rising_distinct xs r.1)

pub rising_of : (xs : List ℕ) → AllPairs (λ i j. i < j) xs → Rising xs
unfolding Rising
rising_of [] h = tt
rising_of (x ∷ xs) h = (λ y i. let r = place xs y i in subst (λ (z : ℕ). x < z) r.2 (h 0 (suc r.0) 0 (omega arith) (let l = r.1 in omega arith)), rising_of xs (λ i j d l m. h (suc i) (suc j) d (omega arith) (omega arith)))
  where
    place : (ys : List ℕ) (y : ℕ) → Among y ys → (k : ℕ) × (k < length ys) × (slice_index_or ys k 0 ≡ y)
    place [] y i = elim i [ ]
    place (y ∷ ys) y2 here = (0, omega arith, refl)
    place (z ∷ ys) y (there i) = let r = place ys y i in (suc r.0, (let l = r.1 in omega arith), r.2)

rising_marked : (b : Bool) (marks : List Bool) (i : ℕ) → Rising (places_marked b marks i)
unfolding Rising
rising_marked b [] i = tt
rising_marked true (true ∷ marks) i = (λ y m. let r = marked_in true marks (suc i) y m in let e = r.1 in omega arith, rising_marked true marks (suc i))
rising_marked true (false ∷ marks) i = rising_marked true marks (suc i)
rising_marked false (false ∷ marks) i = (λ y m. let r = marked_in false marks (suc i) y m in let e = r.1 in omega arith, rising_marked false marks (suc i))
rising_marked false (true ∷ marks) i = rising_marked false marks (suc i)

distinct_append : (xs ys : List ℕ) → Distinct xs → Distinct ys → ((p : ℕ) → Among p xs → ¬ (Among p ys)) → Distinct (xs ++ ys)
unfolding Distinct
distinct_append [] ys d e f = e
distinct_append (x ∷ xs) ys d e f = (λ i. elim (among_append xs ys i) [ inl j ↦ d.0 j | inr j ↦ f x here j ], distinct_append xs ys d.1 e (λ p i. f p (there i)))

pub in_list : (ys : List ℕ) (j : ℕ) → j < length ys → Among (slice_index_or ys j 0) ys
in_list [] j m = absurd (omega arith)
in_list (y ∷ ys) zero m = here
in_list (y ∷ ys) (suc j) m = there (in_list ys j (omega arith))

fresh_head : (xs : List ℕ) (x k z : ℕ) → k < length xs → ¬ (Among x xs) → ¬ (Among (slice_index_or xs k 0) (take k xs)) → z ≡ slice_index_or xs k 0 → Among z (x ∷ take k xs) → ⊥
fresh_head xs x k z l out below e here = out (subst (λ (w : ℕ). Among w xs) (sym e) (in_list xs k l))
fresh_head xs x k z l out below e (there j) = below (subst (λ (w : ℕ). Among w (take k xs)) e j)

fresh_at : (xs : List ℕ) (k : ℕ) → k < length xs → Distinct xs → ¬ (Among (slice_index_or xs k 0) (take k xs))
unfolding Distinct
fresh_at [] k l d i = absurd (omega arith)
fresh_at (x ∷ xs) zero l d i = elim i [ ]
fresh_at (x ∷ xs) (suc k) l d i = fresh_head xs x k (slice_index_or xs k 0) (omega arith) d.0 (fresh_at xs k (omega arith) d.1) refl i

rising_head : (x q : ℕ) (xs : List ℕ) → ((y : ℕ) → Among y xs → x < y) → Among q (x ∷ xs) → q < x → ⊥
rising_head x q xs r here m = omega arith
rising_head x q xs r (there j) m = let k = r q j in omega arith

rising_rest : (x q d : ℕ) (xs : List ℕ) → (Among q xs → Among q (take d xs)) → Among q (x ∷ xs) → Among q (x ∷ take d xs)
rising_rest x q d xs f here = here
rising_rest x q d xs f (there j) = there (f j)

rising_lower : (xs : List ℕ) (d q : ℕ) → Rising xs → d < length xs → Among q xs → q < slice_index_or xs d 0 → Among q (take d xs)
unfolding Rising
rising_lower [] d q r l i m = elim i [ ]
rising_lower (x ∷ xs) zero q r l i m = absurd (rising_head x q xs r.0 i m)
rising_lower (x ∷ xs) (suc d) q r l i m = rising_rest x q d xs (λ j. rising_lower xs d q r.1 (omega arith) j m) i

pub take_append : (A B : List ℕ) (d : ℕ) → take (length A + d) (A ++ B) ≡ A ++ take d B
take_append [] B d = let e : 0 + d ≡ d = omega arith in ap (λ (k : ℕ). take k B) e
take_append (a ∷ A) B d = let e : suc (length A) + d ≡ suc (length A + d) = omega arith in ap (λ (k : ℕ). take k (a ∷ (A ++ B))) e ∙ ap (λ (Z : List ℕ). a ∷ Z) (take_append A B d)

pub nth_append : (A B : List ℕ) (d : ℕ) → slice_index_or (A ++ B) (length A + d) 0 ≡ slice_index_or B d 0
nth_append [] B d = let e : 0 + d ≡ d = omega arith in ap (λ (k : ℕ). slice_index_or B k 0) e
nth_append (a ∷ A) B d = let e : suc (length A) + d ≡ suc (length A + d) = omega arith in ap (λ (k : ℕ). slice_index_or (a ∷ (A ++ B)) k 0) e ∙ nth_append A B d

length_append : (A B : List ℕ) → length (A ++ B) ≡ length A + length B
length_append [] B = omega arith
length_append (a ∷ A) B = let h = length_append A B in omega arith

pub take_next : (xs : List ℕ) (k p : ℕ) → k < length xs → Among p (take (suc k) xs) → Among p (take k xs) ⊎ (p ≡ slice_index_or xs k 0)
take_next [] k p l i = absurd (omega arith)
take_next (x ∷ xs) zero p l here = inr refl
take_next (x ∷ xs) zero p l (there i) = elim i [ ]
take_next (x ∷ xs) (suc k) p l here = inl here
take_next (x ∷ xs) (suc k) p l (there i) = elim (take_next xs k p (omega arith) i) [ inl j ↦ inl (there j) | inr e ↦ inr e ]

pub take_older : (xs : List ℕ) (k p : ℕ) → Among p (take k xs) → Among p (take (suc k) xs)
take_older [] zero p i = elim i [ ]
take_older [] (suc k) p i = elim i [ ]
take_older (x ∷ xs) zero p i = elim i [ ]
take_older (x ∷ xs) (suc k) p here = here
take_older (x ∷ xs) (suc k) p (there i) = there (take_older xs k p i)

pub take_newest : (xs : List ℕ) (k : ℕ) → k < length xs → Among (slice_index_or xs k 0) (take (suc k) xs)
take_newest [] k l = absurd (omega arith)
take_newest (x ∷ xs) zero l = here
take_newest (x ∷ xs) (suc k) l = there (take_newest xs k (omega arith))

pub take_among : (xs : List ℕ) (k p : ℕ) → Among p (take k xs) → Among p xs
take_among [] zero p i = elim i [ ]
take_among [] (suc k) p i = elim i [ ]
take_among (x ∷ xs) zero p i = elim i [ ]
take_among (x ∷ xs) (suc k) p here = here
take_among (x ∷ xs) (suc k) p (there i) = there (take_among xs k p i)

-- ---- the stated order
module _ (marks : List Bool) where
  pub first_many : ℕ
  first_many = length (places_marked true marks 0)

  length_false : (ms : List Bool) (i : ℕ) → length (places_marked true ms i) + length (places_marked false ms i) ≡ length ms
  length_false [] i = refl
  length_false (true ∷ ms) i = let h = length_false ms (suc i) in omega arith
  length_false (false ∷ ms) i = let h = length_false ms (suc i) in omega arith

  pub length_stated : length (stated_places marks) ≡ length marks
  length_stated = length_append (places_marked true marks 0) (places_marked false marks 0) ∙ length_false marks 0

  pub stated_all : (p : ℕ) → p < length marks → Among p (stated_places marks)
  stated_all p l = elim (cases_Bool (has marks p)) [
    | inl t ↦ among_append_left (places_marked false marks 0) (in_marked true marks 0 p p l t (omega arith))
    | inr f ↦ among_append_right (places_marked true marks 0) (in_marked false marks 0 p p l f (omega arith))
  ]

  below_all : (b : Bool) (p : ℕ) → Among p (places_marked b marks 0) → p < length marks
  below_all b p i = let r = marked_in b marks 0 p i in let e = r.1 in let l = r.2 in omega arith

  pub stated_below : (p : ℕ) → Among p (stated_places marks) → p < length marks
  stated_below p i = elim (among_append (places_marked true marks 0) (places_marked false marks 0) i) [ inl j ↦ below_all true p j | inr j ↦ below_all false p j ]

  mark_at : (b : Bool) (p : ℕ) → Among p (places_marked b marks 0) → has marks p ≡ b
  mark_at b p i = let r = marked_in b marks 0 p i in let e : p ≡ r.0 = (let f = r.1 in omega arith) in ap (has marks) e ∙ r.3

  stated_distinct : Distinct (stated_places marks)
  stated_distinct = distinct_append (places_marked true marks 0) (places_marked false marks 0) (rising_distinct (places_marked true marks 0) (rising_marked true marks 0)) (rising_distinct (places_marked false marks 0) (rising_marked false marks 0))
      (λ p i j. let a = mark_at true p i in let b = mark_at false p j in cc)

  pub stated_fresh : (k : ℕ) → k < length marks → ¬ (Among (slice_index_or (stated_places marks) k 0) (take k (stated_places marks)))
  stated_fresh k l = fresh_at (stated_places marks) k (let e = length_stated in omega arith) stated_distinct

  -- the first front has exactly the marked places
  pub front_marked : (p : ℕ) → Among p (take (length (places_marked true marks 0)) (stated_places marks)) → (p < length marks) × (has marks p ≡ true)
  front_marked p i =
      let e : take (length (places_marked true marks 0)) (stated_places marks) ≡ places_marked true marks 0 ++ [] = (let z : length (places_marked true marks 0) ≡ length (places_marked true marks 0) + 0 = omega arith in ap (λ (k : ℕ). take k (stated_places marks)) z ∙ take_append (places_marked true marks 0) (places_marked false marks 0) 0 ∙ ap (λ (Z : List ℕ). places_marked true marks 0 ++ Z) refl) in
      elim (among_append (places_marked true marks 0) [] (subst (λ (Z : List ℕ). Among p Z) e i)) [ inl j ↦ (below_all true p j, mark_at true p j) | inr j ↦ elim j [ ] ]

  pub marked_front : (p : ℕ) → p < length marks → has marks p ≡ true → (k : ℕ) → length (places_marked true marks 0) ≤ k → Among p (take k (stated_places marks))
  marked_front p l t k m = later k (excess (length (places_marked true marks 0)) k m)
    where
      excess : (a b : ℕ) → a ≤ b → (d : ℕ) × (b ≡ a + d)
      excess zero b h = (b, omega arith)
      excess (suc a) zero h = absurd (omega arith)
      excess (suc a) (suc b) h = let r = excess a b (omega arith) in (r.0, (let e = r.1 in omega arith))

      later : (k : ℕ) → (d : ℕ) × (k ≡ length (places_marked true marks 0) + d) → Among p (take k (stated_places marks))
      later k w = subst (λ (Z : List ℕ). Among p Z) (sym (ap (λ (j : ℕ). take j (stated_places marks)) w.1 ∙ take_append (places_marked true marks 0) (places_marked false marks 0) w.0)) (among_append_left (take w.0 (places_marked false marks 0)) (in_marked true marks 0 p p l t (omega arith)))

  -- past the first front, all lower places come before
  pub stated_lower : (k q : ℕ) → length (places_marked true marks 0) ≤ k → k < length marks → q < slice_index_or (stated_places marks) k 0 → q < length marks → Among q (take k (stated_places marks))
  stated_lower k q m l below lq = elim (cases_Bool (has marks q)) [
    | inl t ↦ marked_front q lq t k m
    | inr f ↦ later k (excess (length (places_marked true marks 0)) k m) l below f
  ]
    where
      excess : (a b : ℕ) → a ≤ b → (d : ℕ) × (b ≡ a + d)
      excess zero b h = (b, omega arith)
      excess (suc a) zero h = absurd (omega arith)
      excess (suc a) (suc b) h = let r = excess a b (omega arith) in (r.0, (let e = r.1 in omega arith))

      later : (k : ℕ) → (d : ℕ) × (k ≡ length (places_marked true marks 0) + d) → k < length marks → q < slice_index_or (stated_places marks) k 0 → has marks q ≡ false → Among q (take k (stated_places marks))
      later k w l below f =
          let n = length_false marks 0 in
          let e = w.1 in
          subst (λ (Z : List ℕ). Among q Z) (sym (ap (λ (j : ℕ). take j (stated_places marks)) w.1 ∙ take_append (places_marked true marks 0) (places_marked false marks 0) w.0))
          (among_append_right (places_marked true marks 0) (rising_lower (places_marked false marks 0) w.0 q (rising_marked false marks 0) (omega arith) (in_marked false marks 0 q q lq f (omega arith))
          (subst (λ (z : ℕ). q < z) (ap (λ (j : ℕ). slice_index_or (stated_places marks) j 0) w.1 ∙ nth_append (places_marked true marks 0) (places_marked false marks 0) w.0) below)))
