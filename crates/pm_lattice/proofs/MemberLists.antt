-- Rows of bits as ascending lists of their places.
use Rattle.pm_geom.proofs.Holds.{among_holds, holds_among}
use Rattle.pm_vector.proofs.Lists.{All_among, AllPairs_cons, Among, here, there}
use Rattle.pm_bits.specs.Sets.{HasFirstDifference, has, member_count, members}
use Rattle.pm_geom.specs.FaceCounts.{IsLexBefore}
use Rattle.pm_geom.specs.Graphs.{IsAscending, holds}
use Rattle.pm_geom.specs.Faces.{IsStrictlyIn}
use Rattle.pm_lattice.proofs.Chains.{true_or_not}
use Rattle.pm_lattice.proofs.Subsets.{below_length}
use Rattle.pm_lattice.proofs.Reached.{same_bool}
use Rattle.std.proofs.Common.{arith, inl, inr, refl, subst, sym, ◌∙◌}
use Rattle.std.proofs.lemmas.Bool.{cases_eq}
use Rattle.std.proofs.lemmas.Bool.Decides.{nat_tests}
use Rattle.std.proofs.lemmas.Cmp.{nat_cmp_total, tied_itself}
use Rattle.std.proofs.lemmas.List.Sums.{length-filter}
use Rattle.std.specs.Cmp.Lexicographic.{slice_cmp}
use Rattle.std.specs.List.{AllPairs, filter, range_with_len}
use Rattle.std.specs.Ordering.{nat_cmp}
use Rattle.std.specs.Prelude.{Bool, IsTrue, List, [], cond, false, length, suc, true, zero, ℕ, ◌+◌, ◌<◌, ◌≤◌, ◌∷◌, ◌≡◌, ◌⊎◌}
use Rattle.std.specs.declared.cmp.Ordering.TheVariants.{Less}

abbrev picked : (ℕ → Bool) → ℕ → ℕ → List ℕ
picked p a n = filter p (range_with_len a n)

-- ---- picking places
pick_split : (p : ℕ → Bool) (a n j : ℕ) → Among j (picked p a (suc n)) → ((j ≡ a) × IsTrue (p a)) ⊎ Among j (picked p (a + 1) n)
pick_split p a n j i = go (p a) refl i
  where
    go : (b : Bool) → p a ≡ b → Among j (cond b (a ∷ picked p (a + 1) n) (picked p (a + 1) n)) → ((j ≡ a) × IsTrue (p a)) ⊎ Among j (picked p (a + 1) n)
    go true e i = first i e
      where
        first : {b : ℕ} {ys : List ℕ} → Among j (b ∷ ys) → p a ≡ true → ((j ≡ b) × IsTrue (p a)) ⊎ Among j ys
        first here e = inl (refl, e)
        first (there i) e = inr i
    go false e i = inr i

pick_first : (p : ℕ → Bool) (a n : ℕ) → IsTrue (p a) → picked p a (suc n) ≡ a ∷ picked p (a + 1) n
pick_first p a n t = rw t refl

pick_later : (p : ℕ → Bool) (a n : ℕ) → p a ≡ false → picked p a (suc n) ≡ picked p (a + 1) n
pick_later p a n f = rw f refl

pub picked_from : (p : ℕ → Bool) (a n j : ℕ) → Among j (picked p a n) → (a ≤ j) × (j < a + n) × IsTrue (p j)
picked_from p a zero j i = elim i [ ]
picked_from p a (suc n) j i = elim (pick_split p a n j i) [
  | inl w ↦ (let e = w.0 in omega arith, let e = w.0 in omega arith, subst (λ k. IsTrue (p k)) (sym w.0) w.1)
  | inr k ↦ (let w = picked_from p (a + 1) n j k in (let l = w.0 in omega arith, let l = w.1 in omega arith, w.2))
]

pub picked_has : (p : ℕ → Bool) (a n j : ℕ) → a ≤ j → j < a + n → IsTrue (p j) → Among j (picked p a n)
picked_has p a zero j l m t = absurd (omega arith)
picked_has p a (suc n) j l m t = elim (cases_eq j a) [
  | inl e ↦ subst (λ xs. Among j xs) (sym (pick_first p a n (subst (λ k. IsTrue (p k)) e t))) (subst (λ k. Among k (a ∷ picked p (a + 1) n)) (sym e) here)
  | inr n' ↦ (
      let rest = picked_has p (a + 1) n j (let q = n' in omega arith) (omega arith) t in
      elim (true_or_not (p a)) [
        | inl y ↦ subst (λ xs. Among j xs) (sym (pick_first p a n y)) (there rest)
        | inr y ↦ subst (λ xs. Among j xs) (sym (pick_later p a n (not_true (p a) y))) rest
      ])
]
  where
    not_true : (b : Bool) → ¬ (IsTrue b) → b ≡ false
    not_true true h = absurd (h refl)
    not_true false h = refl

pub picked_ascends : (p : ℕ → Bool) (a n : ℕ) → AllPairs (λ i j. i < j) (picked p a n)
picked_ascends p a zero = λ i j d l m. absurd (omega arith)
picked_ascends p a (suc n) = elim (true_or_not (p a)) [
  | inl y ↦ subst (λ xs. AllPairs (λ i j. i < j) xs) (sym (pick_first p a n y)) (AllPairs_cons (λ i j. i < j) a (picked p (a + 1) n) (λ j i. let w = picked_from p (a + 1) n j i in let l = w.0 in omega arith) (picked_ascends p (a + 1) n))
  | inr y ↦ subst (λ xs. AllPairs (λ i j. i < j) xs) (sym (pick_later p a n (not_true (p a) y))) (picked_ascends p (a + 1) n)
]
  where
    not_true : (b : Bool) → ¬ (IsTrue b) → b ≡ false
    not_true true h = absurd (h refl)
    not_true false h = refl

-- ---- the list of a row of bits
pub holds_members : (row : List Bool) (j : ℕ) → holds (members row) j ≡ has row j
holds_members row j = same_bool (holds (members row) j) (has row j)
    (λ t. (picked_from (has row) 0 (length row) j (holds_among (members row) j t)).2)
    (λ t. among_holds (members row) j (picked_has (has row) 0 (length row) j (omega arith) (let l = below_length row (length row) j refl t in omega arith) t))

pub length-members : (row : List Bool) → length (members row) ≡ member_count row
length-members row = length-filter (has row) (range_with_len 0 (length row))

pub members_ascend : (m : ℕ) (row : List Bool) → length row ≡ m → IsAscending m (members row)
members_ascend m row e = (All_among (λ j. j < m) (members row) (λ j i. let w = picked_from (has row) 0 (length row) j i in let l = w.1 in omega arith), picked_ascends (has row) 0 (length row))

-- ---- lexicographic order
less_head : (a j : ℕ) (xs ys : List ℕ) → ((y : ℕ) → Among y ys → a < y) → Among j ys → slice_cmp nat_cmp (a ∷ xs) ys ≡ Less
less_head a j xs [] h i = elim i [ ]
less_head a j xs (y ∷ ys) h i = let l : nat_cmp a y ≡ Less = nat_less a y (h y here) in rw l refl
  where
    nat_less : (a b : ℕ) → a < b → nat_cmp a b ≡ Less
    nat_less a b l = grind (arith, nat_tests)

lex_from : (f g : ℕ → Bool) (n a i j : ℕ) → a ≤ i → i < j → j < a + n → IsTrue (f i) → g i ≡ false → ((k : ℕ) → k < i → f k ≡ g k) → IsTrue (g j) → slice_cmp nat_cmp (picked f a n) (picked g a n) ≡ Less
lex_from f g zero a i j li lj m fi gi same gj = absurd (omega arith)
lex_from f g (suc n) a i j li lj m fi gi same gj = elim (cases_eq a i) [
  | inl e ↦ (
      let fa = subst (λ k. IsTrue (f k)) (sym e) fi in
      let ga = subst (λ k. g k ≡ false) (sym e) gi in
      rw (pick_first f a n fa, pick_later g a n ga) (less_head a j (picked f (a + 1) n) (picked g (a + 1) n) (λ y k. let w = picked_from g (a + 1) n y k in let l = w.0 in omega arith) (picked_has g (a + 1) n j (omega arith) (omega arith) gj)))
  | inr d ↦ (
      let rest = lex_from f g n (a + 1) i j (let q = d in omega arith) lj (omega arith) fi gi same gj in
      let s = same a (let q = d in omega arith) in
      go (f a) refl s rest)
]
  where
    go : (b : Bool) → f a ≡ b → f a ≡ g a → slice_cmp nat_cmp (picked f (a + 1) n) (picked g (a + 1) n) ≡ Less → slice_cmp nat_cmp (picked f a (suc n)) (picked g a (suc n)) ≡ Less
    go true e s rest = rw (pick_first f a n e, pick_first g a n (sym s ∙ e), tied_itself nat_cmp_total a) rest
    go false e s rest = rw (pick_later f a n e, pick_later g a n (sym s ∙ e)) rest

-- a place of a set beyond a place, or none
later_or_none : (g : ℕ → Bool) (i n : ℕ) → ((j : ℕ) × (i < j) × (j < n) × IsTrue (g j)) ⊎ ((j : ℕ) → i < j → j < n → ¬ (IsTrue (g j)))
later_or_none g i zero = inr (λ j l m. absurd (omega arith))
later_or_none g i (suc n) = elim (later_or_none g i n) [
  | inl w ↦ inl (w.0, w.1, (let l = w.2 in omega arith), w.3)
  | inr h ↦ elim (true_or_not (g n)) [
    | inr no' ↦ inr (λ j l m. elim (cases_eq j n) [ inl e ↦ (λ t. no' (subst (λ k. IsTrue (g k)) e t)) | inr d ↦ h j l (let q = d in omega arith) ])
    | inl t ↦ elim (before i n) [ inl l ↦ inl (n, l, omega arith, t) | inr l ↦ inr (λ j lj m. absurd (omega arith)) ]
  ]
]
  where
    before : (i n : ℕ) → (i < n) ⊎ (n ≤ i)
    before i n = grind arith

-- rows in order, of which the second is no strict part of the first, are lists in order
pub lex_of_first : (m : ℕ) (x y : List Bool) → length x ≡ m → length y ≡ m → HasFirstDifference x y → ¬ (IsStrictlyIn m (has y) (has x)) → IsLexBefore (members x) (members y)
lex_of_first m x y ex ey d apart = elim (later_or_none (has y) d.0 m) [
  | inl w ↦ subst (λ n. slice_cmp nat_cmp (picked (has x) 0 (length x)) (picked (has y) 0 n) ≡ Less) (ex ∙ sym ey) (lex_from (has x) (has y) (length x) 0 d.0 w.0 (omega arith) w.1 (let l = w.2 in omega arith) d.1 d.2 d.3 w.3)
  | inr none ↦ absurd (apart (record {
    included = λ j l t. inside j l t none;
    j = d.0;
    below = below_length x m d.0 ex d.1;
    has = d.1;
    lacks = λ t. let e : true ≡ false = sym t ∙ d.2 in cc;
  }))
]
  where
    cases : (j i : ℕ) → (j < i) ⊎ ((j ≡ i) ⊎ (i < j))
    cases j i = grind arith

    inside : (j : ℕ) → j < m → IsTrue (has y j) → ((j : ℕ) → d.0 < j → j < m → ¬ (IsTrue (has y j))) → IsTrue (has x j)
    inside j l t none = elim (cases j d.0) [
      | inl b ↦ d.3 j b ∙ t
      | inr (inl e) ↦ subst (λ k. IsTrue (has x k)) (sym e) d.1
      | inr (inr b) ↦ absurd (none j b l t)
    ]
