-- What holds of each two elements of a list holds of each two of the list in another order.
use Rattle.std.proofs.Common.{ap, arith, inl, inr, refl, subst, sym, ◌∙◌}
use Rattle.std.proofs.lemmas.Bool.{cases_lt}
use Rattle.std.proofs.lemmas.List.Edits.{length-swap, swapped_from_swap}
use Rattle.std.proofs.lemmas.List.Sorted.{IsPermutation-keeps}
use Rattle.std.specs.List.Sorted.{IsPermutation}
use Rattle.std.specs.List.{AllPairs, swap}
use Rattle.std.specs.Prelude.{List, get_or, length, ℕ, ◌<◌, ◌≡◌, ◌⊎◌}
use native.Mathlib.Decide.{ℕ_discrete}

-- ---- places that an exchange moves
Moved : ℕ → ℕ → ℕ → ℕ → Type 0
Moved a b i k = ((i ≡ a) × (k ≡ b)) ⊎ (((i ≡ b) × (k ≡ a)) ⊎ (¬ (i ≡ a) × ¬ (i ≡ b) × (k ≡ i)))

moved_once : (a b i j k : ℕ) → Moved a b i k → Moved a b j k → i ≡ j
unfolding Moved
moved_once a b i j k (inl p) (inl q) = p.0 ∙ sym q.0
moved_once a b i j k (inl p) (inr (inl q)) = p.0 ∙ sym q.1 ∙ p.1 ∙ sym q.0
moved_once a b i j k (inl p) (inr (inr q)) = absurd (q.1 (sym q.2 ∙ p.1))
moved_once a b i j k (inr (inl p)) (inl q) = p.0 ∙ sym q.1 ∙ p.1 ∙ sym q.0
moved_once a b i j k (inr (inl p)) (inr (inl q)) = p.0 ∙ sym q.0
moved_once a b i j k (inr (inl p)) (inr (inr q)) = absurd (q.0 (sym q.2 ∙ p.1))
moved_once a b i j k (inr (inr p)) (inl q) = absurd (p.1 (sym p.2 ∙ q.1))
moved_once a b i j k (inr (inr p)) (inr (inl q)) = absurd (p.0 (sym p.2 ∙ q.1))
moved_once a b i j k (inr (inr p)) (inr (inr q)) = sym p.2 ∙ q.2

module _ {X : Type 0} where
  -- where the element at a place stood before the exchange
  record Stood (xs : List X) (a b i : ℕ) (d : X) : Type 0 where
    k : ℕ
    within : k < length xs
    moved : Moved a b i k
    here : get_or (swap xs a b) i d ≡ get_or xs k d

  stood : (xs : List X) (a b i : ℕ) (d : X) → a < length xs → b < length xs → i < length xs → Stood xs a b i d
  unfolding Moved
  stood xs a b i d la lb li = let s = swapped_from_swap xs (swap xs a b) a b d la lb refl in elim (ℕ_discrete i a) [
    | yes e ↦ record { k = b; within = lb; moved = inl (e, refl); here = ap (λ (m : ℕ). get_or (swap xs a b) m d) e ∙ s.0 }
    | no na ↦ elim (ℕ_discrete i b) [
      | yes e ↦ record { k = a; within = la; moved = inr (inl (e, refl)); here = ap (λ (m : ℕ). get_or (swap xs a b) m d) e ∙ s.1 }
      | no nb ↦ record { k = i; within = li; moved = inr (inr (na, nb, refl)); here = s.2 i na nb }
    ]
  ]

  module _ (R : X → X → Type 0) where
    EachTwo : List X → Type 0
    EachTwo xs = (i j : ℕ) (d : X) → i < length xs → j < length xs → ¬ (i ≡ j) → R (get_or xs i d) (get_or xs j d)

    two_of_pairs : (xs : List X) → ((x y : X) → R x y → R y x) → AllPairs R xs → EachTwo xs
    unfolding EachTwo
    two_of_pairs xs turn h i j d li lj ne = elim (cases_lt i j) [ inl l ↦ h i j d l lj | inr m ↦ turn (get_or xs j d) (get_or xs i d) (h j i d (omega arith) li) ]

    two_after : (xs : List X) (a b : ℕ) → a < length xs → b < length xs → EachTwo xs → EachTwo (swap xs a b)
    unfolding EachTwo
    two_after xs a b la lb h i j d li lj ne =
        let n = length-swap xs a b in
        let s = stood xs a b i d la lb (omega arith) in
        let t = stood xs a b j d la lb (omega arith) in
        rw (s.here, t.here) (h s.k t.k d s.within t.within (λ e. ne (moved_once a b i j s.k s.moved (subst (λ (m : ℕ). Moved a b j m) (sym e) t.moved))))

    pub pairs_permuted : (xs ys : List X) → ((x y : X) → R x y → R y x) → IsPermutation xs ys → AllPairs R xs → AllPairs R ys
    unfolding EachTwo
    pairs_permuted xs ys turn p h =
        let two = IsPermutation-keeps xs EachTwo (two_of_pairs xs turn h) (λ l a b la lb t. two_after l a b la lb t) ys p in
        λ i j d l m. two i j d (omega arith) m (λ e. omega arith)
