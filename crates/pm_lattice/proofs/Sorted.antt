-- Rows of bits that differ, sorted: each is before those after it.
use Rattle.std.specs.List.{IsDistinct}
use Rattle.pm_vector.proofs.Lists.{all_from, among_All}
use Rattle.pm_bits.specs.Laws.{row_cmp_total}
use Rattle.pm_bits.specs.Sets.{row_cmp}
use Rattle.pm_lattice.proofs.Keys.{before_trans, equal_rows}
use Rattle.pm_lattice.proofs.Reached.{same_bool}
use Rattle.pm_lattice.specs.Closures.{IsRowBefore}
use Rattle.std.proofs.Common.{ap, arith, get_or, refl, subst, sym, ◌∙◌}
use Rattle.std.proofs.lemmas.Map.Keys.{IsDistinct-IsPermutation}
use Rattle.std.specs.Bool.{beq}
use Rattle.std.specs.Cmp.{booleans_Decides}
use Rattle.std.specs.Cmp.Lexicographic.{pointwise, pointwise_decides}
use Rattle.std.specs.List.{AllPairs}
use Rattle.std.specs.List.Sorted.{IsPermutation, IsSorted}
use Rattle.std.specs.Ordering.{is_lt, ordering_reverse}
use Rattle.std.specs.Prelude.{Bool, List, [], false, length, suc, true, zero, ℕ, ◌+◌, ◌-◌, ◌<◌, ◌∷◌, ◌≡◌}
use Rattle.std.specs.declared.cmp.Ordering.{Ordering}
use Rattle.std.specs.declared.cmp.Ordering.TheVariants.{Less, Equal, Greater}

abbrev same_row : List Bool → List Bool → Bool
same_row = pointwise beq

same_row_turns : (x y : List Bool) → same_row x y ≡ same_row y x
same_row_turns x y = same_bool (same_row x y) (same_row y x)
    (λ t. (pointwise_decides booleans_Decides y x).1 (sym ((pointwise_decides booleans_Decides x y).0 t)))
    (λ t. (pointwise_decides booleans_Decides x y).1 (sym ((pointwise_decides booleans_Decides y x).0 t)))

not_same : (x y : List Bool) → ¬ (x ≡ y) → same_row x y ≡ false
not_same x y n = go (same_row x y) refl
  where
    go : (b : Bool) → same_row x y ≡ b → same_row x y ≡ false
    go true e = absurd (n ((pointwise_decides booleans_Decides x y).0 e))
    go false e = e

distinct_from : (xs : List (List Bool)) → AllPairs (λ x y. ¬ (x ≡ y)) xs → IsDistinct same_row xs
unfolding IsDistinct
distinct_from [] h = tt
distinct_from (x ∷ xs) h = (
  all_from (λ y. same_row x y ≡ false) xs (λ y i. not_same x y (among_All (λ y. ¬ (x ≡ y)) i (λ k d l. h 0 (suc k) d (omega arith) (omega arith)))),
  distinct_from xs (λ i j d l m. h (suc i) (suc j) d (omega arith) (omega arith)),
)

distinct_next : (xs : List (List Bool)) → IsDistinct same_row xs → (i : ℕ) → i + 1 < length xs → ¬ (get_or xs i [] ≡ get_or xs (i + 1) [])
unfolding IsDistinct
distinct_next [] h i l = absurd (omega arith)
distinct_next (x ∷ []) h i l = absurd (omega arith)
distinct_next (x ∷ y ∷ xs) h zero l = λ e. let t : same_row x y ≡ true = (pointwise_decides booleans_Decides x y).1 e in let f : same_row x y ≡ false = h.0.0 in cc
distinct_next (x ∷ y ∷ xs) h (suc i) l = subst (λ k. ¬ (get_or (y ∷ xs) i [] ≡ get_or (x ∷ y ∷ xs) k [])) (let e : suc (i + 1) ≡ suc i + 1 = omega arith in e) (distinct_next (y ∷ xs) h.1 i (omega arith))

before_from : (x y : List Bool) → is_lt (row_cmp y x) ≡ false → ¬ (x ≡ y) → IsRowBefore x y
before_from x y h n = go (row_cmp x y) refl
  where
    go : (o : Ordering) → row_cmp x y ≡ o → row_cmp x y ≡ Less
    go Less e = e
    go Equal e = absurd (n (equal_rows x y e))
    go Greater e = let t : is_lt (row_cmp y x) ≡ true = ap is_lt (row_cmp_total.antisymm y x ∙ ap ordering_reverse e) in absurd (let q : true ≡ false = sym t ∙ h in cc)

module _ (xs : List (List Bool)) (sorted : IsSorted row_cmp xs) (distinct : IsDistinct same_row xs) where
  next_before : (i : ℕ) → i + 1 < length xs → IsRowBefore (get_or xs i []) (get_or xs (i + 1) [])
  next_before i l = before_from (get_or xs i []) (get_or xs (i + 1) []) (sorted i [] (omega arith) l) (distinct_next xs distinct i l)

  far_before : (n i : ℕ) → i + n + 1 < length xs → IsRowBefore (get_or xs i []) (get_or xs (i + n + 1) [])
  far_before zero i l = subst (λ k. IsRowBefore (get_or xs i []) (get_or xs k [])) (let e : i + 1 ≡ i + zero + 1 = omega arith in e) (next_before i (omega arith))
  far_before (suc n) i l =
      let e : i + n + 1 + 1 ≡ i + suc n + 1 = omega arith in
      subst (λ k. IsRowBefore (get_or xs i []) (get_or xs k [])) e (before_trans (get_or xs i []) (get_or xs (i + n + 1) []) (get_or xs (i + n + 1 + 1) []) (far_before n i (omega arith)) (next_before (i + n + 1) (omega arith)))

  pub all_before : (i j : ℕ) → i < j → j < length xs → IsRowBefore (get_or xs i []) (get_or xs j [])
  all_before i j l m = subst (λ k. IsRowBefore (get_or xs i []) (get_or xs k [])) (let e : i + (j - i - 1) + 1 ≡ j = omega arith in e) (far_before (j - i - 1) i (omega arith))

-- rows that differ, sorted, are in order
pub sorted_rows : (xs ys : List (List Bool)) → AllPairs (λ x y. ¬ (x ≡ y)) xs → IsPermutation xs ys → IsSorted row_cmp ys → (i j : ℕ) → i < j → j < length ys → IsRowBefore (get_or ys i []) (get_or ys j [])
sorted_rows xs ys differ moved sorted = all_before ys sorted (IsDistinct-IsPermutation same_row same_row_turns xs ys moved (distinct_from xs differ))
