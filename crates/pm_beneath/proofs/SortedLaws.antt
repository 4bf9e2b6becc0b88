-- Sets in lexicographic order, each once.
use Rattle.pm_geom.proofs.LexLaws.{apart_test, lex, tied_same}
use Rattle.pm_vector.proofs.Filters.{among_map, map_among}
use Rattle.pm_vector.proofs.Lists.{AllPairs_cons, Among, Contains_among, all_at, among_Any, among_Contains, here}
use Rattle.pm_geom.specs.FaceCounts.{IsLexBefore}
use Rattle.std.proofs.Common.{arith, ap, refl, sym, subst, ◌∙◌}
use Rattle.std.proofs.lemmas.Cmp.{eq_by_cmp_equiv, nat_list_cmp_total, on_equiv, nat_list_eq_equiv, tied_itself}
use Rattle.std.proofs.lemmas.List.Kept.{Any-dedup, Contains-from_dedup, IsStrictlySortedBy-dedup}
use Rattle.std.proofs.lemmas.List.Sorted.{Contains-permutation, IsPermutation-map, IsPermutation-sym, length_permutation}
use Rattle.std.proofs.lemmas.Map.Keys.{IsDistinct-IsPermutation, IsDistinct-from_apart, apart_from_distinct}
use Rattle.std.specs.Cmp.Lexicographic.{on_texts, slice_cmp, texts_ties}
use Rattle.std.specs.List.{AllPairs, Contains, IsDistinct, dedup, dedup_from}
use Rattle.std.specs.List.Sorted.{IsPermutation, IsSorted, IsStrictlySortedBy}
use Rattle.std.specs.Ordering.{eq_by_cmp, is_eq, nat_cmp}
use Rattle.std.specs.Prelude.{Bool, List, [], cond, false, get_or, length, map, nat_eq, suc, true, ℕ, ◌<◌, ◌∷◌, ◌≡◌, ◌↔◌}
use Rattle.std.specs.declared.cmp.Ordering.TheVariants.{Equal, Greater, Less}
use Rattle.std.specs.declared.cmp.Ordering.{Ordering}
use lib.Pointwise.{pointwise}

test_same : (xs ys : List ℕ) → eq_by_cmp lex xs ys ≡ true → xs ≡ ys
test_same xs ys t = by (lex xs ys) refl t
  where
    by : (o : Ordering) → o ≡ lex xs ys → is_eq o ≡ true → xs ≡ ys
    by Less h e = absurd cc
    by Equal h e = tied_same xs ys (sym h)
    by Greater h e = absurd cc

lex_differ : (s t : List ℕ) → IsLexBefore s t → ¬ (s ≡ t)
lex_differ s t l e = let h : lex s s ≡ Less = subst (λ (z : List ℕ). lex s z ≡ Less) (sym e) l in let q = tied_itself nat_list_cmp_total s in cc

-- sets in strict order differ
pub ordered_apart : (T : List (List ℕ)) → AllPairs IsLexBefore T → AllPairs (λ s t. ¬ (s ≡ t)) T
ordered_apart T h = λ i j d l m. lex_differ (get_or T i d) (get_or T j d) (h i j d l m)

module _ {A : Type 0} (items : A → List ℕ) where
  abbrev Alike : A → A → Bool
  Alike x y = pointwise nat_eq (items x) (items y)

  strict : (xs : List A) → IsStrictlySortedBy (λ x y. slice_cmp nat_cmp (items x) (items y)) xs → AllPairs IsLexBefore (map items xs)
  unfolding IsStrictlySortedBy
  strict [] h = λ i j d l m. absurd (omega arith)
  strict (x ∷ xs) h = AllPairs_cons IsLexBefore (items x) (map items xs) (λ s i. let r = map_among items xs i in subst (λ (z : List ℕ). IsLexBefore (items x) z) (sym r.2) (all_at (λ y. slice_cmp nat_cmp (items x) (items y) ≡ Less) r.1 h.0)) (strict xs h.1)

  pub ordered_once : (xs : List A) → IsSorted (λ x y. slice_cmp nat_cmp (items x) (items y)) xs → AllPairs IsLexBefore (map items (dedup Alike xs))
  ordered_once xs s = strict (dedup Alike xs) (IsStrictlySortedBy-dedup (on_texts items) (λ x y. texts_ties (items x) (items y)) xs s)

  alike_same : (x y : A) → Alike x y ≡ true → items x ≡ items y
  alike_same x y t = test_same (items x) (items y) (sym (texts_ties (items x) (items y)) ∙ t)

  same_to : (before after : List A) → IsPermutation before after → (s : List ℕ) → Contains (map items (dedup Alike after)) s → Contains (map items before) s
  same_to before after p s c =
      let r = map_among items (dedup Alike after) (among_Contains (map items (dedup Alike after)) c) in
      let i = among_Contains before (Contains-permutation after before r.0 (IsPermutation-sym before after p) (Contains-from_dedup Alike after r.0 (Contains_among r.1))) in
      Contains_among (subst (λ (z : List ℕ). Among z (map items before)) (sym r.2) (among_map items i))

  same_of : (before after : List A) → IsPermutation before after → (s : List ℕ) → Contains (map items before) s → Contains (map items (dedup Alike after)) s
  same_of before after p s c =
      let r = map_among items before (among_Contains (map items before) c) in
      let w = among_Any (λ y. Alike r.0 y ≡ true) (dedup Alike after) (Any-dedup (on_equiv items nat_list_eq_equiv) after r.0 (Contains-permutation before after r.0 p (Contains_among r.1))) in
      Contains_among (subst (λ (z : List ℕ). Among z (map items (dedup Alike after))) (sym (r.2 ∙ alike_same r.0 w.0 w.2)) (among_map items w.1))

  pub same_once : (before after : List A) → IsPermutation before after → (s : List ℕ) → Contains (map items (dedup Alike after)) s ↔ Contains (map items before) s
  same_once before after p s = (same_to before after p s, same_of before after p s)

  -- ---- where all differ, there are as many
  abbrev Differ : List A → Type 0
  Differ [] = Unit {0}
  Differ (x ∷ xs) = ((y : A) → Among y xs → ¬ (items x ≡ items y)) × Differ xs

  differ_from : (xs : List A) → ((i j : ℕ) (d : List ℕ) → i < j → j < length (map items xs) → ¬ (get_or (map items xs) i d ≡ get_or (map items xs) j d)) → Differ xs
  differ_from [] h = tt
  differ_from (x ∷ xs) h = (
    λ y i e. (let c = Contains_among (among_map items i) in h 0 (suc c.0) (items y) (omega arith) (let l = c.1 in omega arith) (e ∙ sym c.2)),
    differ_from xs (λ i j d l m. h (suc i) (suc j) d (omega arith) (omega arith)),
  )

  none_left_out : (k : A) (xs : List A) → Differ (k ∷ xs) → length (dedup_from Alike k xs) ≡ suc (length xs)
  none_left_out k [] a = refl
  none_left_out k (x ∷ xs) a = by (Alike x k) (texts_ties (items x) (items k) ∙ apart_test (items x) (items k) (λ e. a.0 x here (sym e))) (none_left_out x xs a.1)
    where
      by : (b : Bool) → b ≡ false → length (dedup_from Alike x xs) ≡ suc (length xs) → length (cond b (dedup_from Alike k xs) (k ∷ dedup_from Alike x xs)) ≡ suc (suc (length xs))
      by true f e = absurd cc
      by false f e = ap suc e

  all_kept : (xs : List A) → Differ xs → length (dedup Alike xs) ≡ length xs
  all_kept [] a = refl
  all_kept (x ∷ xs) a = none_left_out x xs a

  pub as_many : (before after : List A) → IsPermutation before after → AllPairs (λ s t. ¬ (s ≡ t)) (map items before) → length (dedup Alike after) ≡ length before
  as_many before after p h =
      let first : IsDistinct (eq_by_cmp lex) (map items before) = IsDistinct-from_apart (eq_by_cmp lex) (map items before) (λ i j d l m. apart_test (get_or (map items before) i d) (get_or (map items before) j d) (h i j d l m)) in
      let later = IsDistinct-IsPermutation (eq_by_cmp lex) (eq_by_cmp_equiv nat_list_cmp_total).symm (map items before) (map items after) (IsPermutation-map items before after p) first in
      all_kept after (differ_from after (λ i j d l m e. test_clash (get_or (map items after) i d) (get_or (map items after) j d) (apart_from_distinct (eq_by_cmp lex) (map items after) i j d later l m) e)) ∙ length_permutation before after p
    where
      test_clash : (s t : List ℕ) → eq_by_cmp lex s t ≡ false → ¬ (s ≡ t)
      test_clash s t f e = let q = (eq_by_cmp_equiv nat_list_cmp_total).refl s in let w : eq_by_cmp lex s s ≡ false = subst (λ (z : List ℕ). eq_by_cmp lex s z ≡ false) (sym e) f in cc
