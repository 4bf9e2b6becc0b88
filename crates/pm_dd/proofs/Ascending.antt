-- Sorting an order: the same rows in lexicographic order.
use Rattle.pm_geom.proofs.Permuted.{pairs_permuted}
use Rattle.std.specs.Prelude.{ℕ, zero, suc, ◌≡◌, ◌<◌, ◌⊎◌, true, false, List, [], ◌∷◌, length}
use Rattle.std.specs.List.{AllPairs}
use Rattle.std.specs.List.Sorted.{IsPermutation, IsSorted}
use Rattle.std.specs.Ordering.{int_cmp, is_lt, ordering_then}
use Rattle.std.specs.declared.cmp.Ordering.{Ordering}
use Rattle.std.specs.declared.cmp.Ordering.TheVariants.{Less, Equal, Greater}
use Rattle.std.specs.Cmp.{int_cmp_total}
use Rattle.std.specs.Cmp.Lexicographic.{lists_total, slice_cmp}
use Rattle.std.proofs.Common.{ap, arith, inl, inr, refl, subst, sym, ◌∙◌}
use Rattle.std.proofs.lemmas.Cmp.{int_ranked}
use Rattle.std.proofs.lemmas.List.{get_or_default}
use Rattle.std.proofs.lemmas.List.Sorted.{All-permutation, Contains-permutation, ranks_by, sorted_far}
use Rattle.pm_vector.specs.Cones.{IsConeSet}
use Rattle.pm_vector.specs.Rows.{HasCols, Row, entry}
use Rattle.pm_vector.proofs.Lists.{Among, Any_among, Contains_among, among_Contains}
use Rattle.pm_geom.specs.Cones.{IsExtreme, IsOrder, SameModulo}
use Rattle.pm_geom.specs.Faces.{ray}
use Rattle.pm_geom.specs.Generators.{IsBefore}
use Rattle.pm_dd.proofs.AlikeLaws.{alike_sym}
use Rattle.pm_dd.proofs.StepLaws.{at_place}
use lib.IntN.{ℤ}
use lib.Signed.{◌<ℤ◌}

-- ---- an order stays one
pub order_permutation : (n : ℕ) (S : Row → Type 0) → IsConeSet S → (V W : List Row) → IsPermutation V W → IsOrder n S V → IsOrder n S W
order_permutation n S cs V W p o = record {
  each = All-permutation (λ v. IsExtreme n S v) V W p o.each;
  all = λ r e.
      let w = o.all r e in
      let i : Among w.1 V = among_Contains V (w.0, w.2, w.3) in
      Any_among (λ v. SameModulo n S r v) (among_Contains W (Contains-permutation V W w.1 p (Contains_among i))) w.4;
  once = pairs_permuted (λ v w. ¬ (SameModulo n S v w)) V W (λ x y no t. no (alike_sym n S cs t)) p o.once;
}

-- ---- lexicographic order
before_more : (a : ℤ) {x y : Row} → IsBefore x y → IsBefore (a ∷ x) (a ∷ y)
before_more a {x} {y} b = record {
  place = suc b.place;
  within = (let l = b.within in omega arith);
  same = same_at;
  below = b.below;
}
  where
    same_at : (i : ℕ) → i < suc b.place → entry (a ∷ x) i ≡ entry (a ∷ y) i
    same_at zero l = refl
    same_at (suc i) l = b.same i (omega arith)

first_before : (a b : ℤ) (x y : Row) → a <ℤ b → IsBefore (a ∷ x) (b ∷ y)
first_before a b x y l = record { place = 0; within = omega arith; same = λ i m. absurd (omega arith); below = l }

then_less : (o r : Ordering) → o ≡ Less → is_lt (ordering_then o r) ≡ true
then_less o r e = rw e refl

then_equal : (o r : Ordering) → o ≡ Equal → is_lt (ordering_then o r) ≡ is_lt r
then_equal o r e = rw e refl

first_places : (a b : ℤ) (x y : Row) → (is_lt (slice_cmp int_cmp y x) ≡ false → (x ≡ y) ⊎ IsBefore x y) → is_lt (slice_cmp int_cmp (b ∷ y) (a ∷ x)) ≡ false → (o : Ordering) → o ≡ int_cmp b a → ((a ∷ x) ≡ (b ∷ y)) ⊎ IsBefore (a ∷ x) (b ∷ y)
first_places a b x y rest h Less q = absurd (let t = then_less (int_cmp b a) (slice_cmp int_cmp y x) (sym q) in cc)
first_places a b x y rest h Equal q =
    let e : b ≡ a = int_ranked b a Equal q in
    elim (rest (sym (then_equal (int_cmp b a) (slice_cmp int_cmp y x) (sym q)) ∙ h)) [
      | inl s ↦ inl (ap (λ (z : Row). a ∷ z) s ∙ ap (λ (k : ℤ). k ∷ y) (sym e))
      | inr s ↦ inr (subst (λ (k : ℤ). IsBefore (a ∷ x) (k ∷ y)) (sym e) (before_more a s))
    ]
first_places a b x y rest h Greater q = inr (first_before a b x y (int_ranked b a Greater q))

-- y does not come before x, so they are equal or x comes before y
pub before_or_same : (x y : Row) → length x ≡ length y → is_lt (slice_cmp int_cmp y x) ≡ false → (x ≡ y) ⊎ IsBefore x y
before_or_same [] [] e h = inl refl
before_or_same [] (b ∷ y) e h = absurd (omega arith)
before_or_same (a ∷ x) [] e h = absurd (omega arith)
before_or_same (a ∷ x) (b ∷ y) e h = first_places a b x y (before_or_same x y (omega arith)) h (int_cmp b a) refl

-- rows of one length that are sorted, and of which no two are equal
pub ascending : (n : ℕ) (W : List Row) → HasCols n W → IsSorted (slice_cmp int_cmp) W → ((i j : ℕ) → i < j → j < length W → ¬ (ray W i ≡ ray W j)) → AllPairs IsBefore W
ascending n W hW s apart i j d l m =
    let li : i < length W = omega arith in
    let far = sorted_far (λ x y. is_lt (slice_cmp int_cmp x y)) (ranks_by (lists_total int_cmp_total) (λ (x : Row). x)) W s i j [] (omega arith) m in
    rw (get_or_default W i d [] li, get_or_default W j d [] m)
    (elim (before_or_same (ray W i) (ray W j) (Rattle.pm_geom.proofs.Polar.cols_at (at_place W i li) hW ∙ sym (Rattle.pm_geom.proofs.Polar.cols_at (at_place W j m) hW)) far) [
      | inl e ↦ absurd (apart i j l m e)
      | inr b ↦ b
    ])
