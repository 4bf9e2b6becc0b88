-- All rays of intersections, sorted and each once, and the places of some.
use Rattle.pm_vector.proofs.Filters.{any_from, any_to}
use Rattle.pm_vector.proofs.Lists.{AllPairs_cons, All_among, Among, Any_among, Contains_among, all_at, all_from, among_All, among_Contains, among_append, among_append_left, among_append_right, here, there}
use Rattle.pm_vector.specs.Rows.{HasCols, Row}
use Rattle.pm_dd.proofs.Ascending.{before_or_same}
use Rattle.pm_geom.proofs.Polar.{cols_at}
use Rattle.pm_geom.specs.Faces.{ray}
use Rattle.pm_geom.specs.Generators.{IsBefore}
use Rattle.pm_laws_normal_fans.proofs.Places.{map_at, map_length, no_pairs}
use Rattle.pm_laws_normal_fans.specs.Refinements.{AreAllRays, Intersection}
use Rattle.pm_refine.specs.RaySets.{joined_rays, places_from}
use Rattle.pm_refine.specs.Refined.{AreRaySets, IsRaySet}
use Rattle.std.proofs.Common.{add-one, add-zero, ap, arith, inl, inr, refl, subst, sym, ◌∙◌}
use Rattle.std.proofs.lemmas.List.{append-nil, append_assoc, drop_all, drop_more}
use Rattle.std.proofs.lemmas.List.Filters.{All-dedup, dedup_is}
use Rattle.std.proofs.lemmas.List.Kept.{Contains-dedup, IsStrictlySortedBy-dedup}
use Rattle.std.proofs.lemmas.List.Sorted.{All-permutation, Contains-permutation}
use Rattle.std.specs.Cmp.{IsTotalOrder, int_cmp_total, int_eq_equiv, signed_Decides}
use Rattle.std.specs.Cmp.Lexicographic.{lists_equiv, lists_ties, lists_total, pointwise, pointwise_decides, slice_cmp}
use Rattle.std.specs.List.{All, AllPairs, Any, Contains, dedup, list_any, slice_index_or}
use Rattle.std.specs.List.Retain.{DiffersFromLast, IsFiltered}
use Rattle.std.specs.List.Sorted.{IsPermutation, IsSorted, IsStrictlySortedBy}
use Rattle.std.specs.Ordering.{int_cmp, int_eq, is_lt, ordering_reverse}
use Rattle.std.specs.declared.cmp.Ordering.TheVariants.{Less}
use Rattle.std.specs.Prelude.{Bool, List, [], cond, drop, false, get_or, length, map, suc, true, zero, ℕ, ◌+◌, ◌++◌, ◌<◌, ◌≤◌, ◌∷◌, ◌≡◌}

joined_to : (kept : List Intersection) (a : Intersection) (r : Row) → Among a kept → Among r a.rays → Among r (joined_rays kept)
joined_to [] a r i j = elim i [ ]
joined_to (b ∷ kept) a r i j = at i j (λ k. joined_to kept a r k j)
  where
    at : {a : Intersection} → Among a (b ∷ kept) → Among r a.rays → (Among a kept → Among r (joined_rays kept)) → Among r (b.rays ++ joined_rays kept)
    at here j f = among_append_left (joined_rays kept) j
    at (there k) j f = among_append_right b.rays (f k)

joined_from : (kept : List Intersection) (r : Row) → Among r (joined_rays kept) → (a : Intersection) × Among a kept × Among r a.rays
joined_from [] r i = elim i [ ]
joined_from (b ∷ kept) r i = elim (among_append b.rays (joined_rays kept) i) [
  | inl j ↦ (b, here, j)
  | inr j ↦ (let (a, ia, k) = joined_from kept r j in (a, there ia, k))
]

-- ---- rows of one length that come strictly in order
abbrev order : IsTotalOrder (slice_cmp int_cmp)
order = lists_total int_cmp_total

less_before : (x y : Row) → length x ≡ length y → slice_cmp int_cmp x y ≡ Less → IsBefore x y
less_before x y l h = elim (before_or_same x y l after) [
  | inl e ↦ absurd (let s : slice_cmp int_cmp x x ≡ Less = subst (λ z. slice_cmp int_cmp x z ≡ Less) (sym e) h in let t : Less ≡ ordering_reverse Less = rw s at (order.antisymm x x) in cc)
  | inr b ↦ b
]
  where
    after : is_lt (slice_cmp int_cmp y x) ≡ false
    after = rw (order.antisymm y x, h) refl

strict_before : (n : ℕ) (R : List Row) → HasCols n R → IsStrictlySortedBy (slice_cmp int_cmp) R → AllPairs IsBefore R
unfolding IsStrictlySortedBy
strict_before n [] c s = no_pairs IsBefore
strict_before n (x ∷ R) c s = AllPairs_cons IsBefore x R (λ y i. less_before x y (c.0 ∙ sym (cols_at i c.1)) (all_at (λ y. slice_cmp int_cmp x y ≡ Less) i s.0)) (strict_before n R c.1 s.1)

abbrev pub same_row : Row → Row → Bool
same_row = pointwise int_eq

row_equal : (x y : Row) → same_row x y ≡ true → x ≡ y
row_equal x y e = (pointwise_decides signed_Decides x y).0 e

row_itself : (x y : Row) → x ≡ y → same_row x y ≡ true
row_itself x y e = (pointwise_decides signed_Decides x y).1 e

-- ---- what sorting and leaving out the equal ones makes of them
module _ (kept : List Intersection) (sorted : List Row) (p : IsPermutation (joined_rays kept) sorted) where
  abbrev made : List Row
  made = dedup same_row sorted

  from_all : (P : Row → Type 0) → ((r : Row) → Among r (joined_rays kept) → P r) → All P made
  from_all P f = All-dedup same_row P sorted (All-permutation P (joined_rays kept) sorted p (All_among P (joined_rays kept) f))

  pub all_rays_made : (n : ℕ) → IsSorted (slice_cmp int_cmp) sorted → All (λ a. HasCols n a.rays) kept → AreAllRays kept made
  all_rays_made n s cols = record {
    each = from_all (λ r. Any (λ a. Contains a.rays r) kept) (λ r i. let (a, ia, ir) = joined_from kept r i in Any_among (λ a. Contains a.rays r) ia (Contains_among ir));
    all = All_among (λ a. All (λ r. Contains made r) a.rays) kept (λ a ia. All_among (λ r. Contains made r) a.rays (λ r ir.
        Contains-dedup (lists_equiv int_eq_equiv) row_equal sorted r (Contains-permutation (joined_rays kept) sorted r p (Contains_among (joined_to kept a r ia ir)))));
    ascending = strict_before n made rows (IsStrictlySortedBy-dedup order (lists_ties int_cmp (λ _ _. refl)) sorted s);
  }
    where
      rows : HasCols n made
      rows = all_from (λ x. length x ≡ n) made (λ x i. among_All (λ x. length x ≡ n) i (from_all (λ x. length x ≡ n) (λ r j. let (a, ia, ir) = joined_from kept r j in cols_at ir (among_All (λ a. HasCols n a.rays) ia cols))))

-- ---- the places of rays among all
record Spot (rays R : List Row) (j k : ℕ) : Type 0 where
  m : ℕ
  within : m < length R
  at : k ≡ j + m
  has : Among (ray R m) rays

spot_more : (rays : List Row) (x : Row) (R : List Row) (j k : ℕ) → Spot rays R (suc j) k → Spot rays (x ∷ R) j k
spot_more rays x R j k s = record { m = suc s.m; within = (let l = s.within in omega arith); at = (let e = s.at in omega arith); has = s.has }

spot_first : (rays : List Row) (x : Row) (R : List Row) (j k : ℕ) → k ≡ j → Among x rays → Spot rays (x ∷ R) j k
spot_first rays x R j k e h = record { m = 0; within = omega arith; at = omega arith; has = h }

is_among : (rays : List Row) (x : Row) → list_any (λ v. same_row v x) rays ≡ true → Among x rays
is_among rays x e = let (v, iv, s) = any_to (λ v. same_row v x) rays e in subst (λ z. Among z rays) (row_equal v x s) iv

places_to : (rays R : List Row) (j k : ℕ) → Among k (places_from j rays R) → Spot rays R j k
places_to rays [] j k i = elim i [ ]
places_to rays (x ∷ R) j k i = by (list_any (λ v. same_row v x) rays) refl i (λ h. spot_more rays x R j k (places_to rays R (suc j) k h))
  where
    first : {z : ℕ} → Among z (j ∷ places_from (suc j) rays R) → Among x rays → (Among z (places_from (suc j) rays R) → Spot rays (x ∷ R) j z) → Spot rays (x ∷ R) j z
    first here h f = spot_first rays x R j j refl h
    first (there q) h f = f q

    by : (t : Bool) → t ≡ list_any (λ v. same_row v x) rays → Among k (cond t (j ∷ places_from (suc j) rays R) (places_from (suc j) rays R)) → (Among k (places_from (suc j) rays R) → Spot rays (x ∷ R) j k) → Spot rays (x ∷ R) j k
    by true e q f = first q (is_among rays x (sym e)) f
    by false e q f = f q

places_of : (rays R : List Row) (j m : ℕ) → m < length R → Among (ray R m) rays → Among (j + m) (places_from j rays R)
places_of rays [] j m l h = absurd (omega arith)
places_of rays (x ∷ R) j zero l h = by (list_any (λ v. same_row v x) rays) (any_from (λ v. same_row v x) h (row_itself x x refl))
  where
    by : (t : Bool) → t ≡ true → Among (j + 0) (cond t (j ∷ places_from (suc j) rays R) (places_from (suc j) rays R))
    by true e = rw add-zero here
    by false e = absurd cc
places_of rays (x ∷ R) j (suc m) l h = by (list_any (λ v. same_row v x) rays) (subst (λ z. Among z (places_from (suc j) rays R)) same (places_of rays R (suc j) m (omega arith) h))
  where
    same : suc j + m ≡ j + suc m
    same = omega arith

    by : (t : Bool) → Among (j + suc m) (places_from (suc j) rays R) → Among (j + suc m) (cond t (j ∷ places_from (suc j) rays R) (places_from (suc j) rays R))
    by true i = there i
    by false i = i

places_rise : (rays R : List Row) (j : ℕ) → AllPairs (λ a b. a < b) (places_from j rays R)
places_rise rays [] j = no_pairs (λ a b. a < b)
places_rise rays (x ∷ R) j = by (list_any (λ v. same_row v x) rays) (places_rise rays R (suc j)) (λ k i. let s = places_to rays R (suc j) k i in let e = s.at in omega arith)
  where
    by : (t : Bool) → AllPairs (λ a b. a < b) (places_from (suc j) rays R) → ((k : ℕ) → Among k (places_from (suc j) rays R) → j < k) → AllPairs (λ a b. a < b) (cond t (j ∷ places_from (suc j) rays R) (places_from (suc j) rays R))
    by true h f = AllPairs_cons (λ a b. a < b) j (places_from (suc j) rays R) f h
    by false h f = h

pub ray_set_found : (R : List Row) (a : Intersection) → IsRaySet R a (places_from 0 a.rays R)
ray_set_found R a = record {
  ascending = (All_among (λ k. k < length R) (places_from 0 a.rays R) (λ k i. let s = places_to a.rays R 0 k i in let e = s.at in let l = s.within in omega arith), places_rise a.rays R 0);
  places = λ j l. (
    λ c. (let s = places_to a.rays R 0 j (among_Contains (places_from 0 a.rays R) c) in subst (λ m. Contains a.rays (ray R m)) (let e = s.at in omega arith) (Contains_among s.has)),
    λ c. Contains_among (subst (λ m. Among m (places_from 0 a.rays R)) (omega arith) (places_of a.rays R 0 j l (among_Contains a.rays c))),
  );
}

pub ray_sets_found : (R : List Row) (kept : List Intersection) (sets : List (List ℕ)) → sets ≡ map (λ a. places_from 0 a.rays R) kept → AreRaySets R kept sets
ray_sets_found R kept sets e = record {
  as_many = rw e (map_length (λ a. places_from 0 a.rays R) kept);
  each = λ k a l. rw (e, map_at (λ a. places_from 0 a.rays R) a [] kept k l) (ray_set_found R (slice_index_or kept k a));
}

-- ---- the rows that are left
pub set_next : (rays R : List Row) (j : ℕ) (x : Row) (all found more : List ℕ) (t : Bool) → j < length R → x ≡ get_or R j x → t ≡ list_any (λ v. same_row v x) rays → all ≡ found ++ places_from j rays (drop j R)
    → more ≡ cond t (found ++ j ∷ []) found → all ≡ more ++ places_from (j + 1) rays (drop (j + 1) R)
set_next rays R j x all found more t l is test h e =
    rw e (h ∙ ap (λ ys. found ++ places_from j rays ys) (drop_more R j x l ∙ ap (λ z. z ∷ drop (j + 1) R) (sym is)) ∙ rw add-one (ap (λ z. found ++ cond z (j ∷ places_from (suc j) rays (drop (suc j) R)) (places_from (suc j) rays (drop (suc j) R))) (sym test) ∙ joined t (places_from (suc j) rays (drop (suc j) R))))
  where
    joined : (t : Bool) (rest : List ℕ) → found ++ cond t (j ∷ rest) rest ≡ cond t (found ++ j ∷ []) found ++ rest
    joined true rest = sym (append_assoc found (j ∷ []) rest)
    joined false rest = refl

-- ---- after the last intersection
pub joined_end : {X : Type 0} (f : X → Intersection) (xs : List X) (i : ℕ) (all : List Row) → length xs ≤ i → all ++ joined_rays (map f (drop i xs)) ≡ joined_rays (map f xs) → all ≡ joined_rays (map f xs)
joined_end f xs i all l e = sym (append-nil all) ∙ sym (ap (λ ys. all ++ joined_rays (map f ys)) (drop_all i xs l)) ∙ e

pub all_rays_answered : (kept : List Intersection) (all sorted made : List Row) → all ≡ joined_rays kept → IsPermutation all sorted → IsSorted (slice_cmp int_cmp) sorted → IsFiltered (DiffersFromLast same_row) [] sorted made → (n : ℕ) → All (λ a. HasCols n a.rays) kept → AreAllRays kept made
all_rays_answered kept all sorted made e p s d n cols = rw (dedup_is same_row sorted made d) (all_rays_made kept sorted (subst (λ z. IsPermutation z sorted) e p) n s cols)
