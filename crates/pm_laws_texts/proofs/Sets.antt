-- The first fault of a set of indices, and of the sets of a list.
use Rattle.pm_json.proofs.Grammar.{has_put}
use Rattle.pm_json.proofs.Parts.{and_then-ok, else-ok, same_Ok}
use Rattle.pm_json.specs.Readings.{Read, and_then, has_index, index_below_limit, index_of, items_of, set_from, whole_number_of, with_index}
use Rattle.pm_json.specs.declared.fail.ValueFail.{ValueFail}
use Rattle.pm_json.specs.declared.fail.ValueFail.TheVariants.{Limit, Shape}
use Rattle.pm_laws_texts.proofs.FirstOfValue.{array_tells, at_items, items_tell, same_tells, shape_first, shape_least, some_is}
use Rattle.pm_laws_texts.proofs.Matrices.{FindsLeast, Judges, place_tells, same_order, whole_judges}
use Rattle.pm_laws_texts.specs.ValueFaults.{HasIndex, IsNoIndex, IsRepeated, IsWhole, NoIndex, NotWhole, OfIndex, OfListed, OfSet}
use Rattle.pm_laws_texts.specs.Places.{AtItem, CountsFirst, OfArray, Tells, count, order}
use Rattle.pm_limits.specs.Limits.{most_rows}
use Rattle.serde_json.specs.Data.{Data, Items, array, boolean, item, no_items, null, number, object, string}
use Rattle.serde_json.specs.Find.{get_item}
use Rattle.std.proofs.Common.{ap, arith, cond, eqb, false, inl, inr, refl, subst, sym, true, true≢false, ◌∙◌}
use Rattle.std.proofs.lemmas.Bool.{eq-eqb, eqb-true, ltb-false, ltb-true, or_left, or_right}
use Rattle.std.specs.Prelude.{Bool, Err, List, Ok, Some, [], if◌then◌else◌, nat_lt, suc, ℕ, ◌+◌, ◌<◌, ◌||◌, ◌≡◌, ◌≤◌, ◌⊎◌, ◌∷◌}
use lib.IntN.{ℤ, negsuc, pos}

-- ---- an index
abbrev JudgesIndex : Data → Read ℕ → Type 0
JudgesIndex d (Ok j) = IsWhole d (pos j) × (j < most_rows) × ((i : ℕ) → IsWhole d (pos i) → i ≡ j) × ((g : ValueFail) → ¬ (NoIndex d g))
JudgesIndex d (Err f) = NoIndex d f × ((g : ValueFail) → NoIndex d g → g ≡ f) × ((i : ℕ) → IsWhole d (pos i) → ¬ (i < most_rows))

same_pos : {i j : ℕ} → pos i ≡ pos j → i ≡ j
same_pos h = cc

index_judges : (d : Data) → JudgesIndex d (index_of d)
index_judges d = by (whole_number_of d) (whole_judges d)
  where
    at : (z : ℤ) → IsWhole d z → ((y : ℤ) → IsWhole d y → y ≡ z) → ((g : ValueFail) → ¬ (NotWhole d g)) → JudgesIndex d (index_below_limit z)
    at (negsuc n) is only none = (
      inr (negsuc n, is, refl),
      λ g h. elim h [
        | inl x ↦ absurd (none g x)
        | inr y ↦ subst (λ w. IsNoIndex w g) (only y.0 y.1) y.2
      ],
      λ i w l. (let e = only (pos i) w in cc),
    )
    at (pos j) is only none = test (nat_lt j most_rows) refl
      where
        test : (b : Bool) → nat_lt j most_rows ≡ b → JudgesIndex d (if b then Ok j else Err Limit)
        test true e = (
          is,
          ltb-true j most_rows e,
          λ i w. same_pos (only (pos i) w),
          λ g h. elim h [
            | inl x ↦ none g x
            | inr y ↦ (let m = (subst (λ w. IsNoIndex w g) (only y.0 y.1) y.2).1 in let l = ltb-true j most_rows e in omega arith)
          ],
        )
        test false e = (
          inr (pos j, is, (refl, ltb-false j most_rows e)),
          λ g h. elim h [
            | inl x ↦ absurd (none g x)
            | inr y ↦ (subst (λ w. IsNoIndex w g) (only y.0 y.1) y.2).0
          ],
          λ i w l. (let same = same_pos (only (pos i) w) in let m = ltb-false j most_rows e in omega arith),
        )

    by : (read : Read ℤ) → Judges (IsWhole d) (NotWhole d) read → JudgesIndex d (and_then read index_below_limit)
    by (Ok z) (is, only, none) = at z is only none
    by (Err f) (is, only, none) = (
      inl is,
      λ g h. elim h [
        | inl x ↦ only g x
        | inr y ↦ absurd (none y.0 y.1)
      ],
      λ i w l. none (pos i) w,
    )

-- ---- the indices so far
-- the set has exactly the indices of the items before number k
pub record Holds (all : Items) (k : ℕ) (set : List ℕ) : Type 0 where
  pub from : (j : ℕ) → has_index j set ≡ true → HasIndex all k j
  pub to : (j : ℕ) → HasIndex all k j → has_index j set ≡ true

pub holds_none : (all : Items) → Holds all 0 []
holds_none all = record { from = λ j h. absurd (true≢false (sym h)); to = λ j h. (let l = h.1 in absurd (omega arith)) }

pub or_cases : (a b : Bool) → (a || b) ≡ true → (a ≡ true) ⊎ (b ≡ true)
or_cases true b h = inl refl
or_cases false b h = inr h

cases_below : (p k : ℕ) → p < suc k → (p < k) ⊎ (p ≡ k)
cases_below p k h = grind arith

holds_more : (all : Items) (k : ℕ) (set : List ℕ) (d : Data) (j : ℕ) → get_item k all ≡ Some d → IsWhole d (pos j) → j < most_rows → ((i : ℕ) → IsWhole d (pos i) → i ≡ j) → Holds all k set → Holds all (suc k) (with_index j set)
holds_more all k set d j there is low only holds = record { from = λ i h. from i (or_cases (eqb j i) (has_index i set) (sym (has_put i j set) ∙ h)); to = to }
  where
    from : (i : ℕ) → (eqb j i ≡ true) ⊎ (has_index i set ≡ true) → HasIndex all (suc k) i
    from i (inl e) = let same = eqb-true j i e in (k, omega arith, d, there, subst (λ n. IsWhole d (pos n)) same is, omega arith)
    from i (inr h) = let (p, less, e, there, w, l) = holds.from i h in (p, omega arith, e, there, w, l)

    to : (i : ℕ) → HasIndex all (suc k) i → has_index i (with_index j set) ≡ true
    to i (p, less, e, at, w, l) = has_put i j set ∙ place (cases_below p k less)
      where
        place : (p < k) ⊎ (p ≡ k) → (eqb j i || has_index i set) ≡ true
        place (inl l_before) = or_right (eqb j i) (has_index i set) (holds.to i (p, l_before, e, at, w, l))
        place (inr here) =
            let same : e ≡ d = some_is (sym at ∙ ap (λ q. get_item q all) here ∙ there) in
            or_left (eqb j i) (has_index i set) (eq-eqb j i (sym (only i (subst (λ z. IsWhole z (pos i)) same w))))

-- ---- a set
pub index_finds : (all : Items) (k : ℕ) (set : List ℕ) (d : Data) → Holds all k set → FindsLeast (λ f. NoIndex d f ⊎ ((f ≡ Shape) × IsRepeated all k d)) (and_then (index_of d) (λ j. if has_index j set then Err Shape else Ok j))
index_finds all k set d holds = by (index_of d) (index_judges d)
  where
    by : (read : Read ℕ) → JudgesIndex d read → FindsLeast (λ f. NoIndex d f ⊎ ((f ≡ Shape) × IsRepeated all k d)) (and_then read (λ j. if has_index j set then Err Shape else Ok j))
    by (Err f) (is, only, none) = (
      inl is,
      λ g h. elim h [
        | inl x ↦ same_order f g (only g x)
        | inr y ↦ (let (e, (j, earlier, w)) = y in absurd (none j w (low earlier)))
      ],
    )
      where
        low : {j : ℕ} → HasIndex all k j → j < most_rows
        low (p, less, e, at, w, l) = l
    by (Ok j) (is, l, only, none) = test (has_index j set) refl
      where
        test : (b : Bool) → has_index j set ≡ b → FindsLeast (λ f. NoIndex d f ⊎ ((f ≡ Shape) × IsRepeated all k d)) (if b then Err Shape else Ok j)
        test true e = (inr (refl, (j, holds.from j e, is)), λ g h. shape_least g)
        test false e = λ g h. elim h [
          | inl x ↦ none g x
          | inr y ↦ (let (s, (i, earlier, w)) = y in true≢false (sym (holds.to j (subst (HasIndex all k) (only i w) earlier)) ∙ e))
        ]

else_then : {A B : Type 0} (read : Read A) (b : A → Bool) (f : ValueFail) (next : A → Read B) → and_then read (λ a. if b a then Err f else next a) ≡ and_then (and_then read (λ a. if b a then Err f else Ok a)) next
else_then (Ok a) b f next = by (b a)
  where
    by : (t : Bool) → (if t then Err f else next a) ≡ and_then (if t then Err f else Ok a) next
    by true = refl
    by false = refl
else_then (Err g) b f next = refl

-- what was read of an index
pub read_index : (set : List ℕ) (d : Data) (j : ℕ) → and_then (index_of d) (λ i. if has_index i set then Err Shape else Ok i) ≡ Ok j → index_of d ≡ Ok j
read_index set d j e =
    and_then-ok (index_of d) (λ i. cond (has_index i set) (Err Shape) (Ok i)) j e
    (λ i is f. let p = else-ok (has_index i set) (Ok i) Shape j f in is ∙ p.1)

judged : (d : Data) (read : Read ℕ) (j : ℕ) → read ≡ Ok j → JudgesIndex d read → JudgesIndex d (Ok j)
judged d read j e h = subst (JudgesIndex d) e h

pub holds_next : (all : Items) (k : ℕ) (set : List ℕ) (d : Data) (j : ℕ) → get_item k all ≡ Some d → index_of d ≡ Ok j → Holds all k set → Holds all (suc k) (with_index j set)
holds_next all k set d j there e holds = let (is, low, only, none) = judged d (index_of d) j e (index_judges d) in holds_more all k set d j there is low only holds

set_tells_from : (all : Items) (k : ℕ) (ds : Items) (m : ℕ → ℕ) → ((i : ℕ) → m i ≡ k + i) → ((i : ℕ) → get_item (k + i) all ≡ get_item i ds) → (set : List ℕ) → Holds all k set → Tells (AtItem (λ i. OfIndex all (m i)) ds) (set_from set ds)
set_tells_from all k no_items m at left set holds = none
  where
    none : (r : List ℕ) (f : ValueFail) → ¬ (AtItem (λ i. OfIndex all (m i)) no_items r f)
    none [] f h = h
    none (i ∷ r) f h = let e = h.1 in cc
set_tells_from all k (item d ds) m at left set holds =
    let here : k ≡ m 0 = (let e = at 0 in omega arith) in
    let there : get_item k all ≡ Some d = ap (λ n. get_item n all) (plus_none k) ∙ left 0 in
    subst (λ z. Tells (AtItem (λ i. OfIndex all (m i)) (item d ds)) z) (sym (else_then (index_of d) (λ j. has_index j set) Shape (λ j. set_from (with_index j set) ds)))
    (items_tell (OfIndex all (m 0) d) (AtItem (λ i. OfIndex all (m (suc i))) ds) (AtItem (λ i. OfIndex all (m i)) (item d ds))
    (and_then (index_of d) (λ j. if has_index j set then Err Shape else Ok j)) (λ j. set_from (with_index j set) ds)
    (at_items (λ i. OfIndex all (m i)) d ds) (λ r f h. (d, refl, h)) (λ i r f h. h) (λ f h. h)
    (subst (λ n. Tells (OfIndex all n d) (and_then (index_of d) (λ j. if has_index j set then Err Shape else Ok j))) here (place_tells [] (λ f. NoIndex d f ⊎ ((f ≡ Shape) × IsRepeated all k d)) (and_then (index_of d) (λ j. if has_index j set then Err Shape else Ok j)) (index_finds all k set d holds)))
    (λ j is. set_tells_from all (suc k) ds (λ i. m (suc i)) (λ i. (let e = at (suc i) in omega arith)) (λ i. ap (λ n. get_item n all) (one_more k i) ∙ left (suc i)) (with_index j set) (holds_next all k set d j there (read_index set d j is) holds)))
  where
    plus_none : (k : ℕ) → k ≡ k + 0
    plus_none k = omega arith

    one_more : (k i : ℕ) → suc k + i ≡ k + suc i
    one_more k i = omega arith

pub from_start : (ds : Items) (i : ℕ) → get_item (0 + i) ds ≡ get_item i ds
from_start ds i = ap (λ n. get_item n ds) (none_before i)
  where
    none_before : (n : ℕ) → 0 + n ≡ n
    none_before n = omega arith

pub set_tells : (ds : Items) → Tells (OfSet ds) (set_from [] ds)
set_tells ds = set_tells_from ds 0 ds (λ i. i) (λ i. omega arith) (from_start ds) [] (holds_none ds)

-- a set that was read has exactly the indices of its array
holds_from : (all : Items) (k : ℕ) (ds : Items) → ((i : ℕ) → get_item (k + i) all ≡ get_item i ds) → (set out : List ℕ) → set_from set ds ≡ Ok out → Holds all k set → Holds all (k + count ds) out
holds_from all k no_items left set out e holds = subst (λ n. Holds all n out) (plus_none k) (subst (Holds all k) (same_Ok set out e) holds)
  where
    plus_none : (k : ℕ) → k ≡ k + 0
    plus_none k = omega arith
holds_from all k (item d ds) left set out e holds =
    and_then-ok (index_of d) (λ j. cond (has_index j set) (Err Shape) (set_from (with_index j set) ds)) out e
    (λ j is f. let p = else-ok (has_index j set) (set_from (with_index j set) ds) Shape out f in
    let there : get_item k all ≡ Some d = ap (λ n. get_item n all) (plus_none k) ∙ left 0 in
    subst (λ n. Holds all n out) (one_more k (count ds))
    (holds_from all (suc k) ds (λ i. ap (λ n. get_item n all) (one_more k i) ∙ left (suc i)) (with_index j set) out p.1 (holds_next all k set d j there is holds)))
  where
    plus_none : (k : ℕ) → k ≡ k + 0
    plus_none k = omega arith

    one_more : (k i : ℕ) → suc k + i ≡ k + suc i
    one_more k i = omega arith

pub set_holds : (ds : Items) (set : List ℕ) → set_from [] ds ≡ Ok set → Holds ds (count ds) set
set_holds ds set e = subst (λ n. Holds ds n set) (none_before (count ds)) (holds_from ds 0 ds (from_start ds) [] set e (holds_none ds))
  where
    none_before : (n : ℕ) → 0 + n ≡ n
    none_before n = omega arith

-- ---- one set of a list, of number k
inside_set : (ds : Items) (f : ValueFail) → ¬ (OfSet ds [] f)
inside_set ds f h = h

pub listed_tells : (k : ℕ) (d : Data) → Tells (OfListed k d) (and_then (items_of d) (λ es. if nat_lt k most_rows then set_from [] es else Err Limit))
listed_tells k d = by (nat_lt k most_rows) refl
  where
    by : (b : Bool) → nat_lt k most_rows ≡ b → Tells (OfListed k d) (and_then (items_of d) (λ es. if b then set_from [] es else Err Limit))
    by true e =
        same_tells (OfArray OfSet d) (OfListed k d) (and_then (items_of d) (set_from [])) (λ r f h. inl h)
        (λ r f h. elim h [
          | inl x ↦ x
          | inr y ↦ (let l = ltb-true k most_rows e in let m = y.2 in absurd (omega arith))
        ])
        (array_tells OfSet d (set_from []) (λ es is. set_tells es))
    by false e = too_many d
      where
        many : most_rows ≤ k
        many = ltb-false k most_rows e

        too_many : (d : Data) → Tells (OfListed k d) (and_then (items_of d) (λ es. let r : Read (List ℕ) = Err Limit in r))
        too_many null = ([], shape_first (OfListed k null) (inl (refl, refl)))
        too_many (boolean b) = ([], shape_first (OfListed k (boolean b)) (inl (refl, refl)))
        too_many (number x) = ([], shape_first (OfListed k (number x)) (inl (refl, refl)))
        too_many (string s) = ([], shape_first (OfListed k (string s)) (inl (refl, refl)))
        too_many (object ms) = ([], shape_first (OfListed k (object ms)) (inl (refl, refl)))
        too_many (array es) = ([], record { stands = inr (refl, refl, many); first = first })
          where
            first : (s : List ℕ) (g : ValueFail) → OfListed k (array es) s g → CountsFirst [] Limit s g
            first [] g (inl h) = absurd (inside_set es g h)
            first [] g (inr h) = inr (refl, subst (λ z. 3 ≤ order z) (sym h.1) (omega arith))
            first (i ∷ s) g h = inl tt
