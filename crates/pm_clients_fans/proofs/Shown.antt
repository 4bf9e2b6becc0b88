-- What numbers and sets show, place by place.
use Rattle.std.proofs.lemmas.List.Elements.{All-push, Contains-get_or}
use Rattle.pm_client.proofs.Machine.{cast_back}
use Rattle.pm_vector.proofs.Lists.{All_among, Among, here, there, among_Contains}
use Rattle.pm_vector.specs.Rows.{Row}
use Rattle.pm_vector.proofs.Rank.{independent_are_few}
use Rattle.pm_vector.proofs.Spans.{span_at, span_to}
use Rattle.pm_vector.specs.Bases.{IsRank}
use Rattle.pm_clients_fans.specs.Numbers.{IsMost}
use Rattle.pm_fan.specs.Dimensions.{AreDimensions, ArePlaces, IsDimension, cone_rows}
use Rattle.pm_geom.specs.Faces.{ray}
use Rattle.pm_relations.specs.Fans.{AreOne, AreSimplices}
use Rattle.pm_types.specs.Forms.{are_indices, has_64_bits, is_counts_form}
use Rattle.std.proofs.Common.{ap, arith, get_or, refl, subst, sym, true, ◌∙◌, to_z, of_z, w64, false}
use Rattle.std.proofs.lemmas.Bool.{and_from, and_parts, le-leb, leb-true, lt-ltb, ltb-true}
use Rattle.std.proofs.lemmas.Int.{ints}
use Rattle.std.proofs.lemmas.List.{length-append, length-map, take_more}
use Rattle.std.specs.List.{All, Contains, list_all}
use Rattle.std.specs.Prelude.{Err, IfOk, List, None, Ok, OnOk, Result, Some, [], length, map, nat_le, nat_lt, slice_get, suc, ℕ, ◌&&◌, ◌+◌, ◌<◌, ◌≤◌, ◌∷◌, ◌≡◌, ◌^◌, not, take, T}
use lib.IntN.{negsuc, pos, ℤ}
use lib.Signed.{◌≤ℤ◌, lt_z, lt_z_yes, lt_z_no, ◌<ℤ◌}
use Rattle.pm_limits.specs.Limits.{most_rows}

-- ---- the greatest
pub most_of : (ks : List ℤ) (k : ℤ) → Contains ks k → All (λ y. y ≤ℤ k) ks → IsMost ks k
most_of [] k c h = absurd (let l = c.1 in omega arith)
most_of (z ∷ ks) k c h = (c, h)

form_bits : (ks : List ℤ) → is_counts_form ks ≡ true → (k : ℤ) → Contains ks k → to_z w64 (of_z w64 k) ≡ k
form_bits ks form k c = cast_back k (at ks (and_parts (nat_le (length ks) most_rows) (list_all has_64_bits ks) form).1 (among_Contains ks c))
  where
    at : (ks : List ℤ) → list_all has_64_bits ks ≡ true → Among k ks → has_64_bits k ≡ true
    at [] h i = elim i [ ]
    at (z ∷ ks) h here = (and_parts (has_64_bits z) (list_all has_64_bits ks) h).0
    at (z ∷ ks) h (there i) = at ks (and_parts (has_64_bits z) (list_all has_64_bits ks) h).1 i

-- one number more, which is greater, or is not
module _ (ks : List ℤ) (form : is_counts_form ks ≡ true) (i : ℕ) (x d most : ℤ) (below : i < length ks) (is : x ≡ get_or ks i d) (listed : Contains ks most) (above : All (λ y. y ≤ℤ most) (take i ks)) where
  found : Contains ks x
  found = subst (λ z. Contains ks z) (sym is) (Contains-get_or ks i d below)

  up : (a b c : ℤ) → a ≤ℤ b → b ≤ℤ c → a ≤ℤ c
  up a b c h k = omega (arith, ints)

  pushed : (k : ℤ) → All (λ y. y ≤ℤ k) (take i ks) → x ≤ℤ k → All (λ y. y ≤ℤ k) (take (i + 1) ks)
  pushed k h l = subst (λ zs. All (λ y. y ≤ℤ k) zs) (sym (take_more ks i d below)) (All-push (λ y. y ≤ℤ k) (take i ks) (get_or ks i d) h (subst (λ z. z ≤ℤ k) is l))

  pub most_next : lt_z (to_z w64 (of_z w64 most)) (to_z w64 (of_z w64 x)) ≡ true → Contains ks x × All (λ y. y ≤ℤ x) (take (i + 1) ks)
  most_next t =
      let less : most <ℤ x = lt_z_yes (subst (λ b. T b) (sym (rw (form_bits ks form most listed, form_bits ks form x found) at t)) tt) in
      (found, pushed x (λ j e l. up _ most x (above j e l) (omega (arith, ints))) (omega (arith, ints)))

  pub most_kept : lt_z (to_z w64 (of_z w64 most)) (to_z w64 (of_z w64 x)) ≡ false → Contains ks most × All (λ y. y ≤ℤ most) (take (i + 1) ks)
  most_kept t =
      let less : x ≤ℤ most = lt_z_no (subst (λ b. T (not b)) (sym (rw (form_bits ks form most listed, form_bits ks form x found) at t)) tt) in
      (listed, pushed most above less)

-- ---- all one
pub none_one : (ks : List ℤ) → None ≡ slice_get ks 0 → AreOne ks
none_one [] e = (pos 0, λ i d l. absurd (omega arith))
none_one (z ∷ ks) e = absurd (none_some e)
  where
    none_some : None ≡ Some z → ⊥
    none_some e = cc

pub as_first : (ks : List ℤ) (z : ℤ) → Some z ≡ slice_get ks 0 → AreOne ks → All (λ y. y ≡ z) ks
as_first [] z e h = λ i d l. absurd (omega arith)
as_first (y ∷ ks) z e h =
    let same : z ≡ y = some_is e in
    let first : y ≡ h.0 = h.1 0 z (omega arith) in
    λ i d l. h.1 i d l ∙ sym (same ∙ first)
  where
    some_is : Some z ≡ Some y → z ≡ y
    some_is e = cc

-- ---- simplices
pub simplices_length : (l : ℤ) (sets : List (List ℕ)) (ks : List ℤ) → AreSimplices l sets ks → length sets ≡ length ks
simplices_length l [] [] h = refl
simplices_length l [] (k ∷ ks) h = absurd h
simplices_length l (set ∷ sets) [] h = absurd h
simplices_length l (set ∷ sets) (k ∷ ks) h = ap suc (simplices_length l sets ks h.1)

-- ---- places and dimensions
record Next (n low k : ℕ) (set : List ℕ) : Type 0 where
  above : low ≤ k
  below : k < n
  rest : are_indices n (suc k) set ≡ true

next : (n low k : ℕ) (set : List ℕ) → are_indices n low (k ∷ set) ≡ true → Next n low k set
next n low k set h =
    let p = and_parts (nat_le low k && nat_lt k n) (are_indices n (suc k) set) h in
    let q = and_parts (nat_le low k) (nat_lt k n) p.0 in
    record { above = leb-true low k q.0; below = ltb-true k n q.1; rest = p.1 }

indices_below : (n low : ℕ) (set : List ℕ) → are_indices n low set ≡ true → (j : ℕ) → Among j set → j < n
indices_below n low [] h j i = elim i [ ]
indices_below n low (k ∷ set) h j here = (next n low k set h).below
indices_below n low (k ∷ set) h j (there i) = indices_below n (suc k) set (next n low k set h).rest j i

indices_few : (n low : ℕ) (set : List ℕ) → low ≤ n → are_indices n low set ≡ true → low + length set ≤ n
indices_few n low [] l h = omega arith
indices_few n low (k ∷ set) l h =
    let x = next n low k set h in
    let a = x.above in
    let b = x.below in
    let r = indices_few n (suc k) set (omega arith) x.rest in
    omega arith

sets_among : (n : ℕ) (sets : List (List ℕ)) → list_all (are_indices n 0) sets ≡ true → (set : List ℕ) → Among set sets → are_indices n 0 set ≡ true
sets_among n [] h set i = elim i [ ]
sets_among n (x ∷ sets) h set here = (and_parts (are_indices n 0 x) (list_all (are_indices n 0) sets) h).0
sets_among n (x ∷ sets) h set (there i) = sets_among n sets (and_parts (are_indices n 0 x) (list_all (are_indices n 0) sets) h).1 set i

pub are_places : (V L : List Row) (n : ℕ) (sets : List (List ℕ)) → n ≡ length V → n ≤ most_rows → length L ≤ most_rows → list_all (are_indices n 0) sets ≡ true → ArePlaces V L sets
are_places V L n sets e few lines h = All_among (λ (set : List ℕ). All (λ j. j < length V) set × (length L + length set < 2 ^ 30)) sets (λ set i.
    let a = sets_among n sets h set i in
    let b = indices_few n 0 set (omega arith) a in
    (All_among (λ j. j < length V) set (λ j k. let c = indices_below n 0 set a j k in omega arith), omega arith))

rank_few : (X : List Row) (k : ℕ) → IsRank X k → k ≤ length X
rank_few X k r = let l = independent_are_few r.basis X r.independent (λ i l. span_to r.span (span_at i l)) in let e = r.as_many in omega arith

dim_bits : (V L : List Row) (n : ℕ) (set : List ℕ) (k : ℤ) → n ≤ most_rows → length L ≤ most_rows → are_indices n 0 set ≡ true → IsDimension (cone_rows V L set) k → has_64_bits k ≡ true
dim_bits V L n set (pos k) few lines h r =
    let a = rank_few (cone_rows V L set) k r in
    let b = length-append L (map (ray V) set) in
    let c = length-map set (ray V) in
    let d = indices_few n 0 set (omega arith) h in
    lt-ltb k (2 ^ 63) (omega arith)
dim_bits V L n set (negsuc k) few lines h r = absurd r

dims_bits : (V L : List Row) (n : ℕ) (sets : List (List ℕ)) (ks : List ℤ) → n ≤ most_rows → length L ≤ most_rows → list_all (are_indices n 0) sets ≡ true → AreDimensions V L sets ks → (list_all has_64_bits ks ≡ true) × (length ks ≡ length sets)
dims_bits V L n [] [] few lines h r = (refl, refl)
dims_bits V L n [] (k ∷ ks) few lines h r = absurd r
dims_bits V L n (set ∷ sets) [] few lines h r = absurd r
dims_bits V L n (set ∷ sets) (k ∷ ks) few lines h r =
    let p = and_parts (are_indices n 0 set) (list_all (are_indices n 0) sets) h in
    let rest = dims_bits V L n sets ks few lines p.1 r.1 in
    (and_from (has_64_bits k) (list_all has_64_bits ks) (dim_bits V L n set k few lines p.0 r.0) rest.0, ap suc rest.1)

pub dims_form : (V L : List Row) (n : ℕ) (sets : List (List ℕ)) (ks : List ℤ) → n ≤ most_rows → length L ≤ most_rows → length sets ≤ most_rows → list_all (are_indices n 0) sets ≡ true → AreDimensions V L sets ks → is_counts_form ks ≡ true
dims_form V L n sets ks few lines many h r =
    let p = dims_bits V L n sets ks few lines h r in
    let e = p.1 in
    and_from (nat_le (length ks) most_rows) (list_all has_64_bits ks) (le-leb (length ks) most_rows (omega arith)) p.0

pub if_ok : {T E : Type 0} (r : Result T E) (P Q : T → Type 0) → ((x : T) → P x → Q x) → IfOk r P → IfOk r Q
if_ok (Ok x) P Q f h = f x h
if_ok (Err e) P Q f h = tt

pub on_ok : {T E : Type 0} (r : Result T E) {P Q : Type 0} → (P → Q) → OnOk r P → OnOk r Q
on_ok (Ok x) f h = f h
on_ok (Err e) f h = tt
