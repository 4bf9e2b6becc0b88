-- Sums of terms with alternating signs.
use Rattle.pm_geom.specs.FaceCounts.{alternated, h_entry, h_of, h_sum, h_term}
use Rattle.pm_graph.specs.HVectors.{HasHVector, HaveFit, plain_term}
use Rattle.pm_vector.proofs.Ring.{ring}
use Rattle.pm_vector.proofs.Signs.{mul_nonneg}
use Rattle.std.proofs.Common.{ap, ap₂, arith, refl, subst, sym, ◌∙◌}
use Rattle.std.proofs.lemmas.Int.{ints}
use Rattle.std.proofs.lemmas.List.FromFn.{get_or-map-range_with_len, length-map-range_with_len, map-range_with_len_more}
use Rattle.std.specs.List.{All, range_with_len}
use Rattle.std.specs.Prelude.{List, [], length, map, ◌++◌, ◌∷◌, suc, zero, ℕ, ◌*◌, ◌+◌, ◌-◌, ◌<◌, ◌^◌, ◌≡◌, ◌≤◌}
use Rattle.std.specs.Int.{FitsUnsignedBits}
use lib.IntN.{nat_abs, neg_ℤ, negsuc, pos, ℤ, ◌*ℤ◌, ◌+ℤ◌, ◌-ℤ◌}
use lib.Signed.{mag, ◌≤ℤ◌}
use mir.Syntax.{w128, w64}
use mir.Val.{SFits, of_z, to_z}
use Rattle.pm_limits.specs.Limits.{most_columns, most_dimensions}

-- what the sum of the first i terms is
abbrev pub IsAlternated : List ℤ → ℕ → ℕ → ℕ → ℤ → Type 0
IsAlternated f d k zero sum = sum ≡ pos 0
IsAlternated f d k (suc p) sum = alternated (k - p) sum ≡ h_sum f d k p

pub record IsSumTo (f : List ℤ) (d k i : ℕ) (sum : ℤ) : Type 0 where
  pub value : IsAlternated f d k i sum
  pub low : neg_ℤ (pos (i * 2 ^ 96)) ≤ℤ sum
  pub high : sum ≤ℤ pos (i * 2 ^ 96)

alternated_less : (m : ℕ) (a b : ℤ) → alternated m (a -ℤ b) ≡ alternated m a -ℤ alternated m b
alternated_less zero a b = refl
alternated_less (suc m) a b = let e = alternated_less m a b in omega (arith, ints)

value_more : (f : List ℤ) (d k i : ℕ) (sum t : ℤ) → i ≤ k → t ≡ plain_term f d k i → IsAlternated f d k i sum → IsAlternated f d k (suc i) (t -ℤ sum)
value_more f d k zero sum t l et v = ap (alternated (k - 0)) (first t sum (plain_term f d k 0) et v)
  where
    first : (t sum p : ℤ) → t ≡ p → sum ≡ pos 0 → t -ℤ sum ≡ p
    first t sum p e z = omega (arith, ints)
value_more f d k (suc p) sum t l et v =
    let m : k - p ≡ suc (k - suc p) = omega arith in
    let w = subst (λ q. alternated q sum ≡ h_sum f d k p) m v in
    last (alternated (k - suc p) (t -ℤ sum)) (alternated (k - suc p) t) (alternated (k - suc p) sum) (h_sum f d k p) (h_term f d k (suc p)) (alternated_less (k - suc p) t sum) w (ap (alternated (k - suc p)) et)
  where
    last : (s a b h q : ℤ) → s ≡ a -ℤ b → neg_ℤ b ≡ h → a ≡ q → s ≡ h +ℤ q
    last s a b h q e w x = omega (arith, ints)

pub sum_none : (f : List ℤ) (d k : ℕ) (sum : ℤ) → sum ≡ pos 0 → IsSumTo f d k 0 sum
sum_none f d k sum e = record { value = e; low = omega (arith, ints); high = omega (arith, ints) }

pub sum_more : (f : List ℤ) (d k i : ℕ) (sum t s : ℤ) → i ≤ k → t ≡ plain_term f d k i → neg_ℤ (pos (2 ^ 96)) ≤ℤ t → t ≤ℤ pos (2 ^ 96) → s ≡ t -ℤ sum → IsSumTo f d k i sum → IsSumTo f d k (i + 1) s
sum_more f d k i sum t s l et lo hi es v =
    let n : suc i ≡ i + 1 = omega arith in
    record {
      value = subst (λ m. IsAlternated f d k m s) n (subst (λ z. IsAlternated f d k (suc i) z) (sym es) (value_more f d k i sum t l et v.value));
      low = lower i sum t s lo hi es v.low v.high;
      high = higher i sum t s lo hi es v.low v.high;
    }
  where
    lower : (i : ℕ) (sum t s : ℤ) → neg_ℤ (pos (2 ^ 96)) ≤ℤ t → t ≤ℤ pos (2 ^ 96) → s ≡ t -ℤ sum → neg_ℤ (pos (i * 2 ^ 96)) ≤ℤ sum → sum ≤ℤ pos (i * 2 ^ 96) → neg_ℤ (pos ((i + 1) * 2 ^ 96)) ≤ℤ s
    lower i sum t s lo hi es a b = omega (arith, ints)

    higher : (i : ℕ) (sum t s : ℤ) → neg_ℤ (pos (2 ^ 96)) ≤ℤ t → t ≤ℤ pos (2 ^ 96) → s ≡ t -ℤ sum → neg_ℤ (pos (i * 2 ^ 96)) ≤ℤ sum → sum ≤ℤ pos (i * 2 ^ 96) → s ≤ℤ pos ((i + 1) * 2 ^ 96)
    higher i sum t s lo hi es a b = omega (arith, ints)

pub sum_all : (f : List ℤ) (d k i : ℕ) (sum : ℤ) → i ≡ k + 1 → IsSumTo f d k i sum → sum ≡ h_entry f d k
sum_all f d k i sum e v =
    let n : i ≡ suc k = omega arith in
    let z : k - k ≡ 0 = omega arith in
    subst (λ m. alternated m sum ≡ h_sum f d k k) z (subst (λ m. IsAlternated f d k m sum) n v.value)

-- ---- the size of a term
pub term_bounds : (b : ℕ) (z : ℤ) → b ≤ 2 ^ 32 → neg_ℤ (pos (2 ^ 63)) ≤ℤ z → z ≤ℤ pos (2 ^ 63) → (neg_ℤ (pos (2 ^ 96)) ≤ℤ (pos b *ℤ z)) × ((pos b *ℤ z) ≤ℤ pos (2 ^ 96))
term_bounds b z lb lo hi =
    let up : pos 0 ≤ℤ (pos (2 ^ 63) -ℤ z) = omega (arith, ints) in
    let down : pos 0 ≤ℤ (z +ℤ pos (2 ^ 63)) = omega (arith, ints) in
    let nb : pos 0 ≤ℤ pos b = omega (arith, ints) in
    let p = simp ring at (mul_nonneg nb up) in
    let q = simp ring at (mul_nonneg nb down) in
    let lim : (pos b *ℤ pos (2 ^ 63)) ≤ℤ pos (2 ^ 95) = omega (arith, ints) in
    (omega (arith, ints), omega (arith, ints))

-- a product as the machine has it
pub kept_product : (x y : ℤ) (b : ℕ) (z : ℤ) → x ≡ pos b → y ≡ z → b ≤ 2 ^ 32 → neg_ℤ (pos (2 ^ 63)) ≤ℤ z → z ≤ℤ pos (2 ^ 63) → to_z w128 (of_z w128 (to_z w128 (of_z w128 x) *ℤ to_z w128 (of_z w128 y))) ≡ pos b *ℤ z
kept_product x y b z ex ey lb lo hi =
    let e : to_z w128 (of_z w128 x) ≡ pos b = omega (arith, ints) in
    let f : to_z w128 (of_z w128 y) ≡ z = omega (arith, ints) in
    let t = term_bounds b z lb lo hi in
    rw (e, f) (kept_term (pos b *ℤ z) t.0 t.1)
  where
    kept_term : (p : ℤ) → neg_ℤ (pos (2 ^ 96)) ≤ℤ p → p ≤ℤ pos (2 ^ 96) → to_z w128 (of_z w128 p) ≡ p
    kept_term p lo hi = omega (arith, ints)

-- what the machine says of a number of 64 bits
pub in_64 : (z : ℤ) → mag z < 2 ^ 63 → (neg_ℤ (pos (2 ^ 63)) ≤ℤ z) × (z ≤ℤ pos (2 ^ 63))
in_64 z l = (omega (arith, ints), omega (arith, ints))

-- the difference as the machine has it
pub kept_difference : (t s : ℤ) (bits i k : ℕ) → neg_ℤ (pos (2 ^ 96)) ≤ℤ t → t ≤ℤ pos (2 ^ 96) → i ≤ most_columns → neg_ℤ (pos (i * 2 ^ 96)) ≤ℤ s → s ≤ℤ pos (i * 2 ^ 96) → to_z w128 bits ≡ s → to_z w128 (of_z w128 (to_z w128 (of_z w128 t) -ℤ to_z w128 bits)) ≡ t -ℤ s
kept_difference t s bits i k lo hi l a b e =
    let f : to_z w128 (of_z w128 t) ≡ t = omega (arith, ints) in
    rw (f, e) (whole i t s lo hi l a b)
  where
    whole : (i : ℕ) (t s : ℤ) → neg_ℤ (pos (2 ^ 96)) ≤ℤ t → t ≤ℤ pos (2 ^ 96) → i ≤ most_columns → neg_ℤ (pos (i * 2 ^ 96)) ≤ℤ s → s ≤ℤ pos (i * 2 ^ 96) → to_z w128 (of_z w128 (t -ℤ s)) ≡ t -ℤ s
    whole i t s lo hi l a b = omega (arith, ints)

-- ---- the numbers that fit
pub fit_at : (f : List ℤ) (d k : ℕ) → k ≤ d → HaveFit f d → SFits w64 (h_entry f d k)
fit_at f d k l h = subst (λ z. SFits w64 z) (get_or-map-range_with_len (h_entry f d) 0 (d + 1) k k (pos 0) (omega arith) (omega arith)) (h k (pos 0) (let e = length-map-range_with_len (h_entry f d) 0 (d + 1) in omega arith))

pub all_fit : (f : List ℤ) (d k : ℕ) (numbers : List ℤ) → k ≡ d + 1 → numbers ≡ map (h_entry f d) (range_with_len 0 k) → All (SFits w64) numbers → HaveFit f d
all_fit f d k numbers e en h = subst (λ xs. All (SFits w64) xs) (en ∙ ap (λ n. map (h_entry f d) (range_with_len 0 n)) e) h

pub numbers_more : (f : List ℤ) (d k : ℕ) (old new : List ℤ) (z : ℤ) → new ≡ old ++ z ∷ [] → z ≡ h_entry f d k → old ≡ map (h_entry f d) (range_with_len 0 k) → new ≡ map (h_entry f d) (range_with_len 0 (k + 1))
numbers_more f d k old new z en ez eo = en ∙ ap₂ (λ xs x. xs ++ x ∷ []) eo ez ∙ sym (map-range_with_len_more (h_entry f d) 0 k k (omega arith))

-- ---- the dimension as a number of 64 bits
pub same_dimension : (d : ℤ) (dim n : ℕ) → pos dim ≡ d → d ≡ pos n → dim ≡ n
same_dimension d dim n e f = let g = e ∙ f in cc

pub numbers_for : (f : List ℤ) (d : ℤ) (dim : ℕ) (h : List ℤ) → pos dim ≡ d → (HaveFit f dim → h ≡ h_of f dim) → (n : ℕ) → d ≡ pos n → HasHVector f n → h ≡ h_of f n
numbers_for f d dim h e g n en v = let s = same_dimension d dim n e en in g (subst (λ m. HaveFit f m) (sym s) v.fit) ∙ ap (h_of f) s

pub none_for : (f : List ℤ) (d : ℤ) (dim : ℕ) (h : List ℤ) → pos dim ≡ d → dim ≤ most_dimensions → length f ≡ dim → (¬ (HaveFit f dim) → h ≡ []) → ((n : ℕ) → d ≡ pos n → ¬ (HasHVector f n)) → h ≡ []
none_for f d dim h e l en g none = g (λ fit. none dim (sym e) (record { few = l; entries = en; fit = fit }))

pub unsigned_is : (z : ℤ) (n : ℕ) → FitsUnsignedBits 64 z → n ≡ nat_abs z → pos n ≡ z
unsigned_is (pos m) n h e = ap pos e
unsigned_is (negsuc m) n h e = absurd h
