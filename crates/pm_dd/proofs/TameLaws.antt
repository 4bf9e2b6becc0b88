-- On tame rows no refusal has evidence but want of memory.
use Rattle.std.specs.Prelude.{ℕ, zero, suc, ◌+◌, ◌*◌, ◌≡◌, ◌<◌, ◌≤◌, ◌^◌, Option, None, Some, false, true, List, [], ◌∷◌, length, take, unsigned_abs}
use Rattle.std.proofs.Common.{ap, arith, inl, inr, subst, sym, ◌∙◌}
use Rattle.std.proofs.lemmas.Bool.{cases_lt}
use Rattle.std.proofs.lemmas.Int.{ints, unsigned_abs-mul}
use Rattle.std.proofs.lemmas.Nat.{mul-lt, pow_pos}
use Rattle.std.proofs.Math.Nat.{mul-suc}
use Rattle.std.proofs.Math.Seq.{take-length}
use Rattle.std.proofs.lemmas.List.{get_or-take, get_or_past}
use Rattle.pm_vector.specs.Divisors.{IsPrimitiveOf}
use Rattle.pm_vector.specs.Rows.{HasCols, Row, dot, entry, opposite}
use Rattle.pm_vector.proofs.Lists.{Among, among_All, among_append}
use Rattle.pm_vector.proofs.Ring.{ring}
use Rattle.pm_vector.proofs.RowLaws.{entry-opposite, entry-times}
use Rattle.pm_vector.specs.Bases.{row_at}
use Rattle.pm_vector.specs.EliminationSteps.{EliminationStep}
use Rattle.pm_vector.specs.Evidence.{IsEvidence, IsWideStep}
use Rattle.pm_vector.specs.Steps.{IsFactors, IsPivotRow, ReducedBy, StepIsWide}
use Rattle.pm_geom.specs.RayEvidence.{IsCrowded, IsEliminationEvidence, IsWideNext, IsWidePair}
use Rattle.pm_geom.specs.StatedOrder.{rows_marked}
use Rattle.pm_geom.specs.declared.evidence.Evidence.TheVariants.{E1, E2, E5Rays}
use Rattle.pm_vector.specs.Differences.{EntryStays}
use Rattle.pm_vector.specs.Products.{ProductsStay}
use Rattle.pm_dd.specs.Refusals.{IsMemory, IsShown}
use Rattle.pm_dd.specs.Tame.{AreTame, EliminationIsSmall, EliminationsAreSmall, IsSmall}
use Rattle.pm_dd.specs.declared.fails.DdFail.{DdFail}
use Rattle.pm_dd.specs.declared.fails.DdFail.TheVariants.{Many, Memory, Wide}
use Rattle.pm_dd.proofs.Stated.{among_rows}
use Rattle.pm_dd.proofs.StepLaws.{at_place}
use lib.IntN.{ℤ, pos, negsuc, neg_ℤ, ◌+ℤ◌, ◌-ℤ◌, ◌*ℤ◌}
use lib.Signed.{◌<ℤ◌, ◌≤ℤ◌}
use Rattle.pm_limits.specs.Limits.{most_columns}

-- ---- bounds on both sides
Within : ℕ → ℤ → Type 0
Within b z = (neg_ℤ (pos b) <ℤ z) × (z <ℤ pos b)

within_abs : (b : ℕ) (z : ℤ) → unsigned_abs z < b → Within b z
unfolding Within
within_abs b (pos n) h = (omega (arith, ints), omega (arith, ints))
within_abs b (negsuc n) h = (omega (arith, ints), omega (arith, ints))

abs_within : (b : ℕ) (z : ℤ) → Within b z → unsigned_abs z < b
unfolding Within
abs_within b (pos n) h = let p = h.1 in omega (arith, ints)
abs_within b (negsuc n) h = let p = h.0 in omega (arith, ints)

product_below : (a b : ℕ) (x y : ℤ) → unsigned_abs x < a → unsigned_abs y < b → unsigned_abs (x *ℤ y) < a * b
product_below a b x y h k = rw unsigned_abs-mul (mul-lt (unsigned_abs x) (unsigned_abs y) a b h k)

difference_below : (a b : ℕ) (x y : ℤ) → unsigned_abs x < a → unsigned_abs y < b → unsigned_abs (x -ℤ y) < a + b
unfolding Within
difference_below a b x y h k = let p = within_abs a x h in let q = within_abs b y k in let p0 = p.0 in let p1 = p.1 in let q0 = q.0 in let q1 = q.1 in abs_within (a + b) (x -ℤ y) (omega (arith, ints), omega (arith, ints))

-- a factor of a combination is at most the number that it comes from
factor_below : (b : ℕ) (y p : ℤ) (g : ℕ) → 0 < g → y ≡ p *ℤ pos g → unsigned_abs y < b → unsigned_abs p < b
factor_below b y p zero hg e h = absurd (omega arith)
factor_below b y p (suc g) hg e h =
    let m : unsigned_abs y ≡ unsigned_abs p * suc g = rw e (unsigned_abs-mul p (pos (suc g))) in
    let k : unsigned_abs p ≤ unsigned_abs p * suc g = rw mul-suc (omega arith) in
    omega arith

gcd_positive : (x y p q : ℤ) (f : IsFactors x y p q) → 0 < f.g
gcd_positive x y p q f = above f.g f.first f.positive
  where
    above : (g : ℕ) → y ≡ p *ℤ pos g → pos 0 <ℤ y → 0 < g
    above zero e h = absurd (let z = simp ring at e in omega (arith, ints))
    above (suc g) e h = omega arith

-- ---- one step stays
stays_below : (a b c d m : ℕ) (p x q y : ℤ) → unsigned_abs p < a → unsigned_abs x < b → unsigned_abs q < c → unsigned_abs y < d → a * b ≤ m → c * d ≤ m → m + m ≤ 2 ^ 127 → EntryStays p x q y
stays_below a b c d m p x q y hp hx hq hy h k l =
    let u = product_below a b p x hp hx in
    let v = product_below c d q y hq hy in
    record {
      first = omega arith;
      second = omega arith;
      difference = let w = difference_below m m (p *ℤ x) (q *ℤ y) (omega arith) (omega arith) in omega arith;
    }

never_wide : (r b : Row) (c i : ℕ) → IsSmall 62 r → IsSmall 62 b → ¬ (StepIsWide r b c i)
never_wide r b c i hr hb w =
    let g = gcd_positive (entry r c) (entry b c) w.p w.q w.factors in
    let p = factor_below (2 ^ 62) (entry b c) w.p w.factors.g g w.factors.first (hb c) in
    let q = factor_below (2 ^ 62) (entry r c) w.q w.factors.g g w.factors.second (hr c) in
    w.wide (stays_below (2 ^ 62) (2 ^ 62) (2 ^ 62) (2 ^ 62) (2 ^ 124) w.p (entry r i) w.q (entry b i) p (hr i) q (hb i) (omega arith) (omega arith) (omega arith))

primitive_small : (v w : Row) → IsSmall 62 v → IsPrimitiveOf v w → IsSmall 62 w
primitive_small v w h p = elim p.divided [
  | inl z ↦ λ i. let q = z.1 i in rw q (omega arith)
  | inr d ↦ λ i. divided d.0 d.1 (entry v i) (entry w i) (simp entry-times at (d.2.at i)) (h i)
]
  where
    divided : (g : ℤ) → pos 0 <ℤ g → (a b : ℤ) → a ≡ g *ℤ b → unsigned_abs a < 2 ^ 62 → unsigned_abs b < 2 ^ 62
    divided (pos g) hg a b e k = factor_below (2 ^ 62) a b g (omega (arith, ints)) (e ∙ simp ring) k
    divided (negsuc g) hg a b e k = absurd (omega (arith, ints))

opposite_small : (v : Row) → IsSmall 62 v → IsSmall 62 (opposite v)
unfolding Within
opposite_small v h i = let p = within_abs (2 ^ 62) (entry v i) (h i) in let p0 = p.0 in let p1 = p.1 in abs_within (2 ^ 62) (entry (opposite v) i) (rw entry-opposite (omega (arith, ints)), rw entry-opposite (omega (arith, ints)))

pivot_small : (r : Row) (c : ℕ) (x : Row) → IsSmall 62 r → IsPivotRow r c x → IsSmall 62 x
pivot_small r c x h p = elim p.primitive [ inl a ↦ primitive_small r x h a | inr a ↦ primitive_small (opposite r) x (opposite_small r h) a ]

-- ---- no elimination leaves the range
no_wide_step : (m : ℕ) (X : List Row) (e : EliminationStep) → EliminationIsSmall m X → ¬ (IsWideStep m X e)
no_wide_step m X e s w = elim w.step [
  | inl next ↦ never_wide e.part (row_at e.basis e.by) (Rattle.pm_vector.specs.Bases.column w.pivots e.by) e.column
      (s.part e.front e.basis w.pivots w.within w.basis e.by (let l = next.within in omega arith) e.part next.reduced)
      (s.basis e.front e.basis w.pivots w.basis e.by next.within) next.wide
  | inr older ↦
      let rest : IsSmall 62 older.rest = s.part e.front e.basis w.pivots w.within w.basis (length e.basis) (omega arith) older.rest (whole older.rest older.reduced) in
      never_wide e.part older.new older.new_column e.column (rw older.wide.older (s.basis e.front e.basis w.pivots w.basis older.wide.place older.wide.within)) (pivot_small older.rest older.new_column older.new rest older.pivot) older.wide.wide
]
  where
    whole : (r : Row) → ReducedBy e.basis w.pivots (row_at X e.front) r → ReducedBy (take (length e.basis) e.basis) (take (length e.basis) w.pivots) (row_at X e.front) r
    whole r h =
        let columns : take (length e.basis) w.pivots ≡ w.pivots = ap (λ (k : ℕ). take k w.pivots) (sym w.basis.echelon.as_many) ∙ take-length w.pivots in
        rw (take-length, columns) h

no_elimination : (n : ℕ) (X : List Row) → EliminationsAreSmall n X → (e : EliminationStep) → ¬ (IsEvidence n X e)
no_elimination n X s e v = no_wide_step v.cols v.listed e (s.each e.list v.cols v.listed v.list) v.step

-- ---- no product of a row and a ray
dot_more : (p d : ℤ) (k : ℕ) → unsigned_abs p < 2 ^ 20 * 2 ^ 40 → (neg_ℤ (pos (k * 2 ^ 60)) ≤ℤ d) × (d ≤ℤ pos (k * 2 ^ 60)) → (neg_ℤ (pos (suc k * 2 ^ 60)) ≤ℤ (p +ℤ d)) × ((p +ℤ d) ≤ℤ pos (suc k * 2 ^ 60))
unfolding Within
dot_more p d k h b = let w = within_abs (2 ^ 20 * 2 ^ 40) p h in let w0 = w.0 in let w1 = w.1 in let b0 = b.0 in let b1 = b.1 in (omega (arith, ints), omega (arith, ints))

dot_below : (a r : Row) → IsSmall 20 a → IsSmall 40 r → (neg_ℤ (pos (length a * 2 ^ 60)) ≤ℤ dot a r) × (dot a r ≤ℤ pos (length a * 2 ^ 60))
dot_below [] r ha hr = (omega (arith, ints), omega (arith, ints))
dot_below (a ∷ as') [] ha hr = (omega (arith, ints), omega (arith, ints))
dot_below (a ∷ as') (x ∷ xs) ha hr = dot_more (a *ℤ x) (dot as' xs) (length as') (product_below (2 ^ 20) (2 ^ 40) a x (ha 0) (hr 0)) (dot_below as' xs (λ i. ha (suc i)) (λ i. hr (suc i)))

dot_small : (a r : Row) → length a ≤ most_columns → IsSmall 20 a → IsSmall 40 r → unsigned_abs (dot a r) < 2 ^ 66
unfolding Within
dot_small a r l ha hr = let b = dot_below a r ha hr in let b0 = b.0 in let b1 = b.1 in abs_within (2 ^ 66) (dot a r) (omega (arith, ints), omega (arith, ints))

length_taken : (j i : ℕ) (x : Row) → j ≤ i → length (take j x) ≤ i
length_taken zero i x h = omega arith
length_taken (suc j) i [] h = omega arith
length_taken (suc j) zero (a ∷ x) h = absurd (omega arith)
length_taken (suc j) (suc i) (a ∷ x) h = let l = length_taken j i x (omega arith) in omega arith

length_front : (j : ℕ) (x : Row) → length (take j x) ≤ length x
length_front zero x = omega arith
length_front (suc j) [] = omega arith
length_front (suc j) (a ∷ x) = let l = length_front j x in omega arith

front_small : (k j : ℕ) (x : Row) → IsSmall k x → IsSmall k (take j x)
front_small k j x h i = elim (cases_lt i j) [
  | inl l ↦ rw (get_or-take j x i (pos 0) l) (h i)
  | inr m ↦ let e : entry (take j x) i ≡ pos 0 = get_or_past (take j x) i (pos 0) (length_taken j i x m) in rw e (pow_pos k)
]

products_stay : (a r : Row) → length a ≤ most_columns → IsSmall 20 a → IsSmall 40 r → ProductsStay a r
products_stay a r l ha hr = record {
  products = λ i. let p = product_below (2 ^ 20) (2 ^ 40) (entry a i) (entry r i) (ha i) (hr i) in omega arith;
  sums = λ k. let d = dot_small (take k a) (take k r) (let f = length_front k a in omega arith) (front_small 20 k a ha) (front_small 40 k r hr) in omega arith;
}

combination_stays : (a r s : Row) (p q : ℤ) (c : ℕ) → length a ≤ most_columns → IsSmall 20 a → IsSmall 40 r → IsSmall 40 s → IsFactors (dot a s) (dot a r) p q → EntryStays p (entry s c) q (entry r c)
combination_stays a r s p q c l ha hr hs f =
    let g = gcd_positive (dot a s) (dot a r) p q f in
    let hp = factor_below (2 ^ 66) (dot a r) p f.g g f.first (dot_small a r l ha hr) in
    let hq = factor_below (2 ^ 66) (dot a s) q f.g g f.second (dot_small a s l ha hs) in
    stays_below (2 ^ 66) (2 ^ 40) (2 ^ 66) (2 ^ 40) (2 ^ 106) p (entry s c) q (entry r c) hp (hs c) hq (hr c) (omega arith) (omega arith) (omega arith)

-- ---- no evidence
module _ (n : ℕ) (X : List Row) (hX : HasCols n X) (t : AreTame n X) where
  no_pair : (f : ℕ) (r s : Row) (column : Option ℕ) → ¬ (IsWidePair n X f r s column)
  no_pair f r s column w = never column w.wide
    where
      next_in : Among (row_at w.ordered f) X
      next_in = elim (among_append (rows_marked true w.stated.stated.marks X) (rows_marked false w.stated.stated.marks X) (subst (λ (Z : List Row). Among (row_at w.ordered f) Z) w.stated.stated.ordered (at_place w.ordered f w.more))) [
        | inl i ↦ among_rows true w.stated.stated.marks X i
        | inr i ↦ among_rows false w.stated.stated.marks X i
      ]

      a_small : IsSmall 20 (row_at w.ordered f)
      a_small = among_All (IsSmall 20) next_in t.small

      a_length : length (row_at w.ordered f) ≤ most_columns
      a_length = let c = Rattle.pm_geom.proofs.Polar.cols_at next_in hX in let l = t.few_columns in omega arith

      r_small : IsSmall 40 r
      r_small = t.fronts.small w.ordered f w.stated r w.first

      s_small : IsSmall 40 s
      s_small = t.fronts.small w.ordered f w.stated s w.second

      never : (column : Option ℕ) → ¬ (IsWideNext n (take f w.ordered) (row_at w.ordered f) r s column)
      never None h = elim h [ inl p ↦ p (products_stay (row_at w.ordered f) r a_length a_small r_small) | inr p ↦ p (products_stay (row_at w.ordered f) s a_length a_small s_small) ]
      never (Some c) h = h.combination.wide (combination_stays (row_at w.ordered f) r s h.combination.p h.combination.q c a_length a_small r_small s_small h.combination.factors)

  no_crowd : (f : ℕ) (rays : List Row) → ¬ (IsCrowded n X f rays)
  no_crowd f rays c = let few = t.fronts.few c.ordered f c.stated rays c.extreme c.apart in let m = c.many in omega arith

  no_first : (e : EliminationStep) → ¬ (IsEliminationEvidence n X e)
  no_first e (inl h) = no_elimination n X t.whole e h
  no_first e (inr h) = no_elimination n (rows_marked true h.marks X) (t.enlarging h.marks h.enlarging) e h.evidence

  pub tame_shown : (f : DdFail) → IsShown n X f → IsMemory f
  tame_shown (Wide (E1 e)) h = no_first e h
  tame_shown (Wide (E2 f r s c)) h = no_pair f r s c h
  tame_shown (Wide e) h = absurd h
  tame_shown (Many (E5Rays f rays)) h = no_crowd f rays h
  tame_shown (Many e) h = absurd h
  tame_shown Memory h = tt
