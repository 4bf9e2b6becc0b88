-- Cells as index sets, and as masks over the rows that were placed.
use Rattle.pm_vector.proofs.ConeLaws.{NonNeg, combination-plus, combination_none, in_plus, in_times, in_zero}
use Rattle.pm_vector.proofs.Lists.{Among, here, there}
use Rattle.pm_vector.proofs.Ring.{ring}
use Rattle.pm_vector.proofs.RowLaws.{entry-plus, entry-times, length-plus}
use Rattle.pm_vector.specs.Cones.{InCone, InSpan, combination}
use Rattle.pm_vector.specs.Rows.{Row, entry, plus, times}
use Rattle.pm_laws_placing.proofs.LeastSums.{Zero, entry-over, combination-over, independent, length-over}
use Rattle.pm_laws_placing.specs.LeastSums.{at, has, Within, InCell, IsLeastCell, over}
use Rattle.pm_geom.specs.Triangulations.{rows_at, shared}
use Rattle.pm_geom.proofs.Independent.{combination_append}
use Rattle.pm_geom.specs.Faces.{ray}
use Rattle.pm_geom.specs.Graphs.{holds}
use Rattle.std.specs.Prelude.{ℕ, zero, suc, ◌<◌, ◌==◌, ◌≡◌, ◌⊎◌, ◌||◌, Bool, IsTrue, true, false, cond, drop, take, List, [], ◌∷◌, ◌++◌, length, map}
use Rattle.std.proofs.Common.{arith, ap, refl, sym, subst, ◌∙◌, inl, inr}
use Rattle.std.proofs.lemmas.Bool.{cases_Bool, eq-eqb, eqb-true}
use Rattle.std.proofs.lemmas.Int.{ints}
use native.Mathlib.Decide.{ℕ_discrete}
use lib.IntN.{ℤ, pos, ◌+ℤ◌, ◌-ℤ◌, ◌*ℤ◌}
use lib.Signed.{◌<ℤ◌, ◌≤ℤ◌, lt_z_yes}

-- ---- sets of indices
or_left : (a b : Bool) → IsTrue a → IsTrue (a || b)
or_left true b h = refl
or_left false b h = absurd cc

or_right : (a b : Bool) → IsTrue b → IsTrue (a || b)
or_right true b h = refl
or_right false b h = h

or_cases : (a b : Bool) → IsTrue (a || b) → IsTrue a ⊎ IsTrue b
or_cases true b h = inl refl
or_cases false b h = inr h

pub among_holds : (xs : List ℕ) (j : ℕ) → Among j xs → holds xs j ≡ true
among_holds [] j i = elim i [ ]
among_holds (x ∷ xs) j here = or_left (x == x) (holds xs x) (eq-eqb x x refl)
among_holds (x ∷ xs) j (there i) = or_right (x == j) (holds xs j) (among_holds xs j i)

pub holds_among : (xs : List ℕ) (j : ℕ) → holds xs j ≡ true → Among j xs
holds_among [] j h = absurd cc
holds_among (x ∷ xs) j h = elim (or_cases (x == j) (holds xs j) h) [
  | inl e ↦ subst (λ (k : ℕ). Among k (x ∷ xs)) (eqb-true x j e) here
  | inr k ↦ there (holds_among xs j k)
]

pub holds_not : (xs : List ℕ) (j : ℕ) → ¬ (Among j xs) → holds xs j ≡ false
holds_not xs j never = elim (cases_Bool (holds xs j)) [ inl t ↦ absurd (never (holds_among xs j t)) | inr f ↦ f ]

-- s without k
pub record Without (k : ℕ) (s : List ℕ) : Type 0 where
  pub rest : List ℕ
  pub to : (p : ℕ) → Among p rest → Among p s × ¬ (p ≡ k)
  pub from : (p : ℕ) → Among p s → ¬ (p ≡ k) → Among p rest

pub without : (k : ℕ) (s : List ℕ) → Without k s
without k [] = record { rest = []; to = λ p i. elim i [ ]; from = λ p i n. elim i [ ] }
without k (j ∷ s) =
    let r = without k s in
    elim (ℕ_discrete j k) [
      | yes e ↦ record { rest = r.rest; to = λ p i. (there (r.to p i).0, (r.to p i).1); from = dropped r e }
      | no ne ↦ record { rest = j ∷ r.rest; to = kept_to r ne; from = kept_from r }
    ]
  where
    dropped : (r : Without k s) → j ≡ k → (p : ℕ) → Among p (j ∷ s) → ¬ (p ≡ k) → Among p r.rest
    dropped r e p here n = absurd (n e)
    dropped r e p (there i) n = r.from p i n

    kept_to : (r : Without k s) → ¬ (j ≡ k) → (p : ℕ) → Among p (j ∷ r.rest) → Among p (j ∷ s) × ¬ (p ≡ k)
    kept_to r ne p here = (here, ne)
    kept_to r ne p (there i) = (there (r.to p i).0, (r.to p i).1)

    kept_from : (r : Without k s) → (p : ℕ) → Among p (j ∷ s) → ¬ (p ≡ k) → Among p (j ∷ r.rest)
    kept_from r p here n = here
    kept_from r p (there i) n = there (r.from p i n)

shared_to_at : (s t : List ℕ) (j p : ℕ) (b : Bool) → holds t j ≡ b → (Among p (shared s t) → Among p s × Among p t) → Among p (cond b (j ∷ shared s t) (shared s t)) → Among p (j ∷ s) × Among p t
shared_to_at s t j p true e f here = (here, holds_among t j e)
shared_to_at s t j p true e f (there k) = let r = f k in (there r.0, r.1)
shared_to_at s t j p false e f k = let r = f k in (there r.0, r.1)

pub shared_to : (s t : List ℕ) (p : ℕ) → Among p (shared s t) → Among p s × Among p t
shared_to [] t p i = elim i [ ]
shared_to (j ∷ s) t p i = shared_to_at s t j p (holds t j) refl (λ k. shared_to s t p k) i

shared_from_at : (s t : List ℕ) (j p : ℕ) (b : Bool) → holds t j ≡ b → (Among p s → Among p (shared s t)) → Among p t → Among p (j ∷ s) → Among p (cond b (j ∷ shared s t) (shared s t))
shared_from_at s t j p true e f k here = here
shared_from_at s t j p true e f k (there l) = there (f l)
shared_from_at s t j p false e f k here = absurd (let q = among_holds t j k in cc)
shared_from_at s t j p false e f k (there l) = f l

pub shared_from : (s t : List ℕ) (p : ℕ) → Among p s → Among p t → Among p (shared s t)
shared_from [] t p i k = elim i [ ]
shared_from (j ∷ s) t p i k = shared_from_at s t j p (holds t j) refl (λ l. shared_from s t p l k) k i

-- ---- rows at places
pub among_rows_at : (G : List Row) (s : List ℕ) (j : ℕ) → Among j s → Among (ray G j) (rows_at G s)
among_rows_at G [] j i = elim i [ ]
among_rows_at G (k ∷ s) j here = here
among_rows_at G (k ∷ s) j (there i) = there (among_rows_at G s j i)

pub rows_at_among : (G : List Row) (s : List ℕ) (x : Row) → Among x (rows_at G s) → (j : ℕ) × Among j s × (ray G j ≡ x)
rows_at_among G [] x i = elim i [ ]
rows_at_among G (j ∷ s) x here = (j, here, refl)
rows_at_among G (j ∷ s) x (there i) = let r = rows_at_among G s x i in (r.0, there r.1, r.2)

-- p stands at the place q of P
pub data At (p : ℕ) : ℕ → List ℕ → Type 0 where
  at_here : {P : List ℕ} → At p zero (p ∷ P)
  at_there : {q : ℕ} {r : ℕ} {P : List ℕ} → At p q P → At p (suc q) (r ∷ P)

pub at_among : {p : ℕ} {q : ℕ} {P : List ℕ} → At p q P → Among p P
at_among at_here = here
at_among (at_there a) = there (at_among a)

pub among_at : {p : ℕ} {P : List ℕ} → Among p P → (q : ℕ) × At p q P
among_at here = (0, at_here)
among_at (there i) = let r = among_at i in (suc r.0, at_there r.1)

pub at_of : (P : List ℕ) (q : ℕ) → q < length P → (p : ℕ) × At p q P
at_of [] q l = absurd (omega arith)
at_of (p ∷ P) zero l = (p, at_here)
at_of (p ∷ P) (suc q) l = let r = at_of P q (omega arith) in (r.0, at_there r.1)

-- the mask of s over P
abbrev pub mask : List ℕ → List ℕ → List Bool
mask P s = map (λ p. holds s p) P

pub at_ray : (G : List Row) {p : ℕ} {q : ℕ} {P : List ℕ} → At p q P → ray (rows_at G P) q ≡ ray G p
at_ray G at_here = refl
at_ray G (at_there a) = at_ray G a

pub at_has : (s : List ℕ) {p : ℕ} {q : ℕ} {P : List ℕ} → At p q P → has (mask P s) q ≡ holds s p
at_has s at_here = refl
at_has s (at_there a) = at_has s a

pub at_below : {p : ℕ} {q : ℕ} {P : List ℕ} → At p q P → q < length P
at_below at_here = omega arith
at_below (at_there a) = let l = at_below a in omega arith

pub length_rows_at : (G : List Row) (P : List ℕ) → length (rows_at G P) ≡ length P
length_rows_at G [] = refl
length_rows_at G (p ∷ P) = ap suc (length_rows_at G P)

-- a place of the mask that is set
pub has_at : (s P : List ℕ) (q : ℕ) → has (mask P s) q ≡ true → (p : ℕ) × At p q P × Among p s
has_at s [] q h = absurd (no q h)
  where
    no : (q : ℕ) → has [] q ≡ true → ⊥
    no q h = cc
has_at s (p ∷ P) zero h = (p, at_here, holds_among s p h)
has_at s (p ∷ P) (suc q) h = let r = has_at s P q h in (r.0, at_there r.1, r.2)

-- ---- sums over some of the rows, as sums over all
zero_list : List Row → List ℤ
zero_list [] = []
zero_list (w ∷ W) = pos 0 ∷ zero_list W

put : ℤ → ℕ → List Row → List ℤ
put k q [] = []
put k zero (w ∷ W) = k ∷ zero_list W
put k (suc q) (w ∷ W) = pos 0 ∷ put k q W

length-zero_list : (W : List Row) → length (zero_list W) ≡ length W
unfolding zero_list
length-zero_list [] = refl
length-zero_list (w ∷ W) = ap suc (length-zero_list W)

length-put : (k : ℤ) (q : ℕ) (W : List Row) → length (put k q W) ≡ length W
unfolding put
length-put k q [] = refl
length-put k zero (w ∷ W) = ap suc (length-zero_list W)
length-put k (suc q) (w ∷ W) = ap suc (length-put k q W)

at-zero_list : (W : List Row) (j : ℕ) → at (zero_list W) j ≡ pos 0
unfolding zero_list
at-zero_list [] j = refl
at-zero_list (w ∷ W) zero = refl
at-zero_list (w ∷ W) (suc j) = at-zero_list W j

combination-zero_list : (W : List Row) (i : ℕ) → entry (combination (zero_list W) W) i ≡ pos 0
unfolding zero_list
combination-zero_list [] i = refl
combination-zero_list (w ∷ W) i = let h = combination-zero_list W i in simp (entry-plus, entry-times, h, ring)

nonneg-zero_list : (W : List Row) → NonNeg (zero_list W)
unfolding zero_list NonNeg
nonneg-zero_list [] = tt
nonneg-zero_list (w ∷ W) = (omega (arith, ints), nonneg-zero_list W)

at_put : (k : ℤ) (q : ℕ) (W : List Row) → q < length W → at (put k q W) q ≡ k
unfolding put
at_put k q [] l = absurd (omega arith)
at_put k zero (w ∷ W) l = refl
at_put k (suc q) (w ∷ W) l = at_put k q W (omega arith)

at_put_other : (k : ℤ) (q : ℕ) (W : List Row) (j : ℕ) → ¬ (j ≡ q) → at (put k q W) j ≡ pos 0
unfolding put
at_put_other k q [] j n = refl
at_put_other k zero (w ∷ W) zero n = absurd (n refl)
at_put_other k zero (w ∷ W) (suc j) n = at-zero_list W j
at_put_other k (suc q) (w ∷ W) zero n = refl
at_put_other k (suc q) (w ∷ W) (suc j) n = at_put_other k q W j (λ e. n (ap suc e))

combination-put : (k : ℤ) (q : ℕ) (W : List Row) (i : ℕ) → entry (combination (put k q W) W) i ≡ k *ℤ entry (ray W q) i
unfolding put
combination-put k q [] i = simp ring
combination-put k zero (w ∷ W) i = let h = combination-zero_list W i in simp (entry-plus, entry-times, h) (omega (arith, ints))
combination-put k (suc q) (w ∷ W) i = let h = combination-put k q W i in simp (entry-plus, entry-times, h, ring) (omega (arith, ints))

nonneg-put : (k : ℤ) (q : ℕ) (W : List Row) → pos 0 ≤ℤ k → NonNeg (put k q W)
unfolding put NonNeg
nonneg-put k q [] h = tt
nonneg-put k zero (w ∷ W) h = (h, nonneg-zero_list W)
nonneg-put k (suc q) (w ∷ W) h = (omega (arith, ints), nonneg-put k q W h)

nonneg_plus : (c d : List ℤ) → NonNeg c → NonNeg d → NonNeg (plus c d)
unfolding NonNeg
nonneg_plus [] d h k = k
nonneg_plus (a ∷ c) [] h k = h
nonneg_plus (a ∷ c) (b ∷ d) h k = (let x = h.0 in let y = k.0 in omega (arith, ints), nonneg_plus c d h.1 k.1)

pub record Spread (W : List Row) (s : List Bool) (c : List ℤ) (X : List Row) : Type 0 where
  pub e : List ℤ
  pub as_many : length e ≡ length W
  pub within : Within s e
  pub same : (i : ℕ) → entry (combination e W) i ≡ entry (combination c X) i
  pub sign : NonNeg c → NonNeg e

pub spread : (W : List Row) (s : List Bool) (c : List ℤ) (X : List Row) → ((x : Row) → Among x X → (q : ℕ) × (q < length W) × (has s q ≡ true) × (ray W q ≡ x)) → Spread W s c X
unfolding NonNeg
spread W s [] X f = record { e = zero_list W; as_many = length-zero_list W; within = λ j h. at-zero_list W j; same = λ i. combination-zero_list W i; sign = λ h. nonneg-zero_list W }
spread W s (k ∷ c) [] f = record { e = zero_list W; as_many = length-zero_list W; within = λ j h. at-zero_list W j; same = λ i. combination-zero_list W i; sign = λ h. nonneg-zero_list W }
spread W s (k ∷ c) (x ∷ X) f =
    let r = spread W s c X (λ y i. f y (there i)) in
    let w = f x here in
    record {
      e = plus (put k w.0 W) r.e;
      as_many = length-plus (length W) (put k w.0 W) r.e (length-put k w.0 W) r.as_many;
      within = λ j h. entry-plus (put k w.0 W) r.e j ∙ both (at (put k w.0 W) j) (at r.e j) (at_put_other k w.0 W j (λ e. clash (ap (has s) e ∙ w.2) h)) (r.within j h);
      same = λ i. combination-plus (put k w.0 W) r.e W i ∙ (let a = combination-put k w.0 W i ∙ ap (λ (z : Row). k *ℤ entry z i) w.3 in let b = r.same i in let d = entry-plus (times k x) (combination c X) i in let g = entry-times k x i in omega (arith, ints));
      sign = λ h. nonneg_plus (put k w.0 W) r.e (nonneg-put k w.0 W h.0) (r.sign h.1);
    }
  where
    both : (a b : ℤ) → a ≡ pos 0 → b ≡ pos 0 → a +ℤ b ≡ pos 0
    both a b e f = omega (arith, ints)

    clash : {b : Bool} → b ≡ true → b ≡ false → ⊥
    clash p q = cc

-- a sum whose rows all are in a cone
pub sum_in : (X K : List Row) (c : List ℤ) (W : List Row) → NonNeg c → ((q : ℕ) → q < length W → (at c q ≡ pos 0) ⊎ InCone X K (ray W q)) → InCone X K (combination c W)
unfolding NonNeg
sum_in X K [] W h f = in_zero (λ i. refl)
sum_in X K (k ∷ c) [] h f = in_zero (λ i. refl)
sum_in X K (k ∷ c) (w ∷ W) h f =
    let rest = sum_in X K c W h.1 (λ q l. f (suc q) (omega arith)) in
    elim (f 0 (omega arith)) [ inl z ↦ in_plus (in_zero (λ i. simp (entry-times, z, ring))) rest | inr g ↦ in_plus (in_times h.0 g) rest ]

-- ---- the rows of a cell
module _ (G L : List Row) (P : List ℕ) where
  -- the rows of a list of places within P
  placed : (s : List ℕ) → ((j : ℕ) → Among j s → Among j P) → (x : Row) → Among x (rows_at G s) → (q : ℕ) × (q < length (rows_at G P)) × (has (mask P s) q ≡ true) × (ray (rows_at G P) q ≡ x)
  placed s f x i =
      let r = rows_at_among G s x i in
      let a = among_at (f r.0 r.1) in
      (a.0, subst (λ (k : ℕ). a.0 < k) (sym (length_rows_at G P)) (at_below a.1), at_has s a.1 ∙ among_holds s r.0 r.1, at_ray G a.1 ∙ r.2)

  pub to_cell : (s : List ℕ) → ((j : ℕ) → Among j s → Among j P) → (x : Row) → InCone (rows_at G s) L x → InCell (rows_at G P) L (mask P s) x
  unfolding NonNeg
  to_cell s f x h =
      let r = spread (rows_at G P) (mask P s) h.c (rows_at G s) (placed s f) in
      record {
        m = h.m;
        c = r.e;
        d = h.d;
        as_many = r.as_many;
        positive = h.positive;
        not_negative = r.sign h.not_negative;
        within = r.within;
        same = record { at = λ i. h.same.at i ∙ entry-plus (combination h.c (rows_at G s)) (combination h.d L) i ∙ ap (λ z. z +ℤ entry (combination h.d L) i) (sym (r.same i)) ∙ sym (entry-plus (combination r.e (rows_at G P)) (combination h.d L) i) };
      }

  -- no row of a cell is in the span of its other rows and the lines
  pub cell_free : (s : List ℕ) → ((j : ℕ) → Among j s → Among j P) → IsLeastCell (rows_at G P) L (mask P s) → (k : ℕ) → Among k s → (rest : Without k s) → ¬ (InSpan (rows_at G rest.rest ++ L) (ray G k))
  unfolding Zero
  cell_free s f cell k ik rest h =
      let X = rows_at G rest.rest in
      let d1 = take (length (rows_at G rest.rest)) h.d in
      let d2 = drop (length (rows_at G rest.rest)) h.d in
      let r = spread (rows_at G P) (mask P rest.rest) (take (length (rows_at G rest.rest)) h.d) (rows_at G rest.rest) (placed rest.rest (λ j i. f j (rest.to j i).0)) in
      let a = among_at (f k ik) in
      let lp = length-put h.m a.0 (rows_at G P) in
      let z = independent (rows_at G P) L cell.c cell.is_least (over (put h.m a.0 (rows_at G P)) (pos 1) r.e) (length-over (length (rows_at G P)) (put h.m a.0 (rows_at G P)) (pos 1) r.e lp r.as_many)
      (λ j zj. zero_at a.0 a.1 r j (elim (cases_Bool (has (mask P s) j)) [ inl t ↦ absurd (let p = cell.positive j t in omega (arith, ints)) | inr e ↦ e ]))
      (record {
        m = pos 1;
        c = [];
        d = drop (length (rows_at G rest.rest)) h.d;
        positive = lt_z_yes tt;
        not_negative = tt;
        same = record { at = λ i. flat_entry a.0 a.1 r i };
      }) in
      let y = entry-over (put h.m a.0 (rows_at G P)) (pos 1) r.e a.0 in
      let x = at_put h.m a.0 (rows_at G P) (subst (λ (n : ℕ). a.0 < n) (sym (length_rows_at G P)) (at_below a.1)) in
      let w = r.within a.0 (at_has rest.rest a.1 ∙ holds_not rest.rest k (λ i. (rest.to k i).1 refl)) in
      positive_zero h.m (at r.e a.0) (at (put h.m a.0 (rows_at G P)) a.0) h.positive x w (sym y ∙ z a.0)
    where
      positive_zero : (m e u : ℤ) → pos 0 <ℤ m → u ≡ m → e ≡ pos 0 → u -ℤ pos 1 *ℤ e ≡ pos 0 → ⊥
      positive_zero m e u hm p q g = let g' = simp (q, ring) at g in omega (arith, ints)

      both_zero : (u e : ℤ) → u ≡ pos 0 → e ≡ pos 0 → u -ℤ pos 1 *ℤ e ≡ pos 0
      both_zero u e p q = simp (p, q, ring)

      clash : {b : Bool} → b ≡ true → b ≡ false → ⊥
      clash p q = cc

      zero_at : (q : ℕ) → At k q P → (r : Spread (rows_at G P) (mask P rest.rest) (take (length (rows_at G rest.rest)) h.d) (rows_at G rest.rest)) → (j : ℕ) → has (mask P s) j ≡ false → at (over (put h.m q (rows_at G P)) (pos 1) r.e) j ≡ pos 0
      zero_at q a r j e =
          entry-over (put h.m q (rows_at G P)) (pos 1) r.e j
          ∙ both_zero (at (put h.m q (rows_at G P)) j) (at r.e j)
          (at_put_other h.m q (rows_at G P) j (λ je. clash (at_has s a ∙ among_holds s k ik) (ap (has (mask P s)) (sym je) ∙ e)))
          (r.within j (elim (cases_Bool (has (mask P rest.rest) j)) [
            | inr n ↦ n
            | inl t ↦ let w = has_at rest.rest P j t in absurd (clash (at_has s w.1 ∙ among_holds s w.0 (rest.to w.0 w.2).0) e)
          ]))

      flat_entry : (q : ℕ) → At k q P → (r : Spread (rows_at G P) (mask P rest.rest) (take (length (rows_at G rest.rest)) h.d) (rows_at G rest.rest)) → (i : ℕ) →
          entry (times (pos 1) (combination (over (put h.m q (rows_at G P)) (pos 1) r.e) (rows_at G P))) i ≡ entry (combination (drop (length (rows_at G rest.rest)) h.d) L) i
      flat_entry q a r i =
          let x = combination-over (put h.m q (rows_at G P)) (pos 1) r.e (rows_at G P) i in
          let y = combination-put h.m q (rows_at G P) i ∙ ap (λ (z : Row). h.m *ℤ entry z i) (at_ray G a) in
          let w = combination_append (rows_at G rest.rest) L h.d i in
          let g = sym (entry-times h.m (ray G k) i) ∙ h.same.at i ∙ entry-plus (combination h.c []) (combination h.d (rows_at G rest.rest ++ L)) i in
          let n = combination_none h.c i in
          let t = entry-times (pos 1) (combination (over (put h.m q (rows_at G P)) (pos 1) r.e) (rows_at G P)) i in
          let u = r.same i in
          at_numbers _ _ _ _ _ _ _ _ _ x y w g n t u
        where
          at_numbers : (comb p e d s l mr tt' c0 : ℤ) → comb ≡ p -ℤ pos 1 *ℤ e → p ≡ mr → d ≡ s +ℤ l → mr ≡ c0 +ℤ d → c0 ≡ pos 0 → tt' ≡ pos 1 *ℤ comb → e ≡ s → tt' ≡ l
          at_numbers comb p e d s l mr tt' c0 h1 h2 h3 h4 h5 h6 h7 = let a = simp ring at h1 in let b = simp ring at h6 in omega (arith, ints)
