-- Independent rows of a span are at most as many as the rows that span it: one spanning row is used up by a pivot, and the other rows are lowered by it.
use Rattle.pm_vector.proofs.ConeLaws.{combination_none, in_same, none_to_zero}
use Rattle.pm_vector.proofs.Lists.{Among, here, there}
use Rattle.pm_vector.proofs.Ring.{ring}
use Rattle.pm_vector.proofs.RowLaws.{entry-difference, entry-plus, entry-times}
use Rattle.pm_vector.proofs.Signs.{mul_cancel}
use Rattle.pm_vector.specs.Cones.{InSpan, combination}
use Rattle.pm_vector.specs.Rows.{IsZero, Row, difference, entry, plus, times}
use Rattle.pm_vector.proofs.Columns.{basis_is_independent, coefficient}
use Rattle.pm_vector.proofs.Spans.{place_of, span_at, span_difference, span_divide, span_from, span_to}
use Rattle.pm_vector.specs.Bases.{IsRank}
use Rattle.pm_vector.specs.Laws.{BasisGivesRank, IndependentAreFew, RankIsDetermined}
use Rattle.std.proofs.Common.{ap, arith, inl, inr, refl, subst, ◌∙◌}
use Rattle.std.proofs.lemmas.Int.{by_lt_z, ints}
use Rattle.std.specs.Prelude.{List, [], length, suc, zero, ℕ, ◌<◌, ◌∷◌, ◌≡◌, ◌≤◌, ◌⊎◌}
use lib.IntN.{neg_ℤ, pos, ℤ, ◌*ℤ◌, ◌+ℤ◌, ◌-ℤ◌}
use lib.Signed.{lt_z_yes, ◌<ℤ◌}
use native.Mathlib.Decide.{dec_lt}

pub mul_not_zero : {a b : ℤ} → ¬ (a ≡ pos 0) → ¬ (b ≡ pos 0) → ¬ (a *ℤ b ≡ pos 0)
mul_not_zero {a} {b} na nb e =
    by_lt_z (pos 0) a
    (λ up. nb (mul_cancel up (simp ring (omega (arith, ints)))))
    (λ low. by_lt_z a (pos 0)
    (λ down. let n : pos 0 <ℤ neg_ℤ a = omega (arith, ints) in nb (mul_cancel n (simp ring (omega (arith, ints)))))
    (λ same. na (omega (arith, ints))))

positive_not_zero : {k : ℤ} → pos 0 <ℤ k → ¬ (k ≡ pos 0)
positive_not_zero h e = omega (arith, ints)

-- ---- rows lowered by multiples of x, of which one is x itself
data Lowered (x : Row) : List Row → List Row → Type 0 where
  none : Lowered x [] []
  next : (a b : ℤ) (w : Row) {W W' : List Row} → ¬ (a ≡ pos 0) → Lowered x W W' → Lowered x (w ∷ W) (difference a w b x ∷ W')

data Pivoted (x : Row) : List Row → List Row → Type 0 where
  pivot : {W W' : List Row} → Lowered x W W' → Pivoted x (x ∷ W) W'
  before : (a b : ℤ) (w : Row) {X W' : List Row} → ¬ (a ≡ pos 0) → Pivoted x X W' → Pivoted x (w ∷ X) (difference a w b x ∷ W')

scaled : {x : Row} {W W' : List Row} → Lowered x W W' → List ℤ → List ℤ
scaled none c = []
scaled (next a b w nz l) [] = []
scaled (next a b w nz l) (k ∷ c) = (k *ℤ a) ∷ scaled l c

total : {x : Row} {W W' : List Row} → Lowered x W W' → List ℤ → ℤ
total none c = pos 0
total (next a b w nz l) [] = pos 0
total (next a b w nz l) (k ∷ c) = k *ℤ b +ℤ total l c

-- the coefficients of the rows before they were lowered, with t more of x
raised : {x : Row} {X W' : List Row} → Pivoted x X W' → List ℤ → ℤ → List ℤ
raised (pivot l) c t = (t -ℤ total l c) ∷ scaled l c
raised (before a b w nz p) [] t = pos 0 ∷ raised p [] t
raised (before a b w nz p) (k ∷ c) t = (k *ℤ a) ∷ raised p c (t -ℤ k *ℤ b)

scaled_entry : {x : Row} {W W' : List Row} (l : Lowered x W W') (c : List ℤ) (e : ℕ) → entry (combination (scaled l c) W) e ≡ entry (combination c W') e +ℤ total l c *ℤ entry x e
unfolding scaled total
scaled_entry none c e = simp (combination_none, ring)
scaled_entry (next a b w nz l) [] e = simp ring
scaled_entry (next a b w nz l) (k ∷ c) e = let h = scaled_entry l c e in simp (entry-plus, entry-times, entry-difference, h, ring) (omega (arith, ints))

raised_step : (k a b t w x c z : ℤ) → z ≡ c +ℤ (t -ℤ k *ℤ b) *ℤ x → k *ℤ a *ℤ w +ℤ z ≡ k *ℤ (a *ℤ w -ℤ b *ℤ x) +ℤ c +ℤ t *ℤ x
raised_step k a b t w x c z h = let g = simp ring at h in simp ring (omega (arith, ints))

raised_entry : {x : Row} {X W' : List Row} (p : Pivoted x X W') (c : List ℤ) (t : ℤ) (e : ℕ) → entry (combination (raised p c t) X) e ≡ entry (combination c W') e +ℤ t *ℤ entry x e
unfolding raised
raised_entry (pivot l) c t e = let h = scaled_entry l c e in simp (entry-plus, entry-times, h, ring) (omega (arith, ints))
raised_entry (before a b w nz p) [] t e = let h = raised_entry p [] t e in simp (entry-plus, entry-times, h, ring) (omega (arith, ints))
raised_entry (before a b w nz p) (k ∷ c) t e = simp (entry-plus, entry-times, entry-difference) (raised_step k a b t (entry w e) (entry _ e) _ _ (raised_entry p c (t -ℤ k *ℤ b) e))

scaled_some : {x : Row} {W W' : List Row} (l : Lowered x W W') (c : List ℤ) (i : ℕ) → i < length W' → ¬ (coefficient c i ≡ pos 0) → (i < length W) × ¬ (coefficient (scaled l c) i ≡ pos 0)
unfolding coefficient scaled
scaled_some none c i li nz = absurd (omega arith)
scaled_some (next a b w na l) [] i li nz = absurd (nz refl)
scaled_some (next a b w na l) (k ∷ c) zero li nz = (omega arith, mul_not_zero nz na)
scaled_some (next a b w na l) (k ∷ c) (suc i) li nz = let r = scaled_some l c i (omega arith) nz in ((let q = r.0 in omega arith), r.1)

raised_some : {x : Row} {X W' : List Row} (p : Pivoted x X W') (c : List ℤ) (t : ℤ) (i : ℕ) → i < length W' → ¬ (coefficient c i ≡ pos 0) → (j : ℕ) × (j < length X) × ¬ (coefficient (raised p c t) j ≡ pos 0)
unfolding coefficient raised
raised_some (pivot l) c t i li nz = let r = scaled_some l c i li nz in (suc i, (let q = r.0 in omega arith), r.1)
raised_some (before a b w na p) [] t i li nz = absurd (nz refl)
raised_some (before a b w na p) (k ∷ c) t zero li nz = (0, omega arith, mul_not_zero nz na)
raised_some (before a b w na p) (k ∷ c) t (suc i) li nz = let r = raised_some p c (t -ℤ k *ℤ b) i (omega arith) nz in (suc r.0, (let q = r.1 in omega arith), r.2)

-- ---- dependent rows
record Dependent (X : List Row) : Type 0 where
  c : List ℤ
  i : ℕ
  below : i < length X
  some : ¬ (coefficient c i ≡ pos 0)
  null : IsZero (combination c X)

dependent_raised : {x : Row} {X W' : List Row} → Pivoted x X W' → Dependent W' → Dependent X
dependent_raised p d =
    let r = raised_some p d.c (pos 0) d.i d.below d.some in
    record { c = raised p d.c (pos 0); i = r.0; below = r.1; some = r.2; null = λ e. let z = d.null e in raised_entry p d.c (pos 0) e ∙ simp (z, ring) }

-- ---- the first spanning row
record Split (y : Row) (Y : List Row) (r : Row) : Type 0 where
  p : ℤ
  q : ℤ
  positive : pos 0 <ℤ p
  rest : InSpan Y (difference p r q y)

split : (y : Row) (Y : List Row) (r : Row) → InSpan (y ∷ Y) r → Split y Y r
split y Y r h = go h.d h.same.at
  where
    make : (d : List ℤ) (k : ℤ) → ((i : ℕ) → h.m *ℤ entry r i ≡ k *ℤ entry y i +ℤ entry (combination d Y) i) → Split y Y r
    make d k e = record {
      p = h.m;
      q = k;
      positive = h.positive;
      rest = record {
        m = pos 1;
        c = [];
        d = d;
        positive = lt_z_yes tt;
        not_negative = tt;
        same = record { at = λ i. let w = e i in simp (entry-times, entry-plus, entry-difference, combination_none, ring) (omega (arith, ints)) };
      };
    }

    go : (d : List ℤ) → ((i : ℕ) → entry (times h.m r) i ≡ entry (plus (combination h.c []) (combination d (y ∷ Y))) i) → Split y Y r
    go [] e = make [] (pos 0) (λ i. let w = simp (entry-times, entry-plus, combination_none) at (e i) in simp ring (omega (arith, ints)))
    go (k ∷ d) e = make d k (λ i. let w = simp (entry-times, entry-plus, combination_none) at (e i) in omega (arith, ints))

-- w is lowered by x so that it needs y no more
lower : (y : Row) (Y : List Row) (x w : Row) (s : Split y Y x) (t : Split y Y w) → InSpan Y (difference (s.q *ℤ t.p) w (t.q *ℤ s.p) x)
lower y Y x w s t = in_same (record { at = λ i. simp (entry-difference, ring) (omega (arith, ints)) }) (span_difference s.q t.q t.rest s.rest)

-- either each row lies in the span of the others, or one of them needs y
record NeedsFirst (y : Row) (Y X : List Row) : Type 0 where
  x : Row
  place : Among x X
  parts : Split y Y x
  some : ¬ (parts.q ≡ pos 0)

first_needed : (y : Row) (Y X : List Row) → ((r : Row) → Among r X → InSpan (y ∷ Y) r) → ((r : Row) → Among r X → InSpan Y r) ⊎ NeedsFirst y Y X
first_needed y Y [] f = inl (λ r i. elim i [ ])
first_needed y Y (x ∷ X) f = by_q (split y Y x (f x here)) (first_needed y Y X (λ r i. f r (there i)))
  where
    alone : (s : Split y Y x) → s.q ≡ pos 0 → InSpan Y x
    alone s z = span_divide (positive_not_zero s.positive) (in_same (record { at = λ i. simp (entry-difference, entry-times, z, ring) (omega (arith, ints)) }) s.rest)

    both : InSpan Y x → ((r : Row) → Among r X → InSpan Y r) → (r : Row) → Among r (x ∷ X) → InSpan Y r
    both h g r here = h
    both h g r (there i) = g r i

    later : NeedsFirst y Y X → NeedsFirst y Y (x ∷ X)
    later n = record { x = n.x; place = there n.place; parts = n.parts; some = n.some }

    this_one : (s : Split y Y x) → ¬ (s.q ≡ pos 0) → NeedsFirst y Y (x ∷ X)
    this_one s nz = record { x = x; place = here; parts = s; some = nz }

    by_q : Split y Y x → ((r : Row) → Among r X → InSpan Y r) ⊎ NeedsFirst y Y X → ((r : Row) → Among r (x ∷ X) → InSpan Y r) ⊎ NeedsFirst y Y (x ∷ X)
    by_q s others =
        by_lt_z (pos 0) s.q
        (λ up. inr (this_one s (λ e. omega (arith, ints))))
        (λ low. by_lt_z s.q (pos 0)
        (λ down. inr (this_one s (λ e. omega (arith, ints))))
        (λ same. elim others [ inl g ↦ inl (both (alone s (omega (arith, ints))) g) | inr n ↦ inr (later n) ]))

-- ---- the rows lowered by one that needs y
record AllLowered (Y : List Row) (x : Row) (W : List Row) : Type 0 where
  rows : List Row
  lowered : Lowered x W rows
  inside : (r : Row) → Among r rows → InSpan Y r
  as_many : length rows ≡ length W

lower_all : (y : Row) (Y : List Row) (x : Row) (s : Split y Y x) → ¬ (s.q ≡ pos 0) → (W : List Row) → ((r : Row) → Among r W → InSpan (y ∷ Y) r) → AllLowered Y x W
lower_all y Y x s nz [] f = record { rows = []; lowered = none; inside = λ r i. elim i [ ]; as_many = refl }
lower_all y Y x s nz (w ∷ W) f = one (split y Y w (f w here)) (lower_all y Y x s nz W (λ r i. f r (there i)))
  where
    first : (t : Split y Y w) (l : AllLowered Y x W) → (r : Row) → Among r (difference (s.q *ℤ t.p) w (t.q *ℤ s.p) x ∷ l.rows) → InSpan Y r
    first t l r here = lower y Y x w s t
    first t l r (there i) = l.inside r i

    one : Split y Y w → AllLowered Y x W → AllLowered Y x (w ∷ W)
    one t l = record {
      rows = difference (s.q *ℤ t.p) w (t.q *ℤ s.p) x ∷ l.rows;
      lowered = next (s.q *ℤ t.p) (t.q *ℤ s.p) w (mul_not_zero nz (positive_not_zero t.positive)) l.lowered;
      inside = first t l;
      as_many = ap suc l.as_many;
    }

record AllPivoted (Y : List Row) (x : Row) (X : List Row) : Type 0 where
  rows : List Row
  pivoted : Pivoted x X rows
  inside : (r : Row) → Among r rows → InSpan Y r
  one_less : suc (length rows) ≡ length X

pivot_all : (y : Row) (Y : List Row) {x : Row} (s : Split y Y x) → ¬ (s.q ≡ pos 0) → {X : List Row} → Among x X → ((r : Row) → Among r X → InSpan (y ∷ Y) r) → AllPivoted Y x X
pivot_all y Y {x} s nz (here {xs = W}) f = from (lower_all y Y x s nz W (λ r i. f r (there i)))
  where
    from : AllLowered Y x W → AllPivoted Y x (x ∷ W)
    from l = record { rows = l.rows; pivoted = pivot l.lowered; inside = l.inside; one_less = ap suc l.as_many }
pivot_all y Y {x} s nz (there {y = w} {xs = X} i) f = one (split y Y w (f w here)) (pivot_all y Y s nz i (λ r j. f r (there j)))
  where
    first : (t : Split y Y w) (l : AllPivoted Y x X) → (r : Row) → Among r (difference (s.q *ℤ t.p) w (t.q *ℤ s.p) x ∷ l.rows) → InSpan Y r
    first t l r here = lower y Y x w s t
    first t l r (there i) = l.inside r i

    one : Split y Y w → AllPivoted Y x X → AllPivoted Y x (w ∷ X)
    one t l = record {
      rows = difference (s.q *ℤ t.p) w (t.q *ℤ s.p) x ∷ l.rows;
      pivoted = before (s.q *ℤ t.p) (t.q *ℤ s.p) w (mul_not_zero nz (positive_not_zero t.positive)) l.pivoted;
      inside = first t l;
      one_less = ap suc l.one_less;
    }

-- ---- more rows than span them are dependent
zero_row_dependent : (x : Row) (X : List Row) → IsZero x → Dependent (x ∷ X)
unfolding coefficient
zero_row_dependent x X z = record { c = pos 1 ∷ []; i = 0; below = omega arith; some = λ e. omega (arith, ints); null = λ e. let q = z e in simp (entry-plus, entry-times, q, ring) }

dependent : (Y X : List Row) → ((r : Row) → Among r X → InSpan Y r) → length Y < length X → Dependent X
dependent [] [] f l = absurd (omega arith)
dependent [] (x ∷ X) f l = zero_row_dependent x X (none_to_zero x (f x here))
dependent (y ∷ Y) X f l = elim (first_needed y Y X f) [
  | inl g ↦ dependent Y X g (omega arith)
  | inr n ↦ let a = pivot_all y Y n.parts n.some n.place f in dependent_raised a.pivoted (dependent Y a.rows a.inside (let e = a.one_less in omega arith))
]

pub independent_are_few : IndependentAreFew
unfolding coefficient
independent_are_few X Y free f = elim (dec_lt (length Y) (length X)) [
  | yes l ↦ absurd (let d = dependent Y X (λ r i. let w = place_of i in subst (λ z. InSpan Y z) w.2 (f w.0 w.1)) l in d.some (free d.c d.null d.i d.below))
  | no nl ↦ omega arith
]

rank_at_most : (X : List Row) (k m : ℕ) → IsRank X k → IsRank X m → k ≤ m
rank_at_most X k m r s =
    let h = independent_are_few r.basis s.basis r.independent (λ i l. span_from s.span (span_to r.span (span_at i l))) in
    let a = r.as_many in
    let b = s.as_many in
    omega arith

pub rank_is_determined : RankIsDetermined
rank_is_determined X k m r s = let h = rank_at_most X k m r s in let g = rank_at_most X m k s r in omega arith

pub basis_gives_rank : BasisGivesRank
basis_gives_rank n R P X e s = record { basis = R; independent = basis_is_independent n R P e; span = s; as_many = refl }
