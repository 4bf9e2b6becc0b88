-- What cone(G) + span(L) is closed under. Coefficients are seen here alone: above this file a cone is taken apart by `in_to_after`.
use Rattle.pm_vector.proofs.Lists.{Among, here, there}
use Rattle.pm_vector.proofs.Ring.{neg_one_mul, ring}
use Rattle.pm_vector.proofs.RowLaws.{dot-nil, dot-plus, dot-same, dot-times, entry-difference, entry-opposite, entry-plus, entry-times, same_sym}
use Rattle.pm_vector.proofs.Signs.{mul_cancel, mul_nonneg, mul_pos, nonneg_cancel, times_both, weaken}
use Rattle.pm_vector.specs.Cones.{InCone, IsConeSet, combination}
use Rattle.pm_vector.specs.Rows.{IsZero, Row, Same, difference, dot, entry, opposite, plus, times}
use Rattle.std.proofs.Common.{arith, refl}
use Rattle.std.proofs.lemmas.Int.{by_lt_z, ints}
use Rattle.std.specs.List.{AllByRecursion}
use Rattle.std.specs.Prelude.{List, [], ℕ, ◌∷◌, ◌≡◌}
use lib.IntN.{neg_ℤ, negsuc, pos, ℤ, ◌*ℤ◌, ◌+ℤ◌, ◌-ℤ◌}
use lib.Signed.{lt_z_yes, ◌<ℤ◌, ◌≤ℤ◌}

-- some p x - q v with p > 0 and q ≥ 0 is in S
pub record After (S : Row → Type 0) (v x : Row) : Type 0 where
  pub p : ℤ
  pub q : ℤ
  pub positive : pos 0 <ℤ p
  pub not_negative : pos 0 ≤ℤ q
  pub rest : S (difference p x q v)

-- ---- the generators one by one
pub combination_none : (c : List ℤ) (i : ℕ) → entry (combination c []) i ≡ pos 0
combination_none [] i = refl
combination_none (k ∷ c) i = refl

module _ (G L : List Row) (g x : Row) where
  pub in_to_after : InCone (g ∷ G) L x → After (InCone G L) g x
  in_to_after h = go h.c h.not_negative (h.same.at)
    where
      go : (c : List ℤ) → AllByRecursion (λ k. pos 0 ≤ℤ k) c → ((i : ℕ) → entry (times h.m x) i ≡ entry (plus (combination c (g ∷ G)) (combination h.d L)) i) → After (InCone G L) g x
      go [] nn e = record {
        p = h.m;
        q = pos 0;
        positive = h.positive;
        not_negative = omega (arith, ints);
        rest = record {
          m = pos 1;
          c = [];
          d = h.d;
          positive = lt_z_yes tt;
          not_negative = tt;
          same = record { at = λ i. let k = simp (entry-times) at (e i) in simp (entry-times, entry-difference, ring) (omega (arith, ints)) };
        };
      }
      go (k ∷ c) nn e = record {
        p = h.m;
        q = k;
        positive = h.positive;
        not_negative = nn.0;
        rest = record {
          m = pos 1;
          c = c;
          d = h.d;
          positive = lt_z_yes tt;
          not_negative = nn.1;
          same = record { at = λ i. let w = simp (entry-times, entry-plus) at (e i) in simp (entry-times, entry-plus, entry-difference, ring) (omega (arith, ints)) };
        };
      }

  pub in_from_after : After (InCone G L) g x → InCone (g ∷ G) L x
  in_from_after a = record {
    m = a.rest.m *ℤ a.p;
    c = (a.rest.m *ℤ a.q) ∷ a.rest.c;
    d = a.rest.d;
    positive = mul_pos a.rest.positive a.positive;
    not_negative = (let z : pos 0 ≤ℤ a.rest.m = (let w = a.rest.positive in omega (arith, ints)) in mul_nonneg z a.not_negative, a.rest.not_negative);
    same = record { at = λ i. let w = simp (entry-times, entry-plus, entry-difference, ring) at (a.rest.same.at i) in simp (entry-times, entry-plus, ring) (omega (arith, ints)) };
  }

module _ (G L : List Row) (l x : Row) where
  pub line_to_after : InCone G (l ∷ L) x → After (After (InCone G L) l) (opposite l) x
  line_to_after h = go h.d h.same.at
    where
      -- x is first lowered by r times the opposite row, and then by k times l
      make : (d : List ℤ) (k r : ℤ) → pos 0 ≤ℤ k → pos 0 ≤ℤ r → ((i : ℕ) → entry (times h.m x) i ≡ entry (combination h.c G) i +ℤ entry (combination d L) i +ℤ (k -ℤ r) *ℤ entry l i) → After (After (InCone G L) l) (opposite l) x
      make d k r hk hr e = record {
        p = h.m;
        q = r;
        positive = h.positive;
        not_negative = hr;
        rest = record {
          p = pos 1;
          q = k;
          positive = lt_z_yes tt;
          not_negative = hk;
          rest = record {
            m = pos 1;
            c = h.c;
            d = d;
            positive = lt_z_yes tt;
            not_negative = h.not_negative;
            same = record { at = λ i. let w = simp (entry-times, ring) at (e i) in simp (entry-times, entry-plus, entry-difference, entry-opposite, ring) (omega (arith, ints)) };
          };
        };
      }

      go : (d : List ℤ) → ((i : ℕ) → entry (times h.m x) i ≡ entry (plus (combination h.c G) (combination d (l ∷ L))) i) → After (After (InCone G L) l) (opposite l) x
      go [] e = make [] (pos 0) (pos 0) (omega (arith, ints)) (omega (arith, ints)) (λ i. let w = simp entry-plus at (e i) in simp ring (omega (arith, ints)))
      go (k ∷ d) e =
          by_lt_z k (pos 0)
          (λ s. make d (pos 0) (neg_ℤ k) (omega (arith, ints)) (omega (arith, ints)) (λ i. let w = simp (entry-plus, entry-times) at (e i) in simp (entry-times, ring) (omega (arith, ints))))
          (λ s. make d k (pos 0) s (omega (arith, ints)) (λ i. let w = simp (entry-plus, entry-times) at (e i) in simp (entry-times, ring) (omega (arith, ints))))

  pub line_from_after : After (After (InCone G L) l) (opposite l) x → InCone G (l ∷ L) x
  line_from_after a = let b = a.rest in let t = b.rest in record {
    m = t.m *ℤ (b.p *ℤ a.p);
    c = t.c;
    d = (t.m *ℤ b.q -ℤ t.m *ℤ (b.p *ℤ a.q)) ∷ t.d;
    positive = mul_pos t.positive (mul_pos b.positive a.positive);
    not_negative = t.not_negative;
    same = record { at = λ i. let w = simp (entry-times, entry-plus, entry-difference, entry-opposite, ring) at (t.same.at i) in simp (entry-times, entry-plus, ring) (omega (arith, ints)) };
  }

-- ---- no generator: the zero row alone
pub none_to_zero : (x : Row) → InCone [] [] x → IsZero x
none_to_zero x h i =
    let e = simp (entry-times, entry-plus, combination_none) at (h.same.at i) in
    mul_cancel h.positive (simp ring (omega (arith, ints)))

pub none_from_zero : (x : Row) → IsZero x → InCone [] [] x
none_from_zero x z = record {
  m = pos 1;
  c = [];
  d = [];
  positive = lt_z_yes tt;
  not_negative = tt;
  same = record { at = λ i. let e = z i in simp (entry-times, ring, e) };
}

unfoldable pub NonNeg : List ℤ → Type 0
NonNeg c = AllByRecursion (λ k. pos 0 ≤ℤ k) c

plus_nonneg : (c d : List ℤ) → NonNeg c → NonNeg d → NonNeg (plus c d)
unfolding NonNeg
plus_nonneg [] d h k = k
plus_nonneg (a ∷ c) [] h k = h
plus_nonneg (a ∷ c) (b ∷ d) h k = (let x = h.0 in let y = k.0 in omega (arith, ints), plus_nonneg c d h.1 k.1)

times_nonneg : (m : ℤ) (c : List ℤ) → pos 0 ≤ℤ m → NonNeg c → NonNeg (times m c)
unfolding NonNeg
times_nonneg m [] hm h = tt
times_nonneg m (a ∷ c) hm h = (mul_nonneg hm h.0, times_nonneg m c hm h.1)

pub combination-plus : (c d : List ℤ) (G : List Row) (i : ℕ) → entry (combination (plus c d) G) i ≡ entry (combination c G) i +ℤ entry (combination d G) i
combination-plus [] d G i = omega (arith, ints)
combination-plus (a ∷ c) [] G i = omega (arith, ints)
combination-plus (a ∷ c) (b ∷ d) [] i = refl
combination-plus (a ∷ c) (b ∷ d) (g ∷ G) i = let h = combination-plus c d G i in simp (entry-plus, entry-times, ring, h) (omega (arith, ints))

pub combination-times : (m : ℤ) (c : List ℤ) (G : List Row) (i : ℕ) → entry (combination (times m c) G) i ≡ m *ℤ entry (combination c G) i
combination-times m [] G i = simp ring
combination-times m (a ∷ c) [] i = simp ring
combination-times m (a ∷ c) (g ∷ G) i = let h = combination-times m c G i in simp (entry-plus, entry-times, ring, h)

-- ---- the equations between entries
added : (m n x y a d b e : ℤ) → m *ℤ x ≡ a +ℤ d → n *ℤ y ≡ b +ℤ e → m *ℤ n *ℤ (x +ℤ y) ≡ n *ℤ a +ℤ m *ℤ b +ℤ (n *ℤ d +ℤ m *ℤ e)
added m n x y a d b e h k =
    let p = simp ring at (times_both n h) in
    let q = simp ring at (times_both m k) in
    simp ring (omega (arith, ints))

scaled : (m k x a d : ℤ) → m *ℤ x ≡ a +ℤ d → m *ℤ (k *ℤ x) ≡ k *ℤ a +ℤ k *ℤ d
scaled m k x a d h = let p = simp ring at (times_both k h) in omega (arith, ints)

module _ {G L : List Row} where
  pub in_same : {x y : Row} → Same x y → InCone G L x → InCone G L y
  in_same {x} {y} s h = record {
    m = h.m;
    c = h.c;
    d = h.d;
    positive = h.positive;
    not_negative = h.not_negative;
    same = record { at = λ i. let e = s.at i in let w = simp entry-times at (h.same.at i) in simp (entry-times, ← e, w) };
  }

  pub in_zero : {x : Row} → ((i : ℕ) → entry x i ≡ pos 0) → InCone G L x
  in_zero {x} z = record {
    m = pos 1;
    c = [];
    d = [];
    positive = lt_z_yes tt;
    not_negative = tt;
    same = record { at = λ i. let e = z i in simp (entry-times, e, ring) };
  }

  pub in_plus : {x y : Row} → InCone G L x → InCone G L y → InCone G L (plus x y)
  unfolding NonNeg
  in_plus {x} {y} h k = record {
    m = h.m *ℤ k.m;
    c = plus (times k.m h.c) (times h.m k.c);
    d = plus (times k.m h.d) (times h.m k.d);
    positive = mul_pos h.positive k.positive;
    not_negative = plus_nonneg (times k.m h.c) (times h.m k.c) (times_nonneg k.m h.c (weaken k.positive) h.not_negative) (times_nonneg h.m k.c (weaken h.positive) k.not_negative);
    same = record { at = λ i. simp (entry-times, entry-plus, combination-plus, combination-times) (added h.m k.m _ _ _ _ _ _ (simp (entry-times, entry-plus) at (h.same.at i)) (simp (entry-times, entry-plus) at (k.same.at i))) };
  }

  pub in_times : {k : ℤ} {x : Row} → pos 0 ≤ℤ k → InCone G L x → InCone G L (times k x)
  unfolding NonNeg
  in_times {k} {x} hk h = record {
    m = h.m;
    c = times k h.c;
    d = times k h.d;
    positive = h.positive;
    not_negative = times_nonneg k h.c hk h.not_negative;
    same = record { at = λ i. simp (entry-times, entry-plus, combination-times) (scaled h.m k _ _ _ (simp (entry-times, entry-plus) at (h.same.at i))) };
  }

  pub in_divide : {k : ℤ} {x : Row} → pos 0 <ℤ k → InCone G L (times k x) → InCone G L x
  in_divide {k} {x} hk h = record {
    m = h.m *ℤ k;
    c = h.c;
    d = h.d;
    positive = mul_pos h.positive hk;
    not_negative = h.not_negative;
    same = record { at = λ i. let w = simp (entry-times, ring) at (h.same.at i) in simp (entry-times, ring, w) };
  }

-- ---- the generators
pub in_more : (G L : List Row) (g : Row) {x : Row} → InCone G L x → InCone (g ∷ G) L x
in_more G L g {x} h = in_from_after G L g x (record {
  p = pos 1;
  q = pos 0;
  positive = lt_z_yes tt;
  not_negative = omega (arith, ints);
  rest = in_same (record { at = λ i. simp (entry-difference, ring) (omega (arith, ints)) }) h;
})

pub in_first : (G L : List Row) (g : Row) → InCone (g ∷ G) L g
in_first G L g = in_from_after G L g g (record {
  p = pos 1;
  q = pos 1;
  positive = lt_z_yes tt;
  not_negative = omega (arith, ints);
  rest = in_zero (λ i. simp (entry-difference, ring) (omega (arith, ints)));
})

pub in_generator : {L : List Row} {g : Row} {G : List Row} → Among g G → InCone G L g
in_generator {L = L} (here {xs = G}) = in_first G L _
in_generator {L = L} (there {y = y} {xs = G} i) = in_more G L y (in_generator i)

pub in_more_lines : (G L : List Row) (l : Row) {x : Row} → InCone G L x → InCone G (l ∷ L) x
in_more_lines G L l {x} h = line_from_after G L l x (record {
  p = pos 1;
  q = pos 0;
  positive = lt_z_yes tt;
  not_negative = omega (arith, ints);
  rest = record {
    p = pos 1;
    q = pos 0;
    positive = lt_z_yes tt;
    not_negative = omega (arith, ints);
    rest = in_same (record { at = λ i. simp (entry-difference, ring) (omega (arith, ints)) }) h;
  };
})

pub in_line_times : {G : List Row} {l : Row} (k : ℤ) {L : List Row} → Among l L → InCone G L (times k l)
in_line_times {G} k (here {xs = L}) = record {
  m = pos 1;
  c = [];
  d = k ∷ [];
  positive = lt_z_yes tt;
  not_negative = tt;
  same = record { at = λ i. simp (entry-times, entry-plus, ring) (omega (arith, ints)) };
}
in_line_times {G} k (there {y = y} {xs = L} i) = in_more_lines G L y (in_line_times k i)

-- ---- cones in cones
module _ (G L : List Row) where
  pub in_combination : (c : List ℤ) (X : List Row) → NonNeg c → ((g : Row) → Among g X → InCone G L g) → InCone G L (combination c X)
  unfolding NonNeg
  in_combination [] X h f = in_zero (λ i. refl)
  in_combination (k ∷ c) [] h f = in_zero (λ i. refl)
  in_combination (k ∷ c) (g ∷ X) h f = in_plus (in_times h.0 (f g here)) (in_combination c X h.1 (λ y j. f y (there j)))

  pub in_combination_lines : (d : List ℤ) (X : List Row) → ((g : Row) → Among g X → InCone G L g × InCone G L (opposite g)) → InCone G L (combination d X)
  in_combination_lines [] X f = in_zero (λ i. refl)
  in_combination_lines (k ∷ d) [] f = in_zero (λ i. refl)
  in_combination_lines (k ∷ d) (g ∷ X) f =
      let rest = in_combination_lines d X (λ y j. f y (there j)) in
      by_lt_z k (pos 0)
      (λ s. let n : pos 0 ≤ℤ neg_ℤ k = omega (arith, ints) in
      in_plus (in_same (record { at = λ i. simp (entry-times, entry-opposite, ring) (omega (arith, ints)) }) (in_times n (f g here).1)) rest)
      (λ s. in_plus (in_times s (f g here).0) rest)

  pub in_through : (G' L' : List Row) → ((g : Row) → Among g G' → InCone G L g) → ((l : Row) → Among l L' → InCone G L l × InCone G L (opposite l)) → {x : Row} → InCone G' L' x → InCone G L x
  unfolding NonNeg
  in_through G' L' f e {x} h = in_divide h.positive (in_same (same_sym h.same) (in_plus (in_combination h.c G' h.not_negative f) (in_combination_lines h.d L' e)))

-- ---- products with a cone
pub dot_combination : (a : Row) (c : List ℤ) (X : List Row) → NonNeg c → ((g : Row) → Among g X → pos 0 ≤ℤ dot a g) → pos 0 ≤ℤ dot a (combination c X)
unfolding NonNeg
dot_combination a [] X h f = simp dot-nil (omega (arith, ints))
dot_combination a (k ∷ c) [] h f = simp dot-nil (omega (arith, ints))
dot_combination a (k ∷ c) (g ∷ X) h f =
    let p = mul_nonneg h.0 (f g here) in
    let q = dot_combination a c X h.1 (λ y j. f y (there j)) in
    simp (dot-plus, dot-times) (omega (arith, ints))

pub dot_combination_lines : (a : Row) (d : List ℤ) (X : List Row) → ((g : Row) → Among g X → dot a g ≡ pos 0) → dot a (combination d X) ≡ pos 0
dot_combination_lines a [] X f = dot-nil a
dot_combination_lines a (k ∷ d) [] f = dot-nil a
dot_combination_lines a (k ∷ d) (g ∷ X) f =
    let p = f g here in
    let q = dot_combination_lines a d X (λ y j. f y (there j)) in
    simp (dot-plus, dot-times, p, q, ring)

pub dot_in : (a : Row) (G L : List Row) → ((g : Row) → Among g G → pos 0 ≤ℤ dot a g) → ((l : Row) → Among l L → dot a l ≡ pos 0) → {x : Row} → InCone G L x → pos 0 ≤ℤ dot a x
unfolding NonNeg
dot_in a G L f e {x} h =
    let p = simp (dot-plus, dot-times) at (dot-same a (times h.m x) (plus (combination h.c G) (combination h.d L)) h.same.at) in
    let q = dot_combination a h.c G h.not_negative f in
    let r = dot_combination_lines a h.d L e in
    nonneg_cancel h.positive (omega (arith, ints))

pub in_cone_set : (G L : List Row) → IsConeSet (InCone G L)
in_cone_set G L = record { same = in_same; sum = in_plus; multiple = in_times; part = in_divide }

-- ---- rows that lie in the span of lines
pub lines_opposite : (K : List Row) (x : Row) → InCone [] K x → InCone [] K (opposite x)
lines_opposite K x h = record {
  m = h.m;
  c = [];
  d = times (negsuc 0) h.d;
  positive = h.positive;
  not_negative = tt;
  same = record { at = λ i. let q = simp (entry-times, entry-plus, combination_none) at (h.same.at i) in simp (entry-times, entry-opposite, combination-times, neg_one_mul, ring) (omega (arith, ints)) };
}

-- ---- cones of the same generators
pub in_line_opposite : {G : List Row} {K : List Row} {l : Row} → Among l K → InCone G K (opposite l)
unfolding opposite
in_line_opposite i = in_line_times (negsuc 0) i

pub in_line : {G : List Row} {K : List Row} {l : Row} → Among l K → InCone G K l
in_line i = in_same (record { at = λ i. simp (entry-times, ring) }) (in_line_times (pos 1) i)

pub in_of : (G G' K : List Row) → ((g : Row) → Among g G' → Among g G) → {x : Row} → InCone G' K x → InCone G K x
in_of G G' K f h = in_through G K G' K (λ g i. in_generator (f g i)) (λ l i. (in_line i, in_line_opposite i)) h
