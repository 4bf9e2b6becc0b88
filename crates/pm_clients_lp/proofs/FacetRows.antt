-- Rows that stand for right FACETS are facet rows, and no two of them are the same.
use Rattle.pm_vector.proofs.RowLaws.{entry-opposite, entry-plus, entry-times, length-opposite, length-plus, length-times}
use Rattle.pm_vector.proofs.Ring.{ring}
use Rattle.pm_vector.proofs.Signs.{mul_nonneg, mul_pos, weaken}
use Rattle.pm_vector.specs.Cones.{IsConeSet}
use Rattle.pm_vector.specs.Numbers.{Ratio}
use Rattle.pm_vector.specs.Rows.{HasCols, Row, Same, entry, opposite, plus, times}
use Rattle.pm_vector.proofs.Lists.{all_at}
use Rattle.pm_dd.proofs.AlikeLaws.{line_opposite, line_plus, line_times}
use Rattle.pm_dd.proofs.StepLaws.{at_place}
use Rattle.pm_geom.proofs.Reduce.{extreme_as, same_modulo_as}
use Rattle.pm_geom.specs.Cones.{IsExtreme, IsFacetRow, IsOrder, IsValid, MultipleModulo, SameModulo}
use Rattle.pm_geom.specs.Faces.{ray}
use Rattle.pm_relations.proofs.Orders.{Holds, alike_back, alike_on, holds_set}
use Rattle.pm_relations.proofs.Standing.{in_order_at, in_order_length, same_direction, stand_at, stand_length}
use Rattle.pm_relations.proofs.Twins.{alike_inside}
use Rattle.pm_types.specs.Right.{InOrder, StandFor}
use Rattle.std.proofs.Common.{ap, arith, subst, sym, ◌∙◌}
use Rattle.std.proofs.lemmas.Int.{ints}
use Rattle.std.specs.Prelude.{List, [], length, ℕ, ◌<◌, ◌≡◌}
use lib.IntN.{neg_ℤ, pos, ℤ, ◌*ℤ◌, ◌+ℤ◌}
use lib.Signed.{◌<ℤ◌}

-- ---- what is alike to an extreme row is extreme
module _ (n : ℕ) (S : Row → Type 0) (cs : IsConeSet S) {r u : Row} (lu : length u ≡ n) (e : IsExtreme n S r) (s : SameModulo n S r u) where
  -- q u = x + y, as a sum that is a multiple of r
  summed : (p k q u r w x y : ℤ) → p *ℤ u ≡ k *ℤ r +ℤ w → q *ℤ u ≡ x +ℤ y → (q *ℤ k) *ℤ r ≡ p *ℤ x +ℤ (p *ℤ y +ℤ q *ℤ neg_ℤ w)
  summed p k q u r w x y e f =
      let a = simp ring at (ap (λ z. q *ℤ z) e) in
      let b = simp ring at (ap (λ z. p *ℤ z) f) in
      simp ring (omega (arith, ints))

  -- t (p x) = l r + z, as a multiple of u
  taken : (p k t l u r w x z : ℤ) → p *ℤ u ≡ k *ℤ r +ℤ w → t *ℤ (p *ℤ x) ≡ l *ℤ r +ℤ z → ((k *ℤ t) *ℤ p) *ℤ x ≡ (l *ℤ p) *ℤ u +ℤ (k *ℤ z +ℤ l *ℤ neg_ℤ w)
  taken p k t l u r w x z e f =
      let a = simp ring at (ap (λ y. l *ℤ y) e) in
      let b = simp ring at (ap (λ y. k *ℤ y) f) in
      simp ring (omega (arith, ints))

  half : (q : ℤ) (x y : Row) → pos 0 <ℤ q → length x ≡ n → length y ≡ n → S x → S y → Same (times q u) (plus x y) → MultipleModulo n S u x
  half q x y hq lx ly hx hy f =
      let x' = times s.p x in
      let y' = plus (times s.p y) (times q (opposite s.w)) in
      let t = (e.summands (q *ℤ s.k) x' y' (mul_pos hq s.k_positive) (length-times s.p x ∙ lx)
      (length-plus n (times s.p y) (times q (opposite s.w)) (length-times s.p y ∙ ly) (length-times q (opposite s.w) ∙ length-opposite s.w ∙ s.cols))
      (cs.multiple (weaken s.p_positive) hx) (cs.sum (cs.multiple (weaken s.p_positive) hy) (cs.multiple (weaken hq) s.line.opposed))
      (record { at = λ i. simp (entry-times, entry-plus, entry-opposite) (summed s.p s.k q (entry u i) (entry r i) (entry s.w i) (entry x i) (entry y i) (simp (entry-times, entry-plus) at (s.same.at i)) (simp (entry-times, entry-plus) at (f.at i))) })).0 in
      record {
        p = (s.k *ℤ t.p) *ℤ s.p;
        k = t.k *ℤ s.p;
        w = plus (times s.k t.w) (times t.k (opposite s.w));
        cols = length-plus n (times s.k t.w) (times t.k (opposite s.w)) (length-times s.k t.w ∙ t.cols) (length-times t.k (opposite s.w) ∙ length-opposite s.w ∙ s.cols);
        positive = mul_pos (mul_pos s.k_positive t.positive) s.p_positive;
        not_negative = mul_nonneg t.not_negative (weaken s.p_positive);
        line = line_plus n S cs (line_times n S cs (weaken s.k_positive) t.line) (line_times n S cs t.not_negative (line_opposite n S cs s.line));
        same = record { at = λ i. simp (entry-times, entry-plus, entry-opposite) (taken s.p s.k t.p t.k (entry u i) (entry r i) (entry s.w i) (entry x i) (entry t.w i) (simp (entry-times, entry-plus) at (s.same.at i)) (simp (entry-times, entry-plus) at (t.same.at i))) };
      }

  turned : (p k u r w : ℤ) → p *ℤ u ≡ k *ℤ r +ℤ w → k *ℤ neg_ℤ r ≡ p *ℤ neg_ℤ u +ℤ w
  turned p k u r w e = simp ring (omega (arith, ints))

  pub extreme_like : IsExtreme n S u
  extreme_like = record {
    cols = lu;
    inside = alike_inside n S cs r u s e.inside;
    not_line = λ h. e.not_line (cs.part s.k_positive (cs.same (record { at = λ i. simp (entry-times, entry-plus, entry-opposite) (sym (turned s.p s.k (entry u i) (entry r i) (entry s.w i) (simp (entry-times, entry-plus) at (s.same.at i)))) }) (cs.sum (cs.multiple (weaken s.p_positive) h) s.line.inside)));
    summands = λ q x y hq lx ly hx hy f. (half q x y hq lx ly hx hy f, half q y x hq ly lx hy hx (record { at = λ i. f.at i ∙ simp entry-plus (omega (arith, ints)) }));
  }

-- ---- FACETS
module _ (n : ℕ) (G L F xs A : List Row) (rows : List (List Ratio)) (o : IsOrder n (IsValid n G L) F) (order : InOrder (SameModulo n (IsValid n G L)) F xs) (sx : StandFor rows xs) (sA : StandFor rows A) (cols : HasCols n A) where
  abbrev S : Row → Type 0
  S = Holds n G L

  cs : IsConeSet S
  cs = holds_set n G L

  to : (a : Row) → length a ≡ n → IsValid n G L a → S a
  to a la h = h.holds

  from : (a : Row) → length a ≡ n → S a → IsValid n G L a
  from a la h = record { cols = la; holds = h }

  lengths : length A ≡ length F
  lengths = stand_length rows A sA ∙ sym (stand_length rows xs sx) ∙ in_order_length (SameModulo n (IsValid n G L)) F xs order

  facet : (i : ℕ) → i < length F → IsExtreme n S (ray F i)
  facet i l = extreme_as n (IsValid n G L) S to from (o.each i [] l)

  own_cols : (i : ℕ) → i < length A → length (ray A i) ≡ n
  own_cols i l = all_at (λ (x : Row). length x ≡ n) (at_place A i l) cols

  -- the row is alike to the facet row at its place
  alike : (i : ℕ) → i < length F → SameModulo n S (ray F i) (ray A i)
  alike i l =
      let k = lengths in
      let m = in_order_length (SameModulo n (IsValid n G L)) F xs order in
      let d = same_direction (stand_at rows xs sx i (omega arith)) (stand_at rows A sA i (omega arith)) in
      let f = facet i l in
      let nil = cs.multiple {k = pos 0} (omega (arith, ints)) f.inside in
      alike_on n S cs (same_modulo_as n (IsValid n G L) S to from (in_order_at (SameModulo n (IsValid n G L)) F xs order i l)) (record {
        p = d.q;
        k = d.p;
        w = times (pos 0) (ray F i);
        cols = length-times (pos 0) (ray F i) ∙ f.cols;
        p_positive = d.q_positive;
        k_positive = d.p_positive;
        line = record { inside = nil; opposed = cs.same (record { at = λ j. simp (entry-opposite, entry-times) (omega (arith, ints)) }) nil };
        same = record { at = λ j. sym (d.same.at j) ∙ simp (entry-plus, entry-times) (omega (arith, ints)) };
      })

  pub facet_row : (i : ℕ) → i < length A → IsFacetRow n G L (ray A i)
  facet_row i l = let k = lengths in extreme_as n S (IsValid n G L) from to (extreme_like n S cs (own_cols i l) (facet i (omega arith)) (alike i (omega arith)))

  pub facets_differ : (i j : ℕ) → i < j → j < length A → ¬ (ray A i ≡ ray A j)
  facets_differ i j l m e =
      let k = lengths in
      o.once i j [] l (omega arith) (same_modulo_as n S (IsValid n G L) from to (alike_on n S cs (alike i (omega arith)) (subst (λ a. SameModulo n S a (ray F j)) (sym e) (alike_back n S cs (alike j (omega arith))))))
