-- Two orders of one cone have as many rows, and as many of each sort that likeness keeps; how many rays and facets a thing has.
use Rattle.pm_vector.proofs.Lists.{Among, among_All, among_Contains, here, there}
use Rattle.pm_vector.proofs.ConeLaws.{in_cone_set}
use Rattle.pm_vector.proofs.RowLaws.{dot-plus, dot-same, dot-times, dot_comm, entry-opposite, entry-plus, entry-times, length-opposite, length-plus, length-times}
use Rattle.pm_vector.proofs.Ring.{ring}
use Rattle.pm_vector.proofs.Signs.{mul_nonneg, mul_pos, nonneg_cancel, times_both, weaken}
use Rattle.pm_vector.specs.Cones.{InCone, InSpan, IsConeSet}
use Rattle.pm_vector.specs.Numbers.{Ratio}
use Rattle.pm_vector.specs.Rows.{Row, dot, entry, opposite, plus, times}
use Rattle.pm_geom.proofs.Apart.{without, without_back, without_to}
use Rattle.pm_geom.proofs.Facets.{order_as}
use Rattle.pm_geom.specs.Cones.{InLineality, IsExtreme, IsExtremeRay, IsOrder, IsValid, SameModulo}
use Rattle.pm_geom.specs.Things.{AreFanOrders, Orders}
use Rattle.pm_object_type.specs.declared.object_type.ObjectType.TheVariants.{Cone, Fan, Polytope}
use Rattle.pm_object_type.specs.declared.object_type.ObjectType.{ObjectType}
use Rattle.pm_props.specs.declared.property.PropId.TheVariants.{Facets, NFacets, NVertices, Vertices}
use Rattle.pm_relations.proofs.Standing.{in_order_length, stand_length}
use Rattle.pm_types.specs.Right.{Right, SameFacet, SameRay}
use Rattle.pm_types.specs.Things.{AreOrders, AreOrdersOf, Thing}
use Rattle.pm_types.specs.Values.{matrix, whole}
use Rattle.std.proofs.Common.{ap, arith, refl, sym, ◌∙◌}
use Rattle.std.proofs.lemmas.Int.{ints}
use Rattle.std.specs.List.{AllPairs, Any}
use Rattle.std.specs.Prelude.{List, [], length, suc, ℕ, ◌+◌, ◌∷◌, ◌≡◌}
use lib.IntN.{pos, ℤ, neg_ℤ, ◌*ℤ◌, ◌+ℤ◌}
use lib.Signed.{◌≤ℤ◌}

-- ---- likeness
module _ (n : ℕ) (S : Row → Type 0) (cs : IsConeSet S) where
  opposite_line : (w : Row) → InLineality S w → InLineality S (opposite w)
  opposite_line w l = record { inside = l.opposed; opposed = cs.same (record { at = λ i. rw (entry-opposite (opposite w) i, entry-opposite w i) (omega (arith, ints)) }) l.inside }

  turned : (p u k r w : ℤ) → p *ℤ u ≡ k *ℤ r +ℤ w → k *ℤ r ≡ p *ℤ u +ℤ neg_ℤ w
  turned p u k r w e = omega (arith, ints)

  pub alike_back : {r u : Row} → SameModulo n S r u → SameModulo n S u r
  alike_back {r} {u} s = record {
    p = s.k;
    k = s.p;
    w = opposite s.w;
    cols = length-opposite s.w ∙ s.cols;
    p_positive = s.k_positive;
    k_positive = s.p_positive;
    line = opposite_line s.w s.line;
    same = record { at = λ i. let e = simp (entry-times, entry-plus) at (s.same.at i) in simp (entry-times, entry-plus, entry-opposite) (turned s.p (entry u i) s.k (entry r i) (entry s.w i) e) };
  }

  chained : (p u k r w q v l z : ℤ) → p *ℤ u ≡ k *ℤ r +ℤ w → q *ℤ v ≡ l *ℤ u +ℤ z → (p *ℤ q) *ℤ v ≡ (l *ℤ k) *ℤ r +ℤ (l *ℤ w +ℤ p *ℤ z)
  chained p u k r w q v l z e f =
      let a = simp ring at (times_both l e) in
      let b = simp ring at (times_both p f) in
      simp ring (omega (arith, ints))

  both_lines : (l p : ℤ) (w z : Row) → pos 0 ≤ℤ l → pos 0 ≤ℤ p → InLineality S w → InLineality S z → InLineality S (plus (times l w) (times p z))
  both_lines l p w z hl hp a b = record {
    inside = cs.sum (cs.multiple hl a.inside) (cs.multiple hp b.inside);
    opposed = cs.same (record { at = λ i. simp (entry-times, entry-plus, entry-opposite) (opened l p (entry w i) (entry z i)) }) (cs.sum (cs.multiple hl a.opposed) (cs.multiple hp b.opposed));
  }
    where
      opened : (l p w z : ℤ) → l *ℤ neg_ℤ w +ℤ p *ℤ neg_ℤ z ≡ neg_ℤ (l *ℤ w +ℤ p *ℤ z)
      opened l p w z = simp ring (omega (arith, ints))

  pub alike_on : {r u v : Row} → SameModulo n S r u → SameModulo n S u v → SameModulo n S r v
  alike_on {r} {u} {v} s t = record {
    p = s.p *ℤ t.p;
    k = t.k *ℤ s.k;
    w = plus (times t.k s.w) (times s.p t.w);
    cols = length-plus n (times t.k s.w) (times s.p t.w) (length-times t.k s.w ∙ s.cols) (length-times s.p t.w ∙ t.cols);
    p_positive = mul_pos s.p_positive t.p_positive;
    k_positive = mul_pos t.k_positive s.k_positive;
    line = both_lines t.k s.p s.w t.w (weaken t.k_positive) (weaken s.p_positive) s.line t.line;
    same = record {
      at = λ i.
          let e = simp (entry-times, entry-plus) at (s.same.at i) in
          let f = simp (entry-times, entry-plus) at (t.same.at i) in
          simp (entry-times, entry-plus) (chained s.p (entry u i) s.k (entry r i) (entry s.w i) t.p (entry v i) t.k (entry t.w i) e f);
    };
  }

-- ---- sums over lists
abbrev pub total : (Row → ℕ) → List Row → ℕ
total size [] = 0
total size (v ∷ V) = size v + total size V

pub total_ones : (X : List Row) → total (λ v. 1) X ≡ length X
total_ones [] = refl
total_ones (x ∷ X) = let e = total_ones X in omega arith

total_without : (size : Row → ℕ) {w : Row} {W : List Row} (i : Among w W) → total size W ≡ size w + total size (without i)
unfolding without
total_without size (here {xs = W}) = refl
total_without size {w} (there {y = y} {xs = W} i) = let e = total_without size i in omega arith

-- ---- lists in which no two rows are alike
module _ (R : Row → Row → Type 0) (back : (v w : Row) → R v w → R w v) (on : (u v w : Row) → R u v → R v w → R u w) where
  abbrev Once : List Row → Type 0
  Once [] = Unit {0}
  Once (v ∷ V) = ((w : Row) → Among w V → ¬ (R v w)) × Once V

  pub once_from : (V : List Row) → AllPairs (λ v w. ¬ (R v w)) V → Once V
  once_from [] h = tt
  once_from (v ∷ V) h = (
    λ w i. among_All (λ w. ¬ (R v w)) i (λ k d l. h 0 (suc k) d (omega arith) (omega arith)),
    once_from V (λ i j d l m. h (suc i) (suc j) d (omega arith) (omega arith)),
  )

  once_without : {w : Row} (W : List Row) (i : Among w W) → Once W → Once (without i)
  unfolding without
  once_without [] i h = elim i [ ]
  once_without (w ∷ W) here h = h.1
  once_without (y ∷ W) (there i) h = (λ z j. h.0 z (without_back i (there j)), once_without W i h.1)

  differs : {w : Row} (W : List Row) (i : Among w W) → Once W → {z : Row} → Among z (without i) → ¬ (R w z)
  unfolding without
  differs [] i h j = elim i [ ]
  differs (w ∷ W) here h j = h.0 _ j
  differs (y ∷ W) (there i) h here = λ r. h.0 _ i (back _ _ r)
  differs (y ∷ W) (there i) h (there j) = differs W i h.1 j

  abbrev Partner : Row → List Row → Type 0
  Partner v W = (w : Row) × Among w W × R v w

  -- the partner of z is not w, the partner of v
  other : {v w z : Row} {W : List Row} (i : Among w W) → R v w → ¬ (R v z) → Partner z W → Partner z (without i)
  other {v} {w} {z} i r n (u, j, s) = take (without_to i j) s
    where
      take : {u : Row} → Among u (w ∷ without i) → R z u → (x : Row) × Among x (without i) × R z x
      take here t = absurd (n (on v w z r (back z w t)))
      take (there {xs} k) t = (_, k, t)

  pub same_total : (size : Row → ℕ) (V W : List Row) → Once V → Once W → ((v : Row) → Among v V → Partner v W) → ((w : Row) → Among w W → Partner w V) → ((v w : Row) → Among v V → Among w W → R v w → size v ≡ size w) → total size V ≡ total size W
  same_total size [] [] a b f g s = refl
  same_total size [] (w ∷ W) a b f g s = absurd (elim (g w here).1 [ ])
  same_total size (v ∷ V) W a b f g s =
      let p = f v here in
      let rest = same_total size V (without p.1) a.1 (once_without W p.1 b)
      (λ z j. other p.1 p.2 (a.0 z j) (f z (there j)))
      (λ z j. tail p.2 (differs W p.1 b j) (g z (without_back p.1 (there j))))
      (λ x y j k r. s x y (there j) (without_back p.1 (there k)) r) in
      let e = s v p.0 here p.1 p.2 in
      let t = total_without size p.1 in
      omega arith
    where
      tail : {v w z : Row} {V : List Row} → R v w → ¬ (R w z) → (x : Row) × Among x (v ∷ V) × R z x → (x : Row) × Among x V × R z x
      tail r n (x, here, t) = absurd (n (back _ _ (on _ _ _ t r)))
      tail r n (x, there k, t) = (x, k, t)

-- ---- orders of one cone
any_back : (P : Row → Type 0) (W : List Row) → Any P W → (w : Row) × Among w W × P w
any_back P W a = (a.1, among_Contains W (a.0, a.2, a.3), a.4)

module _ (n : ℕ) (S : Row → Type 0) (cs : IsConeSet S) (V W : List Row) (o : IsOrder n S V) (q : IsOrder n S W) where
  pub orders_total : (size : Row → ℕ) → ((v w : Row) → Among v V → Among w W → SameModulo n S v w → size v ≡ size w) → total size V ≡ total size W
  orders_total size s = same_total (SameModulo n S) (λ v w r. alike_back n S cs r) (λ u v w r t. alike_on n S cs r t) size V W
      (once_from (SameModulo n S) (λ v w r. alike_back n S cs r) (λ u v w r t. alike_on n S cs r t) V o.once)
      (once_from (SameModulo n S) (λ v w r. alike_back n S cs r) (λ u v w r t. alike_on n S cs r t) W q.once)
      (λ v i. any_back (λ w. SameModulo n S v w) W (q.all v (among_All (λ u. IsExtreme n S u) i o.each)))
      (λ w i. any_back (λ v. SameModulo n S w v) V (o.all w (among_All (λ u. IsExtreme n S u) i q.each)))
      s

  pub orders_length : length V ≡ length W
  orders_length = sym (total_ones V) ∙ orders_total (λ v. 1) (λ v w i j s. refl) ∙ total_ones W

-- ---- a thing
-- the rows whose products with a cone are not negative, of any length
abbrev pub Holds : ℕ → List Row → List Row → Row → Type 0
Holds n G L a = (x : Row) → length x ≡ n → InCone G L x → pos 0 ≤ℤ dot a x

pub holds_set : (n : ℕ) (G L : List Row) → IsConeSet (Holds n G L)
holds_set n G L = record {
  same = λ {x = a} {y = b} s h x c i. let e = dot-same x a b s.at in rw (dot_comm b x, ← e, ← dot_comm a x) (h x c i);
  sum = λ {x = a} {y = b} h k x c i. let p = h x c i in let q = k x c i in rw (dot_comm (plus a b) x, dot-plus x a b, dot_comm x a, dot_comm x b) (omega (arith, ints));
  multiple = λ {k} {x = a} hk h x c i. rw (dot_comm (times k a) x, dot-times x k a, dot_comm x a) (mul_nonneg hk (h x c i));
  part = λ {k} {x = a} hk h x c i. nonneg_cancel hk (rw (dot_comm (times k a) x, dot-times x k a, dot_comm x a) at (h x c i));
}

pub facets_hold : (n : ℕ) (G L F : List Row) → IsOrder n (IsValid n G L) F → IsOrder n (Holds n G L) F
facets_hold n G L F o = order_as n (IsValid n G L) (Holds n G L) (λ a c v. v.holds) (λ a c h. record { cols = c; holds = h }) o

fan_rays : (n : ℕ) (Gs : List (List Row)) (L : List Row) (o p : Orders) → AreFanOrders n Gs L o → AreFanOrders n Gs L p → length o.rays ≡ length p.rays
fan_rays n Gs L o p a b = sym (total_ones o.rays) ∙ same_total R back on (λ v. 1) o.rays p.rays (once_from R back on o.rays a.once) (once_from R back on p.rays b.once)
    (partner o p a b) (partner p o b a) (λ v w i j s. refl) ∙ total_ones p.rays
  where
    R : Row → Row → Type 0
    R = SameModulo n (InSpan L)

    back : (v w : Row) → R v w → R w v
    back v w r = alike_back n (InSpan L) (in_cone_set [] L) r

    on : (u v w : Row) → R u v → R v w → R u w
    on u v w r s = alike_on n (InSpan L) (in_cone_set [] L) r s

    -- a ray of one order is one of some cone, and so has its like in the other
    partner : (o p : Orders) → AreFanOrders n Gs L o → AreFanOrders n Gs L p → (v : Row) → Among v o.rays → (w : Row) × Among w p.rays × R v w
    partner o p a b v i =
        let cone = among_All (λ v. Any (λ G. IsExtremeRay n G L v) Gs) i a.each in
        any_back (λ w. R v w) p.rays (among_All (λ G. (r : Row) → IsExtremeRay n G L r → Any (λ w. R r w) p.rays) (among_Contains Gs (cone.0, cone.2, cone.3)) b.all v cone.4)

-- two orders of a thing have as many rays
pub as_many_rays : (t : Thing) (o p : Orders) → AreOrders t o → AreOrders t p → length o.rays ≡ length p.rays
as_many_rays t o p = by t.of
  where
    by : (of : ObjectType) → AreOrdersOf of t.cols t.generators t.lines t.cones o → AreOrdersOf of t.cols t.generators t.lines t.cones p → length o.rays ≡ length p.rays
    by Polytope a b = orders_length t.cols (InCone t.generators t.lines) (in_cone_set t.generators t.lines) o.rays p.rays a.rays b.rays
    by Cone a b = orders_length t.cols (InCone t.generators t.lines) (in_cone_set t.generators t.lines) o.rays p.rays a.rays b.rays
    by Fan a b = fan_rays t.cols t.cones t.lines o p a b

-- two orders of a thing have as many facets
pub as_many_facets : (t : Thing) (o p : Orders) → AreOrders t o → AreOrders t p → length o.facets ≡ length p.facets
as_many_facets t o p = by t.of
  where
    alike : IsOrder t.cols (IsValid t.cols t.generators t.lines) o.facets → IsOrder t.cols (IsValid t.cols t.generators t.lines) p.facets → length o.facets ≡ length p.facets
    alike a b = orders_length t.cols (Holds t.cols t.generators t.lines) (holds_set t.cols t.generators t.lines) o.facets p.facets
        (facets_hold t.cols t.generators t.lines o.facets a) (facets_hold t.cols t.generators t.lines p.facets b)

    by : (of : ObjectType) → AreOrdersOf of t.cols t.generators t.lines t.cones o → AreOrdersOf of t.cols t.generators t.lines t.cones p → length o.facets ≡ length p.facets
    by Polytope a b = alike a.facets b.facets
    by Cone a b = alike a.facets b.facets
    by Fan a b = ap length (a.facets ∙ sym b.facets)

-- ---- how many rows a right value has
-- right VERTICES have as many rows as each order has rays
pub rows_of_vertices : (t : Thing) (o : Orders) → AreOrders t o → (n : ℕ) (rows : List (List Ratio)) (c : List Ratio) → Right Vertices (matrix n rows) t o c → (d : List Ratio) → Right NVertices (whole (pos (length rows))) t o d
rows_of_vertices t o orders n rows c h d p q = ap pos (sym (stand_length rows h.xs h.stand) ∙ in_order_length (SameRay t) o.rays h.xs h.order ∙ as_many_rays t o p orders q)

-- right FACETS have as many rows as each order has facets
pub rows_of_facets : (t : Thing) (o : Orders) → AreOrders t o → (n : ℕ) (rows : List (List Ratio)) (c : List Ratio) → Right Facets (matrix n rows) t o c → (d : List Ratio) → Right NFacets (whole (pos (length rows))) t o d
rows_of_facets t o orders n rows c h d p q = ap pos (sym (stand_length rows h.xs h.stand) ∙ in_order_length (SameFacet t) o.facets h.xs h.order ∙ as_many_facets t o p orders q)
