-- The cones of a fan: the rays that a right set names are an order of the extreme rays of its cone, and with right LINEALITY_SPACE they span it.
use Rattle.pm_vector.proofs.ConeLaws.{in_cone_set, in_of, lines_opposite}
use Rattle.pm_vector.proofs.Filters.{among_map, map_among}
use Rattle.pm_vector.proofs.Lists.{AllPairs_cons, All_among, Among, Any_among, Contains_among, among_All, among_Any, among_Contains, here, there}
use Rattle.pm_vector.proofs.Ring.{ring}
use Rattle.pm_vector.proofs.RowLaws.{entry-opposite, entry-plus, entry-times, length-opposite, length-plus, length-times, same_sym}
use Rattle.pm_vector.proofs.Signs.{mul_nonneg, mul_pos, times_both, weaken}
use Rattle.pm_vector.specs.Cones.{InCone, InSpan, IsConeSet}
use Rattle.pm_vector.specs.Numbers.{Ratio}
use Rattle.pm_vector.specs.Rows.{HasCols, Row, Same, entry, opposite, plus, times}
use Rattle.pm_vector.proofs.Spans.{place_of, same_span, same_span_trans}
use Rattle.pm_vector.specs.Bases.{SameSpan}
use Rattle.pm_dd.proofs.AlikeLaws.{line_opposite, line_plus, line_times}
use Rattle.pm_geom.proofs.Spans.{order_spans}
use Rattle.pm_geom.specs.Cones.{InLineality, IsExtreme, IsExtremeRay, IsOrder, MultipleModulo, SameModulo}
use Rattle.pm_geom.specs.Faces.{ray}
use Rattle.pm_relations.proofs.Spans.{lineality_span}
use Rattle.pm_relations.proofs.Standing.{in_order_at, stand_at}
use Rattle.pm_relations.proofs.StandingSpans.{both_in, first_in, order_same, second_in, stand_for_same}
use Rattle.pm_types.specs.Forms.{are_indices}
use Rattle.pm_types.specs.Right.{InOrder, IsBasis, StandFor}
use Rattle.std.proofs.Common.{arith, subst, sym, true, ◌∙◌}
use Rattle.std.proofs.lemmas.Bool.{and_parts, leb-true, ltb-true}
use Rattle.std.proofs.lemmas.Int.{ints}
use Rattle.std.specs.List.{AllPairs, Any, Contains, slice_index_or}
use Rattle.std.specs.Prelude.{List, [], length, map, nat_le, nat_lt, suc, zero, ℕ, ◌&&◌, ◌++◌, ◌<◌, ◌≤◌, ◌↔◌, ◌∷◌, ◌≡◌}
use lib.IntN.{neg_ℤ, pos, ℤ, ◌*ℤ◌, ◌+ℤ◌}
use lib.Signed.{◌<ℤ◌, ◌≤ℤ◌}

-- ---- a row that is like an extreme one is extreme
module _ (n : ℕ) (S : Row → Type 0) (cs : IsConeSet S) where
  moved : (q u y z p k r w : ℤ) → q *ℤ u ≡ y +ℤ z → p *ℤ u ≡ k *ℤ r +ℤ w → (q *ℤ k) *ℤ r ≡ p *ℤ y +ℤ (p *ℤ z +ℤ q *ℤ neg_ℤ w)
  moved q u y z p k r w e f =
      let a = simp ring at (times_both p e) in
      let b = simp ring at (times_both q f) in
      simp ring (omega (arith, ints))

  carried : (k p' y k' r w' p u w : ℤ) → p' *ℤ y ≡ k' *ℤ r +ℤ w' → p *ℤ u ≡ k *ℤ r +ℤ w → k *ℤ p' *ℤ y ≡ k' *ℤ p *ℤ u +ℤ (k *ℤ w' +ℤ k' *ℤ neg_ℤ w)
  carried k p' y k' r w' p u w e f =
      let a = simp ring at (times_both k e) in
      let b = simp ring at (times_both k' f) in
      simp ring (omega (arith, ints))

  over_times : (k p' p y : ℤ) → (k *ℤ (p' *ℤ p)) *ℤ y ≡ k *ℤ p' *ℤ (p *ℤ y)
  over_times k p' p y = simp ring

  -- a summand of u is a multiple of u, where u is like the extreme r
  summand_of : {r u : Row} → IsExtreme n S r → SameModulo n S r u → (q : ℤ) (y z : Row) → pos 0 <ℤ q → length y ≡ n → length z ≡ n → S y → S z → Same (times q u) (plus y z) → MultipleModulo n S u y
  summand_of {r} {u} e t q y z hq ly lz hy hz s =
      let rest = plus (times t.p z) (times q (opposite t.w)) in
      let same : Same (times (q *ℤ t.k) r) (plus (times t.p y) rest) = record { at = λ i. simp (entry-times, entry-plus, entry-opposite) (moved q (entry u i) (entry y i) (entry z i) t.p t.k (entry r i) (entry t.w i) (simp (entry-times, entry-plus) at (s.at i)) (simp (entry-times, entry-plus) at (t.same.at i))) } in
      let m = (e.summands (q *ℤ t.k) (times t.p y) rest (mul_pos hq t.k_positive) (length-times t.p y ∙ ly)
      (length-plus n (times t.p z) (times q (opposite t.w)) (length-times t.p z ∙ lz) (length-times q (opposite t.w) ∙ length-opposite t.w ∙ t.cols))
      (cs.multiple (weaken t.p_positive) hy) (cs.sum (cs.multiple (weaken t.p_positive) hz) (cs.multiple (weaken hq) t.line.opposed)) same).0 in
      record {
        p = t.k *ℤ (m.p *ℤ t.p);
        k = m.k *ℤ t.p;
        w = plus (times t.k m.w) (times m.k (opposite t.w));
        cols = length-plus n (times t.k m.w) (times m.k (opposite t.w)) (length-times t.k m.w ∙ m.cols) (length-times m.k (opposite t.w) ∙ length-opposite t.w ∙ t.cols);
        positive = mul_pos t.k_positive (mul_pos m.positive t.p_positive);
        not_negative = mul_nonneg m.not_negative (weaken t.p_positive);
        line = line_plus n S cs (line_times n S cs (weaken t.k_positive) m.line) (line_times n S cs m.not_negative (line_opposite n S cs t.line));
        same = record {
          at = λ i.
              let a = simp (entry-times, entry-plus) at (m.same.at i) in
              let b = simp (entry-times, entry-plus) at (t.same.at i) in
              let c = carried t.k m.p (t.p *ℤ entry y i) m.k (entry r i) (entry m.w i) t.p (entry u i) (entry t.w i) a b in
              simp (entry-times, entry-plus, entry-opposite) (rw (over_times t.k m.p t.p (entry y i)) c);
        };
      }

  swapped : (q u y z : ℤ) → q *ℤ u ≡ y +ℤ z → q *ℤ u ≡ z +ℤ y
  swapped q u y z e = omega (arith, ints)

  turned : (p u k r w : ℤ) → p *ℤ u ≡ k *ℤ r +ℤ w → p *ℤ neg_ℤ u +ℤ w ≡ k *ℤ neg_ℤ r
  turned p u k r w e = simp ring (omega (arith, ints))

  pub extreme_alike : {r u : Row} → length u ≡ n → IsExtreme n S r → SameModulo n S r u → IsExtreme n S u
  extreme_alike {r} {u} lu e t = record {
    cols = lu;
    inside = cs.part t.p_positive (cs.same (same_sym t.same) (cs.sum (cs.multiple (weaken t.k_positive) e.inside) t.line.inside));
    not_line = λ h. e.not_line (cs.part t.k_positive (cs.same (record { at = λ i. simp (entry-times, entry-plus, entry-opposite) (turned t.p (entry u i) t.k (entry r i) (entry t.w i) (simp (entry-times, entry-plus) at (t.same.at i))) }) (cs.sum (cs.multiple (weaken t.p_positive) h) t.line.inside)));
    summands = λ q y z hq ly lz hy hz s. (
      summand_of e t q y z hq ly lz hy hz s,
      summand_of e t q z y hq lz ly hz hy (record { at = λ i. simp (entry-times, entry-plus) (swapped q (entry u i) (entry y i) (entry z i) (simp (entry-times, entry-plus) at (s.at i))) }),
    );
  }

-- ---- ascending places
record NextIndex (n low k : ℕ) (set : List ℕ) : Type 0 where
  above : low ≤ k
  below : k < n
  rest : are_indices n (suc k) set ≡ true

next_index : (n low k : ℕ) (set : List ℕ) → are_indices n low (k ∷ set) ≡ true → NextIndex n low k set
next_index n low k set h =
    let p = and_parts (nat_le low k && nat_lt k n) (are_indices n (suc k) set) h in
    let q = and_parts (nat_le low k) (nat_lt k n) p.0 in
    record { above = leb-true low k q.0; below = ltb-true k n q.1; rest = p.1 }

pub indices_above : (n low : ℕ) (set : List ℕ) → are_indices n low set ≡ true → (j : ℕ) → Among j set → low ≤ j
indices_above n low [] h j i = elim i [ ]
indices_above n low (k ∷ set) h j here = (next_index n low k set h).above
indices_above n low (k ∷ set) h j (there i) =
    let x = next_index n low k set h in
    let a = x.above in
    let r = indices_above n (suc k) set x.rest j i in
    omega arith

-- ---- rows at places
-- the places have rows of V
abbrev pub AreBelow : List Row → List ℕ → Type 0
AreBelow V set = (j : ℕ) → Among j set → j < length V

no_pairs : (R : Row → Row → Type 0) → AllPairs R []
no_pairs R i j d l m = absurd (omega arith)

once_at : (R : Row → Row → Type 0) (V : List Row) (n low : ℕ) (set : List ℕ) → are_indices n low set ≡ true → AreBelow V set → AllPairs R V → AllPairs R (map (ray V) set)
once_at R V n low [] h b once = no_pairs R
once_at R V n low (j ∷ set) h b once =
    AllPairs_cons R (ray V j) (map (ray V) set)
    (λ y i.
    let (k, a, e) = map_among (ray V) set i in
    let above = indices_above n (suc j) set (next_index n low j set h).rest k a in
    subst (λ z. R (ray V j) z) (sym e) (once j k [] (omega arith) (b k (there a))))
    (once_at R V n (suc j) set (next_index n low j set h).rest (λ k i. b k (there i)) once)

pub in_order_set : (R : Row → Row → Type 0) (V xs : List Row) (set : List ℕ) → InOrder R V xs → AreBelow V set → InOrder R (map (ray V) set) (map (ray xs) set)
in_order_set R V xs [] o b = tt
in_order_set R V xs (j ∷ set) o b = (in_order_at R V xs o j (b j here), in_order_set R V xs set o (λ k i. b k (there i)))

abbrev pub fractions_at : List (List Ratio) → List ℕ → List (List Ratio)
fractions_at rows set = map (λ j. slice_index_or rows j []) set

pub stand_for_set : (rows : List (List Ratio)) (xs : List Row) (set : List ℕ) → StandFor rows xs → AreBelow xs set → StandFor (fractions_at rows set) (map (ray xs) set)
stand_for_set rows xs [] s b = tt
stand_for_set rows xs (j ∷ set) s b = (stand_at rows xs s j (b j here), stand_for_set rows xs set s (λ k i. b k (there i)))

pub swap_span : (X Y : List Row) → SameSpan (X ++ Y) (Y ++ X)
swap_span X Y = same_span (X ++ Y) (Y ++ X) (both_in (Y ++ X) X Y (second_in Y X) (first_in Y X)) (both_in (X ++ Y) Y X (second_in X Y) (first_in X Y))

-- ---- one cone over the fan's lines, which are its lineality
module _ (n : ℕ) (G L : List Row) (own : (x : Row) → length x ≡ n → InLineality (InCone G L) x → InSpan L x) where
  span_line : {x : Row} → InSpan L x → InLineality (InCone G L) x
  span_line {x} h = record { inside = in_of G [] L (λ g i. elim i [ ]) h; opposed = in_of G [] L (λ g i. elim i [ ]) (lines_opposite L x h) }

  pub alike_in_cone : {v w : Row} → SameModulo n (InSpan L) v w → SameModulo n (InCone G L) v w
  alike_in_cone s = record { p = s.p; k = s.k; w = s.w; cols = s.cols; p_positive = s.p_positive; k_positive = s.k_positive; line = span_line s.line.inside; same = s.same }

  pub alike_in_fan : {v w : Row} → SameModulo n (InCone G L) v w → SameModulo n (InSpan L) v w
  alike_in_fan s = let i = own s.w s.cols s.line in record { p = s.p; k = s.k; w = s.w; cols = s.cols; p_positive = s.p_positive; k_positive = s.k_positive; line = record { inside = i; opposed = lines_opposite L s.w i }; same = s.same }

  module _ (V : List Row) (cols : (v : Row) → Among v V → length v ≡ n) (every : (r : Row) → IsExtremeRay n G L r → Any (λ v. SameModulo n (InSpan L) r v) V) (once : AllPairs (λ v w. ¬ (SameModulo n (InSpan L) v w)) V)
      (m : ℕ) (set : List ℕ) (ascends : are_indices m 0 set ≡ true) (are : (j : ℕ) → Contains set j ↔ ((j < length V) × IsExtremeRay n G L (ray V j))) where
    pub places_below : AreBelow V set
    places_below j i = ((are j).0 (Contains_among i)).0

    ray_of : (r : Row) → IsExtremeRay n G L r → Any (λ v. SameModulo n (InCone G L) r v) (map (ray V) set)
    ray_of r e =
        let (v, i, s) = among_Any (λ v. SameModulo n (InSpan L) r v) V (every r e) in
        let (k, below, is) = place_of i in
        let here = subst (λ z. IsExtremeRay n G L z) (sym is) (extreme_alike n (InCone G L) (in_cone_set G L) (cols v i) e (alike_in_cone s)) in
        Any_among (λ v. SameModulo n (InCone G L) r v) (among_map (ray V) (among_Contains set ((are k).1 (below, here)))) (subst (λ z. SameModulo n (InCone G L) r z) (sym is) (alike_in_cone s))

    pub set_order : IsOrder n (InCone G L) (map (ray V) set)
    set_order = record {
      each = All_among (λ v. IsExtremeRay n G L v) (map (ray V) set) (λ v i. let (j, a, e) = map_among (ray V) set i in subst (λ z. IsExtremeRay n G L z) (sym e) ((are j).0 (Contains_among a)).1);
      all = ray_of;
      once = once_at (λ v w. ¬ (SameModulo n (InCone G L) v w)) V m 0 set ascends places_below (λ i j d l b s. once i j d l b (alike_in_fan s));
    }

    module _ (hg : HasCols n G) (hl : HasCols n L) (K : List Row) (basis : IsBasis n (InSpan L) K) where
      lines_to : (x : Row) → length x ≡ n → InLineality (InCone G L) x ↔ InSpan K x
      lines_to x l = (λ h. basis.spans x l (own x l h), λ h. lineality_span G L K (λ k i. span_line (among_All (λ y. InSpan L y) i basis.inside)) h)

      -- whole rows for right RAYS, at the places of the set, and for right LINEALITY_SPACE span the cone
      pub set_spans : (rays lines : List (List Ratio)) (xs ps ls : List Row) → InOrder (SameModulo n (InSpan L)) V xs → length xs ≡ length V → length ps ≡ length V → StandFor rays xs → StandFor rays ps → StandFor lines K → StandFor lines ls → SameSpan (ls ++ map (ray ps) set) (G ++ L)
      set_spans rays lines xs ps ls order lx lp sx sp sk sl =
          let order' : InOrder (SameModulo n (InCone G L)) (map (ray V) set) (map (ray xs) set) = in_order_set (SameModulo n (InCone G L)) V xs set (in_cone V xs order) places_below in
          same_span_trans (swap_span ls (map (ray ps) set))
          (same_span_trans (stand_for_same (fractions_at rays set) lines (map (ray ps) set) (map (ray xs) set) ls K (stand_for_set rays ps set sp (λ j i. let b = places_below j i in omega arith)) (stand_for_set rays xs set sx (λ j i. let b = places_below j i in omega arith)) sl sk)
          (same_span_trans (order_same n (InCone G L) K (λ w l h. (lines_to w l).0 h) (map (ray V) set) (map (ray xs) set) order')
          (order_spans n G L hg hl (map (ray V) set) K basis.cols set_order lines_to)))
        where
          in_cone : (V xs : List Row) → InOrder (SameModulo n (InSpan L)) V xs → InOrder (SameModulo n (InCone G L)) V xs
          in_cone [] [] o = tt
          in_cone [] (x ∷ xs) o = o
          in_cone (v ∷ V) [] o = o
          in_cone (v ∷ V) (x ∷ xs) o = (alike_in_cone o.0, in_cone V xs o.1)
