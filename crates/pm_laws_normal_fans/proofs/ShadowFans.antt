-- The shadows of the facets of a cone are a fan, whose rays are those of the cone's extreme rays that lie on some of
-- these facets.
use Rattle.pm_vector.proofs.ConeLaws.{in_generator}
use Rattle.pm_vector.proofs.Filters.{among_map, map_among}
use Rattle.pm_vector.proofs.Lists.{AllPairs_cons, All_among, Among, Any_among, Contains_among, all_from, among_All, among_Any, among_Contains, here, there}
use Rattle.pm_vector.proofs.Ring.{ring}
use Rattle.pm_vector.proofs.RowLaws.{dot-plus, dot-same, dot-times, dot_comm, entry-difference, entry-opposite, entry-plus, entry-times, length-difference, length-opposite}
use Rattle.pm_vector.proofs.Signs.{mul_pos}
use Rattle.pm_vector.specs.Cones.{InCone, InSpan}
use Rattle.pm_vector.specs.Rows.{HasCols, Row, difference, dot, entry, opposite, plus, times}
use Rattle.pm_geom.proofs.Facets.{opposite-dot, valid_by_products}
use Rattle.pm_geom.proofs.Faces.{difference-dot}
use Rattle.pm_geom.proofs.Polar.{cols_at}
use Rattle.pm_geom.specs.Cones.{InLineality, IsExtreme, IsExtremeRay, IsValid, MultipleModulo, SameModulo}
use Rattle.pm_geom.specs.Faces.{ray}
use Rattle.pm_geom.specs.Things.{AreFanOrders, IsConeThing}
use Rattle.pm_laws_normal_fans.proofs.Lifts.{among_rests, held_at, length-rest, lift, rests_among}
use Rattle.pm_laws_normal_fans.proofs.Places.{among_at, among_range, by_order, from_zero, map_at, map_length, no_pairs, pairs_head, pairs_tail, range_once}
use Rattle.pm_laws_normal_fans.proofs.Shadows.{HasShadows, IsUpright, Shadow, alike_above, alike_below, alike_in, face_in, is_shadow, line_zero, own_lines, ray_above, ray_below, row_least, zero_of}
use Rattle.pm_geom.proofs.Enough.{Enough, enough}
use Rattle.pm_laws_normal_fans.specs.Fans.{IsConeAt, IsFan, cone_at}
use Rattle.pm_laws_normal_fans.specs.Shadows.{AreUsed, InShadow, IsShadowFan, held, rest, rests, shadow_fan}
use Rattle.std.proofs.Common.{ap, arith, refl, subst, sym, ◌∙◌}
use Rattle.std.proofs.lemmas.Int.{by_lt_z, ints}
use Rattle.std.specs.List.{AllPairs, Any, Contains, range_with_len}
use Rattle.std.specs.Prelude.{List, [], length, suc, ℕ, ◌<◌, ◌↔◌, ◌∷◌, ◌≡◌}
use lib.IntN.{neg_ℤ, pos, ℤ, ◌*ℤ◌, ◌+ℤ◌}
use lib.Signed.{◌<ℤ◌, ◌≤ℤ◌}

rests_cols : (m : ℕ) (X : List Row) → HasCols (suc m) X → HasCols m (rests X)
rests_cols m X h = all_from (λ x. length x ≡ m) (rests X) (λ g i. let (b, ib, e) = among_rests X i in ap length e ∙ length-rest m b (cols_at ib h))

held_cols : (n : ℕ) (F : List Row) (a : Row) → HasCols n F → HasCols n (held F a)
held_cols n F a h = all_from (λ x. length x ≡ n) (held F a) (λ g i. cols_at (held_at F a i).0 h)

module _ (m : ℕ) (F E A : List Row) (h : HasShadows (suc m) F E A) where
  pub upright : (a : Row) → Among a A → IsUpright (suc m) F E a
  upright a i = record { valid = (among_All (λ a. IsExtreme (suc m) (IsValid (suc m) F E) a) i h.facets.each).inside; positive = among_All (λ a. pos 0 <ℤ entry a 0) i h.positive }

  -- ---- no shadow is in another
  module _ (a b : Row) (ia : Among a A) (ib : Among b A) (within : (c : Row) → length c ≡ m → Shadow m F E h.rows h.lines a (upright a ia) c → Shadow m F E h.rows h.lines b (upright b ib) c) where
    zero_too : (x : Row) → Among x F → dot x a ≡ pos 0 → dot x b ≡ pos 0
    zero_too x i o =
        let lx = cols_at i h.rows in
        zero_of m F E h.rows h.lines b (upright b ib) a x (upright a ia) o (row_least m F E h.rows h.lines b (upright b ib) x i) lx
        (within (rest x) (length-rest m x lx) (face_in m F E h.rows h.lines a (upright a ia) x (in_generator i) o))

    multiple : Enough F a b
    multiple = enough F a b (λ g i. row_least m F E h.rows h.lines a (upright a ia) g i) (λ g i o. let z = zero_too g i o in omega (arith, ints))

    abbrev left_over : Row
    left_over = difference multiple.m a (pos 1) b

    a_extreme : IsExtreme (suc m) (IsValid (suc m) F E) a
    a_extreme = among_All (λ a. IsExtreme (suc m) (IsValid (suc m) F E) a) ia h.facets.each

    b_extreme : IsExtreme (suc m) (IsValid (suc m) F E) b
    b_extreme = among_All (λ a. IsExtreme (suc m) (IsValid (suc m) F E) a) ib h.facets.each

    left_valid : IsValid (suc m) F E left_over
    left_valid = valid_by_products (suc m) F E h.rows h.lines left_over (length-difference (suc m) multiple.m a (pos 1) b a_extreme.cols b_extreme.cols)
        (λ g i. let e = difference-dot multiple.m a (pos 1) b g in let q = multiple.above g i in let c = dot_comm a g in let d = dot_comm b g in rw e (rw (c, d) (let f = simp ring at q in simp ring (omega (arith, ints)))))
        (λ l i. difference-dot multiple.m a (pos 1) b l ∙ (let c = dot_comm a l ∙ line_zero m F E h.rows h.lines a (upright a ia) l i in let d = dot_comm b l ∙ line_zero m F E h.rows h.lines b (upright b ib) l i in simp (c, d, ring)))

    split : MultipleModulo (suc m) (IsValid (suc m) F E) a b
    split = (a_extreme.summands multiple.m b left_over multiple.positive b_extreme.cols (length-difference (suc m) multiple.m a (pos 1) b a_extreme.cols b_extreme.cols) b_extreme.inside left_valid
        (record { at = λ i. simp (entry-times, entry-plus, entry-difference, ring) (omega (arith, ints)) })).0

    alike : SameModulo (suc m) (IsValid (suc m) F E) a b
    alike = by_lt_z (pos 0) split.k
        (λ up. record { p = split.p; k = split.k; w = split.w; cols = split.cols; p_positive = split.positive; k_positive = up; line = split.line; same = split.same })
        (λ low. absurd (b_extreme.not_line (opposite_valid low)))
      where
        numbers : (p k s a b w : ℤ) → k ≤ℤ pos 0 → pos 0 ≤ℤ k → p *ℤ b ≡ k *ℤ a +ℤ w → p *ℤ b ≡ w
        numbers p k s a b w low nn e = let z : k ≡ pos 0 = omega (arith, ints) in let f = simp (z, ring) at e in omega (arith, ints)

        product : (p pb pw : ℤ) → pos 0 <ℤ p → p *ℤ pb ≡ pw → pos 0 ≤ℤ neg_ℤ pw → pos 0 ≤ℤ neg_ℤ pb
        product p pb pw hp e q = by_lt_z (pos 0) pb (λ up. absurd (let r = mul_pos hp up in omega (arith, ints))) (λ low. omega (arith, ints))

        opposite_valid : split.k ≤ℤ pos 0 → IsValid (suc m) F E (opposite b)
        opposite_valid low = record {
          cols = length-opposite b ∙ b_extreme.cols;
          holds = λ x lx k.
              let q = rw opposite-dot at (split.line.opposed.holds x lx k) in
              let e : split.p *ℤ dot b x ≡ dot split.w x = same_product x in
              rw opposite-dot (product split.p (dot b x) (dot split.w x) split.positive e q);
        }
          where
            same_product : (x : Row) → split.p *ℤ dot b x ≡ dot split.w x
            same_product x =
                let s = dot-same x (times split.p b) (plus (times split.k a) split.w) split.same.at in
                let c = dot-times x split.p b in
                let d = dot-plus x (times split.k a) split.w in
                let f = dot-times x split.k a in
                let g = dot_comm b x in
                let j = dot_comm split.w x in
                numbers split.p split.k (pos 0) (dot x a) (dot b x) (dot split.w x) low split.not_negative (rw g (omega (arith, ints)))

  alike_back : (a b : Row) → SameModulo (suc m) (IsValid (suc m) F E) a b → SameModulo (suc m) (IsValid (suc m) F E) b a
  alike_back a b s = record {
    p = s.k;
    k = s.p;
    w = opposite s.w;
    cols = length-opposite s.w ∙ s.cols;
    p_positive = s.k_positive;
    k_positive = s.p_positive;
    line = record {
      inside = s.line.opposed;
      opposed = record { cols = length-opposite (opposite s.w) ∙ length-opposite s.w ∙ s.cols; holds = λ x lx k. let q = s.line.inside.holds x lx k in rw opposite-dot (rw opposite-dot (omega (arith, ints))) };
    };
    same = record { at = λ i. let e = simp (entry-times, entry-plus) at (s.same.at i) in simp (entry-times, entry-plus, entry-opposite) (omega (arith, ints)) };
  }

  -- ---- the cones
  pub cone_is : (k : ℕ) → k < length A → cone_at (shadow_fan F E A) k ≡ rests (held F (ray A k))
  cone_is k l = map_at (λ a. rests (held F a)) [] [] A k l

  cone_among : {G : List Row} → Among G (shadow_fan F E A).cones → (a : Row) × Among a A × (G ≡ rests (held F a))
  cone_among i = map_among (λ a. rests (held F a)) A i

  pub fan : IsFan m (shadow_fan F E A)
  fan = record {
    lines = rests_cols m E h.lines;
    cones = All_among (λ G. IsConeThing m G (rests E)) (shadow_fan F E A).cones (λ G i. let (a, ia, e) = cone_among i in record { generators = subst (HasCols m) (sym e) (rests_cols m (held F a) (held_cols (suc m) F a h.rows)); lines = rests_cols m E h.lines });
    lineality = All_among (λ G. (x : Row) → length x ≡ m → InLineality (InCone G (rests E)) x → InSpan (rests E) x) (shadow_fan F E A).cones
        (λ G i. let (a, ia, e) = cone_among i in subst (λ D. (x : Row) → length x ≡ m → InLineality (InCone D (rests E)) x → InSpan (rests E) x) (sym e) (own_lines m F E h.rows h.lines a (upright a ia) h.spanned));
    apart = λ i j li lj d f.
        let n = map_length (λ a. rests (held F a)) A in
        let ki : i < length A = omega arith in
        let kj : j < length A = omega arith in
        differ i j ki kj d (λ c lc k. subst (λ D. InCone D (rests E) c) (cone_is j kj) (f c lc (subst (λ D. InCone D (rests E) c) (sym (cone_is i ki)) k)));
  }
    where
      differ : (i j : ℕ) → (ki : i < length A) → (kj : j < length A) → ¬ (i ≡ j) → ((c : Row) → length c ≡ m → InCone (rests (held F (ray A i))) (rests E) c → InCone (rests (held F (ray A j))) (rests E) c) → ⊥
      differ i j ki kj d f =
          let s = alike (ray A i) (ray A j) (among_at [] A i ki) (among_at [] A j kj) f in
          by_order i j
          (λ l. h.facets.once i j [] l kj s)
          (λ l. h.facets.once j i [] l ki (alike_back (ray A i) (ray A j) s))
          (λ e. d e)

  pub cones : (k : ℕ) → k < length A → IsConeAt m (shadow_fan F E A) k (InShadow (suc m) (InCone F E) (ray A k))
  cones k l x lx = subst (λ D. InCone D (rests E) x ↔ InShadow (suc m) (InCone F E) (ray A k) x) (sym (cone_is k l)) (is_shadow m F E h.rows h.lines (ray A k) (upright (ray A k) (among_at [] A k l)) x lx)

  -- ---- the rays
  module _ (U : List Row) (used : AreUsed (suc m) F E A U) where
    record IsUsed (b : Row) : Type 0 where
      a : Row
      listed : Among a A
      row : Among b F
      zero : dot b a ≡ pos 0

    use_of : (b : Row) → Among b U → IsUsed b
    use_of b i =
        let u = among_All (λ b. Contains F b × Any (λ a. dot b a ≡ pos 0) A) i used.each in
        let (a, ia, o) = among_Any (λ a. dot b a ≡ pos 0) A u.1 in
        record { a = a; listed = ia; row = among_Contains F u.0; zero = o }

    f_extreme : (b : Row) → Among b F → IsExtreme (suc m) (InCone F E) b
    f_extreme b i = among_All (λ b. IsExtreme (suc m) (InCone F E) b) i h.order.each

    below : (a b : Row) → Among a A → Among b F → dot b a ≡ pos 0 → IsExtremeRay m (rests (held F a)) (rests E) (rest b)
    below a b ia ib o = ray_below m F E h.rows h.lines a (upright a ia) h.spanned b (f_extreme b ib) o

    each : (v : Row) → Among v (rests U) → Any (λ G. IsExtremeRay m G (rests E) v) (shadow_fan F E A).cones
    each v i =
        let (b, ib, e) = among_rests U i in
        let u = use_of b ib in
        Any_among (λ G. IsExtremeRay m G (rests E) v) (among_map (λ a. rests (held F a)) u.listed) (subst (λ z. IsExtremeRay m (rests (held F u.a)) (rests E) z) (sym e) (below u.a b u.listed u.row u.zero))

    all : (G : List Row) → Among G (shadow_fan F E A).cones → (r : Row) → IsExtremeRay m G (rests E) r → Any (λ v. SameModulo m (InSpan (rests E)) r v) (rests U)
    all G i r x =
        let (a, ia, e) = cone_among i in
        let y = subst (λ D. IsExtremeRay m D (rests E) r) e x in
        let (b, ib, s) = among_Any (λ b. SameModulo (suc m) (InCone F E) (lift a r) b) F (h.order.all (lift a r) (ray_above m F E h.rows h.lines a (upright a ia) h.spanned r y)) in
        let t = alike_below m F E h.rows h.lines a (upright a ia) h.spanned r b s in
        Any_among (λ v. SameModulo m (InSpan (rests E)) r v) (rests_among U (among_Contains U (among_All (λ b. Any (λ a. dot b a ≡ pos 0) A → Contains U b) ib used.all (Any_among (λ a. dot b a ≡ pos 0) ia t.0)))) t.1

    -- two used rows that are alike below are alike
    alike_used : (b c : Row) → Among b U → Among c U → SameModulo m (InSpan (rests E)) (rest b) (rest c) → SameModulo (suc m) (InCone F E) b c
    alike_used b c ib ic s =
        let u = use_of b ib in
        let w = use_of c ic in
        let inside = alike_in m F E h.rows h.lines u.a (upright u.a u.listed) h.spanned (rest b) (rest c) (face_in m F E h.rows h.lines u.a (upright u.a u.listed) b (in_generator u.row) u.zero) s in
        let o = zero_of m F E h.rows h.lines u.a (upright u.a u.listed) w.a c (upright w.a w.listed) w.zero (row_least m F E h.rows h.lines u.a (upright u.a u.listed) c w.row) (cols_at w.row h.rows) inside in
        alike_above m F E h.rows h.lines u.a (upright u.a u.listed) h.spanned b c u.zero o s

    once : (W : List Row) → ((b : Row) → Among b W → Among b U) → AllPairs (λ b c. ¬ (SameModulo (suc m) (InCone F E) b c)) W → AllPairs (λ v w. ¬ (SameModulo m (InSpan (rests E)) v w)) (rests W)
    once [] f o = no_pairs (λ v w. ¬ (SameModulo m (InSpan (rests E)) v w))
    once (b ∷ W) f o =
        AllPairs_cons (λ v w. ¬ (SameModulo m (InSpan (rests E)) v w)) (rest b) (rests W)
        (λ y i s. let (c, ic, e) = among_rests W i in pairs_head (λ b c. ¬ (SameModulo (suc m) (InCone F E) b c)) b W o ic (alike_used b c (f b here) (f c (there ic)) (subst (λ z. SameModulo m (InSpan (rests E)) (rest b) z) e s)))
        (once W (λ c i. f c (there i)) (pairs_tail (λ b c. ¬ (SameModulo (suc m) (InCone F E) b c)) b W o))

    orders : AreFanOrders m (shadow_fan F E A).cones (rests E) (record { rays = rests U; facets = []; cones = range_with_len 0 (length A) })
    orders = record {
      each = All_among (λ v. Any (λ G. IsExtremeRay m G (rests E) v) (shadow_fan F E A).cones) (rests U) each;
      all = All_among (λ G. (r : Row) → IsExtremeRay m G (rests E) r → Any (λ v. SameModulo m (InSpan (rests E)) r v) (rests U)) (shadow_fan F E A).cones all;
      once = once U (λ b i. i) used.once;
      facets = refl;
      places = All_among (λ i. i < length (shadow_fan F E A).cones) (range_with_len 0 (length A)) (λ k i. let r = (among_range 0 (length A) i).1 in let e = map_length (λ a. rests (held F a)) A in omega arith);
      every = λ i l. let e = map_length (λ a. rests (held F a)) A in Contains_among (from_zero (length A) i (omega arith));
      places_once = range_once 0 (length A);
    }

    rays : (k j : ℕ) → k < length A → j < length U → IsExtremeRay m (cone_at (shadow_fan F E A) k) (rests E) (ray (rests U) j) ↔ (dot (ray U j) (ray A k) ≡ pos 0)
    rays k j lk lj =
        let a = ray A k in
        let b = ray U j in
        let ia = among_at [] A k lk in
        let u = use_of b (among_at [] U j lj) in
        subst (λ v. IsExtremeRay m (cone_at (shadow_fan F E A) k) (rests E) v ↔ (dot b a ≡ pos 0)) (sym (map_at rest [] [] U j lj))
        (subst (λ D. IsExtremeRay m D (rests E) (rest b) ↔ (dot b a ≡ pos 0)) (sym (cone_is k lk)) (
          λ x. zero_of m F E h.rows h.lines a (upright a ia) u.a b (upright u.a u.listed) u.zero (row_least m F E h.rows h.lines a (upright a ia) b u.row) (cols_at u.row h.rows) x.inside,
          λ o. below a b ia u.row o,
        ))

pub shadow_fan_is : (m : ℕ) (F E A U : List Row) → HasShadows (suc m) F E A → AreUsed (suc m) F E A U → IsShadowFan m F E A U
shadow_fan_is m F E A U h used = record { fan = fan m F E A h; cones = cones m F E A h; orders = orders m F E A h U used; rays = rays m F E A h U used }
