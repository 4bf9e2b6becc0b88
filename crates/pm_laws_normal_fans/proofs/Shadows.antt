-- The fan of the shadows of the facets of a cone.
use Rattle.pm_vector.proofs.ConeLaws.{dot_in, in_divide, in_generator, in_line, in_line_opposite, in_of, in_plus, in_same, in_times, in_to_after, in_zero, lines_opposite}
use Rattle.pm_vector.proofs.Lists.{Among, here, there}
use Rattle.pm_vector.proofs.Ring.{ring}
use Rattle.pm_vector.proofs.RowLaws.{dot-difference, dot_comm, dot-plus, dot-same, dot-times, entry-difference, entry-opposite, entry-plus, entry-times, length-opposite, same_sym}
use Rattle.pm_vector.proofs.Signs.{le_cancel, mul_nonneg, mul_pos, mul_cancel, times_both, weaken}
use Rattle.pm_vector.specs.Cones.{InCone, InSpan, IsConeSet}
use Rattle.pm_vector.specs.Rows.{HasCols, Row, Same, difference, dot, entry, opposite, plus, times}
use Rattle.pm_geom.proofs.Facets.{opposite-dot}
use Rattle.pm_geom.proofs.Polar.{cols_at}
use Rattle.pm_geom.specs.Cones.{InLineality, IsExtreme, IsOrder, IsValid, MultipleModulo, SameModulo}
use Rattle.pm_laws_normal_fans.proofs.ConeSets.{of_cone}
use Rattle.pm_laws_normal_fans.proofs.Lifts.{among_rests, by_entries, entry-rest, first-lift, held_all, held_at, in_rest, length-lift, length-rest, lift, lift-more, lift-opposite, lift-plus, lift-rest, lift-same, lift-times, null-lift, others-lift}
use Rattle.pm_laws_normal_fans.specs.Shadows.{InShadow, held, rest, rests}
use Rattle.std.proofs.Common.{ap, arith, subst, sym, ◌∙◌}
use Rattle.std.proofs.lemmas.Int.{by_lt_z, ints}
use Rattle.std.specs.List.{All}
use Rattle.std.specs.Prelude.{List, [], length, suc, ℕ, ◌↔◌, ◌∷◌, ◌≡◌}
use lib.IntN.{neg_ℤ, pos, ℤ, ◌*ℤ◌, ◌+ℤ◌, ◌-ℤ◌}
use lib.Signed.{◌<ℤ◌, ◌≤ℤ◌}

-- F is an order of the cone of F and E, E spans its lineality, and A is an order of the rows that are valid on it, each
-- with a positive first entry
pub record HasShadows (n : ℕ) (F E A : List Row) : Type 0 where
  pub rows : HasCols n F
  pub lines : HasCols n E
  pub order : IsOrder n (InCone F E) F
  pub spanned : (x : Row) → length x ≡ n → InLineality (InCone F E) x → InSpan E x
  pub facets : IsOrder n (IsValid n F E) A
  pub positive : All (λ a. pos 0 <ℤ entry a 0) A

-- ---- only rows that vanish at a are used by one that does
no_more : (p q x g r : ℤ) → pos 0 ≤ℤ q → pos 0 <ℤ g → pos 0 ≤ℤ r → r ≡ p *ℤ x -ℤ q *ℤ g → x ≡ pos 0 → q ≡ pos 0
no_more p q x g r hq hg hr e o =
    let b = simp (o, ring) at e in
    let c : q ≤ℤ pos 0 = le_cancel hg (simp ring (omega (arith, ints))) in
    omega (arith, ints)

rest_zero : (p q x g r : ℤ) → pos 0 ≤ℤ q → pos 0 ≤ℤ g → pos 0 ≤ℤ r → r ≡ p *ℤ x -ℤ q *ℤ g → x ≡ pos 0 → r ≡ pos 0
rest_zero p q x g r hq hg hr e o =
    let b = simp (o, ring) at e in
    let c = mul_nonneg hq hg in
    omega (arith, ints)

module _ (a : Row) (E H : List Row) (null : (e : Row) → Among e E → dot e a ≡ pos 0) where
  kept : (F : List Row) → ((g : Row) → Among g F → pos 0 ≤ℤ dot g a) → ((g : Row) → Among g F → dot g a ≡ pos 0 → Among g H) → (x : Row) → InCone F E x → dot x a ≡ pos 0 → InCone H E x
  kept [] f k x h o = in_of H [] E (λ g i. elim i [ ]) h
  kept (g ∷ F) f k x h o =
      let t = in_to_after F E g x h in
      let e : dot (difference t.p x t.q g) a ≡ t.p *ℤ dot x a -ℤ t.q *ℤ dot g a = dot_comm (difference t.p x t.q g) a ∙ dot-difference a t.p x t.q g ∙ ap (λ z. t.p *ℤ z -ℤ t.q *ℤ dot a g) (dot_comm a x) ∙ ap (λ z. t.p *ℤ dot x a -ℤ t.q *ℤ z) (dot_comm a g) in
      let nn : pos 0 ≤ℤ dot (difference t.p x t.q g) a = rw dot_comm (dot_in a F E (λ b i. rw dot_comm (f b (there i))) (λ l i. dot_comm a l ∙ null l i) t.rest) in
      let z = rest_zero t.p t.q (dot x a) (dot g a) (dot (difference t.p x t.q g) a) t.not_negative (f g here) nn e o in
      let r : InCone H E (difference t.p x t.q g) = kept F (λ b i. f b (there i)) (λ b i. k b (there i)) (difference t.p x t.q g) t.rest z in
      by_lt_z (pos 0) (dot g a)
      (λ up. let q0 = no_more t.p t.q (dot x a) (dot g a) (dot (difference t.p x t.q g) a) t.not_negative up nn e o in
      in_divide t.positive (in_same (record { at = λ i. simp (entry-times, entry-difference, q0, ring) (omega (arith, ints)) }) r))
      (λ low. let f0 = f g here in let g0 : dot g a ≡ pos 0 = omega (arith, ints) in
      in_divide t.positive (in_same (record { at = λ i. simp (entry-times, entry-plus, entry-difference, ring) (omega (arith, ints)) }) (in_plus r (in_times t.not_negative (in_generator (k g here g0))))))

-- ---- one row that is valid on the cone of F and E, with a positive first entry
pub record IsUpright (n : ℕ) (F E : List Row) (a : Row) : Type 0 where
  pub valid : IsValid n F E a
  pub positive : pos 0 <ℤ entry a 0

module _ (m : ℕ) (F E : List Row) (hf : HasCols (suc m) F) (he : HasCols (suc m) E) where
  module _ (a : Row) (up : IsUpright (suc m) F E a) where
    pub at_least : (x : Row) → length x ≡ suc m → InCone F E x → pos 0 ≤ℤ dot x a
    at_least x lx h = rw dot_comm (up.valid.holds x lx h)

    pub line_zero : (e : Row) → Among e E → dot e a ≡ pos 0
    line_zero e i =
        let p = at_least e (cols_at i he) (in_line i) in
        let q = rw opposite-dot at (at_least (opposite e) (length-opposite e ∙ cols_at i he) (in_line_opposite i)) in
        omega (arith, ints)

    pub row_least : (g : Row) → Among g F → pos 0 ≤ℤ dot g a
    row_least g i = at_least g (cols_at i hf) (in_generator i)

    -- the shadow of the face on which a vanishes
    abbrev pub Shadow : Row → Type 0
    Shadow = InCone (rests (held F a)) (rests E)

    -- rows whose lifts are in the cone
    lifted : IsConeSet (λ c. InCone F E (lift a c))
    lifted = record {
      same = λ {x} {y} s h. in_same (lift-same a x y s) h;
      sum = λ {x} {y} h k. in_same (lift-plus a x y) (in_plus h k);
      multiple = λ {k} {x} hk h. in_same (lift-times a k x) (in_times hk h);
      part = λ {k} {x} hk h. in_divide hk (in_same (same_sym (lift-times a k x)) h);
    }

    lifted_none : InCone F E (lift a [])
    lifted_none = in_zero (λ i. let z : Same (lift a []) [] = by_entries (lift a []) [] (first-lift a []) (λ i. let e = others-lift a [] i in simp (e, ring)) in z.at i)

    pub to_lift : (c : Row) → Shadow c → InCone F E (lift a c)
    to_lift = of_cone (λ c. InCone F E (lift a c)) lifted lifted_none (rests (held F a)) (rests E)
        (λ g i. let (b, ib, e) = among_rests (held F a) i in let k = held_at F a ib in subst (λ z. InCone F E (lift a z)) (sym e) (in_same (same_sym (lift-rest a b k.1)) (in_times (weaken up.positive) (in_generator k.0))))
        (λ l i. let (b, ib, e) = among_rests E i in
        let s = lift-rest a b (line_zero b ib) in (
          subst (λ z. InCone F E (lift a z)) (sym e) (in_same (same_sym s) (in_times (weaken up.positive) (in_line ib))),
          subst (λ z. InCone F E (lift a (opposite z))) (sym e) (in_same (lift-opposite a (rest b)) (in_same (record { at = λ i. let q = s.at i in let r = simp entry-times at q in simp (entry-opposite, entry-times, r, ring) }) (in_times (weaken up.positive) (in_line_opposite ib)))),
        ))

    -- a row of the cone on which a vanishes, without its first entry
    pub face_in : (x : Row) → InCone F E x → dot x a ≡ pos 0 → Shadow (rest x)
    face_in x h o = in_rest (held F a) E x (kept a E (held F a) line_zero F row_least (λ g i e. held_all F a i e) x h o)

    rest_of_lift : (c : Row) → Same (rest (lift a c)) (times (entry a 0) c)
    rest_of_lift c = record { at = λ i. let e = entry-rest (lift a c) i in let f = others-lift a c i in simp (e, f, entry-times) }

    pub from_lift : (c : Row) → InCone F E (lift a c) → Shadow c
    from_lift c h = in_divide up.positive (in_same (rest_of_lift c) (face_in (lift a c) h (null-lift a c)))

    pub is_shadow : (c : Row) → length c ≡ m → Shadow c ↔ InShadow (suc m) (InCone F E) a c
    is_shadow c lc = (
      λ h. record { factor = entry a 0; row = lift a c; positive = up.positive; cols = length-lift m a c lc; inside = to_lift c h; zero = dot_comm a (lift a c) ∙ null-lift a c; same = λ i. sym (others-lift a c i) },
      λ s. in_divide s.positive (in_same (record { at = λ i. let e = s.same i in let r = entry-rest s.row i in simp (entry-times, r, e) }) (face_in s.row s.inside (dot_comm s.row a ∙ s.zero))),
    )

    -- a row whose shadow is in this one, and on which another such row vanishes, vanishes here too
    pub zero_of : (w x : Row) → IsUpright (suc m) F E w → dot x w ≡ pos 0 → pos 0 ≤ℤ dot x a → length x ≡ suc m → Shadow (rest x) → dot x a ≡ pos 0
    zero_of w x uw o nn lx h =
        let e = lift-more a x w in
        let l = length-lift m a (rest x) (length-rest m x lx) in
        let p = (rw dot_comm at (uw.valid.holds (lift a (rest x)) l (to_lift (rest x) h))) in
        vanish (entry a 0) (dot x w) (dot (lift a (rest x)) w) (dot x a) (entry w 0) e o p nn uw.positive
      where
        vanish : (a0 xw lw xa w0 : ℤ) → a0 *ℤ xw ≡ lw +ℤ xa *ℤ w0 → xw ≡ pos 0 → pos 0 ≤ℤ lw → pos 0 ≤ℤ xa → pos 0 <ℤ w0 → xa ≡ pos 0
        vanish a0 xw lw xa w0 e o p nn up = by_lt_z (pos 0) xa
            (λ high. absurd (let q = mul_pos high up in let f = simp (o, ring) at e in omega (arith, ints)))
            (λ low. omega (arith, ints))

    module _ (spanned : (x : Row) → length x ≡ suc m → InLineality (InCone F E) x → InSpan E x) where
      line_lift : (z : Row) → InLineality Shadow z → InLineality (InCone F E) (lift a z)
      line_lift z h = record { inside = to_lift z h.inside; opposed = in_same (same_sym (lift-opposite a z)) (to_lift (opposite z) h.opposed) }

      -- the lineality of the shadow
      pub own_lines : (c : Row) → length c ≡ m → InLineality Shadow c → InSpan (rests E) c
      own_lines c lc h = in_divide up.positive (in_same (rest_of_lift c) (in_rest [] E (lift a c) (spanned (lift a c) (length-lift m a c lc) (line_lift c h))))

      span_line : (z : Row) → InSpan (rests E) z → InLineality Shadow z
      span_line z h = record { inside = in_of (rests (held F a)) [] (rests E) (λ g i. elim i [ ]) h; opposed = in_of (rests (held F a)) [] (rests E) (λ g i. elim i [ ]) (lines_opposite (rests E) z h) }

      line_rest : (w : Row) → length w ≡ suc m → InLineality (InCone F E) w → InSpan (rests E) (rest w)
      line_rest w lw h = in_rest [] E w (spanned w lw h)

      line_null : (w : Row) → length w ≡ suc m → InLineality (InCone F E) w → dot w a ≡ pos 0
      line_null w lw h =
          let p = at_least w lw h.inside in
          let q = rw opposite-dot at (at_least (opposite w) (length-opposite w ∙ lw) h.opposed) in
          omega (arith, ints)

      -- ---- multiples, below and above
      down : (b u : Row) → dot b a ≡ pos 0 → MultipleModulo (suc m) (InCone F E) b (lift a u) → MultipleModulo m Shadow (rest b) u
      down b u o t = record {
        p = t.p *ℤ entry a 0;
        k = t.k;
        w = rest t.w;
        cols = length-rest m t.w t.cols;
        positive = mul_pos t.positive up.positive;
        not_negative = t.not_negative;
        line = span_line (rest t.w) (line_rest t.w t.cols t.line);
        same = record { at = λ i. let e = simp (entry-times, entry-plus) at (t.same.at (suc i)) in let f = others-lift a u i in let g = entry-rest b i in let r = entry-rest t.w i in simp (entry-times, entry-plus, g, r) (numbers t.p (entry (lift a u) (suc i)) (entry a 0) (entry u i) (t.k *ℤ entry b (suc i) +ℤ entry t.w (suc i)) f e) };
      }
        where
          numbers : (p l a0 u z : ℤ) → l ≡ a0 *ℤ u → p *ℤ l ≡ z → (p *ℤ a0) *ℤ u ≡ z
          numbers p l a0 u z e f = let g = times_both p e in simp ring (omega (arith, ints))

      -- p times what stands in x after the first entry is k r + z
      upward : (p k : ℤ) (x r z : Row) → dot x a ≡ pos 0 → Same (times p (rest x)) (plus (times k r) z) → Same (times (p *ℤ entry a 0) x) (plus (times k (lift a r)) (lift a z))
      upward p k x r z o s = record {
        at = λ i.
            let e = simp entry-times at ((lift-rest a x o).at i) in
            let f = simp entry-times at ((lift-times a p (rest x)).at i) in
            let g = (lift-same a (times p (rest x)) (plus (times k r) z) s).at i in
            let h = simp entry-plus at ((lift-plus a (times k r) z).at i) in
            let j = simp entry-times at ((lift-times a k r).at i) in
            simp (entry-times, entry-plus) (numbers p (entry (lift a (rest x)) i) (entry a 0) (entry x i) (k *ℤ entry (lift a r) i +ℤ entry (lift a z) i) e (omega (arith, ints)));
      }
        where
          numbers : (p l a0 u z : ℤ) → l ≡ a0 *ℤ u → p *ℤ l ≡ z → (p *ℤ a0) *ℤ u ≡ z
          numbers p l a0 u z e f = let g = times_both p e in simp ring (omega (arith, ints))

      above : (r x : Row) → dot x a ≡ pos 0 → MultipleModulo m Shadow r (rest x) → MultipleModulo (suc m) (InCone F E) (lift a r) x
      above r x o t = record {
        p = t.p *ℤ entry a 0;
        k = t.k;
        w = lift a t.w;
        cols = length-lift m a t.w t.cols;
        positive = mul_pos t.positive up.positive;
        not_negative = t.not_negative;
        line = line_lift t.w t.line;
        same = upward t.p t.k x r t.w o t.same;
      }

      -- ---- extreme rows on which a vanishes, and extreme rays of the shadow
      pub ray_below : (b : Row) → IsExtreme (suc m) (InCone F E) b → dot b a ≡ pos 0 → IsExtreme m Shadow (rest b)
      ray_below b e o = record {
        cols = length-rest m b e.cols;
        inside = face_in b e.inside o;
        not_line = λ h. e.not_line (in_divide up.positive (in_same (record { at = λ i. let q = (lift-opposite a (rest b)).at i in let s = simp entry-times at ((lift-rest a b o).at i) in let k = entry-opposite (lift a (rest b)) i in simp (entry-times, entry-opposite, ring) (let n = ap neg_ℤ s in omega (arith, ints)) }) (to_lift (opposite (rest b)) h)));
        summands = λ p u v hp lu lv hu hv s.
            let t = e.summands (p *ℤ entry a 0) (lift a u) (lift a v) (mul_pos hp up.positive) (length-lift m a u lu) (length-lift m a v lv) (to_lift u hu) (to_lift v hv) (split p u v s) in
            (down b u o t.0, down b v o t.1);
      }
        where
          split : (p : ℤ) (u v : Row) → Same (times p (rest b)) (plus u v) → Same (times (p *ℤ entry a 0) b) (plus (lift a u) (lift a v))
          split p u v s = record {
            at = λ i.
                let e = simp entry-times at ((lift-rest a b o).at i) in
                let f = simp entry-times at ((lift-times a p (rest b)).at i) in
                let g = (lift-same a (times p (rest b)) (plus u v) s).at i in
                let h = simp entry-plus at ((lift-plus a u v).at i) in
                simp (entry-times, entry-plus) (numbers p (entry (lift a (rest b)) i) (entry a 0) (entry b i) (entry (lift a u) i +ℤ entry (lift a v) i) e (omega (arith, ints)));
          }
            where
              numbers : (p l a0 u z : ℤ) → l ≡ a0 *ℤ u → p *ℤ l ≡ z → (p *ℤ a0) *ℤ u ≡ z
              numbers p l a0 u z e f = let g = times_both p e in simp ring (omega (arith, ints))

      pub ray_above : (r : Row) → IsExtreme m Shadow r → IsExtreme (suc m) (InCone F E) (lift a r)
      ray_above r e = record {
        cols = length-lift m a r e.cols;
        inside = to_lift r e.inside;
        not_line = λ h. e.not_line (from_lift (opposite r) (in_same (lift-opposite a r) h));
        summands = λ p x y hp lx ly hx hy s.
            let px = at_least x lx hx in
            let py = at_least y ly hy in
            let sum : dot x a +ℤ dot y a ≡ pos 0 = sum_zero p x y s in
            let ox : dot x a ≡ pos 0 = omega (arith, ints) in
            let oy : dot y a ≡ pos 0 = omega (arith, ints) in
            let t = e.summands (p *ℤ entry a 0) (rest x) (rest y) (mul_pos hp up.positive) (length-rest m x lx) (length-rest m y ly) (face_in x hx ox) (face_in y hy oy) (parts p x y s) in
            (above r x ox t.0, above r y oy t.1);
      }
        where
          sum_zero : (p : ℤ) (x y : Row) → Same (times p (lift a r)) (plus x y) → dot x a +ℤ dot y a ≡ pos 0
          sum_zero p x y s =
              let d = dot-same a (times p (lift a r)) (plus x y) s.at in
              let e = dot-times a p (lift a r) in
              let f = dot-plus a x y in
              let g = null-lift a r in
              let h = dot_comm a (lift a r) in
              let z : dot a (lift a r) ≡ pos 0 = h ∙ g in
              let k = simp (z, ring) at e in
              let ex = dot_comm a x in
              let ey = dot_comm a y in
              omega (arith, ints)

          parts : (p : ℤ) (x y : Row) → Same (times p (lift a r)) (plus x y) → Same (times (p *ℤ entry a 0) r) (plus (rest x) (rest y))
          parts p x y s = record { at = λ i. let e = simp (entry-times, entry-plus) at (s.at (suc i)) in let f = others-lift a r i in let g = entry-rest x i in let h = entry-rest y i in simp (entry-times, entry-plus, g, h) (let k = simp f at e in simp ring (omega (arith, ints))) }

      -- ---- likeness, below and above
      pub alike_below : (r b : Row) → SameModulo (suc m) (InCone F E) (lift a r) b → (dot b a ≡ pos 0) × SameModulo m (InSpan (rests E)) r (rest b)
      alike_below r b s = (
        zero,
        record {
          p = s.p;
          k = s.k *ℤ entry a 0;
          w = rest s.w;
          cols = length-rest m s.w s.cols;
          p_positive = s.p_positive;
          k_positive = mul_pos s.k_positive up.positive;
          line = record { inside = line_rest s.w s.cols s.line; opposed = lines_opposite (rests E) (rest s.w) (line_rest s.w s.cols s.line) };
          same = record { at = λ i. let e = simp (entry-times, entry-plus) at (s.same.at (suc i)) in let f = others-lift a r i in let g = entry-rest b i in let h = entry-rest s.w i in simp (entry-times, entry-plus, g, h) (let k = simp f at e in simp ring (omega (arith, ints))) };
        },
      )
        where
          zero : dot b a ≡ pos 0
          zero =
              let d = dot-same a (times s.p b) (plus (times s.k (lift a r)) s.w) s.same.at in
              let e = dot-times a s.p b in
              let f = dot-plus a (times s.k (lift a r)) s.w in
              let g = dot-times a s.k (lift a r) in
              let h : dot a (lift a r) ≡ pos 0 = dot_comm a (lift a r) ∙ null-lift a r in
              let k = simp (h, ring) at g in
              let l : dot a s.w ≡ pos 0 = dot_comm a s.w ∙ line_null s.w s.cols s.line in
              let n : s.p *ℤ dot a b ≡ s.p *ℤ pos 0 = simp ring (omega (arith, ints)) in
              dot_comm b a ∙ mul_cancel s.p_positive n

      pub alike_above : (b c : Row) → dot b a ≡ pos 0 → dot c a ≡ pos 0 → SameModulo m (InSpan (rests E)) (rest b) (rest c) → SameModulo (suc m) (InCone F E) b c
      alike_above b c ob oc s = record {
        p = s.p *ℤ entry a 0;
        k = s.k *ℤ entry a 0;
        w = lift a s.w;
        cols = length-lift m a s.w s.cols;
        p_positive = mul_pos s.p_positive up.positive;
        k_positive = mul_pos s.k_positive up.positive;
        line = line_lift s.w (span_line s.w s.line.inside);
        same = record { at = λ i. let e = simp (entry-times, entry-plus) at ((upward s.p s.k c (rest b) s.w oc s.same).at i) in let f = simp entry-times at ((lift-rest a b ob).at i) in simp (entry-times, entry-plus) (numbers s.k (entry (lift a (rest b)) i) (entry a 0) (entry b i) (entry (lift a s.w) i) ((s.p *ℤ entry a 0) *ℤ entry c i) f e) };
      }
        where
          numbers : (k l a0 u w z : ℤ) → l ≡ a0 *ℤ u → z ≡ k *ℤ l +ℤ w → z ≡ (k *ℤ a0) *ℤ u +ℤ w
          numbers k l a0 u w z e f = let g = times_both k e in simp ring (omega (arith, ints))

      -- a row alike to one of the shadow is in it
      pub alike_in : (r u : Row) → Shadow r → SameModulo m (InSpan (rests E)) r u → Shadow u
      alike_in r u h s = in_divide s.p_positive (in_same (same_sym s.same) (in_plus (in_times (weaken s.k_positive) h) (span_line s.w s.line.inside).inside))
