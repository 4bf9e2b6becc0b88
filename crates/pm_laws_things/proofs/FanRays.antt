-- A fan has an order of the rays of its cones.
use Rattle.pm_vector.proofs.ConeLaws.{in_divide, in_first, in_from_after, in_of, in_same, in_to_after, lines_opposite}
use Rattle.pm_vector.proofs.Lists.{AllPairs_cons, Among, Any_among, among_All, among_Any, here, there}
use Rattle.pm_vector.proofs.Ring.{ring}
use Rattle.pm_vector.proofs.RowLaws.{entry-difference, entry-plus, entry-times, length-difference}
use Rattle.pm_vector.proofs.Signs.{weaken}
use Rattle.pm_vector.specs.Cones.{InCone, InSpan}
use Rattle.pm_vector.specs.Rows.{HasCols, Row, difference, entry, opposite, plus, times}
use Rattle.pm_geom.proofs.Polar.{membership_decided}
use Rattle.pm_geom.proofs.Reduce.{extremes_generate}
use Rattle.pm_geom.specs.Cones.{InLineality, IsExtreme, IsExtremeRay, IsOrder, SameModulo}
use Rattle.pm_laws_normal_fans.proofs.Places.{no_pairs}
use Rattle.pm_laws_things.proofs.Merged.{Apart, IsMerged, merged}
use Rattle.pm_relations.proofs.Orders.{alike_on}
use Rattle.pm_vector.proofs.ConeLaws.{in_cone_set}
use Rattle.std.proofs.Common.{ap, arith, inl, inr, sym, ◌∙◌}
use Rattle.std.proofs.lemmas.Int.{ints}
use Rattle.std.specs.List.{AllPairs, Any}
use Rattle.std.specs.Prelude.{List, [], length, ℕ, ◌∷◌, ◌≡◌, ◌⊎◌}
use lib.IntN.{pos, ℤ, ◌*ℤ◌, ◌+ℤ◌, ◌-ℤ◌}
use lib.Signed.{◌<ℤ◌, ◌≤ℤ◌}

module _ (n : ℕ) (L : List Row) (hl : HasCols n L) where
  -- a row of n entries that is no line
  pub record IsRay (v : Row) : Type 0 where
    pub cols : length v ≡ n
    pub no_line : ¬ (InSpan L v)

  abbrev pub Alike : Row → Row → Type 0
  Alike = SameModulo n (InSpan L)

  -- ---- alike rows lie in one another's cones
  positive_or_zero : (q : ℤ) → pos 0 ≤ℤ q → (pos 0 <ℤ q) ⊎ (q ≡ pos 0)
  positive_or_zero q h = grind (arith, ints)

  alike_from : (v w : Row) → IsRay v → IsRay w → InCone (v ∷ []) L w → Alike v w
  alike_from v w rv rw' h =
      let a = in_to_after [] L v w h in
      elim (positive_or_zero a.q a.not_negative) [
        | inl up ↦ record {
          p = a.p;
          k = a.q;
          w = difference a.p w a.q v;
          cols = length-difference n a.p w a.q v rw'.cols rv.cols;
          p_positive = a.positive;
          k_positive = up;
          line = record { inside = a.rest; opposed = lines_opposite L (difference a.p w a.q v) a.rest };
          same = record { at = λ i. sums i a.p a.q };
        }
        | inr zero ↦ absurd (rw'.no_line (in_divide a.positive (in_same (record { at = λ i. alone i a.p a.q zero }) a.rest)))
      ]
    where
      entries : (p q x y : ℤ) → p *ℤ x ≡ q *ℤ y +ℤ (p *ℤ x -ℤ q *ℤ y)
      entries p q x y = omega (arith, ints)

      sums : (i : ℕ) (p q : ℤ) → entry (times p w) i ≡ entry (plus (times q v) (difference p w q v)) i
      sums i p q = entry-times p w i ∙ entries p q (entry w i) (entry v i) ∙ sym (entry-plus (times q v) (difference p w q v) i ∙ ap (λ z. z +ℤ entry (difference p w q v) i) (entry-times q v i) ∙ ap (λ z. q *ℤ entry v i +ℤ z) (entry-difference p w q v i))

      without : (p q x y : ℤ) → q ≡ pos 0 → p *ℤ x -ℤ q *ℤ y ≡ p *ℤ x
      without p q x y e = let f = ap (λ z. z *ℤ y) e in let g : pos 0 *ℤ y ≡ pos 0 = simp ring in omega (arith, ints)

      alone : (i : ℕ) (p q : ℤ) → q ≡ pos 0 → entry (difference p w q v) i ≡ entry (times p w) i
      alone i p q e = entry-difference p w q v i ∙ without p q (entry w i) (entry v i) e ∙ sym (entry-times p w i)

  alike_to : (v w : Row) → Alike v w → InCone (v ∷ []) L w
  alike_to v w s = in_from_after [] L v w (record {
    p = s.p;
    q = s.k;
    positive = s.p_positive;
    not_negative = weaken s.k_positive;
    rest = in_same (record { at = at }) s.line.inside;
  })
    where
      left : (x y z : ℤ) → x ≡ y +ℤ z → z ≡ x -ℤ y
      left x y z e = omega (arith, ints)

      at : (i : ℕ) → entry s.w i ≡ entry (difference s.p w s.k v) i
      at i = left (s.p *ℤ entry w i) (s.k *ℤ entry v i) (entry s.w i)
          (sym (entry-times s.p w i) ∙ s.same.at i ∙ entry-plus (times s.k v) s.w i ∙ ap (λ z. z +ℤ entry s.w i) (entry-times s.k v i))
          ∙ sym (entry-difference s.p w s.k v i)

  pub alike_decided : (v w : Row) → IsRay v → IsRay w → Alike v w ⊎ ¬ (Alike v w)
  alike_decided v w rv rw' = elim (membership_decided n (v ∷ []) L (rv.cols, tt) hl w rw'.cols) [ inl h ↦ inl (alike_from v w rv rw' h) | inr h ↦ inr (λ s. h (alike_to v w s)) ]

  pub alike_same : (v : Row) → IsRay v → Alike v v
  alike_same v r = alike_from v v r r (in_first [] L v)

  pub alike_next : (u v w : Row) → Alike u v → Alike v w → Alike u w
  alike_next u v w r s = alike_on n (InSpan L) (in_cone_set [] L) r s

  -- ---- one cone
  module _ (G : List Row) (hg : HasCols n G) (flat : (x : Row) → length x ≡ n → InLineality (InCone G L) x → InSpan L x) where
    span_inside : (x : Row) → InSpan L x → InCone G L x
    span_inside x h = in_of G [] L (λ g i. elim i [ ]) h

    ray_of : (v : Row) → IsExtremeRay n G L v → IsRay v
    ray_of v e = record { cols = e.cols; no_line = λ h. e.not_line (span_inside (opposite v) (lines_opposite L v h)) }

    alike_in : (v w : Row) → SameModulo n (InCone G L) v w → Alike v w
    alike_in v w s =
        let l = flat s.w s.cols s.line in
        record { p = s.p; k = s.k; w = s.w; cols = s.cols; p_positive = s.p_positive; k_positive = s.k_positive; line = record { inside = l; opposed = lines_opposite L s.w l }; same = s.same }

    alike_out : (v w : Row) → Alike v w → SameModulo n (InCone G L) v w
    alike_out v w s = record { p = s.p; k = s.k; w = s.w; cols = s.cols; p_positive = s.p_positive; k_positive = s.k_positive; line = record { inside = span_inside s.w s.line.inside; opposed = span_inside (opposite s.w) s.line.opposed }; same = s.same }

  -- ---- all cones
  abbrev IsRayOf : List (List Row) → Row → Type 0
  IsRayOf Gs v = Any (λ G. IsExtremeRay n G L v) Gs

  pub record HasRays (Gs : List (List Row)) : Type 0 where
    pub rows : List Row
    pub apart : Apart IsRay Alike alike_same alike_next alike_decided rows
    pub each : (v : Row) → Among v rows → IsRayOf Gs v × IsRay v
    pub all : (G : List Row) → Among G Gs → (r : Row) → IsExtremeRay n G L r → (v : Row) × Among v rows × Alike r v

  pub has_rays : (Gs : List (List Row)) → ((G : List Row) → Among G Gs → HasCols n G) → ((G : List Row) → Among G Gs → (x : Row) → length x ≡ n → InLineality (InCone G L) x → InSpan L x) → HasRays Gs
  has_rays [] cols flat = record { rows = []; apart = tt; each = λ v i. elim i [ ]; all = λ G i. elim i [ ] }
  has_rays (G ∷ Gs) cols flat =
      let h = has_rays Gs (λ H i. cols H (there i)) (λ H i. flat H (there i)) in
      let (W, K, hk, order, line, gen) = extremes_generate n G L (cols G here) hl in
      let is_extreme : (w : Row) → Among w W → IsExtremeRay n G L w = λ w i. among_All (λ v. IsExtreme n (InCone G L) v) i order.each in
      let m : IsMerged IsRay Alike alike_same alike_next alike_decided h.rows W = merged IsRay Alike alike_same alike_next alike_decided h.rows W (λ v i. (h.each v i).1) (λ w i. ray_of G (cols G here) (flat G here) w (is_extreme w i)) h.apart in
      record {
        rows = m.rows;
        apart = m.apart;
        each = λ v i. elim (m.from v i) [
          | inl j ↦ (later v (h.each v j).0, (h.each v j).1)
          | inr j ↦ (Any_among (λ H. IsExtremeRay n H L v) here (is_extreme v j), ray_of G (cols G here) (flat G here) v (is_extreme v j))
        ];
        all = λ H i r e. reached h W order m H i r e;
      }
    where
      later : (v : Row) → IsRayOf Gs v → IsRayOf (G ∷ Gs) v
      later v a = let (H, i, e) = among_Any (λ H. IsExtremeRay n H L v) Gs a in Any_among (λ H. IsExtremeRay n H L v) (there i) e

      reached : (h : HasRays Gs) (W : List Row) → IsOrder n (InCone G L) W → (m : IsMerged IsRay Alike alike_same alike_next alike_decided h.rows W) → (H : List Row) → Among H (G ∷ Gs) → (r : Row) → IsExtremeRay n H L r → (v : Row) × Among v m.rows × Alike r v
      reached h W order m H here r e =
          let (w, i, s) = among_Any (λ v. SameModulo n (InCone G L) r v) W (order.all r e) in
          let q = m.second w i in
          (q.0, q.1, alike_next r w q.0 (alike_in G (cols G here) (flat G here) r w s) q.2)
      reached h W order m H (there i) r e =
          let p = h.all H i r e in
          let q = m.first p.0 p.1 in
          (q.0, q.1, alike_next r p.0 q.0 p.2 q.2)

  pub apart_pairs : (V : List Row) → Apart IsRay Alike alike_same alike_next alike_decided V → AllPairs (λ v w. ¬ (Alike v w)) V
  apart_pairs [] a = no_pairs (λ v w. ¬ (Alike v w))
  apart_pairs (v ∷ V) a = AllPairs_cons (λ v w. ¬ (Alike v w)) v V a.0 (apart_pairs V a.1)
