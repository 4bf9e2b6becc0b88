-- The span of a cone: that of its generators and lines, of any rows that generate it, and of an order of its extreme rays with its lineality; and the rows that vanish on it.
use Rattle.pm_vector.proofs.ConeLaws.{combination_none, in_divide, in_generator, in_line, in_line_opposite, in_plus, in_same, in_through, in_times, in_zero}
use Rattle.pm_vector.proofs.Lists.{Among, all_at, all_from, among_All, among_append, among_append_left, among_append_right, here, there}
use Rattle.pm_vector.proofs.Ring.{ring}
use Rattle.pm_vector.proofs.RowLaws.{dot_comm, entry-difference, entry-plus, entry-times, same_sym}
use Rattle.pm_vector.specs.Cones.{InCone, InSpan, combination}
use Rattle.pm_vector.specs.Rows.{HasCols, Row, dot, entry, plus, times}
use Rattle.pm_vector.proofs.Spans.{same_span, same_span_sym, span_difference}
use Rattle.pm_vector.proofs.DotLaws.{null_of_span}
use Rattle.pm_vector.specs.NullSpaces.{IsNull}
use Rattle.pm_geom.proofs.Facets.{order_generates}
use Rattle.pm_geom.proofs.Polar.{cols_at}
use Rattle.pm_geom.proofs.ValidRows.{null_in}
use Rattle.pm_geom.specs.Cones.{IsExtreme, IsOrder, Vanishes}
use Rattle.pm_geom.specs.Laws.{GeneratorsSpan, OrderSpans, SpanIsDifferences, VanishingIsNull}
use Rattle.std.proofs.Common.{arith, inl, inr, refl, ◌∙◌}
use Rattle.std.proofs.lemmas.Int.{by_lt_z, ints}
use Rattle.std.specs.Prelude.{List, [], length, ℕ, ◌++◌, ◌∷◌, ◌≡◌}
use lib.IntN.{neg_ℤ, pos, ℤ, ◌*ℤ◌, ◌-ℤ◌}
use lib.Signed.{◌<ℤ◌, ◌≤ℤ◌}

pub cone_in_span : (G L : List Row) {x : Row} → InCone G L x → InSpan (G ++ L) x
cone_in_span G L h =
    in_through [] (G ++ L) G L (λ g i. in_line (among_append_left L i)) (λ l i. (in_line (among_append_right G i), in_line_opposite (among_append_right G i))) h

pub order_cols : (n : ℕ) (S : Row → Type 0) (V : List Row) → IsOrder n S V → HasCols n V
order_cols n S V o = all_from (λ (x : Row). length x ≡ n) V (λ v i. (among_All (λ u. IsExtreme n S u) i o.each).cols)

rows_in : (n : ℕ) (G L P K : List Row) → HasCols n G → HasCols n L → ((x : Row) → length x ≡ n → InCone G L x → InCone P K x) → (r : Row) → Among r (G ++ L) → InSpan (P ++ K) r
rows_in n G L P K hg hl f r i = elim (among_append G L i) [
  | inl j ↦ cone_in_span P K (f r (cols_at j hg) (in_generator j))
  | inr j ↦ cone_in_span P K (f r (cols_at j hl) (in_line j))
]

pub generators_span : GeneratorsSpan
generators_span n G L hg hl P K hp hk e =
    same_span (P ++ K) (G ++ L) (rows_in n P K G L hp hk (λ x l h. (e x l).1 h)) (rows_in n G L P K hg hl (λ x l h. (e x l).0 h))

pub order_spans : OrderSpans
order_spans n G L hg hl V K hk o line = generators_span n G L hg hl V K (order_cols n (InCone G L) V o) hk (order_generates n G L hg hl V K hk o line)

-- ---- the rows that vanish
pub vanishing_is_null : VanishingIsNull
vanishing_is_null n G L hg hl X s a la = (to, from)
  where
    to : Vanishes n G L a → IsNull X a
    to v = null_of_span (G ++ L) X a s (all_from (λ (r : Row). dot r a ≡ pos 0) (G ++ L) each)
      where
        each : (r : Row) → Among r (G ++ L) → dot r a ≡ pos 0
        each r i = elim (among_append G L i) [
          | inl j ↦ dot_comm r a ∙ v.holds r (cols_at j hg) (in_generator j)
          | inr j ↦ dot_comm r a ∙ v.holds r (cols_at j hl) (in_line j)
        ]

    from : IsNull X a → Vanishes n G L a
    from z =
        let h : IsNull (G ++ L) a = null_of_span X (G ++ L) a (same_span_sym s) z in
        record {
          cols = la;
          holds = λ x lx k. null_in a G L
              (λ g i. dot_comm a g ∙ all_at (λ (r : Row). dot r a ≡ pos 0) (among_append_left L i) h)
              (λ l i. dot_comm a l ∙ all_at (λ (r : Row). dot r a ≡ pos 0) (among_append_right G i) h)
              k;
        }

-- ---- differences of rows of the cone
-- x is in the cone after some row of the cone is added
Lifts : List Row → List Row → Row → Type 0
Lifts G L x = (v : Row) × InCone G L v × InCone G L (plus x v)

module _ (G L : List Row) where
  lifts_times : (k : ℤ) (r : Row) → InCone G L r → Lifts G L (times k r)
  unfolding Lifts
  lifts_times k r h =
      by_lt_z k (pos 0)
      (λ below. let n : pos 0 ≤ℤ neg_ℤ k = omega (arith, ints) in (times (neg_ℤ k) r, in_times n h, in_zero (λ i. simp (entry-plus, entry-times, ring) (omega (arith, ints)))))
      (λ up. ([], in_zero (λ i. refl), in_same (record { at = λ i. simp entry-plus (omega (arith, ints)) }) (in_times up h)))

  lifts_plus : (x y : Row) → Lifts G L x → Lifts G L y → Lifts G L (plus x y)
  unfolding Lifts
  lifts_plus x y (v, hv, hx) (w, hw, hy) = (plus v w, in_plus hv hw, in_same (record { at = λ i. simp entry-plus (omega (arith, ints)) }) (in_plus hx hy))

  lifts_combination : (d : List ℤ) (X : List Row) → ((r : Row) → Among r X → InCone G L r) → Lifts G L (combination d X)
  unfolding Lifts
  lifts_combination [] X f = ([], in_zero (λ i. refl), in_zero (λ i. refl))
  lifts_combination (k ∷ d) [] f = ([], in_zero (λ i. refl), in_zero (λ i. refl))
  lifts_combination (k ∷ d) (r ∷ X) f = lifts_plus (times k r) (combination d X) (lifts_times k r (f r here)) (lifts_combination d X (λ s i. f s (there i)))

  each_in : (r : Row) → Among r (G ++ L) → InCone G L r
  each_in r i = elim (among_append G L i) [ inl j ↦ in_generator j | inr j ↦ in_line j ]

  -- m x + v and v are in the cone, and so is m (x + v)
  lifts_part : (m : ℤ) (x y v : Row) → pos 0 <ℤ m → ((i : ℕ) → m *ℤ entry x i ≡ entry y i) → InCone G L v → InCone G L (plus y v) → InCone G L (plus x v)
  lifts_part m x y v up e hv hy =
      let more : pos 0 ≤ℤ (m -ℤ pos 1) = omega (arith, ints) in
      in_divide up (in_same (record { at = λ i. let q = e i in simp (entry-plus, entry-times, ring) (omega (arith, ints)) }) (in_plus hy (in_times more hv)))

  span_lifts : (x : Row) → InSpan (G ++ L) x → Lifts G L x
  unfolding Lifts
  span_lifts x h =
      let (v, hv, hy) = lifts_combination h.d (G ++ L) each_in in
      (v, hv, lifts_part h.m x (combination h.d (G ++ L)) v h.positive (λ i. let q = simp (entry-times, entry-plus, combination_none) at (h.same.at i) in omega (arith, ints)) hv hy)

pub span_is_differences : SpanIsDifferences
unfolding Lifts
span_is_differences G L x = (
  λ h. let (v, hv, hx) = span_lifts G L x h in (plus x v, v, hx, hv, record { at = λ i. simp (entry-difference, entry-plus, ring) (omega (arith, ints)) }),
  λ w. in_same (same_sym w.4) (span_difference (pos 1) (pos 1) (cone_in_span G L w.2) (cone_in_span G L w.3)),
)
