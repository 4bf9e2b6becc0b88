-- A triangulation over rows is one over rows that are alike, up to positive scale and what the lines span.
use Rattle.pm_vector.proofs.ConeLaws.{combination-times, combination_none, in_divide, in_generator, in_line, in_line_opposite, in_of, in_plus, in_same, in_through, in_times, in_zero, lines_opposite}
use Rattle.pm_vector.proofs.Filters.{among_map, map_among}
use Rattle.pm_vector.proofs.Lists.{All_among, Among, Any_among, among_All, among_Any}
use Rattle.pm_vector.proofs.Ring.{ring}
use Rattle.pm_vector.proofs.RowLaws.{entry-opposite, entry-plus, entry-times}
use Rattle.pm_vector.proofs.Signs.{mul_cancel, mul_pos, times_both, weaken}
use Rattle.pm_vector.specs.Cones.{InCone, InSpan, combination}
use Rattle.pm_vector.specs.Numbers.{Ratio}
use Rattle.pm_vector.specs.Rows.{Row, Same, SameDirection, entry, opposite, plus, times}
use Rattle.pm_vector.proofs.Spans.{at_place, place_of, span_times}
use Rattle.pm_geom.specs.Cones.{InLineality, SameModulo}
use Rattle.pm_geom.specs.Faces.{ray}
use Rattle.pm_geom.specs.Things.{Orders}
use Rattle.pm_geom.specs.Triangulations.{IsIndependentModulo, IsTriangulation, rows_at, shared}
use Rattle.pm_object_type.specs.declared.object_type.ObjectType.TheVariants.{Cone, Fan, Polytope}
use Rattle.pm_object_type.specs.declared.object_type.ObjectType.{ObjectType}
use Rattle.pm_relations.proofs.Standing.{in_order_at, in_order_length, same_direction, stand_at, stand_length}
use Rattle.pm_relations.proofs.StandingSpans.{stand_for_span}
use Rattle.pm_relations.specs.Laws.{PlacingIsFound}
use Rattle.pm_types.specs.Right.{InLinesOf, InOrder, IsBasis, SameRayOf, StandFor}
use Rattle.std.proofs.Common.{arith, inl, inr, refl, subst, sym, ◌∙◌}
use Rattle.std.proofs.lemmas.Bool.{cases_lt}
use Rattle.std.proofs.lemmas.Int.{ints}
use Rattle.std.proofs.lemmas.List.{length-map}
use Rattle.std.specs.Prelude.{List, [], length, suc, zero, ℕ, ◌↔◌, ◌∷◌, ◌≡◌, ◌<◌, ◌≤◌}
use lib.IntN.{pos, ℤ, ◌*ℤ◌, ◌+ℤ◌}
use lib.Signed.{◌<ℤ◌}

-- ---- rows alike
-- a positive multiple of u is a positive multiple of v and a row in span(K)
pub record Alike (K : List Row) (v u : Row) : Type 0 where
  pub p : ℤ
  pub k : ℤ
  pub w : Row
  pub p_positive : pos 0 <ℤ p
  pub k_positive : pos 0 <ℤ k
  pub line : InSpan K w
  pub same : Same (times p u) (plus (times k v) w)

alike_sym : (K : List Row) {v u : Row} → Alike K v u → Alike K u v
alike_sym K a = record {
  p = a.k;
  k = a.p;
  w = opposite a.w;
  p_positive = a.k_positive;
  k_positive = a.p_positive;
  line = lines_opposite K a.w a.line;
  same = record { at = λ i. let q = simp (entry-times, entry-plus) at (a.same.at i) in simp (entry-times, entry-plus, entry-opposite) (omega (arith, ints)) };
}

alike_self : (K : List Row) (v : Row) → Alike K v v
alike_self K v = record {
  p = pos 1;
  k = pos 1;
  w = [];
  p_positive = omega (arith, ints);
  k_positive = omega (arith, ints);
  line = in_zero (λ i. refl);
  same = record { at = λ i. simp entry-plus (omega (arith, ints)) };
}

over_two : (p u' k v w a b u : ℤ) → p *ℤ u' ≡ k *ℤ v +ℤ w → a *ℤ u' ≡ b *ℤ u → (p *ℤ b) *ℤ u ≡ (a *ℤ k) *ℤ v +ℤ a *ℤ w
over_two p u' k v w a b u e f =
    let x = simp ring at (times_both a e) in
    let y = simp ring at (times_both p f) in
    simp ring (omega (arith, ints))

-- the same direction after being alike
alike_direction : (K : List Row) {v u' u : Row} → Alike K v u' → SameDirection u' u → Alike K v u
alike_direction K {v} {u'} {u} s d = record {
  p = s.p *ℤ d.q;
  k = d.p *ℤ s.k;
  w = times d.p s.w;
  p_positive = mul_pos s.p_positive d.q_positive;
  k_positive = mul_pos d.p_positive s.k_positive;
  line = span_times d.p s.line;
  same = record { at = λ i. simp (entry-times, entry-plus) (over_two s.p (entry u' i) s.k (entry v i) (entry s.w i) d.p d.q (entry u i) (simp (entry-times, entry-plus) at (s.same.at i)) (simp entry-times at (d.same.at i))) };
}

-- ---- cones and independence
spanned : (G K : List Row) {w : Row} → InSpan K w → InCone G K w
spanned G K h = in_of G [] K (λ g i. elim i [ ]) h

one_in : (K T : List Row) {v u : Row} → Alike K v u → InCone T K u → InCone T K v
one_in K T a h =
    in_divide a.k_positive
    (in_same (record { at = λ i. let q = simp (entry-times, entry-plus) at (a.same.at i) in simp (entry-times, entry-plus, entry-opposite) (omega (arith, ints)) }) (in_plus (in_times (weaken a.p_positive) h) (spanned T K (lines_opposite K a.w a.line))))

not_zero : (k x : ℤ) → pos 0 <ℤ k → k *ℤ x ≡ pos 0 → x ≡ pos 0
not_zero k x h e = mul_cancel h (e ∙ sym (simp ring))

module _ (K V U : List Row) (alike : (j : ℕ) → Alike K (ray V j) (ray U j)) where
  pub cell_within : (s : List ℕ) {x : Row} → InCone (rows_at V s) K x → InCone (rows_at U s) K x
  cell_within s h =
      in_through (rows_at U s) K (rows_at V s) K
      (λ g i. let (j, a, e) = map_among (ray V) s i in subst (λ z. InCone (rows_at U s) K z) (sym e) (one_in K (rows_at U s) (alike j) (in_generator (among_map (ray U) a))))
      (λ l i. (in_line i, in_line_opposite i)) h

  pub whole_within : length V ≡ length U → {x : Row} → InCone V K x → InCone U K x
  whole_within long h =
      in_through U K V K
      (λ g i. let (j, l, e) = place_of i in subst (λ z. InCone U K z) e (one_in K U (alike j) (in_generator (at_place U j (subst (λ z. j < z) long l)))))
      (λ l i. (in_line i, in_line_opposite i)) h

  -- a combination of cells' rows as one of the others
  record Turned (s : List ℕ) (c : List ℤ) : Type 0 where
    m : ℤ
    d : List ℤ
    w : Row
    positive : pos 0 <ℤ m
    line : InSpan K w
    same : (i : ℕ) → entry (combination d (rows_at U s)) i ≡ m *ℤ entry (combination c (rows_at V s)) i +ℤ entry w i
    zeros : (i : ℕ) → i < length s → entry d i ≡ pos 0 → entry c i ≡ pos 0

  joined : (p u k v w m c e f r : ℤ) → p *ℤ u ≡ k *ℤ v +ℤ w → f ≡ m *ℤ e +ℤ r → (m *ℤ (c *ℤ p)) *ℤ u +ℤ k *ℤ f ≡ (m *ℤ k) *ℤ (c *ℤ v +ℤ e) +ℤ ((m *ℤ c) *ℤ w +ℤ k *ℤ r)
  joined p u k v w m c e f r a b =
      let x = simp ring at (times_both (m *ℤ c) a) in
      let y = simp ring at (times_both k b) in
      simp ring (omega (arith, ints))

  more_zeros : (m p k c : ℤ) → pos 0 <ℤ m → pos 0 <ℤ p → pos 0 <ℤ k → (d cs : List ℤ) (s : List ℕ) → ((i : ℕ) → i < length s → entry d i ≡ pos 0 → entry cs i ≡ pos 0) → (i : ℕ) → i < suc (length s) → entry ((m *ℤ (c *ℤ p)) ∷ times k d) i ≡ pos 0 → entry (c ∷ cs) i ≡ pos 0
  more_zeros m p k c hm hp hk d cs s f zero l e = not_zero p c hp (not_zero m (p *ℤ c) hm (simp ring at e))
  more_zeros m p k c hm hp hk d cs s f (suc i) l e = f i (omega arith) (not_zero k (entry d i) hk (sym (entry-times k d i) ∙ e))

  turned : (s : List ℕ) (c : List ℤ) → Turned s c
  turned s [] = record {
    m = pos 1;
    d = [];
    w = [];
    positive = omega (arith, ints);
    line = in_zero (λ i. refl);
    same = λ i. simp ring;
    zeros = λ i l e. refl;
  }
  turned [] (c ∷ cs) = record {
    m = pos 1;
    d = [];
    w = [];
    positive = omega (arith, ints);
    line = in_zero (λ i. refl);
    same = λ i. simp ring;
    zeros = λ i l e. absurd (omega arith);
  }
  turned (j ∷ s) (c ∷ cs) =
      let a = alike j in
      let r = turned s cs in
      record {
        m = r.m *ℤ a.k;
        d = (r.m *ℤ (c *ℤ a.p)) ∷ times a.k r.d;
        w = plus (times (r.m *ℤ c) a.w) (times a.k r.w);
        positive = mul_pos r.positive a.k_positive;
        line = in_plus (span_times (r.m *ℤ c) a.line) (span_times a.k r.line);
        same = λ i. simp (entry-plus, entry-times, combination-times) (joined a.p (entry (ray U j) i) a.k (entry (ray V j) i) (entry a.w i) r.m c (entry (combination cs (rows_at V s)) i) (entry (combination r.d (rows_at U s)) i) (entry r.w i) (simp (entry-times, entry-plus) at (a.same.at i)) (r.same i));
        zeros = more_zeros r.m a.p a.k c r.positive a.p_positive a.k_positive r.d cs s r.zeros;
      }

  pub independent_within : (s : List ℕ) → IsIndependentModulo K (rows_at U s) → IsIndependentModulo K (rows_at V s)
  independent_within s free c h i l =
      let r = turned s c in
      let long = length-map s (ray V) in
      let long' = length-map s (ray U) in
      let inside : InSpan K (combination r.d (rows_at U s)) = in_same (record { at = λ i. simp (entry-plus, entry-times) (sym (r.same i)) }) (in_plus (span_times r.m h) r.line) in
      r.zeros i (omega arith) (free r.d inside i (omega arith))

-- where cells are alike in what they generate and in independence, so are triangulations
triangulation_as : (n : ℕ) (V U K L : List Row) → ((s : List ℕ) (x : Row) → InCone (rows_at V s) K x ↔ InCone (rows_at U s) L x) → ((x : Row) → InCone V K x → InCone U L x) → ((s : List ℕ) → IsIndependentModulo L (rows_at U s) → IsIndependentModulo K (rows_at V s)) → (T : List (List ℕ)) → IsTriangulation n U L T → IsTriangulation n V K T
triangulation_as n V U K L cell whole free T t = record {
  independent = All_among (λ s. IsIndependentModulo K (rows_at V s)) T (λ s i. free s (among_All (λ s. IsIndependentModulo L (rows_at U s)) i t.independent));
  covers = λ x lx h. let (s, i, g) = among_Any (λ s. InCone (rows_at U s) L x) T (t.covers x lx (whole x h)) in Any_among (λ s. InCone (rows_at V s) K x) i ((cell s x).1 g);
  meets = λ s r cs cr x lx.
      let m = t.meets s r cs cr x lx in (
        λ h. (cell (shared s r) x).1 (m.0 ((cell s x).0 h.0, (cell r x).0 h.1)),
        λ h. let g = m.1 ((cell (shared s r) x).0 h) in ((cell s x).1 g.0, (cell r x).1 g.1),
      );
}

-- over rows alike
triangulation_alike : (n : ℕ) (K V U : List Row) → length V ≡ length U → ((j : ℕ) → Alike K (ray V j) (ray U j)) → (T : List (List ℕ)) → IsTriangulation n U K T → IsTriangulation n V K T
triangulation_alike n K V U long alike T =
    triangulation_as n V U K K (λ s x. (cell_within K V U alike s, cell_within K U V (λ j. alike_sym K (alike j)) s)) (λ x. whole_within K V U alike long) (independent_within K V U alike) T

-- with other lines of the same span
lines_within : (G K L : List Row) → ((l : Row) → Among l L → InSpan K l) → {x : Row} → InCone G L x → InCone G K x
lines_within G K L inside h = in_through G K G L (λ g i. in_generator i) (λ l i. (spanned G K (inside l i), spanned G K (lines_opposite K l (inside l i)))) h

triangulation_lines : (n : ℕ) (V K L : List Row) → ((k : Row) → Among k K → InSpan L k) → ((l : Row) → Among l L → InSpan K l) → (T : List (List ℕ)) → IsTriangulation n V L T → IsTriangulation n V K T
triangulation_lines n V K L to from T =
    triangulation_as n V V K L (λ s x. (lines_within (rows_at V s) L K to, lines_within (rows_at V s) K L from)) (λ x. lines_within V L K to) (λ s free c h. free c (lines_within [] L K to h)) T

-- ---- right VERTICES and LINEALITY_SPACE
modulo_of : (of : ObjectType) (n : ℕ) (G L : List Row) → ¬ (of ≡ Fan) → {v x : Row} → SameRayOf of n G L v x → SameModulo n (InCone G L) v x
modulo_of Polytope n G L none h = h
modulo_of Cone n G L none h = h
modulo_of Fan n G L none h = absurd (none refl)

spans_of : (of : ObjectType) (n : ℕ) (G L K : List Row) → ¬ (of ≡ Fan) → IsBasis n (InLinesOf of G L) K → (w : Row) → length w ≡ n → InLineality (InCone G L) w → InSpan K w
spans_of Polytope n G L K none b w lw h = b.spans w lw h
spans_of Cone n G L K none b w lw h = b.spans w lw h
spans_of Fan n G L K none b w lw h = absurd (none refl)

modulo_alike : (n : ℕ) (S : Row → Type 0) (K : List Row) → ((w : Row) → length w ≡ n → InLineality S w → InSpan K w) → {v u : Row} → SameModulo n S v u → Alike K v u
modulo_alike n S K lines s = record { p = s.p; k = s.k; w = s.w; p_positive = s.p_positive; k_positive = s.k_positive; line = lines s.w s.cols s.line; same = s.same }

past : (X : List Row) (j : ℕ) → length X ≤ j → ray X j ≡ []
past [] j l = refl
past (x ∷ X) zero l = absurd (omega arith)
past (x ∷ X) (suc j) l = past X j (omega arith)

all_alike : (K V U : List Row) → length V ≡ length U → ((j : ℕ) → j < length V → Alike K (ray V j) (ray U j)) → (j : ℕ) → Alike K (ray V j) (ray U j)
all_alike K V U long alike j = elim (cases_lt j (length V)) [
  | inl l ↦ alike j l
  | inr l ↦ subst (λ z. Alike K z (ray U j)) (sym (past V j l)) (subst (λ z. Alike K [] z) (sym (past U j (omega arith))) (alike_self K []))
]

pub placing_is_found : PlacingIsFound
placing_is_found t o thing orders no_fan n m rays lines c d e rv rl xs ls sx sl T different tri =
    let K = rl.xs in
    let long = in_order_length (SameRayOf t.of t.cols t.generators t.lines) o.rays rv.xs rv.order in
    let at_rays = stand_length rays xs sx in
    let at_own = stand_length rays rv.xs rv.stand in
    let spans = spans_of t.of t.cols t.generators t.lines K no_fan rl.basis in
    let alike : (j : ℕ) → j < length o.rays → Alike K (ray o.rays j) (ray xs j) =
    λ j l.
    alike_direction K (modulo_alike t.cols (InCone t.generators t.lines) K spans (modulo_of t.of t.cols t.generators t.lines no_fan (in_order_at (SameRayOf t.of t.cols t.generators t.lines) o.rays rv.xs rv.order j l)))
    (same_direction (stand_at rays rv.xs rv.stand j (omega arith)) (stand_at rays xs sx j (omega arith))) in (
      (omega arith),
      record {
        different = different;
        lines = K;
        basis = rl.basis;
        triangulation = triangulation_alike t.cols K o.rays xs (omega arith) (all_alike K o.rays xs (omega arith) alike) T
            (triangulation_lines t.cols xs K ls (stand_for_span ls lines ls K sl rl.stand (λ k i. in_line i)) (stand_for_span K lines K ls rl.stand sl (λ k i. in_line i)) T tri);
      },
    )
