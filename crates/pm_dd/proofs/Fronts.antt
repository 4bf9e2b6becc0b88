-- Fronts that span all rows, and equations that lead.
use Rattle.std.specs.Prelude.{ℕ, zero, suc, ◌+◌, ◌-◌, ◌≡◌, ◌<◌, ◌≤◌, ◌↔◌, List, [], ◌∷◌, ◌++◌, length, take, drop, get_or}
use Rattle.std.specs.List.{Any}
use Rattle.std.proofs.Common.{arith, refl, sym, subst, ap, ◌∙◌, inl, inr}
use Rattle.std.proofs.lemmas.Bool.{cases_lt}
use Rattle.std.proofs.lemmas.Int.{ints}
use Rattle.std.proofs.lemmas.List.{get_or-drop, get_or_default, length-append, length-drop, length-take-le, take_more}
use Rattle.pm_vector.specs.Rows.{Row, dot, plus, times, opposite, HasCols, Same}
use Rattle.pm_vector.specs.Cones.{InSpan, IsIndependent}
use Rattle.pm_vector.proofs.Ring.{ring}
use Rattle.pm_vector.proofs.Signs.{mul_pos}
use Rattle.pm_vector.proofs.Lists.{Among, here, there, all_append, all_at, all_from, among_All, among_append, among_append_left, among_append_right, among_Contains, append_all, Contains_among}
use Rattle.pm_vector.proofs.RowLaws.{dot-plus, dot-times, dot_comm, dot-same, length-opposite}
use Rattle.pm_vector.proofs.ConeLaws.{in_line}
use Rattle.pm_vector.specs.Bases.{IsRank, SameSpan, row_at}
use Rattle.pm_vector.proofs.Rank.{independent_are_few}
use Rattle.pm_vector.proofs.Spans.{same_span, same_span_sym, same_span_trans, span_from, span_of}
use Rattle.pm_vector.specs.NullSpaces.{IsNull}
use Rattle.pm_vector.proofs.DotLaws.{dot_span_zero}
use Rattle.pm_geom.specs.Cones.{CutOut, InLineality, IsExtreme, IsOrder, MultipleModulo, SameModulo}
use Rattle.pm_geom.specs.Faces.{ray}
use Rattle.pm_geom.proofs.Polar.{cols_at, cut_at, cut_from, membership_decided}
use Rattle.pm_geom.proofs.Facets.{dot-opposite, opposite-dot, order_as}
use Rattle.pm_geom.proofs.Reduce.{extreme_as, same_modulo_as}
use Rattle.pm_geom.proofs.Independent.{independent_more}
use Rattle.pm_dd.specs.Description.{Adjacent, Source, kept, pair, IsSource, IsRayStep, IsNext, AreDualRays}
use Rattle.pm_dd.specs.Fronts.{both_signs, HalfSpaces, IsFront, DdStep, SignsCutOut, StepWithEquations, NextWithEquations, DualWithEquations}
use Rattle.pm_dd.proofs.StepLaws.{flat_on, place_of, at_place, step_is_complete}
use Rattle.pm_dd.proofs.Next.{next_is_order}
use Rattle.pm_dd.proofs.Start.{dual_is_order}
use Rattle.pm_dd.proofs.Count.{rank_few}
use lib.IntN.{ℤ, pos}
use lib.Signed.{◌≤ℤ◌}

-- ---- a change of the set that is the same on rows of n entries, and of the rows that are the same for adjacency
pub step_as : (n : ℕ) (S S' : Row → Type 0) → ((x : Row) → length x ≡ n → S x → S' x) → ((x : Row) → length x ≡ n → S' x → S x) → (A A' : List Row) (a : Row) (V : List Row) →
    ((s : Source) → IsSource A a V s ↔ IsSource A' a V s) → IsRayStep n S A a V → IsRayStep n S' A' a V
step_as n S S' to from A A' a V src step = record {
  each = λ s p. extreme_as n S S' to from (step.each s ((src s).1 p));
  all = λ x e. let w = step.all x (extreme_as n S' S from to e) in (w.0, (src w.0).0 w.1, same_modulo_as n S S' to from w.2);
  once = λ s t p q m. step.once s t ((src s).1 p) ((src t).1 q) (same_modulo_as n S' S from to m);
}

-- a row in the span of A vanishes on the lineality of what A cuts out
pub span_flat : (A : List Row) (a : Row) → InSpan A a → (x : Row) → InLineality (CutOut A) x → dot a x ≡ pos 0
span_flat A a s x h = dot_comm a x ∙ dot_span_zero x A a (λ g i. dot_comm x g ∙ flat_on A x h g i) s

-- ---- fronts
pub take_suc : (X : List Row) (f : ℕ) → f < length X → take (suc f) X ≡ take f X ++ row_at X f ∷ []
take_suc X f l = let e : suc f ≡ f + 1 = omega arith in ap (λ (k : ℕ). take k X) e ∙ take_more X f [] l

pub cut_front : (X : List Row) (f : ℕ) → f < length X → (x : Row) → CutOut (take (suc f) X) x ↔ CutOut (row_at X f ∷ take f X) x
cut_front X f l x = (
  λ h. let p = append_all (λ (b : Row). pos 0 ≤ℤ dot b x) (take f X) (row_at X f ∷ []) (subst (λ (Z : List Row). CutOut Z x) (take_suc X f l) h) in (p.1.0, p.0),
  λ h. subst (λ (Z : List Row). CutOut Z x) (sym (take_suc X f l)) (all_append (λ (b : Row). pos 0 ≤ℤ dot b x) (take f X) (row_at X f ∷ []) h.1 (h.0, tt)),
)

pub among_take : (k : ℕ) (X : List Row) {x : Row} → Among x (take k X) → Among x X
among_take zero X i = elim i [ ]
among_take (suc k) [] i = elim i [ ]
among_take (suc k) (y ∷ X) here = here
among_take (suc k) (y ∷ X) (there i) = there (among_take k X i)

pub among_take_more : (d f : ℕ) (X : List Row) {x : Row} → d ≤ f → Among x (take d X) → Among x (take f X)
among_take_more zero f X l i = elim i [ ]
among_take_more (suc d) zero X l i = absurd (omega arith)
among_take_more (suc d) (suc f) [] l i = elim i [ ]
among_take_more (suc d) (suc f) (y ∷ X) l here = here
among_take_more (suc d) (suc f) (y ∷ X) l (there i) = there (among_take_more d f X (omega arith) i)

pub take_cols : (n k : ℕ) (X : List Row) → HasCols n X → HasCols n (take k X)
take_cols n k X h = all_from (λ (x : Row). length x ≡ n) (take k X) (λ x i. cols_at (among_take k X i) h)

-- as many independent rows as the rank says span all
pub independent_front : (n : ℕ) (X : List Row) → HasCols n X → (d : ℕ) → IsRank X d → IsIndependent (take d X) → IsFront X d
independent_front n X hX d r free = same_span (take d X) X (λ x i. in_line (among_take d X i)) from
  where
    too_many : (x : Row) → Among x X → ¬ (InSpan (take d X) x) → ⊥
    too_many x i out =
        let few = independent_are_few (x ∷ take d X) r.basis (independent_more (take d X) x free out) (λ p lp. span_from r.span (in_line (inside x i (at_place (x ∷ take d X) p lp)))) in
        let e = r.as_many in
        let m = rank_few X d r in
        let t : length (take d X) ≡ d = length-take-le d X m in
        omega arith
      where
        inside : (x : Row) → Among x X → {y : Row} → Among y (x ∷ take d X) → Among y X
        inside x i here = i
        inside x i (there j) = among_take d X j

    from : (x : Row) → Among x X → InSpan (take d X) x
    from x i = elim (membership_decided n [] (take d X) tt (take_cols n d X hX) x (cols_at i hX)) [ inl s ↦ s | inr out ↦ absurd (too_many x i out) ]

pub longer_front : (X : List Row) (d f : ℕ) → d ≤ f → IsFront X d → IsFront X f
longer_front X d f l s = same_span (take f X) X (λ x i. in_line (among_take f X i)) (λ x i. span_of (take f X) (take d X) (λ r j. in_line (among_take_more d f X l j)) (span_from s (in_line i)))

pub front_step : (n : ℕ) (X : List Row) → HasCols n X → (f : ℕ) → IsFront X f → f < length X → (V : List Row) → IsOrder n (CutOut (take f X)) V → IsRayStep n (CutOut (take (suc f) X)) (take f X) (row_at X f) V
front_step n X hX f s l V oV =
    let i = at_place X f l in
    step_as n (CutOut (row_at X f ∷ take f X)) (CutOut (take (suc f) X)) (λ x lx. (cut_front X f l x).1) (λ x lx. (cut_front X f l x).0) (take f X) (take f X) (row_at X f) V (λ s. (λ p. p, λ p. p))
    (step_is_complete n (take f X) (row_at X f) (take_cols n f X hX) (cols_at i hX) (λ x lx h. span_flat (take f X) (row_at X f) (span_from s (in_line i)) x h) V oV)

pub dd_step_holds : DdStep
dd_step_holds n X hX d r free f df l V oV = front_step n X hX f (longer_front X d f df (independent_front n X hX d r free)) l V oV

-- ---- equations with both signs
pub signs_cut_out : SignsCutOut
signs_cut_out [] J x = (λ h. (tt, h), λ h. h.1)
signs_cut_out (l ∷ E) J x =
    let r = signs_cut_out E J x in (
      λ h. let p = h.0 in let q = rw opposite-dot at h.1.0 in let w = r.0 h.1.1 in ((omega (arith, ints), w.0), w.1),
      λ h. let z = h.0.0 in (omega (arith, ints), (rw opposite-dot (omega (arith, ints)), r.1 (h.0.1, h.1))),
    )

signs_zero : (E : List Row) (x : Row) → IsNull E x → {b : Row} → Among b (both_signs E) → dot b x ≡ pos 0
signs_zero [] x h i = elim i [ ]
signs_zero (l ∷ E) x h here = h.0
signs_zero (l ∷ E) x h (there here) = let z = h.0 in rw opposite-dot (omega (arith, ints))
signs_zero (l ∷ E) x h (there (there i)) = signs_zero E x h.1 i

pub signs_have : (E : List Row) {l : Row} → Among l E → Among l (both_signs E)
signs_have [] x = elim x [ ]
signs_have (l ∷ E) here = here
signs_have (l ∷ E) (there i) = there (there (signs_have E i))

pub signs_cols : (n : ℕ) (E : List Row) → HasCols n E → HasCols n (both_signs E)
signs_cols n [] h = tt
signs_cols n (l ∷ E) h = (h.0, (length-opposite l ∙ h.0, signs_cols n E h.1))

module _ (n : ℕ) (E J : List Row) (a : Row) (hE : HasCols n E) (hJ : HasCols n J) (la : length a ≡ n) (s : InSpan (E ++ J) a) (V : List Row) (oV : IsOrder n (HalfSpaces E J) V) where
  A : List Row
  A = both_signs E ++ J

  cols : HasCols n (both_signs E ++ J)
  cols = all_append (λ (x : Row). length x ≡ n) (both_signs E) J (signs_cols n E hE) hJ

  order : IsOrder n (CutOut (both_signs E ++ J)) V
  order = order_as n (HalfSpaces E J) (CutOut (both_signs E ++ J)) (λ x lx. (signs_cut_out E J x).1) (λ x lx. (signs_cut_out E J x).0) oV

  flat : (x : Row) → length x ≡ n → InLineality (CutOut (both_signs E ++ J)) x → dot a x ≡ pos 0
  flat x lx h = span_flat (both_signs E ++ J) a (span_of (both_signs E ++ J) (E ++ J) (λ r i. elim (among_append E J i) [ inl j ↦ in_line (among_append_left J (signs_have E j)) | inr j ↦ in_line (among_append_right (both_signs E) j) ]) s) x h

  null_at : (k : ℕ) → k < length V → IsNull E (ray V k)
  null_at k l = (among_All (λ v. IsExtreme n (HalfSpaces E J) v) (at_place V k l) oV.each).inside.0

  adjacent_to : (i j : ℕ) → Adjacent (both_signs E ++ J) V i j → Adjacent J V i j
  adjacent_to i j adj = record { third = λ k lk f. adj.third k lk (λ b c zi zj. elim (among_append (both_signs E) J (among_Contains (both_signs E ++ J) c)) [ inl m ↦ signs_zero E (ray V k) (null_at k lk) m | inr m ↦ f b (Contains_among m) zi zj ]) }

  adjacent_from : (i j : ℕ) → Adjacent J V i j → Adjacent (both_signs E ++ J) V i j
  adjacent_from i j adj = record { third = λ k lk f. adj.third k lk (λ b c zi zj. f b (Contains_among (among_append_right (both_signs E) (among_Contains J c))) zi zj) }

  sources : (s : Source) → IsSource (both_signs E ++ J) a V s ↔ IsSource J a V s
  sources (kept i) = (λ p. p, λ p. p)
  sources (pair i j) = (λ p. (p.0, p.1, p.2, p.3, adjacent_to i j p.4), λ p. (p.0, p.1, p.2, p.3, adjacent_from i j p.4))

  to_halves : (x : Row) → length x ≡ n → CutOut (a ∷ both_signs E ++ J) x → HalfSpaces E (a ∷ J) x
  to_halves x lx h = let w = (signs_cut_out E J x).0 h.1 in (w.0, (h.0, w.1))

  from_halves : (x : Row) → length x ≡ n → HalfSpaces E (a ∷ J) x → CutOut (a ∷ both_signs E ++ J) x
  from_halves x lx h = (h.1.0, (signs_cut_out E J x).1 (h.0, h.1.1))

  pub step_with : IsRayStep n (HalfSpaces E (a ∷ J)) J a V
  step_with = step_as n (CutOut (a ∷ both_signs E ++ J)) (HalfSpaces E (a ∷ J)) to_halves from_halves (both_signs E ++ J) J a V sources (step_is_complete n (both_signs E ++ J) a cols la flat V order)

  pub next_with : (W : List Row) (ss : List Source) → IsNext n (HalfSpaces E (a ∷ J)) J a V W ss → IsOrder n (HalfSpaces E (a ∷ J)) W
  next_with W ss nx = order_as n (CutOut (a ∷ both_signs E ++ J)) (HalfSpaces E (a ∷ J)) to_halves from_halves (next_is_order n (both_signs E ++ J) a cols la flat V order W ss (record {
    as_many = nx.as_many;
    cols = nx.cols;
    given = λ k l. ((sources (get_or ss k (kept 0))).1 (nx.given k l).0, same_modulo_as n (HalfSpaces E (a ∷ J)) (CutOut (a ∷ both_signs E ++ J)) from_halves to_halves (nx.given k l).1);
    inside = λ k l. from_halves (ray W k) (cols_at (at_place W k l) nx.cols) (nx.inside k l);
    every = λ s p. nx.every s ((sources s).0 p);
    once = nx.once;
  }))

pub step_with_equations : StepWithEquations
step_with_equations = step_with

pub next_with_equations : NextWithEquations
next_with_equations = next_with

-- ---- the rays of a cone on which equations hold are the rays of its part where they do
module _ (n : ℕ) (E J : List Row) where
  null_cut : (x : Row) → IsNull E x → CutOut E x
  null_cut x h = cut_from E x (λ b i. let z = all_at (λ (e : Row). dot e x ≡ pos 0) i h in omega (arith, ints))

  part_in : (x : Row) → HalfSpaces E J x → CutOut (E ++ J) x
  part_in x h = all_append (λ (b : Row). pos 0 ≤ℤ dot b x) E J (null_cut x h.0) h.1

  in_part : (x : Row) → IsNull E x → CutOut (E ++ J) x → HalfSpaces E J x
  in_part x z h = (z, (append_all (λ (b : Row). pos 0 ≤ℤ dot b x) E J h).1)

  line_zero : (x : Row) → InLineality (CutOut (E ++ J)) x → IsNull E x
  line_zero x h = all_from (λ (e : Row). dot e x ≡ pos 0) E (λ e i. flat_on (E ++ J) x h e (among_append_left J i))

  opposite_null : (x : Row) → IsNull E x → IsNull E (opposite x)
  opposite_null x h = all_from (λ (e : Row). dot e (opposite x) ≡ pos 0) E (λ e i. let z = all_at (λ (e : Row). dot e x ≡ pos 0) i h in dot-opposite e x ∙ omega (arith, ints))

  line_to : (x : Row) → InLineality (CutOut (E ++ J)) x → InLineality (HalfSpaces E J) x
  line_to x h = record { inside = in_part x (line_zero x h) h.inside; opposed = in_part (opposite x) (opposite_null x (line_zero x h)) h.opposed }

  line_of : (x : Row) → InLineality (HalfSpaces E J) x → InLineality (CutOut (E ++ J)) x
  line_of x h = record { inside = part_in x h.inside; opposed = part_in (opposite x) h.opposed }

  multiple_to : {r u : Row} → MultipleModulo n (CutOut (E ++ J)) r u → MultipleModulo n (HalfSpaces E J) r u
  multiple_to t = record { p = t.p; k = t.k; w = t.w; cols = t.cols; positive = t.positive; not_negative = t.not_negative; line = line_to t.w t.line; same = t.same }

  multiple_of : {r u : Row} → MultipleModulo n (HalfSpaces E J) r u → MultipleModulo n (CutOut (E ++ J)) r u
  multiple_of t = record { p = t.p; k = t.k; w = t.w; cols = t.cols; positive = t.positive; not_negative = t.not_negative; line = line_of t.w t.line; same = t.same }

  same_to : {r u : Row} → SameModulo n (CutOut (E ++ J)) r u → SameModulo n (HalfSpaces E J) r u
  same_to t = record { p = t.p; k = t.k; w = t.w; cols = t.cols; p_positive = t.p_positive; k_positive = t.k_positive; line = line_to t.w t.line; same = t.same }

  same_of : {r u : Row} → SameModulo n (HalfSpaces E J) r u → SameModulo n (CutOut (E ++ J)) r u
  same_of t = record { p = t.p; k = t.k; w = t.w; cols = t.cols; p_positive = t.p_positive; k_positive = t.k_positive; line = line_of t.w t.line; same = t.same }

  pub extreme_to : (r : Row) → IsNull E r → IsExtreme n (CutOut (E ++ J)) r → IsExtreme n (HalfSpaces E J) r
  extreme_to r z e = record {
    cols = e.cols;
    inside = in_part r z e.inside;
    not_line = λ o. e.not_line (part_in (opposite r) o);
    summands = λ p u v hp lu lv hu hv s. let t = e.summands p u v hp lu lv (part_in u hu) (part_in v hv) s in (multiple_to t.0, multiple_to t.1);
  }

  parts_null : (r : Row) (p : ℤ) (u v : Row) → IsNull E r → CutOut (E ++ J) u → CutOut (E ++ J) v → Same (times p r) (plus u v) → IsNull E u × IsNull E v
  parts_null r p u v z hu hv s = (all_from (λ (e : Row). dot e u ≡ pos 0) E (λ e i. (each e i).0), all_from (λ (e : Row). dot e v ≡ pos 0) E (λ e i. (each e i).1))
    where
      each : (e : Row) → Among e E → (dot e u ≡ pos 0) × (dot e v ≡ pos 0)
      each e i =
          let zr = all_at (λ (e : Row). dot e r ≡ pos 0) i z in
          let q = simp (dot-times, dot-plus, zr, ring) at (dot-same e (times p r) (plus u v) s.at) in
          let pu = cut_at u (among_append_left J i) hu in
          let pv = cut_at v (among_append_left J i) hv in
          (omega (arith, ints), omega (arith, ints))

  pub extreme_of : (r : Row) → IsExtreme n (HalfSpaces E J) r → IsExtreme n (CutOut (E ++ J)) r
  extreme_of r e = record {
    cols = e.cols;
    inside = part_in r e.inside;
    not_line = λ o. e.not_line (in_part (opposite r) (opposite_null r e.inside.0) o);
    summands = λ p u v hp lu lv hu hv s.
        let z = parts_null r p u v e.inside.0 hu hv s in
        let t = e.summands p u v hp lu lv (in_part u z.0 hu) (in_part v z.1 hv) s in
        (multiple_of t.0, multiple_of t.1);
  }

-- ---- the start
module _ (n : ℕ) (E J D : List Row) (d : AreDualRays n (E ++ J) D) where
  whole : IsOrder n (CutOut (E ++ J)) D
  whole = dual_is_order n (E ++ J) D d

  total : length D ≡ length E + length J
  total = d.as_many ∙ length-append E J

  equation_zero : (j : ℕ) → length E ≤ j → j < length D → IsNull E (ray D j)
  equation_zero j le lj = all_from (λ (e : Row). dot e (ray D j) ≡ pos 0) E (λ e i. let w = place_of (among_append_left J i) in let small = place_small E i in let t = total in let c = length-append E J in
      subst (λ (b : Row). dot b (ray D j) ≡ pos 0) (row_left E J small.0 small.1 ∙ small.2) (d.apart small.0 j (let q = small.1 in omega arith) (omega arith) (λ q. let r = small.1 in omega arith)))
    where
      place_small : (E : List Row) {e : Row} → Among e E → (k : ℕ) × (k < length E) × (ray E k ≡ e)
      place_small E i = place_of i

      row_left : (E J : List Row) (k : ℕ) → k < length E → ray (E ++ J) k ≡ ray E k
      row_left [] J k l = absurd (omega arith)
      row_left (x ∷ E) J zero l = refl
      row_left (x ∷ E) J (suc k) l = row_left E J k (omega arith)

  not_equation : (x : Row) → IsExtreme n (HalfSpaces E J) x → (k : ℕ) → k < length D → SameModulo n (CutOut (E ++ J)) x (ray D k) → length E ≤ k
  not_equation x e k lk t = elim (cases_lt k (length E)) [
    | inr l ↦ l
    | inl l ↦ absurd (
        let c = length-append E J in
        let lk' : k < length (E ++ J) = omega arith in
        let own = d.own k lk' in
        let w = flat_on (E ++ J) t.w t.line (ray (E ++ J) k) (at_place (E ++ J) k lk') in
        let z : dot (ray (E ++ J) k) x ≡ pos 0 = subst (λ (b : Row). dot b x ≡ pos 0) (sym (row_left E J k l)) (all_at (λ (b : Row). dot b x ≡ pos 0) (at_place E k l) e.inside.0) in
        let q = simp (dot-times, dot-plus, z, w, ring) at (dot-same (ray (E ++ J) k) (times t.p (ray D k)) (plus (times t.k x) t.w) t.same.at) in
        let m = mul_pos t.p_positive own in
        omega (arith, ints))
  ]
    where
      row_left : (E J : List Row) (k : ℕ) → k < length E → ray (E ++ J) k ≡ ray E k
      row_left [] J k l = absurd (omega arith)
      row_left (x ∷ E) J zero l = refl
      row_left (x ∷ E) J (suc k) l = row_left E J k (omega arith)

  place_after : (k : ℕ) → k < length (drop (length E) D) → length E + k < length D
  place_after k l = let q = length-drop (length E) D in let t = total in omega arith

  ray_after : (k : ℕ) → ray (drop (length E) D) k ≡ ray D (length E + k)
  ray_after k = get_or-drop (length E) D k []

  after_extreme : (k : ℕ) → k < length (drop (length E) D) → IsExtreme n (HalfSpaces E J) (ray (drop (length E) D) k)
  after_extreme k l = subst (λ (v : Row). IsExtreme n (HalfSpaces E J) v) (sym (ray_after k))
      (extreme_to n E J (ray D (length E + k)) (equation_zero (length E + k) (omega arith) (place_after k l)) (among_All (λ v. IsExtreme n (CutOut (E ++ J)) v) (at_place D (length E + k) (place_after k l)) whole.each))

  after_all : (x : Row) → IsExtreme n (HalfSpaces E J) x → Any (λ v. SameModulo n (HalfSpaces E J) x v) (drop (length E) D)
  after_all x e =
      let w = whole.all x (extreme_of n E J x e) in
      let k = w.0 in
      let here' : ray D w.0 ≡ w.1 = sym (get_or_default D w.0 w.1 [] w.2) ∙ w.3 in
      let t = subst (λ (v : Row). SameModulo n (CutOut (E ++ J)) x v) (sym here') w.4 in
      let le = not_equation x e w.0 w.2 t in
      let lk = w.2 in
      let q = length-drop (length E) D in
      let lm : w.0 - length E < length (drop (length E) D) = omega arith in
      let back : length E + (w.0 - length E) ≡ w.0 = omega arith in
      (w.0 - length E, ray D w.0, lm, get_or_default (drop (length E) D) (w.0 - length E) (ray D w.0) [] lm ∙ ray_after (w.0 - length E) ∙ ap (ray D) back, same_to n E J t)

pub dual_with_equations : DualWithEquations
dual_with_equations n E J D d = record {
  each = λ k x l. rw (get_or_default (drop (length E) D) k x [] l) (after_extreme n E J D d k l);
  all = after_all n E J D d;
  once = λ i j x l m t.
      let li : i < length (drop (length E) D) = omega arith in
      let u = rw (get_or_default (drop (length E) D) i x [] li, get_or_default (drop (length E) D) j x [] m, ray_after n E J D d i, ray_after n E J D d j) at t in
      (dual_is_order n (E ++ J) D d).once (length E + i) (length E + j) [] (omega arith) (place_after n E J D d j m) (same_of n E J u);
}

-- ---- a front that, with the equations, has the span of all
pub front_spans : (E J : List Row) (start f : ℕ) → start ≤ f → SameSpan (E ++ take start J) (E ++ J) → SameSpan (E ++ take f J) (E ++ J)
front_spans E J start f l s = same_span (E ++ take f J) (E ++ J)
    (λ r i. elim (among_append E (take f J) i) [ inl j ↦ in_line (among_append_left J j) | inr j ↦ in_line (among_append_right E (among_take f J j)) ])
    (λ r i. span_of (E ++ take f J) (E ++ take start J) (λ g k. elim (among_append E (take start J) k) [ inl j ↦ in_line (among_append_left (take f J) j) | inr j ↦ in_line (among_append_right E (among_take_more start f J l j)) ]) (span_from s (in_line i)))

pub next_spanned : (E J : List Row) (start f : ℕ) → start ≤ f → f < length J → SameSpan (E ++ take start J) (E ++ J) → InSpan (E ++ take f J) (row_at J f)
next_spanned E J start f l m s = span_from (front_spans E J start f l s) (in_line (among_append_right E (at_place J f m)))

pub front_rank : (E J : List Row) (start f d : ℕ) → start ≤ f → SameSpan (E ++ take start J) (E ++ J) → IsRank (E ++ J) d → IsRank (E ++ take f J) d
front_rank E J start f d l s r = record { basis = r.basis; independent = r.independent; span = same_span_trans r.span (same_span_sym (front_spans E J start f l s)); as_many = r.as_many }
