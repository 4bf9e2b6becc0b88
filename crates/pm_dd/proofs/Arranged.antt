-- The rows as they are taken, and the fronts of the stated order.
use Rattle.std.specs.Prelude.{ℕ, ◌+◌, ◌-◌, suc, ◌*◌, ◌≡◌, ◌<◌, ◌≤◌, true, false, None, Some, List, [], ◌++◌, drop, length, map, take}
use Rattle.std.proofs.Common.{ap, arith, inl, inr, refl, subst, sym, ◌∙◌}
use Rattle.std.proofs.Math.Seq.{take-append-add}
use Rattle.std.proofs.lemmas.Int.{ints}
use Rattle.std.proofs.lemmas.List.{get_or-append-add, get_or-drop, length-append, length-drop, length-map, length-take-le, take-append-drop}
use Rattle.pm_vector.specs.Cones.{IsIndependent}
use Rattle.pm_vector.specs.Divisors.{IsPrimitive}
use Rattle.pm_vector.specs.Rows.{HasCols, Row, dot, opposite}
use Rattle.pm_vector.proofs.ConeLaws.{in_line}
use Rattle.pm_vector.proofs.Filters.{among_map}
use Rattle.pm_vector.proofs.Lists.{Among, Contains_among, all_append, all_at, all_from, among_All, among_Contains, among_append, among_append_left, among_append_right, append_all}
use Rattle.pm_vector.specs.Bases.{IsRank, SameSpan, row_at}
use Rattle.pm_vector.proofs.Rank.{rank_is_determined}
use Rattle.pm_vector.proofs.Spans.{same_span, same_span_sym, span_from}
use Rattle.pm_vector.proofs.DotLaws.{null_of_span}
use Rattle.pm_vector.specs.NullSpaces.{IsNull, IsNullBasis}
use Rattle.pm_geom.specs.Cones.{CutOut, InLineality, IsExtreme, IsOrder}
use Rattle.pm_geom.specs.Faces.{ray}
use Rattle.pm_geom.specs.Generators.{IsCanonicalRay, IsLinealityBasis, VanishAt}
use Rattle.pm_geom.specs.RayEvidence.{IsCrowded, IsWidePair}
use Rattle.pm_geom.specs.StatedOrder.{IsStatedFront, IsStatedOrder}
use Rattle.pm_geom.proofs.Facets.{dot-opposite, opposite-dot, order_as}
use Rattle.pm_geom.proofs.Polar.{cols_at, cut_at, cut_from}
use Rattle.pm_geom.proofs.Reduce.{extreme_as, same_modulo_as}
use Rattle.pm_vector.specs.Products.{ProductsStay}
use Rattle.pm_dd.specs.Arrangement.{IsArrangement}
use Rattle.pm_dd.specs.Form.{AreReduced}
use Rattle.pm_dd.specs.Description.{IsRayStep}
use Rattle.pm_dd.specs.Fronts.{HalfSpaces}
use Rattle.pm_dd.specs.Lost.{DualsAreLost, HasWideRay, IsLostSource, StartIsLost}
use Rattle.pm_dd.specs.Refusals.{IsEliminationFail, IsShown}
use Rattle.pm_dd.specs.StepFails.{AreTooMany, IsWideSource}
use Rattle.pm_dd.specs.declared.fails.DdFail.{DdFail}
use Rattle.pm_dd.specs.declared.fails.DdFail.TheVariants.{Many, Memory, Wide}
use Rattle.pm_geom.specs.declared.evidence.Evidence.TheVariants.{E1}
use Rattle.pm_dd.proofs.Marks.{among_marked, marked_lengths}
use Rattle.pm_dd.proofs.Fronts.{dd_step_holds}
use Rattle.pm_dd.proofs.Lost.{wide_ray}
use Rattle.pm_dd.proofs.Stated.{among_rows, marked_free, marked_rank, marked_span, stated_order_spans, step_fail_shows}
use Rattle.pm_dd.proofs.StepLaws.{at_place, flat_on}
use Rattle.pm_dd.proofs.Tables.{among_of_map}
use lib.IntN.{pos}
use lib.Signed.{◌≤ℤ◌}
use Rattle.pm_limits.specs.Limits.{most_rows}

module _ (n : ℕ) (X E J : List Row) (start : ℕ) (hX : HasCols n X) (a : IsArrangement X E J start) where
  -- the rows that enlarge the span, and the others
  first : List Row
  first = E ++ take start J

  pub first_free : IsIndependent (E ++ take start J)
  first_free = subst (λ (Z : List Row). IsIndependent Z) a.first (marked_free n X hX a.marks a.enlarging)

  pub first_span : SameSpan (E ++ take start J) X
  first_span = subst (λ (Z : List Row). SameSpan Z X) a.first (marked_span n X hX a.marks a.enlarging)

  pub first_length : length (E ++ take start J) ≡ length E + start
  first_length = length-append E (take start J) ∙ ap (λ (k : ℕ). length E + k) (length-take-le start J a.within)

  pub first_rank : IsRank X (length E + start)
  first_rank = subst (λ (k : ℕ). IsRank X k) (ap length a.first ∙ first_length) (marked_rank n X hX a.marks a.enlarging)

  pub first_few : length E + start ≤ length X
  first_few = let m = marked_lengths a.marks X a.enlarging.as_many in let l = ap length a.first ∙ first_length in omega arith

  among_first : {r : Row} → Among r (E ++ take start J) → Among r X
  among_first {r} i = among_rows true a.marks X (subst (λ (Z : List Row). Among r Z) (sym a.first) i)

  among_others : {r : Row} → Among r (map opposite E ++ drop start J) → Among r X
  among_others {r} i = among_rows false a.marks X (subst (λ (Z : List Row). Among r Z) (sym a.others) i)

  among_rest : {r : Row} → Among r J → Among r X
  among_rest {r} i = elim (among_append (take start J) (drop start J) (subst (λ (Z : List Row). Among r Z) (sym (take-append-drop start J)) i)) [
    | inl j ↦ among_first (among_append_right E j)
    | inr j ↦ among_others (among_append_right (map opposite E) j)
  ]

  pub equation_cols : HasCols n E
  equation_cols = all_from (λ (x : Row). length x ≡ n) E (λ x i. cols_at (among_first (among_append_left (take start J) i)) hX)

  pub row_cols : HasCols n J
  row_cols = all_from (λ (x : Row). length x ≡ n) J (λ x i. cols_at (among_rest i) hX)

  pub first_cols : HasCols n (E ++ take start J)
  first_cols = all_from (λ (x : Row). length x ≡ n) (E ++ take start J) (λ x i. cols_at (among_first i) hX)

  among_taken : {r : Row} → Among r (E ++ J) → Among r X
  among_taken i = elim (among_append E J i) [ inl j ↦ among_first (among_append_left (take start J) j) | inr j ↦ among_rest j ]

  among_front : {r : Row} → Among r (E ++ take start J) → Among r (E ++ J)
  among_front {r} i = elim (among_append E (take start J) i) [
    | inl j ↦ among_append_left J j
    | inr j ↦ among_append_right E (subst (λ (Z : List Row). Among r Z) (take-append-drop start J) (among_append_left (drop start J) j))
  ]

  pub front_spans_all : SameSpan (E ++ take start J) (E ++ J)
  front_spans_all = same_span (E ++ take start J) (E ++ J) (λ r i. in_line (among_front i)) (λ r i. span_from first_span (in_line (among_taken i)))

  pub rank_of_taken : IsRank (E ++ J) (length E + start)
  rank_of_taken = record { basis = E ++ take start J; independent = first_free; span = front_spans_all; as_many = first_length }

  -- ---- the cone of all rows, and its lineality
  pub all_to : (x : Row) → CutOut X x → HalfSpaces E J x
  all_to x h = (
    all_from (λ (e : Row). dot e x ≡ pos 0) E (λ e i.
        let p = cut_at x (among_first (among_append_left (take start J) i)) h in
        let q = cut_at x (among_others (among_append_left (drop start J) (among_map opposite i))) h in
        let r = opposite-dot e x in
        omega (arith, ints)),
    cut_from J x (λ b i. cut_at x (among_rest i) h),
  )

  pub all_of : (x : Row) → HalfSpaces E J x → CutOut X x
  all_of x h = cut_from X x (λ b i. elim (among_marked a.marks X a.enlarging.as_many i) [
    | inl j ↦ elim (among_append E (take start J) (subst (λ (Z : List Row). Among b Z) a.first j)) [
      | inl k ↦ let z = all_at (λ (e : Row). dot e x ≡ pos 0) k h.0 in omega (arith, ints)
      | inr k ↦ cut_at x (subst (λ (Z : List Row). Among b Z) (take-append-drop start J) (among_append_left (drop start J) k)) h.1
    ]
    | inr j ↦ elim (among_append (map opposite E) (drop start J) (subst (λ (Z : List Row). Among b Z) a.others j)) [
      | inl k ↦ let w = among_of_map opposite E k in let z = all_at (λ (e : Row). dot e x ≡ pos 0) w.1 h.0 in let r = opposite-dot w.0 x in subst (λ (b : Row). pos 0 ≤ℤ dot b x) w.2 (omega (arith, ints))
      | inr k ↦ cut_at x (subst (λ (Z : List Row). Among b Z) (take-append-drop start J) (among_append_right (take start J) k)) h.1
    ]
  ])

  pub all_lines : (N : List Row) (P : List ℕ) → IsNullBasis n (E ++ take start J) N P → IsLinealityBasis n (CutOut X) N P
  all_lines N P b = record { echelon = b.echelon; lines = λ x lx. (λ h. (b.null x lx).1 (null_of_line x h), λ h. line_of_null x ((b.null x lx).0 h)) }
    where
      null_of_line : (x : Row) → InLineality (CutOut X) x → IsNull (E ++ take start J) x
      null_of_line x h = all_from (λ (e : Row). dot e x ≡ pos 0) (E ++ take start J) (λ e i. flat_on X x h e (among_first i))

      line_of_null : (x : Row) → IsNull (E ++ take start J) x → InLineality (CutOut X) x
      line_of_null x h =
          let z : IsNull X x = null_of_span (E ++ take start J) X x (same_span_sym first_span) h in
          record {
            inside = cut_from X x (λ b i. let q = all_at (λ (e : Row). dot e x ≡ pos 0) i z in omega (arith, ints));
            opposed = cut_from X (opposite x) (λ b i. let q = all_at (λ (e : Row). dot e x ≡ pos 0) i z in let r = dot-opposite b x in omega (arith, ints));
          }

  -- ---- evidence on the rows that enlarge the span
  pub elimination_shown : (f : DdFail) → IsEliminationFail n (E ++ take start J) f → IsShown n X f
  elimination_shown (Wide (E1 step)) h = inr (record { marks = a.marks; enlarging = a.enlarging; evidence = rw a.first h })
  elimination_shown (Wide e) h = absurd h
  elimination_shown (Many e) h = absurd h
  elimination_shown Memory h = tt

  pub start_lost : DualsAreLost n (E ++ take start J) → StartIsLost n X
  start_lost h = record { marks = a.marks; enlarging = a.enlarging; lost = rw a.first h }

  -- ---- the stated order, and its fronts
  ordered : List Row
  ordered = (E ++ take start J) ++ (map opposite E ++ drop start J)

  stated : IsStatedOrder X ((E ++ take start J) ++ (map opposite E ++ drop start J))
  stated = record { marks = a.marks; enlarging = a.enlarging; ordered = rw (a.first, a.others) refl }

  among_ordered : {r : Row} → Among r ((E ++ take start J) ++ (map opposite E ++ drop start J)) → Among r X
  among_ordered i = elim (among_append (E ++ take start J) (map opposite E ++ drop start J) i) [ inl j ↦ among_first j | inr j ↦ among_others j ]

  module _ (f : ℕ) (from : start ≤ f) where
    parts : take (f + 2 * length E) ((E ++ take start J) ++ (map opposite E ++ drop start J)) ≡ (E ++ take start J) ++ (map opposite E ++ take (f - start) (drop start J))
    parts =
        let e = first_length in
        let o = length-map E opposite in
        let k : f + 2 * length E ≡ length (E ++ take start J) + (length (map opposite E) + (f - start)) = omega arith in
        ap (λ (m : ℕ). take m ((E ++ take start J) ++ (map opposite E ++ drop start J))) k
        ∙ take-append-add (E ++ take start J) (map opposite E ++ drop start J) (length (map opposite E) + (f - start))
        ∙ ap (λ (Z : List Row). (E ++ take start J) ++ Z) (take-append-add (map opposite E) (drop start J) (f - start))

    front_parts : take f J ≡ take start J ++ take (f - start) (drop start J)
    front_parts =
        let e = length-take-le start J a.within in
        let k : f ≡ length (take start J) + (f - start) = omega arith in
        ap (λ (Z : List Row). take f Z) (sym (take-append-drop start J)) ∙ ap (λ (m : ℕ). take m (take start J ++ drop start J)) k ∙ take-append-add (take start J) (drop start J) (f - start)

    next_row : row_at ((E ++ take start J) ++ (map opposite E ++ drop start J)) (f + 2 * length E) ≡ row_at J f
    next_row =
        let e = first_length in
        let o = length-map E opposite in
        let k : f + 2 * length E ≡ length (E ++ take start J) + (length (map opposite E) + (f - start)) = omega arith in
        let l : start + (f - start) ≡ f = omega arith in
        ap (λ (m : ℕ). row_at ((E ++ take start J) ++ (map opposite E ++ drop start J)) m) k
        ∙ get_or-append-add (E ++ take start J) (map opposite E ++ drop start J) (length (map opposite E) + (f - start)) []
        ∙ get_or-append-add (map opposite E) (drop start J) (f - start) []
        ∙ get_or-drop start J (f - start) []
        ∙ ap (λ (m : ℕ). row_at J m) l

    cut_to : (x : Row) → CutOut (take (f + 2 * length E) ((E ++ take start J) ++ (map opposite E ++ drop start J))) x → HalfSpaces E (take f J) x
    cut_to x h =
        let (one, two) = append_all (λ (b : Row). pos 0 ≤ℤ dot b x) (E ++ take start J) (map opposite E ++ take (f - start) (drop start J)) (rw parts at h) in
        let (hE, hA) = append_all (λ (b : Row). pos 0 ≤ℤ dot b x) E (take start J) one in
        let (hO, hB) = append_all (λ (b : Row). pos 0 ≤ℤ dot b x) (map opposite E) (take (f - start) (drop start J)) two in (
          all_from (λ (e : Row). dot e x ≡ pos 0) E (λ e i. let p = cut_at x i hE in let q = cut_at x (among_map opposite i) hO in let r = opposite-dot e x in omega (arith, ints)),
          rw front_parts (all_append (λ (b : Row). pos 0 ≤ℤ dot b x) (take start J) (take (f - start) (drop start J)) hA hB),
        )

    cut_of : (x : Row) → HalfSpaces E (take f J) x → CutOut (take (f + 2 * length E) ((E ++ take start J) ++ (map opposite E ++ drop start J))) x
    cut_of x h =
        let (hA, hB) = append_all (λ (b : Row). pos 0 ≤ℤ dot b x) (take start J) (take (f - start) (drop start J)) (rw front_parts at h.1) in
        let hE : CutOut E x = cut_from E x (λ e i. let z = all_at (λ (e : Row). dot e x ≡ pos 0) i h.0 in omega (arith, ints)) in
        let hO : CutOut (map opposite E) x = cut_from (map opposite E) x (λ b i. let w = among_of_map opposite E i in let z = all_at (λ (e : Row). dot e x ≡ pos 0) w.1 h.0 in let r = opposite-dot w.0 x in subst (λ (b : Row). pos 0 ≤ℤ dot b x) w.2 (omega (arith, ints))) in
        rw parts (all_append (λ (b : Row). pos 0 ≤ℤ dot b x) (E ++ take start J) (map opposite E ++ take (f - start) (drop start J))
        (all_append (λ (b : Row). pos 0 ≤ℤ dot b x) E (take start J) hE hA)
        (all_append (λ (b : Row). pos 0 ≤ℤ dot b x) (map opposite E) (take (f - start) (drop start J)) hO hB))

    among_first_front : {r : Row} → Among r (E ++ take start J) → Among r (take (f + 2 * length E) ((E ++ take start J) ++ (map opposite E ++ drop start J)))
    among_first_front {r} i = subst (λ (Z : List Row). Among r Z) (sym parts) (among_append_left (map opposite E ++ take (f - start) (drop start J)) i)

    among_front_rows : {r : Row} → Among r (take f J) → Among r (take (f + 2 * length E) ((E ++ take start J) ++ (map opposite E ++ drop start J)))
    among_front_rows {r} i = elim (among_append (take start J) (take (f - start) (drop start J)) (subst (λ (Z : List Row). Among r Z) front_parts i)) [
      | inl j ↦ among_first_front (among_append_right E j)
      | inr j ↦ subst (λ (Z : List Row). Among r Z) (sym parts) (among_append_right (E ++ take start J) (among_append_right (map opposite E) j))
    ]

    -- a row of a front is a row of the list
    front_in : {r : Row} → Among r (take (f + 2 * length E) ((E ++ take start J) ++ (map opposite E ++ drop start J))) → Among r X
    front_in {r} i = among_ordered (subst (λ (Z : List Row). Among r Z) (take-append-drop (f + 2 * length E) ((E ++ take start J) ++ (map opposite E ++ drop start J))) (among_append_left (drop (f + 2 * length E) ((E ++ take start J) ++ (map opposite E ++ drop start J))) i))

    ordered_length : length ((E ++ take start J) ++ (map opposite E ++ drop start J)) ≡ length J + 2 * length E
    ordered_length =
        let w = a.within in
        let e = first_length in
        let o = length-map E opposite in
        let d = length-drop start J in
        let p = length-append (E ++ take start J) (map opposite E ++ drop start J) in
        let q = length-append (map opposite E) (drop start J) in
        omega arith

    stated_front : f ≤ length J → IsStatedFront X ((E ++ take start J) ++ (map opposite E ++ drop start J)) (f + 2 * length E)
    stated_front l = record {
      stated = stated;
      enough = λ d r. let q = rank_is_determined X d (length E + start) r first_rank in omega arith;
      within = let q = ordered_length in omega arith;
    }

    pub many_shown : f ≤ length J → (W : List Row) → AreTooMany n (HalfSpaces E (take f J)) W → IsCrowded n X (f + 2 * length E) W
    many_shown l W m = record {
      ordered = (E ++ take start J) ++ (map opposite E ++ drop start J);
      stated = stated_front l;
      extreme = λ k d q. extreme_as n (HalfSpaces E (take f J)) (CutOut (take (f + 2 * length E) ((E ++ take start J) ++ (map opposite E ++ drop start J)))) (λ x lx. cut_of x) (λ x lx. cut_to x) (m.extreme k d q);
      apart = λ i j d q r t. m.apart i j d q r (same_modulo_as n (CutOut (take (f + 2 * length E) ((E ++ take start J) ++ (map opposite E ++ drop start J)))) (HalfSpaces E (take f J)) (λ x lx. cut_to x) (λ x lx. cut_of x) t);
      many = m.many;
    }

    pub order_many : f ≤ length J → (V : List Row) → IsOrder n (HalfSpaces E (take f J)) V → most_rows < length V → IsCrowded n X (f + 2 * length E) V
    order_many l V o m = many_shown l V (record { extreme = o.each; apart = o.once; many = m })

    line_basis : (N : List Row) (P : List ℕ) → IsNullBasis n (E ++ take start J) N P → IsLinealityBasis n (CutOut (take (f + 2 * length E) ((E ++ take start J) ++ (map opposite E ++ drop start J)))) N P
    line_basis N P b = record { echelon = b.echelon; lines = λ x lx. (λ h. (b.null x lx).1 (null_of_line x h), λ h. line_of_null x ((b.null x lx).0 h)) }
      where
        null_of_line : (x : Row) → InLineality (CutOut (take (f + 2 * length E) ((E ++ take start J) ++ (map opposite E ++ drop start J)))) x → IsNull (E ++ take start J) x
        null_of_line x h = all_from (λ (e : Row). dot e x ≡ pos 0) (E ++ take start J) (λ e i. flat_on (take (f + 2 * length E) ((E ++ take start J) ++ (map opposite E ++ drop start J))) x h e (among_first_front i))

        line_of_null : (x : Row) → IsNull (E ++ take start J) x → InLineality (CutOut (take (f + 2 * length E) ((E ++ take start J) ++ (map opposite E ++ drop start J)))) x
        line_of_null x h =
            let z : IsNull X x = null_of_span (E ++ take start J) X x (same_span_sym first_span) h in
            record {
              inside = cut_from (take (f + 2 * length E) ((E ++ take start J) ++ (map opposite E ++ drop start J))) x (λ b i. let q = all_at (λ (e : Row). dot e x ≡ pos 0) (front_in i) z in omega (arith, ints));
              opposed = cut_from (take (f + 2 * length E) ((E ++ take start J) ++ (map opposite E ++ drop start J))) (opposite x) (λ b i. let q = all_at (λ (e : Row). dot e x ≡ pos 0) (front_in i) z in let r = dot-opposite b x in omega (arith, ints));
            }

    module _ (l : f < length J) (V : List Row) (o : IsOrder n (HalfSpaces E (take f J)) V) (r : AreReduced n (E ++ take start J) V) where
      order : IsOrder n (CutOut (take (f + 2 * length E) ((E ++ take start J) ++ (map opposite E ++ drop start J)))) V
      order = order_as n (HalfSpaces E (take f J)) (CutOut (take (f + 2 * length E) ((E ++ take start J) ++ (map opposite E ++ drop start J)))) (λ x lx. cut_of x) (λ x lx. cut_to x) o

      canonical : (k : ℕ) → k < length V → IsCanonicalRay n (CutOut (take (f + 2 * length E) ((E ++ take start J) ++ (map opposite E ++ drop start J)))) (ray V k)
      canonical k lk = record {
        lines = r.null;
        pivots = r.pivots;
        basis = line_basis r.null r.pivots r.basis;
        extreme = among_All (λ v. IsExtreme n (CutOut (take (f + 2 * length E) ((E ++ take start J) ++ (map opposite E ++ drop start J)))) v) (at_place V k lk) order.each;
        primitive = among_All IsPrimitive (at_place V k lk) r.primitive;
        reduced = among_All (VanishAt r.pivots) (at_place V k lk) r.zeros;
      }

      shows : ((k : ℕ) → k < length V → ¬ (ProductsStay (row_at ((E ++ take start J) ++ (map opposite E ++ drop start J)) (f + 2 * length E)) (ray V k)) → IsWidePair n X (f + 2 * length E) (ray V k) (ray V k) None)
          × ((i j c : ℕ) → IsWideSource ((E ++ take start J) ++ (map opposite E ++ drop start J)) (f + 2 * length E) V i j c → IsWidePair n X (f + 2 * length E) (ray V i) (ray V j) (Some c))
      shows = step_fail_shows n X ((E ++ take start J) ++ (map opposite E ++ drop start J)) (f + 2 * length E) (stated_front (omega arith)) (let q = ordered_length in omega arith) V order canonical

      pub product_shown : (k : ℕ) → k < length V → ¬ (ProductsStay (row_at J f) (ray V k)) → IsWidePair n X (f + 2 * length E) (ray V k) (ray V k) None
      product_shown k lk w = shows.0 k lk (subst (λ (x : Row). ¬ (ProductsStay x (ray V k))) (sym next_row) w)

      pub pair_shown : (i j c : ℕ) → IsWideSource J f V i j c → IsWidePair n X (f + 2 * length E) (ray V i) (ray V j) (Some c)
      pair_shown i j c w = shows.1 i j c (record {
        source = rw next_row (w.source.0, w.source.1, w.source.2, w.source.3, record { third = λ k lk p. w.source.4.third k lk (λ b m zi zj. p b (Contains_among (among_front_rows (among_Contains (take f J) m))) zi zj) });
        combination = rw next_row w.combination;
      })

  -- ---- a lost combination
  module _ (f : ℕ) (from : start ≤ f) (l : f < length J) (V : List Row) (o : IsOrder n (HalfSpaces E (take f J)) V) (r : AreReduced n (E ++ take start J) V) (w : IsLostSource J f V) where
    lost_source : IsLostSource ((E ++ take start J) ++ (map opposite E ++ drop start J)) (f + 2 * length E) V
    lost_source = record {
      first = w.first;
      second = w.second;
      source = rw (next_row f from) (w.source.0, w.source.1, w.source.2, w.source.3, record { third = λ k lk p. w.source.4.third k lk (λ b m zi zj. p b (Contains_among (among_front_rows f from (among_Contains (take f J) m))) zi zj) });
      lost = rw (next_row f from) w.lost;
    }

    next_step : IsRayStep n (CutOut (take (suc f + 2 * length E) ((E ++ take start J) ++ (map opposite E ++ drop start J)))) (take (f + 2 * length E) ((E ++ take start J) ++ (map opposite E ++ drop start J))) (row_at ((E ++ take start J) ++ (map opposite E ++ drop start J)) (f + 2 * length E)) V
    next_step =
        let (cols, span, rank, free) = stated_order_spans n X ((E ++ take start J) ++ (map opposite E ++ drop start J)) hX stated (length E + start) first_rank in
        let e : suc (f + 2 * length E) ≡ suc f + 2 * length E = omega arith in
        subst (λ (k : ℕ). IsRayStep n (CutOut (take k ((E ++ take start J) ++ (map opposite E ++ drop start J)))) (take (f + 2 * length E) ((E ++ take start J) ++ (map opposite E ++ drop start J))) (row_at ((E ++ take start J) ++ (map opposite E ++ drop start J)) (f + 2 * length E)) V) e
        (dd_step_holds n ((E ++ take start J) ++ (map opposite E ++ drop start J)) cols (length E + start) rank free (f + 2 * length E) (let q = first_length in let k = rank_is_determined X (length E + start) (length E + start) first_rank first_rank in omega arith) (let q = ordered_length f from in omega arith) V (order f from l V o r))

    pub wide_ray_shown : HasWideRay n X
    wide_ray_shown =
        let up : start ≤ suc f = omega arith in
        let w = wide_ray n ((E ++ take start J) ++ (map opposite E ++ drop start J)) (f + 2 * length E) (suc f + 2 * length E) V next_step lost_source r.null r.pivots (line_basis (suc f) up r.null r.pivots r.basis) r.zeros in
        record { ordered = ((E ++ take start J) ++ (map opposite E ++ drop start J)); front = suc f + 2 * length E; stated = stated_front (suc f) up (omega arith); ray = w.0; canonical = w.1; wide = w.2 }
