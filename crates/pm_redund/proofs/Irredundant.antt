-- Rows of which none is redundant are extreme, each once, and every extreme row is like one of them.
use Rattle.pm_vector.proofs.ConeLaws.{After, in_cone_set, in_divide, in_generator, in_line, in_line_opposite, in_more, in_of, in_plus, in_same, in_through, in_times, in_to_after, lines_opposite}
use Rattle.pm_vector.proofs.Lists.{Among, among_append, among_append_left, among_append_right, here, there}
use Rattle.pm_vector.proofs.Ring.{ring}
use Rattle.pm_vector.proofs.RowLaws.{entry-difference, entry-opposite, entry-plus, entry-times, length-opposite}
use Rattle.pm_vector.proofs.Signs.{weaken}
use Rattle.pm_vector.specs.Cones.{InCone, InSpan, IsConeSet}
use Rattle.pm_vector.specs.Rows.{HasCols, Row, opposite}
use Rattle.pm_vector.specs.Bases.{row_at}
use Rattle.pm_vector.proofs.Spans.{place_of}
use Rattle.pm_vector.specs.Evidence.{IsBasisOf}
use Rattle.pm_geom.proofs.Extreme.{extreme, in_lines, like_generator, no_multiple}
use Rattle.pm_geom.proofs.Polar.{cols_at, membership_decided}
use Rattle.pm_geom.proofs.Reduce.{Parted, extreme_as, parted}
use Rattle.pm_geom.specs.Cones.{InLineality, IsExtreme, SameModulo}
use Rattle.pm_geom.specs.Generators.{IsLinealityBasis}
use Rattle.pm_geom.specs.StatedOrder.{rows_marked}
use Rattle.pm_redund.proofs.Marked.{among_place, at_marked, marked_among, marked_at, set_keeps}
use Rattle.pm_redund.specs.Redundancy.{IsKeptRow, IsThinnedTo}
use Rattle.pm_simplex.specs.Lineality.{MarkLines, line_group}
use Rattle.std.proofs.Common.{arith, inl, inr, subst, sym, ◌∙◌}
use Rattle.std.proofs.lemmas.Bool.{cases_eq}
use Rattle.std.proofs.lemmas.Int.{by_lt_z, ints}
use Rattle.std.specs.Prelude.{Bool, List, [], false, length, slice_set, true, ℕ, ◌++◌, ◌<◌, ◌∷◌, ◌≡◌}
use lib.IntN.{pos}

module _ (n : ℕ) (G L : List Row) (hG : HasCols n G) (hL : HasCols n L) where
  abbrev pub S : Row → Type 0
  S = InCone G L

  pub cs : IsConeSet S
  cs = in_cone_set G L

  row_cols : (k : ℕ) → k < length G → length (row_at G k) ≡ n
  row_cols k l = cols_at (among_place G k l) hG

  -- ---- the lineality
  parts : (X : List Row) → ((x : Row) → Among x X → Among x G) → Parted S X
  parts X f = parted S X (λ x i. membership_decided n G L hG hL (opposite x) (length-opposite x ∙ cols_at (f x i) hG))

  module _ (lines : List Bool) (marked : MarkLines G L lines) where
    group_both : (x : Row) → Among x (line_group G L lines) → S x × S (opposite x)
    group_both x i = elim (among_append L (rows_marked true lines G) i) [
      | inl l ↦ (in_line l, in_line_opposite l)
      | inr m ↦
          let p = at_marked lines G m in
          subst (λ (y : Row). S y × S (opposite y)) p.is (in_generator (among_place G p.i p.within), (marked.each p.i p.within).0 p.marked)
    ]

    span_in : (x : Row) → InSpan (line_group G L lines) x → S x
    span_in x h = in_through G L [] (line_group G L lines) (λ g i. elim i [ ]) group_both h

    span_line : (x : Row) → InSpan (line_group G L lines) x → InLineality S x
    span_line x h = record { inside = span_in x h; opposed = span_in (opposite x) (lines_opposite (line_group G L lines) x h) }

    line_in_group : (p : Parted S G) → (k : Row) → Among k p.lines → Among k (line_group G L lines)
    line_in_group p k i =
        let w = place_of (p.lines_are k i).0 in
        subst (λ (y : Row). Among y (line_group G L lines)) w.2 (among_append_right L (marked_at lines G w.0 w.1 ((marked.each w.0 w.1).1 (subst (λ (y : Row). S (opposite y)) (sym w.2) (p.lines_are k i).1))))

    line_span : (x : Row) → InLineality S x → InSpan (line_group G L lines) x
    line_span x h =
        let p = parts G (λ x i. i) in
        let K = L ++ p.lines in
        let sub : (x : Row) → InCone p.others K x → S x = λ x. in_through G L p.others K (λ g i. in_generator (p.others_are g i).0) (both p) in
        let made : InCone p.others K x = in_through p.others K G L (covered p) (λ l i. (in_line (among_append_left p.lines i), in_line_opposite (among_append_left p.lines i))) h.inside in
        in_through [] (line_group G L lines) [] K (λ g i. elim i [ ]) (grouped p) (in_lines n S cs K p.others (λ g i. (p.others_are g i).1) sub x made h.opposed)
      where
        both : (p : Parted S G) → (k : Row) → Among k (L ++ p.lines) → S k × S (opposite k)
        both p k i = elim (among_append L p.lines i) [
          | inl l ↦ (in_line l, in_line_opposite l)
          | inr l ↦ (in_generator (p.lines_are k l).0, (p.lines_are k l).1)
        ]

        covered : (p : Parted S G) → (g : Row) → Among g G → InCone p.others (L ++ p.lines) g
        covered p g i = elim (p.covers g i) [ inl j ↦ in_line (among_append_right L j) | inr j ↦ in_generator j ]

        grouped : (p : Parted S G) → (k : Row) → Among k (L ++ p.lines) → InSpan (line_group G L lines) k × InSpan (line_group G L lines) (opposite k)
        grouped p k i = elim (among_append L p.lines i) [
          | inl l ↦ let a = among_append_left (rows_marked true lines G) l in (in_line a, in_line_opposite a)
          | inr l ↦ let a = line_in_group p k l in (in_line a, in_line_opposite a)
        ]

    pub lineality : (B : List Row) (P : List ℕ) → IsBasisOf n (line_group G L lines) B P → IsLinealityBasis n S B P
    lineality B P b = record {
      echelon = b.echelon;
      lines = λ x l. (λ h. (b.span.same x).1 (line_span x h), λ h. span_line x ((b.span.same x).0 h));
    }

    -- ---- rows of which none is redundant
    module _ (M : List Bool) (thin : IsThinnedTo G L lines (length G) M) where
      rest : ℕ → List Row
      rest k = rows_marked true (slice_set M k false) G

      split_to : (k : ℕ) → k < length G → {x : Row} → InCone (row_at G k ∷ rest k) L x → S x
      unfolding rest
      split_to k l h = in_of G (row_at G k ∷ rest k) L each h
        where
          each : (y : Row) → Among y (row_at G k ∷ rows_marked true (slice_set M k false) G) → Among y G
          each y here = among_place G k l
          each y (there i) = marked_among (slice_set M k false) G i

      split_of : (k : ℕ) → {x : Row} → S x → InCone (row_at G k ∷ rest k) L x
      unfolding rest
      split_of k {x} h = in_of (row_at G k ∷ rest k) (rows_marked true M G) L each (thin.enough.all x h)
        where
          each : (y : Row) → Among y (rows_marked true M G) → Among y (row_at G k ∷ rows_marked true (slice_set M k false) G)
          each y i =
              let p = at_marked M G i in
              subst (λ (z : Row). Among z (row_at G k ∷ rows_marked true (slice_set M k false) G)) p.is (elim (cases_eq p.i k) [
                | inl e ↦ subst (λ (j : ℕ). Among (row_at G j) (row_at G k ∷ rows_marked true (slice_set M k false) G)) (sym e) here
                | inr ne ↦ there (marked_at (slice_set M k false) G p.i p.within (set_keeps M k p.i false ne p.marked))
              ])

      pub kept_out : (k : ℕ) → k < length G → IsKeptRow lines M k → ¬ (S (opposite (row_at G k)))
      kept_out k l h o = h.1 ((marked.each k l).1 o)

      pub kept_extreme : (k : ℕ) → k < length G → IsKeptRow lines M k → IsExtreme n S (row_at G k)
      unfolding rest
      kept_extreme k l h = extreme_as n (InCone (row_at G k ∷ rest k) L) S (λ x lx. split_to k l) (λ x lx. split_of k)
          (extreme n (rest k) L (row_at G k) (row_cols k l) (thin.needed k l h) (λ o. kept_out k l h (split_to k l o)))

      -- a row of the lineality needs no kept row
      line_rest : (k : ℕ) → k < length G → IsKeptRow lines M k → (x : Row) → S x → S (opposite x) → InCone (rest k) L x
      unfolding rest
      line_rest k l h x a b =
          let g = row_at G k in
          let w : After (InCone (rest k) L) g x = in_to_after (rest k) L g x (split_of k a) in
          by_lt_z (pos 0) w.q
          (λ up. absurd (kept_out k l h (cs.part up (cs.same (record { at = λ i. simp (entry-times, entry-plus, entry-difference, entry-opposite, ring) (omega (arith, ints)) }) (cs.sum (cs.multiple (weaken w.positive) b) (split_to k l (in_more (rest k) L g w.rest)))))))
          (λ none. no_multiple n S cs L (rest k) g x w none)

      pub kept_apart : (i j : ℕ) → i < length G → j < length G → ¬ (j ≡ i) → IsKeptRow lines M i → IsKeptRow lines M j → ¬ (SameModulo n S (row_at G i) (row_at G j))
      unfolding rest
      kept_apart i j li lj ne hi hj s =
          let w = line_rest i li hi (opposite s.w) s.line.opposed (cs.same (record { at = λ k. simp entry-opposite (omega (arith, ints)) }) s.line.inside) in
          let g = in_generator (marked_at (slice_set M i false) G j lj (set_keeps M i j false ne hj.0)) in
          thin.needed i li hi (in_divide s.k_positive (in_same (record { at = λ k. let q = simp (entry-times, entry-plus) at (s.same.at k) in simp (entry-times, entry-plus, entry-opposite) (omega (arith, ints)) }) (in_plus (in_times (weaken s.p_positive) g) w)))

      pub record IsLikeKept (r : Row) : Type 0 where
        pub i : ℕ
        pub within : i < length G
        pub kept : IsKeptRow lines M i
        pub alike : SameModulo n S r (row_at G i)

      pub like_kept : (r : Row) → IsExtreme n S r → IsLikeKept r
      like_kept r e =
          let p = parts (rows_marked true M G) (λ x i. marked_among M G i) in
          let K = L ++ p.lines in
          let w = like_generator n S cs K p.others (outside p) (λ x. in_through G L p.others K (λ g i. in_generator (marked_among M G (p.others_are g i).0)) (both p)) r e (in_through p.others K (rows_marked true M G) L (covered p) (λ l i. (in_line (among_append_left p.lines i), in_line_opposite (among_append_left p.lines i))) (thin.enough.all r e.inside)) in
          found p w.0 w.1 w.2
        where
          outside : (p : Parted S (rows_marked true M G)) → (g : Row) → Among g p.others → (length g ≡ n) × S g × ¬ (S (opposite g))
          outside p g i = let a = marked_among M G (p.others_are g i).0 in (cols_at a hG, in_generator a, (p.others_are g i).1)

          both : (p : Parted S (rows_marked true M G)) → (k : Row) → Among k (L ++ p.lines) → S k × S (opposite k)
          both p k i = elim (among_append L p.lines i) [
            | inl l ↦ (in_line l, in_line_opposite l)
            | inr l ↦ (in_generator (marked_among M G (p.lines_are k l).0), (p.lines_are k l).1)
          ]

          covered : (p : Parted S (rows_marked true M G)) → (g : Row) → Among g (rows_marked true M G) → InCone p.others (L ++ p.lines) g
          covered p g i = elim (p.covers g i) [ inl j ↦ in_line (among_append_right L j) | inr j ↦ in_generator j ]

          found : (p : Parted S (rows_marked true M G)) → (v : Row) → Among v p.others → SameModulo n S r v → IsLikeKept r
          found p v i s =
              let q = at_marked M G (p.others_are v i).0 in
              record {
                i = q.i;
                within = q.within;
                kept = (q.marked, λ t. (p.others_are v i).1 (subst (λ (y : Row). S (opposite y)) q.is ((marked.each q.i q.within).0 t)));
                alike = subst (λ (y : Row). SameModulo n S r y) (sym q.is) s;
              }
