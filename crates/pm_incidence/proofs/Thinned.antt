-- Rows that are thinned are the generators of the cone, in canonical form.
use Rattle.pm_incidence.proofs.ThinnedRow.{IsCanonicalFor, canonical, canonical_in, canonical_out}
use Rattle.std.specs.Prelude.{ℕ, ◌≡◌, ◌<◌, Bool, List, [], ◌++◌, filter, get_or, length}
use Rattle.std.specs.List.{All, Any}
use Rattle.std.specs.List.Sorted.{IsPermutation, IsSorted}
use Rattle.std.specs.Ordering.{int_cmp}
use Rattle.std.specs.Cmp.Lexicographic.{slice_cmp}
use Rattle.std.proofs.Common.{arith, inl, inr, subst, sym, ◌∙◌}
use Rattle.std.proofs.lemmas.List.{get_or_default}
use Rattle.std.proofs.lemmas.List.Sorted.{All-permutation, length_permutation}
use Rattle.pm_vector.specs.Cones.{InCone, InSpan, IsConeSet}
use Rattle.pm_vector.specs.Divisors.{IsPrimitive}
use Rattle.pm_vector.specs.Rows.{HasCols, Row, dot, opposite}
use Rattle.pm_vector.proofs.ConeLaws.{in_generator, in_line, in_line_opposite, in_through, lines_opposite}
use Rattle.pm_vector.proofs.Filters.{among_filter, filter_among}
use Rattle.pm_vector.proofs.Lists.{All_among, Among, Any_among, Contains_among, all_from, among_All, among_append, among_append_left, among_append_right}
use Rattle.pm_vector.specs.Bases.{row_at}
use Rattle.pm_vector.proofs.Spans.{span_of, span_to}
use Rattle.pm_vector.specs.Evidence.{IsBasisOf}
use Rattle.pm_geom.specs.Cones.{CutOut, InLineality, IsExtreme, IsOrder, SameModulo}
use Rattle.pm_geom.specs.Generators.{AreGenerators, IsLinealityBasis, VanishAt}
use Rattle.pm_geom.proofs.Extreme.{in_lines}
use Rattle.pm_geom.proofs.Facets.{order_as}
use Rattle.pm_geom.proofs.Polar.{cols_at}
use Rattle.pm_geom.proofs.Reduce.{Parted, parted}
use Rattle.pm_dd.specs.Fronts.{HalfSpaces, both_signs}
use Rattle.pm_dd.proofs.AlikeLaws.{alike_sym, alike_trans}
use Rattle.pm_dd.proofs.Answered.{apart_in}
use Rattle.pm_dd.proofs.Ascending.{ascending, order_permutation}
use Rattle.pm_dd.proofs.Description.{cut_cone_set, made_cut}
use Rattle.pm_dd.proofs.Fronts.{signs_cut_out}
use Rattle.pm_dd.proofs.StepLaws.{at_place, flat_on, place_of}
use Rattle.pm_dd.proofs.Thin.{cut_decided, extreme_alike}
use Rattle.pm_incidence.proofs.Groups.{flat_from, flat_to}
use Rattle.pm_incidence.proofs.Thinning.{cuts, gen, in_cuts, kept_apart, kept_extreme, like_kept, line_in, on_equations, unmarked_out}
use Rattle.pm_incidence.specs.Thinning.{Agree, AreKept, AreSortedThinned, AreThinPlaces, AreThinned, AreZeroSets, IsKeptSet, MarkFull, flat_group, is_flat}
use lib.IntN.{pos}

module _ (n : ℕ) (G L A E : List Row) (hG : HasCols n G) (hL : HasCols n L) (hA : HasCols n A) (agree : Agree n G L A E) where
  abbrev S : Row → Type 0
  S = CutOut (cuts n G L A E hG hL hA agree)

  -- ---- the lineality
  level_in_group : (k : Row) → Among k (flat_group G L A) → (b : Row) → Among b (both_signs E ++ A) → dot b k ≡ pos 0
  level_in_group k i b j = elim (among_append L (filter (is_flat A) G) i) [
    | inl l ↦ flat_on (both_signs E ++ A) k (line_in n G L A E hG hL hA agree k (Contains_among l)) b j
    | inr f ↦ let w = filter_among (is_flat A) G f in elim (among_append (both_signs E) A j) [
      | inl e ↦ on_equations n G L A E hG hL hA agree w.0 e
      | inr a ↦ flat_to A k w.1 b a
    ]
  ]

  span_line : (x : Row) → InSpan (flat_group G L A) x → InLineality S x
  span_line x h =
      let into = made_cut (both_signs E ++ A) (flat_group G L A) level_in_group [] (λ g i. elim i [ ]) in
      record { inside = into x h; opposed = into (opposite x) (lines_opposite (flat_group G L A) x h) }

  parts : Parted S G
  parts = parted S G (λ x i. cut_decided (both_signs E ++ A) (opposite x))

  line_span : (x : Row) → length x ≡ n → InLineality S x → InSpan (flat_group G L A) x
  unfolding parts
  line_span x l h =
      let into = made_cut (both_signs E ++ A) (L ++ parts.lines) level parts.others (λ g i. in_cuts n G L A E hG hL hA agree (parts.others_are g i).0) in
      let member : InCone parts.others (L ++ parts.lines) x = in_through parts.others (L ++ parts.lines) G L
      (λ v i. elim (parts.covers v i) [ inl j ↦ in_line (among_append_right L j) | inr j ↦ in_generator j ])
      (λ k i. (in_line (among_append_left parts.lines i), in_line_opposite (among_append_left parts.lines i)))
      ((gen n G L A E hG hL hA agree x l).0 h.inside) in
      span_of (flat_group G L A) (L ++ parts.lines) grouped (in_lines n S (cut_cone_set (both_signs E ++ A)) (L ++ parts.lines) parts.others (λ g i. (parts.others_are g i).1) into x member h.opposed)
    where
      flat_line : (k : Row) → Among k parts.lines → (b : Row) → Among b (both_signs E ++ A) → dot b k ≡ pos 0
      flat_line k i = flat_on (both_signs E ++ A) k (record { inside = in_cuts n G L A E hG hL hA agree (parts.lines_are k i).0; opposed = (parts.lines_are k i).1 })

      level : (k : Row) → Among k (L ++ parts.lines) → (b : Row) → Among b (both_signs E ++ A) → dot b k ≡ pos 0
      level k i b j = elim (among_append L parts.lines i) [
        | inl l ↦ flat_on (both_signs E ++ A) k (line_in n G L A E hG hL hA agree k (Contains_among l)) b j
        | inr l ↦ flat_line k l b j
      ]

      grouped : (r : Row) → Among r (L ++ parts.lines) → InSpan (flat_group G L A) r
      grouped r i = elim (among_append L parts.lines i) [
        | inl l ↦ in_line (among_append_left (filter (is_flat A) G) l)
        | inr l ↦ in_line (among_append_right L (among_filter (is_flat A) (parts.lines_are r l).0 (flat_from A r (λ a j. flat_line r l a (among_append_right (both_signs E) j)))))
      ]

  module _ (B : List Row) (P : List ℕ) (basis : IsBasisOf n (flat_group G L A) B P) where
    lineality : IsLinealityBasis n (HalfSpaces E A) B P
    lineality = record {
      echelon = basis.echelon;
      lines = λ x l. (
        λ h. (basis.span.same x).1 (line_span x l (record { inside = (signs_cut_out E A x).1 h.inside; opposed = (signs_cut_out E A (opposite x)).1 h.opposed })),
        λ h. let w = span_line x ((basis.span.same x).0 h) in record { inside = (signs_cut_out E A x).0 w.inside; opposed = (signs_cut_out E A (opposite x)).0 w.opposed },
      );
    }

    -- ---- a thinned row
    cs : IsConeSet S
    cs = cut_cone_set (both_signs E ++ A)

    flat : (x : Row) → length x ≡ n → InSpan B x → InLineality S x
    flat x lx h = span_line x (span_to basis.span h)

    -- ---- all of them
    module _ (Z : List (List Bool)) (marks : List Bool) (z : AreZeroSets A G Z) (m : MarkFull Z marks) (ks : List ℕ) (kept : AreKept Z marks ks) (W : List Row) (t : AreThinned B P G ks W) where
      place_at : (k : ℕ) → k < length ks → (get_or ks k 0 < length G) × IsKeptSet Z marks (get_or ks k 0)
      place_at k l = let q = kept.each k 0 l in let e = z.as_many in ((let w = q.0 in omega arith), q.1)

      canonical_at : (k : ℕ) → k < length ks → IsCanonicalFor n S P (row_at G (get_or ks k 0)) (row_at W k)
      canonical_at k l =
          let q = place_at k l in
          let i = at_place G (get_or ks k 0) q.0 in
          canonical n S cs P B flat (row_at G (get_or ks k 0)) (row_at W k) (cols_at i hG) (in_cuts n G L A E hG hL hA agree i) (unmarked_out n G L A E hG hL hA agree Z marks z m (get_or ks k 0) q.0 q.1.unmarked) (t.each k l)

      extreme_at : (k : ℕ) → k < length ks → IsExtreme n S (row_at G (get_or ks k 0))
      extreme_at k l = let q = place_at k l in kept_extreme n G L A E hG hL hA agree Z marks z m (get_or ks k 0) q.0 q.1

      in_w : (k : ℕ) → k < length ks → k < length W
      in_w k l = let e = t.as_many in omega arith

      of_w : (k : ℕ) → k < length W → k < length ks
      of_w k l = let e = t.as_many in omega arith

      at_w : {w : Row} → Among w W → (k : ℕ) × (k < length ks) × (row_at W k ≡ w)
      at_w i = let p = place_of i in (p.0, of_w p.0 p.1, p.2)

      alike_extreme : (k : ℕ) → k < length ks → IsExtreme n S (row_at W k)
      alike_extreme k l =
          let c = canonical_at k l in
          let e = extreme_at k l in
          extreme_alike n (both_signs E ++ A) c.cols (canonical_in n S cs P c e.inside) (canonical_out n S cs P c e.not_line) e c.alike

      order : IsOrder n S W
      order = record {
        each = All_among (λ v. IsExtreme n S v) W (λ w i. let p = at_w i in subst (λ (v : Row). IsExtreme n S v) p.2 (alike_extreme p.0 p.1));
        all = λ r e.
            let f = like_kept n G L A E hG hL hA agree Z marks z m r e in
            let c = kept.every f.i (let e = z.as_many in let w = f.within in omega arith) f.kept in
            like r c.0 c.1 (subst (λ (i : ℕ). SameModulo n S r (row_at G i)) (sym (default_of c.0 f.i c.1 c.2)) f.alike);
        once = λ i j d l x.
            let li : i < length W = omega arith in
            rw (get_or_default W i d [] li, get_or_default W j d [] x) (apart i j l (of_w j x) (of_w i li));
      }
        where
          default_of : (k i : ℕ) → k < length ks → get_or ks k i ≡ i → get_or ks k 0 ≡ i
          default_of k i l e = get_or_default ks k 0 i l ∙ e

          like : (r : Row) (k : ℕ) → k < length ks → SameModulo n S r (row_at G (get_or ks k 0)) → Any (λ v. SameModulo n S r v) W
          like r k l s = Any_among (λ (v : Row). SameModulo n S r v) (at_place W k (in_w k l)) (alike_trans n S cs s (canonical_at k l).alike)

          apart : (i j : ℕ) → i < j → j < length ks → i < length ks → ¬ (SameModulo n S (row_at W i) (row_at W j))
          apart i j l lj li s =
              let a = (canonical_at i li).alike in
              let b = (canonical_at j lj).alike in
              kept_apart n G L A E hG hL hA agree Z marks z m (get_or ks i 0) (get_or ks j 0) (kept.ascending i j 0 l lj) (place_at j lj).0 (place_at i li).1 (place_at j lj).1 (alike_trans n S cs a (alike_trans n S cs s (alike_sym n S cs b)))

      pub thin_generators : (X : List Row) → IsPermutation W X → IsSorted (slice_cmp int_cmp) X → AreGenerators n (HalfSpaces E A) X B
      thin_generators X p s = record {
        pivots = P;
        basis = lineality;
        order = order_as n S (HalfSpaces E A) (λ x l. (signs_cut_out E A x).0) (λ x l. (signs_cut_out E A x).1) whole;
        primitive = All-permutation IsPrimitive W X p (All_among IsPrimitive W (λ w i. let q = at_w i in subst IsPrimitive q.2 (canonical_at q.0 q.1).primitive));
        reduced = All-permutation (VanishAt P) W X p (All_among (VanishAt P) W (λ w i. let q = at_w i in subst (VanishAt P) q.2 (canonical_at q.0 q.1).zeros));
        ascending = ascending n X cols s (apart_in n (both_signs E ++ A) X whole);
      }
        where
          whole : IsOrder n S X
          whole = order_permutation n S cs W X p order

          cols : HasCols n X
          cols = all_from (λ (x : Row). length x ≡ n) X (λ x i. (among_All (λ v. IsExtreme n S v) i whole.each).cols)

-- ---- how long the rows are
pub thinned_cols : (n : ℕ) (B : List Row) (P : List ℕ) (G : List Row) (ks : List ℕ) (X : List Row) → HasCols n G → All (λ k. k < length G) ks → AreSortedThinned B P G ks X → HasCols n X
thinned_cols n B P G ks X hG h s = all_from (λ (x : Row). length x ≡ n) X (λ x i. among_All (λ (x : Row). length x ≡ n) i (All-permutation (λ (x : Row). length x ≡ n) s.rows X s.permutation each))
  where
    at_row : (k : ℕ) → k < length ks → length (row_at s.rows k) ≡ n
    at_row k l = let t = s.thinned.each k l in t.primitive.cols ∙ t.cols ∙ cols_at (at_place G (get_or ks k 0) (h k 0 l)) hG

    each : All (λ (x : Row). length x ≡ n) s.rows
    each = All_among (λ (x : Row). length x ≡ n) s.rows (λ x i. let p = place_of i in let l = p.1 in subst (λ (y : Row). length y ≡ n) p.2 (at_row p.0 (let e = s.thinned.as_many in omega arith)))

pub thinned_length : (B : List Row) (P : List ℕ) (G : List Row) (ks : List ℕ) (X : List Row) → AreSortedThinned B P G ks X → length X ≡ length ks
thinned_length B P G ks X s = length_permutation s.rows X s.permutation ∙ s.thinned.as_many

-- kept places are places of rows
pub kept_within : {n : ℕ} {G L A B : List Row} {P ks : List ℕ} → AreThinPlaces n G L A B P ks → All (λ k. k < length G) ks
kept_within {n} {G} {L} {A} {B} {P} {ks} k = λ i d l. let q = k.kept.each i d l in let e = k.zeros.as_many in let w = q.0 in omega arith
