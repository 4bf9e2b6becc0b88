-- The intersections that are kept are the common refinement.
use Rattle.pm_vector.proofs.ConeLaws.{in_of, in_zero, lines_opposite, none_to_zero}
use Rattle.pm_vector.proofs.Filters.{map_among}
use Rattle.pm_vector.proofs.Lists.{All_among, Among, all_append, among_All, among_Any, among_Contains, among_append, among_append_left, among_append_right, here}
use Rattle.pm_vector.proofs.RowLaws.{length-opposite}
use Rattle.pm_vector.specs.Cones.{InCone, InSpan}
use Rattle.pm_vector.specs.Rows.{HasCols, IsZero, Row, opposite}
use Rattle.pm_geom.proofs.Facets.{order_as, order_generates}
use Rattle.pm_geom.proofs.Polar.{cut_at, cut_from, cut_is_generated, generated_is_cut}
use Rattle.pm_geom.proofs.Spans.{order_cols}
use Rattle.pm_geom.specs.Cones.{InLineality}
use Rattle.pm_geom.specs.Generators.{AreGenerators}
use Rattle.pm_geom.specs.Things.{IsConeThing}
use Rattle.pm_laws_normal_fans.proofs.Places.{among_at, by_order, map_at, map_length, place_at}
use Rattle.pm_laws_normal_fans.specs.Fans.{Fan, InIntersection, InPlace, IsCommonRefinement, IsConeAt, IsFan, IsMaximalIntersection, IsSameFan, cone_at}
use Rattle.pm_laws_normal_fans.specs.Refinements.{AreAllIntersections, AreKeptIntersections, Intersection, IsEarlier, IsIntersection, IsWithin, KeptAreRefinement, fan_of}
use Rattle.std.proofs.Common.{ap, arith, inl, inr, refl, subst, sym, ◌∙◌}
use Rattle.std.specs.List.{Any, Contains, slice_index_or}
use Rattle.std.specs.Prelude.{List, [], length, map, ℕ, ◌<◌, ◌++◌, ◌↔◌, ◌∷◌, ◌≡◌}

-- ---- the lineality of the cones of a fan
module _ (n : ℕ) (f : Fan) (ff : IsFan n f) (i : ℕ) (li : i < length f.cones) where
  pub own_line : (x : Row) → length x ≡ n → InLineality (InPlace f i) x → InSpan f.lines x
  own_line x lx h = among_All (λ G. (x : Row) → length x ≡ n → InLineality (InCone G f.lines) x → InSpan f.lines x) (among_at [] f.cones i li) ff.lineality x lx h

  pub place_cols : HasCols n (cone_at f i)
  place_cols = (among_All (λ G. IsConeThing n G f.lines) (among_at [] f.cones i li) ff.cones).generators

pub span_in : (f : Fan) (i : ℕ) (x : Row) → InSpan f.lines x → InLineality (InPlace f i) x
span_in f i x h = record { inside = in_of (cone_at f i) [] f.lines (λ g a. elim a [ ]) h; opposed = in_of (cone_at f i) [] f.lines (λ g a. elim a [ ]) (lines_opposite f.lines x h) }

-- fans that have some cone in common have one lineality
pub same_lines : (n : ℕ) (f g : Fan) → IsFan n f → IsFan n g → (i j : ℕ) → i < length f.cones → j < length g.cones → IsConeAt n f i (InPlace g j) → (x : Row) → length x ≡ n → InSpan f.lines x ↔ InSpan g.lines x
same_lines n f g ff fg i j li lj s x lx = (
  λ h. let l = span_in f i x h in own_line n g fg j lj x lx record { inside = (s x lx).0 l.inside; opposed = (s (opposite x) (length-opposite x ∙ lx)).0 l.opposed },
  λ h. let l = span_in g j x h in own_line n f ff i li x lx record { inside = (s x lx).1 l.inside; opposed = (s (opposite x) (length-opposite x ∙ lx)).1 l.opposed },
)

-- ---- one intersection
module _ (n : ℕ) (f g : Fan) (ff : IsFan n f) (fg : IsFan n g) (i j : ℕ) (li : i < length f.cones) (lj : j < length g.cones) where
  record IsGeneratedMeet : Type 0 where
    rows : List Row
    cols : HasCols n rows
    same : (x : Row) → length x ≡ n → InCone rows [] x ↔ InIntersection f g i j x

  meet_generated : IsGeneratedMeet
  meet_generated =
      let (B, hb, eb) = generated_is_cut n (cone_at f i) f.lines (place_cols n f ff i li) ff.lines in
      let (D, hd, ed) = generated_is_cut n (cone_at g j) g.lines (place_cols n g fg j lj) fg.lines in
      let (G, hg, e) = cut_is_generated n (B ++ D) (all_append (λ (x : Row). length x ≡ n) B D hb hd) in
      record {
        rows = G;
        cols = hg;
        same = λ x lx. (
          λ h. let c = (e x lx).0 h in ((eb x lx).1 (cut_from B x (λ b a. cut_at x (among_append_left D a) c)), (ed x lx).1 (cut_from D x (λ b a. cut_at x (among_append_right B a) c))),
          λ h. (e x lx).1 (cut_from (B ++ D) x (λ b a. elim (among_append B D a) [ inl k ↦ cut_at x k ((eb x lx).0 h.0) | inr k ↦ cut_at x k ((ed x lx).0 h.1) ])),
        );
      }

  module _ (V K : List Row) (are : AreGenerators n (InIntersection f g i j) V K) where
    pub generated : (x : Row) → length x ≡ n → InCone V K x ↔ InIntersection f g i j x
    generated x lx =
        let m = meet_generated in
        let e = order_generates n m.rows [] m.cols tt V K are.basis.echelon.basis.cols (order_as n (InIntersection f g i j) (InCone m.rows []) (λ x lx h. (m.same x lx).1 h) (λ x lx h. (m.same x lx).0 h) are.order)
        (λ x lx. (
          λ l. (are.basis.lines x lx).0 (record { inside = (m.same x lx).0 l.inside; opposed = (m.same (opposite x) (length-opposite x ∙ lx)).0 l.opposed }),
          λ h. let l = (are.basis.lines x lx).1 h in record { inside = (m.same x lx).1 l.inside; opposed = (m.same (opposite x) (length-opposite x ∙ lx)).1 l.opposed },
        )) x lx in
        (λ h. (m.same x lx).0 (e.1 h), λ h. e.0 ((m.same x lx).1 h))

    -- the lines are those that both fans have
    pub line_of_both : (x : Row) → length x ≡ n → InSpan K x → InSpan f.lines x × InSpan g.lines x
    line_of_both x lx h =
        let l = (are.basis.lines x lx).1 h in
        (own_line n f ff i li x lx record { inside = l.inside.0; opposed = l.opposed.0 }, own_line n g fg j lj x lx record { inside = l.inside.1; opposed = l.opposed.1 })

-- ---- the kept intersections
abbrev none : Intersection
none = record { first = 0; second = 0; rays = [] }

abbrev pub meet_at : List Intersection → ℕ → Intersection
meet_at kept k = slice_index_or kept k none

module _ (n : ℕ) (f g : Fan) (K : List Row) (ms kept : List Intersection) (ff : IsFan n f) (fg : IsFan n g) (are : AreAllIntersections n f g K ms) (keep : AreKeptIntersections n f g ms kept) where
  meet_of : (a : Intersection) → Among a ms → IsIntersection n f g K a
  meet_of a i = among_All (IsIntersection n f g K) i are.each

  pub kept_meet : (a : Intersection) → Among a kept → IsIntersection n f g K a
  kept_meet a i = meet_of a (among_Contains ms (among_All (Contains ms) i keep.some))

  pub rays_generate : (a : Intersection) → Among a kept → (x : Row) → length x ≡ n → InCone a.rays K x ↔ InIntersection f g a.first a.second x
  rays_generate a i = let m = kept_meet a i in generated n f g ff fg a.first a.second m.first m.second a.rays K m.generators

  covered : (b : Intersection) → Among b ms → (a : Intersection) × Among a kept × IsWithin n f g b a
  covered b i = let (a, ia, w) = among_Any (λ a. IsWithin n f g b a × (IsWithin n f g a b → ¬ (IsEarlier b a))) kept (among_All (λ b. Any (λ a. IsWithin n f g b a × (IsWithin n f g a b → ¬ (IsEarlier b a))) kept) i keep.cover) in (a, ia, w.0)

  record IsAt (i j : ℕ) : Type 0 where
    meet : Intersection
    listed : Among meet ms
    first : meet.first ≡ i
    second : meet.second ≡ j

  at_pair : (i j : ℕ) → i < length f.cones → j < length g.cones → IsAt i j
  at_pair i j li lj = let (b, ib, e) = among_Any (λ a. (a.first ≡ i) × (a.second ≡ j)) ms (are.all i j li lj) in record { meet = b; listed = ib; first = e.0; second = e.1 }

  -- a kept one that is included in a kept one is the same
  one_kept : (a b : Intersection) → Among a kept → Among b kept → IsWithin n f g a b → a ≡ b
  one_kept a b ia ib w =
      let (p, lp, ep) = place_at none kept ia in
      let (q, lq, eq) = place_at none kept ib in
      by_order p q
      (λ l. absurd ((keep.once p q none l lq).1 (subst (λ z. IsWithin n f g z (meet_at kept q)) (sym ep) (subst (λ z. IsWithin n f g a z) (sym eq) w))))
      (λ l. absurd ((keep.once q p none l lp).2 (subst (λ z. IsWithin n f g z (meet_at kept q)) (sym ep) (subst (λ z. IsWithin n f g a z) (sym eq) w))))
      (λ e. sym ep ∙ ap (meet_at kept) e ∙ eq)

  pub is_maximal : (a : Intersection) → Among a kept → IsMaximalIntersection n f g a.first a.second
  is_maximal a i = record {
    first = (kept_meet a i).first;
    second = (kept_meet a i).second;
    maximal = λ k l lk ll w x lx h.
        let b = at_pair k l lk ll in
        let (c, ic, v) = covered b.meet b.listed in
        let to_b : InIntersection f g b.meet.first b.meet.second x = subst (λ z. InIntersection f g z b.meet.second x) (sym b.first) (subst (λ z. InIntersection f g k z x) (sym b.second) h) in
        let e = one_kept a c i ic (λ y ly q. v y ly (subst (λ z. InIntersection f g z b.meet.second y) (sym b.first) (subst (λ z. InIntersection f g k z y) (sym b.second) (w y ly q)))) in
        subst (λ z. InIntersection f g z.first z.second x) (sym e) (v x lx to_b);
  }

  -- ---- the fan
  cone_is : (k : ℕ) → k < length kept → cone_at (fan_of kept K) k ≡ (meet_at kept k).rays
  cone_is k l = map_at (λ a. a.rays) none [] kept k l

  as_many : length (fan_of kept K).cones ≡ length kept
  as_many = map_length (λ a. a.rays) kept

  pub cone_of : (k : ℕ) → k < length kept → IsConeAt n (fan_of kept K) k (InIntersection f g (meet_at kept k).first (meet_at kept k).second)
  cone_of k l x lx = subst (λ G. InCone G K x ↔ InIntersection f g (meet_at kept k).first (meet_at kept k).second x) (sym (cone_is k l)) (rays_generate (meet_at kept k) (among_at none kept k l) x lx)

  -- an intersection that is maximal is kept
  pub kept_for : (i j : ℕ) → IsMaximalIntersection n f g i j → (k : ℕ) × (k < length kept) × IsConeAt n (fan_of kept K) k (InIntersection f g i j)
  kept_for i j h =
      let b = at_pair i j h.first h.second in
      let (a, ia, w) = covered b.meet b.listed in
      let m = kept_meet a ia in
      let v = subst (λ z. (x : Row) → length x ≡ n → InIntersection f g z j x → InIntersection f g a.first a.second x) b.first (subst (λ z. (x : Row) → length x ≡ n → InIntersection f g b.meet.first z x → InIntersection f g a.first a.second x) b.second w) in
      let back = h.maximal a.first a.second m.first m.second v in
      let (k, lk, e) = place_at none kept ia in
      (k, lk, λ x lx. let c = subst (λ z. InPlace (fan_of kept K) k x ↔ InIntersection f g z.first z.second x) e (cone_of k lk x lx) in (λ q. back x lx (c.0 q), λ q. c.1 (v x lx q)))

  module _ (bare : ms ≡ [] → K ≡ []) where
    lines_cols : HasCols n K
    lines_cols = by ms refl
      where
        by : (xs : List Intersection) → ms ≡ xs → HasCols n K
        by [] e = subst (HasCols n) (sym (bare e)) tt
        by (b ∷ xs) e = (meet_of b (subst (Among b) (sym e) here)).generators.basis.echelon.basis.cols

    pub fan : IsFan n (fan_of kept K)
    fan = record {
      lines = lines_cols;
      cones = All_among (λ G. IsConeThing n G K) (fan_of kept K).cones (λ G i. let (a, ia, e) = map_among (λ a. a.rays) kept i in record { generators = subst (HasCols n) (sym e) (order_cols n (InIntersection f g a.first a.second) a.rays (kept_meet a ia).generators.order); lines = lines_cols });
      lineality = All_among (λ G. (x : Row) → length x ≡ n → InLineality (InCone G K) x → InSpan K x) (fan_of kept K).cones (λ G i.
          let (a, ia, e) = map_among (λ a. a.rays) kept i in
          subst (λ D. (x : Row) → length x ≡ n → InLineality (InCone D K) x → InSpan K x) (sym e) (λ x lx l. ((kept_meet a ia).generators.basis.lines x lx).0 (record { inside = (rays_generate a ia x lx).0 l.inside; opposed = (rays_generate a ia (opposite x) (length-opposite x ∙ lx)).0 l.opposed })));
      apart = λ i j li lj d w.
          let am = as_many in
          let ki : i < length kept = omega arith in
          let kj : j < length kept = omega arith in
          let within : IsWithin n f g (meet_at kept i) (meet_at kept j) = λ x lx h. (cone_of j kj x lx).0 (w x lx ((cone_of i ki x lx).1 h)) in
          by_order i j (λ l. (keep.once i j none l kj).1 within) (λ l. (keep.once j i none l ki).2 within) (λ e. d e);
    }

    zero_lines : kept ≡ [] → (x : Row) → InSpan K x → IsZero x
    zero_lines none x h = by ms refl
      where
        by : (xs : List Intersection) → ms ≡ xs → IsZero x
        by [] e = none_to_zero x (subst (λ L. InSpan L x) (bare e) h)
        by (b ∷ xs) e = let (a, ia, w) = covered b (subst (Among b) (sym e) here) in absurd (let i = subst (Among a) none ia in elim i [ ])

    empty_map : (xs : List Intersection) → map (λ a. a.rays) xs ≡ [] → xs ≡ []
    empty_map [] e = refl
    empty_map (a ∷ xs) e = absurd (let q = ap length e in omega arith)

    pub refinement : IsCommonRefinement n f g (fan_of kept K)
    refinement = record {
      each = λ k l. let am = as_many in let lk : k < length kept = omega arith in ((meet_at kept k).first, (meet_at kept k).second, is_maximal (meet_at kept k) (among_at none kept k lk), cone_of k lk);
      all = λ i j h. let (k, l, c) = kept_for i j h in (k, (let am = as_many in omega arith), c);
      bare = λ e x lx h. zero_lines (empty_map kept e) x h;
    }

    module _ (h : Fan) (fh : IsFan n h) (r : IsCommonRefinement n f g h) where
      each : (i : ℕ) → i < length kept → (j : ℕ) × (j < length h.cones) × IsConeAt n (fan_of kept K) i (InPlace h j)
      each i l =
          let (j, lj, c) = r.all (meet_at kept i).first (meet_at kept i).second (is_maximal (meet_at kept i) (among_at none kept i l)) in
          (j, lj, λ x lx. (λ q. (c x lx).1 ((cone_of i l x lx).0 q), λ q. (cone_of i l x lx).1 ((c x lx).0 q)))

      all : (j : ℕ) → j < length h.cones → (i : ℕ) × (i < length kept) × IsConeAt n (fan_of kept K) i (InPlace h j)
      all j lj =
          let (p, q, m, c) = r.each j lj in
          let (k, lk, d) = kept_for p q m in
          (k, lk, λ x lx. (λ y. (c x lx).1 ((d x lx).0 y), λ y. (d x lx).1 ((c x lx).0 y)))

      no_cones : kept ≡ [] → h.cones ≡ []
      no_cones e = by h.cones refl
        where
          by : (xs : List (List Row)) → h.cones ≡ xs → h.cones ≡ []
          by [] q = q
          by (G ∷ xs) q = absurd (let (k, l, s) = all 0 (let z = ap length q in omega arith) in let z = ap length e in omega arith)

      lines : (x : Row) → length x ≡ n → InSpan K x ↔ InSpan h.lines x
      lines x lx = by kept refl
        where
          by : (xs : List Intersection) → kept ≡ xs → InSpan K x ↔ InSpan h.lines x
          by [] e = (λ q. in_zero (zero_lines e x q), λ q. in_zero (r.bare (no_cones e) x lx q))
          by (a ∷ xs) e =
              let z = ap length e in
              let am = as_many in
              let (j, lj, c) = each 0 (omega arith) in
              same_lines n (fan_of kept K) h fan fh 0 j (omega arith) lj c x lx

      pub only : IsSameFan n (fan_of kept K) h
      only = record {
        lines = lines;
        each = λ i l. each i (let am = as_many in omega arith);
        all = λ j l. let (i, k, c) = all j l in (i, (let am = as_many in omega arith), c);
      }

pub kept_are_refinement : KeptAreRefinement
kept_are_refinement n f g K ms kept ff fg are keep bare = record {
  maximal = All_among (λ a. IsMaximalIntersection n f g a.first a.second) kept (is_maximal n f g K ms kept ff fg are keep);
  fan = fan n f g K ms kept ff fg are keep bare;
  refinement = refinement n f g K ms kept ff fg are keep bare;
  only = only n f g K ms kept ff fg are keep bare;
}
