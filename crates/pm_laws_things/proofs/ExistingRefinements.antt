-- There are common refinements of two fans.
use Rattle.pm_vector.proofs.ConeLaws.{in_generator, in_line, in_through, lines_opposite, none_to_zero}
use Rattle.pm_vector.proofs.Filters.{map_among}
use Rattle.pm_vector.proofs.Lists.{All_among, Among, all_append, among_append, among_append_left, among_append_right, here, there}
use Rattle.pm_vector.proofs.RowLaws.{length-opposite}
use Rattle.pm_vector.specs.Cones.{InCone, InSpan}
use Rattle.pm_vector.specs.Rows.{HasCols, IsZero, Row, opposite}
use Rattle.pm_geom.proofs.Polar.{cols_at, cut_at, cut_from, cut_is_generated, generated_is_cut, membership_decided}
use Rattle.pm_geom.specs.Cones.{InLineality}
use Rattle.pm_geom.specs.Things.{IsConeThing, IsFanThing}
use Rattle.pm_laws_normal_fans.proofs.Places.{among_at, by_order, map_at, map_length, place_at}
use Rattle.pm_laws_normal_fans.proofs.Refinements.{own_line, place_cols, span_in}
use Rattle.pm_laws_normal_fans.specs.Fans.{Fan, InIntersection, InPlace, IsCommonRefinement, IsConeAt, IsFan, IsIntersectionWithin, IsMaximalIntersection, cone_at}
use Rattle.pm_laws_normal_fans.specs.Refinements.{Intersection, IsWithin, fan_of}
use Rattle.pm_laws_things.proofs.ExistingFans.{some_fan}
use Rattle.pm_laws_things.proofs.Greatest.{HasGreatest, IsApart, all_or_one, greatest}
use Rattle.pm_laws_things.specs.Existence.{IsSomeFan, RefinementsExist}
use Rattle.pm_laws_things.specs.FanLaws.{IsRefinementOfFans, fan_of as fan_of_thing}
use Rattle.pm_types.specs.Things.{IsOfType, Thing}
use Rattle.std.proofs.Common.{ap, arith, inl, inr, refl, subst, sym, ◌∙◌}
use Rattle.std.specs.List.{AllPairs, slice_index_or}
use Rattle.std.specs.Prelude.{List, [], length, map, suc, zero, ℕ, ◌<◌, ◌≤◌, ◌++◌, ◌↔◌, ◌∷◌, ◌≡◌, ◌⊎◌}

-- ---- the rows that lie in two cones are generated
record IsGeneratedBoth (n : ℕ) (G L H K : List Row) : Type 0 where
  rows : List Row
  cols : HasCols n rows
  same : (x : Row) → length x ≡ n → InCone rows [] x ↔ (InCone G L x × InCone H K x)

generated_both : (n : ℕ) (G L H K : List Row) → HasCols n G → HasCols n L → HasCols n H → HasCols n K → IsGeneratedBoth n G L H K
generated_both n G L H K hg hl hh hk =
    let (B, hb, eb) = generated_is_cut n G L hg hl in
    let (D, hd, ed) = generated_is_cut n H K hh hk in
    let (R, hr, e) = cut_is_generated n (B ++ D) (all_append (λ (x : Row). length x ≡ n) B D hb hd) in
    record {
      rows = R;
      cols = hr;
      same = λ x lx. (
        λ h. let c = (e x lx).0 h in ((eb x lx).1 (cut_from B x (λ b i. cut_at x (among_append_left D i) c)), (ed x lx).1 (cut_from D x (λ b i. cut_at x (among_append_right B i) c))),
        λ h. (e x lx).1 (cut_from (B ++ D) x (λ b i. elim (among_append B D i) [ inl k ↦ cut_at x k ((eb x lx).0 h.0) | inr k ↦ cut_at x k ((ed x lx).0 h.1) ])),
      );
    }

-- a row lies in both cones, or not
both_decided : {P Q : Type 0} → P ⊎ ¬ P → Q ⊎ ¬ Q → (P × Q) ⊎ ¬ (P × Q)
both_decided (inl p) (inl q) = inl (p, q)
both_decided (inl p) (inr fails) = inr (λ w. fails w.1)
both_decided (inr fails) q = inr (λ w. fails w.0)

abbrev none : Intersection
none = record { first = 0; second = 0; rays = [] }

module _ (n : ℕ) (f g : Fan) (ff : IsFan n f) (fg : IsFan n g) where
  -- ---- all intersections
  -- the rays generate the intersection
  record IsMeet (a : Intersection) : Type 0 where
    first : a.first < length f.cones
    second : a.second < length g.cones
    cols : HasCols n a.rays
    same : (x : Row) → length x ≡ n → InCone a.rays [] x ↔ InIntersection f g a.first a.second x

  -- one is listed for the places i and j
  record IsListed (meets : List Intersection) (i j : ℕ) : Type 0 where
    meet : Intersection
    listed : Among meet meets
    first : meet.first ≡ i
    second : meet.second ≡ j

  meet_of : (i j : ℕ) → i < length f.cones → j < length g.cones → (rows : List Row) × IsMeet (record { first = i; second = j; rays = rows })
  meet_of i j li lj =
      let m = generated_both n (cone_at f i) f.lines (cone_at g j) g.lines (place_cols n f ff i li) ff.lines (place_cols n g fg j lj) fg.lines in
      (m.rows, record { first = li; second = lj; cols = m.cols; same = m.same })

  more : (meets : List Intersection) (b : Intersection) (i j : ℕ) → IsListed meets i j → IsListed (b ∷ meets) i j
  more meets b i j l = record { meet = l.meet; listed = there l.listed; first = l.first; second = l.second }

  each_of : (b : Intersection) (meets : List Intersection) → IsMeet b → ((a : Intersection) → Among a meets → IsMeet a) → (a : Intersection) → Among a (b ∷ meets) → IsMeet a
  each_of b meets h f a here = h
  each_of b meets h f a (there i) = f a i

  -- of the cone at i with the first m cones of g
  record HasRow (i m : ℕ) : Type 0 where
    meets : List Intersection
    each : (a : Intersection) → Among a meets → IsMeet a
    all : (j : ℕ) → j < m → IsListed meets i j

  row : (i m : ℕ) → i < length f.cones → m ≤ length g.cones → HasRow i m
  row i zero li h = record { meets = []; each = λ a k. elim k [ ]; all = λ j l. absurd (omega arith) }
  row i (suc m) li h =
      let r = row i m li (omega arith) in
      let (rows, is) = meet_of i m li (omega arith) in
      let b : Intersection = record { first = i; second = m; rays = rows } in
      record {
        meets = b ∷ r.meets;
        each = each_of b r.meets is r.each;
        all = λ j l. by_order j m (λ k. more r.meets b i j (r.all j k)) (λ k. absurd (omega arith)) (λ e. record { meet = b; listed = here; first = refl; second = sym e });
      }

  -- of the first m cones of f with all of g
  record HasMeets (m : ℕ) : Type 0 where
    meets : List Intersection
    each : (a : Intersection) → Among a meets → IsMeet a
    all : (i j : ℕ) → i < m → j < length g.cones → IsListed meets i j

  all_meets : (m : ℕ) → m ≤ length f.cones → HasMeets m
  all_meets zero h = record { meets = []; each = λ a k. elim k [ ]; all = λ i j l k. absurd (omega arith) }
  all_meets (suc m) h =
      let r = row m (length g.cones) (omega arith) (omega arith) in
      let s = all_meets m (omega arith) in
      record {
        meets = r.meets ++ s.meets;
        each = λ a k. elim (among_append r.meets s.meets k) [ inl w ↦ r.each a w | inr w ↦ s.each a w ];
        all = λ i j l lj. by_order i m
            (λ k. let w = s.all i j k lj in record { meet = w.meet; listed = among_append_right r.meets w.listed; first = w.first; second = w.second })
            (λ k. absurd (omega arith))
            (λ e. let w = r.all j lj in record { meet = w.meet; listed = among_append_left s.meets w.listed; first = w.first ∙ sym e; second = w.second });
      }

  -- ---- whether one is included in another
  within_decided : (a b : Intersection) → IsMeet a → IsMeet b → IsWithin n f g a b ⊎ ¬ (IsWithin n f g a b)
  within_decided a b ma mb = elim (all_or_one (InIntersection f g b.first b.second) a.rays (λ x i. both_decided
      (membership_decided n (cone_at f b.first) f.lines (place_cols n f ff b.first mb.first) ff.lines x (cols_at i ma.cols))
      (membership_decided n (cone_at g b.second) g.lines (place_cols n g fg b.second mb.second) fg.lines x (cols_at i ma.cols)))) [
        | inl all ↦ inl (λ x lx h. let k = (ma.same x lx).1 h in (in_through (cone_at f b.first) f.lines a.rays [] (λ r i. (all r i).0) (λ l i. elim i [ ]) k, in_through (cone_at g b.second) g.lines a.rays [] (λ r i. (all r i).1) (λ l i. elim i [ ]) k))
        | inr w ↦ inr (λ v. w.2 (v w.0 (cols_at w.1 ma.cols) ((ma.same w.0 (cols_at w.1 ma.cols)).0 (in_generator w.1))))
      ]

  -- ---- the common lineality
  common : IsGeneratedBoth n [] f.lines [] g.lines
  common = generated_both n [] f.lines [] g.lines tt ff.lines tt fg.lines

  common_span : (x : Row) → length x ≡ n → InSpan common.rows x ↔ (InSpan f.lines x × InSpan g.lines x)
  common_span x lx = (
    λ h. (
      in_through [] f.lines [] common.rows (λ r i. elim i [ ]) (λ l i. let s = (inside l i).0 in (s, lines_opposite f.lines l s)) h,
      in_through [] g.lines [] common.rows (λ r i. elim i [ ]) (λ l i. let s = (inside l i).1 in (s, lines_opposite g.lines l s)) h,
    ),
    λ h. in_through [] common.rows common.rows [] (λ r i. in_line i) (λ l i. elim i [ ]) ((common.same x lx).1 h),
  )
    where
      inside : (l : Row) → Among l common.rows → InSpan f.lines l × InSpan g.lines l
      inside l i = (common.same l (cols_at i common.cols)).0 (in_generator i)

  -- where no intersection is kept there is no line
  abbrev lines_of : List Intersection → List Row
  lines_of [] = []
  lines_of (a ∷ kept) = common.rows

  lines_cols : (kept : List Intersection) → HasCols n (lines_of kept)
  lines_cols [] = tt
  lines_cols (a ∷ kept) = common.cols

  lines_span : {a : Intersection} (kept : List Intersection) → Among a kept → (x : Row) → length x ≡ n → InSpan (lines_of kept) x ↔ (InSpan f.lines x × InSpan g.lines x)
  lines_span [] i = elim i [ ]
  lines_span (b ∷ kept) i = common_span

  no_lines : (kept : List Intersection) → map (λ (a : Intersection). a.rays) kept ≡ [] → (x : Row) → InSpan (lines_of kept) x → IsZero x
  no_lines [] e x h = none_to_zero x h
  no_lines (a ∷ kept) e x h = absurd (let q = ap length e in omega arith)

  -- ---- the fan of those that are kept
  module _ (kept : List Intersection) (is_meet : (a : Intersection) → Among a kept → IsMeet a) (once : AllPairs (IsApart Intersection (IsWithin n f g)) kept)
      (cover : (i j : ℕ) → i < length f.cones → j < length g.cones → (a : Intersection) × Among a kept × IsIntersectionWithin n f g i j a.first a.second) where
    abbrev K : List Row
    K = lines_of kept

    abbrev at_place : ℕ → Intersection
    at_place k = slice_index_or kept k none

    generated : (a : Intersection) → Among a kept → (x : Row) → length x ≡ n → InCone a.rays K x ↔ InIntersection f g a.first a.second x
    generated a i x lx = (
      λ h. (m.same x lx).0 (in_through a.rays [] a.rays K (λ r j. in_generator j) line h),
      λ h. in_through a.rays K a.rays [] (λ r j. in_generator j) (λ l j. elim j [ ]) ((m.same x lx).1 h),
    )
      where
        m : IsMeet a
        m = is_meet a i

        line : (l : Row) → Among l K → InCone a.rays [] l × InCone a.rays [] (opposite l)
        line l j =
            let ll = cols_at j (lines_cols kept) in
            let s = (lines_span kept i l ll).0 (in_line j) in
            let p = span_in f a.first l s.0 in
            let q = span_in g a.second l s.1 in
            ((m.same l ll).1 (p.inside, q.inside), (m.same (opposite l) (length-opposite l ∙ ll)).1 (p.opposed, q.opposed))

    as_many : length (fan_of kept K).cones ≡ length kept
    as_many = map_length (λ a. a.rays) kept

    cone_of : (k : ℕ) → k < length kept → IsConeAt n (fan_of kept K) k (InIntersection f g (at_place k).first (at_place k).second)
    cone_of k l x lx = subst (λ G. InCone G K x ↔ InIntersection f g (at_place k).first (at_place k).second x) (sym (map_at (λ a. a.rays) none [] kept k l)) (generated (at_place k) (among_at none kept k l) x lx)

    own_lineality : (a : Intersection) → Among a kept → (x : Row) → length x ≡ n → InLineality (InCone a.rays K) x → InSpan K x
    own_lineality a i x lx l =
        let p = (generated a i x lx).0 l.inside in
        let q = (generated a i (opposite x) (length-opposite x ∙ lx)).0 l.opposed in
        let m = is_meet a i in
        (lines_span kept i x lx).1 (own_line n f ff a.first m.first x lx (record { inside = p.0; opposed = q.0 }), own_line n g fg a.second m.second x lx (record { inside = p.1; opposed = q.1 }))

    kept_fan : IsFan n (fan_of kept K)
    kept_fan = record {
      lines = lines_cols kept;
      cones = All_among (λ G. IsConeThing n G K) (fan_of kept K).cones (λ G i. let (a, ia, e) = map_among (λ a. a.rays) kept i in record { generators = subst (HasCols n) (sym e) (is_meet a ia).cols; lines = lines_cols kept });
      lineality = All_among (λ G. (x : Row) → length x ≡ n → InLineality (InCone G K) x → InSpan K x) (fan_of kept K).cones (λ G i.
          let (a, ia, e) = map_among (λ a. a.rays) kept i in
          subst (λ D. (x : Row) → length x ≡ n → InLineality (InCone D K) x → InSpan K x) (sym e) (own_lineality a ia));
      apart = λ i j li lj d w.
          let am = as_many in
          let ki : i < length kept = omega arith in
          let kj : j < length kept = omega arith in
          let within : IsWithin n f g (at_place i) (at_place j) = λ x lx h. (cone_of j kj x lx).0 (w x lx ((cone_of i ki x lx).1 h)) in
          by_order i j (λ l. (once i j none l kj).0 within) (λ l. (once j i none l ki).1 within) (λ e. d e);
    }

    -- a kept one that is included in a kept one is the same
    one_kept : (a b : Intersection) → Among a kept → Among b kept → IsWithin n f g a b → a ≡ b
    one_kept a b ia ib w =
        let (p, lp, ep) = place_at none kept ia in
        let (q, lq, eq) = place_at none kept ib in
        let v : IsWithin n f g (at_place p) (at_place q) = subst (λ z. IsWithin n f g z (at_place q)) (sym ep) (subst (λ z. IsWithin n f g a z) (sym eq) w) in
        by_order p q (λ l. absurd ((once p q none l lq).0 v)) (λ l. absurd ((once q p none l lp).1 v)) (λ e. sym ep ∙ ap at_place e ∙ eq)

    is_maximal : (a : Intersection) → Among a kept → IsMaximalIntersection n f g a.first a.second
    is_maximal a i = record {
      first = (is_meet a i).first;
      second = (is_meet a i).second;
      maximal = λ k l lk ll w x lx h.
          let (c, ic, v) = cover k l lk ll in
          let e = one_kept a c i ic (λ y ly q. v y ly (w y ly q)) in
          subst (λ z. InIntersection f g z.first z.second x) (sym e) (v x lx h);
    }

    kept_for : (i j : ℕ) → IsMaximalIntersection n f g i j → (k : ℕ) × (k < length (fan_of kept K).cones) × IsConeAt n (fan_of kept K) k (InIntersection f g i j)
    kept_for i j h =
        let (a, ia, w) = cover i j h.first h.second in
        let m = is_meet a ia in
        let back = h.maximal a.first a.second m.first m.second w in
        let (k, lk, e) = place_at none kept ia in
        let am = as_many in
        (k, omega arith, λ x lx. let c = subst (λ z. InPlace (fan_of kept K) k x ↔ InIntersection f g z.first z.second x) e (cone_of k lk x lx) in (λ q. back x lx (c.0 q), λ q. c.1 (w x lx q)))

    kept_refine : IsCommonRefinement n f g (fan_of kept K)
    kept_refine = record {
      each = λ k l. let am = as_many in let lk : k < length kept = omega arith in ((at_place k).first, (at_place k).second, is_maximal (at_place k) (among_at none kept k lk), cone_of k lk);
      all = kept_for;
      bare = λ e x lx h. no_lines kept e x h;
    }

  -- ---- the maximal ones are kept
  record HasRefinement : Type 0 where
    fan : Fan
    is_fan : IsFan n fan
    refines : IsCommonRefinement n f g fan

  refinement : HasRefinement
  refinement = record { fan = fan_of k.kept (lines_of k.kept); is_fan = kept_fan k.kept meet k.once cover; refines = kept_refine k.kept meet k.once cover }
    where
      m : HasMeets (length f.cones)
      m = all_meets (length f.cones) (omega arith)

      k : HasGreatest Intersection (IsWithin n f g) m.meets
      k = greatest Intersection (IsWithin n f g) (λ a x lx h. h) (λ a b c v w x lx h. w x lx (v x lx h)) m.meets (λ a b i j. within_decided a b (m.each a i) (m.each b j))

      meet : (a : Intersection) → Among a k.kept → IsMeet a
      meet a i = m.each a (k.some a i)

      cover : (i j : ℕ) → i < length f.cones → j < length g.cones → (a : Intersection) × Among a k.kept × IsIntersectionWithin n f g i j a.first a.second
      cover i j li lj =
          let b = m.all i j li lj in
          let (a, ia, w) = k.cover b.meet b.listed in
          (a, ia, subst (λ z. IsIntersectionWithin n f g z j a.first a.second) b.first (subst (λ z. IsIntersectionWithin n f g b.meet.first z a.first a.second) b.second w))

fan_at : (t : Thing) → IsSomeFan t → IsFanThing t.cols t.cones t.lines
fan_at t p = (subst (λ k. IsOfType k t.cols t.generators t.lines t.cones) p.of p.thing.kind).0

pub refinements_exist : RefinementsExist
refinements_exist t s p q e =
    let r = refinement t.cols (fan_of_thing t) (fan_of_thing s) (fan_at t p) (subst (λ k. IsFanThing k s.cones s.lines) e (fan_at s q)) in
    some_fan (IsRefinementOfFans t s) t.cols r.fan.cones r.fan.lines p.thing.some_cols p.thing.few_cols r.is_fan
    (record { of = refl; cols = refl; second_cols = e; cones = r.refines })
