-- Things, and what is none.
use Rattle.pm_relations.proofs.Standing.{whole_objective}
use Rattle.pm_examples_values.proofs.StandingExamples.{stand_among, stands_in, stands_not_negative}
use Rattle.pm_relations.proofs.Standing.{stand_for_ratios}
use Rattle.pm_examples_values.proofs.RayRowExamples.{first_place}
use Rattle.pm_examples_values.proofs.RowExamples.{all_one, first_row}
use Rattle.pm_vector.proofs.Signs.{nonneg_cancel}
use Rattle.pm_examples_values.proofs.RayExamples.{half_line_are_orders}
use Rattle.pm_vector.proofs.RowLaws.{entry-plus, entry-times}
use Rattle.pm_vector.proofs.Ring.{ring}
use Rattle.pm_vector.proofs.ConeLaws.{in_generator, in_of, in_through, none_to_zero, lines_opposite, none_from_zero, in_line_times}
use Rattle.pm_vector.proofs.Lists.{All_among, Among, among_All, here, there, AllPairs_cons, Any_among, Contains_among, among_Contains}
use Rattle.pm_vector.specs.Cones.{InCone, InSpan}
use Rattle.pm_vector.specs.Rows.{ratio_at, Row, opposite, entry, Stands, dot}
use Rattle.pm_geom.proofs.Apart.{apart, lineality_spanned, order_of_apart, without}
use Rattle.pm_geom.proofs.Refusals.{is_refused}
use Rattle.pm_geom.proofs.SmallThings.{empty_is_read, half_line_is_read}
use Rattle.pm_geom.specs.Cones.{InLineality, IsExtremeRay, IsOrder, SameModulo}
use Rattle.pm_geom.specs.Things.{IsConeThing, IsFanThing}
use Rattle.pm_relations.proofs.Sites.{no_sites}
use Rattle.pm_types.specs.Things.{IsThing}
use Rattle.pm_examples_values.specs.ThingExamples.{ColumnsAreRead, FansAreRead, ThingsAreRead, empty_of, single, FanOrdersAreRead, ConeOrdersAreRead, both_rays, FanValuesAreRead}
use Rattle.pm_types.specs.Views.{over_one, ratios}
use Rattle.std.proofs.Common.{ap, arith, refl, sym}
use Rattle.std.proofs.lemmas.Int.{ints}
use Rattle.std.proofs.lemmas.List.{length-replicate}
use Rattle.std.specs.List.{All, slice_index_or, AllPairs, Any, Contains}
use Rattle.std.specs.Prelude.{replicate, List, [], length, suc, zero, ℕ, ◌∷◌, ◌≡◌, ◌<◌, ◌≤◌}
use lib.IntN.{negsuc, pos, ℤ, ◌*ℤ◌, ◌+ℤ◌}
use lib.Signed.{le_z_yes, lt_z_yes, ◌<ℤ◌, ◌≤ℤ◌}

noughts : (n i : ℕ) → pos 0 <ℤ (ratio_at (replicate n (over_one (pos 0))) i).den
noughts zero i = lt_z_yes tt
noughts (suc n) zero = lt_z_yes tt
noughts (suc n) (suc i) = noughts n i

empty_is_thing : (n : ℕ) → 1 ≤ n → n ≤ 33 → IsThing (empty_of n)
empty_is_thing n h k = record {
  some_cols = h;
  few_cols = k;
  kind = ((empty_is_read n).polytope, refl);
  programs = record { cols = λ s. length-replicate n (over_one (pos 0)); denominators = λ s i h. noughts n i };
  sites = no_sites _;
}

pub columns_are_read : ColumnsAreRead
columns_are_read = record {
  one = empty_is_thing 1 (omega arith) (omega arith);
  most = empty_is_thing 33 (omega arith) (omega arith);
  none = λ h. let l : 1 ≤ 0 = h.some_cols in omega arith;
  more = λ h. let l : 34 ≤ 33 = h.few_cols in omega arith;
}

-- ---- rows and objectives
pub things_are_read : ThingsAreRead
things_are_read = record {
  objective = record { some_cols = omega arith; few_cols = omega arith; kind = (half_line_is_read.polytope, refl); programs = whole_objective 2 (pos 1 ∷ pos 2 ∷ []) refl; sites = no_sites _ };
  shorter_objective = λ h. let e : 1 ≡ 2 = h.programs.cols 0 in omega arith;
  negative_denominator = λ h. let l : pos 0 <ℤ negsuc 0 = h.programs.denominators 0 0 (omega arith) in omega (arith, ints);
  longer_objective = λ h. let e : 3 ≡ 2 = h.programs.cols 0 in omega arith;
  longer_generator = λ h. let e : 3 ≡ 2 = h.kind.0.generators.0 in omega arith;
  longer_line = λ h. let e : 3 ≡ 2 = h.kind.0.lines.0 in omega arith;
  cone_with_behind = record { some_cols = omega arith; few_cols = omega arith; kind = (record { generators = (refl, (refl, tt)); lines = tt }, refl); programs = whole_objective 2 (pos 1 ∷ pos 2 ∷ []) refl; sites = no_sites _ };
  behind = λ h. is_refused.behind h.kind.0;
  cone_of_ray = record { some_cols = omega arith; few_cols = omega arith; kind = (record { generators = (refl, tt); lines = tt }, refl); programs = whole_objective 2 (pos 1 ∷ pos 2 ∷ []) refl; sites = no_sites _ };
  no_vertex = λ h. is_refused.no_vertex h.kind.0;
  listed_cones = λ h. let l : 1 ≡ 0 = ap length h.kind.1 in omega arith;
}

-- ---- fans
abbrev both : List (List Row)
both = single (pos 1) ∷ single (negsuc 0) ∷ []

two_rays_cones : (G : List Row) → Among G both → IsConeThing 1 G []
two_rays_cones G here = record { generators = (refl, tt); lines = tt }
two_rays_cones G (there here) = record { generators = (refl, tt); lines = tt }
two_rays_cones G (there (there i)) = elim i [ ]

two_rays_lines : (G : List Row) → Among G both → (x : Row) → length x ≡ 1 → InLineality (InCone G []) x → InSpan [] x
two_rays_lines G here = lineality_spanned 1 (single (pos 1)) [] (refl, tt) tt (pos 1 ∷ []) tt tt
two_rays_lines G (there here) = lineality_spanned 1 (single (negsuc 0)) [] (refl, tt) tt (negsuc 0 ∷ []) tt tt
two_rays_lines G (there (there i)) = elim i [ ]

two_rays_apart : (i j : ℕ) → i < 2 → j < 2 → ¬ (i ≡ j) → ¬ ((x : Row) → length x ≡ 1 → InCone (slice_index_or both i []) [] x → InCone (slice_index_or both j []) [] x)
two_rays_apart zero zero l m ne f = ne refl
two_rays_apart zero (suc zero) l m ne f = apart (single (negsuc 0)) [] (negsuc 0 ∷ []) (pos 1 ∷ []) tt tt tt (f (pos 1 ∷ []) refl (in_generator (here {xs = []})))
two_rays_apart (suc zero) zero l m ne f = apart (single (pos 1)) [] (pos 1 ∷ []) (negsuc 0 ∷ []) tt tt tt (f (negsuc 0 ∷ []) refl (in_generator (here {xs = []})))
two_rays_apart (suc zero) (suc zero) l m ne f = ne refl
two_rays_apart zero (suc (suc j)) l m ne f = omega arith
two_rays_apart (suc zero) (suc (suc j)) l m ne f = omega arith
two_rays_apart (suc (suc i)) j l m ne f = omega arith

all_no_cones : (P : List Row → Type 0) → All P []
all_no_cones P = All_among P [] (λ x i. elim i [ ])

all_one_cone : (P : List Row → Type 0) (G : List Row) → P G → All P (G ∷ [])
all_one_cone P G h = All_among P (G ∷ []) at
  where
    at : (H : List Row) → Among H (G ∷ []) → P H
    at H here = h
    at H (there i) = elim i [ ]

line_is_fan : IsFanThing 1 ([] ∷ []) (single (pos 1))
line_is_fan = record {
  lines = (refl, tt);
  cones = all_one_cone (λ G. IsConeThing 1 G (single (pos 1))) [] (record { generators = tt; lines = (refl, tt) });
  lineality = all_one_cone (λ G. (x : Row) → length x ≡ 1 → InLineality (InCone G (single (pos 1))) x → InSpan (single (pos 1)) x) [] (λ x l h. h.inside);
  apart = λ i j l m ne f. ne (omega arith);
}

-- the ray of 2 is that of 1
in_double : (x : Row) → InCone (single (pos 1)) [] x → InCone (single (pos 2)) [] x
in_double x h = in_through (single (pos 2)) [] (single (pos 1)) [] half (λ l i. elim i [ ]) h
  where
    half : (g : Row) → Among g (single (pos 1)) → InCone (single (pos 2)) [] g
    half g here = record { m = pos 2; c = pos 1 ∷ []; d = []; positive = lt_z_yes tt; not_negative = (le_z_yes tt, tt); same = record { at = λ i. refl } }
    half g (there i) = elim i [ ]

abbrev whole_line : List Row
whole_line = (pos 1 ∷ []) ∷ (negsuc 0 ∷ []) ∷ []

one_has_opposite : InLineality (InCone whole_line []) (pos 1 ∷ [])
unfolding opposite
one_has_opposite = record { inside = in_generator (here {xs = (negsuc 0 ∷ []) ∷ []}); opposed = in_generator (there {y = pos 1 ∷ []} (here {xs = []})) }

pub fans_are_read : FansAreRead
fans_are_read = record {
  rays = record {
    some_cols = omega arith;
    few_cols = omega arith;
    kind = (
      record {
        lines = tt;
        cones = All_among (λ G. IsConeThing 1 G []) both two_rays_cones;
        lineality = All_among (λ G. (x : Row) → length x ≡ 1 → InLineality (InCone G []) x → InSpan [] x) both two_rays_lines;
        apart = two_rays_apart;
      },
      refl,
    );
    programs = whole_objective 1 (pos 0 ∷ []) refl;
    sites = no_sites _;
  };
  line = record { some_cols = omega arith; few_cols = omega arith; kind = (line_is_fan, refl); programs = whole_objective 1 (pos 0 ∷ []) refl; sites = no_sites _ };
  no_cone = record {
    some_cols = omega arith;
    few_cols = omega arith;
    kind = (
      record {
        lines = tt;
        cones = all_no_cones (λ G. IsConeThing 1 G []);
        lineality = all_no_cones (λ G. (x : Row) → length x ≡ 1 → InLineality (InCone G []) x → InSpan [] x);
        apart = λ i j l m ne f. omega arith;
      },
      refl,
    );
    programs = whole_objective 1 (pos 0 ∷ []) refl;
    sites = no_sites _;
  };
  twice = λ h. h.kind.0.apart 0 1 (omega arith) (omega arith) (λ e. omega arith) (λ x l k. in_double x k);
  included = λ h. h.kind.0.apart 0 1 (omega arith) (omega arith) (λ e. omega arith) (λ x l k. in_of (single (pos 1)) [] [] (λ g i. elim i [ ]) k);
  more_lineality = λ h.
      let z = among_All (λ G. (x : Row) → length x ≡ 1 → InLineality (InCone G []) x → InSpan [] x) (here {xs = []}) h.kind.0.lineality in
      let e : pos 1 ≡ pos 0 = none_to_zero (pos 1 ∷ []) (z (pos 1 ∷ []) refl one_has_opposite) 0 in
      omega (arith, ints);
  longer_row = λ h.
      let c = among_All (λ G. IsConeThing 1 G []) (here {xs = []}) h.kind.0.cones in
      let e : 2 ≡ 1 = c.generators.0 in
      omega arith;
  not_cut_out = λ h. h.cuts_out;
  with_generators = λ h. let l : 2 ≡ 0 = ap length h.kind.1 in omega arith;
}

-- ---- orders of a fan
plus_needed : (v : Row) (i : Among v (single (pos 1))) → ¬ (InCone (without i) [] v)
unfolding without
plus_needed v here = apart _ [] (negsuc 0 ∷ []) _ tt tt tt
plus_needed v (there i) = elim i [ ]

pub plus_order : IsOrder 1 (InCone (single (pos 1)) []) (single (pos 1))
plus_order = order_of_apart 1 (single (pos 1)) [] (refl, tt) tt (pos 1 ∷ []) tt tt plus_needed

minus_needed : (v : Row) (i : Among v (single (negsuc 0))) → ¬ (InCone (without i) [] v)
unfolding without
minus_needed v here = apart _ [] (pos 1 ∷ []) _ tt tt tt
minus_needed v (there i) = elim i [ ]

pub minus_order : IsOrder 1 (InCone (single (negsuc 0)) []) (single (negsuc 0))
minus_order = order_of_apart 1 (single (negsuc 0)) [] (refl, tt) tt (negsuc 0 ∷ []) tt tt minus_needed

pub plus_extreme : IsExtremeRay 1 (single (pos 1)) [] (pos 1 ∷ [])
plus_extreme = among_All (λ v. IsExtremeRay 1 (single (pos 1)) [] v) (here {xs = []}) plus_order.each

pub minus_extreme : IsExtremeRay 1 (single (negsuc 0)) [] (negsuc 0 ∷ [])
minus_extreme = among_All (λ v. IsExtremeRay 1 (single (negsuc 0)) [] v) (here {xs = []}) minus_order.each

-- rows that are alike in a cone with no lineality are alike in the fan
alike_in_fan : (G : List Row) → Among G both → {r v : Row} → SameModulo 1 (InCone G []) r v → SameModulo 1 (InSpan []) r v
alike_in_fan G i s =
    let z = two_rays_lines G i s.w s.cols s.line in
    record { p = s.p; k = s.k; w = s.w; cols = s.cols; p_positive = s.p_positive; k_positive = s.k_positive; line = record { inside = z; opposed = lines_opposite [] s.w z }; same = s.same }

-- rows that are alike have first entries of one sign
alike_first : {r v : Row} (s : SameModulo 1 (InSpan []) r v) → s.p *ℤ entry v 0 ≡ s.k *ℤ entry r 0
alike_first {r} {v} s =
    let e = simp (entry-times, entry-plus) at (s.same.at 0) in
    let z = none_to_zero s.w s.line.inside 0 in
    omega (arith, ints)

not_alike : (a b : ℤ) → a ≡ pos 1 → b ≡ negsuc 0 → (p k : ℤ) → pos 0 <ℤ p → pos 0 <ℤ k → p *ℤ b ≡ k *ℤ a → ⊥
not_alike a b ea eb p k hp hk e = let f = simp (ea, eb, ring) at e in omega (arith, ints)

plus_from_minus : ¬ (SameModulo 1 (InSpan []) (pos 1 ∷ []) (negsuc 0 ∷ []))
plus_from_minus s = not_alike (pos 1) (negsuc 0) refl refl s.p s.k s.p_positive s.k_positive (alike_first s)

minus_from_plus : ¬ (SameModulo 1 (InSpan []) (negsuc 0 ∷ []) (pos 1 ∷ []))
minus_from_plus s = not_alike (pos 1) (negsuc 0) refl refl s.k s.p s.k_positive s.p_positive (sym (alike_first s))

any_one : {X : Type 0} (P : X → Type 0) (x : X) → Any P (x ∷ []) → P x
any_one {X = X} P x a = at (among_Contains (x ∷ []) (a.0, a.2, a.3)) a.4
  where
    at : {y : X} → Among y (x ∷ []) → P y → P x
    at here h = h
    at (there i) h = elim i [ ]

both_each : (v : Row) → Among v both_rays → Any (λ G. IsExtremeRay 1 G [] v) both
both_each v here = Any_among (λ G. IsExtremeRay 1 G [] (pos 1 ∷ [])) (here {xs = single (negsuc 0) ∷ []}) plus_extreme
both_each v (there here) = Any_among (λ G. IsExtremeRay 1 G [] (negsuc 0 ∷ [])) (there {y = single (pos 1)} (here {xs = []})) minus_extreme
both_each v (there (there i)) = elim i [ ]

both_all : (G : List Row) → Among G both → (r : Row) → IsExtremeRay 1 G [] r → Any (λ v. SameModulo 1 (InSpan []) r v) both_rays
both_all G here r e = Any_among (λ v. SameModulo 1 (InSpan []) r v) (here {xs = single (negsuc 0)}) (alike_in_fan (single (pos 1)) here (any_one (λ v. SameModulo 1 (InCone (single (pos 1)) []) r v) (pos 1 ∷ []) (plus_order.all r e)))
both_all G (there here) r e = Any_among (λ v. SameModulo 1 (InSpan []) r v) (there {y = pos 1 ∷ []} (here {xs = []})) (alike_in_fan (single (negsuc 0)) (there here) (any_one (λ v. SameModulo 1 (InCone (single (negsuc 0)) []) r v) (negsuc 0 ∷ []) (minus_order.all r e)))
both_all G (there (there i)) r e = elim i [ ]

both_once : AllPairs (λ v w. ¬ (SameModulo 1 (InSpan []) v w)) both_rays
both_once = AllPairs_cons (λ v w. ¬ (SameModulo 1 (InSpan []) v w)) (pos 1 ∷ []) (single (negsuc 0)) first (λ i j d l m. absurd (omega arith))
  where
    first : (w : Row) → Among w (single (negsuc 0)) → ¬ (SameModulo 1 (InSpan []) (pos 1 ∷ []) w)
    first w here = plus_from_minus
    first w (there i) = elim i [ ]

both_places : (i : ℕ) → Among i (0 ∷ 1 ∷ []) → i < 2
both_places i here = omega arith
both_places i (there here) = omega arith
both_places i (there (there j)) = elim j [ ]

both_every : (i : ℕ) → i < 2 → Contains (0 ∷ 1 ∷ []) i
both_every zero l = Contains_among (here {xs = 1 ∷ []})
both_every (suc zero) l = Contains_among (there {y = 0} (here {xs = []}))
both_every (suc (suc i)) l = absurd (omega arith)

both_places_once : AllPairs (λ (i j : ℕ). ¬ (i ≡ j)) (0 ∷ 1 ∷ [])
both_places_once = AllPairs_cons (λ (i j : ℕ). ¬ (i ≡ j)) 0 (1 ∷ []) first (λ i j d l m. absurd (omega arith))
  where
    first : (j : ℕ) → Among j (1 ∷ []) → ¬ (0 ≡ j)
    first j here = λ e. omega arith
    first j (there i) = elim i [ ]

doubled : SameModulo 1 (InSpan []) (pos 2 ∷ []) (pos 1 ∷ [])
unfolding opposite
doubled = record {
  p = pos 2;
  k = pos 1;
  w = pos 0 ∷ [];
  cols = refl;
  p_positive = lt_z_yes tt;
  k_positive = lt_z_yes tt;
  line = record { inside = none_from_zero (pos 0 ∷ []) zero_one; opposed = none_from_zero (pos 0 ∷ []) zero_one };
  same = record { at = at };
}
  where
    zero_one : (i : ℕ) → entry (pos 0 ∷ []) i ≡ pos 0
    zero_one zero = refl
    zero_one (suc i) = refl

    at : (i : ℕ) → entry (pos 2 ∷ []) i ≡ entry (pos 2 ∷ []) i
    at i = refl

-- the zero row is extreme in no cone
zero_not_extreme : (G : List Row) → ¬ (IsExtremeRay 1 G [] (pos 0 ∷ []))
unfolding opposite
zero_not_extreme G e = e.not_line e.inside

pub fan_orders_are_read : FanOrdersAreRead
fan_orders_are_read = record {
  orders = record {
    each = All_among (λ v. Any (λ G. IsExtremeRay 1 G [] v) both) both_rays both_each;
    all = All_among (λ G. (r : Row) → IsExtremeRay 1 G [] r → Any (λ v. SameModulo 1 (InSpan []) r v) both_rays) both both_all;
    once = both_once;
    facets = refl;
    places = All_among (λ i. i < 2) (0 ∷ 1 ∷ []) both_places;
    every = both_every;
    places_once = both_places_once;
  };
  ray_missing = λ h.
      let f = among_All (λ G. (r : Row) → IsExtremeRay 1 G [] r → Any (λ v. SameModulo 1 (InSpan []) r v) (single (pos 1))) (there {y = single (pos 1)} (here {xs = []})) h.all in
      minus_from_plus (any_one (λ v. SameModulo 1 (InSpan []) (negsuc 0 ∷ []) v) (pos 1 ∷ []) (f (negsuc 0 ∷ []) minus_extreme));
  ray_twice = λ h. h.once 0 1 [] (omega arith) (omega arith) doubled;
  not_a_ray = λ h.
      let a = among_All (λ v. Any (λ G. IsExtremeRay 1 G [] v) both) (here {xs = both_rays}) h.each in
      zero_not_extreme a.1 a.4;
  cone_missing = λ h. let e : 1 ≡ 0 = sym (any_one (λ j. j ≡ 1) 0 (let c = h.every 1 (omega arith) in (c.0, 1, c.1, c.2, refl))) in omega arith;
  cone_twice = λ h. h.places_once 0 2 0 (omega arith) (omega arith) refl;
  no_such_cone = λ h. let l : 2 < 2 = h.places 2 0 (omega arith) in omega arith;
  facets = λ h. let l : 2 ≡ 0 = ap length h.facets in omega arith;
}

pub cone_orders_are_read : ConeOrdersAreRead
cone_orders_are_read = record { none = half_line_are_orders; listed = λ h. let l : 1 ≡ 0 = ap length h.cones in omega arith }

-- ---- values of fans
zero_one : (i : ℕ) → entry (pos 0 ∷ []) i ≡ pos 0
zero_one zero = refl
zero_one (suc i) = refl

scaled : (a k : ℤ) → pos 0 <ℤ k → SameModulo 1 (InSpan []) (a ∷ []) ((k *ℤ a) ∷ [])
unfolding opposite
scaled a k h = record {
  p = pos 1;
  k = k;
  w = pos 0 ∷ [];
  cols = refl;
  p_positive = lt_z_yes tt;
  k_positive = h;
  line = record { inside = none_from_zero (pos 0 ∷ []) zero_one; opposed = none_from_zero (pos 0 ∷ []) zero_one };
  same = record { at = at };
}
  where
    at : (i : ℕ) → entry ((pos 1 *ℤ (k *ℤ a)) ∷ []) i ≡ entry ((k *ℤ a +ℤ pos 0) ∷ []) i
    at zero = simp ring (omega (arith, ints))
    at (suc i) = refl

first_product : (x : Row) → dot (pos 1 ∷ []) x ≡ entry x 0
first_product [] = refl
first_product (a ∷ x) = simp ring (omega (arith, ints))

fan_turned : (x : Row) → SameModulo 1 (InSpan []) (pos 1 ∷ []) x → Stands (ratios (negsuc 2 ∷ [])) x → ⊥
fan_turned x s st =
    let e = alike_first s in
    let up : pos 0 ≤ℤ entry x 0 = nonneg_cancel s.p_positive (above (s.p *ℤ entry x 0) s.k s.k_positive e) in
    let k : pos 0 ≤ℤ negsuc 2 = stands_not_negative (negsuc 2 ∷ []) st (pos 1 ∷ []) (rw (first_product x) up) in
    omega (arith, ints)
  where
    above : (z k : ℤ) → pos 0 <ℤ k → z ≡ k *ℤ pos 1 → pos 0 ≤ℤ z
    above z k h e = omega (arith, ints)

pub fan_values_are_read : FanValuesAreRead
fan_values_are_read = record {
  rays = record {
    xs = (pos 2 ∷ []) ∷ (negsuc 2 ∷ []) ∷ [];
    stand = stand_for_ratios ((pos 2 ∷ []) ∷ (negsuc 2 ∷ []) ∷ []);
    cols = (refl, (refl, tt));
    order = (scaled (pos 1) (pos 2) (lt_z_yes tt), (scaled (negsuc 0) (pos 3) (lt_z_yes tt), tt));
  };
  turned = λ h. let w = first_place (SameModulo 1 (InSpan [])) (pos 1 ∷ []) (negsuc 2 ∷ []) (single (negsuc 0)) (single (pos 2)) h.xs h.order h.stand in fan_turned w.0 w.1 w.2;
  no_line = λ h.
      let r = stand_among (single (pos 1)) h.xs h.stand (first_row (pos 1 ∷ []) []) in
      let e : pos 1 ≡ pos 0 = none_to_zero (pos 1 ∷ []) (stands_in (pos 1 ∷ []) r.2 [] [] (among_All (InSpan []) r.1 h.each)) 0 in
      omega (arith, ints);
  line = record {
    xs = single (pos 2);
    stand = stand_for_ratios (single (pos 2));
    cols = (refl, tt);
    each = all_one (InSpan (single (pos 1))) (pos 2 ∷ []) (in_line_times (pos 2) (first_row (pos 1 ∷ []) []));
  };
  no_facets = (refl, tt);
  no_sets = λ h. h.1;
}
