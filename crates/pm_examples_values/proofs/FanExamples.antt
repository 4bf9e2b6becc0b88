-- Maximal cones of fans, their dimensions, and what is not right for them.
use Rattle.pm_geom.proofs.OneRow.{one_row}
use Rattle.pm_vector.proofs.ConeLaws.{in_cone_set, in_line, in_line_times}
use Rattle.pm_vector.proofs.Lists.{All_among, Among, Any_among, Contains_among, among_All, among_Any, among_Contains, here, there}
use Rattle.pm_vector.specs.Cones.{InCone, InSpan}
use Rattle.pm_vector.specs.Rows.{Row}
use Rattle.pm_vector.proofs.Columns.{basis_is_independent}
use Rattle.pm_vector.proofs.BasisExamples.{bases_are_read}
use Rattle.pm_vector.proofs.Rank.{basis_gives_rank, rank_is_determined}
use Rattle.pm_vector.proofs.Spans.{same_span, same_span_refl}
use Rattle.pm_vector.specs.Bases.{IsRank, SameSpan}
use Rattle.pm_geom.proofs.Apart.{apart, order_of_apart}
use Rattle.pm_geom.proofs.Square.{square_is_read}
use Rattle.pm_geom.specs.Cones.{IsExtremeRay}
use Rattle.pm_geom.specs.Examples.{half_line, square}
use Rattle.pm_geom.specs.Faces.{ray}
use Rattle.pm_relations.proofs.Dimensions.{dimension_one}
use Rattle.pm_relations.proofs.Orders.{orders_length}
use Rattle.pm_examples_values.proofs.DimensionExamples.{no_lines, solid}
use Rattle.pm_examples_values.proofs.ThingExamples.{minus_extreme, minus_order, plus_extreme, plus_order}
use Rattle.pm_examples_values.specs.FanExamples.{ConeDimsAreRead, MaximalConesAreRead, SimplicialFansAreRead, mixed, square_fan}
use Rattle.pm_examples_values.specs.ThingExamples.{both_rays, line_fan, single, two_rays}
use Rattle.pm_types.specs.Right.{HasRays, IsBasis, IsDimOfCone, IsSimplicialFan}
use Rattle.std.proofs.Common.{ap, arith, refl, subst, sym, true≢false, ◌∙◌}
use Rattle.std.proofs.lemmas.Int.{ints}
use Rattle.std.specs.List.{All, Any, Contains}
use Rattle.std.specs.Prelude.{List, [], length, suc, zero, ℕ, ◌+◌, ◌++◌, ◌<◌, ◌↔◌, ◌≡◌, ◌∷◌, ◌≤◌}
use lib.IntN.{negsuc, pos}

-- ---- rays of the two rays of the line
abbrev plus : List Row
plus = single (pos 1)

abbrev minus : List Row
minus = single (negsuc 0)

not_in_plus : ¬ (IsExtremeRay 1 plus [] (negsuc 0 ∷ []))
not_in_plus e = apart plus [] (pos 1 ∷ []) (negsuc 0 ∷ []) tt tt tt e.inside

not_in_minus : ¬ (IsExtremeRay 1 minus [] (pos 1 ∷ []))
not_in_minus e = apart minus [] (negsuc 0 ∷ []) (pos 1 ∷ []) tt tt tt e.inside

abbrev IsRayOf : List Row → ℕ → Type 0
IsRayOf G j = (j < 2) × IsExtremeRay 1 G [] (ray both_rays j)

only : {j x : ℕ} → Among j (x ∷ []) → j ≡ x
only here = refl
only (there i) = elim i [ ]

plus_rays : (j : ℕ) → Contains (0 ∷ []) j ↔ IsRayOf plus j
plus_rays j = (λ c. subst (IsRayOf plus) (sym (only (among_Contains (0 ∷ []) c))) (omega arith, plus_extreme), back j)
  where
    back : (j : ℕ) → IsRayOf plus j → Contains (0 ∷ []) j
    back zero h = Contains_among (here {xs = []})
    back (suc zero) h = absurd (not_in_plus h.1)
    back (suc (suc j)) h = absurd (let l = h.0 in omega arith)

minus_rays : (j : ℕ) → Contains (1 ∷ []) j ↔ IsRayOf minus j
minus_rays j = (λ c. subst (IsRayOf minus) (sym (only (among_Contains (1 ∷ []) c))) (omega arith, minus_extreme), back j)
  where
    back : (j : ℕ) → IsRayOf minus j → Contains (1 ∷ []) j
    back zero h = absurd (not_in_minus h.1)
    back (suc zero) h = Contains_among (here {xs = []})
    back (suc (suc j)) h = absurd (let l = h.0 in omega arith)

pub maximal_cones_are_read : MaximalConesAreRead
maximal_cones_are_read = record {
  sets_right = (refl, (plus_rays, (minus_rays, tt)));
  turned = λ h. not_in_plus ((h.1.0 1).0 (Contains_among (here {xs = []}))).1;
  in_other_order = (refl, (minus_rays, (plus_rays, tt)));
  ray_more = λ h. not_in_plus ((h.1.0 1).0 (Contains_among (there {y = 0} (here {xs = []})))).1;
  ray_less = λ h. let c = (h.1.0 0).1 (omega arith, plus_extreme) in let l = c.1 in omega arith;
  set_less = λ h. h.1.1;
  set_more = λ h. h.1.1.1;
  column_more = λ h. let e = h.0 in omega arith;
  count = refl;
  other_count = λ h. omega (arith, ints);
}

-- ---- dimensions
-- a row spans what its opposite does
opposed : (x y : Row) → InSpan (y ∷ []) x → InSpan (x ∷ []) y → SameSpan (x ∷ []) (y ∷ [])
opposed x y f g = same_span (x ∷ []) (y ∷ []) (λ r i. at x y f r i) (λ r i. at y x g r i)
  where
    at : (x y : Row) → InSpan (y ∷ []) x → (r : Row) → Among r (x ∷ []) → InSpan (y ∷ []) r
    at x y f r here = f
    at x y f r (there i) = elim i [ ]

plus_dim : IsRank plus 1
plus_dim = basis_gives_rank 1 plus (0 ∷ []) plus (one_row 1 (pos 1 ∷ []) 0 refl refl) (same_span_refl plus)

minus_dim : IsRank minus 1
minus_dim = basis_gives_rank 1 plus (0 ∷ []) minus (one_row 1 (pos 1 ∷ []) 0 refl refl) (opposed (pos 1 ∷ []) (negsuc 0 ∷ []) (in_line_times (negsuc 0) (here {xs = []})) (in_line_times (negsuc 0) (here {xs = []})))

abbrev behind : List Row
behind = (negsuc 0 ∷ negsuc 0 ∷ []) ∷ []

behind_dim : IsRank behind 1
behind_dim = basis_gives_rank 2 ((pos 1 ∷ pos 1 ∷ []) ∷ []) (0 ∷ []) behind (one_row 2 (pos 1 ∷ pos 1 ∷ []) 0 refl refl)
    (opposed (pos 1 ∷ pos 1 ∷ []) (negsuc 0 ∷ negsuc 0 ∷ []) (in_line_times (negsuc 0) (here {xs = []})) (in_line_times (negsuc 0) (here {xs = []})))

quadrant_dim : IsRank half_line 2
quadrant_dim = basis_gives_rank 2 half_line (1 ∷ 0 ∷ []) half_line bases_are_read.backward (same_span_refl half_line)

other : {X : List Row} {d e : ℕ} → IsRank X d → IsRank X e → d ≡ e
other {X} {d} {e} h k = rank_is_determined X d e h k

-- ---- the dimensions of the quadrant and of the ray
abbrev IsMixed : List Row → ℕ → Type 0
IsMixed G d = IsDimOfCone mixed G d

mixed_below : (G : List Row) → Among G (half_line ∷ behind ∷ []) → (e : ℕ) → IsMixed G e → e ≤ 2
mixed_below G here e h = let d = other h quadrant_dim in omega arith
mixed_below G (there here) e h = let d = other h behind_dim in omega arith
mixed_below G (there (there i)) e h = elim i [ ]

some_mixed : (d : ℕ) → Any (λ G. IsMixed G d) (half_line ∷ behind ∷ []) → d ≤ 2
some_mixed d a = let (G, i, h) = among_Any (λ G. IsMixed G d) (half_line ∷ behind ∷ []) a in mixed_below G i d h

impure : (d : ℕ) → All (λ G. IsMixed G d) (half_line ∷ behind ∷ []) → ⊥
impure d all =
    let a = other (among_All (λ G. IsMixed G d) (here {xs = behind ∷ []}) all) quadrant_dim in
    let b = other (among_All (λ G. IsMixed G d) (there {y = half_line} (here {xs = []})) all) behind_dim in
    omega arith

two_dim : (G : List Row) → Among G (plus ∷ minus ∷ []) → IsRank (G ++ []) 1
two_dim G here = plus_dim
two_dim G (there here) = minus_dim
two_dim G (there (there i)) = elim i [ ]

is_pos : {d k : ℕ} → pos d ≡ pos k → d ≡ k
is_pos e = omega (arith, ints)

pub cone_dims_are_read : ConeDimsAreRead
cone_dims_are_read = record {
  second = refl;
  quadrant = quadrant_dim;
  not_a_ray = λ h. let e = other h quadrant_dim in omega arith;
  line = ((1, refl, plus_dim), tt);
  lines_left_out = λ h. let e = is_pos h.0.1 in let f = other h.0.2 plus_dim in omega arith;
  dims = ((2, refl, quadrant_dim), ((1, refl, behind_dim), tt));
  in_other_order = ((1, refl, behind_dim), ((2, refl, quadrant_dim), tt));
  turned = λ h. let e = is_pos h.0.1 in let f = other h.0.2 quadrant_dim in omega arith;
  dim_less = λ h. h.1;
  dim_more = λ h. h.1.1;
  negative = λ h. let e = h.1.0.1 in omega (arith, ints);
  greatest = record { attained = Any_among (λ G. IsMixed G 2) (here {xs = behind ∷ []}) quadrant_dim; greatest = All_among (λ G. (e : ℕ) → IsMixed G e → e ≤ 2) (half_line ∷ behind ∷ []) mixed_below };
  not_the_least = λ h. let l = among_All (λ G. (e : ℕ) → IsMixed G e → e ≤ 1) (here {xs = behind ∷ []}) h.greatest 2 quadrant_dim in omega arith;
  not_attained = λ h. let l = some_mixed 3 h.attained in omega arith;
  none = (refl, refl);
  not_nought = λ h. let l = h.attained.2 in omega arith;
  not_less = λ h. let e = h.0 in omega arith;
  some = λ h. let e = ap length h.1 in omega arith;
  pure = (λ y. (1, All_among (λ G. IsRank (G ++ []) 1) (plus ∷ minus ∷ []) two_dim), λ h. refl);
  not_impure = λ h. true≢false (sym (h.1 (1, All_among (λ G. IsRank (G ++ []) 1) (plus ∷ minus ∷ []) two_dim)));
  impure = (λ y. absurd (true≢false (sym y)), λ h. absurd (impure h.0 h.1));
  not_pure = λ h. let p = h.0 refl in impure p.0 p.1;
  none_pure = (λ y. (0, All_among (λ G. IsRank (G ++ []) 0) [] (λ G i. elim i [ ])), λ h. refl);
}

-- ---- simplicial fans
two_simplices : (G : List Row) → Among G (plus ∷ minus ∷ []) → (k : ℕ) × HasRays two_rays G k × IsDimOfCone two_rays G (k + 0)
two_simplices G here = (1, record { rays = plus; order = plus_order; as_many = refl }, plus_dim)
two_simplices G (there here) = (1, record { rays = minus; order = minus_order; as_many = refl }, minus_dim)
two_simplices G (there (there i)) = elim i [ ]

two_simplicial : IsSimplicialFan two_rays
two_simplicial = record {
  lineality = 0;
  is_lineality = no_lines 1 (InSpan []) (λ x l s. s);
  each = All_among (λ G. (k : ℕ) × HasRays two_rays G k × IsDimOfCone two_rays G (k + 0)) (plus ∷ minus ∷ []) two_simplices;
}

line_basis : IsBasis 1 (InSpan plus) plus
line_basis = record { cols = (refl, tt); inside = All_among (InSpan plus) plus (λ r i. in_line i); independent = basis_is_independent 1 plus (0 ∷ []) (one_row 1 (pos 1 ∷ []) 0 refl refl); spans = λ x l h. h }

no_rays : HasRays line_fan [] 0
no_rays = record { rays = []; order = order_of_apart 1 [] plus tt (refl, tt) (pos 0 ∷ []) tt tt (λ v i. elim i [ ]); as_many = refl }

line_simplicial : IsSimplicialFan line_fan
line_simplicial = record {
  lineality = 1;
  is_lineality = record { rows = plus; basis = line_basis; as_many = refl };
  each = All_among (λ G. (k : ℕ) × HasRays line_fan G k × IsDimOfCone line_fan G (k + 1)) ([] ∷ []) at;
}
  where
    at : (G : List Row) → Among G ([] ∷ []) → (k : ℕ) × HasRays line_fan G k × IsDimOfCone line_fan G (k + 1)
    at G here = (0, no_rays, plus_dim)
    at G (there i) = elim i [ ]

four : HasRays square_fan square 4
four = record { rays = square; order = square_is_read.order; as_many = refl }

square_rays : (k : ℕ) → HasRays square_fan square k → k ≡ 4
square_rays k h = sym h.as_many ∙ orders_length 3 (InCone square []) (in_cone_set square []) h.rays square h.order square_is_read.order

square_not : ¬ (IsSimplicialFan square_fan)
square_not s =
    let (k, h, dim) = among_All (λ G. (k : ℕ) × HasRays square_fan G k × IsDimOfCone square_fan G (k + s.lineality)) (here {xs = []}) s.each in
    let rays = square_rays k h in
    let e = dimension_one 3 (InSpan []) s.lineality 0 s.is_lineality (no_lines 3 (InSpan []) (λ x l h. h)) in
    let d = other dim solid in
    omega arith

pub simplicial_fans_are_read : SimplicialFansAreRead
simplicial_fans_are_read = record {
  four = four;
  not_three = λ h. let e = square_rays 3 h in omega arith;
  rays = (λ y. two_simplicial, λ s. refl);
  rays_untrue = λ h. true≢false (sym (h.1 two_simplicial));
  line = (λ y. line_simplicial, λ s. refl);
  line_untrue = λ h. true≢false (sym (h.1 line_simplicial));
  over_square = (λ y. absurd (true≢false (sym y)), λ s. absurd (square_not s));
  square_untrue = λ h. square_not (h.0 refl);
}
