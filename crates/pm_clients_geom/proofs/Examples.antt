-- The examples of matrices hold.
use Rattle.pm_types.specs.OverFirst.{IsOverFirst}
use Rattle.pm_vector.proofs.Lists.{All_among, Among, among_All, here, there}
use Rattle.pm_vector.specs.Numbers.{InRange, IsReduced, Ratio}
use Rattle.pm_vector.specs.Rows.{IsZero, Row, entry, ratio_at}
use Rattle.pm_client.specs.Examples.{no_rows, single}
use Rattle.pm_clients_geom.specs.Examples.{HullsAreRead, MatricesAreRead, RaysAreRead, ThinnedAreRead, drafted, one_half, two_one}
use Rattle.pm_clients_geom.specs.Hulls.{AreFewRows, ArePossible}
use Rattle.pm_clients_geom.specs.Lists.{ReadsParts}
use Rattle.pm_clients_geom.specs.Matrices.{AreNotZero, AreRays, MayBeLines, MayBeRays}
use Rattle.pm_clients_geom.specs.Rays.{IsPutRay}
use Rattle.pm_fraction.proofs.Quotients.{whole_reduced}
use Rattle.pm_fraction.proofs.Reduced.{reduced_from}
use Rattle.pm_fraction.specs.Fractions.{IsLowestTermsOf, ratio_of}
use Rattle.pm_object.specs.Reading.{DraftSeen, Put}
use Rattle.pm_props.specs.declared.property.PropId.TheVariants.{Equations, Inequalities}
use Rattle.pm_types.specs.Views.{ratios}
use Rattle.pm_object_type.specs.declared.object_type.ObjectType.TheVariants.{Polytope}
use Rattle.pm_object_type.specs.declared.object_type.ObjectType.{ObjectType}
use Rattle.std.proofs.Common.{ap, arith, false, inl, inr, lit<, lit≤, refl, suc, sym, true, true≢false, zero}
use Rattle.std.proofs.lemmas.Int.{ints}
use Rattle.std.proofs.lemmas.List.Elements.{All-cons, All-nil}
use Rattle.std.specs.List.{All}
use Rattle.std.specs.Option.{is_some}
use Rattle.std.specs.Prelude.{Bool, List, [], length, ℕ, ◌<◌, ◌∷◌, ◌≡◌}
use lib.IntN.{negsuc, pos}
use lib.Signed.{◌≤ℤ◌}

abbrev is_polytope : ObjectType → Bool
is_polytope Polytope = true
is_polytope of = false

before : (x : Row) → Among x ((pos 1 ∷ negsuc 1 ∷ []) ∷ []) → pos 0 ≤ℤ entry x 0
before x here = omega (arith, ints)
before x (there i) = elim i [ ]

behind : pos 0 ≤ℤ negsuc 0 → ⊥
behind h = omega (arith, ints)

only : (x : Row) → Among x ((pos 0 ∷ pos 2 ∷ []) ∷ []) → entry x 0 ≡ pos 0
only x here = refl
only x (there i) = elim i [ ]

not_one : pos 1 ≡ pos 0 → ⊥
not_one h = omega (arith, ints)

pub matrices_are_read : MatricesAreRead
matrices_are_read = record {
  stated = refl;
  not_stated = refl;
  lines = λ p. All_among (λ (x : Row). entry x 0 ≡ pos 0) ((pos 0 ∷ pos 2 ∷ []) ∷ []) only;
  no_lines = λ h. not_one (among_All (λ (x : Row). entry x 0 ≡ pos 0) (there (here {xs = []})) (h refl));
  of_a_cone = λ p. absurd (true≢false (sym (ap is_polytope p)));
  rays = λ p. All_among (λ (x : Row). pos 0 ≤ℤ entry x 0) ((pos 1 ∷ negsuc 1 ∷ []) ∷ []) before;
  no_rays = λ h. behind (among_All (λ (x : Row). pos 0 ≤ℤ entry x 0) (here {xs = []}) (h refl));
  rays_of_a_cone = λ p. absurd (true≢false (sym (ap is_polytope p)));
}

-- ---- rays
half_reduced : IsReduced (record { num = pos 1; den = pos 2 })
half_reduced = reduced_from (pos 1) (pos 2) (omega (arith, ints)) (record { x = pos 1; y = pos 0; sum = refl })

over_first : IsOverFirst two_one one_half
over_first = record { cols = refl; each = each }
  where
    each : (i : ℕ) → i < 2 → IsLowestTermsOf (ratio_of (entry two_one i) (pos 2)) (ratio_at one_half i)
    each zero l = record { divisible = λ e. omega (arith, ints); reduced = whole_reduced (pos 1); same = refl }
    each (suc zero) l = record { divisible = λ e. omega (arith, ints); reduced = half_reduced; same = refl }
    each (suc (suc i)) l = absurd (omega arith)

not_over_first : IsOverFirst two_one (ratios two_one) → ⊥
not_over_first h = let e : pos 4 ≡ pos 2 = (h.each 0 (omega arith)).same in omega (arith, ints)

two_one_range : All InRange two_one
two_one_range = All-cons InRange (pos 2) (pos 1 ∷ []) (lit< tt) (All-cons InRange (pos 1) [] (lit< tt) (All-nil InRange))

two_is_not : pos 2 ≡ pos 0 → ⊥
two_is_not e = omega (arith, ints)

divided : IsPutRay Polytope one_half two_one
divided = record { some = omega arith; in_range = two_one_range; before = λ p. omega (arith, ints); divided = λ p n. over_first; whole = λ n. absurd (n (refl, two_is_not)) }

halved : one_half ≡ ratios two_one → ⊥
halved e = let k : pos 1 ≡ pos 2 = ap (λ (r : List Ratio). (ratio_at r 0).num) e in omega (arith, ints)

pub rays_are_read : RaysAreRead
rays_are_read = record {
  over_first = over_first;
  not_over_first = not_over_first;
  divided = divided;
  not_divided = λ h. not_over_first (h.divided refl two_is_not);
  of_a_cone = record { some = omega arith; in_range = two_one_range; before = λ p. omega (arith, ints); divided = λ p n. absurd (true≢false (sym (ap is_polytope p))); whole = λ n. refl };
  not_of_a_cone = λ h. halved (h.whole (λ w. true≢false (sym (ap is_polytope w.0))));
  rows = (divided, tt);
  too_few = λ h. h;
}

-- ---- hulls
reads : ReadsParts no_rows Equations Inequalities [] []
reads = record {
  first_cols = 0;
  second_cols = 0;
  first_rows = [];
  second_rows = [];
  reads_first = refl;
  reads_second = refl;
  first_primitive = record { count = refl; each = λ i l. absurd (omega arith); multiple = λ i l. absurd (omega arith) };
  second_primitive = record { count = refl; each = λ i l. absurd (omega arith); multiple = λ i l. absurd (omega arith) };
}

one_few : AreFewRows 1 (single 1 ∷ [])
one_few = record { cols = (refl, tt); few = lit≤ tt }

none_few : AreFewRows 1 []
none_few = record { cols = tt; few = lit≤ tt }

one_before : MayBeRays Polytope (single 1 ∷ [])
one_before p = All-cons (λ (x : Row). pos 0 ≤ℤ entry x 0) (single 1) [] (omega (arith, ints)) (All-nil (λ (x : Row). pos 0 ≤ℤ entry x 0))

one_not_zero : AreNotZero (single 1 ∷ [])
one_not_zero = All-cons (λ (x : Row). ¬ (IsZero x)) (single 1) [] (λ z. let e = z 0 in omega (arith, ints)) (All-nil (λ (x : Row). ¬ (IsZero x)))

none_not_zero : AreNotZero []
none_not_zero = All-nil (λ (x : Row). ¬ (IsZero x))

zero_row : IsZero (single 0)
zero_row zero = refl
zero_row (suc i) = refl

zero_listed : AreNotZero (single 0 ∷ []) → ⊥
zero_listed h = among_All (λ (x : Row). ¬ (IsZero x)) (here {xs = []}) h zero_row

one_ray : AreRays Polytope (single 1 ∷ [])
one_ray = record { before = one_before; not_zero = one_not_zero }

no_lines : MayBeLines Polytope []
no_lines p = All-nil (λ (x : Row). entry x 0 ≡ pos 0)

no_ray : AreRays Polytope []
no_ray = record { before = λ p. All-nil (λ (x : Row). pos 0 ≤ℤ entry x 0); not_zero = none_not_zero }

one_line : MayBeLines Polytope (single 1 ∷ []) → ⊥
one_line h = not_one (among_All (λ (x : Row). entry x 0 ≡ pos 0) (here {xs = []}) (h refl))

one_put : IsPutRay Polytope (ratios (single 1)) (single 1)
one_put = record {
  some = omega arith;
  in_range = All-cons InRange (pos 1) [] (lit< tt) (All-nil InRange);
  before = λ p. omega (arith, ints);
  divided = λ p n. record { cols = refl; each = each };
  whole = λ n. refl;
}
  where
    each : (i : ℕ) → i < 1 → IsLowestTermsOf (ratio_of (entry (single 1) i) (pos 1)) (ratio_at (ratios (single 1)) i)
    each zero l = record { divisible = λ e. omega (arith, ints); reduced = whole_reduced (pos 1); same = refl }
    each (suc i) l = absurd (omega arith)

kept : ArePossible no_rows (single 1 ∷ []) [] (single 1 ∷ []) []
kept = record { few_rays = one_few; few_lines = none_few; may = record { rays = one_ray; lines = no_lines }; kept = λ h. (refl, refl); either = inl (refl, refl) }

no_draft : {x : Put} {xs : List Put} → drafted [] ≡ drafted (x ∷ xs) → ⊥
no_draft e = let l = ap (λ (d : DraftSeen). length d.values) e in omega arith

pub hulls_are_read : HullsAreRead
hulls_are_read = record {
  from_points = record { targets = refl; sources = refl; parts = refl; generators = refl; doubles = refl; lists = refl };
  from_vertices = record { targets = refl; sources = refl; parts = refl; generators = refl; doubles = refl; lists = refl };
  turned = λ h. true≢false (sym h.parts);
  rays_by_rows = record { targets = refl; sources = refl; parts = refl; half_spaces = refl; doubles = refl; lists = refl };
  rays_by_facets = record { targets = refl; sources = refl; parts = refl; half_spaces = refl; doubles = refl; lists = refl };
  rays_by_points = λ h. true≢false (sym h.half_spaces);
  lines_by_null_space = record { targets = refl; sources = refl; lists = refl };
  hull_by_null_space = record { targets = refl; sources = refl; lists = refl };
  hull_by_no_null_space = λ h. (let e = ap length h.lists in omega arith);
  taken_as_cone = refl;
  taken_as_polytope = refl;
  finds_rays = λ h. true≢false (sym h.generators);
  reads = reads;
  reads_no_facets = λ h. true≢false (sym (ap is_some h.reads_first));
  few = one_few;
  other_columns = λ h. let e : 1 ≡ 2 = h.cols.0 in omega arith;
  may = record { rays = one_ray; lines = λ p. All-cons (λ (x : Row). entry x 0 ≡ pos 0) (single 0) [] refl (All-nil (λ (x : Row). entry x 0 ≡ pos 0)) };
  may_not = λ h. one_line h.lines;
  kept = kept;
  none = record { few_rays = none_few; few_lines = none_few; may = record { rays = no_ray; lines = no_lines }; kept = λ h. absurd (one_line h.lines); either = inr (refl, refl) };
  lost = λ h. let e = ap length (h.kept (record { rays = one_ray; lines = no_lines })).0 in omega arith;
  put = record { rays = single 1 ∷ []; lines = []; rows = ratios (single 1) ∷ []; possible = kept; each = (one_put, tt); in_range = All-nil (All InRange); draft = refl };
  not_put = λ h. no_draft h.draft;
}

pub thinned_are_read : ThinnedAreRead
thinned_are_read = record {
  thins_points = record { targets = refl; sources = refl; lists = refl; multiplies = refl };
  doubles = λ h. true≢false (sym h.multiplies);
  thins_inequalities = record { targets = refl; sources = refl; lists = refl; multiplies = refl; counts = refl };
  thins_others = λ h. true≢false (sym h.counts);
  rays_of_sets = record { targets = refl; sources = refl; lists = refl; determines = refl };
  no_rays_of_sets = λ h. true≢false (sym h.determines);
  facets_of_sets = record { targets = refl; sources = refl; lists = refl; determines = refl };
  no_facets_of_sets = λ h. true≢false (sym h.determines);
  not_zero = one_not_zero;
  zero = zero_listed;
  ray = one_ray;
  no_ray = λ h. zero_listed h.not_zero;
  kept = record { may = one_ray; kept = λ h. refl; either = inl refl };
  none = record { may = no_ray; kept = λ h. absurd (zero_listed h.not_zero); either = inr refl };
  lost = λ h. let e = ap length (h.kept one_ray) in omega arith;
  kept_facet = record { may = one_not_zero; kept = λ h. refl; either = inl refl };
  no_facet = record { may = none_not_zero; kept = λ h. absurd (zero_listed h); either = inr refl };
  lost_facet = λ h. let e = ap length (h.kept one_not_zero) in omega arith;
  put = record {
    facets = single 1 ∷ [];
    possible = record { may = one_not_zero; kept = λ h. refl; either = inl refl };
    few = one_few;
    few_hull = none_few;
    in_range = All-cons (All InRange) (single 1) [] (All-cons InRange (pos 1) [] (lit< tt) (All-nil InRange)) (All-nil (All InRange));
    hull_in_range = All-nil (All InRange);
    draft = refl;
  };
  not_put = λ h. no_draft h.draft;
  none_put = record {
    facets = [];
    possible = record { may = none_not_zero; kept = λ h. absurd (zero_listed h); either = inr refl };
    few = none_few;
    few_hull = none_few;
    in_range = All-nil (All InRange);
    hull_in_range = All-nil (All InRange);
    draft = refl;
  };
}
