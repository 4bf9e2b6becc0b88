-- Matrices of the half line and of a line that are canonical, and such that are not.
use Rattle.pm_vector.proofs.ConeLaws.{in_generator, in_line, none_from_zero}
use Rattle.pm_vector.proofs.Lists.{AllPairs_cons, All_among, Among, all_at, among_All, here, there}
use Rattle.pm_vector.proofs.Ring.{ring}
use Rattle.pm_vector.proofs.RowLaws.{entry-times}
use Rattle.pm_vector.proofs.Signs.{mul_cancel, mul_pos, pos_cancel}
use Rattle.pm_vector.specs.Cones.{InCone, InSpan, IsIndependent}
use Rattle.pm_vector.specs.Divisors.{IsPrimitive}
use Rattle.pm_vector.specs.Numbers.{Ratio}
use Rattle.pm_vector.specs.Rows.{IsZero, Row, Stands, entry, ratio_at, times}
use Rattle.pm_vector.proofs.BasisExamples.{primitive_by_one}
use Rattle.pm_vector.proofs.Spans.{same_span}
use Rattle.pm_vector.proofs.Unique.{echelon_is_unique}
use Rattle.pm_vector.specs.Bases.{IsEchelonBasis, SameSpan}
use Rattle.pm_geom.proofs.Apart.{lineality_spanned}
use Rattle.pm_geom.proofs.ShortRows.{by_two}
use Rattle.pm_geom.proofs.SmallThings.{line_is_read}
use Rattle.pm_geom.specs.Cones.{InLineality, Vanishes}
use Rattle.pm_geom.specs.Examples.{half_line, pair, triple}
use Rattle.pm_geom.specs.Generators.{IsBefore, VanishAt}
use Rattle.pm_types.specs.Things.{Thing}
use Rattle.pm_object_type.specs.declared.object_type.ObjectType.{ObjectType}
use Rattle.pm_object_type.specs.declared.object_type.ObjectType.TheVariants.{Cone, Fan, Polytope}
use Rattle.pm_props.proofs.Every.{has-set_of}
use Rattle.pm_examples_values.proofs.EchelonExamples.{alone, alone_independent}
use Rattle.pm_props.proofs.Places.{same_property_is}
use Rattle.pm_props.proofs.Members.{has-empty}
use Rattle.pm_examples_values.proofs.RayExamples.{below_one, below_two}
use Rattle.pm_examples_values.proofs.RowExamples.{all_one, first_row, on_lines, spanned, vanishing_row}
use Rattle.pm_examples_values.proofs.StandingExamples.{half_stands, stands_back, stands_whole}
use Rattle.pm_types.specs.Canonical.{EachIs, IsEchelonBasisOf, IsRayRow}
use Rattle.pm_examples_values.specs.CanonicalExamples.{CanonicalLinesAreRead, CanonicalOrdersAreRead, CanonicalRowsAreRead, KindsAreFresh, facets_kind, over_negative, rays_kind}
use Rattle.pm_props.specs.Kinds.{IsFresh}
use Rattle.pm_props.specs.Properties.{facets_tag, number, rays_tag}
use Rattle.pm_examples_values.specs.RayExamples.{half_line_thing, line_thing}
use Rattle.pm_examples_values.specs.RowExamples.{half_cone, halved}
use Rattle.pm_props.specs.Sets.{has, set_of}
use Rattle.pm_types.specs.Views.{over_one, ratios}
use Rattle.pm_props.specs.declared.property.PropId.{PropId}
use Rattle.pm_props.specs.declared.property.PropId.TheVariants.{Facets, Vertices, VerticesInFacets}
use Rattle.std.proofs.Common.{ap, arith, refl, subst, sym, true≢false, ◌∙◌}
use Rattle.std.proofs.lemmas.Int.{ints}
use Rattle.std.specs.List.{All, AllPairs, slice_index_or}
use Rattle.std.specs.Prelude.{Bool, IsTrue, List, [], false, length, map, nat_eq, suc, true, zero, ℕ, ◌||◌, ◌∷◌, ◌≡◌, ◌<◌}
use lib.IntN.{negsuc, pos, ℤ, ◌*ℤ◌}
use lib.Signed.{lt_z_yes, ◌<ℤ◌}

-- ---- kinds
or_false : (a : Bool) → (a || false) ≡ true → a ≡ true
or_false true h = refl
or_false false h = h

no_sources : (tag : PropId → Bool) (p : PropId) → IsTrue (has (set_of []) p) → tag p ≡ false
no_sources tag p h = absurd (true≢false (sym h ∙ has-empty p))

-- the one target has the tag, if any has
only_target : (tag : PropId → Bool) (q p : PropId) → IsTrue (has (set_of (q ∷ [])) p) → IsTrue (tag p) → IsTrue (tag q)
only_target tag q p h t = subst (λ r. IsTrue (tag r)) (sym (same_property_is q p (or_false (nat_eq (number q) (number p)) (sym (has-set_of (q ∷ []) p) ∙ h)))) t

rays_fresh : IsFresh rays_tag rays_kind
rays_fresh = record { target = (Vertices, has-set_of (Vertices ∷ []) Vertices, refl); sources = no_sources rays_tag }

facets_fresh : IsFresh facets_tag facets_kind
facets_fresh = record { target = (Facets, has-set_of (Facets ∷ []) Facets, refl); sources = no_sources facets_tag }

rays_only : ¬ (IsFresh facets_tag rays_kind)
rays_only f = true≢false (sym (only_target facets_tag Vertices f.target.0 f.target.1 f.target.2))

facets_only : ¬ (IsFresh rays_tag facets_kind)
facets_only f = true≢false (sym (only_target rays_tag Facets f.target.0 f.target.1 f.target.2))

pub kinds_are_fresh : KindsAreFresh
kinds_are_fresh = record { rays = rays_fresh; rays_alone = rays_only; facets = facets_fresh; facets_alone = facets_only; order_read = λ f. true≢false (f.sources VerticesInFacets (has-set_of (VerticesInFacets ∷ []) VerticesInFacets)) }

-- ---- whole rows, from what they are as fractions
ratios_are : (x y : Row) → ratios x ≡ ratios y → x ≡ y
ratios_are x y e = sym (back x) ∙ ap (map (λ (r : Ratio). r.num)) e ∙ back y
  where
    back : (x : Row) → map (λ (r : Ratio). r.num) (ratios x) ≡ x
    back [] = refl
    back (a ∷ x) = ap (λ z. a ∷ z) (back x)

stands_entry : (x : Row) {y : Row} (s : Stands (ratios x) y) (i : ℕ) → (stands_back x s).p *ℤ entry y i ≡ (stands_back x s).q *ℤ entry x i
stands_entry x {y} s i = let d = stands_back x s in simp entry-times at (d.same.at i)

entry_null : (x : Row) {y : Row} → Stands (ratios x) y → (i : ℕ) → entry x i ≡ pos 0 → entry y i ≡ pos 0
entry_null x s i e = let d = stands_back x s in mul_cancel d.p_positive (stands_entry x s i ∙ simp (e, ring) refl)

entry_positive : (x : Row) {y : Row} → Stands (ratios x) y → (i : ℕ) → pos 0 <ℤ entry x i → pos 0 <ℤ entry y i
entry_positive x {y} s i h =
    let d = stands_back x s in
    let up = mul_pos d.q_positive h in
    pos_cancel d.p_positive (subst (λ z. pos 0 <ℤ z) (sym (stands_entry x s i)) up)

each_first : (R : List Ratio → Row → Type 0) (r : List Ratio) (rows : List (List Ratio)) (xs : List Row) → EachIs R (r ∷ rows) xs → (x : Row) × Among x xs × R r x
each_first R r rows [] h = absurd h
each_first R r rows (x ∷ xs) h = (x, here, h.0)

each_two : (R : List Ratio → Row → Type 0) (r s : List Ratio) (xs : List Row) → EachIs R (r ∷ s ∷ []) xs → AllPairs IsBefore xs → (x : Row) × (y : Row) × R r x × R s y × IsBefore x y
each_two R r s [] h b = absurd h
each_two R r s (x ∷ []) h b = absurd h.1
each_two R r s (x ∷ y ∷ xs) h b = (x, y, h.0, h.1.0, b 0 1 [] (omega arith) (omega arith))

-- a row with a positive first entry does not come before one with the first entry 0
not_before : (x y : Row) → pos 0 <ℤ entry x 0 → entry y 0 ≡ pos 0 → ¬ (IsBefore x y)
not_before x y h e b = at b.place b.same b.below
  where
    at : (k : ℕ) → ((i : ℕ) → i < k → entry x i ≡ entry y i) → entry x k <ℤ entry y k → ⊥
    at zero same below = omega (arith, ints)
    at (suc k) same below = let f = same 0 (omega arith) in omega (arith, ints)

-- ---- the half line: no lineality, no row that vanishes
none_independent : IsIndependent []
none_independent c z i l = absurd (omega arith)

none_echelon : IsEchelonBasis 2 [] []
none_echelon = record {
  basis = record { cols = tt; as_many = refl; positive = λ i l. absurd (omega arith); reduced = λ i j l m ne. absurd (omega arith); primitive = λ i l. absurd (omega arith) };
  ascending = λ i j l m. absurd (omega arith);
  before = λ i c l m. absurd (omega arith);
}

no_basis : (S : Row → Type 0) → ((x : Row) → length x ≡ 2 → S x → InSpan [] x) → IsEchelonBasisOf 2 S [] []
no_basis S f = record { basis = record { cols = tt; inside = All_among S [] (λ x i. elim i [ ]); independent = none_independent; spans = f }; echelon = none_echelon }

no_lines : IsEchelonBasisOf 2 (InLineality (InCone half_line [])) [] []
no_lines = no_basis (InLineality (InCone half_line [])) (lineality_spanned 2 half_line [] (refl, (refl, tt)) tt (pair 1 1) tt tt)

no_hull : IsEchelonBasisOf 2 (Vanishes 2 half_line []) [] []
no_hull = no_basis (Vanishes 2 half_line []) (λ x l v. by_two (λ y. Vanishes 2 half_line [] y → InSpan [] y) at x l v)
  where
    zero_two : (a b : ℤ) → a ≡ pos 0 → b ≡ pos 0 → IsZero (a ∷ b ∷ [])
    zero_two a b e f zero = e
    zero_two a b e f (suc zero) = f
    zero_two a b e f (suc (suc i)) = refl

    at : (a b : ℤ) → Vanishes 2 half_line [] (a ∷ b ∷ []) → InSpan [] (a ∷ b ∷ [])
    at a b v =
        let p = simp ring at (v.holds (pair 0 1) refl (in_generator here)) in
        let q = simp ring at (v.holds (pair 1 0) refl (in_generator (there here))) in
        none_from_zero (a ∷ b ∷ []) (zero_two a b (omega (arith, ints)) (omega (arith, ints)))

none_vanish : (x : Row) → VanishAt [] x
none_vanish x k d l = absurd (omega arith)

-- ---- rows of VERTICES
far_row : (t : Thing) (x : Row) → entry x 0 ≡ pos 0 → IsRayRow t (ratios x) x
far_row t x e = record { stands = stands_whole x; divided = λ d. absurd (d.first e); whole = λ n. refl }

first_one : (t : Thing) (x : Row) → ratio_at (ratios x) 0 ≡ over_one (pos 1) → IsRayRow t (ratios x) x
first_one t x e = record { stands = stands_whole x; divided = λ d. e; whole = λ n. refl }

-- the one list of two rows, in either order
abbrev turned_rows : List Row
turned_rows = pair 1 0 ∷ pair 0 1 ∷ []

unit_primitive : (x : Row) → Among x half_line → IsPrimitive x
unit_primitive x here = primitive_by_one (pair 0 1) 1 refl
unit_primitive x (there here) = primitive_by_one (pair 1 0) 0 refl
unit_primitive x (there (there i)) = elim i [ ]

turned_primitive : (x : Row) → Among x turned_rows → IsPrimitive x
turned_primitive x here = primitive_by_one (pair 1 0) 0 refl
turned_primitive x (there here) = primitive_by_one (pair 0 1) 1 refl
turned_primitive x (there (there i)) = elim i [ ]

rising : AllPairs IsBefore half_line
rising = AllPairs_cons IsBefore (pair 0 1) (pair 1 0 ∷ []) first (λ i j d l m. absurd (omega arith))
  where
    first : (y : Row) → Among y (pair 1 0 ∷ []) → IsBefore (pair 0 1) y
    first y here = record { place = 0; within = omega arith; same = λ i l. absurd (omega arith); below = lt_z_yes tt }
    first y (there i) = elim i [ ]

pub canonical_orders_are_read : CanonicalOrdersAreRead
canonical_orders_are_read = record {
  rays = record {
    lines = [];
    pivots = [];
    echelon = no_lines;
    xs = half_line;
    each = (far_row half_line_thing (pair 0 1) refl, (first_one half_line_thing (pair 1 0) refl, tt));
    primitive = All_among IsPrimitive half_line unit_primitive;
    reduced = All_among (VanishAt []) half_line (λ x i. none_vanish x);
    ascending = λ f. rising;
  };
  rays_turned = λ h.
      let w = each_two (IsRayRow half_line_thing) (ratios (pair 1 0)) (ratios (pair 0 1)) h.xs h.each (h.ascending rays_fresh) in
      not_before w.0 w.1 (entry_positive (pair 1 0) (w.2).stands 0 (lt_z_yes tt)) (entry_null (pair 0 1) (w.3).stands 0 refl) w.4;
  rays_not_chosen = record {
    lines = [];
    pivots = [];
    echelon = no_lines;
    xs = turned_rows;
    each = (first_one half_line_thing (pair 1 0) refl, (far_row half_line_thing (pair 0 1) refl, tt));
    primitive = All_among IsPrimitive turned_rows turned_primitive;
    reduced = All_among (VanishAt []) turned_rows (λ x i. none_vanish x);
    ascending = λ f. absurd (facets_only f);
  };
  facets = record {
    lines = [];
    pivots = [];
    echelon = no_hull;
    xs = half_line;
    each = (refl, (refl, tt));
    primitive = All_among IsPrimitive half_line unit_primitive;
    reduced = All_among (VanishAt []) half_line (λ x i. none_vanish x);
    ascending = λ f. rising;
  };
  facets_turned = λ h.
      let w = each_two (λ r x. r ≡ ratios x) (ratios (pair 1 0)) (ratios (pair 0 1)) h.xs h.each (h.ascending facets_fresh) in
      let first : pair 1 0 ≡ w.0 = ratios_are (pair 1 0) w.0 w.2 in
      let second : pair 0 1 ≡ w.1 = ratios_are (pair 0 1) w.1 w.3 in
      not_before (pair 1 0) (pair 0 1) (lt_z_yes tt) refl (subst (λ x. IsBefore x (pair 0 1)) (sym first) (subst (λ y. IsBefore w.0 y) (sym second) w.4));
  facets_not_chosen = record {
    lines = [];
    pivots = [];
    echelon = no_hull;
    xs = turned_rows;
    each = (refl, (refl, tt));
    primitive = All_among IsPrimitive turned_rows turned_primitive;
    reduced = All_among (VanishAt []) turned_rows (λ x i. none_vanish x);
    ascending = λ f. absurd (rays_only f);
  };
}

-- ---- rows that are divided
two_one_primitive : All IsPrimitive (pair 2 1 ∷ [])
two_one_primitive = all_one IsPrimitive (pair 2 1) (primitive_by_one (pair 2 1) 1 refl)

single_rising : (x : Row) → AllPairs IsBefore (x ∷ [])
single_rising x i j d l m = absurd (omega arith)

not_halved : (x : Row) → halved ≡ ratios x → ⊥
not_halved x e = two_is_one (den x 1 ∙ refl) (ap (λ r. (ratio_at r 1).den) e)
  where
    den : (x : Row) (i : ℕ) → (ratio_at (ratios x) i).den ≡ pos 1
    den [] i = refl
    den (a ∷ x) zero = refl
    den (a ∷ x) (suc i) = den x i

    two_is_one : {z : ℤ} → z ≡ pos 1 → pos 2 ≡ z → ⊥
    two_is_one e f = omega (arith, ints)

no_polytope : Cone ≡ Polytope → ⊥
no_polytope e = subst is_cone e tt
  where
    is_cone : ObjectType → Type 0
    is_cone Cone = Unit {0}
    is_cone Polytope = ⊥
    is_cone Fan = ⊥

double_not_primitive : (x y : Row) → length y ≡ length x → x ≡ times (pos 2) y → ¬ (IsPrimitive x)
double_not_primitive x y l e p = let k : pos 2 ≡ pos 1 = p.whole (pos 2) y l (lt_z_yes tt) (record { at = λ i. ap (λ z. entry z i) e }) in omega (arith, ints)

pub canonical_rows_are_read : CanonicalRowsAreRead
canonical_rows_are_read = record {
  divided = record {
    lines = [];
    pivots = [];
    echelon = no_lines;
    xs = pair 2 1 ∷ [];
    each = (record { stands = half_stands; divided = λ d. refl; whole = λ n. absurd (n (record { polytope = refl; first = λ e. omega (arith, ints) })) }, tt);
    primitive = two_one_primitive;
    reduced = all_one (VanishAt []) (pair 2 1) (none_vanish (pair 2 1));
    ascending = λ f. single_rising (pair 2 1);
  };
  not_divided = λ h.
      let w = each_first (IsRayRow half_line_thing) (ratios (pair 2 1)) [] h.xs h.each in
      let up = entry_positive (pair 2 1) (w.2).stands 0 (lt_z_yes tt) in
      let k : pos 2 ≡ pos 1 = ap (λ (r : Ratio). r.num) ((w.2).divided (record { polytope = refl; first = λ e. omega (arith, ints) })) in
      omega (arith, ints);
  no_fraction = λ h.
      let w = each_first (IsRayRow half_line_thing) over_negative [] h.xs h.each in
      let d : pos 0 <ℤ negsuc 1 = (w.2).stands.denominators 1 (omega arith) in
      omega (arith, ints);
  cone_ray = record {
    lines = [];
    pivots = [];
    echelon = no_lines;
    xs = pair 2 1 ∷ [];
    each = (record { stands = stands_whole (pair 2 1); divided = λ d. absurd (no_polytope d.polytope); whole = λ n. refl }, tt);
    primitive = two_one_primitive;
    reduced = all_one (VanishAt []) (pair 2 1) (none_vanish (pair 2 1));
    ascending = λ f. single_rising (pair 2 1);
  };
  cone_ray_divided = λ h.
      let w = each_first (IsRayRow half_cone) halved [] h.xs h.each in
      not_halved w.0 ((w.2).whole (λ d. no_polytope d.polytope));
  facet = record {
    lines = [];
    pivots = [];
    echelon = no_hull;
    xs = pair 2 1 ∷ [];
    each = (refl, tt);
    primitive = two_one_primitive;
    reduced = all_one (VanishAt []) (pair 2 1) (none_vanish (pair 2 1));
    ascending = λ f. single_rising (pair 2 1);
  };
  facet_divided = λ h. let w = each_first (λ r x. r ≡ ratios x) halved [] h.xs h.each in not_halved w.0 w.2;
  far_not_primitive = λ h.
      let w = each_first (IsRayRow half_line_thing) (ratios (pair 0 2)) [] h.xs h.each in
      let e : pair 0 2 ≡ w.0 = ratios_are (pair 0 2) w.0 ((w.2).whole (λ d. d.first (entry_null (pair 0 2) (w.2).stands 0 refl))) in
      double_not_primitive (pair 0 2) (pair 0 1) refl refl (subst IsPrimitive (sym e) (among_All IsPrimitive w.1 h.primitive));
  facet_not_primitive = λ h.
      let w = each_first (λ r x. r ≡ ratios x) (ratios (pair 2 0)) [] h.xs h.each in
      let e : pair 2 0 ≡ w.0 = ratios_are (pair 2 0) w.0 w.2 in
      double_not_primitive (pair 2 0) (pair 1 0) refl refl (subst IsPrimitive (sym e) (among_All IsPrimitive w.1 h.primitive));
}

-- ---- the line
abbrev points : List Row
points = triple 1 0 0 ∷ []

abbrev lines : List Row
lines = triple 0 1 0 ∷ []

line_basis : IsEchelonBasisOf 3 (InLineality (InCone points lines)) lines (1 ∷ [])
line_basis = record {
  basis = record {
    cols = (refl, tt);
    inside = all_one (InLineality (InCone points lines)) (triple 0 1 0) (on_lines (triple 0 1 0) (in_line (first_row (triple 0 1 0) [])));
    independent = alone_independent 3 (triple 0 1 0) 1 refl refl (below_one (triple 0 1 0) refl);
    spans = spanned;
  };
  echelon = alone 3 (triple 0 1 0) 1 refl refl (below_one (triple 0 1 0) refl);
}

hull_basis : IsEchelonBasisOf 3 (Vanishes 3 points lines) (triple 0 0 1 ∷ []) (2 ∷ [])
hull_basis = record {
  basis = record {
    cols = (refl, tt);
    inside = all_one (Vanishes 3 points lines) (triple 0 0 1) (vanishing_row 3 points lines (triple 0 0 1) refl tt tt);
    independent = alone_independent 3 (triple 0 0 1) 2 refl refl (below_two (triple 0 0 1) refl refl);
    spans = λ x l h. (line_is_read.vanish x l).0 h;
  };
  echelon = alone 3 (triple 0 0 1) 2 refl refl (below_two (triple 0 0 1) refl refl);
}

-- an echelon basis of a space is determined
module _ (n : ℕ) (S : Row → Type 0) (R R' : List Row) (P P' : List ℕ) (b : IsEchelonBasisOf n S R P) (b' : IsEchelonBasisOf n S R' P') where
  bases_same : SameSpan R R'
  bases_same = same_span R R'
      (λ r i. b'.basis.spans r (all_at (λ (x : Row). length x ≡ n) i b.basis.cols) (among_All S i b.basis.inside))
      (λ r i. b.basis.spans r (all_at (λ (x : Row). length x ≡ n) i b'.basis.cols) (among_All S i b'.basis.inside))

  one_basis : (R ≡ R') × (P ≡ P')
  one_basis = echelon_is_unique n R R' P P' b.echelon b'.echelon bases_same

-- rows that are reduced are 0 at the one pivot column
reduced_at : (P : List ℕ) (c : ℕ) → c ∷ [] ≡ P → (x : Row) → VanishAt P x → entry x c ≡ pos 0
reduced_at P c e x h = (subst (λ Q. VanishAt Q x) (sym e) h) 0 0 (omega arith)

vanish_one : (c : ℕ) (x : Row) → entry x c ≡ pos 0 → VanishAt (c ∷ []) x
vanish_one c x e zero d l = e
vanish_one c x e (suc k) d l = absurd (omega arith)

first_num : (x y : Row) (i : ℕ) (N : List Row) → y ∷ [] ≡ N → map ratios (x ∷ []) ≡ map ratios N → (ratio_at (ratios x) i).num ≡ (ratio_at (ratios y) i).num
first_num x y i N e f = ap (λ (rows : List (List Ratio)). (ratio_at (slice_index_or rows 0 []) i).num) (f ∙ ap (map ratios) (sym e))

point_primitive : All IsPrimitive points
point_primitive = all_one IsPrimitive (triple 1 0 0) (primitive_by_one (triple 1 0 0) 0 refl)

pub canonical_lines_are_read : CanonicalLinesAreRead
canonical_lines_are_read = record {
  ray = record {
    lines = lines;
    pivots = 1 ∷ [];
    echelon = line_basis;
    xs = points;
    each = (first_one line_thing (triple 1 0 0) refl, tt);
    primitive = point_primitive;
    reduced = all_one (VanishAt (1 ∷ [])) (triple 1 0 0) (vanish_one 1 (triple 1 0 0) refl);
    ascending = λ f. single_rising (triple 1 0 0);
  };
  ray_not_reduced = λ h.
      let w = each_first (IsRayRow line_thing) (ratios (triple 1 1 0)) [] h.xs h.each in
      let z = reduced_at h.pivots 1 (one_basis 3 (InLineality (InCone points lines)) lines h.lines (1 ∷ []) h.pivots line_basis h.echelon).1 w.0 (among_All (VanishAt h.pivots) w.1 h.reduced) in
      let up = entry_positive (triple 1 1 0) (w.2).stands 1 (lt_z_yes tt) in
      omega (arith, ints);
  facet = record {
    lines = triple 0 0 1 ∷ [];
    pivots = 2 ∷ [];
    echelon = hull_basis;
    xs = points;
    each = (refl, tt);
    primitive = point_primitive;
    reduced = all_one (VanishAt (2 ∷ [])) (triple 1 0 0) (vanish_one 2 (triple 1 0 0) refl);
    ascending = λ f. single_rising (triple 1 0 0);
  };
  facet_not_reduced = λ h.
      let w = each_first (λ r x. r ≡ ratios x) (ratios (triple 1 0 1)) [] h.xs h.each in
      let z = reduced_at h.pivots 2 (one_basis 3 (Vanishes 3 points lines) (triple 0 0 1 ∷ []) h.lines (2 ∷ []) h.pivots hull_basis h.echelon).1 w.0 (among_All (VanishAt h.pivots) w.1 h.reduced) in
      let e : pos 1 ≡ entry w.0 2 = ap (λ x. entry x 2) (ratios_are (triple 1 0 1) w.0 w.2) in
      omega (arith, ints);
  lineality = record { lines = lines; pivots = 1 ∷ []; echelon = line_basis; these = refl };
  doubled = λ h.
      let e : pos 2 ≡ pos 1 = first_num (triple 0 2 0) (triple 0 1 0) 1 h.lines (one_basis 3 (InLineality (InCone points lines)) lines h.lines (1 ∷ []) h.pivots line_basis h.echelon).0 h.these in
      omega (arith, ints);
  hull = record { lines = triple 0 0 1 ∷ []; pivots = 2 ∷ []; echelon = hull_basis; these = refl };
  hull_doubled = λ h.
      let e : pos 2 ≡ pos 1 = first_num (triple 0 0 2) (triple 0 0 1) 2 h.lines (one_basis 3 (Vanishes 3 points lines) (triple 0 0 1 ∷ []) h.lines (2 ∷ []) h.pivots hull_basis h.echelon).0 h.these in
      omega (arith, ints);
}
