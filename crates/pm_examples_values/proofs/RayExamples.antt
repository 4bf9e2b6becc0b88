-- The half line, segments, a line, the square and the empty polytope: truth values, dimensions and far faces.
use Rattle.pm_relations.proofs.Standing.{whole_objective}
use Rattle.pm_vector.proofs.ConeLaws.{dot_in, in_generator, in_line, in_line_opposite, in_same, none_to_zero}
use Rattle.pm_vector.proofs.Lists.{All_among, Among, Contains_among, among_Contains, here, there}
use Rattle.pm_vector.proofs.Ring.{ring}
use Rattle.pm_vector.proofs.RowLaws.{dot-nil, dot-same, dot_comm, length-opposite}
use Rattle.pm_vector.specs.Cones.{InCone}
use Rattle.pm_vector.specs.Rows.{IsZero, Row, Same, dot, entry, opposite}
use Rattle.pm_vector.proofs.Rank.{rank_is_determined}
use Rattle.pm_vector.specs.Bases.{IsRank}
use Rattle.pm_geom.proofs.Apart.{apart, lineality_spanned, not_below_at}
use Rattle.pm_geom.proofs.Dimension.{rank_is_left}
use Rattle.pm_geom.proofs.Facets.{dot-opposite}
use Rattle.pm_geom.proofs.ShortRows.{at_two, by_three, by_two}
use Rattle.pm_geom.proofs.SmallThings.{half_line_is_read, line_is_read}
use Rattle.pm_geom.proofs.ValidRows.{null_in}
use Rattle.pm_geom.specs.Cones.{InLineality, IsValid, Vanishes}
use Rattle.pm_geom.specs.Examples.{half_line, pair, square, triple}
use Rattle.pm_geom.specs.Faces.{ray}
use Rattle.pm_relations.proofs.Sites.{no_sites}
use Rattle.pm_types.specs.Things.{AreOrders, IsThing}
use Rattle.pm_relations.proofs.Dimensions.{dimensions_are_determined}
use Rattle.pm_examples_values.proofs.EchelonExamples.{alone_independent}
use Rattle.pm_examples_values.specs.RayExamples.{EmptyValuesAreRead, HalfLineValuesAreRead, LineDimensionsAreRead, LineIsUnbounded, SegmentsAreRead, SquareIsBounded, around, beyond, from_zero, half_line_orders, half_line_thing, line_orders, line_thing, segment_of}
use Rattle.pm_types.specs.Right.{AreFarPlaces, HasDimension, IsCentered}
use Rattle.pm_types.specs.Values.{whole}
use Rattle.std.proofs.Common.{ap, arith, refl, subst, sym, true≢false, ◌∙◌}
use Rattle.std.proofs.lemmas.Int.{by_lt_z, ints}
use Rattle.std.specs.List.{AllPairs, Contains}
use Rattle.std.specs.Prelude.{IsTrue, List, [], false, length, map, suc, true, zero, ℕ, ◌++◌, ◌↔◌, ◌∷◌, ◌≡◌, ◌<◌}
use lib.IntN.{negsuc, pos, ℤ}
use lib.Signed.{le_z_yes, lt_z_yes, ◌<ℤ◌}

-- ---- truth values
pub is_true : {W : Type 0} → W → IsTrue true ↔ W
is_true w = (λ y. w, λ v. refl)

pub is_false : {W : Type 0} → ¬ W → IsTrue false ↔ W
is_false n = (λ y. absurd (true≢false (sym y)), λ w. absurd (n w))

pub not_true : {W : Type 0} → ¬ W → ¬ (IsTrue true ↔ W)
not_true n h = n (h.0 refl)

pub not_false : {W : Type 0} → W → ¬ (IsTrue false ↔ W)
not_false w h = true≢false (sym (h.1 w))

pub zero_two : (a b : ℤ) → a ≡ pos 0 → b ≡ pos 0 → IsZero (a ∷ b ∷ [])
zero_two a b ea eb zero = ea
zero_two a b ea eb (suc zero) = eb
zero_two a b ea eb (suc (suc i)) = refl

zero_three : (a b c : ℤ) → a ≡ pos 0 → b ≡ pos 0 → c ≡ pos 0 → IsZero (a ∷ b ∷ c ∷ [])
zero_three a b c ea eb ec zero = ea
zero_three a b c ea eb ec (suc zero) = eb
zero_three a b c ea eb ec (suc (suc zero)) = ec
zero_three a b c ea eb ec (suc (suc (suc i))) = refl

-- ---- far places
pub first_of : (a : ℕ) (as' : List ℕ) → Contains (a ∷ as') a
first_of a as' = Contains_among (here {xs = as'})

second_of : (a b : ℕ) (as' : List ℕ) → Contains (a ∷ b ∷ as') b
second_of a b as' = Contains_among (there {y = a} (here {xs = as'}))

map_pos_is : (is js : List ℕ) → map pos is ≡ map pos js → is ≡ js
map_pos_is [] [] e = refl
map_pos_is [] (j ∷ js) e = absurd (let l = ap length e in omega arith)
map_pos_is (i ∷ is) [] e = absurd (let l = ap length e in omega arith)
map_pos_is (i ∷ is) (j ∷ js) e = let r = map_pos_is is js cc in cc

pub far_at : (js : List ℕ) (V : List Row) → AreFarPlaces V (map pos js) → (j : ℕ) → Contains js j ↔ ((j < length V) × (entry (ray V j) 0 ≡ pos 0))
far_at js V h j = subst (λ is. Contains is j ↔ ((j < length V) × (entry (ray V j) 0 ≡ pos 0))) (sym (map_pos_is js h.js h.places)) (h.far j)

pub far_ascending : (js : List ℕ) (V : List Row) → AreFarPlaces V (map pos js) → AllPairs (λ i j. i < j) js
far_ascending js V h = subst (λ is. AllPairs (λ i j. i < j) is) (sym (map_pos_is js h.js h.places)) h.ascending

-- ---- the half line
pub half_line_is_thing : IsThing half_line_thing
half_line_is_thing = record { some_cols = omega arith; few_cols = omega arith; kind = (half_line_is_read.polytope, refl); programs = whole_objective 2 (pos 0 ∷ pos 0 ∷ []) refl; sites = no_sites _ }

pub half_line_are_orders : AreOrders half_line_thing half_line_orders
half_line_are_orders = record { rays = half_line_is_read.rays; facets = half_line_is_read.facets; cones = refl }

pub half_line_pointed : (x : Row) → length x ≡ 2 → InLineality (InCone half_line []) x → IsZero x
half_line_pointed x l h = none_to_zero x (lineality_spanned 2 half_line [] (refl, (refl, tt)) tt (pair 1 1) tt tt x l h)

has_a_ray : ¬ ((x : Row) → length x ≡ 2 → InCone half_line [] x → entry x 0 ≡ pos 0 → IsZero x)
has_a_ray f = let e : pos 1 ≡ pos 0 = f (pair 0 1) refl (in_generator here) refl 1 in omega (arith, ints)

has_a_point : (x : Row) × (length x ≡ 2) × InCone half_line [] x × ¬ (IsZero x)
has_a_point = (pair 1 0, refl, in_generator (there here), λ z. let e : pos 1 ≡ pos 0 = z 0 in omega (arith, ints))

half_line_far : (j : ℕ) → Contains (0 ∷ []) j ↔ ((j < length half_line) × (entry (ray half_line j) 0 ≡ pos 0))
half_line_far j = (λ c. to (among_Contains (0 ∷ []) c), back j)
  where
    to : {j : ℕ} → Among j (0 ∷ []) → (j < length half_line) × (entry (ray half_line j) 0 ≡ pos 0)
    to here = (omega arith, refl)
    to (there i) = elim i [ ]

    back : (j : ℕ) → (j < length half_line) × (entry (ray half_line j) 0 ≡ pos 0) → Contains (0 ∷ []) j
    back zero h = first_of 0 []
    back (suc zero) h = absurd (let e = h.1 in omega (arith, ints))
    back (suc (suc j)) h = absurd (let l = h.0 in omega arith)

pub half_line_values_are_read : HalfLineValuesAreRead
half_line_values_are_read = record {
  thing = half_line_is_thing;
  orders = half_line_are_orders;
  columns = refl;
  no_more_columns = λ h. let e : pos 3 ≡ pos 2 = h in omega (arith, ints);
  another_form = λ h. h;
  feasible = is_true has_a_point;
  not_infeasible = not_false has_a_point;
  unbounded = is_false has_a_ray;
  not_bounded = not_true has_a_ray;
  pointed = is_true half_line_pointed;
  has_no_line = not_false half_line_pointed;
  far_face = record { js = 0 ∷ []; places = refl; ascending = λ i j d l m. absurd (omega arith); far = half_line_far };
  not_none = λ h. elim (among_Contains [] ((far_at [] half_line h 0).1 (omega arith, refl))) [ ];
  not_the_vertex = λ h. let e : pos 1 ≡ pos 0 = ((far_at (1 ∷ []) half_line h 1).0 (first_of 1 [])).1 in omega (arith, ints);
  not_both = λ h. let e : pos 1 ≡ pos 0 = ((far_at (0 ∷ 1 ∷ []) half_line h 1).0 (second_of 0 1 [])).1 in omega (arith, ints);
  not_twice = λ h. let l : 0 < 0 = far_ascending (0 ∷ 0 ∷ []) half_line h 0 1 0 (omega arith) (omega arith) in omega arith;
}

-- ---- the square
square_bounded : (x : Row) → length x ≡ 3 → InCone square [] x → entry x 0 ≡ pos 0 → IsZero x
square_bounded x l h e = by_three (λ y. InCone square [] y → entry y 0 ≡ pos 0 → IsZero y) at x l h e
  where
    at : (a b c : ℤ) → InCone square [] (a ∷ b ∷ c ∷ []) → entry (a ∷ b ∷ c ∷ []) 0 ≡ pos 0 → IsZero (a ∷ b ∷ c ∷ [])
    at a b c h e =
        let p = simp ring at (dot_in (triple 0 1 0) square [] (λ g i. not_below_at (triple 0 1 0) i tt) (λ k i. elim i [ ]) h) in
        let q = simp ring at (dot_in (triple 0 0 1) square [] (λ g i. not_below_at (triple 0 0 1) i tt) (λ k i. elim i [ ]) h) in
        let r = simp ring at (dot_in (pos 1 ∷ pos 0 ∷ negsuc 0 ∷ []) square [] (λ g i. not_below_at (pos 1 ∷ pos 0 ∷ negsuc 0 ∷ []) i tt) (λ k i. elim i [ ]) h) in
        let s = simp ring at (dot_in (pos 1 ∷ negsuc 0 ∷ pos 0 ∷ []) square [] (λ g i. not_below_at (pos 1 ∷ negsuc 0 ∷ pos 0 ∷ []) i tt) (λ k i. elim i [ ]) h) in
        let f : a ≡ pos 0 = e in
        zero_three a b c f (omega (arith, ints)) (omega (arith, ints))

square_far : (j : ℕ) → Contains [] j ↔ ((j < length square) × (entry (ray square j) 0 ≡ pos 0))
square_far j = (λ c. elim (among_Contains [] c) [ ], back j)
  where
    back : (j : ℕ) → (j < length square) × (entry (ray square j) 0 ≡ pos 0) → Contains [] j
    back zero h = absurd (let e = h.1 in omega (arith, ints))
    back (suc zero) h = absurd (let e = h.1 in omega (arith, ints))
    back (suc (suc zero)) h = absurd (let e = h.1 in omega (arith, ints))
    back (suc (suc (suc zero))) h = absurd (let e = h.1 in omega (arith, ints))
    back (suc (suc (suc (suc j)))) h = absurd (let l = h.0 in omega arith)

pub square_is_bounded : SquareIsBounded
square_is_bounded = record {
  bounded = is_true square_bounded;
  not_unbounded = not_false square_bounded;
  far_face = record { js = []; places = refl; ascending = λ i j d l m. absurd (omega arith); far = square_far };
  not_the_first = λ h. let e : pos 1 ≡ pos 0 = ((far_at (0 ∷ []) square h 0).0 (first_of 0 [])).1 in omega (arith, ints);
}

-- ---- the empty polytope
after_first : (i : ℕ) → entry (pair 1 0) (suc i) ≡ pos 0
after_first zero = refl
after_first (suc i) = refl

no_point : ¬ ((x : Row) × (length x ≡ 2) × InCone [] [] x × ¬ (IsZero x))
no_point w = w.3 (none_to_zero w.0 w.2)

nothing_inside : ¬ (InCone [] [] (pair 1 0))
nothing_inside h = let e : pos 1 ≡ pos 0 = none_to_zero (pair 1 0) h 0 in omega (arith, ints)

none_far : (j : ℕ) → Contains [] j ↔ ((j < 0) × (entry (ray [] j) 0 ≡ pos 0))
none_far j = (λ c. elim (among_Contains [] c) [ ], λ h. absurd (let l = h.0 in omega arith))

pub empty_values_are_read : EmptyValuesAreRead
empty_values_are_read = record {
  infeasible = is_false no_point;
  not_feasible = not_true no_point;
  bounded = is_true (λ x l h e. none_to_zero x h);
  not_unbounded = not_false (λ x l h e. none_to_zero x h);
  far_face = record { js = []; places = refl; ascending = λ i j d l m. absurd (omega arith); far = none_far };
  not_a_ray = λ h. let l : 0 < 0 = ((far_at (0 ∷ []) [] h 0).0 (first_of 0 [])).0 in omega arith;
  not_centered = is_false (λ c. nothing_inside (c.inside (pair 1 0) refl refl after_first));
  refused = not_true (λ c. nothing_inside (c.inside (pair 1 0) refl refl after_first));
}

-- ---- the line
abbrev points : List Row
points = triple 1 0 0 ∷ []

abbrev lines : List Row
lines = triple 0 1 0 ∷ []

not_pointed : ¬ ((x : Row) → length x ≡ 3 → InLineality (InCone points lines) x → IsZero x)
not_pointed f = let e : pos 1 ≡ pos 0 = f (triple 0 1 0) refl (record { inside = in_line here; opposed = in_line_opposite here }) 1 in omega (arith, ints)

pub below_one : (x : Row) → entry x 0 ≡ pos 0 → (d : ℕ) → d < 1 → entry x d ≡ pos 0
below_one x e zero l = e
below_one x e (suc d) l = absurd (omega arith)

pub below_two : (x : Row) → entry x 0 ≡ pos 0 → entry x 1 ≡ pos 0 → (d : ℕ) → d < 2 → entry x d ≡ pos 0
below_two x e f zero l = e
below_two x e f (suc zero) l = f
below_two x e f (suc (suc d)) l = absurd (omega arith)

pub one_line : HasDimension 3 (InLineality (InCone points lines)) 1
one_line = record {
  rows = lines;
  basis = record {
    cols = (refl, tt);
    inside = All_among (InLineality (InCone points lines)) lines within;
    independent = alone_independent 3 (triple 0 1 0) 1 refl refl (below_one (triple 0 1 0) refl);
    spans = lineality_spanned 3 points lines (refl, tt) (refl, tt) (triple 1 0 0) tt tt;
  };
  as_many = refl;
}
  where
    within : (x : Row) → Among x lines → InLineality (InCone points lines) x
    within x here = record { inside = in_line here; opposed = in_line_opposite here }
    within x (there i) = elim i [ ]

pub plane : IsRank (points ++ lines) 2
plane = (rank_is_left 3 points lines (refl, tt) (refl, tt) (triple 0 0 1 ∷ []) (refl, tt) (alone_independent 3 (triple 0 0 1) 2 refl refl (below_two (triple 0 0 1) refl refl)) line_is_read.vanish 2).1 refl

not_space : ¬ (IsRank (points ++ lines) 3)
not_space r = let e = rank_is_determined (points ++ lines) 3 2 r plane in omega arith

whole_is : {j k : ℤ} → whole j ≡ whole k → j ≡ k
whole_is h = cc

pub line_is_thing : IsThing line_thing
line_is_thing = record { some_cols = omega arith; few_cols = omega arith; kind = (line_is_read.polytope, refl); programs = whole_objective 3 (pos 0 ∷ pos 0 ∷ pos 0 ∷ []) refl; sites = no_sites _ }

pub line_are_orders : AreOrders line_thing line_orders
line_are_orders = record { rays = line_is_read.rays; facets = line_is_read.facets; cones = refl }

pub line_dimensions_are_read : LineDimensionsAreRead
line_dimensions_are_read = record {
  thing = line_is_thing;
  orders = line_are_orders;
  has_a_line = is_false not_pointed;
  not_pointed = not_true not_pointed;
  lineality_dim = (1, refl, one_line);
  no_less = λ h. let e = whole_is ((dimensions_are_determined line_thing).1 (whole (pos 0)) (whole (pos 1)) line_orders line_orders [] [] h (1, refl, one_line)) in omega (arith, ints);
  cone_dim = (2, refl, plane);
  no_space = λ h. let e = whole_is ((dimensions_are_determined line_thing).0 (whole (pos 3)) (whole (pos 2)) line_orders line_orders [] [] h (2, refl, plane)) in omega (arith, ints);
  combinatorial_dim = record { cone = 2; lineality = 1; is_cone = plane; is_lineality = one_line; less = refl };
  not_the_dimension = λ h. let e = whole_is ((dimensions_are_determined line_thing).2 (whole (pos 1)) (whole (pos 0)) line_orders line_orders [] [] h (record { cone = 2; lineality = 1; is_cone = plane; is_lineality = one_line; less = refl })) in omega (arith, ints);
  flat = is_false not_space;
  not_full = not_true not_space;
}

has_a_direction : ¬ ((x : Row) → length x ≡ 3 → InCone points lines x → entry x 0 ≡ pos 0 → IsZero x)
has_a_direction f = let e : pos 1 ≡ pos 0 = f (triple 0 1 0) refl (in_line here) refl 1 in omega (arith, ints)

line_far : (j : ℕ) → Contains [] j ↔ ((j < length points) × (entry (ray points j) 0 ≡ pos 0))
line_far j = (λ c. elim (among_Contains [] c) [ ], back j)
  where
    back : (j : ℕ) → (j < length points) × (entry (ray points j) 0 ≡ pos 0) → Contains [] j
    back zero h = absurd (let e : pos 1 ≡ pos 0 = h.1 in omega (arith, ints))
    back (suc j) h = absurd (let l = h.0 in omega arith)

only : (P : Row → Type 0) {x y : Row} → Among x (y ∷ []) → P y → P x
only P here h = h
only P (there i) h = elim i [ ]

line_centered : IsCentered line_thing
line_centered = record { inside = λ e l one none. in_same (unit_is e one none) (in_generator here); positive = λ a v. by_three (λ y. IsValid 3 points lines y → ¬ (Vanishes 3 points lines y) → pos 0 <ℤ entry y 0) positive a v.cols v }
  where
    unit_is : (e : Row) → entry e 0 ≡ pos 1 → ((i : ℕ) → entry e (suc i) ≡ pos 0) → Same (triple 1 0 0) e
    unit_is e one none = record { at = at }
      where
        at : (i : ℕ) → entry (triple 1 0 0) i ≡ entry e i
        at zero = sym one
        at (suc zero) = sym (none 0)
        at (suc (suc zero)) = sym (none 1)
        at (suc (suc (suc i))) = sym (none (suc (suc i)))

    vanishes : (a b c : ℤ) → a ≡ pos 0 → b ≡ pos 0 → Vanishes 3 points lines (a ∷ b ∷ c ∷ [])
    vanishes a b c ea eb = record {
      cols = refl;
      holds = λ x l h. null_in (a ∷ b ∷ c ∷ []) points lines
          (λ g i. only (λ y. dot (a ∷ b ∷ c ∷ []) y ≡ pos 0) i (simp ring (omega (arith, ints))))
          (λ k i. only (λ y. dot (a ∷ b ∷ c ∷ []) y ≡ pos 0) i (simp ring (omega (arith, ints))))
          h;
    }

    positive : (a b c : ℤ) → IsValid 3 points lines (a ∷ b ∷ c ∷ []) → ¬ (Vanishes 3 points lines (a ∷ b ∷ c ∷ [])) → pos 0 <ℤ entry (a ∷ b ∷ c ∷ []) 0
    positive a b c v n =
        let p = simp ring at (v.holds (triple 1 0 0) refl (in_generator here)) in
        let q = simp ring at (v.holds (triple 0 1 0) refl (in_line here)) in
        let r = simp ring at (rw dot-opposite at (v.holds (opposite (triple 0 1 0)) (length-opposite (triple 0 1 0)) (in_line_opposite here))) in
        by_lt_z (pos 0) a (λ h. h) (λ h. absurd (n (vanishes a b c (omega (arith, ints)) (omega (arith, ints)))))

pub line_is_unbounded : LineIsUnbounded
line_is_unbounded = record {
  unbounded = is_false has_a_direction;
  not_bounded = not_true has_a_direction;
  far_face = record { js = []; places = refl; ascending = λ i j d l m. absurd (omega arith); far = line_far };
  not_the_vertex = λ h. let e : pos 1 ≡ pos 0 = ((far_at (0 ∷ []) points h 0).0 (first_of 0 [])).1 in omega (arith, ints);
  centered = is_true line_centered;
  not_off = not_false line_centered;
}

-- ---- segments
first_only : (e : Row) → entry e 0 ≡ pos 1 → ((i : ℕ) → entry e (suc i) ≡ pos 0) → Same (pair 1 0) e
first_only e one none = record { at = at }
  where
    at : (i : ℕ) → entry (pair 1 0) i ≡ entry e i
    at zero = sym one
    at (suc zero) = sym (none 0)
    at (suc (suc i)) = sym (none (suc i))

null_vanishes : (G : List Row) (a b : ℤ) → a ≡ pos 0 → b ≡ pos 0 → Vanishes 2 G [] (a ∷ b ∷ [])
null_vanishes G a b ea eb = record { cols = refl; holds = λ x l h. dot_comm (a ∷ b ∷ []) x ∙ dot-same x (a ∷ b ∷ []) [] (zero_two a b ea eb) ∙ dot-nil x }

around_centered : IsCentered (segment_of around)
around_centered = record { inside = λ e l one none. in_same (first_only e one none) middle; positive = λ a v. by_two (λ y. IsValid 2 around [] y → ¬ (Vanishes 2 around [] y) → pos 0 <ℤ entry y 0) positive a v.cols v }
  where
    middle : InCone around [] (pair 1 0)
    middle = record { m = pos 2; c = pos 1 ∷ pos 1 ∷ []; d = []; positive = lt_z_yes tt; not_negative = (le_z_yes tt, (le_z_yes tt, tt)); same = at_two _ _ _ _ refl refl }

    positive : (a b : ℤ) → IsValid 2 around [] (a ∷ b ∷ []) → ¬ (Vanishes 2 around [] (a ∷ b ∷ [])) → pos 0 <ℤ entry (a ∷ b ∷ []) 0
    positive a b v n =
        let p = simp ring at (v.holds (pos 1 ∷ negsuc 0 ∷ []) refl (in_generator here)) in
        let q = simp ring at (v.holds (pair 1 1) refl (in_generator (there here))) in
        by_lt_z (pos 0) a (λ h. h) (λ h. absurd (n (null_vanishes around a b (omega (arith, ints)) (omega (arith, ints)))))

end_not_centered : ¬ (IsCentered (segment_of from_zero))
end_not_centered c =
    let up : pos 0 <ℤ pos 0 = c.positive (pair 0 1)
    (record { cols = refl; holds = λ x l h. dot_in (pair 0 1) from_zero [] (λ g i. not_below_at (pair 0 1) i tt) (λ k i. elim i [ ]) h })
    (λ v. let e : pos 1 ≡ pos 0 = v.holds (pair 1 1) refl (in_generator (there here)) in omega (arith, ints)) in
    omega (arith, ints)

beyond_not_centered : ¬ (IsCentered (segment_of beyond))
beyond_not_centered c = apart beyond [] (negsuc 0 ∷ pos 1 ∷ []) (pair 1 0) tt tt tt (c.inside (pair 1 0) refl refl after_first)

pub segments_are_read : SegmentsAreRead
segments_are_read = record {
  around_zero = is_true around_centered;
  around_refused = not_false around_centered;
  end = is_false end_not_centered;
  end_refused = not_true end_not_centered;
  outside = is_false beyond_not_centered;
  outside_refused = not_true beyond_not_centered;
}
