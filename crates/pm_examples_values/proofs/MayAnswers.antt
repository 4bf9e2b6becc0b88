-- What the client that counts the rays may answer, and which of its runs are sound.
use Rattle.pm_vector.proofs.Lists.{All_among, Among, among_Contains, here, there}
use Rattle.pm_examples_values.proofs.OneTarget.{first_of, none_of, only_one, second_of}
use Rattle.pm_examples_values.specs.RunExamples.{AnswersAreJudged, MayCount, RunsAreJudged, counting, doubled, from_one, no_lines, own, put_count, ray_count, rays}
use Rattle.pm_examples_values.proofs.CanonicalExamples.{canonical_lines_are_read}
use Rattle.pm_examples_values.proofs.ConeExamples.{cone_rows_are_read}
use Rattle.pm_examples_values.proofs.RayExamples.{half_line_are_orders, line_are_orders}
use Rattle.pm_examples_values.specs.ConeExamples.{line_cone}
use Rattle.pm_examples_values.specs.RayExamples.{half_line_orders, line_orders}
use Rattle.pm_examples_values.specs.RowExamples.{half_cone, whole_matrix}
use Rattle.pm_geom.specs.Examples.{pair, triple}
use Rattle.pm_geom.specs.Things.{Orders}
use Rattle.pm_fraction.specs.Matrices.{IsFraction}
use Rattle.pm_object.specs.Reading.{Put, answer_at}
use Rattle.pm_object_type.specs.declared.object_type.ObjectType.TheVariants.{Cone}
use Rattle.pm_props.proofs.Every.{has-set_of}
use Rattle.pm_props.specs.Places.{place_of}
use Rattle.pm_props.specs.Properties.{every_property, number}
use Rattle.pm_props.specs.Sets.{has, members, set_of}
use Rattle.pm_props.specs.declared.property.PropId.TheVariants.{InputLineality, LinealitySpace, NVertices, Vertices}
use Rattle.pm_props.specs.declared.property.PropId.{PropId}
use Rattle.pm_relations.proofs.Orders.{rows_of_vertices}
use Rattle.pm_relations.proofs.Sites.{no_sites}
use Rattle.pm_relations.proofs.Standing.{whole_objective}
use Rattle.pm_types.specs.Canonical.{IsCanonical}
use Rattle.pm_types.specs.Forms.{FormsIn, HasPrimitiveRow}
use Rattle.pm_types.specs.Right.{InLines, RightAll, RightFact, RightTogether}
use Rattle.pm_types.specs.Runs.{MayAnswer, states_rows}
use Rattle.pm_types.specs.Things.{AreOrders, IsThing, Thing}
use Rattle.pm_types.specs.Values.{Fact, matrix, truth, whole}
use Rattle.pm_types.specs.Views.{ratios}
use Rattle.std.proofs.Common.{ap, arith, eqb, refl, subst, sym, true, true≢false, ◌∙◌}
use Rattle.std.proofs.lemmas.Int.{ints}
use Rattle.std.proofs.lemmas.List.Elements.{All-nil}
use Rattle.std.specs.List.{All, list_any}
use Rattle.std.specs.Prelude.{Bool, IsTrue, List, None, Some, [], filter, if◌then◌else◌, map, ℕ, ◌∷◌, ◌≡◌}
use lib.IntN.{pos}

-- ---- sets of one property, as lists
same_filter : (f g : PropId → Bool) → ((p : PropId) → f p ≡ g p) → (ps : List PropId) → filter f ps ≡ filter g ps
same_filter f g e [] = refl
same_filter f g e (p ∷ ps) = ap (λ b. if b then p ∷ filter f ps else filter f ps) (e p) ∙ ap (λ t. if g p then p ∷ t else t) (same_filter f g e ps)

among_one : (q : PropId) → members (set_of (q ∷ [])) ≡ filter (λ p. list_any (λ r. eqb (number r) (number p)) (q ∷ [])) every_property
unfolding members
among_one q = same_filter (has (set_of (q ∷ []))) (λ p. list_any (λ r. eqb (number r) (number p)) (q ∷ [])) (has-set_of (q ∷ [])) every_property

pub count_alone : members (set_of (NVertices ∷ [])) ≡ NVertices ∷ []
count_alone = among_one NVertices

lines_alone : members (set_of (InputLineality ∷ [])) ≡ InputLineality ∷ []
lines_alone = among_one InputLineality

-- ---- one fact, and two, of which none is half of a pair that is held
all_one : (P : Fact → Type 0) (f : Fact) → P f → All P (f ∷ [])
all_one P f h = All_among P (f ∷ []) (λ g i. subst P (sym (only_one i)) h)

of_one : (P : Fact → Type 0) (f : Fact) → All P (f ∷ []) → P f
of_one P f h = h 0 f (omega arith)

pub right_alone : (f : Fact) (t : Thing) (o : Orders) → IsThing t → AreOrders t o → RightFact f t o → RightTogether t f f → RightAll (f ∷ []) t o
right_alone f t o thing orders right pair = record {
  thing = thing;
  orders = orders;
  each = λ g c. subst (λ z. RightFact z t o) (sym (only_one (among_Contains (f ∷ []) c))) right;
  together = λ x y c d. subst (λ z. RightTogether t z y) (sym (only_one (among_Contains (f ∷ []) c))) (subst (λ z. RightTogether t f z) (sym (only_one (among_Contains (f ∷ []) d))) pair);
}

pub right_both : (f g : Fact) (t : Thing) (o : Orders) → IsThing t → AreOrders t o → RightFact f t o → RightFact g t o → ((x y : Fact) → Among x (f ∷ g ∷ []) → Among y (f ∷ g ∷ []) → RightTogether t x y)
    → RightAll (f ∷ g ∷ []) t o
right_both f g t o thing orders first second pairs = record { thing = thing; orders = orders; each = λ x c. each x (among_Contains (f ∷ g ∷ []) c); together = λ x y c d. pairs x y (among_Contains (f ∷ g ∷ []) c) (among_Contains (f ∷ g ∷ []) d) }
  where
    each : (x : Fact) → Among x (f ∷ g ∷ []) → RightFact x t o
    each x here = first
    each x (there here) = second
    each x (there (there i)) = elim i [ ]

-- ---- the two cones
pub half_cone_is_thing : IsThing half_cone
half_cone_is_thing = record { some_cols = omega arith; few_cols = omega arith; kind = (record { generators = (refl, (refl, tt)); lines = tt }, refl); programs = whole_objective 2 (pair 0 0) refl; sites = no_sites _ }

pub rays_are_right : RightFact rays half_cone half_line_orders
rays_are_right = let r = cone_rows_are_read.rays in record { xs = r.xs; stand = r.stand; cols = r.cols; order = r.order }

rays_alone : RightAll (rays ∷ []) half_cone half_line_orders
rays_alone = right_alone rays half_cone half_line_orders half_cone_is_thing half_line_are_orders rays_are_right tt

line_cone_is_thing : IsThing line_cone
line_cone_is_thing = record { some_cols = omega arith; few_cols = omega arith; kind = (record { generators = (refl, tt); lines = (refl, tt) }, refl); programs = whole_objective 3 (triple 0 0 0) refl; sites = no_sites _ }

doubled_alone : RightAll doubled line_cone line_orders
doubled_alone = right_alone (own LinealitySpace (whole_matrix 3 (triple 0 2 0 ∷ []))) line_cone line_orders line_cone_is_thing line_are_orders
    (let r = cone_rows_are_read.lineality in record { xs = r.xs; stand = r.stand; basis = r.basis }) tt

-- ---- the number of the rays
counted_together : (t : Thing) (k : ℕ) (x y : Fact) → Among x (rays ∷ ray_count k ∷ []) → Among y (rays ∷ ray_count k ∷ []) → RightTogether t x y
counted_together t k x y here here = tt
counted_together t k x y here (there here) = tt
counted_together t k x y (there here) here = tt
counted_together t k x y (there here) (there here) = tt
counted_together t k x y (there (there i)) j = elim i [ ]
counted_together t k x y here (there (there j)) = elim j [ ]
counted_together t k x y (there here) (there (there j)) = elim j [ ]

counted : MayCount (ray_count 2 ∷ [])
counted = record {
  targets = sym count_alone;
  places = all_one (λ f. f.place ≡ place_of None f.property) (ray_count 2) refl;
  formed = all_one (λ f. FormsIn Cone 2 f.property f.value) (ray_count 2)
      (record { formed = refl; columns = refl; rows = refl; entries = All-nil (All IsFraction); primitive = All-nil HasPrimitiveRow });
  stated = all_one (λ f. IsTrue (states_rows f.value)) (ray_count 2) refl;
  sound = λ t o of cols right meets. record {
    orders = o;
    right = right_both rays (ray_count 2) t o right.thing right.orders (right.each rays (first_of rays []))
        (rows_of_vertices t o right.orders 2 (map ratios (pair 0 1 ∷ pair 1 0 ∷ [])) [] (right.each rays (first_of rays [])) []) (counted_together t 2);
    keeps = record { rays = λ n. refl; facets = λ n. refl; cones = λ n. refl };
  };
  canonical = λ t o of cols right meets. all_one (λ f. IsCanonical counting f.property f.value t) (ray_count 2) tt;
}

-- the half cone has no three rays
pub no_third : ¬ (RightFact (ray_count 3) half_cone half_line_orders)
no_third right = let e : pos 3 ≡ pos 2 = right half_line_orders half_line_are_orders in omega (arith, ints)

miscounted : ¬ (MayCount (ray_count 3 ∷ []))
miscounted m =
    let w = m.sound half_cone half_line_orders refl refl rays_alone (record { must = λ p h. absurd (none_of p h); must_not = λ p h. absurd (none_of p h) }) in
    no_third_in w.orders w.right.orders (w.right.each (ray_count 3) (second_of rays (ray_count 3) []))
  where
    no_third_in : (o : Orders) → AreOrders half_cone o → RightFact (ray_count 3) half_cone o → ⊥
    no_third_in o orders right = no_third right

nothing : ¬ (MayCount [])
nothing m = let e : NVertices ∷ [] ≡ [] = sym (m.targets ∙ count_alone) in cc

-- ---- lines
lines_together : (t : Thing) (x y : Fact) → Among x (rays ∷ no_lines 0) → Among y (rays ∷ no_lines 0) → RightTogether t x y
lines_together t x y here here = tt
lines_together t x y here (there here) = tt
lines_together t x y (there here) here = tt
lines_together t x y (there here) (there here) = tt
lines_together t x y (there (there i)) j = elim i [ ]
lines_together t x y here (there (there j)) = elim j [ ]
lines_together t x y (there here) (there (there j)) = elim j [ ]

no_rows : MayAnswer Cone 2 (from_one InputLineality Vertices) None (rays ∷ []) (no_lines 0)
no_rows = record {
  targets = sym lines_alone;
  places = all_one (λ f. f.place ≡ place_of None f.property) (own InputLineality (matrix 0 [])) refl;
  formed = all_one (λ f. FormsIn Cone 2 f.property f.value) (own InputLineality (matrix 0 []))
      (record { formed = refl; columns = refl; rows = refl; entries = All-nil (All IsFraction); primitive = All-nil HasPrimitiveRow });
  stated = all_one (λ f. IsTrue (states_rows f.value)) (own InputLineality (matrix 0 [])) refl;
  sound = λ t o of cols right meets. record {
    orders = o;
    right = right_both rays (own InputLineality (matrix 0 [])) t o right.thing right.orders (right.each rays (first_of rays [])) (record { xs = []; stand = tt; cols = tt; each = All-nil (InLines t) }) (lines_together t);
    keeps = record { rays = λ n. refl; facets = λ n. refl; cones = λ n. refl };
  };
  canonical = λ t o of cols right meets. all_one (λ f. IsCanonical (from_one InputLineality Vertices) f.property f.value t) (own InputLineality (matrix 0 [])) tt;
}

pub answers_are_judged : AnswersAreJudged
answers_are_judged = record {
  counted = counted;
  miscounted = miscounted;
  nothing = nothing;
  twice = λ m. let e : NVertices ∷ NVertices ∷ [] ≡ NVertices ∷ [] = m.targets ∙ count_alone in cc;
  another = λ m. let e : Vertices ∷ [] ≡ NVertices ∷ [] = m.targets ∙ count_alone in cc;
  misplaced = λ m. let e : Some 0 ≡ None = of_one (λ f. f.place ≡ place_of None f.property) (record { place = Some 0; property = NVertices; value = whole (pos 2) }) m.places in cc;
  no_number = λ m. true≢false (sym (of_one (λ f. FormsIn Cone 2 f.property f.value) (own NVertices (truth true)) m.formed).formed);
  no_rows = no_rows;
  states_columns = λ m. true≢false (sym (of_one (λ f. IsTrue (states_rows f.value)) (own InputLineality (matrix 2 [])) m.stated));
  not_canonical = λ m.
      let c = of_one (λ f. IsCanonical (from_one LinealitySpace LinealitySpace) f.property f.value line_cone) (own LinealitySpace (whole_matrix 3 (triple 0 2 0 ∷ []))) (m.canonical line_cone line_orders refl refl doubled_alone (record { must = λ p h. absurd (none_of p h); must_not = λ p h. absurd (none_of p h) })) in
      canonical_lines_are_read.doubled (record { lines = c.lines; pivots = c.pivots; echelon = c.echelon; these = c.these });
}

-- ---- runs
answer_is : (values : List Put) → answer_at None (members (set_of (NVertices ∷ []))) values ≡ answer_at None (NVertices ∷ []) values
answer_is values = ap (λ ps. answer_at None ps values) count_alone

pub runs_are_judged : RunsAreJudged
runs_are_judged = record {
  counted = subst MayCount (sym (answer_is (put_count 2 ∷ []))) counted;
  miscounted = λ s. miscounted (subst MayCount (answer_is (put_count 3 ∷ [])) s);
  nothing = λ s. nothing (subst MayCount (answer_is []) s);
}
