-- The fans of squares, and what the values of small fans describe.
use Rattle.pm_vector.proofs.ConeLaws.{in_line, lines_opposite, none_to_zero}
use Rattle.pm_vector.proofs.Lists.{AllPairs_cons, All_among, Among, Contains_among, among_Contains, here, there}
use Rattle.pm_vector.specs.Cones.{InCone, InSpan}
use Rattle.pm_vector.specs.Rows.{Row, ratio_at}
use Rattle.pm_laws_things.specs.BuildingLaws.{settled_facts}
use Rattle.pm_fan.proofs.Examples.{fans}
use Rattle.pm_fan.specs.Examples.{fitting, point_values, pointed_fan_of, square_values}
use Rattle.pm_fan.specs.Fans.{face_fan_of, normal_fan_of}
use Rattle.pm_geom.specs.Cones.{InLineality, IsExtremeRay, SameModulo}
use Rattle.pm_geom.specs.Examples.{square, triple}
use Rattle.pm_geom.specs.ThingExamples.{right}
use Rattle.pm_geom.specs.Things.{AreFanOrders, IsConeThing, IsFanThing, Orders}
use Rattle.pm_laws_things.proofs.Described.{pointed_described}
use Rattle.pm_laws_things.specs.FanExamples.{FansAreRead, RefinementsOfFansAreRead, fan_thing, polytope, zero_objective}
use Rattle.pm_laws_things.specs.FanLaws.{DescribesFan, IsNormalFanOf}
use Rattle.pm_laws_normal_fans.proofs.ExampleFaceFans.{face_fans_are_read}
use Rattle.pm_laws_normal_fans.proofs.ExampleNormalFans.{normal_fans_are_read}
use Rattle.pm_laws_normal_fans.proofs.ExampleRefinements.{refinements_are_read}
use Rattle.pm_laws_normal_fans.proofs.ExampleVertices.{square_polytope, vertices_are_read}
use Rattle.pm_laws_normal_fans.proofs.Places.{no_pairs}
use Rattle.pm_props.specs.declared.property.PropId.TheVariants.{ConeAmbientDim, LinealitySpace}
use Rattle.pm_relations.proofs.Sites.{no_sites}
use Rattle.pm_types.specs.Right.{AreConeRays, InLines, RowsAreBasis, StandFor}
use Rattle.pm_types.specs.Things.{AreObjectives, IsThing, Thing}
use Rattle.pm_types.specs.Values.{Fact, matrix, whole}
use Rattle.pm_object_type.specs.declared.object_type.ObjectType.TheVariants.{Fan, Polytope}
use Rattle.pm_object_type.specs.declared.object_type.ObjectType.{ObjectType}
use Rattle.std.proofs.Common.{Bool, ap, arith, false, refl, subst, sym, true, true≢false}
use Rattle.std.proofs.lemmas.Int.{ints}
use Rattle.std.specs.List.{Any, Contains}
use Rattle.std.specs.Prelude.{List, None, [], length, suc, zero, ℕ, ◌<◌, ◌∷◌, ◌≡◌}
use lib.IntN.{pos}
use lib.Signed.{lt_z_yes, ◌<ℤ◌}

-- ---- the fan of {0} alone, in one column
abbrev apex : Thing
apex = fan_thing 1 ([] ∷ []) []

abbrev apex_orders : Orders
apex_orders = record { rays = []; facets = []; cones = 0 ∷ [] }

apex_fan : IsFanThing 1 ([] ∷ []) []
apex_fan = record {
  lines = tt;
  cones = All_among (λ G. IsConeThing 1 G []) ([] ∷ []) cone;
  lineality = All_among (λ G. (x : Row) → length x ≡ 1 → InLineality (InCone G []) x → InSpan [] x) ([] ∷ []) spanned;
  apart = λ i j l m ne f. absurd (ne (omega arith));
}
  where
    cone : (G : List Row) → Among G ([] ∷ []) → IsConeThing 1 G []
    cone G here = record { generators = tt; lines = tt }
    cone G (there i) = elim i [ ]

    spanned : (G : List Row) → Among G ([] ∷ []) → (x : Row) → length x ≡ 1 → InLineality (InCone G []) x → InSpan [] x
    spanned G here x l h = h.inside
    spanned G (there i) x l h = elim i [ ]

no_objective : AreObjectives 1 (λ s. zero_objective 1)
no_objective = record { cols = λ s. refl; denominators = λ s i l. positive i }
  where
    positive : (i : ℕ) → pos 0 <ℤ (ratio_at (zero_objective 1) i).den
    positive zero = lt_z_yes tt
    positive (suc i) = lt_z_yes tt

apex_thing : IsThing apex
apex_thing = record { some_cols = omega arith; few_cols = omega arith; kind = (apex_fan, refl); programs = no_objective; sites = no_sites _ }

-- it has no ray
abbrev HasRay : List Row → Type 0
HasRay G = (r : Row) → IsExtremeRay 1 G [] r → Any (λ v. SameModulo 1 (InSpan []) r v) []

are_orders : AreFanOrders 1 ([] ∷ []) [] apex_orders
are_orders = record {
  each = λ k d l. absurd (omega arith);
  all = All_among HasRay ([] ∷ []) none;
  once = no_pairs (λ v w. ¬ (SameModulo 1 (InSpan []) v w));
  facets = refl;
  places = All_among (λ i. i < 1) (0 ∷ []) place;
  every = every;
  places_once = AllPairs_cons (λ i j. ¬ (i ≡ j)) 0 [] (λ j i. elim i [ ]) (no_pairs (λ i j. ¬ (i ≡ j)));
}
  where
    none : (G : List Row) → Among G ([] ∷ []) → HasRay G
    none G here r e = absurd (e.not_line (lines_opposite [] r e.inside))
    none G (there i) r e = elim i [ ]

    place : (i : ℕ) → Among i (0 ∷ []) → i < 1
    place i here = omega arith
    place i (there j) = elim j [ ]

    every : (i : ℕ) → i < 1 → Contains (0 ∷ []) i
    every zero l = Contains_among {xs = 0 ∷ []} here
    every (suc i) l = absurd (omega arith)

no_rays : AreConeRays apex [] (0 ∷ []) ([] ∷ [])
no_rays = (λ j. (λ c. absurd (let i = among_Contains [] c in elim i [ ]), λ p. absurd (let l = p.0 in omega arith)), tt)

no_lines : RowsAreBasis apex (InLines apex) []
no_lines = record { xs = []; stand = tt; basis = record { cols = tt; inside = λ k d l. absurd (omega arith); independent = λ c z i l. absurd (omega arith); spans = λ x lx h. h } }

-- ---- what values describe
apex_described : DescribesFan (face_fan_of (fitting point_values)) apex
apex_described = subst (λ f. DescribesFan f apex) (sym fans.apex) (apex_orders, pointed_described apex apex_orders apex_thing are_orders _ _ _ _ _ refl (record { xs = []; stand = tt; cols = tt; order = tt }) (refl, no_rays) no_lines)

abbrev lines_fact : Fact
lines_fact = record { place = None; property = LinealitySpace; value = matrix 0 [] }

-- no row stands for a row of the line
not_line : ¬ (DescribesFan (face_fan_of (fitting point_values)) (fan_thing 1 ([] ∷ []) (right ∷ [])))
not_line h =
    let (p, r) = subst (λ f. DescribesFan f (fan_thing 1 ([] ∷ []) (right ∷ []))) fans.apex h in
    let i : Among lines_fact (settled_facts (pointed_fan_of 1 [] ([] ∷ []) 0)) = there (there (there here)) in
    none (r.each lines_fact (Contains_among i))
  where
    none : ¬ (RowsAreBasis (fan_thing 1 ([] ∷ []) (right ∷ [])) (InLines (fan_thing 1 ([] ∷ []) (right ∷ []))) [])
    none b = by b.xs b.stand (b.basis.spans right refl (in_line here))
      where
        by : (xs : List Row) → StandFor [] xs → ¬ (InSpan xs right)
        by [] s k = let e : pos 1 ≡ pos 0 = none_to_zero right k 0 in omega (arith, ints)
        by (x ∷ xs) s k = s

abbrev plane_fact : Fact
plane_fact = record { place = None; property = ConeAmbientDim; value = whole (pos 2) }

not_plane : ¬ (DescribesFan (normal_fan_of (fitting square_values)) apex)
not_plane (p, r) =
    let i : Among plane_fact (settled_facts (normal_fan_of (fitting square_values))) = here in
    let e : pos 2 ≡ pos 1 = r.each plane_fact (Contains_among i) in
    omega (arith, ints)

no_cones : ¬ (IsNormalFanOf (polytope 3 square) (fan_thing 2 [] []))
no_cones n = let (k, l, c) = n.cones.all (triple 1 0 0) vertices_are_read.corner in absurd (omega arith)

pub fans_are_read : FansAreRead
fans_are_read = record {
  normal = record { of = refl; cols = refl; cones = normal_fans_are_read.square };
  no_cone = λ n. cc (n.of);
  no_column_less = λ n. let e = n.cols in omega arith;
  no_cones = no_cones;
  face = record { of = refl; cols = refl; cones = face_fans_are_read.square };
  face_cone = λ n. cc (n.of);
  face_columns = λ n. let e = n.cols in omega arith;
  other_fan = λ n. face_fans_are_read.normal n.cones;
  apex = apex_described;
  line = not_line;
  plane = not_plane;
}

-- ---- common refinements
abbrev is_fan : ObjectType → Bool
is_fan Fan = true
is_fan t = false

abbrev is_polytope : ObjectType → Bool
is_polytope Polytope = true
is_polytope t = false

pub refinements_of_fans_are_read : RefinementsOfFansAreRead
refinements_of_fans_are_read = record {
  refined = record { of = refl; cols = refl; second_cols = refl; cones = refinements_are_read.of_itself };
  one_ray = λ h. refinements_are_read.left_out h.cones;
  refined_cone = λ h. let e : false ≡ true = ap is_fan h.of in true≢false (sym e);
  refined_columns = λ h. let e : 2 ≡ 1 = h.cols in omega arith;
  other_columns = λ h. let e : 2 ≡ 1 = h.second_cols in omega arith;
  bounded = record { of = refl; bounded = square_polytope };
  no_polytope = λ h. let e : false ≡ true = ap is_polytope h.of in true≢false (sym e);
}
