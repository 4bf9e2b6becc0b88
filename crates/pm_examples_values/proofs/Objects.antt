-- Which objects are honest, and which are kept so.
use Rattle.pm_vector.proofs.Lists.{Among, among_Contains, here, there}
use Rattle.pm_examples_values.proofs.MayAnswers.{answers_are_judged, half_cone_is_thing, no_third, rays_are_right, right_alone, right_both}
use Rattle.pm_examples_values.proofs.OneTarget.{second_of, third_of}
use Rattle.pm_examples_values.proofs.SoundRuns.{runs_may_begin}
use Rattle.pm_examples_values.specs.ObjectExamples.{ObjectsAreJudged, based_fact, rays_alone, round, with_count, with_rays}
use Rattle.pm_examples_values.specs.RunExamples.{columns, counting, ray_count, rays}
use Rattle.pm_examples_values.proofs.RayExamples.{half_line_are_orders}
use Rattle.pm_examples_values.proofs.Segment.{empty_are_orders}
use Rattle.pm_examples_values.specs.Examples.{no_orders}
use Rattle.pm_examples_values.specs.RayExamples.{half_line_orders, thing_of}
use Rattle.pm_examples_values.specs.RowExamples.{half_cone}
use Rattle.pm_geom.specs.Examples.{pair}
use Rattle.pm_object.proofs.Honesty.{based_is_kept, commit_is_honest, empty_is_kept, honesty_is_of_values}
use Rattle.pm_object.specs.Honest.{IsHonest, IsKept, is_based}
use Rattle.pm_object.specs.State.{HeldValue, RoundSeen, empty_object, with_round}
use Rattle.pm_object.specs.declared.held.Origin.TheVariants.{Computed, Given, Stored}
use Rattle.pm_object_type.specs.declared.object_type.ObjectType.TheVariants.{Cone}
use Rattle.pm_props.proofs.Every.{has-set_of}
use Rattle.pm_props.specs.Places.{place_of, same_place}
use Rattle.pm_props.specs.Properties.{number}
use Rattle.pm_props.specs.Sets.{has, set_of}
use Rattle.pm_props.specs.declared.property.PropId.TheVariants.{NVertices, Vertices}
use Rattle.pm_relations.proofs.Orders.{as_many_rays}
use Rattle.pm_relations.proofs.Sites.{no_sites}
use Rattle.pm_relations.proofs.Standing.{in_order_length, stand_length, whole_objective}
use Rattle.pm_types.specs.Right.{RightAll, RightTogether, SameRay}
use Rattle.pm_types.specs.Runs.{MayAnswer, shown}
use Rattle.pm_types.specs.Things.{IsThing, Thing}
use Rattle.pm_types.specs.Values.{Fact}
use Rattle.pm_types.specs.Views.{ratios}
use Rattle.std.proofs.Common.{ap, arith, eqb, refl, subst, sym, true, true≢false, ◌∙◌}
use Rattle.std.specs.List.{Contains, list_any}
use Rattle.std.specs.Prelude.{Bool, List, None, [], filter, if◌then◌else◌, length, map, ◌&&◌, ◌∷◌, ◌≡◌}

-- ---- what the client reads of the cone
same_filter : (f g : Fact → Bool) → ((x : Fact) → f x ≡ g x) → (xs : List Fact) → filter f xs ≡ filter g xs
same_filter f g e [] = refl
same_filter f g e (x ∷ xs) = ap (λ b. if b then x ∷ filter f xs else filter f xs) (e x) ∙ ap (λ t. if g x then x ∷ t else t) (same_filter f g e xs)

rays_shown : shown counting None (columns ∷ rays ∷ []) ≡ rays ∷ []
rays_shown = same_filter (λ f. has (set_of (Vertices ∷ [])) f.property && same_place f.place (place_of None f.property))
    (λ f. list_any (λ q. eqb (number q) (number f.property)) (Vertices ∷ []) && same_place f.place (place_of None f.property))
    (λ x. ap (λ b. b && same_place x.place (place_of None x.property)) (has-set_of (Vertices ∷ []) x.property)) (columns ∷ rays ∷ [])

-- ---- given and stored values
both_given : (h : HeldValue) → Among h (based_fact Given columns ∷ based_fact Given rays ∷ []) → is_based h.origin ≡ true
both_given h here = refl
both_given h (there here) = refl
both_given h (there (there i)) = elim i [ ]

with_rays_kept : IsKept with_rays
with_rays_kept = based_is_kept (empty_object Cone) (based_fact Given columns ∷ based_fact Given rays ∷ []) refl (λ h c. both_given h (among_Contains (based_fact Given columns ∷ based_fact Given rays ∷ []) c)) (empty_is_kept Cone)

one_stored : (h : HeldValue) → Among h (based_fact Stored (ray_count 3) ∷ []) → is_based h.origin ≡ true
one_stored h here = refl
one_stored h (there i) = elim i [ ]

-- ---- the number of rays, computed
counted : IsHonest (with_count 2)
counted = commit_is_honest with_rays None counting 2 (ray_count 2 ∷ []) runs_may_begin.may_run (subst (λ read. MayAnswer Cone 2 counting None read (ray_count 2 ∷ [])) (sym rays_shown) answers_are_judged.counted) with_rays_kept.honest

together : (t : Thing) (x y : Fact) → Among x (columns ∷ rays ∷ []) → Among y (columns ∷ rays ∷ []) → RightTogether t x y
together t x y here here = tt
together t x y here (there here) = tt
together t x y (there here) here = tt
together t x y (there here) (there here) = tt
together t x y (there (there i)) j = elim i [ ]
together t x y here (there (there j)) = elim j [ ]
together t x y (there here) (there (there j)) = elim j [ ]

given_right : RightAll (columns ∷ rays ∷ []) half_cone half_line_orders
given_right = right_both columns rays half_cone half_line_orders half_cone_is_thing half_line_are_orders refl rays_are_right (together half_cone)

miscounted : ¬ (IsHonest (with_count 3))
miscounted h =
    let w = h.answer half_cone half_line_orders refl given_right in
    no_third (w.right.each (ray_count 3) (third_of columns rays (ray_count 3) []))

-- ---- rays that no generator gives
from_nothing : ¬ (IsHonest rays_alone)
from_nothing h =
    let t = thing_of Cone 2 [] [] (pair 0 0) in
    let thing : IsThing (thing_of Cone 2 [] [] (pair 0 0)) = record { some_cols = omega arith; few_cols = omega arith; kind = (record { generators = tt; lines = tt }, refl); programs = whole_objective 2 (pair 0 0) refl; sites = no_sites _ } in
    let w = h.answer t no_orders refl (right_alone columns t no_orders thing empty_are_orders refl tt) in
    let r = w.right.each rays (second_of columns rays []) in
    let stand = stand_length (map ratios (pair 0 1 ∷ pair 1 0 ∷ [])) r.xs r.stand in
    let rows = in_order_length (SameRay t) w.orders.rays r.xs r.order in
    let none : 0 ≡ length w.orders.rays = as_many_rays t no_orders w.orders empty_are_orders w.right.orders in
    omega arith

abbrev counted_value : HeldValue
counted_value = record { place = None; property = NVertices; value = (ray_count 2).value; origin = Computed }

counted_is_held : Contains (with_count 2).held counted_value
counted_is_held = third_of (based_fact Given columns) (based_fact Given rays) counted_value []

pub objects_are_judged : ObjectsAreJudged
objects_are_judged = record {
  given = with_rays_kept.honest;
  stored = (based_is_kept with_rays (based_fact Stored (ray_count 3) ∷ []) refl (λ h c. one_stored h (among_Contains (based_fact Stored (ray_count 3) ∷ []) c)) with_rays_kept).honest;
  counted = counted;
  miscounted = miscounted;
  from_nothing = from_nothing;
  kept = with_rays_kept;
  kept_by_round = record {
    honest = honesty_is_of_values (with_count 2) (with_round (with_count 2) round) refl refl counted;
    based = λ e. let none : 1 ≡ 0 = ap (λ (rs : List RoundSeen). length rs) e in absurd (omega arith);
  };
  no_round = λ k. true≢false (sym (k.based refl counted_value counted_is_held));
  not_honest = λ k. miscounted (honesty_is_of_values (with_round (with_count 3) round) (with_count 3) refl refl k.honest);
}
