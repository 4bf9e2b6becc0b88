-- Two triangulations of one ray.
use Rattle.pm_geom.proofs.Apart.{order_of_apart}
use Rattle.pm_geom.proofs.ShortRows.{first_entry}
use Rattle.pm_geom.proofs.SmallFans.{right_needed}
use Rattle.pm_geom.specs.Things.{Orders}
use Rattle.pm_geom.specs.ThingExamples.{right}
use Rattle.pm_geom.specs.Triangulations.{IsIndependentModulo, IsTriangulation, rows_at, shared}
use Rattle.pm_laws_normal_fans.proofs.Places.{no_pairs}
use Rattle.pm_laws_things.proofs.OrdersExist.{orders_exist}
use Rattle.pm_laws_values.specs.Examples.{HasTwoValues}
use Rattle.pm_laws_values.specs.OneValue.{IsAnswer}
use Rattle.pm_object_type.specs.declared.object_type.ObjectType.TheVariants.{Cone}
use Rattle.pm_props.specs.declared.kind.Kind.{Kind}
use Rattle.pm_props.specs.declared.property.PropId.TheVariants.{PlacingTriangulation}
use Rattle.pm_fraction.specs.Matrices.{IsFraction}
use Rattle.pm_types.specs.Forms.{HasPrimitiveRow, is_sets_form}
use Rattle.pm_types.specs.Right.{InLines, IsBasis}
use Rattle.pm_types.specs.Things.{AreOrders, IsThing, Thing}
use Rattle.pm_types.specs.Values.{sets}
use Rattle.pm_types.specs.Views.{ratios}
use Rattle.pm_vector.proofs.ConeLaws.{combination_none, in_more, in_zero, none_to_zero}
use Rattle.pm_vector.proofs.Lists.{AllPairs_cons, All_among, Among, Any_among, among_Contains, here, there}
use Rattle.pm_vector.proofs.Ring.{ring}
use Rattle.pm_vector.proofs.RowLaws.{entry-opposite, entry-plus, entry-times}
use Rattle.pm_vector.specs.Cones.{InCone, InSpan, combination}
use Rattle.pm_vector.specs.Numbers.{Ratio}
use Rattle.pm_vector.specs.Rows.{Row, entry, opposite, ratio_at, times}
use Rattle.std.proofs.Common.{ap, arith, refl, subst, sym, true, ◌∙◌}
use Rattle.std.proofs.lemmas.Int.{ints}
use Rattle.std.specs.List.{All, AllPairs}
use Rattle.std.specs.Prelude.{List, [], length, suc, zero, ℕ, ◌<◌, ◌∷◌, ◌↔◌, ◌≡◌}
use lib.IntN.{pos}
use lib.Signed.{◌<ℤ◌, ◌≤ℤ◌}

-- the ray (1) as a cone
abbrev ray_thing : Thing
ray_thing = record {
  of = Cone;
  cols = 1;
  generators = right ∷ [];
  lines = [];
  cones = [];
  objective = λ s. ratios right;
  sites = [];
  heights = [];
}

ray_is_thing : IsThing ray_thing
ray_is_thing = record {
  some_cols = omega arith;
  few_cols = omega arith;
  kind = (record { generators = (refl, tt); lines = tt }, refl);
  programs = record { cols = λ s. refl; denominators = λ s i l. first i l };
  sites = record { each = record { cols = λ j l. absurd (omega arith); positive = λ j l. absurd (omega arith); denominators = λ j l. absurd (omega arith) }; as_many = refl };
}
  where
    first : (i : ℕ) → i < 1 → pos 0 <ℤ (ratio_at (ratios right) i).den
    first zero l = omega (arith, ints)
    first (suc i) l = absurd (omega arith)

not_negative : (x : Row) → InCone (right ∷ []) [] x → pos 0 ≤ℤ entry x 0
not_negative x h = first_entry (right ∷ []) [] tt tt x h

no_line : (x : Row) → length x ≡ 1 → InLines ray_thing x → InSpan [] x
no_line (a ∷ []) l s = in_zero (λ i. at i (not_negative (a ∷ []) s.inside) (not_negative (opposite (a ∷ [])) s.opposed))
  where
    at : (i : ℕ) → pos 0 ≤ℤ a → pos 0 ≤ℤ entry (opposite (a ∷ [])) 0 → entry (a ∷ []) i ≡ pos 0
    at zero u v = let e = entry-opposite (a ∷ []) 0 in omega (arith, ints)
    at (suc i) u v = refl
no_line [] l s = absurd (omega arith)
no_line (a ∷ b ∷ x) l s = absurd (omega arith)

-- ---- the ray and its least face
independent_one : IsIndependentModulo [] (right ∷ [])
independent_one [] h i l = refl
independent_one (k ∷ c) h zero l =
    let e = none_to_zero (combination (k ∷ c) (right ∷ [])) h 0 in
    let p = entry-plus (times k right) (combination c []) 0 in
    let q = combination_none c 0 in
    let r : entry (times k right) 0 ≡ k = entry-times k right 0 ∙ (simp ring) in
    omega (arith, ints)
independent_one (k ∷ c) h (suc i) l = absurd (omega arith)

independent_none : IsIndependentModulo [] []
independent_none c h i l = absurd (omega arith)

meets_itself : (A : Type 0) → (A × A) ↔ A
meets_itself A = (λ h. h.0, λ h. (h, h))

one_cell : IsTriangulation 1 (right ∷ []) [] ((0 ∷ []) ∷ [])
one_cell = record {
  independent = All_among (λ s. IsIndependentModulo [] (rows_at (right ∷ []) s)) ((0 ∷ []) ∷ []) (λ s i. only s i);
  covers = λ x l h. Any_among (λ s. InCone (rows_at (right ∷ []) s) [] x) (here {xs = []}) h;
  meets = λ s u i j x l. both s u (among_Contains ((0 ∷ []) ∷ []) i) (among_Contains ((0 ∷ []) ∷ []) j) x;
}
  where
    only : (s : List ℕ) → Among s ((0 ∷ []) ∷ []) → IsIndependentModulo [] (rows_at (right ∷ []) s)
    only s here = independent_one
    only s (there i) = elim i [ ]

    both : (s u : List ℕ) → Among s ((0 ∷ []) ∷ []) → Among u ((0 ∷ []) ∷ []) → (x : Row) → (InCone (rows_at (right ∷ []) s) [] x × InCone (rows_at (right ∷ []) u) [] x) ↔ InCone (rows_at (right ∷ []) (shared s u)) [] x
    both s u here here x = meets_itself (InCone (right ∷ []) [] x)
    both s u here (there j) x = elim j [ ]
    both s u (there i) j x = elim i [ ]

two_cells : IsTriangulation 1 (right ∷ []) [] ((0 ∷ []) ∷ [] ∷ [])
two_cells = record {
  independent = All_among (λ s. IsIndependentModulo [] (rows_at (right ∷ []) s)) ((0 ∷ []) ∷ [] ∷ []) (λ s i. each s i);
  covers = λ x l h. Any_among (λ s. InCone (rows_at (right ∷ []) s) [] x) (here {xs = [] ∷ []}) h;
  meets = λ s u i j x l. both s u (among_Contains ((0 ∷ []) ∷ [] ∷ []) i) (among_Contains ((0 ∷ []) ∷ [] ∷ []) j) x;
}
  where
    each : (s : List ℕ) → Among s ((0 ∷ []) ∷ [] ∷ []) → IsIndependentModulo [] (rows_at (right ∷ []) s)
    each s here = independent_one
    each s (there here) = independent_none
    each s (there (there i)) = elim i [ ]

    more : (x : Row) → InCone [] [] x → InCone (right ∷ []) [] x
    more x h = in_more [] [] right h

    both : (s u : List ℕ) → Among s ((0 ∷ []) ∷ [] ∷ []) → Among u ((0 ∷ []) ∷ [] ∷ []) → (x : Row) → (InCone (rows_at (right ∷ []) s) [] x × InCone (rows_at (right ∷ []) u) [] x) ↔ InCone (rows_at (right ∷ []) (shared s u)) [] x
    both s u here here x = meets_itself (InCone (right ∷ []) [] x)
    both s u here (there here) x = (λ h. h.1, λ h. (more x h, h))
    both s u here (there (there j)) x = elim j [ ]
    both s u (there here) here x = (λ h. h.0, λ h. (h, more x h))
    both s u (there here) (there here) x = meets_itself (InCone [] [] x)
    both s u (there here) (there (there j)) x = elim j [ ]
    both s u (there (there i)) j x = elim i [ ]

basis : IsBasis 1 (InLines ray_thing) []
basis = record { cols = tt; inside = λ i d l. absurd (omega arith); independent = λ c h i l. absurd (omega arith); spans = no_line }

-- ---- orders
are_ray_orders : (o : Orders) × AreOrders ray_thing o × (o.rays ≡ right ∷ [])
are_ray_orders =
    let (o, are) = orders_exist ray_thing ray_is_thing in
    (record { rays = right ∷ []; facets = o.facets; cones = [] }, record { rays = order_of_apart 1 (right ∷ []) [] (refl, tt) tt right tt tt right_needed; facets = are.facets; cones = refl }, refl)

no_fractions : (P : List Ratio → Type 0) → All P []
no_fractions P i d l = absurd (omega arith)

answer : (kind : Kind) (o : Orders) (T : List (List ℕ)) → o.rays ≡ right ∷ [] → AllPairs (λ r s. ¬ (r ≡ s)) T → IsTriangulation 1 (right ∷ []) [] T → is_sets_form T 1 ≡ true → IsAnswer kind PlacingTriangulation (sets T 1) ray_thing o []
answer kind o T e differ cells form = record {
  formed = record { formed = form; columns = refl; rows = refl; entries = no_fractions (All IsFraction); primitive = no_fractions HasPrimitiveRow };
  stated = refl;
  right = (sym (ap length e), record { different = differ; lines = []; basis = basis; triangulation = subst (λ V. IsTriangulation 1 V [] T) (sym e) cells });
  canonical = tt;
}

pub placing_has_two : (kind : Kind) → HasTwoValues kind PlacingTriangulation
placing_has_two kind =
    let (o, are, e) = are_ray_orders in
    record {
      t = ray_thing;
      thing = ray_is_thing;
      asked = refl;
      o = o;
      orders = are;
      c = [];
      v = sets ((0 ∷ []) ∷ []) 1;
      w = sets ((0 ∷ []) ∷ [] ∷ []) 1;
      first = answer kind o ((0 ∷ []) ∷ []) e (AllPairs_cons (λ r s. ¬ (r ≡ s)) (0 ∷ []) [] (λ y i. elim i [ ]) (no_pairs (λ r s. ¬ (r ≡ s)))) one_cell refl;
      second = answer kind o ((0 ∷ []) ∷ [] ∷ []) e (AllPairs_cons (λ r s. ¬ (r ≡ s)) (0 ∷ []) ([] ∷ []) (λ y i. apart_sets y i) (AllPairs_cons (λ r s. ¬ (r ≡ s)) [] [] (λ y i. elim i [ ]) (no_pairs (λ r s. ¬ (r ≡ s))))) two_cells refl;
      differ = λ q. differs q;
    }
  where
    apart_sets : (y : List ℕ) → Among y ([] ∷ []) → ¬ ((0 ∷ []) ≡ y)
    apart_sets y here q = cc
    apart_sets y (there i) q = elim i [ ]

    differs : ¬ (sets ((0 ∷ []) ∷ []) 1 ≡ sets ((0 ∷ []) ∷ [] ∷ []) 1)
    differs q = cc
