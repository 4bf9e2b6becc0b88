-- The examples of lineages.
use Rattle.pm_command.specs.Commands.{cross_shape, cube_shape}
use Rattle.pm_command.specs.declared.building.Builder.TheVariants.{One}
use Rattle.pm_command.specs.declared.building.Unary.TheVariants.{Polar}
use Rattle.pm_laws_things.proofs.BuildingExamples.{shapes}
use Rattle.pm_laws_things.proofs.ExistingShapes.{shapes_exist}
use Rattle.pm_laws_things.proofs.OrdersExist.{orders_exist}
use Rattle.pm_laws_things.specs.BuildingExamples.{unit_segment}
use Rattle.pm_laws_lineage.proofs.Cubes.{cube_is_bounded, polar_points}
use Rattle.pm_laws_lineage.proofs.Reading.{shown_is_right, shown_of_program_is_right}
use Rattle.pm_laws_lineage.proofs.Counts.{savable_one}
use Rattle.pm_props.specs.declared.property.PropId.TheVariants.{Bounded, Facets, LinealitySpace, MaximalValue, Points, Vertices}
use Rattle.std.proofs.lemmas.List.Elements.{All-cons, All-head, All-nil}
use Rattle.pm_laws_lineage.specs.Examples.{FilesAreRead, GivenValuesAreRead, ProgramOfPolarIsShown, ProvenancesAreRead, PolarOfCubeIsShown, PolarsOfCubesAreCrosses, held_objective, polar_of_cube}
use Rattle.pm_laws_lineage.specs.Provenances.{Provenance, Provenances, after_taking, keeps_lineage, lineage_of, made, made_with, of_its_values, provenance_given, provenance_of}
use Rattle.pm_laws_lineage.specs.Lineages.{Denotes, IsObjectiveOf, Lineage, one, shape, with_objectives, with_value}
use Rattle.pm_limits.specs.Limits.{most_dimensions}
use Rattle.pm_object.specs.Known.{cols_at, rows_at}
use Rattle.pm_object.specs.State.{State, read_at, value_of}
use Rattle.pm_object_type.specs.declared.object_type.ObjectType.{ObjectType}
use Rattle.pm_object_type.specs.declared.object_type.ObjectType.TheVariants.{Cone, Fan, Polytope}
use Rattle.pm_props.specs.Names.{property_named_in}
use Rattle.pm_props.specs.declared.property.PropId.{PropId}
use Rattle.pm_props.specs.Sets.{has, only, union}
use Rattle.pm_types.specs.Forms.{agrees_with}
use Rattle.pm_types.specs.Things.{Thing}
use Rattle.pm_types.specs.Values.{extended, matrix, truth}
use Rattle.pm_vector.specs.Numbers.{Ratio}
use Rattle.std.proofs.Common.{ap, ap₂, arith, false, refl, subst, suc, sym, true, true≢false, ◌∙◌, ◌≢◌}
use Rattle.std.specs.Option.{option_map, unwrap_or}
use Rattle.std.specs.Prelude.{Bool, IsTrue, List, None, Option, Some, [], codes, if◌then◌else◌, ℕ, ◌∷◌, ◌≡◌, ◌≤◌, ◌↔◌}
use lib.IntN.{pos}

-- ---- polars of cubes
pub polars_are_crosses : PolarsOfCubesAreCrosses
polars_are_crosses = record { same = λ d some few u. (to d some u, from d some few u); other = λ h. shapes.no_cross (to 1 (omega arith) unit_segment h).1 }
  where
    to : (d : ℕ) → 1 ≤ d → (u : Thing) → Denotes (one Polar (shape (cube_shape d))) u → Denotes (shape (cross_shape d)) u
    to d some u (thing, t, (t_thing, cube), polar) = (
      thing,
      record {
        of = polar.of;
        cols = polar.cols ∙ cube.cols;
        points = λ y ly up.
            let ly' = ly ∙ sym cube.cols in
            let a = polar.points y ly' up in
            let b = polar_points d some t cube y ly in
            (λ h. b.0 (a.0 h), λ h. a.1 (b.1 h));
      },
    )

    from : (d : ℕ) → 1 ≤ d → d ≤ most_dimensions → (u : Thing) → Denotes (shape (cross_shape d)) u → Denotes (one Polar (shape (cube_shape d))) u
    from d some few u (thing, cross) =
        let c = shapes_exist.cube d few in (
          thing,
          c.thing,
          (c.is_thing, c.holds),
          record {
            of = cross.of;
            cols = cross.cols ∙ sym c.holds.cols;
            points = λ y ly up.
                let ly' = ly ∙ c.holds.cols in
                let a = cross.points y ly' up in
                let b = polar_points d some c.thing c.holds y ly' in
                (λ h. b.1 (a.0 h), λ h. a.1 (b.0 h));
          },
        )

pub polar_of_cube_is_shown : PolarOfCubeIsShown
polar_of_cube_is_shown n some few o v stands e u thing cross =
    let (is, t, cube, polar) = (polars_are_crosses.same n some few u).1 (thing, cross) in
    shown_is_right (polar_of_cube n) o Vertices v stands e u ((thing, t, (cube, All-nil (IsObjectiveOf t)), polar), All-nil (IsObjectiveOf u))

-- ---- a program of the polar
pub program_of_polar_is_shown : ProgramOfPolarIsShown
program_of_polar_is_shown = record {
  greatest = λ n s some few o c x stands e objective u thing cross same.
      let of_polar = (polars_are_crosses.same n some few u).1 (thing, cross) in
      let columns : suc n ≡ u.cols = sym cross.cols in
      let objective_is : IsObjectiveOf u (held_objective s (suc n) c) = record { program = s; place = refl; property = refl; value = ap₂ (λ k d. matrix k (d ∷ [])) columns (sym same) } in
      (shown_of_program_is_right (with_objectives (one Polar (shape (cube_shape n))) (held_objective s (suc n) c ∷ [])) o s MaximalValue (extended x) (suc n) c stands refl e objective u (of_polar, All-cons (IsObjectiveOf u) (held_objective s (suc n) c) [] objective_is (All-nil (IsObjectiveOf u)))).2;
  other = λ n s c u differs h. differs (objective_of_held n s c u (All-head (IsObjectiveOf u) (held_objective s (suc n) c) [] h.1));
}
  where
    objective_of_held : (n s : ℕ) (c : List Ratio) (u : Thing) → IsObjectiveOf u (held_objective s (suc n) c) → u.objective s ≡ c
    objective_of_held n s c u is = at is.program (same_number s is.program is.place) is.value
      where
        same_number : (a b : ℕ) → ◌≡◌ {A = Option ℕ} (Some a) (Some b) → a ≡ b
        same_number a b e = cc

        at : (r : ℕ) → s ≡ r → matrix (suc n) (c ∷ []) ≡ matrix u.cols (u.objective r ∷ []) → u.objective s ≡ c
        at r e v = ap (λ k. u.objective k) e ∙ sym (first_row c (u.objective r) v)
          where
            first_row : (a b : List Ratio) → matrix (suc n) (a ∷ []) ≡ matrix u.cols (b ∷ []) → a ≡ b
            first_row a b e = cc

-- ---- given values
no_truth : (P : Type 0) → P → IsTrue false ↔ P → ⊥
no_truth P p h = true≢false (sym (h.1 p))

same_pos : (n m : ℕ) → pos n ≡ pos m → n ≡ m
same_pos n m e = cc

pub given_values_are_read : GivenValuesAreRead
given_values_are_read = record {
  bounded = λ d some u. (
    λ h. h.0,
    λ h. let (o, are) = orders_exist u h.0 in (h, record { orders = o; are_orders = are; right = (λ e. cube_is_bounded d u some h.1, λ b. refl); columns = refl }),
  );
  unbounded = λ d some u h. no_truth _ (cube_is_bounded d u some h.0.1) h.1.right;
  other_columns = λ d n u other h. other (same_pos n (suc d) (h.1.right ∙ ap pos h.0.1.cols));
  other_matrix = λ u h. true≢false (sym (subst (λ n. agrees_with n LinealitySpace (matrix 3 []) ≡ true) h.0.1.cols h.1.columns));
  numbers = refl;
  sites = refl;
  vertices = refl;
  facets = refl;
  points = refl;
  equations = refl;
}

-- ---- provenances
told_of : (p : Provenance) (l : Lineage) (o : State) → o.of ≡ Polytope → p ≡ made l → value_of Bounded (read_at None o.held) ≡ Some (truth true)
    → provenance_given p (property_named_in o.of (codes "BOUNDED")) o ≡ made (with_value l Bounded (truth true))
told_of p l o of is held =
    ap (λ z. provenance_given z (property_named_in o.of (codes "BOUNDED")) o) is
    ∙ ap (λ z. provenance_given (made l) (property_named_in z (codes "BOUNDED")) o) of
    ∙ ap (made_with l Bounded) held

none_of : (p : Provenance) (q : Option PropId) (o : State) → option_map keeps_lineage q ≢ Some true → provenance_given p q o ≡ of_its_values
none_of of_its_values q o h = refl
none_of (made l) None o h = refl
none_of (made l) (Some p) o h = by (keeps_lineage p) refl
  where
    by : (t : Bool) → keeps_lineage p ≡ t → (if t then made_with l p (value_of p (read_at None o.held)) else of_its_values) ≡ of_its_values
    by true e = absurd (h (ap Some e))
    by false e = refl

-- of no type a lineage knows of a property that the text names
after_none : (text : List ℕ) (o : Option State) (k : Provenances) → ((of : ObjectType) → option_map keeps_lineage (property_named_in of text) ≢ Some true) → after_taking (codes "d") None text o k (codes "d") ≡ of_its_values
after_none text None k h = refl
after_none text (Some o) k h = none_of (k (codes "d")) (property_named_in o.of text) o (h o.of)

some_apart : Some false ≡ Some true → ⊥
some_apart e = true≢false (ap (λ z. unwrap_or z true) (sym e))

none_apart : ◌≡◌ {A = Option Bool} None (Some true) → ⊥
none_apart e = cc

no_vertices : (of : ObjectType) → option_map keeps_lineage (property_named_in of (codes "VERTICES")) ≢ Some true
no_vertices Polytope = some_apart
no_vertices Cone = none_apart
no_vertices Fan = none_apart

no_points : (of : ObjectType) → option_map keeps_lineage (property_named_in of (codes "POINTS")) ≢ Some true
no_points Polytope = some_apart
no_points Cone = none_apart
no_points Fan = none_apart

pub provenances_are_read : ProvenancesAreRead
provenances_are_read = record {
  shape_made = λ m k t. refl;
  others = λ m k t. refl;
  polar = λ m k t o is. ap (λ z. provenance_of (One Polar) (option_map (lineage_of (k (codes "c"))) z ∷ [])) is;
  not_made = λ m k. refl;
  copied = λ m k t. refl;
  told = λ m k t json o l at of is held. ap (λ z. after_taking (codes "d") None (codes "BOUNDED") z k (codes "d")) at ∙ told_of (k (codes "d")) l o of is held;
  ordered = λ m k t json. after_none (codes "VERTICES") (m.object (codes "d")) k no_vertices;
  taken = λ m k t json. after_none (codes "POINTS") (m.object (codes "d")) k no_points;
  objective = λ m k t json. refl;
  dropped = λ m k t. refl;
  anew = λ m k t. refl;
  new_itself = λ m k t. refl;
}

-- ---- files
pub files_are_read : FilesAreRead
unfolding has union only
files_are_read = record {
  known = λ l. refl;
  unknown = λ l. refl;
  latest = λ l k. refl;
  said = λ s. refl;
  unsaid = λ s. refl;
  filled_in = λ book of. refl;
  unasked = λ o. savable_one Points (cols_at o) (rows_at Facets o) refl;
  empty = λ of r. refl;
  asked = λ of r. refl;
  not_asked = λ of. refl;
  two_counts = λ of. refl;
  of_program = λ of. refl;
  objective = λ of. refl;
  known_count = λ of. refl;
  both_halves = refl;
  one_half = refl;
}
