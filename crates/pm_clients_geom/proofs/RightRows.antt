-- What the clients put that ask linear programs is sound.
use Rattle.pm_vector.specs.Cones.{InCone}
use Rattle.pm_vector.specs.Rows.{HasCols, IsZero, Row}
use Rattle.pm_client.proofs.PlainValues.{sound_truth}
use Rattle.pm_client.proofs.Puts.{IsPut}
use Rattle.pm_client.proofs.Failing.{wide_feasibility}
use Rattle.pm_client.specs.Sound.{AreRowsOf, IsSound, fail_of_program, feasibility, has_way}
use Rattle.pm_clients_geom.proofs.FoundHulls.{AreFacetsOf, rows_pair}
use Rattle.pm_clients_geom.specs.Lists.{ReadsParts}
use Rattle.pm_clients_geom.specs.Redundancy.{FailsForProgram}
use Rattle.pm_clients_geom.specs.Laws.{FacetsAreThinned, FeasibleHasPoint, VerticesAreThinned, with_facets, with_rays}
use Rattle.pm_clients_geom.specs.Points.{HasSolution}
use Rattle.pm_geom.specs.Cones.{IsValid}
use Rattle.pm_geom.specs.Generators.{AreGenerators}
use Rattle.pm_geom.specs.Things.{Orders}
use Rattle.pm_incidence.specs.Thinning.{half_spaces}
use Rattle.pm_object.specs.Reading.{DraftSeen, ViewSeen}
use Rattle.pm_standard.specs.Table.{standard_kind}
use Rattle.pm_object_type.specs.declared.object_type.ObjectType.TheVariants.{Fan, Polytope}
use Rattle.pm_props.specs.declared.property.PropId.TheVariants.{Equations, Feasible, Inequalities}
use Rattle.pm_standard.specs.declared.standard.StandardClient.TheVariants as client
use Rattle.pm_simplex.specs.Generated.{no_objective}
use Rattle.pm_relations.proofs.Hulls.{facet_orders, facets_right, hull_right, lines_right, points_generate, ray_orders, rays_right}
use Rattle.pm_relations.proofs.PrimitiveStanding.{primitive_stand}
use Rattle.pm_relations.proofs.Spans.{thing_cols}
use Rattle.pm_relations.proofs.Thinning.{rows_cut}
use Rattle.pm_simplex.specs.Answers.{ShowsProgram}
use Rattle.pm_simplex.specs.Fails.{IfWide}
use Rattle.pm_simplex.specs.declared.fails.LpFail.{LpFail}
use Rattle.pm_simplex.specs.declared.fails.LpFail.TheVariants.{Memory, Wide}
use Rattle.pm_types.specs.Right.{CutsOutOf, CutsOutPolytope, RightAll, empty, proper}
use Rattle.pm_types.specs.Things.{Thing}
use Rattle.pm_types.specs.Values.{truth}
use Rattle.std.proofs.Common.{arith, refl, subst, sym, ◌∙◌}
use Rattle.std.proofs.lemmas.Int.{ints}
use Rattle.std.specs.Prelude.{Bool, IsTrue, List, length, ℕ, ◌≡◌, ◌↔◌}

-- ---- laws
pub vertices_are_thinned : VerticesAreThinned
vertices_are_thinned t o thing orders no_fan points lines pair G L sg sl V K g =
    let same = points_generate t o thing points lines pair G L sg sl in
    let kind = standard_kind client.ThinPointsLp in
    record {
      orders = ray_orders t o thing orders no_fan (InCone G L) V K same g;
      rays = λ n rows c each. (rays_right t o thing orders no_fan (InCone G L) V K same g kind n rows c each).0;
      lines = λ n c. (lines_right t o thing orders no_fan (InCone G L) V K same g kind n (with_rays o V) c).0;
    }

pub facets_are_thinned : FacetsAreThinned
facets_are_thinned t o thing orders no_fan inequalities equations pair A E sa se F H found =
    let (hg, hl) = thing_cols t thing in
    let g = found t.generators t.lines hg hl (rows_cut t inequalities equations pair A E sa se t.generators t.lines (λ x lx. (λ h. h, λ h. h))) in
    let kind = standard_kind client.ThinInequalitiesLp in
    record {
      orders = facet_orders t o thing orders no_fan t.generators t.lines F H (λ x lx. (λ h. h, λ h. h)) g;
      facets = λ n c. (facets_right t o thing orders no_fan t.generators t.lines F H (λ x lx. (λ h. h, λ h. h)) g kind n c).0;
      hull = λ n c. (hull_right t o thing orders no_fan t.generators t.lines F H (λ x lx. (λ h. h, λ h. h)) g kind n (with_facets o F) c).0;
    }

-- a set that they cut out as a polytope has a row that is not zero exactly where they have a point
some_row : (n : ℕ) (S : Row → Type 0) (A E : List Row) → CutsOutPolytope n S A E → HasSolution n A E ↔ ((x : Row) × (length x ≡ n) × S x × ¬ (IsZero x))
some_row n S A E (proper x lx sx up same) = (
  λ w. (x, lx, (same x lx).1 (sx, omega (arith, ints)), λ z. let e = z 0 in omega (arith, ints)),
  λ w. record { row = x; cols = lx; solves = sx; first = up },
)
some_row n S A E (empty never same) = (λ w. absurd (never w.row w.cols w.solves w.first), λ w. absurd (w.3 ((same w.0 w.1).0 w.2)))

pub feasible_has_point : FeasibleHasPoint
feasible_has_point t o polytope inequalities equations pair A E sa se b c says =
    let cut : CutsOutPolytope t.cols (InCone t.generators t.lines) A E = subst (λ k. CutsOutOf k t.cols (InCone t.generators t.lines) A E) polytope (rows_cut t inequalities equations pair A E sa se t.generators t.lines (λ x lx. (λ h. h, λ h. h))) in
    let some = some_row t.cols (InCone t.generators t.lines) A E cut in
    (λ y. some.0 (says.0 y), λ w. says.1 (some.1 w))

-- ---- what was read
-- the facet rows among INEQUALITIES
pub rows_thinned : (v : ViewSeen) → ¬ (v.of ≡ Fan) → (E A F H : List Row) → ReadsParts v Equations Inequalities E A
    → ((G L : List Row) → HasCols v.cols G → HasCols v.cols L → CutsOutOf v.of v.cols (InCone G L) A E → AreGenerators v.cols (IsValid v.cols G L) F H)
    → (t : Thing) (o : Orders) → t.of ≡ v.of → t.cols ≡ v.cols → RightAll v.facts t o → AreFacetsOf t v.cols F H
rows_thinned v no_fan E A F H halves thinned t o of cols right =
    let (hg, hl) = thing_cols t right.thing in
    let cut = rows_cut t halves.second_rows halves.first_rows (rows_pair v E A t o of cols right no_fan halves) A E (primitive_stand halves.second_rows A halves.second_primitive) (primitive_stand halves.first_rows E halves.first_primitive)
    t.generators t.lines (λ x lx. (λ h. h, λ h. h)) in
    record {
      rays = t.generators;
      lines = t.lines;
      facets = thinned t.generators t.lines (subst (λ n. HasCols n t.generators) cols hg) (subst (λ n. HasCols n t.lines) cols hl)
          (subst (λ k. CutsOutOf k v.cols (InCone t.generators t.lines) A E) of (subst (λ n. CutsOutOf t.of n (InCone t.generators t.lines) A E) cols cut));
      same = λ x lx. (λ h. h, λ h. h);
    }

-- whether they have a point
pub point_sound : (v : ViewSeen) → v.of ≡ Polytope → ¬ (v.of ≡ Fan) → (E A : List Row) → ReadsParts v Equations Inequalities E A → (b : Bool) → (IsTrue b ↔ HasSolution v.cols A E) → (old new : DraftSeen) → IsPut v Feasible (truth b) old new → IsSound v new
point_sound v polytope no_fan E A halves b says old new put = sound_truth v Feasible b old new refl put (λ t o of cols right c.
    feasible_has_point t o (of ∙ polytope) halves.second_rows halves.first_rows (rows_pair v E A t o of cols right no_fan halves) A E
    (primitive_stand halves.second_rows A halves.second_primitive) (primitive_stand halves.first_rows E halves.first_primitive) b c
    (subst (λ n. IsTrue b ↔ HasSolution n A E) (sym cols) says))

-- the program of a polytope's half-spaces shows a pivot that leaves the range
pub program_as : (v : ViewSeen) → v.of ≡ Polytope → (E A : List Row) (f : LpFail) → IfWide f (ShowsProgram (half_spaces Polytope v.cols A) E (no_objective v.cols)) → IfWide f (ShowsProgram (half_spaces v.of v.cols A) E (no_objective v.cols))
program_as v polytope E A f h = subst (λ k. IfWide f (ShowsProgram (half_spaces k v.cols A) E (no_objective v.cols))) (sym polytope) h

-- so `feasible_lp` fails
pub point_fails : (v : ViewSeen) → IsTrue (has_way v.kind feasibility) → (E A : List Row) → AreRowsOf v Equations E → AreRowsOf v Inequalities A → (f : LpFail) → IfWide f (ShowsProgram (half_spaces v.of v.cols A) E (no_objective v.cols)) → FailsForProgram v (fail_of_program f)
point_fails v asks E A e a (Wide w) h = wide_feasibility v asks E A e a w h
point_fails v asks E A e a Memory h = tt
