-- How the clients fail: with evidence of their own, which holds of the view.
use Rattle.pm_vector.specs.Numbers.{Ratio}
use Rattle.pm_vector.specs.Rows.{Row}
use Rattle.pm_client.proofs.Failing.{halves_read, parts_of}
use Rattle.pm_clients_lp.proofs.StandardKinds.{face_named, dual_named, facets_named, rays_named, rows_named}
use Rattle.pm_clients_lp.specs.Programs.{ShowsOptimum}
use Rattle.pm_incidence.specs.Thinning.{half_spaces}
use Rattle.pm_standard.specs.Table.{standard_kind}
use Rattle.pm_object_type.specs.declared.object_type.ObjectType.TheVariants.{Cone, Fan, Polytope}
use Rattle.pm_object_type.specs.declared.object_type.ObjectType.{ObjectType}
use Rattle.pm_props.specs.declared.property.PropId.TheVariants.{AffineHull, Equations, Facets, Inequalities, LinealitySpace, Vertices}
use Rattle.pm_simplex.specs.Answers.{ShowsProgram}
use Rattle.pm_simplex.specs.OptimumEvidence.{ShowsFace, ShowsValue}
use Rattle.pm_simplex.specs.Senses.{objective_in, ratio_in}
use Rattle.pm_simplex.specs.declared.sense.Sense.{Sense}
use Rattle.pm_types.specs.Values.{extended, finite}
use Rattle.std.specs.Prelude.{Bool, List, Some, [], ℕ, ◌≡◌}
use Rattle.pm_client.specs.Sound.{AreRowsOf, ArePartsOf, ReadsObjective, added_rows, optimum, FailsRightly, HoldsOf, IsWideAtRays, IsWideFace, IsWideOptimum, fail_of_program}
use Rattle.pm_client.specs.declared.ClientFail.TheVariants.{Failed, Memory}
use Rattle.pm_client.specs.declared.ClientFail.{ClientFail}
use Rattle.pm_clients_lp.specs.Clients.{FailsBy, IsWideWithDual, at_face, at_rays, over_facets, over_rows}
use Rattle.pm_geom.specs.declared.evidence.Evidence.TheVariants as evidence
use Rattle.pm_geom.specs.declared.evidence.Evidence.{Evidence}
use Rattle.pm_object.specs.Reading.{ViewSeen, fact_of}
use Rattle.pm_simplex.specs.Fails.{IfWide}
use Rattle.pm_simplex.specs.declared.fails.LpFail.TheVariants as program
use Rattle.pm_simplex.specs.declared.fails.LpFail.{LpFail}
use Rattle.std.proofs.Common.{inl, inr, refl, subst}

-- a refusal by linear programs is one of the client
pub fails_by : (P Q : Evidence → Type 0) → ((e : Evidence) → P e → Q e) → (f : LpFail) → IfWide f P → FailsBy Q (fail_of_program f)
fails_by P Q step (program.Wide e) h = step e h
fails_by P Q step program.Memory h = tt

-- where the evidence holds of the view, the client fails rightly
pub fails_rightly : (v : ViewSeen) (P : Evidence → Type 0) → ((e : Evidence) → P e → HoldsOf e v) → (f : ClientFail) → FailsBy P f → FailsRightly v f
fails_rightly v P holds (Failed e) h = holds e h
fails_rightly v P holds Memory h = tt

-- nothing is added to FACETS
none_added : (of : ObjectType) (n : ℕ) → added_rows of n Facets ≡ []
none_added Polytope n = refl
none_added Cone n = refl
none_added Fan n = refl

facets_parts : (v : ViewSeen) (E A : List Row) → AreRowsOf v AffineHull E → AreRowsOf v Facets A → ArePartsOf v AffineHull Facets E A
facets_parts v E A e a = parts_of v AffineHull Facets E A e a (none_added v.of v.cols)

module _ (v : ViewSeen) where
  pub optimum_holds : (e : Evidence) → IsWideOptimum v e → HoldsOf e v
  optimum_holds (evidence.E3 basis enter leave row column) h = inr (inr h)
  optimum_holds e h = absurd h.shown.shown

  pub rays_hold : (e : Evidence) → IsWideAtRays v e → HoldsOf e v
  rays_hold (evidence.E4 x y) h = inr (inr (inl (inr (inl h))))
  rays_hold e h = elim h.shown.shown [ inl p ↦ absurd p | inr p ↦ absurd p ]

  pub face_holds : (e : Evidence) → IsWideFace v e → HoldsOf e v
  face_holds (evidence.E4 x y) h = inr (inr (inl (inr (inr h))))
  face_holds e h = elim h.shown [ inl p ↦ absurd p.shown | inr p ↦ absurd p.shown ]

  pub dual_holds : (e : Evidence) → IsWideWithDual v e → HoldsOf e v
  dual_holds (evidence.E3 basis enter leave row column) h = elim h [ inl p ↦ inr (inr p) | inr p ↦ absurd p.shown.shown ]
  dual_holds (evidence.E4 x y) h = elim h [ inl p ↦ absurd p.shown.shown | inr p ↦ inr (inr (inl (inl p))) ]
  dual_holds e h = elim h [ inl p ↦ absurd p.shown.shown | inr p ↦ absurd p.shown.shown ]

-- ---- what each client shows
module _ (v : ViewSeen) (sense : Sense) (c : List Ratio) (reads : ReadsObjective v c) (f : LpFail) where
  pub rays_fail : (wide : Bool) → v.kind ≡ standard_kind (at_rays sense wide) → (V L : List Row) → AreRowsOf v Vertices V → AreRowsOf v LinealitySpace L → IfWide f (ShowsValue sense c V L) → FailsBy (IsWideAtRays v) (fail_of_program f)
  rays_fail wide kind V L rays lines h =
      fails_by (ShowsValue sense c V L) (IsWideAtRays v)
      (λ e s. record { sense = sense; named = rays_named v.kind sense wide kind; lines = L; rays = V; reads_lines = lines; reads_rays = rays; objective = c; reads_objective = reads; shown = s }) f h

  pub face_fails : (wide : Bool) → v.kind ≡ standard_kind (at_face sense wide) → (V : List Row) → AreRowsOf v Vertices V → (x : Ratio) → fact_of (optimum sense) v.facts ≡ Some (extended (finite x)) → IfWide f (ShowsFace sense c (ratio_in sense x) V) → FailsBy (IsWideFace v) (fail_of_program f)
  face_fails wide kind V rays x value h =
      fails_by (ShowsFace sense c (ratio_in sense x) V) (IsWideFace v)
      (λ e s. record { sense = sense; named = face_named v.kind sense wide kind; rays = V; reads_rays = rays; objective = c; reads_objective = reads; value = x; reads_value = value; shown = s }) f h

  pub rows_fail : (wide : Bool) → v.kind ≡ standard_kind (over_rows sense wide) → v.of ≡ Polytope → (E A : List Row) → AreRowsOf v Equations E → AreRowsOf v Inequalities A → IfWide f (ShowsProgram (half_spaces Polytope v.cols A) E (objective_in sense c)) → FailsBy (IsWideOptimum v) (fail_of_program f)
  rows_fail wide kind polytope E A equations inequalities h =
      fails_by (ShowsProgram (half_spaces Polytope v.cols A) E (objective_in sense c)) (IsWideOptimum v)
      (λ e s. record {
        sense = sense;
        first = Equations;
        second = Inequalities;
        named = rows_named v.kind sense wide kind;
        parts = refl;
        equations = E;
        inequalities = half_spaces Polytope v.cols A;
        read = subst (λ k. ArePartsOf v Equations Inequalities E (half_spaces k v.cols A)) polytope (halves_read v E A equations inequalities);
        objective = c;
        reads_objective = reads;
        shown = s;
      }) f h

  pub facets_fail : (wide : Bool) → v.kind ≡ standard_kind (over_facets sense wide) → (E A : List Row) → AreRowsOf v AffineHull E → AreRowsOf v Facets A → IfWide f (ShowsOptimum A E (objective_in sense c)) → FailsBy (IsWideWithDual v) (fail_of_program f)
  facets_fail wide kind E A equations inequalities h =
      fails_by (ShowsOptimum A E (objective_in sense c)) (IsWideWithDual v)
      (λ e s. elim s [
        | inl p ↦ inl (record {
          sense = sense;
          first = AffineHull;
          second = Facets;
          named = facets_named v.kind sense wide kind;
          parts = refl;
          equations = E;
          inequalities = A;
          read = facets_parts v E A equations inequalities;
          objective = c;
          reads_objective = reads;
          shown = p;
        })
        | inr d ↦ inr (record { sense = sense; named = dual_named v.kind sense wide kind; equations = E; inequalities = A; reads_equations = equations; reads_inequalities = inequalities; objective = c; reads_objective = reads; shown = d })
      ]) f h
