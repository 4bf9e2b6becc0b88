-- The examples of optima of linear programs hold.
use Rattle.pm_client.proofs.NoRows.{parts_without_rows, none_primitive}
use Rattle.pm_client.proofs.ProgramExamples.{no_optimum}
use Rattle.pm_client.specs.Examples.{OptimaAreRead, no_rows, nothing, of_program, single}
use Rattle.pm_client.specs.Sound.{ArePartsOf, optimum, IsWideAtRays, IsWideDual, IsWideFace, IsWideOptimum, ReadsObjective, has_way, at_rays, at_face, dual, sought}
use Rattle.pm_geom.specs.declared.evidence.Evidence.TheVariants.{E4}
use Rattle.pm_geom.specs.declared.evidence.Evidence.{Evidence}
use Rattle.pm_object.specs.Reading.{fact_of}
use Rattle.pm_props.specs.declared.property.PropId.TheVariants.{AffineHull, Equations, Facets, Inequalities}
use Rattle.pm_simplex.specs.Answers.{ShowsProgram}
use Rattle.pm_simplex.specs.OptimumEvidence.{ShowsDualRow}
use Rattle.pm_simplex.specs.declared.sense.Sense.TheVariants.{Maximal, Minimal}
use Rattle.pm_simplex.specs.declared.sense.Sense.{Sense}
use Rattle.pm_types.specs.Values.{PropertyValue, matrix}
use Rattle.std.proofs.Common.{false, true, inl, inr, refl, sym, true≢false, ap, ◌∙◌}
use Rattle.std.specs.Option.{is_some}
use Rattle.std.specs.Prelude.{List, Some, [], codes, ℕ, ◌∷◌, ◌≡◌}

-- ---- what was read
read_rows : (name : List ℕ) → ArePartsOf (of_program name) Equations Inequalities [] (single 1 ∷ [])
read_rows name = parts_without_rows (of_program name) Equations Inequalities (single 1 ∷ []) refl refl refl

read_facets : (name : List ℕ) → ArePartsOf (of_program name) AffineHull Facets [] []
read_facets name = parts_without_rows (of_program name) AffineHull Facets [] refl refl refl

read_objective : (name : List ℕ) → ReadsObjective (of_program name) (nothing ∷ [])
read_objective name = (1, refl)

same_value : {x y : PropertyValue} → Some x ≡ Some y → x ≡ y
same_value e = cc

of_facets : (e : Evidence) → ShowsProgram [] [] (nothing ∷ []) e → IsWideOptimum (of_program (codes "lp_max")) e
of_facets e h = record { sense = Maximal; first = AffineHull; second = Facets; named = refl; parts = refl; equations = []; inequalities = []; read = read_facets (codes "lp_max"); objective = nothing ∷ []; reads_objective = read_objective (codes "lp_max"); shown = h }

of_dual : (e : Evidence) → ShowsDualRow [] [] (nothing ∷ []) e → IsWideDual (of_program (codes "lp_max")) e
of_dual e h = record {
  sense = Maximal;
  named = refl;
  equations = [];
  inequalities = [];
  reads_equations = record { cols = 0; rows = []; reads = refl; primitive = none_primitive };
  reads_inequalities = record { cols = 0; rows = []; reads = refl; primitive = none_primitive };
  objective = nothing ∷ [];
  reads_objective = read_objective (codes "lp_max");
  shown = h;
}

-- ---- other clients
no_dual_found : (sense : Sense) → has_way no_rows.kind (dual (sought sense)) ≡ false
no_dual_found Maximal = refl
no_dual_found Minimal = refl

no_rays_found : (sense : Sense) → has_way no_rows.kind (at_rays (sought sense)) ≡ false
no_rays_found Maximal = refl
no_rays_found Minimal = refl

no_face_found : (sense : Sense) → has_way no_rows.kind (at_face (sought sense)) ≡ false
no_face_found Maximal = refl
no_face_found Minimal = refl

no_dual : (e : Evidence) → ¬ (IsWideDual no_rows e)
no_dual e h = true≢false (sym h.named ∙ no_dual_found h.sense)

no_rays : (e : Evidence) → ¬ (IsWideAtRays no_rows e)
no_rays e h = true≢false (sym h.named ∙ no_rays_found h.sense)

no_face : (e : Evidence) → ¬ (IsWideFace no_rows e)
no_face e h = true≢false (sym h.named ∙ no_face_found h.sense)

-- no least value was read
no_least : (sense : Sense) → has_way (of_program (codes "lp_min_face")).kind (at_face (sought sense)) ≡ true → is_some (fact_of (optimum sense) (of_program (codes "lp_min_face")).facts) ≡ false
no_least Maximal h = absurd (true≢false (sym h))
no_least Minimal h = refl

pub optima_are_read : OptimaAreRead
optima_are_read = record {
  over_rows = refl;
  other_sense = refl;
  over_facets = refl;
  not_over_facets = refl;
  not_over_vertices = refl;
  at_rays = refl;
  not_at_rays = refl;
  at_face = refl;
  not_at_face = refl;
  greatest = refl;
  least = refl;
  objective = read_objective (codes "lp_max");
  other_objective = λ h. let e = same_value h.1 in other e;
  no_objective = λ c h. true≢false (sym (ap is_some h.1));
  of_rows = λ e h. record { sense = Maximal; first = Equations; second = Inequalities; named = refl; parts = refl; equations = []; inequalities = single 1 ∷ []; read = read_rows (codes "lp_max_rows"); objective = nothing ∷ []; reads_objective = read_objective (codes "lp_max_rows"); shown = h };
  of_facets = of_facets;
  not_optimum = no_optimum;
  held = λ basis enter leave row column h. inr (inr (of_facets _ h));
  of_dual = of_dual;
  not_dual = no_dual;
  of_rays = λ e h. record {
    sense = Maximal;
    named = refl;
    lines = [];
    rays = [];
    reads_lines = record { cols = 0; rows = []; reads = refl; primitive = none_primitive };
    reads_rays = record { cols = 0; rows = []; reads = refl; primitive = none_primitive };
    objective = nothing ∷ [];
    reads_objective = read_objective (codes "lp_max_v");
    shown = h;
  };
  not_rays = no_rays;
  of_face = λ e h. record {
    sense = Maximal;
    named = refl;
    rays = [];
    reads_rays = record { cols = 0; rows = []; reads = refl; primitive = none_primitive };
    objective = nothing ∷ [];
    reads_objective = read_objective (codes "lp_max_face");
    value = nothing;
    reads_value = refl;
    shown = h;
  };
  not_face = λ e h. true≢false (sym (ap is_some h.reads_value) ∙ no_least h.sense h.named);
  held_product = λ x y h. inr (inr (inl (inl (of_dual (E4 x y) h))));
  not_held = λ x y h. elim h [ inl w ↦ no_dual (E4 x y) w | inr w ↦ elim w [ inl r ↦ no_rays (E4 x y) r | inr f ↦ no_face (E4 x y) f ] ];
}
  where
    other : {n : ℕ} → matrix 1 ((nothing ∷ []) ∷ []) ≡ matrix n ([] ∷ []) → ⊥
    other e = cc
