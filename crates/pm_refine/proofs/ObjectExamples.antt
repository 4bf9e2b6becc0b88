-- The examples of objects.
use Rattle.pm_files.specs.Files.{SavedFile}
use Rattle.pm_laws_normal_fans.specs.Fans.{Fan}
use Rattle.pm_fraction.specs.FractionRows.{ArePrimitiveRowsOf}
use Rattle.pm_object.specs.declared.held.Condition.{Condition}
use Rattle.pm_object.specs.declared.held.Condition.TheVariants as condition
use Rattle.pm_refine.specs.CutRows.{fan_from}
use Rattle.pm_refine.specs.ObjectExamples.{ObjectsAreRead, apex, polytope_file}
use Rattle.pm_refine.specs.ObjectFans.{IsFanOfObject, is_fan}
use Rattle.pm_refine.specs.ObjectRefinements.{IsRefinementFile, IsRefinementRefused}
use Rattle.pm_refine.specs.declared.object_fails.RefinementFail.TheVariants.{NotFit}
use Rattle.std.proofs.Common.{Bool, ap, arith, false, inl, inr, refl, sym, true, true≢false}
use Rattle.std.specs.Option.{is_some}
use Rattle.std.specs.Prelude.{[], length, ◌∷◌, ◌≡◌}

none_primitive : ArePrimitiveRowsOf [] []
none_primitive = record { count = refl; each = λ i l. absurd (omega arith); multiple = λ i l. absurd (omega arith) }

one_cone : IsFanOfObject apex (fan_from ([] ∷ []) [])
one_cone = record { rays = []; lines = []; are_rays = none_primitive; are_lines = none_primitive; is = refl }

no_cone : ¬ (IsFanOfObject apex (fan_from [] []))
no_cone h = let e = ap (λ (f : Fan). length f.cones) h.is in omega arith

no_polytope : ¬ (IsRefinementFile apex apex polytope_file)
no_polytope h = let e : false ≡ true = ap (λ (f : SavedFile). is_fan f.of) h.file_is in true≢false (sym e)

abbrev is_rows : Condition → Bool
is_rows condition.Rows = true
is_rows c = false

no_refusal : ¬ (IsRefinementRefused apex apex (NotFit condition.OfType))
no_refusal h = elim h [
  | inl e ↦ true≢false (sym (ap is_some e))
  | inr w ↦ (let e : false ≡ true = ap is_rows w.1 in true≢false (sym e))
]

pub objects_are_read : ObjectsAreRead
objects_are_read = record {
  second_ray = refl;
  not_first = λ e. cc;
  one_cone = one_cone;
  no_cone = no_cone;
  fits = refl;
  of_type = refl;
  columns = refl;
  other_rays = refl;
  values = refl;
  no_polytope = no_polytope;
  memory = tt;
  no_refusal = no_refusal;
}
