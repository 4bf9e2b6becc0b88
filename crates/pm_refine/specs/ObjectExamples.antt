-- The definitions read on the fan {0} of the line: what holds, and what does not.
use Rattle.std.specs.Prelude.{ℕ, ◌≡◌, List, [], ◌∷◌, None, Some}
use Rattle.pm_files.specs.Files.{SavedFile}
use Rattle.pm_geom.specs.ThingExamples.{left, right}
use Rattle.pm_object.specs.State.{HeldValue, State}
use Rattle.pm_object.specs.declared.held.Condition.TheVariants as condition
use Rattle.pm_object.specs.declared.held.Origin.TheVariants.{Given}
use Rattle.pm_object_type.specs.declared.object_type.ObjectType.TheVariants.{Cone, Fan, Polytope}
use Rattle.pm_props.specs.declared.property.PropId.{PropId}
use Rattle.pm_props.specs.declared.property.PropId.TheVariants.{ConeAmbientDim, LinealitySpace, MaximalCones, Vertices}
use Rattle.pm_refine.specs.CutRows.{fan_from}
use Rattle.pm_refine.specs.ObjectFans.{IsFanOfObject, rays_at, refine_refusal}
use Rattle.pm_refine.specs.ObjectRefinements.{IsRefinementFile, IsRefinementRefused, refined_values}
use Rattle.pm_refine.specs.declared.object_fails.RefinementFail.TheVariants.{Memory, NotFit}
use Rattle.pm_types.specs.Values.{PropertyValue, matrix, sets, whole}
use Rattle.pm_types.specs.Views.{ratios}
use lib.IntN.{pos}

-- a given value of the object
abbrev pub held : PropId → PropertyValue → HeldValue
held p v = record { place = None; property = p; value = v; origin = Given }

-- a fan of n columns without rays and lines, with these sets of places among so many rays
abbrev pub fan_without_rays : ℕ → List (List ℕ) → ℕ → State
fan_without_rays n rows m = record {
  of = Fan;
  held = held ConeAmbientDim (whole (pos n)) ∷ held Vertices (matrix 0 [])
      ∷ held LinealitySpace (matrix 0 []) ∷ held MaximalCones (sets rows m) ∷ [];
  excluded = [];
  rounds = [];
  disabled = [];
  programs = [];
}

-- the cone {0} of the line
abbrev pub apex : State
apex = fan_without_rays 1 ([] ∷ []) 0

-- a file of another type
abbrev pub polytope_file : SavedFile
polytope_file = record { of = Polytope; values = []; stored = 0; failed = []; programs = []; ignored = [] }

pub record ObjectsAreRead : Type 0 where
  -- the second of two rays
  pub second_ray : rays_at (left ∷ right ∷ []) (1 ∷ []) ≡ right ∷ []
  pub not_first : ¬ (rays_at (left ∷ right ∷ []) (1 ∷ []) ≡ left ∷ [])
  -- one cone without rays, and not no cone
  pub one_cone : IsFanOfObject apex (fan_from ([] ∷ []) [])
  pub no_cone : ¬ (IsFanOfObject apex (fan_from [] []))
  -- conditions, and the first that fails
  pub fits : refine_refusal apex apex ≡ None
  pub of_type : refine_refusal apex (record apex { of = Cone }) ≡ Some condition.OfType
  pub columns : refine_refusal apex (fan_without_rays 2 [] 0) ≡ Some condition.Columns
  pub other_rays : refine_refusal apex (fan_without_rays 1 ([] ∷ []) 3) ≡ Some condition.Columns
  -- the values of the ray to the right
  pub values : refined_values 1 [] (right ∷ []) ((0 ∷ []) ∷ [])
      ≡ (ConeAmbientDim, whole (pos 1)) ∷ (Vertices, matrix 1 (ratios right ∷ []))
      ∷ (LinealitySpace, matrix 0 []) ∷ (MaximalCones, sets ((0 ∷ []) ∷ []) 1) ∷ []
  -- a refinement is a fan; want of memory comes at any time; no condition fails
  pub no_polytope : ¬ (IsRefinementFile apex apex polytope_file)
  pub memory : IsRefinementRefused apex apex Memory
  pub no_refusal : ¬ (IsRefinementRefused apex apex (NotFit condition.OfType))
