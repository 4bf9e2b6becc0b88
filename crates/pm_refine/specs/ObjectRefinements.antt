-- The common refinement of the fans of two objects, as a new fan (Ziegler, Lectures on Polytopes, section 7.1).
use Rattle.std.specs.Prelude.{ℕ, ◌<◌, ◌≤◌, ◌≡◌, ◌⊎◌, None, Some, List, [], ◌∷◌, length, map}
use Rattle.std.specs.List.{All}
use Rattle.pm_vector.specs.Rows.{Row}
use Rattle.pm_files.specs.Files.{SavedFile}
use Rattle.pm_geom.specs.declared.evidence.Evidence.{Evidence}
use Rattle.pm_laws_normal_fans.specs.Fans.{Fan, IsFan}
use Rattle.pm_laws_normal_fans.specs.Refinements.{AreAllRays, HasRefinedRays, Intersection}
use Rattle.pm_object.specs.Known.{cols_at}
use Rattle.pm_types.specs.Parts.{value_over}
use Rattle.pm_object.specs.State.{State}
use Rattle.pm_object.specs.declared.held.Condition.TheVariants.{Rows}
use Rattle.pm_object_type.specs.declared.object_type.ObjectType.TheVariants.{Fan as OfFan}
use Rattle.pm_props.specs.declared.property.PropId.{PropId}
use Rattle.pm_props.specs.declared.property.PropId.TheVariants.{ConeAmbientDim, LinealitySpace, MaximalCones, Vertices}
use Rattle.pm_refine.specs.Fails.{IsRefineFail}
use Rattle.pm_refine.specs.ObjectFans.{IsFanOfObject, refine_refusal}
use Rattle.pm_refine.specs.Refined.{AreRaySets, AreRefined}
use Rattle.pm_refine.specs.declared.fails.RefineFail.{RefineFail}
use Rattle.pm_refine.specs.declared.fails.RefineFail.TheVariants as engine
use Rattle.pm_refine.specs.declared.object_fails.RefinementFail.{RefinementFail}
use Rattle.pm_refine.specs.declared.object_fails.RefinementFail.TheVariants.{Memory, NotFit, NotMade}
use Rattle.pm_types.specs.Forms.{FormsIn}
use Rattle.pm_types.specs.Values.{PropertyValue, sets, whole}
use Rattle.pm_types.specs.Views.{ratios}
use lib.IntN.{pos}
use Rattle.pm_limits.specs.Limits.{most_rows}

-- the maximal intersections of the cones of f and g, in the order of the pairs, of equal ones the first; the echelon
-- basis of their lineality; all their rays, each once, in lexicographic order; and for each intersection the places
-- of its rays
pub record IsRefinement (n : ℕ) (f g : Fan) (lines : List Row) (kept : List Intersection) (rays : List Row)
    (sets : List (List ℕ)) : Type 0 where
  pub refined : IsFan n f → IsFan n g → AreRefined n f g lines kept
  pub all_rays : AreAllRays kept rays
  pub orders : IsFan n f → IsFan n g → HasRefinedRays n f g lines kept rays
  pub ray_sets : AreRaySets rays kept sets

-- it is the refinement of the fans of these objects
pub record IsRefinementOf (a b : State) (lines : List Row) (kept : List Intersection) (rays : List Row)
    (sets : List (List ℕ)) : Type 0 where
  pub first : Fan
  pub second : Fan
  pub is_first : IsFanOfObject a first
  pub is_second : IsFanOfObject b second
  pub refinement : IsRefinement (cols_at a) first second lines kept rays sets

-- the values of a fan in n columns
abbrev pub refined_values : ℕ → List Row → List Row → List (List ℕ) → List (PropId × PropertyValue)
refined_values n lines rays sets' = (ConeAmbientDim, whole (pos n))
    ∷ (Vertices, value_over n (map ratios rays)) ∷ (LinealitySpace, value_over n (map ratios lines))
    ∷ (MaximalCones, sets sets' (length rays)) ∷ []

-- the fan that is given these values
abbrev pub fan_given : List (PropId × PropertyValue) → SavedFile
fan_given values = record {
  of = OfFan;
  values = values;
  stored = 0;
  failed = [];
  programs = [];
  ignored = [];
}

-- each value has the form of its property for a fan of n columns, and its rows pass their tests
abbrev pub HaveForms : ℕ → SavedFile → Type 0
HaveForms n f = All (λ (v : PropId × PropertyValue). FormsIn OfFan n v.0 v.1) f.values

-- the new fan: it has at most most_rows rays and at most most_rows cones
pub record IsRefinementFile (a b : State) (file : SavedFile) : Type 0 where
  pub lines : List Row
  pub kept : List Intersection
  pub rays : List Row
  pub sets : List (List ℕ)
  pub is : IsRefinementOf a b lines kept rays sets
  pub few_rays : length rays ≤ most_rows
  pub few_cones : length kept ≤ most_rows
  pub file_is : file ≡ fan_given (refined_values (cols_at a) lines rays sets)

-- it would have more
pub record IsLarge (a b : State) : Type 0 where
  pub lines : List Row
  pub kept : List Intersection
  pub rays : List Row
  pub sets : List (List ℕ)
  pub is : IsRefinementOf a b lines kept rays sets
  pub many : (most_rows < length rays) ⊎ (most_rows < length kept)

-- the evidence holds of the cones at places i and j of the fans of these objects
pub record IsShownByObjects (a b : State) (i j : ℕ) (e : Evidence) : Type 0 where
  pub first : Fan
  pub second : Fan
  pub is_first : IsFanOfObject a first
  pub is_second : IsFanOfObject b second
  pub shown : IsRefineFail (cols_at a) first second (engine.NotMade i j e)

-- the refusal is want of memory, or names a pair of cones and evidence that holds of it
abbrev pub IsShownByFans : State → State → RefineFail → Type 0
IsShownByFans a b (engine.NotMade i j e) = IsShownByObjects a b i j e
IsShownByFans a b engine.Memory = Unit {0}

-- the refusal of the fans, as one of the objects
abbrev pub as_refinement_fail : RefineFail → RefinementFail
as_refinement_fail (engine.NotMade i j e) = NotMade i j e
as_refinement_fail engine.Memory = Memory

-- why there is no refinement: the first condition that fails; or, where none does, a pair of cones with evidence that
-- holds of it, or more than most_rows rays or cones; want of memory may come at any time
abbrev pub IsRefinementRefused : State → State → RefinementFail → Type 0
IsRefinementRefused a b (NotFit c) = (refine_refusal a b ≡ Some c)
    ⊎ ((refine_refusal a b ≡ None) × (c ≡ Rows) × IsLarge a b)
IsRefinementRefused a b (NotMade i j e) = (refine_refusal a b ≡ None) × IsShownByObjects a b i j e
IsRefinementRefused a b Memory = Unit {0}
