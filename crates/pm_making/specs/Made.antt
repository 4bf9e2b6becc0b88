-- What the functions that make objects answer.
use Rattle.std.specs.Prelude.{ℕ, ◌≡◌, ◌⊎◌, ◌||◌, Bool, not, IsTrue, true, List, map, None, Result, Ok, Err}
use Rattle.std.specs.List.{All, list_all}
use Rattle.pm_files.specs.Files.{SavedFile}
use Rattle.pm_files.specs.declared.file.FileObject.{FileObject}
use Rattle.pm_filing.specs.Whole.{are_of_different, are_of_table}
use Rattle.pm_build.specs.declared.fails.SumFail.{SumFail}
use Rattle.pm_build.specs.declared.fails.SumFail.TheVariants as sum
use Rattle.pm_making.specs.declared.unbuilt.Unbuilt.{Unbuilt}
use Rattle.pm_making.specs.declared.unbuilt.Unbuilt.TheVariants as unbuilt
use Rattle.pm_object.specs.State.{HeldValue, State, file_value, has_rounds, is_held, read_at}
use Rattle.pm_object.specs.declared.held.BuildFail.{BuildFail}
use Rattle.pm_object.specs.declared.held.BuildFail.TheVariants as fail
use Rattle.pm_object.specs.declared.held.Condition.{Condition}
use Rattle.pm_object.specs.declared.held.Origin.TheVariants as origin
use Rattle.pm_object_type.specs.declared.object_type.ObjectType.{ObjectType}
use Rattle.pm_props.specs.declared.property.PropId.{PropId}
use Rattle.pm_props.specs.declared.property.PropId.TheVariants.{ConeAmbientDim, SiteHeights, Sites}
use Rattle.pm_props.specs.Places.{same_property}
use Rattle.pm_refine.specs.declared.object_fails.RefinementFail.{RefinementFail}
use Rattle.pm_refine.specs.declared.object_fails.RefinementFail.TheVariants as refinement
use Rattle.pm_script.specs.declared.refusal.NotMadeWhy.{NotMadeWhy}
use Rattle.pm_script.specs.declared.refusal.NotMadeWhy.TheVariants.{Combination, Pair}
use Rattle.pm_types.specs.Forms.{FormsIn}
use Rattle.pm_types.specs.Values.{PropertyValue}

-- SITES or SITE_HEIGHTS
abbrev pub is_of_sites : PropId → Bool
is_of_sites p = same_property Sites p || same_property SiteHeights p

-- values of different properties of the type's table, none of sites or heights, each of which has its form for one
-- column count
pub record AreFitting (of : ObjectType) (values : List (PropId × PropertyValue)) : Type 0 where
  pub cols : ℕ
  pub forms : All (λ (v : PropId × PropertyValue). FormsIn of cols v.0 v.1) values
  pub table : IsTrue (are_of_table of values)
  pub different : IsTrue (are_of_different values)
  pub no_sites : IsTrue (list_all (λ v. not (is_of_sites v.0)) values)

-- those of the file are so
abbrev pub IsFitting : SavedFile → Type 0
IsFitting f = AreFitting f.of f.values

-- the values as given ones
abbrev pub given_values : List (PropId × PropertyValue) → List HeldValue
given_values values = map (λ v. file_value origin.Given v.0 v.1) values

-- the object holds these properties, and it was settled: it knows its dimension, or a round was started for it
pub record IsRead (ps : List PropId) (o : State) : Type 0 where
  pub held : All (λ p. IsTrue (is_held p (read_at None o.held))) ps
  pub settled : (is_held ConeAmbientDim o.held ≡ true) ⊎ (has_rounds o ≡ true)

-- the answer names a condition that fails; want of memory may come at any time
abbrev pub IsUnfit : (Condition → Type 0) → BuildFail → Type 0
IsUnfit unfit (fail.NotFit c) = unfit c
IsUnfit unfit fail.Memory = Unit {0}

-- the answer names a condition that fails, or why nothing is made; want of memory may come at any time
abbrev pub IsUnbuilt : (Condition → Type 0) → (NotMadeWhy → Type 0) → Unbuilt → Type 0
IsUnbuilt unfit unmade (unbuilt.NotFit c) = unfit c
IsUnbuilt unfit unmade (unbuilt.NotMade why) = unmade why
IsUnbuilt unfit unmade unbuilt.Memory = Unit {0}

-- the answers of the builders, in these terms
abbrev pub of_built : Result FileObject BuildFail → Result FileObject Unbuilt
of_built (Ok f) = Ok f
of_built (Err (fail.NotFit c)) = Err (unbuilt.NotFit c)
of_built (Err fail.Memory) = Err unbuilt.Memory

abbrev pub of_sum : Result FileObject SumFail → Result FileObject Unbuilt
of_sum (Ok f) = Ok f
of_sum (Err (sum.NotFit c)) = Err (unbuilt.NotFit c)
of_sum (Err (sum.Wide v w k)) = Err (unbuilt.NotMade (Combination v w k))
of_sum (Err sum.Memory) = Err unbuilt.Memory

abbrev pub of_refinement : Result FileObject RefinementFail → Result FileObject Unbuilt
of_refinement (Ok f) = Ok f
of_refinement (Err (refinement.NotFit c)) = Err (unbuilt.NotFit c)
of_refinement (Err (refinement.NotMade i j evidence)) = Err (unbuilt.NotMade (Pair i j evidence))
of_refinement (Err refinement.Memory) = Err unbuilt.Memory
