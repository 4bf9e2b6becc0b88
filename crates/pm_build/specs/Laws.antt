-- The values of new objects have the forms of their properties.
use Rattle.std.specs.Prelude.{ℕ, suc, ◌≡◌, None}
use Rattle.std.specs.List.{All}
use Rattle.pm_files.specs.Files.{SavedFile}
use Rattle.pm_object.specs.Formed.{IsFormed}
use Rattle.pm_object.specs.State.{State}
use Rattle.pm_object_type.specs.declared.object_type.ObjectType.TheVariants.{Polytope}
use Rattle.pm_props.specs.declared.property.PropId.{PropId}
use Rattle.pm_types.specs.Forms.{FormsIn}
use Rattle.pm_types.specs.Values.{PropertyValue}
use Rattle.pm_build.specs.Conditions.{cyclic_refusal, polar_reads, polar_refusal, product_reads, product_refusal, pyramid_reads, pyramid_refusal, shape_refusal, sum_reads, sum_refusal}
use Rattle.pm_object.specs.Known.{IsReadable, cols_at}
use Rattle.pm_build.specs.Objects.{cross_of, cube_of, cyclic_of, polar_of, product_cols, product_of, pyramid_of, simplex_of}
use Rattle.pm_build.specs.Sums.{IsSumFile}

-- each value has the form of its property for a polytope of n columns, and its rows pass their tests
abbrev pub HaveForms : ℕ → SavedFile → Type 0
HaveForms n f = All (λ (v : PropId × PropertyValue). FormsIn Polytope n v.0 v.1) f.values

-- the values of standard polytopes of the sizes that are built
pub record ShapesHaveForms : Type 0 where
  pub cube : (d : ℕ) → shape_refusal d ≡ None → HaveForms (suc d) (cube_of d)
  pub simplex : (d : ℕ) → shape_refusal d ≡ None → HaveForms (suc d) (simplex_of d)
  pub cross : (d : ℕ) → shape_refusal d ≡ None → HaveForms (suc d) (cross_of d)
  pub cyclic : (d n : ℕ) → cyclic_refusal d n ≡ None → HaveForms (suc d) (cyclic_of d n)

-- the values of polytopes of others, where no condition fails
pub record OthersHaveForms : Type 0 where
  pub polar : (a : State) → IsFormed a → IsReadable polar_reads a → polar_refusal a ≡ None
      → HaveForms (cols_at a) (polar_of a)
  pub product : (a b : State) → IsFormed a → IsFormed b → IsReadable product_reads a
      → IsReadable product_reads b → product_refusal a b ≡ None
      → HaveForms (product_cols a b) (product_of a b)
  pub pyramid : (a : State) → IsFormed a → IsReadable pyramid_reads a → pyramid_refusal a ≡ None
      → HaveForms (suc (cols_at a)) (pyramid_of a)

-- so have those of a sum
abbrev pub SumsHaveForms : Type 0
SumsHaveForms = (a b : State) (f : SavedFile) → IsFormed a → IsFormed b → IsReadable sum_reads a
    → IsReadable sum_reads b → sum_refusal a b ≡ None → IsSumFile a b f → HaveForms (cols_at a) f
