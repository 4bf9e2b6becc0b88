-- The table of the commands that make objects: what each reads of others, when it makes one, and of which values.
use Rattle.std.specs.Prelude.{Bool, false, true, ◌≡◌, List, [], ◌∷◌, map, Option, Some, None}
use Rattle.pm_build.specs.Conditions.{cyclic_refusal, polar_reads, polar_refusal, product_reads, product_refusal, pyramid_reads, pyramid_refusal, shape_refusal, sum_reads, sum_refusal}
use Rattle.pm_build.specs.Objects.{cross_of, cube_of, cyclic_of, polar_of, product_of, pyramid_of, simplex_of}
use Rattle.pm_command.specs.Commands.{ShapeSeen, cube_shape, simplex_shape, cross_shape, cyclic_shape}
use Rattle.pm_command.specs.declared.building.Binary.TheVariants.{Minkowski, Product, Refine}
use Rattle.pm_command.specs.declared.building.Builder.{Builder}
use Rattle.pm_command.specs.declared.building.Builder.TheVariants.{One, Two}
use Rattle.pm_command.specs.declared.building.Unary.TheVariants.{FaceFan, NormalFan, Polar, Pyramid}
use Rattle.pm_fan.specs.Conditions.{face_reads, face_refusal, normal_reads, normal_refusal}
use Rattle.pm_fan.specs.Fans.{face_fan_of, normal_fan_of}
use Rattle.pm_files.specs.Files.{SavedFile}
use Rattle.pm_object.specs.State.{State, empty_object, file_value}
use Rattle.pm_object.specs.declared.held.Condition.{Condition}
use Rattle.pm_object.specs.declared.held.Origin.TheVariants as origin
use Rattle.pm_object_type.specs.declared.object_type.ObjectType.{ObjectType}
use Rattle.pm_object_type.specs.declared.object_type.ObjectType.TheVariants.{Cone, Fan, Polytope}
use Rattle.pm_props.specs.declared.property.PropId.{PropId}
use Rattle.pm_script.specs.declared.refusal.NotMadeWhy.{NotMadeWhy}
use Rattle.pm_script.specs.declared.refusal.NotMadeWhy.TheVariants.{Combination, Pair}
use Rattle.pm_build.specs.Sums.{IsSumFile, IsSumRefused}
use Rattle.pm_build.specs.declared.fails.SumFail.TheVariants as sum
use Rattle.pm_refine.specs.ObjectFans.{refine_reads, refine_refusal}
use Rattle.pm_refine.specs.ObjectRefinements.{IsRefinementFile, IsRefinementRefused}
use Rattle.pm_refine.specs.declared.object_fails.RefinementFail.TheVariants as refinement

-- the object of these values alone, all of them given
abbrev pub object_of : SavedFile → State
object_of f = record (empty_object f.of) { held = map (λ v. file_value origin.Given v.0 v.1) f.values }

-- the standard polytope of a shape
abbrev pub shape_file : ShapeSeen → SavedFile
shape_file (cube_shape d) = cube_of d
shape_file (simplex_shape d) = simplex_of d
shape_file (cross_shape d) = cross_of d
shape_file (cyclic_shape d n) = cyclic_of d n

-- the first reason not to make it
abbrev pub shape_condition : ShapeSeen → Option Condition
shape_condition (cube_shape d) = shape_refusal d
shape_condition (simplex_shape d) = shape_refusal d
shape_condition (cross_shape d) = shape_refusal d
shape_condition (cyclic_shape d n) = cyclic_refusal d n

-- a command that builds an object of others takes objects of this type, and ensures these properties of each, in
-- their order
pub record Row : Type 0 where
  pub of : ObjectType
  pub reads : List PropId

abbrev pub row_of : Builder → Row
row_of (One Polar) = record { of = Polytope; reads = polar_reads }
row_of (One Pyramid) = record { of = Polytope; reads = pyramid_reads }
row_of (One NormalFan) = record { of = Polytope; reads = normal_reads }
row_of (One FaceFan) = record { of = Polytope; reads = face_reads }
row_of (Two Product) = record { of = Polytope; reads = product_reads }
row_of (Two Minkowski) = record { of = Polytope; reads = sum_reads }
row_of (Two Refine) = record { of = Fan; reads = refine_reads }

-- an object is of the type
abbrev pub same_type : ObjectType → ObjectType → Bool
same_type Polytope Polytope = true
same_type Cone Cone = true
same_type Fan Fan = true
same_type a b = false

-- of these objects nothing is made, for this condition: the first that fails
abbrev pub Unfit : Builder → List State → Condition → Type 0
Unfit (One Polar) (o ∷ []) c = polar_refusal o ≡ Some c
Unfit (One Pyramid) (o ∷ []) c = pyramid_refusal o ≡ Some c
Unfit (One NormalFan) (o ∷ []) c = normal_refusal o ≡ Some c
Unfit (One FaceFan) (o ∷ []) c = face_refusal o ≡ Some c
Unfit (Two Product) (a ∷ b ∷ []) c = product_refusal a b ≡ Some c
Unfit (Two Minkowski) (a ∷ b ∷ []) c = IsSumRefused a b (sum.NotFit c)
Unfit (Two Refine) (a ∷ b ∷ []) c = IsRefinementRefused a b (refinement.NotFit c)
Unfit builder os c = ⊥

-- of these objects nothing is made, for this reason, and with what shows it
abbrev pub Unmade : Builder → List State → NotMadeWhy → Type 0
Unmade (Two Minkowski) (a ∷ b ∷ []) (Combination v w k) = IsSumRefused a b (sum.Wide v w k)
Unmade (Two Refine) (a ∷ b ∷ []) (Pair i j evidence) =
    IsRefinementRefused a b (refinement.NotMade i j evidence)
Unmade builder os why = ⊥

-- of these objects one with these values is made: no condition fails
abbrev pub Makes : Builder → List State → SavedFile → Type 0
Makes (One Polar) (o ∷ []) f = (polar_refusal o ≡ None) × (f ≡ polar_of o)
Makes (One Pyramid) (o ∷ []) f = (pyramid_refusal o ≡ None) × (f ≡ pyramid_of o)
Makes (One NormalFan) (o ∷ []) f = (normal_refusal o ≡ None) × (f ≡ normal_fan_of o)
Makes (One FaceFan) (o ∷ []) f = (face_refusal o ≡ None) × (f ≡ face_fan_of o)
Makes (Two Product) (a ∷ b ∷ []) f = (product_refusal a b ≡ None) × (f ≡ product_of a b)
Makes (Two Minkowski) (a ∷ b ∷ []) f = (sum_refusal a b ≡ None) × IsSumFile a b f
Makes (Two Refine) (a ∷ b ∷ []) f = (refine_refusal a b ≡ None) × IsRefinementFile a b f
Makes builder os f = ⊥
