-- Faults of the values of small files: where they stand, and which is answered.
use Rattle.std.specs.Prelude.{◌≡◌, [], ◌∷◌, Err, codes}
use Rattle.pm_filing.specs.FileParts.{bad_property, parts_in}
use Rattle.pm_json.specs.declared.fail.ValueFail.TheVariants.{Limit, Number, Shape}
use Rattle.pm_laws_texts.specs.ValueExamples.{nought, one, two, two_rows, x}
use Rattle.pm_laws_texts.specs.FileFaults.{AtKey, key_at}
use Rattle.pm_laws_texts.specs.Places.{IsFirst}
use Rattle.pm_object_type.specs.declared.object_type.ObjectType.TheVariants.{Cone, Polytope}
use Rattle.serde_json.specs.Data.{Data, Items, Members, array, item, member, no_members, object}

-- {"N_RAYS":"x","RAYS":[[0,"x"],[0,0,0]]}
abbrev pub two_keys : Members
two_keys = member (codes "N_RAYS") x (member (codes "RAYS") two_rows no_members)

-- {}
abbrev pub program : Data
program = object no_members

abbrev pub five_programs : Items
five_programs = item program (item program (item program (two program program)))

-- {"LP":..}
abbrev pub with_programs : Data → Members
with_programs d = member (codes "LP") d no_members

-- {"LINEAR_OBJECTIVE":["x"]}
abbrev pub with_text : Data
with_text = object (member (codes "LINEAR_OBJECTIVE") (array (one x)) no_members)

-- keys in their order, and in their values places; keys that name no property have no fault, and of programs
-- objectives, and that there are too many
pub record KeysAreNamed : Type 0 where
  pub first : AtKey Cone two_keys (0 ∷ []) Shape
  pub second : AtKey Cone two_keys (1 ∷ 0 ∷ 1 ∷ []) Number
  pub named : key_at two_keys (1 ∷ 0 ∷ 1 ∷ []) ≡ codes "RAYS"
  pub answered : parts_in Cone two_keys ≡ Err (bad_property (codes "N_RAYS") Shape)
  pub not_second : ¬ (IsFirst (AtKey Cone two_keys) (1 ∷ 0 ∷ 1 ∷ []) Number)
  pub other_key : ¬ (AtKey Cone (member (codes "COLOUR") x no_members) (0 ∷ []) Shape)
  pub no_programs : AtKey Polytope (with_programs nought) (0 ∷ []) Shape
  pub of_a_cone : ¬ (AtKey Cone (with_programs nought) (0 ∷ []) Shape)
  pub fifth : AtKey Polytope (with_programs (array five_programs)) (0 ∷ 4 ∷ []) Limit
  pub not_fourth : ¬ (AtKey Polytope (with_programs (array five_programs)) (0 ∷ 3 ∷ []) Limit)
  pub objective
      : AtKey Polytope (with_programs (array (two program with_text))) (0 ∷ 1 ∷ 0 ∷ 0 ∷ []) Number
