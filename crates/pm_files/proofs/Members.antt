-- What stands in a file under a key.
use Rattle.std.proofs.Common.{refl, sym, ◌∙◌, ◌≡◌, ◌++◌, ◌∷◌, ℕ, List, [], Some, true, false, bytes_eq, true≢false}
use Rattle.std.proofs.lemmas.Bool.{and_parts, not-true}
use Rattle.std.proofs.lemmas.Slice.Eq.{bytes_eq-Decides}
use Rattle.std.specs.List.{list_all}
use Rattle.std.specs.Prelude.{codes, map}
use Rattle.pm_props.specs.Properties.{name_in}
use Rattle.pm_object_type.specs.declared.object_type.ObjectType.{ObjectType}
use Rattle.pm_object_type.specs.declared.object_type.ObjectType.TheVariants.{Polytope, Cone, Fan}
use Rattle.pm_props.specs.declared.property.PropId.{PropId}
use Rattle.pm_props.specs.declared.property.PropId.TheVariants.{ConeAmbientDim}
use Rattle.pm_types.specs.Values.{PropertyValue}
use Rattle.serde_json.proofs.Views.{get_member-put, get_member-put_other}
use Rattle.serde_json.specs.Data.{Members, put, string}
use Rattle.serde_json.specs.Find.{get_member}
use Rattle.pm_files.specs.Files.{SavedFile, SavedProgram, contents, heading, is_other_name, program_json, stored_keys, with_programs, with_values}
use Rattle.pm_files.specs.Laws.{FilesHoldTheirType, FilesHoldTheirValues}
use Rattle.pm_files.specs.ValueJson.{array_of, json_of}

differ : (xs ys : List ℕ) → bytes_eq xs ys ≡ false → xs ≡ ys → ⊥
differ xs ys h e = true≢false (sym ((bytes_eq-Decides xs ys).1 e) ∙ h)

-- ---- no property has the name of another key
pub no_programs : (of : ObjectType) (p : PropId) → bytes_eq (name_in of p) (codes "LP") ≡ false
no_programs Polytope ConeAmbientDim = refl
no_programs Polytope p = refl
no_programs Cone ConeAmbientDim = refl
no_programs Cone p = refl
no_programs Fan ConeAmbientDim = refl
no_programs Fan p = refl

pub not_computed : (of : ObjectType) (p : PropId) → bytes_eq (name_in of p) (codes "_computed") ≡ false
not_computed Polytope ConeAmbientDim = refl
not_computed Polytope p = refl
not_computed Cone ConeAmbientDim = refl
not_computed Cone p = refl
not_computed Fan ConeAmbientDim = refl
not_computed Fan p = refl

no_type : (of : ObjectType) (p : PropId) → is_other_name of (codes "_type") p ≡ true
no_type Polytope ConeAmbientDim = refl
no_type Polytope p = refl
no_type Cone ConeAmbientDim = refl
no_type Cone p = refl
no_type Fan ConeAmbientDim = refl
no_type Fan p = refl

-- ---- values
pub others : (of : ObjectType) (key : List ℕ) (vs : List (PropId × PropertyValue)) (ms : Members) → list_all (λ w. is_other_name of key w.0) vs ≡ true
    → get_member key (with_values of vs ms) ≡ get_member key ms
others of key [] ms h = refl
others of key (w ∷ vs) ms h =
    let p = and_parts (is_other_name of key w.0) (list_all (λ x. is_other_name of key x.0) vs) h in
    others of key vs (put (name_in of w.0) (json_of w.0 w.1) ms) p.1
    ∙ get_member-put_other key (name_in of w.0) (json_of w.0 w.1) ms (differ key (name_in of w.0) (not-true (bytes_eq key (name_in of w.0)) p.0))

stands : (of : ObjectType) (before after : List (PropId × PropertyValue)) (p : PropId) (v : PropertyValue) (ms : Members) → list_all (λ w. is_other_name of (name_in of p) w.0) after ≡ true
    → get_member (name_in of p) (with_values of (before ++ (p, v) ∷ after) ms) ≡ Some (json_of p v)
stands of [] after p v ms h = others of (name_in of p) after (put (name_in of p) (json_of p v) ms) h ∙ get_member-put (name_in of p) (json_of p v) ms
stands of (w ∷ before) after p v ms h = stands of before after p v (put (name_in of w.0) (json_of w.0 w.1) ms) h

typed : (of : ObjectType) (vs : List (PropId × PropertyValue)) → list_all (λ w. is_other_name of (codes "_type") w.0) vs ≡ true
typed of [] = refl
typed of (w ∷ vs) = rw (no_type of w.0) (typed of vs)

-- ---- programs and names of stored values
pub past_programs : (key : List ℕ) (ps : List SavedProgram) (ms : Members) → bytes_eq key (codes "LP") ≡ false → get_member key (with_programs ps ms) ≡ get_member key ms
past_programs key [] ms h = refl
past_programs key (p ∷ ps) ms h = get_member-put_other key (codes "LP") (array_of (map program_json (p ∷ ps))) ms (differ key (codes "LP") h)

pub past_names : (key : List ℕ) (f : SavedFile) → bytes_eq key (codes "_computed") ≡ false
    → get_member key (put (codes "_computed") (array_of (map string (stored_keys f.of f.stored (contents f)))) (contents f)) ≡ get_member key (contents f)
past_names key f h = get_member-put_other key (codes "_computed") (array_of (map string (stored_keys f.of f.stored (contents f)))) (contents f) (differ key (codes "_computed") h)

pub values_stand : FilesHoldTheirValues
values_stand f before after p v e h =
    past_names (name_in f.of p) f (not_computed f.of p)
    ∙ past_programs (name_in f.of p) f.programs (with_values f.of f.values (heading f)) (no_programs f.of p)
    ∙ rw e (stands f.of before after p v (heading f) h)

pub type_stands : FilesHoldTheirType
type_stands f =
    past_names (codes "_type") f refl
    ∙ past_programs (codes "_type") f.programs (with_values f.of f.values (heading f)) refl
    ∙ others f.of (codes "_type") f.values (heading f) (typed f.of f.values)
