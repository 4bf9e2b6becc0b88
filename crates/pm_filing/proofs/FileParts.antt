-- Of formed parts the values and the objectives are formed; files with the same parts are the same.
use Rattle.std.proofs.Common.{refl, ◌≡◌, ◌∷◌, ℕ, List, [], true}
use Rattle.std.proofs.lemmas.Bool.{and_from, and_parts}
use Rattle.std.specs.List.{list_all}
use Rattle.pm_object_type.specs.declared.object_type.ObjectType.{ObjectType}
use Rattle.pm_props.specs.declared.property.PropId.{PropId}
use Rattle.pm_types.specs.Forms.{is_formed}
use Rattle.pm_types.specs.Values.{PropertyValue}
use Rattle.pm_filing.specs.FileParts.{Part, value, programs}
use Rattle.pm_files.specs.Files.{Mark, SavedFile, SavedProgram}
use Rattle.pm_filing.specs.Profiles.{objectives_in, values_in}
use Rattle.pm_filing.specs.ReadingViews.{are_formed_parts, are_formed_values, is_formed_objective}
use Rattle.pm_filing.proofs.PartTurns.{all-append}

pub objectives-formed : (parts : List Part) → are_formed_parts parts ≡ true → list_all is_formed_objective (objectives_in parts) ≡ true
objectives-formed [] h = refl
objectives-formed (value p v ∷ parts) h = objectives-formed parts (and_parts (is_formed p v) (are_formed_parts parts) h).1
objectives-formed (programs vs ∷ parts) h =
    let both = and_parts (list_all is_formed_objective vs) (are_formed_parts parts) h in
    all-append is_formed_objective vs (objectives_in parts) both.0 (objectives-formed parts both.1)

pub values-formed : (parts : List Part) → are_formed_parts parts ≡ true → are_formed_values (values_in parts) ≡ true
values-formed [] h = refl
values-formed (value p v ∷ parts) h =
    let both = and_parts (is_formed p v) (are_formed_parts parts) h in
    and_from (is_formed p v) (are_formed_values (values_in parts)) both.0 (values-formed parts both.1)
values-formed (programs vs ∷ parts) h = values-formed parts (and_parts (list_all is_formed_objective vs) (are_formed_parts parts) h).1

abbrev pub file : ObjectType → ℕ → List Mark → List (PropId × PropertyValue) → List SavedProgram → List (List ℕ) → SavedFile
file of stored failed vs ps names = record { of = of; values = vs; stored = stored; failed = failed; programs = ps; ignored = names }

pub same-file : (of : ObjectType) (stored : ℕ) (failed : List Mark) (vs ws : List (PropId × PropertyValue)) (ps qs : List SavedProgram) (names others : List (List ℕ)) → vs ≡ ws → ps ≡ qs → names ≡ others
    → file of stored failed vs ps names ≡ file of stored failed ws qs others
same-file of stored failed vs ws ps qs names others e f g = rw (e, f, g) refl
