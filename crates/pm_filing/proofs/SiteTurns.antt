-- Heights are held against the sites of one part after another.
use Rattle.std.proofs.Common.{refl, ◌≡◌, ◌∷◌, ◌&&◌, List, [], None, Option, Some, true}
use Rattle.std.proofs.lemmas.List.Folds.{list_all-append}
use Rattle.pm_filing.specs.FileParts.{Part}
use Rattle.pm_filing.specs.FileReadings.{Named, fits_sites, named_objectives, named_part, named_values}
use Rattle.pm_object.specs.State.{have_as_many_sites}
use Rattle.pm_object_type.specs.declared.object_type.ObjectType.{ObjectType}
use Rattle.pm_props.specs.declared.property.PropId.{PropId}
use Rattle.pm_types.specs.Values.{PropertyValue}

-- no objective is one of SITES
pub objectives_fit : (us : List (Option PropertyValue)) (p : PropId) (v : PropertyValue) → fits_sites (named_objectives us) p v ≡ true
objectives_fit [] p v = refl
objectives_fit (None ∷ us) p v = objectives_fit us p v
objectives_fit (Some u ∷ us) p v = objectives_fit us p v

pub part_and_others : (of : ObjectType) (part : Part) (parts : List Part) (p : PropId) (v : PropertyValue) → fits_sites (named_values of (part ∷ parts)) p v ≡ (fits_sites (named_part of part) p v && fits_sites (named_values of parts) p v)
part_and_others of part parts p v = list_all-append (λ (x : Named). have_as_many_sites x.property x.value p v) (named_part of part) (named_values of parts)
