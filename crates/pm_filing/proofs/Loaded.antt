-- An object that is made of a file is honest.
use Rattle.pm_vector.proofs.Filters.{map_among}
use Rattle.pm_vector.proofs.Lists.{Among, among_Contains, among_append}
use Rattle.pm_vector.specs.Numbers.{Ratio}
use Rattle.pm_files.specs.Files.{SavedFile, SavedProgram}
use Rattle.pm_filing.specs.Filing.{loaded_value, objective_held, objectives_held, origin_in, unsettled_object}
use Rattle.pm_filing.specs.Laws.{LoadedIsKept}
use Rattle.pm_object.proofs.Formed.{only}
use Rattle.pm_object.proofs.Honesty.{based_is_kept, empty_is_kept, honesty_is_of_values, settled_is_kept}
use Rattle.pm_object.specs.Honest.{IsKept, is_based}
use Rattle.pm_object.specs.State.{HeldValue, empty_object, with_held}
use Rattle.pm_object.specs.declared.held.Origin.TheVariants as origin
use Rattle.pm_props.specs.Sets.{has}
use Rattle.pm_props.specs.declared.property.PropId.{PropId}
use Rattle.pm_rules.specs.declared.rule.Rule.{Rule}
use Rattle.std.proofs.Common.{ap, false, inl, inr, refl, true, ◌∙◌}
use Rattle.std.specs.Prelude.{Bool, List, Option, Some, None, [], map, suc, ℕ, if◌then◌else◌, ◌++◌, ◌∷◌, ◌≡◌}

-- a value of a file was given or is stored
origin_is_based : (stored : _) (p : PropId) → is_based (origin_in stored p) ≡ true
origin_is_based stored p = by (has stored p)
  where
    by : (b : Bool) → is_based (if b then origin.Stored else origin.Given) ≡ true
    by true = refl
    by false = refl

value_is_based : (f : SavedFile) (h : HeldValue) → Among h (map (loaded_value f.stored) f.values) → is_based h.origin ≡ true
value_is_based f h i =
    let (v, j, is) = map_among (loaded_value f.stored) f.values i in
    ap (λ z. is_based z.origin) is ∙ origin_is_based f.stored v.0

-- an objective was given
objective_is_based : (k : ℕ) (ps : List SavedProgram) (h : HeldValue) → Among h (objectives_held k ps) → is_based h.origin ≡ true
objective_is_based k [] h i = elim i [ ]
objective_is_based k (p ∷ ps) h i = elim (among_append (objective_held k p.objective) (objectives_held (suc k) ps) i) [
  | inl j ↦ by p.objective j
  | inr j ↦ objective_is_based (suc k) ps h j
]
  where
    by : (o : Option (List (List Ratio))) → Among h (objective_held k o) → is_based h.origin ≡ true
    by None j = elim j [ ]
    by (Some rows) j = ap (λ (z : HeldValue). is_based z.origin) (only j)

unsettled_is_kept : (book : List Rule) (f : SavedFile) → IsKept (unsettled_object book f)
unsettled_is_kept book f =
    let values = map (loaded_value f.stored) f.values in
    let all = values ++ objectives_held 0 f.programs in
    let given : (h : HeldValue) → Among h all → is_based h.origin ≡ true =
    λ h i. elim (among_append values (objectives_held 0 f.programs) i) [ inl j ↦ value_is_based f h j | inr j ↦ objective_is_based 0 f.programs h j ] in
    let held = based_is_kept (empty_object f.of) all refl (λ h i. given h (among_Contains all i)) (empty_is_kept f.of) in
    record { honest = honesty_is_of_values (with_held (empty_object f.of) all) (unsettled_object book f) refl refl held.honest; based = held.based }

pub loaded_is_kept : LoadedIsKept
loaded_is_kept book f = settled_is_kept (unsettled_object book f) (unsettled_is_kept book f)
