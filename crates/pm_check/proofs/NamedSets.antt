-- The set of the properties that words name, one word after another.
use Rattle.pm_check.specs.Words.{all_named}
use Rattle.pm_props.specs.Names.{property_named}
use Rattle.pm_props.specs.Sets.{only, union}
use Rattle.pm_props.specs.declared.property.PropId.{PropId}
use Rattle.pm_props.specs.declared.set.PropSet.{PropSet}
use Rattle.std.proofs.Common.{ap, fold, subst, ◌∙◌}
use Rattle.std.specs.Option.{option_and_then, option_map}
use Rattle.std.specs.Prelude.{List, None, Option, Some, ℕ, ◌∷◌, ◌≡◌}

abbrev with : PropSet → PropId → PropSet
with s p = union s (only p)

-- what the words name is put to the set before; the first word's property is put there, and then those of the others
pub next_named : (set more : PropSet) (w : List ℕ) (words rest : List (List ℕ)) (p : PropId) (all : Option PropSet) → words ≡ w ∷ rest → property_named w ≡ Some p → more ≡ union set (only p)
    → option_map (λ ps. fold (λ s p. union s (only p)) set ps) (all_named words) ≡ all → option_map (λ ps. fold (λ s p. union s (only p)) more ps) (all_named rest) ≡ all
next_named set more w words rest p all split named is before =
    by (all_named rest)
    (subst (λ z. option_map (λ ps. fold with set ps) (option_and_then (λ p. option_map (λ ps. p ∷ ps) (all_named rest)) z) ≡ all) named
    (subst (λ z. option_map (λ ps. fold with set ps) (all_named z) ≡ all) split before))
  where
    by : (x : Option (List PropId)) → option_map (λ ps. fold with set ps) (option_map (λ ps. p ∷ ps) x) ≡ all → option_map (λ ps. fold with more ps) x ≡ all
    by None h = h
    by (Some ps) h = ap (λ z. Some (fold with z ps)) is ∙ h
