-- The rules of labels, one label after another.
use Rattle.std.proofs.Common.{◌≡◌, ◌∙◌, ℕ, List, [], ◌∷◌, ◌++◌, Option, Some, None, ap, append-nil, append_assoc, refl, subst, sym}
use Rattle.std.specs.Option.{option_and_then, option_map}
use Rattle.pm_props.specs.declared.kind.RuleId.{RuleId}
use Rattle.pm_rules.specs.declared.rule.Rule.{Rule}
use Rattle.pm_printed.specs.Labels.{labelled}
use Rattle.pm_check.specs.Questions.{all_labelled}

pub nothing_before : (x : Option (List RuleId)) → option_map (λ ids. [] ++ ids) x ≡ x
nothing_before None = refl
nothing_before (Some ids) = refl

behind : (found : List RuleId) (id : RuleId) (x all : Option (List RuleId)) → option_map (λ ids. found ++ ids) (option_map (λ ids. id ∷ ids) x) ≡ all
    → option_map (λ ids. (found ++ id ∷ []) ++ ids) x ≡ all
behind found id None all h = h
behind found id (Some ids) all h = ap (λ (z : List RuleId). Some z) (append_assoc found (id ∷ []) ids) ∙ h

-- the next label's rule is put behind those before
pub next_labelled : (book : List Rule) (found : List RuleId) (w : List ℕ) (words rest : List (List ℕ)) (id : RuleId) (all : Option (List RuleId)) → words ≡ w ∷ rest
    → labelled book w ≡ Some id → option_map (λ ids. found ++ ids) (all_labelled book words) ≡ all → option_map (λ ids. (found ++ id ∷ []) ++ ids) (all_labelled book rest) ≡ all
next_labelled book found w words rest id all split is before =
    behind found id (all_labelled book rest) all
    (subst (λ (z : Option RuleId). option_map (λ ids. found ++ ids) (option_and_then (λ i. option_map (λ ids. i ∷ ids) (all_labelled book rest)) z) ≡ all) is
    (subst (λ (z : List (List ℕ)). option_map (λ ids. found ++ ids) (all_labelled book z) ≡ all) split before))

-- without a rule of one label there is none of all
pub none_labelled : (book : List Rule) (found : List RuleId) (w : List ℕ) (words rest : List (List ℕ)) (all : Option (List RuleId)) → words ≡ w ∷ rest → labelled book w ≡ None
    → option_map (λ ids. found ++ ids) (all_labelled book words) ≡ all → None ≡ all
none_labelled book found w words rest all split is before =
    subst (λ (z : Option RuleId). option_map (λ ids. found ++ ids) (option_and_then (λ i. option_map (λ ids. i ∷ ids) (all_labelled book rest)) z) ≡ all) is
    (subst (λ (z : List (List ℕ)). option_map (λ ids. found ++ ids) (all_labelled book z) ≡ all) split before)

-- behind the last label those found are all
pub last_labelled : (book : List Rule) (found : List RuleId) (words : List (List ℕ)) (all : Option (List RuleId)) → words ≡ []
    → option_map (λ ids. found ++ ids) (all_labelled book words) ≡ all → Some found ≡ all
last_labelled book found words all none before =
    ap (λ (z : List RuleId). Some z) (sym (append-nil found)) ∙ subst (λ (z : List (List ℕ)). option_map (λ ids. found ++ ids) (all_labelled book z) ≡ all) none before
