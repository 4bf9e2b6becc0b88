-- Chains, one rule more at the end.
use Rattle.std.proofs.Common.{◌≡◌, ℕ, zero, suc, ◌+◌, ◌<◌, ◌≤◌, Bool, true, false, ◌↔◌, IsTrue, Some, List, length, get_or, [], ◌∷◌, ◌++◌, take, refl, sym, ap, ◌∙◌, subst}
use Rattle.std.proofs.lemmas.Bool.{iff_false}
use Rattle.std.proofs.lemmas.List.{take_all, take_more}
use Rattle.pm_props.specs.declared.set.PropSet.{PropSet}
use Rattle.pm_props.specs.declared.kind.RuleId.{RuleId}
use Rattle.pm_props.specs.Sets.{union}
use Rattle.pm_rules.specs.declared.rule.Rule.{Rule}
use Rattle.pm_rules.specs.Rules.{rule_at, IsEnabled}
use Rattle.pm_rules.specs.Chains.{IsChain, targets_at, reached}
use Rattle.pm_rules.proofs.Followed.{targets_at_is}

module _ (rules : List Rule) (names : PropSet) (barred : List RuleId) where
  pub reached_more : (held : PropSet) (xs : List RuleId) (id : RuleId) → reached rules held (xs ++ id ∷ []) ≡ union (reached rules held xs) (targets_at rules id)
  reached_more held [] id = refl
  reached_more held (x ∷ xs) id = reached_more (union held (targets_at rules x)) xs id

  pub chain_more : (held : PropSet) (xs : List RuleId) (id : RuleId) → IsChain rules names barred held xs → IsChain rules names barred (reached rules held xs) (id ∷ [])
      → IsChain rules names barred held (xs ++ id ∷ [])
  chain_more held [] id h k = k
  chain_more held (x ∷ xs) id h k =
      let at : targets_at rules x ≡ h.0.kind.targets = targets_at_is rules x h.0 h.1 in
      (h.0, h.1, h.2, chain_more (union held h.0.kind.targets) xs id h.3 (subst (λ s. IsChain rules names barred (reached rules (union held s) xs) (id ∷ [])) at k))

  pub chain_last : (held : PropSet) (xs : List RuleId) (id : RuleId) → IsChain rules names barred held (xs ++ id ∷ []) → IsChain rules names barred (reached rules held xs) (id ∷ [])
  chain_last held [] id h = h
  chain_last held (x ∷ xs) id h =
      let at : targets_at rules x ≡ h.0.kind.targets = targets_at_is rules x h.0 h.1 in
      subst (λ s. IsChain rules names barred (reached rules (union held s) xs) (id ∷ [])) (sym at) (chain_last (union held h.0.kind.targets) xs id h.3)

  -- the first rules of a chain are a chain
  pub chain_front : (held : PropSet) (n : ℕ) (xs : List RuleId) → IsChain rules names barred held xs → IsChain rules names barred held (take n xs)
  chain_front held zero xs h = tt
  chain_front held (suc n) [] h = h
  chain_front held (suc n) (x ∷ xs) h = (h.0, h.1, h.2, chain_front (union held h.0.kind.targets) n xs h.3)

  pub whole_chain : (held : PropSet) (n : ℕ) (xs : List RuleId) → length xs ≤ n → IsChain rules names barred held (take n xs) → IsChain rules names barred held xs
  whole_chain held n xs all h = subst (λ (ys : List RuleId). IsChain rules names barred held ys) (take_all n xs all) h

  -- the first k + 1 rules are the first k, and the next one
  next_is : (chain : List RuleId) (k : ℕ) (id : RuleId) → k < length chain → id ≡ get_or chain k id → take (k + 1) chain ≡ take k chain ++ id ∷ []
  next_is chain k id l at = take_more chain k id l ∙ ap (λ z. take k chain ++ z ∷ []) (sym at)

  pub stops_there : {id : RuleId} {b : Bool} (held set : PropSet) (chain : List RuleId) (k : ℕ) → IsTrue b ↔ IsChain rules names barred set (id ∷ []) → b ≡ false → k < length chain
      → id ≡ get_or chain k id → set ≡ reached rules held (take k chain) → IsChain rules names barred held (take (k + 1) chain) → ⊥
  stops_there {id} held set chain k exact fails l at is h =
      let more : IsChain rules names barred held (take k chain ++ id ∷ []) = subst (λ (ys : List RuleId). IsChain rules names barred held ys) (next_is chain k id l at) h in
      iff_false exact fails (subst (λ s. IsChain rules names barred s (id ∷ [])) (sym is) (chain_last held (take k chain) id more))

  pub goes_there : {id : RuleId} {b : Bool} (held set : PropSet) (chain : List RuleId) (k : ℕ) → IsTrue b ↔ IsChain rules names barred set (id ∷ []) → b ≡ true → k < length chain
      → id ≡ get_or chain k id → set ≡ reached rules held (take k chain) → IsChain rules names barred held (take k chain) → IsChain rules names barred held (take (k + 1) chain)
  goes_there {id} held set chain k exact holds l at is h =
      subst (λ (ys : List RuleId). IsChain rules names barred held ys) (sym (next_is chain k id l at))
      (chain_more held (take k chain) id h (subst (λ s. IsChain rules names barred s (id ∷ [])) is (exact.0 holds)))

  pub reaches_there : {id : RuleId} (held set : PropSet) (chain : List RuleId) (k : ℕ) → k < length chain → id ≡ get_or chain k id → set ≡ reached rules held (take k chain)
      → union set (targets_at rules id) ≡ reached rules held (take (k + 1) chain)
  reaches_there {id} held set chain k l at is =
      ap (λ s. union s (targets_at rules id)) is ∙ sym (reached_more held (take k chain) id) ∙ sym (ap (reached rules held) (next_is chain k id l at))
