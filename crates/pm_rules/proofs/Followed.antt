-- A chain, followed on a set that lacks only names that nobody needs.
use Rattle.std.proofs.Common.{◌≡◌, ℕ, ◌≤◌, Bool, true, IsTrue, Option, Some, List, ◌∷◌, ◌⊎◌, inl, inr, sum_by, unwrap_or, option_map, sym, ap, ◌∙◌, subst, arith}
use Rattle.std.proofs.lemmas.List.Sums.{sum_by-cons}
use Rattle.std.proofs.lemmas.Bool.{or_cases, or_left, or_right, false_from_ne_true, both_ways}
use Rattle.pm_props.specs.declared.property.PropId.{PropId}
use Rattle.pm_props.specs.declared.set.PropSet.{PropSet}
use Rattle.pm_props.specs.declared.kind.RuleId.{RuleId}
use Rattle.pm_props.specs.Sets.{has, union, IsSubset}
use Rattle.pm_weights.specs.Weights.{IsAtMost}
use Rattle.pm_props.specs.Properties.{rays_tag, facets_tag, generators_tag, half_spaces_tag}
use Rattle.pm_props.proofs.Members.{has-union}
use Rattle.pm_weights.proofs.CostOrder.{at_most_from_parts}
use Rattle.pm_rules.specs.declared.rule.Rule.{Rule}
use Rattle.pm_rules.specs.Rules.{rule_at, IsFreeOf, IsEnabled}
use Rattle.pm_rules.specs.Chains.{IsChain, targets_at, weight_at, reached, weigh, LeadsTo, Needed, IsUseful, IsUsefulPart}
use Rattle.pm_rules.specs.Chains.Needed.{is_asked, is_read}
use Rattle.pm_rules.specs.Chains.IsUsefulPart.{none, keep, leave}

-- ---- unions
pub in_union_left : (s t : PropSet) (p : PropId) → has s p ≡ true → has (union s t) p ≡ true
in_union_left s t p h = has-union s t p ∙ or_left (has s p) (has t p) h

pub in_union_right : (s t : PropSet) (p : PropId) → has t p ≡ true → has (union s t) p ≡ true
in_union_right s t p h = has-union s t p ∙ or_right (has s p) (has t p) h

pub in_union_cases : (s t : PropSet) (p : PropId) → has (union s t) p ≡ true → (has s p ≡ true) ⊎ (has t p ≡ true)
in_union_cases s t p h = or_cases (has s p) (has t p) (sym (has-union s t p) ∙ h)

-- ---- what stands in a book
pub targets_at_is : (book : List Rule) (id : RuleId) (rule : Rule) → rule_at book id ≡ Some rule → targets_at book id ≡ rule.kind.targets
targets_at_is book id rule e = ap (λ (o : Option Rule). unwrap_or (option_map (λ (r : Rule). r.kind.targets) o) 0) e

some_same : {X : Type 0} (x y : X) → Some x ≡ Some y → x ≡ y
some_same x y e = cc

module _ (book : List Rule) (names : PropSet) (barred : List RuleId) where
  -- the first rule of a chain is enabled, and the rest is a chain after it
  pub chain_parts : (held : PropSet) (id : RuleId) (chain : List RuleId) (rule : Rule) → rule_at book id ≡ Some rule → IsChain book names barred held (id ∷ chain)
      → IsEnabled names barred held id rule × IsChain book names barred (union held rule.kind.targets) chain
  chain_parts held id chain rule e h =
      let same : h.0 ≡ rule = some_same h.0 rule (sym h.1 ∙ e) in (
        subst (λ (r : Rule). IsEnabled names barred held id r) same h.2,
        subst (λ (r : Rule). IsChain book names barred (union held r.kind.targets) chain) same h.3,
      )

-- part has of full all names that are needed, and no others
pub record Follows (book : List Rule) (names : PropSet) (barred : List RuleId) (asked full part : PropSet) : Type 0 where
  pub within : IsSubset part full
  pub needed : (p : PropId) → Needed book names barred asked p → IsTrue (has full p) → IsTrue (has part p)

module _ (book : List Rule) (names : PropSet) (barred : List RuleId) (asked : PropSet) where
  pub follows_itself : (held : PropSet) → Follows book names barred asked held held
  follows_itself held = record { within = λ p h. h; needed = λ p n h. h }

  pub follows_useful : (full part targets : PropSet) → Follows book names barred asked full part → Follows book names barred asked (union full targets) (union part targets)
  follows_useful full part targets f = record {
    within = λ p h. elim (in_union_cases part targets p h) [
      | inl k ↦ in_union_left full targets p (f.within p k)
      | inr k ↦ in_union_right full targets p k
    ];
    needed = λ p n h. elim (in_union_cases full targets p h) [
      | inl k ↦ in_union_left part targets p (f.needed p n k)
      | inr k ↦ in_union_right part targets p k
    ];
  }

  pub follows_useless : (full part targets : PropSet) → ((p : PropId) → IsTrue (has targets p) → Needed book names barred asked p → ⊥)
      → Follows book names barred asked full part → Follows book names barred asked (union full targets) part
  follows_useless full part targets none_needed f = record {
    within = λ p h. in_union_left full targets p (f.within p h);
    needed = λ p n h. elim (in_union_cases full targets p h) [
      | inl k ↦ f.needed p n k
      | inr k ↦ absurd (none_needed p k n)
    ];
  }

  free_in_part : (full part : PropSet) (tag : PropId → Bool) → Follows book names barred asked full part → IsFreeOf tag full → IsFreeOf tag part
  free_in_part full part tag f free = λ p h. free p (f.within p h)

  -- a useful rule that is enabled at full is enabled at part
  pub enabled_in_part : (full part : PropSet) (id : RuleId) (rule : Rule) → rule_at book id ≡ Some rule → Follows book names barred asked full part
      → IsUseful book names barred asked id rule → IsEnabled names barred full id rule → IsEnabled names barred part id rule
  enabled_in_part full part id rule e f u h = record {
    in_use = h.in_use;
    allowed = h.allowed;
    given = λ p k. f.needed p (is_read id rule u.target.0 e u.in_use u.allowed u.target.1 u.target.2 k) (h.given p k);
    fresh = (
      (λ k. free_in_part full part rays_tag f (h.fresh.0 k)),
      (λ k. free_in_part full part facets_tag f (h.fresh.1 k)),
      (λ k. free_in_part full part generators_tag f (h.fresh.2 k)),
      (λ k. free_in_part full part half_spaces_tag f (h.fresh.3 k)),
    );
    more = (h.more.0, h.more.1, false_from_ne_true (has part h.more.0) (λ k. both_ways (has full h.more.0) h.more.2 (f.within h.more.0 k)));
  }

  -- no target of a rule that is not useful is needed
  pub none_needed : (full : PropSet) (id : RuleId) (rule : Rule) → IsEnabled names barred full id rule → (IsUseful book names barred asked id rule → ⊥)
      → (p : PropId) → IsTrue (has rule.kind.targets p) → Needed book names barred asked p → ⊥
  none_needed full id rule h not p k n = not (record { in_use = h.in_use; allowed = h.allowed; target = (p, k, n) })

  -- asked names that full holds are in part
  pub asked_in_part : (full part : PropSet) → Follows book names barred asked full part → IsSubset asked full → IsSubset asked part
  asked_in_part full part f h = λ p k. f.needed p (is_asked k) (h p k)

  -- ---- the useful part of a chain
  kept_chain : {chain kept : List RuleId} → IsUsefulPart book names barred asked chain kept → (full part : PropSet) → Follows book names barred asked full part
      → IsChain book names barred full chain
      → IsChain book names barred part kept × Follows book names barred asked (reached book full chain) (reached book part kept)
  kept_chain none full part f h = (tt, f)
  kept_chain (keep {id} {chain} {kept} rule e u more) full part f h =
      let parts = chain_parts book names barred full id chain rule e h in
      let rest = kept_chain more (union full rule.kind.targets) (union part rule.kind.targets) (follows_useful full part rule.kind.targets f) parts.1 in
      rw (targets_at_is book id rule e) ((rule, e, enabled_in_part full part id rule e f u parts.0, rest.0), rest.1)
  kept_chain (leave {id} {chain} {kept} rule e not more) full part f h =
      let parts = chain_parts book names barred full id chain rule e h in
      let rest = kept_chain more (union full rule.kind.targets) part (follows_useless full part rule.kind.targets (none_needed full id rule parts.0 not) f) parts.1 in
      rw (targets_at_is book id rule e) (rest.0, rest.1)

  kept_sum : (f : RuleId → ℕ) {chain kept : List RuleId} → IsUsefulPart book names barred asked chain kept → sum_by f kept ≤ sum_by f chain
  kept_sum f none = omega arith
  kept_sum f (keep {id} {chain} {kept} rule e u more) =
      omega (arith, kept_sum f more, sum_by-cons f id chain, sum_by-cons f id kept)
  kept_sum f (leave {id} {chain} {kept} rule e not more) = omega (arith, kept_sum f more, sum_by-cons f id chain)

  pub useful_part_leads : (held : PropSet) (chain kept : List RuleId) → LeadsTo book names barred held asked chain → IsUsefulPart book names barred asked chain kept
      → LeadsTo book names barred held asked kept × IsAtMost (weigh book kept) (weigh book chain)
  useful_part_leads held chain kept h u =
      let both = kept_chain u held held (follows_itself held) h.enabled in (
        record { enabled = both.0; ends = asked_in_part (reached book held chain) (reached book held kept) both.1 h.ends },
        at_most_from_parts (weigh book kept) (weigh book chain) (kept_sum (λ id. (weight_at book id).class) u) (kept_sum (λ id. (weight_at book id).minor) u),
      )
