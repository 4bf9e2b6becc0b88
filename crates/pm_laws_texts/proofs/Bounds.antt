-- How long chains are, what they cost, and which names they reach: each rule of a chain adds a property that was not held.
use Rattle.std.proofs.Common.{◌≡◌, ◌∙◌, ℕ, ◌+◌, ◌*◌, ◌<◌, ◌≤◌, ◌^◌, Bool, true, false, not, cond, get_or, Option, Some, List, [], ◌∷◌, length, option_map, unwrap_or, count_by, ap, arith, refl, subst, sym}
use Rattle.std.specs.Prelude.{All, fold}
use Rattle.std.proofs.lemmas.Bool.{false≢true}
use Rattle.std.proofs.lemmas.List.Elements.{All-cons, All-nil}
use Rattle.std.proofs.lemmas.List.Sums.{count_by-le-length, sum_by-cons}
use Rattle.std.proofs.lemmas.Option.{same_Some, slice_get-get_or, slice_get_within}
use Rattle.pm_limits.specs.Limits.{most_weight}
use Rattle.pm_vector.proofs.Lists.{Among, here, there}
use Rattle.pm_props.specs.declared.property.PropId.{PropId}
use Rattle.pm_props.specs.declared.set.PropSet.{PropSet}
use Rattle.pm_props.specs.declared.kind.RuleId.{RuleId}
use Rattle.pm_props.specs.Properties.{count, every_property}
use Rattle.pm_props.specs.Sets.{has, only, union}
use Rattle.pm_props.proofs.Every.{among_every}
use Rattle.pm_props.proofs.Members.{only_below, union_below}
use Rattle.pm_rules.specs.Books.{IsBook, IsRule}
use Rattle.pm_rules.specs.Chains.{IsChain, reached, weigh, weight_at}
use Rattle.pm_rules.specs.Rules.{rule_at}
use Rattle.pm_rules.specs.declared.rule.Rule.{Rule}
use Rattle.pm_weights.specs.declared.Weight.{Weight}
use Rattle.pm_rules.proofs.Followed.{in_union_left, in_union_right, targets_at_is}
use Rattle.pm_printed.specs.Printed.{IsCost, IsOfBook}

-- ---- how many properties a set lacks
abbrev lacks : PropSet → PropId → Bool
lacks s p = not (has s p)

abbrev free : PropSet → List PropId → ℕ
free s ps = count_by (lacks s) ps

counted : (s : PropSet) (p : PropId) (ps : List PropId) → free s (p ∷ ps) ≡ cond (lacks s p) 1 0 + free s ps
counted s p ps = sum_by-cons (λ (q : PropId). cond (lacks s q) 1 0) p ps

lacked_before : (s t : PropSet) (p : PropId) → lacks (union s t) p ≡ true → lacks s p ≡ true
lacked_before s t p h = by (has s p) refl
  where
    by : (b : Bool) → has s p ≡ b → lacks s p ≡ true
    by false e = ap not e
    by true e = absurd (false≢true (sym (ap not (in_union_left s t p e)) ∙ h))

-- a greater set lacks no more
no_more : (s t : PropSet) (p : PropId) → cond (lacks (union s t) p) 1 0 ≤ cond (lacks s p) 1 0
no_more s t p = by (lacks (union s t) p) (lacks s p) (lacked_before s t p)
  where
    by : (b c : Bool) → (b ≡ true → c ≡ true) → cond b 1 0 ≤ cond c 1 0
    by false c h = omega arith
    by true true h = omega arith
    by true false h = absurd (false≢true (h refl))

no_more_of : (s t : PropSet) (ps : List PropId) → free (union s t) ps ≤ free s ps
no_more_of s t [] = omega arith
no_more_of s t (p ∷ ps) = omega (arith, counted (union s t) p ps, counted s p ps, no_more s t p, no_more_of s t ps)

-- and one less, where a property is new
one_less : (s t : PropSet) (p : PropId) → has s p ≡ false → has t p ≡ true → cond (lacks (union s t) p) 1 0 + 1 ≡ cond (lacks s p) 1 0
one_less s t p before new =
    let after : lacks (union s t) p ≡ false = ap not (in_union_right s t p new) in
    let lacked : lacks s p ≡ true = ap not before in
    ap (λ (b : Bool). cond b 1 0 + 1) after ∙ sym (ap (λ (b : Bool). cond b 1 0) lacked)

less_of : (s t : PropSet) (p : PropId) (ps : List PropId) → has s p ≡ false → has t p ≡ true → Among p ps → free (union s t) ps < free s ps
less_of s t p [] before new x = elim x [ ]
less_of s t p (q ∷ ps) before new here = omega (arith, counted (union s t) q ps, counted s q ps, one_less s t q before new, no_more_of s t ps)
less_of s t p (q ∷ ps) before new (there among) = omega (arith, counted (union s t) q ps, counted s q ps, no_more s t q, less_of s t p ps before new among)

-- ---- chains
module _ (book : List Rule) (is : IsBook book) (names : PropSet) (barred : List RuleId) where
  -- a chain is no longer than what is not held
  short : (held : PropSet) (chain : List RuleId) → IsChain book names barred held chain → length chain ≤ free held every_property
  short held [] h = omega arith
  short held (id ∷ chain) (rule, at, enabled, rest) =
      let p = enabled.more.0 in
      let less = less_of held rule.kind.targets p every_property enabled.more.2 enabled.more.1 (among_every p) in
      let others = short (union held rule.kind.targets) chain rest in
      omega arith

  pub shorter : (held : PropSet) (chain : List RuleId) → IsChain book names barred held chain → length chain ≤ count
  shorter held chain h = omega (arith, short held chain h, count_by-le-length (lacks held) every_property)

  rule_is : (id : RuleId) (rule : Rule) → rule_at book id ≡ Some rule → IsRule rule
  rule_is id rule at =
      let within = slice_get_within book id.0 rule at in
      let same : get_or book id.0 rule ≡ rule = same_Some (get_or book id.0 rule) rule (sym (slice_get-get_or book id.0 rule within) ∙ at) in
      subst IsRule same (is.each id.0 rule within)

  -- its rules are of the book
  pub of_book : (held : PropSet) (chain : List RuleId) → IsChain book names barred held chain → All (IsOfBook book) chain
  of_book held [] h = All-nil (IsOfBook book)
  of_book held (id ∷ chain) (rule, at, enabled, rest) =
      All-cons (IsOfBook book) id chain (slice_get_within book id.0 rule at) (of_book (union held rule.kind.targets) chain rest)

  weight_is : (id : RuleId) (rule : Rule) → rule_at book id ≡ Some rule → weight_at book id ≡ rule.weight
  weight_is id rule at = ap (λ (o : Option Rule). unwrap_or (option_map (λ (r : Rule). r.weight) o) (record { class = 0; minor = 0 })) at

  -- each weighs no more than the greatest weight
  class_fits : (held : PropSet) (chain : List RuleId) → IsChain book names barred held chain → (weigh book chain).class ≤ most_weight * length chain
  class_fits held [] h = omega arith
  class_fits held (id ∷ chain) (rule, at, enabled, rest) =
      let others = class_fits (union held rule.kind.targets) chain rest in
      let this = (rule_is id rule at).weight.class in
      omega (arith, sum_by-cons (λ (i : RuleId). (weight_at book i).class) id chain, ap (λ (w : Weight). w.class) (weight_is id rule at))

  minor_fits : (held : PropSet) (chain : List RuleId) → IsChain book names barred held chain → (weigh book chain).minor ≤ most_weight * length chain
  minor_fits held [] h = omega arith
  minor_fits held (id ∷ chain) (rule, at, enabled, rest) =
      let others = minor_fits (union held rule.kind.targets) chain rest in
      let this = (rule_is id rule at).weight.minor in
      omega (arith, sum_by-cons (λ (i : RuleId). (weight_at book i).minor) id chain, ap (λ (w : Weight). w.minor) (weight_is id rule at))

  pub cost_fits : (held : PropSet) (chain : List RuleId) → IsChain book names barred held chain → IsCost (weigh book chain)
  cost_fits held chain h =
      let few = shorter held chain h in
      record { class = omega (arith, class_fits held chain h); minor = omega (arith, minor_fits held chain h) }

  -- and what it reaches are properties
  pub reached_below : (held : PropSet) (chain : List RuleId) → held < 2 ^ count → IsChain book names barred held chain → reached book held chain < 2 ^ count
  reached_below held [] below h = below
  reached_below held (id ∷ chain) below (rule, at, enabled, rest) =
      let targets = targets_at_is book id rule at in
      subst (λ (t : PropSet). reached book (union held t) chain < 2 ^ count) (sym targets)
      (reached_below (union held rule.kind.targets) chain (union_below held rule.kind.targets below (rule_is id rule at).targets.below) rest)

-- ---- held names
pub set_below : (s : PropSet) (ps : List PropId) → s < 2 ^ count → fold (λ (t : PropSet) (p : PropId). union t (only p)) s ps < 2 ^ count
set_below s [] below = below
set_below s (p ∷ ps) below = set_below (union s (only p)) ps (union_below s (only p) below (only_below p))
