-- No standard rule is barred for an object that is untouched.
use Rattle.std.proofs.Common.{ap, eqb, inl, inr, refl, subst, sym, true≢false}
use Rattle.std.proofs.lemmas.Bool.{and_parts, eqb-true, not-true, or_cases}
use Rattle.std.proofs.lemmas.Option.{same_Some}
use Rattle.std.proofs.lemmas.List.Sums.{AllPass-from_list_all}
use Rattle.std.specs.List.{list_all}
use Rattle.std.specs.Option.{is_some}
use Rattle.std.specs.Prelude.{Bool, List, Option, Some, [], false, map, not, slice_get, suc, true, zero, ℕ, ◌&&◌, ◌||◌, ◌∷◌, ◌≡◌}
use Rattle.pm_vector.proofs.Lists.{Among, among_All, here, there}
use Rattle.pm_client.specs.Starts.{has_client}
use Rattle.pm_object.specs.State.{HeldValue, is_disabled, read_at, value_of}
use Rattle.pm_props.proofs.Every.{all_properties}
use Rattle.pm_props.proofs.Numbers.{number_is}
use Rattle.pm_props.specs.Properties.{every_property, number}
use Rattle.pm_props.specs.Sets.{has, only, union}
use Rattle.pm_props.specs.declared.kind.RuleId.{RuleId}
use Rattle.pm_props.specs.declared.property.PropId.{PropId}
use Rattle.pm_props.specs.declared.property.PropId.TheVariants.{Bounded, Simplicial}
use Rattle.pm_rounds.specs.Chains.{is_barred_on, is_excluded, is_truth, is_wrong, some_wrong}
use Rattle.pm_rounds.specs.Events.{Configuration}
use Rattle.pm_rules.specs.declared.rule.Rule.{Rule}
use Rattle.pm_standard.specs.Book.{standard_rule}
use Rattle.pm_standard.specs.Table.{standard_clients, standard_kind}
use Rattle.pm_standard.specs.declared.standard.StandardClient.{StandardClient}
use Rattle.pm_laws_complete.proofs.Free.{false_parts, none_of}
use Rattle.pm_laws_complete.proofs.Runs.{implied}
use Rattle.pm_laws_complete.specs.Given.{IsUntouched, UntouchedBarsNothing}

-- ---- the rule of a place is that of a standard client
client_at : (ks : List StandardClient) (n : ℕ) (rule : Rule) → slice_get (map standard_rule ks) n ≡ Some rule → (k : StandardClient) × Among k ks × (standard_rule k ≡ rule)
client_at [] n rule at = absurd (true≢false (sym (ap is_some at)))
client_at (k ∷ ks) zero rule at = (k, here, same_Some (standard_rule k) rule at)
client_at (k ∷ ks) (suc n) rule at = let (j, i, e) = client_at ks n rule at in (j, there i, e)

passes : (test : StandardClient → Bool) {k : StandardClient} → list_all test standard_clients ≡ true → Among k standard_clients → test k ≡ true
passes test h i = among_All (λ c. test c ≡ true) i (AllPass-from_list_all test standard_clients h)

-- ---- what standard rules need
-- the property is no precondition of it, or is BOUNDED or SIMPLICIAL and has to be true
abbrev needs_two : Rule → PropId → Bool
needs_two rule p = (not (has rule.must p) || (eqb (number p) 16 || eqb (number p) 21)) && not (has rule.must_not p)

all_need_two : list_all (λ k. list_all (needs_two (standard_rule k)) every_property) standard_clients ≡ true
unfolding only union has
all_need_two = refl

right_where : (a b c d : Bool) → (a ≡ true → b ≡ false) → c ≡ false → (a && b || c && d) ≡ false
right_where true b c d h e = rw (h refl, e) refl
right_where false b c d h e = rw e refl

module _ (sub : Option ℕ) (c : Configuration) (untouched : IsUntouched sub c) where
  abbrev read : List HeldValue
  read = read_at sub c.object.held

  never_false : (p : PropId) → (eqb (number p) 16 || eqb (number p) 21) ≡ true → is_truth false (value_of p read) ≡ false
  never_false p h = elim (or_cases (eqb (number p) 16) (eqb (number p) 21) h) [
    | inl e ↦ subst (λ q. is_truth false (value_of q read) ≡ false) (sym (number_is p Bounded (eqb-true (number p) 16 e))) untouched.bounded
    | inr e ↦ subst (λ q. is_truth false (value_of q read) ≡ false) (sym (number_is p Simplicial (eqb-true (number p) 21 e))) untouched.simplicial
  ]

  right : (rule : Rule) → list_all (needs_two rule) every_property ≡ true → (p : PropId) → is_wrong rule read p ≡ false
  right rule h p =
      let parts = and_parts (not (has rule.must p) || (eqb (number p) 16 || eqb (number p) 21)) (not (has rule.must_not p)) (all_properties (needs_two rule) h p) in
      right_where (has rule.must p) (is_truth false (value_of p read)) (has rule.must_not p) (is_truth true (value_of p read))
      (λ must. never_false p (implied (has rule.must p) (eqb (number p) 16 || eqb (number p) 21) parts.0 must)) (not-true (has rule.must_not p) parts.1)

  free : (id : RuleId) (k : StandardClient) → Among k standard_clients → is_barred_on c.clients c.object sub id (standard_rule k) ≡ false
  free id k i =
      let rule = standard_rule k in
      false_parts (is_excluded c.object sub id rule) (some_wrong rule read) (is_disabled rule.label c.object.disabled) (has_client rule.kind c.clients)
      (ap (λ z. is_excluded (record c.object { excluded = z }) sub id rule) untouched.excluded)
      (none_of (is_wrong rule read) every_property (right rule (passes (λ j. list_all (needs_two (standard_rule j)) every_property) all_need_two i)))
      (ap (is_disabled rule.label) untouched.disabled)
      (passes (λ j. has_client (standard_kind j) c.clients) untouched.clients i)

pub untouched_bars_nothing : UntouchedBarsNothing
untouched_bars_nothing sub c untouched id rule at =
    let (k, i, e) = client_at standard_clients id.0 rule at in
    subst (λ (r : Rule). is_barred_on c.clients c.object sub id r ≡ false) e (free sub c untouched id k i)
