-- Rules run in turn, on names of which a part is known: what is known is held, and of what is held all that has a tag is known.
use Rattle.std.proofs.Common.{◌≡◌, Bool, true, false, not, ◌&&◌, ◌||◌, IsTrue, Option, None, Some, List, [], ◌∷◌, ◌⊎◌, ℕ, inl, inr, refl, sym, ap, subst, ◌∙◌}
use Rattle.std.specs.List.{list_all, list_any}
use Rattle.std.specs.Prelude.{option_map, slice_get}
use Rattle.std.proofs.lemmas.Bool.{and_from, and_parts, both_ways, cases_Bool, false_from_ne_true, not-true, not_from_false}
use Rattle.std.proofs.lemmas.Option.{slice_get-map}
use Rattle.pm_props.proofs.Every.{all_pass, all_properties, any_property, has-set_of_filter, one_missing}
use Rattle.pm_props.specs.Kinds.{IsFresh}
use Rattle.pm_standard.specs.Table.{standard_clients}
use Rattle.pm_props.specs.declared.kind.Kind.{Kind}
use Rattle.pm_props.specs.declared.kind.RuleId.{RuleId}
use Rattle.pm_object_type.specs.declared.object_type.ObjectType.{ObjectType}
use Rattle.pm_props.specs.declared.property.PropId.{PropId}
use Rattle.pm_props.specs.declared.set.PropSet.{PropSet}
use Rattle.pm_standard.specs.declared.standard.StandardClient.{StandardClient}
use Rattle.pm_props.specs.Properties.{every_property, facets_tag, generators_tag, half_spaces_tag, has_program, is_in_use, rays_tag}
use Rattle.pm_props.specs.Sets.{IsSubset, has, union}
use Rattle.pm_rules.proofs.Followed.{in_union_cases, in_union_left, in_union_right, targets_at_is}
use Rattle.pm_standard.specs.Book.{standard_rule, standard_rules}
use Rattle.pm_rules.specs.Chains.{IsChain, reached}
use Rattle.pm_rules.specs.Rules.{IsEnabled, IsFreeOf, IsInUse, inputs, is_barred, names_of_rule, rule_at}
use Rattle.pm_rules.specs.declared.rule.Rule.{Rule}
use Rattle.pm_laws_complete.specs.Completeness.{BarsNone, is_tagged, names_for}

-- ---- tests
abbrev implies : Bool → Bool → Bool
implies a b = not a || b

pub implied : (a b : Bool) → implies a b ≡ true → a ≡ true → b ≡ true
implied true b h k = h
implied false b h k = absurd (both_ways false refl k)

-- some name of the set has the tag
abbrev pub some_with : (PropId → Bool) → PropSet → Bool
some_with tag s = list_any (λ p. has s p && tag p) every_property

some_from : (tag : PropId → Bool) (s : PropSet) (p : PropId) → IsTrue (has s p) → IsTrue (tag p) → some_with tag s ≡ true
some_from tag s p h k = (any_property (λ q. has s q && tag q)).1 (p, and_from (has s p) (tag p) h k)

none_with : (tag : PropId → Bool) (s : PropSet) → ((p : PropId) → IsTrue (has s p) → tag p ≡ false) → some_with tag s ≡ false
none_with tag s none = false_from_ne_true (some_with tag s) (λ e.
    let found = (any_property (λ q. has s q && tag q)).0 e in
    let both = and_parts (has s found.0) (tag found.0) found.1 in
    both_ways (tag found.0) (none found.0 both.0) both.1)

-- where the kind is fresh in the tag, no name that is known has it
abbrev pub is_quiet : (PropId → Bool) → Kind → PropSet → Bool
is_quiet tag kind known = implies (some_with tag kind.targets && not (some_with tag kind.sources)) (not (some_with tag known))

free_from_quiet : (tag : PropId → Bool) (kind : Kind) (known held : PropSet) → is_quiet tag kind known ≡ true → ((p : PropId) → IsTrue (has held p) → IsTrue (tag p) → IsTrue (has known p)) → IsFresh tag kind → IsFreeOf tag held
free_from_quiet tag kind known held quiet within fresh p h = false_from_ne_true (tag p) (λ k.
    let some : some_with tag kind.targets ≡ true = some_from tag kind.targets fresh.target.0 fresh.target.1 fresh.target.2 in
    let none : some_with tag kind.sources ≡ false = none_with tag kind.sources fresh.sources in
    let no_known : not (some_with tag known) ≡ true = implied (some_with tag kind.targets && not (some_with tag kind.sources)) (not (some_with tag known)) quiet
    (and_from (some_with tag kind.targets) (not (some_with tag kind.sources)) some (not_from_false (some_with tag kind.sources) none)) in
    both_ways (some_with tag known) (not-true (some_with tag known) no_known) (some_from tag known p (within p h k) k))

-- the kind is not fresh in the tag
abbrev pub is_stale : (PropId → Bool) → Kind → Bool
is_stale tag kind = not (some_with tag kind.targets && not (some_with tag kind.sources))

-- nor in any
abbrev pub is_stale_in_all : Kind → Bool
is_stale_in_all kind = (is_stale rays_tag kind && is_stale facets_tag kind) && (is_stale generators_tag kind && is_stale half_spaces_tag kind)

not_fresh : (tag : PropId → Bool) (kind : Kind) → is_stale tag kind ≡ true → IsFresh tag kind → ⊥
not_fresh tag kind stale fresh =
    let some : some_with tag kind.targets ≡ true = some_from tag kind.targets fresh.target.0 fresh.target.1 fresh.target.2 in
    let none : some_with tag kind.sources ≡ false = none_with tag kind.sources fresh.sources in
    both_ways (some_with tag kind.targets && not (some_with tag kind.sources)) (not-true (some_with tag kind.targets && not (some_with tag kind.sources)) stale)
    (and_from (some_with tag kind.targets) (not (some_with tag kind.sources)) some (not_from_false (some_with tag kind.sources) none))

-- a name of the rule is in use, and where it is one of linear programs the rule is fresh in no tag; what is read is known
abbrev pub is_served : Option ℕ → ObjectType → PropSet → Rule → PropId → Bool
is_served sub of known rule p = implies (has (names_of_rule rule) p) (is_in_use sub of p && (not (has_program p) || is_stale_in_all rule.kind)) && implies (has (inputs rule) p) (has known p)

-- the rule may run
abbrev pub may_run : Option ℕ → ObjectType → PropSet → Rule → Bool
may_run sub of known rule = list_all (is_served sub of known rule) every_property
    && ((is_quiet rays_tag rule.kind known && is_quiet facets_tag rule.kind known) && (is_quiet generators_tag rule.kind known && is_quiet half_spaces_tag rule.kind known))

-- ---- rules of the standard book, by their numbers
abbrev pub runs_at : Option ℕ → ObjectType → PropSet → Option StandardClient → Bool
runs_at sub of known None = false
runs_at sub of known (Some c) = may_run sub of known (standard_rule c)

abbrev pub grown_at : PropSet → Option StandardClient → PropSet
grown_at known None = known
grown_at known (Some c) = union known (standard_rule c).kind.targets

abbrev pub all_run : Option ℕ → ObjectType → PropSet → List ℕ → Bool
all_run sub of known [] = true
all_run sub of known (k ∷ ks) = runs_at sub of known (slice_get standard_clients k) && all_run sub of (grown_at known (slice_get standard_clients k)) ks

abbrev pub grown : PropSet → List ℕ → PropSet
grown known [] = known
grown known (k ∷ ks) = grown (grown_at known (slice_get standard_clients k)) ks

-- ---- what is known of what is held
pub record Stands (known held : PropSet) : Type 0 where
  pub known_held : IsSubset known held
  pub tagged : (p : PropId) → IsTrue (has held p) → IsTrue (is_tagged p) → IsTrue (has known p)

-- targets that are held are known
stands_held : (known held t : PropSet) → Stands known held → IsSubset t held → Stands (union known t) held
stands_held known held t s h = record {
  known_held = λ p k. elim (in_union_cases known t p k) [ inl e ↦ s.known_held p e | inr e ↦ h p e ];
  tagged = λ p k tag. in_union_left known t p (s.tagged p k tag);
}

-- targets that are added are both
stands_added : (known held t : PropSet) → Stands known held → Stands (union known t) (union held t)
stands_added known held t s = record {
  known_held = λ p k. elim (in_union_cases known t p k) [ inl e ↦ in_union_left held t p (s.known_held p e) | inr e ↦ in_union_right held t p e ];
  tagged = λ p k tag. elim (in_union_cases held t p k) [ inl e ↦ in_union_left known t p (s.tagged p e tag) | inr e ↦ in_union_right known t p e ];
}

-- a chain of the standard book from the names held, after which all of the goal is held
pub record Found (sub : Option ℕ) (of : ObjectType) (barred : List RuleId) (held goal : PropSet) : Type 0 where
  pub chain : List RuleId
  pub enabled : IsChain standard_rules (names_for sub of) barred held chain
  pub ends : IsSubset goal (reached standard_rules held chain)

-- ---- one rule
or_tags : (a b c d : Bool) → (a ≡ true) ⊎ ((b ≡ true) ⊎ ((c ≡ true) ⊎ (d ≡ true))) → (a || b || c || d) ≡ true
or_tags true b c d h = refl
or_tags false true c d h = refl
or_tags false false true d h = refl
or_tags false false false true h = refl
or_tags false false false false h = elim h [ inl e ↦ e | inr i ↦ elim i [ inl e ↦ e | inr j ↦ elim j [ inl e ↦ e | inr e ↦ e ] ] ]

module _ (sub : Option ℕ) (of : ObjectType) (known held : PropSet) (c : StandardClient) (stands : Stands known held) (may : may_run sub of known (standard_rule c) ≡ true) where
  abbrev rule : Rule
  rule = standard_rule c

  abbrev quiet_orders : Bool
  quiet_orders = is_quiet rays_tag rule.kind known && is_quiet facets_tag rule.kind known

  abbrev quiet_halves : Bool
  quiet_halves = is_quiet generators_tag rule.kind known && is_quiet half_spaces_tag rule.kind known

  parts : (list_all (is_served sub of known rule) every_property ≡ true) × ((quiet_orders && quiet_halves) ≡ true)
  parts = and_parts (list_all (is_served sub of known rule) every_property) (quiet_orders && quiet_halves) may

  served : (p : PropId) → (implies (has (names_of_rule rule) p) (is_in_use sub of p && (not (has_program p) || is_stale_in_all rule.kind)) ≡ true) × (implies (has (inputs rule) p) (has known p) ≡ true)
  served p = and_parts (implies (has (names_of_rule rule) p) (is_in_use sub of p && (not (has_program p) || is_stale_in_all rule.kind))) (implies (has (inputs rule) p) (has known p)) (all_properties (is_served sub of known rule) parts.0 p)

  named : (p : PropId) → IsTrue (has (names_of_rule rule) p) → (is_in_use sub of p ≡ true) × ((not (has_program p) || is_stale_in_all rule.kind) ≡ true)
  named p h = and_parts (is_in_use sub of p) (not (has_program p) || is_stale_in_all rule.kind) (implied (has (names_of_rule rule) p) (is_in_use sub of p && (not (has_program p) || is_stale_in_all rule.kind)) (served p).0 h)

  used : IsInUse (names_for sub of) rule
  used = record {
    known = λ p h. has-set_of_filter (is_in_use sub of) p ∙ (named p h).0;
    programs = λ p h program.
        let stale : is_stale_in_all rule.kind ≡ true = implied (has_program p) (is_stale_in_all rule.kind) (named p h).1 program in
        let both = and_parts (is_stale rays_tag rule.kind && is_stale facets_tag rule.kind) (is_stale generators_tag rule.kind && is_stale half_spaces_tag rule.kind) stale in
        let orders = and_parts (is_stale rays_tag rule.kind) (is_stale facets_tag rule.kind) both.0 in
        let halves = and_parts (is_stale generators_tag rule.kind) (is_stale half_spaces_tag rule.kind) both.1 in
        (not_fresh rays_tag rule.kind orders.0, not_fresh facets_tag rule.kind orders.1, not_fresh generators_tag rule.kind halves.0, not_fresh half_spaces_tag rule.kind halves.1);
  }

  quiet : ((is_quiet rays_tag rule.kind known ≡ true) × (is_quiet facets_tag rule.kind known ≡ true)) × ((is_quiet generators_tag rule.kind known ≡ true) × (is_quiet half_spaces_tag rule.kind known ≡ true))
  quiet =
      let both = and_parts quiet_orders quiet_halves parts.1 in (
        and_parts (is_quiet rays_tag rule.kind known) (is_quiet facets_tag rule.kind known) both.0,
        and_parts (is_quiet generators_tag rule.kind known) (is_quiet half_spaces_tag rule.kind known) both.1,
      )

  tagged_by : (p : PropId) → (rays_tag p ≡ true) ⊎ ((facets_tag p ≡ true) ⊎ ((generators_tag p ≡ true) ⊎ (half_spaces_tag p ≡ true))) → IsTrue (has held p) → IsTrue (has known p)
  tagged_by p tag h = stands.tagged p h (or_tags (rays_tag p) (facets_tag p) (generators_tag p) (half_spaces_tag p) tag)

  -- it is enabled where some target is not held
  pub enabled_there : (p : PropId) × IsTrue (has rule.kind.targets p) × (has held p ≡ false) → (barred : List RuleId) (id : RuleId) → is_barred barred id ≡ false → IsEnabled (names_for sub of) barred held id rule
  enabled_there more barred id free = record {
    in_use = used;
    allowed = free;
    given = λ p h. stands.known_held p (implied (has (inputs rule) p) (has known p) (served p).1 h);
    fresh = (
      free_from_quiet rays_tag rule.kind known held quiet.0.0 (λ p h k. tagged_by p (inl k) h),
      free_from_quiet facets_tag rule.kind known held quiet.0.1 (λ p h k. tagged_by p (inr (inl k)) h),
      free_from_quiet generators_tag rule.kind known held quiet.1.0 (λ p h k. tagged_by p (inr (inr (inl k))) h),
      free_from_quiet half_spaces_tag rule.kind known held quiet.1.1 (λ p h k. tagged_by p (inr (inr (inr k))) h),
    );
    more = more;
  }

-- all targets are held, or one is not
targets_or : (t held : PropSet) → IsSubset t held ⊎ ((p : PropId) × IsTrue (has t p) × (has held p ≡ false))
targets_or t held = elim (cases_Bool (list_all (λ p. implies (has t p) (has held p)) every_property)) [
  | inl e ↦ inl (λ p h. implied (has t p) (has held p) (all_properties (λ q. implies (has t q) (has held q)) e p) h)
  | inr e ↦ inr (one_missing t held (λ within. both_ways (list_all (λ p. implies (has t p) (has held p)) every_property) e
      (all_pass (λ p. implies (has t p) (has held p)) (λ p. implies_from (has t p) (has held p) (within p)))))
]
  where
    implies_from : (a b : Bool) → (a ≡ true → b ≡ true) → implies a b ≡ true
    implies_from true b h = h refl
    implies_from false b h = refl

-- ---- rules in turn
-- the rules of these numbers lead on from any names
abbrev pub LeadsOn : Option ℕ → ObjectType → List RuleId → List ℕ → Type 0
LeadsOn sub of barred ks = (known held : PropSet) → Stands known held → all_run sub of known ks ≡ true → Found sub of barred held (grown known ks)

module _ (sub : Option ℕ) (of : ObjectType) (barred : List RuleId) (none : BarsNone barred) (k : ℕ) (ks : List ℕ) (rest : LeadsOn sub of barred ks) (known held : PropSet) (stands : Stands known held) where
  module _ (c : StandardClient) (e : slice_get standard_clients k ≡ Some c) (may : may_run sub of known (standard_rule c) ≡ true) (run : all_run sub of (union known (standard_rule c).kind.targets) ks ≡ true) where
    abbrev t : PropSet
    t = (standard_rule c).kind.targets

    abbrev id : RuleId
    id = record { 0 = k }

    stands_at : rule_at standard_rules id ≡ Some (standard_rule c)
    stands_at = slice_get-map standard_rule standard_clients k ∙ ap (option_map standard_rule) e

    step : IsSubset t held ⊎ ((p : PropId) × IsTrue (has t p) × (has held p ≡ false)) → Found sub of barred held (grown (union known t) ks)
    step (inl h) = rest (union known t) held (stands_held known held t stands h) run
    step (inr more) =
        let after = rest (union known t) (union held t) (stands_added known held t stands) run in
        record {
          chain = id ∷ after.chain;
          enabled = (standard_rule c, stands_at, enabled_there sub of known held c stands may more barred id (none id (standard_rule c) stands_at), after.enabled);
          ends = subst (λ added. IsSubset (grown (union known t) ks) (reached standard_rules (union held added) after.chain)) (sym (targets_at_is standard_rules id (standard_rule c) stands_at)) after.ends;
        }

  run_first : (o : Option StandardClient) → slice_get standard_clients k ≡ o → (runs_at sub of known o && all_run sub of (grown_at known o) ks) ≡ true → Found sub of barred held (grown (grown_at known o) ks)
  run_first None e run = absurd (both_ways false refl run)
  run_first (Some c) e run =
      let both = and_parts (may_run sub of known (standard_rule c)) (all_run sub of (union known (standard_rule c).kind.targets) ks) run in
      step c e both.0 both.1 (targets_or (standard_rule c).kind.targets held)

pub follow : (sub : Option ℕ) (of : ObjectType) (barred : List RuleId) → BarsNone barred → (ks : List ℕ) → LeadsOn sub of barred ks
follow sub of barred none [] known held stands run = record { chain = []; enabled = tt; ends = stands.known_held }
follow sub of barred none (k ∷ ks) known held stands run = run_first sub of barred none k ks (follow sub of barred none ks) known held stands (slice_get standard_clients k) refl run
