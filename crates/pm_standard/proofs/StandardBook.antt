-- The standard book is a book.
use Rattle.std.proofs.Common.{◌≡◌, ◌≢◌, ℕ, ◌^◌, ◌<◌, Bool, true, false, not, ◌&&◌, ◌||◌, eqb, leb, ltb, List, [], ◌∷◌, refl, ap, arith, lit≤}
use Rattle.std.specs.List.{list_all, AllPairs}
use Rattle.std.specs.Prelude.{Option, None, Some, find}
use Rattle.std.specs.Str.{bytes_eq}
use Rattle.std.proofs.lemmas.Bool.{and_parts, both_ways, eqb-true, leb-true, ltb-true, not-true}
use Rattle.std.proofs.lemmas.List.Elements.{All-map, All-weaker}
use Rattle.std.proofs.lemmas.List.Kept.{AllPairs-cons}
use Rattle.std.proofs.lemmas.List.Sums.{AllPass-from_list_all}
use Rattle.std.proofs.lemmas.Slice.Eq.{bytes_eq-Decides}
use Rattle.pm_props.proofs.Every.{all_properties}
use Rattle.pm_props.specs.Kinds.{conditions_of}
use Rattle.pm_standard.specs.Table.{standard_clients, standard_kind, standard_kinds_list, standard_row}
use Rattle.pm_props.specs.Properties.{count, every_property, is_of_truth_values, value_kind}
use Rattle.pm_props.specs.Sets.{has, only, union, intersection}
use Rattle.pm_props.specs.declared.kind.Kind.{Kind}
use Rattle.pm_props.specs.declared.property.PropId.{PropId}
use Rattle.pm_props.specs.declared.property.ValueKind.{ValueKind}
use Rattle.pm_props.specs.declared.property.ValueKind.TheVariants as value
use Rattle.pm_standard.specs.declared.standard.StandardClient.{StandardClient}
use Rattle.pm_standard.specs.declared.standard.StandardRule.{StandardRule}
use Rattle.pm_rules.specs.declared.rule.Rule.{Rule}
use Rattle.pm_rules.specs.Words.{is_label}
use Rattle.pm_rules.specs.Books.{FirstKinds, IsNamed, IsRule, IsBook}
use Rattle.pm_standard.specs.Book.{rule_of, standard_rule, standard_rules}
use Rattle.pm_rules.proofs.Labels.{label_is_word}
use Rattle.pm_limits.specs.Limits.{most_weight}

-- ---- each rule
abbrev is_named : ℕ → Bool
is_named s = ltb 0 s && ltb s (2 ^ count)

named : (s : ℕ) → is_named s ≡ true → IsNamed s
named s h =
    let parts = and_parts (ltb 0 s) (ltb s (2 ^ count)) h in
    record { some = ltb-true 0 s parts.0; below = ltb-true s (2 ^ count) parts.1 }

-- if the first, then the second
abbrev implies : Bool → Bool → Bool
implies a b = not a || b

implied : (a b : Bool) → implies a b ≡ true → a ≡ true → b ≡ true
implied true b h k = h
implied false b h k = absurd (both_ways false refl k)

truth_kind : (k : ValueKind) → is_of_truth_values k ≡ true → k ≡ value.Bool
truth_kind value.Bool h = refl
truth_kind k h = absurd (both_ways false refl h)

-- the conditions of a kind are of properties that are true or false, and none is asked for both ways
abbrev has_truths : Kind → PropId → Bool
has_truths kind p = implies (has (conditions_of kind) p) (is_of_truth_values (value_kind p))

abbrev is_apart : Kind → PropId → Bool
is_apart kind p = implies (has kind.must p) (not (has kind.must_not p))

abbrev has_fit_conditions : Kind → Bool
has_fit_conditions kind =
    (list_all (has_truths kind) every_property && list_all (is_apart kind) every_property)
    && ((eqb (intersection kind.must kind.must) kind.must && eqb (intersection kind.must_not kind.must_not) kind.must_not)
    && (ltb kind.must (2 ^ count) && ltb kind.must_not (2 ^ count)))

abbrev has_fit_names : Kind → Bool
has_fit_names kind = is_label kind.name && (is_named kind.targets && is_named kind.sources)

-- whether a standard rule is one of a book
abbrev is_fit : StandardRule → Bool
is_fit r = has_fit_names r.kind && (has_fit_conditions r.kind && (ltb 0 r.weight && leb r.weight most_weight))

fit_IsRule : (r : StandardRule) → is_fit r ≡ true → IsRule (rule_of r)
fit_IsRule r h =
    let kind = r.kind in
    let halves = and_parts (has_fit_names kind) (has_fit_conditions kind && (ltb 0 r.weight && leb r.weight most_weight)) h in
    let names = and_parts (is_label kind.name) (is_named kind.targets && is_named kind.sources) halves.0 in
    let sets = and_parts (is_named kind.targets) (is_named kind.sources) names.1 in
    let rest = and_parts (has_fit_conditions kind) (ltb 0 r.weight && leb r.weight most_weight) halves.1 in
    let weight = and_parts (ltb 0 r.weight) (leb r.weight most_weight) rest.1 in
    let asked = and_parts (list_all (has_truths kind) every_property && list_all (is_apart kind) every_property)
    ((eqb (intersection kind.must kind.must) kind.must && eqb (intersection kind.must_not kind.must_not) kind.must_not) && (ltb kind.must (2 ^ count) && ltb kind.must_not (2 ^ count))) rest.0 in
    let tests = and_parts (list_all (has_truths kind) every_property) (list_all (is_apart kind) every_property) asked.0 in
    let bounds = and_parts (eqb (intersection kind.must kind.must) kind.must && eqb (intersection kind.must_not kind.must_not) kind.must_not) (ltb kind.must (2 ^ count) && ltb kind.must_not (2 ^ count)) asked.1 in
    let within = and_parts (eqb (intersection kind.must kind.must) kind.must) (eqb (intersection kind.must_not kind.must_not) kind.must_not) bounds.0 in
    let below = and_parts (ltb kind.must (2 ^ count)) (ltb kind.must_not (2 ^ count)) bounds.1 in
    let positive : 0 < r.weight = ltb-true 0 r.weight weight.0 in
    record {
      label = names.0;
      client = label_is_word kind.name names.0;
      targets = named kind.targets sets.0;
      sources = named kind.sources sets.1;
      weight = record { class = lit≤ tt; minor = leb-true r.weight most_weight weight.1; some = omega arith };
      flags = λ p k. truth_kind (value_kind p) (implied (has (conditions_of kind) p) (is_of_truth_values (value_kind p)) (all_properties (has_truths kind) tests.0 p) k);
      apart = λ p k. not-true (has kind.must_not p) (implied (has kind.must p) (not (has kind.must_not p)) (all_properties (is_apart kind) tests.1 p) k);
      must = eqb-true (intersection kind.must kind.must) kind.must within.0;
      must_not = eqb-true (intersection kind.must_not kind.must_not) kind.must_not within.1;
      must_below = ltb-true kind.must (2 ^ count) below.0;
      must_not_below = ltb-true kind.must_not (2 ^ count) below.1;
    }

abbrev makes_rule : StandardClient → Bool
makes_rule c = is_fit (standard_row c)

standard_are_fit : list_all makes_rule standard_clients ≡ true
unfolding only union intersection has
standard_are_fit = refl

-- ---- labels that come once
abbrev labels_differ : List Rule → Bool
labels_differ [] = true
labels_differ (r ∷ rules) = list_all (λ q. not (bytes_eq r.label q.label)) rules && labels_differ rules

differ : (rules : List Rule) → labels_differ rules ≡ true → AllPairs (λ a b. a.label ≢ b.label) rules
differ [] h = λ i j d below within. absurd (omega arith)
differ (r ∷ rules) h =
    let parts = and_parts (list_all (λ q. not (bytes_eq r.label q.label)) rules) (labels_differ rules) h in
    AllPairs-cons (λ (a b : Rule). a.label ≢ b.label) r rules
    (All-weaker (λ (q : Rule). not (bytes_eq r.label q.label) ≡ true) (λ (q : Rule). r.label ≢ q.label)
    (λ q unlike same. both_ways (bytes_eq r.label q.label) (not-true (bytes_eq r.label q.label) unlike) ((bytes_eq-Decides r.label q.label).1 same))
    rules (AllPass-from_list_all (λ (q : Rule). not (bytes_eq r.label q.label)) rules parts.0))
    (differ rules parts.1)

pub standard_IsBook : IsBook standard_rules
standard_IsBook = record {
  few = lit≤ tt;
  labels = differ standard_rules refl;
  each = All-map IsRule standard_rule standard_clients
      (All-weaker (λ c. makes_rule c ≡ true) (λ c. IsRule (standard_rule c)) (λ c. fit_IsRule (standard_row c)) standard_clients
      (AllPass-from_list_all makes_rule standard_clients standard_are_fit));
}

-- ---- kinds by their names
-- whether two kinds are the same
abbrev same_kind : Kind → Kind → Bool
same_kind a b = bytes_eq a.name b.name && ((eqb a.targets b.targets && eqb a.sources b.sources) && (eqb a.must b.must && eqb a.must_not b.must_not))

same_kind_is : (a b : Kind) → same_kind a b ≡ true → a ≡ b
same_kind_is a b h =
    let names = and_parts (bytes_eq a.name b.name) ((eqb a.targets b.targets && eqb a.sources b.sources) && (eqb a.must b.must && eqb a.must_not b.must_not)) h in
    let halves = and_parts (eqb a.targets b.targets && eqb a.sources b.sources) (eqb a.must b.must && eqb a.must_not b.must_not) names.1 in
    let sets = and_parts (eqb a.targets b.targets) (eqb a.sources b.sources) halves.0 in
    let asked = and_parts (eqb a.must b.must) (eqb a.must_not b.must_not) halves.1 in
    made a b ((bytes_eq-Decides a.name b.name).0 names.0) (eqb-true a.targets b.targets sets.0) (eqb-true a.sources b.sources sets.1) (eqb-true a.must b.must asked.0) (eqb-true a.must_not b.must_not asked.1)
  where
    parts : List ℕ → ℕ → ℕ → ℕ → ℕ → Kind
    parts name targets sources must must_not = record { name = name; targets = targets; sources = sources; must = must; must_not = must_not }

    made : (a b : Kind) → a.name ≡ b.name → a.targets ≡ b.targets → a.sources ≡ b.sources → a.must ≡ b.must → a.must_not ≡ b.must_not → parts a.name a.targets a.sources a.must a.must_not ≡ parts b.name b.targets b.sources b.must b.must_not
    made a b e f g h i = rw (e, f, g, h, i) refl

abbrev found_is : Option Kind → Kind → Bool
found_is None kind = false
found_is (Some k) kind = same_kind k kind

is_found : (r : Option Kind) (kind : Kind) → found_is r kind ≡ true → r ≡ Some kind
is_found None kind h = absurd (both_ways false refl h)
is_found (Some k) kind h = ap (λ z. Some z) (same_kind_is k kind h)

abbrev first_kind : Kind → Option Kind
first_kind kind = find (λ (k : Kind). bytes_eq k.name kind.name) standard_kinds_list

abbrev is_first : StandardClient → Bool
is_first c = found_is (first_kind (standard_kind c)) (standard_kind c)

are_first : list_all is_first standard_clients ≡ true
unfolding union only
are_first = refl

pub standard_first : FirstKinds standard_kinds_list standard_rules
standard_first = All-map (λ (r : Rule). first_kind r.kind ≡ Some r.kind) standard_rule standard_clients
    (All-weaker (λ c. is_first c ≡ true) (λ c. first_kind (standard_kind c) ≡ Some (standard_kind c)) (λ c. is_found (first_kind (standard_kind c)) (standard_kind c)) standard_clients
    (AllPass-from_list_all is_first standard_clients are_first))
