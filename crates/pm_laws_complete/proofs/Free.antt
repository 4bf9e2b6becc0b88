-- Rules that no event excludes stay free.
use Rattle.pm_client.specs.Starts.{Clients, after_start, after_start_at, has_client, place_in, same_kind, started_at}
use Rattle.pm_object.specs.State.{HeldValue, is_disabled, value_of}
use Rattle.pm_props.specs.Properties.{every_property}
use Rattle.pm_props.specs.Places.{same_place}
use Rattle.pm_props.specs.Sets.{has}
use Rattle.pm_props.specs.declared.kind.Kind.{Kind}
use Rattle.pm_props.specs.declared.kind.RuleId.{RuleId}
use Rattle.pm_props.specs.declared.property.PropId.{PropId}
use Rattle.pm_rounds.proofs.Barred.{any_push}
use Rattle.pm_rounds.specs.Chains.{is_barred_on, is_excluded, is_truth, is_wrong, place_of_rule, some_wrong}
use Rattle.pm_object.specs.State.{read_at}
use Rattle.pm_rounds.specs.Events.{Configuration, Event, after_event, after_events, begun, committed, excluded, settled, started, written}
use Rattle.pm_rules.specs.declared.rule.Rule.{Rule}
use Rattle.pm_laws_complete.specs.Spared.{KeptRulesStayFree, NeedNothing, Spares, SparesIn}
use Rattle.std.proofs.Common.{ap, arith, refl, sym, true≢false, ◌∙◌}
use Rattle.std.specs.List.{list_any}
use Rattle.std.specs.Option.{is_some}
use Rattle.std.specs.Prelude.{Bool, IsTrue, List, None, Option, Some, [], false, if◌then◌else◌, nat_eq, not, suc, true, zero, ℕ, ◌&&◌, ◌∷◌, ◌≡◌, ◌||◌}

-- ---- clients stay
place_started : (k : Kind) (n place : ℕ) (clients : Clients) → place_in k n (started_at place clients) ≡ place_in k n clients
place_started k n place [] = refl
place_started k n zero ((kind, starts) ∷ rest) = refl
place_started k n (suc place) ((kind, starts) ∷ rest) = ap (λ t. if same_kind kind k then Some n else t) (place_started k (suc n) place rest)

client_stays : (k kind : Kind) (clients : Clients) → has_client k (after_start kind clients) ≡ has_client k clients
client_stays k kind clients = by (place_in kind 0 clients)
  where
    by : (place : Option ℕ) → has_client k (after_start_at place clients) ≡ has_client k clients
    by None = refl
    by (Some place) = ap is_some (place_started k 0 place clients)

-- ---- a rule that needs nothing is never wrong
pub none_of : {X : Type 0} (test : X → Bool) (xs : List X) → ((x : X) → test x ≡ false) → list_any test xs ≡ false
none_of test [] f = refl
none_of test (x ∷ xs) f = ap (λ b. b || list_any test xs) (f x) ∙ none_of test xs f

pub needs_none : (a b c d : Bool) → a ≡ false → c ≡ false → (a && b || c && d) ≡ false
needs_none a b c d e f = rw (e, f) refl

never_wrong : (rule : Rule) (read : List HeldValue) → ((p : PropId) → (has rule.must p ≡ false) × (has rule.must_not p ≡ false)) → some_wrong rule read ≡ false
never_wrong rule read f = none_of (is_wrong rule read) every_property (λ p. needs_none (has rule.must p) (is_truth false (value_of p read)) (has rule.must_not p) (is_truth true (value_of p read)) (f p).0 (f p).1)

-- ---- the tests of one rule
pub record Parts (sub : Option ℕ) (id : RuleId) (rule : Rule) (c : Configuration) : Type 0 where
  pub not_excluded : is_excluded c.object sub id rule ≡ false
  pub enabled : is_disabled rule.label c.object.disabled ≡ false
  pub client : has_client rule.kind c.clients ≡ true

parts_false : (a b c d : Bool) → (a || b || c || not d) ≡ false → (a ≡ false) × (c ≡ false) × (d ≡ true)
parts_false true b c d h = absurd (true≢false h)
parts_false false true c d h = absurd (true≢false h)
parts_false false false true d h = absurd (true≢false h)
parts_false false false false true h = (refl, refl, refl)
parts_false false false false false h = absurd (true≢false h)

pub false_parts : (a b c d : Bool) → a ≡ false → b ≡ false → c ≡ false → d ≡ true → (a || b || c || not d) ≡ false
false_parts a b c d e f g h = rw (e, f, g, h) refl

to_parts : (sub : Option ℕ) (id : RuleId) (rule : Rule) (c : Configuration) → is_barred_on c.clients c.object sub id rule ≡ false → Parts sub id rule c
to_parts sub id rule c h =
    let w = parts_false (is_excluded c.object sub id rule) (some_wrong rule (read_at sub c.object.held)) (is_disabled rule.label c.object.disabled) (has_client rule.kind c.clients) h in
    record { not_excluded = w.0; enabled = w.1; client = w.2 }

from_parts : (sub : Option ℕ) (id : RuleId) (rule : Rule) (c : Configuration) → ((p : PropId) → (has rule.must p ≡ false) × (has rule.must_not p ≡ false)) → Parts sub id rule c → is_barred_on c.clients c.object sub id rule ≡ false
from_parts sub id rule c f w =
    false_parts (is_excluded c.object sub id rule) (some_wrong rule (read_at sub c.object.held)) (is_disabled rule.label c.object.disabled) (has_client rule.kind c.clients) w.not_excluded (never_wrong rule (read_at sub c.object.held) f) w.enabled w.client

-- another rule is excluded
other_rule : (keeps : RuleId → Bool) (a b : RuleId) → keeps a ≡ false → keeps b ≡ true → nat_eq a.0 b.0 ≡ false
other_rule keeps a b f t = by (nat_eq a.0 b.0) refl
  where
    same_id : (a b : RuleId) → a.0 ≡ b.0 → a ≡ b
    same_id a b e = ap (λ (k : ℕ). record { 0 = k }) e

    by : (x : Bool) → nat_eq a.0 b.0 ≡ x → x ≡ false
    by false e = refl
    by true e = absurd (true≢false (sym t ∙ ap keeps (sym (same_id a b (grind arith))) ∙ f))

both_false : (a b c : Bool) → a ≡ false → b ≡ false → (a || b && c) ≡ false
both_false a b c e f = rw (e, f) refl

module _ (book : List Rule) (keeps : RuleId → Bool) (sub : Option ℕ) (need : NeedNothing book keeps) where
  event_spares : (c : Configuration) (e : Event) → SparesIn keeps e → (id : RuleId) (rule : Rule) → IsTrue (keeps id) → Parts sub id rule c → Parts sub id rule (after_event sub e c)
  event_spares c settled s id rule k w = record { not_excluded = w.not_excluded; enabled = w.enabled; client = w.client }
  event_spares c (begun chain) s id rule k w = w
  event_spares c (started kind) s id rule k w = record { not_excluded = w.not_excluded; enabled = w.enabled; client = client_stays rule.kind kind c.clients ∙ w.client }
  event_spares c (committed answer) s id rule k w = record { not_excluded = w.not_excluded; enabled = w.enabled; client = w.client }
  event_spares c (excluded e) s id rule k w = record {
    not_excluded = any_push (λ x. nat_eq x.rule.0 id.0 && same_place x.sub (place_of_rule sub rule)) c.object.excluded e
        ∙ both_false (is_excluded c.object sub id rule) (nat_eq e.rule.0 id.0) (same_place e.sub (place_of_rule sub rule)) w.not_excluded (other_rule keeps e.rule id s k);
    enabled = w.enabled;
    client = w.client;
  }
  event_spares c (written r) s id rule k w = record { not_excluded = w.not_excluded; enabled = w.enabled; client = w.client }

  events_spare : (c : Configuration) (events : List Event) → Spares keeps events → (id : RuleId) (rule : Rule) → IsTrue (keeps id) → Parts sub id rule c → Parts sub id rule (after_events sub events c)
  events_spare c [] s id rule k w = w
  events_spare c (e ∷ events) s id rule k w = events_spare (after_event sub e c) events s.1 id rule k (event_spares c e s.0 id rule k w)

pub kept_rules_stay_free : KeptRulesStayFree
kept_rules_stay_free book keeps sub c events need spares free id rule at k =
    from_parts sub id rule (after_events sub events c) (need id rule at k) (events_spare book keeps sub need c events spares id rule k (to_parts sub id rule c (free id rule at k)))
