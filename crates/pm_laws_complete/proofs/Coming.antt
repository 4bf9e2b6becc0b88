-- The value comes: after the one round that is begun all that is asked is held.
use Rattle.pm_client.specs.Meanings.{unsaid}
use Rattle.pm_laws_complete.specs.Comes.{ExcludesNone, GiveComes, SomeChainLeadsNow, StandardChainLeadsNow, ValueComes}
use Rattle.pm_laws_complete.proofs.Complete.{book_is_complete}
use Rattle.pm_laws_complete.specs.Completeness.{BarsNone}
use Rattle.pm_rounds.proofs.Following.{names_after}
use Rattle.pm_rounds.specs.Chains.{AllHeld, held_names}
use Rattle.pm_rounds.specs.Events.{Configuration, EndsIn, Event, IsTrace, MayBegin, MayCommit, Phase, after_event, after_events, at_rest, begun, committed, configuration, excluded, over, phase_after_all, running, settled, started, turn, turns, unsettled, written}
use Rattle.pm_machine.specs.Steps.{is_asked, no_chain, is_refused}
use Rattle.pm_rounds.specs.declared.round.Ending.{Ending}
use Rattle.pm_rounds.specs.declared.round.Ending.TheVariants.{Crowded, Found, NoChain}
use Rattle.pm_props.proofs.Every.{has-set_of_filter}
use Rattle.pm_props.proofs.Members.{has-difference}
use Rattle.pm_props.specs.Properties.{is_in_use}
use Rattle.pm_props.specs.Sets.{IsSubset, difference, has, only, union}
use Rattle.pm_props.specs.declared.kind.RuleId.{RuleId}
use Rattle.pm_props.specs.declared.set.PropSet.{PropSet}
use Rattle.pm_rules.proofs.Followed.{in_union_cases, in_union_left, in_union_right}
use Rattle.pm_rules.specs.Chains.{reached, targets_at}
use Rattle.pm_rules.specs.Rules.{rule_at}
use Rattle.pm_rules.specs.declared.rule.Rule.{Rule}
use Rattle.pm_types.specs.Values.{Fact}
use Rattle.std.proofs.Common.{ap, inl, inr, refl, subst, sym, true≢false, ◌∙◌}
use Rattle.std.proofs.lemmas.Bool.{and_parts, cases_Bool}
use Rattle.std.specs.Option.{option_map, unwrap_or}
use Rattle.std.specs.Prelude.{Bool, List, Option, Some, [], false, not, true, ℕ, ◌&&◌, ◌∷◌, ◌≡◌}

-- ---- what a chain reaches
union_more : (h k t : PropSet) → IsSubset h k → IsSubset (union h t) (union k t)
union_more h k t f p x = elim (in_union_cases h t p x) [ inl a ↦ in_union_left k t p (f p a) | inr b ↦ in_union_right k t p b ]

reached_more : (book : List Rule) (chain : List RuleId) (h k : PropSet) → IsSubset h k → IsSubset (reached book h chain) (reached book k chain)
reached_more book [] h k f = f
reached_more book (id ∷ chain) h k f = reached_more book chain (union h (targets_at book id)) (union k (targets_at book id)) (union_more h k (targets_at book id) f)

held_in_reached : (book : List Rule) (chain : List RuleId) (h : PropSet) → IsSubset h (reached book h chain)
held_in_reached book [] h p x = x
held_in_reached book (id ∷ chain) h p x = held_in_reached book chain (union h (targets_at book id)) p (in_union_left h (targets_at book id) p x)

both_true : (a b : Bool) → a ≡ true → b ≡ false → (a && not b) ≡ true
both_true a b e f = cc

-- what is missing is reached, so all that is asked is
asked_reached : (asked held goal : PropSet) → IsSubset held goal → IsSubset (difference asked held) goal → IsSubset asked goal
asked_reached asked held goal f g p x = elim (cases_Bool (has held p)) [
  | inl y ↦ f p y
  | inr n ↦ g p (has-difference asked held p ∙ both_true (has asked p) (has held p) x n)
]

-- ---- one rule more
module _ (book : List Rule) (sub : Option ℕ) (asked : PropSet) where
  targets_of : (id : RuleId) (rule : Rule) → rule_at book id ≡ Some rule → targets_at book id ≡ rule.kind.targets
  targets_of id rule e = ap (λ r. unwrap_or (option_map (λ (z : Rule). z.kind.targets) r) 0) e

  -- in each phase of the round, what is asked is reached by the rules that are left
  abbrev Promise : Phase → Configuration → Type 0
  Promise unsettled c = ⊥
  Promise at_rest c = AllHeld sub asked c.object
  Promise (turn chain id left) c = IsSubset asked (reached book (held_names sub c.object) (id ∷ left))
  Promise (running chain id left) c = IsSubset asked (reached book (held_names sub c.object) (id ∷ left))
  Promise (over chain e) c = AllHeld sub asked c.object

  turns_promise : (chain left : List RuleId) (c : Configuration) → IsSubset asked (reached book (held_names sub c.object) left) → Promise (turns chain left) c
  turns_promise chain [] c h = h
  turns_promise chain (id ∷ left) c h = h

  committed_promise : (chain : List RuleId) (id : RuleId) (left : List RuleId) (c : Configuration) (answer : List Fact) → MayCommit unsaid book sub id c.object answer
      → IsSubset asked (reached book (held_names sub c.object) (id ∷ left)) → Promise (turns chain left) (after_event sub (committed answer) c)
  committed_promise chain id left c answer m h =
      let new = after_event sub (committed answer) c in
      let names = names_after unsaid sub m.rule c.object new.object (record { started = m.started; draft = m.draft; gives = m.gives; answer = answer; is = m.is; may_answer = m.may_answer; added = refl }) in
      let more : IsSubset (union (held_names sub c.object) (targets_at book id)) (held_names sub new.object) =
      λ p x. sym (names p) ∙ subst (λ t. has (union (held_names sub c.object) t) p ≡ true) (targets_of id m.rule m.is_rule) x in
      turns_promise chain left new (λ p x. reached_more book left (union (held_names sub c.object) (targets_at book id)) (held_names sub new.object) more p (h p x))

  -- so where the round is over, it is held
  comes : (phase : Phase) (c : Configuration) (events : List Event) → IsTrace unsaid book sub asked phase c events → ExcludesNone events → phase_after_all phase events ≡ at_rest → Promise phase c → AllHeld sub asked (after_events sub events c).object
  comes unsettled c events t x e h = absurd h
  comes at_rest c [] t x e h = h
  comes (turn chain id left) c [] t x e h = cc
  comes (running chain id left) c [] t x e h = cc
  comes (over chain end) c [] t x e h = cc
  comes at_rest c (begun chain ∷ events) (may, t) x e h = absurd (may.missing h)
  comes at_rest c (settled ∷ events) (may, t) x e h = absurd may
  comes at_rest c (started kind ∷ events) (may, t) x e h = absurd may
  comes at_rest c (committed answer ∷ events) (may, t) x e h = absurd may
  comes at_rest c (excluded out ∷ events) (may, t) x e h = absurd may
  comes at_rest c (written r ∷ events) (may, t) x e h = absurd may
  comes (turn chain id left) c (started kind ∷ events) (may, t) x e h = comes (running chain id left) (after_event sub (started kind) c) events t x.1 e h
  comes (turn chain id left) c (excluded out ∷ events) (may, t) x e h = absurd (true≢false x.0)
  comes (turn chain id left) c (settled ∷ events) (may, t) x e h = absurd may
  comes (turn chain id left) c (begun other ∷ events) (may, t) x e h = absurd may
  comes (turn chain id left) c (committed answer ∷ events) (may, t) x e h = absurd may
  comes (turn chain id left) c (written r ∷ events) (may, t) x e h = absurd may
  comes (running chain id left) c (committed answer ∷ events) (may, t) x e h = comes (turns chain left) (after_event sub (committed answer) c) events t x.1 e (committed_promise chain id left c answer may h)
  comes (running chain id left) c (excluded out ∷ events) (may, t) x e h = absurd (true≢false x.0)
  comes (running chain id left) c (settled ∷ events) (may, t) x e h = absurd may
  comes (running chain id left) c (begun other ∷ events) (may, t) x e h = absurd may
  comes (running chain id left) c (started kind ∷ events) (may, t) x e h = absurd may
  comes (running chain id left) c (written r ∷ events) (may, t) x e h = absurd may
  comes (over chain end) c (written r ∷ events) (may, t) x e h = comes at_rest (after_event sub (written r) c) events t x.1 e h
  comes (over chain end) c (settled ∷ events) (may, t) x e h = absurd may
  comes (over chain end) c (begun other ∷ events) (may, t) x e h = absurd may
  comes (over chain end) c (started kind ∷ events) (may, t) x e h = absurd may
  comes (over chain end) c (committed answer ∷ events) (may, t) x e h = absurd may
  comes (over chain end) c (excluded out ∷ events) (may, t) x e h = absurd may

  begun_promise : (c : Configuration) (chain : List RuleId) → MayBegin book sub asked c chain → Promise (turns chain chain) c
  begun_promise c chain m =
      turns_promise chain chain c (asked_reached asked (held_names sub c.object) (reached book (held_names sub c.object) chain) (held_in_reached book chain (held_names sub c.object)) m.least.leads.ends)

  -- ---- the ending
  all_found : (ending : Ending) (c : Configuration) → AllHeld sub asked c.object → EndsIn book sub asked ending c → ¬ (ending ≡ Crowded) → ending ≡ Found
  all_found Found c h ends n = refl
  all_found NoChain c h ends n = absurd (ends.missing h)
  all_found Crowded c h ends n = absurd (n refl)

  at_once : (ending : Ending) (c : Configuration) → SomeChainLeadsNow book sub asked c → EndsIn book sub asked ending c → ¬ (ending ≡ Crowded) → ending ≡ Found
  at_once Found c some ends n = refl
  at_once NoChain c some ends n = let l = some ends.barred ends.are_barred in absurd (ends.none.none l.0 l.1)
  at_once Crowded c some ends n = absurd (n refl)

  from_settled : (ending : Ending) (c : Configuration) (events : List Event) → IsTrace unsaid book sub asked at_rest c events → ExcludesNone events → phase_after_all at_rest events ≡ at_rest
      → SomeChainLeadsNow book sub asked c → EndsIn book sub asked ending (after_events sub events c) → ¬ (ending ≡ Crowded) → ending ≡ Found
  from_settled ending c [] t x e some ends n = at_once ending c some ends n
  from_settled ending c (begun chain ∷ events) (may, t) x e some ends n =
      all_found ending (after_events sub events c) (comes (turns chain chain) c events t x.1 e (begun_promise c chain may)) ends n
  from_settled ending c (settled ∷ events) (may, t) x e some ends n = absurd may
  from_settled ending c (started kind ∷ events) (may, t) x e some ends n = absurd may
  from_settled ending c (committed answer ∷ events) (may, t) x e some ends n = absurd may
  from_settled ending c (excluded out ∷ events) (may, t) x e some ends n = absurd may
  from_settled ending c (written r ∷ events) (may, t) x e some ends n = absurd may

  from_start : (ending : Ending) (c : Configuration) (events : List Event) → IsTrace unsaid book sub asked unsettled c events → ExcludesNone events → phase_after_all unsettled events ≡ at_rest
      → SomeChainLeadsNow book sub asked (after_event sub settled c) → EndsIn book sub asked ending (after_events sub events c) → ¬ (ending ≡ Crowded) → ending ≡ Found
  from_start ending c [] t x e some ends n = cc
  from_start ending c (settled ∷ events) (may, t) x e some ends n = from_settled ending (after_event sub settled c) events t x.1 e some ends n
  from_start ending c (begun chain ∷ events) (may, t) x e some ends n = absurd may
  from_start ending c (started kind ∷ events) (may, t) x e some ends n = absurd may
  from_start ending c (committed answer ∷ events) (may, t) x e some ends n = absurd may
  from_start ending c (excluded out ∷ events) (may, t) x e some ends n = absurd may
  from_start ending c (written r ∷ events) (may, t) x e some ends n = absurd may

pub value_comes : ValueComes
value_comes book sub asked ending old new e x some n =
    from_start book sub asked ending old e.reaches.events e.reaches.trace x e.reaches.phase_is some (subst (EndsIn book sub asked ending) e.reaches.becomes e.ends) n

-- ---- `give`
is_none : Ending → Bool
is_none NoChain = true
is_none e = false

none_not_found : NoChain ≡ Found → ⊥
unfolding is_none
none_not_found e = true≢false (ap is_none e)

none_not_crowded : NoChain ≡ Crowded → ⊥
unfolding is_none
none_not_crowded e = true≢false (ap is_none e)

pub give_comes : GiveComes
give_comes book old new ref text _ (is_refused r s) excludes some = elim r [ ]
give_comes book old new ref text more (is_asked (x, at, p, named, c, no_chain e told, becomes)) excludes some =
    none_not_found (value_comes book x.sub (only p) NoChain (configuration x.object old.clients) c e excludes some none_not_crowded)

-- ---- the standard book
pub standard_chain_leads_now : StandardChainLeadsNow
standard_chain_leads_now sub c not_fan d listed alone objective nothing p of_table more barred are =
    let free : BarsNone barred = λ id rule at. are.each id rule at ∙ nothing id rule at in
    let found = book_is_complete sub c.object.of not_fan d listed (held_names sub c.object) alone objective barred free p (has-set_of_filter (is_in_use sub c.object.of) p ∙ of_table) more in (
      found.0,
      record {
        enabled = found.1.enabled;
        ends = λ q h. found.1.ends q (and_parts (has (only p) q) (not (has (held_names sub c.object) q)) (sym (has-difference (only p) (held_names sub c.object) q) ∙ h)).0;
      },
    )
