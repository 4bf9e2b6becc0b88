-- What events exclude and write down, as is seen of the object before and after.
use Rattle.pm_client.specs.Meanings.{unsaid}
use Rattle.std.proofs.Common.{ap, append-nil, append_assoc, refl, subst, sym, ◌∙◌}
use Rattle.std.proofs.Math.Seq.{drop-append_seam}
use Rattle.std.specs.List.{Contains}
use Rattle.std.specs.Prelude.{List, Option, Some, [], drop, length, ℕ, ◌++◌, ◌∷◌, ◌≡◌}
use Rattle.pm_vector.proofs.Lists.{Among, Contains_among, here, there}
use Rattle.pm_machine.specs.Machines.{later_rounds}
use Rattle.pm_object.specs.State.{RoundSeen}
use Rattle.pm_object.specs.declared.held.Excluded.{Excluded}
use Rattle.pm_object.specs.declared.held.RoundEnd.{RoundEnd}
use Rattle.pm_props.specs.declared.kind.RuleId.{RuleId}
use Rattle.pm_props.specs.declared.set.PropSet.{PropSet}
use Rattle.pm_rounds.specs.Chains.{place_of_rule}
use Rattle.pm_rounds.specs.Events.{Configuration, Event, IsTrace, MayOccur, Phase, TraceLeads, after_event, after_events, at_rest, begun, committed, end_by, excluded, over, phase_after, phase_after_all, running, settled, started, turn, unsettled, written}
use Rattle.pm_rules.specs.Rules.{rule_at}
use Rattle.pm_rules.specs.declared.rule.Rule.{Rule}
use Rattle.pm_laws_complete.specs.Comes.{ExcludesNone}
use Rattle.pm_laws_complete.specs.Given.{ExcludesMore}

-- ---- the exclusions among events, and the rounds
abbrev pub exclusions : List Event → List Excluded
exclusions [] = []
exclusions (excluded e ∷ events) = e ∷ exclusions events
exclusions (settled ∷ events) = exclusions events
exclusions (begun chain ∷ events) = exclusions events
exclusions (started kind ∷ events) = exclusions events
exclusions (committed answer ∷ events) = exclusions events
exclusions (written r ∷ events) = exclusions events

excluded_after : (sub : Option ℕ) (c : Configuration) (events : List Event) → (after_events sub events c).object.excluded ≡ c.object.excluded ++ exclusions events
excluded_after sub c [] = sym (append-nil c.object.excluded)
excluded_after sub c (excluded e ∷ events) = excluded_after sub (after_event sub (excluded e) c) events ∙ append_assoc c.object.excluded (e ∷ []) (exclusions events)
excluded_after sub c (settled ∷ events) = excluded_after sub (after_event sub settled c) events
excluded_after sub c (begun chain ∷ events) = excluded_after sub (after_event sub (begun chain) c) events
excluded_after sub c (started kind ∷ events) = excluded_after sub (after_event sub (started kind) c) events
excluded_after sub c (committed answer ∷ events) = excluded_after sub (after_event sub (committed answer) c) events
excluded_after sub c (written r ∷ events) = excluded_after sub (after_event sub (written r) c) events

not_empty : {X : Type 0} (x : X) (xs : List X) → x ∷ xs ≡ [] → ⊥
not_empty x xs e = cc

pub excludes_none : (events : List Event) → exclusions events ≡ [] → ExcludesNone events
excludes_none [] e = tt
excludes_none (excluded x ∷ events) e = absurd (not_empty x (exclusions events) e)
excludes_none (settled ∷ events) e = (refl, excludes_none events e)
excludes_none (begun chain ∷ events) e = (refl, excludes_none events e)
excludes_none (started kind ∷ events) e = (refl, excludes_none events e)
excludes_none (committed answer ∷ events) e = (refl, excludes_none events e)
excludes_none (written r ∷ events) e = (refl, excludes_none events e)

-- the rounds that are written down
abbrev rounds_of : List Event → List RoundSeen
rounds_of [] = []
rounds_of (written r ∷ events) = r ∷ rounds_of events
rounds_of (settled ∷ events) = rounds_of events
rounds_of (begun chain ∷ events) = rounds_of events
rounds_of (started kind ∷ events) = rounds_of events
rounds_of (committed answer ∷ events) = rounds_of events
rounds_of (excluded e ∷ events) = rounds_of events

rounds_after : (sub : Option ℕ) (c : Configuration) (events : List Event) → (after_events sub events c).object.rounds ≡ c.object.rounds ++ rounds_of events
rounds_after sub c [] = sym (append-nil c.object.rounds)
rounds_after sub c (written r ∷ events) = rounds_after sub (after_event sub (written r) c) events ∙ append_assoc c.object.rounds (r ∷ []) (rounds_of events)
rounds_after sub c (settled ∷ events) = rounds_after sub (after_event sub settled c) events
rounds_after sub c (begun chain ∷ events) = rounds_after sub (after_event sub (begun chain) c) events
rounds_after sub c (started kind ∷ events) = rounds_after sub (after_event sub (started kind) c) events
rounds_after sub c (committed answer ∷ events) = rounds_after sub (after_event sub (committed answer) c) events
rounds_after sub c (excluded e ∷ events) = rounds_after sub (after_event sub (excluded e) c) events

first_is : {X : Type 0} (x y : X) (xs ys : List X) → x ∷ xs ≡ y ∷ ys → x ≡ y
first_is x y xs ys e = cc

-- ---- the first of them
module _ (book : List Rule) (sub : Option ℕ) (asked : PropSet) where
  -- a rule of the book is excluded, and its round is over
  record EndsRound (phase : Phase) (e : Excluded) : Type 0 where
    rule : Rule
    is_rule : rule_at book e.rule ≡ Some rule
    place : e.sub ≡ place_of_rule sub rule
    chain : List RuleId
    over_is : phase_after phase (excluded e) ≡ over chain (end_by e.rule e.why)

  ends_round : (phase : Phase) (c : Configuration) (e : Excluded) → MayOccur unsaid book sub asked phase c (excluded e) → EndsRound phase e
  ends_round unsettled c e may = absurd may
  ends_round at_rest c e may = absurd may
  ends_round (turn chain id left) c e may = record {
    rule = may.rule;
    is_rule = subst (λ (z : Excluded). rule_at book z.rule ≡ Some may.rule) (sym may.is) may.is_rule;
    place = ap (λ (z : Excluded). z.sub) may.is;
    chain = chain;
    over_is = ap (λ z. over chain (end_by z e.why)) (sym (ap (λ (z : Excluded). z.rule) may.is));
  }
  ends_round (running chain id left) c e may = record {
    rule = may.rule;
    is_rule = subst (λ (z : Excluded). rule_at book z.rule ≡ Some may.rule) (sym may.is) may.is_rule;
    place = ap (λ (z : Excluded). z.sub) may.is;
    chain = chain;
    over_is = ap (λ z. over chain (end_by z e.why)) (sym (ap (λ (z : Excluded). z.rule) may.is));
  }
  ends_round (over chain end) c e may = absurd may

  -- a round that is over is written down
  written_down : (chain : List RuleId) (end : RoundEnd) (c : Configuration) (events : List Event) → IsTrace unsaid book sub asked (over chain end) c events → phase_after_all (over chain end) events ≡ at_rest
      → (r : RoundSeen) × Among r (rounds_of events) × (r.end ≡ end)
  written_down chain end c [] t e = cc
  written_down chain end c (written r ∷ events) (may, t) e = (r, here, ap (λ (z : RoundSeen). z.end) may)
  written_down chain end c (settled ∷ events) (may, t) e = absurd may
  written_down chain end c (begun other ∷ events) (may, t) e = absurd may
  written_down chain end c (started kind ∷ events) (may, t) e = absurd may
  written_down chain end c (committed answer ∷ events) (may, t) e = absurd may
  written_down chain end c (excluded out ∷ events) (may, t) e = absurd may

  record FirstFails (x : Excluded) (events : List Event) : Type 0 where
    rule : Rule
    is_rule : rule_at book x.rule ≡ Some rule
    place : x.sub ≡ place_of_rule sub rule
    round : RoundSeen
    among : Among round (rounds_of events)
    ended : round.end ≡ end_by x.rule x.why

  fails_here : (phase : Phase) (c : Configuration) (e : Excluded) (events : List Event) → MayOccur unsaid book sub asked phase c (excluded e) → IsTrace unsaid book sub asked (phase_after phase (excluded e)) (after_event sub (excluded e) c) events
      → phase_after_all (phase_after phase (excluded e)) events ≡ at_rest → FirstFails e (excluded e ∷ events)
  fails_here phase c e events may t rest =
      let ends = ends_round phase c e may in
      let (r, i, is) = written_down ends.chain (end_by e.rule e.why) (after_event sub (excluded e) c) events
      (subst (λ z. IsTrace unsaid book sub asked z (after_event sub (excluded e) c) events) ends.over_is t) (subst (λ z. phase_after_all z events ≡ at_rest) ends.over_is rest) in
      record { rule = ends.rule; is_rule = ends.is_rule; place = ends.place; round = r; among = i; ended = is }

  first_fails : (phase : Phase) (c : Configuration) (events : List Event) → IsTrace unsaid book sub asked phase c events → phase_after_all phase events ≡ at_rest
      → (x : Excluded) (xs : List Excluded) → exclusions events ≡ x ∷ xs → FirstFails x events
  first_fails phase c [] t rest x xs e = absurd (not_empty x xs (sym e))
  first_fails phase c (excluded out ∷ events) (may, t) rest x xs e = subst (λ z. FirstFails z (excluded out ∷ events)) (first_is out x (exclusions events) xs e) (fails_here phase c out events may t rest)
  first_fails phase c (settled ∷ events) (may, t) rest x xs e =
      let f = first_fails (phase_after phase settled) (after_event sub settled c) events t rest x xs e in
      record { rule = f.rule; is_rule = f.is_rule; place = f.place; round = f.round; among = f.among; ended = f.ended }
  first_fails phase c (begun chain ∷ events) (may, t) rest x xs e =
      let f = first_fails (phase_after phase (begun chain)) (after_event sub (begun chain) c) events t rest x xs e in
      record { rule = f.rule; is_rule = f.is_rule; place = f.place; round = f.round; among = f.among; ended = f.ended }
  first_fails phase c (started kind ∷ events) (may, t) rest x xs e =
      let f = first_fails (phase_after phase (started kind)) (after_event sub (started kind) c) events t rest x xs e in
      record { rule = f.rule; is_rule = f.is_rule; place = f.place; round = f.round; among = f.among; ended = f.ended }
  first_fails phase c (committed answer ∷ events) (may, t) rest x xs e =
      let f = first_fails (phase_after phase (committed answer)) (after_event sub (committed answer) c) events t rest x xs e in
      record { rule = f.rule; is_rule = f.is_rule; place = f.place; round = f.round; among = f.among; ended = f.ended }
  first_fails phase c (written r ∷ events) (may, t) rest x xs e =
      let f = first_fails (phase_after phase (written r)) (after_event sub (written r) c) events t rest x xs e in
      record { rule = f.rule; is_rule = f.is_rule; place = f.place; round = f.round; among = there f.among; ended = f.ended }

  -- what is seen of it
  pub excludes_more : (phase : Phase) (old new : Configuration) (leads : TraceLeads unsaid book sub asked phase old at_rest new)
      → (x : Excluded) (xs : List Excluded) → exclusions leads.events ≡ x ∷ xs → ExcludesMore book sub old.object new.object
  excludes_more phase old new leads x xs e =
      let f = first_fails phase old leads.events leads.trace leads.phase_is x xs e in
      let all : new.object.rounds ≡ old.object.rounds ++ rounds_of leads.events = ap (λ (z : Configuration). z.object.rounds) leads.becomes ∙ rounds_after sub old leads.events in
      let beyond : later_rounds old.object new.object ≡ rounds_of leads.events = ap (drop (length old.object.rounds)) all ∙ drop-append_seam old.object.rounds (rounds_of leads.events) in
      record {
        next = x;
        others = xs;
        are = ap (λ (z : Configuration). z.object.excluded) leads.becomes ∙ excluded_after sub old leads.events ∙ ap (λ t. old.object.excluded ++ t) e;
        rule = f.rule;
        is_rule = f.is_rule;
        place = f.place;
        round = f.round;
        later = subst (λ rs. Contains rs f.round) (sym beyond) (Contains_among f.among);
        ended = f.ended;
      }
