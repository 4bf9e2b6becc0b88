-- What an object was made of stays so while properties are ensured: the given and stored values of an object that was
-- made are right for each thing that its lineage denotes.
use Rattle.pm_client.specs.Meanings.{unsaid}
use Rattle.pm_geom.specs.Things.{Orders}
use Rattle.pm_laws_lineage.proofs.Facts.{based_append, computed_based, objectives_append, right_of_first, settled_based, settled_objectives}
use Rattle.pm_laws_lineage.proofs.Twice.{sealed_settles_nothing, settling_knows, settling_twice}
use Rattle.pm_laws_lineage.specs.Provenances.{Provenance, made, objectives, of_its_values}
use Rattle.pm_laws_lineage.specs.Lineages.{Denotes, Lineage, with_objectives}
use Rattle.pm_object.specs.Honest.{based, facts}
use Rattle.pm_object.specs.Laws.{computed}
use Rattle.pm_object.specs.State.{HeldValue, State, cols_of, has_rounds, is_held, settling, settling_names, with_held, with_round}
use Rattle.pm_object_type.specs.declared.object_type.ObjectType.{ObjectType}
use Rattle.pm_props.specs.declared.kind.RuleId.{RuleId}
use Rattle.pm_props.specs.declared.property.PropId.TheVariants.{ConeAmbientDim}
use Rattle.pm_props.specs.declared.set.PropSet.{PropSet}
use Rattle.pm_rounds.specs.Events.{Configuration, Ensured, EnsuredInPart, Event, IsTrace, MayOccur, Phase, after_event, after_events, at_rest, begun, committed, excluded, over, phase_after, phase_after_all, running, settled, started, turn, turns, unsettled, written}
use Rattle.pm_rounds.specs.declared.round.Ending.{Ending}
use Rattle.pm_rules.specs.declared.rule.Rule.{Rule}
use Rattle.pm_types.specs.Right.{RightAll}
use Rattle.pm_types.specs.Runs.{missing}
use Rattle.pm_types.specs.Things.{Thing}
use Rattle.pm_object.proofs.Formed.{held_stays}
use Rattle.std.proofs.Common.{ap, append-nil, arith, false, refl, subst, suc, sym, true, ◌∙◌}
use Rattle.std.specs.Option.{unwrap_or}
use Rattle.std.specs.Prelude.{List, Option, [], length, nat_eq, not, ℕ, ◌++◌, ◌∷◌, ◌≡◌}

-- values are right for each thing that the lineage denotes and that has the objectives among others
abbrev pub RightBased : Lineage → ObjectType → List HeldValue → List HeldValue → Type 0
RightBased l of objs held = (u : Thing) → Denotes (with_objectives l (objectives objs)) u → (u.of ≡ of) × (p : Orders) × RightAll (facts held) u p

-- the given and stored values of an object that was made, with what goes without saying of them
abbrev pub Sound : Provenance → State → Type 0
Sound of_its_values o = Unit {0}
Sound (made l) o = RightBased l o.of (based o.held) (based o.held ++ settling o)

-- the same, without
abbrev pub SoundHeld : Provenance → State → Type 0
SoundHeld of_its_values o = Unit {0}
SoundHeld (made l) o = RightBased l o.of (based o.held) (based o.held)

abbrev pub KnowsDimension : State → Type 0
KnowsDimension o = has_rounds o ≡ true → is_held ConeAmbientDim o.held ≡ true

abbrev pub InPhase : Provenance → Phase → State → Type 0
InPhase provenance unsettled o = Sound provenance o × KnowsDimension o
InPhase provenance at_rest o = Sound provenance o × (is_held ConeAmbientDim o.held ≡ true)
InPhase provenance phase o = SoundHeld provenance o × (is_held ConeAmbientDim o.held ≡ true)

-- ---- what is held alone
pub sound_held : (provenance : Provenance) (o : State) → Sound provenance o → SoundHeld provenance o
sound_held of_its_values o s = tt
sound_held (made l) o s = λ u d. let (of, p, r) = s u d in (of, p, right_of_first (based o.held) (settling o) u p r)

-- the same given and stored values, and nothing to settle
pub sound_same : (provenance : Provenance) (o q : State) → q.of ≡ o.of → based q.held ≡ based o.held → SoundHeld provenance o → SoundHeld provenance q
sound_same of_its_values o q of same s = tt
sound_same (made l) o q of same s = λ u d.
    let (is, p, r) = s u (subst (λ z. Denotes (with_objectives l (objectives z)) u) same d) in
    (is ∙ sym of, p, subst (λ z. RightAll (facts z) u p) (sym same) r)

pub sound_sealed : (provenance : Provenance) (o : State) → settling o ≡ [] → SoundHeld provenance o → Sound provenance o
sound_sealed of_its_values o none s = tt
sound_sealed (made l) o none s = λ u d.
    let (is, p, r) = s u d in
    (is, p, subst (λ z. RightAll (facts z) u p) (sym (ap (λ z. based o.held ++ z) none ∙ append-nil (based o.held))) r)

-- ---- settling
settling_based : (o : State) → based (settling o) ≡ settling o
settling_based o = settled_based (unwrap_or (cols_of o.held) 1) (settling_names o)

settling_objectives : (o : State) → objectives (settling o) ≡ []
settling_objectives o = settled_objectives (unwrap_or (cols_of o.held) 1) (settling_names o)

based_settled : (o : State) → based (o.held ++ settling o) ≡ based o.held ++ settling o
based_settled o = based_append o.held (settling o) ∙ ap (λ z. based o.held ++ z) (settling_based o)

objectives_settled : (o : State) → objectives (based (o.held ++ settling o)) ≡ objectives (based o.held)
objectives_settled o =
    ap objectives (based_settled o) ∙ objectives_append (based o.held) (settling o) ∙ ap (λ z. objectives (based o.held) ++ z) (settling_objectives o) ∙ append-nil (objectives (based o.held))

pub sound_settled : (provenance : Provenance) (o : State) → Sound provenance o → Sound provenance (with_held o (settling o))
sound_settled of_its_values o s = tt
sound_settled (made l) o s = λ u d.
    let (is, p, r) = s u (subst (λ z. Denotes (with_objectives l z) u) (objectives_settled o) d) in
    (is, p, subst (λ z. RightAll (facts z) u p) (sym (ap (λ z. based (o.held ++ settling o) ++ z) (settling_twice o) ∙ append-nil (based (o.held ++ settling o)) ∙ based_settled o)) r)

-- ---- rounds
rounds_more : {X : Type 0} (xs : List X) (x : X) → not (nat_eq (length (xs ++ x ∷ [])) 0) ≡ true
rounds_more [] x = refl
rounds_more (y ∷ xs) x = ap not (more_than_0 (length (xs ++ x ∷ [])))
  where
    more_than_0 : (n : ℕ) → nat_eq (suc n) 0 ≡ false
    more_than_0 n = grind arith

in_turns : (provenance : Provenance) (chain left : List RuleId) (o : State) → SoundHeld provenance o × (is_held ConeAmbientDim o.held ≡ true) → InPhase provenance (turns chain left) o
in_turns provenance chain [] o s = s
in_turns provenance chain (id ∷ left) o s = s

event_keeps : (provenance : Provenance) (book : List Rule) (sub : Option ℕ) (asked : PropSet) (phase : Phase) (c : Configuration) (e : Event) → MayOccur unsaid book sub asked phase c e
    → InPhase provenance phase c.object → InPhase provenance (phase_after phase e) (after_event sub e c).object
event_keeps provenance book sub asked unsettled c settled may (s, knows) = (sound_settled provenance c.object s, settling_knows c.object knows)
event_keeps provenance book sub asked at_rest c (begun chain) may (s, knows) = in_turns provenance chain chain c.object (sound_held provenance c.object s, knows)
event_keeps provenance book sub asked (turn chain id left) c (started kind) may s = s
event_keeps provenance book sub asked (turn chain id left) c (excluded e) may (s, knows) = (sound_same provenance c.object _ refl refl s, knows)
event_keeps provenance book sub asked (running chain id left) c (committed answer) may (s, knows) =
    in_turns provenance chain left _ (sound_same provenance c.object _ refl (based_append c.object.held (computed (missing sub (facts c.object.held) answer)) ∙ ap (λ z. based c.object.held ++ z) (computed_based (missing sub (facts c.object.held) answer)) ∙ append-nil (based c.object.held)) s, held_stays ConeAmbientDim c.object.held _ knows)
event_keeps provenance book sub asked (running chain id left) c (excluded e) may (s, knows) = (sound_same provenance c.object _ refl refl s, knows)
event_keeps provenance book sub asked (over chain e) c (written r) may (s, knows) = (
  sound_sealed provenance (with_round c.object r) (sealed_settles_nothing (with_round c.object r) (rounds_more c.object.rounds r)) (sound_same provenance c.object (with_round c.object r) refl refl s),
  knows,
)
event_keeps provenance book sub asked phase c e may s = absurd may

events_keep : (provenance : Provenance) (book : List Rule) (sub : Option ℕ) (asked : PropSet) (phase : Phase) (c : Configuration) (events : List Event) → IsTrace unsaid book sub asked phase c events
    → InPhase provenance phase c.object → InPhase provenance (phase_after_all phase events) (after_events sub events c).object
events_keep provenance book sub asked phase c [] trace s = s
events_keep provenance book sub asked phase c (e ∷ events) (may, trace) s = events_keep provenance book sub asked (phase_after phase e) (after_event sub e c) events trace (event_keeps provenance book sub asked phase c e may s)

-- in every phase the given and stored values are so
held_in_phase : (provenance : Provenance) (phase : Phase) (o : State) → InPhase provenance phase o → SoundHeld provenance o
held_in_phase provenance unsettled o s = sound_held provenance o s.0
held_in_phase provenance at_rest o s = sound_held provenance o s.0
held_in_phase provenance phase o s = s.0

pub ensured_in_part_keeps : (provenance : Provenance) (book : List Rule) (sub : Option ℕ) (asked : PropSet) (old new : Configuration) → EnsuredInPart unsaid book sub asked old new → Sound provenance old.object → KnowsDimension old.object → SoundHeld provenance new.object
ensured_in_part_keeps provenance book sub asked old new (phase, part) s knows =
    subst (λ (c : Configuration). SoundHeld provenance c.object) (sym part.becomes)
    (held_in_phase provenance (phase_after_all unsettled part.events) (after_events sub part.events old).object (events_keep provenance book sub asked unsettled old part.events part.trace (s, knows)))

pub ensured_keeps : (provenance : Provenance) (book : List Rule) (sub : Option ℕ) (asked : PropSet) (ending : Ending) (old new : Configuration) → Ensured unsaid book sub asked ending old new
    → Sound provenance old.object → KnowsDimension old.object → Sound provenance new.object × (is_held ConeAmbientDim new.object.held ≡ true)
ensured_keeps provenance book sub asked ending old new e s knows =
    subst (λ (c : Configuration). InPhase provenance at_rest c.object) (sym e.reaches.becomes)
    (subst (λ (q : Phase). InPhase provenance q (after_events sub e.reaches.events old).object) e.reaches.phase_is (events_keep provenance book sub asked unsettled old e.reaches.events e.reaches.trace (s, knows)))
