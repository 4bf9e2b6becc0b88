-- A value that is shown stands in an honest object.
use Rattle.pm_client.specs.Meanings.{Meanings, unsaid}
use Rattle.pm_machine.proofs.Narrowing.{step_more}
use Rattle.pm_rounds.proofs.Narrowing.{narrows_unsaid}
use Rattle.std.proofs.Common.{ap, subst, sym, refl, ◌∙◌, ◌≡◌, ℕ, List, [], ◌∷◌, Option, Some, None}
use Rattle.std.proofs.lemmas.Option.{same_Some}
use Rattle.std.specs.Option.{option_and_then, option_map}
use Rattle.pm_object_type.specs.declared.object_type.ObjectType.{ObjectType}
use Rattle.pm_machine.proofs.KeepingSteps.{some_not_none}
use Rattle.pm_machine.proofs.Kept.{kept_at, steps_keep}
use Rattle.pm_machine.proofs.Standing.{steps_keep_evidence}
use Rattle.pm_machine.specs.Laws.{AllStand}
use Rattle.pm_rounds.specs.Events.{Configuration, Ensured, Event, after_event, after_events, begun, committed, configuration, excluded, settled, started, written}
use Rattle.pm_rounds.specs.declared.round.Ending.{Ending}
use Rattle.pm_rounds.specs.declared.round.Ending.TheVariants.{Found}
use Rattle.pm_machine.specs.Machines.{Machine, shelf}
use Rattle.pm_machine.specs.Steps.{AllKept, Named, NewOf, Step, is_asked, is_shown, named_at, part_named}
use Rattle.pm_object.specs.State.{State, place_from, place_named, read_at, value_of}
use Rattle.pm_rules.specs.declared.rule.Rule.{Rule}
use Rattle.pm_command.specs.Commands.{RefSeen, Spoken, blank, new_object, give_value, look_up, ensure_values, explain_values}
use Rattle.pm_command.specs.Grammar.{ref_text}
use Rattle.pm_command.specs.Lines.{Line}
use Rattle.pm_script.specs.Replies.{ReplySeen, Rounds, shows}
use Rattle.pm_script.specs.declared.refusal.Refusal.{Refusal}
use Rattle.pm_machine.specs.Run.{Answers, AnswersTo, command_at, refusal_of}
use Rattle.pm_machine.specs.Shown.{IsShown, Shows}
use Rattle.pm_types.specs.Values.{PropertyValue}
use Rattle.pm_props.specs.declared.property.PropId.{PropId}
use Rattle.pm_props.specs.declared.set.PropSet.{PropSet}

-- ---- honesty
pub kept_to : (M : Meanings) (book : List Rule) (old new : Machine) (why : Refusal) (command : Option Spoken) (reply : Option ReplySeen) → AnswersTo M book old why command reply new → AllKept old → AllKept new
kept_to M book old new why (Some command) (Some reply) step all =
    steps_keep book old new command reply (step_more unsaid M (narrows_unsaid M) book old new command reply step) all
kept_to M book old new why (Some blank) None is all = subst AllKept (sym is) all
kept_to M book old new why (Some command) None h all = absurd h
kept_to M book old new why None (Some reply) (reply_is, is) all = subst AllKept (sym is) all
kept_to M book old new why None None h all = absurd h

pub stand_to : (M : Meanings) (book : List Rule) (old new : Machine) (why : Refusal) (command : Option Spoken) (reply : Option ReplySeen) → AnswersTo M book old why command reply new → AllStand book old → AllStand book new
stand_to M book old new why (Some command) (Some reply) step all =
    steps_keep_evidence book old new command reply (step_more unsaid M (narrows_unsaid M) book old new command reply step) all
stand_to M book old new why (Some blank) None is all = subst (AllStand book) (sym is) all
stand_to M book old new why (Some command) None h all = absurd h
stand_to M book old new why None (Some reply) (reply_is, is) all = subst (AllStand book) (sym is) all
stand_to M book old new why None None h all = absurd h

pub stand_by : (M : Meanings) (book : List Rule) (old new : Machine) (line : Line) (reply : Option ReplySeen) → Answers M book old line reply new → AllStand book old → AllStand book new
stand_by M book old new line reply answers all = stand_to M book old new (refusal_of line) (command_at line) reply answers all

pub kept_by : (M : Meanings) (book : List Rule) (old new : Machine) (line : Line) (reply : Option ReplySeen) → Answers M book old line reply new → AllKept old → AllKept new
kept_by M book old new line reply answers all = kept_to M book old new (refusal_of line) (command_at line) reply answers all

-- ---- events keep the type and the programs
of_event : (sub : Option ℕ) (e : Event) (c : Configuration) → (after_event sub e c).object.of ≡ c.object.of
of_event sub settled c = refl
of_event sub (begun chain) c = refl
of_event sub (started kind) c = refl
of_event sub (committed answer) c = refl
of_event sub (excluded e) c = refl
of_event sub (written r) c = refl

of_events : (sub : Option ℕ) (events : List Event) (c : Configuration) → (after_events sub events c).object.of ≡ c.object.of
of_events sub [] c = refl
of_events sub (e ∷ events) c = of_events sub events (after_event sub e c) ∙ of_event sub e c

of_ensured : (M : Meanings) (book : List Rule) (sub : Option ℕ) (asked : PropSet) (ending : Ending) (old new : Configuration) → Ensured M book sub asked ending old new → new.object.of ≡ old.object.of
of_ensured M book sub asked ending old new e = ap (λ (c : Configuration). c.object.of) e.reaches.becomes ∙ of_events sub e.reaches.events old

programs_event : (sub : Option ℕ) (e : Event) (c : Configuration) → (after_event sub e c).object.programs ≡ c.object.programs
programs_event sub settled c = refl
programs_event sub (begun chain) c = refl
programs_event sub (started kind) c = refl
programs_event sub (committed answer) c = refl
programs_event sub (excluded e) c = refl
programs_event sub (written r) c = refl

programs_events : (sub : Option ℕ) (events : List Event) (c : Configuration) → (after_events sub events c).object.programs ≡ c.object.programs
programs_events sub [] c = refl
programs_events sub (e ∷ events) c = programs_events sub events (after_event sub e c) ∙ programs_event sub e c

programs_ensured : (M : Meanings) (book : List Rule) (sub : Option ℕ) (asked : PropSet) (ending : Ending) (old new : Configuration) → Ensured M book sub asked ending old new → new.object.programs ≡ old.object.programs
programs_ensured M book sub asked ending old new e = ap (λ (c : Configuration). c.object.programs) e.reaches.becomes ∙ programs_events sub e.reaches.events old

-- ---- what a REF names
-- another object with the same programs has the same part at the same place
part_again : (x : Option State) (part : Option (List ℕ)) (found : Named) (o : State) → option_and_then (λ y. part_named y part) x ≡ Some found → o.programs ≡ found.object.programs
    → part_named o part ≡ Some (record { object = o; sub = found.sub })
part_again None part found o at same = absurd (some_not_none (sym at))
part_again (Some y) None found o at same = ap (λ (z : Named). Some (record { object = o; sub = z.sub })) (same_Some _ _ at)
part_again (Some y) (Some name) found o at same = by (place_named name y) refl at
  where
    by : (place : Option ℕ) → place_named name y ≡ place → option_map {U = Named} (λ s. record { object = y; sub = Some s }) place ≡ Some found
        → option_map {U = Named} (λ s. record { object = o; sub = Some s }) (place_named name o) ≡ Some (record { object = o; sub = found.sub })
    by None is h = absurd (some_not_none (sym h))
    by (Some s) is h =
        let e : record { object = y; sub = Some s } ≡ found = same_Some _ _ h in
        let there : place_named name o ≡ Some s = ap (place_from 0 name) (same ∙ sym (ap (λ (z : Named). z.object.programs) e)) ∙ is in
        ap (option_map {U = Named} (λ k. record { object = o; sub = Some k })) there ∙ ap (λ (z : Named). Some (record { object = o; sub = z.sub })) e

named_again : (old new : Machine) (ref : RefSeen) (found : Named) (o : State) → named_at (shelf old) ref ≡ Some found → new.object ref.name ≡ Some o → o.programs ≡ found.object.programs
    → named_at (shelf new) ref ≡ Some (record { object = o; sub = found.sub })
named_again old new ref found o at is same =
    ap (option_and_then (λ y. part_named y ref.sub)) is ∙ part_again (old.object ref.name) ref.sub found o at same

-- ---- what a step shows
shown_by : (m : Machine) (ref : RefSeen) (text : List ℕ) (of : ObjectType) (p : PropId) (v : PropertyValue) (found : Named)
    → AllKept m → text ≡ ref_text ref → named_at (shelf m) ref ≡ Some found → found.object.of ≡ of → value_of p (read_at found.sub found.object.held) ≡ Some v → IsShown text of p v m
shown_by m ref text of p v found all is at typed held =
    record { ref = ref; spelled = is; found = found; named = at; typed = typed; held = held; honest = (kept_at m ref found at all).honest }

none_made : (old new : Machine) (name : List ℕ) (sub : Option (List ℕ)) (word text : List ℕ) (of : ObjectType) (p : PropId) (v : PropertyValue) (t : Rounds) → NewOf old name sub word (shows text of p v t) new → ⊥
none_made old new name None word text of p v t h = elim h [ ]
none_made old new name (Some sub) word text of p v t h = elim h [ ]

shown_step : (M : Meanings) (book : List Rule) (old new : Machine) (command : Spoken) (text : List ℕ) (of : ObjectType) (p : PropId) (v : PropertyValue) (t : Rounds)
    → Step M book old command (shows text of p v t) new → AllKept new → IsShown text of p v new
shown_step M book old new (new_object ref word) text of p v t h all = absurd (none_made old new ref.name ref.sub word text of p v t h)
shown_step M book old new (give_value ref word) text of p v t (is_asked (x, at, q, named, c, is_shown so is typed same held rounds, becomes)) all =
    shown_by new ref text of p v (record { object = c.object; sub = x.sub }) all is
    (named_again old new ref x c.object at becomes.object (programs_ensured M book x.sub _ Found (configuration x.object old.clients) c so))
    (of_ensured M book x.sub _ Found (configuration x.object old.clients) c so ∙ sym typed) (subst (λ z. value_of z (read_at x.sub c.object.held) ≡ Some v) (sym same) held)
shown_step M book old new (look_up ref word) text of p v t (is_shown x at named is typed held none stays) all =
    shown_by new ref text of p v x all is (ap (option_and_then (λ y. part_named y ref.sub)) (stays.objects ref.name) ∙ at) (sym typed) held
shown_step M book old new (ensure_values ref words) text of p v t (is_asked (x, at, asked, named, c, h, becomes)) all = elim h [ ]
shown_step M book old new (explain_values ref words) text of p v t (is_asked (x, at, asked, named, h, becomes)) all = elim h [ ]
shown_step M book old new command text of p v t h all = elim h [ ]

shown_to : (M : Meanings) (book : List Rule) (old new : Machine) (why : Refusal) (command : Option Spoken) (text : List ℕ) (of : ObjectType) (p : PropId) (v : PropertyValue) (t : Rounds)
    → AnswersTo M book old why command (Some (shows text of p v t)) new → AllKept new → IsShown text of p v new
shown_to M book old new why (Some command) text of p v t step all = shown_step M book old new command text of p v t step all
shown_to M book old new why None text of p v t (reply_is, is) all = absurd (cc reply_is)

pub shows_right : (M : Meanings) (book : List Rule) (old new : Machine) (line : Line) (reply : Option ReplySeen) → Answers M book old line reply new → AllKept new → Shows reply new
shows_right M book old new line (Some (shows text of p v t)) answers all = shown_to M book old new (refusal_of line) (command_at line) text of p v t answers all
shows_right M book old new line reply answers all = tt
