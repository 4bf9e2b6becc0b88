-- What a step does to the names of programs: none with an LF comes.
use Rattle.pm_client.specs.Meanings.{unsaid}
use Rattle.std.proofs.Common.{ap, refl, subst, sym, true≢false, ℕ, List, [], ◌∷◌, ◌++◌, true, ◌≡◌, ◌≢◌, ◌∙◌, ◌&&◌, Option, Some, None, inl, inr, ◌⊎◌}
use Rattle.std.specs.List.{list_all}
use Rattle.std.specs.Option.{option_and_then, option_map}
use Rattle.std.specs.Prelude.{IfSome}
use Rattle.std.specs.Str.{bytes_eq}
use Rattle.std.proofs.lemmas.Bool.{and_from, cases_Bool}
use Rattle.std.proofs.lemmas.List.Folds.{list_all-append, list_all-map}
use Rattle.pm_command.specs.Commands.{RefSeen}
use Rattle.pm_machine.specs.Building.{EndsAt, EnsuresAll, EnsuresOne, Wanted}
use Rattle.pm_machine.specs.Machines.{Becomes, Machine, OthersStay, Shelf}
use Rattle.pm_machine.specs.Steps.{Named, named_at, part_named}
use Rattle.pm_object.specs.State.{RoundSeen, State, place_named}
use Rattle.pm_props.specs.declared.set.PropSet.{PropSet}
use Rattle.pm_rounds.specs.Events.{Configuration, Ensured, Event, after_event, after_events, begun, committed, configuration, excluded, settled, started, written}
use Rattle.pm_rounds.specs.declared.round.Ending.{Ending}
use Rattle.pm_rules.specs.declared.rule.Rule.{Rule}
use Rattle.pm_telling.specs.Telling.{names_told, rules_told}
use Rattle.pm_laws_replies.specs.Scripts.{ProgramNamesAreOneLine, labels_are_one_line}
use Rattle.pm_laws_replies.specs.Told.{NamesAreOneLine, is_one_line}
use Rattle.std.proofs.lemmas.Slice.Eq.{bytes_eq-Decides}

abbrev pub HasLines : State → Type 0
HasLines o = list_all is_one_line o.programs ≡ true

same_list : (a b : List ℕ) → (a ≡ b) ⊎ (a ≢ b)
same_list a b = elim (cases_Bool (bytes_eq a b)) [
  | inl e ↦ inl ((bytes_eq-Decides a b).0 e)
  | inr e ↦ inr (λ s. true≢false (sym ((bytes_eq-Decides a b).1 s) ∙ e))
]

pub object_lines : (m : Machine) → ProgramNamesAreOneLine m → (name : List ℕ) (o : State) → m.object name ≡ Some o → HasLines o
object_lines m h name o e = subst (λ x. IfSome x HasLines) e (h.each name)

pub same_objects : (old new : Machine) → ((q : List ℕ) → new.object q ≡ old.object q) → ProgramNamesAreOneLine old → ProgramNamesAreOneLine new
same_objects old new s h = record { each = λ q. subst (λ x. IfSome x HasLines) (sym (s q)) (h.each q) }

pub put_lines : (name : List ℕ) (x : Option State) (old new : Machine) → new.object name ≡ x → OthersStay name old new → IfSome x HasLines → ProgramNamesAreOneLine old → ProgramNamesAreOneLine new
put_lines name x old new e others p h = record {
  each = λ q. elim (same_list q name) [
    | inl s ↦ subst (λ k. IfSome (new.object k) HasLines) (sym s) (subst (λ z. IfSome z HasLines) (sym e) p)
    | inr n ↦ subst (λ z. IfSome z HasLines) (sym (others q n)) (h.each q)
  ];
}

part_object : (o : State) (r : Option ℕ) (x : Named) → option_map (λ s. record { object = o; sub = Some s }) r ≡ Some x → o ≡ x.object
part_object o None x e = cc
part_object o (Some s) x e = some_same (ap (λ z. option_map (λ (y : Named). y.object) z) e)
  where
    some_same : {X : Type 0} {a b : X} → Some a ≡ Some b → a ≡ b
    some_same e = cc

named_part : (o : State) (sub : Option (List ℕ)) (x : Named) → part_named o sub ≡ Some x → o ≡ x.object
named_part o None x e = some_same (ap (λ z. option_map (λ (y : Named). y.object) z) e)
  where
    some_same : {X : Type 0} {a b : X} → Some a ≡ Some b → a ≡ b
    some_same e = cc
named_part o (Some name) x e = part_object o (place_named name o) x e

pub named_object : (s : Shelf) (ref : RefSeen) (x : Named) → named_at s ref ≡ Some x → s.object ref.name ≡ Some x.object
named_object s ref x e = by (s.object ref.name) e
  where
    by : (r : Option State) → option_and_then (λ o. part_named o ref.sub) r ≡ Some x → r ≡ Some x.object
    by None e = cc
    by (Some o) e = ap Some (named_part o ref.sub x e)

-- ---- rounds
event_programs : (sub : Option ℕ) (e : Event) (c : Configuration) → (after_event sub e c).object.programs ≡ c.object.programs
event_programs sub settled c = refl
event_programs sub (begun chain) c = refl
event_programs sub (started kind) c = refl
event_programs sub (committed answer) c = refl
event_programs sub (excluded e) c = refl
event_programs sub (written r) c = refl

events_programs : (sub : Option ℕ) (es : List Event) (c : Configuration) → (after_events sub es c).object.programs ≡ c.object.programs
events_programs sub [] c = refl
events_programs sub (e ∷ es) c = events_programs sub es (after_event sub e c) ∙ event_programs sub e c

pub ensured_lines : (book : List Rule) (sub : Option ℕ) (asked : PropSet) (ending : Ending) (old new : Configuration) → Ensured unsaid book sub asked ending old new → HasLines old.object → HasLines new.object
ensured_lines book sub asked ending old new e h =
    let same : new.object.programs ≡ old.object.programs = ap (λ (c : Configuration). c.object.programs) e.reaches.becomes ∙ events_programs sub e.reaches.events old in
    ap (list_all is_one_line) same ∙ h

pub become_lines : (name : List ℕ) (c : Configuration) (old new : Machine) → Becomes name c old new → HasLines c.object → ProgramNamesAreOneLine old → ProgramNamesAreOneLine new
become_lines name c old new b p h = put_lines name (Some c.object) old new b.object b.others p h

pub one_lines : (book : List Rule) (w : Wanted) (e : Ending) (rounds : List RoundSeen) (old new : Machine) → EnsuresOne unsaid book w e rounds old new → ProgramNamesAreOneLine old → ProgramNamesAreOneLine new
one_lines book w e rounds old new x h = become_lines w.name x.now old new x.becomes (ensured_lines book None _ e (configuration x.object old.clients) x.now x.ensured (object_lines old h w.name x.object x.named)) h

pub all_lines : (book : List Rule) (ws : List Wanted) (rounds : List RoundSeen) (old new : Machine) → EnsuresAll unsaid book ws rounds old new → ProgramNamesAreOneLine old → ProgramNamesAreOneLine new
all_lines book [] rounds old new x h = same_objects old new x.1.objects h
all_lines book (w ∷ ws) rounds old new (mid, first, others, one, rest, is) h = all_lines book ws others mid new rest (one_lines book w _ first old mid one h)

pub end_lines : (book : List Rule) (ws : List Wanted) (e : Ending) (rounds : List RoundSeen) (old new : Machine) → EndsAt unsaid book ws e rounds old new → ProgramNamesAreOneLine old → ProgramNamesAreOneLine new
end_lines book [] e rounds old new x h = absurd x
end_lines book (w ∷ ws) e rounds old new (inl x) h = one_lines book w e rounds old new x.1 h
end_lines book (w ∷ ws) e rounds old new (inr (mid, first, others, one, rest, is)) h = end_lines book ws e others mid new rest (one_lines book w _ first old mid one h)

-- ---- names told
pub book_lines : (book : List Rule) → labels_are_one_line book ≡ true → NamesAreOneLine (rules_told book)
book_lines book h = record { labels = list_all-map (λ r. is_one_line r.0) (λ (rule : Rule). (rule.label, rule.weight)) book ∙ h; programs = refl }

pub told_lines : (book : List Rule) (o : State) → labels_are_one_line book ≡ true → HasLines o → NamesAreOneLine (names_told book o)
told_lines book o h p = record { labels = list_all-map (λ r. is_one_line r.0) (λ (rule : Rule). (rule.label, rule.weight)) book ∙ h; programs = p }

pub append_lines : (o : State) (name : List ℕ) → HasLines o → is_one_line name ≡ true → list_all is_one_line (o.programs ++ name ∷ []) ≡ true
append_lines o name h k = list_all-append is_one_line o.programs (name ∷ []) ∙ and_from (list_all is_one_line o.programs) (is_one_line name && true) h (and_from (is_one_line name) true k refl)
