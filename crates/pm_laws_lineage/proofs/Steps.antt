-- Every step keeps each object in line with what it came of.
use Rattle.pm_client.specs.Meanings.{unsaid}
use Rattle.pm_laws_lineage.proofs.Building.{built_line, ends_keep, all_keep, shape_line}
use Rattle.pm_laws_lineage.proofs.Builds.{BuildLaws}
use Rattle.pm_laws_lineage.proofs.Lines.{AllInLine, InLine, all_stand, in_line_disabled, in_line_empty, in_line_ensured, in_line_loaded, in_line_stands, in_line_given, in_line_objective, in_line_program, in_line_settled, line_at, new_line, one_line, same_line}
use Rattle.pm_laws_lineage.proofs.Facts.{right_of_fewer}
use Rattle.pm_laws_lineage.proofs.Savable.{loaded_unasked_stands}
use Rattle.pm_laws_lineage.proofs.Sound.{Sound}
use Rattle.pm_laws_lineage.proofs.Twice.{settling_twice}
use Rattle.pm_laws_lineage.specs.Provenances.{AllStandFor, Records, Provenance, Provenances, StandsFor, after_new, after_taking, records_after, provenance_loaded, provenances_after, lineage_of, made, of_its_values, is_savable, saved_at, saved_if, saving}
use Rattle.pm_laws_lineage.specs.Laws.{HasRead, Leads, new_records}
use Rattle.pm_laws_lineage.specs.Lineages.{Lineage}
use Rattle.pm_files.specs.Files.{SavedFile}
use Rattle.pm_filing.proofs.Unique.{readings_are_unique}
use Rattle.pm_filing.specs.FileReadings.{Reads}
use Rattle.pm_filing.specs.Filing.{loaded_object, unsettled_object}
use Rattle.pm_object.specs.Honest.{based, facts, is_based}
use Rattle.pm_types.specs.Right.{RightAll}
use Rattle.pm_vector.proofs.Filters.{among_map, filter_among, map_among}
use Rattle.pm_vector.proofs.Lists.{Among, among_Contains, here, there}
use Rattle.pm_command.specs.Commands.{RefSeen, ShapeSeen, Spoken, blank, new_object, take_value, give_value, look_up, ensure_values, explain_values, tell_history, show_object, tell_evidence, show_rules, disable_rule, unload_client, copy_object, drop_object, tell_origin, load_object, save_object, make_object, build_object}
use Rattle.pm_command.specs.declared.building.Builder.{Builder}
use Rattle.pm_command.specs.Grammar.{ref_text}
use Rattle.pm_json.specs.Texts.{Given}
use Rattle.pm_machine.specs.Building as building
use Rattle.pm_machine.specs.Building.{BuildStep, MakeStep, wanted_all}
use Rattle.pm_machine.specs.Machines.{Machine, Stays, shelf}
use Rattle.pm_machine.specs.Steps.{CopyStep, IsSavedWhole, bytes_of, DisableStep, DropStep, EnsureStep, EnsuredAll, Ensures, EvidenceStep, ExplainStep, ExplainedAll, Gave, GiveStep, Gives, HistoryStep, LoadStep, LookupStep, Named, NewObjectStep, NewOf, NewProgramStep, OriginStep, RulesStep, SaveStep, ShowStep, Step, TakeStep, TakeValue, UnloadStep, disabling, named_at, part_named, property_at, settled_object}
use Rattle.pm_machine.specs.Steps as steps
use Rattle.pm_making.specs.Rows.{row_of}
use Rattle.pm_object.specs.State.{HeldValue, State, given_at, is_disabled, place_named, take_refusal, with_disabled, with_held}
use Rattle.pm_props.specs.Sets.{only as only_property}
use Rattle.pm_props.specs.declared.property.PropId.{PropId}
use Rattle.pm_props.specs.declared.set.PropSet.{PropSet}
use Rattle.pm_rounds.specs.Events.{Configuration, configuration}
use Rattle.pm_rounds.specs.declared.round.Ending.TheVariants as ending
use Rattle.pm_rules.specs.declared.rule.Rule.{Rule}
use Rattle.pm_script.specs.Replies.{ReplySeen}
use Rattle.pm_types.specs.Values.{Fact, PropertyValue}
use Rattle.pm_machine.proofs.Keeping.{other_bytes, same_bytes}
use Rattle.std.proofs.Common.{ap, append-nil, bytes_eq, false, inl, inr, refl, subst, sym, true, true≢false, ◌∙◌}
use Rattle.std.specs.Option.{is_some, option_and_then, option_map}
use Rattle.std.specs.Prelude.{Bool, IfSome, List, None, Option, Some, [], if◌then◌else◌, ℕ, ◌++◌, ◌∷◌, ◌≡◌}
use Rattle.std.proofs.lemmas.Bool.{cases_Bool}

some_is : {A : Type 0} {a b : A} → Some a ≡ Some b → a ≡ b
some_is h = cc

some_not_none : {A : Type 0} {a : A} → Some a ≡ None → ⊥
some_not_none e = true≢false (ap is_some e)

-- ---- what a REF names
and_then_some : {A B : Type 0} (f : A → Option B) (x : Option A) (b : B) → option_and_then f x ≡ Some b → (a : A) × (x ≡ Some a) × (f a ≡ Some b)
and_then_some f None b e = absurd (some_not_none (sym e))
and_then_some f (Some a) b e = (a, refl, e)

part_object : (o : State) (part : Option (List ℕ)) (x : Named) → part_named o part ≡ Some x → x.object ≡ o
part_object o None x e = ap (λ (z : Named). z.object) (sym (some_is e))
part_object o (Some name) x e = by (place_named name o) e
  where
    by : (place : Option ℕ) → option_map (λ s. record { object = o; sub = Some s }) place ≡ Some x → x.object ≡ o
    by None h = absurd (some_not_none (sym h))
    by (Some s) h = ap (λ (z : Named). z.object) (sym (some_is h))

pub named_object : (m : Machine) (ref : RefSeen) (x : Named) → named_at (shelf m) ref ≡ Some x → m.object ref.name ≡ Some x.object
named_object m ref x e =
    let (o, at, part) = and_then_some (λ o. part_named o ref.sub) (m.object ref.name) x e in
    at ∙ ap Some (sym (part_object o ref.sub x part))

-- a REF with a part names a program
named_part : (o : State) (name : List ℕ) (x : Named) → part_named o (Some name) ≡ Some x → (s : ℕ) × (x.sub ≡ Some s)
named_part o name x e = by (place_named name o) e
  where
    by : (place : Option ℕ) → option_map (λ s. record { object = o; sub = Some s }) place ≡ Some x → (s : ℕ) × (x.sub ≡ Some s)
    by None h = absurd (some_not_none (sym h))
    by (Some s) h = (s, ap (λ (z : Named). z.sub) (sym (some_is h)))

named_sub : (m : Machine) (name sub : List ℕ) (x : Named) → option_and_then (λ o. part_named o (Some sub)) (m.object name) ≡ Some x → (s : ℕ) × (x.sub ≡ Some s)
named_sub m name sub x e = let (o, at, part) = and_then_some (λ o. part_named o (Some sub)) (m.object name) x e in named_part o sub x part

own_sub : (m : Machine) (name : List ℕ) (x : Named) → option_and_then (λ o. part_named o None) (m.object name) ≡ Some x → x.sub ≡ None
own_sub m name x e = let (o, at, part) = and_then_some (λ o. part_named o None) (m.object name) x e in ap (λ (z : Named). z.sub) (sym (some_is part))

taken_free : (o : State) (sub : Option ℕ) (p : PropId) (g : Given) (v : PropertyValue) → TakeValue o sub p g None (Some v) → take_refusal o sub p v ≡ None
taken_free o sub p _ v (steps.takes same (can, _)) = subst (λ z. take_refusal o sub p z ≡ None) (sym (some_is same)) can

-- ---- files
-- what is loaded of bytes that were saved stands for what the object stood for then
abbrev pub AllSaved : List Rule → List (List ℕ × Lineage) → Type 0
AllSaved book saved = (b : List ℕ) (l : Lineage) → Among (b, l) saved → (f : SavedFile) → Reads b f → StandsFor l (loaded_object book f)

loaded_stands_sound : (book : List Rule) (l : Lineage) (f : SavedFile) → StandsFor l (loaded_object book f) → Sound (made l) (loaded_object book f)
loaded_stands_sound book l f stands = λ u d.
    let (of, p, r) = stands.right u d.0 in (
      of,
      p,
      subst (λ z. RightAll (facts z) u p)
          (sym (ap (λ z. based (loaded_object book f).held ++ z) (settling_twice (unsettled_object book f)) ∙ append-nil (based (loaded_object book f).held)))
          (right_of_fewer (facts (loaded_object book f).held) (facts (based (loaded_object book f).held)) u p (within (loaded_object book f).held) r),
    )
  where
    within : (held : List HeldValue) (x : Fact) → Among x (facts (based held)) → Among x (facts held)
    within held x i =
        let (h, j, is) = map_among (λ (h : HeldValue). record { place = h.place; property = h.property; value = h.value }) (based held) i in
        subst (λ z. Among z (facts held)) (sym is) (among_map (λ (h : HeldValue). record { place = h.place; property = h.property; value = h.value }) (filter_among (λ h. is_based h.origin) held j).0)

loaded_sound : (book : List Rule) (saved : List (List ℕ × Lineage)) (bytes : List ℕ) (f : SavedFile) → AllSaved book saved → Reads bytes f → Sound (provenance_loaded saved bytes) (loaded_object book f)
loaded_sound book [] bytes f all reads = tt
loaded_sound book (s ∷ saved) bytes f all reads = elim (cases_Bool (bytes_eq s.0 bytes)) [
  | inl e ↦ subst (λ t. Sound (if t then made s.1 else provenance_loaded saved bytes) (loaded_object book f)) (sym e)
      (loaded_stands_sound book s.1 f (all s.0 s.1 here f (subst (λ z. Reads z f) (sym (same_bytes s.0 bytes e)) reads)))
  | inr e ↦ subst (λ t. Sound (if t then made s.1 else provenance_loaded saved bytes) (loaded_object book f)) (sym e)
      (loaded_sound book saved bytes f (λ b l i. all b l (there i)) reads)
]

-- an object in line is saved
object_saved : (book : List Rule) (provenance : Provenance) (o : State) (saved : List (List ℕ × Lineage)) → InLine provenance o → IsSavedWhole book o → AllSaved book saved → AllSaved book (saved_if (is_savable o) (saving book provenance o) saved)
object_saved book provenance o saved line whole all = by (is_savable o) refl
  where
    by : (t : Bool) → is_savable o ≡ t → AllSaved book (saved_if t (saving book provenance o) saved)
    by false e = all
    by true e = λ b l i f reads. at (b, l) i f reads
      where
        new : (f : SavedFile) → Reads (bytes_of book o) f → StandsFor (lineage_of provenance (settled_object o)) (loaded_object book f)
        new f reads =
            let (g, is, again) = whole in
            subst (λ z. StandsFor (lineage_of provenance (settled_object o)) (loaded_object book z)) (readings_are_unique.one_file (bytes_of book o) g f is reads)
            (loaded_unasked_stands book o g (lineage_of provenance (settled_object o)) (in_line_stands provenance (settled_object o) (in_line_settled book provenance o line)) e (λ h i own. line.placed h (among_Contains o.held i) own) again)

        at : (s : List ℕ × Lineage) → Among s ((bytes_of book o, lineage_of provenance (settled_object o)) ∷ saved) → (f : SavedFile) → Reads s.0 f → StandsFor s.1 (loaded_object book f)
        at _ here f reads = new f reads
        at s (there i) f reads = all s.0 s.1 i f reads

module _ (laws : BuildLaws) (book : List Rule) (provenances : Provenances) where
  stays : (old new : Machine) → Stays old new → AllInLine provenances old → AllInLine provenances new
  stays old new s all = same_line provenances old new s.objects all

  -- ---- new objects
  new_object_line : (old new : Machine) (ref : RefSeen) (name text text' : List ℕ) (reply : ReplySeen) → NewObjectStep old name text reply new → AllInLine provenances old → ref ≡ record { name = name; sub = None } → AllInLine (provenances_after (new_object ref text') reply new provenances) new
  new_object_line old new ref name text text' _ (steps.is_refused r s) all is = stays old new s all
  new_object_line old new ref name text text' _ (steps.is_made of h k l told g) all is =
      subst (λ (z : RefSeen). AllInLine (after_new z.name z.sub provenances) new) (sym is) (new_line provenances name of_its_values _ old new g.object g.others (in_line_empty book of) all)

  new_program_line : (old new : Machine) (ref : RefSeen) (name sub text text' : List ℕ) (reply : ReplySeen) → NewProgramStep old name sub text reply new → AllInLine provenances old → ref ≡ record { name = name; sub = Some sub } → AllInLine (provenances_after (new_object ref text') reply new provenances) new
  new_program_line old new ref name sub text text' _ (steps.is_refused r s) all is = stays old new s all
  new_program_line old new ref name sub text text' _ (steps.is_made o h at free told becomes) all is =
      subst (λ (z : RefSeen). AllInLine (after_new z.name z.sub provenances) new) (sym is)
      (one_line provenances name _ old new becomes.object becomes.others (in_line_program book (provenances name) o sub (line_at provenances old name o at all)) all)

  new_of_line : (old new : Machine) (ref : RefSeen) (name : List ℕ) (sub : Option (List ℕ)) (text : List ℕ) (reply : ReplySeen) → NewOf old name sub text reply new → AllInLine provenances old → ref ≡ record { name = name; sub = sub } → AllInLine (provenances_after (new_object ref text) reply new provenances) new
  new_of_line old new ref name None text reply h all is = new_object_line old new ref name text text reply h all is
  new_of_line old new ref name (Some sub) text reply h all is = new_program_line old new ref name sub text text reply h all is

  -- ---- values that are given
  taken_line : (old new : Machine) (name : List ℕ) (part : Option (List ℕ)) (text : List ℕ) (x : Named) (p : PropId) (v : PropertyValue) → old.object name ≡ Some x.object → option_and_then (λ o. part_named o part) (old.object name) ≡ Some x → property_at x text ≡ Some p → take_refusal x.object x.sub p v ≡ None
      → new.object name ≡ Some (with_held x.object (given_at x.sub p v ∷ [])) → ((q : List ℕ) → (q ≡ name → ⊥) → new.object q ≡ old.object q) → AllInLine provenances old → AllInLine (after_taking name part text (new.object name) provenances) new
  taken_line old new name None text x p v at named property free is others all =
      subst (λ z. AllInLine (after_taking name None text z provenances) new) (sym is)
      (new_line provenances name _ _ old new is others (in_line_given book (provenances name) x.object x.sub text p v (own_sub old name x named) property free (line_at provenances old name x.object at all)) all)
  taken_line old new name (Some sub) text x p v at named property free is others all =
      let (s, e) = named_sub old name sub x named in
      one_line provenances name _ old new is others
      (subst (λ z. InLine (provenances name) (with_held x.object (given_at z p v ∷ []))) (sym e) (in_line_objective book (provenances name) x.object s p v (subst (λ z. take_refusal x.object z p v ≡ None) e free) (line_at provenances old name x.object at all))) all

  take_line : (old new : Machine) (ref : RefSeen) (text json : List ℕ) (reply : ReplySeen) → TakeStep old ref text json reply new → AllInLine provenances old → AllInLine (provenances_after (take_value ref text json) reply new provenances) new
  take_line old new ref text json _ (steps.is_refused r s) all = stays old new s all
  take_line old new ref text json _ (steps.now_held x p v at named taken told becomes) all =
      taken_line old new ref.name ref.sub text x p v (named_object old ref x at) at named (taken_free x.object x.sub p _ v taken) becomes.object becomes.others all

  -- ---- properties that are ensured
  given_line : (provenance : Provenance) (old new : Configuration) (sub : Option ℕ) (name : List ℕ) (p : PropId) (reply : ReplySeen) → Gives unsaid book old sub name p reply new → InLine provenance old.object → InLine provenance new.object
  given_line provenance old new sub name p _ (steps.no_chain e told) s = in_line_ensured book provenance sub (only_property p) ending.NoChain old new e s
  given_line provenance old new sub name p _ (steps.is_crowded e told) s = in_line_ensured book provenance sub (only_property p) ending.Crowded old new e s
  given_line provenance old new sub name p _ (steps.is_shown e same typed is held rounds) s = in_line_ensured book provenance sub (only_property p) ending.Found old new e s

  gave_line : (old new : Machine) (ref : RefSeen) (text : List ℕ) (reply : ReplySeen) → Gave unsaid book old ref text reply new → AllInLine provenances old → AllInLine provenances new
  gave_line old new ref text reply (x, at, p, named, c, gives, becomes) all =
      one_line provenances ref.name c.object old new becomes.object becomes.others
      (given_line (provenances ref.name) (configuration x.object old.clients) c x.sub (ref_text ref) p reply gives (line_at provenances old ref.name x.object (named_object old ref x at) all)) all

  give_line : (old new : Machine) (ref : RefSeen) (text : List ℕ) (reply : ReplySeen) → GiveStep unsaid book old ref text reply new → AllInLine provenances old → AllInLine provenances new
  give_line old new ref text _ (steps.is_refused r s) all = stays old new s all
  give_line old new ref text reply (steps.is_asked h) all = gave_line old new ref text reply h all

  ensures_line : (provenance : Provenance) (old new : Configuration) (sub : Option ℕ) (asked : PropSet) (reply : ReplySeen) → Ensures unsaid book old sub asked reply new → InLine provenance old.object → InLine provenance new.object
  ensures_line provenance old new sub asked _ (steps.no_chain e told) s = in_line_ensured book provenance sub asked ending.NoChain old new e s
  ensures_line provenance old new sub asked _ (steps.is_crowded e told) s = in_line_ensured book provenance sub asked ending.Crowded old new e s
  ensures_line provenance old new sub asked _ (steps.is_found e told) s = in_line_ensured book provenance sub asked ending.Found old new e s

  ensured_all_line : (old new : Machine) (ref : RefSeen) (words : List (List ℕ)) (reply : ReplySeen) → EnsuredAll unsaid book old ref words reply new → AllInLine provenances old → AllInLine provenances new
  ensured_all_line old new ref words reply (x, at, asked, named, c, ensures, becomes) all =
      one_line provenances ref.name c.object old new becomes.object becomes.others
      (ensures_line (provenances ref.name) (configuration x.object old.clients) c x.sub asked reply ensures (line_at provenances old ref.name x.object (named_object old ref x at) all)) all

  ensure_line : (old new : Machine) (ref : RefSeen) (words : List (List ℕ)) (reply : ReplySeen) → EnsureStep unsaid book old ref words reply new → AllInLine provenances old → AllInLine provenances new
  ensure_line old new ref words _ (steps.is_refused r s) all = stays old new s all
  ensure_line old new ref words reply (steps.is_asked h) all = ensured_all_line old new ref words reply h all

  explained_line : (old new : Machine) (ref : RefSeen) (words : List (List ℕ)) (reply : ReplySeen) → ExplainedAll book old ref words reply new → AllInLine provenances old → AllInLine provenances new
  explained_line old new ref words reply (x, at, asked, named, explains, becomes) all =
      one_line provenances ref.name (settled_object x.object) old new becomes.object becomes.others (in_line_settled book (provenances ref.name) x.object (line_at provenances old ref.name x.object (named_object old ref x at) all)) all

  explain_line : (old new : Machine) (ref : RefSeen) (words : List (List ℕ)) (reply : ReplySeen) → ExplainStep book old ref words reply new → AllInLine provenances old → AllInLine provenances new
  explain_line old new ref words _ (steps.is_refused r s) all = stays old new s all
  explain_line old new ref words reply (steps.is_asked h) all = explained_line old new ref words reply h all

  -- ---- what is told
  history_line : (old new : Machine) (name : List ℕ) (reply : ReplySeen) → HistoryStep book old name reply new → AllInLine provenances old → AllInLine provenances new
  history_line old new name _ (steps.is_refused r s) all = stays old new s all
  history_line old new name _ (steps.is_told o at rounds out s) all = stays old new s all

  show_line : (old new : Machine) (name : List ℕ) (reply : ReplySeen) → ShowStep old name reply new → AllInLine provenances old → AllInLine provenances new
  show_line old new name _ (steps.is_refused r s) all = stays old new s all
  show_line old new name _ (steps.is_told o at of held programs s) all = stays old new s all

  evidence_line : (old new : Machine) (name label : List ℕ) (reply : ReplySeen) → EvidenceStep book old name label reply new → AllInLine provenances old → AllInLine provenances new
  evidence_line old new name label _ (steps.is_refused r s) all = stays old new s all
  evidence_line old new name label _ (steps.is_told o at known shown names s) all = stays old new s all

  lookup_line : (old new : Machine) (ref : RefSeen) (text : List ℕ) (reply : ReplySeen) → LookupStep old ref text reply new → AllInLine provenances old → AllInLine provenances new
  lookup_line old new ref text _ (steps.is_refused r s) all = stays old new s all
  lookup_line old new ref text _ (steps.not_held x p at named none s) all = stays old new s all
  lookup_line old new ref text _ (steps.is_shown x at named n typed is told s) all = stays old new s all

  origin_line : (old new : Machine) (ref : RefSeen) (text : List ℕ) (reply : ReplySeen) → OriginStep old ref text reply new → AllInLine provenances old → AllInLine provenances new
  origin_line old new ref text _ (steps.is_refused r s) all = stays old new s all
  origin_line old new ref text _ (steps.not_held x p at named none s) all = stays old new s all
  origin_line old new ref text _ (steps.is_told x p at named is s) all = stays old new s all

  rules_line : (old new : Machine) (reply : ReplySeen) → RulesStep book old reply new → AllInLine provenances old → AllInLine provenances new
  rules_line old new _ (steps.is_listed n text s) all = stays old new s all

  disabled_line : (provenance : Provenance) (o : State) (label : List ℕ) → InLine provenance o → InLine provenance (disabling o label)
  disabled_line provenance o label s = by (is_disabled label o.disabled)
    where
      by : (t : Bool) → InLine provenance (if t then o else with_disabled o label)
      by true = s
      by false = in_line_disabled book provenance o label s

  disable_line : (old new : Machine) (name label : List ℕ) (reply : ReplySeen) → DisableStep book old name label reply new → AllInLine provenances old → AllInLine provenances new
  disable_line old new name label _ (steps.is_refused r s) all = stays old new s all
  disable_line old new name label _ (steps.now_disabled o told at known becomes) all =
      one_line provenances name _ old new becomes.object becomes.others (disabled_line (provenances name) o label (line_at provenances old name o at all)) all

  unload_line : (old new : Machine) (name : List ℕ) (reply : ReplySeen) → UnloadStep old name reply new → AllInLine provenances old → AllInLine provenances new
  unload_line old new name _ (steps.is_refused r s) all = stays old new s all
  unload_line old new name _ (steps.is_unloaded told h u) all = same_line provenances old new u.objects all

  -- ---- objects that come and go
  copy_line : (old new : Machine) (name to : List ℕ) (reply : ReplySeen) → CopyStep old name to reply new → AllInLine provenances old → AllInLine (provenances_after (copy_object name to) reply new provenances) new
  copy_line old new name to _ (steps.is_refused r s) all = stays old new s all
  copy_line old new name to _ (steps.is_copied o told at k l g) all = new_line provenances to (provenances name) o old new g.object g.others (line_at provenances old name o at all) all

  drop_line : (old new : Machine) (name : List ℕ) (reply : ReplySeen) → DropStep old name reply new → AllInLine provenances old → AllInLine provenances new
  drop_line old new name _ (steps.is_refused r s) all = stays old new s all
  drop_line old new name _ (steps.is_dropped told h l) all = record {
    each = λ q. elim (cases_Bool (bytes_eq q name)) [
      | inl e ↦ subst (λ z. IfSome z (InLine (provenances q))) (sym (ap new.object (same_bytes q name e) ∙ l.object)) tt
      | inr e ↦ subst (λ z. IfSome z (InLine (provenances q))) (sym (l.others q (other_bytes q name e))) (all.each q)
    ];
  }

  load_line : (bytes : List ℕ) (saved : List (List ℕ × Lineage)) → AllSaved book saved → (old new : Machine) (name file : List ℕ) (reply : ReplySeen) → LoadStep book old name file reply new → HasRead book old (load_object name file) reply new bytes → AllInLine provenances old
      → AllInLine (records_after book bytes (load_object name file) reply new (record { provenances = provenances; saved = saved })).provenances new
  load_line bytes saved all_saved old new name file _ (steps.no_new_name r s) read all = stays old new s all
  load_line bytes saved all_saved old new name file _ (steps.is_refused free r l) read all = same_line provenances old new l.objects all
  load_line bytes saved all_saved old new name file _ (steps.is_loaded bytes' f' free has reads told g) (at, f, reads', is) all =
      new_line provenances name (provenance_loaded saved bytes) (loaded_object book f) old new is g.others (in_line_loaded book (provenance_loaded saved bytes) f (loaded_sound book saved bytes f all_saved reads')) all

  save_line : (bytes : List ℕ) (saved : List (List ℕ × Lineage)) (old new : Machine) (name file : List ℕ) (reply : ReplySeen) → SaveStep book old name file reply new → AllInLine provenances old
      → AllInLine (records_after book bytes (save_object name file) reply new (record { provenances = provenances; saved = saved })).provenances new
  save_line bytes saved old new name file _ (steps.is_refused r s) all = stays old new s all
  save_line bytes saved old new name file _ (steps.store_failed o at short rose p) all = same_line provenances old new p.objects all
  save_line bytes saved old new name file _ (steps.is_saved o told at short p whole) all = same_line provenances old new p.objects all

  save_saved : (bytes : List ℕ) (saved : List (List ℕ × Lineage)) → AllSaved book saved → (old new : Machine) (name file : List ℕ) (reply : ReplySeen) → SaveStep book old name file reply new → AllInLine provenances old
      → AllSaved book (records_after book bytes (save_object name file) reply new (record { provenances = provenances; saved = saved })).saved
  save_saved bytes saved all_saved old new name file _ (steps.is_refused r s) all = all_saved
  save_saved bytes saved all_saved old new name file _ (steps.store_failed o at short rose p) all = all_saved
  save_saved bytes saved all_saved old new name file _ (steps.is_saved o told at short p whole) all =
      subst (λ z. AllSaved book (saved_at book (provenances name) z saved)) (sym (p.objects name ∙ at)) (object_saved book (provenances name) o saved (line_at provenances old name o at all) whole all_saved)

  load_saved : (bytes : List ℕ) (saved : List (List ℕ × Lineage)) → AllSaved book saved → (old new : Machine) (name file : List ℕ) (reply : ReplySeen) → LoadStep book old name file reply new
      → AllSaved book (records_after book bytes (load_object name file) reply new (record { provenances = provenances; saved = saved })).saved
  load_saved bytes saved all_saved old new name file _ (steps.no_new_name r s) = all_saved
  load_saved bytes saved all_saved old new name file _ (steps.is_refused free r l) = all_saved
  load_saved bytes saved all_saved old new name file _ (steps.is_loaded bytes' f' free has reads told g) = all_saved

  -- ---- objects that are built
  make_line : (old new : Machine) (to : List ℕ) (s : ShapeSeen) (reply : ReplySeen) → MakeStep old to s reply new → AllInLine provenances old → AllInLine (provenances_after (make_object to s) reply new provenances) new
  make_line old new to s _ (building.is_refused r t) all = stays old new t all
  make_line old new to s _ (building.is_made h k told g) all = shape_line laws book provenances to s old new k g all

  build_line : (b : Builder) (old new : Machine) (names : List (List ℕ)) (to : List ℕ) (reply : ReplySeen) → BuildStep unsaid book b old names to reply new → AllInLine provenances old → AllInLine (provenances_after (build_object b names to) reply new provenances) new
  build_line b old new names to _ (building.is_refused r s) all = stays old new s all
  build_line b old new names to _ (building.no_chain d) all = ends_keep laws book provenances (wanted_all (row_of b).reads names) ending.NoChain d.rounds old new d.ends all
  build_line b old new names to _ (building.is_crowded d) all = ends_keep laws book provenances (wanted_all (row_of b).reads names) ending.Crowded d.rounds old new d.ends all
  build_line b old new names to _ (building.not_fit rounds os h other unfit told) all = all_keep laws book provenances (wanted_all (row_of b).reads names) rounds old new h.ensured all
  build_line b old new names to _ (building.not_made rounds os h unmade told) all = all_keep laws book provenances (wanted_all (row_of b).reads names) rounds old new h.ensured all
  build_line b old new names to _ (building.is_made {mid = mid} rounds os f h makes g told) all = built_line laws book provenances b old mid new names to rounds os f h makes g all

  -- ---- each command
  pub step_line : (bytes : List ℕ) (saved : List (List ℕ × Lineage)) → AllSaved book saved → (old new : Machine) (command : Spoken) (reply : ReplySeen) → Step unsaid book old command reply new → HasRead book old command reply new bytes → AllInLine provenances old
      → AllInLine (records_after book bytes command reply new (record { provenances = provenances; saved = saved })).provenances new
  step_line bytes saved all_saved old new blank reply h read all = absurd h
  step_line bytes saved all_saved old new (new_object ref text) reply h read all = new_of_line old new ref ref.name ref.sub text reply h all refl
  step_line bytes saved all_saved old new (take_value ref text json) reply h read all = take_line old new ref text json reply h all
  step_line bytes saved all_saved old new (give_value ref text) reply h read all = give_line old new ref text reply h all
  step_line bytes saved all_saved old new (look_up ref text) reply h read all = lookup_line old new ref text reply h all
  step_line bytes saved all_saved old new (ensure_values ref words) reply h read all = ensure_line old new ref words reply h all
  step_line bytes saved all_saved old new (explain_values ref words) reply h read all = explain_line old new ref words reply h all
  step_line bytes saved all_saved old new (tell_history name) reply h read all = history_line old new name reply h all
  step_line bytes saved all_saved old new (show_object name) reply h read all = show_line old new name reply h all
  step_line bytes saved all_saved old new (tell_evidence name label) reply h read all = evidence_line old new name label reply h all
  step_line bytes saved all_saved old new show_rules reply h read all = rules_line old new reply h all
  step_line bytes saved all_saved old new (disable_rule name label) reply h read all = disable_line old new name label reply h all
  step_line bytes saved all_saved old new (unload_client name) reply h read all = unload_line old new name reply h all
  step_line bytes saved all_saved old new (copy_object name to) reply h read all = copy_line old new name to reply h all
  step_line bytes saved all_saved old new (drop_object name) reply h read all = drop_line old new name reply h all
  step_line bytes saved all_saved old new (tell_origin ref text) reply h read all = origin_line old new ref text reply h all
  step_line bytes saved all_saved old new (load_object name file) reply h read all = load_line bytes saved all_saved old new name file reply h read all
  step_line bytes saved all_saved old new (save_object name file) reply h read all = save_line bytes saved old new name file reply h all
  step_line bytes saved all_saved old new (make_object to shape) reply h read all = make_line old new to shape reply h all
  step_line bytes saved all_saved old new (build_object builder names to) reply h read all = build_line builder old new names to reply h all

  -- what is known of files
  pub step_saved : (bytes : List ℕ) (saved : List (List ℕ × Lineage)) → AllSaved book saved → (old new : Machine) (command : Spoken) (reply : ReplySeen) → Step unsaid book old command reply new → AllInLine provenances old
      → AllSaved book (records_after book bytes command reply new (record { provenances = provenances; saved = saved })).saved
  step_saved bytes saved all_saved old new (load_object name file) reply h all = load_saved bytes saved all_saved old new name file reply h
  step_saved bytes saved all_saved old new (save_object name file) reply h all = save_saved bytes saved all_saved old new name file reply h all
  step_saved bytes saved all_saved old new command reply h all = all_saved

-- ---- what a step reads
load_read : (book : List Rule) (old new : Machine) (name file : List ℕ) (reply : ReplySeen) → LoadStep book old name file reply new → (bytes : List ℕ) × HasRead book old (load_object name file) reply new bytes
load_read book old new name file _ (steps.no_new_name r s) = ([], tt)
load_read book old new name file _ (steps.is_refused free r l) = ([], tt)
load_read book old new name file _ (steps.is_loaded bytes f free has reads told g) = (bytes, (has, f, reads, g.object))

pub read_bytes : (book : List Rule) (old new : Machine) (command : Spoken) (reply : ReplySeen) → Step unsaid book old command reply new → (bytes : List ℕ) × HasRead book old command reply new bytes
read_bytes book old new (load_object name file) reply h = load_read book old new name file reply h
read_bytes book old new command reply h = ([], tt)

-- ---- runs
pub none_in_line : (provenances : Provenances) (m : Machine) → ((q : List ℕ) → m.object q ≡ None) → AllInLine provenances m
none_in_line provenances m none = record { each = λ q. subst (λ z. IfSome z (InLine (provenances q))) (sym (none q)) tt }

pub run_line : (laws : BuildLaws) (book : List Rule) (old new : Machine) (records later : Records) (run : List (Spoken × ReplySeen)) → Leads book old records run new later → AllSaved book records.saved → AllInLine records.provenances old → AllInLine later.provenances new
run_line laws book old new records later [] (is, same) saved all = subst (λ (k : Records). AllInLine k.provenances new) (sym same) (subst (λ (m : Machine). AllInLine records.provenances m) (sym is) all)
run_line laws book old new records later (x ∷ run) (mid, bytes, step, read, rest) saved all =
    run_line laws book mid new (records_after book bytes x.0 x.1 mid records) later run rest (step_saved laws book records.provenances bytes records.saved saved old mid x.0 x.1 step all)
    (step_line laws book records.provenances bytes records.saved saved old mid x.0 x.1 step read all)

pub run_stands : (laws : BuildLaws) (book : List Rule) (start end : Machine) (provenances : Provenances) (later : Records) (run : List (Spoken × ReplySeen)) → ((q : List ℕ) → start.object q ≡ None) → Leads book start (new_records provenances) run end later → AllStandFor later.provenances end
run_stands laws book start end provenances later run none leads = all_stand later.provenances end (run_line laws book start end (new_records provenances) later run leads (λ b l i. elim i [ ]) (none_in_line provenances start none))
