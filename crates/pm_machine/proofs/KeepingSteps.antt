-- What each command does keeps what is so of each object: by the definitions of the steps alone.
use Rattle.pm_client.specs.Meanings.{unsaid}
use Rattle.pm_machine.proofs.Keeping.{Each, Keeping, at_name, becomes_in_part, becomes_so, each_weaker, other_bytes, same_bytes, same_so, stays_so, with_one}
use Rattle.pm_machine.proofs.KeepingBuilding.{build_keeps, make_keeps, parts_keep}
use Rattle.pm_making.specs.Rows.{row_of}
use Rattle.pm_machine.specs.Building.{wanted_all}
use Rattle.pm_rounds.specs.declared.round.Ending.TheVariants as ending
use Rattle.pm_rounds.specs.Events.{Configuration, EnsuredInPart, configuration}
use Rattle.pm_machine.specs.Parts.{IsSettled, StepInPart}
use Rattle.pm_machine.specs.Machines.{Becomes, Machine, shelf}
use Rattle.pm_json.specs.Texts.{Given}
use Rattle.pm_machine.specs.Steps.{CopyStep, DisableStep, DropStep, EnsureStep, EnsuredAll, Ensures, EvidenceStep, ExplainStep, ExplainedAll, Gave, GiveStep, Gives, HistoryStep, LoadStep, LookupStep, Named, NewObjectStep, NewOf, NewProgramStep, NewStep, OriginStep, RulesStep, SaveStep, ShowStep, Step, TakeStep, TakeValue, UnloadStep, disabling, is_asked, is_copied, is_crowded, is_dropped, is_found, is_listed, is_loaded, is_made, is_refused, is_saved, is_shown, is_told, is_unloaded, named_at, no_chain, no_new_name, not_held, now_disabled, now_held, part_named, store_failed, takes}
use Rattle.pm_command.specs.Grammar.{ref_text}
use Rattle.pm_object.specs.State.{State, is_disabled, place_named, take_refusal, with_disabled}
use Rattle.pm_rules.specs.declared.rule.Rule.{Rule}
use Rattle.pm_command.specs.Commands.{RefSeen, Spoken, blank, new_object, take_value, give_value, look_up, ensure_values, explain_values, tell_history, show_object, tell_evidence, show_rules, disable_rule, unload_client, copy_object, drop_object, tell_origin, load_object, save_object, make_object, build_object}
use Rattle.pm_script.specs.Replies.{ReplySeen}
use Rattle.pm_props.specs.Sets.{only as only_property}
use Rattle.pm_types.specs.Values.{PropertyValue}
use Rattle.pm_props.specs.declared.property.PropId.{PropId}
use Rattle.pm_props.specs.declared.set.PropSet.{PropSet}
use Rattle.std.proofs.Common.{ap, bytes_eq, false, inl, inr, refl, subst, sym, true, true≢false, ◌∙◌}
use Rattle.std.specs.Option.{is_some, option_and_then, option_map}
use Rattle.std.specs.Prelude.{Bool, IfSome, List, None, Option, Some, if◌then◌else◌, ℕ, ◌≡◌}
use Rattle.std.proofs.lemmas.Bool.{cases_Bool}

some_is : {A : Type 0} {a b : A} → Some a ≡ Some b → a ≡ b
some_is h = cc

pub some_not_none : {A : Type 0} {a : A} → Some a ≡ None → ⊥
some_not_none e = true≢false (ap is_some e)

-- the object that a REF names is the one of its name
and_then_some : {A B : Type 0} (f : A → Option B) (x : Option A) (b : B) → option_and_then f x ≡ Some b → (a : A) × (x ≡ Some a) × (f a ≡ Some b)
and_then_some f None b e = absurd (some_not_none (sym e))
and_then_some f (Some a) b e = (a, refl, e)

part_object : (o : State) (part : Option (List ℕ)) (x : Named) → part_named o part ≡ Some x → x.object ≡ o
part_object o None x e = ap (λ (z : Named). z.object) (sym (some_is e))
part_object o (Some name) x e = by (place_named name o) e
  where
    by : (place : Option ℕ) → option_map (λ s. record { object = o; sub = Some s }) place ≡ Some x → x.object ≡ o
    by None h = absurd (some_not_none (sym h))
    by (Some s) h = ap (λ (z : Named). z.object) (sym (some_is h))

pub at_ref : (P : State → Type 0) (m : Machine) (ref : RefSeen) (x : Named) → named_at (shelf m) ref ≡ Some x → Each P m → P x.object
at_ref P m ref x e all =
    let (o, at, part) = and_then_some (λ o. part_named o ref.sub) (m.object ref.name) x e in
    subst P (sym (part_object o ref.sub x part)) (at_name P m ref.name o at all)

taken_free : (o : State) (sub : Option ℕ) (p : PropId) (g : Given) (v : PropertyValue) → TakeValue o sub p g None (Some v) → take_refusal o sub p v ≡ None
taken_free o sub p _ v (takes same (can, _)) = subst (λ z. take_refusal o sub p z ≡ None) (sym (some_is same)) can

module _ {book : List Rule} {P Q : State → Type 0} (keeping : Keeping book P Q) where
  new_object_keeps : (old new : Machine) (name text : List ℕ) (reply : ReplySeen) → NewObjectStep old name text reply new → Each P old → Each P new
  new_object_keeps old new name text _ (is_refused r s) all = stays_so P old new s all
  new_object_keeps old new name text _ (is_made of h k l told g) all = with_one P name _ old new g.object g.others (keeping.empty of) all

  new_program_keeps : (old new : Machine) (name sub text : List ℕ) (reply : ReplySeen) → NewProgramStep old name sub text reply new → Each P old → Each P new
  new_program_keeps old new name sub text _ (is_refused r s) all = stays_so P old new s all
  new_program_keeps old new name sub text _ (is_made o h at free told becomes) all =
      becomes_so P name _ old new becomes (keeping.program o sub (at_name P old name o at all)) all

  new_of_keeps : (old new : Machine) (name : List ℕ) (sub : Option (List ℕ)) (text : List ℕ) (reply : ReplySeen) → NewOf old name sub text reply new → Each P old → Each P new
  new_of_keeps old new name None text reply h all = new_object_keeps old new name text reply h all
  new_of_keeps old new name (Some sub) text reply h all = new_program_keeps old new name sub text reply h all

  new_keeps : (old new : Machine) (ref : RefSeen) (text : List ℕ) (reply : ReplySeen) → NewStep old ref text reply new → Each P old → Each P new
  new_keeps old new ref text reply h all = new_of_keeps old new ref.name ref.sub text reply h all

  take_keeps : (old new : Machine) (ref : RefSeen) (text json : List ℕ) (reply : ReplySeen) → TakeStep old ref text json reply new → Each P old → Each P new
  take_keeps old new ref text json _ (is_refused r s) all = stays_so P old new s all
  take_keeps old new ref text json _ (now_held x p v at named taken told becomes) all =
      becomes_so P ref.name _ old new becomes (keeping.taken x.object x.sub p v (taken_free x.object x.sub p _ v taken) (at_ref P old ref x at all)) all

  given_kept : (old new : Configuration) (sub : Option ℕ) (name : List ℕ) (p : PropId) (reply : ReplySeen) → Gives unsaid book old sub name p reply new → P old.object → P new.object
  given_kept old new sub name p _ (no_chain e told) kept = keeping.ensured sub (only_property p) ending.NoChain old new e kept
  given_kept old new sub name p _ (is_crowded e told) kept = keeping.ensured sub (only_property p) ending.Crowded old new e kept
  given_kept old new sub name p _ (is_shown e same typed is held rounds) kept = keeping.ensured sub (only_property p) ending.Found old new e kept

  gave_keeps : (old new : Machine) (ref : RefSeen) (text : List ℕ) (reply : ReplySeen) → Gave unsaid book old ref text reply new → Each P old → Each P new
  gave_keeps old new ref text reply (x, at, p, named, c, gives, becomes) all =
      becomes_so P ref.name c old new becomes (given_kept (configuration x.object old.clients) c x.sub (ref_text ref) p reply gives (at_ref P old ref x at all)) all

  give_keeps : (old new : Machine) (ref : RefSeen) (text : List ℕ) (reply : ReplySeen) → GiveStep unsaid book old ref text reply new → Each P old → Each P new
  give_keeps old new ref text _ (is_refused r s) all = stays_so P old new s all
  give_keeps old new ref text reply (is_asked h) all = gave_keeps old new ref text reply h all

  all_ensured_kept : (old new : Configuration) (sub : Option ℕ) (asked : PropSet) (reply : ReplySeen) → Ensures unsaid book old sub asked reply new → P old.object → P new.object
  all_ensured_kept old new sub asked _ (no_chain e told) kept = keeping.ensured sub asked ending.NoChain old new e kept
  all_ensured_kept old new sub asked _ (is_crowded e told) kept = keeping.ensured sub asked ending.Crowded old new e kept
  all_ensured_kept old new sub asked _ (is_found e told) kept = keeping.ensured sub asked ending.Found old new e kept

  ensured_all_keeps : (old new : Machine) (ref : RefSeen) (words : List (List ℕ)) (reply : ReplySeen) → EnsuredAll unsaid book old ref words reply new → Each P old → Each P new
  ensured_all_keeps old new ref words reply (x, at, asked, named, c, ensures, becomes) all =
      becomes_so P ref.name c old new becomes (all_ensured_kept (configuration x.object old.clients) c x.sub asked reply ensures (at_ref P old ref x at all)) all

  ensure_keeps : (old new : Machine) (ref : RefSeen) (words : List (List ℕ)) (reply : ReplySeen) → EnsureStep unsaid book old ref words reply new → Each P old → Each P new
  ensure_keeps old new ref words _ (is_refused r s) all = stays_so P old new s all
  ensure_keeps old new ref words reply (is_asked h) all = ensured_all_keeps old new ref words reply h all

  explained_keeps : (old new : Machine) (ref : RefSeen) (words : List (List ℕ)) (reply : ReplySeen) → ExplainedAll book old ref words reply new → Each P old → Each P new
  explained_keeps old new ref words reply (x, at, asked, named, explains, becomes) all = becomes_so P ref.name _ old new becomes (keeping.settled x.object (at_ref P old ref x at all)) all

  explain_keeps : (old new : Machine) (ref : RefSeen) (words : List (List ℕ)) (reply : ReplySeen) → ExplainStep book old ref words reply new → Each P old → Each P new
  explain_keeps old new ref words _ (is_refused r s) all = stays_so P old new s all
  explain_keeps old new ref words reply (is_asked h) all = explained_keeps old new ref words reply h all

  history_keeps : (old new : Machine) (name : List ℕ) (reply : ReplySeen) → HistoryStep book old name reply new → Each P old → Each P new
  history_keeps old new name _ (is_refused r s) all = stays_so P old new s all
  history_keeps old new name _ (is_told o at rounds out s) all = stays_so P old new s all

  show_keeps : (old new : Machine) (name : List ℕ) (reply : ReplySeen) → ShowStep old name reply new → Each P old → Each P new
  show_keeps old new name _ (is_refused r s) all = stays_so P old new s all
  show_keeps old new name _ (is_told o at of held programs s) all = stays_so P old new s all

  evidence_keeps : (old new : Machine) (name label : List ℕ) (reply : ReplySeen) → EvidenceStep book old name label reply new → Each P old → Each P new
  evidence_keeps old new name label _ (is_refused r s) all = stays_so P old new s all
  evidence_keeps old new name label _ (is_told o at known shown names s) all = stays_so P old new s all

  lookup_keeps : (old new : Machine) (ref : RefSeen) (text : List ℕ) (reply : ReplySeen) → LookupStep old ref text reply new → Each P old → Each P new
  lookup_keeps old new ref text _ (is_refused r s) all = stays_so P old new s all
  lookup_keeps old new ref text _ (not_held x p at named none s) all = stays_so P old new s all
  lookup_keeps old new ref text _ (is_shown x at named n typed is told s) all = stays_so P old new s all

  -- a label that is disabled, if it is not yet
  disabled_kept : (o : State) (label : List ℕ) → P o → P (disabling o label)
  disabled_kept o label so = by (is_disabled label o.disabled)
    where
      by : (t : Bool) → P (if t then o else with_disabled o label)
      by true = so
      by false = keeping.disabled o label so

  disable_keeps : (old new : Machine) (name label : List ℕ) (reply : ReplySeen) → DisableStep book old name label reply new → Each P old → Each P new
  disable_keeps old new name label _ (is_refused r s) all = stays_so P old new s all
  disable_keeps old new name label _ (now_disabled o told at known becomes) all =
      becomes_so P name _ old new becomes (disabled_kept o label (at_name P old name o at all)) all

  unload_keeps : (old new : Machine) (name : List ℕ) (reply : ReplySeen) → UnloadStep old name reply new → Each P old → Each P new
  unload_keeps old new name _ (is_refused r s) all = stays_so P old new s all
  unload_keeps old new name _ (is_unloaded told h u) all = same_so P old new u.objects all

  copy_keeps : (old new : Machine) (name to : List ℕ) (reply : ReplySeen) → CopyStep old name to reply new → Each P old → Each P new
  copy_keeps old new name to _ (is_refused r s) all = stays_so P old new s all
  copy_keeps old new name to _ (is_copied o told at k l g) all = with_one P to o old new g.object g.others (at_name P old name o at all) all

  drop_keeps : (old new : Machine) (name : List ℕ) (reply : ReplySeen) → DropStep old name reply new → Each P old → Each P new
  drop_keeps old new name _ (is_refused r s) all = stays_so P old new s all
  drop_keeps old new name _ (is_dropped told h l) all = λ q. elim (cases_Bool (bytes_eq q name)) [
    | inl e ↦ subst (λ z. IfSome z P) (sym (ap new.object (same_bytes q name e) ∙ l.object)) tt
    | inr e ↦ subst (λ z. IfSome z P) (sym (l.others q (other_bytes q name e))) (all q)
  ]

  origin_keeps : (old new : Machine) (ref : RefSeen) (text : List ℕ) (reply : ReplySeen) → OriginStep old ref text reply new → Each P old → Each P new
  origin_keeps old new ref text _ (is_refused r s) all = stays_so P old new s all
  origin_keeps old new ref text _ (not_held x p at named none s) all = stays_so P old new s all
  origin_keeps old new ref text _ (is_told x p at named is s) all = stays_so P old new s all

  rules_keep : (old new : Machine) (reply : ReplySeen) → RulesStep book old reply new → Each P old → Each P new
  rules_keep old new _ (is_listed h k s) all = stays_so P old new s all

  load_keeps : (old new : Machine) (name file : List ℕ) (reply : ReplySeen) → LoadStep book old name file reply new → Each P old → Each P new
  load_keeps old new name file _ (no_new_name r s) all = stays_so P old new s all
  load_keeps old new name file _ (is_refused free r l) all = same_so P old new l.objects all
  load_keeps old new name file _ (is_loaded bytes f h has reads over g) all = with_one P name _ old new g.object g.others (keeping.loaded f) all

  save_keeps : (old new : Machine) (name file : List ℕ) (reply : ReplySeen) → SaveStep book old name file reply new → Each P old → Each P new
  save_keeps old new name file _ (is_refused r s) all = stays_so P old new s all
  save_keeps old new name file _ (store_failed o at short fails p) all = same_so P old new p.objects all
  save_keeps old new name file _ (is_saved o told at short p again) all = same_so P old new p.objects all

  pub steps_keep : (old new : Machine) (command : Spoken) (reply : ReplySeen) → Step unsaid book old command reply new → Each P old → Each P new
  steps_keep old new blank reply h all = absurd h
  steps_keep old new (new_object ref text) reply h all = new_keeps old new ref text reply h all
  steps_keep old new (take_value ref text json) reply h all = take_keeps old new ref text json reply h all
  steps_keep old new (give_value ref text) reply h all = give_keeps old new ref text reply h all
  steps_keep old new (look_up ref text) reply h all = lookup_keeps old new ref text reply h all
  steps_keep old new (ensure_values ref words) reply h all = ensure_keeps old new ref words reply h all
  steps_keep old new (explain_values ref words) reply h all = explain_keeps old new ref words reply h all
  steps_keep old new (tell_history name) reply h all = history_keeps old new name reply h all
  steps_keep old new (show_object name) reply h all = show_keeps old new name reply h all
  steps_keep old new (tell_evidence name label) reply h all = evidence_keeps old new name label reply h all
  steps_keep old new show_rules reply h all = rules_keep old new reply h all
  steps_keep old new (disable_rule name label) reply h all = disable_keeps old new name label reply h all
  steps_keep old new (unload_client name) reply h all = unload_keeps old new name reply h all
  steps_keep old new (copy_object name to) reply h all = copy_keeps old new name to reply h all
  steps_keep old new (drop_object name) reply h all = drop_keeps old new name reply h all
  steps_keep old new (tell_origin ref text) reply h all = origin_keeps old new ref text reply h all
  steps_keep old new (load_object name file) reply h all = load_keeps old new name file reply h all
  steps_keep old new (save_object name file) reply h all = save_keeps old new name file reply h all
  steps_keep old new (make_object to shape) reply h all = make_keeps keeping old new to shape reply h all
  steps_keep old new (build_object builder names to) reply h all = build_keeps keeping builder old new names to reply h all

  -- ---- a step that was broken off
  part_keeps : (asked : PropSet) (old new : Machine) (ref : RefSeen) (x : Named) (now : Configuration) → named_at (shelf old) ref ≡ Some x → EnsuredInPart unsaid book x.sub asked (configuration x.object old.clients) now
      → Becomes ref.name now old new → Each P old → Each Q new
  part_keeps asked old new ref x now named part becomes all = becomes_in_part keeping x.sub asked old new ref.name x.object now (at_ref P old ref x named all) part becomes all

  settled_keeps : (old new : Machine) (ref : RefSeen) (words : List (List ℕ)) → IsSettled old ref words new → Each P old → Each Q new
  settled_keeps old new ref words s all =
      each_weaker P Q keeping.weaker new (becomes_so P ref.name _ old new s.becomes (keeping.settled s.found.object (at_ref P old ref s.found s.named all)) all)

  pub steps_in_part_keep : (old new : Machine) (command : Spoken) → StepInPart unsaid book old command new → Each P old → Each Q new
  steps_in_part_keep old new (give_value ref text) (inl s) all = each_weaker P Q keeping.weaker new (stays_so P old new s all)
  steps_in_part_keep old new (give_value ref text) (inr g) all = part_keeps (only_property g.property) old new ref g.found g.now g.named g.ensured g.becomes all
  steps_in_part_keep old new (ensure_values ref words) (inl s) all = each_weaker P Q keeping.weaker new (stays_so P old new s all)
  steps_in_part_keep old new (ensure_values ref words) (inr g) all = part_keeps g.asked old new ref g.found g.now g.named g.ensured g.becomes all
  steps_in_part_keep old new (explain_values ref words) (inl s) all = each_weaker P Q keeping.weaker new (stays_so P old new s all)
  steps_in_part_keep old new (explain_values ref words) (inr s) all = settled_keeps old new ref words s all
  steps_in_part_keep old new (tell_history name) s all = each_weaker P Q keeping.weaker new (stays_so P old new s all)
  steps_in_part_keep old new blank s all = each_weaker P Q keeping.weaker new (stays_so P old new s all)
  steps_in_part_keep old new (new_object ref text) s all = each_weaker P Q keeping.weaker new (stays_so P old new s all)
  steps_in_part_keep old new (take_value ref text json) s all = each_weaker P Q keeping.weaker new (stays_so P old new s all)
  steps_in_part_keep old new (look_up ref text) s all = each_weaker P Q keeping.weaker new (stays_so P old new s all)
  steps_in_part_keep old new (show_object name) s all = each_weaker P Q keeping.weaker new (stays_so P old new s all)
  steps_in_part_keep old new (tell_evidence name label) s all = each_weaker P Q keeping.weaker new (stays_so P old new s all)
  steps_in_part_keep old new show_rules s all = each_weaker P Q keeping.weaker new (stays_so P old new s all)
  steps_in_part_keep old new (disable_rule name label) s all = each_weaker P Q keeping.weaker new (stays_so P old new s all)
  steps_in_part_keep old new (unload_client name) s all = each_weaker P Q keeping.weaker new (stays_so P old new s all)
  steps_in_part_keep old new (copy_object name to) s all = each_weaker P Q keeping.weaker new (stays_so P old new s all)
  steps_in_part_keep old new (drop_object name) s all = each_weaker P Q keeping.weaker new (stays_so P old new s all)
  steps_in_part_keep old new (tell_origin ref text) s all = each_weaker P Q keeping.weaker new (stays_so P old new s all)
  steps_in_part_keep old new (load_object name file) l all = each_weaker P Q keeping.weaker new (same_so P old new l.objects all)
  steps_in_part_keep old new (save_object name file) (inl s) all = each_weaker P Q keeping.weaker new (stays_so P old new s all)
  steps_in_part_keep old new (save_object name file) (inr (o, at, short, p)) all = each_weaker P Q keeping.weaker new (same_so P old new p.objects all)
  steps_in_part_keep old new (make_object to shape) s all = each_weaker P Q keeping.weaker new (stays_so P old new s all)
  steps_in_part_keep old new (build_object builder names to) h all = parts_keep keeping (wanted_all (row_of builder).reads names) old new h.1 all
