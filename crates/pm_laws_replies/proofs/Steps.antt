-- Each step gives a reply that its command may have, and no name with an LF.
use Rattle.pm_client.specs.Meanings.{unsaid}
use Rattle.std.proofs.Common.{refl, subst, sym, ℕ, List, [], ◌∷◌, Bool, true, false, ◌≡◌, ◌+◌, Option, Some, None, map, if◌then◌else◌}
use Rattle.std.specs.List.{enumerate_from, list_all}
use Rattle.std.proofs.lemmas.Bool.{and_from, and_parts}
use Rattle.pm_command.specs.Commands.{RefSeen, ShapeSeen, Spoken, blank, new_object, take_value, give_value, look_up, ensure_values, explain_values, tell_history, show_object, tell_evidence, show_rules, disable_rule, unload_client, copy_object, drop_object, tell_origin, load_object, save_object, make_object, build_object}
use Rattle.pm_command.specs.Grammar.{is_ref, is_sub, ref_text}
use Rattle.pm_command.specs.Words.{is_name, is_property_word, is_type_word}
use Rattle.pm_command.specs.declared.building.Builder.{Builder}
use Rattle.pm_filing.specs.Filing.{loaded_object}
use Rattle.pm_machine.specs.Building as building
use Rattle.pm_machine.specs.Building.{BuildStep, MakeStep}
use Rattle.pm_machine.specs.Machines.{Gains, Machine, Stays, shelf}
use Rattle.pm_machine.specs.Steps as steps
use Rattle.pm_machine.specs.Steps.{CopyStep, DisableStep, DropStep, EnsureStep, Ensures, EvidenceStep, ExplainStep, Explains, GiveStep, Gives, HistoryStep, LoadStep, LookupStep, NewObjectStep, NewOf, NewProgramStep, NewStep, OriginStep, RulesStep, SaveStep, ShowStep, Step, TakeStep, UnloadStep, disabling, settled_object}
use Rattle.pm_object.specs.State.{RoundSeen, State, is_disabled, with_disabled}
use Rattle.pm_object.specs.declared.held.Origin.{Origin}
use Rattle.pm_props.specs.Sets.{only}
use Rattle.pm_props.specs.declared.property.PropId.{PropId}
use Rattle.pm_props.specs.declared.set.PropSet.{PropSet}
use Rattle.pm_rounds.specs.Events.{Configuration, configuration}
use Rattle.pm_rules.specs.declared.rule.Rule.{Rule}
use Rattle.pm_script.specs.Replies.{NamesSeen, ReplySeen, Rounds, refusal_text, refused, remarks}
use Rattle.pm_script.specs.declared.refusal.Refusal.{Refusal}
use Rattle.pm_telling.specs.Telling.{held_told}
use Rattle.pm_laws_replies.proofs.FileNames.{file_lines}
use Rattle.pm_laws_replies.proofs.NamesStay.{HasLines, all_lines, append_lines, become_lines, book_lines, end_lines, ensured_lines, named_object, object_lines, put_lines, same_objects, told_lines}
use Rattle.pm_laws_replies.proofs.Words.{plain_name}
use Rattle.pm_laws_replies.proofs.Refusals.{line_build, line_copy, line_load, line_make, line_name, line_new, line_not_fit, line_not_made, line_object, line_program, line_properties, line_property, line_rule, line_save, line_take, line_unload}
use Rattle.pm_laws_replies.specs.Scripts.{AnswersLine, AnswersLines, ProgramNamesAreOneLine, IsSpoken, AnswersAreReplies, labels_are_one_line}
use Rattle.pm_laws_replies.specs.Told as fits
use Rattle.pm_laws_replies.specs.Told.{NamesAreOneLine, AreReplies, IsReply, IsReplyTo, may_begin_rounds, has_well_formed_ref, may_be_refused, is_one_line}

abbrev Good : List Rule → Spoken → ReplySeen → Machine → Type 0
Good book c reply new = IsReply book c reply × ProgramNamesAreOneLine new

stays : (old new : Machine) → Stays old new → ProgramNamesAreOneLine old → ProgramNamesAreOneLine new
stays old new s h = same_objects old new s.objects h

gains : (name : List ℕ) (o : State) (old new : Machine) → Gains name o old new → HasLines o → ProgramNamesAreOneLine old → ProgramNamesAreOneLine new
gains name o old new g p h = put_lines name (Some o) old new g.object g.others p h

beside : (book : List Rule) (c : Spoken) (why : Refusal) (always : Bool) (rounds : List RoundSeen) (names : NamesSeen) → may_be_refused c ≡ true → may_begin_rounds c ≡ true → is_one_line (refusal_text why) ≡ true → NamesAreOneLine names
    → IsReply book c (refused why (remarks always rounds [] None names))
beside book c why false [] names m b o l = fits.is_refused m o
beside book c why false (r ∷ rounds) names m b o l = fits.is_refused_after_rounds b o l
beside book c why true [] names m b o l = fits.is_refused_after_rounds b o l
beside book c why true (r ∷ rounds) names m b o l = fits.is_refused_after_rounds b o l

module _ (book : List Rule) (labels : labels_are_one_line book ≡ true) where
  beside_as : (c : Spoken) (why : Refusal) (always : Bool) (rounds : List RoundSeen) (names : NamesSeen) {more : _} → more ≡ remarks always rounds [] None names → may_be_refused c ≡ true → may_begin_rounds c ≡ true
      → is_one_line (refusal_text why) ≡ true → NamesAreOneLine names → IsReply book c (refused why more)
  beside_as c why always rounds names e m b o l = subst (λ z. IsReply book c (refused why z)) (sym e) (beside book c why always rounds names m b o l)

  new_object_good : (old new : Machine) (ref : RefSeen) (name text : List ℕ) (reply : ReplySeen) → ProgramNamesAreOneLine old → NewObjectStep old name text reply new → Good book (new_object ref text) reply new
  new_object_good old new ref name text reply h (steps.is_refused r s) = (fits.is_refused refl (line_object r), stays old new s h)
  new_object_good old new ref name text reply h (steps.is_made of e n k t g) = (fits.is_done refl t, gains name _ old new g refl h)

  new_program_good : (old new : Machine) (ref : RefSeen) (name sub text : List ℕ) (reply : ReplySeen) → is_one_line sub ≡ true → ProgramNamesAreOneLine old → NewProgramStep old name sub text reply new → Good book (new_object ref text) reply new
  new_program_good old new ref name sub text reply p h (steps.is_refused r s) = (fits.is_refused refl (line_program r), stays old new s h)
  new_program_good old new ref name sub text reply p h (steps.is_made o w e f t b) =
      (fits.is_done refl t, become_lines name _ old new b (append_lines o sub (object_lines old h name o e) p) h)

  take_good : (old new : Machine) (ref : RefSeen) (text json : List ℕ) (reply : ReplySeen) → ProgramNamesAreOneLine old → TakeStep old ref text json reply new → Good book (take_value ref text json) reply new
  take_good old new ref text json reply h (steps.is_refused r s) = (fits.is_refused refl (line_take r), stays old new s h)
  take_good old new ref text json reply h (steps.now_held x p v e f g t b) = (fits.is_done refl t, become_lines ref.name _ old new b (object_lines old h ref.name x.object (named_object (shelf old) ref x e)) h)

  gives_good : (old new : Configuration) (ref : RefSeen) (sub : Option ℕ) (text : List ℕ) (p : PropId) (reply : ReplySeen) → HasLines old.object → Gives unsaid book old sub (ref_text ref) p reply new
      → IsReply book (give_value ref text) reply × HasLines new.object
  gives_good old new ref sub text p reply h (steps.no_chain e m) =
      let l = ensured_lines book sub (only p) _ old new e h in (beside_as (give_value ref text) _ false _ _ m refl refl refl (told_lines book new.object labels l), l)
  gives_good old new ref sub text p reply h (steps.is_crowded e m) =
      let l = ensured_lines book sub (only p) _ old new e h in (beside_as (give_value ref text) _ false _ _ m refl refl refl (told_lines book new.object labels l), l)
  gives_good old new ref sub text p reply h (steps.is_shown e n o q v t) =
      let l = ensured_lines book sub (only p) _ old new e h in
      (fits.is_shown n (subst (λ (z : Rounds). NamesAreOneLine z.names) (sym t) (told_lines book new.object labels l)), l)

  give_good : (old new : Machine) (ref : RefSeen) (text : List ℕ) (reply : ReplySeen) → ProgramNamesAreOneLine old → GiveStep unsaid book old ref text reply new → Good book (give_value ref text) reply new
  give_good old new ref text reply h (steps.is_refused r s) = (fits.is_refused refl (line_property r), stays old new s h)
  give_good old new ref text reply h (steps.is_asked (x, named, p, prop, c, gives, b)) =
      let g = gives_good (configuration x.object old.clients) c ref x.sub text p reply (object_lines old h ref.name x.object (named_object (shelf old) ref x named)) gives in
      (g.0, become_lines ref.name c old new b g.1 h)

  lookup_good : (old new : Machine) (ref : RefSeen) (text : List ℕ) (reply : ReplySeen) → ProgramNamesAreOneLine old → LookupStep old ref text reply new → Good book (look_up ref text) reply new
  lookup_good old new ref text reply h (steps.is_refused r s) = (fits.is_refused refl (line_property r), stays old new s h)
  lookup_good old new ref text reply h (steps.not_held x p e f v s) = (fits.is_not_held, stays old new s h)
  lookup_good old new ref text reply h (steps.is_shown x e f n o v t s) = (fits.is_looked_up n t, stays old new s h)

  ensures_good : (old new : Configuration) (ref : RefSeen) (sub : Option ℕ) (words : List (List ℕ)) (asked : PropSet) (reply : ReplySeen) → HasLines old.object → Ensures unsaid book old sub asked reply new
      → IsReply book (ensure_values ref words) reply × HasLines new.object
  ensures_good old new ref sub words asked reply h (steps.no_chain e m) =
      let l = ensured_lines book sub asked _ old new e h in (beside_as (ensure_values ref words) _ true _ _ m refl refl refl (told_lines book new.object labels l), l)
  ensures_good old new ref sub words asked reply h (steps.is_crowded e m) =
      let l = ensured_lines book sub asked _ old new e h in (beside_as (ensure_values ref words) _ true _ _ m refl refl refl (told_lines book new.object labels l), l)
  ensures_good old new ref sub words asked reply h (steps.is_found e t) =
      let l = ensured_lines book sub asked _ old new e h in
      (fits.is_ensured (subst (λ (z : Rounds). NamesAreOneLine z.names) (sym t) (told_lines book new.object labels l)), l)

  ensure_good : (old new : Machine) (ref : RefSeen) (words : List (List ℕ)) (reply : ReplySeen) → ProgramNamesAreOneLine old → EnsureStep unsaid book old ref words reply new → Good book (ensure_values ref words) reply new
  ensure_good old new ref words reply h (steps.is_refused r s) = (fits.is_refused refl (line_properties r), stays old new s h)
  ensure_good old new ref words reply h (steps.is_asked (x, named, asked, all, c, ensures, b)) =
      let g = ensures_good (configuration x.object old.clients) c ref x.sub words asked reply (object_lines old h ref.name x.object (named_object (shelf old) ref x named)) ensures in
      (g.0, become_lines ref.name c old new b g.1 h)

  explains_good : (clients : _) (o : State) (ref : RefSeen) (sub : Option ℕ) (words : List (List ℕ)) (asked : PropSet) (reply : ReplySeen) → HasLines o → Explains book clients o sub asked reply → IsReply book (explain_values ref words) reply
  explains_good clients o ref sub words asked reply h (steps.is_planned barred b p n) = fits.is_explained (subst NamesAreOneLine (sym n) (told_lines book o labels h))
  explains_good clients o ref sub words asked reply h (steps.no_chain barred b p r n) = fits.is_refused_by_plan refl (subst NamesAreOneLine (sym n) (told_lines book o labels h))
  explains_good clients o ref sub words asked reply h (steps.is_crowded barred b p r n) = fits.is_refused_by_plan refl (subst NamesAreOneLine (sym n) (told_lines book o labels h))

  explain_good : (old new : Machine) (ref : RefSeen) (words : List (List ℕ)) (reply : ReplySeen) → ProgramNamesAreOneLine old → ExplainStep book old ref words reply new → Good book (explain_values ref words) reply new
  explain_good old new ref words reply h (steps.is_refused r s) = (fits.is_refused refl (line_properties r), stays old new s h)
  explain_good old new ref words reply h (steps.is_asked (x, named, asked, all, explains, b)) =
      let l = object_lines old h ref.name x.object (named_object (shelf old) ref x named) in
      (explains_good old.clients (settled_object x.object) ref x.sub words asked reply l explains, become_lines ref.name (configuration (settled_object x.object) old.clients) old new b l h)

  history_good : (old new : Machine) (name : List ℕ) (reply : ReplySeen) → ProgramNamesAreOneLine old → HistoryStep book old name reply new → Good book (tell_history name) reply new
  history_good old new name reply h (steps.is_refused r s) = (fits.is_refused refl (line_name r), stays old new s h)
  history_good old new name reply h (steps.is_told o e t x s) =
      (fits.has_history (subst (λ (z : Rounds). NamesAreOneLine z.names) (sym t) (told_lines book o labels (object_lines old h name o e))), stays old new s h)

  program_lines : (o : State) (k : ℕ) (names : List (List ℕ)) → list_all is_one_line names ≡ true → list_all (λ (p : List ℕ × List (PropId × Origin)). is_one_line p.0) (map (λ x. (x.1, held_told o (Some x.0))) (enumerate_from k names)) ≡ true
  program_lines o k [] h = refl
  program_lines o k (n ∷ names) h = let both = and_parts (is_one_line n) (list_all is_one_line names) h in and_from (is_one_line n) _ both.0 (program_lines o (k + 1) names both.1)

  show_good : (old new : Machine) (name : List ℕ) (reply : ReplySeen) → ProgramNamesAreOneLine old → ShowStep old name reply new → Good book (show_object name) reply new
  show_good old new name reply h (steps.is_refused r s) = (fits.is_refused refl (line_name r), stays old new s h)
  show_good old new name reply h (steps.is_told o e of held ps s) =
      (fits.tells_what_is_held (subst (λ z. list_all (λ (p : List ℕ × List (PropId × Origin)). is_one_line p.0) z ≡ true) (sym ps) (program_lines o 0 o.programs (object_lines old h name o e))), stays old new s h)

  evidence_good : (old new : Machine) (name label : List ℕ) (reply : ReplySeen) → ProgramNamesAreOneLine old → EvidenceStep book old name label reply new → Good book (tell_evidence name label) reply new
  evidence_good old new name label reply h (steps.is_refused r s) = (fits.is_refused refl (line_rule r), stays old new s h)
  evidence_good old new name label reply h (steps.is_told o e l x n s) =
      (fits.has_evidence (subst NamesAreOneLine (sym n) (told_lines book o labels (object_lines old h name o e))), stays old new s h)

  rules_good : (old new : Machine) (reply : ReplySeen) → ProgramNamesAreOneLine old → RulesStep book old reply new → Good book show_rules reply new
  rules_good old new reply h (steps.is_listed n t s) = (fits.is_listed n t, stays old new s h)

  disabled_lines : (o : State) (label : List ℕ) → HasLines o → HasLines (disabling o label)
  disabled_lines o label h = by (is_disabled label o.disabled)
    where
      by : (b : Bool) → HasLines (if b then o else with_disabled o label)
      by true = h
      by false = h

  disable_good : (old new : Machine) (name label : List ℕ) (reply : ReplySeen) → ProgramNamesAreOneLine old → DisableStep book old name label reply new → Good book (disable_rule name label) reply new
  disable_good old new name label reply h (steps.is_refused r s) = (fits.is_refused refl (line_rule r), stays old new s h)
  disable_good old new name label reply h (steps.now_disabled o t e l b) =
      (fits.is_done refl t, become_lines name (configuration (disabling o label) old.clients) old new b (disabled_lines o label (object_lines old h name o e)) h)

  unload_good : (old new : Machine) (name : List ℕ) (reply : ReplySeen) → ProgramNamesAreOneLine old → UnloadStep old name reply new → Good book (unload_client name) reply new
  unload_good old new name reply h (steps.is_refused r s) = (fits.is_refused refl (line_unload r), stays old new s h)
  unload_good old new name reply h (steps.is_unloaded t c u) = (fits.is_done refl t, same_objects old new u.objects h)

  copy_good : (old new : Machine) (name to : List ℕ) (reply : ReplySeen) → ProgramNamesAreOneLine old → CopyStep old name to reply new → Good book (copy_object name to) reply new
  copy_good old new name to reply h (steps.is_refused r s) = (fits.is_refused refl (line_copy r), stays old new s h)
  copy_good old new name to reply h (steps.is_copied o t e n k g) = (fits.is_done refl t, gains to o old new g (object_lines old h name o e) h)

  drop_good : (old new : Machine) (name : List ℕ) (reply : ReplySeen) → ProgramNamesAreOneLine old → DropStep old name reply new → Good book (drop_object name) reply new
  drop_good old new name reply h (steps.is_refused r s) = (fits.is_refused refl (line_name r), stays old new s h)
  drop_good old new name reply h (steps.is_dropped t n l) = (fits.is_done refl t, put_lines name None old new l.object l.others tt h)

  origin_good : (old new : Machine) (ref : RefSeen) (text : List ℕ) (reply : ReplySeen) → ProgramNamesAreOneLine old → OriginStep old ref text reply new → Good book (tell_origin ref text) reply new
  origin_good old new ref text reply h (steps.is_refused r s) = (fits.is_refused refl (line_property r), stays old new s h)
  origin_good old new ref text reply h (steps.not_held x p e f v s) = (fits.has_no_origin, stays old new s h)
  origin_good old new ref text reply h (steps.is_told x p e f g s) = (fits.has_origin, stays old new s h)

  load_good : (old new : Machine) (name file : List ℕ) (reply : ReplySeen) → ProgramNamesAreOneLine old → LoadStep book old name file reply new → Good book (load_object name file) reply new
  load_good old new name file reply h (steps.no_new_name r s) = (fits.is_refused refl (line_new r), stays old new s h)
  load_good old new name file reply h (steps.is_refused n r l) = (fits.is_refused refl (line_load r), same_objects old new l.objects h)
  load_good old new name file reply h (steps.is_loaded bytes f n b r ns g) = (fits.is_loaded, put_lines name (Some (loaded_object book f)) old new g.object g.others (file_lines bytes f r) h)

  save_good : (old new : Machine) (name file : List ℕ) (reply : ReplySeen) → ProgramNamesAreOneLine old → SaveStep book old name file reply new → Good book (save_object name file) reply new
  save_good old new name file reply h (steps.is_refused r s) = (fits.is_refused refl (line_save r), stays old new s h)
  save_good old new name file reply h (steps.store_failed o e l r p) = (fits.is_refused refl refl, same_objects old new p.objects h)
  save_good old new name file reply h (steps.is_saved o t e l p w) = (fits.is_done refl t, same_objects old new p.objects h)

  make_good : (old new : Machine) (to : List ℕ) (shape : ShapeSeen) (reply : ReplySeen) → ProgramNamesAreOneLine old → MakeStep old to shape reply new → Good book (make_object to shape) reply new
  make_good old new to shape reply h (building.is_refused r s) = (fits.is_refused refl (line_make r), stays old new s h)
  make_good old new to shape reply h (building.is_made n c t g) = (fits.is_done refl t, gains to _ old new g refl h)

  build_good : (old new : Machine) (b : Builder) (names : List (List ℕ)) (to : List ℕ) (reply : ReplySeen) → ProgramNamesAreOneLine old → BuildStep unsaid book b old names to reply new → Good book (build_object b names to) reply new
  build_good old new b names to reply h (building.is_refused r s) = (fits.is_refused refl (line_build r), stays old new s h)
  build_good old new b names to reply h (building.no_chain d) =
      (beside_as (build_object b names to) _ false d.rounds _ d.told refl refl refl (book_lines book labels), end_lines book _ _ d.rounds old new d.ends h)
  build_good old new b names to reply h (building.is_crowded d) =
      (beside_as (build_object b names to) _ false d.rounds _ d.told refl refl refl (book_lines book labels), end_lines book _ _ d.rounds old new d.ends h)
  build_good old new b names to reply h (building.not_fit {c = c} rounds os e n u m) =
      (beside_as (build_object b names to) _ false rounds _ m refl refl (line_not_fit c) (book_lines book labels), all_lines book _ rounds old new e.ensured h)
  build_good old new b names to reply h (building.not_made {why = why} rounds os e u m) =
      (beside_as (build_object b names to) _ false rounds _ m refl refl (line_not_made why) (book_lines book labels), all_lines book _ rounds old new e.ensured h)
  build_good old new b names to reply h (building.is_made {mid = mid} rounds os f e m g t) =
      (fits.is_built (subst (λ (z : Rounds). NamesAreOneLine z.names) (sym t) (book_lines book labels)), gains to _ mid new g refl (all_lines book _ rounds old mid e.ensured h))

  -- ---- any command
  spoken_sub : (ref : RefSeen) (text : List ℕ) → IsSpoken (new_object ref text) → is_ref ref ≡ true
  spoken_sub ref text (line, s) = (and_parts (is_ref ref) (is_type_word text) s.allowed).0

  new_good : (old new : Machine) (ref : RefSeen) (text : List ℕ) (reply : ReplySeen) → is_ref ref ≡ true → ProgramNamesAreOneLine old → NewStep old ref text reply new → Good book (new_object ref text) reply new
  new_good old new ref text reply r h s = by ref.sub (and_parts (is_name ref.name) (is_sub ref.sub) r).1 s
    where
      by : (sub : Option (List ℕ)) → is_sub sub ≡ true → NewOf old ref.name sub text reply new → Good book (new_object ref text) reply new
      by None k s = new_object_good old new ref ref.name text reply h s
      by (Some sub) k s = new_program_good old new ref ref.name sub text reply (plain_name sub k) h s

  step_good : (old new : Machine) (c : Spoken) (reply : ReplySeen) → IsSpoken c → ProgramNamesAreOneLine old → Step unsaid book old c reply new → Good book c reply new
  step_good old new blank reply w h s = absurd s
  step_good old new (new_object ref text) reply w h s = new_good old new ref text reply (spoken_sub ref text w) h s
  step_good old new (take_value ref text json) reply w h s = take_good old new ref text json reply h s
  step_good old new (give_value ref text) reply w h s = give_good old new ref text reply h s
  step_good old new (look_up ref text) reply w h s = lookup_good old new ref text reply h s
  step_good old new (ensure_values ref words) reply w h s = ensure_good old new ref words reply h s
  step_good old new (explain_values ref words) reply w h s = explain_good old new ref words reply h s
  step_good old new (tell_history name) reply w h s = history_good old new name reply h s
  step_good old new (show_object name) reply w h s = show_good old new name reply h s
  step_good old new (tell_evidence name label) reply w h s = evidence_good old new name label reply h s
  step_good old new show_rules reply w h s = rules_good old new reply h s
  step_good old new (disable_rule name label) reply w h s = disable_good old new name label reply h s
  step_good old new (unload_client name) reply w h s = unload_good old new name reply h s
  step_good old new (copy_object name to) reply w h s = copy_good old new name to reply h s
  step_good old new (drop_object name) reply w h s = drop_good old new name reply h s
  step_good old new (tell_origin ref text) reply w h s = origin_good old new ref text reply h s
  step_good old new (load_object name file) reply w h s = load_good old new name file reply h s
  step_good old new (save_object name file) reply w h s = save_good old new name file reply h s
  step_good old new (make_object to shape) reply w h s = make_good old new to shape reply h s
  step_good old new (build_object b names to) reply w h s = build_good old new b names to reply h s

  spoken_ref : (c : Spoken) → IsSpoken c → has_well_formed_ref c ≡ true
  spoken_ref (give_value ref text) (line, s) = (and_parts (is_ref ref) (is_property_word text) s.allowed).0
  spoken_ref (look_up ref text) (line, s) = (and_parts (is_ref ref) (is_property_word text) s.allowed).0
  spoken_ref c w = refl

  line_good : (old new : Machine) (line : Option Spoken) (reply : Option ReplySeen) → ProgramNamesAreOneLine old → AnswersLine book old line reply new → IsReplyTo book line reply × ProgramNamesAreOneLine new
  line_good old new None None h a = absurd a
  line_good old new None (Some reply) h (why, o, e, s) = ((why, o, e), subst ProgramNamesAreOneLine (sym s) h)
  line_good old new (Some c) (Some reply) h (w, s) = let g = step_good old new c reply w h s in ((spoken_ref c w, g.0), g.1)
  line_good old new (Some blank) None h a = (tt, subst ProgramNamesAreOneLine (sym a) h)
  line_good old new (Some c) None h a = absurd a

  lines_good : (old new : Machine) (lines : List (Option Spoken)) (replies : List (Option ReplySeen)) → ProgramNamesAreOneLine old → AnswersLines book old lines replies new → AreReplies book lines replies
  lines_good old new [] [] h a = tt
  lines_good old new [] (r ∷ rs) h a = absurd a
  lines_good old new (l ∷ ls) [] h a = absurd a
  lines_good old new (l ∷ ls) (r ∷ rs) h (mid, a, rest) = let g = line_good old mid l r h a in (g.0, lines_good mid new ls rs g.1 rest)

pub runs_reply : AnswersAreReplies
runs_reply book old new lines replies labels h a = lines_good book labels old new lines replies h a
