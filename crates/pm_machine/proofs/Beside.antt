-- A step that touches no file is the same beside any store.
use Rattle.pm_client.specs.Meanings.{Meanings}
use Rattle.pm_client.specs.Starts.{Clients}
use Rattle.pm_machine.proofs.BesideBuilding.{build_beside, make_beside, parts_beside}
use Rattle.pm_machine.proofs.BesideObjects.{becomes_beside, beside, gains_beside, loses_beside, stays_beside, unloads_beside}
use Rattle.pm_machine.specs.Building.{MayHaveBegun, wanted_all}
use Rattle.pm_making.specs.Rows.{row_of}
use Rattle.pm_command.specs.declared.building.Builder.{Builder}
use Rattle.pm_machine.specs.Parts.{StepInPart}
use Rattle.pm_machine.specs.Machines.{IsNewName, Machine, Stays, Store, shelf}
use Rattle.pm_machine.specs.Steps.{CopyStep, DisableStep, DropStep, EnsureStep, EvidenceStep, ExplainStep, FileRead, GiveStep, HasBytes, HasNone, HistoryStep, IsLookedAt, LoadStep, Looks, LookupStep, NewObjectStep, NewOf, NewProgramStep, NewStep, OriginStep, RulesStep, ShowStep, Step, TakeStep, UnloadStep, bad_file, is_asked, is_copied, is_dropped, is_listed, is_loaded, is_made, is_refused, is_shown, is_told, is_unloaded, not_held, now_disabled, now_held}
use Rattle.pm_rules.specs.declared.rule.Rule.{Rule}
use Rattle.pm_command.specs.Commands.{RefSeen, Spoken, blank, new_object, take_value, give_value, look_up, ensure_values, explain_values, tell_history, show_object, tell_evidence, show_rules, disable_rule, unload_client, copy_object, drop_object, tell_origin, load_object, save_object, make_object, build_object, is_on_files}
use Rattle.pm_script.specs.Replies.{ReplySeen}
use Rattle.pm_store.specs.Files.{FilesStay, file_of, read_part}
use Rattle.std.specs.Option.{is_some}
use Rattle.std.proofs.Common.{ap, arith, false, inl, inr, refl, subst, sym, true≢false, ◌∙◌}
use Rattle.std.specs.Prelude.{IfOk, IfSome, List, None, OnErr, Ok, Err, Option, Result, Some, option_map, ℕ, ◌≡◌}

new_object_beside : (k : Store) (old new : Machine) (name text : List ℕ) (reply : ReplySeen) → NewObjectStep old name text reply new → NewObjectStep (beside k old) name text reply (beside k new)
new_object_beside k old new name text _ (is_refused r s) = is_refused r (stays_beside k old new s)
new_object_beside k old new name text _ (is_made of h i l told g) = is_made of h i l told (gains_beside k _ _ old new g)

new_program_beside : (k : Store) (old new : Machine) (name sub text : List ℕ) (reply : ReplySeen) → NewProgramStep old name sub text reply new → NewProgramStep (beside k old) name sub text reply (beside k new)
new_program_beside k old new name sub text _ (is_refused r s) = is_refused r (stays_beside k old new s)
new_program_beside k old new name sub text _ (is_made o h i w told b) = is_made o h i w told (becomes_beside k _ _ old new b)

new_of_beside : (k : Store) (old new : Machine) (name : List ℕ) (sub : Option (List ℕ)) (text : List ℕ) (reply : ReplySeen) → NewOf old name sub text reply new → NewOf (beside k old) name sub text reply (beside k new)
new_of_beside k old new name None text reply h = new_object_beside k old new name text reply h
new_of_beside k old new name (Some sub) text reply h = new_program_beside k old new name sub text reply h

new_beside : (k : Store) (old new : Machine) (ref : RefSeen) (text : List ℕ) (reply : ReplySeen) → NewStep old ref text reply new → NewStep (beside k old) ref text reply (beside k new)
new_beside k old new ref text reply h = new_of_beside k old new ref.name ref.sub text reply h

take_beside : (k : Store) (old new : Machine) (ref : RefSeen) (text json : List ℕ) (reply : ReplySeen) → TakeStep old ref text json reply new → TakeStep (beside k old) ref text json reply (beside k new)
take_beside k old new ref text json _ (is_refused r s) = is_refused r (stays_beside k old new s)
take_beside k old new ref text json _ (now_held x p v h i t told b) = now_held x p v h i t told (becomes_beside k _ _ old new b)

give_beside : {M : Meanings} (k : Store) (old new : Machine) (book : List Rule) (ref : RefSeen) (text : List ℕ) (reply : ReplySeen) → GiveStep M book old ref text reply new → GiveStep M book (beside k old) ref text reply (beside k new)
give_beside {M = M} k old new book ref text _ (is_refused r s) = is_refused r (stays_beside k old new s)
give_beside {M = M} k old new book ref text reply (is_asked (x, h, p, i, c, g, b)) = is_asked (x, h, p, i, c, g, becomes_beside k _ _ old new b)

ensure_beside : {M : Meanings} (k : Store) (old new : Machine) (book : List Rule) (ref : RefSeen) (words : List (List ℕ)) (reply : ReplySeen) → EnsureStep M book old ref words reply new → EnsureStep M book (beside k old) ref words reply (beside k new)
ensure_beside {M = M} k old new book ref words _ (is_refused r s) = is_refused r (stays_beside k old new s)
ensure_beside {M = M} k old new book ref words reply (is_asked (x, h, p, i, c, g, b)) = is_asked (x, h, p, i, c, g, becomes_beside k _ _ old new b)

explain_beside : (k : Store) (old new : Machine) (book : List Rule) (ref : RefSeen) (words : List (List ℕ)) (reply : ReplySeen) → ExplainStep book old ref words reply new → ExplainStep book (beside k old) ref words reply (beside k new)
explain_beside k old new book ref words _ (is_refused r s) = is_refused r (stays_beside k old new s)
explain_beside k old new book ref words reply (is_asked (x, h, p, i, g, b)) = is_asked (x, h, p, i, g, becomes_beside k _ _ old new b)

history_beside : (k : Store) (old new : Machine) (book : List Rule) (name : List ℕ) (reply : ReplySeen) → HistoryStep book old name reply new → HistoryStep book (beside k old) name reply (beside k new)
history_beside k old new book name _ (is_refused r s) = is_refused r (stays_beside k old new s)
history_beside k old new book name _ (is_told o h i e s) = is_told o h i e (stays_beside k old new s)

show_beside : (k : Store) (old new : Machine) (name : List ℕ) (reply : ReplySeen) → ShowStep old name reply new → ShowStep (beside k old) name reply (beside k new)
show_beside k old new name _ (is_refused r s) = is_refused r (stays_beside k old new s)
show_beside k old new name _ (is_told o h t i p s) = is_told o h t i p (stays_beside k old new s)

evidence_beside : (k : Store) (old new : Machine) (book : List Rule) (name label : List ℕ) (reply : ReplySeen) → EvidenceStep book old name label reply new → EvidenceStep book (beside k old) name label reply (beside k new)
evidence_beside k old new book name label _ (is_refused r s) = is_refused r (stays_beside k old new s)
evidence_beside k old new book name label _ (is_told o h l i n s) = is_told o h l i n (stays_beside k old new s)

lookup_beside : (k : Store) (old new : Machine) (ref : RefSeen) (text : List ℕ) (reply : ReplySeen) → LookupStep old ref text reply new → LookupStep (beside k old) ref text reply (beside k new)
lookup_beside k old new ref text _ (is_refused r s) = is_refused r (stays_beside k old new s)
lookup_beside k old new ref text _ (not_held x p h i n s) = not_held x p h i n (stays_beside k old new s)
lookup_beside k old new ref text _ (is_shown x h i n f w r s) = is_shown x h i n f w r (stays_beside k old new s)

copy_beside : (k : Store) (old new : Machine) (name to : List ℕ) (reply : ReplySeen) → CopyStep old name to reply new → CopyStep (beside k old) name to reply (beside k new)
copy_beside k old new name to _ (is_refused r s) = is_refused r (stays_beside k old new s)
copy_beside k old new name to _ (is_copied o told h i l g) = is_copied o told h i l (gains_beside k _ _ old new g)

drop_beside : (k : Store) (old new : Machine) (name : List ℕ) (reply : ReplySeen) → DropStep old name reply new → DropStep (beside k old) name reply (beside k new)
drop_beside k old new name _ (is_refused r s) = is_refused r (stays_beside k old new s)
drop_beside k old new name _ (is_dropped told h l) = is_dropped told h (loses_beside k _ old new l)

origin_beside : (k : Store) (old new : Machine) (ref : RefSeen) (text : List ℕ) (reply : ReplySeen) → OriginStep old ref text reply new → OriginStep (beside k old) ref text reply (beside k new)
origin_beside k old new ref text _ (is_refused r s) = is_refused r (stays_beside k old new s)
origin_beside k old new ref text _ (not_held x p h i n s) = not_held x p h i n (stays_beside k old new s)
origin_beside k old new ref text _ (is_told x p h i n s) = is_told x p h i n (stays_beside k old new s)

rules_beside : (k : Store) (old new : Machine) (book : List Rule) (reply : ReplySeen) → RulesStep book old reply new → RulesStep book (beside k old) reply (beside k new)
rules_beside k old new book _ (is_listed h i s) = is_listed h i (stays_beside k old new s)

disable_beside : (k : Store) (old new : Machine) (book : List Rule) (name label : List ℕ) (reply : ReplySeen) → DisableStep book old name label reply new → DisableStep book (beside k old) name label reply (beside k new)
disable_beside k old new book name label _ (is_refused r s) = is_refused r (stays_beside k old new s)
disable_beside k old new book name label _ (now_disabled o told h i b) = now_disabled o told h i (becomes_beside k _ _ old new b)

unload_beside : (k : Store) (old new : Machine) (name : List ℕ) (reply : ReplySeen) → UnloadStep old name reply new → UnloadStep (beside k old) name reply (beside k new)
unload_beside k old new name _ (is_refused r s) = is_refused r (stays_beside k old new s)
unload_beside k old new name _ (is_unloaded told h u) = is_unloaded told h (unloads_beside k _ old new u)

step_beside : (M : Meanings) (k : Store) (book : List Rule) (old new : Machine) (command : Spoken) (reply : ReplySeen) → is_on_files command ≡ false → Step M book old command reply new → Step M book (beside k old) command reply (beside k new)
step_beside M k book old new blank reply e h = absurd h
step_beside M k book old new (new_object ref text) reply e h = new_beside k old new ref text reply h
step_beside M k book old new (take_value ref text json) reply e h = take_beside k old new ref text json reply h
step_beside M k book old new (give_value ref text) reply e h = give_beside k old new book ref text reply h
step_beside M k book old new (look_up ref text) reply e h = lookup_beside k old new ref text reply h
step_beside M k book old new (ensure_values ref words) reply e h = ensure_beside k old new book ref words reply h
step_beside M k book old new (explain_values ref words) reply e h = explain_beside k old new book ref words reply h
step_beside M k book old new (tell_history name) reply e h = history_beside k old new book name reply h
step_beside M k book old new (show_object name) reply e h = show_beside k old new name reply h
step_beside M k book old new (tell_evidence name label) reply e h = evidence_beside k old new book name label reply h
step_beside M k book old new show_rules reply e h = rules_beside k old new book reply h
step_beside M k book old new (disable_rule name label) reply e h = disable_beside k old new book name label reply h
step_beside M k book old new (unload_client name) reply e h = unload_beside k old new name reply h
step_beside M k book old new (copy_object name to) reply e h = copy_beside k old new name to reply h
step_beside M k book old new (drop_object name) reply e h = drop_beside k old new name reply h
step_beside M k book old new (tell_origin ref text) reply e h = origin_beside k old new ref text reply h
step_beside M k book old new (load_object name file) reply e h = absurd (true≢false e)
step_beside M k book old new (save_object name file) reply e h = absurd (true≢false e)
step_beside M k book old new (make_object to shape) reply e h = make_beside k old new to shape reply h
step_beside M k book old new (build_object builder names to) reply e h = build_beside k M book builder old names to reply new h

begun_beside : (k : Store) (b : Builder) (names : List (List ℕ)) (to : List ℕ) (old new : Machine) → MayHaveBegun b names to old new → MayHaveBegun b names to (beside k old) (beside k new)
begun_beside k b names to old new (inl s) = inl (stays_beside k old new s)
begun_beside k b names to old new (inr h) = inr h

part_beside : (M : Meanings) (k : Store) (book : List Rule) (old new : Machine) (command : Spoken) → is_on_files command ≡ false → StepInPart M book old command new → StepInPart M book (beside k old) command (beside k new)
part_beside M k book old new (give_value ref text) e (inl s) = inl (stays_beside k old new s)
part_beside M k book old new (give_value ref text) e (inr g) = inr (record { found = g.found; named = g.named; property = g.property; is_property = g.is_property; now = g.now; ensured = g.ensured; becomes = becomes_beside k _ _ old new g.becomes })
part_beside M k book old new (ensure_values ref words) e (inl s) = inl (stays_beside k old new s)
part_beside M k book old new (ensure_values ref words) e (inr g) = inr (record { found = g.found; named = g.named; asked = g.asked; is_asked = g.is_asked; now = g.now; ensured = g.ensured; becomes = becomes_beside k _ _ old new g.becomes })
part_beside M k book old new (explain_values ref words) e (inl s) = inl (stays_beside k old new s)
part_beside M k book old new (explain_values ref words) e (inr g) = inr (record { found = g.found; named = g.named; asked = g.asked; is_asked = g.is_asked; becomes = becomes_beside k _ _ old new g.becomes })
part_beside M k book old new (load_object name file) e h = absurd (true≢false e)
part_beside M k book old new (save_object name file) e h = absurd (true≢false e)
part_beside M k book old new blank e s = stays_beside k old new s
part_beside M k book old new (new_object ref text) e s = stays_beside k old new s
part_beside M k book old new (take_value ref text json) e s = stays_beside k old new s
part_beside M k book old new (look_up ref text) e s = stays_beside k old new s
part_beside M k book old new (tell_history name) e s = stays_beside k old new s
part_beside M k book old new (show_object name) e s = stays_beside k old new s
part_beside M k book old new (tell_evidence name label) e s = stays_beside k old new s
part_beside M k book old new show_rules e s = stays_beside k old new s
part_beside M k book old new (disable_rule name label) e s = stays_beside k old new s
part_beside M k book old new (unload_client name) e s = stays_beside k old new s
part_beside M k book old new (copy_object name to) e s = stays_beside k old new s
part_beside M k book old new (drop_object name) e s = stays_beside k old new s
part_beside M k book old new (tell_origin ref text) e s = stays_beside k old new s
part_beside M k book old new (make_object to shape) e s = stays_beside k old new s
part_beside M k book old new (build_object builder names to) e h = (begun_beside k builder names to old new h.0, parts_beside k M book (wanted_all (row_of builder).reads names) old new h.1)

-- the same, of what a call answers
pub answered_beside : (M : Meanings) {E F : Type 0} (view : F → ReplySeen) (k : Store) (book : List Rule) (old new : Machine) (command : Spoken) (r : Result F E) → is_on_files command ≡ false
    → IfOk r (λ x. Step M book old command (view x) new) → IfOk r (λ x. Step M book (beside k old) command (view x) (beside k new))
answered_beside M view k book old new command (Ok x) e h = step_beside M k book old new command (view x) e h
answered_beside M view k book old new command (Err x) e h = tt

pub broken_beside : (M : Meanings) {E F : Type 0} (k : Store) (book : List Rule) (old new : Machine) (command : Spoken) (r : Result F E) → is_on_files command ≡ false
    → OnErr r (StepInPart M book old command new) → OnErr r (StepInPart M book (beside k old) command (beside k new))
broken_beside M k book old new command (Ok x) e h = tt
broken_beside M k book old new command (Err x) e h = part_beside M k book old new command e h

-- ---- files
pub files_stay : (fs : _) → FilesStay fs fs
files_stay None = tt
files_stay (Some all) = refl

pub looks_of_stays : (old new : Machine) → Stays old new → Looks old new
looks_of_stays old new s = record {
  names = s.names;
  objects = s.objects;
  clients = s.clients;
  store = subst (λ k. IsLookedAt old.store k) (sym s.store) (record { files = files_stay old.store.files; faults = omega arith });
}

-- ---- a file that is read
-- the machine with these clients, beside this store
abbrev pub with_both : Store → Clients → Machine → Machine
with_both k clients m = record m { clients = clients; store = k }

file_step : (book : List Rule) (old new : Machine) (k k' : Store) (clients : Clients) (name file bytes : List ℕ) (reply : ReplySeen) → IsNewName (shelf old) name → HasBytes k file bytes → IsLookedAt k k'
    → FileRead book name bytes reply old new → LoadStep book (with_both k clients old) name file reply (with_both k' clients new)
file_step book old new k k' clients name file bytes _ free has looked (bad_file e refuses is s) =
    is_refused free (bad_file bytes e has refuses is) (record { names = s.names; objects = s.objects; clients = refl; store = looked })
file_step book old new k k' clients name file bytes _ free has looked (is_loaded f reads over g) =
    is_loaded bytes f free has reads over (record { names = g.names; object = g.object; others = g.others; clients = refl; store = looked })

pub file_answered : {E F : Type 0} (view : F → ReplySeen) (r : Result F E) (book : List Rule) (old new : Machine) (k k' : Store) (clients : Clients) (name file bytes : List ℕ) → IsNewName (shelf old) name → HasBytes k file bytes → IsLookedAt k k'
    → IfOk r (λ x. FileRead book name bytes (view x) old new) → IfOk r (λ x. LoadStep book (with_both k clients old) name file (view x) (with_both k' clients new))
file_answered view (Ok x) book old new k k' clients name file bytes free has looked h = file_step book old new k k' clients name file bytes (view x) free has looked h
file_answered view (Err e) book old new k k' clients name file bytes free has looked h = tt

not_mapped : {A B : Type 0} (f : A → B) (x : Option A) → option_map f x ≡ None → x ≡ None
not_mapped f None e = refl
not_mapped f (Some a) e = absurd (true≢false (ap is_some e))

-- what was found is None: there is no such file, where the store tells its files
pub none_found : (k : Store) (file : List ℕ) (found : Option (List ℕ)) → found ≡ None → IfSome k.files (λ all. found ≡ read_part (file_of all file)) → HasNone k file
none_found k file found none h = by k.files h
  where
    by : (fs : _) → IfSome fs (λ all. found ≡ read_part (file_of all file)) → IfSome fs (λ all. file_of all file ≡ None)
    by None g = tt
    by (Some all) g = not_mapped _ (file_of all file) (sym g ∙ none)

-- what was found are these bytes
pub bytes_found : (k : Store) (file bytes : List ℕ) (found : Option (List ℕ)) → found ≡ Some bytes → IfSome k.files (λ all. found ≡ read_part (file_of all file)) → HasBytes k file bytes
bytes_found k file bytes found is h = by k.files h
  where
    by : (fs : _) → IfSome fs (λ all. found ≡ read_part (file_of all file)) → IfSome fs (λ all. read_part (file_of all file) ≡ Some bytes)
    by None g = tt
    by (Some all) g = sym g ∙ is
