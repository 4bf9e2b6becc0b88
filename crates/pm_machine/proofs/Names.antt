-- Objects by name, and the steps that change one.
use Rattle.pm_client.specs.Meanings.{Meanings, unsaid}
use Rattle.pm_telling.specs.Telling.{evidence_of, held_told, named_rounds, names_told, programs_told}
use Rattle.pm_client.specs.Starts.{Clients}
use Rattle.pm_object_type.specs.declared.object_type.ObjectType.{ObjectType}
use Rattle.pm_machine.proofs.Narrowing.{part_more, step_more}
use Rattle.pm_rounds.proofs.Narrowing.{narrows_unsaid}
use Rattle.pm_machine.proofs.Ensuring.{stays_part}
use Rattle.pm_machine.proofs.Kept.{steps_in_part_keep, steps_keep}
use Rattle.pm_machine.proofs.Kept.{all_honest}
use Rattle.pm_making.specs.Rows.{row_of}
use Rattle.pm_machine.specs.Building.{wanted_all}
use Rattle.pm_machine.proofs.Beside.{looks_of_stays}
use Rattle.pm_rounds.specs.Chains.{AreBarred, held_names, table}
use Rattle.pm_rounds.specs.Events.{Configuration, Ensured, EnsuredInPart, at_rest, configuration}
use Rattle.pm_rounds.specs.declared.round.Ending.{Ending}
use Rattle.pm_rounds.specs.declared.round.Ending.TheVariants as ending
use Rattle.pm_machine.specs.Parts.{AllHonest, StepInPart}
use Rattle.pm_rounds.specs.Reasons.{AreReasons}
use Rattle.pm_machine.specs.Machines.{Becomes, Gains, Loses, Machine, Stays, later_rounds, no_rounds, without_name, shelf}
use Rattle.pm_command.specs.Grammar.{ref_text}
use Rattle.pm_object.specs.State.{program_refusal, with_program, ObjectSeen, RoundSeen, State, is_held, read_at, value_of}
use Rattle.pm_object.specs.declared.held.ProgramFail.{ProgramFail}
use Rattle.pm_json.specs.Texts.{given_by}
use Rattle.pm_machine.specs.Steps.{AllKept, DisableStep, EnsureStep, Ensures, EvidenceStep, ExplainStep, Explains, GiveStep, Gives, NewProgramStep, ProgramRefuses, ShowStep, Step, TakeStep, Taken, asked_in, disabling, has_label, is_asked, is_crowded, is_made, is_planned, is_program_word, is_shown, Named, named_at, no_chain, no_such_property, no_such_rule, not_taken, now_disabled, now_held, part_named, property_named, rounds_beside, settled_object, HistoryStep, LookupStep, property_at, is_refused, no_property}
use Rattle.pm_object.proofs.Names.{names_held}
use Rattle.pm_object.specs.Views.{round_seen}
use Rattle.pm_object.specs.declared.held.Round.{Round}
use Rattle.pm_plan.specs.Plans.{HasNoPlan, IsCrowded, IsPlan}
use Rattle.pm_rules.specs.declared.rule.Rule.{Rule}
use Rattle.pm_rules.specs.declared.table.TableRow.{TableRow}
use Rattle.pm_command.specs.Commands.{RefSeen, Spoken, blank, new_object, take_value, give_value, look_up, ensure_values, explain_values, tell_history, show_object, tell_evidence, show_rules, disable_rule, unload_client, copy_object, drop_object, tell_origin, load_object, save_object, make_object, build_object}
use Rattle.pm_script.specs.Replies.{NamesSeen, ReplySeen, Rounds, done, explained, lists_held, nothing, planned, refused, remarks, shows, tells, tells_evidence}
use Rattle.pm_script.specs.declared.names.Bar.{Bar}
use Rattle.pm_script.specs.declared.refusal.Refusal.{Refusal}
use Rattle.pm_script.specs.declared.refusal.Refusal.TheVariants.{NoChain, Crowded, UnknownProperty, UnknownRule}
use Rattle.pm_props.proofs.Members.{has-only}
use Rattle.pm_props.specs.Properties.{number}
use Rattle.pm_props.specs.Sets.{has, only}
use Rattle.pm_types.specs.Values.{PropertyValue}
use Rattle.pm_props.specs.declared.kind.RuleId.{RuleId}
use Rattle.pm_props.specs.declared.property.PropId.{PropId}
use Rattle.pm_props.specs.declared.set.PropSet.{PropSet}
use Rattle.pm_weights.specs.declared.Cost.{Cost}
use Rattle.std.proofs.Common.{ap, arith, bytes_eq, eqb, false, inl, inr, refl, subst, sym, true, true≢false, ◌∙◌, ◌≢◌}
use Rattle.std.proofs.lemmas.Map.Text.{hash_map_updates_text}
use Rattle.std.proofs.lemmas.Slice.Eq.{bytes_eq-Decides}
use Rattle.indexmap.proofs.CallerLemmas.{insert_entry-new}
use Rattle.indexmap.specs.IndexMap.{insert_entry}
use Rattle.std.proofs.lemmas.List.{length-map, map-append}
use Rattle.std.specs.HashMap.{HashMap, UpdatesBy, get, get_by_text, keys}
use Rattle.std.specs.Map.{keys_of, lookup, remove_entry}
use Rattle.std.specs.Option.{IsSome, is_some, option_and_then, option_map}
use Rattle.std.specs.String.{string_eq}
use Rattle.std.specs.Prelude.{Bool, String, Err, IfOk, List, None, Ok, OnErr, OnOk, Option, Result, Some, [], cond, drop, length, map, string_bytes, ℕ, ◌++◌, ◌∷◌, ◌≡◌, ◌⊎◌}
use Rattle.std.proofs.lemmas.Bool.{cases_Bool}

-- what a word names in a type is what it names in the type that was told
pub named_as : {told of : ObjectType} {found is : Option PropId} (sub : Option ℕ) (word : List ℕ) → told ≡ of → found ≡ property_named told sub word → found ≡ is → property_named of sub word ≡ is
named_as sub word same named found = ap (λ t. property_named t sub word) (sym same) ∙ sym named ∙ found

else_of : {W : Type 0} (b : Bool) (x y : W) → b ≡ false → cond b x y ≡ y
else_of true x y e = absurd (true≢false e)
else_of false x y e = refl

apart : (name q : List ℕ) → q ≢ name → bytes_eq name q ≡ false
apart name q other = elim (cases_Bool (bytes_eq name q)) [
  | inl e ↦ absurd (other (sym ((bytes_eq-Decides name q).0 e)))
  | inr e ↦ e
]

-- what was at the other texts after a change at one
pub others_stay : {Y X S : Type 0} (m n : HashMap (String Y) X S) (text : List ℕ) (w : Option X) → UpdatesBy string_eq (λ k. bytes_eq text (string_bytes k)) m n w
    → (q : List ℕ) → q ≢ text → get_by_text n q ≡ get_by_text m q
others_stay m n text w h q other = hash_map_updates_text text m n w h q ∙ else_of _ _ _ (apart text q other)

-- the state of the object of each name, and the names in their order
abbrev pub objects_of : {Y S : Type 0} → HashMap (String Y) ObjectSeen S → List ℕ → Option State
objects_of m q = option_map (λ o. o.state) (get_by_text m q)

abbrev pub names_in : {Y S : Type 0} → HashMap (String Y) ObjectSeen S → List (List ℕ)
names_in m = map string_bytes (keys m)

-- the machine of such objects
abbrev pub machine_with : List (List ℕ) → (List ℕ → Option State) → Clients → Machine
machine_with names object clients = record { names = names; object = object; clients = clients; store = record { files = Some []; faults = 0 } }

-- the object of a name became another
pub record IsWritten (ns ms : List (List ℕ)) (old new : List ℕ → Option State) (name : List ℕ) (o o' : State) : Type 0 where
  pub was : old name ≡ Some o
  pub is : new name ≡ Some o'
  pub others : (q : List ℕ) → q ≢ name → new q ≡ old q
  pub names : ms ≡ ns

pub written : {Y S : Type 0} (m n : HashMap (String Y) ObjectSeen S) (text name : List ℕ) (o o' : ObjectSeen) → text ≡ name → Some o ≡ get_by_text m text → keys n ≡ keys m
    → (IsSome (get_by_text m text) → UpdatesBy string_eq (λ k. bytes_eq text (string_bytes k)) m n (Some o')) → IsWritten (names_in m) (names_in n) (objects_of m) (objects_of n) name o.state o'.state
written m n text name o o' same was same_keys updates =
    let h : UpdatesBy string_eq (λ k. bytes_eq text (string_bytes k)) m n (Some o') = updates (sym (ap is_some was)) in record {
      was = ap (objects_of m) (sym same) ∙ ap (option_map (λ (z : ObjectSeen). z.state)) (sym was);
      is = ap (objects_of n) (sym same) ∙ ap (option_map (λ (z : ObjectSeen). z.state)) h.1;
      others = λ q other. ap (option_map (λ (z : ObjectSeen). z.state)) (others_stay m n text (Some o') h q (λ e. other (e ∙ same)));
      names = ap (map string_bytes) same_keys;
    }

-- ---- one object more
pub not_mapped : {A B : Type 0} (f : A → B) (x : Option A) → option_map f x ≡ None → x ≡ None
not_mapped f None e = refl
not_mapped f (Some a) e = absurd (true≢false (ap is_some e))

named_last : {Y S : Type 0} (m n : HashMap (String Y) ObjectSeen S) (k : String Y) (o : ObjectSeen) → get string_eq m k ≡ None → n.entries ≡ insert_entry string_eq m.entries k o
    → names_in n ≡ names_in m ++ string_bytes k ∷ []
named_last m n k o none e =
    ap (λ es. map string_bytes (keys_of es)) (e ∙ insert_entry-new string_eq m k o none) ∙ ap (map string_bytes) (map-append (λ p. p.0) m.entries ((k, o) ∷ [])) ∙ map-append string_bytes (keys m) (k ∷ [])

pub gains_one : {Y S : Type 0} (m n : HashMap (String Y) ObjectSeen S) (k : String Y) (o : ObjectSeen) (made : State) (clients : Clients) → objects_of m (string_bytes k) ≡ None → n.entries ≡ insert_entry string_eq m.entries k o
    → UpdatesBy string_eq (λ q. bytes_eq (string_bytes k) (string_bytes q)) m n (Some o) → o.state ≡ made
    → Gains (string_bytes k) made (machine_with (names_in m) (objects_of m) clients) (machine_with (names_in n) (objects_of n) clients)
gains_one m n k o made clients none e updates is = record {
  names = named_last m n k o (not_mapped (λ (z : ObjectSeen). z.state) (get_by_text m (string_bytes k)) none) e;
  object = ap (option_map (λ (z : ObjectSeen). z.state)) updates.1 ∙ ap Some is;
  others = λ q other. ap (option_map (λ (z : ObjectSeen). z.state)) (others_stay m n (string_bytes k) (Some o) updates q other);
  clients = refl;
  store = refl;
}

-- ---- one object less
-- where no key passes, all stay
none_left : {Y X : Type 0} (name : List ℕ) (es : List (String Y × X)) → lookup (λ k. bytes_eq name (string_bytes k)) es ≡ None → map string_bytes (keys_of es) ≡ without_name name (map string_bytes (keys_of es))
none_left name [] none = refl
none_left name (e ∷ es) none = elim (cases_Bool (bytes_eq name (string_bytes e.0))) [
  | inl is ↦ absurd (true≢false (ap is_some (rw is at none)))
  | inr is ↦ rw is (ap (λ t. string_bytes e.0 ∷ t) (none_left name es (rw is at none)))
]

-- where one key passed, the others stay
names_left : {Y X : Type 0} (name : List ℕ) (es : List (String Y × X)) → lookup (λ k. bytes_eq name (string_bytes k)) (remove_entry (λ k. bytes_eq name (string_bytes k)) es) ≡ None
    → map string_bytes (keys_of (remove_entry (λ k. bytes_eq name (string_bytes k)) es)) ≡ without_name name (map string_bytes (keys_of es))
names_left name [] none = refl
names_left name (e ∷ es) none = elim (cases_Bool (bytes_eq name (string_bytes e.0))) [
  | inl is ↦ rw is (none_left name es (rw is at none))
  | inr is ↦ rw is (ap (λ t. string_bytes e.0 ∷ t) (names_left name es (rw (is, is) at none)))
]

pub loses_one : {Y S : Type 0} (m n : HashMap (String Y) ObjectSeen S) (name : List ℕ) (clients : Clients) → n.entries ≡ remove_entry (λ k. bytes_eq name (string_bytes k)) m.entries
    → UpdatesBy string_eq (λ k. bytes_eq name (string_bytes k)) m n None → Loses name (machine_with (names_in m) (objects_of m) clients) (machine_with (names_in n) (objects_of n) clients)
loses_one m n name clients e updates = record {
  names = ap (λ es. map string_bytes (keys_of es)) e ∙ names_left name m.entries (ap (λ es. lookup (λ k. bytes_eq name (string_bytes k)) es) (sym e) ∙ updates.1);
  object = ap (option_map (λ (z : ObjectSeen). z.state)) updates.1;
  others = λ q other. ap (option_map (λ (z : ObjectSeen). z.state)) (others_stay m n name None updates q other);
  clients = refl;
  store = refl;
}

pub stays_unchanged : {Y S : Type 0} (m n : HashMap (String Y) ObjectSeen S) (clients : Clients) → n.entries ≡ m.entries → Stays (machine_with (names_in m) (objects_of m) clients) (machine_with (names_in n) (objects_of n) clients)
stays_unchanged m n clients e = record {
  names = ap (λ es. map string_bytes (keys_of es)) e;
  objects = λ q. ap (λ es. option_map (λ (z : ObjectSeen). z.state) (lookup (λ k. bytes_eq q (string_bytes k)) es)) e;
  clients = refl;
  store = refl;
}

-- what agrees at a name and at the others agrees
same_all : (old new : List ℕ → Option State) (name : List ℕ) (o o' : State) → old name ≡ Some o → new name ≡ Some o' → o' ≡ o
    → ((q : List ℕ) → q ≢ name → new q ≡ old q) → (q : List ℕ) → new q ≡ old q
same_all old new name o o' was is same others q = elim (cases_Bool (bytes_eq q name)) [
  | inl e ↦ (let at : q ≡ name = (bytes_eq-Decides q name).0 e in ap new at ∙ is ∙ ap Some same ∙ sym was ∙ ap old (sym at))
  | inr e ↦ others q (λ f. true≢false (sym ((bytes_eq-Decides q name).1 f) ∙ e))
]

pub map_some : {A B : Type 0} (f : A → B) (x : Option A) → is_some (option_map f x) ≡ is_some x
map_some f None = refl
map_some f (Some a) = refl

pub none_mapped : {A B : Type 0} (f : A → B) (x : Option A) (y : Option B) → x ≡ None → option_map f x ≡ y → y ≡ None
none_mapped f x y is same = sym same ∙ ap (option_map f) is

-- ---- steps of the machine whose objects are given
abbrev pub ref_with : List ℕ → Option (List ℕ) → RefSeen
ref_with name sub = record { name = name; sub = sub }

-- what a REF names, with what it names of its object
abbrev pub named_of : State → Option ℕ → Named
named_of o sub = record { object = o; sub = sub }

module _ {ns ms : List (List ℕ)} {old new : List ℕ → Option State} {name : List ℕ} {o o' : State} (w : IsWritten ns ms old new name o o') where
  pub stays_with : (clients : Clients) → o' ≡ o → Stays (machine_with ns old clients) (machine_with ms new clients)
  stays_with clients same = record { names = w.names; objects = same_all old new name o o' w.was w.is same w.others; clients = refl; store = refl }

  pub stays_if_err : {T E : Type 0} (r : Result T E) (clients : Clients) → OnErr r (o' ≡ o) → OnErr r (Stays (machine_with ns old clients) (machine_with ms new clients))
  stays_if_err (Ok x) clients same = tt
  stays_if_err (Err e) clients same = stays_with clients same

  -- the object has no program of the part's name
  pub no_part : (part : Option (List ℕ)) (clients : Clients) → part_named o part ≡ None → named_at (shelf (machine_with ns old clients)) (ref_with name part) ≡ None
  no_part part clients none = ap (λ x. option_and_then (λ z. part_named z part) x) w.was ∙ none

  module _ (part : Option (List ℕ)) (sub : Option ℕ) (found : part_named o part ≡ Some (named_of o sub)) where
    at : (clients : Clients) → named_at (shelf (machine_with ns old clients)) (ref_with name part) ≡ Some (named_of o sub)
    at clients = ap (λ x. option_and_then (λ z. part_named z part) x) w.was ∙ found

    becomes : (clients after : Clients) → Becomes name (configuration o' after) (machine_with ns old clients) (machine_with ms new after)
    becomes clients after = record { names = w.names; object = w.is; others = w.others; clients = refl; store = refl }

    becomes_so : (clients : Clients) (it : State) → o' ≡ it → Becomes name (configuration it clients) (machine_with ns old clients) (machine_with ms new clients)
    becomes_so clients it same = subst (λ z. Becomes name (configuration z clients) (machine_with ns old clients) (machine_with ms new clients)) same (becomes clients clients)

    -- a property
    module _ (text : List ℕ) where
      pub take_unknown : (clients : Clients) (json : List ℕ) → property_named o.of sub text ≡ None → o' ≡ o
          → TakeStep (machine_with ns old clients) (ref_with name part) text json (refused UnknownProperty nothing) (machine_with ms new clients)
      take_unknown clients json none same = is_refused (no_property (no_such_property (named_of o sub) (at clients) none)) (stays_with clients same)

      pub take_refused : (clients : Clients) (json : List ℕ) (p : PropId) (why : Refusal) → property_named o.of sub text ≡ Some p → Taken o sub p (given_by p json) (Some why) o'
          → TakeStep (machine_with ns old clients) (ref_with name part) text json (refused why nothing) (machine_with ms new clients)
      take_refused clients json p why named t = is_refused (not_taken (named_of o sub) p (at clients) named t.0) (stays_with clients t.1)

      pub take_done : (clients : Clients) (json : List ℕ) (p : PropId) → property_named o.of sub text ≡ Some p → Taken o sub p (given_by p json) None o'
          → TakeStep (machine_with ns old clients) (ref_with name part) text json (done no_rounds) (machine_with ms new clients)
      take_done clients json p named (v, t, same) = now_held (named_of o sub) p v (at clients) named t refl (becomes_so clients _ same)

      pub give_unknown : {M : Meanings} (book : List Rule) (clients : Clients) → property_named o.of sub text ≡ None → o' ≡ o
          → GiveStep M book (machine_with ns old clients) (ref_with name part) text (refused UnknownProperty nothing) (machine_with ms new clients)
      give_unknown {M = M} book clients none same = is_refused (no_such_property (named_of o sub) (at clients) none) (stays_with clients same)

      pub give_step : (M : Meanings) {F E : Type 0} (view : F → ReplySeen) (r : Result F E) (book : List Rule) (clients after : Clients) (p : PropId) (called : List ℕ) → property_named o.of sub text ≡ Some p → called ≡ ref_text (ref_with name part)
          → IfOk r (λ x. Gives M book (configuration o clients) sub called p (view x) (configuration o' after))
          → IfOk r (λ x. GiveStep M book (machine_with ns old clients) (ref_with name part) text (view x) (machine_with ms new after))
      give_step M view (Err x) book clients after p called named call g = tt
      give_step M view (Ok x) book clients after p called named call g =
          is_asked (named_of o sub, at clients, p, named, configuration o' after, subst (λ z. Gives M book (configuration o clients) sub z p (view x) (configuration o' after)) call g, becomes clients after)

      pub gave_in_part : (M : Meanings) {T E : Type 0} (r : Result T E) (book : List Rule) (clients after : Clients) (p : PropId) → property_named o.of sub text ≡ Some p
          → OnErr r (EnsuredInPart M book sub (only p) (configuration o clients) (configuration o' after))
          → OnErr r (StepInPart M book (machine_with ns old clients) (give_value (ref_with name part) text) (machine_with ms new after))
      gave_in_part M (Ok x) book clients after p named e = tt
      gave_in_part M (Err x) book clients after p named e =
          inr (record { found = named_of o sub; named = at clients; property = p; is_property = named; now = configuration o' after; ensured = e; becomes = becomes clients after })

    -- several properties
    module _ (words : List (List ℕ)) where
      pub ensure_unknown : {M : Meanings} (book : List Rule) (clients : Clients) → asked_in o.of sub words ≡ None → o' ≡ o
          → EnsureStep M book (machine_with ns old clients) (ref_with name part) words (refused UnknownProperty nothing) (machine_with ms new clients)
      ensure_unknown {M = M} book clients none same = is_refused (no_such_property (named_of o sub) (at clients) none) (stays_with clients same)

      pub explain_unknown : (book : List Rule) (clients : Clients) → asked_in o.of sub words ≡ None → o' ≡ o
          → ExplainStep book (machine_with ns old clients) (ref_with name part) words (refused UnknownProperty nothing) (machine_with ms new clients)
      explain_unknown book clients none same = is_refused (no_such_property (named_of o sub) (at clients) none) (stays_with clients same)

      pub ensure_step : (M : Meanings) {F E : Type 0} (view : F → ReplySeen) (r : Result F E) (book : List Rule) (clients after : Clients) (asked : PropSet) → asked_in o.of sub words ≡ Some asked
          → IfOk r (λ x. Ensures M book (configuration o clients) sub asked (view x) (configuration o' after))
          → IfOk r (λ x. EnsureStep M book (machine_with ns old clients) (ref_with name part) words (view x) (machine_with ms new after))
      ensure_step M view (Err x) book clients after asked is g = tt
      ensure_step M view (Ok x) book clients after asked is g = is_asked (named_of o sub, at clients, asked, is, configuration o' after, g, becomes clients after)

      pub ensured_partly : (M : Meanings) {T E : Type 0} (r : Result T E) (book : List Rule) (clients after : Clients) (asked : PropSet) → asked_in o.of sub words ≡ Some asked
          → OnErr r (EnsuredInPart M book sub asked (configuration o clients) (configuration o' after))
          → OnErr r (StepInPart M book (machine_with ns old clients) (ensure_values (ref_with name part) words) (machine_with ms new after))
      ensured_partly M (Ok x) book clients after asked is e = tt
      ensured_partly M (Err x) book clients after asked is e =
          inr (record { found = named_of o sub; named = at clients; asked = asked; is_asked = is; now = configuration o' after; ensured = e; becomes = becomes clients after })

      pub explain_step : {F E : Type 0} (view : F → ReplySeen) (r : Result F E) (book : List Rule) (clients : Clients) (asked : PropSet) → asked_in o.of sub words ≡ Some asked
          → IfOk r (λ x. Explains book clients (settled_object o) sub asked (view x)) → IfOk r (λ x. o' ≡ settled_object o)
          → IfOk r (λ x. ExplainStep book (machine_with ns old clients) (ref_with name part) words (view x) (machine_with ms new clients))
      explain_step view (Err x) book clients asked is g same = tt
      explain_step view (Ok x) book clients asked is g same = is_asked (named_of o sub, at clients, asked, is, g, becomes_so clients (settled_object o) same)

      pub explained_in_part : (M : Meanings) {T E : Type 0} (r : Result T E) (book : List Rule) (clients : Clients) (asked : PropSet) → asked_in o.of sub words ≡ Some asked → OnErr r ((o' ≡ o) ⊎ (o' ≡ settled_object o))
          → OnErr r (StepInPart M book (machine_with ns old clients) (explain_values (ref_with name part) words) (machine_with ms new clients))
      explained_in_part M (Ok x) book clients asked is e = tt
      explained_in_part M (Err x) book clients asked is (inl same) = inl (stays_with clients same)
      explained_in_part M (Err x) book clients asked is (inr same) =
          inr (record { found = named_of o sub; named = at clients; asked = asked; is_asked = is; becomes = becomes_so clients (settled_object o) same })

-- ---- a label that is disabled
module _ {ns ms : List (List ℕ)} {old new : List ℕ → Option State} {name : List ℕ} {o o' : State} (w : IsWritten ns ms old new name o o') where
  pub disable_unknown : (clients : Clients) (book : List Rule) (label : List ℕ) → has_label label book ≡ false → o' ≡ o
      → DisableStep book (machine_with ns old clients) name label (refused UnknownRule nothing) (machine_with ms new clients)
  disable_unknown clients book label none same = is_refused (no_such_rule (λ e. true≢false (ap is_some (sym w.was ∙ e))) none) (stays_with w clients same)

  pub disable_done : (clients : Clients) (book : List Rule) (label : List ℕ) → has_label label book ≡ true → o' ≡ disabling o label
      → DisableStep book (machine_with ns old clients) name label (done no_rounds) (machine_with ms new clients)
  disable_done clients book label known same = now_disabled o refl w.was known (record { names = w.names; object = w.is ∙ ap Some same; others = w.others; clients = refl; store = refl })

-- ---- a linear program more
module _ {ns ms : List (List ℕ)} {old new : List ℕ → Option State} {name : List ℕ} {o o' : State} (w : IsWritten ns ms old new name o o') where
  pub program_refused : (sub : List ℕ) (why : ProgramFail) → program_refusal o sub ≡ Some why → ProgramRefuses (record { names = ns; object = old }) name sub why
  program_refused sub why refusal = (o, w.was, refusal)

  pub program_done : (clients : Clients) (sub text : List ℕ) → is_program_word text ≡ true → program_refusal o sub ≡ None → o' ≡ with_program o sub
      → NewProgramStep (machine_with ns old clients) name sub text (done no_rounds) (machine_with ms new clients)
  program_done clients sub text word free same =
      is_made o word w.was free refl (record { names = w.names; object = w.is ∙ ap Some same; others = w.others; clients = refl; store = refl })

-- how ensuring ended, of what was asked
pub ended_so : {M : Meanings} (book : List Rule) (sub : Option ℕ) (e : Ending) (old new : Configuration) (p : PropId) (asked : PropSet) → asked ≡ only p → Ensured M book sub asked e old new → Ensured M book sub (only p) e old new
ended_so {M = M} book sub e old new p asked one so = subst (λ z. Ensured M book sub z e old new) one so

same_number : (n k : ℕ) → n ≡ k → eqb n k ≡ true
same_number n k e = grind arith

pub found_held : {M : Meanings} (book : List Rule) (sub : Option ℕ) (old new : Configuration) (asked : PropSet) (p : PropId) → asked ≡ only p → Ensured M book sub asked ending.Found old new → is_held p (read_at sub new.object.held) ≡ true
found_held {M = M} book sub old new asked p one e =
    sym (names_held (read_at sub new.object.held) p) ∙ e.ends p (ap (λ z. has z p) one ∙ has-only p p ∙ same_number (number p) (number p) refl)

-- what was ensured wholly was ensured in part
pub whole_is_part : {M : Meanings} {T E : Type 0} (r : Result T E) (book : List Rule) (sub : Option ℕ) (asked : PropSet) (p : PropId) (ending : Ending) (old new : Configuration) → asked ≡ only p
    → Ensured M book sub asked ending old new → OnErr r (EnsuredInPart M book sub (only p) old new)
whole_is_part {M = M} (Ok x) book sub asked p ending old new is e = tt
whole_is_part {M = M} (Err x) book sub asked p ending old new is e = subst (λ z. EnsuredInPart M book sub z old new) is (at_rest, e.reaches)

pub ensured_in_part : {M : Meanings} {T E : Type 0} (r : Result T E) (book : List Rule) (sub : Option ℕ) (asked : PropSet) (ending : Ending) (old new : Configuration) → Ensured M book sub asked ending old new → OnErr r (EnsuredInPart M book sub asked old new)
ensured_in_part {M = M} (Ok x) book sub asked ending old new e = tt
ensured_in_part {M = M} (Err x) book sub asked ending old new e = (at_rest, e.reaches)

pub part_of : {M : Meanings} {T E : Type 0} (r : Result T E) (book : List Rule) (sub : Option ℕ) (asked : PropSet) (p : PropId) (old new : Configuration) → asked ≡ only p
    → EnsuredInPart M book sub asked old new → OnErr r (EnsuredInPart M book sub (only p) old new)
part_of {M = M} (Ok x) book sub asked p old new is e = tt
part_of {M = M} (Err x) book sub asked p old new is e = subst (λ z. EnsuredInPart M book sub z old new) is e

-- ---- a step that answered, and one that did not
pub stays_in_part : (M : Meanings) (book : List Rule) (old new : Machine) (command : Spoken) → Stays old new → StepInPart M book old command new
stays_in_part M book old new (give_value ref text) s = inl s
stays_in_part M book old new (ensure_values ref words) s = inl s
stays_in_part M book old new (explain_values ref words) s = inl s
stays_in_part M book old new (tell_history name) s = s
stays_in_part M book old new blank s = s
stays_in_part M book old new (new_object ref text) s = s
stays_in_part M book old new (take_value ref text json) s = s
stays_in_part M book old new (look_up ref text) s = s
stays_in_part M book old new (show_object name) s = s
stays_in_part M book old new (tell_evidence name label) s = s
stays_in_part M book old new show_rules s = s
stays_in_part M book old new (disable_rule name label) s = s
stays_in_part M book old new (unload_client name) s = s
stays_in_part M book old new (copy_object name to) s = s
stays_in_part M book old new (drop_object name) s = s
stays_in_part M book old new (tell_origin ref text) s = s
stays_in_part M book old new (load_object name file) s = looks_of_stays old new s
stays_in_part M book old new (save_object name file) s = inl s
stays_in_part M book old new (make_object to shape) s = s
stays_in_part M book old new (build_object builder names to) s = (inl s, stays_part M book (wanted_all (row_of builder).reads names) old new s)

-- a step in part is one of the command that is said
pub part_as : (M : Meanings) {T E : Type 0} (r : Result T E) (book : List Rule) (said command : Spoken) (old new : Machine) → said ≡ command → OnErr r (StepInPart M book old command new) → OnErr r (StepInPart M book old said new)
part_as M (Ok x) book said command old new is h = tt
part_as M (Err x) book said command old new is h = subst (λ z. StepInPart M book old z new) (sym is) h

-- a step is one of the command that is said
pub step_as : (M : Meanings) {F E : Type 0} (view : F → ReplySeen) (r : Result F E) (book : List Rule) (said command : Spoken) (old new : Machine) → said ≡ command
    → IfOk r (λ x. Step M book old command (view x) new) → IfOk r (λ x. Step M book old said (view x) new)
step_as M view (Ok x) book said command old new is h = subst (λ z. Step M book old z (view x) new) (sym is) h
step_as M view (Err x) book said command old new is h = tt

pub kept_if_ok : (M : Meanings) {E F : Type 0} (view : F → ReplySeen) (book : List Rule) (old new : Machine) (command : Spoken) (r : Result F E)
    → IfOk r (λ x. Step M book old command (view x) new) → OnOk r (AllKept old → AllKept new)
kept_if_ok M view book old new command (Ok x) s = steps_keep book old new command (view x) (step_more unsaid M (narrows_unsaid M) book old new command (view x) s)
kept_if_ok M view book old new command (Err x) s = tt

pub honest_step : (M : Meanings) {E F : Type 0} (view : F → ReplySeen) (book : List Rule) (old new : Machine) (command : Spoken) (r : Result F E)
    → IfOk r (λ x. Step M book old command (view x) new) → OnErr r (StepInPart M book old command new) → AllKept old → AllHonest new
honest_step M view book old new command (Ok x) s p all = all_honest new (steps_keep book old new command (view x) (step_more unsaid M (narrows_unsaid M) book old new command (view x) s) all)
honest_step M view book old new command (Err x) s p all = steps_in_part_keep book old new command (part_more unsaid M (narrows_unsaid M) book old command new p) all

-- ---- what was ensured is told with its rounds
-- what is so of a reply is so of the answer that is seen as it
pub if_seen : {F E : Type 0} (view : F → ReplySeen) (r : Result F E) (P : ReplySeen → Type 0) (reply : ReplySeen) → P reply → IfOk r (λ x. view x ≡ reply) → IfOk r (λ x. P (view x))
if_seen view (Err x) P reply h is = tt
if_seen view (Ok x) P reply h is = subst P (sym is) h

pub gives_shown : {M : Meanings} {F E : Type 0} (view : F → ReplySeen) (r : Result F E) (book : List Rule) (old new : Configuration) (sub : Option ℕ) (name : List ℕ) (p : PropId) (of : ObjectType) (v : PropertyValue) (t : Rounds)
    → of ≡ old.object.of → value_of p (read_at sub new.object.held) ≡ Some v → t ≡ named_rounds book new.object (later_rounds old.object new.object) → Ensured M book sub (only p) ending.Found old new → IfOk r (λ x. view x ≡ shows name of p v t)
    → IfOk r (λ x. Gives M book old sub name p (view x) new)
gives_shown {M = M} view r book old new sub name p of v t type held rounds e said = if_seen view r (λ z. Gives M book old sub name p z new) (shows name of p v t) (is_shown e refl type refl held rounds) said

pub history_told : {F E : Type 0} (view : F → ReplySeen) (r : Result F E) (book : List Rule) (old : Machine) (name : List ℕ) (o : State) → old.object name ≡ Some o → IfOk r (λ x. view x ≡ tells (named_rounds book o o.rounds) o.excluded)
    → IfOk r (λ x. HistoryStep book old name (view x) old)
history_told view r book old name o named said = if_seen view r (λ z. HistoryStep book old name z old) (tells (named_rounds book o o.rounds) o.excluded) (HistoryStep.is_told o named refl refl (record { names = refl; objects = λ q. refl; clients = refl; store = refl })) said

pub object_told : {F E : Type 0} (view : F → ReplySeen) (r : Result F E) (old : Machine) (name : List ℕ) (o : State) → old.object name ≡ Some o → IfOk r (λ x. view x ≡ lists_held o.of (held_told o None) (programs_told o))
    → IfOk r (λ x. ShowStep old name (view x) old)
object_told view r old name o named said = if_seen view r (λ z. ShowStep old name z old) (lists_held o.of (held_told o None) (programs_told o)) (ShowStep.is_told o named refl refl refl (record { names = refl; objects = λ q. refl; clients = refl; store = refl })) said

pub evidence_told : {F E : Type 0} (view : F → ReplySeen) (r : Result F E) (book : List Rule) (old : Machine) (name label : List ℕ) (o : State) → old.object name ≡ Some o → has_label label book ≡ true
    → IfOk r (λ x. view x ≡ tells_evidence (evidence_of book label o.excluded) (names_told book o)) → IfOk r (λ x. EvidenceStep book old name label (view x) old)
evidence_told view r book old name label o named known said = if_seen view r (λ z. EvidenceStep book old name label z old) (tells_evidence (evidence_of book label o.excluded) (names_told book o)) (EvidenceStep.is_told o named known refl refl (record { names = refl; objects = λ q. refl; clients = refl; store = refl })) said

pub looked_up : {F E : Type 0} (view : F → ReplySeen) (r : Result F E) (old : Machine) (ref : RefSeen) (text : List ℕ) (x : Named) (p : PropId) (v : PropertyValue) (name : List ℕ) (of : ObjectType) → named_at (shelf old) ref ≡ Some x → property_at x text ≡ Some p
    → name ≡ ref_text ref → of ≡ x.object.of → value_of p (read_at x.sub x.object.held) ≡ Some v → IfOk r (λ z. view z ≡ shows name of p v no_rounds) → IfOk r (λ z. LookupStep old ref text (view z) old)
looked_up view r old ref text x p v name of named property same type held said = if_seen view r (λ z. LookupStep old ref text z old) (shows name of p v no_rounds) (LookupStep.is_shown x named property same type held refl (record { names = refl; objects = λ q. refl; clients = refl; store = refl })) said

-- ---- rounds with their names
pub rounds_named : (book : List Rule) (o : State) (names : NamesSeen) (rounds later : List RoundSeen) → names ≡ names_told book o → rounds ≡ later
    → record { rounds = rounds; names = names } ≡ named_rounds book o later
rounds_named book o names rounds later is same = cc

pub beside_named : (always : Bool) (book : List Rule) (names : NamesSeen) (rounds : List RoundSeen) (old new : State) → names ≡ names_told book new → rounds ≡ later_rounds old new
    → remarks always rounds [] None names ≡ rounds_beside always book old new
beside_named always book names rounds old new is same = ap (λ z. remarks always z [] None names) same ∙ ap (λ z. remarks always (later_rounds old new) [] None z) is

-- the rounds after the first so many are the later ones
pub later_is : (before : ℕ) (rounds : List Round) (old new : State) (later : List RoundSeen) → before ≡ length rounds → map round_seen rounds ≡ old.rounds → later ≡ drop before new.rounds → later ≡ later_rounds old new
later_is before rounds old new later count seen_so is =
    is ∙ ap (λ n. drop n new.rounds) (count ∙ sym (length-map rounds round_seen) ∙ ap length seen_so)

-- ---- a plan is told with the names of the book
pub planned_so : (P : PropSet → PropSet → Type 0) (names names' held held' : PropSet) → names ≡ names' → held ≡ held' → P names held → P names' held'
planned_so P names names' held held' n h p = subst (λ z. P z held') n (subst (λ z. P names z) h p)

pub explains_found : {F E : Type 0} (view : F → ReplySeen) (r : Result F E) (book : List Rule) (clients : Clients) (o : State) (sub : Option ℕ) (asked : PropSet) (chain : List RuleId) (weight : Cost) (rows : List TableRow) (barred : List RuleId)
    → AreBarred book clients o sub barred → IsPlan book (table sub o.of) barred (held_names sub o) asked chain weight rows → IfOk r (λ x. view x ≡ explained chain weight rows (names_told book o)) → IfOk r (λ x. Explains book clients o sub asked (view x))
explains_found view r book clients o sub asked chain weight rows barred are plan said = if_seen view r (Explains book clients o sub asked) (explained chain weight rows (names_told book o)) (is_planned barred are plan refl) said

pub explains_none : {F E : Type 0} (view : F → ReplySeen) (r : Result F E) (book : List Rule) (clients : Clients) (o : State) (sub : Option ℕ) (asked : PropSet) (rows : List TableRow) (barred : List RuleId) → AreBarred book clients o sub barred
    → HasNoPlan book (table sub o.of) barred (held_names sub o) asked rows
    → IfOk r (λ x. (list : List (RuleId × Bar)) × AreReasons book clients o sub list × (view x ≡ refused NoChain (planned list rows (names_told book o)))) → IfOk r (λ x. Explains book clients o sub asked (view x))
explains_none view (Err x) book clients o sub asked rows barred are none h = tt
explains_none view (Ok x) book clients o sub asked rows barred are none (told', reasons, is) =
    subst (Explains book clients o sub asked) (sym is) (no_chain barred are none reasons refl)

pub explains_crowded : {F E : Type 0} (view : F → ReplySeen) (r : Result F E) (book : List Rule) (clients : Clients) (o : State) (sub : Option ℕ) (asked : PropSet) (rows : List TableRow) (barred : List RuleId) → AreBarred book clients o sub barred
    → IsCrowded book (table sub o.of) barred (held_names sub o) asked rows
    → IfOk r (λ x. (list : List (RuleId × Bar)) × AreReasons book clients o sub list × (view x ≡ refused Crowded (planned list rows (names_told book o)))) → IfOk r (λ x. Explains book clients o sub asked (view x))
explains_crowded view (Err x) book clients o sub asked rows barred are crowded h = tt
explains_crowded view (Ok x) book clients o sub asked rows barred are crowded (told', reasons, is) =
    subst (Explains book clients o sub asked) (sym is) (is_crowded barred are crowded reasons refl)
