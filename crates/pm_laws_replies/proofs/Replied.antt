-- The text of each reply is a block that its command opens, and its text tells what it shows.
use Rattle.std.proofs.Common.{ap, append_assoc, refl, subst, sym, true≢false, ℕ, List, [], ◌∷◌, ◌++◌, Bool, true, false, ◌≡◌, ◌∙◌, ◌||◌, Option, Some, None, if◌then◌else◌, codes, flat_map, length}
use Rattle.std.specs.List.{list_all}
use Rattle.std.specs.Fmt.{decimal}
use Rattle.std.proofs.lemmas.Bool.{and_parts, or_right}
use Rattle.pm_command.specs.Commands.{RefSeen, Spoken, blank, new_object, take_value, give_value, look_up, ensure_values, explain_values, tell_history, show_object, tell_evidence, show_rules, disable_rule, unload_client, copy_object, drop_object, tell_origin, load_object, save_object, make_object, build_object}
use Rattle.pm_command.specs.Grammar.{is_ref, is_sub, part_text, ref_text}
use Rattle.pm_command.specs.Words.{is_name}
use Rattle.pm_object.specs.declared.held.Origin.{Origin}
use Rattle.pm_object_type.specs.declared.object_type.ObjectType.{ObjectType}
use Rattle.pm_object_type.specs.declared.object_type.ObjectType.TheVariants.{Cone, Fan, Polytope}
use Rattle.pm_files.specs.ValueJson.{json_of, value_text}
use Rattle.pm_props.specs.declared.property.PropId.{PropId}
use Rattle.pm_rules.specs.declared.rule.Rule.{Rule}
use Rattle.pm_script.specs.Replies.{ReplySeen, Rounds, done, evidence_line, excluded_text, held_line, ignored_text, lists_held, name_shown, no_rounds, nothing, origin_text, planned, program_lines, refusal_text, reply_text, rounds_text, rule_text, table_row_text, told, word_of_type}
use Rattle.pm_types.specs.Values.{PropertyValue}
use Rattle.pm_weights.specs.Weights.{cost_text}
use Rattle.pm_laws_replies.specs.Told.{LoadedIsOneLine, NamesAreOneLine, IsReply, may_begin_rounds, is_refused_after_rounds, has_evidence, has_history, has_origin, has_well_formed_ref, tells_what_is_held, is_built, is_done, is_ensured, is_explained, is_listed, is_loaded, is_refused, is_done_in_one_line, is_shown, lists_book, is_looked_up, has_no_origin, is_refused_by_plan, is_not_held, is_one_line}
use Rattle.pm_laws_replies.proofs.Lines.{Block, Later, a_line, no_line}
use Rattle.pm_laws_replies.proofs.OneLine.{first_shown, high_first, high_shown, no_space, plain_append, plain_decimal, plain_json, plain_shown, space_append}
use Rattle.pm_laws_replies.proofs.Blocks.{block_alone, block_of, block_refused, is_held_line, later_if, later_map, plain_cost, plain_origin}
use Rattle.pm_laws_replies.proofs.Words.{plain_name}
use Rattle.pm_laws_replies.proofs.Opening.{later_barred, later_evidence, later_history, later_plan, later_rounds_ok, later_rounds_value, named, named_own, opens_any, opens_history, opens_of, opens_ok, opens_plan, opens_value, plain_ignored, starts, unspaced_name}

-- ---- REFs
pub unspaced_ref : (ref : RefSeen) → is_ref ref ≡ true → no_space (ref_text ref) ≡ true
unspaced_ref ref h = by ref.sub (and_parts (is_name ref.name) (is_sub ref.sub) h).1
  where
    own : no_space ref.name ≡ true
    own = unspaced_name ref.name (and_parts (is_name ref.name) (is_sub ref.sub) h).0

    by : (sub : Option (List ℕ)) → is_sub sub ≡ true → no_space (part_text ref.name sub) ≡ true
    by None k = own
    by (Some sub) k = space_append (ref.name ++ codes ".") sub (space_append ref.name (codes ".") own refl) (unspaced_name sub k)

pub plain_ref : (ref : RefSeen) → is_ref ref ≡ true → is_one_line (ref_text ref) ≡ true
plain_ref ref h = by ref.sub (and_parts (is_name ref.name) (is_sub ref.sub) h).1
  where
    own : is_one_line ref.name ≡ true
    own = plain_name ref.name (and_parts (is_name ref.name) (is_sub ref.sub) h).0

    by : (sub : Option (List ℕ)) → is_sub sub ≡ true → is_one_line (part_text ref.name sub) ≡ true
    by None k = own
    by (Some sub) k = plain_append (ref.name ++ codes ".") sub (plain_append ref.name (codes ".") own refl) (plain_name sub k)

-- ---- what opens
opens_no : (c : Spoken) (t : List ℕ) → opens_of c (110 ∷ 111 ∷ 32 ∷ t) ≡ true
opens_no blank t = refl
opens_no (new_object ref text) t = refl
opens_no (take_value ref text json) t = refl
opens_no (give_value ref text) t = refl
opens_no (look_up ref text) t = refl
opens_no (ensure_values ref words) t = refl
opens_no (explain_values ref words) t = refl
opens_no (tell_history name) t = refl
opens_no (show_object name) t = refl
opens_no (tell_evidence name label) t = refl
opens_no show_rules t = refl
opens_no (disable_rule name label) t = refl
opens_no (unload_client name) t = refl
opens_no (copy_object name to) t = refl
opens_no (drop_object name) t = refl
opens_no (tell_origin ref text) t = refl
opens_no (load_object name file) t = refl
opens_no (save_object name file) t = refl
opens_no (make_object to shape) t = refl
opens_no (build_object builder names to) t = refl

opens_short : (c : Spoken) → is_done_in_one_line c ≡ true → opens_of c (codes "ok\n") ≡ true
opens_short blank h = refl
opens_short (new_object ref text) h = refl
opens_short (take_value ref text json) h = refl
opens_short (give_value ref text) h = absurd (true≢false (sym h))
opens_short (look_up ref text) h = refl
opens_short (ensure_values ref words) h = refl
opens_short (explain_values ref words) h = absurd (true≢false (sym h))
opens_short (tell_history name) h = absurd (true≢false (sym h))
opens_short (show_object name) h = refl
opens_short (tell_evidence name label) h = refl
opens_short show_rules h = refl
opens_short (disable_rule name label) h = refl
opens_short (unload_client name) h = refl
opens_short (copy_object name to) h = refl
opens_short (drop_object name) h = refl
opens_short (tell_origin ref text) h = refl
opens_short (load_object name file) h = refl
opens_short (save_object name file) h = refl
opens_short (make_object to shape) h = refl
opens_short (build_object builder names to) h = refl

rounds_later : (c : Spoken) (t : Rounds) → has_well_formed_ref c ≡ true → may_begin_rounds c ≡ true → NamesAreOneLine t.names → Later (opens_of c) (rounds_text t)
rounds_later (give_value ref text) t r b l = later_rounds_value t.names l (ref_text ref) (unspaced_ref ref r) t.rounds
rounds_later (ensure_values ref words) t r b l = later_rounds_ok t.names l t.rounds
rounds_later (build_object builder names to) t r b l = later_rounds_ok t.names l t.rounds
rounds_later blank t r b l = absurd (true≢false (sym b))
rounds_later (new_object ref text) t r b l = absurd (true≢false (sym b))
rounds_later (take_value ref text json) t r b l = absurd (true≢false (sym b))
rounds_later (look_up ref text) t r b l = absurd (true≢false (sym b))
rounds_later (explain_values ref words) t r b l = absurd (true≢false (sym b))
rounds_later (tell_history name) t r b l = absurd (true≢false (sym b))
rounds_later (show_object name) t r b l = absurd (true≢false (sym b))
rounds_later (tell_evidence name label) t r b l = absurd (true≢false (sym b))
rounds_later show_rules t r b l = absurd (true≢false (sym b))
rounds_later (disable_rule name label) t r b l = absurd (true≢false (sym b))
rounds_later (unload_client name) t r b l = absurd (true≢false (sym b))
rounds_later (copy_object name to) t r b l = absurd (true≢false (sym b))
rounds_later (drop_object name) t r b l = absurd (true≢false (sym b))
rounds_later (tell_origin ref text) t r b l = absurd (true≢false (sym b))
rounds_later (load_object name file) t r b l = absurd (true≢false (sym b))
rounds_later (save_object name file) t r b l = absurd (true≢false (sym b))
rounds_later (make_object to shape) t r b l = absurd (true≢false (sym b))

-- ---- a value
high_append : (a b : List ℕ) → high_first a ≡ true → high_first (a ++ b) ≡ true
high_append [] b h = absurd (true≢false (sym h))
high_append (x ∷ a) b h = h

abbrev pub value_line : List ℕ → ObjectType → PropId → PropertyValue → List ℕ
value_line name of p v = name ++ codes " " ++ name_shown of p ++ codes " " ++ value_text p v

pub plain_value : (name : List ℕ) (of : ObjectType) (p : PropId) (v : PropertyValue) → is_one_line name ≡ true → is_one_line (value_line name of p v) ≡ true
plain_value name of p v h =
    let a = plain_append name (codes " ") h refl in
    let b = plain_append (name ++ codes " ") (name_shown of p) a (plain_shown of p) in
    let c = plain_append (name ++ codes " " ++ name_shown of p) (codes " ") b refl in
    plain_append (name ++ codes " " ++ name_shown of p ++ codes " ") (value_text p v) c (plain_json (json_of p v))

pub named_value : (name : List ℕ) (of : ObjectType) (p : PropId) (v : PropertyValue) (rest : List ℕ) → named name (value_line name of p v ++ codes "\n" ++ rest) ≡ true
named_value name of p v rest =
    let e : value_line name of p v ++ codes "\n" ++ rest ≡ name ++ 32 ∷ (name_shown of p ++ (32 ∷ (value_text p v ++ (10 ∷ rest)))) = simp append_assoc in
    ap (named name) e ∙ named_own name (name_shown of p ++ (32 ∷ (value_text p v ++ (10 ∷ rest)))) ∙ high_append (name_shown of p) (32 ∷ (value_text p v ++ (10 ∷ rest))) (high_shown of p)

pub no_rest : (trace : Bool) (t : Rounds) → t ≡ no_rounds → (if trace then rounds_text t else []) ≡ []
no_rest true t e = ap rounds_text e
no_rest false t e = refl

-- ---- each reply is a block
regroup : (w d h p : List ℕ) → (w ++ (32 ∷ ((d ++ (10 ∷ [])) ++ h))) ++ p ≡ (w ++ (32 ∷ d)) ++ (10 ∷ (h ++ p))
regroup w d h p =
    append_assoc w (32 ∷ ((d ++ (10 ∷ [])) ++ h)) p
    ∙ ap (λ z. w ++ (32 ∷ z)) (append_assoc (d ++ (10 ∷ [])) h p ∙ append_assoc d (10 ∷ []) (h ++ p))
    ∙ sym (append_assoc w (32 ∷ d) (10 ∷ (h ++ p)))

pub held_shut : (of : ObjectType) (x : PropId × Origin) (tail : List ℕ) → opens_ok (held_line of x ++ tail) ≡ false
held_shut of x tail =
    let e : held_line of x ++ tail ≡ name_shown of x.0 ++ (32 ∷ (origin_text x.1 ++ (10 ∷ tail))) = simp append_assoc in
    ap opens_ok e ∙ first_shown of x.0 (32 ∷ (origin_text x.1 ++ (10 ∷ tail)))

later_programs : (of : ObjectType) (programs : List (List ℕ × List (PropId × Origin))) → list_all (λ p. is_one_line p.0) programs ≡ true → Later opens_ok (flat_map (program_lines of) programs)
later_programs of [] h = no_line refl
later_programs of (p ∷ programs) h =
    let both = and_parts (is_one_line p.0) (list_all (λ q. is_one_line q.0) programs) h in
    let rest = flat_map (program_lines of) programs in
    let held = flat_map (held_line of) p.1 in
    a_line (codes "program: " ++ p.0 ++ (codes " " ++ decimal (length p.1))) (held ++ rest)
    (regroup (codes "program: " ++ p.0) (decimal (length p.1)) held rest)
    (plain_append (codes "program: " ++ p.0) (codes " " ++ decimal (length p.1)) both.0 (plain_decimal (length p.1)))
    refl
    (later_map opens_ok (held_line of) (is_held_line of) (held_shut of) p.1 rest (later_programs of programs both.1))

plain_type : (of : ObjectType) → is_one_line (word_of_type of) ≡ true
plain_type Polytope = refl
plain_type Cone = refl
plain_type Fan = refl

done_block : (c : Spoken) (trace : Bool) → is_done_in_one_line c ≡ true → Block (opens_of c) (reply_text trace (done no_rounds))
done_block c true h = block_alone (opens_of c) (codes "ok") refl (opens_short c h)
done_block c false h = block_alone (opens_of c) (codes "ok") refl (opens_short c h)

pub block : (book : List Rule) (trace : Bool) {c : Spoken} {r : ReplySeen} → has_well_formed_ref c ≡ true → lists_book c ≡ false → IsReply book c r → Block (opens_of c) (reply_text trace r)
block book trace {c = c} h b (is_refused {why = why} k one) = block_refused (opens_of c) trace (refusal_text why) nothing (opens_no c) one (no_line refl)
block book trace {c = c} h b (is_refused_after_rounds {why = why} {always = always} {t = t} k one l) =
    block_refused (opens_of c) trace (refusal_text why) (told always t) (opens_no c) one (later_if (opens_of c) (trace || always) (rounds_text t) (rounds_later c t h k l))
block book trace {c = c} h b (is_refused_by_plan {why = why} {barred = barred} {rows = rows} {names = names} one l) =
    block_refused opens_plan trace (refusal_text why) (planned barred rows names) (λ t. refl) one (later_barred names l barred rows)
block book trace {c = c} h b (is_done {t = t} k e) = subst (λ z. Block (opens_of c) (reply_text trace (done z))) (sym e) (done_block c trace k)
block book trace h b (is_built {t = t} l) = block_of opens_ok (codes "ok") (if trace then rounds_text t else []) refl refl (later_if opens_ok trace (rounds_text t) (later_rounds_ok t.names l t.rounds))
block book trace h b (is_shown {ref = ref} {name = name} {of = of} {p = p} {v = v} {t = t} e l) =
    let rest = if trace then rounds_text t else [] in
    block_of (opens_value (ref_text ref)) (value_line name of p v) rest (plain_value name of p v (subst (λ z. is_one_line z ≡ true) (sym e) (plain_ref ref h)))
    (subst (λ z. opens_value (ref_text ref) (value_line z of p v ++ codes "\n" ++ rest) ≡ true) (sym e)
    (or_right (starts (codes "no ") (value_line (ref_text ref) of p v ++ codes "\n" ++ rest)) (named (ref_text ref) (value_line (ref_text ref) of p v ++ codes "\n" ++ rest)) (named_value (ref_text ref) of p v rest)))
    (later_if (opens_value (ref_text ref)) trace (rounds_text t) (later_rounds_value t.names l (ref_text ref) (unspaced_ref ref h) t.rounds))
block book trace h b (is_looked_up {ref = ref} {name = name} {of = of} {p = p} {v = v} {t = t} e n) =
    block_of opens_any (value_line name of p v) (if trace then rounds_text t else []) (plain_value name of p v (subst (λ z. is_one_line z ≡ true) (sym e) (plain_ref ref h))) refl
    (no_line (no_rest trace t n))
block book trace h b is_not_held = block_alone opens_any (codes "undef") refl refl
block book trace h b has_no_origin = block_alone opens_any (codes "undef") refl refl
block book trace h b (has_origin {o = o}) = block_alone opens_any (origin_text o) (plain_origin o) refl
block book trace h b (is_ensured {t = t} l) = block_of opens_ok (codes "ok " ++ decimal (length t.rounds)) (rounds_text t) (plain_decimal (length t.rounds)) refl (later_rounds_ok t.names l t.rounds)
block book trace h b (is_explained {chain = chain} {weight = weight} {rows = rows} {names = names} l) =
    let rules = flat_map (rule_text names) chain in
    let table = flat_map table_row_text rows in
    subst (Block opens_plan) (sym (append_assoc (codes "plan " ++ cost_text weight ++ codes "\n") rules table))
    (block_of opens_plan (codes "plan " ++ cost_text weight) (rules ++ table) (plain_cost weight) refl (later_plan names l chain rows))
block book trace h b (has_history {t = t} {excluded = excluded} l) =
    let rounds = rounds_text t in
    let others = flat_map (excluded_text t.names) excluded in
    subst (Block opens_history) (sym (append_assoc (codes "rounds " ++ decimal (length t.rounds) ++ codes "\n") rounds others))
    (block_of opens_history (codes "rounds " ++ decimal (length t.rounds)) (rounds ++ others) (plain_decimal (length t.rounds)) refl (later_history t.names l t.rounds excluded))
block book trace h b (is_listed n e) = absurd (true≢false b)
block book trace h b (is_loaded {names = names}) = block_alone opens_any (codes "ok" ++ ignored_text names) (plain_ignored names) refl
block book trace h b (tells_what_is_held {of = of} {held = held} {programs = programs} l) =
    let lines = flat_map (held_line of) held in
    let others = flat_map (program_lines of) programs in
    let line = codes "object " ++ word_of_type of ++ (codes " " ++ decimal (length held)) in
    let e : line ++ codes "\n" ++ (lines ++ others) ≡ reply_text trace (lists_held of held programs) =
    append_assoc line (codes "\n") (lines ++ others) ∙ sym (regroup (codes "object " ++ word_of_type of) (decimal (length held)) lines others) in
    subst (Block opens_ok) e (block_of opens_ok line (lines ++ others)
    (plain_append (codes "object " ++ word_of_type of) (codes " " ++ decimal (length held)) (plain_type of) (plain_decimal (length held))) refl
    (later_map opens_ok (held_line of) (is_held_line of) (held_shut of) held others (later_programs of programs l)))
block book trace h b (has_evidence {excluded = excluded} {names = names} l) =
    block_of opens_ok (codes "ok " ++ decimal (length excluded)) (flat_map (evidence_line names) excluded) (plain_decimal (length excluded)) refl (later_evidence names l excluded)

pub loaded_is_one_line : LoadedIsOneLine
loaded_is_one_line trace names = (codes "ok" ++ ignored_text names, refl, plain_ignored names)
