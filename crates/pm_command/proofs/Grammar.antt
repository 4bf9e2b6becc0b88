-- A line is read as a command exactly where it speaks that command.
use Rattle.std.proofs.Common.{refl, sym, ap, subst, ◌∙◌, ◌≡◌, inl, inr, ℕ, Bool, true, false, List, [], ◌∷◌, ◌++◌, length, Option, Some, None, option_map, option_and_then, codes, append_assoc, arith, cond, eqb, leb, ◌&&◌, not}
use Rattle.std.proofs.lemmas.Bool.{and_parts, and_from, cases_Bool, cond-true, false≢true, le-leb}
use Rattle.std.proofs.lemmas.List.Folds.{list_all-append}
use Rattle.std.proofs.lemmas.Option.{none-some, same_Some, cond_some, option_and_then_some}
use Rattle.std.proofs.lemmas.Str.{IsUtf8-from_is_utf8, is_utf8-from_IsUtf8}
use Rattle.std.proofs.lemmas.List.Splits.{join_with_byte-slice_split, length-slice_split, slice_split_at, slice_split_none}
use Rattle.std.proofs.lemmas.List.Elements.{All-cons, All-nil}
use Rattle.std.specs.List.{All, list_all, before_first, after_first, join_with_byte}
use Rattle.std.specs.Str.{IsUtf8, is_utf8, bytes_eq}
use Rattle.pm_command.proofs.Splits.{lacks, before_first-lacks, after_first-lacks, split_first, lacks-passes}
use Rattle.pm_command.proofs.Spaces.{name_lacks, name_is_some, name_of_two, rest_of_name, behind, whole_line, regroup, regroup_take, cond_either, option_map_some, same_bytes}
use Rattle.pm_command.proofs.BuildLines.{built_read, make_spoken, of_builder, one_spoken, two_are_spoken}
use Rattle.pm_command.specs.Builders.{word_of}
use Rattle.pm_command.specs.declared.building.Builder.TheVariants.{One, Two}
use Rattle.pm_command.specs.Commands.{RefSeen, Spoken, blank, new_object, take_value, give_value, look_up, ensure_values, explain_values, tell_history, show_object, tell_evidence, show_rules, disable_rule, unload_client, copy_object, drop_object, load_object, save_object, tell_origin, make_object, build_object, part_of, ref_of, property_of, type_of, json_of, of_both, new_line, take_line, give_line, lookup_line, asked_of, ensure_line, explain_line, history_line, show_line, evidence_line, disable_line, unload_line, copy_line, drop_line, origin_line, object_line, told_line, chain_line, line_of, command_of, file_line, load_line, save_line, build_line}
use Rattle.pm_command.specs.Grammar.{part_text, ref_text, is_sub, is_ref, spaced, are_some_asked, is_shape, shape_text, Speaks}
use Rattle.pm_command.specs.Lines.{is_silent}
use Rattle.pm_rules.specs.Words.{is_label, is_word}
use Rattle.pm_store.specs.FileWords.{is_file_word}
use Rattle.pm_command.specs.Words.{is_dot, first_word, rest, is_name, is_property_byte, is_property_word, is_type_word, is_space, words_of, are_asked, distinct}

-- ---- words
property_lacks_space : (w : List ℕ) → is_property_word w ≡ true → lacks 32 w ≡ true
property_lacks_space w h =
    lacks-passes is_property_byte 32 w refl (and_parts (leb 1 (length w) && leb (length w) 32) (list_all is_property_byte w) h).1

lacks-append : (c : ℕ) (v w : List ℕ) → lacks c v ≡ true → lacks c w ≡ true → lacks c (v ++ w) ≡ true
lacks-append c v w a b = list_all-append (λ x. not (eqb x c)) v w ∙ and_from (lacks c v) (lacks c w) a b

part_lacks_space : (name : List ℕ) (sub : Option (List ℕ)) → is_name name ≡ true → is_sub sub ≡ true → lacks 32 (part_text name sub) ≡ true
part_lacks_space name None n s = name_lacks 32 name refl refl n
part_lacks_space name (Some sub) n s =
    lacks-append 32 (name ++ codes ".") sub (lacks-append 32 name (codes ".") (name_lacks 32 name refl refl n) refl) (name_lacks 32 sub refl refl s)

ref_lacks_space : (r : RefSeen) → is_ref r ≡ true → lacks 32 (ref_text r) ≡ true
ref_lacks_space r h = let p = and_parts (is_name r.name) (is_sub r.sub) h in part_lacks_space r.name r.sub p.0 p.1

-- ---- a REF is its text
dotted_is_no_name : (name sub : List ℕ) → is_name (name ++ 46 ∷ sub) ≡ false
dotted_is_no_name name sub = elim (cases_Bool (is_name (name ++ 46 ∷ sub))) [
  | inl h ↦
      let all = sym (list_all-append (λ x. not (eqb x 46)) name (46 ∷ sub)) ∙ name_lacks 46 (name ++ 46 ∷ sub) refl refl h in
      absurd (false≢true (and_parts (lacks 46 name) (lacks 46 (46 ∷ sub)) all).1)
  | inr h ↦ h
]

ref_of-part : (name : List ℕ) (sub : Option (List ℕ)) → is_name name ≡ true → is_sub sub ≡ true → ref_of (part_text name sub) ≡ Some (record { name = name; sub = sub })
ref_of-part name None n s = rw n refl
ref_of-part name (Some sub) n s =
    let whole : name ++ codes "." ++ sub ≡ name ++ 46 ∷ sub = append_assoc name (codes ".") sub in
    let clear = name_lacks 46 name refl refl n in
    rw whole (rw (dotted_is_no_name name sub, before_first-lacks 46 name sub refl clear, after_first-lacks 46 name sub refl clear, n, s) refl)

ref_of-text : (r : RefSeen) → is_ref r ≡ true → ref_of (ref_text r) ≡ Some r
ref_of-text r h = let p = and_parts (is_name r.name) (is_sub r.sub) h in ref_of-part r.name r.sub p.0 p.1

abbrev IsRefText : List ℕ → RefSeen → Type 0
IsRefText w r = (w ≡ ref_text r) × (is_ref r ≡ true)

sub_is_some : (name sub : List ℕ) → is_name sub ≡ true → sub ≡ [] → ⊥
sub_is_some name sub h e = false≢true (subst (λ w. is_name w ≡ true) e h)

part_is_text : (w : List ℕ) (r : RefSeen) → part_of (before_first is_dot w) (after_first is_dot w) ≡ Some r → IsRefText w r
part_is_text w r e =
    let name : List ℕ = before_first is_dot w in
    let sub : List ℕ = after_first is_dot w in
    let p = cond_some (is_name name && is_name sub) (record { name = name; sub = Some sub }) r e in
    let q = and_parts (is_name name) (is_name sub) p.0 in
    elim (split_first 46 w) as (λ _. IsRefText w r) [
      | inl none ↦ absurd (sub_is_some name sub q.1 none)
      | inr split ↦ subst (IsRefText w) p.1 (split ∙ sym (append_assoc name (codes ".") sub), and_from (is_name name) (is_name sub) q.0 q.1)
    ]

ref_is_text : (w : List ℕ) (r : RefSeen) → ref_of w ≡ Some r → IsRefText w r
ref_is_text w r e =
    cond_either (is_name w) (Some (record { name = w; sub = None })) (part_of (before_first is_dot w) (after_first is_dot w)) (Some r) e
    (λ n f. subst (IsRefText w) (same_Some (record { name = w; sub = None }) r f) (refl, and_from (is_name w) true n refl))
    (λ _ f. part_is_text w r f)

-- ---- lines as they are spoken
first_of_two : (r : RefSeen) (w : List ℕ) → is_ref r ≡ true → first_word (ref_text r ++ 32 ∷ w) ≡ ref_text r
first_of_two r w h = before_first-lacks 32 (ref_text r) w refl (ref_lacks_space r h)

rest_of_two : (r : RefSeen) (w : List ℕ) → is_ref r ≡ true → rest (ref_text r ++ 32 ∷ w) ≡ w
rest_of_two r w h = after_first-lacks 32 (ref_text r) w refl (ref_lacks_space r h)

both_spoken : (speak : RefSeen → List ℕ → Spoken) (kind : List ℕ → Option (List ℕ)) (r : RefSeen) (w : List ℕ) → is_ref r ≡ true → kind w ≡ Some w
    → of_both speak (ref_of (first_word (ref_text r ++ 32 ∷ w))) (kind (rest (ref_text r ++ 32 ∷ w))) ≡ Some (speak r w)
both_spoken speak kind r w h k = rw (first_of_two r w h, rest_of_two r w h, ref_of-text r h, k) refl

json_is_some : (json : List ℕ) → leb 1 (length json) ≡ true → json_of json ≡ Some json
json_is_some [] h = absurd (false≢true h)
json_is_some (b ∷ json) h = refl

take_spoken : (r : RefSeen) (p json : List ℕ) → is_ref r ≡ true → is_property_word p ≡ true → leb 1 (length json) ≡ true → take_line (ref_text r ++ 32 ∷ (p ++ 32 ∷ json)) ≡ Some (take_value r p json)
take_spoken r p json h k j =
    let clear = property_lacks_space p k in
    rw (first_of_two r (p ++ 32 ∷ json) h, rest_of_two r (p ++ 32 ∷ json) h, ref_of-text r h, before_first-lacks 32 p json refl clear, after_first-lacks 32 p json refl clear, k, json_is_some json j) refl

property_is_some : (w : List ℕ) → is_property_word w ≡ true → property_of w ≡ Some w
property_is_some w h = cond-true (is_property_word w) (Some w) None h

type_is_some : (w : List ℕ) → is_type_word w ≡ true → type_of w ≡ Some w
type_is_some w h = cond-true (is_type_word w) (Some w) None h

disable_spoken : (name label : List ℕ) → is_name name ≡ true → is_label label ≡ true → disable_line (name ++ 32 ∷ label) ≡ Some (disable_rule name label)
disable_spoken name label n l = rw (name_of_two name label n, rest_of_name name label n, n, l) refl

evidence_spoken : (name label : List ℕ) → is_name name ≡ true → is_label label ≡ true → evidence_line (name ++ 32 ∷ label) ≡ Some (tell_evidence name label)
evidence_spoken name label n l = rw (name_of_two name label n, rest_of_name name label n, n, l) refl

copy_spoken : (name to : List ℕ) → is_name name ≡ true → is_name to ≡ true → copy_line (name ++ 32 ∷ to) ≡ Some (copy_object name to)
copy_spoken name to n t = rw (name_of_two name to n, rest_of_name name to n, n, t) refl

load_spoken : (name file : List ℕ) → is_name name ≡ true → is_file_word file ≡ true → load_line (name ++ 32 ∷ file) ≡ Some (load_object name file)
load_spoken name file n f = rw (name_of_two name file n, rest_of_name name file n, n, f) refl

save_spoken : (name file : List ℕ) → is_name name ≡ true → is_file_word file ≡ true → save_line (name ++ 32 ∷ file) ≡ Some (save_object name file)
save_spoken name file n f = rw (name_of_two name file n, rest_of_name name file n, n, f) refl

-- ---- words at single spaces
no_space : (w : List ℕ) → lacks 32 w ≡ true → All (λ b. eqb b 32 ≡ false) w
no_space [] h = All-nil (λ b. eqb b 32 ≡ false)
no_space (b ∷ w) h =
    let p = and_parts (not (eqb b 32)) (lacks 32 w) h in
    All-cons (λ b. eqb b 32 ≡ false) b w (not_true (eqb b 32) p.0) (no_space w p.1)
  where
    not_true : (b : Bool) → not b ≡ true → b ≡ false
    not_true false e = refl
    not_true true e = absurd (false≢true e)

words_split : (word : List ℕ) (words : List (List ℕ)) → list_all is_property_word (word ∷ words) ≡ true → words_of (join_with_byte 32 (word ∷ words)) ≡ word ∷ words
words_split word [] h =
    let p = and_parts (is_property_word word) (list_all is_property_word []) h in
    slice_split_none (λ b. eqb b 32) word (no_space word (property_lacks_space word p.0))
words_split word (next ∷ words) h =
    let p = and_parts (is_property_word word) (list_all is_property_word (next ∷ words)) h in
    slice_split_at (λ b. eqb b 32) word 32 (join_with_byte 32 (next ∷ words)) (no_space word (property_lacks_space word p.0)) refl
    ∙ ap (λ ws. word ∷ ws) (words_split next words p.1)

words_spaced : (words : List (List ℕ)) → are_some_asked words ≡ true → words_of (spaced words) ≡ words
words_spaced [] h = absurd (false≢true h)
words_spaced (word ∷ words) h = words_split word words (and_parts (list_all is_property_word (word ∷ words)) (leb (length (distinct (word ∷ words))) 4) (and_parts (leb 1 (length (word ∷ words))) (are_asked (word ∷ words)) h).1).0

asked_is_some : (words : List (List ℕ)) → are_some_asked words ≡ true → asked_of (spaced words) ≡ Some (spaced words)
asked_is_some words h =
    cond-true (are_asked (words_of (spaced words))) (Some (spaced words)) None
    (ap are_asked (words_spaced words h) ∙ (and_parts (leb 1 (length words)) (are_asked words) h).1)

-- where a text asks, its words do, one at least, and in a row they are the text
words_ask : (text : List ℕ) → are_asked (words_of text) ≡ true → are_some_asked (words_of text) ≡ true
words_ask text h = and_from (leb 1 (length (words_of text))) (are_asked (words_of text)) (le-leb 1 (length (words_of text)) (omega (arith, length-slice_split is_space text))) h

words_joined : (text : List ℕ) → spaced (words_of text) ≡ text
words_joined text = join_with_byte-slice_split 32 text

-- a line that is not silent
heard : (text : List ℕ) → is_silent text ≡ false → bytes_eq text (codes "rules") ≡ false → IsUtf8 text → command_of text ≡ line_of (first_word text) (rest text)
heard text h r u = rw (h, is_utf8-from_IsUtf8 text u, r) refl

pub spoken_is_read : (text : List ℕ) (s : Spoken) → Speaks text s → command_of text ≡ Some s
spoken_is_read text blank h = rw h refl
spoken_is_read text (new_object r of) h =
    let p = and_parts (is_ref r) (is_type_word of) h.allowed in
    let e = h.same ∙ regroup (codes "new ") (ref_text r) of in
    rw e (heard (codes "new " ++ (ref_text r ++ 32 ∷ of)) refl refl (subst IsUtf8 e h.utf8) ∙ both_spoken new_object type_of r of p.0 (type_is_some of p.1))
spoken_is_read text (give_value r w) h =
    let p = and_parts (is_ref r) (is_property_word w) h.allowed in
    let e = h.same ∙ regroup (codes "give ") (ref_text r) w in
    rw e (heard (codes "give " ++ (ref_text r ++ 32 ∷ w)) refl refl (subst IsUtf8 e h.utf8) ∙ both_spoken give_value property_of r w p.0 (property_is_some w p.1))
spoken_is_read text (look_up r w) h =
    let p = and_parts (is_ref r) (is_property_word w) h.allowed in
    let e = h.same ∙ regroup (codes "lookup ") (ref_text r) w in
    rw e (heard (codes "lookup " ++ (ref_text r ++ 32 ∷ w)) refl refl (subst IsUtf8 e h.utf8) ∙ both_spoken look_up property_of r w p.0 (property_is_some w p.1))
spoken_is_read text (ensure_values r words) h =
    let p = and_parts (is_ref r) (are_some_asked words) h.allowed in
    let e = h.same ∙ regroup (codes "ensure ") (ref_text r) (spaced words) in
    rw e (heard (codes "ensure " ++ (ref_text r ++ 32 ∷ spaced words)) refl refl (subst IsUtf8 e h.utf8)
    ∙ both_spoken (λ obj text. ensure_values obj (words_of text)) asked_of r (spaced words) p.0 (asked_is_some words p.1) ∙ ap (λ ws. Some (ensure_values r ws)) (words_spaced words p.1))
spoken_is_read text (explain_values r words) h =
    let p = and_parts (is_ref r) (are_some_asked words) h.allowed in
    let e = h.same ∙ regroup (codes "explain ") (ref_text r) (spaced words) in
    rw e (heard (codes "explain " ++ (ref_text r ++ 32 ∷ spaced words)) refl refl (subst IsUtf8 e h.utf8)
    ∙ both_spoken (λ obj text. explain_values obj (words_of text)) asked_of r (spaced words) p.0 (asked_is_some words p.1) ∙ ap (λ ws. Some (explain_values r ws)) (words_spaced words p.1))
spoken_is_read text (tell_history name) h =
    rw h.same (heard (codes "history " ++ name) refl refl (subst IsUtf8 h.same h.utf8) ∙ cond-true (is_name name) (Some (tell_history name)) None h.allowed)
spoken_is_read text (show_object name) h =
    rw h.same (heard (codes "show " ++ name) refl refl (subst IsUtf8 h.same h.utf8) ∙ cond-true (is_name name) (Some (show_object name)) None h.allowed)
spoken_is_read text (tell_evidence name label) h =
    let p = and_parts (is_name name) (is_label label) h.allowed in
    let e = h.same ∙ regroup (codes "evidence ") name label in
    rw e (heard (codes "evidence " ++ (name ++ 32 ∷ label)) refl refl (subst IsUtf8 e h.utf8) ∙ evidence_spoken name label p.0 p.1)
spoken_is_read text show_rules h = rw h.same (rw (is_utf8-from_IsUtf8 (codes "rules") (subst IsUtf8 h.same h.utf8)) refl)
spoken_is_read text (disable_rule name label) h =
    let p = and_parts (is_name name) (is_label label) h.allowed in
    let e = h.same ∙ regroup (codes "disable ") name label in
    rw e (heard (codes "disable " ++ (name ++ 32 ∷ label)) refl refl (subst IsUtf8 e h.utf8) ∙ disable_spoken name label p.0 p.1)
spoken_is_read text (unload_client client) h =
    rw h.same (heard (codes "unload " ++ client) refl refl (subst IsUtf8 h.same h.utf8) ∙ cond-true (is_word client) (Some (unload_client client)) None h.allowed)
spoken_is_read text (copy_object name to) h =
    let p = and_parts (is_name name) (is_name to) h.allowed in
    let e = h.same ∙ regroup (codes "copy ") name to in
    rw e (heard (codes "copy " ++ (name ++ 32 ∷ to)) refl refl (subst IsUtf8 e h.utf8) ∙ copy_spoken name to p.0 p.1)
spoken_is_read text (load_object name file) h =
    let p = and_parts (is_name name) (is_file_word file) h.allowed in
    let e = h.same ∙ regroup (codes "load ") name file in
    rw e (heard (codes "load " ++ (name ++ 32 ∷ file)) refl refl (subst IsUtf8 e h.utf8) ∙ load_spoken name file p.0 p.1)
spoken_is_read text (save_object name file) h =
    let p = and_parts (is_name name) (is_file_word file) h.allowed in
    let e = h.same ∙ regroup (codes "save ") name file in
    rw e (heard (codes "save " ++ (name ++ 32 ∷ file)) refl refl (subst IsUtf8 e h.utf8) ∙ save_spoken name file p.0 p.1)
spoken_is_read text (make_object new shape) h =
    let p = and_parts (is_name new) (is_shape shape) h.allowed in
    let e = h.same ∙ regroup (codes "make ") new (shape_text shape) in
    rw e (heard (codes "make " ++ (new ++ 32 ∷ shape_text shape)) refl refl (subst IsUtf8 e h.utf8) ∙ make_spoken new shape p.0 p.1)
spoken_is_read text (build_object (One what) (name ∷ []) new) h =
    let b = of_builder (One what) (name ++ 32 ∷ new) in
    rw h.same (heard (word_of (One what) ++ 32 ∷ (name ++ 32 ∷ new)) b.sounds b.no_rules (subst IsUtf8 h.same h.utf8) ∙ b.line ∙ one_spoken what name new h.allowed)
spoken_is_read text (build_object (Two what) (first ∷ second ∷ []) new) h =
    let b = of_builder (Two what) (first ++ 32 ∷ (second ++ 32 ∷ new)) in
    rw h.same (heard (word_of (Two what) ++ 32 ∷ (first ++ 32 ∷ (second ++ 32 ∷ new))) b.sounds b.no_rules (subst IsUtf8 h.same h.utf8) ∙ b.line ∙ two_are_spoken what first second new h.allowed)
spoken_is_read text (build_object builder names new) h = absurd h
spoken_is_read text (drop_object name) h =
    rw h.same (heard (codes "drop " ++ name) refl refl (subst IsUtf8 h.same h.utf8) ∙ cond-true (is_name name) (Some (drop_object name)) None h.allowed)
spoken_is_read text (tell_origin r w) h =
    let p = and_parts (is_ref r) (is_property_word w) h.allowed in
    let e = h.same ∙ regroup (codes "origin ") (ref_text r) w in
    rw e (heard (codes "origin " ++ (ref_text r ++ 32 ∷ w)) refl refl (subst IsUtf8 e h.utf8) ∙ both_spoken tell_origin property_of r w p.0 (property_is_some w p.1))
spoken_is_read text (take_value r w json) h =
    let p = and_parts (is_ref r && is_property_word w) (leb 1 (length json)) h.allowed in
    let q = and_parts (is_ref r) (is_property_word w) p.0 in
    let e = h.same ∙ regroup_take (codes "take ") (ref_text r) w json in
    rw e (heard (codes "take " ++ (ref_text r ++ 32 ∷ (w ++ 32 ∷ json))) refl refl (subst IsUtf8 e h.utf8) ∙ take_spoken r w json q.0 q.1 p.1)

-- ---- lines as they are read
record Both (speak : RefSeen → List ℕ → Spoken) (good : List ℕ → Bool) (words : List ℕ) (s : Spoken) : Type 0 where
  obj : RefSeen
  word : List ℕ
  line : words ≡ ref_text obj ++ 32 ∷ word
  are : (is_ref obj && good word) ≡ true
  is : speak obj word ≡ s

both_read : (speak : RefSeen → List ℕ → Spoken) (good : List ℕ → Bool) (words : List ℕ) (s : Spoken) → good [] ≡ false
    → of_both speak (ref_of (first_word words)) (cond (good (rest words)) (Some (rest words)) None) ≡ Some s → Both speak good words s
both_read speak good words s empty e =
    option_and_then_some (λ o. option_map (speak o) (cond (good (rest words)) (Some (rest words)) None)) (ref_of (first_word words)) s e
    (λ r is f. let p = option_map_some (speak r) (cond (good (rest words)) (Some (rest words)) None) s f in
    let q = cond_some (good (rest words)) (rest words) p.0 p.1 in
    let text = ref_is_text (first_word words) r is in
    record {
      obj = r;
      word = rest words;
      line = behind words (λ none. false≢true (sym empty ∙ subst (λ w. good w ≡ true) none q.0)) ∙ ap (λ w. w ++ 32 ∷ rest words) text.0;
      are = and_from (is_ref r) (good (rest words)) text.1 q.0;
      is = ap (speak r) q.1 ∙ p.2;
    })

record TakeRead (words : List ℕ) (s : Spoken) : Type 0 where
  obj : RefSeen
  prop : List ℕ
  json : List ℕ
  line : words ≡ ref_text obj ++ 32 ∷ (prop ++ 32 ∷ json)
  are : (is_ref obj && is_property_word prop && leb 1 (length json)) ≡ true
  is : take_value obj prop json ≡ s

json_some : (json j : List ℕ) → json_of json ≡ Some j → (leb 1 (length json) ≡ true) × (json ≡ j)
json_some [] j e = absurd (none-some j e)
json_some (b ∷ json) j e = (le-leb 1 (length (b ∷ json)) (omega arith), same_Some (b ∷ json) j e)

json_is_not_empty : (json : List ℕ) → leb 1 (length json) ≡ true → json ≡ [] → ⊥
json_is_not_empty json h none = false≢true (subst (λ w. leb 1 (length w) ≡ true) none h)

take_read : (words : List ℕ) (s : Spoken) → take_line words ≡ Some s → TakeRead words s
take_read words s e =
    let others : List ℕ = rest words in
    option_and_then_some (λ o. option_and_then (λ p. option_map (take_value o p) (json_of (rest others))) (property_of (first_word others))) (ref_of (first_word words)) s e
    (λ r is f. option_and_then_some (λ p. option_map (take_value r p) (json_of (rest others))) (property_of (first_word others)) s f
    (λ p hp g. let j = option_map_some (take_value r p) (json_of (rest others)) s g in
    let k = json_some (rest others) j.0 j.1 in
    let q = cond_some (is_property_word (first_word others)) (first_word others) p hp in
    let text = ref_is_text (first_word words) r is in
    let inner = behind others (json_is_not_empty (rest others) k.0) in
    let some : others ≡ [] → ⊥ = λ none. false≢true (subst (λ w. is_property_word (first_word w) ≡ true) none q.0) in
    record {
      obj = r;
      prop = first_word others;
      json = rest others;
      line = behind words some ∙ ap (λ w. w ++ 32 ∷ others) text.0 ∙ ap (λ w. ref_text r ++ 32 ∷ w) inner;
      are = and_from (is_ref r && is_property_word (first_word others)) (leb 1 (length (rest others))) (and_from (is_ref r) (is_property_word (first_word others)) text.1 q.0) k.0;
      is = ap (λ w. take_value r w (rest others)) q.1 ∙ ap (take_value r p) k.1 ∙ j.2;
    }))

new_read : (text : List ℕ) (s : Spoken) → IsUtf8 text → first_word text ≡ codes "new" → new_line (rest text) ≡ Some s → Speaks text s
new_read text s u f e =
    let b = both_read new_object is_type_word (rest text) s refl e in
    subst (Speaks text) b.is (record { utf8 = u; same = whole_line text (codes "new") (ref_text b.obj) b.word f b.line ∙ sym (regroup (codes "new ") (ref_text b.obj) b.word); allowed = b.are })

give_read : (text : List ℕ) (s : Spoken) → IsUtf8 text → first_word text ≡ codes "give" → give_line (rest text) ≡ Some s → Speaks text s
give_read text s u f e =
    let b = both_read give_value is_property_word (rest text) s refl e in
    subst (Speaks text) b.is (record { utf8 = u; same = whole_line text (codes "give") (ref_text b.obj) b.word f b.line ∙ sym (regroup (codes "give ") (ref_text b.obj) b.word); allowed = b.are })

lookup_read : (text : List ℕ) (s : Spoken) → IsUtf8 text → first_word text ≡ codes "lookup" → lookup_line (rest text) ≡ Some s → Speaks text s
lookup_read text s u f e =
    let b = both_read look_up is_property_word (rest text) s refl e in
    subst (Speaks text) b.is (record { utf8 = u; same = whole_line text (codes "lookup") (ref_text b.obj) b.word f b.line ∙ sym (regroup (codes "lookup ") (ref_text b.obj) b.word); allowed = b.are })

label_is_some : (label : List ℕ) → is_label label ≡ true → label ≡ [] → ⊥
label_is_some label h none = false≢true (subst (λ w. is_label w ≡ true) none h)

disable_read : (text : List ℕ) (s : Spoken) → IsUtf8 text → first_word text ≡ codes "disable" → disable_line (rest text) ≡ Some s → Speaks text s
disable_read text s u f e =
    let words : List ℕ = rest text in
    let q = cond_some (is_name (first_word words) && is_label (rest words)) (disable_rule (first_word words) (rest words)) s e in
    let p = and_parts (is_name (first_word words)) (is_label (rest words)) q.0 in
    let line : words ≡ first_word words ++ 32 ∷ rest words = behind words (label_is_some (rest words) p.1) in
    subst (Speaks text) q.1 (record { utf8 = u; same = whole_line text (codes "disable") (first_word words) (rest words) f line ∙ sym (regroup (codes "disable ") (first_word words) (rest words)); allowed = q.0 })

client_is_some : (client : List ℕ) → is_word client ≡ true → client ≡ [] → ⊥
client_is_some client h none = false≢true (subst (λ w. is_word w ≡ true) none h)

unload_read : (text : List ℕ) (s : Spoken) → IsUtf8 text → first_word text ≡ codes "unload" → unload_line (rest text) ≡ Some s → Speaks text s
unload_read text s u f e =
    let q = cond_some (is_word (rest text)) (unload_client (rest text)) s e in
    subst (Speaks text) q.1 (record { utf8 = u; same = behind text (client_is_some (rest text) q.0) ∙ ap (λ x. x ++ 32 ∷ rest text) f; allowed = q.0 })

asked_line : (text first : List ℕ) (b : List ℕ) (obj : RefSeen) → first_word text ≡ first → rest text ≡ ref_text obj ++ 32 ∷ b → text ≡ first ++ 32 ∷ (ref_text obj ++ 32 ∷ spaced (words_of b))
asked_line text first b obj f line = whole_line text first (ref_text obj) b f line ∙ ap (λ x. first ++ 32 ∷ (ref_text obj ++ 32 ∷ x)) (sym (words_joined b))

asked_allowed : (obj : RefSeen) (b : List ℕ) → (is_ref obj && are_asked (words_of b)) ≡ true → (is_ref obj && are_some_asked (words_of b)) ≡ true
asked_allowed obj b h = let p = and_parts (is_ref obj) (are_asked (words_of b)) h in and_from (is_ref obj) (are_some_asked (words_of b)) p.0 (words_ask b p.1)

ensure_read : (text : List ℕ) (s : Spoken) → IsUtf8 text → first_word text ≡ codes "ensure" → ensure_line (rest text) ≡ Some s → Speaks text s
ensure_read text s u f e =
    let b = both_read (λ obj text. ensure_values obj (words_of text)) (λ w. are_asked (words_of w)) (rest text) s refl e in
    subst (Speaks text) b.is (record { utf8 = u; same = asked_line text (codes "ensure") b.word b.obj f b.line ∙ sym (regroup (codes "ensure ") (ref_text b.obj) (spaced (words_of b.word))); allowed = asked_allowed b.obj b.word b.are })

explain_read : (text : List ℕ) (s : Spoken) → IsUtf8 text → first_word text ≡ codes "explain" → explain_line (rest text) ≡ Some s → Speaks text s
explain_read text s u f e =
    let b = both_read (λ obj text. explain_values obj (words_of text)) (λ w. are_asked (words_of w)) (rest text) s refl e in
    subst (Speaks text) b.is (record { utf8 = u; same = asked_line text (codes "explain") b.word b.obj f b.line ∙ sym (regroup (codes "explain ") (ref_text b.obj) (spaced (words_of b.word))); allowed = asked_allowed b.obj b.word b.are })

history_read : (text : List ℕ) (s : Spoken) → IsUtf8 text → first_word text ≡ codes "history" → history_line (rest text) ≡ Some s → Speaks text s
history_read text s u f e =
    let q = cond_some (is_name (rest text)) (tell_history (rest text)) s e in
    subst (Speaks text) q.1 (record { utf8 = u; same = behind text (name_is_some (rest text) q.0) ∙ ap (λ x. x ++ 32 ∷ rest text) f; allowed = q.0 })

show_read : (text : List ℕ) (s : Spoken) → IsUtf8 text → first_word text ≡ codes "show" → show_line (rest text) ≡ Some s → Speaks text s
show_read text s u f e =
    let q = cond_some (is_name (rest text)) (show_object (rest text)) s e in
    subst (Speaks text) q.1 (record { utf8 = u; same = behind text (name_is_some (rest text) q.0) ∙ ap (λ x. x ++ 32 ∷ rest text) f; allowed = q.0 })

evidence_read : (text : List ℕ) (s : Spoken) → IsUtf8 text → first_word text ≡ codes "evidence" → evidence_line (rest text) ≡ Some s → Speaks text s
evidence_read text s u f e =
    let words : List ℕ = rest text in
    let q = cond_some (is_name (first_word words) && is_label (rest words)) (tell_evidence (first_word words) (rest words)) s e in
    let p = and_parts (is_name (first_word words)) (is_label (rest words)) q.0 in
    let line : words ≡ first_word words ++ 32 ∷ rest words = behind words (label_is_some (rest words) p.1) in
    subst (Speaks text) q.1 (record { utf8 = u; same = whole_line text (codes "evidence") (first_word words) (rest words) f line ∙ sym (regroup (codes "evidence ") (first_word words) (rest words)); allowed = q.0 })

copy_read : (text : List ℕ) (s : Spoken) → IsUtf8 text → first_word text ≡ codes "copy" → copy_line (rest text) ≡ Some s → Speaks text s
copy_read text s u f e =
    let words : List ℕ = rest text in
    let q = cond_some (is_name (first_word words) && is_name (rest words)) (copy_object (first_word words) (rest words)) s e in
    let p = and_parts (is_name (first_word words)) (is_name (rest words)) q.0 in
    let line : words ≡ first_word words ++ 32 ∷ rest words = behind words (name_is_some (rest words) p.1) in
    subst (Speaks text) q.1 (record { utf8 = u; same = whole_line text (codes "copy") (first_word words) (rest words) f line ∙ sym (regroup (codes "copy ") (first_word words) (rest words)); allowed = q.0 })

drop_read : (text : List ℕ) (s : Spoken) → IsUtf8 text → first_word text ≡ codes "drop" → drop_line (rest text) ≡ Some s → Speaks text s
drop_read text s u f e =
    let q = cond_some (is_name (rest text)) (drop_object (rest text)) s e in
    subst (Speaks text) q.1 (record { utf8 = u; same = behind text (name_is_some (rest text) q.0) ∙ ap (λ x. x ++ 32 ∷ rest text) f; allowed = q.0 })

origin_read : (text : List ℕ) (s : Spoken) → IsUtf8 text → first_word text ≡ codes "origin" → origin_line (rest text) ≡ Some s → Speaks text s
origin_read text s u f e =
    let b = both_read tell_origin is_property_word (rest text) s refl e in
    subst (Speaks text) b.is (record { utf8 = u; same = whole_line text (codes "origin") (ref_text b.obj) b.word f b.line ∙ sym (regroup (codes "origin ") (ref_text b.obj) b.word); allowed = b.are })

file_is_some : (file : List ℕ) → is_file_word file ≡ true → file ≡ [] → ⊥
file_is_some file h none = false≢true (subst (λ w. is_file_word w ≡ true) none h)

load_read : (text : List ℕ) (s : Spoken) → IsUtf8 text → first_word text ≡ codes "load" → load_line (rest text) ≡ Some s → Speaks text s
load_read text s u f e =
    let words : List ℕ = rest text in
    let q = cond_some (is_name (first_word words) && is_file_word (rest words)) (load_object (first_word words) (rest words)) s e in
    let p = and_parts (is_name (first_word words)) (is_file_word (rest words)) q.0 in
    let line : words ≡ first_word words ++ 32 ∷ rest words = behind words (file_is_some (rest words) p.1) in
    subst (Speaks text) q.1 (record { utf8 = u; same = whole_line text (codes "load") (first_word words) (rest words) f line ∙ sym (regroup (codes "load ") (first_word words) (rest words)); allowed = q.0 })

save_read : (text : List ℕ) (s : Spoken) → IsUtf8 text → first_word text ≡ codes "save" → save_line (rest text) ≡ Some s → Speaks text s
save_read text s u f e =
    let words : List ℕ = rest text in
    let q = cond_some (is_name (first_word words) && is_file_word (rest words)) (save_object (first_word words) (rest words)) s e in
    let p = and_parts (is_name (first_word words)) (is_file_word (rest words)) q.0 in
    let line : words ≡ first_word words ++ 32 ∷ rest words = behind words (file_is_some (rest words) p.1) in
    subst (Speaks text) q.1 (record { utf8 = u; same = whole_line text (codes "save") (first_word words) (rest words) f line ∙ sym (regroup (codes "save ") (first_word words) (rest words)); allowed = q.0 })

file_read : (text : List ℕ) (s : Spoken) → IsUtf8 text → file_line (first_word text) (rest text) ≡ Some s → Speaks text s
file_read text s u e =
    let first : List ℕ = first_word text in
    let words : List ℕ = rest text in
    let others : Option Spoken = build_line first words in
    let save : Option Spoken = cond (bytes_eq first (codes "save")) (save_line words) others in
    cond_either (bytes_eq first (codes "load")) (load_line words) save (Some s) e (λ is f. load_read text s u (same_bytes first (codes "load") is) f)
    (λ _ f. cond_either (bytes_eq first (codes "save")) (save_line words) others (Some s) f (λ is g. save_read text s u (same_bytes first (codes "save") is) g)
    (λ _ g. built_read text s u g))

object_read : (text : List ℕ) (s : Spoken) → IsUtf8 text → object_line (first_word text) (rest text) ≡ Some s → Speaks text s
object_read text s u e =
    let first : List ℕ = first_word text in
    let words : List ℕ = rest text in
    let files : Option Spoken = file_line first words in
    let origin : Option Spoken = cond (bytes_eq first (codes "origin")) (origin_line words) files in
    let dropped : Option Spoken = cond (bytes_eq first (codes "drop")) (drop_line words) origin in
    cond_either (bytes_eq first (codes "copy")) (copy_line words) dropped (Some s) e (λ is f. copy_read text s u (same_bytes first (codes "copy") is) f)
    (λ _ f. cond_either (bytes_eq first (codes "drop")) (drop_line words) origin (Some s) f (λ is g. drop_read text s u (same_bytes first (codes "drop") is) g)
    (λ _ g. cond_either (bytes_eq first (codes "origin")) (origin_line words) files (Some s) g (λ is h. origin_read text s u (same_bytes first (codes "origin") is) h)
    (λ _ h. file_read text s u h)))

told_read : (text : List ℕ) (s : Spoken) → IsUtf8 text → told_line (first_word text) (rest text) ≡ Some s → Speaks text s
told_read text s u e =
    let first : List ℕ = first_word text in
    let words : List ℕ = rest text in
    let others : Option Spoken = object_line first words in
    let evidence : Option Spoken = cond (bytes_eq first (codes "evidence")) (evidence_line words) others in
    cond_either (bytes_eq first (codes "show")) (show_line words) evidence (Some s) e (λ is f. show_read text s u (same_bytes first (codes "show") is) f)
    (λ _ f. cond_either (bytes_eq first (codes "evidence")) (evidence_line words) others (Some s) f (λ is g. evidence_read text s u (same_bytes first (codes "evidence") is) g)
    (λ _ g. object_read text s u g))

chain_read : (text : List ℕ) (s : Spoken) → IsUtf8 text → chain_line (first_word text) (rest text) ≡ Some s → Speaks text s
chain_read text s u e =
    let first : List ℕ = first_word text in
    let words : List ℕ = rest text in
    let others : Option Spoken = told_line first words in
    let history : Option Spoken = cond (bytes_eq first (codes "history")) (history_line words) others in
    let explain : Option Spoken = cond (bytes_eq first (codes "explain")) (explain_line words) history in
    cond_either (bytes_eq first (codes "ensure")) (ensure_line words) explain (Some s) e (λ is f. ensure_read text s u (same_bytes first (codes "ensure") is) f)
    (λ _ f. cond_either (bytes_eq first (codes "explain")) (explain_line words) history (Some s) f (λ is g. explain_read text s u (same_bytes first (codes "explain") is) g)
    (λ _ g. cond_either (bytes_eq first (codes "history")) (history_line words) others (Some s) g (λ is h. history_read text s u (same_bytes first (codes "history") is) h)
    (λ _ h. told_read text s u h)))

taken_read : (text : List ℕ) (s : Spoken) → IsUtf8 text → first_word text ≡ codes "take" → take_line (rest text) ≡ Some s → Speaks text s
taken_read text s u f e =
    let b = take_read (rest text) s e in
    subst (Speaks text) b.is (record {
      utf8 = u;
      same = whole_line text (codes "take") (ref_text b.obj) (b.prop ++ 32 ∷ b.json) f b.line ∙ sym (regroup_take (codes "take ") (ref_text b.obj) b.prop b.json);
      allowed = b.are;
    })

line_read : (text : List ℕ) (s : Spoken) → IsUtf8 text → line_of (first_word text) (rest text) ≡ Some s → Speaks text s
line_read text s u e =
    let first : List ℕ = first_word text in
    let words : List ℕ = rest text in
    let unload : Option Spoken = cond (bytes_eq first (codes "unload")) (unload_line words) (chain_line first words) in
    let disable : Option Spoken = cond (bytes_eq first (codes "disable")) (disable_line words) unload in
    let lookup : Option Spoken = cond (bytes_eq first (codes "lookup")) (lookup_line words) disable in
    let give : Option Spoken = cond (bytes_eq first (codes "give")) (give_line words) lookup in
    let take : Option Spoken = cond (bytes_eq first (codes "take")) (take_line words) give in
    cond_either (bytes_eq first (codes "new")) (new_line words) take (Some s) e (λ is f. new_read text s u (same_bytes first (codes "new") is) f)
    (λ _ f. cond_either (bytes_eq first (codes "take")) (take_line words) give (Some s) f (λ is g. taken_read text s u (same_bytes first (codes "take") is) g)
    (λ _ g. cond_either (bytes_eq first (codes "give")) (give_line words) lookup (Some s) g (λ is h. give_read text s u (same_bytes first (codes "give") is) h)
    (λ _ h. cond_either (bytes_eq first (codes "lookup")) (lookup_line words) disable (Some s) h (λ is k. lookup_read text s u (same_bytes first (codes "lookup") is) k)
    (λ _ k. cond_either (bytes_eq first (codes "disable")) (disable_line words) unload (Some s) k (λ is l. disable_read text s u (same_bytes first (codes "disable") is) l)
    (λ _ l. cond_either (bytes_eq first (codes "unload")) (unload_line words) (chain_line first words) (Some s) l (λ is m. unload_read text s u (same_bytes first (codes "unload") is) m)
    (λ _ m. chain_read text s u m))))))

pub read_is_spoken : (text : List ℕ) (s : Spoken) → command_of text ≡ Some s → Speaks text s
read_is_spoken text s e =
    let worded : Option Spoken = line_of (first_word text) (rest text) in
    let heard_so : Option Spoken = cond (bytes_eq text (codes "rules")) (Some show_rules) worded in
    cond_either (is_silent text) (Some blank) (cond (is_utf8 text) heard_so None) (Some s) e
    (λ silent f. subst (Speaks text) (same_Some blank s f) silent)
    (λ _ f. cond_either (is_utf8 text) heard_so None (Some s) f
    (λ utf8 g. cond_either (bytes_eq text (codes "rules")) (Some show_rules) worded (Some s) g
    (λ is k. subst (Speaks text) (same_Some show_rules s k) (record { utf8 = IsUtf8-from_is_utf8 text utf8; same = same_bytes text (codes "rules") is; allowed = refl }))
    (λ _ k. line_read text s (IsUtf8-from_is_utf8 text utf8) k))
    (λ _ g. absurd (none-some s g)))

-- where nothing is read, nothing is spoken
pub none_is_spoken : (text : List ℕ) → command_of text ≡ None → (s : Spoken) → Speaks text s → ⊥
none_is_spoken text e s h = none-some s (sym e ∙ spoken_is_read text s h)
