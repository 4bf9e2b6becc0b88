-- Members whose keys ascend: so are those of JSON that was read, and of what is put into such; and such members are the same where each key has the same in both.
use Rattle.std.proofs.lemmas.Option.{same_Some as some_is, none-some as none_some}
use Rattle.std.proofs.Common.{refl, sym, ap, subst, ◌∙◌, ◌≡◌, ℕ, List, [], ◌∷◌, Option, Some, None, Ordering, Less, Equal, Greater, nat_cmp, is_eq}
use Rattle.std.proofs.lemmas.Cmp.{nat_list_cmp_total, tied_itself}
use Rattle.std.proofs.lemmas.Map.Text.{is_eq-slice_cmp}
use Rattle.std.proofs.lemmas.Slice.Eq.{bytes_eq-Decides}
use Rattle.std.specs.Cmp.Lexicographic.{slice_cmp}
use Rattle.std.specs.Ordering.{match_ordering, ordering_reverse}
use Rattle.std.specs.Prelude.{⊤, codes, map, option_and_then, option_map}
use Rattle.json.specs.Json as json
use Rattle.json.specs.Lex.{tokens}
use Rattle.serde_json.specs.Data.{Data, Members, no_members, member, put, object, null, boolean, number, string, array, unsigned}
use Rattle.serde_json.specs.Find.{as_object, get_member}
use Rattle.serde_json.specs.Read.{max_depth, number_of, of_items, of_json, of_members, read}
use Rattle.pm_props.specs.Properties.{name_in}
use Rattle.pm_object_type.specs.declared.object_type.ObjectType.{ObjectType}
use Rattle.pm_props.specs.declared.property.PropId.{PropId}
use Rattle.pm_types.specs.Values.{PropertyValue}
use Rattle.pm_files.specs.Files.{SavedFile, SavedProgram, contents, heading, marks_json, program_json, type_text, with_programs, with_values}
use Rattle.pm_files.specs.ValueJson.{array_of, json_of}

-- the key is before the first
abbrev pub IsBefore : List ℕ → Members → Type 0
IsBefore k no_members = ⊤
IsBefore k (member l e ms) = slice_cmp nat_cmp k l ≡ Less

abbrev pub Ascends : Members → Type 0
Ascends no_members = ⊤
Ascends (member k d ms) = IsBefore k ms × Ascends ms

same_key : (k : List ℕ) → slice_cmp nat_cmp k k ≡ Equal
same_key k = tied_itself nat_list_cmp_total k

pub key_is : (k l : List ℕ) → slice_cmp nat_cmp k l ≡ Equal → k ≡ l
key_is k l e = (bytes_eq-Decides k l).0 (sym (is_eq-slice_cmp k l) ∙ ap is_eq e)

turned : (k l : List ℕ) → slice_cmp nat_cmp k l ≡ Greater → slice_cmp nat_cmp l k ≡ Less
turned k l e = nat_list_cmp_total.antisymm l k ∙ ap ordering_reverse e

before_more : (k l : List ℕ) (ms : Members) → slice_cmp nat_cmp k l ≡ Less → IsBefore l ms → IsBefore k ms
before_more k l no_members h b = tt
before_more k l (member m d ms) h b = nat_list_cmp_total.trans k l m h b

-- a key before all stands nowhere
pub none_at : (k : List ℕ) (ms : Members) → IsBefore k ms → Ascends ms → get_member k ms ≡ None
none_at k no_members b a = refl
none_at k (member l d ms) b a = rw b (none_at k ms (before_more k l ms b a.0) a.1)

-- ---- what is put in
before_put : (l k : List ℕ) (d : Data) (ms : Members) → slice_cmp nat_cmp l k ≡ Less → IsBefore l ms → IsBefore l (put k d ms)
before_put l k d no_members h b = h
before_put l k d (member m e ms) h b = by (slice_cmp nat_cmp k m)
  where
    by : (o : Ordering) → IsBefore l (match_ordering o (member k d (member m e ms)) (member m d ms) (member m e (put k d ms)))
    by Less = h
    by Equal = b
    by Greater = b

pub put_ascends : (k : List ℕ) (d : Data) (ms : Members) → Ascends ms → Ascends (put k d ms)
put_ascends k d no_members a = (tt, tt)
put_ascends k d (member l e ms) a = by (slice_cmp nat_cmp k l) refl (put_ascends k d ms a.1)
  where
    by : (o : Ordering) → slice_cmp nat_cmp k l ≡ o → Ascends (put k d ms) → Ascends (match_ordering o (member k d (member l e ms)) (member l d ms) (member l e (put k d ms)))
    by Less is later = (is, a)
    by Equal is later = a
    by Greater is later = (before_put l k d ms (turned k l is) a.0, later)

-- ---- what is read
members_ascend : (js : json.Members) (found out : Members) → of_members js found ≡ Some out → Ascends found → Ascends out
members_ascend json.no_members found out e a = subst Ascends (some_is found out e) a
members_ascend (json.member k j js) found out e a = by (of_json j) e (λ d h. members_ascend js (put k d found) out h (put_ascends k d found a))
  where
    by : (x : Option Data) → option_and_then (λ d. of_members js (put k d found)) x ≡ Some out → ((d : Data) → of_members js (put k d found) ≡ Some out → Ascends out) → Ascends out
    by None h rest = absurd (none_some out h)
    by (Some d) h rest = rest d h

no_object : {X : Type 0} (f : X → Data) → ((x : X) → as_object (f x) ≡ None) → (x : Option X) (d : Data) (ms : Members) → option_map f x ≡ Some d → as_object d ≡ Some ms → ⊥
no_object f none None d ms e o = none_some d e
no_object f none (Some x) d ms e o = let same : f x ≡ d = is (f x) d e in none_some ms (sym (none x) ∙ ap as_object same ∙ o)
  where
    is : (a b : Data) → Some a ≡ Some b → a ≡ b
    is a b h = cc

json_ascends : (j : json.Json) (d : Data) (ms : Members) → of_json j ≡ Some d → as_object d ≡ Some ms → Ascends ms
json_ascends json.null d ms e o = absurd (no_object (λ (x : Data). null) (λ x. refl) (Some null) d ms e o)
json_ascends (json.boolean b) d ms e o = absurd (no_object boolean (λ x. refl) (Some b) d ms e o)
json_ascends (json.number s) d ms e o = absurd (no_object number (λ x. refl) (number_of s) d ms e o)
json_ascends (json.string s) d ms e o = absurd (no_object string (λ x. refl) (Some s) d ms e o)
json_ascends (json.array js) d ms e o = absurd (no_object array (λ x. refl) (of_items js) d ms e o)
json_ascends (json.object js) d ms e o = by (of_members js no_members) refl e
  where
    by : (r : Option Members) → of_members js no_members ≡ r → option_map object r ≡ Some d → Ascends ms
    by None is h = absurd (none_some d h)
    by (Some ns) is h =
        let same : ns ≡ ms = some_is ns ms (ap (λ (x : Option Data). option_and_then as_object x) h ∙ o) in
        subst Ascends same (members_ascend js no_members ns is tt)

-- the members of an object that was read
pub read_ascends : (text : List ℕ) (d : Data) (ms : Members) → read text ≡ Some d → as_object d ≡ Some ms → Ascends ms
read_ascends text d ms e o = by (option_and_then (λ p. json.if_last p.0 p.1) (json.value max_depth (tokens text))) e
  where
    by : (j : Option json.Json) → option_and_then of_json j ≡ Some d → Ascends ms
    by None h = absurd (none_some d h)
    by (Some j) h = json_ascends j d ms h o

-- ---- the same in both
tails : (k : List ℕ) (d e : Data) (ms ns : Members) → ((q : List ℕ) → get_member q (member k d ms) ≡ get_member q (member k e ns)) → IsBefore k ms → Ascends ms → IsBefore k ns → Ascends ns
    → (q : List ℕ) → get_member q ms ≡ get_member q ns
tails k d e ms ns h b a c f q = by (slice_cmp nat_cmp q k) refl (h q)
  where
    by : (o : Ordering) → slice_cmp nat_cmp q k ≡ o → match_ordering o (get_member q ms) (Some d) (get_member q ms) ≡ match_ordering o (get_member q ns) (Some e) (get_member q ns) → get_member q ms ≡ get_member q ns
    by Less is g = g
    by Greater is g = g
    by Equal is g = subst (λ z. get_member z ms ≡ get_member z ns) (sym (key_is q k is)) (none_at k ms b a ∙ sym (none_at k ns c f))

pub found_first : (k : List ℕ) (d : Data) (ms : Members) → get_member k (member k d ms) ≡ Some d
found_first k d ms = rw same_key

pub same_members : (ms ns : Members) → Ascends ms → Ascends ns → ((k : List ℕ) → get_member k ms ≡ get_member k ns) → ms ≡ ns
same_members no_members no_members a f h = refl
same_members no_members (member l e ns) a f h = absurd (none_some e (h l ∙ found_first l e ns))
same_members (member k d ms) no_members a f h = absurd (none_some d (sym (h k) ∙ found_first k d ms))
same_members (member k d ms) (member l e ns) a f h = by (slice_cmp nat_cmp k l) refl (λ g u. same_members ms ns a.1 g u)
  where
    some_data : (x y : Data) → Some x ≡ Some y → x ≡ y
    some_data x y g = cc

    at_key : IsBefore k ns → Ascends ns → ((q : List ℕ) → get_member q (member k d ms) ≡ get_member q (member k e ns)) → (Ascends ns → ((q : List ℕ) → get_member q ms ≡ get_member q ns) → ms ≡ ns) → member k d ms ≡ member k e ns
    at_key b g u rest =
        let first : d ≡ e = some_data d e (sym (found_first k d ms) ∙ u k ∙ found_first k e ns) in
        ap (λ z. member k z ms) first ∙ ap (member k e) (rest g (tails k d e ms ns u a.0 a.1 b g))

    by : (o : Ordering) → slice_cmp nat_cmp k l ≡ o → (Ascends ns → ((q : List ℕ) → get_member q ms ≡ get_member q ns) → ms ≡ ns) → member k d ms ≡ member l e ns
    by Less is rest = absurd (none_some d (sym (none_at k (member l e ns) is f) ∙ sym (h k) ∙ found_first k d ms))
    by Greater is rest = absurd (none_some e (sym (none_at l (member k d ms) (turned k l is) a) ∙ h l ∙ found_first l e ns))
    by Equal is rest =
        let same : l ≡ k = sym (key_is k l is) in
        at_key (subst (λ z. IsBefore z ns) same f.0) f.1 (subst (λ z. (q : List ℕ) → get_member q (member k d ms) ≡ get_member q (member z e ns)) same h) rest
        ∙ ap (λ z. member z e ns) (sym same)

-- ---- files
pub values_ascend : (of : ObjectType) (vs : List (PropId × PropertyValue)) (ms : Members) → Ascends ms → Ascends (with_values of vs ms)
values_ascend of [] ms a = a
values_ascend of (v ∷ vs) ms a = values_ascend of vs (put (name_in of v.0) (json_of v.0 v.1) ms) (put_ascends (name_in of v.0) (json_of v.0 v.1) ms a)

programs_ascend : (ps : List SavedProgram) (ms : Members) → Ascends ms → Ascends (with_programs ps ms)
programs_ascend [] ms a = a
programs_ascend (p ∷ ps) ms a = put_ascends (codes "LP") (array_of (map program_json (p ∷ ps))) ms a

pub heading_ascends : (f : SavedFile) → Ascends (heading f)
heading_ascends f =
    let typed = put (codes "_type") (string (type_text f.of)) no_members in
    let profiled = put (codes "_profile") (number (unsigned 2)) typed in
    put_ascends (codes "_excluded") (marks_json f.failed) profiled (put_ascends (codes "_profile") (number (unsigned 2)) typed (put_ascends (codes "_type") (string (type_text f.of)) no_members tt))

pub contents_ascend : (f : SavedFile) → Ascends (contents f)
contents_ascend f = programs_ascend f.programs (with_values f.of f.values (heading f)) (values_ascend f.of f.values (heading f) (heading_ascends f))
