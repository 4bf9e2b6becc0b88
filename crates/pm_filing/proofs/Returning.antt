-- What was written of a whole file is read as that file, with its values in the order of their names.
use Rattle.std.proofs.lemmas.Option.{same_Some as some_is, none-some as none_some}
use Rattle.pm_filing.proofs.HeldSets.{both_ways}
use Rattle.std.proofs.Common.{refl, sym, ap, subst, arith, inl, inr, ◌∙◌, ◌≡◌, ◌++◌, ◌∷◌, ◌&&◌, ◌||◌, ◌+◌, ◌≤◌, ℕ, suc, zero, List, [], Option, Some, None, Ok, Err, Bool, true, false, true≢false, Ordering, Less, Equal, Greater}
use Rattle.std.proofs.lemmas.Bool.{and_from, and_parts, leb-true, lt-ltb, not-true}
use Rattle.std.proofs.lemmas.List.{length-map}
use Rattle.std.specs.Cmp.Lexicographic.{slice_cmp}
use Rattle.std.specs.Fmt.{digits}
use Rattle.std.specs.List.{list_all, list_any}
use Rattle.std.specs.Option.{is_some, unwrap_or}
use Rattle.std.specs.Ordering.{match_ordering, nat_cmp}
use Rattle.std.specs.Prelude.{⊤, codes, flat_map, if◌then◌else◌, length, map, nat_eq, nat_le, nat_lt, not, option_and_then, option_map}
use Rattle.std.specs.Str.{bytes_eq}
use Rattle.std.proofs.lemmas.Slice.Eq.{bytes_eq-Decides}
use Rattle.pm_vector.proofs.Filters.{any_from, any_to, among_map, map_among}
use Rattle.pm_vector.specs.Numbers.{Ratio}
use Rattle.pm_vector.proofs.Lists.{Among, Contains_among, among_All, among_Contains, among_append, among_append_left, among_append_right, here, there}
use Rattle.pm_files.proofs.Ascending.{Ascends, IsBefore, contents_ascend, found_first, heading_ascends, key_is, none_at, put_ascends, same_members, values_ascend}
use Rattle.pm_files.proofs.Members.{no_programs, not_computed, others, past_names, past_programs, type_stands}
use Rattle.pm_filing.proofs.ReadBack.{values_back}
use Rattle.pm_files.specs.Files.{Mark, SavedFile, SavedProgram, contents, evidence_text, file_json, heading, is_in, is_other_name, is_stored, mark_json, marks_json, program_json, stored_keys, type_text, with_name, with_objective, with_programs, with_values}
use Rattle.pm_files.specs.ValueJson.{array_of, json_of}
use Rattle.pm_filing.proofs.Fitting.{states_n}
use Rattle.pm_filing.proofs.FlatLists.{among_flat}
use Rattle.pm_filing.proofs.ProgramsRead.{ProgramsAt, key_is_LP, none_there, programs_at, same_test, some_there}
use Rattle.pm_filing.specs.Filing.{name_told, objective_value}
use Rattle.pm_filing.proofs.HeldSets.{set_of-has}
use Rattle.pm_filing.proofs.SiteNames.{site_names, stored_sites}
use Rattle.pm_filing.proofs.SuitLaws.{all_at, from_file}
use Rattle.pm_filing.proofs.Wholeness.{OfMembers, all_among, of_members, still_there, values_append}
use Rattle.pm_filing.specs.FileParts.{Part, data_in, is_hidden, is_other_form, is_programs_key, is_read_over, no_type, objective_by, objective_in, objectives_from, objectives_of, or_else_fault, part_at, programs, parts_in, property_at, read_as, then_read, type_in, type_named, unknown_type, value}
use Rattle.pm_filing.specs.FileReadings.{ArePassed, Named, Passes, Reads, Seen, any_names_sites, cols_after, cols_of_value, finds_sites, fits_sites, is_of_sites, list_names_sites, named_values, seen, seen_in, seen_of, tied_values}
use Rattle.pm_filing.specs.Profiles.{Profile, are_different, each_read, evidence_of, file_in, file_with, if_different, is_profile_2, is_two, list_read, mark_of, mark_with, marks_in, names_held, objectives_in, profile_in, program_name_of, program_names, programs_by, programs_in, programs_with, same_label, stored_by, stored_property, values_in}
use Rattle.pm_filing.specs.Views.{Suits}
use Rattle.pm_filing.specs.Whole.{AreMarks, IsSameFile, IsWhole, all_values, are_of_different, are_of_table, is_mark, is_of_one, objective_of}
use Rattle.pm_json.specs.Readings.{Read, and_then, reading}
use Rattle.pm_object.proofs.Formed.{agrees_dimension, ambient_is, dimension_of}
use Rattle.pm_object.specs.State.{ambient_in, file_value, have_as_many_sites, is_polytope}
use Rattle.pm_object.specs.declared.held.Origin.TheVariants.{Given}
use Rattle.pm_props.proofs.NameLemmas.{named_in_exactly}
use Rattle.pm_props.proofs.Places.{same_property_is, same_property_refl}
use Rattle.pm_props.specs.NameWords.{is_name}
use Rattle.pm_props.specs.Names.{property_named_in}
use Rattle.pm_props.specs.Places.{same_property}
use Rattle.pm_props.specs.Properties.{has as has_property, is_ambient, is_of_edges, is_of_lattices, name_in, value_kind}
use Rattle.pm_props.specs.Sets.{has, set_of}
use Rattle.pm_object_type.specs.declared.object_type.ObjectType.{ObjectType}
use Rattle.pm_object_type.specs.declared.object_type.ObjectType.TheVariants.{Polytope, Cone, Fan}
use Rattle.pm_props.specs.declared.property.PropId.{PropId}
use Rattle.pm_props.specs.declared.property.PropId.TheVariants.{ConeAmbientDim, LinearObjective, SiteHeights, Sites}
use Rattle.pm_rules.specs.Words.{is_label}
use Rattle.pm_types.specs.Forms.{AreFractions, cols_in, is_formed, rows_in, stated_cols}
use Rattle.pm_types.specs.Values.{PropertyValue, matrix, sets, whole, truth, extended, edges, lattice, counts, finite, plus_infinity, minus_infinity}
use Rattle.serde_json.proofs.Views.{get_member-put, get_member-put_other}
use Rattle.serde_json.specs.Data.{Data, Items, Members, member, no_items, no_members, number, object, put, string, unsigned}
use Rattle.serde_json.specs.Find.{as_array, as_number, as_object, as_str, get, get_member}
use Rattle.serde_json.specs.View.{items_of}
use Rattle.serde_json.specs.Written.{compact_text}
use Rattle.std.proofs.Math.Bool.{and-false}

abbrev Values : Type 0
Values = List (PropId × PropertyValue)

abbrev Holds : PropId → PropertyValue → Values → Type 0
Holds p v vs = Among {X = PropId × PropertyValue} (p, v) vs

-- ---- what is read of members
abbrev values_read : PropId → Read PropertyValue → Values
values_read p (Ok v) = (p, v) ∷ []
values_read p (Err why) = []

abbrev value_by : Option PropId → Data → Values
value_by None d = []
value_by (Some p) d = values_read p (reading p d)

-- the value that stands at a key, if one does
abbrev value_at : ObjectType → List ℕ → Data → Values
value_at of k d = value_by (property_at of k d) d

abbrev as_parts : Values → List Part
as_parts vs = map (λ v. value v.0 v.1) vs

abbrev objectives_told : Read (List (Option PropertyValue)) → List Part
objectives_told (Ok vs) = programs vs ∷ []
objectives_told (Err why) = []

-- what is read at a key
abbrev parts_at : ObjectType → List ℕ → Data → List Part
parts_at of k d = if is_programs_key of k then objectives_told (objectives_of d) else as_parts (value_at of k d)

-- at the key stand a value or programs, or nothing, and it is not read over
record IsFine (of : ObjectType) (k : List ℕ) (d : Data) : Type 0 where
  parts : part_at of k d ≡ Ok (parts_at of k d)
  told : is_read_over of k d ≡ false

abbrev AreFine : ObjectType → Members → Type 0
AreFine of no_members = ⊤
AreFine of (member k d ms) = IsFine of k d × AreFine of ms

put_fine : (of : ObjectType) (k : List ℕ) (d : Data) (ms : Members) → IsFine of k d → AreFine of ms → AreFine of (put k d ms)
put_fine of k d no_members f a = (f, tt)
put_fine of k d (member l e ms) f a = by (slice_cmp nat_cmp k l) refl (put_fine of k d ms f a.1)
  where
    by : (o : Ordering) → slice_cmp nat_cmp k l ≡ o → AreFine of (put k d ms) → AreFine of (match_ordering o (member k d (member l e ms)) (member l d ms) (member l e (put k d ms)))
    by Less is later = (f, a)
    by Equal is later = (subst (λ z. IsFine of z d) (key_is k l is) f, a.1)
    by Greater is later = (a.0, later)

-- all values that stand in the members, in the order of their keys
abbrev told : ObjectType → Members → Values
told of no_members = []
told of (member k d ms) = value_at of k d ++ told of ms

-- all parts, in the order of their keys
abbrev parts_of : ObjectType → Members → List Part
parts_of of no_members = []
parts_of of (member k d ms) = parts_at of k d ++ parts_of of ms

parts_told : (of : ObjectType) (ms : Members) → AreFine of ms → parts_in of ms ≡ Ok (parts_of of ms)
parts_told of no_members a = refl
parts_told of (member k d ms) a = rw (a.0.parts, parts_told of ms a.1) refl

hidden_fine : (of : ObjectType) (k : List ℕ) (d : Data) → is_hidden k ≡ true → is_programs_key of k ≡ false → property_named_in of k ≡ None → IsFine of k d
hidden_fine of k d h p n = record { parts = rw (p, n) refl; told = rw h refl }

-- no value is written as an object
no_object : (p : PropId) (v : PropertyValue) → as_object (json_of p v) ≡ None
no_object LinearObjective (matrix n []) = refl
no_object LinearObjective (matrix n (r ∷ rows)) = refl
no_object p (matrix n []) = refl
no_object p (matrix n (r ∷ rows)) = refl
no_object p (sets rows n) = refl
no_object p (whole k) = refl
no_object p (truth b) = refl
no_object p (counts ks) = refl
no_object p (edges rows n) = refl
no_object p (lattice ranks) = refl
no_object p (extended (finite q)) = refl
no_object p (extended plus_infinity) = refl
no_object p (extended minus_infinity) = refl

same_form : (p : PropId) (v : PropertyValue) → is_other_form p (json_of p v) ≡ false
same_form p v = ap (λ (o : Option Members). is_some o && (is_of_edges (value_kind p) || is_of_lattices (value_kind p))) (no_object p v)

no_programs_key : (of : ObjectType) (p : PropId) → is_programs_key of (name_in of p) ≡ false
no_programs_key Polytope p = no_programs Polytope p
no_programs_key Cone p = refl
no_programs_key Fan p = refl

name_found : (of : ObjectType) (p : PropId) → has_property of p ≡ true → property_named_in of (name_in of p) ≡ Some p
name_found of p h = (named_in_exactly of (name_in of p) p).1 (h, refl)

value_fine : (of : ObjectType) (p : PropId) (v : PropertyValue) → has_property of p ≡ true → reading p (json_of p v) ≡ Ok v → IsFine of (name_in of p) (json_of p v)
value_fine of p v h r = record {
  parts = rw (no_programs_key of p, name_found of p h, same_form p v, r) refl;
  told = rw (name_found of p h, same_form p v) (and-false (not (is_hidden (name_in of p)) && not (is_programs_key of (name_in of p))));
}

programs_fine : (of : ObjectType) (d : Data) (vs : List (Option PropertyValue)) → is_programs_key of (codes "LP") ≡ true → objectives_of d ≡ Ok vs → IsFine of (codes "LP") d
programs_fine of d vs n is = record { parts = rw (n, is) refl; told = rw n refl }

values_fine : (of : ObjectType) (vs : Values) (ms : Members) → ((v : PropId × PropertyValue) → Among v vs → IsFine of (name_in of v.0) (json_of v.0 v.1)) → AreFine of ms → AreFine of (with_values of vs ms)
values_fine of [] ms f a = a
values_fine of (v ∷ vs) ms f a = values_fine of vs (put (name_in of v.0) (json_of v.0 v.1) ms) (λ w i. f w (there i)) (put_fine of (name_in of v.0) (json_of v.0 v.1) ms (f v here) a)

-- ---- the keys of the profile
type_unnamed : (of : ObjectType) → property_named_in of (codes "_type") ≡ None
type_unnamed Polytope = refl
type_unnamed Cone = refl
type_unnamed Fan = refl

profile_unnamed : (of : ObjectType) → property_named_in of (codes "_profile") ≡ None
profile_unnamed Polytope = refl
profile_unnamed Cone = refl
profile_unnamed Fan = refl

excluded_unnamed : (of : ObjectType) → property_named_in of (codes "_excluded") ≡ None
excluded_unnamed Polytope = refl
excluded_unnamed Cone = refl
excluded_unnamed Fan = refl

computed_unnamed : (of : ObjectType) → property_named_in of (codes "_computed") ≡ None
computed_unnamed Polytope = refl
computed_unnamed Cone = refl
computed_unnamed Fan = refl

programs_unnamed : (of : ObjectType) → property_named_in of (codes "LP") ≡ None
programs_unnamed Polytope = refl
programs_unnamed Cone = refl
programs_unnamed Fan = refl

abbrev no_key : (k : List ℕ) → bytes_eq k (codes "LP") ≡ false → (of : ObjectType) → is_programs_key of k ≡ false
no_key k h Polytope = h
no_key k h Cone = refl
no_key k h Fan = refl

heading_fine : (f : SavedFile) → AreFine f.of (heading f)
heading_fine f =
    let typed = put (codes "_type") (string (type_text f.of)) no_members in
    let profiled = put (codes "_profile") (number (unsigned 2)) typed in
    put_fine f.of (codes "_excluded") (marks_json f.failed) profiled (hidden_fine f.of (codes "_excluded") (marks_json f.failed) refl (no_key (codes "_excluded") refl f.of) (excluded_unnamed f.of))
    (put_fine f.of (codes "_profile") (number (unsigned 2)) typed (hidden_fine f.of (codes "_profile") (number (unsigned 2)) refl (no_key (codes "_profile") refl f.of) (profile_unnamed f.of))
    (put_fine f.of (codes "_type") (string (type_text f.of)) no_members (hidden_fine f.of (codes "_type") (string (type_text f.of)) refl (no_key (codes "_type") refl f.of) (type_unnamed f.of)) tt))

-- ---- where values stand
-- no value has a name that is no property's
unnamed : (of : ObjectType) (k : List ℕ) (vs : Values) → property_named_in of k ≡ None → are_of_table of vs ≡ true → list_all (λ w. is_other_name of k w.0) vs ≡ true
unnamed of k [] n t = refl
unnamed of k (w ∷ vs) n t =
    let b = and_parts (has_property of w.0) (are_of_table of vs) t in
    and_from (is_other_name of k w.0) (list_all (λ u. is_other_name of k u.0) vs) (by (bytes_eq k (name_in of w.0)) refl b.0) (unnamed of k vs n b.1)
  where
    by : (x : Bool) → bytes_eq k (name_in of w.0) ≡ x → has_property of w.0 ≡ true → not x ≡ true
    by false e h = refl
    by true e h = absurd (none_some w.0 (sym n ∙ (named_in_exactly of k w.0).1 (h, (bytes_eq-Decides k (name_in of w.0)).0 e)))

-- nor the name of a property of which there is none
unheld : (of : ObjectType) (p : PropId) (vs : Values) → has_property of p ≡ true → is_of_one vs p ≡ false → are_of_table of vs ≡ true → list_all (λ w. is_other_name of (name_in of p) w.0) vs ≡ true
unheld of p [] h n t = refl
unheld of p (w ∷ vs) h n t =
    let b = and_parts (has_property of w.0) (are_of_table of vs) t in
    let m = or_false (same_property p w.0) (is_of_one vs p) n in
    and_from (is_other_name of (name_in of p) w.0) (list_all (λ u. is_other_name of (name_in of p) u.0) vs) (by (bytes_eq (name_in of p) (name_in of w.0)) refl b.0 m.0) (unheld of p vs h m.1 b.1)
  where
    or_false : (a b : Bool) → (a || b) ≡ false → (a ≡ false) × (b ≡ false)
    or_false true b e = absurd (true≢false e)
    or_false false b e = (refl, e)

    by : (x : Bool) → bytes_eq (name_in of p) (name_in of w.0) ≡ x → has_property of w.0 ≡ true → same_property p w.0 ≡ false → not x ≡ true
    by false e k s = refl
    by true e k s =
        let same : p ≡ w.0 = some_is p w.0 (sym (name_found of p h) ∙ (named_in_exactly of (name_in of p) w.0).1 (k, (bytes_eq-Decides (name_in of p) (name_in of w.0)).0 e)) in
        absurd (true≢false (sym (subst (λ q. same_property p q ≡ true) same (same_property_refl p)) ∙ s))

stands : (of : ObjectType) (vs : Values) (p : PropId) (v : PropertyValue) (ms : Members) → has_property of p ≡ true → are_of_table of vs ≡ true → are_of_different vs ≡ true → Holds p v vs
    → get_member (name_in of p) (with_values of vs ms) ≡ Some (json_of p v)
stands of [] p v ms h t o i = elim i [ ]
stands of (w ∷ vs) p v ms h t o here =
    let b = and_parts (has_property of w.0) (are_of_table of vs) t in
    let d = and_parts (not (is_of_one vs w.0)) (are_of_different vs) o in
    others of (name_in of w.0) vs (put (name_in of w.0) (json_of w.0 w.1) ms) (unheld of w.0 vs b.0 (not-true (is_of_one vs w.0) d.0) b.1) ∙ get_member-put (name_in of w.0) (json_of w.0 w.1) ms
stands of (w ∷ vs) p v ms h t o (there i) =
    stands of vs p v (put (name_in of w.0) (json_of w.0 w.1) ms) h (and_parts (has_property of w.0) (are_of_table of vs) t).1 (and_parts (not (is_of_one vs w.0)) (are_of_different vs) o).1 i

-- ---- the values that are told
found_apart : (q k : List ℕ) (d e : Data) (ms : Members) → IsBefore k ms → Ascends ms → get_member q ms ≡ Some e → get_member q (member k d ms) ≡ Some e
found_apart q k d e ms b a h = by (slice_cmp nat_cmp q k) refl
  where
    by : (o : Ordering) → slice_cmp nat_cmp q k ≡ o → match_ordering o (get_member q ms) (Some d) (get_member q ms) ≡ Some e
    by Less is = h
    by Equal is = absurd (none_some e (sym (none_at k ms b a) ∙ ap (λ z. get_member z ms) (sym (key_is q k is)) ∙ h))
    by Greater is = h

record IsTold (of : ObjectType) (ms : Members) (p : PropId) (v : PropertyValue) : Type 0 where
  d : Data
  at : get_member (name_in of p) ms ≡ Some d
  read : reading p d ≡ Ok v
  table : has_property of p ≡ true

told_from : (of : ObjectType) (ms : Members) (p : PropId) (v : PropertyValue) → Ascends ms → Holds p v (told of ms) → IsTold of ms p v
told_from of no_members p v a i = elim i [ ]
told_from of (member k d ms) p v a i = elim (among_append (value_at of k d) (told of ms) i) [
  | inl j ↦ first (property_named_in of k) refl j
  | inr j ↦ later (told_from of ms p v a.1 j)
]
  where
    later : IsTold of ms p v → IsTold of (member k d ms) p v
    later t = record { d = t.d; at = found_apart (name_in of p) k d t.d ms a.0 a.1 t.at; read = t.read; table = t.table }

    read_first : (q : PropId) → property_named_in of k ≡ Some q → (r : Read PropertyValue) → reading q d ≡ r → Holds p v (values_read q r) → IsTold of (member k d ms) p v
    read_first q n (Err why) e j = elim j [ ]
    read_first q n (Ok w) e j = at_one j
      where
        is : (has_property of q ≡ true) × (k ≡ name_in of q)
        is = (named_in_exactly of k q).0 n

        told_one : IsTold of (member k d ms) q w
        told_one = record { d = d; at = subst (λ z. get_member z (member k d ms) ≡ Some d) is.1 (found_first k d ms); read = e; table = is.0 }

        same_pair : (x y : PropId × PropertyValue) → Among x (y ∷ []) → x ≡ y
        same_pair x y here = refl
        same_pair x y (there z) = elim z [ ]

        at_one : Holds p v ((q, w) ∷ []) → IsTold of (member k d ms) p v
        at_one z = subst (λ (x : PropId × PropertyValue). IsTold of (member k d ms) x.0 x.1) (sym (same_pair (p, v) (q, w) z)) told_one

    first : (n : Option PropId) → property_named_in of k ≡ n → Holds p v (value_by (read_as n d) d) → IsTold of (member k d ms) p v
    first None e j = elim j [ ]
    first (Some q) e j = formed (is_other_form q d) j
      where
        formed : (t : Bool) → Holds p v (value_by (if t then None else Some q) d) → IsTold of (member k d ms) p v
        formed true z = elim z [ ]
        formed false z = read_first q e (reading q d) refl z

told_to : (of : ObjectType) (ms : Members) (p : PropId) (v : PropertyValue) (d : Data) → get_member (name_in of p) ms ≡ Some d → has_property of p ≡ true → reading p d ≡ Ok v → is_other_form p d ≡ false → Holds p v (told of ms)
told_to of no_members p v d g h r o = absurd (none_some d g)
told_to of (member k e ms) p v d g h r o = by (slice_cmp nat_cmp (name_in of p) k) refl g (λ x. told_to of ms p v d x h r o)
  where
    by : (c : Ordering) → slice_cmp nat_cmp (name_in of p) k ≡ c → match_ordering c (get_member (name_in of p) ms) (Some e) (get_member (name_in of p) ms) ≡ Some d → (get_member (name_in of p) ms ≡ Some d → Holds p v (told of ms))
        → Holds p v (value_at of k e ++ told of ms)
    by Less is x rest = among_append_right (value_at of k e) (rest x)
    by Greater is x rest = among_append_right (value_at of k e) (rest x)
    by Equal is x rest =
        let same : d ≡ e = some_is d e (sym x) in
        let named : property_named_in of k ≡ Some p = ap (property_named_in of) (sym (key_is (name_in of p) k is)) ∙ name_found of p h in
        let here_is : value_at of k e ≡ (p, v) ∷ [] =
        ap (λ n. value_by (read_as n e) e) named ∙ ap (λ z. value_by (if is_other_form p z then None else Some p) z) (sym same) ∙ ap (λ t. value_by (if t then None else Some p) d) o ∙ ap (values_read p) r in
        among_append_left (told of ms) (subst (λ vs. Holds p v vs) (sym here_is) here)

values_of_parts : (vs : Values) → values_in (as_parts vs) ≡ vs
values_of_parts [] = refl
values_of_parts (v ∷ vs) = ap (λ l. v ∷ l) (values_of_parts vs)

-- the values of the parts are those that are told
values_at_key : (of : ObjectType) (k : List ℕ) (d : Data) → values_in (parts_at of k d) ≡ value_at of k d
values_at_key of k d = by (is_programs_key of k) refl
  where
    no_values : (r : Read (List (Option PropertyValue))) → values_in (objectives_told r) ≡ []
    no_values (Ok vs) = refl
    no_values (Err why) = refl

    by : (b : Bool) → is_programs_key of k ≡ b → values_in (if b then objectives_told (objectives_of d) else as_parts (value_at of k d)) ≡ value_at of k d
    by true e = no_values (objectives_of d) ∙ sym (ap (λ n. value_by (read_as n d) d) (ap (property_named_in of) (key_is_LP of k e) ∙ programs_unnamed of))
    by false e = values_of_parts (value_at of k d)

told_values : (of : ObjectType) (ms : Members) → values_in (parts_of of ms) ≡ told of ms
told_values of no_members = refl
told_values of (member k d ms) = values_append (parts_at of k d) (parts_of of ms) ∙ ap (λ vs. vs ++ values_in (parts_of of ms)) (values_at_key of k d) ∙ ap (λ vs. value_at of k d ++ vs) (told_values of ms)

-- ---- stored values
abbrev props_by : ℕ → Option PropId → List PropId → List PropId
props_by stored None ps = ps
props_by stored (Some p) ps = if has stored p then p ∷ ps else ps

-- the stored properties, in the order of their names
abbrev stored_props : ObjectType → ℕ → Members → List PropId
stored_props of stored no_members = []
stored_props of stored (member k d ms) = props_by stored (property_named_in of k) (stored_props of stored ms)

stored_read : (of : ObjectType) (stored held : ℕ) (ms : Members) → ((p : PropId) → has stored p ≡ true → has held p ≡ true)
    → each_read (stored_property of held) (items_of (map string (stored_keys of stored ms))) ≡ Some (stored_props of stored ms)
stored_read of stored held no_members f = refl
stored_read of stored held (member k d ms) f = by (property_named_in of k) refl (stored_read of stored held ms f)
  where
    by : (n : Option PropId) → property_named_in of k ≡ n → each_read (stored_property of held) (items_of (map string (stored_keys of stored ms))) ≡ Some (stored_props of stored ms)
        → each_read (stored_property of held) (items_of (map string (if is_in stored n then k ∷ stored_keys of stored ms else stored_keys of stored ms))) ≡ Some (props_by stored n (stored_props of stored ms))
    by None e rest = rest
    by (Some p) e rest = at (has stored p) refl
      where
        at : (t : Bool) → has stored p ≡ t → each_read (stored_property of held) (items_of (map string (if t then k ∷ stored_keys of stored ms else stored_keys of stored ms))) ≡ Some (if t then p ∷ stored_props of stored ms else stored_props of stored ms)
        at true s = rw (e, f p s, rest) refl
        at false s = rest

record IsStoredAt (of : ObjectType) (stored : ℕ) (ms : Members) (q : PropId) : Type 0 where
  kept : has stored q ≡ true
  there_is : is_some (get_member (name_in of q) ms) ≡ true

stored_from : (of : ObjectType) (stored : ℕ) (ms : Members) (q : PropId) → Among q (stored_props of stored ms) → IsStoredAt of stored ms q
stored_from of stored no_members q i = elim i [ ]
stored_from of stored (member k d ms) q i = by (property_named_in of k) refl i (λ j. let s = stored_from of stored ms q j in record { kept = s.kept; there_is = still_there (name_in of q) k d ms s.there_is })
  where
    at : (p : PropId) → property_named_in of k ≡ Some p → has stored p ≡ true → Among q (p ∷ stored_props of stored ms) → (Among q (stored_props of stored ms) → IsStoredAt of stored (member k d ms) q) → IsStoredAt of stored (member k d ms) q
    at p e s here rest = record { kept = s; there_is = subst (λ z. is_some (get_member z (member k d ms)) ≡ true) ((named_in_exactly of k p).0 e).1 (ap is_some (found_first k d ms)) }
    at p e s (there j) rest = rest j

    by : (n : Option PropId) → property_named_in of k ≡ n → Among q (props_by stored n (stored_props of stored ms)) → (Among q (stored_props of stored ms) → IsStoredAt of stored (member k d ms) q) → IsStoredAt of stored (member k d ms) q
    by None e j rest = rest j
    by (Some p) e j rest = kept (has stored p) refl j
      where
        kept : (t : Bool) → has stored p ≡ t → Among q (if t then p ∷ stored_props of stored ms else stored_props of stored ms) → IsStoredAt of stored (member k d ms) q
        kept true s z = at p e s z rest
        kept false s z = rest z

stored_differ : (of : ObjectType) (stored : ℕ) (ms : Members) → Ascends ms → are_different same_property (stored_props of stored ms) ≡ true
stored_differ of stored no_members a = refl
stored_differ of stored (member k d ms) a = by (property_named_in of k) refl (stored_differ of stored ms a.1)
  where
    new : (p : PropId) → property_named_in of k ≡ Some p → (t : Bool) → list_any (same_property p) (stored_props of stored ms) ≡ t → not t ≡ true
    new p e false s = refl
    new p e true s =
        let (q, i, same) = any_to (same_property p) (stored_props of stored ms) s in
        let st = stored_from of stored ms q i in
        let some_there : is_some (get_member k ms) ≡ true = subst (λ z. is_some (get_member z ms) ≡ true) (sym (((named_in_exactly of k p).0 e).1 ∙ ap (name_in of) (same_property_is p q same))) st.there_is in
        absurd (true≢false (sym some_there ∙ ap is_some (none_at k ms a.0 a.1)))

    by : (n : Option PropId) → property_named_in of k ≡ n → are_different same_property (stored_props of stored ms) ≡ true → are_different same_property (props_by stored n (stored_props of stored ms)) ≡ true
    by None e rest = rest
    by (Some p) e rest = kept (has stored p)
      where
        kept : (t : Bool) → are_different same_property (if t then p ∷ stored_props of stored ms else stored_props of stored ms) ≡ true
        kept true = and_from (not (list_any (same_property p) (stored_props of stored ms))) (are_different same_property (stored_props of stored ms)) (new p e (list_any (same_property p) (stored_props of stored ms)) refl) rest
        kept false = rest

stored_to : (of : ObjectType) (stored : ℕ) (ms : Members) (p : PropId) → has_property of p ≡ true → has stored p ≡ true → is_some (get_member (name_in of p) ms) ≡ true → Among p (stored_props of stored ms)
stored_to of stored no_members p h s g = absurd (true≢false (sym g))
stored_to of stored (member k d ms) p h s g = by (slice_cmp nat_cmp (name_in of p) k) refl g (λ x. stored_to of stored ms p h s x)
  where
    more : (n : Option PropId) → Among p (stored_props of stored ms) → Among p (props_by stored n (stored_props of stored ms))
    more None i = i
    more (Some q) i = kept (has stored q)
      where
        kept : (t : Bool) → Among p (if t then q ∷ stored_props of stored ms else stored_props of stored ms)
        kept true = there i
        kept false = i

    by : (c : Ordering) → slice_cmp nat_cmp (name_in of p) k ≡ c → is_some (match_ordering c (get_member (name_in of p) ms) (Some d) (get_member (name_in of p) ms)) ≡ true → (is_some (get_member (name_in of p) ms) ≡ true → Among p (stored_props of stored ms))
        → Among p (props_by stored (property_named_in of k) (stored_props of stored ms))
    by Less is x rest = more (property_named_in of k) (rest x)
    by Greater is x rest = more (property_named_in of k) (rest x)
    by Equal is x rest =
        let named : property_named_in of k ≡ Some p = ap (property_named_in of) (sym (key_is (name_in of p) k is)) ∙ name_found of p h in
        subst (λ n. Among p (props_by stored n (stored_props of stored ms))) (sym named) (subst (λ (t : Bool). Among p (if t then p ∷ stored_props of stored ms else stored_props of stored ms)) (sym s) here)

-- ---- marks
evidence_back : (k : ℕ) → (nat_le 1 k && nat_le k 5) ≡ true → evidence_of (evidence_text k) ≡ Some k
unfolding digits
evidence_back zero h = absurd (true≢false (sym h))
evidence_back (suc zero) h = refl
evidence_back (suc (suc zero)) h = refl
evidence_back (suc (suc (suc zero))) h = refl
evidence_back (suc (suc (suc (suc zero)))) h = refl
evidence_back (suc (suc (suc (suc (suc zero))))) h = refl
evidence_back (suc (suc (suc (suc (suc (suc k)))))) h = absurd (let l = leb-true (suc (suc (suc (suc (suc (suc k)))))) 5 (and_parts (nat_le 1 (suc (suc (suc (suc (suc (suc k))))))) (nat_le (suc (suc (suc (suc (suc (suc k)))))) 5) h).1 in omega arith)

mark_back : (m : Mark) → is_mark m ≡ true → mark_of (mark_json m) ≡ Some m
mark_back m h =
    let b = and_parts (is_label m.0) (nat_le 1 m.1 && nat_le m.1 5) h in
    ap (mark_with m.0) (evidence_back m.1 b.1) ∙ ap (λ (t : Bool). if t then Some m else None) b.0

marks_back : (ms : List Mark) → list_all is_mark ms ≡ true → each_read mark_of (items_of (map mark_json ms)) ≡ Some ms
marks_back [] h = refl
marks_back (m ∷ ms) h = let b = and_parts (is_mark m) (list_all is_mark ms) h in rw (mark_back m b.0, marks_back ms b.1) refl

-- ---- tests of columns
pub data IsKnown (n : ℕ) : Option ℕ → Type 0 where
  unknown : IsKnown n None
  known : IsKnown n (Some n)

value_tells : (of : ObjectType) (n : ℕ) (p : PropId) (v : PropertyValue) → Suits of n p v → IsKnown n (cols_of_value p v)
value_tells of n p v s = by (is_ambient p) refl
  where
    by : (t : Bool) → is_ambient p ≡ t → IsKnown n (if t then ambient_in (Some v) else (if nat_eq (stated_cols p v) 0 then None else Some (stated_cols p v)))
    by true e =
        let same : same_property ConeAmbientDim p ≡ true = sym (ambient_is p) ∙ e in
        let d = dimension_of v (subst (λ q. is_formed q v ≡ true) (sym (same_property_is ConeAmbientDim p same)) s.formed) in
        let n_is = agrees_dimension n d.n (file_value Given p v) same d.value s.columns in
        subst (IsKnown n) (sym (ap (λ (w : PropertyValue). ambient_in (Some w)) d.value ∙ ap Some n_is)) known
    by false e = at (nat_eq (stated_cols p v) 0) refl
      where
        at : (z : Bool) → nat_eq (stated_cols p v) 0 ≡ z → IsKnown n (if z then None else Some (stated_cols p v))
        at true k = unknown
        at false k = subst (λ m. IsKnown n (Some m)) (sym (states_n n (stated_cols p v) v (is_ambient p) e k s.columns)) known

passes : (of : ObjectType) (tied : List Named) (n : ℕ) (p : PropId) (v : PropertyValue) {c : Option ℕ} → Suits of n p v → fits_sites tied p v ≡ true → IsKnown n c → Passes of tied c p v
passes of tied n p v s f unknown = record { columns = refl; sites = f; rows = s.rows; primitive = s.primitive }
passes of tied n p v s f known = record { columns = s.columns; sites = f; rows = s.rows; primitive = s.primitive }

known_after : (of : ObjectType) (n : ℕ) (p : PropId) (v : PropertyValue) {c : Option ℕ} → Suits of n p v → IsKnown n c → IsKnown n (cols_after c p v)
known_after of n p v s unknown = value_tells of n p v s
known_after of n p v s known = known

pub all_pass : (of : ObjectType) (tied : List Named) (n : ℕ) (xs : List Named) (c : Option ℕ) → ((x : Named) → Among x xs → Suits of n x.property x.value) → ((x : Named) → Among x xs → fits_sites tied x.property x.value ≡ true) → IsKnown n c → ArePassed of tied c xs
all_pass of tied n [] c f s k = tt
all_pass of tied n (x ∷ xs) c f s k = (passes of tied n x.property x.value (f x here) (s x here) k, all_pass of tied n xs (cols_after c x.property x.value) (λ y i. f y (there i)) (λ y i. s y (there i)) (known_after of n x.property x.value (f x here) k))

-- ---- a program
-- a program that is written: it has a name that it may have, its objective is one, and its marks are such
record IsProgram (p : SavedProgram) : Type 0 where
  word : is_name (name_told p) ≡ true
  objective : (rows : List (List Ratio)) → p.objective ≡ Some rows → (is_formed LinearObjective (objective_value rows) ≡ true) × AreFractions (objective_value rows)
  marks : AreMarks p.failed

abbrev objective_read : SavedProgram → Option PropertyValue
objective_read p = option_map objective_value p.objective

objective_back : (p : SavedProgram) → IsProgram p → objective_in (program_json p) ≡ Ok (objective_read p)
objective_back p is = by p.name p.objective is.objective
  where
    by : (name : Option (List ℕ)) (o : Option (List (List Ratio))) → ((rows : List (List Ratio)) → o ≡ Some rows → (is_formed LinearObjective (objective_value rows) ≡ true) × AreFractions (objective_value rows))
        → objective_by (get (codes "LINEAR_OBJECTIVE") (object (with_objective o (with_name name (put (codes "_excluded") (marks_json p.failed) no_members))))) ≡ Ok (option_map objective_value o)
    by None None f = refl
    by (Some name) None f = refl
    by None (Some rows) f = let (form, fractions) = f rows refl in ap (λ r. and_then r (λ v. Ok (Some v))) (values_back LinearObjective (objective_value rows) form fractions)
    by (Some name) (Some rows) f = let (form, fractions) = f rows refl in ap (λ r. and_then r (λ v. Ok (Some v))) (values_back LinearObjective (objective_value rows) form fractions)

objectives_back : (k : ℕ) (ps : List SavedProgram) → ((p : SavedProgram) → Among p ps → IsProgram p) → k + length ps ≤ 4 → objectives_from k (items_of (map program_json ps)) ≡ Ok (map objective_read ps)
objectives_back k [] f l = refl
objectives_back k (p ∷ ps) f l =
    let room : nat_lt k 4 ≡ true = lt-ltb k 4 (omega (arith, l)) in
    rw (room, objective_back p (f p here), objectives_back (suc k) ps (λ q i. f q (there i)) (omega (arith, l))) refl

-- marks are read back
marks_read : (ms : List Mark) → AreMarks ms → list_read same_label mark_of (Some (marks_json ms)) ≡ Some ms
marks_read ms a =
    ap (λ r. option_and_then (if_different same_label) r) (marks_back ms a.marks)
    ∙ ap (λ (t : Bool). if t then Some ms else None) a.labels

program_marks : (p : SavedProgram) → IsProgram p → marks_in (program_json p) ≡ Some p.failed
program_marks p is = by p.name p.objective ∙ marks_read p.failed is.marks
  where
    by : (name : Option (List ℕ)) (o : Option (List (List Ratio)))
        → list_read same_label mark_of (get (codes "_excluded") (object (with_objective o (with_name name (put (codes "_excluded") (marks_json p.failed) no_members))))) ≡ list_read same_label mark_of (Some (marks_json p.failed))
    by None None = refl
    by (Some name) None = refl
    by None (Some rows) = refl
    by (Some name) (Some rows) = refl

program_name : (p : SavedProgram) → IsProgram p → program_name_of (program_json p) ≡ Some (name_told p)
program_name p is = by p.name p.objective is.word
  where
    by : (name : Option (List ℕ)) (o : Option (List (List Ratio))) → is_name (unwrap_or name []) ≡ true
        → program_name_of (object (with_objective o (with_name name (put (codes "_excluded") (marks_json p.failed) no_members)))) ≡ Some (unwrap_or name [])
    by None o h = absurd (true≢false (sym h))
    by (Some name) None h = ap (λ (t : Bool). if t then Some name else None) h
    by (Some name) (Some rows) h = ap (λ (t : Bool). if t then Some name else None) h

marks_each : (ps : List SavedProgram) → ((p : SavedProgram) → Among p ps → IsProgram p) → each_read marks_in (items_of (map program_json ps)) ≡ Some (map (λ p. p.failed) ps)
marks_each [] f = refl
marks_each (p ∷ ps) f = rw (program_marks p (f p here), marks_each ps (λ q i. f q (there i))) refl

names_each : (ps : List SavedProgram) → ((p : SavedProgram) → Among p ps → IsProgram p) → each_read program_name_of (items_of (map program_json ps)) ≡ Some (map name_told ps)
names_each [] f = refl
names_each (p ∷ ps) f = rw (program_name p (f p here), names_each ps (λ q i. f q (there i))) refl

-- a program again, of its name, its objective and its marks
program_again : (p : SavedProgram) → IsProgram p → record { name = Some (name_told p); objective = option_map rows_in (objective_read p); failed = p.failed } ≡ p
program_again p is = ap (λ (n : Option (List ℕ)). record { name = n; objective = option_map rows_in (objective_read p); failed = p.failed }) (named p.name is.word) ∙ ap (λ (o : Option (List (List Ratio))). record { name = p.name; objective = o; failed = p.failed }) (rows p.objective)
  where
    named : (name : Option (List ℕ)) → is_name (unwrap_or name []) ≡ true → Some (unwrap_or name []) ≡ name
    named None h = absurd (true≢false (sym h))
    named (Some name) h = refl

    rows : (o : Option (List (List Ratio))) → option_map rows_in (option_map objective_value o) ≡ o
    rows None = refl
    rows (Some rs) = refl

programs_again : (ps : List SavedProgram) → ((p : SavedProgram) → Among p ps → IsProgram p) → programs_with (map objective_read ps) (map name_told ps) (map (λ p. p.failed) ps) ≡ ps
programs_again [] f = refl
programs_again (p ∷ ps) f = ap (λ q. q ∷ programs_with (map objective_read ps) (map name_told ps) (map (λ p. p.failed) ps)) (program_again p (f p here)) ∙ ap (λ qs. p ∷ qs) (programs_again ps (λ q i. f q (there i)))

-- ---- the keys of a file
abbrev file_members : SavedFile → Members
file_members f = put (codes "_computed") (array_of (map string (stored_keys f.of f.stored (contents f)))) (contents f)

-- what stands under a key that is no property's
pub under_key : (f : SavedFile) (k : List ℕ) → are_of_table f.of f.values ≡ true → property_named_in f.of k ≡ None → bytes_eq k (codes "_computed") ≡ false → bytes_eq k (codes "LP") ≡ false → get_member k (file_members f) ≡ get_member k (heading f)
under_key f k table n c l =
    past_names k f c ∙ past_programs k f.programs (with_values f.of f.values (heading f)) l ∙ others f.of k f.values (heading f) (unnamed f.of k f.values n table)

-- under the key of programs they stand, where there are such
abbrev programs_there : List SavedProgram → Option Data
programs_there [] = None
programs_there (p ∷ ps) = Some (array_of (map program_json (p ∷ ps)))

programs_stand : (f : SavedFile) → are_of_table f.of f.values ≡ true → get_member (codes "LP") (file_members f) ≡ programs_there f.programs
programs_stand f table = past_names (codes "LP") f refl ∙ by f.programs
  where
    by : (ps : List SavedProgram) → get_member (codes "LP") (with_programs ps (with_values f.of f.values (heading f))) ≡ programs_there ps
    by [] = others f.of (codes "LP") f.values (heading f) (unnamed f.of (codes "LP") f.values (programs_unnamed f.of) table)
    by (p ∷ ps) = get_member-put (codes "LP") (array_of (map program_json (p ∷ ps))) (with_values f.of f.values (heading f))

-- each program of a whole file is one
each_program : (f : SavedFile) → IsWhole f → (p : SavedProgram) → Among p f.programs → IsProgram p
each_program f w p i = record {
  word = all_at is_name (map name_told f.programs) w.programs.words (among_map name_told i);
  objective = λ rows e.
      let v : Among {X = PropId × PropertyValue} (LinearObjective, objective_value rows) (objective_of p.objective) = subst (λ (o : Option (List (List Ratio))). Among {X = PropId × PropertyValue} (LinearObjective, objective_value rows) (objective_of o)) (sym e) here in
      let all : Among {X = PropId × PropertyValue} (LinearObjective, objective_value rows) (all_values f) = among_append_right f.values (among_flat (λ (q : SavedProgram). objective_of q.objective) i v) in
      ((among_All (λ (u : PropId × PropertyValue). Suits f.of w.suit.0 u.0 u.1) all w.suit.1).formed, among_All (λ (u : PropId × PropertyValue). AreFractions u.1) all w.entries);
  marks = among_All (λ (q : SavedProgram). AreMarks q.failed) i w.marks_of_programs;
}

few_names : (f : SavedFile) → IsWhole f → length f.programs ≤ 4
few_names f w = let same = length-map f.programs name_told in let few = leb-true (length (map name_told f.programs)) 4 w.programs.few in omega (arith, same, few)

has_key : (f : SavedFile) (p : SavedProgram) (ps : List SavedProgram) → IsWhole f → f.programs ≡ p ∷ ps → is_programs_key f.of (codes "LP") ≡ true
has_key f p ps w e = by f.of (w.programs.polytope (some_there_are (length (map name_told f.programs)) (ap (λ qs. length (map name_told qs)) e)))
  where
    some_there_are : (n : ℕ) → n ≡ suc (length (map name_told ps)) → nat_lt 0 n ≡ true
    some_there_are n h = grind (arith, h)

    by : (of : ObjectType) → is_polytope of ≡ true → is_programs_key of (codes "LP") ≡ true
    by Polytope h = refl
    by Cone h = absurd (true≢false (sym h))
    by Fan h = absurd (true≢false (sym h))

-- the programs are read
programs_read : (f : SavedFile) (p : SavedProgram) (ps : List SavedProgram) → IsWhole f → f.programs ≡ p ∷ ps → objectives_of (array_of (map program_json (p ∷ ps))) ≡ Ok (map objective_read (p ∷ ps))
programs_read f p ps w e =
    let most : length (p ∷ ps) ≤ 4 = subst (λ (qs : List SavedProgram). length qs ≤ 4) e (few_names f w) in
    let few : 0 + length (p ∷ ps) ≤ 4 = omega (arith, most) in
    objectives_back 0 (p ∷ ps) (λ q i. each_program f w q (subst (λ qs. Among q qs) (sym e) i)) few

-- no property has the name of a key of the profile
heading_lacks : (f : SavedFile) (p : PropId) → has_property f.of p ≡ true → get_member (name_in f.of p) (heading f) ≡ None
heading_lacks f p h =
    let typed = put (codes "_type") (string (type_text f.of)) no_members in
    let profiled = put (codes "_profile") (number (unsigned 2)) typed in
    get_member-put_other (name_in f.of p) (codes "_excluded") (marks_json f.failed) profiled (apart (codes "_excluded") (excluded_unnamed f.of))
    ∙ get_member-put_other (name_in f.of p) (codes "_profile") (number (unsigned 2)) typed (apart (codes "_profile") (profile_unnamed f.of))
    ∙ get_member-put_other (name_in f.of p) (codes "_type") (string (type_text f.of)) no_members (apart (codes "_type") (type_unnamed f.of))
  where
    apart : (k : List ℕ) → property_named_in f.of k ≡ None → name_in f.of p ≡ k → ⊥
    apart k n e = none_some p (sym n ∙ ap (property_named_in f.of) (sym e) ∙ name_found f.of p h)

-- what stands under the name of a property
under_name : (f : SavedFile) (p : PropId) → get_member (name_in f.of p) (file_members f) ≡ get_member (name_in f.of p) (with_values f.of f.values (heading f))
under_name f p = past_names (name_in f.of p) f (not_computed f.of p) ∙ past_programs (name_in f.of p) f.programs (with_values f.of f.values (heading f)) (no_programs f.of p)

value_stands : (f : SavedFile) (v : PropId × PropertyValue) → IsWhole f → Among v f.values → get_member (name_in f.of v.0) (file_members f) ≡ Some (json_of v.0 v.1)
value_stands f v w i = under_name f v.0 ∙ stands f.of f.values v.0 v.1 (heading f) (all_at (λ (u : PropId × PropertyValue). has_property f.of u.0) f.values w.table i) w.table w.once i

value_back : (f : SavedFile) (v : PropId × PropertyValue) → IsWhole f → Among v f.values → reading v.0 (json_of v.0 v.1) ≡ Ok v.1
value_back f v w i =
    let all : Among v (all_values f) = among_append_left (flat_map (λ (p : SavedProgram). objective_of p.objective) f.programs) i in
    let suits = among_All (λ (u : PropId × PropertyValue). Suits f.of w.suit.0 u.0 u.1) all w.suit.1 in
    values_back v.0 v.1 suits.formed (among_All (λ (u : PropId × PropertyValue). AreFractions u.1) all w.entries)

file_fine : (f : SavedFile) → IsWhole f → AreFine f.of (file_members f)
file_fine f w =
    let keys = array_of (map string (stored_keys f.of f.stored (contents f))) in
    put_fine f.of (codes "_computed") keys (contents f) (hidden_fine f.of (codes "_computed") keys refl (no_key (codes "_computed") refl f.of) (computed_unnamed f.of)) (by f.programs refl)
  where
    values : AreFine f.of (with_values f.of f.values (heading f))
    values = values_fine f.of f.values (heading f) (λ v i. value_fine f.of v.0 v.1 (all_at (λ (u : PropId × PropertyValue). has_property f.of u.0) f.values w.table i) (value_back f v w i)) (heading_fine f)

    by : (ps : List SavedProgram) → f.programs ≡ ps → AreFine f.of (with_programs ps (with_values f.of f.values (heading f)))
    by [] e = values
    by (p ∷ ps) e =
        let d = array_of (map program_json (p ∷ ps)) in
        put_fine f.of (codes "LP") d (with_values f.of f.values (heading f)) (programs_fine f.of d (map objective_read (p ∷ ps)) (has_key f p ps w e) (programs_read f p ps w e)) values

file_ascends : (f : SavedFile) → Ascends (file_members f)
file_ascends f = put_ascends (codes "_computed") (array_of (map string (stored_keys f.of f.stored (contents f)))) (contents f) (contents_ascend f)

-- ---- the values that are read are those of the file
in_told : (f : SavedFile) (v : PropId × PropertyValue) → IsWhole f → Among v f.values → Among v (told f.of (file_members f))
in_told f v w i =
    told_to f.of (file_members f) v.0 v.1 (json_of v.0 v.1) (value_stands f v w i) (all_at (λ (u : PropId × PropertyValue). has_property f.of u.0) f.values w.table i) (value_back f v w i) (same_form v.0 v.1)

value_ok_is : (a b : PropertyValue) (r : Read PropertyValue) → r ≡ Ok a → r ≡ Ok b → a ≡ b
value_ok_is a b r h k = ap (or_that a) (sym h ∙ k)
  where
    or_that : PropertyValue → Read PropertyValue → PropertyValue
    or_that x (Ok y) = y
    or_that x (Err why) = x

told_in : (f : SavedFile) (p : PropId) (v : PropertyValue) → IsWhole f → Holds p v (told f.of (file_members f)) → Holds p v f.values
told_in f p v w i = by (is_of_one f.values p) refl
  where
    t : IsTold f.of (file_members f) p v
    t = told_from f.of (file_members f) p v (file_ascends f) i

    by : (b : Bool) → is_of_one f.values p ≡ b → Holds p v f.values
    by true e =
        let (u, j, same) = any_to (λ (x : PropId × PropertyValue). same_property p x.0) f.values e in
        let is : p ≡ u.0 = same_property_is p u.0 same in
        let written : t.d ≡ json_of u.0 u.1 = some_is t.d (json_of u.0 u.1) (sym t.at ∙ ap (λ q. get_member (name_in f.of q) (file_members f)) is ∙ value_stands f u w j) in
        let back : v ≡ u.1 = value_ok_is v u.1 (reading p t.d) t.read (ap (λ q. reading q t.d) is ∙ ap (reading u.0) written ∙ value_back f u w j) in
        subst (λ q. Holds q v f.values) (sym is) (subst (λ x. Holds u.0 x f.values) (sym back) j)
    by false e =
        absurd (none_some t.d (sym (heading_lacks f p t.table) ∙ sym (others f.of (name_in f.of p) f.values (heading f) (unheld f.of p f.values t.table e w.table)) ∙ sym (under_name f p) ∙ t.at))

-- ---- the profile
stored_told : (f : SavedFile) → IsWhole f → (p : PropId) → has f.stored p ≡ true → has (names_held (parts_of f.of (file_members f))) p ≡ true
stored_told f w p s =
    let vs = told f.of (file_members f) in
    let (u, j, same) = any_to (λ (x : PropId × PropertyValue). same_property p x.0) f.values (w.stored p s) in
    ap (λ xs. has (set_of (map (λ (x : PropId × PropertyValue). x.0) xs)) p) (told_values f.of (file_members f))
    ∙ set_of-has (map (λ x. x.0) vs) p
    ∙ any_from (λ q. same_property q p) (among_map (λ (x : PropId × PropertyValue). x.0) (in_told f u w j)) (subst (λ q. same_property q p ≡ true) (same_property_is p u.0 same) (same_property_refl p))

abbrev stored_of : SavedFile → List PropId
stored_of f = stored_props f.of f.stored (contents f)

stored_is : (f : SavedFile) → IsWhole f → stored_by f.of (names_held (parts_of f.of (file_members f))) (get (codes "_computed") (file_json f)) ≡ Some (set_of (stored_of f))
stored_is f w =
    let held = names_held (parts_of f.of (file_members f)) in
    ap (stored_by f.of held) (get_member-put (codes "_computed") (array_of (map string (stored_keys f.of f.stored (contents f)))) (contents f))
    ∙ ap (λ r. option_map set_of (option_and_then (if_different same_property) r)) (stored_read f.of f.stored held (contents f) (stored_told f w))
    ∙ ap (λ (t : Bool). option_map set_of (if t then Some (stored_of f) else None)) (stored_differ f.of f.stored (contents f) (contents_ascend f))

stored_same : (f : SavedFile) → IsWhole f → (p : PropId) → has (set_of (stored_of f)) p ≡ has f.stored p
stored_same f w p = set_of-has (stored_of f) p ∙ both_ways (list_any (λ q. same_property q p) (stored_of f)) (has f.stored p) to from
  where
    to : list_any (λ q. same_property q p) (stored_of f) ≡ true → has f.stored p ≡ true
    to e = let (q, i, same) = any_to (λ (r : PropId). same_property r p) (stored_of f) e in subst (λ r. has f.stored r ≡ true) (same_property_is q p same) (stored_from f.of f.stored (contents f) q i).kept

    from : has f.stored p ≡ true → list_any (λ q. same_property q p) (stored_of f) ≡ true
    from s =
        let (u, j, same) = any_to (λ (x : PropId × PropertyValue). same_property p x.0) f.values (w.stored p s) in
        let is : p ≡ u.0 = same_property_is p u.0 same in
        let table : has_property f.of p ≡ true = subst (λ q. has_property f.of q ≡ true) (sym is) (all_at (λ (x : PropId × PropertyValue). has_property f.of x.0) f.values w.table j) in
        let found : is_some (get_member (name_in f.of p) (contents f)) ≡ true =
        ap is_some (ap (λ q. get_member (name_in f.of q) (contents f)) is ∙ sym (past_names (name_in f.of u.0) f (not_computed f.of u.0)) ∙ value_stands f u w j) in
        any_from (λ q. same_property q p) (stored_to f.of f.stored (contents f) p table s found) (same_property_refl p)

marks_are : (f : SavedFile) → IsWhole f → marks_in (file_json f) ≡ Some f.failed
marks_are f w =
    ap (list_read same_label mark_of) (under_key f (codes "_excluded") w.table (excluded_unnamed f.of) refl refl ∙ get_member-put (codes "_excluded") (marks_json f.failed) (put (codes "_profile") (number (unsigned 2)) (put (codes "_type") (string (type_text f.of)) no_members)))
    ∙ marks_read f.failed w.marks

is_newer : (f : SavedFile) → IsWhole f → is_profile_2 (file_json f) ≡ true
is_newer f w = ap (λ o. is_two (option_and_then as_number o)) (under_key f (codes "_profile") w.table (profile_unnamed f.of) refl refl)

abbrev programs_of_file : SavedFile → Items
programs_of_file f = items_of (map program_json f.programs)

programs_are_in : (f : SavedFile) → IsWhole f → programs_in f.of (file_json f) ≡ programs_of_file f
programs_are_in f w = ap (λ o. if is_programs_key f.of (codes "LP") then programs_by o else no_items) (programs_stand f w.table) ∙ by f.programs refl
  where
    nothing : (b : Bool) → (if b then no_items else no_items) ≡ no_items
    nothing true = refl
    nothing false = refl

    by : (ps : List SavedProgram) → f.programs ≡ ps → (if is_programs_key f.of (codes "LP") then programs_by (programs_there ps) else no_items) ≡ items_of (map program_json ps)
    by [] e = nothing (is_programs_key f.of (codes "LP"))
    by (p ∷ ps) e = ap (λ b. if b then programs_by (programs_there (p ∷ ps)) else no_items) (has_key f p ps w e)

names_are : (f : SavedFile) → IsWhole f → program_names (programs_of_file f) ≡ Some (map name_told f.programs)
names_are f w =
    ap (λ r. option_and_then (if_different bytes_eq) r) (names_each f.programs (each_program f w))
    ∙ ap (λ (t : Bool). if t then Some (map name_told f.programs) else None) (same_test (map name_told f.programs) ∙ w.programs.different)

abbrev profile_of : SavedFile → Profile
profile_of f = record { stored = set_of (stored_of f); failed = f.failed; names = map name_told f.programs; marks = map (λ p. p.failed) f.programs }

profile_is : (f : SavedFile) → IsWhole f → profile_in f.of (names_held (parts_of f.of (file_members f))) (file_json f) (programs_of_file f) ≡ Ok (profile_of f)
profile_is f w = rw (is_newer f w, stored_is f w, marks_are f w, marks_each f.programs (each_program f w), names_are f w) refl

-- the file that is read
abbrev file_again : SavedFile → SavedFile
file_again f = file_with f.of (file_json f) (parts_of f.of (file_members f)) (profile_of f)

file_is : (f : SavedFile) → IsWhole f → file_in f.of (file_json f) (parts_of f.of (file_members f)) ≡ Ok (file_again f)
file_is f w =
    let parts = parts_of f.of (file_members f) in
    ap (λ ds. then_read (profile_in f.of (names_held parts) (file_json f) ds) (λ profile. Ok (file_with f.of (file_json f) parts profile))) (programs_are_in f w)
    ∙ ap (λ r. then_read r (λ profile. Ok (file_with f.of (file_json f) parts profile))) (profile_is f w)

-- the objectives that are read are those of the programs
objectives_are : (f : SavedFile) → IsWhole f → objectives_in (parts_of f.of (file_members f)) ≡ map objective_read f.programs
objectives_are f w = by f.programs refl
  where
    at : ProgramsAt f.of (get_member (codes "LP") (file_members f)) (objectives_in (parts_of f.of (file_members f)))
    at = programs_at f.of (file_members f) (parts_of f.of (file_members f)) (file_ascends f) (parts_told f.of (file_members f) (file_fine f w))

    by : (ps : List SavedProgram) → f.programs ≡ ps → objectives_in (parts_of f.of (file_members f)) ≡ map objective_read ps
    by [] e = none_there f.of at (programs_stand f w.table ∙ ap programs_there e)
    by (p ∷ ps) e = some_there f.of (array_of (map program_json (p ∷ ps))) (map objective_read (p ∷ ps)) at (programs_stand f w.table ∙ ap programs_there e) (has_key f p ps w e) (programs_read f p ps w e)

same_programs : (f : SavedFile) → IsWhole f → (file_again f).programs ≡ f.programs
same_programs f w = ap (λ vs. programs_with vs (map name_told f.programs) (map (λ p. p.failed) f.programs)) (objectives_are f w) ∙ programs_again f.programs (each_program f w)

-- ---- it is written as the same bytes
get_same : (of : ObjectType) (vs ws : Values) (ms : Members) → are_of_table of vs ≡ true → are_of_table of ws ≡ true → are_of_different vs ≡ true → are_of_different ws ≡ true
    → ((v : PropId × PropertyValue) → Among v vs → Among v ws) → ((v : PropId × PropertyValue) → Among v ws → Among v vs) → (k : List ℕ) → get_member k (with_values of vs ms) ≡ get_member k (with_values of ws ms)
get_same of vs ws ms tv tw ov ow to from k = by (property_named_in of k) refl
  where
    one : (xs ys : Values) (p : PropId) → ((v : PropId × PropertyValue) → Among v xs → Among v ys) → is_of_one ys p ≡ false → (b : Bool) → is_of_one xs p ≡ b → b ≡ false
    one xs ys p f none false e = refl
    one xs ys p f none true e =
        let (u, j, same) = any_to (λ (x : PropId × PropertyValue). same_property p x.0) xs e in
        absurd (true≢false (sym (any_from (λ (x : PropId × PropertyValue). same_property p x.0) (f u j) same) ∙ none))

    at : (p : PropId) → has_property of p ≡ true → (b : Bool) → is_of_one vs p ≡ b → get_member (name_in of p) (with_values of vs ms) ≡ get_member (name_in of p) (with_values of ws ms)
    at p h true e =
        let (u, j, same) = any_to (λ (x : PropId × PropertyValue). same_property p x.0) vs e in
        let is : p ≡ u.0 = same_property_is p u.0 same in
        let table : has_property of u.0 ≡ true = subst (λ q. has_property of q ≡ true) is h in
        ap (λ q. get_member (name_in of q) (with_values of vs ms)) is ∙ stands of vs u.0 u.1 ms table tv ov j ∙ sym (stands of ws u.0 u.1 ms table tw ow (to u j)) ∙ ap (λ q. get_member (name_in of q) (with_values of ws ms)) (sym is)
    at p h false e =
        others of (name_in of p) vs ms (unheld of p vs h e tv) ∙ sym (others of (name_in of p) ws ms (unheld of p ws h (lack (is_of_one ws p) refl) tw))
      where
        lack : (b : Bool) → is_of_one ws p ≡ b → is_of_one ws p ≡ false
        lack b s = s ∙ one ws vs p from e b s

    by : (n : Option PropId) → property_named_in of k ≡ n → get_member k (with_values of vs ms) ≡ get_member k (with_values of ws ms)
    by None e = others of k vs ms (unnamed of k vs e tv) ∙ sym (others of k ws ms (unnamed of k ws e tw))
    by (Some p) e =
        let is = (named_in_exactly of k p).0 e in
        ap (λ q. get_member q (with_values of vs ms)) is.1 ∙ at p is.0 (is_of_one vs p) refl ∙ ap (λ q. get_member q (with_values of ws ms)) (sym is.1)

pub keys_same : (of : ObjectType) (s t : ℕ) (ms : Members) → ((p : PropId) → has s p ≡ has t p) → stored_keys of s ms ≡ stored_keys of t ms
keys_same of s t no_members h = refl
keys_same of s t (member k d ms) h = ap (λ b. if b then k ∷ stored_keys of s ms else stored_keys of s ms) (by (property_named_in of k)) ∙ ap (λ ks. if is_stored of t k then k ∷ ks else ks) (keys_same of s t ms h)
  where
    by : (n : Option PropId) → is_in s n ≡ is_in t n
    by None = refl
    by (Some p) = h p

members_same : (f : SavedFile) → IsWhole f → file_members (file_again f) ≡ file_members f
members_same f w =
    let g = file_again f in
    let parts = parts_of f.of (file_members f) in
    let vs = told f.of (file_members f) in
    let m : OfMembers f.of (file_members f) (values_in parts) = of_members f.of (file_members f) parts (file_ascends f) (parts_told f.of (file_members f) (file_fine f w)) in
    let table : are_of_table f.of vs ≡ true = subst (λ xs. are_of_table f.of xs ≡ true) (told_values f.of (file_members f)) m.table in
    let once : are_of_different vs ≡ true = subst (λ xs. are_of_different xs ≡ true) (told_values f.of (file_members f)) m.once in
    let values : with_values f.of vs (heading f) ≡ with_values f.of f.values (heading f) =
    same_members (with_values f.of vs (heading f)) (with_values f.of f.values (heading f)) (values_ascend f.of vs (heading f) (heading_ascends f)) (values_ascend f.of f.values (heading f) (heading_ascends f))
    (get_same f.of vs f.values (heading f) table w.table once w.once (λ v i. told_in f v.0 v.1 w i) (λ v i. in_told f v w i)) in
    let all : contents g ≡ contents f =
    ap (λ ps. with_programs ps (with_values f.of (values_in parts) (heading f))) (same_programs f w)
    ∙ ap (λ xs. with_programs f.programs (with_values f.of xs (heading f))) (told_values f.of (file_members f))
    ∙ ap (with_programs f.programs) values in
    ap (λ ms. put (codes "_computed") (array_of (map string (stored_keys f.of (set_of (stored_of f)) ms))) ms) all
    ∙ ap (λ ks. put (codes "_computed") (array_of (map string ks)) (contents f)) (keys_same f.of (set_of (stored_of f)) f.stored (contents f) (stored_same f w))

-- ---- the whole
type_back : (of : ObjectType) → type_named (type_text of) ≡ Some of
type_back Polytope = refl
type_back Cone = refl
type_back Fan = refl

type_is : (f : SavedFile) → type_in (file_json f) ≡ Ok f.of
type_is f = ap (λ o. then_read (or_else_fault no_type (option_and_then as_str o)) (λ text. or_else_fault unknown_type (type_named text))) (type_stands f) ∙ ap (or_else_fault unknown_type) (type_back f.of)

-- each value that is tested suits the column count of the file
each_suits : (f : SavedFile) (w : IsWhole f) → (x : Named) → Among x (named_values f.of (parts_of f.of (file_members f))) → Suits f.of w.suit.0 x.property x.value
each_suits f w x i = elim (from_file f.of (parts_of f.of (file_members f)) x i) [
  | inl j ↦
      let own = told_in f x.property x.value w (subst (λ xs. Among {X = PropId × PropertyValue} (x.property, x.value) xs) (told_values f.of (file_members f)) j) in
      at (x.property, x.value) (among_append_left (flat_map (λ (p : SavedProgram). objective_of p.objective) f.programs) own)
  | inr e ↦
      let (p, k, is) = map_among objective_read f.programs (subst (λ vs. Among (Some x.value) vs) (objectives_are f w) e.1) in
      subst (λ q. Suits f.of w.suit.0 q x.value) (sym e.0) (one p k p.objective refl is)
]
  where
    at : (v : PropId × PropertyValue) → Among v (all_values f) → Suits f.of w.suit.0 v.0 v.1
    at v j = among_All (λ (u : PropId × PropertyValue). Suits f.of w.suit.0 u.0 u.1) j w.suit.1

    one : (p : SavedProgram) → Among p f.programs → (o : Option (List (List Ratio))) → p.objective ≡ o → Some x.value ≡ option_map objective_value o → Suits f.of w.suit.0 LinearObjective x.value
    one p k None e is = absurd (none_some x.value (sym is))
    one p k (Some rows) e is =
        let v : Among {X = PropId × PropertyValue} (LinearObjective, objective_value rows) (objective_of p.objective) = subst (λ (o : Option (List (List Ratio))). Among {X = PropId × PropertyValue} (LinearObjective, objective_value rows) (objective_of o)) (sym e) here in
        subst (λ z. Suits f.of w.suit.0 LinearObjective z) (sym (some_is x.value (objective_value rows) is))
        (at (LinearObjective, objective_value rows) (among_append_right f.values (among_flat (λ (q : SavedProgram). objective_of q.objective) k v)))

-- ---- sites and their heights
-- where one of them is stored, the file says so
says_sites : (f : SavedFile) → IsWhole f → (p : PropId) → is_of_sites (Some p) ≡ true → has f.stored p ≡ true → finds_sites f.of (file_json f) ≡ true
says_sites f w p s h =
    let held = names_held (parts_of f.of (file_members f)) in
    let keys = items_of (map string (stored_keys f.of f.stored (contents f))) in
    let there_is : get (codes "_computed") (file_json f) ≡ Some (array_of (map string (stored_keys f.of f.stored (contents f)))) = get_member-put (codes "_computed") (array_of (map string (stored_keys f.of f.stored (contents f)))) (contents f) in
    let each : each_read (stored_property f.of held) keys ≡ Some (stored_of f) = stored_read f.of f.stored held (contents f) (stored_told f w) in
    let named : any_names_sites f.of keys ≡ true = site_names f.of held keys (stored_of f) each ∙ stored_sites (stored_of f) p s (stored_same f w p ∙ h) in
    and_from (is_profile_2 (file_json f)) (list_names_sites f.of (option_and_then as_array (get (codes "_computed") (file_json f)))) (is_newer f w)
    (ap (λ o. list_names_sites f.of (option_and_then as_array o)) there_is ∙ named)

-- else both were given
given_site : (f : SavedFile) → IsWhole f → finds_sites f.of (file_json f) ≡ false → (p : PropId) → is_of_sites (Some p) ≡ true → has f.stored p ≡ false
given_site f w none p s = by (has f.stored p) refl
  where
    by : (t : Bool) → has f.stored p ≡ t → has f.stored p ≡ false
    by true e = absurd (true≢false (sym (says_sites f w p s e) ∙ none))
    by false e = e

-- the values of the file agree with the values to which they are tied
each_agrees : (f : SavedFile) (w : IsWhole f) → finds_sites f.of (file_json f) ≡ false → (y x : Named) → Among y (named_values f.of (parts_of f.of (file_members f))) → Among x (named_values f.of (parts_of f.of (file_members f))) → have_as_many_sites y.property y.value x.property x.value ≡ true
each_agrees f w none y x j i = by (same_property Sites y.property) refl (same_property SiteHeights x.property) refl
  where
    parts : List Part
    parts = parts_of f.of (file_members f)

    own : (z : Named) (p : PropId) → is_of_sites (Some p) ≡ true → z.property ≡ p → Among z (named_values f.of parts) → Among {X = PropId × PropertyValue} (z.property, z.value) f.values
    own z p s is k = elim (from_file f.of parts z k) [
      | inl l ↦ told_in f z.property z.value w (subst (λ xs. Among {X = PropId × PropertyValue} (z.property, z.value) xs) (told_values f.of (file_members f)) l)
      | inr e ↦ absurd (true≢false (sym (subst (λ q. is_of_sites (Some q) ≡ true) (sym is ∙ e.0) s)))
    ]

    given : (z : Named) (p : PropId) → is_of_sites (Some p) ≡ true → z.property ≡ p → has f.stored z.property ≡ false
    given z p s is = subst (λ q. has f.stored q ≡ false) (sym is) (given_site f w none p s)

    by : (a : Bool) → same_property Sites y.property ≡ a → (b : Bool) → same_property SiteHeights x.property ≡ b → have_as_many_sites y.property y.value x.property x.value ≡ true
    by true e true g =
        let sites = sym (same_property_is Sites y.property e) in
        let heights = sym (same_property_is SiteHeights x.property g) in
        w.sites (y.property, y.value) (x.property, x.value) (Contains_among (own y Sites refl sites j)) (Contains_among (own x SiteHeights refl heights i)) (given y Sites refl sites) (given x SiteHeights refl heights)
    by false e b g = ap (λ t. if t && same_property SiteHeights x.property then nat_eq (length (rows_in y.value)) (cols_in x.value) else true) e
    by true e false g = ap (λ t. if t && same_property SiteHeights x.property then nat_eq (length (rows_in y.value)) (cols_in x.value) else true) e ∙ ap (λ t. if t then nat_eq (length (rows_in y.value)) (cols_in x.value) else true) g

each_fits : (f : SavedFile) (w : IsWhole f) → (x : Named) → Among x (named_values f.of (parts_of f.of (file_members f))) → fits_sites (tied_values (record { of = f.of; top = file_json f; parts = parts_of f.of (file_members f) })) x.property x.value ≡ true
each_fits f w x i = by (finds_sites f.of (file_json f)) refl
  where
    by : (t : Bool) → finds_sites f.of (file_json f) ≡ t → fits_sites (if t then [] else named_values f.of (parts_of f.of (file_members f))) x.property x.value ≡ true
    by true e = refl
    by false e = all_among (λ (y : Named). have_as_many_sites y.property y.value x.property x.value) (named_values f.of (parts_of f.of (file_members f))) (λ y j. each_agrees f w e y x j i)

pub returned : (bytes : List ℕ) (f : SavedFile) → IsWhole f → data_in bytes ≡ Ok (file_json f) → (g : SavedFile) × Reads bytes g × IsSameFile f g
returned bytes f w found =
    let parts = parts_of f.of (file_members f) in
    let s : Seen = record { of = f.of; top = file_json f; parts = parts } in
    let seen_is : seen bytes ≡ Ok s =
    ap (λ r. then_read r seen_in) found
    ∙ ap (λ r. then_read r (seen_of (file_json f) (file_members f))) (type_is f)
    ∙ ap (λ r. then_read r (λ parts. Ok (record { of = f.of; top = file_json f; parts = parts }))) (parts_told f.of (file_members f) (file_fine f w)) in
    let passed : ArePassed f.of (tied_values s) None (named_values f.of parts) = all_pass f.of (tied_values s) w.suit.0 (named_values f.of parts) None (each_suits f w) (each_fits f w) unknown in (
      file_again f,
      (s, seen_is, (passed, file_is f w)),
      record {
        of = refl;
        values = λ v i. Contains_among (subst (λ xs. Among v xs) (sym (told_values f.of (file_members f))) (in_told f v w (among_Contains f.values i)));
        no_others = λ v i. Contains_among (told_in f v.0 v.1 w (subst (λ xs. Among v xs) (told_values f.of (file_members f)) (among_Contains (values_in parts) i)));
        stored = stored_same f w;
        failed = refl;
        programs = same_programs f w;
        again = ap (λ ms. compact_text (object ms) ++ 10 ∷ []) (members_same f w);
      },
    )
