-- A file that was read is whole.
use Rattle.std.proofs.lemmas.Option.{none-some as none_some, same_Some as some_is}
use Rattle.std.proofs.Common.{refl, sym, ap, arith, inl, inr, length-append, subst, ◌∙◌, ◌≡◌, ◌≤◌, ◌<◌, ◌++◌, ◌∷◌, ◌&&◌, ℕ, List, [], Option, Some, None, Ok, Err, Bool, true, false, true≢false, Ordering, Less, Equal, Greater}
use Rattle.std.proofs.lemmas.Bool.{and_from, le-leb, ltb-true}
use Rattle.std.specs.List.{All, list_all}
use Rattle.std.specs.Option.{is_some}
use Rattle.std.specs.Ordering.{match_ordering, nat_cmp}
use Rattle.std.specs.Cmp.Lexicographic.{slice_cmp}
use Rattle.std.specs.Prelude.{codes, if◌then◌else◌, flat_map, length, map, nat_eq, nat_le, nat_lt, not, option_and_then, option_map, ◌⊎◌}
use Rattle.std.specs.Str.{bytes_eq, is_utf8}
use Rattle.pm_vector.proofs.Filters.{any_from, any_to, map_among}
use Rattle.pm_vector.proofs.Lists.{All_among, Among, among_All, among_Contains, among_append, among_append_left, here, there}
use Rattle.pm_files.proofs.Ascending.{Ascends, found_first, none_at, read_ascends}
use Rattle.pm_files.specs.Files.{Mark, SavedFile, SavedProgram}
use Rattle.pm_filing.proofs.HeldSets.{set_of-has}
use Rattle.pm_filing.proofs.FileParts.{objectives-formed, values-formed}
use Rattle.pm_filing.proofs.FlatLists.{flat_among}
use Rattle.pm_filing.proofs.Objectives.{objective_is}
use Rattle.pm_filing.proofs.ProgramsRead.{AreNames, IsFront, count, each_count, few_programs, front_names, names_front, of_read, only_polytopes, plain_count, plain_differ, plain_words, programs_at, same_test}
use Rattle.pm_filing.proofs.ReadSteps.{err_ok, if_from, key_from, map_from, ok_from, ok_is, some_from, then_from}
use Rattle.pm_filing.proofs.SiteNames.{found_sites}
use Rattle.pm_filing.proofs.SuitLaws.{Tested, TestedSuits, all_at, is_tested, objective_tested, tested_suits}
use Rattle.pm_filing.specs.Filing.{name_told}
use Rattle.pm_filing.specs.FileParts.{Part, data_in, json_in, members_in, no_type, not_json, objectives_of, or_else_fault, part_at, parts_in, programs, programs_part, property_at, read_as, then_read, too_long, type_in, value, value_part, is_programs_key, is_other_form}
use Rattle.pm_filing.specs.FileReadings.{Named, ReadsSeen, Seen, finds_sites, fits_sites, named_values, seen, seen_in, seen_of, tied_values}
use Rattle.pm_filing.specs.Profiles.{Profile, are_different, different_read, each_read, evidence_of, file_with, full_profile, if_different, if_held, if_name, is_profile_2, list_read, mark_among, mark_by, mark_of, mark_with, marks_in, names_held, no_marks, objectives_in, or_bad, plain_profile, profile_in, program_name_of, program_names, programs_by, programs_in, programs_with, same_label, stored_by, stored_property, values_in}
use Rattle.pm_filing.specs.ReadingViews.{HaveFractions, are_formed_parts, is_formed_objective}
use Rattle.pm_filing.specs.Views.{AllSuit, Suits}
use Rattle.pm_filing.specs.Whole.{AgreeInSites, AreMarks, IsWhole, all_values, are_of_different, are_of_table, is_mark, is_of_one, objective_of}
use Rattle.pm_object.proofs.Formed.{only}
use Rattle.pm_object.specs.Formed.{are_different as names_differ}
use Rattle.pm_object.specs.State.{have_as_many_sites, is_polytope}
use Rattle.pm_vector.specs.Numbers.{Ratio}
use Rattle.pm_props.specs.NameWords.{is_name}
use Rattle.pm_props.specs.declared.property.PropId.TheVariants.{LinearObjective, SiteHeights, Sites}
use Rattle.pm_json.specs.Readings.{Read, and_then, reading}
use Rattle.pm_props.proofs.Members.{has-empty}
use Rattle.pm_props.proofs.NameLemmas.{named_in_exactly}
use Rattle.pm_props.proofs.Places.{same_property_is, same_property_refl}
use Rattle.pm_props.specs.Names.{property_named_in}
use Rattle.pm_props.specs.Places.{same_property}
use Rattle.pm_props.specs.Properties.{has as has_property, name_in}
use Rattle.pm_props.specs.Sets.{has, set_of}
use Rattle.pm_object_type.specs.declared.object_type.ObjectType.{ObjectType}
use Rattle.pm_props.specs.declared.property.PropId.{PropId}
use Rattle.pm_rules.specs.Words.{is_label}
use Rattle.pm_types.specs.Forms.{AreFractions, cols_in, is_formed, rows_in}
use Rattle.pm_types.specs.Values.{PropertyValue}
use Rattle.serde_json.specs.Data.{Data, Items, Members, array, boolean, item, member, no_items, no_members, null, number, object, string}
use Rattle.serde_json.specs.Find.{as_array, as_object, as_str, get, get_member}
use Rattle.serde_json.specs.Read.{read}
use Rattle.pm_limits.specs.Limits.{most_file_bytes}

-- ---- the members of a file ascend
data_from : (bytes : List ℕ) (d : Data) → data_in bytes ≡ Ok d → read bytes ≡ Some d
data_from bytes d h = by (nat_le (length bytes) most_file_bytes) h
  where
    by : (b : Bool) → (if b then or_else_fault not_json (json_in bytes) else Err too_long) ≡ Ok d → read bytes ≡ Some d
    by true k = (if_from (is_utf8 bytes) (read bytes) d (some_from not_json (json_in bytes) d k)).1
    by false k = absurd (err_ok too_long d k)

pub data_ascends : (bytes : List ℕ) (d : Data) (ms : Members) → data_in bytes ≡ Ok d → members_in d ≡ Ok ms → Ascends ms
data_ascends bytes d ms h m = read_ascends bytes d ms (data_from bytes d h) (some_from no_type (as_object d) ms m)

-- ---- the values
-- what stands at a key is one value of its property, or none
data OnePart (of : ObjectType) (k : List ℕ) : List (PropId × PropertyValue) → Type 0 where
  none : OnePart of k []
  one : (p : PropId) (v : PropertyValue) → property_named_in of k ≡ Some p → OnePart of k ((p, v) ∷ [])

abbrev value_ok : {A : Type 0} → A → Read A
value_ok a = Ok a

read_value_is : {A : Type 0} (a b : A) → value_ok a ≡ value_ok b → a ≡ b
read_value_is a b h = cc

one_part : (of : ObjectType) (k : List ℕ) (d : Data) (part : List Part) → part_at of k d ≡ Ok part → OnePart of k (values_in part)
one_part of k d part h = by (is_programs_key of k) (key_from k _ part h)
  where
    objectives : (r : Read (List (Option PropertyValue))) → and_then r (λ vs. Ok (programs vs ∷ [])) ≡ Ok part → OnePart of k (values_in part)
    objectives (Ok vs) g = subst (λ ps. OnePart of k (values_in ps)) (read_value_is (programs vs ∷ []) part g) none
    objectives (Err why) g = absurd (fails g)
      where
        is_ok : Read (List Part) → Bool
        is_ok (Ok a) = true
        is_ok (Err e) = false

        fails : Err why ≡ Ok part → ⊥
        fails e = true≢false (sym (ap is_ok e))

    read_one : (p : PropId) → property_named_in of k ≡ Some p → (r : Read PropertyValue) → and_then r (λ v. Ok (value p v ∷ [])) ≡ Ok part → OnePart of k (values_in part)
    read_one p e (Ok v) g = subst (λ ps. OnePart of k (values_in ps)) (read_value_is (value p v ∷ []) part g) (one p v e)
    read_one p e (Err why) g = absurd (fails g)
      where
        is_ok : Read (List Part) → Bool
        is_ok (Ok a) = true
        is_ok (Err e) = false

        fails : Err why ≡ Ok part → ⊥
        fails e = true≢false (sym (ap is_ok e))

    at : (q : Option PropId) → property_named_in of k ≡ q → value_part (read_as q d) d ≡ Ok part → OnePart of k (values_in part)
    at None e g = subst (λ ps. OnePart of k (values_in ps)) (read_value_is [] part g) none
    at (Some p) e g = other (is_other_form p d) g
      where
        other : (b : Bool) → value_part (if b then None else Some p) d ≡ Ok part → OnePart of k (values_in part)
        other true u = subst (λ ps. OnePart of k (values_in ps)) (read_value_is [] part u) none
        other false u = read_one p e (reading p d) u

    by : (b : Bool) → (if b then programs_part d else value_part (property_at of k d) d) ≡ Ok part → OnePart of k (values_in part)
    by true g = objectives (objectives_of d) g
    by false g = at (property_named_in of k) refl g

pub values_append : (xs ys : List Part) → values_in (xs ++ ys) ≡ values_in xs ++ values_in ys
values_append [] ys = refl
values_append (value p v ∷ xs) ys = ap (λ l. (p, v) ∷ l) (values_append xs ys)
values_append (programs vs ∷ xs) ys = values_append xs ys

-- the values are of different properties of the table, and stand under their names
pub record OfMembers (of : ObjectType) (ms : Members) (vs : List (PropId × PropertyValue)) : Type 0 where
  pub table : are_of_table of vs ≡ true
  pub once : are_of_different vs ≡ true
  pub named : (v : PropId × PropertyValue) → Among v vs → is_some (get_member (name_in of v.0) ms) ≡ true

pub still_there : (q k : List ℕ) (d : Data) (ms : Members) → is_some (get_member q ms) ≡ true → is_some (get_member q (member k d ms)) ≡ true
still_there q k d ms h = by (slice_cmp nat_cmp q k)
  where
    by : (o : Ordering) → is_some (match_ordering o (get_member q ms) (Some d) (get_member q ms)) ≡ true
    by Less = h
    by Equal = refl
    by Greater = h

of_more : (of : ObjectType) (k : List ℕ) (d : Data) (ms : Members) (vs ws : List (PropId × PropertyValue)) → OnePart of k vs → Ascends (member k d ms) → OfMembers of ms ws → OfMembers of (member k d ms) (vs ++ ws)
of_more of k d ms vs ws none a m = record { table = m.table; once = m.once; named = λ v i. still_there (name_in of v.0) k d ms (m.named v i) }
of_more of k d ms vs ws (one p v e) a m = record {
  table = and_from (has_property of p) (are_of_table of ws) is.0 m.table;
  once = and_from (not (is_of_one ws p)) (are_of_different ws) (new (is_of_one ws p) refl) m.once;
  named = λ w i. at w i;
}
  where
    is : (has_property of p ≡ true) × (k ≡ name_in of p)
    is = (named_in_exactly of k p).0 e

    new : (b : Bool) → is_of_one ws p ≡ b → not b ≡ true
    new false h = refl
    new true h =
        let (w, i, same) = any_to (λ (x : PropId × PropertyValue). same_property p x.0) ws h in
        let named = subst (λ q. is_some (get_member (name_in of q) ms) ≡ true) (sym (same_property_is p w.0 same)) (m.named w i) in
        absurd (true≢false (sym named ∙ ap is_some (ap (λ z. get_member z ms) (sym is.1) ∙ none_at k ms a.0 a.1)))

    at : (w : PropId × PropertyValue) → Among w ((p, v) ∷ ws) → is_some (get_member (name_in of w.0) (member k d ms)) ≡ true
    at w here = first (name_in of p) is.1
      where
        first : (q : List ℕ) → k ≡ q → is_some (get_member q (member k d ms)) ≡ true
        first q s = subst (λ z. is_some (get_member z (member k d ms)) ≡ true) s (ap is_some (found_first k d ms))
    at w (there i) = still_there (name_in of w.0) k d ms (m.named w i)

pub of_members : (of : ObjectType) (ms : Members) (parts : List Part) → Ascends ms → parts_in of ms ≡ Ok parts → OfMembers of ms (values_in parts)
of_members of no_members parts a h = subst (λ ps. OfMembers of no_members (values_in ps)) (ok_is [] parts h) (record { table = refl; once = refl; named = λ v i. elim i [ ] })
of_members of (member k d ms) parts a h =
    let (part, first, more) = ok_from (part_at of k d) (λ part. then_read (parts_in of ms) (λ parts'. Ok (part ++ parts'))) parts h in
    let (rest, later, is) = ok_from (parts_in of ms) (λ parts'. Ok (part ++ parts')) parts more in
    subst (λ vs. OfMembers of (member k d ms) vs) (sym (values_append part rest) ∙ ap values_in (ok_is (part ++ rest) parts is))
    (of_more of k d ms (values_in part) (values_in rest) (one_part of k d part first) a (of_members of ms rest a.1 later))

-- ---- lists of a profile
record WasRead {A : Type 0} (same : A → A → Bool) (read_item : Data → Option A) (xs : List A) : Type 0 where
  different : are_different same xs ≡ true
  each : (x : A) → Among x xs → (d : Data) × (read_item d ≡ Some x)

each_from : {A : Type 0} (read_item : Data → Option A) (ds : Items) (xs : List A) → each_read read_item ds ≡ Some xs → (x : A) → Among x xs → (d : Data) × (read_item d ≡ Some x)
each_from read_item no_items xs h x i = elim (subst (λ ys. Among x ys) (sym (some_is [] xs h)) i) [ ]
each_from {A} read_item (item d ds) xs h x i =
    let (a, first, more) = then_from (λ a. option_map (λ as'. a ∷ as') (each_read read_item ds)) (read_item d) xs h in
    let (rest, later, is) = map_from (λ as'. a ∷ as') (each_read read_item ds) xs more in
    at a rest first (λ y j. each_from read_item ds rest later y j) (subst (λ ys. Among x ys) (sym is) i)
  where
    at : (a : A) (rest : List A) → read_item d ≡ Some a → ((y : A) → Among y rest → (e : Data) × (read_item e ≡ Some y)) → Among x (a ∷ rest) → (e : Data) × (read_item e ≡ Some x)
    at a rest first later here = (d, first)
    at a rest first later (there j) = later x j

list_was_read : {A : Type 0} (same : A → A → Bool) (read_item : Data → Option A) (found : Option Data) (xs : List A) → list_read same read_item found ≡ Some xs → WasRead same read_item xs
list_was_read {A} same read_item None xs h = subst (λ (ys : List A). WasRead same read_item ys) (some_is [] xs h) (record { different = refl; each = λ x i. elim i [ ] })
list_was_read {A} same read_item (Some d) xs h =
    let (ds, listed, k) = then_from (different_read same read_item) (as_array d) xs h in
    let (ys, each, g) = then_from (if_different same) (each_read read_item ds) xs k in
    let (different, is) = if_from (are_different same ys) (Some ys) xs g in
    subst (λ (zs : List A). WasRead same read_item zs) (some_is ys xs is) (record { different = different; each = each_from read_item ds ys each })

-- ---- stored values
held_from : (of : ObjectType) (held : ℕ) (d : Data) (p : PropId) → stored_property of held d ≡ Some p → has held p ≡ true
held_from of held d p h =
    let (q, named, k) = then_from (if_held held) (option_and_then (property_named_in of) (as_str d)) p h in
    let (t, is) = if_from (has held q) (Some q) p k in
    subst (λ z. has held z ≡ true) (some_is q p is) t

-- what the set of their properties has is of one of the values
one_of_held : (vs : List (PropId × PropertyValue)) (p : PropId) → has (set_of (map (λ x. x.0) vs)) p ≡ true → is_of_one vs p ≡ true
one_of_held vs p h =
    let (q, i, same) = any_to (λ r. same_property r p) (map (λ (x : PropId × PropertyValue). x.0) vs) (sym (set_of-has (map (λ x. x.0) vs) p) ∙ h) in
    let (v, j, is) = map_among (λ (x : PropId × PropertyValue). x.0) vs i in
    any_from (λ (x : PropId × PropertyValue). same_property p x.0) j (subst (λ z. same_property p z ≡ true) (sym (same_property_is q p same) ∙ is) (same_property_refl p))

stored_from : (of : ObjectType) (parts : List Part) (found : Option Data) (stored : ℕ) → stored_by of (names_held parts) found ≡ Some stored → (p : PropId) → has stored p ≡ true → is_of_one (values_in parts) p ≡ true
stored_from of parts found stored h p t =
    let (ps, l, is) = map_from set_of (list_read same_property (stored_property of (names_held parts)) found) stored h in
    let r = list_was_read same_property (stored_property of (names_held parts)) found ps l in
    let (q, i, same) = any_to (λ r. same_property r p) ps (sym (set_of-has ps p) ∙ ap (λ s. has s p) is ∙ t) in
    let (d, e) = r.each q i in
    one_of_held (values_in parts) p (subst (λ z. has (names_held parts) z ≡ true) (same_property_is q p same) (held_from of (names_held parts) d q e))

-- ---- marks
abbrev in_range : ℕ → Bool
in_range k = nat_le 1 k && nat_le k 5

pick : (b : Bool) (j : ℕ) (rest : Option ℕ) (k : ℕ) → (if b then Some j else rest) ≡ Some k → in_range j ≡ true → (rest ≡ Some k → in_range k ≡ true) → in_range k ≡ true
pick true j rest k h r more = subst (λ z. in_range z ≡ true) (some_is j k h) r
pick false j rest k h r more = more h

evidence_range : (text : List ℕ) (k : ℕ) → evidence_of text ≡ Some k → in_range k ≡ true
evidence_range text k h =
    pick (bytes_eq text (codes "E1")) 1 _ k h refl (λ h1.
    pick (bytes_eq text (codes "E2")) 2 _ k h1 refl (λ h2.
    pick (bytes_eq text (codes "E3")) 3 _ k h2 refl (λ h3.
    pick (bytes_eq text (codes "E4")) 4 _ k h3 refl (λ h4.
    pick (bytes_eq text (codes "E5")) 5 None k h4 refl (λ h5. absurd (none_some k h5))))))

mark_with_from : (label : List ℕ) (e : Option ℕ) (m : Mark) → mark_with label e ≡ Some m → ((k : ℕ) → e ≡ Some k → in_range k ≡ true) → is_mark m ≡ true
mark_with_from label None m h range = absurd (none_some m h)
mark_with_from label (Some k) m h range =
    let (t, is) = if_from (is_label label) (Some (label, k)) m h in
    subst (λ (z : Mark). is_mark z ≡ true) (some_is (label, k) m is) (and_from (is_label label) (in_range k) t (range k refl))

mark_by_from : (label text : Option (List ℕ)) (m : Mark) → mark_by label text ≡ Some m → is_mark m ≡ true
mark_by_from (Some label) (Some text) m h = mark_with_from label (evidence_of text) m h (evidence_range text)
mark_by_from (Some label) None m h = absurd (none_some m h)
mark_by_from None text m h = absurd (none_some m h)

mark_among_from : (ds : Items) (m : Mark) → mark_among ds ≡ Some m → is_mark m ≡ true
mark_among_from no_items m h = absurd (none_some m h)
mark_among_from (item label no_items) m h = absurd (none_some m h)
mark_among_from (item label (item text no_items)) m h = mark_by_from (as_str label) (as_str text) m h
mark_among_from (item label (item text (item d ds))) m h = absurd (none_some m h)

mark_from : (d : Data) (m : Mark) → mark_of d ≡ Some m → is_mark m ≡ true
mark_from d m h = let (ds, listed, k) = then_from mark_among (as_array d) m h in mark_among_from ds m k

pub all_among : {A : Type 0} (test : A → Bool) (xs : List A) → ((x : A) → Among x xs → test x ≡ true) → list_all test xs ≡ true
all_among test [] f = refl
all_among test (x ∷ xs) f = and_from (test x) (list_all test xs) (f x here) (all_among test xs (λ y i. f y (there i)))

marks_from : (d : Data) (ms : List Mark) → marks_in d ≡ Some ms → AreMarks ms
marks_from d ms h =
    let r = list_was_read same_label mark_of (get (codes "_excluded") d) ms h in
    record { marks = all_among is_mark ms (λ x i. let (e, k) = r.each x i in mark_from e x k); labels = r.different }

pub marks_of_all : (ps : List SavedProgram) → All (λ (p : SavedProgram). AreMarks p.failed) ps → list_all (λ p. list_all is_mark p.failed) ps ≡ true
marks_of_all ps h = all_among (λ (p : SavedProgram). list_all is_mark p.failed) ps (λ p i. (among_All (λ (q : SavedProgram). AreMarks q.failed) i h).marks)

-- the own values of a whole file suit one column count
pub own_suit : (f : SavedFile) → IsWhole f → AllSuit f.of f.values
own_suit f w = (
  w.suit.0,
  All_among (λ (v : PropId × PropertyValue). Suits f.of w.suit.0 v.0 v.1) f.values (λ v i.
      among_All (λ (u : PropId × PropertyValue). Suits f.of w.suit.0 u.0 u.1) (among_append_left (flat_map (λ (p : SavedProgram). objective_of p.objective) f.programs) i) w.suit.1),
)

-- ---- the profile
record WholeProfile (vs : List (PropId × PropertyValue)) (ds : Items) (p : Profile) : Type 0 where
  stored : (q : PropId) → has p.stored q ≡ true → is_of_one vs q ≡ true
  marks : AreMarks p.failed
  names : count ds ≤ 4 → AreNames p.names
  number : length p.names ≡ count ds
  each : (ms : List Mark) → Among ms p.marks → AreMarks ms

word_from : (d : Data) (name : List ℕ) → program_name_of d ≡ Some name → is_name name ≡ true
word_from d name h =
    let (word, found, k) = then_from if_name (option_and_then as_str (get (codes "_name") d)) name h in
    let (t, is) = if_from (is_name word) (Some word) name k in
    subst (λ z. is_name z ≡ true) (some_is word name is) t

names_from : (ds : Items) (names : List (List ℕ)) → program_names ds ≡ Some names → (length names ≡ count ds) × (list_all is_name names ≡ true) × (names_differ names ≡ true)
names_from ds names h =
    let (ys, each, g) = then_from (if_different bytes_eq) (each_read program_name_of ds) names h in
    let (different, is) = if_from (are_different bytes_eq ys) (Some ys) names g in
    let same : ys ≡ names = some_is ys names is in
    let read : each_read program_name_of ds ≡ Some names = each ∙ ap Some same in (
      each_count program_name_of ds names read,
      all_among is_name names (λ x i. let (d, e) = each_from program_name_of ds names read x i in word_from d x e),
      subst (λ zs. names_differ zs ≡ true) same (sym (same_test ys) ∙ different),
    )

no_mark_among : (ds : Items) (ms : List Mark) → Among ms (no_marks ds) → AreMarks ms
no_mark_among no_items ms i = elim i [ ]
no_mark_among (item d ds) ms here = record { marks = refl; labels = refl }
no_mark_among (item d ds) ms (there i) = no_mark_among ds ms i

profile_from : (of : ObjectType) (parts : List Part) (d : Data) (ds : Items) (p : Profile) → profile_in of (names_held parts) d ds ≡ Ok p → WholeProfile (values_in parts) ds p
profile_from of parts d ds p h = by (is_profile_2 d) h
  where
    held : ℕ
    held = names_held parts

    full : full_profile of held d ds ≡ Ok p → WholeProfile (values_in parts) ds p
    full g =
        let (stored, s, g1) = ok_from (or_bad (codes "_computed") (stored_by of held (get (codes "_computed") d))) _ p g in
        let (failed, m, g2) = ok_from (or_bad (codes "_excluded") (marks_in d)) _ p g1 in
        let (marks, n, g3) = ok_from (or_bad (codes "_excluded") (each_read marks_in ds)) _ p g2 in
        let (names, o, g4) = ok_from (or_bad (codes "_name") (program_names ds)) _ p g3 in
        let is = ok_is _ p g4 in
        let told = names_from ds names (some_from _ (program_names ds) names o) in
        subst (λ (z : Profile). WholeProfile (values_in parts) ds z) is (record {
          stored = stored_from of parts (get (codes "_computed") d) stored (some_from _ (stored_by of held (get (codes "_computed") d)) stored s);
          marks = marks_from d failed (some_from _ (marks_in d) failed m);
          names = λ few. record { few = subst (λ k. k ≤ 4) (sym told.0) few; words = told.1; different = told.2 };
          number = told.0;
          each = λ ms i. let (e, k) = each_from marks_in ds marks (some_from _ (each_read marks_in ds) marks n) ms i in marks_from e ms k;
        })

    by : (b : Bool) → (if b then full_profile of held d ds else Ok (plain_profile ds)) ≡ Ok p → WholeProfile (values_in parts) ds p
    by true g = full g
    by false g = subst (λ (z : Profile). WholeProfile (values_in parts) ds z) (ok_is (plain_profile ds) p g) (record {
      stored = λ q t. absurd (true≢false (sym t ∙ has-empty q));
      marks = record { marks = refl; labels = refl };
      names = λ few. record { few = subst (λ k. k ≤ 4) (sym (plain_count 0 ds)) few; words = plain_words ds few; different = plain_differ ds few };
      number = plain_count 0 ds;
      each = λ ms i. no_mark_among ds ms i;
    })

-- ---- the values and objectives
record OfFile (of : ObjectType) (parts : List Part) (v : PropId × PropertyValue) : Type 0 where
  tested : Tested of parts v
  formed : is_formed v.0 v.1 ≡ true

objective_formed : (parts : List Part) (v : PropertyValue) → are_formed_parts parts ≡ true → Among (Some v) (objectives_in parts) → is_formed LinearObjective v ≡ true
objective_formed parts v h i = all_at is_formed_objective (objectives_in parts) (objectives-formed parts h) i

all_of_file : (of : ObjectType) (parts : List Part) (names : List (List ℕ)) (marks : List (List Mark)) → are_formed_parts parts ≡ true → (v : PropId × PropertyValue)
    → Among v (values_in parts ++ flat_map (λ p. objective_of p.objective) (programs_with (objectives_in parts) names marks)) → OfFile of parts v
all_of_file of parts names marks formed v i = elim (among_append (values_in parts) (flat_map (λ (p : SavedProgram). objective_of p.objective) (programs_with (objectives_in parts) names marks)) i) [
  | inl j ↦ record { tested = is_tested of parts j; formed = all_at (λ (w : PropId × PropertyValue). is_formed w.0 w.1) (values_in parts) (values-formed parts formed) j }
  | inr j ↦ by_program (flat_among (λ (p : SavedProgram). objective_of p.objective) (programs_with (objectives_in parts) names marks) j)
]
  where
    one : (w : Option PropertyValue) → Among w (objectives_in parts) → Among v (objective_of (option_map rows_in w)) → OfFile of parts v
    one None k l = elim l [ ]
    one (Some x) k l =
        let form = objective_formed parts x formed k in
        let same : v ≡ (LinearObjective, x) = only l ∙ ap (λ (z : PropertyValue). (LinearObjective, z)) (objective_is x form) in
        subst (λ (z : PropId × PropertyValue). OfFile of parts z) (sym same) (record { tested = objective_tested of parts x k; formed = form })

    by_program : (p : SavedProgram) × Among p (programs_with (objectives_in parts) names marks) × Among v (objective_of p.objective) → OfFile of parts v
    by_program (p, k, l) =
        let r = of_read (objectives_in parts) names marks p k in
        one r.v r.among (subst (λ (o : Option (List (List Ratio))). Among v (objective_of o)) r.objective l)

fractions_at : (xs : List Named) → HaveFractions xs → (x : Named) → Among x xs → AreFractions x.value
fractions_at [] h x i = elim i [ ]
fractions_at (y ∷ xs) h x here = h.0
fractions_at (y ∷ xs) h x (there i) = fractions_at xs h.1 x i

-- ---- the whole
got : (k : List ℕ) (d : Data) (ms : Members) → as_object d ≡ Some ms → get k d ≡ get_member k ms
got k null ms h = absurd (none_some ms h)
got k (boolean b) ms h = absurd (none_some ms h)
got k (number n) ms h = absurd (none_some ms h)
got k (string s) ms h = absurd (none_some ms h)
got k (array ds) ms h = absurd (none_some ms h)
got k (object ns) ms h = ap (get_member k) (some_is ns ms h)

polytope_from : (of : ObjectType) (found : Option Data) (xs ys : List (List ℕ)) → IsFront xs ys → length ys ≡ count (if is_programs_key of (codes "LP") then programs_by found else no_items) → nat_lt 0 (length xs) ≡ true → is_polytope of ≡ true
polytope_from of found xs ys f n h =
    let more = ltb-true 0 (length xs) h in
    let all = ap length f.whole ∙ length-append xs f.rest in
    let some_there : 0 < count (if is_programs_key of (codes "LP") then programs_by found else no_items) = omega (arith, n, all, more) in
    ap is_polytope (only_polytopes of found some_there)

-- given sites of a file that is read have as many heights
sites_of_read : (s : Seen) (p : Profile) → profile_in s.of (names_held s.parts) s.top (programs_in s.of s.top) ≡ Ok p → ((x : Named) → Among x (named_values s.of s.parts) → fits_sites (tied_values s) x.property x.value ≡ true) → AgreeInSites p.stored (values_in s.parts)
sites_of_read s p profile fits v w i j not_v not_w = by (finds_sites s.of s.top) refl fits
  where
    first : Tested s.of s.parts v
    first = is_tested s.of s.parts (among_Contains (values_in s.parts) i)

    second : Tested s.of s.parts w
    second = is_tested s.of s.parts (among_Contains (values_in s.parts) j)

    -- not both are of sites where one of these is stored
    found : (has p.stored Sites ≡ true) ⊎ (has p.stored SiteHeights ≡ true) → (a : Bool) → same_property Sites v.0 ≡ a → (b : Bool) → same_property SiteHeights w.0 ≡ b → have_as_many_sites v.0 v.1 w.0 w.1 ≡ true
    found h true e true f = elim h [
      | inl t ↦ absurd (true≢false (sym (subst (λ q. has p.stored q ≡ true) (same_property_is Sites v.0 e) t) ∙ not_v))
      | inr t ↦ absurd (true≢false (sym (subst (λ q. has p.stored q ≡ true) (same_property_is SiteHeights w.0 f) t) ∙ not_w))
    ]
    found h false e b f = ap (λ t. if t && same_property SiteHeights w.0 then nat_eq (length (rows_in v.1)) (cols_in w.1) else true) e
    found h true e false f = ap (λ t. if t && same_property SiteHeights w.0 then nat_eq (length (rows_in v.1)) (cols_in w.1) else true) e ∙ ap (λ t. if t then nat_eq (length (rows_in v.1)) (cols_in w.1) else true) f

    by : (t : Bool) → finds_sites s.of s.top ≡ t → ((x : Named) → Among x (named_values s.of s.parts) → fits_sites (if t then [] else named_values s.of s.parts) x.property x.value ≡ true) → have_as_many_sites v.0 v.1 w.0 w.1 ≡ true
    by true e all = found (found_sites s.of (names_held s.parts) s.top (programs_in s.of s.top) p profile e) (same_property Sites v.0) refl (same_property SiteHeights w.0) refl
    by false e all =
        let one = all_at (λ (y : Named). have_as_many_sites y.property y.value second.x.property second.x.value) (named_values s.of s.parts) (all second.x second.among) first.among in
        subst (λ z. have_as_many_sites v.0 v.1 w.0 z ≡ true) second.value (subst (λ q. have_as_many_sites v.0 v.1 q second.x.value ≡ true) second.property
        (subst (λ z. have_as_many_sites v.0 z second.x.property second.x.value ≡ true) first.value (subst (λ q. have_as_many_sites q first.x.value second.x.property second.x.value ≡ true) first.property one)))

pub read_whole : (bytes : List ℕ) (s : Seen) (f : SavedFile) → seen bytes ≡ Ok s → ReadsSeen s f → are_formed_parts s.parts ≡ true → HaveFractions (named_values s.of s.parts) → IsWhole f
read_whole bytes s f is r formed entries =
    let (d, found, k) = ok_from (data_in bytes) seen_in s is in
    let (ms, members, k1) = ok_from (members_in d) (λ ms. then_read (type_in d) (seen_of d ms)) s k in
    let (of, typed, k2) = ok_from (type_in d) (seen_of d ms) s k1 in
    let (parts, told, k3) = ok_from (parts_in of ms) (λ parts. Ok (record { of = of; top = d; parts = parts })) s k2 in
    let seen_is : record { of = of; top = d; parts = parts } ≡ s = ok_is _ s k3 in
    let (p, profile, k4) = ok_from (profile_in s.of (names_held s.parts) s.top (programs_in s.of s.top)) (λ profile. Ok (file_with s.of s.top s.parts profile)) f r.1 in
    let file_is : file_with s.of s.top s.parts p ≡ f = ok_is _ f k4 in
    let ascends = data_ascends bytes d ms found members in
    let m : OfMembers of ms (values_in parts) = of_members of ms parts ascends told in
    let there_are = few_programs of (programs_at of ms parts ascends told) in
    let few_of : count (programs_in of d) ≤ 4 =
    subst (λ (x : Option Data). count (if is_programs_key of (codes "LP") then programs_by x else no_items) ≤ 4) (sym (got (codes "LP") d ms (some_from no_type (as_object d) ms members))) there_are in
    let few : count (programs_in s.of s.top) ≤ 4 = subst (λ (z : Seen). count (programs_in z.of z.top) ≤ 4) seen_is few_of in
    let w : WholeProfile (values_in s.parts) (programs_in s.of s.top) p = profile_from s.of s.parts s.top (programs_in s.of s.top) p profile in
    let suits : TestedSuits s = tested_suits s r.0 (values-formed s.parts formed) in
    let front = names_front (objectives_in s.parts) p.names p.marks in
    let names = front_names (map name_told (programs_with (objectives_in s.parts) p.names p.marks)) p.names front (w.names few) in
    let every = all_of_file s.of s.parts p.names p.marks formed in
    subst IsWhole file_is (record {
      table = subst (λ (z : Seen). are_of_table z.of (values_in z.parts) ≡ true) seen_is m.table;
      once = subst (λ (z : Seen). are_of_different (values_in z.parts) ≡ true) seen_is m.once;
      suit = (suits.count, All_among (λ (v : PropId × PropertyValue). Suits s.of suits.count v.0 v.1) (all_values (file_with s.of s.top s.parts p)) (λ v i. let e = every v i in suits.suits v e.tested e.formed));
      entries = All_among (λ (v : PropId × PropertyValue). AreFractions v.1) (all_values (file_with s.of s.top s.parts p)) (λ v i. let e = every v i in subst AreFractions e.tested.value (fractions_at (named_values s.of s.parts) entries e.tested.x e.tested.among));
      sites = sites_of_read s p profile suits.sites;
      stored = w.stored;
      marks = w.marks;
      programs = record {
        few = le-leb (length (map name_told (programs_with (objectives_in s.parts) p.names p.marks))) 4 names.few;
        words = names.words;
        different = names.different;
        polytope = polytope_from s.of (get (codes "LP") s.top) (map name_told (programs_with (objectives_in s.parts) p.names p.marks)) p.names front w.number;
      };
      marks_of_programs = All_among (λ (q : SavedProgram). AreMarks q.failed) (programs_with (objectives_in s.parts) p.names p.marks) (λ q i. w.each q.failed (of_read (objectives_in s.parts) p.names p.marks q i).failed);
    })
