-- The names that a file brings into a reply, other than those that are read over, have no LF.
use Rattle.std.proofs.Common.{ap, refl, subst, sym, true≢false, suc, ℕ, List, [], ◌∷◌, ◌++◌, Bool, true, false, ◌≡◌, ◌∙◌, ◌&&◌, Option, Some, None, inl, inr, map, if◌then◌else◌, codes, decimal, length, nat_le}
use Rattle.std.specs.List.{list_all}
use Rattle.std.specs.Option.{option_and_then, option_map}
use Rattle.std.specs.Prelude.{Err, Ok, string_bytes}
use Rattle.std.specs.Str.{bytes_eq}
use Rattle.std.proofs.lemmas.Bool.{and_parts, and_from, cases_Bool}
use Rattle.std.proofs.lemmas.List.Folds.{list_all-append}
use Rattle.std.proofs.lemmas.Slice.Eq.{bytes_eq-Decides}
use Rattle.pm_files.specs.Files.{Mark, SavedFile}
use Rattle.pm_filing.proofs.ReadSteps.{if_from, ok_from, ok_is, some_from, then_from}
use Rattle.pm_filing.specs.FileParts.{FileFault, FileRead, Part, at_key, bad_profile, bad_property, bad_row, data_in, is_programs_key, json_in, members_in, no_type, not_json, or_else_fault, out_of_memory, part_at, parts_in, programs, programs_part, property_at, read_as, then_read, too_long, type_in, unknown_type, value, value_part}
use Rattle.pm_filing.specs.FileReadings.{cols_after, IsFirstBad, Named, Reads, Refuses, named_objective, named_objectives, named_part, named_values, seen, seen_in, seen_of, tied_values}
use Rattle.pm_filing.specs.Filing.{name_told}
use Rattle.pm_filing.specs.Profiles.{Profile, are_different, each_read, file_with, full_profile, if_different, if_name, is_profile_2, marks_in, names_held, objectives_in, or_bad, plain_names_from, plain_profile, profile_in, program_name_of, program_names, programs_in, programs_with, stored_by}
use Rattle.pm_json.specs.Readings.{Read}
use Rattle.pm_json.specs.declared.fail.ValueFail.{ValueFail}
use Rattle.pm_machine.specs.Steps.{IsFault}
use Rattle.pm_object_type.specs.declared.object_type.ObjectType.{ObjectType}
use Rattle.pm_object_type.specs.declared.object_type.ObjectType.TheVariants.{Cone, Fan, Polytope}
use Rattle.pm_props.proofs.Every.{all_properties}
use Rattle.pm_props.proofs.NameLemmas.{find_passes}
use Rattle.pm_props.specs.NameWords as words
use Rattle.pm_props.specs.Names.{property_named_in}
use Rattle.pm_props.specs.Properties.{every_property, has, name_in}
use Rattle.pm_props.specs.declared.property.PropId.{PropId}
use Rattle.pm_script.specs.Replies.{file_why_text, why_text}
use Rattle.pm_script.specs.declared.refusal.FileWhy.{FileWhy}
use Rattle.pm_script.specs.declared.refusal.FileWhy.TheVariants as file_why
use Rattle.pm_script.specs.declared.refusal.ValueWhy.{ValueWhy}
use Rattle.pm_script.specs.declared.refusal.ValueWhy.TheVariants as value_why
use Rattle.pm_types.specs.Values.{PropertyValue}
use Rattle.serde_json.specs.Data.{Data, Items, Members, item, member, no_items, no_members}
use Rattle.serde_json.specs.Find.{as_object, as_str, get}
use Rattle.pm_laws_replies.proofs.Words.{plain_name}
use Rattle.pm_laws_replies.proofs.OneLine.{plain_append, plain_decimal}
use Rattle.pm_laws_replies.specs.Told.{is_one_line}

-- the key that a fault names has no LF
abbrev FaultLine : FileFault → Type 0
FaultLine too_long = Unit {0}
FaultLine not_json = Unit {0}
FaultLine no_type = Unit {0}
FaultLine unknown_type = Unit {0}
FaultLine (bad_property key why) = is_one_line key ≡ true
FaultLine (bad_row key) = is_one_line key ≡ true
FaultLine (bad_profile key) = is_one_line key ≡ true
FaultLine out_of_memory = Unit {0}

abbrev file_err : {A : Type 0} → FileFault → FileRead A
file_err e = Err e

abbrev file_ok : {A : Type 0} → A → FileRead A
file_ok a = Ok a

same_fault : {A : Type 0} (a b : FileFault) → file_err {A = A} a ≡ file_err b → a ≡ b
same_fault a b e = cc

no_fault : {A : Type 0} {B : Type 0} (a : A) (b : FileFault) → file_ok a ≡ file_err b → B
no_fault a b e = cc

abbrev read_err : {A : Type 0} → ValueFail → Read A
read_err e = Err e

abbrev read_ok : {A : Type 0} → A → Read A
read_ok a = Ok a

no_fail : {A : Type 0} {B : Type 0} (a : A) (w : ValueFail) → read_ok a ≡ read_err w → B
no_fail a w e = cc

as_fault : (a b : FileFault) → a ≡ b → FaultLine a → FaultLine b
as_fault a b e h = subst FaultLine e h

then_line : {A B : Type 0} (r : FileRead A) (next : A → FileRead B) (e : FileFault) → then_read r next ≡ Err e → (r ≡ Err e → FaultLine e) → ((a : A) → r ≡ Ok a → next a ≡ Err e → FaultLine e) → FaultLine e
then_line (Ok a) next e h first rest = rest a refl h
then_line (Err f) next e h first rest = first (ap Err (same_fault f e h))

else_line : {A : Type 0} (fault : FileFault) (o : Option A) (e : FileFault) → or_else_fault fault o ≡ Err e → FaultLine fault → FaultLine e
else_line fault None e h l = as_fault fault e (same_fault fault e h) l
else_line fault (Some a) e h l = no_fault a e h

-- ---- names of properties
abbrev line_in : ObjectType → PropId → Bool
line_in of p = is_one_line (name_in of p)

name_line : (of : ObjectType) (p : PropId) → line_in of p ≡ true
name_line Polytope p = all_properties (line_in Polytope) refl p
name_line Cone p = all_properties (line_in Cone) refl p
name_line Fan p = all_properties (line_in Fan) refl p

named_line : (of : ObjectType) (key : List ℕ) (p : PropId) → property_named_in of key ≡ Some p → is_one_line key ≡ true
named_line of key p h =
    let passes = find_passes (λ q. has of q && bytes_eq key (name_in of q)) every_property p h in
    let same = (bytes_eq-Decides key (name_in of p)).0 (and_parts (has of p) (bytes_eq key (name_in of p)) passes).1 in
    subst (λ z. is_one_line z ≡ true) (sym same) (name_line of p)

value_line : (of : ObjectType) (key : List ℕ) (d : Data) (o : Option PropId) (why : ValueFail) → property_named_in of key ≡ o → value_part (read_as o d) d ≡ Err why → is_one_line key ≡ true
value_line of key d None why h e = no_fail _ why e
value_line of key d (Some p) why h e = named_line of key p h

programs_key : (of : ObjectType) (key : List ℕ) → is_programs_key of key ≡ true → is_one_line key ≡ true
programs_key Polytope key h = subst (λ z. is_one_line z ≡ true) (sym ((bytes_eq-Decides key (codes "LP")).0 h)) refl
programs_key Cone key h = absurd (true≢false (sym h))
programs_key Fan key h = absurd (true≢false (sym h))

at_line : {A : Type 0} (key : List ℕ) (r : Read A) (e : FileFault) → at_key key r ≡ Err e → ((why : ValueFail) → r ≡ Err why → is_one_line key ≡ true) → FaultLine e
at_line key (Ok a) e h l = no_fault a e h
at_line key (Err why) e h l = as_fault (bad_property key why) e (same_fault (bad_property key why) e h) (l why refl)

part_line : (of : ObjectType) (key : List ℕ) (d : Data) (e : FileFault) → part_at of key d ≡ Err e → FaultLine e
part_line of key d e h = at_line key (if is_programs_key of key then programs_part d else value_part (property_at of key d) d) e h (λ why f. elim (cases_Bool (is_programs_key of key)) [
  | inl t ↦ programs_key of key t
  | inr t ↦ value_line of key d (property_named_in of key) why refl (ap (λ b. if b then programs_part d else value_part (property_at of key d) d) (sym t) ∙ f)
])

parts_line : (of : ObjectType) (ms : Members) (e : FileFault) → parts_in of ms ≡ Err e → FaultLine e
parts_line of no_members e h = no_fault _ e h
parts_line of (member key d ms) e h =
    then_line (part_at of key d) (λ part. then_read (parts_in of ms) (λ parts. Ok (part ++ parts))) e h (part_line of key d e)
    (λ part is g. then_line (parts_in of ms) (λ parts. Ok (part ++ parts)) e g (parts_line of ms e) (λ parts k l. no_fault (part ++ parts) e l))

data_line : (bytes : List ℕ) (e : FileFault) → data_in bytes ≡ Err e → FaultLine e
data_line bytes e h = by (nat_le (length bytes) _) h
  where
    by : (b : Bool) → (if b then or_else_fault not_json (json_in bytes) else Err too_long) ≡ Err e → FaultLine e
    by true h = else_line not_json (json_in bytes) e h tt
    by false h = as_fault too_long e (same_fault too_long e h) tt

type_line : (d : Data) (e : FileFault) → type_in d ≡ Err e → FaultLine e
type_line d e h = then_line (or_else_fault no_type (option_and_then as_str (get (codes "_type") d))) _ e h
    (λ k. else_line no_type (option_and_then as_str (get (codes "_type") d)) e k tt) (λ text is k. else_line unknown_type _ e k tt)

seen_line : (bytes : List ℕ) (e : FileFault) → seen bytes ≡ Err e → FaultLine e
seen_line bytes e h = then_line (data_in bytes) seen_in e h (data_line bytes e)
    (λ d is k. then_line (members_in d) (λ ms. then_read (type_in d) (seen_of d ms)) e k (λ l. else_line no_type (as_object d) e l tt)
    (λ ms as' l. then_line (type_in d) (seen_of d ms) e l (type_line d e)
    (λ of at m. then_line (parts_in of ms) (λ parts. Ok (record { of = of; top = d; parts = parts })) e m (parts_line of ms e) (λ parts n p. no_fault _ e p))))

-- ---- rows
abbrev all_line : List Named → Bool
all_line xs = list_all (λ (x : Named). is_one_line x.name) xs

line_append : (xs ys : List Named) → all_line xs ≡ true → all_line ys ≡ true → all_line (xs ++ ys) ≡ true
line_append xs ys h k = list_all-append (λ (x : Named). is_one_line x.name) xs ys ∙ and_from (all_line xs) (all_line ys) h k

objective_line : (v : Option PropertyValue) → all_line (named_objective v) ≡ true
objective_line None = refl
objective_line (Some v) = refl

objectives_line : (vs : List (Option PropertyValue)) → all_line (named_objectives vs) ≡ true
objectives_line [] = refl
objectives_line (v ∷ vs) = line_append (named_objective v) (named_objectives vs) (objective_line v) (objectives_line vs)

named_part_line : (of : ObjectType) (part : Part) → all_line (named_part of part) ≡ true
named_part_line of (value p v) = and_from (is_one_line (name_in of p)) true (name_line of p) refl
named_part_line of (programs vs) = objectives_line vs

values_line : (of : ObjectType) (parts : List Part) → all_line (named_values of parts) ≡ true
values_line of [] = refl
values_line of (part ∷ parts) = line_append (named_part of part) (named_values of parts) (named_part_line of part) (values_line of parts)

bad_line : (of : ObjectType) (tied : List Named) (n : Option ℕ) (xs : List Named) (name : List ℕ) → all_line xs ≡ true → IsFirstBad of tied n xs name → is_one_line name ≡ true
bad_line of tied n [] name h b = absurd b
bad_line of tied n (x ∷ xs) name h (inl b) = subst (λ z. is_one_line z ≡ true) (sym b.0) (and_parts (is_one_line x.name) (all_line xs) h).0
bad_line of tied n (x ∷ xs) name h (inr b) = bad_line of tied (cols_after n x.property x.value) xs name (and_parts (is_one_line x.name) (all_line xs) h).1 b.1

-- ---- the profile
profile_line : (of : ObjectType) (held : ℕ) (d : Data) (ds : Items) (e : FileFault) → profile_in of held d ds ≡ Err e → FaultLine e
profile_line of held d ds e h = by (is_profile_2 d) h
  where
    full : full_profile of held d ds ≡ Err e → FaultLine e
    full g =
        then_line (or_bad (codes "_computed") (stored_by of held (get (codes "_computed") d))) _ e g (λ k. else_line (bad_profile (codes "_computed")) (stored_by of held (get (codes "_computed") d)) e k refl) (λ stored s g1.
        then_line (or_bad (codes "_excluded") (marks_in d)) _ e g1 (λ k. else_line (bad_profile (codes "_excluded")) (marks_in d) e k refl) (λ failed m g2.
        then_line (or_bad (codes "_excluded") (each_read marks_in ds)) _ e g2 (λ k. else_line (bad_profile (codes "_excluded")) (each_read marks_in ds) e k refl) (λ marks n g3.
        then_line (or_bad (codes "_name") (program_names ds)) _ e g3 (λ k. else_line (bad_profile (codes "_name")) (program_names ds) e k refl) (λ names o g4. no_fault _ e g4))))

    by : (b : Bool) → (if b then full_profile of held d ds else Ok (plain_profile ds)) ≡ Err e → FaultLine e
    by true g = full g
    by false g = no_fault (plain_profile ds) e g

refused_line : (bytes : List ℕ) (e : FileFault) → Refuses bytes e → FaultLine e
refused_line bytes e (inl h) = seen_line bytes e h
refused_line bytes e (inr (s, is, inl (name, f, b))) = as_fault (bad_row name) e (sym f) (bad_line s.of (tied_values s) None (named_values s.of s.parts) name (values_line s.of s.parts) b)
refused_line bytes e (inr (s, is, inr (passed, f))) =
    then_line (profile_in s.of (names_held s.parts) s.top (programs_in s.of s.top)) (λ profile. Ok (file_with s.of s.top s.parts profile)) e f
    (profile_line s.of (names_held s.parts) s.top (programs_in s.of s.top) e) (λ profile k l. no_fault _ e l)

plain_why : (w : ValueWhy) → is_one_line (why_text w) ≡ true
plain_why value_why.Json = refl
plain_why value_why.Shape = refl
plain_why value_why.Number = refl
plain_why value_why.Index = refl
plain_why value_why.Limit = refl
plain_why value_why.Computed = refl
plain_why value_why.Columns = refl
plain_why value_why.Row = refl

pub fault_line : (bytes : List ℕ) (e : FileFault) (why : FileWhy) → Refuses bytes e → IsFault why e → is_one_line (file_why_text why) ≡ true
fault_line bytes e file_why.Limit r f = refl
fault_line bytes e file_why.NotJson r f = refl
fault_line bytes e file_why.NoType r f = refl
fault_line bytes e file_why.UnknownType r f = refl
fault_line bytes e (file_why.BadProperty name w) r (v, k, is) =
    plain_append (codes "BadProperty " ++ string_bytes name ++ codes " ") (why_text w)
    (plain_append (codes "BadProperty " ++ string_bytes name) (codes " ") (as_fault e (bad_property (string_bytes name) v) is (refused_line bytes e r)) refl) (plain_why w)
fault_line bytes e (file_why.BadRow name) r is = as_fault e (bad_row (string_bytes name)) is (refused_line bytes e r)
fault_line bytes e (file_why.BadProfile name) r is = as_fault e (bad_profile (string_bytes name)) is (refused_line bytes e r)

-- ---- names of programs
word_line : (name : List ℕ) → words.is_name name ≡ true → is_one_line name ≡ true
word_line [] h = refl
word_line (b ∷ name) h = plain_name (b ∷ name) h

told_line : (d : Data) (name : List ℕ) → program_name_of d ≡ Some name → is_one_line name ≡ true
told_line d name h =
    let (word, found, k) = then_from if_name (option_and_then as_str (get (codes "_name") d)) name h in
    let (t, is) = if_from (words.is_name word) (Some word) name k in
    subst (λ z. is_one_line z ≡ true) (some_same is) (word_line word t)
  where
    some_same : {X : Type 0} {a b : X} → Some a ≡ Some b → a ≡ b
    some_same e = cc

some_equal : {X : Type 0} {a b : X} → Some a ≡ Some b → a ≡ b
some_equal e = cc

cons_line : (y : List ℕ) (r : Option (List (List ℕ))) (ys : List (List ℕ)) → option_map (λ zs. y ∷ zs) r ≡ Some ys → is_one_line y ≡ true → ((zs : List (List ℕ)) → r ≡ Some zs → list_all is_one_line zs ≡ true) → list_all is_one_line ys ≡ true
cons_line y None ys e h l = cc
cons_line y (Some zs) ys e h l = subst (λ z. list_all is_one_line z ≡ true) (some_equal e) (and_from (is_one_line y) (list_all is_one_line zs) h (l zs refl))

each_line : (ds : Items) (ys : List (List ℕ)) → each_read program_name_of ds ≡ Some ys → list_all is_one_line ys ≡ true
each_line no_items ys h = subst (λ z. list_all is_one_line z ≡ true) (some_equal h) refl
each_line (item d ds) ys h =
    let (y, is, k) = then_from (λ a. option_map (λ as'. a ∷ as') (each_read program_name_of ds)) (program_name_of d) ys h in
    cons_line y (each_read program_name_of ds) ys k (told_line d y is) (each_line ds)

names_line : (ds : Items) (names : List (List ℕ)) → program_names ds ≡ Some names → list_all is_one_line names ≡ true
names_line ds names h =
    let (ys, each, g) = then_from (if_different bytes_eq) (each_read program_name_of ds) names h in
    let (different, is) = if_from (are_different bytes_eq ys) (Some ys) names g in
    subst (λ z. list_all is_one_line z ≡ true) (some_equal is) (each_line ds ys each)

plain_names_line : (k : ℕ) (ds : Items) → list_all is_one_line (plain_names_from k ds) ≡ true
plain_names_line k no_items = refl
plain_names_line k (item d ds) = and_from (is_one_line (codes "lp" ++ decimal k)) (list_all is_one_line (plain_names_from (suc k) ds)) (plain_decimal k) (plain_names_line (suc k) ds)

profile_names : (of : ObjectType) (held : ℕ) (d : Data) (ds : Items) (p : Profile) → profile_in of held d ds ≡ Ok p → list_all is_one_line p.names ≡ true
profile_names of held d ds p h = by (is_profile_2 d) h
  where
    full : full_profile of held d ds ≡ Ok p → list_all is_one_line p.names ≡ true
    full g =
        let (stored, s, g1) = ok_from (or_bad (codes "_computed") (stored_by of held (get (codes "_computed") d))) _ p g in
        let (failed, m, g2) = ok_from (or_bad (codes "_excluded") (marks_in d)) _ p g1 in
        let (marks, n, g3) = ok_from (or_bad (codes "_excluded") (each_read marks_in ds)) _ p g2 in
        let (names, o, g4) = ok_from (or_bad (codes "_name") (program_names ds)) _ p g3 in
        let is = ok_is _ p g4 in
        subst (λ (z : Profile). list_all is_one_line z.names ≡ true) is (names_line ds names (some_from _ (program_names ds) names o))

    by : (b : Bool) → (if b then full_profile of held d ds else Ok (plain_profile ds)) ≡ Ok p → list_all is_one_line p.names ≡ true
    by true g = full g
    by false g = subst (λ (z : Profile). list_all is_one_line z.names ≡ true) (ok_is (plain_profile ds) p g) (plain_names_line 0 ds)

with_line : (vs : List (Option PropertyValue)) (names : List (List ℕ)) (marks : List (List Mark)) → list_all is_one_line names ≡ true → list_all is_one_line (map name_told (programs_with vs names marks)) ≡ true
with_line [] names marks h = refl
with_line (v ∷ vs) [] marks h = refl
with_line (v ∷ vs) (n ∷ names) [] h = refl
with_line (v ∷ vs) (n ∷ names) (m ∷ marks) h =
    let both = and_parts (is_one_line n) (list_all is_one_line names) h in
    and_from (is_one_line n) (list_all is_one_line (map name_told (programs_with vs names marks))) both.0 (with_line vs names marks both.1)

pub file_lines : (bytes : List ℕ) (f : SavedFile) → Reads bytes f → list_all is_one_line (map name_told f.programs) ≡ true
file_lines bytes f (s, is, (passed, made)) =
    let (p, k, g) = ok_from (profile_in s.of (names_held s.parts) s.top (programs_in s.of s.top)) (λ profile. Ok (file_with s.of s.top s.parts profile)) f made in
    subst (λ (z : SavedFile). list_all is_one_line (map name_told z.programs) ≡ true) (ok_is (file_with s.of s.top s.parts p) f g)
    (with_line (objectives_in s.parts) p.names p.marks (profile_names s.of (names_held s.parts) s.top (programs_in s.of s.top) p k))
