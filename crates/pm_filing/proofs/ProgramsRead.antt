-- The linear programs of a file that is read: how many they are, their names, their objectives and their marks.
use Rattle.std.proofs.lemmas.Option.{none-some as none_some, same_Some as some_is}
use Rattle.std.proofs.Common.{refl, sym, ap, subst, arith, ◌∙◌, ◌≡◌, ◌++◌, ◌∷◌, ◌&&◌, ◌||◌, ◌+◌, ◌≤◌, ◌<◌, ℕ, suc, List, [], Option, Some, None, Ok, Err, Bool, true, false, true≢false, Ordering, Less, Equal, Greater, append-nil, length-append}
use Rattle.std.proofs.lemmas.Bool.{and_from, and_parts, ltb-true}
use Rattle.std.proofs.lemmas.List.Folds.{list_all-append, list_any-append}
use Rattle.std.proofs.lemmas.Slice.Eq.{bytes_eq-Decides}
use Rattle.std.specs.Cmp.Lexicographic.{slice_cmp}
use Rattle.std.specs.Fmt.{digits}
use Rattle.std.specs.List.{list_all, list_any}
use Rattle.std.specs.Option.{is_some}
use Rattle.std.specs.Ordering.{match_ordering, nat_cmp}
use Rattle.std.specs.Prelude.{codes, if◌then◌else◌, length, map, nat_lt, not, option_and_then, option_map}
use Rattle.std.specs.Str.{bytes_eq}
use Rattle.pm_vector.proofs.Lists.{Among, here, there}
use Rattle.pm_files.proofs.Ascending.{Ascends, key_is, none_at}
use Rattle.pm_files.specs.Files.{Mark, SavedProgram}
use Rattle.pm_filing.specs.FileParts.{FileRead, Part, at_key, is_other_form, is_programs_key, objective_in, objectives_from, objectives_of, part_at, parts_in, programs, programs_of, programs_part, property_at, read_as, then_read, value, value_part}
use Rattle.pm_filing.specs.Filing.{name_told}
use Rattle.pm_filing.specs.Profiles.{are_different, each_read, items_read, objectives_in, plain_names_from, programs_by, programs_with}
use Rattle.pm_json.specs.declared.fail.ValueFail.TheVariants.{Limit, Shape}
use Rattle.pm_json.specs.Readings.{Read, and_then, before, reading}
use Rattle.pm_object.specs.Formed.{are_different as names_differ}
use Rattle.pm_props.specs.NameWords.{is_name}
use Rattle.pm_props.specs.Names.{property_named_in}
use Rattle.pm_object_type.specs.declared.object_type.ObjectType.{ObjectType}
use Rattle.pm_object_type.specs.declared.object_type.ObjectType.TheVariants.{Polytope, Cone, Fan}
use Rattle.pm_props.specs.declared.property.PropId.{PropId}
use Rattle.pm_types.specs.Forms.{rows_in}
use Rattle.pm_types.specs.Values.{PropertyValue}
use Rattle.serde_json.specs.Data.{Data, Items, Members, item, member, no_items, no_members}
use Rattle.serde_json.specs.Find.{as_object, get_member}

abbrev Objectives : Type 0
Objectives = List (Option PropertyValue)

-- ---- steps of reading, backwards
abbrev is_value : {A : Type 0} → Read A → Bool
is_value (Ok a) = true
is_value (Err e) = false

abbrev value_ok : {A : Type 0} → A → Read A
value_ok a = Ok a

pub read_is : {A : Type 0} (a b : A) → value_ok a ≡ value_ok b → a ≡ b
read_is a b h = cc

pub no_read : {A : Type 0} (e : _) (b : A) → Err e ≡ value_ok b → ⊥
no_read e b h = true≢false (sym (ap is_value h))

pub read_then : {A B : Type 0} (r : Read A) (next : A → Read B) (b : B) → and_then r next ≡ Ok b → (a : A) × (r ≡ Ok a) × (next a ≡ Ok b)
read_then (Ok a) next b h = (a, refl, h)
read_then (Err e) next b h = absurd (no_read e b h)

abbrev file_ok : {A : Type 0} → A → FileRead A
file_ok a = Ok a

abbrev is_file : {A : Type 0} → FileRead A → Bool
is_file (Ok a) = true
is_file (Err e) = false

file_is : {A : Type 0} (a b : A) → file_ok a ≡ file_ok b → a ≡ b
file_is a b h = cc

no_file : {A : Type 0} (e : _) (b : A) → Err e ≡ file_ok b → ⊥
no_file e b h = true≢false (sym (ap is_file h))

file_then : {A B : Type 0} (r : FileRead A) (next : A → FileRead B) (b : B) → then_read r next ≡ Ok b → (a : A) × (r ≡ Ok a) × (next a ≡ Ok b)
file_then (Ok a) next b h = (a, refl, h)
file_then (Err e) next b h = absurd (no_file e b h)

key_read : {A : Type 0} (key : List ℕ) (r : Read A) (a : A) → at_key key r ≡ Ok a → r ≡ Ok a
key_read key (Ok x) a h = ap Ok (file_is x a h)
key_read key (Err why) a h = absurd (no_file _ a h)

-- ---- how many they are
abbrev pub count : Items → ℕ
count no_items = 0
count (item d ds) = suc (count ds)

pub objectives_few : (k : ℕ) (ds : Items) (vs : Objectives) → k ≤ 4 → objectives_from k ds ≡ Ok vs → k + count ds ≤ 4
objectives_few k no_items vs l h = omega arith
objectives_few k (item d ds) vs l h = by (is_some (as_object d)) (nat_lt k 4) refl h (λ ws m g. objectives_few (suc k) ds ws m g)
  where
    by : (a b : Bool) → nat_lt k 4 ≡ b → (if a then (if b then and_then (objective_in d) (λ v. before v (objectives_from (suc k) ds)) else Err Limit) else Err Shape) ≡ Ok vs
        → ((ws : Objectives) → suc k ≤ 4 → objectives_from (suc k) ds ≡ Ok ws → suc k + count ds ≤ 4) → k + suc (count ds) ≤ 4
    by true true e g more_few =
        let (v, first, more) = read_then (objective_in d) (λ v. before v (objectives_from (suc k) ds)) vs g in
        let (ws, later, is) = read_then (objectives_from (suc k) ds) (λ as'. Ok (v ∷ as')) vs more in
        let room = ltb-true k 4 e in
        let few = more_few ws (omega (arith, room)) later in
        omega (arith, few)
    by true false e g more_few = absurd (no_read Limit vs g)
    by false b e g more_few = absurd (no_read Shape vs g)

-- ---- the objectives of the parts
-- what stands under the key of programs: nothing, something that is read over, or these objectives
pub data ProgramsAt (of : ObjectType) : Option Data → Objectives → Type 0 where
  none : ProgramsAt of None []
  other : (d : Data) → is_programs_key of (codes "LP") ≡ false → ProgramsAt of (Some d) []
  some : (d : Data) (vs : Objectives) → is_programs_key of (codes "LP") ≡ true → objectives_of d ≡ Ok vs → ProgramsAt of (Some d) vs

objectives_append : (xs ys : List Part) → objectives_in (xs ++ ys) ≡ objectives_in xs ++ objectives_in ys
objectives_append [] ys = refl
objectives_append (value p v ∷ xs) ys = objectives_append xs ys
objectives_append (programs vs ∷ xs) ys = ap (λ l. vs ++ l) (objectives_append xs ys) ∙ grouped vs (objectives_in xs) (objectives_in ys)
  where
    grouped : (us ws zs : Objectives) → us ++ (ws ++ zs) ≡ (us ++ ws) ++ zs
    grouped [] ws zs = refl
    grouped (u ∷ us) ws zs = ap (λ l. u ∷ l) (grouped us ws zs)

-- at another key there is no objective
no_objectives : (of : ObjectType) (k : List ℕ) (d : Data) (part : List Part) → is_programs_key of k ≡ false → part_at of k d ≡ Ok part → objectives_in part ≡ []
no_objectives of k d part n h = by (is_programs_key of k) n (key_read k _ part h)
  where
    one : (p : PropId) (r : Read PropertyValue) → and_then r (λ v. Ok (value p v ∷ [])) ≡ Ok part → objectives_in part ≡ []
    one p (Ok v) g = ap objectives_in (sym (read_is (value p v ∷ []) part g))
    one p (Err why) g = absurd (no_read why part g)

    at : (q : Option PropId) → value_part (read_as q d) d ≡ Ok part → objectives_in part ≡ []
    at None g = ap objectives_in (sym (read_is [] part g))
    at (Some p) g = formed (is_other_form p d) g
      where
        formed : (b : Bool) → value_part (if b then None else Some p) d ≡ Ok part → objectives_in part ≡ []
        formed true u = ap objectives_in (sym (read_is [] part u))
        formed false u = one p (reading p d) u

    by : (b : Bool) → b ≡ false → (if b then programs_part d else value_part (property_at of k d) d) ≡ Ok part → objectives_in part ≡ []
    by true e g = absurd (true≢false e)
    by false e g = at (property_named_in of k) g

-- at the key of programs they are read
own_objectives : (of : ObjectType) (k : List ℕ) (d : Data) (part : List Part) → is_programs_key of k ≡ true → part_at of k d ≡ Ok part → (vs : Objectives) × (objectives_of d ≡ Ok vs) × (objectives_in part ≡ vs)
own_objectives of k d part n h = by (is_programs_key of k) n (key_read k _ part h)
  where
    by : (b : Bool) → b ≡ true → (if b then programs_part d else value_part (property_at of k d) d) ≡ Ok part → (vs : Objectives) × (objectives_of d ≡ Ok vs) × (objectives_in part ≡ vs)
    by true e g =
        let (vs, is, more) = read_then (objectives_of d) (λ vs. Ok (programs vs ∷ [])) part g in
        (vs, is, ap objectives_in (sym (read_is (programs vs ∷ []) part more)) ∙ append-nil vs)
    by false e g = absurd (true≢false (sym e))

-- the key of programs is LP
pub key_is_LP : (of : ObjectType) (k : List ℕ) → is_programs_key of k ≡ true → k ≡ codes "LP"
key_is_LP Polytope k h = (bytes_eq-Decides k (codes "LP")).0 h
key_is_LP Cone k h = absurd (true≢false (sym h))
key_is_LP Fan k h = absurd (true≢false (sym h))

pub none_there : (of : ObjectType) {found : Option Data} {vs : Objectives} → ProgramsAt of found vs → found ≡ None → vs ≡ []
none_there of none e = refl
none_there of (other d n) e = refl
none_there of (some d vs n is) e = absurd (none_some d (sym e))

-- what is read of what stands there
pub some_there : (of : ObjectType) {found : Option Data} {vs : Objectives} (d : Data) (ws : Objectives) → ProgramsAt of found vs → found ≡ Some d → is_programs_key of (codes "LP") ≡ true → objectives_of d ≡ Ok ws → vs ≡ ws
some_there of d ws none e n is = absurd (none_some d e)
some_there of d ws (other c m) e n is = absurd (true≢false (sym n ∙ m))
some_there of d ws (some c vs m told) e n is = read_is vs ws (sym told ∙ ap objectives_of (some_is c d e) ∙ is)

abbrev is_equal : Ordering → Bool
is_equal Less = false
is_equal Equal = true
is_equal Greater = false

pub programs_at : (of : ObjectType) (ms : Members) (parts : List Part) → Ascends ms → parts_in of ms ≡ Ok parts → ProgramsAt of (get_member (codes "LP") ms) (objectives_in parts)
programs_at of no_members parts a h = subst (λ ps. ProgramsAt of None (objectives_in ps)) (file_is [] parts h) none
programs_at of (member k d ms) parts a h =
    let (part, first, more) = file_then (part_at of k d) (λ part. then_read (parts_in of ms) (λ parts'. Ok (part ++ parts'))) parts h in
    let (rest, later, is) = file_then (parts_in of ms) (λ parts'. Ok (part ++ parts')) parts more in
    let all : objectives_in part ++ objectives_in rest ≡ objectives_in parts = sym (objectives_append part rest) ∙ ap objectives_in (file_is (part ++ rest) parts is) in
    subst (λ vs. ProgramsAt of (get_member (codes "LP") (member k d ms)) vs) all (by (slice_cmp nat_cmp (codes "LP") k) refl part first (objectives_in rest) (programs_at of ms rest a.1 later))
  where
    past : (o : Ordering) → slice_cmp nat_cmp (codes "LP") k ≡ o → is_equal o ≡ false → (b : Bool) → is_programs_key of k ≡ b → b ≡ false
    past o e n false g = refl
    past o e n true g = absurd (true≢false (ap is_equal (sym (ap (slice_cmp nat_cmp (codes "LP")) (key_is_LP of k g)) ∙ e) ∙ n))

    passes : (o : Ordering) → slice_cmp nat_cmp (codes "LP") k ≡ o → is_equal o ≡ false → (part : List Part) → part_at of k d ≡ Ok part → (vs : Objectives) → ProgramsAt of (get_member (codes "LP") ms) vs → ProgramsAt of (get_member (codes "LP") ms) (objectives_in part ++ vs)
    passes o e n part first vs r = subst (λ us. ProgramsAt of (get_member (codes "LP") ms) (us ++ vs)) (sym (no_objectives of k d part (past o e n (is_programs_key of k) refl) first)) r

    equal : codes "LP" ≡ k → (part : List Part) → part_at of k d ≡ Ok part → (vs : Objectives) → ProgramsAt of (get_member (codes "LP") ms) vs → (b : Bool) → is_programs_key of k ≡ b → ProgramsAt of (Some d) (objectives_in part ++ vs)
    equal e part first vs r b g =
        let gone : vs ≡ [] = none_there of r (ap (λ q. get_member q ms) e ∙ none_at k ms a.0 a.1) in
        subst (λ us. ProgramsAt of (Some d) (objectives_in part ++ us)) (sym gone) (subst (λ us. ProgramsAt of (Some d) us) (sym (append-nil (objectives_in part))) (at b g))
      where
        at : (b : Bool) → is_programs_key of k ≡ b → ProgramsAt of (Some d) (objectives_in part)
        at true g = let (us, is, same) = own_objectives of k d part g first in some d (objectives_in part) (ap (is_programs_key of) e ∙ g) (is ∙ ap Ok (sym same))
        at false g = subst (λ us. ProgramsAt of (Some d) us) (sym (no_objectives of k d part g first)) (other d (ap (is_programs_key of) e ∙ g))

    by : (o : Ordering) → slice_cmp nat_cmp (codes "LP") k ≡ o → (part : List Part) → part_at of k d ≡ Ok part → (vs : Objectives) → ProgramsAt of (get_member (codes "LP") ms) vs
        → ProgramsAt of (match_ordering o (get_member (codes "LP") ms) (Some d) (get_member (codes "LP") ms)) (objectives_in part ++ vs)
    by Less e part first vs r = passes Less e refl part first vs r
    by Greater e part first vs r = passes Greater e refl part first vs r
    by Equal e part first vs r = equal (key_is (codes "LP") k e) part first vs r (is_programs_key of k) refl

-- the programs of the top are at most four, and none but a polytope's
pub few_programs : (of : ObjectType) {found : Option Data} {vs : Objectives} → ProgramsAt of found vs → count (if is_programs_key of (codes "LP") then programs_by found else no_items) ≤ 4
few_programs of none = by (is_programs_key of (codes "LP"))
  where
    few : 0 ≤ 4
    few = omega arith

    by : (b : Bool) → count (if b then no_items else no_items) ≤ 4
    by true = few
    by false = few
few_programs of (other d n) = let z : 0 ≤ 4 = omega arith in rw n z
few_programs of (some d vs n is) =
    let (ds, items, from) = read_then (programs_of d) (objectives_from 0) vs is in
    let most = objectives_few 0 ds vs (omega arith) from in
    let few : count ds ≤ 4 = omega (arith, most) in
    let same : items_read (programs_of d) ≡ ds = ap items_read items in
    rw (n, same) few

never : 0 < 0 → ⊥
never h = omega arith

pub only_polytopes : (of : ObjectType) (found : Option Data) → 0 < count (if is_programs_key of (codes "LP") then programs_by found else no_items) → of ≡ Polytope
only_polytopes Polytope found h = refl
only_polytopes Cone found h = absurd (never h)
only_polytopes Fan found h = absurd (never h)

-- ---- names
pub same_test : (names : List (List ℕ)) → are_different bytes_eq names ≡ names_differ names
same_test [] = refl
same_test (name ∷ names) = ap (λ b. not (list_any (bytes_eq name) names) && b) (same_test names)

too_many : (n : ℕ) → suc (suc (suc (suc (suc n)))) ≤ 4 → ⊥
too_many n h = omega arith

pub plain_words : (ds : Items) → count ds ≤ 4 → list_all is_name (plain_names_from 0 ds) ≡ true
unfolding digits
plain_words no_items h = refl
plain_words (item a no_items) h = refl
plain_words (item a (item b no_items)) h = refl
plain_words (item a (item b (item c no_items))) h = refl
plain_words (item a (item b (item c (item d no_items)))) h = refl
plain_words (item a (item b (item c (item d (item e ds))))) h = absurd (too_many (count ds) h)

pub plain_differ : (ds : Items) → count ds ≤ 4 → names_differ (plain_names_from 0 ds) ≡ true
unfolding digits
plain_differ no_items h = refl
plain_differ (item a no_items) h = refl
plain_differ (item a (item b no_items)) h = refl
plain_differ (item a (item b (item c no_items))) h = refl
plain_differ (item a (item b (item c (item d no_items)))) h = refl
plain_differ (item a (item b (item c (item d (item e ds))))) h = absurd (too_many (count ds) h)

pub plain_count : (k : ℕ) (ds : Items) → length (plain_names_from k ds) ≡ count ds
plain_count k no_items = refl
plain_count k (item d ds) = ap suc (plain_count (suc k) ds)

pub each_count : {A : Type 0} (read_item : Data → Option A) (ds : Items) (xs : List A) → each_read read_item ds ≡ Some xs → length xs ≡ count ds
each_count read_item no_items xs h = ap length (sym (some_is [] xs h))
each_count {A} read_item (item d ds) xs h = by (read_item d) h (λ ys e. each_count read_item ds ys e)
  where
    rest : (a : A) (r : Option (List A)) → each_read read_item ds ≡ r → option_map (λ as'. a ∷ as') r ≡ Some xs → ((ys : List A) → each_read read_item ds ≡ Some ys → length ys ≡ count ds) → length xs ≡ suc (count ds)
    rest a None e g more = absurd (none_some xs g)
    rest a (Some ys) e g more = ap length (sym (some_is (a ∷ ys) xs g)) ∙ ap suc (more ys e)

    by : (x : Option A) → option_and_then (λ a. option_map (λ as'. a ∷ as') (each_read read_item ds)) x ≡ Some xs → ((ys : List A) → each_read read_item ds ≡ Some ys → length ys ≡ count ds) → length xs ≡ suc (count ds)
    by None g more = absurd (none_some xs g)
    by (Some a) g more = rest a (each_read read_item ds) refl g more

-- ---- the programs with their names, objectives and marks
-- a front of the names
pub record IsFront (xs ys : List (List ℕ)) : Type 0 where
  pub rest : List (List ℕ)
  pub whole : ys ≡ xs ++ rest

pub names_front : (vs : Objectives) (names : List (List ℕ)) (marks : List (List Mark)) → IsFront (map name_told (programs_with vs names marks)) names
names_front [] names marks = record { rest = names; whole = refl }
names_front (v ∷ vs) [] marks = record { rest = []; whole = refl }
names_front (v ∷ vs) (name ∷ names) [] = record { rest = name ∷ names; whole = refl }
names_front (v ∷ vs) (name ∷ names) (ms ∷ marks) = let f = names_front vs names marks in record { rest = f.rest; whole = ap (λ l. name ∷ l) f.whole }

front_all : (test : List ℕ → Bool) (xs ys : List (List ℕ)) → IsFront xs ys → list_all test ys ≡ true → list_all test xs ≡ true
front_all test xs ys f h = (and_parts (list_all test xs) (list_all test f.rest) (sym (ap (list_all test) f.whole ∙ list_all-append test xs f.rest) ∙ h)).0

front_differ : (xs rest : List (List ℕ)) → names_differ (xs ++ rest) ≡ true → names_differ xs ≡ true
front_differ [] rest h = refl
front_differ (x ∷ xs) rest h =
    let both = and_parts (not (list_any (bytes_eq x) (xs ++ rest))) (names_differ (xs ++ rest)) h in
    and_from (not (list_any (bytes_eq x) xs)) (names_differ xs) (less (list_any (bytes_eq x) xs) (list_any (bytes_eq x) rest) (sym (ap not (list_any-append (bytes_eq x) xs rest)) ∙ both.0)) (front_differ xs rest both.1)
  where
    less : (a b : Bool) → not (a || b) ≡ true → not a ≡ true
    less true b e = e
    less false b e = refl

front_short : (xs rest : List (List ℕ)) → length (xs ++ rest) ≤ 4 → length xs ≤ 4
front_short xs rest h = let n = length-append xs rest in omega (arith, n)

-- what is so of the names is so of a front of them
pub record AreNames (names : List (List ℕ)) : Type 0 where
  pub few : length names ≤ 4
  pub words : list_all is_name names ≡ true
  pub different : names_differ names ≡ true

pub front_names : (xs ys : List (List ℕ)) → IsFront xs ys → AreNames ys → AreNames xs
front_names xs ys f n = record {
  few = front_short xs f.rest (subst (λ z. length z ≤ 4) f.whole n.few);
  words = front_all is_name xs ys f n.words;
  different = front_differ xs f.rest (subst (λ z. names_differ z ≡ true) f.whole n.different);
}

-- each has an objective that was read, and marks that were read
pub record OfRead (vs : Objectives) (marks : List (List Mark)) (p : SavedProgram) : Type 0 where
  pub v : Option PropertyValue
  pub among : Among v vs
  pub objective : p.objective ≡ option_map rows_in v
  pub failed : Among p.failed marks

pub of_read : (vs : Objectives) (names : List (List ℕ)) (marks : List (List Mark)) (p : SavedProgram) → Among p (programs_with vs names marks) → OfRead vs marks p
of_read [] names marks p i = elim i [ ]
of_read (v ∷ vs) [] marks p i = elim i [ ]
of_read (v ∷ vs) (name ∷ names) [] p i = elim i [ ]
of_read (v ∷ vs) (name ∷ names) (ms ∷ marks) p here = record { v = v; among = here; objective = refl; failed = here }
of_read (v ∷ vs) (name ∷ names) (ms ∷ marks) p (there i) = let r = of_read vs names marks p i in record { v = r.v; among = there r.among; objective = r.objective; failed = there r.failed }
