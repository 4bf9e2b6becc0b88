-- What is loaded of the file of an object holds what the object holds, and has its marks.
use Rattle.std.proofs.lemmas.Option.{same_Some as some_is, none-some as none_some}
use Rattle.pm_filing.proofs.HeldSets.{both_ways}
use Rattle.std.proofs.Common.{refl, sym, ap, subst, arith, inl, inr, ◌∙◌, ◌≡◌, ◌≢◌, ◌++◌, ◌∷◌, ◌&&◌, ◌||◌, ◌⊎◌, ◌+◌, ◌<◌, ◌≤◌, ℕ, length, suc, zero, List, [], Option, Some, None, Bool, true, false, true≢false}
use Rattle.std.proofs.lemmas.Bool.{and_from, and_parts, lt-ltb, ltb-true, not-true}
use Rattle.std.proofs.lemmas.Slice.Eq.{bytes_eq-Decides}
use Rattle.std.specs.List.{AllPairs, Contains, list_any}
use Rattle.std.specs.Option.{is_none, is_some}
use Rattle.std.specs.Prelude.{filter, flat_map, fold, if◌then◌else◌, map, nat_lt, not, option_map, option_to_list, slice_get}
use Rattle.std.specs.Str.{bytes_eq}
use Rattle.pm_vector.proofs.Filters.{among_filter, among_map, any_from, any_to, filter_among, map_among}
use Rattle.pm_vector.proofs.Lists.{Among, Contains_among, among_All, among_Contains, among_append, among_append_left, among_append_right, here, there}
use Rattle.pm_files.specs.Files.{Mark, SavedFile}
use Rattle.pm_filing.proofs.HeldSets.{set_of-has}
use Rattle.pm_filing.proofs.FlatLists.{among_flat, flat_among}
use Rattle.pm_filing.proofs.Objectives.{objective_is, rows_of_objective}
use Rattle.pm_filing.proofs.Saved.{held_objective, value_held, values_of}
use Rattle.pm_filing.proofs.SavedPrograms.{names_saved}
use Rattle.pm_filing.specs.Filing.{failure_of, found_names, is_found, is_own_found, label_in, labelled_from, loaded_value, mark_by, mark_read, mark_written, marked, marks_of_programs, marks_written, name_told, objective_held, objective_rows, objective_value, objectives_held, property_with_value, rule_labelled, saved_file, saved_programs, unsettled_object, with_mark}
use Rattle.pm_filing.specs.Whole.{IsFailure, IsLoadedAgain, IsSameFile, held_again, is_kept, is_place}
use Rattle.pm_object.proofs.Formed.{nobody, only, value_among}
use Rattle.pm_object.proofs.Viewing.{among_read}
use Rattle.pm_object.specs.Formed.{IsFormed, are_once, is_placed, stands_at}
use Rattle.pm_object.specs.State.{HeldValue, State, file_value, given_at, read_at, settling, value_of}
use Rattle.pm_object.specs.declared.held.Excluded.{Excluded}
use Rattle.pm_object.specs.declared.held.Origin.TheVariants as origin
use Rattle.pm_props.proofs.Places.{same_place_is, same_place_refl, same_property_is, same_property_refl}
use Rattle.pm_props.specs.Places.{place_of, same_place, same_property}
use Rattle.pm_props.specs.Properties.{has_program}
use Rattle.pm_props.specs.Sets.{has}
use Rattle.pm_props.specs.declared.kind.RuleId.{RuleId}
use Rattle.pm_props.specs.declared.property.PropId.{PropId}
use Rattle.pm_props.specs.declared.property.PropId.TheVariants.{LinearObjective}
use Rattle.pm_rules.specs.Books.{IsBook}
use Rattle.pm_rules.specs.Rules.{rule_at}
use Rattle.pm_rules.specs.declared.rule.Rule.{Rule}
use Rattle.pm_types.specs.Forms.{is_formed, rows_in}
use Rattle.pm_types.specs.Values.{PropertyValue}
use Rattle.pm_vector.specs.Numbers.{Ratio}

-- ---- held values
-- what stands somewhere
stands_from : (held : List HeldValue) {h : HeldValue} (place : Option ℕ) (p : PropId) → Among h held → h.place ≡ place → same_property p h.property ≡ true → stands_at place p held ≡ true
stands_from held {h} place p i e s =
    any_from (λ (x : HeldValue). same_property p x.property && same_place x.place place) i
    (and_from (same_property p h.property) (same_place h.place place) s (subst (λ q. same_place q place ≡ true) (sym e) (same_place_refl place)))

unique : (held : List HeldValue) {h g : HeldValue} → are_once held ≡ true → Among h held → Among g held → same_property h.property g.property ≡ true → h.place ≡ g.place → h ≡ g
unique [] once i j s e = elim i [ ]
unique (x ∷ held) once here here s e = refl
unique (x ∷ held) {h} {g} once here (there j) s e =
    let b = and_parts (not (stands_at x.place x.property held)) (are_once held) once in
    absurd (true≢false (sym (stands_from held x.place x.property j (sym e) s) ∙ not-true (stands_at x.place x.property held) b.0))
unique (x ∷ held) {h} {g} once (there i) here s e =
    let b = and_parts (not (stands_at x.place x.property held)) (are_once held) once in
    let back : same_property x.property h.property ≡ true = subst (λ q. same_property q h.property ≡ true) (same_property_is h.property x.property s) (same_property_refl h.property) in
    absurd (true≢false (sym (stands_from held x.place x.property i e back) ∙ not-true (stands_at x.place x.property held) b.0))
unique (x ∷ held) once (there i) (there j) s e = unique held (and_parts (not (stands_at x.place x.property held)) (are_once held) once).1 i j s e

is_nowhere : (p : Option ℕ) → is_none p ≡ true → p ≡ None
is_nowhere None t = refl
is_nowhere (Some n) t = absurd (true≢false (sym t))

-- the property of a held value of the object itself is among those that were computed where the value was
found_is : (o : State) (h : HeldValue) → IsFormed o → Among h o.held → h.place ≡ None → has (found_names o.held) h.property ≡ is_found h.origin
found_is o h f i placed = set_of-has (map (λ x. x.property) (filter is_own_found o.held)) h.property ∙ both_ways (list_any (λ q. same_property q h.property) (map (λ x. x.property) (filter is_own_found o.held))) (is_found h.origin) to from
  where
    to : list_any (λ q. same_property q h.property) (map (λ x. x.property) (filter is_own_found o.held)) ≡ true → is_found h.origin ≡ true
    to e =
        let (q, j, same) = any_to (λ (r : PropId). same_property r h.property) (map (λ (x : HeldValue). x.property) (filter is_own_found o.held)) e in
        let (g, k, is) = map_among (λ (x : HeldValue). x.property) (filter is_own_found o.held) j in
        let (l, t) = filter_among is_own_found o.held k in
        let b = and_parts (is_none g.place) (is_found g.origin) t in
        let one : g ≡ h = unique o.held f.once l i (subst (λ r. same_property r h.property ≡ true) is same) (is_nowhere g.place b.0 ∙ sym placed) in
        subst (λ (x : HeldValue). is_found x.origin ≡ true) one b.1

    from : is_found h.origin ≡ true → list_any (λ q. same_property q h.property) (map (λ x. x.property) (filter is_own_found o.held)) ≡ true
    from e =
        any_from (λ q. same_property q h.property) (among_map (λ (x : HeldValue). x.property) (among_filter is_own_found i (and_from (is_none h.place) (is_found h.origin) (ap is_none placed) e))) (same_property_refl h.property)

own_again : (h : HeldValue) → h.place ≡ None → file_value (if is_found h.origin then origin.Stored else origin.Given) h.property h.value ≡ held_again h
own_again h placed = sym (ap (λ (q : Option ℕ). record { place = q; property = h.property; value = h.value; origin = if is_none q && is_found h.origin then origin.Stored else origin.Given }) placed)

value_again : (o : State) (g : SavedFile) (h : HeldValue) → IsFormed o → ((p : PropId) → has g.stored p ≡ has (found_names o.held) p) → Among h o.held → h.place ≡ None → loaded_value g.stored (property_with_value h) ≡ held_again h
value_again o g h f same i placed = ap (λ (t : Bool). file_value (if t then origin.Stored else origin.Given) h.property h.value) (same h.property ∙ found_is o h f i placed) ∙ own_again h placed

objective_again : (h : HeldValue) (k : ℕ) → h.place ≡ Some k → h.property ≡ LinearObjective → given_at (Some k) LinearObjective h.value ≡ held_again h
objective_again h k placed p =
    sym (ap (λ (q : Option ℕ). record { place = q; property = h.property; value = h.value; origin = if is_none q && is_found h.origin then origin.Stored else origin.Given }) placed
    ∙ ap (λ (r : PropId). record { place = Some k; property = r; value = h.value; origin = origin.Given }) p)

-- what is held at a place is read there
held_there : (sub : Option ℕ) (held : List HeldValue) (h : HeldValue) → are_once held ≡ true → Among h held → h.place ≡ place_of sub h.property → value_of h.property (read_at sub held) ≡ Some h.value
held_there sub held h once i placed = by (value_of h.property (read_at sub held)) refl
  where
    read : Among h (read_at sub held)
    read = among_filter (λ (g : HeldValue). same_place g.place (place_of sub g.property)) i (subst (λ q. same_place q (place_of sub h.property) ≡ true) (sym placed) (same_place_refl (place_of sub h.property)))

    by : (v : Option PropertyValue) → value_of h.property (read_at sub held) ≡ v → value_of h.property (read_at sub held) ≡ Some h.value
    by None e = absurd (true≢false (sym (same_property_refl h.property) ∙ nobody h.property (read_at sub held) e read))
    by (Some w) e =
        let (g, j, p, v) = value_among h.property (read_at sub held) w e in
        let (k, at) = among_read sub held j in
        let one : g ≡ h = unique held once k i (subst (λ q. same_property g.property q ≡ true) p (same_property_refl g.property)) (at ∙ ap (place_of sub) p ∙ sym placed) in
        e ∙ ap Some (sym v ∙ ap (λ (x : HeldValue). x.value) one)

-- ---- the programs that are written, one at a place
among_objectives : (book : List Rule) (o : State) (k : ℕ) (names : List (List ℕ)) (j i : ℕ) (rows : List (List Ratio)) → j < length names → i ≡ k + j → objective_rows (value_of LinearObjective (read_at (Some i) o.held)) ≡ Some rows
    → Among (given_at (Some i) LinearObjective (objective_value rows)) (objectives_held k (saved_programs book o k names))
among_objectives book o k [] j i rows l e g = absurd (omega arith)
among_objectives book o k (name ∷ names) zero i rows l e g =
    let same : k ≡ i = omega (arith, e) in
    let first : objective_held k (objective_rows (value_of LinearObjective (read_at (Some k) o.held))) ≡ given_at (Some i) LinearObjective (objective_value rows) ∷ [] =
    ap (λ z. objective_held z (objective_rows (value_of LinearObjective (read_at (Some z) o.held)))) same ∙ ap (objective_held i) g in
    among_append_left (objectives_held (suc k) (saved_programs book o (suc k) names)) (subst (λ xs. Among (given_at (Some i) LinearObjective (objective_value rows)) xs) (sym first) here)
among_objectives book o k (name ∷ names) (suc j) i rows l e g =
    among_append_right (objective_held k (objective_rows (value_of LinearObjective (read_at (Some k) o.held)))) (among_objectives book o (suc k) names j i rows (omega arith) (omega (arith, e)) g)

record IsObjective (o : State) (h : HeldValue) : Type 0 where
  i : ℕ
  rows : List (List Ratio)
  held : objective_rows (value_of LinearObjective (read_at (Some i) o.held)) ≡ Some rows
  is : h ≡ given_at (Some i) LinearObjective (objective_value rows)

objectives_among : (book : List Rule) (o : State) (k : ℕ) (names : List (List ℕ)) (h : HeldValue) → Among h (objectives_held k (saved_programs book o k names)) → IsObjective o h
objectives_among book o k [] h i = elim i [ ]
objectives_among book o k (name ∷ names) h i = elim (among_append (objective_held k (objective_rows (value_of LinearObjective (read_at (Some k) o.held)))) (objectives_held (suc k) (saved_programs book o (suc k) names)) i) [
  | inl j ↦ by (objective_rows (value_of LinearObjective (read_at (Some k) o.held))) refl j
  | inr j ↦ objectives_among book o (suc k) names h j
]
  where
    by : (r : Option (List (List Ratio))) → objective_rows (value_of LinearObjective (read_at (Some k) o.held)) ≡ r → Among h (objective_held k r) → IsObjective o h
    by None e j = elim j [ ]
    by (Some rows) e j = record { i = k; rows = rows; held = e; is = only j }

-- the exclusions that the marks of one place tell
abbrev told_at : List Rule → State → Option ℕ → List Excluded
told_at book o sub = flat_map (mark_read book sub) (marks_written book sub o.excluded)

among_marks : (book : List Rule) (o : State) (k : ℕ) (names : List (List ℕ)) (j i : ℕ) (x : Excluded) → j < length names → i ≡ k + j → Among x (told_at book o (Some i)) → Among x (marks_of_programs book k (saved_programs book o k names))
among_marks book o k [] j i x l e t = absurd (omega arith)
among_marks book o k (name ∷ names) zero i x l e t =
    let same : i ≡ k = omega (arith, e) in
    among_append_left (marks_of_programs book (suc k) (saved_programs book o (suc k) names)) (subst (λ z. Among x (told_at book o (Some z))) same t)
among_marks book o k (name ∷ names) (suc j) i x l e t = among_append_right (told_at book o (Some k)) (among_marks book o (suc k) names j i x (omega arith) (omega (arith, e)) t)

record IsToldAt (book : List Rule) (o : State) (n : ℕ) (x : Excluded) : Type 0 where
  i : ℕ
  within : i < n
  told : Among x (told_at book o (Some i))

marks_among : (book : List Rule) (o : State) (k n : ℕ) (names : List (List ℕ)) (x : Excluded) → k + length names ≤ n → Among x (marks_of_programs book k (saved_programs book o k names)) → IsToldAt book o n x
marks_among book o k n [] x l i = elim i [ ]
marks_among book o k n (name ∷ names) x l i = elim (among_append (told_at book o (Some k)) (marks_of_programs book (suc k) (saved_programs book o (suc k) names)) i) [
  | inl j ↦ record { i = k; within = omega (arith, l); told = j }
  | inr j ↦ marks_among book o (suc k) n names x (omega (arith, l)) j
]

-- ---- marks
front_stays : (front ms : List Mark) {m : Mark} → Among m front → Among m (fold with_mark front ms)
front_stays front [] i = i
front_stays front (x ∷ ms) {m} i = front_stays (with_mark front x) ms (by (list_any (λ (n : Mark). bytes_eq n.0 x.0) front))
  where
    by : (t : Bool) → Among m (if t then front else front ++ x ∷ [])
    by true = i
    by false = among_append_left (x ∷ []) i

-- of the label of a mark one is left
record IsLeft (label : List ℕ) (ms : List Mark) : Type 0 where
  mark : Mark
  among : Among mark ms
  same : mark.0 ≡ label

label_left : (front ms : List Mark) {m : Mark} → Among m ms → IsLeft m.0 (fold with_mark front ms)
label_left front (x ∷ ms) here = by (list_any (λ (n : Mark). bytes_eq n.0 x.0) front) refl
  where
    by : (t : Bool) → list_any (λ (n : Mark). bytes_eq n.0 x.0) front ≡ t → IsLeft x.0 (fold with_mark (if t then front else front ++ x ∷ []) ms)
    by true e = let (n, i, same) = any_to (λ (n : Mark). bytes_eq n.0 x.0) front e in record { mark = n; among = front_stays front ms i; same = (bytes_eq-Decides n.0 x.0).0 same }
    by false e = record { mark = x; among = front_stays (front ++ x ∷ []) ms (among_append_right front here); same = refl }
label_left front (x ∷ ms) (there i) = label_left (with_mark front x) ms i
label_left front [] i = elim i [ ]

-- what is left was there
left_from : (front ms : List Mark) {m : Mark} → Among m (fold with_mark front ms) → Among m front ⊎ Among m ms
left_from front [] i = inl i
left_from front (x ∷ ms) {m} i = elim (left_from (with_mark front x) ms i) [ inl j ↦ by (list_any (λ (n : Mark). bytes_eq n.0 x.0) front) j | inr j ↦ inr (there j) ]
  where
    last : Among m (x ∷ []) → Among m (x ∷ ms)
    last k = subst (λ (z : Mark). Among z (x ∷ ms)) (sym (only k)) here

    by : (t : Bool) → Among m (if t then front else front ++ x ∷ []) → Among m front ⊎ Among m (x ∷ ms)
    by true j = inl j
    by false j = elim (among_append front (x ∷ []) j) [ inl k ↦ inl k | inr k ↦ inr (last k) ]

-- the label of a rule is that of no other
labels_apart : (rule : Rule) (rules : List Rule) → AllPairs (λ a b. a.label ≢ b.label) (rule ∷ rules) → (other : Rule) → Among other rules → bytes_eq rule.label other.label ≡ true → ⊥
labels_apart rule rules apart other i e =
    among_All (λ (x : Rule). rule.label ≢ x.label) i (λ j d l. apart zero (suc j) d (omega arith) (omega arith)) ((bytes_eq-Decides rule.label other.label).0 e)

got_among : {X : Type 0} (xs : List X) (i : ℕ) (x : X) → slice_get xs i ≡ Some x → Among x xs
got_among [] i x q = absurd (none_some x q)
got_among (y ∷ ys) zero x q = subst (λ z. Among z (y ∷ ys)) (some_is y x q) here
got_among (y ∷ ys) (suc i) x q = there (got_among ys i x q)

abbrev id_at : ℕ → RuleId
id_at k = record { 0 = k }

labelled_at : (rules : List Rule) (k i : ℕ) (rule : Rule) → AllPairs (λ a b. a.label ≢ b.label) rules → slice_get rules i ≡ Some rule → labelled_from k rule.label rules ≡ Some (record { 0 = k + i })
labelled_at [] k i rule apart q = absurd (none_some rule q)
labelled_at (x ∷ rules) k zero rule apart q =
    let is : x ≡ rule = some_is x rule q in
    let z : k + 0 ≡ k = omega arith in
    let same : bytes_eq x.label rule.label ≡ true = (bytes_eq-Decides x.label rule.label).1 (ap (λ (r : Rule). r.label) is) in
    rw (same, z) refl
labelled_at (x ∷ rules) k (suc i) rule apart q = by (bytes_eq x.label rule.label) refl (labelled_at rules (suc k) i rule (λ a b d l m. apart (suc a) (suc b) d (omega arith) (omega arith)) q)
  where
    by : (t : Bool) → bytes_eq x.label rule.label ≡ t → labelled_from (suc k) rule.label rules ≡ Some (record { 0 = suc k + i }) → (if t then Some (record { 0 = k }) else labelled_from (suc k) rule.label rules) ≡ Some (record { 0 = k + suc i })
    by true e rest = absurd (labels_apart x rules apart rule (got_among rules i rule q) e)
    by false e rest = let n : suc k + i ≡ k + suc i = omega arith in rest ∙ ap (λ (j : ℕ). Some (record { 0 = j })) n

rule_again : (book : List Rule) (id : RuleId) (rule : Rule) → IsBook book → rule_at book id ≡ Some rule → rule_labelled book rule.label ≡ Some id
rule_again book id rule b h = let z : 0 + id.0 ≡ id.0 = omega arith in labelled_at book 0 id.0 rule b.labels h ∙ ap (λ (j : ℕ). Some (id_at j)) z

-- ---- exclusions
record IsMarked (book : List Rule) (sub : Option ℕ) (e : Excluded) (k : ℕ) : Type 0 where
  rule : Rule
  is_rule : rule_at book e.rule ≡ Some rule
  own : e.sub ≡ sub
  number : failure_of e.why ≡ Some k

mark_of_failed : (book : List Rule) (sub : Option ℕ) (e : Excluded) (k : ℕ) (m : IsMarked book sub e k) → Among {X = Mark} (m.rule.label, k) (mark_written book sub e)
mark_of_failed book sub e k m =
    subst (λ (z : List Mark). Among {X = Mark} (m.rule.label, k) z) (sym whole) here
  where
    whole : mark_written book sub e ≡ (m.rule.label, k) ∷ []
    whole =
        ap (λ t. if t then mark_by (label_in (rule_at book e.rule)) (failure_of e.why) else []) (ap (λ s. same_place s sub) m.own ∙ same_place_refl sub)
        ∙ ap (λ r. mark_by (label_in r) (failure_of e.why)) m.is_rule
        ∙ ap (mark_by (Some m.rule.label)) m.number

-- a mark that is written tells of a failure
failed_of_mark : (book : List Rule) (sub : Option ℕ) (e : Excluded) (x : Mark) → Among x (mark_written book sub e) → IsMarked book sub e x.1 × ((rule : Rule) → rule_at book e.rule ≡ Some rule → x.0 ≡ rule.label)
failed_of_mark book sub e x i = by (same_place e.sub sub) refl i
  where
    at : (r : Option Rule) → rule_at book e.rule ≡ r → (k : Option ℕ) → failure_of e.why ≡ k → e.sub ≡ sub → Among x (mark_by (label_in r) k) → IsMarked book sub e x.1 × ((rule : Rule) → rule_at book e.rule ≡ Some rule → x.0 ≡ rule.label)
    at (Some rule) is (Some k) n own j =
        let same : x ≡ (rule.label, k) = only j in (
          record { rule = rule; is_rule = is; own = own; number = n ∙ ap (λ (m : Mark). Some m.1) (sym same) },
          λ other g. ap (λ (m : Mark). m.0) same ∙ ap (λ (r : Rule). r.label) (some_is rule other (sym is ∙ g)),
        )
    at (Some rule) is None n own j = elim j [ ]
    at None is k n own j = elim j [ ]

    by : (t : Bool) → same_place e.sub sub ≡ t → Among x (if t then mark_by (label_in (rule_at book e.rule)) (failure_of e.why) else []) → IsMarked book sub e x.1 × ((rule : Rule) → rule_at book e.rule ≡ Some rule → x.0 ≡ rule.label)
    by true own j = at (rule_at book e.rule) refl (failure_of e.why) refl (same_place_is e.sub sub own) j
    by false own j = elim j [ ]

read_again : (book : List Rule) (sub : Option ℕ) (id : RuleId) (rule : Rule) (m : Mark) → IsBook book → rule_at book id ≡ Some rule → m.0 ≡ rule.label → mark_read book sub m ≡ marked sub m.1 id ∷ []
read_again book sub id rule m b is same = ap (λ o. option_to_list (option_map (marked sub m.1) o)) (ap (rule_labelled book) same ∙ rule_again book id rule b is)

marked_of : (book : List Rule) (o : State) (e : Excluded) (k : ℕ) → IsFailure book o e k → IsMarked book e.sub e k
marked_of book o e k h = by (rule_at book e.rule) refl h.rule
  where
    by : (r : Option Rule) → rule_at book e.rule ≡ r → is_some r ≡ true → IsMarked book e.sub e k
    by None is t = absurd (true≢false (sym t))
    by (Some rule) is t = record { rule = rule; is_rule = is; own = refl; number = h.number }

failed_again : (book : List Rule) (o : State) (e : Excluded) (k : ℕ) → IsBook book → IsFailure book o e k → (j : ℕ) × Among (marked e.sub j e.rule) (told_at book o e.sub)
failed_again book o e k b h =
    let m = marked_of book o e k h in
    let l = label_left [] (flat_map (mark_written book e.sub) o.excluded) (among_flat (mark_written book e.sub) (among_Contains o.excluded h.excluded) (mark_of_failed book e.sub e k m)) in
    (l.mark.1, among_flat (mark_read book e.sub) l.among (subst (λ xs. Among (marked e.sub l.mark.1 e.rule) xs) (sym (read_again book e.sub e.rule m.rule l.mark b m.is_rule l.same)) here))

failed_from : (book : List Rule) (o : State) (sub : Option ℕ) (x : Excluded) → IsBook book → is_place (length o.programs) sub ≡ true → Among x (told_at book o sub) → (e : Excluded) × (k : ℕ) × IsFailure book o e k × (x ≡ marked e.sub k e.rule)
failed_from book o sub x b placed i =
    let (m, j, l) = flat_among (mark_read book sub) (marks_written book sub o.excluded) i in
    let k : Among m (flat_map (mark_written book sub) o.excluded) = elim (left_from [] (flat_map (mark_written book sub) o.excluded) j) [ inl z ↦ elim z [ ] | inr z ↦ z ] in
    let (e, n, w) = flat_among (mark_written book sub) o.excluded k in
    let (f, label) = failed_of_mark book sub e m w in (
      e,
      m.1,
      record { excluded = Contains_among n; placed = subst (λ s. is_place (length o.programs) s ≡ true) (sym f.own) placed; number = f.number; rule = ap is_some f.is_rule },
      only (subst (λ xs. Among x xs) (read_again book sub e.rule f.rule m b f.is_rule (label f.rule f.is_rule)) l) ∙ ap (λ s. marked s m.1 e.rule) (sym f.own),
    )

-- ---- the whole
pub loaded_again : (book : List Rule) (o : State) (g : SavedFile) → IsBook book → IsFormed o → IsSameFile (saved_file book o) g → IsLoadedAgain book o g
loaded_again book o g b f s = record {
  of = s.of;
  programs = ap (map name_told) s.programs ∙ names_saved book o 0 o.programs;
  held = λ h i kept. Contains_among (among_append_left (settling (unsettled_object book g)) (kept_again h (among_Contains o.held i) kept h.place refl));
  others = λ h i. elim (among_append (map (loaded_value g.stored) g.values ++ objectives_held 0 g.programs) (settling (unsettled_object book g)) (among_Contains _ i)) [
    | inl j ↦ inl (elim (among_append (map (loaded_value g.stored) g.values) (objectives_held 0 g.programs) j) [ inl k ↦ old h k | inr k ↦ objective h k ])
    | inr j ↦ inr (Contains_among j)
  ];
  failed = λ e k h. let (j, i) = failed_again book o e k b h in (j, Contains_among (there_marked e j h.placed e.sub refl i));
  no_others = λ x i. elim (among_append (flat_map (mark_read book None) g.failed) (marks_of_programs book 0 g.programs) (among_Contains _ i)) [
    | inl j ↦ failed_from book o None x b refl (subst (λ (ms : List Mark). Among x (flat_map (mark_read book None) ms)) s.failed j)
    | inr j ↦ of_program x j
  ];
}
  where
    n : ℕ
    n = length o.programs

    own_value : (h : HeldValue) → Among h o.held → h.place ≡ None → Among (held_again h) (map (loaded_value g.stored) g.values)
    own_value h i placed =
        let v : Among (property_with_value h) (values_of o.held) = among_map property_with_value (among_filter (λ (x : HeldValue). is_none x.place) i (ap is_none placed)) in
        subst (λ x. Among x (map (loaded_value g.stored) g.values)) (value_again o g h f s.stored i placed) (among_map (loaded_value g.stored) (among_Contains g.values (s.values (property_with_value h) (Contains_among v))))

    held_at : (h : HeldValue) (k : ℕ) → Among h o.held → h.place ≡ Some k → LinearObjective ≡ h.property → Among (held_again h) (objectives_held 0 g.programs)
    held_at h k i placed p =
        let each = f.each h (Contains_among i) in
        let at : is_placed n h.property (Some k) ≡ true = subst (λ q. is_placed n h.property q ≡ true) placed each.placed in
        let within : k < n = ltb-true k n (and_parts (has_program h.property) (nat_lt k n) at).1 in
        let form : is_formed LinearObjective h.value ≡ true = subst (λ q. is_formed q h.value ≡ true) (sym p) each.formed in
        let there_is = held_there (Some k) o.held h f.once i (placed ∙ ap (place_of (Some k)) p) in
        let rows : objective_rows (value_of LinearObjective (read_at (Some k) o.held)) ≡ Some (rows_in h.value) =
        ap (λ q. objective_rows (value_of q (read_at (Some k) o.held))) p ∙ ap objective_rows there_is ∙ rows_of_objective h.value form in
        let found = among_objectives book o 0 o.programs k k (rows_in h.value) within (omega arith) rows in
        subst (λ ps. Among (held_again h) (objectives_held 0 ps)) (sym s.programs)
        (subst (λ x. Among x (objectives_held 0 (saved_programs book o 0 o.programs))) (ap (λ v. given_at (Some k) LinearObjective v) (objective_is h.value form) ∙ objective_again h k placed (sym p)) found)

    kept_again : (h : HeldValue) → Among h o.held → is_kept h ≡ true → (place : Option ℕ) → h.place ≡ place → Among (held_again h) (map (loaded_value g.stored) g.values ++ objectives_held 0 g.programs)
    kept_again h i kept None placed = among_append_left (objectives_held 0 g.programs) (own_value h i placed)
    kept_again h i kept (Some k) placed =
        let objective_kept : same_property LinearObjective h.property ≡ true = subst (λ q. (is_none q || same_property LinearObjective h.property) ≡ true) placed kept in
        among_append_right (map (loaded_value g.stored) g.values) (held_at h k i placed (same_property_is LinearObjective h.property objective_kept))

    old : (h : HeldValue) → Among h (map (loaded_value g.stored) g.values) → (x : HeldValue) × Contains o.held x × (is_kept x ≡ true) × (h ≡ held_again x)
    old h j =
        let (v, k, is) = map_among (loaded_value g.stored) g.values j in
        let (x, l, p, w) = value_held o.held v (among_Contains (values_of o.held) (s.no_others v (Contains_among k))) in
        (x, Contains_among l, subst (λ q. (is_none q || same_property LinearObjective x.property) ≡ true) (sym p) refl, is ∙ ap (loaded_value g.stored) w ∙ value_again o g x f s.stored l p)

    or_true : (a b : Bool) → b ≡ true → (a || b) ≡ true
    or_true true b e = refl
    or_true false b e = e

    objective : (h : HeldValue) → Among h (objectives_held 0 g.programs) → (x : HeldValue) × Contains o.held x × (is_kept x ≡ true) × (h ≡ held_again x)
    objective h j =
        let w = objectives_among book o 0 o.programs h (subst (λ ps. Among h (objectives_held 0 ps)) s.programs j) in
        let x = held_objective o w.i w.rows f w.held in (
          x.h,
          Contains_among x.among,
          or_true (is_none x.h.place) (same_property LinearObjective x.h.property) (subst (λ q. same_property LinearObjective q ≡ true) (sym x.property) (same_property_refl LinearObjective)),
          w.is ∙ ap (λ v. given_at (Some w.i) LinearObjective v) x.value ∙ objective_again x.h w.i x.place x.property,
        )

    there_marked : (e : Excluded) (j : ℕ) → is_place n e.sub ≡ true → (sub : Option ℕ) → e.sub ≡ sub → Among (marked e.sub j e.rule) (told_at book o e.sub) → Among (marked e.sub j e.rule) (flat_map (mark_read book None) g.failed ++ marks_of_programs book 0 g.programs)
    there_marked e j placed None own i =
        let at : Among (marked e.sub j e.rule) (told_at book o None) = subst (λ q. Among (marked e.sub j e.rule) (told_at book o q)) own i in
        among_append_left (marks_of_programs book 0 g.programs) (subst (λ (ms : List Mark). Among (marked e.sub j e.rule) (flat_map (mark_read book None) ms)) (sym s.failed) at)
    there_marked e j placed (Some k) own i =
        let at : Among (marked e.sub j e.rule) (told_at book o (Some k)) = subst (λ q. Among (marked e.sub j e.rule) (told_at book o q)) own i in
        let within : k < n = ltb-true k n (subst (λ q. is_place n q ≡ true) own placed) in
        let found = among_marks book o 0 o.programs k k (marked e.sub j e.rule) within (omega arith) at in
        among_append_right (flat_map (mark_read book None) g.failed) (subst (λ ps. Among (marked e.sub j e.rule) (marks_of_programs book 0 ps)) (sym s.programs) found)

    of_program : (x : Excluded) → Among x (marks_of_programs book 0 g.programs) → (e : Excluded) × (k : ℕ) × IsFailure book o e k × (x ≡ marked e.sub k e.rule)
    of_program x j =
        let t = marks_among book o 0 n o.programs x (omega arith) (subst (λ ps. Among x (marks_of_programs book 0 ps)) s.programs j) in
        failed_from book o (Some t.i) x b (lt-ltb t.i n t.within) t.told
