-- The file of an object is whole.
use Rattle.pm_filing.proofs.Wholeness.{all_among}
use Rattle.std.proofs.lemmas.Option.{same_Some as some_is}
use Rattle.std.proofs.Common.{refl, sym, ap, subst, inl, inr, length, ◌∙◌, ◌≡◌, ◌++◌, ◌∷◌, ◌&&◌, ℕ, suc, zero, List, [], Option, Some, None, Bool, true, false, true≢false}
use Rattle.std.proofs.lemmas.Bool.{and_from, and_parts, not-true}
use Rattle.std.specs.List.{list_all, list_any}
use Rattle.std.specs.Option.{is_none, is_some, unwrap_or}
use Rattle.std.specs.Prelude.{filter, flat_map, fold, if◌then◌else◌, map, nat_le, not, slice_get}
use Rattle.std.specs.Str.{bytes_eq}
use Rattle.pm_vector.proofs.Filters.{among_filter, among_map, any_from, any_to, filter_among, map_among}
use Rattle.pm_vector.proofs.Lists.{All_among, Among, Contains_among, among_All, among_Contains, among_append, here, there}
use Rattle.pm_vector.specs.Numbers.{Ratio}
use Rattle.pm_files.specs.Files.{Mark, SavedProgram}
use Rattle.pm_filing.proofs.FlatLists.{flat_among}
use Rattle.pm_filing.proofs.Objectives.{objective_is, rows_of_objective}
use Rattle.pm_filing.proofs.SavedPrograms.{names_saved}
use Rattle.pm_filing.proofs.HeldSets.{set_of-has}
use Rattle.pm_filing.proofs.ItemTurns.{different-fresh}
use Rattle.pm_filing.proofs.PartTurns.{all-append}
use Rattle.pm_filing.specs.Filing.{failure_of, found_names, is_found, is_own_found, label_in, mark_by, mark_written, marks_written, objective_rows, objective_value, own, property_with_value, saved_file, saved_program, saved_programs, with_mark}
use Rattle.pm_filing.specs.Profiles.{same_label}
use Rattle.pm_filing.specs.Views.{Suits}
use Rattle.pm_filing.specs.Whole.{AreMarks, IsWhole, all_values, are_of_different, is_mark, is_of_one, objective_of}
use Rattle.pm_geom.specs.Evidence.{evidence_number}
use Rattle.pm_geom.specs.declared.evidence.Evidence.{Evidence}
use Rattle.pm_geom.specs.declared.evidence.Evidence.TheVariants.{E1, E2, E3, E4}
use Rattle.pm_object.proofs.Formed.{Each, agrees_free, held_dimension, nobody, none_stated, only, value_among}
use Rattle.pm_object.proofs.Viewing.{among_read}
use Rattle.pm_object.specs.Formed.{ArePrograms, IsFormed, are_once, is_numbered, stands_at}
use Rattle.pm_object.specs.State.{HeldValue, State, agrees, ambient_in, cols_of, first_cols, have_as_many_sites, is_given, or_else, read_at, value_of}
use Rattle.pm_object.specs.declared.held.Origin.{Origin}
use Rattle.pm_object.specs.declared.held.Origin.TheVariants.{Computed, Given, Stored}
use Rattle.pm_object.specs.declared.held.Excluded.{Excluded}
use Rattle.pm_object.specs.declared.held.Why.{Why}
use Rattle.pm_object.specs.declared.held.Why.TheVariants as why
use Rattle.pm_props.proofs.Places.{same_property_is, same_property_refl}
use Rattle.pm_props.specs.Places.{place_of, same_place, same_property}
use Rattle.pm_props.specs.Properties.{has as has_property}
use Rattle.pm_props.specs.Sets.{has}
use Rattle.pm_object_type.specs.declared.object_type.ObjectType.{ObjectType}
use Rattle.pm_props.specs.declared.property.PropId.{PropId}
use Rattle.pm_props.specs.declared.property.PropId.TheVariants.{ConeAmbientDim, LinearObjective}
use Rattle.pm_rules.specs.Books.{IsBook, IsRule}
use Rattle.pm_rules.specs.Rules.{rule_at}
use Rattle.pm_rules.specs.Words.{is_label}
use Rattle.pm_rules.specs.declared.rule.Rule.{Rule}
use Rattle.pm_types.specs.Forms.{AreFractions, agrees_with, is_formed, rows_in}
use Rattle.pm_types.specs.Values.{PropertyValue}

abbrev pub values_of : List HeldValue → List (PropId × PropertyValue)
values_of held = map property_with_value (own held)

-- a value of the file is held by the object itself
pub value_held : (held : List HeldValue) (v : PropId × PropertyValue) → Among v (values_of held) → (h : HeldValue) × Among h held × (h.place ≡ None) × (v ≡ property_with_value h)
value_held held v i =
    let (h, j, is) = map_among property_with_value (own held) i in
    let (k, t) = filter_among (λ (g : HeldValue). is_none g.place) held j in
    (h, k, no_place h.place t, is)
  where
    no_place : (p : Option ℕ) → is_none p ≡ true → p ≡ None
    no_place None t = refl
    no_place (Some n) t = absurd (true≢false (sym t))

-- ---- each property once
values_once : (held : List HeldValue) → are_once held ≡ true → are_of_different (values_of held) ≡ true
values_once [] once = refl
values_once (h ∷ held) once =
    let b = and_parts (not (stands_at h.place h.property held)) (are_once held) once in
    at h.place b.0 (values_once held b.1)
  where
    new : (t : Bool) → is_of_one (values_of held) h.property ≡ t → stands_at None h.property held ≡ false → not t ≡ true
    new false e s = refl
    new true e s =
        let (v, i, same) = any_to (λ (w : PropId × PropertyValue). same_property h.property w.0) (values_of held) e in
        let (g, j, p, is) = value_held held v i in
        let like : same_property h.property g.property ≡ true = subst (λ (w : PropId × PropertyValue). same_property h.property w.0 ≡ true) is same in
        let stands : stands_at None h.property held ≡ true =
        any_from (λ (x : HeldValue). same_property h.property x.property && same_place x.place None) j
        (and_from (same_property h.property g.property) (same_place g.place None) like (subst (λ q. same_place q None ≡ true) (sym p) refl)) in
        absurd (true≢false (sym stands ∙ s))

    at : (place : Option ℕ) → not (stands_at place h.property held) ≡ true → are_of_different (values_of held) ≡ true
        → are_of_different (map property_with_value (if is_none place then h ∷ own held else own held)) ≡ true
    at None n rest = and_from (not (is_of_one (values_of held) h.property)) (are_of_different (values_of held)) (new (is_of_one (values_of held) h.property) refl (not-true (stands_at None h.property held) n)) rest
    at (Some k) n rest = rest

-- ---- one column count
-- where none is known, each value agrees with all
agrees_all : (of : ObjectType) (k : ℕ) (held : List HeldValue) (h : HeldValue) (n : ℕ) → Each of (cols_of held) k held → Among h held → cols_of held ≡ None → agrees_with n h.property h.value ≡ true
agrees_all of k held h n each i none = by (value_of ConeAmbientDim held) refl
  where
    by : (v : Option PropertyValue) → value_of ConeAmbientDim held ≡ v → agrees_with n h.property h.value ≡ true
    by None e = agrees_free n h.property h.value (nobody ConeAmbientDim held e i) (none_stated held (sym (ap (λ w. or_else (ambient_in w) (first_cols held)) e) ∙ none) i)
    by (Some v) e =
        let d = held_dimension of (cols_of held) k held v each e in
        let known : Some d.n ≡ None = ap (λ w. or_else (ambient_in w) (first_cols held)) (sym (e ∙ ap Some d.value)) ∙ none in
        absurd (true≢false (ap is_some known))

suits_by : (of : ObjectType) (k : ℕ) (held : List HeldValue) (c : Option ℕ) → cols_of held ≡ c → Each of (cols_of held) k held → (h : HeldValue) → Among h held → Suits of (unwrap_or c 1) h.property h.value
suits_by of k held (Some n) e each h i = let f = each h i in record { formed = f.formed; columns = subst (λ c. agrees c h.property h.value ≡ true) e f.columns; rows = f.rows; primitive = f.primitive }
suits_by of k held None e each h i = let f = each h i in record { formed = f.formed; columns = agrees_all of k held h 1 each i e; rows = f.rows; primitive = f.primitive }

-- ---- marks
number_range : (w : Why) (k : ℕ) → is_numbered w ≡ true → failure_of w ≡ Some k → (nat_le 1 k && nat_le k 5) ≡ true
number_range (why.Failed evidence) k n e = subst (λ z. (nat_le 1 z && nat_le z 5) ≡ true) (some_is _ k e) (of_evidence evidence)
  where
    of_evidence : (e : Evidence) → (nat_le 1 (evidence_number e) && nat_le (evidence_number e) 5) ≡ true
    of_evidence (E1 step) = refl
    of_evidence (E2 front first second column) = refl
    of_evidence (E3 basis enter leave row column) = refl
    of_evidence (E4 first second) = refl
    of_evidence e = refl
number_range (why.False p) k n e = absurd (true≢false (sym (ap is_some e)))
number_range (why.Stored j) k n e = subst (λ z. (nat_le 1 z && nat_le z 5) ≡ true) (some_is j k e) n

-- a rule of the book has a label
label_is : (book : List Rule) (e : Excluded) (label : List ℕ) → IsBook book → label_in (rule_at book e.rule) ≡ Some label → is_label label ≡ true
label_is book e label b h = by (rule_at book e.rule) refl h
  where
    by : (r : Option Rule) → slice_get book e.rule.0 ≡ r → label_in r ≡ Some label → is_label label ≡ true
    by None g k = absurd (true≢false (sym (ap is_some k)))
    by (Some rule) g k = subst (λ z. is_label z ≡ true) (some_is rule.label label k) (among_All IsRule (got book e.rule.0 rule g) b.each).label
      where
        got : (xs : List Rule) (i : ℕ) (x : Rule) → slice_get xs i ≡ Some x → Among x xs
        got [] i x q = absurd (true≢false (sym (ap is_some q)))
        got (y ∷ ys) zero x q = subst (λ z. Among z (y ∷ ys)) (some_is y x q) here
        got (y ∷ ys) (suc i) x q = there (got ys i x q)

mark_is : (book : List Rule) (e : Excluded) (label : Option (List ℕ)) (k : Option ℕ) → label_in (rule_at book e.rule) ≡ label → failure_of e.why ≡ k → IsBook book → is_numbered e.why ≡ true → (m : Mark) → Among m (mark_by label k) → is_mark m ≡ true
mark_is book e (Some label) (Some k) l f b n m i = subst (λ (z : Mark). is_mark z ≡ true) (sym (only i)) (and_from (is_label label) (nat_le 1 k && nat_le k 5) (label_is book e label b l) (number_range e.why k n f))
mark_is book e (Some label) None l f b n m i = elim i [ ]
mark_is book e None k l f b n m i = elim i [ ]

marks_are : (book : List Rule) (sub : Option ℕ) (es : List Excluded) → IsBook book → ((e : Excluded) → Among e es → is_numbered e.why ≡ true) → list_all is_mark (flat_map (mark_written book sub) es) ≡ true
marks_are book sub [] b n = refl
marks_are book sub (e ∷ es) b n =
    all-append is_mark (mark_written book sub e) (flat_map (mark_written book sub) es) (all_among is_mark (mark_written book sub e) (λ m i. by (same_place e.sub sub) m i)) (marks_are book sub es b (λ x i. n x (there i)))
  where
    by : (t : Bool) (m : Mark) → Among m (if t then mark_by (label_in (rule_at book e.rule)) (failure_of e.why) else []) → is_mark m ≡ true
    by true m i = mark_is book e (label_in (rule_at book e.rule)) (failure_of e.why) refl refl b (n e here) m i
    by false m i = elim i [ ]

-- of each label one mark is left
one_more : (front : List Mark) (m : Mark) → AreMarks front → is_mark m ≡ true → AreMarks (with_mark front m)
one_more front m a h = by (list_any (λ (n : Mark). bytes_eq n.0 m.0) front) refl
  where
    by : (t : Bool) → list_any (λ (n : Mark). bytes_eq n.0 m.0) front ≡ t → AreMarks (if t then front else front ++ m ∷ [])
    by true e = a
    by false e = record { marks = all-append is_mark front (m ∷ []) a.marks (and_from (is_mark m) true h refl); labels = different-fresh same_label front m a.labels e }

all_more : (front ms : List Mark) → AreMarks front → list_all is_mark ms ≡ true → AreMarks (fold with_mark front ms)
all_more front [] a h = a
all_more front (m ∷ ms) a h = let b = and_parts (is_mark m) (list_all is_mark ms) h in all_more (with_mark front m) ms (one_more front m a b.0) b.1

pub marks_such : (book : List Rule) (o : State) (sub : Option ℕ) → IsBook book → IsFormed o → AreMarks (marks_written book sub o.excluded)
marks_such book o sub b f = all_more [] (flat_map (mark_written book sub) o.excluded) (record { marks = refl; labels = refl }) (marks_are book sub o.excluded b (λ e i. f.numbered e (Contains_among i)))

-- ---- programs
-- an objective that is written is held at its place
pub record HeldObjective (o : State) (k : ℕ) (rows : List (List Ratio)) : Type 0 where
  pub h : HeldValue
  pub among : Among h o.held
  pub property : h.property ≡ LinearObjective
  pub place : h.place ≡ Some k
  pub value : objective_value rows ≡ h.value

pub held_objective : (o : State) (k : ℕ) (rows : List (List Ratio)) → IsFormed o → objective_rows (value_of LinearObjective (read_at (Some k) o.held)) ≡ Some rows → HeldObjective o k rows
held_objective o k rows f e = by (value_of LinearObjective (read_at (Some k) o.held)) refl e
  where
    by : (v : Option PropertyValue) → value_of LinearObjective (read_at (Some k) o.held) ≡ v → objective_rows v ≡ Some rows → HeldObjective o k rows
    by None is g = absurd (true≢false (sym (ap is_some g)))
    by (Some w) is g =
        let (h, i, p, same) = value_among LinearObjective (read_at (Some k) o.held) w is in
        let (j, at) = among_read (Some k) o.held i in
        let form : is_formed LinearObjective w ≡ true = subst (λ v. is_formed LinearObjective v ≡ true) same (subst (λ q. is_formed q h.value ≡ true) p (f.each h (Contains_among j)).formed) in
        let rows_are : rows ≡ rows_in w = some_is rows (rows_in w) (sym g ∙ rows_of_objective w form) in
        record { h = h; among = j; property = p; place = at ∙ ap (place_of (Some k)) p; value = ap objective_value rows_are ∙ objective_is w form ∙ sym same }

-- the place and the name of a program that is written
pub record SavedAt (book : List Rule) (o : State) (p : SavedProgram) : Type 0 where
  pub k : ℕ
  pub name : List ℕ
  pub is : p ≡ saved_program book o k name

pub saved_at : (book : List Rule) (o : State) (k : ℕ) (names : List (List ℕ)) (p : SavedProgram) → Among p (saved_programs book o k names) → SavedAt book o p
saved_at book o k [] p i = elim i [ ]
saved_at book o k (name ∷ names) p here = record { k = k; name = name; is = refl }
saved_at book o k (name ∷ names) p (there i) = saved_at book o (suc k) names p i

-- a value of the file is held by the object itself, or is an objective of a program
any_held : (book : List Rule) (o : State) → IsFormed o → (v : PropId × PropertyValue) → Among v (all_values (saved_file book o)) → (h : HeldValue) × Among h o.held × (v ≡ property_with_value h)
any_held book o f v i = elim (among_append (values_of o.held) (flat_map (λ (p : SavedProgram). objective_of p.objective) (saved_programs book o 0 o.programs)) i) [
  | inl j ↦ let (h, k, p, is) = value_held o.held v j in (h, k, is)
  | inr j ↦ by_program (flat_among (λ (p : SavedProgram). objective_of p.objective) (saved_programs book o 0 o.programs) j)
]
  where
    one : (k : ℕ) (rows : Option (List (List Ratio))) → objective_rows (value_of LinearObjective (read_at (Some k) o.held)) ≡ rows → Among v (objective_of rows) → (h : HeldValue) × Among h o.held × (v ≡ property_with_value h)
    one k None e l = elim l [ ]
    one k (Some rows) e l =
        let g = held_objective o k rows f e in
        (g.h, g.among, only l ∙ ap (λ (z : PropertyValue). (LinearObjective, z)) g.value ∙ ap (λ (q : PropId). (q, g.h.value)) (sym g.property))

    by_program : (p : SavedProgram) × Among p (saved_programs book o 0 o.programs) × Among v (objective_of p.objective) → (h : HeldValue) × Among h o.held × (v ≡ property_with_value h)
    by_program (p, k, l) =
        let s = saved_at book o 0 o.programs p k in
        one s.k (objective_rows (value_of LinearObjective (read_at (Some s.k) o.held))) refl (subst (λ (q : SavedProgram). Among v (objective_of q.objective)) s.is l)

-- ---- the whole
pub saved_whole : (book : List Rule) (o : State) → IsBook book → IsFormed o → IsWhole (saved_file book o)
saved_whole book o b f = record {
  table = all_among (λ (v : PropId × PropertyValue). has_property o.of v.0) (values_of o.held) (λ v i. let (h, j, p, is) = value_held o.held v i in subst (λ (w : PropId × PropertyValue). has_property o.of w.0 ≡ true) (sym is) ((each h j).table p));
  once = values_once o.held f.once;
  suit = (
    unwrap_or (cols_of o.held) 1,
    All_among (λ (v : PropId × PropertyValue). Suits o.of (unwrap_or (cols_of o.held) 1) v.0 v.1) (all_values (saved_file book o)) (λ v i.
        let (h, j, is) = any_held book o f v i in
        subst (λ (w : PropId × PropertyValue). Suits o.of (unwrap_or (cols_of o.held) 1) w.0 w.1) (sym is) (suits_by o.of (length o.programs) o.held (cols_of o.held) refl each h j)),
  );
  entries = All_among (λ (v : PropId × PropertyValue). AreFractions v.1) (all_values (saved_file book o)) (λ v i. let (h, j, is) = any_held book o f v i in subst (λ (w : PropId × PropertyValue). AreFractions w.1) (sym is) (each h j).entries);
  sites = λ v w i j not_v not_w.
      let (g, k, p, is) = value_held o.held v (among_Contains (values_of o.held) i) in
      let (h, l, q, js) = value_held o.held w (among_Contains (values_of o.held) j) in
      let both = and_from (is_given g.origin) (is_given h.origin) (given_own g k p (ap (λ (z : PropId × PropertyValue). z.0) is) not_v) (given_own h l q (ap (λ (z : PropId × PropertyValue). z.0) js) not_w) in
      subst (λ (z : PropId × PropertyValue). have_as_many_sites z.0 z.1 w.0 w.1 ≡ true) (sym is)
      (subst (λ (z : PropId × PropertyValue). have_as_many_sites g.property g.value z.0 z.1 ≡ true) (sym js) (f.sites g h (Contains_among k) (Contains_among l) both));
  stored = λ p t. found p t;
  marks = marks_such book o None b f;
  programs = subst (λ names. ArePrograms o.of names) (sym (names_saved book o 0 o.programs)) f.programs;
  marks_of_programs = All_among (λ (p : SavedProgram). AreMarks p.failed) (saved_programs book o 0 o.programs) (λ p i. let s = saved_at book o 0 o.programs p i in subst (λ (q : SavedProgram). AreMarks q.failed) (sym s.is) (marks_such book o (Some s.k) b f));
}
  where
    each : Each o.of (cols_of o.held) (length o.programs) o.held
    each h i = f.each h (Contains_among i)

    -- a value of the object itself that is not stored was given
    given_own : (g : HeldValue) → Among g o.held → g.place ≡ None → {p : PropId} → p ≡ g.property → has (found_names o.held) p ≡ false → is_given g.origin ≡ true
    given_own g i own {p} is not_found = by g.origin refl
      where
        own_found : is_found g.origin ≡ true → has (found_names o.held) g.property ≡ true
        own_found e =
            set_of-has (map (λ (h : HeldValue). h.property) (filter is_own_found o.held)) g.property
            ∙ any_from (λ q. same_property q g.property) (among_map (λ (h : HeldValue). h.property) (among_filter is_own_found i (and_from (is_none g.place) (is_found g.origin) (ap is_none own) e))) (same_property_refl g.property)

        by : (x : Origin) → g.origin ≡ x → is_given x ≡ true
        by Given e = refl
        by Stored e = absurd (true≢false (sym (subst (λ q. has (found_names o.held) q ≡ true) (sym is) (own_found (ap is_found e))) ∙ not_found))
        by Computed e = absurd (true≢false (sym (subst (λ q. has (found_names o.held) q ≡ true) (sym is) (own_found (ap is_found e))) ∙ not_found))

    found : (p : PropId) → has (found_names o.held) p ≡ true → is_of_one (values_of o.held) p ≡ true
    found p t =
        let (q, i, same) = any_to (λ r. same_property r p) (map (λ (h : HeldValue). h.property) (filter is_own_found o.held)) (sym (set_of-has (map (λ h. h.property) (filter is_own_found o.held)) p) ∙ t) in
        let (h, j, is) = map_among (λ (x : HeldValue). x.property) (filter is_own_found o.held) i in
        let (k, own_found) = filter_among is_own_found o.held j in
        let mine : is_none h.place ≡ true = (and_parts (is_none h.place) (is_found h.origin) own_found).0 in
        any_from (λ (w : PropId × PropertyValue). same_property p w.0) (among_map property_with_value (among_filter (λ (g : HeldValue). is_none g.place) k mine))
        (subst (λ r. same_property p r ≡ true) (sym (same_property_is q p same) ∙ is) (same_property_refl p))
