-- A value that suits a column count may be added to an object whose values suit it.
use Rattle.std.proofs.lemmas.Option.{same_Some as some_is}
use Rattle.pm_vector.proofs.Filters.{among_map, any_from, map_among}
use Rattle.pm_vector.proofs.Lists.{Among, Contains_among, among_All, among_Contains, among_append_left, here, there}
use Rattle.pm_filing.specs.Filing.{loaded_value}
use Rattle.pm_filing.proofs.SuitLaws.{all_at}
use Rattle.pm_filing.specs.Profiles.{are_different}
use Rattle.pm_filing.specs.Views.{Suits, value_seen}
use Rattle.pm_filing.specs.ReadingViews.{marks_seen}
use Rattle.pm_filing.specs.Whole.{AgreeInSites, are_of_different, are_of_table, is_mark}
use Rattle.pm_rules.specs.Words.{is_label}
use Rattle.std.specs.declared.alloc.Global.{Global}
use Rattle.pm_props.specs.declared.set.PropSet.{PropSet}
use Rattle.pm_types.specs.Views.{view_of}
use Rattle.pm_types.specs.declared.value.Value.{Value}
use Rattle.std.specs.List.{All, Contains, list_all, list_any}
use Rattle.pm_object.proofs.Formed.{agrees_dimension, ambient_is, dimension_of, nobody, value_among}
use Rattle.pm_object.specs.State.{HeldValue, agree_in_sites, agrees, ambient_in, cols_of, first_cols, have_as_many_sites, is_given, is_held, or_else, read_at, sites_agree, value_of}
use Rattle.pm_object.specs.declared.held.Origin.TheVariants.{Given, Stored}
use Rattle.pm_props.specs.Sets.{has as in_set}
use Rattle.pm_filing.proofs.Wholeness.{all_among}
use Rattle.pm_props.proofs.Places.{same_property_is, same_property_refl}
use Rattle.pm_props.specs.Places.{place_of, same_place, same_property}
use Rattle.pm_props.specs.Properties.{has, is_ambient}
use Rattle.pm_object_type.specs.declared.object_type.ObjectType.{ObjectType}
use Rattle.pm_props.specs.declared.property.PropId.{PropId}
use Rattle.pm_props.specs.declared.property.PropId.TheVariants.{ConeAmbientDim}
use Rattle.pm_types.specs.Forms.{agrees_with, is_formed, stated_cols, states}
use Rattle.pm_types.specs.Values.{PropertyValue}
use Rattle.std.proofs.Common.{String, ap, arith, false, get_or, length, string_bytes, suc, zero, inl, inr, refl, subst, sym, true, true≢false, ◌∙◌}
use Rattle.std.proofs.lemmas.Bool.{and_from, and_parts, eqb-true, not-true, or_cases}
use Rattle.std.specs.Option.{is_some}
use Rattle.std.specs.Prelude.{Bool, List, None, Option, Some, [], if◌then◌else◌, map, nat_eq, nat_le, not, ℕ, ◌<◌, ◌&&◌, ◌||◌, ◌++◌, ◌∷◌, ◌≡◌}

-- all held values suit n
abbrev pub AreOf : ObjectType → ℕ → List HeldValue → Type 0
AreOf of n held = (h : HeldValue) → Among h held → Suits of n h.property h.value

-- a value that tells the first column count
record First (held : List HeldValue) (m : ℕ) : Type 0 where
  h : HeldValue
  among : Among h held
  states : stated_cols h.property h.value ≡ m
  not_zero : nat_eq (stated_cols h.property h.value) 0 ≡ false

first_among : (held : List HeldValue) (m : ℕ) → first_cols held ≡ Some m → First held m
first_among [] m e = absurd (true≢false (sym (ap is_some e)))
first_among (x ∷ held) m e = by (nat_eq (stated_cols x.property x.value) 0) refl (first_among held m) e
  where
    by : (t : Bool) → nat_eq (stated_cols x.property x.value) 0 ≡ t → (first_cols held ≡ Some m → First held m)
        → (if t then first_cols held else Some (stated_cols x.property x.value)) ≡ Some m → First (x ∷ held) m
    by true s rest k = let f = rest k in record { h = f.h; among = there f.among; states = f.states; not_zero = f.not_zero }
    by false s rest k = record { h = x; among = here; states = some_is _ _ k; not_zero = s }

-- a value that is no dimension and states columns states n of them
pub states_n : (n k : ℕ) (v : PropertyValue) (a : Bool) → a ≡ false → nat_eq k 0 ≡ false → (if a then states n v else nat_eq k 0 || nat_eq k n) ≡ true → k ≡ n
states_n n k v true e z h = absurd (true≢false e)
states_n n k v false e z h = elim (or_cases (nat_eq k 0) (nat_eq k n) h) [
  | inl y ↦ absurd (true≢false (sym y ∙ z))
  | inr y ↦ eqb-true k n y
]

-- the column count of such an object is n, if it is known
known : (of : ObjectType) (n m : ℕ) (held : List HeldValue) → AreOf of n held → cols_of held ≡ Some m → m ≡ n
known of n m held are e = by (value_of ConeAmbientDim held) refl
  where
    by : (v : Option PropertyValue) → value_of ConeAmbientDim held ≡ v → m ≡ n
    by (Some v) is =
        let (h, i, p, w) = value_among ConeAmbientDim held v is in
        let d = dimension_of h.value (subst (λ q. is_formed q h.value ≡ true) p (are h i).formed) in
        let named : same_property ConeAmbientDim h.property ≡ true = subst (λ q. same_property ConeAmbientDim q ≡ true) (sym p) refl in
        let same : Some d.n ≡ Some m = sym (ap (λ z. or_else (ambient_in z) (first_cols held)) (is ∙ ap Some (sym w ∙ d.value))) ∙ e in
        sym (some_is _ _ same) ∙ agrees_dimension n d.n h named d.value (are h i).columns
    by None is =
        let f = first_among held m (sym (ap (λ z. or_else (ambient_in z) (first_cols held)) is) ∙ e) in
        sym f.states ∙ states_n n (stated_cols f.h.property f.h.value) f.h.value (is_ambient f.h.property) (ambient_is f.h.property ∙ nobody ConeAmbientDim held is f.among) f.not_zero (are f.h f.among).columns

-- a value that suits n agrees with what is held
pub agrees_now : (of : ObjectType) (n : ℕ) (held : List HeldValue) (p : PropId) (v : PropertyValue) → AreOf of n held → Suits of n p v → agrees (cols_of held) p v ≡ true
agrees_now of n held p v are fits = by (cols_of held) refl
  where
    by : (c : Option ℕ) → cols_of held ≡ c → agrees c p v ≡ true
    by None e = refl
    by (Some m) e = subst (λ k. agrees_with k p v ≡ true) (sym (known of n m held are e)) fits.columns

-- ---- the next of several values
pub in_middle : {X : Type 0} (xs : List X) (x : X) (ys : List X) → Among x (xs ++ x ∷ ys)
in_middle [] x ys = here
in_middle (y ∷ xs) x ys = there (in_middle xs x ys)

-- the values so far are held: all suit n, and so does the next one
pub next_fits : (of : ObjectType) (n : ℕ) (stored : PropSet) (values xs ys : List (PropId × Value)) (x : PropId × Value) (held : List HeldValue)
    → All (λ (v : PropId × PropertyValue). Suits of n v.0 v.1) (map value_seen values) → xs ++ x ∷ ys ≡ values → held ≡ map (loaded_value stored) (map value_seen xs)
    → Suits of n x.0 (view_of x.1) × ((h : HeldValue) → Contains held h → Suits of n h.property h.value)
next_fits of n stored values xs ys x held all whole is = (at (in_middle xs x ys), λ h i. of_held h (among_Contains held i))
  where
    at : {v : PropId × Value} → Among v (xs ++ x ∷ ys) → Suits of n v.0 (view_of v.1)
    at {v} i = among_All (λ (w : PropId × PropertyValue). Suits of n w.0 w.1) (among_map value_seen (subst (λ z. Among v z) whole i)) all

    of_held : (h : HeldValue) → Among h held → Suits of n h.property h.value
    of_held h i =
        let (w, j, e) = map_among (loaded_value stored) (map value_seen xs) (subst (λ z. Among h z) is i) in
        let (v, k, f) = map_among value_seen xs j in
        subst (λ (z : HeldValue). Suits of n z.property z.value) (sym (e ∙ ap (loaded_value stored) f)) (at (among_append_left (x ∷ ys) k))

-- ---- different properties
pub none_of : {X : Type 0} (test : X → Bool) (xs : List X) {x : X} → list_any test xs ≡ false → Among x xs → test x ≡ false
none_of test xs {x} h i = by (test x) refl
  where
    by : (b : Bool) → test x ≡ b → test x ≡ false
    by true e = absurd (true≢false (sym (any_from test i e) ∙ h))
    by false e = e

-- of different elements none is like a later one
pub differ_later : {X : Type 0} (same : X → X → Bool) (xs : List X) (x : X) (ys : List X) → are_different same (xs ++ x ∷ ys) ≡ true → {y : X} → Among y xs → same y x ≡ false
differ_later same [] x ys h i = elim i [ ]
differ_later same (z ∷ xs) x ys h here = none_of (same z) (xs ++ x ∷ ys) (not-true (list_any (same z) (xs ++ x ∷ ys)) (and_parts (not (list_any (same z) (xs ++ x ∷ ys))) (are_different same (xs ++ x ∷ ys)) h).0) (in_middle xs x ys)
differ_later same (z ∷ xs) x ys h (there i) = differ_later same xs x ys (and_parts (not (list_any (same z) (xs ++ x ∷ ys))) (are_different same (xs ++ x ∷ ys)) h).1 i

pub apart_back : (p q : PropId) → same_property q p ≡ false → same_property p q ≡ false
apart_back p q h = by (same_property p q) refl
  where
    by : (b : Bool) → same_property p q ≡ b → same_property p q ≡ false
    by true e = absurd (true≢false (sym (subst (λ z. same_property z p ≡ true) (same_property_is p q e) (same_property_refl p)) ∙ h))
    by false e = e

pub unheld_from : (p : PropId) (held : List HeldValue) → ((h : HeldValue) → Among h held → same_property p h.property ≡ false) → is_held p (read_at None held) ≡ false
unheld_from p [] f = refl
unheld_from p (h ∷ held) f = by (same_place h.place (place_of None h.property)) (unheld_from p held (λ g i. f g (there i)))
  where
    by : (t : Bool) → is_held p (read_at None held) ≡ false → is_held p (if t then h ∷ read_at None held else read_at None held) ≡ false
    by true r = ap (λ z. is_some (if z then Some h.value else value_of p (read_at None held))) (f h here) ∙ r
    by false r = r

pub map_append : {X Y : Type 0} (f : X → Y) (xs ys : List X) → map f (xs ++ ys) ≡ map f xs ++ map f ys
map_append f [] ys = refl
map_append f (x ∷ xs) ys = ap (λ t. f x ∷ t) (map_append f xs ys)

-- the next of values of different properties is of one that is not held
pub next_is_new : (stored : PropSet) (values xs ys : List (PropId × Value)) (x : PropId × Value) (held : List HeldValue) → are_of_different (map value_seen values) ≡ true → xs ++ x ∷ ys ≡ values → held ≡ map (loaded_value stored) (map value_seen xs)
    → is_held x.0 (read_at None held) ≡ false
next_is_new stored values xs ys x held once whole is =
    unheld_from x.0 held (λ h i.
    let (w, j, e) = map_among (loaded_value stored) (map value_seen xs) (subst (λ z. Among h z) is i) in
    let apart = differ_later (λ (v u : PropId × PropertyValue). same_property v.0 u.0) (map value_seen xs) (value_seen x) (map value_seen ys) (ap are_of_different (sym (map_append value_seen xs (x ∷ ys)) ∙ ap (map value_seen) whole) ∙ once) j in
    subst (λ (z : HeldValue). same_property x.0 z.property ≡ false) (sym e) (apart_back x.0 w.0 apart))

-- and it is of the table
pub next_of_table : (of : ObjectType) (values xs ys : List (PropId × Value)) (x : PropId × Value) → are_of_table of (map value_seen values) ≡ true → xs ++ x ∷ ys ≡ values → has of x.0 ≡ true
next_of_table of values xs ys x table whole =
    all_at (λ (v : PropId × PropertyValue). has of v.0) (map value_seen values) table (among_map value_seen (subst (λ z. Among x z) whole (in_middle xs x ys)))

-- the evidence of a mark is of a number from 1 to 5
pub mark_at : (ms : List (String Global × ℕ)) (i : ℕ) (m : String Global × ℕ) → i < length ms → m ≡ get_or ms i m → list_all is_mark (marks_seen ms) ≡ true → (nat_le 1 m.1 && nat_le m.1 5) ≡ true
mark_at [] i m l is h = absurd (omega arith)
mark_at (x ∷ ms) zero m l is h =
    let first = (and_parts (is_mark (string_bytes x.0, x.1)) (list_all is_mark (marks_seen ms)) h).0 in
    subst (λ (z : String Global × ℕ). (nat_le 1 z.1 && nat_le z.1 5) ≡ true) (sym is) (and_parts (is_label (string_bytes x.0)) (nat_le 1 x.1 && nat_le x.1 5) first).1
mark_at (x ∷ ms) (suc i) m l is h = mark_at ms i m (omega arith) is (and_parts (is_mark (string_bytes x.0, x.1)) (list_all is_mark (marks_seen ms)) h).1

-- ---- sites
-- a value that was given has as many sites as each given value that is held
pub next_agrees : (stored : PropSet) (values xs ys : List (PropId × Value)) (x : PropId × Value) (held : List HeldValue) → AgreeInSites stored (map value_seen values) → xs ++ x ∷ ys ≡ values → held ≡ map (loaded_value stored) (map value_seen xs)
    → in_set stored x.0 ≡ false → sites_agree held x.0 (view_of x.1) ≡ true
next_agrees stored values xs ys x held agree whole is given = all_among (λ (h : HeldValue). if is_given h.origin then agree_in_sites x.0 (view_of x.1) h.property h.value else true) held at
  where
    there_is : {v : PropId × Value} → Among v (xs ++ x ∷ ys) → Contains (map value_seen values) (value_seen v)
    there_is {v} i = Contains_among (among_map value_seen (subst (λ z. Among v z) whole i))

    one : (v : PropId × PropertyValue) → Contains (map value_seen values) v → (t : Bool) → in_set stored v.0 ≡ t → (if is_given (if t then Stored else Given) then agree_in_sites x.0 (view_of x.1) v.0 v.1 else true) ≡ true
    one v i true e = refl
    one v i false e =
        let own = there_is (in_middle xs x ys) in
        and_from (have_as_many_sites x.0 (view_of x.1) v.0 v.1) (have_as_many_sites v.0 v.1 x.0 (view_of x.1)) (agree (value_seen x) v own i given e) (agree v (value_seen x) i own e given)

    at : (h : HeldValue) → Among h held → (if is_given h.origin then agree_in_sites x.0 (view_of x.1) h.property h.value else true) ≡ true
    at h i =
        let (w, j, e) = map_among (loaded_value stored) (map value_seen xs) (subst (λ z. Among h z) is i) in
        let (v, k, f) = map_among value_seen xs j in
        subst (λ (z : HeldValue). (if is_given z.origin then agree_in_sites x.0 (view_of x.1) z.property z.value else true) ≡ true) (sym e)
        (one w (subst (λ z. Contains (map value_seen values) z) (sym f) (there_is (among_append_left (x ∷ ys) k))) (in_set stored w.0) refl)
