-- Adding what a client answered, one target after another.
use Rattle.pm_vector.proofs.Lists.{Among, Contains_among, among_append_right, here, there}
use Rattle.pm_transact.specs.Commits.{FitsObject, added}
use Rattle.pm_object.proofs.Formed.{cols_stay, value_later, value_stays}
use Rattle.pm_object.specs.Formed.{IsBacked, IsFormed, IsFormedIn, speaks_of_rays}
use Rattle.pm_object.specs.Honest.{facts, has_tag}
use Rattle.pm_object.specs.Laws.{computed, computed_at}
use Rattle.pm_object.specs.Reading.{Put, answer_at, drafted, fact_at, without}
use Rattle.pm_object.specs.State.{HeldValue, State, cols_of, is_held, read_at, value_of, with_held}
use Rattle.pm_props.proofs.Places.{same_place_refl, same_property_is}
use Rattle.pm_props.specs.Properties.{every_property, number, rays_tag}
use Rattle.pm_types.specs.Runs.{is_named, missing}
use Rattle.pm_props.specs.Places.{place_of, same_place, same_property}
use Rattle.pm_props.specs.Sets.{has, members}
use Rattle.pm_types.specs.Values.{Fact, PropertyValue}
use Rattle.pm_props.specs.declared.property.PropId.{PropId}
use Rattle.pm_object.specs.declared.held.Origin.TheVariants.{Computed}
use Rattle.std.proofs.Common.{ap, append-nil, arith, drop, false, get_or, refl, subst, sym, true, true≢false, ◌∙◌}
use Rattle.std.proofs.lemmas.List.Folds.{list_any-append}
use Rattle.std.specs.Option.{is_some}
use Rattle.std.specs.Prelude.{Bool, Err, IfSome, List, None, Ok, OnOk, Option, Result, Some, [], if◌then◌else◌, filter, length, nat_eq, nat_le, not, suc, zero, ℕ, ◌&&◌, ◌+◌, ◌++◌, ◌<◌, ◌≤◌, ◌∷◌, ◌||◌, ◌≡◌}
use Rattle.std.proofs.lemmas.Bool.{and_from}

-- what follows from what holds on success
pub on_ok_of : {T E P Q : Type 0} (r : Result T E) → (P → Q) → OnOk r P → OnOk r Q
on_ok_of (Ok x) f p = f p
on_ok_of (Err e) f p = tt

-- ---- the targets differ
abbrev pub ascends : ℕ → List PropId → Bool
ascends n [] = true
ascends n (p ∷ ps) = nat_le n (number p) && ascends (suc (number p)) ps

pub both : (a b : Bool) → (a && b) ≡ true → (a ≡ true) × (b ≡ true)
both true b h = (refl, h)
both false b h = absurd (true≢false (sym h))

le_from : (m n k : ℕ) → n ≤ m → nat_le m k ≡ true → nat_le n k ≡ true
le_from m n k h e = grind arith

pub weaker : (m n : ℕ) (ps : List PropId) → n ≤ m → ascends m ps ≡ true → ascends n ps ≡ true
weaker m n [] h e = refl
weaker m n (p ∷ ps) h e = let (a, b) = both (nat_le m (number p)) (ascends (suc (number p)) ps) e in and_from _ _ (le_from m n (number p) h a) b

le_suc : (n k : ℕ) → nat_le n k ≡ true → n ≤ suc k
le_suc n k h = grind arith

filtered : (f : PropId → Bool) (n : ℕ) (ps : List PropId) → ascends n ps ≡ true → ascends n (filter f ps) ≡ true
filtered f n [] e = refl
filtered f n (p ∷ ps) e =
    let (a, b) = both (nat_le n (number p)) (ascends (suc (number p)) ps) e in
    by (f p) a (filtered f (suc (number p)) ps b)
  where
    by : (t : Bool) → nat_le n (number p) ≡ true → ascends (suc (number p)) (filter f ps) ≡ true → ascends n (if t then p ∷ filter f ps else filter f ps) ≡ true
    by true a rest = and_from _ _ a rest
    by false a rest = weaker (suc (number p)) n (filter f ps) (le_suc n (number p) a) rest

pub members_ascend : (s : ℕ) → ascends 0 (members s) ≡ true
unfolding members
members_ascend s = filtered (has s) 0 every_property refl

pub lt_apart_back : (a b : ℕ) → nat_le (suc a) b ≡ true → nat_eq b a ≡ false
lt_apart_back a b h = grind arith

pub above : (n : ℕ) (ps : List PropId) {q : PropId} → ascends n ps ≡ true → Among q ps → nat_le n (number q) ≡ true
above n [] e i = elim i [ ]
above n (p ∷ ps) e here = (both (nat_le n (number p)) (ascends (suc (number p)) ps) e).0
above n (p ∷ ps) {q} e (there i) =
    let (a, b) = both (nat_le n (number p)) (ascends (suc (number p)) ps) e in
    above n ps (weaker (suc (number p)) n ps (le_suc n (number p) a) b) i

-- ---- what is read and drafted of other properties
filter_append : {X : Type 0} (f : X → Bool) (xs ys : List X) → filter f (xs ++ ys) ≡ filter f xs ++ filter f ys
filter_append f [] ys = refl
filter_append f (x ∷ xs) ys = by (f x) (filter_append f xs ys)
  where
    by : (t : Bool) → filter f (xs ++ ys) ≡ filter f xs ++ filter f ys → (if t then x ∷ filter f (xs ++ ys) else filter f (xs ++ ys)) ≡ (if t then x ∷ filter f xs else filter f xs) ++ filter f ys
    by true e = ap (λ t. x ∷ t) e
    by false e = e

pub read_append : (sub : Option ℕ) (xs ys : List HeldValue) → read_at sub (xs ++ ys) ≡ read_at sub xs ++ read_at sub ys
read_append sub xs ys = filter_append (λ h. same_place h.place (place_of sub h.property)) xs ys

read_more : (sub : Option ℕ) (held : List HeldValue) (p : PropId) (v : PropertyValue) → read_at sub (held ++ computed_at sub p v ∷ []) ≡ read_at sub held ++ computed_at sub p v ∷ []
read_more sub held p v =
    read_append sub held (computed_at sub p v ∷ [])
    ∙ ap (λ t. read_at sub held ++ (if t then computed_at sub p v ∷ [] else [])) (same_place_refl (place_of sub p))

one_more : (sub : Option ℕ) (q p : PropId) (held : List HeldValue) (v : PropertyValue) → same_property q p ≡ false → value_of q (read_at sub (held ++ computed_at sub p v ∷ [])) ≡ value_of q (read_at sub held)
one_more sub q p held v e = ap (λ t. value_of q t) (read_more sub held p v) ∙ by (value_of q (read_at sub held)) refl
  where
    by : (w : Option PropertyValue) → value_of q (read_at sub held) ≡ w → value_of q (read_at sub held ++ computed_at sub p v ∷ []) ≡ value_of q (read_at sub held)
    by (Some w) is = value_stays q (read_at sub held) (computed_at sub p v ∷ []) w is ∙ sym is
    by None is = value_later q (read_at sub held) (computed_at sub p v ∷ []) is ∙ ap (λ t. if t then Some v else None) e ∙ sym is

pub held_still : (sub : Option ℕ) (q p : PropId) (held : List HeldValue) (b : Bool) (d : Option PropertyValue) → same_property q p ≡ false → is_held q (read_at sub (held ++ added sub p b d)) ≡ is_held q (read_at sub held)
held_still sub q p held true d e = ap (λ t. is_held q (read_at sub t)) (append-nil held)
held_still sub q p held false None e = ap (λ t. is_held q (read_at sub t)) (append-nil held)
held_still sub q p held false (Some v) e = ap is_some (one_more sub q p held v e)

pub drafted_still : (q p : PropId) (values : List Put) → same_property q p ≡ false → drafted q (without p values) ≡ drafted q values
drafted_still q p [] e = refl
drafted_still q p (x ∷ values) e = by (same_property p x.property) refl (drafted_still q p values e)
  where
    is_same : (t : Bool) → same_property p x.property ≡ t → t ≡ true → same_property q x.property ≡ false
    is_same t s k = subst (λ r. same_property q r ≡ false) (same_property_is p x.property (s ∙ k)) e

    by : (t : Bool) → same_property p x.property ≡ t → drafted q (without p values) ≡ drafted q values → drafted q (if t then values else x ∷ without p values) ≡ drafted q (x ∷ values)
    by true s rest = sym (ap (λ t. if t then Some x.value else drafted q values) (is_same true s refl))
    by false s rest = ap (λ t. if same_property q x.property then Some x.value else t) rest

pub answer_still : (sub : Option ℕ) (p : PropId) (ps : List PropId) (values : List Put) → ((q : PropId) → Among q ps → same_property q p ≡ false) → answer_at sub ps (without p values) ≡ answer_at sub ps values
answer_still sub p [] values h = refl
answer_still sub p (q ∷ ps) values h =
    ap (λ d. fact_at sub q d ++ answer_at sub ps (without p values)) (drafted_still q p values (h q here))
    ∙ ap (λ t. fact_at sub q (drafted q values) ++ t) (answer_still sub p ps values (λ r i. h r (there i)))

-- ---- what is missing
pub named_held : (sub : Option ℕ) (held : List HeldValue) (p : PropId) → is_named (facts held) sub p ≡ is_held p (read_at sub held)
named_held sub [] p = refl
named_held sub (h ∷ held) p = by (same_property p h.property) refl (same_place h.place (place_of sub h.property)) refl (named_held sub held p)
  where
    same : same_property p h.property ≡ true → (k : Bool) → same_place h.place (place_of sub h.property) ≡ k → same_place h.place (place_of sub p) ≡ k
    same e k q = ap (λ z. same_place h.place (place_of sub z)) (same_property_is p h.property e) ∙ q

    by : (s : Bool) → same_property p h.property ≡ s → (k : Bool) → same_place h.place (place_of sub h.property) ≡ k → is_named (facts held) sub p ≡ is_held p (read_at sub held)
        → ((s && same_place h.place (place_of sub p)) || is_named (facts held) sub p) ≡ is_some (value_of p (if k then h ∷ read_at sub held else read_at sub held))
    by true e true q r = ap (λ t. t || is_named (facts held) sub p) (same e true q) ∙ sym (ap (λ t. is_some (if t then Some h.value else value_of p (read_at sub held))) e)
    by true e false q r = ap (λ t. t || is_named (facts held) sub p) (same e false q) ∙ r
    by false e true q r = r ∙ sym (ap (λ t. is_some (if t then Some h.value else value_of p (read_at sub held))) e)
    by false e false q r = r

pub missing_one : (sub : Option ℕ) (held : List HeldValue) (p : PropId) (d : Option PropertyValue) → computed (missing sub (facts held) (fact_at sub p d)) ≡ added sub p (is_held p (read_at sub held)) d
missing_one sub held p None = by (is_held p (read_at sub held))
  where
    by : (t : Bool) → [] ≡ added sub p t None
    by true = refl
    by false = refl
missing_one sub held p (Some v) =
    ap (λ t. computed (if not t then record { place = place_of sub p; property = p; value = v } ∷ [] else [])) (named_held sub held p) ∙ by (is_held p (read_at sub held))
  where
    by : (t : Bool) → computed (if not t then record { place = place_of sub p; property = p; value = v } ∷ [] else []) ≡ added sub p t (Some v)
    by true = refl
    by false = refl

computed_append : (xs ys : List Fact) → computed (xs ++ ys) ≡ computed xs ++ computed ys
computed_append [] ys = refl
computed_append (x ∷ xs) ys = ap (λ t. record { place = x.place; property = x.property; value = x.value; origin = Computed } ∷ t) (computed_append xs ys)

append_assoc : {X : Type 0} (xs ys zs : List X) → (xs ++ ys) ++ zs ≡ xs ++ (ys ++ zs)
append_assoc [] ys zs = refl
append_assoc (x ∷ xs) ys zs = ap (λ t. x ∷ t) (append_assoc xs ys zs)

-- the first target, and then the others
pub split_first : (sub : Option ℕ) (now : State) (held : List HeldValue) (p : PropId) (ps : List PropId) (values : List Put) →
    with_held now (computed (missing sub (facts held) (answer_at sub (p ∷ ps) values)))
    ≡ with_held (with_held now (added sub p (is_held p (read_at sub held)) (drafted p values))) (computed (missing sub (facts held) (answer_at sub ps values)))
split_first sub now held p ps values =
    let first = fact_at sub p (drafted p values) in
    let others = answer_at sub ps values in
    ap (λ t. record now { held = now.held ++ t })
    (ap computed (filter_append (λ f. not (is_named (facts held) sub f.property)) first others)
    ∙ computed_append (missing sub (facts held) first) (missing sub (facts held) others)
    ∙ ap (λ t. t ++ computed (missing sub (facts held) others)) (missing_one sub held p (drafted p values)))
    ∙ ap (λ t. record now { held = t }) (sym (append_assoc now.held (added sub p (is_held p (read_at sub held)) (drafted p values)) (computed (missing sub (facts held) others))))

-- ---- what speaks of the order of the rays
pub speaks_still : (held more : List HeldValue) → speaks_of_rays held ≡ true → speaks_of_rays (held ++ more) ≡ true
speaks_still held more h =
    ap (has_tag rays_tag) (read_append None held more) ∙ list_any-append (λ (g : HeldValue). rays_tag g.property) (read_at None held) (read_at None more)
    ∙ ap (λ t. t || has_tag rays_tag (read_at None more)) h

-- ---- the loop
pub record StillToCommit (sub : Option ℕ) (o : State) (values0 : List Put) (targets : List PropId) (now : State) (values : List Put) (i : ℕ) : Type 0 where
  pub ascending : ascends 0 (drop i targets) ≡ true
  pub rest : with_held now (computed (missing sub (facts o.held) (answer_at sub (drop i targets) values))) ≡ with_held o (computed (missing sub (facts o.held) (answer_at sub targets values0)))
  pub held : (p : PropId) → Among p (drop i targets) → is_held p (read_at sub now.held) ≡ is_held p (read_at sub o.held)
  pub cols : cols_of now.held ≡ cols_of o.held
  pub of : now.of ≡ o.of
  pub programs : now.programs ≡ o.programs
  pub speaks : speaks_of_rays o.held ≡ true → speaks_of_rays now.held ≡ true
  pub drafts : (p : PropId) → Among p (drop i targets) → drafted p values ≡ drafted p values0

pub start_to_commit : (sub : Option ℕ) (o : State) (values : List Put) (s : ℕ) → StillToCommit sub o values (members s) o values 0
start_to_commit sub o values s = record { ascending = members_ascend s; rest = refl; held = λ p i. refl; cols = refl; of = refl; programs = refl; speaks = λ h. h; drafts = λ p i. refl }

pub drop_at : {X : Type 0} (xs : List X) (i : ℕ) (x : X) → i < length xs → x ≡ get_or xs i x → drop i xs ≡ x ∷ drop (i + 1) xs
drop_at [] i x h e = absurd (omega arith)
drop_at (y ∷ ys) zero x h e = ap (λ z. z ∷ ys) (sym e)
drop_at (y ∷ ys) (suc i) x h e = let k : suc i + 1 ≡ suc (i + 1) = omega arith in rw k (drop_at ys i x (omega arith) e)

pub next_to_commit : (sub : Option ℕ) (o : State) (values0 : List Put) (targets : List PropId) (now : State) (values : List Put) (i : ℕ) (p : PropId) (new : State) (left : List Put)
    → drop i targets ≡ p ∷ drop (i + 1) targets
    → new ≡ with_held now (added sub p (is_held p (read_at sub now.held)) (drafted p values)) → cols_of new.held ≡ cols_of now.held → left ≡ without p values
    → StillToCommit sub o values0 targets now values i → StillToCommit sub o values0 targets new left (i + 1)
next_to_commit sub o values0 targets now values i p new left first is cols out s =
    let all : ascends 0 (p ∷ drop (i + 1) targets) ≡ true = subst (λ t. ascends 0 t ≡ true) first s.ascending in
    let (low, high) = both (nat_le 0 (number p)) (ascends (suc (number p)) (drop (i + 1) targets)) all in
    let same_held : is_held p (read_at sub now.held) ≡ is_held p (read_at sub o.held) = s.held p (subst (λ t. Among p t) (sym first) here) in
    let differs : (q : PropId) → Among q (drop (i + 1) targets) → same_property q p ≡ false = λ q j. lt_apart_back (number p) (number q) (above (suc (number p)) (drop (i + 1) targets) high j) in
    let later : (q : PropId) → Among q (drop (i + 1) targets) → Among q (drop i targets) = λ q j. subst (λ t. Among q t) (sym first) (there j) in
    let others = answer_at sub (drop (i + 1) targets) values in
    record {
      ascending = weaker (suc (number p)) 0 (drop (i + 1) targets) (omega arith) high;
      rest =
          ap (λ t. with_held t (computed (missing sub (facts o.held) (answer_at sub (drop (i + 1) targets) left)))) is
          ∙ ap (λ t. with_held (with_held now (added sub p (is_held p (read_at sub now.held)) (drafted p values))) (computed (missing sub (facts o.held) t)))
          (ap (λ t. answer_at sub (drop (i + 1) targets) t) out ∙ answer_still sub p (drop (i + 1) targets) values differs)
          ∙ ap (λ t. with_held (with_held now (added sub p t (drafted p values))) (computed (missing sub (facts o.held) others))) same_held
          ∙ sym (split_first sub now o.held p (drop (i + 1) targets) values)
          ∙ ap (λ t. with_held now (computed (missing sub (facts o.held) (answer_at sub t values)))) (sym first)
          ∙ s.rest;
      held = λ q j. ap (λ t. is_held q (read_at sub t.held)) is ∙ held_still sub q p now.held (is_held p (read_at sub now.held)) (drafted p values) (differs q j) ∙ s.held q (later q j);
      cols = cols ∙ s.cols;
      of = ap (λ t. t.of) is ∙ s.of;
      programs = ap (λ t. t.programs) is ∙ s.programs;
      speaks = λ h. subst (λ (t : State). speaks_of_rays t.held ≡ true) (sym is) (speaks_still now.held (added sub p (is_held p (read_at sub now.held)) (drafted p values)) (s.speaks h));
      drafts = λ q j. ap (λ t. drafted q t) out ∙ drafted_still q p values (differs q j) ∙ s.drafts q (later q j);
    }

-- ---- forms
answer_among : (sub : Option ℕ) (ps : List PropId) (values : List Put) {p : PropId} (v : PropertyValue) → Among p ps → drafted p values ≡ Some v → Among (record { place = place_of sub p; property = p; value = v }) (answer_at sub ps values)
answer_among sub [] values v i e = elim i [ ]
answer_among sub (p ∷ ps) values v here e = subst (λ d. Among (record { place = place_of sub p; property = p; value = v }) (fact_at sub p d ++ answer_at sub ps values)) (sym e) here
answer_among sub (q ∷ ps) values {p} v (there i) e = among_append_right (fact_at sub q (drafted q values)) (answer_among sub ps values v i e)

pub fits_at : (sub : Option ℕ) (o : State) (values0 : List Put) (targets : List PropId) (now : State) (values : List Put) (i : ℕ) (p : PropId) → drop i targets ≡ p ∷ drop (i + 1) targets
    → Among p targets → FitsObject o (answer_at sub targets values0) → StillToCommit sub o values0 targets now values i
    → IfSome (drafted p values) (λ v. IsFormedIn now.of (cols_of now.held) (length now.programs) (computed_at sub p v))
fits_at sub o values0 targets now values i p first in_targets fits s = by (drafted p values) refl
  where
    by : (d : Option PropertyValue) → drafted p values ≡ d → IfSome d (λ v. IsFormedIn now.of (cols_of now.held) (length now.programs) (computed_at sub p v))
    by None e = tt
    by (Some v) e =
        let old : drafted p values0 ≡ Some v = sym (s.drafts p (subst (λ t. Among p t) (sym first) here)) ∙ e in
        subst (λ c. IsFormedIn now.of c (length now.programs) (computed_at sub p v)) (sym s.cols) (subst (λ t. IsFormedIn t (cols_of o.held) (length now.programs) (computed_at sub p v)) (sym s.of)
        (subst (λ t. IsFormedIn o.of (cols_of o.held) (length t) (computed_at sub p v)) (sym s.programs)
        (fits.each (record { place = place_of sub p; property = p; value = v }) (Contains_among (answer_among sub targets values0 v in_targets old)))))

pub backed_at : (sub : Option ℕ) (o : State) (values0 : List Put) (targets : List PropId) (now : State) (values : List Put) (i : ℕ) (p : PropId) → drop i targets ≡ p ∷ drop (i + 1) targets
    → Among p targets → FitsObject o (answer_at sub targets values0) → StillToCommit sub o values0 targets now values i → IfSome (drafted p values) (λ v. IsBacked p now.held)
backed_at sub o values0 targets now values i p first in_targets fits s = by (drafted p values) refl
  where
    by : (d : Option PropertyValue) → drafted p values ≡ d → IfSome d (λ v. IsBacked p now.held)
    by None e = tt
    by (Some v) e =
        let old : drafted p values0 ≡ Some v = sym (s.drafts p (subst (λ t. Among p t) (sym first) here)) ∙ e in
        λ h. s.speaks (fits.backed (record { place = place_of sub p; property = p; value = v }) (Contains_among (answer_among sub targets values0 v in_targets old)) h)

-- the column count stays
pub cols_same : (o : State) (h : HeldValue) → IsFormed o → IsFormedIn o.of (cols_of o.held) (length o.programs) h → is_some (cols_of o.held) ≡ true → cols_of (o.held ++ h ∷ []) ≡ cols_of o.held
cols_same o h f fits known = by (cols_of o.held) refl known
  where
    by : (c : Option ℕ) → cols_of o.held ≡ c → is_some c ≡ true → cols_of (o.held ++ h ∷ []) ≡ cols_of o.held
    by None e k = absurd (true≢false (sym k))
    by (Some n) e k = cols_stay o.of (length o.programs) o.held h n (λ g i. f.each g (Contains_among i)) fits e ∙ sym e

pub no_more : (o : State) → with_held o [] ≡ o
no_more o = ap (λ t. record o { held = t }) (append-nil o.held)

-- ---- places in the list of targets
pub at_any : {X : Type 0} (xs : List X) (i : ℕ) (d : X) → i < length xs → get_or xs i d ≡ get_or xs i (get_or xs i d)
at_any [] i d h = absurd (omega arith)
at_any (x ∷ xs) zero d h = refl
at_any (x ∷ xs) (suc i) d h = at_any xs i d (omega arith)

pub among_at : {X : Type 0} (xs : List X) (i : ℕ) (d : X) → i < length xs → Among (get_or xs i d) xs
among_at [] i d h = absurd (omega arith)
among_at (x ∷ xs) zero d h = here
among_at (x ∷ xs) (suc i) d h = there (among_at xs i d (omega arith))

drop_all : {X : Type 0} (xs : List X) → drop (length xs) xs ≡ []
drop_all [] = refl
drop_all (x ∷ xs) = drop_all xs

pub all_committed : (sub : Option ℕ) (o : State) (values0 : List Put) (targets : List PropId) (now : State) (values : List Put) (i : ℕ) → i ≡ length targets → StillToCommit sub o values0 targets now values i
    → now ≡ with_held o (computed (missing sub (facts o.held) (answer_at sub targets values0)))
all_committed sub o values0 targets now values i e s =
    let none : drop i targets ≡ [] = ap (λ k. drop k targets) e ∙ drop_all targets in
    sym (no_more now) ∙ sym (ap (λ t. with_held now (computed (missing sub (facts o.held) (answer_at sub t values)))) none) ∙ s.rest
