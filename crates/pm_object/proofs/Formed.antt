-- Values that are added leave all values of an object in their forms, with one column count.
use Rattle.pm_vector.proofs.Lists.{Among, Contains_among, among_Contains, among_append, here, there}
use Rattle.pm_object_type.specs.declared.object_type.ObjectType.{ObjectType}
use Rattle.pm_object.specs.Formed.{HaveAsManySites, IsBacked, IsFormedIn, IsFormed, are_once, is_numbered, is_placed, speaks_of_rays, stands_at}
use Rattle.pm_object.specs.Honest.{has_tag}
use Rattle.pm_object.specs.declared.held.Held.{Held as HeldOf}
use Rattle.pm_object.specs.State.{HeldValue, State, agree_in_sites, agrees, ambient_in, cols_of, empty_object, first_cols, have_as_many_sites, is_given, is_held, or_else, read_at, sites_agree, value_of, with_excluded, with_held}
use Rattle.pm_object.specs.declared.held.Excluded.{Excluded}
use Rattle.pm_props.proofs.Places.{same_place_is, same_property_is}
use Rattle.pm_types.specs.Forms.{agrees_with, cols_in, is_dimension, is_formed, rows_in, stated_cols, states}
use Rattle.pm_props.specs.Properties.{has_program, is_ambient, rays_tag}
use Rattle.pm_props.specs.Places.{place_of, same_place, same_property}
use Rattle.pm_types.specs.Values.{PropertyValue, matrix, sets, whole, truth, extended, edges, lattice, counts}
use Rattle.pm_props.specs.declared.property.PropId.{PropId}
use Rattle.pm_props.specs.declared.property.PropId.TheVariants.{ConeAmbientDim, SiteHeights, Sites}
use Rattle.std.proofs.Common.{ap, arith, false, inl, inr, refl, subst, sym, true, true≢false, ◌∙◌}
use Rattle.std.proofs.lemmas.Bool.{and_from, and_parts, cases_Bool, not-true, or_left, or_parts, or_right}
use Rattle.std.proofs.lemmas.List.Folds.{list_any-append}
use Rattle.std.specs.List.{Contains}
use Rattle.std.specs.Option.{is_some}
use Rattle.std.specs.Prelude.{Bool, List, map, None, Option, Some, [], if◌then◌else◌, length, nat_eq, nat_lt, not, ℕ, ◌&&◌, ◌++◌, ◌||◌, ◌≡◌, ◌∷◌}
use lib.IntN.{pos, negsuc}
use Rattle.std.proofs.Math.Bool.{and-false}

pub ambient_is : (p : PropId) → is_ambient p ≡ same_property ConeAmbientDim p
ambient_is ConeAmbientDim = refl
ambient_is p = refl

-- an element of a list of one
pub only : {X : Type 0} {x y : X} → Among x (y ∷ []) → x ≡ y
only here = refl
only (there k) = elim k [ ]

-- ---- looking up in a longer list
pub value_stays : (p : PropId) (xs ys : List HeldValue) (v : PropertyValue) → value_of p xs ≡ Some v → value_of p (xs ++ ys) ≡ Some v
value_stays p [] ys v e = absurd (true≢false (sym (ap is_some e)))
value_stays p (x ∷ xs) ys v e = by (same_property p x.property) (λ h. value_stays p xs ys v h) e
  where
    by : (t : Bool) → (value_of p xs ≡ Some v → value_of p (xs ++ ys) ≡ Some v) → (if t then Some x.value else value_of p xs) ≡ Some v → (if t then Some x.value else value_of p (xs ++ ys)) ≡ Some v
    by true rest h = h
    by false rest h = rest h

pub value_later : (p : PropId) (xs ys : List HeldValue) → value_of p xs ≡ None → value_of p (xs ++ ys) ≡ value_of p ys
value_later p [] ys e = refl
value_later p (x ∷ xs) ys e = by (same_property p x.property) (λ h. value_later p xs ys h) e
  where
    by : (t : Bool) → (value_of p xs ≡ None → value_of p (xs ++ ys) ≡ value_of p ys) → (if t then Some x.value else value_of p xs) ≡ None → (if t then Some x.value else value_of p (xs ++ ys)) ≡ value_of p ys
    by true rest h = absurd (true≢false (ap is_some h))
    by false rest h = rest h

pub value_among : (p : PropId) (xs : List HeldValue) (v : PropertyValue) → value_of p xs ≡ Some v → (h : HeldValue) × Among h xs × (h.property ≡ p) × (h.value ≡ v)
value_among p [] v e = absurd (true≢false (sym (ap is_some e)))
value_among p (x ∷ xs) v e = by (same_property p x.property) (λ h. value_among p xs v h) refl e
  where
    by : (t : Bool) → (value_of p xs ≡ Some v → (h : HeldValue) × Among h xs × (h.property ≡ p) × (h.value ≡ v)) → same_property p x.property ≡ t → (if t then Some x.value else value_of p xs) ≡ Some v → (h : HeldValue) × Among h (x ∷ xs) × (h.property ≡ p) × (h.value ≡ v)
    by true rest s h = (x, here, sym (same_property_is p x.property s), some_is x.value v h)
      where
        some_is : (a b : PropertyValue) → Some a ≡ Some b → a ≡ b
        some_is a b h = cc
    by false rest s h = let (y, i, p', v') = rest h in (y, there i, p', v')

-- what is not held is nobody's property
not_first : (p : PropId) (x : HeldValue) (xs : List HeldValue) → value_of p (x ∷ xs) ≡ None → (same_property p x.property ≡ false) × (value_of p xs ≡ None)
not_first p x xs e = by (same_property p x.property) refl e
  where
    by : (t : Bool) → same_property p x.property ≡ t → (if t then Some x.value else value_of p xs) ≡ None → (same_property p x.property ≡ false) × (value_of p xs ≡ None)
    by true s k = absurd (true≢false (ap is_some k))
    by false s k = (s, k)

pub nobody : (p : PropId) (xs : List HeldValue) {h : HeldValue} → value_of p xs ≡ None → Among h xs → same_property p h.property ≡ false
nobody p [] e i = elim i [ ]
nobody p (x ∷ xs) e here = (not_first p x xs e).0
nobody p (x ∷ xs) e (there i) = nobody p xs (not_first p x xs e).1 i

-- ---- the first column count
pub first_stays : (xs ys : List HeldValue) (n : ℕ) → first_cols xs ≡ Some n → first_cols (xs ++ ys) ≡ Some n
first_stays [] ys n e = absurd (true≢false (sym (ap is_some e)))
first_stays (x ∷ xs) ys n e = by (nat_eq (stated_cols x.property x.value) 0) (λ h. first_stays xs ys n h) e
  where
    by : (t : Bool) → (first_cols xs ≡ Some n → first_cols (xs ++ ys) ≡ Some n) → (if t then first_cols xs else Some (stated_cols x.property x.value)) ≡ Some n → (if t then first_cols (xs ++ ys) else Some (stated_cols x.property x.value)) ≡ Some n
    by true rest h = rest h
    by false rest h = h

pub first_later : (xs ys : List HeldValue) → first_cols xs ≡ None → first_cols (xs ++ ys) ≡ first_cols ys
first_later [] ys e = refl
first_later (x ∷ xs) ys e = by (nat_eq (stated_cols x.property x.value) 0) (λ h. first_later xs ys h) e
  where
    by : (t : Bool) → (first_cols xs ≡ None → first_cols (xs ++ ys) ≡ first_cols ys) → (if t then first_cols xs else Some (stated_cols x.property x.value)) ≡ None → (if t then first_cols (xs ++ ys) else Some (stated_cols x.property x.value)) ≡ first_cols ys
    by true rest h = rest h
    by false rest h = absurd (true≢false (ap is_some h))

not_first_stated : (x : HeldValue) (xs : List HeldValue) → first_cols (x ∷ xs) ≡ None → (nat_eq (stated_cols x.property x.value) 0 ≡ true) × (first_cols xs ≡ None)
not_first_stated x xs e = by (nat_eq (stated_cols x.property x.value) 0) refl e
  where
    by : (t : Bool) → nat_eq (stated_cols x.property x.value) 0 ≡ t → (if t then first_cols xs else Some (stated_cols x.property x.value)) ≡ None → (nat_eq (stated_cols x.property x.value) 0 ≡ true) × (first_cols xs ≡ None)
    by true s k = (s, k)
    by false s k = absurd (true≢false (ap is_some k))

pub none_stated : (xs : List HeldValue) {h : HeldValue} → first_cols xs ≡ None → Among h xs → nat_eq (stated_cols h.property h.value) 0 ≡ true
none_stated [] e i = elim i [ ]
none_stated (x ∷ xs) e here = (not_first_stated x xs e).0
none_stated (x ∷ xs) e (there i) = none_stated xs (not_first_stated x xs e).1 i

-- ---- the dimension
pub record IsDimension (v : PropertyValue) : Type 0 where
  pub n : ℕ
  pub value : v ≡ whole (pos n)
  pub range : is_dimension (pos n) ≡ true

pub dimension_of : (v : PropertyValue) → is_formed ConeAmbientDim v ≡ true → IsDimension v
dimension_of (matrix n rows) e = absurd (true≢false (sym e))
dimension_of (sets rows n) e = absurd (true≢false (sym e))
dimension_of (whole (pos n)) e = record { n = n; value = refl; range = e }
dimension_of (whole (negsuc n)) e = absurd (true≢false (sym e))
dimension_of (truth b) e = absurd (true≢false (sym e))
dimension_of (extended x) e = absurd (true≢false (sym e))
dimension_of (edges rows n) e = absurd (true≢false (sym e))
dimension_of (lattice ranks) e = absurd (true≢false (sym e))
dimension_of (counts ks) e = absurd (true≢false (sym e))

-- ---- agreeing
abbrev agrees_at : Bool → ℕ → PropertyValue → ℕ → Bool
agrees_at a n v k = if a then states n v else nat_eq k 0 || nat_eq k n

same_number : (n : ℕ) → nat_eq n n ≡ true
same_number n = grind arith

-- a value that states no columns agrees with all
pub agrees_free : (n : ℕ) (p : PropId) (v : PropertyValue) → same_property ConeAmbientDim p ≡ false → nat_eq (stated_cols p v) 0 ≡ true → agrees_with n p v ≡ true
agrees_free n p v e h = by (is_ambient p) (ambient_is p ∙ e)
  where
    by : (a : Bool) → a ≡ false → agrees_at a n v (stated_cols p v) ≡ true
    by true k = absurd (true≢false k)
    by false k = or_left (nat_eq (stated_cols p v) 0) (nat_eq (stated_cols p v) n) h

-- it agrees with the columns that it states
pub agrees_itself : (p : PropId) (v : PropertyValue) → same_property ConeAmbientDim p ≡ false → agrees_with (stated_cols p v) p v ≡ true
agrees_itself p v e = by (is_ambient p) (ambient_is p ∙ e)
  where
    by : (a : Bool) → a ≡ false → agrees_at a (stated_cols p v) v (stated_cols p v) ≡ true
    by true k = absurd (true≢false k)
    by false k = or_right (nat_eq (stated_cols p v) 0) (nat_eq (stated_cols p v) (stated_cols p v)) (same_number (stated_cols p v))

-- ---- one value more
some_is : (a b : ℕ) → Some a ≡ Some b → a ≡ b
some_is a b h = cc

number_agrees : (m n : ℕ) → states n (whole (pos m)) ≡ true → m ≡ n
number_agrees m n h = grind arith

abbrev pub Each : ObjectType → Option ℕ → ℕ → List HeldValue → Type 0
Each of n k held = (h : HeldValue) → Among h held → IsFormedIn of n k h

-- the value of the dimension, if it is held
pub held_dimension : (of : ObjectType) (n : Option ℕ) (k : ℕ) (held : List HeldValue) (v : PropertyValue) → Each of n k held → value_of ConeAmbientDim held ≡ Some v → IsDimension v
held_dimension of n k held v each e =
    let (h, i, p, is) = value_among ConeAmbientDim held v e in
    dimension_of v (subst (λ q. is_formed q v ≡ true) p (subst (λ w. is_formed h.property w ≡ true) is (each h i).formed))

-- a new value that states the dimension n states no other one
pub agrees_dimension : (n m : ℕ) (h : HeldValue) → same_property ConeAmbientDim h.property ≡ true → h.value ≡ whole (pos m) → agrees_with n h.property h.value ≡ true → m ≡ n
agrees_dimension n m h e v a = by (is_ambient h.property) (ambient_is h.property ∙ e) a
  where
    by : (t : Bool) → t ≡ true → agrees_at t n h.value (stated_cols h.property h.value) ≡ true → m ≡ n
    by true k g = number_agrees m n (subst (λ w. states n w ≡ true) v g)
    by false k g = absurd (true≢false (sym k))

-- where the column count is known it stays
pub cols_stay : (of : ObjectType) (k : ℕ) (held : List HeldValue) (h : HeldValue) (n : ℕ) → Each of (cols_of held) k held → IsFormedIn of (cols_of held) k h
    → cols_of held ≡ Some n → cols_of (held ++ h ∷ []) ≡ Some n
cols_stay of k held h n each fits e = by (value_of ConeAmbientDim held) refl
  where
    new : (v : Option PropertyValue) → value_of ConeAmbientDim held ≡ None → value_of ConeAmbientDim (held ++ h ∷ []) ≡ v → or_else (ambient_in v) (first_cols (held ++ h ∷ [])) ≡ Some n
    new v none is = at (same_property ConeAmbientDim h.property) refl
      where
        first : first_cols held ≡ Some n
        first = ap (λ w. or_else (ambient_in w) (first_cols held)) (sym none) ∙ e

        found : value_of ConeAmbientDim (held ++ h ∷ []) ≡ value_of ConeAmbientDim (h ∷ [])
        found = value_later ConeAmbientDim held (h ∷ []) none

        at : (t : Bool) → same_property ConeAmbientDim h.property ≡ t → or_else (ambient_in v) (first_cols (held ++ h ∷ [])) ≡ Some n
        at true s =
            let p : h.property ≡ ConeAmbientDim = sym (same_property_is ConeAmbientDim h.property s) in
            let d = dimension_of h.value (subst (λ q. is_formed q h.value ≡ true) p fits.formed) in
            let m : d.n ≡ n = agrees_dimension n d.n h s d.value (subst (λ c. agrees c h.property h.value ≡ true) e fits.columns) in
            let here' : v ≡ Some (whole (pos d.n)) = sym is ∙ found ∙ ap (λ t. if t then Some h.value else None) s ∙ ap Some d.value in
            ap (λ w. or_else (ambient_in w) (first_cols (held ++ h ∷ []))) here' ∙ ap Some m
        at false s =
            let none' : v ≡ None = sym is ∙ found ∙ ap (λ t. if t then Some h.value else None) s in
            ap (λ w. or_else (ambient_in w) (first_cols (held ++ h ∷ []))) none' ∙ first_stays held (h ∷ []) n first

    by : (v : Option PropertyValue) → value_of ConeAmbientDim held ≡ v → cols_of (held ++ h ∷ []) ≡ Some n
    by None is = new (value_of ConeAmbientDim (held ++ h ∷ [])) is refl
    by (Some v) is =
        let d = held_dimension of (cols_of held) k held v each is in
        let old : or_else (ambient_in (Some (whole (pos d.n)))) (first_cols held) ≡ Some n = ap (λ w. or_else (ambient_in w) (first_cols held)) (sym (is ∙ ap Some d.value)) ∙ e in
        ap (λ w. or_else (ambient_in w) (first_cols (held ++ h ∷ []))) (value_stays ConeAmbientDim held (h ∷ []) v is ∙ ap Some d.value) ∙ old

-- where it is unknown all agree with what the new value states
agrees_then : (of : ObjectType) (k : ℕ) (held : List HeldValue) (h : HeldValue) → Each of (cols_of held) k held → IsFormedIn of (cols_of held) k h → cols_of held ≡ None
    → (g : HeldValue) → Among g (held ++ h ∷ []) → agrees (cols_of (held ++ h ∷ [])) g.property g.value ≡ true
agrees_then of k held h each fits e g i = by (value_of ConeAmbientDim held) refl
  where
    by : (v : Option PropertyValue) → value_of ConeAmbientDim held ≡ v → agrees (cols_of (held ++ h ∷ [])) g.property g.value ≡ true
    by (Some v) is =
        let d = held_dimension of (cols_of held) k held v each is in
        let old : Some d.n ≡ None = ap (λ w. or_else (ambient_in w) (first_cols held)) (sym (is ∙ ap Some d.value)) ∙ e in
        absurd (true≢false (ap is_some old))
    by None none = at (same_property ConeAmbientDim h.property) refl
      where
        first : first_cols held ≡ None
        first = ap (λ w. or_else (ambient_in w) (first_cols held)) (sym none) ∙ e

        found : value_of ConeAmbientDim (held ++ h ∷ []) ≡ value_of ConeAmbientDim (h ∷ [])
        found = value_later ConeAmbientDim held (h ∷ []) none

        firsts : first_cols (held ++ h ∷ []) ≡ first_cols (h ∷ [])
        firsts = first_later held (h ∷ []) first

        old : (c : Option ℕ) → Among g held → agrees c g.property g.value ≡ true
        old None j = refl
        old (Some n) j = agrees_free n g.property g.value (nobody ConeAmbientDim held none j) (none_stated held first j)

        cols_at : Bool → Option ℕ
        cols_at t = if t then None else Some (stated_cols h.property h.value)

        itself : (t : Bool) → nat_eq (stated_cols h.property h.value) 0 ≡ t → same_property ConeAmbientDim h.property ≡ false → agrees (if t then None else Some (stated_cols h.property h.value)) h.property h.value ≡ true
        itself true z s = refl
        itself false z s = agrees_itself h.property h.value s

        at : (t : Bool) → same_property ConeAmbientDim h.property ≡ t → agrees (cols_of (held ++ h ∷ [])) g.property g.value ≡ true
        at true s =
            let p : h.property ≡ ConeAmbientDim = sym (same_property_is ConeAmbientDim h.property s) in
            let d = dimension_of h.value (subst (λ q. is_formed q h.value ≡ true) p fits.formed) in
            let here' : value_of ConeAmbientDim (held ++ h ∷ []) ≡ Some (whole (pos d.n)) = found ∙ ap (λ t. if t then Some h.value else None) s ∙ ap Some d.value in
            let cols : cols_of (held ++ h ∷ []) ≡ Some d.n = ap (λ w. or_else (ambient_in w) (first_cols (held ++ h ∷ []))) here' in
            subst (λ c. agrees c g.property g.value ≡ true) (sym cols) (elim (among_append held (h ∷ []) i) [ inl j ↦ old (Some d.n) j | inr j ↦ last d.n p d.value j ])
          where
            last : (n : ℕ) → h.property ≡ ConeAmbientDim → h.value ≡ whole (pos n) → Among g (h ∷ []) → agrees_with n g.property g.value ≡ true
            last n p v k = subst (λ z. agrees_with n z.property z.value ≡ true) (sym (only k)) (subst (λ q. agrees_with n q h.value ≡ true) (sym p) (subst (λ w. agrees_with n ConeAmbientDim w ≡ true) (sym v) (same_number n)))
        at false s =
            let none' : value_of ConeAmbientDim (held ++ h ∷ []) ≡ None = found ∙ ap (λ t. if t then Some h.value else None) s in
            let cols : cols_of (held ++ h ∷ []) ≡ first_cols (h ∷ []) = ap (λ w. or_else (ambient_in w) (first_cols (held ++ h ∷ []))) none' ∙ firsts in
            subst (λ c. agrees c g.property g.value ≡ true) (sym cols) (elim (among_append held (h ∷ []) i) [ inl j ↦ old (first_cols (h ∷ [])) j | inr j ↦ last j ])
          where
            last : Among g (h ∷ []) → agrees (first_cols (h ∷ [])) g.property g.value ≡ true
            last k = subst (λ z. agrees (first_cols (h ∷ [])) z.property z.value ≡ true) (sym (only k)) (itself (nat_eq (stated_cols h.property h.value) 0) refl s)

pub each_push : (of : ObjectType) (k : ℕ) (held : List HeldValue) (h : HeldValue) → Each of (cols_of held) k held → IsFormedIn of (cols_of held) k h → Each of (cols_of (held ++ h ∷ [])) k (held ++ h ∷ [])
each_push of k held h each fits = by (cols_of held) refl
  where
    part : (g : HeldValue) → Among g (held ++ h ∷ []) → IsFormedIn of (cols_of held) k g
    part g i = elim (among_append held (h ∷ []) i) [ inl j ↦ each g j | inr j ↦ last g j ]
      where
        last : (g : HeldValue) → Among g (h ∷ []) → IsFormedIn of (cols_of held) k g
        last g j = subst (λ z. IsFormedIn of (cols_of held) k z) (sym (only j)) fits

    by : (c : Option ℕ) → cols_of held ≡ c → Each of (cols_of (held ++ h ∷ [])) k (held ++ h ∷ [])
    by (Some n) e g i =
        let p = part g i in
        record { formed = p.formed; columns = subst (λ c. agrees c g.property g.value ≡ true) (e ∙ sym (cols_stay of k held h n each fits e)) p.columns; rows = p.rows; entries = p.entries; primitive = p.primitive; placed = p.placed; table = p.table }
    by None e g i = let p = part g i in record { formed = p.formed; columns = agrees_then of k held h each fits e g i; rows = p.rows; entries = p.entries; primitive = p.primitive; placed = p.placed; table = p.table }

-- ---- no two values of one property at one place
abbrev pub IsNew : HeldValue → List HeldValue → Type 0
IsNew h held = stands_at h.place h.property held ≡ false

-- so it is the other way round
turned : (h x : HeldValue) → (same_property h.property x.property && same_place x.place h.place) ≡ false → (same_property x.property h.property && same_place h.place x.place) ≡ false
turned h x e = by (same_property x.property h.property) refl (same_place h.place x.place) refl
  where
    by : (s : Bool) → same_property x.property h.property ≡ s → (k : Bool) → same_place h.place x.place ≡ k → (same_property x.property h.property && same_place h.place x.place) ≡ false
    by true s true k =
        absurd (true≢false (sym (and_from (same_property h.property x.property) (same_place x.place h.place)
        (subst (λ p. same_property h.property p ≡ true) (sym (same_property_is x.property h.property s)) (subst (λ p. same_property p h.property ≡ true) (same_property_is x.property h.property s) s))
        (subst (λ p. same_place p h.place ≡ true) (same_place_is h.place x.place k) (subst (λ p. same_place h.place p ≡ true) (sym (same_place_is h.place x.place k)) k))) ∙ e))
    by true s false k = ap (λ t. t && same_place h.place x.place) s ∙ k
    by false s k l = ap (λ t. t && same_place h.place x.place) s

pub stands_push : (place : Option ℕ) (p : PropId) (held : List HeldValue) (h : HeldValue) → stands_at place p held ≡ false → (same_property p h.property && same_place h.place place) ≡ false → stands_at place p (held ++ h ∷ []) ≡ false
stands_push place p held h e f =
    list_any-append (λ (g : HeldValue). same_property p g.property && same_place g.place place) held (h ∷ [])
    ∙ ap (λ t. t || ((same_property p h.property && same_place h.place place) || false)) e ∙ ap (λ t. t || false) f

pub once_push : (held : List HeldValue) (h : HeldValue) → are_once held ≡ true → IsNew h held → are_once (held ++ h ∷ []) ≡ true
once_push [] h o n = refl
once_push (x ∷ held) h o n =
    let b = and_parts (not (stands_at x.place x.property held)) (are_once held) o in
    let m = or_parts (same_property h.property x.property && same_place x.place h.place) (stands_at h.place h.property held) n in
    and_from (not (stands_at x.place x.property (held ++ h ∷ []))) (are_once (held ++ h ∷ []))
    (ap not (stands_push x.place x.property held h (not-true (stands_at x.place x.property held) b.0) (turned h x m.0)))
    (once_push held h b.1 m.1)

-- what is not held where it is read stands nowhere there
pub new_where_read : (sub : Option ℕ) (p : PropId) (held : List HeldValue) → is_held p (read_at sub held) ≡ false → stands_at (place_of sub p) p held ≡ false
new_where_read sub p [] e = refl
new_where_read sub p (h ∷ held) e = by (same_property p h.property) refl (same_place h.place (place_of sub h.property)) refl (new_where_read sub p held) e
  where
    same : same_property p h.property ≡ true → (k : Bool) → same_place h.place (place_of sub h.property) ≡ k → same_place h.place (place_of sub p) ≡ k
    same s k q = ap (λ z. same_place h.place (place_of sub z)) (same_property_is p h.property s) ∙ q

    by : (s : Bool) → same_property p h.property ≡ s → (k : Bool) → same_place h.place (place_of sub h.property) ≡ k → (is_held p (read_at sub held) ≡ false → stands_at (place_of sub p) p held ≡ false)
        → is_held p (if k then h ∷ read_at sub held else read_at sub held) ≡ false → ((same_property p h.property && same_place h.place (place_of sub p)) || stands_at (place_of sub p) p held) ≡ false
    by true s true q r f = absurd (true≢false (sym (ap (λ t. is_some (if t then Some h.value else value_of p (read_at sub held))) s) ∙ f))
    by true s false q r f = ap (λ t. (same_property p h.property && t) || stands_at (place_of sub p) p held) (same s false q) ∙ ap (λ t. (t && false) || stands_at (place_of sub p) p held) s ∙ r f
    by false s true q r f =
        ap (λ t. (t && same_place h.place (place_of sub p)) || stands_at (place_of sub p) p held) s
        ∙ r (sym (ap (λ t. is_some (if t then Some h.value else value_of p (read_at sub held))) s) ∙ f)
    by false s false q r f = ap (λ t. (t && same_place h.place (place_of sub p)) || stands_at (place_of sub p) p held) s ∙ r f

-- what is not held stands nowhere
pub new_unheld : (place : Option ℕ) (p : PropId) (held : List HeldValue) → is_held p held ≡ false → stands_at place p held ≡ false
new_unheld place p [] e = refl
new_unheld place p (h ∷ held) e = by (same_property p h.property) refl (new_unheld place p held) e
  where
    by : (s : Bool) → same_property p h.property ≡ s → (is_held p held ≡ false → stands_at place p held ≡ false)
        → is_some (if s then Some h.value else value_of p held) ≡ false → ((same_property p h.property && same_place h.place place) || stands_at place p held) ≡ false
    by true s r f = absurd (true≢false f)
    by false s r f = ap (λ t. (t && same_place h.place place) || stands_at place p held) s ∙ r f

-- seen from the object itself all stands in the object itself
pub place_none : (p : PropId) → place_of None p ≡ None
place_none p = by (has_program p)
  where
    nowhere : Option ℕ
    nowhere = None

    by : (b : Bool) → (if b then nowhere else nowhere) ≡ nowhere
    by true = refl
    by false = refl

pub new_in_object : (p : PropId) (held : List HeldValue) → is_held p (read_at None held) ≡ false → stands_at None p held ≡ false
new_in_object p held e = subst (λ place. stands_at place p held ≡ false) (place_none p) (new_where_read None p held e)

-- what is held stays held
pub held_stays : (p : PropId) (xs ys : List HeldValue) → is_held p xs ≡ true → is_held p (xs ++ ys) ≡ true
held_stays p xs ys e = by (value_of p xs) refl e
  where
    by : (v : Option PropertyValue) → value_of p xs ≡ v → is_some v ≡ true → is_held p (xs ++ ys) ≡ true
    by None is k = absurd (true≢false (sym k))
    by (Some v) is k = ap is_some (value_stays p xs ys v is)

-- ---- values that speak of the order of the rays
read_push : (held : List HeldValue) (h : HeldValue) → read_at None (held ++ h ∷ []) ≡ read_at None held ++ read_at None (h ∷ [])
read_push [] h = refl
read_push (x ∷ held) h = by (same_place x.place (place_of None x.property)) (read_push held h)
  where
    by : (t : Bool) → read_at None (held ++ h ∷ []) ≡ read_at None held ++ read_at None (h ∷ [])
        → (if t then x ∷ read_at None (held ++ h ∷ []) else read_at None (held ++ h ∷ [])) ≡ (if t then x ∷ read_at None held else read_at None held) ++ read_at None (h ∷ [])
    by true e = ap (λ t. x ∷ t) e
    by false e = e

-- what is not of programs stands in the object itself
pub own_place : (k : ℕ) (p : PropId) (place : Option ℕ) → has_program p ≡ false → is_placed k p place ≡ true → place ≡ None
own_place k p None e h = refl
own_place k p (Some s) e h = absurd (true≢false (sym (and_parts (has_program p) (nat_lt s k) h).0 ∙ e))

alone_speaks : (h : HeldValue) → h.place ≡ None → rays_tag h.property ≡ true → speaks_of_rays (h ∷ []) ≡ true
alone_speaks h own tagged = ap (λ t. has_tag rays_tag (if t then h ∷ [] else [])) (ap (λ q. same_place q (place_of None h.property)) own ∙ ap (same_place None) (place_none h.property)) ∙ ap (λ t. t || false) tagged

speaks_push : (held : List HeldValue) (h : HeldValue) → speaks_of_rays (held ++ h ∷ []) ≡ (speaks_of_rays held || speaks_of_rays (h ∷ []))
speaks_push held h = ap (has_tag rays_tag) (read_push held h) ∙ list_any-append (λ (g : HeldValue). rays_tag g.property) (read_at None held) (read_at None (h ∷ []))

pub backed_push : (k : ℕ) (held : List HeldValue) (h : HeldValue) → is_placed k h.property h.place ≡ true → IsBacked h.property held → (has_tag rays_tag held ≡ true → speaks_of_rays held ≡ true)
    → has_tag rays_tag (held ++ h ∷ []) ≡ true → speaks_of_rays (held ++ h ∷ []) ≡ true
backed_push k held h placed backed old e = speaks_push held h ∙ elim (cases_Bool (has_tag rays_tag held)) [
  | inl y ↦ or_left (speaks_of_rays held) (speaks_of_rays (h ∷ [])) (old y)
  | inr n ↦ (let tagged = its_own (rays_tag h.property) (sym (ap (λ t. t || (rays_tag h.property || false)) n) ∙ sym (list_any-append (λ (g : HeldValue). rays_tag g.property) held (h ∷ [])) ∙ e) in
      elim (cases_Bool (has_program h.property)) [
        | inl y ↦ or_left (speaks_of_rays held) (speaks_of_rays (h ∷ [])) (backed (and_from (has_program h.property) (rays_tag h.property) y tagged))
        | inr m ↦ or_right (speaks_of_rays held) (speaks_of_rays (h ∷ [])) (alone_speaks h (own_place k h.property h.place m placed) tagged)
      ])
]
  where
    its_own : (b : Bool) → (false || (b || false)) ≡ true → b ≡ true
    its_own true e = refl
    its_own false e = e

-- what is of no program may join
pub backed_own : (p : PropId) (held : List HeldValue) → has_program p ≡ false → IsBacked p held
backed_own p held e h = absurd (true≢false (sym (and_parts (has_program p) (rays_tag p) h).0 ∙ e))

-- ---- sites and their heights
-- the value agrees, in the number of sites, with each that was given
agrees_with_given : (p : PropId) (v : PropertyValue) (held : List HeldValue) → sites_agree held p v ≡ true → {g : HeldValue} → Among g held → is_given g.origin ≡ true
    → (have_as_many_sites p v g.property g.value ≡ true) × (have_as_many_sites g.property g.value p v ≡ true)
agrees_with_given p v [] h i e = elim i [ ]
agrees_with_given p v (x ∷ held) h here e =
    let b = and_parts (if is_given x.origin then agree_in_sites p v x.property x.value else true) (sites_agree held p v) h in
    and_parts (have_as_many_sites p v x.property x.value) (have_as_many_sites x.property x.value p v) (subst (λ t. (if t then agree_in_sites p v x.property x.value else true) ≡ true) e b.0)
agrees_with_given p v (x ∷ held) h (there i) e =
    agrees_with_given p v held (and_parts (if is_given x.origin then agree_in_sites p v x.property x.value else true) (sites_agree held p v) h).1 i e

agrees_with_itself : (p : PropId) (v : PropertyValue) → have_as_many_sites p v p v ≡ true
agrees_with_itself ConeAmbientDim v = refl
agrees_with_itself p v = refl

-- a value that is neither of SITES nor of SITE_HEIGHTS agrees with all
other_agrees : (p : PropId) (v : PropertyValue) (q : PropId) (w : PropertyValue) → same_property Sites p ≡ false → same_property SiteHeights p ≡ false → agree_in_sites p v q w ≡ true
other_agrees p v q w a b =
    and_from (have_as_many_sites p v q w) (have_as_many_sites q w p v) (ap (λ t. if t && same_property SiteHeights q then nat_eq (length (rows_in v)) (cols_in w) else true) a)
    (ap (λ t. if same_property Sites q && t then nat_eq (length (rows_in w)) (cols_in v) else true) b ∙ ap (λ t. if t then nat_eq (length (rows_in w)) (cols_in v) else true) (and-false (same_property Sites q)))

pub others_agree : (p : PropId) (v : PropertyValue) (held : List HeldValue) → same_property Sites p ≡ false → same_property SiteHeights p ≡ false → sites_agree held p v ≡ true
others_agree p v [] a b = refl
others_agree p v (x ∷ held) a b =
    and_from (if is_given x.origin then agree_in_sites p v x.property x.value else true) (sites_agree held p v) (either (is_given x.origin) (other_agrees p v x.property x.value a b)) (others_agree p v held a b)
  where
    either : (t : Bool) {c : Bool} → c ≡ true → (if t then c else true) ≡ true
    either true e = e
    either false e = refl

sites_push : (held : List HeldValue) (h : HeldValue) → ((g k : HeldValue) → Contains held g → Contains held k → HaveAsManySites g k) → (is_given h.origin ≡ true → sites_agree held h.property h.value ≡ true)
    → (g k : HeldValue) → Among g (held ++ h ∷ []) → Among k (held ++ h ∷ []) → HaveAsManySites g k
sites_push held h old new g k i j both =
    let given = and_parts (is_given g.origin) (is_given k.origin) both in
    elim (among_append held (h ∷ []) i) [
      | inl a ↦ elim (among_append held (h ∷ []) j) [
        | inl b ↦ old g k (Contains_among a) (Contains_among b) both
        | inr b ↦
            let e = only b in
            let now = subst (λ (z : HeldValue). is_given z.origin ≡ true) e given.1 in
            subst (λ (z : HeldValue). have_as_many_sites g.property g.value z.property z.value ≡ true) (sym e) (agrees_with_given h.property h.value held (new now) a given.0).1
      ]
      | inr a ↦
          let e = only a in
          let now = subst (λ (z : HeldValue). is_given z.origin ≡ true) e given.0 in
          subst (λ (z : HeldValue). have_as_many_sites z.property z.value k.property k.value ≡ true) (sym e)
          (elim (among_append held (h ∷ []) j) [
            | inl b ↦ (agrees_with_given h.property h.value held (new now) b given.1).0
            | inr b ↦ subst (λ (z : HeldValue). have_as_many_sites h.property h.value z.property z.value ≡ true) (sym (only b)) (agrees_with_itself h.property h.value)
          ])
    ]

-- an object with one value more, which was in its form
pub formed_push : (o : State) (h : HeldValue) → IsFormed o → IsNew h o.held → IsBacked h.property o.held → IsFormedIn o.of (cols_of o.held) (length o.programs) h
    → (is_given h.origin ≡ true → sites_agree o.held h.property h.value ≡ true) → IsFormed (with_held o (h ∷ []))
formed_push o h f new backed fits sites = record {
  each = λ g i. each_push o.of (length o.programs) o.held h (λ k j. f.each k (Contains_among j)) fits g (among_Contains (o.held ++ h ∷ []) i);
  once = once_push o.held h f.once new;
  backed = backed_push (length o.programs) o.held h fits.placed backed f.backed;
  numbered = f.numbered;
  programs = f.programs;
  dimension = λ s. held_stays ConeAmbientDim o.held (h ∷ []) (f.dimension s);
  sites = λ g k i j. sites_push o.held h f.sites sites g k (among_Contains (o.held ++ h ∷ []) i) (among_Contains (o.held ++ h ∷ []) j);
}

pub map_push : {A B : Type 0} (f : A → B) (xs : List A) (x : A) → map f (xs ++ x ∷ []) ≡ map f xs ++ f x ∷ []
map_push f [] x = refl
map_push f (y ∷ ys) x = ap (λ t. f y ∷ t) (map_push f ys x)

-- the same, of the code's lists
pub formed_pushed : (o : State) (f : HeldOf → HeldValue) (xs ys : List HeldOf) (x : HeldOf) → o.held ≡ map f xs → ys ≡ xs ++ x ∷ [] → IsFormed o → IsNew (f x) o.held → IsBacked (f x).property o.held → IsFormedIn o.of (cols_of o.held) (length o.programs) (f x)
    → (is_given (f x).origin ≡ true → sites_agree o.held (f x).property (f x).value ≡ true) → IsFormed (record o { held = map f ys })
formed_pushed o f xs ys x is e formed new backed fits sites =
    let same : map f ys ≡ o.held ++ f x ∷ [] = ap (λ t. map f t) e ∙ map_push f xs x ∙ ap (λ t. t ++ f x ∷ []) (sym is) in
    subst (λ z. IsFormed (record o { held = z })) (sym same) (formed_push o (f x) formed new backed fits sites)

-- ---- an exclusion more
pub formed_excluded : (o : State) (e : Excluded) → IsFormed o → is_numbered e.why ≡ true → IsFormed (with_excluded o e)
formed_excluded o e f n = record {
  each = f.each;
  once = f.once;
  backed = f.backed;
  numbered = λ g i. elim (among_append o.excluded (e ∷ []) (among_Contains (o.excluded ++ e ∷ []) i)) [ inl j ↦ f.numbered g (Contains_among j) | inr j ↦ subst (λ (z : Excluded). is_numbered z.why ≡ true) (sym (only j)) n ];
  programs = f.programs;
  dimension = f.dimension;
  sites = f.sites;
}

-- what holds nothing
pub formed_empty : (of : ObjectType) → IsFormed (empty_object of)
formed_empty of = record {
  each = λ h i. elim (among_Contains [] i) [ ];
  once = refl;
  backed = λ h. absurd (true≢false (sym h));
  numbered = λ e i. elim (among_Contains [] i) [ ];
  programs = record { few = refl; words = refl; different = refl; polytope = λ h. absurd (true≢false (sym h)) };
  dimension = λ s. absurd (true≢false (sym s));
  sites = λ g h i. elim (among_Contains [] i) [ ];
}
