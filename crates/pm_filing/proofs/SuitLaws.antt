-- The values of a file that is read suit one column count.
use Rattle.std.proofs.lemmas.Option.{same_Some as some_is}
use Rattle.pm_vector.proofs.Lists.{Among, here, there, among_append, among_append_left, among_append_right}
use Rattle.pm_filing.specs.FileParts.{Part, value, programs}
use Rattle.pm_filing.specs.FileReadings.{ArePassed, ArePassedIn, Named, Seen, cols_of_value, fits_sites, named_objective, named_objectives, named_values, tied_values}
use Rattle.pm_filing.specs.Profiles.{objectives_in, values_in}
use Rattle.pm_filing.specs.ReadingViews.{are_formed_values}
use Rattle.pm_filing.specs.Views.{Suits}
use Rattle.pm_object.proofs.Formed.{agrees_free, agrees_itself, ambient_is, dimension_of, only}
use Rattle.pm_object.specs.State.{ambient_in}
use Rattle.pm_props.proofs.Places.{same_property_is}
use Rattle.pm_props.specs.Properties.{is_ambient}
use Rattle.pm_object_type.specs.declared.object_type.ObjectType.{ObjectType}
use Rattle.pm_props.specs.declared.property.PropId.{PropId}
use Rattle.pm_props.specs.declared.property.PropId.TheVariants.{ConeAmbientDim, LinearObjective}
use Rattle.pm_types.specs.Forms.{HavePrimitiveRows, agrees_with, are_rows, is_formed, stated_cols}
use Rattle.pm_types.specs.Values.{PropertyValue, whole}
use Rattle.std.proofs.Common.{ap, arith, false, inl, inr, refl, subst, sym, true, true≢false, ◌∙◌}
use Rattle.std.specs.List.{list_all}
use Rattle.std.specs.Option.{is_some}
use Rattle.std.specs.Prelude.{Bool, List, None, Option, Some, [], if◌then◌else◌, nat_eq, ℕ, ◌&&◌, ◌++◌, ◌∷◌, ◌≡◌, ◌⊎◌}
use lib.IntN.{pos}

-- the value passes the tests of columns and rows where n columns are known
record Agrees (of : ObjectType) (tied : List Named) (n : ℕ) (x : Named) : Type 0 where
  columns : agrees_with n x.property x.value ≡ true
  rows : are_rows of x.property x.value ≡ true
  primitive : HavePrimitiveRows x.property x.value
  sites : fits_sites tied x.property x.value ≡ true

abbrev AllAgree : ObjectType → List Named → ℕ → List Named → Type 0
AllAgree of tied n xs = (x : Named) → Among x xs → Agrees of tied n x

-- an ambient dimension has its form
abbrev Dimensions : List Named → Type 0
Dimensions xs = (x : Named) → Among x xs → is_ambient x.property ≡ true → is_formed x.property x.value ≡ true

known_agree : (of : ObjectType) (tied : List Named) (n : ℕ) (xs : List Named) → ArePassed of tied (Some n) xs → AllAgree of tied n xs
known_agree of tied n [] h x i = elim i [ ]
known_agree of tied n (y ∷ xs) (p, h) x here = record { columns = p.columns; rows = p.rows; primitive = p.primitive; sites = p.sites }
known_agree of tied n (y ∷ xs) (p, h) x (there i) = known_agree of tied n xs h x i

same_number : (n : ℕ) → nat_eq n n ≡ true
same_number n = grind arith

-- the first value that tells the column count agrees with it
itself_agrees : (n : ℕ) (p : PropId) (v : PropertyValue) → (is_ambient p ≡ true → is_formed p v ≡ true) → cols_of_value p v ≡ Some n → agrees_with n p v ≡ true
itself_agrees n p v formed e = by (is_ambient p) refl e
  where
    by : (t : Bool) → is_ambient p ≡ t → (if t then ambient_in (Some v) else (if nat_eq (stated_cols p v) 0 then None else Some (stated_cols p v))) ≡ Some n → agrees_with n p v ≡ true
    by true a h =
        let q : p ≡ ConeAmbientDim = sym (same_property_is ConeAmbientDim p (sym (ambient_is p) ∙ a)) in
        let d = dimension_of v (subst (λ r. is_formed r v ≡ true) q (formed a)) in
        let n_is : d.n ≡ n = some_is _ _ (sym (ap (λ w. ambient_in (Some w)) d.value) ∙ h) in
        subst (λ r. agrees_with n r v ≡ true) (sym q) (subst (λ w. agrees_with n ConeAmbientDim w ≡ true) (sym d.value) (subst (λ k. agrees_with n ConeAmbientDim (whole (pos k)) ≡ true) (sym n_is) (same_number n)))
    by false a h = at (nat_eq (stated_cols p v) 0) h
      where
        at : (z : Bool) → (if z then None else Some (stated_cols p v)) ≡ Some n → agrees_with n p v ≡ true
        at true k = absurd (true≢false (ap is_some (sym k)))
        at false k = subst (λ m. agrees_with m p v ≡ true) (some_is _ _ k) (agrees_itself p v (sym (ambient_is p) ∙ a))

-- a value that tells none agrees with any
others_agree : (n : ℕ) (p : PropId) (v : PropertyValue) → (is_ambient p ≡ true → is_formed p v ≡ true) → cols_of_value p v ≡ None → agrees_with n p v ≡ true
others_agree n p v formed e = by (is_ambient p) refl e
  where
    by : (t : Bool) → is_ambient p ≡ t → (if t then ambient_in (Some v) else (if nat_eq (stated_cols p v) 0 then None else Some (stated_cols p v))) ≡ None → agrees_with n p v ≡ true
    by true a h =
        let q : p ≡ ConeAmbientDim = sym (same_property_is ConeAmbientDim p (sym (ambient_is p) ∙ a)) in
        let d = dimension_of v (subst (λ r. is_formed r v ≡ true) q (formed a)) in
        absurd (true≢false (ap is_some (sym (ap (λ w. ambient_in (Some w)) d.value) ∙ h)))
    by false a h = at (nat_eq (stated_cols p v) 0) refl h
      where
        at : (z : Bool) → nat_eq (stated_cols p v) 0 ≡ z → (if z then None else Some (stated_cols p v)) ≡ None → agrees_with n p v ≡ true
        at true s k = agrees_free n p v (sym (ambient_is p) ∙ a) s
        at false s k = absurd (true≢false (ap is_some k))

cons_agree : (of : ObjectType) (tied : List Named) (n : ℕ) (y : Named) (xs : List Named) → Agrees of tied n y → AllAgree of tied n xs → AllAgree of tied n (y ∷ xs)
cons_agree of tied n y xs a all x here = a
cons_agree of tied n y xs a all x (there i) = all x i

-- all values that pass, one after another, agree with one column count
one_count : (of : ObjectType) (tied : List Named) (xs : List Named) → Dimensions xs → ArePassed of tied None xs → (n : ℕ) × AllAgree of tied n xs
one_count of tied [] d h = (1, λ x i. elim i [ ])
one_count of tied (y ∷ xs) d (p, h) = by (cols_of_value y.property y.value) refl h (λ k. one_count of tied xs (λ x i. d x (there i)) k)
  where
    by : (c : Option ℕ) → cols_of_value y.property y.value ≡ c → ArePassed of tied c xs → (ArePassed of tied None xs → (n : ℕ) × AllAgree of tied n xs) → (n : ℕ) × AllAgree of tied n (y ∷ xs)
    by (Some n) e k rest = (n, cons_agree of tied n y xs (record { columns = itself_agrees n y.property y.value (d y here) e; rows = p.rows; primitive = p.primitive; sites = p.sites }) (known_agree of tied n xs k))
    by None e k rest =
        let (n, all) = rest k in
        (n, cons_agree of tied n y xs (record { columns = others_agree n y.property y.value (d y here) e; rows = p.rows; primitive = p.primitive; sites = p.sites }) all)

-- ---- the values of a file among those that are tested
pub record Tested (of : ObjectType) (parts : List Part) (v : PropId × PropertyValue) : Type 0 where
  pub x : Named
  pub among : Among x (named_values of parts)
  pub property : x.property ≡ v.0
  pub value : x.value ≡ v.1

pub is_tested : (of : ObjectType) (parts : List Part) {v : PropId × PropertyValue} → Among v (values_in parts) → Tested of parts v
is_tested of [] i = elim i [ ]
is_tested of (value p w ∷ parts) here = record { x = _; among = here; property = refl; value = refl }
is_tested of (value p w ∷ parts) (there i) = let t = is_tested of parts i in record { x = t.x; among = there t.among; property = t.property; value = t.value }
is_tested of (programs vs ∷ parts) i = let t = is_tested of parts i in record { x = t.x; among = among_append_right (named_objectives vs) t.among; property = t.property; value = t.value }

-- so is an objective
pub objective_tested : (of : ObjectType) (parts : List Part) (v : PropertyValue) → Among (Some v) (objectives_in parts) → Tested of parts (LinearObjective, v)
objective_tested of [] v i = elim i [ ]
objective_tested of (value p w ∷ parts) v i = let t = objective_tested of parts v i in record { x = t.x; among = there t.among; property = t.property; value = t.value }
objective_tested of (programs vs ∷ parts) v i = elim (among_append vs (objectives_in parts) i) [
  | inl j ↦ let (x, k, p, w) = named vs j in record { x = x; among = among_append_left (named_values of parts) k; property = p; value = w }
  | inr j ↦ let t = objective_tested of parts v j in record { x = t.x; among = among_append_right (named_objectives vs) t.among; property = t.property; value = t.value }
]
  where
    named : (us : List (Option PropertyValue)) → Among (Some v) us → (x : Named) × Among x (named_objectives us) × (x.property ≡ LinearObjective) × (x.value ≡ v)
    named (u ∷ us) here = (_, here, refl, refl)
    named (u ∷ us) (there j) = let (x, k, p, w) = named us j in (x, among_append_right (named_objective u) k, p, w)
    named [] j = elim j [ ]

-- a value that is tested is one of the file, or an objective
pub from_file : (of : ObjectType) (parts : List Part) (x : Named) → Among x (named_values of parts) → Among (x.property, x.value) (values_in parts) ⊎ ((x.property ≡ LinearObjective) × Among (Some x.value) (objectives_in parts))
from_file of [] x i = elim i [ ]
from_file of (value p w ∷ parts) x here = inl here
from_file of (value p w ∷ parts) x (there i) = elim (from_file of parts x i) [ inl j ↦ inl (there j) | inr e ↦ inr e ]
from_file of (programs vs ∷ parts) x i = elim (among_append (named_objectives vs) (named_values of parts) i) [
  | inl j ↦ let (e, k) = named vs j in inr (e, among_append_left (objectives_in parts) k)
  | inr j ↦ later (from_file of parts x j)
]
  where
    one : (v : Option PropertyValue) → Among x (named_objective v) → (x.property ≡ LinearObjective) × (v ≡ Some x.value)
    one None j = elim j [ ]
    one (Some w) j = let same = only j in (ap (λ (z : Named). z.property) same, ap (λ (z : Named). Some z.value) (sym same))

    named : (us : List (Option PropertyValue)) → Among x (named_objectives us) → (x.property ≡ LinearObjective) × Among (Some x.value) us
    named [] j = elim j [ ]
    named (u ∷ us) j = elim (among_append (named_objective u) (named_objectives us) j) [
      | inl k ↦ let (e, same) = one u k in (e, subst (λ z. Among z (u ∷ us)) same here)
      | inr k ↦ let (e, l) = named us k in (e, there l)
    ]

    later : Among (x.property, x.value) (values_in parts) ⊎ ((x.property ≡ LinearObjective) × Among (Some x.value) (objectives_in parts)) → Among (x.property, x.value) (values_in parts) ⊎ ((x.property ≡ LinearObjective) × Among (Some x.value) (vs ++ objectives_in parts))
    later r = elim r [ inl j ↦ inl j | inr e ↦ inr (e.0, among_append_right vs e.1) ]

-- ---- the whole
pub all_at : {X : Type 0} (p : X → Bool) {x : X} (xs : List X) → list_all p xs ≡ true → Among x xs → p x ≡ true
all_at p [] h i = elim i [ ]
all_at p (y ∷ xs) h here = left (p y) (list_all p xs) h
  where
    left : (a b : Bool) → (a && b) ≡ true → a ≡ true
    left true b k = refl
    left false b k = absurd (true≢false (sym k))
all_at p (y ∷ xs) h (there i) = all_at p xs (right (p y) (list_all p xs) h) i
  where
    right : (a b : Bool) → (a && b) ≡ true → b ≡ true
    right true b k = k
    right false b k = absurd (true≢false (sym k))

-- what is tested suits one column count, where it has its form
pub record TestedSuits (s : Seen) : Type 0 where
  pub count : ℕ
  pub suits : (v : PropId × PropertyValue) → Tested s.of s.parts v → is_formed v.0 v.1 ≡ true → Suits s.of count v.0 v.1
  pub sites : (x : Named) → Among x (named_values s.of s.parts) → fits_sites (tied_values s) x.property x.value ≡ true

pub tested_suits : (s : Seen) → ArePassedIn s → are_formed_values (values_in s.parts) ≡ true → TestedSuits s
tested_suits s passed formed = record { count = count.0; suits = suits; sites = λ x i. (count.1 x i).sites }
  where
    dimensions : Dimensions (named_values s.of s.parts)
    dimensions x i a = elim (from_file s.of s.parts x i) [
      | inl j ↦ all_at (λ (w : PropId × PropertyValue). is_formed w.0 w.1) (values_in s.parts) formed j
      | inr e ↦ absurd (true≢false (sym (ap is_ambient (sym e.0) ∙ a)))
    ]

    count : (n : ℕ) × AllAgree s.of (tied_values s) n (named_values s.of s.parts)
    count = one_count s.of (tied_values s) (named_values s.of s.parts) dimensions passed

    suits : (v : PropId × PropertyValue) → Tested s.of s.parts v → is_formed v.0 v.1 ≡ true → Suits s.of count.0 v.0 v.1
    suits v t form =
        let a = count.1 t.x t.among in
        record {
          formed = form;
          columns = subst (λ w. agrees_with count.0 v.0 w ≡ true) t.value (subst (λ p. agrees_with count.0 p t.x.value ≡ true) t.property a.columns);
          rows = subst (λ w. are_rows s.of v.0 w ≡ true) t.value (subst (λ p. are_rows s.of p t.x.value ≡ true) t.property a.rows);
          primitive = subst (λ w. HavePrimitiveRows v.0 w) t.value (subst (λ p. HavePrimitiveRows p t.x.value) t.property a.primitive);
        }
