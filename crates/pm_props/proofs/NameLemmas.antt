-- Each name is that of one property, and a look-up by a name finds that property.
use Rattle.std.proofs.Common.{◌≡◌, ℕ, Bool, true, false, true≢false, not, ◌&&◌, ◌||◌, Some, List, [], ◌∷◌, ◌++◌, find, codes, refl, sym, ap, ◌∙◌, inl, inr, ◌↔◌, IsTrue}
use Rattle.std.specs.Prelude.{Option, None}
use Rattle.std.specs.Str.{bytes_eq}
use Rattle.std.proofs.lemmas.Bool.{cases_Bool, and_parts, and_from, or_cases}
use Rattle.std.proofs.lemmas.Slice.Eq.{bytes_eq-Decides}
use Rattle.pm_object_type.specs.declared.object_type.ObjectType.{ObjectType}
use Rattle.pm_object_type.specs.declared.object_type.ObjectType.TheVariants.{Polytope, Cone, Fan}
use Rattle.pm_props.specs.declared.property.PropId.{PropId}
use Rattle.pm_props.specs.Properties.{every_property, first_name, cone_name, fan_name, name_in, has, has_program}
use Rattle.pm_vector.proofs.Lists.{Among, here, there}
use Rattle.pm_props.proofs.Every.{all_properties, among_every}
use Rattle.pm_props.proofs.Places.{same_property_is}
use Rattle.pm_props.specs.Places.{same_property}
use Rattle.pm_props.specs.Names.{IsNameOf, is_name, property_named, property_named_in, program_named, program_name, is_program_name}

-- ---- what is found passes
pub some_same : {X : Type 0} (x y : X) → Some x ≡ Some y → x ≡ y
some_same x y e = cc

pub find_passes : {X : Type 0} (test : X → Bool) (xs : List X) (x : X) → find test xs ≡ Some x → test x ≡ true
find_passes test [] x e = cc
find_passes test (y ∷ ys) x e = elim (cases_Bool (test y)) [
  | inl h ↦ ap test (sym (some_same y x (rw h at e))) ∙ h
  | inr h ↦ find_passes test ys x (rw h at e)
]

-- something is found where something passes
find_finds : {X : Type 0} (test : X → Bool) (xs : List X) {x : X} → Among x xs → test x ≡ true → (y : X) × (find test xs ≡ Some y)
find_finds test [] h e = elim h [ ]
find_finds test (y ∷ ys) here e = (y, (rw e refl))
find_finds test (y ∷ ys) (there later) e = elim (cases_Bool (test y)) [
  | inl t ↦ (y, (rw t refl))
  | inr t ↦ rw t (find_finds test ys later e)
]

-- ---- the names
-- whether a look-up found the property
abbrev is_found : Option PropId → PropId → Bool
is_found None p = false
is_found (Some q) p = same_property q p

found_is : (r : Option PropId) (p : PropId) → is_found r p ≡ true → r ≡ Some p
found_is None p h = absurd (true≢false (sym h))
found_is (Some q) p h = ap (λ z. Some z) (same_property_is q p h)

abbrev by_first : PropId → Bool
by_first p = is_found (property_named (first_name p)) p

abbrev by_cone_name : PropId → Bool
by_cone_name p = is_found (property_named (cone_name p)) p

abbrev by_fan_name : PropId → Bool
by_fan_name p = is_found (property_named (fan_name p)) p

named_first : (p : PropId) → property_named (first_name p) ≡ Some p
named_first p = found_is (property_named (first_name p)) p (all_properties by_first refl p)

named_cone : (p : PropId) → property_named (cone_name p) ≡ Some p
named_cone p = found_is (property_named (cone_name p)) p (all_properties by_cone_name refl p)

named_fan : (p : PropId) → property_named (fan_name p) ≡ Some p
named_fan p = found_is (property_named (fan_name p)) p (all_properties by_fan_name refl p)

-- ---- any of a property's names
pub named_by_name : (text : List ℕ) (p : PropId) → IsNameOf text p → property_named text ≡ Some p
named_by_name text p (inl e) = ap property_named e ∙ named_first p
named_by_name text p (inr (inl e)) = ap property_named e ∙ named_cone p
named_by_name text p (inr (inr e)) = ap property_named e ∙ named_fan p

name_from_test : (text : List ℕ) (p : PropId) → is_name text p ≡ true → IsNameOf text p
name_from_test text p h = elim (or_cases (bytes_eq text (first_name p)) (bytes_eq text (cone_name p) || bytes_eq text (fan_name p)) h) [
  | inl e ↦ inl ((bytes_eq-Decides text (first_name p)).0 e)
  | inr k ↦ elim (or_cases (bytes_eq text (cone_name p)) (bytes_eq text (fan_name p)) k) [
    | inl e ↦ inr (inl ((bytes_eq-Decides text (cone_name p)).0 e))
    | inr e ↦ inr (inr ((bytes_eq-Decides text (fan_name p)).0 e))
  ]
]

pub named_exactly : (text : List ℕ) (p : PropId) → (property_named text ≡ Some p) ↔ IsNameOf text p
named_exactly text p = ((λ e. name_from_test text p (find_passes (is_name text) every_property p e)), named_by_name text p)

-- ---- a name in one table
in_table_is_name : (of : ObjectType) (p : PropId) (text : List ℕ) → text ≡ name_in of p → IsNameOf text p
in_table_is_name Polytope p text e = inl e
in_table_is_name Cone p text e = inr (inl e)
in_table_is_name Fan p text e = inr (inr e)

-- a look-up among some properties, each by one of its names or by what no other has
module _ (test : PropId → Bool) (Is : PropId → Type 0) (tells : (p : PropId) → test p ≡ true → Is p) (shows : (p : PropId) → Is p → test p ≡ true)
    (one : (p q : PropId) → Is p → Is q → p ≡ q) where
  pub found_exactly : (p : PropId) → (find test every_property ≡ Some p) ↔ Is p
  found_exactly p = (
    (λ e. tells p (find_passes test every_property p e)),
    (λ h. let found = find_finds test every_property (among_every p) (shows p h) in
        found.1 ∙ ap (λ q. Some q) (one found.0 p (tells found.0 (find_passes test every_property found.0 found.1)) h)),
  )

pub named_in_exactly : (of : ObjectType) (text : List ℕ) (p : PropId) → (property_named_in of text ≡ Some p) ↔ (IsTrue (has of p) × (text ≡ name_in of p))
named_in_exactly of text p =
    found_exactly (λ q. has of q && bytes_eq text (name_in of q)) (λ q. IsTrue (has of q) × (text ≡ name_in of q))
    (λ q h. let both = and_parts (has of q) (bytes_eq text (name_in of q)) h in (both.0, (bytes_eq-Decides text (name_in of q)).0 both.1))
    (λ q h. and_from (has of q) (bytes_eq text (name_in of q)) h.0 ((bytes_eq-Decides text (name_in of q)).1 h.1))
    (λ q r h k. some_same q r (sym (named_by_name text q (in_table_is_name of q text h.1)) ∙ named_by_name text r (in_table_is_name of r text k.1)))
    p

-- ---- a name of linear programs
abbrev has_full_name : PropId → Bool
has_full_name p = not (has_program p) || bytes_eq (codes "LP." ++ program_name p) (first_name p)

program_full : (p : PropId) → has_program p ≡ true → codes "LP." ++ program_name p ≡ first_name p
program_full p h = (bytes_eq-Decides (codes "LP." ++ program_name p) (first_name p)).0 (second (has_program p) (bytes_eq (codes "LP." ++ program_name p) (first_name p)) h (all_properties has_full_name refl p))
  where
    second : (a b : Bool) → a ≡ true → (not a || b) ≡ true → b ≡ true
    second true b h k = k
    second false b h k = absurd (true≢false (sym h))

pub program_named_exactly : (text : List ℕ) (p : PropId) → (program_named text ≡ Some p) ↔ (IsTrue (has_program p) × (text ≡ program_name p))
program_named_exactly text p =
    found_exactly (is_program_name text) (λ q. IsTrue (has_program q) × (text ≡ program_name q))
    (λ q h. let both = and_parts (has_program q) (bytes_eq text (program_name q)) h in (both.0, (bytes_eq-Decides text (program_name q)).0 both.1))
    (λ q h. and_from (has_program q) (bytes_eq text (program_name q)) h.0 ((bytes_eq-Decides text (program_name q)).1 h.1))
    (λ q r h k. some_same q r (sym (named_by_name (codes "LP." ++ text) q (inl (ap (λ t. codes "LP." ++ t) h.1 ∙ program_full q h.0)))
    ∙ named_by_name (codes "LP." ++ text) r (inl (ap (λ t. codes "LP." ++ t) k.1 ∙ program_full r k.0))))
    p
