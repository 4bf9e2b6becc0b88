-- Looking a property up, from a place on.
use Rattle.pm_object.specs.State.{first_cols, read_at, value_of}
use Rattle.pm_types.specs.Forms.{stated_cols}
use Rattle.pm_object.specs.Views.{held_seen}
use Rattle.pm_object.specs.declared.held.Held.{Held}
use Rattle.pm_props.proofs.Places.{same_property_is, same_property_refl}
use Rattle.pm_props.specs.Places.{place_of, same_place, same_property}
use Rattle.pm_types.specs.Views.{view_of}
use Rattle.pm_props.specs.declared.property.PropId.{PropId}
use Rattle.std.specs.List.{list_all}
use Rattle.std.proofs.Common.{Bool, Some, arith, drop, false, get_or, refl, sym, true, ◌≢◌}
use Rattle.std.specs.Prelude.{List, Option, [], length, map, nat_eq, suc, zero, ℕ, ◌+◌, ◌<◌, ◌∷◌, ◌≡◌}
use Rattle.pm_props.specs.contracts.property.PropId.{the_type}
use denote.Enum.Bare.{sameb, same_false, same_true}

-- the answer of `==` on two properties
pub is_property : (p q : PropId) → sameb the_type p q ≡ true → p ≡ q
is_property p q e = same_true the_type tt p q e

pub is_other : (p q : PropId) → sameb the_type p q ≡ false → p ≢ q
is_other p q e = same_false the_type p q e

apart : (p q : PropId) → q ≢ p → same_property p q ≡ false
apart p q n = by (same_property p q) refl
  where
    by : (t : Bool) → same_property p q ≡ t → same_property p q ≡ false
    by true e = absurd (n (sym (same_property_is p q e)))
    by false e = e

pub value_here : (p : PropId) (xs : List Held) (i : ℕ) (x : Held) → i < length xs → x ≡ get_or xs i x → x.id ≡ p → value_of p (map held_seen (drop i xs)) ≡ Some (view_of x.value)
value_here p [] i x h is k = absurd (omega arith)
value_here p (y ∷ ys) zero x h is k = let same : same_property p y.id ≡ true = rw (← is, k) (same_property_refl p) in rw (same, is) refl
value_here p (y ∷ ys) (suc i) x h is k = value_here p ys i x (omega arith) is k

pub value_next : (p : PropId) (xs : List Held) (i j : ℕ) (x : Held) → j ≡ i + 1 → i < length xs → x ≡ get_or xs i x → x.id ≢ p → value_of p (map held_seen (drop i xs)) ≡ value_of p (map held_seen (drop j xs))
value_next p [] i j x e h is k = absurd (omega arith)
value_next p (y ∷ ys) zero j x e h is k = let other : same_property p y.id ≡ false = rw (← is) (apart p x.id k) in let j' : j ≡ suc zero = omega arith in rw (other, j') refl
value_next p (y ∷ ys) (suc i) j x e h is k = let j' : j ≡ suc (i + 1) = omega arith in rw j' (value_next p ys i (i + 1) x refl (omega arith) is k)

-- ---- what is read at a place
pub read_on : (sub : Option ℕ) (p : PropId) (xs : List Held) (i : ℕ) (x : Held) → i < length xs → x ≡ get_or xs i x → same_place x.place (place_of sub x.id) ≡ true → x.id ≡ p
    → value_of p (read_at sub (map held_seen (drop i xs))) ≡ Some (view_of x.value)
read_on sub p [] i x h is t k = absurd (omega arith)
read_on sub p (y ∷ ys) zero x h is t k =
    let t' : same_place y.place (place_of sub y.id) ≡ true = rw (← is) t in
    let same : same_property p y.id ≡ true = rw (← is, k) (same_property_refl p) in
    rw (t', same, is) refl
read_on sub p (y ∷ ys) (suc i) x h is t k = read_on sub p ys i x (omega arith) is t k

pub read_over : (sub : Option ℕ) (p : PropId) (xs : List Held) (i j : ℕ) (x : Held) → j ≡ i + 1 → i < length xs → x ≡ get_or xs i x → same_place x.place (place_of sub x.id) ≡ true → x.id ≢ p
    → value_of p (read_at sub (map held_seen (drop i xs))) ≡ value_of p (read_at sub (map held_seen (drop j xs)))
read_over sub p [] i j x e h is t k = absurd (omega arith)
read_over sub p (y ∷ ys) zero j x e h is t k =
    let t' : same_place y.place (place_of sub y.id) ≡ true = rw (← is) t in
    let other : same_property p y.id ≡ false = rw (← is) (apart p x.id k) in
    let j' : j ≡ suc zero = omega arith in
    rw (t', other, j') refl
read_over sub p (y ∷ ys) (suc i) j x e h is t k = let j' : j ≡ suc (i + 1) = omega arith in rw j' (read_over sub p ys i (i + 1) x refl (omega arith) is t k)

pub read_past : (sub : Option ℕ) (p : PropId) (xs : List Held) (i j : ℕ) (x : Held) → j ≡ i + 1 → i < length xs → x ≡ get_or xs i x → same_place x.place (place_of sub x.id) ≡ false
    → value_of p (read_at sub (map held_seen (drop i xs))) ≡ value_of p (read_at sub (map held_seen (drop j xs)))
read_past sub p [] i j x e h is t = absurd (omega arith)
read_past sub p (y ∷ ys) zero j x e h is t =
    let t' : same_place y.place (place_of sub y.id) ≡ false = rw (← is) t in
    let j' : j ≡ suc zero = omega arith in
    rw (t', j') refl
read_past sub p (y ∷ ys) (suc i) j x e h is t = let j' : j ≡ suc (i + 1) = omega arith in rw j' (read_past sub p ys i (i + 1) x refl (omega arith) is t)

-- ---- the first column count, and tests of all elements, from a place on
pub cols_here : (xs : List Held) (i : ℕ) (x : Held) → i < length xs → x ≡ get_or xs i x → nat_eq (stated_cols x.id (view_of x.value)) 0 ≡ false → first_cols (map held_seen (drop i xs)) ≡ Some (stated_cols x.id (view_of x.value))
cols_here [] i x h is k = absurd (omega arith)
cols_here (y ∷ ys) zero x h is k = let k' : nat_eq (stated_cols y.id (view_of y.value)) 0 ≡ false = rw (← is) k in rw (k', is) refl
cols_here (y ∷ ys) (suc i) x h is k = cols_here ys i x (omega arith) is k

pub cols_next : (xs : List Held) (i j : ℕ) (x : Held) → j ≡ i + 1 → i < length xs → x ≡ get_or xs i x → nat_eq (stated_cols x.id (view_of x.value)) 0 ≡ true → first_cols (map held_seen (drop i xs)) ≡ first_cols (map held_seen (drop j xs))
cols_next [] i j x e h is k = absurd (omega arith)
cols_next (y ∷ ys) zero j x e h is k = let k' : nat_eq (stated_cols y.id (view_of y.value)) 0 ≡ true = rw (← is) k in let j' : j ≡ suc zero = omega arith in rw (k', j') refl
cols_next (y ∷ ys) (suc i) j x e h is k = let j' : j ≡ suc (i + 1) = omega arith in rw j' (cols_next ys i (i + 1) x refl (omega arith) is k)

pub all_stops : {X Y : Type 0} (test : Y → Bool) (f : X → Y) (xs : List X) (i : ℕ) (x : X) → i < length xs → x ≡ get_or xs i x → test (f x) ≡ false → list_all test (map f (drop i xs)) ≡ false
all_stops test f [] i x h is k = absurd (omega arith)
all_stops test f (y ∷ ys) zero x h is k = let k' : test (f y) ≡ false = rw (← is) k in rw k' refl
all_stops test f (y ∷ ys) (suc i) x h is k = all_stops test f ys i x (omega arith) is k

pub all_next : {X Y : Type 0} (test : Y → Bool) (f : X → Y) (xs : List X) (i j : ℕ) (x : X) → j ≡ i + 1 → i < length xs → x ≡ get_or xs i x → test (f x) ≡ true → list_all test (map f (drop i xs)) ≡ list_all test (map f (drop j xs))
all_next test f [] i j x e h is k = absurd (omega arith)
all_next test f (y ∷ ys) zero j x e h is k = let k' : test (f y) ≡ true = rw (← is) k in let j' : j ≡ suc zero = omega arith in rw (k', j') refl
all_next test f (y ∷ ys) (suc i) j x e h is k = let j' : j ≡ suc (i + 1) = omega arith in rw j' (all_next test f ys i (i + 1) x refl (omega arith) is k)
