-- Looking a value of a draft up, and taking it out.
use Rattle.pm_object.specs.Reading.{Put, drafted, place_in, without}
use Rattle.pm_props.proofs.Places.{same_property_is, same_property_refl}
use Rattle.pm_props.specs.Places.{same_property}
use Rattle.pm_props.specs.declared.property.PropId.{PropId}
use Rattle.std.proofs.Common.{arith, drop, false, get_or, refl, sym, ap, true, true≢false, ◌≢◌, ◌∙◌}
use Rattle.std.specs.List.{remove}
use Rattle.std.specs.Option.{is_some}
use Rattle.std.specs.Prelude.{Bool, List, None, Some, [], if◌then◌else◌, length, map, suc, zero, ℕ, ◌+◌, ◌<◌, ◌∷◌, ◌≡◌}

apart : (p q : PropId) → q ≢ p → same_property p q ≡ false
apart p q n = by (same_property p q) refl
  where
    by : (t : Bool) → same_property p q ≡ t → same_property p q ≡ false
    by true e = absurd (n (sym (same_property_is p q e)))
    by false e = e

-- the value at place i is of the property, or it is not
pub place_here : {B : Type 0} (f : B → Put) (p : PropId) (xs : List B) (i n : ℕ) (x : B) → i < length xs → x ≡ get_or xs i x → (f x).property ≡ p → place_in p n (drop i (map f xs)) ≡ Some n
place_here f p [] i n x h is k = absurd (omega arith)
place_here f p (y ∷ ys) zero n x h is k = let same : same_property p (f y).property ≡ true = rw (← is, k) (same_property_refl p) in rw same refl
place_here f p (y ∷ ys) (suc i) n x h is k = place_here f p ys i n x (omega arith) is k

pub place_next : {B : Type 0} (f : B → Put) (p : PropId) (xs : List B) (i j n : ℕ) (x : B) → j ≡ i + 1 → i < length xs → x ≡ get_or xs i x → (f x).property ≢ p
    → place_in p n (drop i (map f xs)) ≡ place_in p (n + 1) (drop j (map f xs))
place_next f p [] i j n x e h is k = absurd (omega arith)
place_next f p (y ∷ ys) zero j n x e h is k =
    let other : same_property p (f y).property ≡ false = rw (← is) (apart p (f x).property k) in
    let j' : j ≡ suc zero = omega arith in let n' : n + 1 ≡ suc n = omega arith in rw (other, j', n') refl
place_next f p (y ∷ ys) (suc i) j n x e h is k = let j' : j ≡ suc (i + 1) = omega arith in rw j' (place_next f p ys i (i + 1) n x refl (omega arith) is k)

-- what stands at the place of a property
pub record Placed (p : PropId) (xs : List Put) (k : ℕ) : Type 0 where
  pub value : (d : Put) → drafted p xs ≡ Some (get_or xs k d).value
  pub rest : without p xs ≡ remove xs k

pub placed : (p : PropId) (xs : List Put) (n i : ℕ) → place_in p n xs ≡ Some i → (k : ℕ) × (i ≡ n + k) × Placed p xs k
placed p [] n i e = absurd (true≢false (sym (ap is_some e)))
placed p (x ∷ xs) n i e = by (same_property p x.property) refl (λ h. placed p xs (suc n) i h) e
  where
    some_is : (a b : ℕ) → Some a ≡ Some b → a ≡ b
    some_is a b h = cc

    by : (t : Bool) → same_property p x.property ≡ t → (place_in p (suc n) xs ≡ Some i → (k : ℕ) × (i ≡ suc n + k) × Placed p xs k)
        → (if t then Some n else place_in p (suc n) xs) ≡ Some i → (k : ℕ) × (i ≡ n + k) × Placed p (x ∷ xs) k
    by true s rest h = (0, (let l = some_is n i h in omega arith), record { value = λ d. rw s refl; rest = rw s refl })
    by false s rest h =
        let (k, l, at) = rest h in
        (suc k, omega arith, record { value = λ d. ap (λ t. if t then Some x.value else drafted p xs) s ∙ at.value d; rest = ap (λ t. if t then xs else x ∷ without p xs) s ∙ ap (λ t. x ∷ t) at.rest })

pub not_placed : (p : PropId) (xs : List Put) (n : ℕ) → place_in p n xs ≡ None → (drafted p xs ≡ None)
not_placed p [] n e = refl
not_placed p (x ∷ xs) n e = by (same_property p x.property) (λ h. not_placed p xs (suc n) h) e
  where
    by : (t : Bool) → (place_in p (suc n) xs ≡ None → drafted p xs ≡ None) → (if t then Some n else place_in p (suc n) xs) ≡ None → (if t then Some x.value else drafted p xs) ≡ None
    by true rest h = absurd (true≢false (ap is_some h))
    by false rest h = rest h

pub nothing_out : (p : PropId) (xs : List Put) (n : ℕ) → place_in p n xs ≡ None → without p xs ≡ xs
nothing_out p [] n e = refl
nothing_out p (x ∷ xs) n e = by (same_property p x.property) (λ h. nothing_out p xs (suc n) h) e
  where
    by : (t : Bool) → (place_in p (suc n) xs ≡ None → without p xs ≡ xs) → (if t then Some n else place_in p (suc n) xs) ≡ None → (if t then xs else x ∷ without p xs) ≡ x ∷ xs
    by true rest h = absurd (true≢false (ap is_some h))
    by false rest h = ap (λ t. x ∷ t) (rest h)

pub map_remove : {A B : Type 0} (f : A → B) (xs : List A) (k : ℕ) → map f (remove xs k) ≡ remove (map f xs) k
map_remove f [] zero = refl
map_remove f [] (suc k) = refl
map_remove f (x ∷ xs) zero = refl
map_remove f (x ∷ xs) (suc k) = ap (λ t. f x ∷ t) (map_remove f xs k)

pub map_at : {A B : Type 0} (f : A → B) (xs : List A) (k : ℕ) (d : A) → get_or (map f xs) k (f d) ≡ f (get_or xs k d)
map_at f [] k d = refl
map_at f (x ∷ xs) zero d = refl
map_at f (x ∷ xs) (suc k) d = map_at f xs k d

-- taking out of the code's list
pub out : {B : Type 0} (f : B → Put) (p : PropId) (ys : List B) (i : ℕ) (y : B) → place_in p 0 (map f ys) ≡ Some i → y ≡ get_or ys i y
    → (Some (f y).value ≡ drafted p (map f ys)) × (map f (remove ys i) ≡ without p (map f ys))
out f p ys i y e is =
    let (k, l, at) = placed p (map f ys) 0 i e in
    let same : k ≡ i = omega arith in
    let here : get_or (map f ys) i (f y) ≡ f y = map_at f ys i y ∙ ap f (sym is) in
    let value : drafted p (map f ys) ≡ Some (get_or (map f ys) i (f y)).value = at.value (f y) ∙ ap (λ t. Some (get_or (map f ys) t (f y)).value) same in
    (sym (value ∙ ap (λ z. Some z.value) here), map_remove f ys i ∙ sym (at.rest ∙ ap (λ t. remove (map f ys) t) same))
