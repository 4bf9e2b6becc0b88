-- Lists that are read an item at a time.
use Rattle.std.proofs.Common.{add-one, refl, sym, ap, drop, drop-cons, get_or, length, suc, ◌∙◌, ◌≡◌, ◌+◌, ◌<◌, ◌≤◌, ℕ, List, [], ◌∷◌, ◌++◌, Option, Some, None, Bool, true, false, not, append_assoc, append-nil, true≢false, inl, inr}
use Rattle.std.specs.Prelude.{option_and_then, option_map}
use Rattle.std.specs.List.{list_any}
use Rattle.std.proofs.lemmas.Bool.{cases_Bool}
use Rattle.std.proofs.lemmas.List.{drop_all}
use Rattle.serde_json.specs.Data.{Data, Items, item, no_items}
use Rattle.serde_json.specs.View.{items_view, view}
use Rattle.serde_json.specs.declared.value.Value.{Value}
use Rattle.pm_filing.specs.Profiles.{are_different, each_read, if_different}
use Rattle.std.proofs.Math.Bool.{and-false}

-- ---- no two the same
any_in : {A : Type 0} (test : A → Bool) (xs : List A) (a : A) (rest : List A) → test a ≡ true → list_any test (xs ++ a ∷ rest) ≡ true
any_in test [] a rest h = rw h refl
any_in test (x ∷ xs) a rest h = elim (cases_Bool (test x)) [
  | inl t ↦ rw t refl
  | inr t ↦ rw t (any_in test xs a rest h)
]

none_in : {A : Type 0} (test : A → Bool) (xs : List A) (a : A) → list_any test xs ≡ false → test a ≡ false → list_any test (xs ++ a ∷ []) ≡ false
none_in test [] a h n = rw n refl
none_in test (x ∷ xs) a h n = elim (cases_Bool (test x)) [
  | inl t ↦ absurd (true≢false (rw t at h))
  | inr t ↦ rw t (none_in test xs a (rw t at h) n)
]

not_different : {A : Type 0} (same : A → A → Bool) (front : List A) (a : A) (rest : List A) → list_any (λ x. same x a) front ≡ true → are_different same (front ++ a ∷ rest) ≡ false
not_different same [] a rest h = absurd (true≢false (sym h))
not_different same (x ∷ xs) a rest h = elim (cases_Bool (same x a)) [
  | inl t ↦ rw (any_in (same x) xs a rest t) refl
  | inr t ↦ rw (not_different same xs a rest (rw t at h)) (and-false (not (list_any (same x) (xs ++ a ∷ rest))))
]

still_different : {A : Type 0} (same : A → A → Bool) (front : List A) (a : A) → are_different same front ≡ true → list_any (λ x. same x a) front ≡ false → are_different same (front ++ a ∷ []) ≡ true
still_different same [] a h n = refl
still_different same (x ∷ xs) a h n = elim (cases_Bool (same x a)) [
  | inl t ↦ absurd (true≢false (rw t at n))
  | inr t ↦ elim (cases_Bool (list_any (same x) xs)) [
    | inl u ↦ absurd (true≢false (sym (rw u at h)))
    | inr u ↦ rw (none_in (same x) xs a u t) (still_different same xs a (rw u at h) (rw t at n))
  ]
]

-- ---- items behind those that were read
abbrev pub each_behind : {A : Type 0} → (Data → Option A) → List A → Items → Option (List A)
each_behind read front ds = option_map (λ as'. front ++ as') (each_read read ds)

abbrev pub different_behind : {A : Type 0} → (A → A → Bool) → (Data → Option A) → List A → Items → Option (List A)
different_behind same read front ds = option_and_then (λ as'. if_different same (front ++ as')) (each_read read ds)

each_more : {A : Type 0} (front : List A) (a : A) (r : Option (List A)) → option_map (λ as'. front ++ as') (option_map (λ as'. a ∷ as') r) ≡ option_map (λ as'. (front ++ a ∷ []) ++ as') r
each_more front a None = refl
each_more front a (Some xs) = ap (λ l. Some l) (sym (append_assoc front (a ∷ []) xs))

different_more : {A : Type 0} (same : A → A → Bool) (front : List A) (a : A) (r : Option (List A))
    → option_and_then (λ as'. if_different same (front ++ as')) (option_map (λ as'. a ∷ as') r) ≡ option_and_then (λ as'. if_different same ((front ++ a ∷ []) ++ as')) r
different_more same front a None = refl
different_more same front a (Some xs) = ap (if_different same) (sym (append_assoc front (a ∷ []) xs))

none_more : {A : Type 0} (same : A → A → Bool) (front : List A) (a : A) (r : Option (List A)) → list_any (λ x. same x a) front ≡ true
    → option_and_then (λ as'. if_different same (front ++ as')) (option_map (λ as'. a ∷ as') r) ≡ None
none_more same front a None h = refl
none_more same front a (Some xs) h = rw (not_different same front a xs h) refl

module _ {A : Type 0} (read : Data → Option A) (d : Data) where
  pub each-item : (front : List A) (a : A) (ds : Items) → read d ≡ Some a → each_behind read front (item d ds) ≡ each_behind read (front ++ a ∷ []) ds
  each-item front a ds is = rw is (each_more front a (each_read read ds))

  pub each-none : (front : List A) (ds : Items) → read d ≡ None → each_behind read front (item d ds) ≡ None
  each-none front ds is = rw is refl

  pub different-item : (same : A → A → Bool) (front : List A) (a : A) (ds : Items) → read d ≡ Some a → different_behind same read front (item d ds) ≡ different_behind same read (front ++ a ∷ []) ds
  different-item same front a ds is = rw is (different_more same front a (each_read read ds))

  pub different-none : (same : A → A → Bool) (front : List A) (ds : Items) → read d ≡ None → different_behind same read front (item d ds) ≡ None
  different-none same front ds is = rw is refl

  pub different-repeated : (same : A → A → Bool) (front : List A) (a : A) (ds : Items) → read d ≡ Some a → list_any (λ x. same x a) front ≡ true → different_behind same read front (item d ds) ≡ None
  different-repeated same front a ds is h = rw is (none_more same front a (each_read read ds) h)

pub different-fresh : {A : Type 0} (same : A → A → Bool) (front : List A) (a : A) → are_different same front ≡ true → list_any (λ x. same x a) front ≡ false → are_different same (front ++ a ∷ []) ≡ true
different-fresh same front a h n = still_different same front a h n

pub each-end : {A : Type 0} (read : Data → Option A) (front : List A) → each_behind read front no_items ≡ Some front
each-end read front = ap (λ l. Some l) (append-nil front)

pub different-end : {A : Type 0} (same : A → A → Bool) (read : Data → Option A) (front : List A) → are_different same front ≡ true → different_behind same read front no_items ≡ Some front
different-end same read front h = rw (append-nil front, h) refl

-- ---- a turn
pub next_item : (vs : List Value) (i : ℕ) (v : Value) → i < length vs → v ≡ get_or vs i v → items_view (drop i vs) ≡ item (view v) (items_view (drop (i + 1) vs))
next_item vs i v within is = rw add-one (ap items_view (drop-cons vs i v within ∙ ap (λ w. w ∷ drop (suc i) vs) (sym is)))

module _ {A : Type 0} (same : A → A → Bool) (read : Data → Option A) (vs : List Value) (i : ℕ) (v : Value) (front : List A) (all : Option (List A))
    (within : i < length vs) (is : v ≡ get_or vs i v) where
  pub turn-item : all ≡ different_behind same read front (items_view (drop i vs)) → (a : A) → read (view v) ≡ Some a → all ≡ different_behind same read (front ++ a ∷ []) (items_view (drop (i + 1) vs))
  turn-item so_far a e = so_far ∙ ap (different_behind same read front) (next_item vs i v within is) ∙ different-item read (view v) same front a (items_view (drop (i + 1) vs)) e

  pub turn-none : all ≡ different_behind same read front (items_view (drop i vs)) → read (view v) ≡ None → all ≡ None
  turn-none so_far e = so_far ∙ ap (different_behind same read front) (next_item vs i v within is) ∙ different-none read (view v) same front (items_view (drop (i + 1) vs)) e

  pub turn-repeated : all ≡ different_behind same read front (items_view (drop i vs)) → (a : A) → read (view v) ≡ Some a → list_any (λ x. same x a) front ≡ true → all ≡ None
  turn-repeated so_far a e h = so_far ∙ ap (different_behind same read front) (next_item vs i v within is) ∙ different-repeated read (view v) same front a (items_view (drop (i + 1) vs)) e h

  pub each-turn : all ≡ each_behind read front (items_view (drop i vs)) → (a : A) → read (view v) ≡ Some a → all ≡ each_behind read (front ++ a ∷ []) (items_view (drop (i + 1) vs))
  each-turn so_far a e = so_far ∙ ap (each_behind read front) (next_item vs i v within is) ∙ each-item read (view v) front a (items_view (drop (i + 1) vs)) e

  pub each-turn-none : all ≡ each_behind read front (items_view (drop i vs)) → read (view v) ≡ None → all ≡ None
  each-turn-none so_far e = so_far ∙ ap (each_behind read front) (next_item vs i v within is) ∙ each-none read (view v) front (items_view (drop (i + 1) vs)) e

module _ {A : Type 0} (same : A → A → Bool) (read : Data → Option A) (vs : List Value) (i : ℕ) (front : List A) (all : Option (List A)) (over : length vs ≤ i) where
  pub turn-end : are_different same front ≡ true → all ≡ different_behind same read front (items_view (drop i vs)) → all ≡ Some front
  turn-end h so_far = so_far ∙ ap (λ ws. different_behind same read front (items_view ws)) (drop_all i vs over) ∙ different-end same read front h

  pub each-turn-end : all ≡ each_behind read front (items_view (drop i vs)) → all ≡ Some front
  each-turn-end so_far = so_far ∙ ap (λ ws. each_behind read front (items_view ws)) (drop_all i vs over) ∙ each-end read front
