-- The folds of a table whose rows change: a member more, two rows swapped, the last rows dropped.
use Rattle.std.proofs.Common.{◌≡◌, ◌≢◌, ℕ, ◌*◌, ◌%◌, ◌^◌, ◌<◌, Bool, true, List, [], length, get_or, set, take, bit_or, arith, refl, subst, sym, ◌∙◌, inl, inr, get_or-set_same, get_or-set_other}
use Rattle.std.specs.Int.{bit_at, w64}
use Rattle.std.specs.List.{swap}
use Rattle.std.proofs.lemmas.Bool.{cases_eq}
use Rattle.std.proofs.lemmas.List.{get_or-take, length-set, length-take}
use Rattle.std.proofs.lemmas.List.Edits.{Swapped, length-swap, swapped_from_swap}
use Rattle.std.proofs.lemmas.Nat.{mod_below}
use Rattle.std.proofs.lemmas.Nat.Bits.{bit_at_or, bit_at-lt, bit_at_set_same, bit_at_set_other}
use Rattle.pm_bits.specs.Folds.{AreFolds, IsFold}
use Rattle.pm_bits.specs.Sets.{has}

-- the fold of a row with one member more
pub fold_set : (row row' : List Bool) (w i : ℕ) → IsFold row w → has row' i ≡ true → ((k : ℕ) → k ≢ i → has row' k ≡ has row k) → IsFold row' (bit_or w (1 * 2 ^ (i % 64) % 2 ^ 64))
fold_set row row' w i f member others = record { every = every'; only = only' }
  where
    below : i % 64 < 64
    below = mod_below i 64 (omega arith)

    every' : (k : ℕ) → has row' k ≡ true → bit_at (bit_or w (1 * 2 ^ (i % 64) % 2 ^ 64)) (k % 64) ≡ 1
    every' k h = elim (cases_eq k i) [
      | inl e ↦ subst (λ (m : ℕ). bit_at (bit_or w (1 * 2 ^ (i % 64) % 2 ^ 64)) (m % 64) ≡ 1) (sym e) (bit_at_set_same w64 w (i % 64) below)
      | inr ne ↦ (let old = f.every k (sym (others k ne) ∙ h) in omega (arith, bit_at_or w (1 * 2 ^ (i % 64) % 2 ^ 64) (k % 64), bit_at-lt (1 * 2 ^ (i % 64) % 2 ^ 64) (k % 64)))
    ]

    still : (k : ℕ) → has row k ≡ true → has row' k ≡ true
    still k h = elim (cases_eq k i) [ inl e ↦ subst (λ (m : ℕ). has row' m ≡ true) (sym e) member | inr ne ↦ others k ne ∙ h ]

    only' : (b : ℕ) → b < 64 → bit_at (bit_or w (1 * 2 ^ (i % 64) % 2 ^ 64)) b ≡ 1 → (k : ℕ) × (has row' k ≡ true) × (k % 64 ≡ b)
    only' b l e = elim (cases_eq b (i % 64)) [
      | inl same ↦ (i, member, sym same)
      | inr apart ↦ (let (k, h, r) = f.only b l (sym (bit_at_set_other w64 w (i % 64) below b apart) ∙ e) in (k, still k h, r))
    ]

-- another row and its fold at one place
pub folds_set : (rows rows' : List (List Bool)) (folds folds' : List ℕ) (k : ℕ) (row : List Bool) (w : ℕ) → AreFolds rows folds → k < length rows → IsFold row w → rows' ≡ set rows k row → folds' ≡ set folds k w → AreFolds rows' folds'
folds_set rows rows' folds folds' k row w f l g rows_are folds_are = rw (rows_are, folds_are) record {
  as_many = length-set folds k w ∙ f.as_many ∙ sym (length-set rows k row);
  each = λ m lm. elim (cases_eq m k) [
    | inl same ↦ rw (same, get_or-set_same rows k row [] l, get_or-set_same folds k w 0 (let e = f.as_many in omega arith)) g
    | inr other ↦ rw (get_or-set_other rows k m row [] other, get_or-set_other folds k m w 0 other) (f.each m (let e = length-set rows k row in omega arith))
  ];
}

-- two rows change places, and their folds
pub folds_swap : (rows rows' : List (List Bool)) (folds folds' : List ℕ) (i j : ℕ) → AreFolds rows folds → i < length rows → j < length rows → rows' ≡ swap rows i j → folds' ≡ swap folds i j → AreFolds rows' folds'
folds_swap rows rows' folds folds' i j f li lj rows_are folds_are = rw (rows_are, folds_are) record {
  as_many = length-swap folds i j ∙ f.as_many ∙ sym (length-swap rows i j);
  each = λ m lm. elim (cases_eq m i) [
    | inl same ↦ rw (same, moved.0, moved_fold.0) (f.each j lj)
    | inr other ↦ elim (cases_eq m j) [
      | inl same ↦ rw (same, moved.1, moved_fold.1) (f.each i li)
      | inr apart ↦ rw (moved.2 m other apart, moved_fold.2 m other apart) (f.each m (let e = length-swap rows i j in omega arith))
    ]
  ];
}
  where
    moved : Swapped (λ m. get_or rows m []) (λ m. get_or (swap rows i j) m []) i j
    moved = swapped_from_swap rows (swap rows i j) i j [] li lj refl

    moved_fold : Swapped (λ m. get_or folds m 0) (λ m. get_or (swap folds i j) m 0) i j
    moved_fold = swapped_from_swap folds (swap folds i j) i j 0 (let e = f.as_many in omega arith) (let e = f.as_many in omega arith) refl

-- the first rows and their folds
pub folds_take : (rows rows' : List (List Bool)) (folds folds' : List ℕ) (n : ℕ) → AreFolds rows folds → rows' ≡ take n rows → folds' ≡ take n folds → AreFolds rows' folds'
folds_take rows rows' folds folds' n f rows_are folds_are = rw (rows_are, folds_are) record {
  as_many = let e = length-take n rows in let e' = length-take n folds in let m = f.as_many in omega arith;
  each = λ k l.
      let e = length-take n rows in
      let before : k < n = omega arith in
      rw (get_or-take n rows k [] before, get_or-take n folds k 0 before) (f.each k (omega arith));
}

-- ---- the lengths of the rows

-- each row has n bits
abbrev pub HaveBits : ℕ → List (List Bool) → Type 0
HaveBits n rows = (k : ℕ) (d : List Bool) → k < length rows → length (get_or rows k d) ≡ n

pub bits_set : (n : ℕ) (rows rows' : List (List Bool)) (k : ℕ) (row : List Bool) → HaveBits n rows → k < length rows → length row ≡ n → rows' ≡ set rows k row → HaveBits n rows'
bits_set n rows rows' k row h l e rows_are = rw rows_are (λ m d lm. elim (cases_eq m k) [
  | inl same ↦ rw (same, get_or-set_same rows k row d l) e
  | inr other ↦ rw (get_or-set_other rows k m row d other) (h m d (let e = length-set rows k row in omega arith))
])

pub bits_swap : (n : ℕ) (rows rows' : List (List Bool)) (i j : ℕ) → HaveBits n rows → i < length rows → j < length rows → rows' ≡ swap rows i j → HaveBits n rows'
bits_swap n rows rows' i j h li lj rows_are = rw rows_are (λ m d lm.
    let moved = swapped_from_swap rows (swap rows i j) i j d li lj refl in
    elim (cases_eq m i) [
      | inl same ↦ rw (same, moved.0) (h j d lj)
      | inr other ↦ elim (cases_eq m j) [
        | inl same ↦ rw (same, moved.1) (h i d li)
        | inr apart ↦ rw (moved.2 m other apart) (h m d (let e = length-swap rows i j in omega arith))
      ]
    ])

pub bits_take : (n : ℕ) (rows rows' : List (List Bool)) (t : ℕ) → HaveBits n rows → rows' ≡ take t rows → HaveBits n rows'
bits_take n rows rows' t h rows_are = rw rows_are (λ m d lm.
    let e = length-take t rows in
    let before : m < t = omega arith in
    rw (get_or-take t rows m d before) (h m d (omega arith)))
