-- Rows folded into single words.
use Rattle.std.proofs.Common.{◌≡◌, ◌≢◌, ◌↔◌, ℕ, ◌+◌, ◌-◌, ◌*◌, ◌/◌, ◌%◌, ◌^◌, ◌<◌, ◌≤◌, ◌==◌, ◌&&◌, Bool, true, false, List, [], ◌∷◌, ◌++◌, length, get_or, bit_and, bit_or, arith, ap, sym, subst, ◌∙◌, refl, inl, inr, add-zero}
use Rattle.std.specs.Int.{bit_at}
use Rattle.std.specs.List.{range_with_len}
use Rattle.std.specs.Prelude.{count_by, count_ones}
use Rattle.std.proofs.lemmas.Bool.{cases_lt, cases_Bool, eqb-true, eq-eqb, ne_eqb}
use Rattle.std.proofs.lemmas.List.{get_or_append_left, get_or_past, get_or_push, get_or_read, length_push}
use Rattle.std.proofs.lemmas.Nat.{mod-mul-add}
use Rattle.std.proofs.lemmas.Nat.Bits.{bit_at_and, bit_at_or, bit_at-lt, bit_at-zero}
use Rattle.pm_bits.specs.Folds.{AreFolds, IsFold}
use Rattle.pm_bits.specs.Sets.{has, common_count, IsSubset}
use Rattle.pm_bits.specs.Table.{Table, Implies, OtherContains, row_at}
use Rattle.pm_bits.specs.Words.{has_bit, AreFolded, IsWithin}
use Rattle.pm_bits.proofs.Bits.{and_test, has_bit_at, has_bit_past, within_bit, within_from_bits}
use Rattle.pm_bits.proofs.Counts.{count_by-add, count_by-agree, count_by-none, ones_of_word}
use Rattle.pm_bits.proofs.Members.{IsRowOf}

-- ---- the words of a row in one

pub folded_none : (words : List ℕ) → AreFolded words 0 0
folded_none words = record { every = λ k b l e. absurd (omega arith); only = λ b l e. absurd (let z = bit_at-zero b in omega arith) }

pub folded_more : (words : List ℕ) (n w : ℕ) → AreFolded words n w → AreFolded words (n + 1) (bit_or w (get_or words n 0))
folded_more words n w f = record {
  every = λ k b l e. elim (cases_lt k n) [
    | inl before ↦ (let h = f.every k b before e in omega (arith, bit_at_or w (get_or words n 0) b, bit_at-lt (get_or words n 0) b))
    | inr last ↦ (let k_is : k ≡ n = omega arith in let here : bit_at (get_or words n 0) b ≡ 1 = subst (λ m. bit_at (get_or words m 0) b ≡ 1) k_is e in omega (arith, bit_at_or w (get_or words n 0) b, bit_at-lt w b))
  ];
  only = λ b l e. elim (cases_lt (bit_at w b) 1) [
    | inl none ↦ (n, omega arith, omega (arith, bit_at_or w (get_or words n 0) b))
    | inr some ↦ (let h = f.only b l (omega (arith, bit_at-lt w b)) in (h.0, omega arith, h.2))
  ];
}

pub fold_of_row : (row : List Bool) (words : List ℕ) (w : ℕ) → IsRowOf row words → AreFolded words (length words) w → IsFold row w
fold_of_row row words w r f = record { every = every'; only = only' }
  where
    every' : (i : ℕ) → has row i ≡ true → bit_at w (i % 64) ≡ 1
    every' i member =
        let set : has_bit words i ≡ true = sym (r.bits i) ∙ member in
        elim (cases_lt (i / 64) (length words)) [
          | inl inside ↦ f.every (i / 64) (i % 64) inside (eqb-true _ 1 set)
          | inr past ↦ absurd (let e : true ≡ false = sym set ∙ has_bit_past words i past in cc)
        ]

    only' : (b : ℕ) → b < 64 → bit_at w b ≡ 1 → (i : ℕ) × (has row i ≡ true) × (i % 64 ≡ b)
    only' b below e =
        let (k, l, set) = f.only b below e in
        (k * 64 + b, r.bits (k * 64 + b) ∙ has_bit_at words k b below ∙ eq-eqb _ 1 set, mod-mul-add k 64 b below)

-- ---- one row in another, by their folds

pub within_folds : (whole part : List Bool) (w v : ℕ) → v < 2 ^ 64 → IsFold whole w → IsFold part v → IsSubset part whole → bit_and w v ≡ v
within_folds whole part w v small f g h = within_from_bits w v small (λ b below e.
    let (i, member, rest) = g.only b below e in
    subst (λ m. bit_at w m ≡ 1) rest (f.every i (h i member)))

-- a member is below the length
has_below : (row : List Bool) (i : ℕ) → has row i ≡ true → i < length row
has_below row i member = elim (cases_lt i (length row)) [ inl below ↦ below | inr past ↦ absurd (let e : true ≡ false = sym member ∙ get_or_past row i false past in cc) ]

-- the fold of a row of at most 64 numbers has the row's bits
pub fold_bit : (row : List Bool) (w i : ℕ) → length row ≤ 64 → IsFold row w → i < 64 → has row i ≡ (bit_at w i == 1)
fold_bit row w i short f below =
    let rest : i % 64 ≡ i = omega arith in
    elim (cases_Bool (has row i)) [
      | inl member ↦ member ∙ sym (eq-eqb (bit_at w i) 1 (subst (λ m. bit_at w m ≡ 1) rest (f.every i member)))
      | inr none ↦ none ∙ sym (ne_eqb (bit_at w i) 1 (λ e.
          let (k, member, same) = f.only i below e in
          let k_below = has_below row k member in
          let k_is : k ≡ i = omega arith in
          let e' : true ≡ false = sym member ∙ ap (has row) k_is ∙ none in cc))
    ]

pub folds_within : (whole part : List Bool) (w v : ℕ) → length whole ≤ 64 → length part ≤ 64 → IsFold whole w → IsFold part v → bit_and w v ≡ v → IsSubset part whole
folds_within whole part w v short short' f g e i member =
    let below = has_below part i member in
    let small : i < 64 = omega arith in
    fold_bit whole w i short f small ∙ eq-eqb (bit_at w i) 1 (within_bit w v i e (eqb-true _ 1 (sym (fold_bit part v i short' g small) ∙ member)))

-- ---- what two rows have in common, by their folds

both_true : (a b : Bool) → (a && b) ≡ true → (a ≡ true) × (b ≡ true)
both_true true true e = (refl, refl)
both_true true false e = absurd (cc)
both_true false b e = absurd (cc)

pub none_in_common : (one other : List Bool) (v w : ℕ) → IsFold one v → IsFold other w → bit_and v w ≡ 0 → common_count one other ≡ 0
none_in_common one other v w f g e =
    count_by-agree (λ i. has one i && has other i) (λ i. false) 0 (length one) (λ k low high. apart k) ∙ count_by-none 0 (length one)
  where
    apart : (k : ℕ) → (has one k && has other k) ≡ false
    apart k = elim (cases_Bool (has one k && has other k)) [
      | inr none ↦ none
      | inl yes' ↦ absurd (let (h, h') = both_true (has one k) (has other k) yes' in
          let z : bit_at (bit_and v w) (k % 64) ≡ 0 = ap (λ n. bit_at n (k % 64)) e ∙ bit_at-zero (k % 64) in
          omega (arith, bit_at_and v w (k % 64), f.every k h, g.every k h'))
    ]

pub short_common : (one other : List Bool) (v w : ℕ) → bit_and v w < 2 ^ 64 → length one ≤ 64 → length other ≤ 64 → IsFold one v → IsFold other w → count_ones (bit_and v w) ≡ common_count one other
short_common one other v w small short short' f g =
    let n = length one in
    let p : ℕ → Bool = λ i. has one i && has other i in
    let size : n + (64 - n) ≡ 64 = omega arith in
    let none = count_by-agree p (λ i. false) (0 + n) (64 - n) (λ k low high. ap (λ b. b && has other k) (get_or_past one k false (omega arith))) ∙ count_by-none (0 + n) (64 - n) in
    let split = count_by-add p 0 n (64 - n) in
    ones_of_word (bit_and v w) 64 small
    ∙ count_by-agree (λ k. bit_at (bit_and v w) k == 1) p 0 64 (λ k low high. sym (bit k (omega arith)))
    ∙ ap (λ m. count_by p (range_with_len 0 m)) (sym size) ∙ split ∙ ap (λ x. common_count one other + x) none ∙ add-zero (common_count one other)
  where
    bit : (k : ℕ) → k < 64 → (has one k && has other k) ≡ (bit_at (bit_and v w) k == 1)
    bit k below =
        rw (fold_bit one v k short f below, fold_bit other w k short' g below)
        (sym (and_test (bit_at v k) (bit_at w k) (bit_at-lt v k) (bit_at-lt w k) (bit_at (bit_and v w) k) (bit_at_and v w k)))

-- ---- a table of rows and their folds

pub folds_push : (rows rows' : List (List Bool)) (folds folds' : List ℕ) (row : List Bool) (w : ℕ) → AreFolds rows folds → IsFold row w → rows' ≡ rows ++ row ∷ [] → folds' ≡ folds ++ w ∷ [] → AreFolds rows' folds'
folds_push rows rows' folds folds' row w f g rows_are folds_are = rw (rows_are, folds_are) record {
  as_many = let e = length_push rows row in let e' = length_push folds w in let m = f.as_many in omega arith;
  each = λ k l. elim (cases_lt k (length rows)) [
    | inl before ↦ rw (get_or_append_left rows (row ∷ []) [] k before, get_or_append_left folds (w ∷ []) 0 k (let m = f.as_many in omega arith)) (f.each k before)
    | inr last ↦ (let k_is : k ≡ length rows = let e = length_push rows row in omega arith in
        rw (get_or_push rows row [] k (sym k_is), get_or_push folds w 0 k (f.as_many ∙ sym k_is)) g)
  ];
}

-- the same of a table as it is seen
pub table_folds : (t : Table) (n : ℕ) (rows : List (List Bool)) (folds : List ℕ) → record { row_len = n; rows = rows } ≡ t → AreFolds rows folds → AreFolds t.rows folds
table_folds t n rows folds e f = subst (λ (u : Table). AreFolds u.rows folds) e f

pub table_lens : (t : Table) (n : ℕ) (rows : List (List Bool)) → record { row_len = n; rows = rows } ≡ t → ((k : ℕ) (d : List Bool) → k < length rows → length (get_or rows k d) ≡ n) → (k : ℕ) → k < length t.rows → length (row_at t k) ≡ t.row_len
table_lens t n rows e h = subst (λ (u : Table). (k : ℕ) → k < length u.rows → length (row_at u k) ≡ u.row_len) e (λ k l. h k [] l)

pub table_row : (t : Table) (folds : List ℕ) → AreFolds t.rows folds → (k w : ℕ) → k < length t.rows → w ≡ get_or folds k w → IsFold (row_at t k) w
table_row t folds f k w l e = subst (IsFold (row_at t k)) (sym (get_or_read folds k w (let m = f.as_many in omega arith) e 0)) (f.each k l)

-- the folds of a table of short rows tell which rows contain s
pub others_by_folds : (t : Table) (folds : List ℕ) (s : List Bool) (v i j : ℕ) (P : Type 0) → v < 2 ^ 64 → t.row_len ≤ 64 → length s ≡ t.row_len → ((k : ℕ) → k < length t.rows → length (row_at t k) ≡ t.row_len) → AreFolds t.rows folds → IsFold s v
    → (P ↔ ((k : ℕ) × (k < length folds) × (k ≢ i) × (k ≢ j) × IsWithin (get_or folds k 0) v)) → P ↔ OtherContains t s i j
others_by_folds t folds s v i j P small short long lens f g o = (
  λ p. let (k, l, not_i, not_j, e) = o.0 p in
      let inside : k < length t.rows = let m = f.as_many in omega arith in
      (k, inside, not_i, not_j, folds_within (row_at t k) s (get_or folds k 0) v (let m = lens k inside in omega arith) (omega arith) (f.each k inside) g e),
  λ h. let (k, inside, not_i, not_j, sub) = h in
      o.1 (k, (let m = f.as_many in omega arith), not_i, not_j, within_folds (row_at t k) s (get_or folds k 0) v small (f.each k inside) g sub),
)

-- and which implications hold in them
pub implied_by_folds : (t : Table) (folds : List ℕ) (a b : List Bool) (v w end : ℕ) (P : Type 0) → v < 2 ^ 64 → w < 2 ^ 64 → t.row_len ≤ 64 → length a ≡ t.row_len → length b ≡ t.row_len → end ≤ length t.rows → ((k : ℕ) → k < length t.rows → length (row_at t k) ≡ t.row_len) → AreFolds t.rows folds → IsFold a v → IsFold b w
    → (P ↔ ((k : ℕ) → k < end → IsWithin (get_or folds k 0) v → IsWithin (get_or folds k 0) w)) → P ↔ Implies t a b end
implied_by_folds t folds a b v w end P small small' short long long' few lens f g g' o = (
  λ p k l h.
      let inside : k < length t.rows = omega (arith, l, few) in
      folds_within (row_at t k) b (get_or folds k 0) w (let m = lens k inside in omega arith) (omega arith) (f.each k inside) g'
      (o.0 p k l (within_folds (row_at t k) a (get_or folds k 0) v small (f.each k inside) g h)),
  λ h. o.1 (λ k l e.
      let inside : k < length t.rows = omega (arith, l, few) in
      within_folds (row_at t k) b (get_or folds k 0) w small' (f.each k inside) g'
      (h k l (folds_within (row_at t k) a (get_or folds k 0) v (let m = lens k inside in omega arith) (omega arith) (f.each k inside) g e))),
)
