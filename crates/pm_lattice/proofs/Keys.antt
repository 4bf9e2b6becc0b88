-- Keys in the order of rows of bits: what an insert leaves, and that a strict part of a face comes after it.
use Rattle.pm_vector.proofs.Lists.{Among, Contains_among, among_Contains, here, there}
use Rattle.pm_bits.proofs.Differences.{Less-from_first}
use Rattle.pm_bits.specs.Laws.{row_cmp_total, rows_tie}
use Rattle.pm_bits.specs.Sets.{HasFirstDifference, first_difference_cmp, has, row_cmp}
use Rattle.pm_lattice.specs.Closures.{IsRowBefore}
use Rattle.pm_lattice.specs.Parts.{IsPartOf}
use Rattle.pm_lattice.proofs.Chains.{and_right, true_or_not}
use Rattle.pm_lattice.proofs.Parts.{part_strict}
use Rattle.std.proofs.Common.{ap, arith, inl, inr, refl, subst, sym, ◌∙◌}
use Rattle.std.proofs.lemmas.Cmp.{nat_cmp_total, tied_itself}
use Rattle.std.specs.BTreeMap.{insert_entry}
use Rattle.std.specs.BTreeSet.{insert_key}
use Rattle.std.proofs.lemmas.List.Elements.{All-cons, All-head, All-tail}
use Rattle.std.specs.Cmp.{booleans_Decides}
use Rattle.std.specs.Cmp.Lexicographic.{pointwise_decides}
use Rattle.std.specs.List.{All, Contains}
use Rattle.std.specs.Map.{keys_of}
use Rattle.std.specs.Ordering.{is_eq, match_ordering}
use Rattle.std.specs.Prelude.{Bool, IsTrue, List, [], false, length, not, suc, true, zero, ℕ, ◌<◌, ◌∷◌, ◌≡◌, ◌⊎◌}
use Rattle.std.specs.declared.cmp.Ordering.{Ordering}
use Rattle.std.specs.declared.cmp.Ordering.TheVariants.{Less, Equal, Greater}

pub equal_rows : (x y : List Bool) → row_cmp x y ≡ Equal → x ≡ y
equal_rows x y e = (pointwise_decides booleans_Decides x y).0 (rows_tie x y ∙ ap is_eq e)

-- rows of one length go by their first difference
pub before_of_first : (a b : List Bool) → length a ≡ length b → HasFirstDifference a b → IsRowBefore a b
before_of_first a b e h = let r : first_difference_cmp a b ≡ Less = Less-from_first a b e h in rw (e, tied_itself nat_cmp_total (length b)) r

module _ (x : List Bool) where
  at_new : (o : Ordering) (k : List Bool) (ks rest : List (List Bool)) → row_cmp x k ≡ o → Among x rest → Among x (match_ordering o (x ∷ k ∷ ks) (k ∷ ks) (k ∷ rest))
  at_new Less k ks rest e i = here
  at_new Equal k ks rest e i = subst (λ y. Among x (y ∷ ks)) (equal_rows x k e) here
  at_new Greater k ks rest e i = there i

  new_in : (ks : List (List Bool)) → Among x (insert_key row_cmp ks x)
  new_in [] = here
  new_in (k ∷ ks) = at_new (row_cmp x k) k ks (insert_key row_cmp ks x) refl (new_in ks)

  at_old : (o : Ordering) (k y : List Bool) (ks rest : List (List Bool)) → (Among y ks → Among y rest) → Among y (k ∷ ks) → Among y (match_ordering o (x ∷ k ∷ ks) (k ∷ ks) (k ∷ rest))
  at_old Less k y ks rest h i = there i
  at_old Equal k y ks rest h i = i
  at_old Greater k y ks rest h here = here
  at_old Greater k y ks rest h (there i) = there (h i)

  old_in : (ks : List (List Bool)) (y : List Bool) → Among y ks → Among y (insert_key row_cmp ks x)
  old_in [] y i = elim i [ ]
  old_in (k ∷ ks) y i = at_old (row_cmp x k) k y ks (insert_key row_cmp ks x) (λ j. old_in ks y j) i

  at_either : (o : Ordering) (k y : List Bool) (ks rest : List (List Bool)) → (Among y rest → Among y ks ⊎ (y ≡ x)) → Among y (match_ordering o (x ∷ k ∷ ks) (k ∷ ks) (k ∷ rest)) → Among y (k ∷ ks) ⊎ (y ≡ x)
  at_either Less k y ks rest h here = inr refl
  at_either Less k y ks rest h (there i) = inl i
  at_either Equal k y ks rest h i = inl i
  at_either Greater k y ks rest h here = inl here
  at_either Greater k y ks rest h (there i) = elim (h i) [ inl j ↦ inl (there j) | inr e ↦ inr e ]

  either_in : (ks : List (List Bool)) (y : List Bool) → Among y (insert_key row_cmp ks x) → Among y ks ⊎ (y ≡ x)
  either_in [] y here = inr refl
  either_in [] y (there i) = elim i [ ]
  either_in (k ∷ ks) y i = at_either (row_cmp x k) k y ks (insert_key row_cmp ks x) (λ j. either_in ks y j) i

pub inserted_new : (old new : List (List Bool)) (x : List Bool) → new ≡ insert_key row_cmp old x → Contains new x
inserted_new old new x e = subst (λ ks. Contains ks x) (sym e) (Contains_among (new_in x old))

pub inserted_old : (old new : List (List Bool)) (x : List Bool) → new ≡ insert_key row_cmp old x → (k : List Bool) → Contains old k → Contains new k
inserted_old old new x e k c = subst (λ ks. Contains ks k) (sym e) (Contains_among (old_in x old k (among_Contains old c)))

pub inserted_from : (old new : List (List Bool)) (x : List Bool) → new ≡ insert_key row_cmp old x → (k : List Bool) → Contains new k → Contains old k ⊎ (k ≡ x)
inserted_from old new x e k c = elim (either_in x old k (among_Contains (insert_key row_cmp old x) (subst (λ ks. Contains ks k) e c))) [ inl i ↦ inl (Contains_among i) | inr s ↦ inr s ]

-- ---- entries
entry_at : (o : Ordering) (k : List Bool) (v : ℕ) (e : List Bool × ℕ) (es rest : List (List Bool × ℕ)) → keys_of rest ≡ insert_key row_cmp (keys_of es) k → keys_of (match_ordering o ((k, v) ∷ e ∷ es) ((e.0, v) ∷ es) (e ∷ rest)) ≡ match_ordering o (k ∷ e.0 ∷ keys_of es) (e.0 ∷ keys_of es) (e.0 ∷ insert_key row_cmp (keys_of es) k)
entry_at Less k v e es rest h = refl
entry_at Equal k v e es rest h = refl
entry_at Greater k v e es rest h = ap (λ ks. e.0 ∷ ks) h

keys_with : (k : List Bool) (v : ℕ) (es : List (List Bool × ℕ)) → keys_of (insert_entry row_cmp es k v) ≡ insert_key row_cmp (keys_of es) k
keys_with k v [] = refl
keys_with k v (e ∷ es) = entry_at (row_cmp k e.0) k v e es (insert_entry row_cmp es k v) (keys_with k v es)

-- the keys after an entry is put in
pub keys_inserted : (old new : List (List Bool × ℕ)) (k : List Bool) (v : ℕ) → new ≡ insert_entry row_cmp old k v → keys_of new ≡ insert_key row_cmp (keys_of old) k
keys_inserted old new k v e = ap keys_of e ∙ keys_with k v old

module _ (P : List Bool → ℕ → Type 0) (k : List Bool) (v : ℕ) (p : P k v) where
  entries_at : (o : Ordering) (e : List Bool × ℕ) (es rest : List (List Bool × ℕ)) → row_cmp k e.0 ≡ o → All (λ x. P x.0 x.1) (e ∷ es) → All (λ x. P x.0 x.1) rest → All (λ x. P x.0 x.1) (match_ordering o ((k, v) ∷ e ∷ es) ((e.0, v) ∷ es) (e ∷ rest))
  entries_at Less e es rest c a b = All-cons (λ x. P x.0 x.1) (k, v) (e ∷ es) p a
  entries_at Equal e es rest c a b = All-cons (λ x. P x.0 x.1) (e.0, v) es (subst (λ y. P y v) (equal_rows k e.0 c) p) (All-tail (λ x. P x.0 x.1) e es a)
  entries_at Greater e es rest c a b = All-cons (λ x. P x.0 x.1) e rest (All-head (λ x. P x.0 x.1) e es a) b

  all_with : (es : List (List Bool × ℕ)) → All (λ x. P x.0 x.1) es → All (λ x. P x.0 x.1) (insert_entry row_cmp es k v)
  all_with [] a = All-cons (λ x. P x.0 x.1) (k, v) [] p a
  all_with (e ∷ es) a = entries_at (row_cmp k e.0) e es (insert_entry row_cmp es k v) refl a (all_with es (All-tail (λ x. P x.0 x.1) e es a))

-- what is true of each entry, after one is put in of which it is true
pub entries_inserted : (P : List Bool → ℕ → Type 0) (old new : List (List Bool × ℕ)) (k : List Bool) (v : ℕ) → new ≡ insert_entry row_cmp old k v → P k v → All (λ x. P x.0 x.1) old → All (λ x. P x.0 x.1) new
entries_inserted P old new k v e p a = subst (λ es. All (λ x. P x.0 x.1) es) (sym e) (all_with P k v p old a)

-- ---- the order
-- the least place at which a test fails, below a place at which it does
pub least_place : (P : ℕ → Bool) (n : ℕ) → IsTrue (P n) → (i : ℕ) × IsTrue (P i) × ((k : ℕ) → k < i → ¬ (IsTrue (P k)))
least_place P n t = elim (search_from n) [ inl h ↦ (n, t, h) | inr w ↦ w ]
  where
    step : (n : ℕ) → ((k : ℕ) → k < n → ¬ (IsTrue (P k))) → IsTrue (P n) ⊎ ¬ (IsTrue (P n)) → ((k : ℕ) → k < suc n → ¬ (IsTrue (P k))) ⊎ ((i : ℕ) × IsTrue (P i) × ((k : ℕ) → k < i → ¬ (IsTrue (P k))))
    step n h (inl y) = inr (n, y, h)
    step n h (inr f) = inl (λ k l. elim (cases k n l) [ inl s ↦ h k s | inr e ↦ subst (λ j. ¬ (IsTrue (P j))) (sym e) f ])
      where
        cases : (k n : ℕ) → k < suc n → (k < n) ⊎ (k ≡ n)
        cases k n l = grind arith

    search_from : (n : ℕ) → ((k : ℕ) → k < n → ¬ (IsTrue (P k))) ⊎ ((i : ℕ) × IsTrue (P i) × ((k : ℕ) → k < i → ¬ (IsTrue (P k))))
    search_from zero = inl (λ k l. absurd (omega arith))
    search_from (suc n) = elim (search_from n) [ inl h ↦ step n h (true_or_not (P n)) | inr w ↦ inr w ]

only_first : Bool → Bool → Bool
only_first true b = not b
only_first false b = false

only_first_at : (a b : Bool) → IsTrue a → ¬ (IsTrue b) → IsTrue (only_first a b)
unfolding only_first
only_first_at true true h n = absurd (n refl)
only_first_at true false h n = refl
only_first_at false b h n = h

from_only_first : (a b : Bool) → IsTrue (only_first a b) → IsTrue a × (b ≡ false)
unfolding only_first
from_only_first true true h = absurd cc
from_only_first true false h = (refl, refl)
from_only_first false b h = absurd cc

not_only_first : (a b : Bool) → (IsTrue b → IsTrue a) → ¬ (IsTrue (only_first a b)) → a ≡ b
unfolding only_first
not_only_first true true h n = refl
not_only_first true false h n = absurd (n refl)
not_only_first false true h n = h refl
not_only_first false false h n = refl

-- where the second row has only places of the first, the first place at which they differ is one of the first
pub first_of_part : (f c : List Bool) → ((j : ℕ) → IsTrue (has c j) → IsTrue (has f j)) → (i : ℕ) → IsTrue (has f i) → ¬ (IsTrue (has c i)) → HasFirstDifference f c
first_of_part f c h i a b =
    let w = least_place (λ j. only_first (has f j) (has c j)) i (only_first_at (has f i) (has c i) a b) in
    let p = from_only_first (has f w.0) (has c w.0) w.1 in
    (w.0, p.0, p.1, (λ k l. not_only_first (has f k) (has c k) (h k) (w.2 k l)))

-- a part of a face comes after it
pub part_after : (m : ℕ) (rows : List (List Bool)) (f c : List Bool) → length f ≡ m → IsPartOf rows f c → IsRowBefore f c
part_after m rows f c e p =
    let s = part_strict m rows f c e p in
    before_of_first f c (sym p.len) (first_of_part f c (λ j t. and_right (has p.row j) (has f j) (sym (p.shared j) ∙ t)) s.j s.has s.lacks)

pub before_trans : (x y z : List Bool) → IsRowBefore x y → IsRowBefore y z → IsRowBefore x z
before_trans x y z a b = row_cmp_total.trans x y z a b
