-- Sums of numbers, and how many elements a list has.
use Rattle.pm_vector.proofs.Filters.{any_to}
use Rattle.pm_vector.proofs.Lists.{Among, among_All, here}
use Rattle.pm_geom.specs.Graphs.{IsAscending, holds}
use Rattle.pm_laws_normal_fans.proofs.Places.{pairs_head, pairs_tail}
use Rattle.std.proofs.Common.{ap, arith, false, refl, sym, true, true≢false, ◌∙◌}
use Rattle.std.proofs.lemmas.Bool.{eqb-true}
use Rattle.std.proofs.lemmas.List.Elements.{All-tail}
use Rattle.std.proofs.lemmas.List.Sums.{sum_by-cons}
use Rattle.std.specs.List.{count_by}
use Rattle.std.specs.Prelude.{Bool, List, [], if◌then◌else◌, nat_eq, suc, zero, ℕ, ◌&&◌, ◌+◌, ◌==◌, ◌<◌, ◌||◌, ◌∷◌, ◌≡◌}

-- f 0 + .. + f (m - 1)
abbrev pub sum : ℕ → (ℕ → ℕ) → ℕ
sum zero f = 0
sum (suc m) f = sum m f + f m

pub sum_as : (m : ℕ) (f g : ℕ → ℕ) → ((i : ℕ) → i < m → f i ≡ g i) → sum m f ≡ sum m g
sum_as zero f g h = refl
sum_as (suc m) f g h = let e = sum_as m f g (λ i l. h i (omega arith)) in let q = h m (omega arith) in omega arith

sum_none : (m : ℕ) → sum m (λ i. 0) ≡ 0
sum_none zero = refl
sum_none (suc m) = let e = sum_none m in omega arith

pub sum_plus : (m : ℕ) (f g : ℕ → ℕ) → sum m (λ i. f i + g i) ≡ sum m f + sum m g
sum_plus zero f g = refl
sum_plus (suc m) f g = let e = sum_plus m f g in omega arith

pub sum_turned : (m k : ℕ) (a : ℕ → ℕ → ℕ) → sum m (λ i. sum k (λ j. a i j)) ≡ sum k (λ j. sum m (λ i. a i j))
sum_turned zero k a = sym (sum_none k)
sum_turned (suc m) k a = ap (λ z. z + sum k (λ j. a m j)) (sum_turned m k a) ∙ sym (sum_plus k (λ j. sum m (λ i. a i j)) (λ j. a m j))

-- the first of the numbers
pub sum_front : (m : ℕ) (f : ℕ → ℕ) → sum (suc m) f ≡ f 0 + sum m (λ i. f (suc i))
sum_front zero f = omega arith
sum_front (suc m) f = let e = sum_front m f in omega arith

-- ---- one place
abbrev pub only_at : ℕ → ℕ → ℕ → ℕ
only_at i j c = if nat_eq i j then c else 0

elsewhere : (i j c : ℕ) → ¬ (i ≡ j) → only_at i j c ≡ 0
elsewhere i j c n = by (nat_eq i j) refl
  where
    by : (t : Bool) → nat_eq i j ≡ t → (if t then c else 0) ≡ 0
    by true e = absurd (n (eqb-true i j e))
    by false e = refl

nat_eq_refl : (i : ℕ) → nat_eq i i ≡ true
nat_eq_refl i = grind arith

pub at_one : (i j c : ℕ) → i ≡ j → only_at i j c ≡ c
at_one i j c e = ap (λ t. if t then c else 0) (ap (λ k. nat_eq i k) (sym e) ∙ nat_eq_refl i)

none_there : (m j c : ℕ) → ((i : ℕ) → i < m → ¬ (i ≡ j)) → sum m (λ i. only_at i j c) ≡ 0
none_there m j c n = sum_as m (λ i. only_at i j c) (λ i. 0) (λ i l. elsewhere i j c (n i l)) ∙ sum_none m

pub sum_one : (m j c : ℕ) → j < m → sum m (λ i. only_at i j c) ≡ c
sum_one zero j c l = absurd (omega arith)
sum_one (suc m) j c l = by (nat_eq m j) refl (λ k. sum_one m j c k)
  where
    by : (t : Bool) → nat_eq m j ≡ t → (j < m → sum m (λ i. only_at i j c) ≡ c) → sum m (λ i. only_at i j c) + (if t then c else 0) ≡ c
    by true e rest = let q : m ≡ j = eqb-true m j e in let z = none_there m j c (λ i k s. omega arith) in omega arith
    by false e rest = let z = rest (not_last e) in omega arith
      where
        not_last : nat_eq m j ≡ false → j < m
        not_last e = by_cases (λ q. true≢false (sym (nat_eq_refl m) ∙ ap (λ k. nat_eq m k) q ∙ e))
          where
            by_cases : ¬ (m ≡ j) → j < m
            by_cases n = omega arith

-- ---- renamed places
module _ (m k : ℕ) (to back : ℕ → ℕ) (to_within : (i : ℕ) → i < m → to i < k) (back_within : (j : ℕ) → j < k → back j < m) (back_to : (i : ℕ) → i < m → back (to i) ≡ i) (to_back : (j : ℕ) → j < k → to (back j) ≡ j) where
  pub sum_renamed : (f g : ℕ → ℕ) → ((i : ℕ) → i < m → g (to i) ≡ f i) → sum m f ≡ sum k g
  sum_renamed f g h =
      sum_as m f (λ i. sum k (λ j. only_at j (to i) (f i))) (λ i l. sym (sum_one k (to i) (f i) (to_within i l)))
      ∙ sum_turned m k (λ i j. only_at j (to i) (f i))
      ∙ sum_as k (λ j. sum m (λ i. only_at j (to i) (f i))) g (λ j l. sum_as m (λ i. only_at j (to i) (f i)) (λ i. only_at i (back j) (g j)) (λ i li. moved i j li l) ∙ sum_one m (back j) (g j) (back_within j l))
    where
      moved : (i j : ℕ) → i < m → j < k → only_at j (to i) (f i) ≡ only_at i (back j) (g j)
      moved i j li lj = by (nat_eq j (to i)) refl
        where
          by : (t : Bool) → nat_eq j (to i) ≡ t → (if t then f i else 0) ≡ only_at i (back j) (g j)
          by true e = let q : j ≡ to i = eqb-true j (to i) e in sym (at_one i (back j) (g j) (sym (ap back q ∙ back_to i li)) ∙ ap g q ∙ h i li)
          by false e = sym (elsewhere i (back j) (g j) (λ s. true≢false (sym (nat_eq_refl j) ∙ ap (nat_eq j) (sym (ap to s ∙ to_back j lj)) ∙ e)))

-- ---- lists
abbrev pub one : Bool → ℕ
one b = if b then 1 else 0

eq_refl : (x : ℕ) → (x == x) ≡ true
eq_refl x = grind arith

eq_not : (x j : ℕ) → ¬ (x ≡ j) → (x == j) ≡ false
eq_not x j n = by (x == j) refl
  where
    by : (t : Bool) → (x == j) ≡ t → t ≡ false
    by true e = absurd (n (eqb-true x j e))
    by false e = refl

not_held : (row : List ℕ) (x : ℕ) → ((y : ℕ) → Among y row → x < y) → holds row x ≡ false
not_held row x above = by (holds row x) refl
  where
    by : (t : Bool) → holds row x ≡ t → t ≡ false
    by true e = absurd (let (y, i, same) = any_to (λ (z : ℕ). z == x) row e in let l = above y i in let q : y ≡ x = eqb-true y x same in omega arith)
    by false e = refl

from_zero_add : (z : ℕ) → z ≡ 0 + z
from_zero_add z = omega arith

-- how many elements of a rising list pass the test
pub count_is : (m : ℕ) (p : ℕ → Bool) (row : List ℕ) → IsAscending m row → count_by p row ≡ sum m (λ j. one (holds row j && p j))
count_is m p [] a = sym (sum_none m)
count_is m p (x ∷ row) a =
    let rest = count_is m p row (All-tail (λ j. j < m) x row a.0, pairs_tail (λ i j. i < j) x row a.1) in
    let first = sum_one m x (one (p x)) (among_All (λ j. j < m) here a.0) in
    sum_by-cons (λ y. one (p y)) x row ∙ ap (λ z. one (p x) + z) rest ∙ ap (λ z. z + sum m (λ j. one (holds row j && p j))) (sym first)
    ∙ sym (sum_plus m (λ j. only_at j x (one (p x))) (λ j. one (holds row j && p j)))
    ∙ sum_as m (λ j. only_at j x (one (p x)) + one (holds row j && p j)) (λ j. one (holds (x ∷ row) j && p j)) (λ j l. both j)
  where
    none : holds row x ≡ false
    none = not_held row x (λ y i. pairs_head (λ i j. i < j) x row a.1 i)

    both : (j : ℕ) → only_at j x (one (p x)) + one (holds row j && p j) ≡ one (holds (x ∷ row) j && p j)
    both j = by (nat_eq j x) refl
      where
        at : (t : Bool) → p x ≡ t → one t + 0 ≡ one t
        at true e = refl
        at false e = refl

        by : (t : Bool) → nat_eq j x ≡ t → (if t then one (p x) else 0) + one (holds row j && p j) ≡ one ((x == j || holds row j) && p j)
        by true e =
            let q : j ≡ x = eqb-true j x e in
            ap (λ z. one (p x) + one (holds row z && p z)) q ∙ ap (λ b. one (p x) + one (b && p x)) none ∙ at (p x) refl
            ∙ sym (ap (λ z. one ((x == z || holds row z) && p z)) q ∙ ap (λ b. one ((b || holds row x) && p x)) (eq_refl x))
        by false e =
            let n : ¬ (x ≡ j) = λ q. true≢false (sym (nat_eq_refl j) ∙ ap (nat_eq j) (sym q) ∙ e) in
            sym (ap (λ b. one ((b || holds row j) && p j)) (eq_not x j n) ∙ from_zero_add (one (holds row j && p j)))
