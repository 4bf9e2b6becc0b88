-- What holds of the first rows of a list, one by one; and tests that say no.
use Rattle.pm_vector.specs.NullSpaces.{IsNull}
use Rattle.pm_geom.specs.Cones.{CutOut}
use Rattle.pm_vector.proofs.Lists.{all_append, all_at, among_Contains}
use Rattle.pm_vector.proofs.RowLaws.{dot_comm}
use Rattle.pm_vector.specs.Rows.{Row, dot}
use Rattle.std.proofs.Common.{ap, arith, refl, subst, sym, ◌++◌, ◌∙◌}
use Rattle.std.proofs.lemmas.Int.{ints}
use Rattle.std.proofs.lemmas.List.{take_all, take_more}
use Rattle.std.proofs.lemmas.List.Elements.{Contains-get_or}
use Rattle.std.specs.List.{AllByRecursion, Contains}
use Rattle.std.specs.Prelude.{IsTrue, List, [], false, get_or, length, take, true, ℕ, ◌+◌, ◌<◌, ◌≤◌, ◌∷◌, ◌≡◌, ◌↔◌}
use lib.IntN.{pos, ℤ}
use lib.Signed.{◌<ℤ◌, ◌≤ℤ◌}

pub listed : {X : Type 0} (xs : List X) (j : ℕ) (x : X) → j < length xs → x ≡ get_or xs j x → Contains xs x
listed xs j x within is = subst (Contains xs) (sym is) (Contains-get_or xs j x within)

-- one element more
pub taken_push : {X : Type 0} (xs : List X) (i : ℕ) (x : X) → i < length xs → x ≡ get_or xs i x → take (i + 1) xs ≡ take i xs ++ x ∷ []
taken_push xs i x within is = take_more xs i x within ∙ ap (λ y. take i xs ++ y ∷ []) (sym is)

pub taken_more : (P : Row → Type 0) (X : List Row) (i : ℕ) (x : Row) → i < length X → x ≡ get_or X i x → AllByRecursion P (take i X) → P x → AllByRecursion P (take (i + 1) X)
taken_more P X i x l e h p = rw (taken_push X i x l e) (all_append P (take i X) (x ∷ []) h (p, tt))

pub taken_end : (P : Row → Type 0) (X : List Row) (i : ℕ) → length X ≤ i → AllByRecursion P (take i X) → AllByRecursion P X
taken_end P X i l h = rw (take_all i X l) at h

pub no_from : {P : Type 0} → ¬ P → IsTrue false ↔ P
no_from f = (λ h. let e : false ≡ true = h in cc, λ p. absurd (f p))

pub yes_from : {P : Type 0} → P → IsTrue true ↔ P
yes_from p = (λ h. p, λ q. refl)

pub not_at : (P : Row → Type 0) (X : List Row) (i : ℕ) (x : Row) → i < length X → x ≡ get_or X i x → ¬ (P x) → ¬ (AllByRecursion P X)
not_at P X i x l e f h = f (all_at P (among_Contains X (listed X i x l e)) h)

-- ---- rows that are tried one by one on a ray, each by its product
module _ (X : List Row) (ray : Row) (i : ℕ) (x : Row) (within : i < length X) (is : x ≡ get_or X i x) (value : ℤ) (product : value ≡ dot ray x) where
  value_is : value ≡ dot x ray
  value_is = product ∙ dot_comm ray x

  pub cut_more : pos 0 ≤ℤ value → CutOut (take i X) ray → CutOut (take (i + 1) X) ray
  cut_more up so_far = taken_more (λ (b : Row). pos 0 ≤ℤ dot b ray) X i x within is so_far (let e = value_is in omega (arith, ints))

  pub not_cut : value <ℤ pos 0 → IsTrue false ↔ CutOut X ray
  not_cut low = no_from (not_at (λ (b : Row). pos 0 ≤ℤ dot b ray) X i x within is (λ h. let e = value_is in omega (arith, ints)))

  pub null_more : value ≡ pos 0 → IsNull (take i X) ray → IsNull (take (i + 1) X) ray
  null_more level so_far = taken_more (λ (b : Row). dot b ray ≡ pos 0) X i x within is so_far (let e = value_is in omega (arith, ints))

  pub not_null : ¬ (value ≡ pos 0) → IsTrue false ↔ IsNull X ray
  not_null apart = no_from (not_at (λ (b : Row). dot b ray ≡ pos 0) X i x within is (λ h. let e = value_is in omega (arith, ints)))
