-- Places in a list of rows of bits in order: what a comparison with the row at a place says of the place of another.
use Rattle.pm_bits.specs.Sets.{HasFirstDifference, SameMembers}
use Rattle.pm_lattice.specs.Closures.{IsRowBefore}
use Rattle.pm_lattice.specs.Ranks.{face_at}
use Rattle.pm_lattice.proofs.Keys.{before_of_first}
use Rattle.pm_lattice.proofs.Ranking.{after_place, before_place}
use Rattle.std.proofs.Common.{arith, get_or, subst, sym, ◌∙◌}
use Rattle.std.proofs.lemmas.List.{ext_get_or, get_or_default}
use Rattle.std.specs.List.{All, AllPairs, Contains}
use Rattle.std.specs.Prelude.{Bool, List, [], false, length, ℕ, ◌+◌, ◌<◌, ◌≤◌, ◌≡◌}

pub face_is : (faces : List (List Bool)) (i : ℕ) (f : List Bool) → i < length faces → f ≡ get_or faces i f → face_at faces i ≡ f
face_is faces i f l e = get_or_default faces i [] f l ∙ sym e

pub contains_at : (faces : List (List Bool)) (k : ℕ) → k < length faces → Contains faces (face_at faces k)
contains_at faces k l = (k, l, get_or_default faces k (face_at faces k) [] l)

module _ (faces : List (List Bool)) (s : List Bool) (ordered : AllPairs IsRowBefore faces) (lengths : All (λ f. length f ≡ length s) faces) (i : ℕ) (f : List Bool) (li : i < length faces) (e : f ≡ get_or faces i f) where
  len_is : length f ≡ length s
  len_is = subst (λ g. length g ≡ length s) (sym e) (lengths i f li)

  pub search_less : HasFirstDifference f s → (k : ℕ) → k < length faces → face_at faces k ≡ s → i + 1 ≤ k
  search_less h k l same = let w = after_place faces ordered k i s l li same (subst (λ g. IsRowBefore g s) (sym (face_is faces i f li e)) (before_of_first f s len_is h)) in omega arith

  pub search_greater : HasFirstDifference s f → (k : ℕ) → k < length faces → face_at faces k ≡ s → k < i
  search_greater h k l same = before_place faces ordered k i s l li same (subst (λ g. IsRowBefore s g) (sym (face_is faces i f li e)) (before_of_first s f (sym len_is) h))

  pub search_equal : SameMembers f s → face_at faces i ≡ s
  search_equal h = face_is faces i f li e ∙ ext_get_or false f s len_is (λ k l. h k)

-- a row that the list contains stands nowhere, where no place is left
pub no_place : (faces : List (List Bool)) (s : List Bool) (low high : ℕ) → Contains faces s → high ≤ low → ((k : ℕ) → k < length faces → face_at faces k ≡ s → low ≤ k) → ((k : ℕ) → k < length faces → face_at faces k ≡ s → k < high) → ⊥
no_place faces s low high c l from below =
    let same : face_at faces c.0 ≡ s = get_or_default faces c.0 [] s c.1 ∙ c.2 in
    let a = from c.0 c.1 same in
    let b = below c.0 c.1 same in
    omega arith
