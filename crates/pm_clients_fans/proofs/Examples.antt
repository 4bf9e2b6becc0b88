-- The examples of numbers hold.
use Rattle.pm_vector.proofs.Lists.{Among, Contains_among, among_Contains, here, there}
use Rattle.pm_clients_fans.specs.Examples.{NumbersAreRead}
use Rattle.std.proofs.Common.{ap, arith, refl}
use Rattle.std.proofs.lemmas.Int.{ints}
use Rattle.std.proofs.lemmas.List.Elements.{All-cons, All-nil}
use Rattle.std.specs.Prelude.{List, [], length, ◌∷◌, ◌≡◌}
use lib.IntN.{pos, ℤ}
use lib.Signed.{◌≤ℤ◌}

abbrev three : List ℤ
three = pos 1 ∷ pos 3 ∷ pos 2 ∷ []

not_four : Among (pos 4) three → ⊥
not_four i = by (pos 4) refl i
  where
    by : (k : ℤ) → k ≡ pos 4 → Among k three → ⊥
    by k e here = omega (arith, ints)
    by k e (there here) = omega (arith, ints)
    by k e (there (there here)) = omega (arith, ints)
    by k e (there (there (there i))) = elim i [ ]

pub numbers_are_read : NumbersAreRead
numbers_are_read = record {
  most = (Contains_among {xs = three} (there (here {xs = pos 2 ∷ []})), All-cons (λ y. y ≤ℤ pos 3) (pos 1) (pos 3 ∷ pos 2 ∷ []) (omega (arith, ints)) (All-cons (λ y. y ≤ℤ pos 3) (pos 3) (pos 2 ∷ []) (omega (arith, ints)) (All-cons (λ y. y ≤ℤ pos 3) (pos 2) [] (omega (arith, ints)) (All-nil (λ y. y ≤ℤ pos 3)))));
  not_first = λ h. let l : pos 3 ≤ℤ pos 1 = h.1 1 (pos 0) (omega arith) in omega (arith, ints);
  not_listed = λ h. not_four (among_Contains three h.0);
  none = refl;
  not_nought = λ h. omega (arith, ints);
  one = (pos 2, All-cons (λ z. z ≡ pos 2) (pos 2) (pos 2 ∷ []) refl (All-cons (λ z. z ≡ pos 2) (pos 2) [] refl (All-nil (λ z. z ≡ pos 2))));
  none_one = (pos 0, All-nil (λ z. z ≡ pos 0));
  not_one = λ h. let a : pos 2 ≡ h.0 = h.1 0 (pos 0) (omega arith) in let b : pos 1 ≡ h.0 = h.1 2 (pos 0) (omega arith) in omega (arith, ints);
  simplices = (refl, (refl, tt));
  no_simplex = λ h. let e = h.0 in omega (arith, ints);
  set_left = λ h. h;
  number_left = λ h. h;
  finds_dims = record { targets = refl; sources = refl; lists = refl };
  finds_dims_wide = record { targets = refl; sources = refl; lists = refl };
  finds_no_dims = λ h. let e : 0 ≡ 1 = ap length h.lists in omega arith;
}
