-- Lists that compare as equal are equal.
use Rattle.std.proofs.Common.{refl, sym}
use Rattle.std.proofs.lemmas.Cmp.{ranked}
use Rattle.std.specs.Cmp.Lexicographic.{slice_cmp}
use Rattle.std.specs.Ordering.{eq_by_cmp, is_eq, nat_cmp, ordering_then}
use Rattle.std.specs.declared.cmp.Ordering.TheVariants.{Equal, Greater, Less}
use Rattle.std.specs.declared.cmp.Ordering.{Ordering}
use Rattle.std.specs.Prelude.{List, [], false, ℕ, ◌∷◌, ◌≡◌}

abbrev pub lex : List ℕ → List ℕ → Ordering
lex xs ys = slice_cmp nat_cmp xs ys

pub tied_same : (xs ys : List ℕ) → lex xs ys ≡ Equal → xs ≡ ys
tied_same [] [] e = refl
tied_same [] (y ∷ ys) e = absurd cc
tied_same (x ∷ xs) [] e = absurd cc
tied_same (x ∷ xs) (y ∷ ys) e = by (nat_cmp x y) refl (tied_same xs ys) e
  where
    by : (o : Ordering) → o ≡ nat_cmp x y → (lex xs ys ≡ Equal → xs ≡ ys) → ordering_then o (lex xs ys) ≡ Equal → (x ∷ xs) ≡ (y ∷ ys)
    by Less h more q = absurd cc
    by Equal h more q = let a : x ≡ y = ranked x y Equal h in let b = more q in cc
    by Greater h more q = absurd cc

pub apart_test : (xs ys : List ℕ) → ¬ (xs ≡ ys) → eq_by_cmp lex xs ys ≡ false
apart_test xs ys differ = by (lex xs ys) refl
  where
    by : (o : Ordering) → o ≡ lex xs ys → is_eq o ≡ false
    by Less h = refl
    by Equal h = absurd (differ (tied_same xs ys (sym h)))
    by Greater h = refl
