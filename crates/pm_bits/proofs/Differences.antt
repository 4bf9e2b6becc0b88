-- What the order of two rows says of their first difference.
use Rattle.std.proofs.Common.{◌≡◌, ◌↔◌, zero, suc, Bool, true, false, List, [], ◌∷◌, length, arith, ap, sym, ◌∙◌, refl, subst}
use Rattle.std.specs.Prelude.{IsTrue}
use Rattle.std.specs.declared.cmp.Ordering.{Ordering}
use Rattle.std.specs.declared.cmp.Ordering.TheVariants.{Less, Equal, Greater}
use Rattle.std.specs.Ordering.{MatchOrdering, ordering_reverse, ordering_then, nat_cmp, bool_cmp}
use Rattle.std.specs.Bool.{beq}
use Rattle.std.specs.Cmp.{bool_cmp_total, booleans_Decides}
use Rattle.std.specs.Cmp.Lexicographic.{pointwise, pointwise_decides}
use Rattle.std.proofs.lemmas.Cmp.{nat_cmp_total, tied_itself}
use Rattle.std.proofs.lemmas.Bool.Decides.{same_from_decides}
use Rattle.std.proofs.lemmas.List.{ext_get_or}
use Rattle.pm_bits.specs.Laws.{first_difference_cmp_total}
use Rattle.pm_bits.specs.Sets.{has, SameMembers, HasFirstDifference, first_difference_cmp, row_cmp}

-- ---- the first difference

pub Less-from_first : (a b : List Bool) → length a ≡ length b → HasFirstDifference a b → first_difference_cmp a b ≡ Less
Less-from_first [] b long (i, one, none, before) = absurd (let e : false ≡ true = one in cc)
Less-from_first (x ∷ xs) [] long (i, one, none, before) = absurd (omega arith)
Less-from_first (x ∷ xs) (y ∷ ys) long (zero, one, none, before) = rw (one, none) refl
Less-from_first (x ∷ xs) (y ∷ ys) long (suc i, one, none, before) =
    let same : x ≡ y = before 0 (omega arith) in
    let tied : bool_cmp y x ≡ Equal = rw same (tied_itself bool_cmp_total y) in
    rw tied (Less-from_first xs ys (omega arith) (i, one, none, (λ k below. before (suc k) (omega arith))))

pub order_is_first_difference : (o : Ordering) (a b : List Bool) → length a ≡ length b → MatchOrdering o (HasFirstDifference a b) (a ≡ b) (HasFirstDifference b a) → o ≡ first_difference_cmp a b
order_is_first_difference Less a b long h = sym (Less-from_first a b long h)
order_is_first_difference Equal a b long h = sym (ap (λ (row : List Bool). first_difference_cmp a row) (sym h) ∙ tied_itself first_difference_cmp_total a)
order_is_first_difference Greater a b long h =
    sym (first_difference_cmp_total.antisymm a b ∙ ap ordering_reverse (Less-from_first b a (sym long) h))

pub same_rows : (a b : List Bool) → length a ≡ length b → SameMembers a b → a ≡ b
same_rows a b long same = ext_get_or false a b long (λ i _. same i)

-- what each answer means
pub Equal-means : (o : Ordering) (a b : List Bool) → length a ≡ length b → MatchOrdering o (HasFirstDifference a b) (a ≡ b) (HasFirstDifference b a) → (o ≡ Equal) ↔ SameMembers a b
Equal-means o a b long h = (
  λ e i. (let same : a ≡ b = subst (λ (r : Ordering). MatchOrdering r (HasFirstDifference a b) (a ≡ b) (HasFirstDifference b a)) e h in ap (λ (row : List Bool). has row i) same),
  λ same. order_is_first_difference o a b long h ∙ sym (order_is_first_difference Equal a b long (same_rows a b long same)),
)

pub Less-means : (o : Ordering) (a b : List Bool) → length a ≡ length b → MatchOrdering o (HasFirstDifference a b) (a ≡ b) (HasFirstDifference b a) → (o ≡ Less) ↔ HasFirstDifference a b
Less-means o a b long h = (
  λ e. subst (λ (r : Ordering). MatchOrdering r (HasFirstDifference a b) (a ≡ b) (HasFirstDifference b a)) e h,
  λ first. order_is_first_difference o a b long h ∙ Less-from_first a b long first,
)

pub Greater-means : (o : Ordering) (a b : List Bool) → length a ≡ length b → MatchOrdering o (HasFirstDifference a b) (a ≡ b) (HasFirstDifference b a) → (o ≡ Greater) ↔ HasFirstDifference b a
Greater-means o a b long h = (
  λ e. subst (λ (r : Ordering). MatchOrdering r (HasFirstDifference a b) (a ≡ b) (HasFirstDifference b a)) e h,
  λ first. order_is_first_difference o a b long h ∙ sym (order_is_first_difference Greater a b long first),
)

-- ---- rows of one length by their three answers, or by a test

tied_lengths : (a b : List Bool) → length a ≡ length b → nat_cmp (length a) (length b) ≡ Equal
tied_lengths a b long = rw long (tied_itself nat_cmp_total (length b))

order_from_means : (o : Ordering) (a b : List Bool) → length a ≡ length b → (o ≡ Equal → SameMembers a b) → (o ≡ Less → HasFirstDifference a b) → (o ≡ Greater → HasFirstDifference b a)
    → MatchOrdering o (HasFirstDifference a b) (a ≡ b) (HasFirstDifference b a)
order_from_means Less a b long equal less greater = less refl
order_from_means Equal a b long equal less greater = same_rows a b long (equal refl)
order_from_means Greater a b long equal less greater = greater refl

pub row_cmp-means : (o : Ordering) (a b : List Bool) → length a ≡ length b → (o ≡ Equal → SameMembers a b) → (o ≡ Less → HasFirstDifference a b) → (o ≡ Greater → HasFirstDifference b a) → o ≡ row_cmp a b
row_cmp-means o a b long equal less greater =
    order_is_first_difference o a b long (order_from_means o a b long equal less greater)
    ∙ ap (λ (r : Ordering). ordering_then r (first_difference_cmp a b)) (sym (tied_lengths a b long))

pub same_rows-tested : (r : Bool) (a b : List Bool) → length a ≡ length b → (IsTrue r ↔ SameMembers a b) → IsTrue r ↔ (a ≡ b)
same_rows-tested r a b long t = (λ is. same_rows a b long (t.0 is), λ e. t.1 (λ i. ap (λ (row : List Bool). has row i) e))

pub pointwise-tested : (r : Bool) (a b : List Bool) → length a ≡ length b → (IsTrue r ↔ SameMembers a b) → r ≡ pointwise beq a b
pointwise-tested r a b long t =
    same_from_decides r (pointwise beq a b) (same_rows-tested r a b long t) (pointwise_decides booleans_Decides a b)
