-- A fault is determined by its place and its order there.
use Rattle.std.proofs.Common.{◌≡◌, ◌∙◌, ℕ, ap₂, arith, cond, eqb, inl, inr, refl, sym}
use Rattle.pm_books.specs.declared.fail.BookFail.{BookFail}
use Rattle.pm_books.specs.declared.fail.BookFail.TheVariants.{Memory, SameLabel, SignatureMismatch, Syntax, TooManyRules, UnknownClient, UnknownProperty, WeightRange}
use Rattle.pm_laws_texts.specs.BookFaults.{CountsFirst, order, place}
use Rattle.pm_laws_texts.specs.BookLaws.{FirstFaultIsOne}

fault_at : ℕ → ℕ → BookFail
fault_at o k = cond (eqb o 0) (Syntax k) (cond (eqb o 1) (UnknownProperty k) (cond (eqb o 2) (UnknownClient k) (cond (eqb o 3) (SignatureMismatch k)
    (cond (eqb o 4) (SameLabel k) (cond (eqb o 5) (WeightRange k) (cond (eqb o 6) (TooManyRules k) Memory))))))

fault_is : (f : BookFail) → fault_at (order f) (place f) ≡ f
unfolding fault_at
fault_is (Syntax k) = refl
fault_is (UnknownProperty k) = refl
fault_is (UnknownClient k) = refl
fault_is (SignatureMismatch k) = refl
fault_is (SameLabel k) = refl
fault_is (WeightRange k) = refl
fault_is (TooManyRules k) = refl
fault_is Memory = refl

equal : (f g : BookFail) → CountsFirst f g → CountsFirst g f → (order f ≡ order g) × (place f ≡ place g)
equal f g (inl l) (inl m) = absurd (omega arith)
equal f g (inl l) (inr (e, m)) = absurd (omega arith)
equal f g (inr (e, l)) (inl m) = absurd (omega arith)
equal f g (inr (e, l)) (inr (d, m)) = (omega arith, e)

pub first_fault_is_one : FirstFaultIsOne
first_fault_is_one kinds text f g one other =
    let same = equal f g (one.first g other.stands) (other.first f one.stands) in
    sym (fault_is f) ∙ ap₂ fault_at same.0 same.1 ∙ fault_is g
