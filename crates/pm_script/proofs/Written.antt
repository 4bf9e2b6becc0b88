-- Texts that are written after others, where the memory holds out.
use Rattle.std.proofs.Common.{List, append_assoc, ap, is_ok, sym, ℕ, ◌++◌, ◌∙◌, ◌≡◌}
use Rattle.std.specs.Prelude.{Err, Ok, OnOk, Result, if◌then◌else◌}

pub written : {T E : Type 0} (r : Result T E) (now old more text : List ℕ) → now ≡ (if is_ok r then old ++ more else old) → text ≡ more → OnOk r (now ≡ old ++ text)
written (Ok x) now old more text is same = is ∙ ap (λ z. old ++ z) (sym same)
written (Err x) now old more text is same = tt

-- the same, where the last call tells what it wrote
pub written_behind : {T E : Type 0} (r : Result T E) (now mid old front back text : List ℕ) → mid ≡ old ++ front → OnOk r (now ≡ mid ++ back) → text ≡ front ++ back → OnOk r (now ≡ old ++ text)
written_behind (Ok x) now mid old front back text first is same = is ∙ ap (λ z. z ++ back) first ∙ append_assoc old front back ∙ ap (λ z. old ++ z) (sym same)
written_behind (Err x) now mid old front back text first is same = tt

pub written_twice : {T E : Type 0} (r : Result T E) (now mid old front back text : List ℕ) → mid ≡ old ++ front → now ≡ (if is_ok r then mid ++ back else mid) → text ≡ front ++ back
    → OnOk r (now ≡ old ++ text)
written_twice (Ok x) now mid old front back text first is same = is ∙ ap (λ z. z ++ back) first ∙ append_assoc old front back ∙ ap (λ z. old ++ z) (sym same)
written_twice (Err x) now mid old front back text first is same = tt
