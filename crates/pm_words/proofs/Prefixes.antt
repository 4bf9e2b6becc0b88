-- Words that begin with a given text.
use Rattle.std.proofs.Common.{◌≡◌, ℕ, true, false, List, ◌++◌, length, take, drop, sym, ap, ◌∙◌, inl, inr, nat_eq}
use Rattle.std.proofs.lemmas.Bool.{cases_Bool}
use Rattle.std.proofs.lemmas.List.{take-append-drop}
use Rattle.std.proofs.lemmas.Slice.Eq.{bytes_eq-Decides}
use Rattle.std.specs.List.{starts_with}

-- the text, and what stands behind it
pub prefix_is : (word front : List ℕ) → starts_with nat_eq word front ≡ true → word ≡ front ++ drop (length front) word
prefix_is word front h =
    let is : front ≡ take (length front) word = (bytes_eq-Decides front (take (length front) word)).0 h in
    sym (ap (λ (t : List ℕ). t ++ drop (length front) word) is ∙ take-append-drop (length front) word)

pub no_prefix : (word front : List ℕ) → ((rest : List ℕ) → word ≡ front ++ rest → ⊥) → starts_with nat_eq word front ≡ false
no_prefix word front none = elim (cases_Bool (starts_with nat_eq word front)) [
  | inl h ↦ absurd (none (drop (length front) word) (prefix_is word front h))
  | inr h ↦ h
]
