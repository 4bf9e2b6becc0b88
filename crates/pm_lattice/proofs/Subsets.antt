-- Rows of one length go by their places below it.
use Rattle.pm_bits.specs.Sets.{IsSubset, has}
use Rattle.pm_lattice.specs.Parts.{IsIn}
use Rattle.std.proofs.Common.{arith, inl, inr, sym, ◌∙◌}
use Rattle.std.proofs.lemmas.Bool.{cases_lt}
use Rattle.std.proofs.lemmas.List.{get_or_past}
use Rattle.std.specs.Prelude.{Bool, IsTrue, List, false, length, ℕ, ◌<◌, ◌≡◌}

pub below_length : (f : List Bool) (m j : ℕ) → length f ≡ m → IsTrue (has f j) → j < m
below_length f m j e t = elim (cases_lt j m) [ inl l ↦ l | inr g ↦ absurd (let p : has f j ≡ false = get_or_past f j false (omega arith) in let q = sym t ∙ p in cc) ]

pub subset_from_in : (m : ℕ) (f r : List Bool) → length f ≡ m → IsIn m (has f) (has r) → IsSubset f r
subset_from_in m f r e h j t = h j (below_length f m j e t) t
