-- Sets of properties. A set is the number that has bit k exactly where the property of number k is in it.
use Rattle.std.specs.Prelude.{◌≡◌, ℕ, ◌^◌, Bool, IsTrue, nat_eq, List, filter, fold, bit_and, bit_or, bit_xor}
use Rattle.std.specs.Int.{bit_at}
use Rattle.pm_props.specs.declared.property.PropId.{PropId}
use Rattle.pm_props.specs.Properties.{number, every_property}

-- the property is in the set
unfoldable pub has : ℕ → PropId → Bool
has s p = nat_eq (bit_at s (number p)) 1

-- the set of this property alone
unfoldable pub only : PropId → ℕ
only p = 2 ^ number p

-- the properties in one of them
unfoldable pub union : ℕ → ℕ → ℕ
union s t = bit_or s t

-- the properties in both
unfoldable pub intersection : ℕ → ℕ → ℕ
intersection s t = bit_and s t

-- the properties in s and not in t
unfoldable pub difference : ℕ → ℕ → ℕ
difference s t = bit_xor s (bit_and s t)

-- the properties of a list
abbrev pub set_of : List PropId → ℕ
set_of ps = fold (λ s p. union s (only p)) 0 ps

-- t has what s has
abbrev pub IsSubset : ℕ → ℕ → Type 0
IsSubset s t = (p : PropId) → IsTrue (has s p) → IsTrue (has t p)

-- the same, as an equation: what both have is s
abbrev pub IsWithin : ℕ → ℕ → Type 0
IsWithin s t = intersection s t ≡ s

-- the properties of the set, in the order of their numbers
unfoldable pub members : ℕ → List PropId
members s = filter (has s) every_property
