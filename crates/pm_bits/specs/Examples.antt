-- Small rows of bits: their members as lists, unions and intersections, and which rows imply others.
use Rattle.pm_bits.specs.Sets.{IsIntersection, IsUnion, members}
use Rattle.pm_bits.specs.Table.{Implies, Table}
use Rattle.std.specs.Prelude.{Bool, List, [], ◌∷◌, ◌≡◌, true, false}

-- {0, 2} and {} below 3 and 2 as lists; a list that does not ascend is none
pub record MembersAreRead : Type 0 where
  pub two : members (true ∷ false ∷ true ∷ []) ≡ 0 ∷ 2 ∷ []
  pub none : members (false ∷ false ∷ []) ≡ []
  pub not_turned : ¬ (members (true ∷ false ∷ true ∷ []) ≡ 2 ∷ 0 ∷ [])

-- the row of three bits
abbrev pub bits : Bool → Bool → Bool → List Bool
bits a b c = a ∷ b ∷ c ∷ []

-- {0, 1} and {1, 2} below 3, their union and their intersection
pub record UnionsAreRead : Type 0 where
  pub union : IsUnion (bits true true true) (bits true true false) (bits false true true)
  pub intersection : IsIntersection (bits false true false) (bits true true false) (bits false true true)
  -- no member is left out of the union, and none of one row alone is in the intersection
  pub not_less : ¬ (IsUnion (bits false true false) (bits true true false) (bits false true true))
  pub not_more : ¬ (IsIntersection (bits true true true) (bits true true false) (bits false true true))
  -- nothing is in the union of {} and {} but what is in one of them
  pub none : ¬ (IsUnion (bits true false false) (bits false false false) (bits false false false))

-- the rows {0, 1}, {1} and {0, 2}
abbrev pub three_rows : Table
three_rows = record { row_len = 3; rows = bits true true false ∷ bits false true false ∷ bits true false true ∷ [] }

-- in the first two rows 0 implies 1, and 1 does not imply 0; in all three 0 does not imply 1
pub record ImplicationsAreRead : Type 0 where
  pub first : Implies three_rows (bits true false false) (bits false true false) 2
  pub not_turned : ¬ (Implies three_rows (bits false true false) (bits true false false) 2)
  pub not_last : ¬ (Implies three_rows (bits true false false) (bits false true false) 3)
  -- in no rows nothing implies everything
  pub in_none : Implies three_rows (bits false false false) (bits true true true) 0
