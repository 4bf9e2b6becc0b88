-- Which steps of an elimination by wide numbers are lost, and which eliminations: what holds, and what does not.
use Rattle.pm_vector.specs.Rows.{Row}
use Rattle.pm_elim.specs.Lost.{HasNoWideDuals, IfLost, IsLost, IsLostOnExtended, IsLostOnNext, IsLostOnOlder, IsLostOnSome, IsLostRound, IsLostWithoutOne, PrimitiveIsLost, StepIsLost}
use Rattle.pm_elim.specs.declared.wide_rounds.WideFail.TheVariants.{Lost, Memory}
use Rattle.std.specs.Prelude.{List, [], ℕ, ◌+◌, ◌∷◌, ◌^◌}
use lib.IntN.{neg_ℤ, negsuc, pos, ℤ}

-- the row (a, b, c)
abbrev pub triple : ℤ → ℤ → ℤ → Row
triple a b c = a ∷ b ∷ c ∷ []

-- the row (2, 1, -1), and a row that becomes (0, 1, 2^127 + 1) by it
abbrev pub odd_row : Row
odd_row = triple (pos 2) (pos 1) (negsuc 0)

abbrev pub odd_next : Row
odd_next = triple (pos 1) (pos 1) (pos (2 ^ 126))

-- the row (2, 0, -1), and a row that becomes (0, 0, 2^127 + 1) by it, of which the primitive row is (0, 0, 1)
abbrev pub even_row : Row
even_row = triple (pos 2) (pos 0) (negsuc 0)

abbrev pub even_next : Row
even_next = triple (pos 1) (pos 0) (pos (2 ^ 126))

-- the unit row of the last column
abbrev pub last_unit : Row
last_unit = triple (pos 0) (pos 0) (pos 1)

-- the row (0, 1, -2^126), by which (1, 1, 2^126) becomes (1, 0, 2^127)
abbrev pub late_row : Row
late_row = triple (pos 0) (pos 1) (neg_ℤ (pos (2 ^ 126)))

-- rows with two entries, whose extended list begins with (2, -1, 1, 0) and (1, 2^126, 0, 1)
abbrev pub two_rows : List Row
two_rows = (pos 2 ∷ pos 1 ∷ []) ∷ (negsuc 0 ∷ pos (2 ^ 126) ∷ []) ∷ []

-- the row (1)
abbrev pub one_entry : List Row
one_entry = (pos 1 ∷ []) ∷ []

-- steps
pub record LostStepsAreRead : Type 0 where
  -- 2^127 + 1 is out of the range; but of (0, 0, 2^127 + 1) the primitive row is (0, 0, 1)
  pub primitive : PrimitiveIsLost (triple (pos 0) (pos 1) (pos (2 ^ 127 + 1)))
  pub not_primitive : ¬ (PrimitiveIsLost (triple (pos 0) (pos 0) (pos (2 ^ 127 + 1))))
  pub step : StepIsLost odd_next odd_row 0
  pub not_step : ¬ (StepIsLost even_next even_row 0)
  -- the next row by the only row of a basis
  pub next : IsLostOnNext (odd_row ∷ []) (0 ∷ []) odd_next
  pub not_next : ¬ (IsLostOnNext (even_row ∷ []) (0 ∷ []) even_next)
  -- the only row of a basis by a new row
  pub some : IsLostOnSome (odd_next ∷ []) late_row 1
  pub not_some : ¬ (IsLostOnSome (even_row ∷ []) last_unit 2)
  pub older : IsLostOnOlder (odd_next ∷ []) (0 ∷ []) late_row
  pub not_older : ¬ (IsLostOnOlder (even_row ∷ []) (0 ∷ []) even_next)
  -- either
  pub round : IsLostRound (odd_row ∷ []) (0 ∷ []) odd_next
  pub later_round : IsLostRound (odd_next ∷ []) (0 ∷ []) late_row
  pub not_round : ¬ (IsLostRound (even_row ∷ []) (0 ∷ []) even_next)

-- eliminations
pub record LostEliminationsAreRead : Type 0 where
  pub lost : IsLost 3 (odd_row ∷ odd_next ∷ [])
  -- by numbers of the range this one is refused
  pub not_lost : ¬ (IsLost 3 (even_row ∷ even_next ∷ []))
  -- one row alone needs no step
  pub not_one : (n : ℕ) (r : Row) → ¬ (IsLost n (r ∷ []))
  -- the null space, and that of the others
  pub extended : IsLostOnExtended 2 two_rows
  pub not_extended : ¬ (IsLostOnExtended 1 one_entry)
  pub without : IsLostWithoutOne 2 ((pos 1 ∷ pos 1 ∷ []) ∷ two_rows)
  pub not_without : ¬ (IsLostWithoutOne 1 one_entry)
  -- dual rows: a zero row is dependent
  pub duals : HasNoWideDuals 2 two_rows
  pub dependent : HasNoWideDuals 1 ((pos 0 ∷ []) ∷ [])
  pub not_duals : ¬ (HasNoWideDuals 1 one_entry)
  -- want of memory says nothing
  pub memory : IfLost Memory ⊥
  pub not_lost_row : ¬ (IfLost Lost ⊥)
