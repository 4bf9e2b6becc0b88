-- A ray with too few rows in common with the union of the zero sets of the other sign is in no adjacent pair.
use Rattle.std.specs.Prelude.{ℕ, ◌-◌, ◌≡◌, ◌<◌, Bool, List, ◌++◌, length, take}
use Rattle.std.proofs.Common.{arith, ◌∙◌, inl, inr}
use Rattle.std.proofs.lemmas.Int.{ints}
use Rattle.pm_vector.specs.Rows.{Row, dot, entry, HasCols}
use Rattle.pm_vector.specs.Bases.{IsRank, row_at}
use Rattle.pm_bits.specs.Sets.{IsSubset, common_count}
use Rattle.pm_bits.specs.Table.{Table}
use Rattle.pm_bits.proofs.Common.{has-met_row, length-met_row, member_count-met_row, met_row}
use Rattle.pm_dd.specs.Building.{IsPassed, StandFor}
use Rattle.pm_dd.specs.Description.{Adjacent, pair, IsSource}
use Rattle.pm_dd.specs.Tables.{IsRayTable, zero_set}
use Rattle.pm_geom.specs.Faces.{ray}
use Rattle.pm_dd.proofs.Negatives.{IsFar}
use Rattle.pm_dd.proofs.Stands.{above_to, below_to, from_of}
use Rattle.pm_dd.proofs.Tables.{near_filter}
use lib.IntN.{ℤ, pos}
use lib.Signed.{◌<ℤ◌}

adjacent_turned : (A V : List Row) (i j : ℕ) → Adjacent A V i j → Adjacent A V j i
adjacent_turned A V i j a = record { third = λ k l over. elim (a.third k l (λ b c zi zj. over b c zj zi)) [ inl e ↦ inr e | inr e ↦ inl e ] }

module _ (n : ℕ) (E J : List Row) (f : ℕ) (V : List Row) (table : Table) (t : IsRayTable n E J f V table.rows) (hE : HasCols n E) (hJ : HasCols n J) (v : List ℤ) (stand : StandFor (row_at J f) V v) (d : ℕ) (rd : IsRank (E ++ take f J) d) (need : ℕ) (need_is : need ≡ d - length E - 2) (u : List Bool) where
  few_apart : (k l : ℕ) → k < length V → l < length V → IsSubset (zero_set table.rows l) u → common_count (zero_set table.rows k) u < need → ¬ (Adjacent (take f J) V k l)
  few_apart k l lk ll sub few =
      let e = member_count-met_row (zero_set table.rows k) u in
      near_filter n E J f V table.rows hE hJ t d rd k l lk ll u (met_row (zero_set table.rows k) u) sub (length-met_row (zero_set table.rows k) u ∙ (t.zeros k lk).as_many) (has-met_row (zero_set table.rows k) u) (omega arith)

  -- u has the zero sets of the rays behind
  pub far_ahead : ((k : ℕ) → k < length v → entry v k <ℤ pos 0 → IsSubset (zero_set table.rows k) u) → (i : ℕ) → common_count (zero_set table.rows i) u < need → (l : ℕ) → ¬ (IsSource (take f J) (row_at J f) V (pair i l))
  far_ahead covers i few l p =
      let m = stand.as_many in
      few_apart i l p.0 p.1 (covers l (omega arith) (below_to (dot (row_at J f) (ray V l)) (entry v l) (stand.each l p.1) p.3)) few p.4

  -- u has the zero sets of the rays ahead
  pub far_behind : ((k : ℕ) → k < length v → pos 0 <ℤ entry v k → IsSubset (zero_set table.rows k) u) → (l : ℕ) → IsPassed table v u need l → IsFar J f V l
  far_behind covers l (inl up) i p = let h = from_of (dot (row_at J f) (ray V l)) (entry v l) (stand.each l p.1) up in let down = p.3 in omega (arith, ints)
  far_behind covers l (inr few) i p =
      let m = stand.as_many in
      few_apart l i p.1 p.0 (covers i (omega arith) (above_to (dot (row_at J f) (ray V i)) (entry v i) (stand.each i p.0) p.2)) few (adjacent_turned (take f J) V i l p.4)
