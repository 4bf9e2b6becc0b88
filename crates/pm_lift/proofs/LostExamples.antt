-- Which lifted rows are lost by wide numbers, and which cells.
use Rattle.pm_dd.proofs.LostExamples.{losses_are_read}
use Rattle.pm_elim.proofs.LostExamples.{lost_eliminations_are_read}
use Rattle.pm_elim.proofs.SoFar.{basis_none}
use Rattle.pm_vector.specs.Evidence.{IsBasisOf}
use Rattle.pm_elim.specs.Lost.{IsLost, IsLostRound, PrimitiveIsLost}
use Rattle.pm_elim.specs.LostExamples.{odd_next, odd_row}
use Rattle.pm_geom.specs.Faces.{ray}
use Rattle.pm_lift.proofs.LostRows.{lifted_lost, raised_lost}
use Rattle.pm_lift.proofs.SmallRows.{at_one, gcd_one}
use Rattle.pm_lift.specs.Examples.{far, greatest, one_half, pair, ratio_of}
use Rattle.pm_lift.specs.Lifting.{AreLiftedRows, IsLiftedRow, lifted, raised, upwards}
use Rattle.pm_lift.specs.Lost.{HasLostLiftedRow, HasLostRaisedRow, LiftedRowIsLost, LiftingIsLost, RaisedRowIsLost, RaisingIsLost, RowsAreLost}
use Rattle.pm_lift.specs.LostExamples.{LostCellsAreRead, LostRowsAreRead, half_far, half_square, two_heights, two_sites}
use Rattle.pm_vector.proofs.DivisorLaws.{IsPrimitive-from_one, IsPrimitiveOf-from_one, primitive_row_unique}
use Rattle.pm_vector.specs.Bases.{row_at}
use Rattle.pm_vector.specs.Divisors.{IsPrimitiveOf}
use Rattle.pm_vector.specs.Numbers.{InRange}
use Rattle.pm_vector.specs.Rows.{Row, entry, ratio_at}
use Rattle.std.proofs.Common.{arith, inl, inr, refl, subst, sym, take}
use Rattle.std.proofs.lemmas.Int.{ints}
use Rattle.std.proofs.lemmas.List.{get_or_append_left, length-append, take-append-le}
use Rattle.std.proofs.lemmas.List.Elements.{All-cons, All-nil}
use Rattle.std.specs.List.{All}
use Rattle.std.specs.Prelude.{List, [], length, suc, unsigned_abs, zero, ℕ, ◌+◌, ◌++◌, ◌-◌, ◌<◌, ◌∷◌, ◌≡◌, ◌^◌}
use lib.IntN.{negsuc, pos, ℤ}
use lib.Signed.{lt_z_yes}

-- ---- rows with an entry 1 or -1
itself : (x : Row) (i : ℕ) → unsigned_abs (entry x i) ≡ 1 → IsPrimitiveOf x x
itself x i e = IsPrimitiveOf-from_one x (gcd_one x i e)

-- such a row with an entry out of the range
out_of_range : (x : Row) (i j : ℕ) → unsigned_abs (entry x i) ≡ 1 → j < length x → ¬ (InRange (entry x j)) → PrimitiveIsLost x
out_of_range x i j e within wide u p all =
    let same = primitive_row_unique x x u (itself x i e) p in
    wide (rw (← same) at (all j (pos 0) (rw p.cols within)))

-- ---- one row
lost_lifted : LiftedRowIsLost (pair (pos 1) greatest) (ratio_of (pos 1) (pos 2))
lost_lifted = lifted_lost (pair (pos 1) greatest) (pair (pos 1) greatest) (ratio_of (pos 1) (pos 2)) (itself (pair (pos 1) greatest) 0 refl)
    (out_of_range (lifted (pair (pos 1) greatest) (ratio_of (pos 1) (pos 2))) 2 1 refl (omega arith) (λ r. omega (arith, ints)))

lost_raised : RaisedRowIsLost (pair (pos 1) greatest)
lost_raised = raised_lost (pair (pos 1) greatest) (pair (pos 1) greatest) (itself (pair (pos 1) greatest) 0 refl)
    (out_of_range (raised (pair (pos 1) greatest)) 0 2 refl (omega arith) (λ r. omega (arith, ints)))

four_in_range : (a b c d : ℤ) → InRange a → InRange b → InRange c → InRange d → All InRange (a ∷ b ∷ c ∷ d ∷ [])
four_in_range a b c d ra rb rc rd = All-cons InRange a (b ∷ c ∷ d ∷ []) ra (All-cons InRange b (c ∷ d ∷ []) rb (All-cons InRange c (d ∷ []) rc (All-cons InRange d [] rd (All-nil InRange))))

lifted_half : Row
lifted_half = pos 2 ∷ greatest ∷ pos 1 ∷ pos 1 ∷ []

kept_lifted : LiftedRowIsLost half_far (ratio_of (pos 1) (pos 2)) → ⊥
unfolding lifted_half
kept_lifted lost = lost lifted_half (record {
  row = half_far;
  primitive = itself half_far 2 refl;
  lifted = record { cols = refl; divided = inr (pos 2, lt_z_yes tt, record { at = λ i. refl }, IsPrimitive-from_one lifted_half (gcd_one lifted_half 2 refl)) };
}) (four_in_range (pos 2) greatest (pos 1) (pos 1) (omega (arith, ints)) (omega (arith, ints)) (omega (arith, ints)) (omega (arith, ints)))

raised_half : Row
raised_half = pos 2 ∷ pos (2 ^ 64 - 1) ∷ pos 1 ∷ pos (2 ^ 127 - 2 ^ 64 + 1) ∷ []

kept_raised : RaisedRowIsLost half_square → ⊥
unfolding raised_half
kept_raised lost = lost raised_half (record {
  row = half_square;
  primitive = itself half_square 2 refl;
  raised = record { cols = refl; divided = inr (pos 2, lt_z_yes tt, record { at = λ i. refl }, IsPrimitive-from_one raised_half (gcd_one raised_half 2 refl)) };
}) (four_in_range (pos 2) (pos (2 ^ 64 - 1)) (pos 1) (pos (2 ^ 127 - 2 ^ 64 + 1)) (omega (arith, ints)) (omega (arith, ints)) (omega (arith, ints)) (omega (arith, ints)))

some_lifted : HasLostLiftedRow far one_half
some_lifted = record { place = 0; within = omega arith; lost = lost_lifted }

some_raised : HasLostRaisedRow far
some_raised = record { place = 0; within = omega arith; lost = lost_raised }

none_lifted : HasLostLiftedRow (half_far ∷ []) one_half → ⊥
none_lifted h = at_one (λ j. LiftedRowIsLost (ray (half_far ∷ []) j) (ratio_at one_half j) → ⊥) kept_lifted h.place h.within h.lost

none_raised : HasLostRaisedRow (half_square ∷ []) → ⊥
none_raised h = at_one (λ j. RaisedRowIsLost (ray (half_square ∷ []) j) → ⊥) kept_raised h.place h.within h.lost

pub lost_rows_are_read : LostRowsAreRead
lost_rows_are_read = record {
  lifted = lost_lifted;
  not_lifted = kept_lifted;
  raised = lost_raised;
  not_raised = kept_raised;
  some_lifted = some_lifted;
  none_lifted = none_lifted;
  some_raised = some_raised;
  none_raised = none_raised;
}

-- ---- all rows
-- an elimination stays lost with further rows
lost_longer : (n : ℕ) (X Y : List Row) → IsLost n X → IsLost n (X ++ Y)
lost_longer n X Y h =
    let within = h.within in
    let front : take h.front (X ++ Y) ≡ take h.front X = take-append-le h.front X Y (omega arith) in
    let next : row_at (X ++ Y) h.front ≡ row_at X h.front = get_or_append_left X Y [] h.front h.within in
    record {
      front = h.front;
      basis = h.basis;
      pivots = h.pivots;
      within = simp length-append (omega arith);
      is_basis = subst (λ (Z : List Row). IsBasisOf n Z h.basis h.pivots) (sym front) h.is_basis;
      step = subst (λ (r : Row). IsLostRound h.basis h.pivots r) (sym next) h.step;
    }

rows_lost : RowsAreLost 2 (odd_row ∷ odd_next ∷ [])
rows_lost = inr (
  odd_row ∷ odd_next ∷ upwards 2 ∷ [],
  record { basis = []; pivots = []; is_basis = basis_none 3 [] [] [] refl refl; list = refl },
  inl (lost_longer 3 (odd_row ∷ odd_next ∷ []) (upwards 2 ∷ []) lost_eliminations_are_read.lost),
)

two_lifted : AreLiftedRows two_sites two_heights (odd_row ∷ odd_next ∷ [])
two_lifted = record { count = refl; each = each }
  where
    first : IsLiftedRow (pair (pos 2) (pos 1)) (ratio_of (negsuc 0) (pos 2)) odd_row
    first = record {
      row = pair (pos 2) (pos 1);
      primitive = itself (pair (pos 2) (pos 1)) 1 refl;
      lifted = record { cols = refl; divided = inr (pos 2, lt_z_yes tt, record { at = λ i. refl }, IsPrimitive-from_one odd_row (gcd_one odd_row 1 refl)) };
    }

    second : IsLiftedRow (pair (pos 1) (pos 1)) (ratio_of (pos (2 ^ 126)) (pos 1)) odd_next
    second = record {
      row = pair (pos 1) (pos 1);
      primitive = itself (pair (pos 1) (pos 1)) 0 refl;
      lifted = itself odd_next 0 refl;
    }

    each : (j : ℕ) → j < 2 → IsLiftedRow (ray two_sites j) (ratio_at two_heights j) (ray (odd_row ∷ odd_next ∷ []) j)
    each zero l = first
    each (suc zero) l = second
    each (suc (suc j)) l = absurd (omega arith)

-- without sites there are no rows, and with the row upwards alone no step is needed
none_of_none : (X : List Row) → length X ≡ 0 → RowsAreLost 0 X → ⊥
none_of_none [] e h = losses_are_read.no_parts h
none_of_none (x ∷ X) e h = omega arith

not_lifting : LiftingIsLost 0 [] [] → ⊥
not_lifting h = elim h [
  | inl r ↦ let l = r.within in omega arith
  | inr (X, rows, lost) ↦ none_of_none X rows.count lost
]

not_raising : RaisingIsLost 0 [] → ⊥
not_raising h = elim h [
  | inl r ↦ let l = r.within in omega arith
  | inr (X, rows, lost) ↦ none_of_none X rows.count lost
]

pub lost_cells_are_read : LostCellsAreRead
lost_cells_are_read = record {
  out_of_range = λ e h. h;
  of_many = λ e. tt;
  of_memory = tt;
  rows = rows_lost;
  not_rows = λ h. none_of_none [] refl h;
  lifting_of_row = inl some_lifted;
  lifting_of_rows = inr (odd_row ∷ odd_next ∷ [], two_lifted, rows_lost);
  not_lifting = not_lifting;
  raising = inl some_raised;
  not_raising = not_raising;
}
