-- The directions of rows of two entries.
use Rattle.pm_vector.proofs.Ring.{ring}
use Rattle.pm_vector.specs.DirectionExamples.{DirectionsAreRead, fractions, pair}
use Rattle.pm_vector.specs.Rows.{Row, SameDirection, Stands, entry, ratio_at}
use Rattle.std.proofs.Common.{arith, lit<, refl}
use Rattle.std.proofs.lemmas.Int.{ints}
use Rattle.std.specs.Prelude.{[], suc, zero, ℕ, ◌<◌, ◌∷◌, ◌≡◌}
use lib.IntN.{negsuc, pos, ℤ, ◌*ℤ◌}
use lib.Signed.{lt_z_yes, ◌<ℤ◌}

same_direction : SameDirection (pair (pos 1) (pos 2)) (pair (pos 2) (pos 4))
same_direction = record {
  p = pos 2;
  q = pos 1;
  p_positive = lt_z_yes tt;
  q_positive = lt_z_yes tt;
  same = record { at = go };
}
  where
    go : (i : ℕ) → entry (pos 2 ∷ pos 4 ∷ []) i ≡ entry (pos 2 ∷ pos 4 ∷ []) i
    go i = refl

opposite_direction : ¬ (SameDirection (pair (pos 1) (pos 2)) (pair (negsuc 0) (negsuc 1)))
opposite_direction s =
    let p = s.p_positive in
    let q = s.q_positive in
    let e = simp ring at (s.same.at 0) in
    omega (arith, ints)

-- a whole row stands for two fractions by what holds at its two places
stands_at_two : (a b c d : ℕ) (x y p q : ℤ) → pos 0 <ℤ pos b → pos 0 <ℤ pos d → pos 0 <ℤ p → pos 0 <ℤ q → p *ℤ (x *ℤ pos b) ≡ q *ℤ pos a → p *ℤ (y *ℤ pos d) ≡ q *ℤ pos c → Stands (fractions a b c d) (pair x y)
stands_at_two a b c d x y p q hb hd hp hq e f = record {
  p = p;
  q = q;
  p_positive = hp;
  q_positive = hq;
  cols = refl;
  denominators = denominators;
  same = same;
}
  where
    denominators : (i : ℕ) → i < 2 → pos 0 <ℤ (ratio_at (fractions a b c d) i).den
    denominators zero l = hb
    denominators (suc zero) l = hd
    denominators (suc (suc i)) l = absurd (omega arith)

    same : (i : ℕ) → i < 2 → p *ℤ (entry (pair x y) i *ℤ (ratio_at (fractions a b c d) i).den) ≡ q *ℤ (ratio_at (fractions a b c d) i).num
    same zero l = e
    same (suc zero) l = f
    same (suc (suc i)) l = absurd (omega arith)

another_row : ¬ (Stands (fractions 1 2 1 3) (pair (pos 3) (pos 3)))
another_row s =
    let p = s.p_positive in
    let e : s.p *ℤ pos 6 ≡ s.q *ℤ pos 1 = s.same 0 (lit< tt) in
    let f : s.p *ℤ pos 9 ≡ s.q *ℤ pos 1 = s.same 1 (lit< tt) in
    omega (arith, ints)

opposite_row : ¬ (Stands (fractions 1 2 1 3) (pair (negsuc 2) (negsuc 1)))
opposite_row s =
    let p = s.p_positive in
    let q = s.q_positive in
    let e : s.p *ℤ negsuc 5 ≡ s.q *ℤ pos 1 = s.same 0 (lit< tt) in
    omega (arith, ints)

longer_row : ¬ (Stands (fractions 1 2 1 3) (pos 3 ∷ pos 2 ∷ pos 0 ∷ []))
longer_row s = let c = s.cols in omega arith

shorter_row : ¬ (Stands (fractions 1 1 0 1) (pos 1 ∷ []))
shorter_row s = let c = s.cols in omega arith

no_fraction : (x : Row) → ¬ (Stands (fractions 1 0 2 1) x)
no_fraction x s = let d : pos 0 <ℤ pos 0 = s.denominators 0 (lit< tt) in omega (arith, ints)

pub directions_are_read : DirectionsAreRead
directions_are_read = record {
  twice = same_direction;
  turned = opposite_direction;
  multiple = stands_at_two 1 1 2 1 (pos 2) (pos 4) (pos 1) (pos 2) (lt_z_yes tt) (lt_z_yes tt) (lt_z_yes tt) (lt_z_yes tt) refl refl;
  part = stands_at_two 2 1 4 1 (pos 1) (pos 2) (pos 2) (pos 1) (lt_z_yes tt) (lt_z_yes tt) (lt_z_yes tt) (lt_z_yes tt) refl refl;
  halves = stands_at_two 1 2 1 3 (pos 3) (pos 2) (pos 1) (pos 6) (lt_z_yes tt) (lt_z_yes tt) (lt_z_yes tt) (lt_z_yes tt) refl refl;
  another = another_row;
  opposite = opposite_row;
  longer = longer_row;
  shorter = shorter_row;
  no_fraction = no_fraction;
}
