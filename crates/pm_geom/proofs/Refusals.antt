-- What the definitions refuse: a list with one extreme ray twice, a list with a row that is not extreme, a row that only a multiple parts, and cones that are over no polytope.
use Rattle.pm_vector.proofs.ConeLaws.{dot_in, in_generator, in_zero}
use Rattle.pm_vector.proofs.Lists.{Among, among_All, here, there}
use Rattle.pm_vector.proofs.Ring.{ring}
use Rattle.pm_vector.specs.Cones.{InCone}
use Rattle.pm_vector.specs.Rows.{Row, entry, opposite}
use Rattle.pm_geom.proofs.Apart.{apart, not_below_at, on_row}
use Rattle.pm_geom.proofs.ShortRows.{at_three, at_two}
use Rattle.pm_geom.proofs.Square.{midpoint}
use Rattle.pm_geom.specs.Cones.{IsExtremeRay, IsOrder, SameModulo}
use Rattle.pm_geom.specs.Examples.{IsRefused, pair, segment, square, triple}
use Rattle.pm_geom.specs.Things.{IsPolytopeThing}
use Rattle.std.proofs.Common.{arith, inl, inr, refl}
use Rattle.std.proofs.lemmas.Int.{ints}
use Rattle.std.specs.Prelude.{[], suc, zero, ℕ, ◌∷◌, ◌≡◌}
use lib.IntN.{negsuc, pos}
use lib.Signed.{lt_z_yes, ◌≤ℤ◌}

-- ---- lists of the square's extreme rays
at_null : (i : ℕ) → entry (triple 0 0 0) i ≡ pos 0
at_null zero = refl
at_null (suc zero) = refl
at_null (suc (suc zero)) = refl
at_null (suc (suc (suc i))) = refl

doubled : SameModulo 3 (InCone square []) (triple 2 0 0) (triple 1 0 0)
unfolding opposite
doubled = record {
  p = pos 2;
  k = pos 1;
  w = triple 0 0 0;
  cols = refl;
  p_positive = lt_z_yes tt;
  k_positive = lt_z_yes tt;
  line = record { inside = in_zero at_null; opposed = in_zero at_null };
  same = at_three _ _ _ _ _ _ refl refl refl;
}

twice : ¬ (IsOrder 3 (InCone square []) (triple 2 0 0 ∷ square))
twice o = o.once 0 1 [] (omega arith) (omega arith) doubled

with_midpoint : ¬ (IsOrder 3 (InCone square []) (triple 2 1 1 ∷ square))
with_midpoint o = midpoint (let i : Among (triple 2 1 1) (triple 2 1 1 ∷ square) = here in among_All (λ a. IsExtremeRay 3 square [] a) i o.each)

-- ---- the segment from 0 to 2: its midpoint is no sum of two other whole rows of the cone, but its double is
segment_midpoint : ¬ (IsExtremeRay 2 segment [] (pair 1 1))
segment_midpoint e =
    let t = (e.summands (pos 2) (pair 1 0) (pair 1 2) (lt_z_yes tt) refl refl (in_generator here) (in_generator (there here)) (at_two _ _ _ _ refl refl)).0 in
    apart (pair 1 1 ∷ []) [] (negsuc 0 ∷ pos 1 ∷ []) (pair 1 0) tt tt tt (on_row 2 segment [] (refl, (refl, tt)) tt (pair 1 0) tt tt (pair 1 1) (pair 1 0) t)

-- ---- a ray without a vertex, and a row with a negative first entry
first_null : (x : Row) → InCone (pair 0 1 ∷ []) [] x → entry x 0 ≤ℤ pos 0
first_null [] h = omega (arith, ints)
first_null (a ∷ x) h = let p = simp ring at (dot_in (negsuc 0 ∷ []) (pair 0 1 ∷ []) [] (λ g i. not_below_at (negsuc 0 ∷ []) i tt) (λ l i. elim i [ ]) h) in omega (arith, ints)

no_vertex : ¬ (IsPolytopeThing 2 (pair 0 1 ∷ []) [])
no_vertex t = elim t.proper [
  | inl f ↦ (let e : pos 1 ≡ pos 0 = f (pair 0 1) refl (in_generator here) 1 in omega (arith, ints))
  | inr w ↦ (let k = first_null w.0 w.2 in let g = w.3 in omega (arith, ints))
]

behind : ¬ (IsPolytopeThing 2 (pair 1 0 ∷ (negsuc 0 ∷ pos 1 ∷ []) ∷ []) [])
behind t = absurd (t.first (negsuc 0 ∷ pos 1 ∷ []) refl (in_generator (there here))).le

pub is_refused : IsRefused
is_refused = record { twice = twice; with_midpoint = with_midpoint; segment_midpoint = segment_midpoint; no_vertex = no_vertex; behind = behind }
