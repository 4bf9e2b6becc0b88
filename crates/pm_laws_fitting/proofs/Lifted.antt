-- Lifted and raised rows.
use Rattle.pm_minors.specs.Laws.{MinorsAreAtMost}
use Rattle.pm_minors.specs.Minors.{IsAtMost}
use Rattle.pm_minors.proofs.Bounds.{at_most_in_range, at_most_more, zero_at_most}
use Rattle.pm_minors.proofs.Dominated.{primitive_exists}
use Rattle.pm_minors.proofs.Rays.{unit_small}
use Rattle.pm_minors.proofs.Sizes.{abs_product, abs_sum}
use Rattle.pm_vector.proofs.Lists.{Among}
use Rattle.pm_vector.proofs.RowLaws.{entry-times, length-times}
use Rattle.pm_vector.proofs.Spans.{place_of}
use Rattle.pm_vector.specs.Divisors.{IsPrimitive, IsPrimitiveOf}
use Rattle.pm_vector.specs.Numbers.{Ratio}
use Rattle.pm_vector.specs.Rows.{IsZero, Row, Same, dot, entry, ratio_at, times}
use Rattle.pm_elim.proofs.ExtendedLaws.{length-unit}
use Rattle.pm_geom.specs.Faces.{ray}
use Rattle.pm_lift.specs.Lifting.{AreLiftedRows, AreRaisedRows, IsLiftedRow, IsRaisedRow, lifted, raised, upwards}
use Rattle.pm_lift.specs.Lost.{HasLostLiftedRow, HasLostRaisedRow, LiftingIsLost, RaisingIsLost, RowsAreLost}
use Rattle.pm_laws_fitting.specs.Sizes.{IsSizeFor}
use Rattle.pm_laws_fitting.proofs.Parted.{parts_are_never_lost_by_count}
use Rattle.pm_laws_fitting.proofs.Sized.{IsSized, Sized, size_in_range, sized_append, sized_cols, sized_none, sized_one, sized_size}
use Rattle.std.proofs.Common.{arith, inl, inr, refl, subst, sym, ◌∙◌}
use Rattle.std.proofs.lemmas.Bool.{cases_lt}
use Rattle.std.proofs.lemmas.Int.{ints, unsigned_abs-mul}
use Rattle.std.proofs.lemmas.List.{get_or-append_right, get_or_append_left, get_or_past, length-append}
use Rattle.std.specs.List.{All}
use Rattle.std.specs.Prelude.{List, [], drop, length, suc, unsigned_abs, zero, ℕ, ◌*◌, ◌++◌, ◌+◌, ◌-◌, ◌<◌, ◌∷◌, ◌≡◌, ◌≤◌, ◌⊎◌}
use lib.IntN.{pos, ℤ, ◌*ℤ◌, ◌+ℤ◌}
use lib.Signed.{◌<ℤ◌}
use native.Mathlib.Nat.{mul-le-mul, pow-zero}

-- a primitive row is at most as large as the row in whose direction it is
positive_factor : (g x : ℤ) → pos 0 <ℤ g → unsigned_abs x ≤ unsigned_abs (g *ℤ x)
positive_factor g x h =
    let one : 1 ≤ unsigned_abs g = omega (arith, ints) in
    let m = mul-le-mul one (let r : unsigned_abs x ≤ unsigned_abs x = omega arith in r) in
    rw unsigned_abs-mul (omega arith)

primitive_at_most : (K : ℕ) (d u : Row) → IsPrimitiveOf d u → IsAtMost K d → IsAtMost K u
primitive_at_most K d u p h = by p.divided
  where
    by : (IsZero d × IsZero u) ⊎ ((g : ℤ) × (pos 0 <ℤ g) × Same d (times g u) × IsPrimitive u) → IsAtMost K u
    by (inl z) = zero_at_most K u z.1
    by (inr w) = λ i.
        let e : entry d i ≡ w.0 *ℤ entry u i = (let k = w.2.at i in k ∙ entry-times w.0 u i) in
        let f = positive_factor w.0 (entry u i) w.1 in
        let q = rw e at (h i) in omega arith

append_one : (K : ℕ) (x : Row) (z : ℤ) → IsAtMost K x → unsigned_abs z ≤ K → IsAtMost K (x ++ z ∷ [])
append_one K x z h k i = elim (cases_lt i (length x)) [
  | inl l ↦ (let e = get_or_append_left x (z ∷ []) (pos 0) i l in rw e (h i))
  | inr l ↦ (let e = get_or-append_right x (z ∷ []) (length x) i (pos 0) refl l in rw e (last (i - length x)))
]
  where
    last : (j : ℕ) → unsigned_abs (entry (z ∷ []) j) ≤ K
    last zero = k
    last (suc j) = omega arith

lifted_length : (q : Row) (r : Ratio) → length (lifted q r) ≡ suc (length q)
lifted_length q r = let e = length-times r.den q in simp length-append (omega arith)

lifted_at_most : (M H : ℕ) (q : Row) (r : Ratio) → IsAtMost M q → unsigned_abs r.num ≤ H → unsigned_abs r.den ≤ H → IsAtMost (M * H) (lifted q r)
lifted_at_most M H q r h n d =
    append_one (M * H) (times r.den q) (entry q 0 *ℤ r.num)
    (λ i. let e = entry-times r.den q i in let p = abs_product r.den (entry q i) H M d (h i) in rw e (omega arith))
    (abs_product (entry q 0) r.num M H (h 0) n)

raised_length : (q : Row) → length (raised q) ≡ suc (length q)
raised_length q = let e = length-times (entry q 0) q in simp length-append (omega arith)

dot_at_most : (M : ℕ) (x y : Row) → IsAtMost M x → IsAtMost M y → unsigned_abs (dot x y) ≤ length x * (M * M)
dot_at_most M [] y h k = omega arith
dot_at_most M (a ∷ x) [] h k = omega arith
dot_at_most M (a ∷ x) (b ∷ y) h k = step a b (dot x y) (length x) (M * M) (abs_product a b M M (h 0) (k 0)) (dot_at_most M x y (λ i. h (suc i)) (λ i. k (suc i)))
  where
    step : (a b s : ℤ) (l m : ℕ) → unsigned_abs (a *ℤ b) ≤ m → unsigned_abs s ≤ l * m → unsigned_abs (a *ℤ b +ℤ s) ≤ suc l * m
    step a b s l m h k = let t = abs_sum (a *ℤ b) s in omega arith

behind : (M : ℕ) (q : Row) → IsAtMost M q → unsigned_abs (dot (drop 1 q) (drop 1 q)) ≤ length q * (M * M)
behind M [] h = omega arith
behind M (a ∷ x) h = let d = dot_at_most M x x (λ i. h (suc i)) (λ i. h (suc i)) in omega arith

raised_at_most : (n M : ℕ) (q : Row) → length q ≡ n → IsAtMost M q → IsAtMost (suc n * (M * M)) (raised q)
raised_at_most n M q l h =
    append_one (suc n * (M * M)) (times (entry q 0) q) (dot (drop 1 q) (drop 1 q))
    (λ i. let e = entry-times (entry q 0) q i in let p = abs_product (entry q 0) (entry q i) M M (h 0) (h i) in rw e (omega arith))
    (let b = behind M q h in let c = rw l at b in omega arith)

-- ---- double description of such rows
rows_kept : (n K : ℕ) (X : List Row) → 0 < K → IsSizeFor (suc n) K → Sized (suc n) K X → RowsAreLost n X → ⊥
rows_kept n K X some size s =
    let all = sized_append (suc n) K X (upwards n ∷ []) s (sized_one (suc n) K (upwards n) (length-unit (suc n) n, unit_small K (suc n) n some)) in
    let none = sized_none (suc n) K in
    parts_are_never_lost_by_count (suc n) K 0 K [] (X ++ upwards n ∷ []) some (sized_cols (suc n) K [] none) (sized_cols (suc n) K (X ++ upwards n ∷ []) all)
    (sized_size (suc n) K [] none) (sized_size (suc n) K (X ++ upwards n ∷ []) all) (inl (omega arith)) (inl (let e = pow-zero K in rw e (omega arith))) (omega arith) size

module _ (n K : ℕ) (Q : List Row) (some : 0 < K) (size : IsSizeFor (suc n) K) where
  module _ (W : List Ratio) (small : (j : ℕ) → j < length Q → (row : Row) → IsPrimitiveOf (ray Q j) row → IsSized (suc n) K (lifted row (ratio_at W j))) where
    one_kept : HasLostLiftedRow Q W → ⊥
    one_kept h =
        let p = primitive_exists (ray Q h.place) in
        let l = primitive_exists (lifted p.0 (ratio_at W h.place)) in
        let range = size_in_range n K some size in
        h.lost l.0 (record { row = p.0; primitive = p.1; lifted = l.1 })
        (at_most_in_range range.0 l.0 range.2 (at_most_more K range.0 l.0 range.1 (primitive_at_most K _ l.0 l.1 (small h.place h.within p.0 p.1).1)))

    all_sized : (X : List Row) → AreLiftedRows Q W X → Sized (suc n) K X
    all_sized X x = record {
      each = λ r m.
          let w = place_of m in
          let c = x.count in
          let inside : w.0 < length Q = (let l = w.1 in omega arith) in
          let e = x.each w.0 inside in
          let s = small w.0 inside e.row e.primitive in
          subst (IsSized (suc n) K) w.2 (e.lifted.cols ∙ s.0, primitive_at_most K _ (ray X w.0) e.lifted s.1);
    }

    pub lifting_kept : LiftingIsLost n Q W → ⊥
    lifting_kept (inl h) = one_kept h
    lifting_kept (inr (X, x, l)) = rows_kept n K X some size (all_sized X x) l

  module _ (small : (j : ℕ) → j < length Q → (row : Row) → IsPrimitiveOf (ray Q j) row → IsSized (suc n) K (raised row)) where
    one_raised_kept : HasLostRaisedRow Q → ⊥
    one_raised_kept h =
        let p = primitive_exists (ray Q h.place) in
        let l = primitive_exists (raised p.0) in
        let range = size_in_range n K some size in
        h.lost l.0 (record { row = p.0; primitive = p.1; raised = l.1 })
        (at_most_in_range range.0 l.0 range.2 (at_most_more K range.0 l.0 range.1 (primitive_at_most K _ l.0 l.1 (small h.place h.within p.0 p.1).1)))

    all_raised_sized : (X : List Row) → AreRaisedRows Q X → Sized (suc n) K X
    all_raised_sized X x = record {
      each = λ r m.
          let w = place_of m in
          let c = x.count in
          let inside : w.0 < length Q = (let l = w.1 in omega arith) in
          let e = x.each w.0 inside in
          let s = small w.0 inside e.row e.primitive in
          subst (IsSized (suc n) K) w.2 (e.raised.cols ∙ s.0, primitive_at_most K _ (ray X w.0) e.raised s.1);
    }

    pub raising_kept : RaisingIsLost n Q → ⊥
    raising_kept (inl h) = one_raised_kept h
    raising_kept (inr (X, x, l)) = rows_kept n K X some size (all_raised_sized X x) l

pub lifted_sized : (n M H : ℕ) (site row : Row) (r : Ratio) → length site ≡ n → IsAtMost M site → unsigned_abs r.num ≤ H → unsigned_abs r.den ≤ H → IsPrimitiveOf site row → IsSized (suc n) (M * H) (lifted row r)
lifted_sized n M H site row r l h a b p = (lifted_length row r ∙ (let c = p.cols in omega arith), lifted_at_most M H row r (primitive_at_most M site row p h) a b)

pub raised_sized : (n M : ℕ) (site row : Row) → length site ≡ n → IsAtMost M site → IsPrimitiveOf site row → IsSized (suc n) (suc n * (M * M)) (raised row)
raised_sized n M site row l h p = (raised_length row ∙ (let c = p.cols in omega arith), raised_at_most n M row (p.cols ∙ l) (primitive_at_most M site row p h))
