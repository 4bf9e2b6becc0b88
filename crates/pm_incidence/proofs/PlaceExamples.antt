-- The examples of places of facets hold.
use Rattle.pm_vector.proofs.ConeLaws.{dot_in}
use Rattle.pm_vector.proofs.Lists.{Among, Any_among, here, there}
use Rattle.pm_vector.proofs.Ring.{ring}
use Rattle.pm_vector.specs.Cones.{InCone, combination}
use Rattle.pm_vector.specs.Rows.{HasCols, Row, dot, entry, opposite, plus, times}
use Rattle.pm_vector.specs.Bases.{row_at}
use Rattle.pm_bits.specs.Sets.{IsSubset, has}
use Rattle.pm_dd.specs.Fronts.{HalfSpaces}
use Rattle.pm_dd.specs.Tables.{IsZeroSet, zero_set}
use Rattle.pm_geom.specs.Cones.{CutOut, IsFacetRow, IsValid, SameModulo}
use Rattle.pm_incidence.proofs.Described.{described_inside}
use Rattle.pm_incidence.proofs.FacetPlaces.{facet_row}
use Rattle.pm_incidence.proofs.Orthant.{orthant_few, orthant_many}
use Rattle.pm_incidence.specs.ThinExamples.{FacetPlacesAreRead, half}
use Rattle.pm_limits.specs.Limits.{most_rows}
use Rattle.pm_incidence.specs.Thinning.{AreFacetPlaces, AreZeroSets, IsFull, IsKeptSet, MarkFull}
use Rattle.pm_object_type.specs.declared.object_type.ObjectType.TheVariants.{Cone, Polytope}
use Rattle.pm_types.specs.Right.{CutsOutOf, Solves}
use Rattle.std.proofs.Common.{arith, refl, sym, true≢false}
use Rattle.std.proofs.lemmas.Int.{ints}
use Rattle.std.specs.List.{All}
use Rattle.std.specs.Prelude.{IsTrue, List, [], false, get_or, length, replicate, suc, zero, ℕ, ◌∷◌, ◌≡◌, ◌<◌, ◌≤◌, ◌↔◌}
use lib.IntN.{pos, ℤ}
use lib.Signed.{lt_z_yes, ◌<ℤ◌, ◌≤ℤ◌}

abbrev zero_row : Row
zero_row = pos 0 ∷ []

-- ---- what the half line and the line are
on_half : (x : Row) → length x ≡ 1 → InCone half [] x ↔ Solves half [] x
on_half [] l = absurd (omega arith)
on_half (a ∷ []) l = (
  λ h. record { inequalities = (dot_in (pos 1 ∷ []) half [] positive (λ g i. elim i [ ]) h, tt); equations = λ i d m. absurd (omega arith) },
  λ s. let up = simp ring at s.inequalities.0 in let above : pos 0 ≤ℤ a = omega (arith, ints) in record { m = pos 1; c = a ∷ []; d = []; positive = lt_z_yes tt; not_negative = (above, tt); same = record { at = at a } },
)
  where
    positive : (g : Row) → Among g half → pos 0 ≤ℤ dot (pos 1 ∷ []) g
    positive g here = omega (arith, ints)
    positive g (there i) = elim i [ ]

    at : (a : ℤ) (i : ℕ) → entry (times (pos 1) (a ∷ [])) i ≡ entry (plus (combination (a ∷ []) half) (combination [] [])) i
    at a zero = simp ring
    at a (suc i) = refl
on_half (a ∷ b ∷ x) l = absurd (omega arith)

on_line : (x : Row) → length x ≡ 1 → InCone [] half x ↔ Solves (zero_row ∷ []) [] x
on_line [] l = absurd (omega arith)
on_line (a ∷ []) l = (
  λ h. record { inequalities = (simp ring (omega (arith, ints)), tt); equations = λ i d m. absurd (omega arith) },
  λ s. record { m = pos 1; c = []; d = a ∷ []; positive = lt_z_yes tt; not_negative = tt; same = record { at = at a } },
)
  where
    at : (a : ℤ) (i : ℕ) → entry (times (pos 1) (a ∷ [])) i ≡ entry (plus (combination [] []) (combination (a ∷ []) half)) i
    at a zero = simp ring
    at a (suc i) = refl
on_line (a ∷ b ∷ x) l = absurd (omega arith)

zero_valid : (G L : List Row) → IsValid 1 G L zero_row
zero_valid G L = record { cols = refl; holds = holds }
  where
    holds : (x : Row) → length x ≡ 1 → InCone G L x → pos 0 ≤ℤ dot zero_row x
    holds [] l h = absurd (omega arith)
    holds (a ∷ x) l h = simp ring (omega (arith, ints))

itself_modulo : SameModulo 1 (IsValid 1 half []) (pos 1 ∷ []) (pos 1 ∷ [])
unfolding opposite
itself_modulo = record { p = pos 1; k = pos 1; w = zero_row; cols = refl; p_positive = lt_z_yes tt; k_positive = lt_z_yes tt; line = record { inside = zero_valid half []; opposed = zero_valid half [] }; same = record { at = at } }
  where
    at : (i : ℕ) → entry (times (pos 1) (pos 1 ∷ [])) i ≡ entry (plus (times (pos 1) (pos 1 ∷ [])) zero_row) i
    at zero = refl
    at (suc i) = refl

-- a row named again and again
repeated : (rest : List Row) (n : ℕ) → 1 < n → CutsOutOf Cone 1 (InCone half []) ((pos 1 ∷ []) ∷ rest) [] → ¬ (AreFacetPlaces Cone 1 ((pos 1 ∷ []) ∷ rest) [] (replicate n 0))
repeated rest zero l cut p = absurd (omega arith)
repeated rest (suc zero) l cut p = absurd (omega arith)
repeated rest (suc (suc n)) l cut p = p.once half [] (refl, tt) tt cut 0 1 0 (omega arith) (omega arith) itself_modulo

copies_cut : (k : ℕ) (x : Row) → pos 0 ≤ℤ dot (pos 1 ∷ []) x → CutOut (replicate k (pos 1 ∷ [])) x
copies_cut zero x h = tt
copies_cut (suc k) x h = (h, copies_cut k x h)

on_many : (k : ℕ) → CutsOutOf Cone 1 (InCone half []) (replicate (suc k) (pos 1 ∷ [])) []
on_many k x l = (
  λ h. let s = (on_half x l).0 h in record { inequalities = (s.inequalities.0, copies_cut k x s.inequalities.0); equations = s.equations },
  λ s. (on_half x l).1 (record { inequalities = (s.inequalities.0, tt); equations = s.equations }),
)

twice : ¬ (AreFacetPlaces Cone 1 half [] (0 ∷ 0 ∷ []))
twice p = p.once half [] (refl, tt) tt on_half 0 1 0 (omega arith) (omega arith) itself_modulo

vanishing : ¬ (AreFacetPlaces Cone 1 (zero_row ∷ []) [] (0 ∷ []))
unfolding opposite
vanishing p = (p.facets [] half tt (refl, tt) on_line 0 0 (omega arith)).not_line (zero_valid [] half)

-- ---- the far face of the point (1) as a polytope
not_true : {P : Type 0} → IsTrue false → P
not_true h = absurd (true≢false (sym h))

zeros : AreZeroSets half half ((false ∷ []) ∷ [])
zeros = record { as_many = refl; each = each }
  where
    none : (p : ℕ) → IsTrue (has (false ∷ []) p) ↔ ((p < 1) × (dot (row_at half p) (pos 1 ∷ []) ≡ pos 0))
    none zero = (λ h. not_true h, λ h. let e = h.1 in absurd (omega (arith, ints)))
    none (suc p) = (λ h. not_true h, λ h. let l = h.0 in absurd (omega arith))

    each : (k : ℕ) → k < 1 → IsZeroSet half 1 (row_at half k) (zero_set ((false ∷ []) ∷ []) k)
    each zero l = record { as_many = refl; exact = none }
    each (suc k) l = absurd (omega arith)

marked : MarkFull ((false ∷ []) ∷ []) (false ∷ [])
marked = record { as_many = refl; full = full; not_full = not_full }
  where
    full : (k : ℕ) → k < 1 → IsTrue (get_or (false ∷ []) k false) → IsFull (zero_set ((false ∷ []) ∷ []) k)
    full zero l h = not_true h
    full (suc k) l h = absurd (omega arith)

    not_full : (k : ℕ) → k < 1 → IsFull (zero_set ((false ∷ []) ∷ []) k) → IsTrue (get_or (false ∷ []) k false)
    not_full zero l h = not_true (h 0 (omega arith))
    not_full (suc k) l h = absurd (omega arith)

kept : (i : ℕ) → i < 1 → IsKeptSet ((false ∷ []) ∷ []) (false ∷ []) i
kept zero l = record { unmarked = λ h. not_true h; greatest = greatest }
  where
    greatest : (j : ℕ) → j < 1 → ¬ (IsTrue (get_or (false ∷ []) j false)) → IsSubset (zero_set ((false ∷ []) ∷ []) 0) (zero_set ((false ∷ []) ∷ []) j) → (0 ≤ j) × IsSubset (zero_set ((false ∷ []) ∷ []) j) (zero_set ((false ∷ []) ∷ []) 0)
    greatest zero m u s = (omega arith, λ i h. h)
    greatest (suc j) m u s = absurd (omega arith)
kept (suc i) l = absurd (omega arith)

inside : (v : Row) → Among v half → HalfSpaces [] half v
inside v here = (tt, (omega (arith, ints), tt))
inside v (there i) = elim i [ ]

far_facet : (G L : List Row) → HasCols 1 G → HasCols 1 L → CutsOutOf Polytope 1 (InCone G L) [] [] → IsFacetRow 1 G L (pos 1 ∷ [])
far_facet G L hG hL cut =
    facet_row 1 half [] half (refl, tt) tt (refl, tt) inside ((false ∷ []) ∷ []) (false ∷ []) zeros marked kept G L hG hL
    (described_inside 1 (omega arith) G L [] [] hG hL Polytope half (refl, tt) inside (Any_among (λ v. pos 0 <ℤ entry v 0) {x = pos 1 ∷ []} {xs = half} here (lt_z_yes tt)) cut) 0 (omega arith)

far : AreFacetPlaces Polytope 1 [] [] (0 ∷ [])
far = record {
  within = λ i d l. at_first (λ p. p < 1) (omega arith) i d l;
  facets = λ G L hG hL cut. at_first (λ p. IsFacetRow 1 G L (row_at half p)) (far_facet G L hG hL cut);
  once = λ G L hG hL cut i j d l m. absurd (omega arith);
}
  where
    at_first : (P : ℕ → Type 0) → P 0 → All P (0 ∷ [])
    at_first P h zero d l = h
    at_first P h (suc i) d l = absurd (omega arith)

pub facet_places_are_read : FacetPlacesAreRead
facet_places_are_read = record {
  past = λ p. let l = p.within 0 0 (omega arith) in omega arith;
  past_of_none = λ p. let l = p.within 0 0 (omega arith) in omega arith;
  twice = twice;
  zero = vanishing;
  far = far;
  few = λ m. let l = m.many in omega arith;
  few_fail = λ m. let l = m.count in omega arith;
  many_by_product = λ h. h;
  many = λ n l. orthant_many n l;
  repeated_fail = λ n V l m. repeated [] n (omega arith) on_half (m.among_few (omega arith));
  repeated_by_many = λ k n l m. repeated (replicate k (pos 1 ∷ [])) n (omega arith) (on_many k) (m.generated [] tt (on_many k));
  many_fail = λ n V l. let o = orthant_many n l in record { count = o.many; among_few = λ few. o.facets; generated = λ K hK cut. o.facets };
  not_many = λ n l m. orthant_few n l m;
}
