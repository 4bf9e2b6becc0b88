-- The definitions read on the quadrant and on small lists.
use Rattle.std.specs.Prelude.{ℕ, zero, suc, ◌-◌, ◌^◌, ◌≡◌, ◌<◌, ◌↔◌, Bool, true, false, IsTrue, List, [], ◌∷◌, ◌++◌, length, slice_index_or, take}
use Rattle.std.specs.List.{All}
use Rattle.std.proofs.Common.{ap, arith, refl, subst, sym}
use Rattle.std.proofs.lemmas.Int.{ints}
use Rattle.pm_vector.specs.Cones.{InSpan}
use Rattle.pm_vector.specs.Divisors.{IsPrimitive}
use Rattle.pm_vector.specs.Rows.{IsZero, Row, dot, entry, opposite, times}
use Rattle.pm_vector.proofs.ConeLaws.{dot_in, in_line, in_zero}
use Rattle.pm_vector.proofs.Lists.{Among, All_among, Contains_among, among_All, among_Contains, here, there}
use Rattle.pm_vector.proofs.Ring.{ring}
use Rattle.pm_vector.specs.Bases.{row_at}
use Rattle.pm_vector.specs.BasisExamples.{pair}
use Rattle.pm_vector.proofs.BasisExamples.{primitive_by_one}
use Rattle.pm_vector.proofs.Spans.{span_times}
use Rattle.pm_vector.specs.Enlarging.{MarkEnlarging}
use Rattle.pm_geom.specs.Cones.{CutOut, InLineality, IsExtreme}
use Rattle.pm_geom.specs.Faces.{ray}
use Rattle.pm_geom.specs.Generators.{AreGenerators, IsBefore}
use Rattle.pm_geom.specs.StatedOrder.{IsStatedOrder, rows_marked}
use Rattle.pm_geom.proofs.Facets.{dot-opposite}
use Rattle.pm_geom.proofs.Polar.{cut_from}
use Rattle.pm_dd.specs.Building.{StandsFor}
use Rattle.pm_dd.specs.Description.{AreDualRays}
use Rattle.pm_dd.specs.Examples.{QuadrantIsRead, quadrant}
use Rattle.pm_dd.specs.Mixed.{HaveSameRows}
use Rattle.pm_dd.proofs.Start.{dual_is_order}
use Rattle.pm_dd.proofs.StepLaws.{flat_on}
use Rattle.pm_dd.proofs.ZeroRows.{dot_zero, no_basis, zero_of_span}
use lib.IntN.{neg_ℤ, negsuc, pos}
use lib.Signed.{lt_z_yes, ◌<ℤ◌}

-- ---- lexicographic order
before_first : IsBefore (pair 0 1) (pair 1 0)
before_first = record { place = 0; within = omega arith; same = λ i l. absurd (omega arith); below = lt_z_yes tt }

not_after : ¬ (IsBefore (pair 1 0) (pair 0 1))
not_after b = at b.place b.within b.same b.below
  where
    at : (k : ℕ) → k < 2 → ((i : ℕ) → i < k → entry (pair 1 0) i ≡ entry (pair 0 1) i) → ¬ (entry (pair 1 0) k <ℤ entry (pair 0 1) k)
    at zero l s h = omega (arith, ints)
    at (suc zero) l s h = let e = s 0 (omega arith) in omega (arith, ints)
    at (suc (suc k)) l s h = omega arith

not_itself : ¬ (IsBefore (pair 1 0) (pair 1 0))
not_itself b = let l = b.below in omega (arith, ints)

-- ---- the quadrant
dual : AreDualRays 2 quadrant quadrant
dual = record { rows_cols = (refl, (refl, tt)); dual_cols = (refl, (refl, tt)); as_many = refl; apart = apart; own = own }
  where
    apart : (i j : ℕ) → i < 2 → j < 2 → ¬ (i ≡ j) → dot (ray quadrant i) (ray quadrant j) ≡ pos 0
    apart zero zero l m ne = absurd (ne refl)
    apart zero (suc zero) l m ne = refl
    apart zero (suc (suc j)) l m ne = absurd (omega arith)
    apart (suc zero) zero l m ne = refl
    apart (suc zero) (suc zero) l m ne = absurd (ne refl)
    apart (suc zero) (suc (suc j)) l m ne = absurd (omega arith)
    apart (suc (suc i)) j l m ne = absurd (omega arith)

    own : (i : ℕ) → i < 2 → pos 0 <ℤ dot (ray quadrant i) (ray quadrant i)
    own zero l = lt_z_yes tt
    own (suc zero) l = lt_z_yes tt
    own (suc (suc i)) l = absurd (omega arith)

line_zero : (x : Row) → length x ≡ 2 → InLineality (CutOut quadrant) x → IsZero x
line_zero [] l h = absurd (omega arith)
line_zero (a ∷ []) l h = absurd (omega arith)
line_zero (a ∷ b ∷ []) l h = at
  where
    at : (i : ℕ) → entry (a ∷ b ∷ []) i ≡ pos 0
    at zero = let q = simp ring at (flat_on quadrant (a ∷ b ∷ []) h (pair 1 0) (there here)) in omega (arith, ints)
    at (suc zero) = let q = simp ring at (flat_on quadrant (a ∷ b ∷ []) h (pair 0 1) here) in omega (arith, ints)
    at (suc (suc i)) = refl
line_zero (a ∷ b ∷ c ∷ x) l h = absurd (omega arith)

zero_line : (x : Row) → IsZero x → InLineality (CutOut quadrant) x
zero_line x z = record {
  inside = cut_from quadrant x (λ b i. let q = dot_zero b x z in omega (arith, ints));
  opposed = cut_from quadrant (opposite x) (λ b i. let q = dot_zero b x z in rw dot-opposite (omega (arith, ints)));
}

all_two : (P : Row → Type 0) (x y : Row) → P x → P y → All P (x ∷ y ∷ [])
all_two P x y p q = All_among P (x ∷ y ∷ []) go
  where
    go : (z : Row) → Among z (x ∷ y ∷ []) → P z
    go z here = p
    go z (there here) = q
    go z (there (there i)) = elim i [ ]

quadrant_generators : AreGenerators 2 (CutOut quadrant) (pair 0 1 ∷ pair 1 0 ∷ []) []
quadrant_generators = record {
  pivots = [];
  basis = record { echelon = no_basis 2; lines = λ x lx. (λ h. in_zero (line_zero x lx h), λ h. zero_line x (zero_of_span x h)) };
  order = dual_is_order 2 quadrant quadrant dual;
  primitive = all_two IsPrimitive (pair 0 1) (pair 1 0) (primitive_by_one (pair 0 1) 1 refl) (primitive_by_one (pair 1 0) 0 refl);
  reduced = λ k d l i e m. absurd (omega arith);
  ascending = two;
}
  where
    two : (i j : ℕ) (d : Row) → i < j → j < 2 → IsBefore (slice_index_or quadrant i d) (slice_index_or quadrant j d)
    two zero zero d l m = absurd (omega arith)
    two zero (suc zero) d l m = before_first
    two zero (suc (suc j)) d l m = absurd (omega arith)
    two (suc i) j d l m = absurd (omega arith)

not_doubled : ¬ (AreGenerators 2 (CutOut quadrant) (pair 0 2 ∷ pair 1 0 ∷ []) [])
not_doubled g =
    let first : Among (pair 0 2) (pair 0 2 ∷ pair 1 0 ∷ []) = here in
    let p = among_All IsPrimitive first g.primitive in
    let one = p.whole (pos 2) (pair 0 1) refl (lt_z_yes tt) (record { at = same }) in
    omega (arith, ints)
  where
    same : (i : ℕ) → entry (pair 0 2) i ≡ entry (times (pos 2) (pair 0 1)) i
    same zero = refl
    same (suc zero) = refl
    same (suc (suc i)) = refl

-- one ray alone does not have (1,0)
not_one : ¬ (AreGenerators 2 (CutOut quadrant) (pair 0 1 ∷ []) [])
not_one g =
    let o = dual_is_order 2 quadrant quadrant dual in
    let second : Among (pair 1 0) quadrant = there here in
    let w = g.order.all (pair 1 0) (among_All (λ v. IsExtreme 2 (CutOut quadrant) v) second o.each) in
    alone w.0 w.1 w.2 w.3 w.4
  where
    alike : ¬ (Rattle.pm_geom.specs.Cones.SameModulo 2 (CutOut quadrant) (pair 1 0) (pair 0 1))
    alike t = (dual_is_order 2 quadrant quadrant dual).once 0 1 [] (omega arith) (omega arith) (Rattle.pm_dd.proofs.AlikeLaws.alike_sym 2 (CutOut quadrant) (Rattle.pm_dd.proofs.Description.cut_cone_set quadrant) t)

    alone : (k : ℕ) (x : Row) → k < 1 → slice_index_or (pair 0 1 ∷ []) k x ≡ x → ¬ (Rattle.pm_geom.specs.Cones.SameModulo 2 (CutOut quadrant) (pair 1 0) x)
    alone zero x l e t = alike (subst (λ (z : Row). Rattle.pm_geom.specs.Cones.SameModulo 2 (CutOut quadrant) (pair 1 0) z) (sym e) t)
    alone (suc k) x l e t = omega arith

not_line : ¬ (AreGenerators 2 (CutOut quadrant) (pair 0 1 ∷ pair 1 0 ∷ []) (pair 1 0 ∷ []))
not_line g = let z = line_zero (pair 1 0) refl ((g.basis.lines (pair 1 0) refl).1 (in_line here)) 0 in omega (arith, ints)

-- ---- the stated order
abbrev listed : List Row
listed = pair 1 0 ∷ pair 2 0 ∷ pair 0 1 ∷ []

first_new : ¬ (InSpan [] (pair 1 0))
first_new h = let z = zero_of_span (pair 1 0) h 0 in omega (arith, ints)

second_old : InSpan (pair 1 0 ∷ []) (pair 2 0)
second_old = span_times (pos 2) (in_line here)

third_new : ¬ (InSpan (pair 1 0 ∷ pair 2 0 ∷ []) (pair 0 1))
third_new h = let p = dot_in (pos 0 ∷ negsuc 0 ∷ []) [] (pair 1 0 ∷ pair 2 0 ∷ []) (λ g i. elim i [ ]) flat h in omega (arith, ints)
  where
    flat : (l : Row) → Among l (pair 1 0 ∷ pair 2 0 ∷ []) → dot (pos 0 ∷ negsuc 0 ∷ []) l ≡ pos 0
    flat l here = refl
    flat l (there here) = refl
    flat l (there (there i)) = elim i [ ]

marked : MarkEnlarging listed (true ∷ false ∷ true ∷ [])
marked = record { as_many = refl; exact = exact }
  where
    exact : (i : ℕ) → i < 3 → IsTrue (slice_index_or (true ∷ false ∷ true ∷ []) i false) ↔ ¬ (InSpan (take i listed) (row_at listed i))
    exact zero l = (λ h. first_new, λ h. refl)
    exact (suc zero) l = (λ h. absurd (cc), λ out. absurd (out second_old))
    exact (suc (suc zero)) l = (λ h. third_new, λ h. refl)
    exact (suc (suc (suc i))) l = absurd (omega arith)

stated_order : IsStatedOrder listed (pair 1 0 ∷ pair 0 1 ∷ pair 2 0 ∷ [])
stated_order = record { marks = true ∷ false ∷ true ∷ []; enlarging = marked; ordered = refl }

not_stated : ¬ (IsStatedOrder listed listed)
not_stated s = three s.marks s.enlarging s.ordered
  where
    second_row : (a b c : Bool) → a ≡ true → b ≡ false → c ≡ true → ¬ (listed ≡ rows_marked true (a ∷ b ∷ c ∷ []) listed ++ rows_marked false (a ∷ b ∷ c ∷ []) listed)
    second_row a b c ea eb ec o =
        let e : listed ≡ pair 1 0 ∷ pair 0 1 ∷ pair 2 0 ∷ [] = rw (ea, eb, ec) at o in
        let q : pos 2 ≡ pos 0 = ap (λ (Z : List Row). entry (row_at Z 1) 0) e in
        omega (arith, ints)

    no_mark : (b : Bool) → (IsTrue b → ⊥) → b ≡ false
    no_mark true h = absurd (h refl)
    no_mark false h = refl

    three : (marks : List Bool) → MarkEnlarging listed marks → ¬ (listed ≡ rows_marked true marks listed ++ rows_marked false marks listed)
    three [] m o = let l = m.as_many in omega arith
    three (a ∷ []) m o = let l = m.as_many in omega arith
    three (a ∷ b ∷ []) m o = let l = m.as_many in omega arith
    three (a ∷ b ∷ c ∷ []) m o = second_row a b c ((m.exact 0 (omega arith)).1 first_new) (no_mark b (λ t. (m.exact 1 (omega arith)).0 t second_old)) ((m.exact 2 (omega arith)).1 third_new) o
    three (a ∷ b ∷ c ∷ d ∷ marks) m o = let l = m.as_many in omega arith

-- ---- the same rows
turned_to : (x : Row) → Among x (pair 0 1 ∷ pair 1 0 ∷ []) → Among x (pair 1 0 ∷ pair 0 1 ∷ [])
turned_to x here = there here
turned_to x (there here) = here
turned_to x (there (there i)) = elim i [ ]

turned_back : (x : Row) → Among x (pair 1 0 ∷ pair 0 1 ∷ []) → Among x (pair 0 1 ∷ pair 1 0 ∷ [])
turned_back x here = there here
turned_back x (there here) = here
turned_back x (there (there i)) = elim i [ ]

turned_rows : HaveSameRows (pair 0 1 ∷ pair 1 0 ∷ []) (pair 1 0 ∷ pair 0 1 ∷ [])
turned_rows = record { same = λ x. (λ c. Contains_among (turned_to x (among_Contains (pair 0 1 ∷ pair 1 0 ∷ []) c)), λ c. Contains_among (turned_back x (among_Contains (pair 1 0 ∷ pair 0 1 ∷ []) c))) }

not_among : ¬ (Among (pair 0 1) (pair 1 0 ∷ []))
not_among (there i) = elim i [ ]

not_less : ¬ (HaveSameRows (pair 0 1 ∷ pair 1 0 ∷ []) (pair 1 0 ∷ []))
not_less s =
    let first : Among (pair 0 1) (pair 0 1 ∷ pair 1 0 ∷ []) = here in
    not_among (among_Contains (pair 1 0 ∷ []) ((s.same (pair 0 1)).0 (Contains_among first)))

-- ---- what stands for a number
itself : StandsFor (negsuc 4) (negsuc 4)
itself = record { same = λ h. refl; above = λ h. absurd (omega (arith, ints)); below = λ h. absurd (omega (arith, ints)) }

end_above : StandsFor (pos (2 ^ 200)) (pos (2 ^ 127 - 1))
end_above = record { same = λ h. absurd (omega arith); above = λ h. refl; below = λ h. absurd (omega (arith, ints)) }

end_below : StandsFor (neg_ℤ (pos (2 ^ 127))) (neg_ℤ (pos (2 ^ 127 - 1)))
end_below = record { same = λ h. absurd (omega (arith, ints)); above = λ h. absurd (omega (arith, ints)); below = λ h. refl }

not_end : ¬ (StandsFor (pos 5) (pos (2 ^ 127 - 1)))
not_end s = let e = s.same (omega (arith, ints)) in omega (arith, ints)

not_other_end : ¬ (StandsFor (pos (2 ^ 200)) (neg_ℤ (pos (2 ^ 127 - 1))))
not_other_end s = let e = s.above (omega (arith, ints)) in omega (arith, ints)

pub quadrant_is_read : QuadrantIsRead
quadrant_is_read = record {
  before = before_first;
  not_before = not_after;
  not_itself = not_itself;
  generators = quadrant_generators;
  descending = λ g. not_after (g.ascending 0 1 [] (omega arith) (omega arith));
  doubled = not_doubled;
  one_ray = not_one;
  with_line = not_line;
  stated = stated_order;
  not_stated = not_stated;
  turned = turned_rows;
  one_less = not_less;
  itself = itself;
  end_above = end_above;
  end_below = end_below;
  not_end = not_end;
  not_other_end = not_other_end;
}
