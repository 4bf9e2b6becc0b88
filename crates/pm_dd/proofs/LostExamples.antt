-- The definitions of what is lost read on small rows and cones.
use Rattle.std.specs.Prelude.{ℕ, zero, suc, ◌+◌, ◌^◌, ◌≡◌, ◌<◌, ◌≤◌, ◌≢◌, ◌⊎◌, ◌↔◌, Bool, true, false, IsTrue, List, [], ◌∷◌, ◌++◌, length, slice_index_or, take}
use Rattle.std.specs.List.{All, Contains}
use Rattle.std.proofs.Common.{arith, inl, inr, refl, subst, sym}
use Rattle.std.proofs.lemmas.Int.{ints}
use Rattle.pm_vector.specs.Bases.{row_at}
use Rattle.pm_vector.specs.BasisExamples.{pair}
use Rattle.pm_vector.specs.Cones.{InSpan}
use Rattle.pm_vector.specs.Divisors.{IsPrimitiveOf}
use Rattle.pm_vector.specs.Numbers.{InRange}
use Rattle.pm_vector.specs.Rows.{IsZero, Row, dot, entry, opposite, times}
use Rattle.pm_vector.proofs.BasisExamples.{primitive_by_one}
use Rattle.pm_vector.proofs.ConeLaws.{dot_in, in_zero}
use Rattle.pm_vector.proofs.DivisorLaws.{IsPrimitiveOf-from_one, one-from_primitive, primitive_row_unique}
use Rattle.pm_vector.proofs.Lists.{Among, among_All, here, there}
use Rattle.pm_vector.proofs.Rank.{rank_is_determined}
use Rattle.pm_vector.proofs.Ring.{ring}
use Rattle.pm_vector.specs.Enlarging.{MarkEnlarging}
use Rattle.pm_geom.specs.Cones.{CutOut, InLineality, IsExtreme}
use Rattle.pm_geom.specs.Faces.{ray}
use Rattle.pm_geom.specs.Generators.{IsCanonicalRay}
use Rattle.pm_geom.specs.StatedOrder.{rows_marked}
use Rattle.pm_geom.proofs.Facets.{dot-opposite}
use Rattle.pm_geom.proofs.Polar.{cut_from}
use Rattle.pm_dd.specs.Description.{Adjacent, AreDualRays, combined}
use Rattle.pm_dd.specs.Lost.{CombinationIsLost, DescriptionIsLost, DualsAreLost, HasWideRay, HasWideRayOnRows, IsLostSource, PartsAreLost, StartIsLost}
use Rattle.pm_dd.specs.LostExamples.{LossesAreRead, first_row, long_ray, narrow_cone, opposed_ray, other_ray, two_sets}
use Rattle.pm_dd.specs.StepFails.{IsTablePair}
use Rattle.pm_elim.specs.Lost.{IsLost}
use Rattle.pm_elim.specs.LostExamples.{one_entry, two_rows}
use Rattle.pm_elim.proofs.BasisLaws.{basis_unique}
use Rattle.pm_elim.proofs.LostExamples.{lost_eliminations_are_read}
use Rattle.pm_vector.proofs.Spans.{same_span_refl}
use Rattle.pm_dd.proofs.Arranged.{first_rank}
use Rattle.pm_dd.proofs.Start.{dual_is_order}
use Rattle.pm_dd.proofs.Stated.{marked_rank}
use Rattle.pm_dd.proofs.StepLaws.{flat_on}
use Rattle.pm_dd.proofs.ZeroRows.{dot_zero, no_basis, zero_of_span}
use lib.IntN.{neg_ℤ, negsuc, pos}
use lib.Signed.{lt_z_yes, ◌<ℤ◌}

-- ---- combinations
sum_is : combined first_row long_ray other_ray ≡ pos 0 ∷ pos 1 ∷ pos (2 ^ 127 + 1) ∷ []
unfolding combined
sum_is = refl

other_sum_is : combined first_row long_ray opposed_ray ≡ pos 0 ∷ pos 0 ∷ pos (2 ^ 127 + 1) ∷ []
unfolding combined
other_sum_is = refl

long_row : (w : Row) → IsPrimitiveOf (pos 0 ∷ pos 1 ∷ pos (2 ^ 127 + 1) ∷ []) w → ¬ (All InRange w)
long_row w p all =
    let long : Row = pos 0 ∷ pos 1 ∷ pos (2 ^ 127 + 1) ∷ [] in
    let e = primitive_row_unique long long w (IsPrimitiveOf-from_one long (one-from_primitive long (primitive_by_one long 1 refl))) p in
    let last = subst (λ (x : Row). All InRange x) (sym e) all 2 (pos 0) (omega arith) in
    omega (arith, ints)

pub lost : CombinationIsLost first_row long_ray other_ray
lost w p all = long_row w (rw sum_is at p) all

short : IsPrimitiveOf (pos 0 ∷ pos 0 ∷ pos (2 ^ 127 + 1) ∷ []) (pos 0 ∷ pos 0 ∷ pos 1 ∷ [])
short = record {
  cols = refl;
  divided = inr (pos (2 ^ 127 + 1), lt_z_yes tt, record { at = same }, primitive_by_one (pos 0 ∷ pos 0 ∷ pos 1 ∷ []) 2 refl);
}
  where
    same : (i : ℕ) → entry (pos 0 ∷ pos 0 ∷ pos (2 ^ 127 + 1) ∷ []) i ≡ entry (times (pos (2 ^ 127 + 1)) (pos 0 ∷ pos 0 ∷ pos 1 ∷ [])) i
    same zero = refl
    same (suc zero) = refl
    same (suc (suc zero)) = refl
    same (suc (suc (suc i))) = refl

short_in_range : All InRange (pos 0 ∷ pos 0 ∷ pos 1 ∷ [])
short_in_range zero d l = omega (arith, ints)
short_in_range (suc zero) d l = omega (arith, ints)
short_in_range (suc (suc zero)) d l = omega (arith, ints)
short_in_range (suc (suc (suc i))) d l = absurd (omega arith)

not_lost : ¬ (CombinationIsLost first_row long_ray opposed_ray)
not_lost h = h (pos 0 ∷ pos 0 ∷ pos 1 ∷ []) (rw other_sum_is short) short_in_range

-- ---- pairs
no_third : (s : Row) → Adjacent [] (long_ray ∷ s ∷ []) 0 1
no_third s = record { third = third }
  where
    third : (k : ℕ) → k < 2 → ((b : Row) → Contains [] b → dot b long_ray ≡ pos 0 → dot b s ≡ pos 0 → dot b (ray (long_ray ∷ s ∷ []) k) ≡ pos 0) → (k ≡ 0) ⊎ (k ≡ 1)
    third zero l h = inl refl
    third (suc zero) l h = inr refl
    third (suc (suc k)) l h = absurd (omega arith)

source : IsLostSource (first_row ∷ []) 0 (long_ray ∷ other_ray ∷ [])
source = record { first = 0; second = 1; source = (omega arith, omega arith, lt_z_yes tt, lt_z_yes tt, no_third other_ray); lost = lost }

no_source : ¬ (IsLostSource (first_row ∷ []) 0 (long_ray ∷ opposed_ray ∷ []))
no_source h = at h.first h.second h.source.0 h.source.1 h.source.2 h.source.3 h.lost
  where
    at : (i j : ℕ) → i < 2 → j < 2 → pos 0 <ℤ dot first_row (ray (long_ray ∷ opposed_ray ∷ []) i) → dot first_row (ray (long_ray ∷ opposed_ray ∷ []) j) <ℤ pos 0 → ¬ (CombinationIsLost first_row (ray (long_ray ∷ opposed_ray ∷ []) i) (ray (long_ray ∷ opposed_ray ∷ []) j))
    at zero zero l m up down h = omega (arith, ints)
    at zero (suc zero) l m up down h = not_lost h
    at zero (suc (suc j)) l m up down h = omega arith
    at (suc zero) j l m up down h = omega (arith, ints)
    at (suc (suc i)) j l m up down h = omega arith

-- ---- the narrow cone
abbrev wide_one : Row
wide_one = pos (2 ^ 127) ∷ pos 1 ∷ []

dual : AreDualRays 2 narrow_cone (wide_one ∷ pair 1 0 ∷ [])
dual = record { rows_cols = (refl, (refl, tt)); dual_cols = (refl, (refl, tt)); as_many = refl; apart = apart; own = own }
  where
    apart : (i j : ℕ) → i < 2 → j < 2 → ¬ (i ≡ j) → dot (ray narrow_cone i) (ray (wide_one ∷ pair 1 0 ∷ []) j) ≡ pos 0
    apart zero zero l m ne = absurd (ne refl)
    apart zero (suc zero) l m ne = refl
    apart zero (suc (suc j)) l m ne = absurd (omega arith)
    apart (suc zero) zero l m ne = refl
    apart (suc zero) (suc zero) l m ne = absurd (ne refl)
    apart (suc zero) (suc (suc j)) l m ne = absurd (omega arith)
    apart (suc (suc i)) j l m ne = absurd (omega arith)

    own : (i : ℕ) → i < 2 → pos 0 <ℤ dot (ray narrow_cone i) (ray (wide_one ∷ pair 1 0 ∷ []) i)
    own zero l = lt_z_yes tt
    own (suc zero) l = lt_z_yes tt
    own (suc (suc i)) l = absurd (omega arith)

line_zero : (x : Row) → length x ≡ 2 → InLineality (CutOut narrow_cone) x → IsZero x
line_zero [] l h = absurd (omega arith)
line_zero (a ∷ []) l h = absurd (omega arith)
line_zero (a ∷ b ∷ []) l h = at
  where
    low : b ≡ pos 0
    low = let q = simp ring at (flat_on narrow_cone (a ∷ b ∷ []) h (pair 0 1) here) in omega (arith, ints)

    at : (i : ℕ) → entry (a ∷ b ∷ []) i ≡ pos 0
    at zero = let q = simp (low, ring) at (flat_on narrow_cone (a ∷ b ∷ []) h (pos 1 ∷ neg_ℤ (pos (2 ^ 127)) ∷ []) (there here)) in omega (arith, ints)
    at (suc zero) = low
    at (suc (suc i)) = refl
line_zero (a ∷ b ∷ c ∷ x) l h = absurd (omega arith)

zero_line : (x : Row) → IsZero x → InLineality (CutOut narrow_cone) x
zero_line x z = record {
  inside = cut_from narrow_cone x (λ b i. let q = dot_zero b x z in omega (arith, ints));
  opposed = cut_from narrow_cone (opposite x) (λ b i. let q = dot_zero b x z in rw dot-opposite (omega (arith, ints)));
}

first_new : ¬ (InSpan [] (pair 0 1))
first_new h = let z = zero_of_span (pair 0 1) h 1 in omega (arith, ints)

second_new : ¬ (InSpan (pair 0 1 ∷ []) (pos 1 ∷ neg_ℤ (pos (2 ^ 127)) ∷ []))
second_new h = let p = dot_in (negsuc 0 ∷ pos 0 ∷ []) [] (pair 0 1 ∷ []) (λ g i. elim i [ ]) flat h in omega (arith, ints)
  where
    flat : (l : Row) → Among l (pair 0 1 ∷ []) → dot (negsuc 0 ∷ pos 0 ∷ []) l ≡ pos 0
    flat l here = refl
    flat l (there i) = elim i [ ]

marked : MarkEnlarging narrow_cone (true ∷ true ∷ [])
marked = record { as_many = refl; exact = exact }
  where
    exact : (i : ℕ) → i < 2 → IsTrue (slice_index_or (true ∷ true ∷ []) i false) ↔ ¬ (InSpan (take i narrow_cone) (row_at narrow_cone i))
    exact zero l = (λ h. first_new, λ h. refl)
    exact (suc zero) l = (λ h. second_new, λ h. refl)
    exact (suc (suc i)) l = absurd (omega arith)

narrow_canonical : IsCanonicalRay 2 (CutOut narrow_cone) wide_one
narrow_canonical = record {
  lines = [];
  pivots = [];
  basis = record { echelon = no_basis 2; lines = λ x lx. (λ h. in_zero (line_zero x lx h), λ h. zero_line x (zero_of_span x h)) };
  extreme = let i : Among wide_one (wide_one ∷ pair 1 0 ∷ []) = here in among_All (λ v. IsExtreme 2 (CutOut narrow_cone) v) i (dual_is_order 2 narrow_cone (wide_one ∷ pair 1 0 ∷ []) dual).each;
  primitive = primitive_by_one wide_one 1 refl;
  reduced = λ k d l. absurd (omega arith);
}

out_of_range : ¬ (All InRange wide_one)
out_of_range all = let first = all 0 (pos 0) (omega arith) in omega (arith, ints)

has_ray : HasWideRay 2 narrow_cone
has_ray = record {
  ordered = narrow_cone;
  front = 2;
  stated = record {
    stated = record { marks = true ∷ true ∷ []; enlarging = marked; ordered = refl };
    enough = λ d r. let e = rank_is_determined narrow_cone d 2 r (marked_rank 2 narrow_cone (refl, (refl, tt)) (true ∷ true ∷ []) marked) in omega arith;
    within = omega arith;
  };
  ray = wide_one;
  canonical = narrow_canonical;
  wide = out_of_range;
}

-- ---- cones without such a ray
no_rows : (S : Row → Type 0) (n : ℕ) (r : Row) → ((x : Row) → S x) → ¬ (IsExtreme n S r)
no_rows S n r h e = e.not_line (h (opposite r))

unit_ray : (X : List Row) (r : Row) → IsCanonicalRay 1 (CutOut ((pos 1 ∷ []) ∷ X)) r → All InRange r
unit_ray X [] c = λ i d l. absurd (omega arith)
unit_ray X (a ∷ []) c = small
  where
    never_zero : ¬ (a ≡ pos 0)
    never_zero z = let e = c.primitive.whole (pos 2) (a ∷ []) refl (lt_z_yes tt) (record { at = same }) in omega (arith, ints)
      where
        same : (i : ℕ) → entry (a ∷ []) i ≡ entry (times (pos 2) (a ∷ [])) i
        same zero = simp (z, ring)
        same (suc i) = refl

    positive : pos 0 <ℤ a
    positive = let p = simp ring at c.extreme.inside.0 in let q = never_zero in omega (arith, ints)

    one : a ≡ pos 1
    one = c.primitive.whole a (pos 1 ∷ []) refl positive (record { at = same })
      where
        same : (i : ℕ) → entry (a ∷ []) i ≡ entry (times a (pos 1 ∷ [])) i
        same zero = simp ring
        same (suc i) = refl

    small : All InRange (a ∷ [])
    small zero d l = rw one (omega (arith, ints))
    small (suc i) d l = absurd (omega arith)
unit_ray X (a ∷ b ∷ r) c = let l = c.extreme.cols in absurd (omega arith)

no_ray : ¬ (HasWideRay 1 one_entry)
no_ray h = of_marks h.stated.stated.marks h.stated.stated.enlarging.as_many h.stated.stated.ordered
  where
    of_front : (f : ℕ) (r : Row) → IsCanonicalRay 1 (CutOut (take f one_entry)) r → All InRange r
    of_front zero r c = absurd (no_rows (CutOut []) 1 r (λ x. tt) c.extreme)
    of_front (suc f) r c = unit_ray (take f []) r c

    of_marks : (marks : List Bool) → length marks ≡ 1 → ¬ (h.ordered ≡ rows_marked true marks one_entry ++ rows_marked false marks one_entry)
    of_marks [] l o = omega arith
    of_marks (true ∷ []) l o = h.wide (of_front h.front h.ray (subst (λ (Y : List Row). IsCanonicalRay 1 (CutOut (take h.front Y)) h.ray) o h.canonical))
    of_marks (false ∷ []) l o = h.wide (of_front h.front h.ray (subst (λ (Y : List Row). IsCanonicalRay 1 (CutOut (take h.front Y)) h.ray) o h.canonical))
    of_marks (m ∷ k ∷ marks) l o = omega arith

whole_plane : ¬ (HasWideRay 2 [])
whole_plane h = of_marks h.stated.stated.marks h.stated.stated.ordered
  where
    of_front : (f : ℕ) → ¬ (IsCanonicalRay 2 (CutOut (take f [])) h.ray)
    of_front zero c = no_rows (CutOut []) 2 h.ray (λ x. tt) c.extreme
    of_front (suc f) c = no_rows (CutOut []) 2 h.ray (λ x. tt) c.extreme

    of_marks : (marks : List Bool) → ¬ (h.ordered ≡ rows_marked true marks [] ++ rows_marked false marks [])
    of_marks [] o = of_front h.front (subst (λ (Y : List Row). IsCanonicalRay 2 (CutOut (take h.front Y)) h.ray) o h.canonical)
    of_marks (m ∷ marks) o = of_front h.front (subst (λ (Y : List Row). IsCanonicalRay 2 (CutOut (take h.front Y)) h.ray) o h.canonical)

-- ---- pairs of a table
table_pair : IsTablePair two_sets 0 1
table_pair = record { both = []; meet = λ i. refl; alone = λ o. none o.0 o.1 o.2 o.3 }
  where
    none : (k : ℕ) → k < 2 → k ≢ 0 → k ≢ 1 → ⊥
    none k l a b = omega arith

-- ---- lists whose rows are taken in this order
on_rows : HasWideRayOnRows 2 [] narrow_cone 2
on_rows X hX a = record {
  ordered = narrow_cone;
  front = 2;
  stated = record {
    stated = record { marks = a.marks; enlarging = a.enlarging; ordered = rw (a.first, a.others) refl };
    enough = λ d r. let e = rank_is_determined X d 2 r (first_rank 2 X [] narrow_cone 2 hX a) in omega arith;
    within = omega arith;
  };
  ray = wide_one;
  canonical = narrow_canonical;
  wide = out_of_range;
}

one_marked : MarkEnlarging one_entry (true ∷ [])
one_marked = record { as_many = refl; exact = exact }
  where
    new : ¬ (InSpan [] (pos 1 ∷ []))
    new h = let z = zero_of_span (pos 1 ∷ []) h 0 in omega (arith, ints)

    exact : (i : ℕ) → i < 1 → IsTrue (slice_index_or (true ∷ []) i false) ↔ ¬ (InSpan (take i one_entry) (row_at one_entry i))
    exact zero l = (λ h. new, λ h. refl)
    exact (suc i) l = absurd (omega arith)

not_on_rows : ¬ (HasWideRayOnRows 1 [] one_entry 1)
not_on_rows h = no_ray (h one_entry (refl, tt) (record { marks = true ∷ []; enlarging = one_marked; within = omega arith; first = refl; others = refl }))

-- ---- null spaces, and the start
no_duals : ¬ (DualsAreLost 1 one_entry)
no_duals (inl h) = lost_eliminations_are_read.not_extended h
no_duals (inr h) = lost_eliminations_are_read.not_without h

no_rows_lost : ¬ (DualsAreLost 1 [])
no_rows_lost (inl h) = of_list h.listed h.extended.as_many h.lost
  where
    of_list : (L : List Row) → length L ≡ 1 → ¬ (IsLost 1 L)
    of_list [] l h = omega arith
    of_list (r ∷ []) l h = lost_eliminations_are_read.not_one 1 r h
    of_list (r ∷ s ∷ L) l h = omega arith
no_rows_lost (inr h) = let l = h.within in omega arith

no_start : ¬ (StartIsLost 1 one_entry)
no_start h = of_marks h.marks h.enlarging.as_many h.lost
  where
    of_marks : (marks : List Bool) → length marks ≡ 1 → ¬ (DualsAreLost 1 (rows_marked true marks one_entry))
    of_marks [] l h = omega arith
    of_marks (true ∷ []) l h = no_duals h
    of_marks (false ∷ []) l h = no_rows_lost h
    of_marks (m ∷ k ∷ marks) l h = omega arith

first_long : ¬ (InSpan [] (pos 2 ∷ pos 1 ∷ []))
first_long h = let z = zero_of_span (pos 2 ∷ pos 1 ∷ []) h 1 in omega (arith, ints)

second_long : ¬ (InSpan ((pos 2 ∷ pos 1 ∷ []) ∷ []) (negsuc 0 ∷ pos (2 ^ 126) ∷ []))
second_long h = let p = dot_in (pos 1 ∷ negsuc 1 ∷ []) [] ((pos 2 ∷ pos 1 ∷ []) ∷ []) (λ g i. elim i [ ]) flat h in omega (arith, ints)
  where
    flat : (l : Row) → Among l ((pos 2 ∷ pos 1 ∷ []) ∷ []) → dot (pos 1 ∷ negsuc 1 ∷ []) l ≡ pos 0
    flat l here = refl
    flat l (there i) = elim i [ ]

start : StartIsLost 2 two_rows
start = record { marks = true ∷ true ∷ []; enlarging = record { as_many = refl; exact = exact }; lost = inl lost_eliminations_are_read.extended }
  where
    exact : (i : ℕ) → i < 2 → IsTrue (slice_index_or (true ∷ true ∷ []) i false) ↔ ¬ (InSpan (take i two_rows) (row_at two_rows i))
    exact zero l = (λ h. first_long, λ h. refl)
    exact (suc zero) l = (λ h. second_long, λ h. refl)
    exact (suc (suc i)) l = absurd (omega arith)

no_description : ¬ (DescriptionIsLost 1 one_entry)
no_description (inl h) = lost_eliminations_are_read.not_one 1 (pos 1 ∷ []) h
no_description (inr (inl h)) = no_start h
no_description (inr (inr h)) = no_ray h

-- ---- two parts
parts : PartsAreLost 2 [] narrow_cone
parts = inr (narrow_cone, record { basis = []; pivots = []; is_basis = record { echelon = no_basis 2; span = same_span_refl [] }; list = refl }, inr (inr has_ray))

no_parts : ¬ (PartsAreLost 1 [] one_entry)
no_parts (inl h) = let l = h.within in omega arith
no_parts (inr (D, list, h)) =
    let e = (basis_unique 1 [] list.basis [] list.pivots [] list.is_basis (record { echelon = no_basis 1; span = same_span_refl [] })).0 in
    no_description (subst (λ (X : List Row). DescriptionIsLost 1 X) (rw e at list.list) h)

pub losses_are_read : LossesAreRead
losses_are_read = record {
  lost = lost;
  not_lost = not_lost;
  out_of_range = λ h. h;
  of_memory = tt;
  no_product = λ h. h;
  no_step_memory = tt;
  no_memory = tt;
  source = source;
  no_source = no_source;
  table_pair = record { pair = table_pair; lost = lost };
  no_table_pair = λ h. not_lost h.lost;
  ray = has_ray;
  no_ray = no_ray;
  whole_plane = whole_plane;
  on_rows = on_rows;
  not_on_rows = not_on_rows;
  duals = inl lost_eliminations_are_read.extended;
  no_duals = no_duals;
  start = start;
  no_start = no_start;
  description = inr (inr has_ray);
  started = inr (inl start);
  no_description = no_description;
  parts = parts;
  no_parts = no_parts;
}
