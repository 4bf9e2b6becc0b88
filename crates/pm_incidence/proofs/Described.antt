-- What half-spaces of a thing describe, as the cone that they cut out; and the cone {0}.
use Rattle.std.specs.Prelude.{Bool, Err, false, true, IfOk, Ok, Result, ℕ, zero, suc, ◌+◌, ◌≡◌, ◌<◌, ◌≤◌, ◌↔◌, List, [], ◌∷◌, ◌++◌, get_or, length, map}
use Rattle.std.specs.List.{Any, range_with_len}
use Rattle.std.proofs.Common.{ap, arith, inl, inr, refl, subst, sym, ◌∙◌}
use Rattle.std.proofs.lemmas.Bool.{cases_lt}
use Rattle.std.proofs.lemmas.Int.{by_lt_z, ints}
use Rattle.std.proofs.lemmas.List.{length-append}
use Rattle.std.proofs.lemmas.List.FromFn.{get_or-map-range_with_len, get_or-range_with_len, length-map-range_with_len, length-range_with_len}
use Rattle.pm_vector.specs.Cones.{InCone, InSpan, combination}
use Rattle.pm_vector.specs.Rows.{HasCols, IsZero, Row, dot, entry, opposite}
use Rattle.pm_vector.proofs.ConeLaws.{dot_in, in_generator, in_line, in_line_opposite, in_zero}
use Rattle.pm_vector.proofs.Lists.{All_among, Among, Any_among, among_Any, all_append, all_at, all_from, among_All, append_all}
use Rattle.pm_vector.proofs.Ring.{ring}
use Rattle.pm_vector.proofs.RowLaws.{dot_comm, entry-opposite, entry-plus, entry-times, length-opposite}
use Rattle.pm_vector.specs.Bases.{IsEchelonBasis, row_at}
use Rattle.pm_vector.proofs.Columns.{coefficient, combination_at, combination_zero}
use Rattle.pm_vector.proofs.BasisExamples.{primitive_by_one}
use Rattle.pm_vector.proofs.Spans.{place_of}
use Rattle.pm_dd.specs.Fronts.{HalfSpaces}
use Rattle.pm_dd.proofs.MixedLaws.{generators_as}
use Rattle.pm_dd.proofs.ZeroRows.{dot_zero, no_basis, zero_of_span}
use Rattle.pm_vector.specs.Evidence.{unit}
use Rattle.pm_vector.proofs.DotLaws.{dot-unit}
use Rattle.pm_elim.proofs.ExtendedLaws.{length-unit, unit_one, unit_zero}
use Rattle.pm_geom.specs.Cones.{InLineality, IsValid}
use Rattle.pm_geom.specs.Generators.{AreGenerators}
use Rattle.pm_geom.proofs.Facets.{opposite-dot}
use Rattle.pm_geom.proofs.Polar.{cols_at}
use Rattle.pm_incidence.specs.Thinning.{Agree, HasPointAmong, IsBehind, half_spaces}
use Rattle.pm_object_type.specs.declared.object_type.ObjectType.{ObjectType}
use Rattle.pm_object_type.specs.declared.object_type.ObjectType.TheVariants.{Cone, Fan, Polytope}
use Rattle.pm_types.specs.Right.{CutsOutOf, Solves, empty, proper}
use lib.IntN.{pos}
use lib.Signed.{lt_z_yes, ◌<ℤ◌, ◌≤ℤ◌}

pub if_ok : {T E : Type 0} {P Q : T → Type 0} (r : Result T E) → ((x : T) → P x → Q x) → IfOk r P → IfOk r Q
if_ok (Ok x) f h = f x h
if_ok (Err e) f h = h

unit-dot : (n : ℕ) (x : Row) → 0 < n → dot (unit n 0) x ≡ entry x 0
unit-dot n x l = dot_comm (unit n 0) x ∙ dot-unit x n 0 l

solves_to : (A E : List Row) (x : Row) → Solves A E x → HalfSpaces E A x
solves_to A E x s = (all_from (λ (e : Row). dot e x ≡ pos 0) E (λ e i. among_All (λ (e : Row). dot e x ≡ pos 0) i s.equations), s.inequalities)

solves_of : (A E : List Row) (x : Row) → HalfSpaces E A x → Solves A E x
solves_of A E x h = record { inequalities = h.1; equations = All_among (λ (e : Row). dot e x ≡ pos 0) E (λ e i. all_at (λ (e : Row). dot e x ≡ pos 0) i h.0) }

-- ---- the cone {0}
pub zero_generators : (n : ℕ) (S : Row → Type 0) → ((y : Row) → length y ≡ n → S y ↔ IsZero y) → AreGenerators n S [] []
zero_generators n S f = record {
  pivots = [];
  basis = record { echelon = no_basis n; lines = λ x lx. (λ h. in_zero ((f x lx).0 h.inside), λ h. line x lx (zero_of_span x h)) };
  order = record { each = λ k d l. absurd (omega arith); all = λ r e. absurd (e.not_line (opposite_in r e.cols ((f r e.cols).0 e.inside))); once = λ i j d l m. absurd (omega arith) };
  primitive = λ k d l. absurd (omega arith);
  reduced = λ k d l. absurd (omega arith);
  ascending = λ i j d l m. absurd (omega arith);
}
  where
    opposite_in : (x : Row) → length x ≡ n → IsZero x → S (opposite x)
    opposite_in x lx z = (f (opposite x) (length-opposite x ∙ lx)).1 (λ i. let q = z i in rw entry-opposite (omega (arith, ints)))

    line : (x : Row) → length x ≡ n → IsZero x → InLineality S x
    line x lx z = record { inside = (f x lx).1 z; opposed = opposite_in x lx z }

abbrev units : ℕ → List Row
units n = map (unit n) (range_with_len 0 n)

unit_at : (n i : ℕ) → i < n → row_at (units n) i ≡ unit n i
unit_at n i l = get_or-map-range_with_len (unit n) 0 n i i [] l (omega arith)

units_length : (n : ℕ) → length (units n) ≡ n
units_length n = length-map-range_with_len (unit n) 0 n

units_cols : (n : ℕ) → HasCols n (units n)
units_cols n = all_from (λ (x : Row). length x ≡ n) (units n) (λ x i. let w = place_of i in let l = w.1 in let e = units_length n in subst (λ (y : Row). length y ≡ n) w.2 (rw (unit_at n w.0 (omega arith)) (length-unit n w.0)))

column_at : (n i : ℕ) → i < n → get_or (range_with_len 0 n) i 0 ≡ i
column_at n i l = get_or-range_with_len 0 n i 0 l ∙ omega arith

pub units_echelon : (n : ℕ) → IsEchelonBasis n (units n) (range_with_len 0 n)
units_echelon n = record {
  basis = record {
    cols = units_cols n;
    as_many = length-range_with_len 0 n ∙ sym (units_length n);
    positive = λ i l. let li = below i l in rw (unit_at n i li, column_at n i li, unit_one n i li) (lt_z_yes tt);
    reduced = λ i j l m ne. let li = below i l in let lj = below j m in rw (unit_at n i li, column_at n j lj) (unit_zero n i j (λ e. ne (sym e)));
    primitive = λ i l. let li = below i l in rw (unit_at n i li) (primitive_by_one (unit n i) i (unit_one n i li));
  };
  ascending = λ i j l m. let lj = below j m in let li : i < n = omega arith in rw (column_at n i li, column_at n j lj) l;
  before = λ i c l m. let li = below i l in let m' : c < i = rw (column_at n i li) at m in rw (unit_at n i li) (unit_zero n i c (λ e. let q : c ≡ i = e in omega arith));
}
  where
    below : (i : ℕ) → i < length (units n) → i < n
    below i l = let e = units_length n in omega arith

entry_beyond : (x : Row) (i : ℕ) → length x ≤ i → entry x i ≡ pos 0
entry_beyond [] i l = refl
entry_beyond (a ∷ x) zero l = absurd (omega arith)
entry_beyond (a ∷ x) (suc i) l = entry_beyond x i (omega arith)

all_in_units : (n : ℕ) (x : Row) → length x ≡ n → InSpan (units n) x
unfolding coefficient
all_in_units n x lx = record {
  m = pos 1;
  c = [];
  d = x;
  positive = lt_z_yes tt;
  not_negative = tt;
  same = record { at = λ i. let q = made i in simp (entry-times, entry-plus, q) (omega (arith, ints)) };
}
  where
    below : (i : ℕ) → i < length (units n) → i < n
    below i l = let e = units_length n in omega arith

    made_within : (i : ℕ) → i < n → entry (combination x (units n)) i ≡ entry x i
    made_within i l = combination_at x (units n) i i (let e = units_length n in omega arith) (λ k m ne. let lk = below k m in rw (unit_at n k lk) (unit_zero n k i (λ e. ne (sym e)))) ∙ rw (unit_at n i l, unit_one n i l) (simp ring)

    made_beyond : (i : ℕ) → n ≤ i → entry (combination x (units n)) i ≡ entry x i
    made_beyond i l = combination_zero x (units n) i (λ k m. inr (let lk = below k m in rw (unit_at n k lk) (unit_zero n k i (λ e. let q : i ≡ k = e in omega arith)))) ∙ sym (entry_beyond x i (omega arith))

    made : (i : ℕ) → entry (combination x (units n)) i ≡ entry x i
    made i = elim (cases_lt i n) [ inl l ↦ made_within i l | inr l ↦ made_beyond i l ]

-- on {0} every row vanishes
pub zero_facets : (n : ℕ) (G L : List Row) → ((y : Row) → length y ≡ n → InCone G L y ↔ IsZero y) → AreGenerators n (IsValid n G L) [] (units n)
zero_facets n G L f = record {
  pivots = range_with_len 0 n;
  basis = record { echelon = units_echelon n; lines = λ x lx. (λ h. all_in_units n x lx, λ h. record { inside = valid x lx; opposed = valid (opposite x) (length-opposite x ∙ lx) }) };
  order = record { each = λ k d l. absurd (omega arith); all = λ r e. absurd (e.not_line (valid (opposite r) (length-opposite r ∙ e.cols))); once = λ i j d l m. absurd (omega arith) };
  primitive = λ k d l. absurd (omega arith);
  reduced = λ k d l. absurd (omega arith);
  ascending = λ i j d l m. absurd (omega arith);
}
  where
    valid : (a : Row) → length a ≡ n → IsValid n G L a
    valid a la = record { cols = la; holds = λ x lx h. let q = dot_zero a x ((f x lx).0 h) in omega (arith, ints) }

abbrev is_polytope : ObjectType → Bool
is_polytope Polytope = true
is_polytope Cone = false
is_polytope Fan = false

pub cone_apart : Cone ≡ Polytope → ⊥
cone_apart e = let f : false ≡ true = ap is_polytope e in cc

fan_apart : Fan ≡ Polytope → ⊥
fan_apart e = let f : false ≡ true = ap is_polytope e in cc

-- ---- half-spaces, with the one that is added
pub halves_to : (of : ObjectType) (n : ℕ) → 0 < n → (A E : List Row) (x : Row) → HalfSpaces E (half_spaces of n A) x → HalfSpaces E A x × ¬ (IsBehind of x)
halves_to Polytope n some A E x h =
    let (a, b) = append_all (λ (b : Row). pos 0 ≤ℤ dot b x) A (unit n 0 ∷ []) h.1 in
    let first : pos 0 ≤ℤ dot (unit n 0) x = b.0 in
    let e = unit-dot n x some in
    ((h.0, a), λ p. let q = p.1 in omega (arith, ints))
halves_to Cone n some A E x h = (h, λ p. cone_apart p.0)
halves_to Fan n some A E x h = (h, λ p. fan_apart p.0)

pub halves_of : (of : ObjectType) (n : ℕ) → 0 < n → (A E : List Row) (x : Row) → HalfSpaces E A x → ¬ (IsBehind of x) → HalfSpaces E (half_spaces of n A) x
halves_of Polytope n some A E x h nb =
    let e = unit-dot n x some in
    (h.0, all_append (λ (b : Row). pos 0 ≤ℤ dot b x) A (unit n 0 ∷ []) h.1 (by_lt_z (entry x 0) (pos 0) (λ lo. absurd (nb (refl, lo))) (λ hi. omega (arith, ints)), tt))
halves_of Cone n some A E x h nb = h
halves_of Fan n some A E x h nb = h

pub half_length : (of : ObjectType) (n : ℕ) (A : List Row) → length (half_spaces of n A) ≤ length A + 1
half_length Polytope n A = let e = length-append A (unit n 0 ∷ []) in omega arith
half_length Cone n A = omega arith
half_length Fan n A = omega arith

pub half_cols : (of : ObjectType) (n : ℕ) (A : List Row) → HasCols n A → HasCols n (half_spaces of n A)
half_cols Polytope n A h = all_append (λ (x : Row). length x ≡ n) A (unit n 0 ∷ []) h (length-unit n 0, tt)
half_cols Cone n A h = h
half_cols Fan n A h = h

-- ---- the half-spaces A and the equations E of a thing that G and L generate
module _ (n : ℕ) (some : 0 < n) (G L A E : List Row) (hG : HasCols n G) (hL : HasCols n L) where
  far_to : (x : Row) → HalfSpaces E (A ++ unit n 0 ∷ []) x → HalfSpaces E A x × (pos 0 ≤ℤ entry x 0)
  far_to x h =
      let (a, b) = append_all (λ (b : Row). pos 0 ≤ℤ dot b x) A (unit n 0 ∷ []) h.1 in
      let first : pos 0 ≤ℤ dot (unit n 0) x = b.0 in
      ((h.0, a), subst (λ z. pos 0 ≤ℤ z) (unit-dot n x some) first)

  far_of : (x : Row) → HalfSpaces E A x → pos 0 ≤ℤ entry x 0 → HalfSpaces E (A ++ unit n 0 ∷ []) x
  far_of x h p = (h.0, all_append (λ (b : Row). pos 0 ≤ℤ dot b x) A (unit n 0 ∷ []) h.1 (subst (λ z. pos 0 ≤ℤ z) (sym (unit-dot n x some)) p, tt))

  -- where there is a point, they cut it out
  pub described : (of : ObjectType) → HasPointAmong of G → CutsOutOf of n (InCone G L) A E → (x : Row) → length x ≡ n → HalfSpaces E (half_spaces of n A) x ↔ InCone G L x
  described Polytope w (proper y ly sy py eq) x lx = (
    λ h. let f = far_to x h in (eq x lx).1 (solves_of A E x f.0, f.1),
    λ h. let s = (eq x lx).0 h in far_of x (solves_to A E x s.0) s.1,
  )
  described Polytope w (empty never is_zero) x lx =
      let (v, i, up) = among_Any (λ (v : Row). pos 0 <ℤ entry v 0) G w in
      let q = (is_zero v (cols_at i hG)).0 (in_generator i) 0 in
      absurd (omega (arith, ints))
  described Cone w c x lx = (λ h. (c x lx).1 (solves_of A E x h), λ h. solves_to A E x ((c x lx).0 h))
  described Fan w c x lx = absurd c

  -- where there is none, it is {0}
  first_below : ¬ (Any (λ v. pos 0 <ℤ entry v 0) G) → ((k : Row) → Among k L → entry k 0 ≡ pos 0) → (x : Row) → InCone G L x → entry x 0 ≤ℤ pos 0
  first_below none level x h =
      let low = dot_in (opposite (unit n 0)) G L
      (λ v i.
      let u = unit-dot n v some in
      let o = opposite-dot (unit n 0) v in
      by_lt_z (pos 0) (entry v 0) (λ up. absurd (none (Any_among (λ v. pos 0 <ℤ entry v 0) i up))) (λ lo. omega (arith, ints)))
      (λ k i.
      let u = unit-dot n k some in
      let o = opposite-dot (unit n 0) k in
      let z = level k i in
      omega (arith, ints))
      h in
      let u = unit-dot n x some in
      let o = opposite-dot (unit n 0) x in
      omega (arith, ints)

  pub zero_cone : (of : ObjectType) → ¬ (HasPointAmong of G) → CutsOutOf of n (InCone G L) A E → (y : Row) → length y ≡ n → InCone G L y ↔ IsZero y
  zero_cone Polytope none (empty never is_zero) = is_zero
  zero_cone Polytope none (proper x lx sx up eq) =
      let low = first_below none (λ k i.
      let lk = cols_at i hL in
      let a = ((eq k lk).0 (in_line i)).1 in
      let b = ((eq (opposite k) (length-opposite k ∙ lk)).0 (in_line_opposite i)).1 in
      let c = rw entry-opposite at b in
      omega (arith, ints)) x ((eq x lx).1 (sx, omega (arith, ints))) in
      absurd (omega (arith, ints))
  zero_cone Cone none c = absurd (none tt)
  zero_cone Fan none c = absurd c

  pub vertices_of_thin : HasCols n E → (of : ObjectType) → HasPointAmong of G → CutsOutOf of n (InCone G L) A E → (V K : List Row) → ((E : List Row) → Agree n G L (half_spaces of n A) E → AreGenerators n (HalfSpaces E (half_spaces of n A)) V K) → AreGenerators n (InCone G L) V K
  vertices_of_thin hE of w cut V K f =
      let same = described of w cut in
      generators_as n (HalfSpaces E (half_spaces of n A)) (InCone G L) (λ x l. (same x l).0) (λ x l. (same x l).1) (f E (record { equation_cols = hE; same = same }))

  -- where some of the rays that lie in it is a point, they cut it out
  pub described_inside : (of : ObjectType) (V : List Row) → HasCols n V → ((v : Row) → Among v V → HalfSpaces E (half_spaces of n A) v) → HasPointAmong of V → CutsOutOf of n (InCone G L) A E → (x : Row) → length x ≡ n → HalfSpaces E (half_spaces of n A) x ↔ InCone G L x
  described_inside Polytope V hV inside w (proper y ly sy py eq) x lx = (
    λ h. let f = far_to x h in (eq x lx).1 (solves_of A E x f.0, f.1),
    λ h. let s = (eq x lx).0 h in far_of x (solves_to A E x s.0) s.1,
  )
  described_inside Polytope V hV inside w (empty never is_zero) x lx =
      let (v, i, up) = among_Any (λ (v : Row). pos 0 <ℤ entry v 0) V w in
      absurd (never v (cols_at i hV) (solves_of A E v (far_to v (inside v i)).0) up)
  described_inside Cone V hV inside w c x lx = (λ h. (c x lx).1 (solves_of A E x h), λ h. solves_to A E x ((c x lx).0 h))
  described_inside Fan V hV inside w c x lx = absurd c
