-- The half-spaces x1 >= 0, .., xm >= 0 and the far face: each is a facet, and no two are alike.
use Rattle.std.specs.Prelude.{ℕ, zero, suc, ◌-◌, ◌≡◌, ◌<◌, ◌≤◌, ◌↔◌, List, [], ◌∷◌, get_or, length, replicate}
use Rattle.std.specs.List.{range_with_len}
use Rattle.std.proofs.Common.{arith, inl, inr, refl, subst, sym, ◌∙◌}
use Rattle.std.proofs.lemmas.Bool.{cases_eq, cases_lt}
use Rattle.std.proofs.lemmas.Int.{ints}
use Rattle.std.proofs.lemmas.List.{get_or-append_right, get_or-replicate, get_or_append_left, get_or_past, length-append, length-replicate}
use Rattle.std.proofs.lemmas.List.FromFn.{get_or-map-range_with_len, get_or-range_with_len, length-map-range_with_len, length-range_with_len}
use Rattle.pm_vector.specs.Cones.{InCone}
use Rattle.pm_vector.specs.Rows.{HasCols, IsZero, Row, Same, dot, entry, opposite, plus, times}
use Rattle.pm_vector.proofs.Lists.{Any_among, all_at, here}
use Rattle.pm_vector.proofs.Ring.{ring}
use Rattle.pm_vector.proofs.RowLaws.{dot_comm, entry-opposite, entry-plus, entry-times, length-opposite}
use Rattle.pm_vector.specs.Bases.{row_at}
use Rattle.pm_dd.specs.Fronts.{HalfSpaces}
use Rattle.pm_dd.proofs.StepLaws.{at_place, place_of}
use Rattle.pm_dd.proofs.ZeroRows.{dot_zero}
use Rattle.pm_vector.specs.Evidence.{unit}
use Rattle.pm_vector.proofs.DotLaws.{dot-unit}
use Rattle.pm_elim.proofs.ExtendedLaws.{length-unit, unit_one, unit_zero}
use Rattle.pm_geom.specs.Cones.{CutOut, InLineality, IsFacetRow, IsValid, MultipleModulo, SameModulo}
use Rattle.pm_geom.proofs.Polar.{cut_at, cut_from}
use Rattle.pm_incidence.proofs.Described.{described_inside}
use Rattle.pm_incidence.specs.ThinExamples.{orthant}
use Rattle.pm_incidence.specs.Thinning.{AreFacetPlaces, AreManyFacets, half_spaces}
use Rattle.pm_object_type.specs.declared.object_type.ObjectType.TheVariants.{Polytope}
use Rattle.pm_types.specs.Right.{CutsOutOf}
use lib.IntN.{ℤ, pos}
use lib.Signed.{lt_z_yes, ◌<ℤ◌, ◌≤ℤ◌}
use Rattle.pm_limits.specs.Limits.{most_rows}

-- ---- its half-spaces are the unit rows, the first of them last
abbrev halves : ℕ → List Row
halves n = half_spaces Polytope n (orthant n)

orthant_length : (n : ℕ) → length (orthant n) ≡ n - 1
orthant_length n = length-map-range_with_len (unit n) 1 (n - 1)

halves_length : (n : ℕ) → 0 < n → length (halves n) ≡ n
halves_length n some =
    let a = length-append (orthant n) (unit n 0 ∷ []) in
    let b = orthant_length n in
    omega arith

row_below : (n p : ℕ) → suc p < n → row_at (halves n) p ≡ unit n (suc p)
row_below n p l =
    get_or_append_left (orthant n) (unit n 0 ∷ []) [] p (let e = orthant_length n in omega arith)
    ∙ get_or-map-range_with_len (unit n) 1 (n - 1) p (suc p) [] (omega arith) (omega arith)

row_last : (n p : ℕ) → suc p ≡ n → row_at (halves n) p ≡ unit n 0
row_last n p l =
    let e : p - p ≡ 0 = omega arith in
    get_or-append_right (orthant n) (unit n 0 ∷ []) p p [] (let e = orthant_length n in omega arith) (omega arith) ∙ rw e refl

-- the number of the row at a place
row_is : (n p : ℕ) → p < n → (i : ℕ) × (i < n) × (row_at (halves n) p ≡ unit n i)
row_is n p l = elim (cases_lt (suc p) n) [
  | inl below ↦ (suc p, below, row_below n p below)
  | inr past ↦ (0, omega arith, row_last n p (omega arith))
]

-- the place of the row with a number
row_of : (n i : ℕ) → i < n → (p : ℕ) × (p < n) × (row_at (halves n) p ≡ unit n i)
row_of n zero l = (n - 1, omega arith, row_last n (n - 1) (omega arith))
row_of n (suc i) l = (i, omega arith, row_below n i l)

-- a later row has another number
later_row : (n p q : ℕ) → p < q → q < n → (i : ℕ) × (i < n) × ¬ (i ≡ suc p) × (row_at (halves n) q ≡ unit n i)
later_row n p q l k = elim (cases_lt (suc q) n) [
  | inl below ↦ (suc q, below, (λ e. omega (arith, e)), row_below n q below)
  | inr past ↦ (0, omega arith, (λ e. omega (arith, e)), row_last n q (omega arith))
]

-- ---- they cut out the rows with no negative entry
unit_entries : (n i : ℕ) → i < n → (j : ℕ) → pos 0 ≤ℤ entry (unit n i) j
unit_entries n i l j = elim (cases_eq j i) [
  | inl same ↦ rw (same, unit_one n i l) (omega (arith, ints))
  | inr other ↦ rw (unit_zero n i j other) (omega (arith, ints))
]

unit-dot : (n i : ℕ) (x : Row) → i < n → dot (unit n i) x ≡ entry x i
unit-dot n i x l = dot_comm (unit n i) x ∙ dot-unit x n i l

cut_entries : (n : ℕ) (x : Row) → length x ≡ n → CutOut (halves n) x → (i : ℕ) → pos 0 ≤ℤ entry x i
cut_entries n x lx h i = elim (cases_lt i n) [
  | inl l ↦
      let r = row_of n i l in
      let i' = at_place (halves n) r.0 (let e = halves_length n (omega arith) in let w = r.1 in omega arith) in
      let e : dot (row_at (halves n) r.0) x ≡ entry x i = rw r.2 (unit-dot n i x l) in
      subst (λ (z : ℤ). pos 0 ≤ℤ z) e (cut_at x i' h)
  | inr past ↦ rw (get_or_past x i (pos 0) (omega arith)) (omega (arith, ints))
]

entries_cut : (n : ℕ) → 0 < n → (x : Row) → ((i : ℕ) → pos 0 ≤ℤ entry x i) → CutOut (halves n) x
entries_cut n some x h = cut_from (halves n) x (λ b j.
    let w = place_of j in
    let r = row_is n w.0 (let e = halves_length n some in let l = w.1 in omega arith) in
    let e : b ≡ unit n r.0 = sym w.2 ∙ r.2 in
    subst (λ (y : Row). pos 0 ≤ℤ dot y x) (sym e) (subst (λ (z : ℤ). pos 0 ≤ℤ z) (sym (unit-dot n r.0 x r.1)) (h r.0)))

zero_entry : (n i : ℕ) → entry (replicate n (pos 0)) i ≡ pos 0
zero_entry n i = elim (cases_lt i n) [
  | inl l ↦ get_or-replicate n i (pos 0) (pos 0) l
  | inr past ↦ get_or_past (replicate n (pos 0)) i (pos 0) (rw length-replicate past)
]

-- ---- what is valid where these are all rows with no negative entry
module _ (n : ℕ) (G L : List Row) (same : (x : Row) → length x ≡ n → ((i : ℕ) → pos 0 ≤ℤ entry x i) ↔ InCone G L x) where
  valid_entry : (a : Row) → IsValid n G L a → (i : ℕ) → pos 0 ≤ℤ entry a i
  valid_entry a h i = elim (cases_lt i n) [
    | inl l ↦ subst (λ (z : ℤ). pos 0 ≤ℤ z) (dot-unit a n i l) (h.holds (unit n i) (length-unit n i) ((same (unit n i) (length-unit n i)).0 (unit_entries n i l)))
    | inr past ↦ let e = h.cols in rw (get_or_past a i (pos 0) (omega arith)) (omega (arith, ints))
  ]

  unit_valid : (i : ℕ) → i < n → IsValid n G L (unit n i)
  unit_valid i l = record { cols = length-unit n i; holds = λ x lx h. subst (λ (z : ℤ). pos 0 ≤ℤ z) (sym (unit-dot n i x l)) ((same x lx).1 h i) }

  zero_valid : (w : Row) → length w ≡ n → IsZero w → IsValid n G L w
  zero_valid w lw z = record { cols = lw; holds = λ x lx h. let q : dot w x ≡ pos 0 = dot_comm w x ∙ dot_zero x w z in omega (arith, ints) }

  zeros_line : InLineality (IsValid n G L) (replicate n (pos 0))
  zeros_line = record {
    inside = zero_valid (replicate n (pos 0)) (length-replicate n (pos 0)) (zero_entry n);
    opposed = zero_valid (opposite (replicate n (pos 0))) (length-opposite (replicate n (pos 0)) ∙ length-replicate n (pos 0)) (λ i. let q = zero_entry n i in rw entry-opposite (omega (arith, ints)));
  }

  line_entry : (w : Row) → InLineality (IsValid n G L) w → (i : ℕ) → entry w i ≡ pos 0
  line_entry w h i =
      let a = valid_entry w h.inside i in
      let b = rw entry-opposite at (valid_entry (opposite w) h.opposed i) in
      omega (arith, ints)

  -- a valid row that is 0 beside the place i
  multiple : (i : ℕ) → i < n → (u : Row) → IsValid n G L u → ((j : ℕ) → ¬ (j ≡ i) → entry u j ≡ pos 0) → MultipleModulo n (IsValid n G L) (unit n i) u
  multiple i l u hu level = record {
    p = pos 1;
    k = entry u i;
    w = replicate n (pos 0);
    cols = length-replicate n (pos 0);
    positive = lt_z_yes tt;
    not_negative = valid_entry u hu i;
    line = zeros_line;
    same = record { at = at };
  }
    where
      at : (j : ℕ) → entry (times (pos 1) u) j ≡ entry (plus (times (entry u i) (unit n i)) (replicate n (pos 0))) j
      at j =
          let z = zero_entry n j in
          elim (cases_eq j i) [
            | inl e ↦
                let o : entry (unit n i) j ≡ pos 1 = rw e (unit_one n i l) in
                let q : entry u j ≡ entry u i = rw e refl in
                simp (entry-times, entry-plus, o, z, q, ring) (omega (arith, ints))
            | inr ne ↦
                let o = unit_zero n i j ne in
                let q = level j ne in
                simp (entry-times, entry-plus, o, z, q, ring) (omega (arith, ints))
          ]

  unit_facet : (i : ℕ) → i < n → IsFacetRow n G L (unit n i)
  unit_facet i l = record {
    cols = length-unit n i;
    inside = unit_valid i l;
    not_line = λ h. let o = unit_one n i l in let q = rw entry-opposite at (valid_entry (opposite (unit n i)) h i) in omega (arith, ints);
    summands = λ p u v hp lu lv hu hv s. (multiple i l u hu (λ j ne. (level p u v hu hv s j ne).0), multiple i l v hv (λ j ne. (level p u v hu hv s j ne).1));
  }
    where
      level : (p : ℤ) (u v : Row) → IsValid n G L u → IsValid n G L v → Same (times p (unit n i)) (plus u v) → (j : ℕ) → ¬ (j ≡ i) → (entry u j ≡ pos 0) × (entry v j ≡ pos 0)
      level p u v hu hv s j ne =
          let o = unit_zero n i j ne in
          let e = simp (entry-times, entry-plus, o, ring) at (s.at j) in
          let a = valid_entry u hu j in
          let b = valid_entry v hv j in
          (omega (arith, ints), omega (arith, ints))

  units_apart : (i j : ℕ) → j < n → ¬ (j ≡ i) → ¬ (SameModulo n (IsValid n G L) (unit n i) (unit n j))
  units_apart i j l ne s =
      let o = unit_one n j l in
      let z = unit_zero n i j ne in
      let w = line_entry s.w s.line j in
      let e = simp (entry-times, entry-plus, o, z, w, ring) at (s.same.at j) in
      let p = s.p_positive in
      omega (arith, ints)

-- ---- all places
same_entries : (n : ℕ) → 0 < n → (G L : List Row) → HasCols n G → HasCols n L → CutsOutOf Polytope n (InCone G L) (orthant n) [] → (x : Row) → length x ≡ n → ((i : ℕ) → pos 0 ≤ℤ entry x i) ↔ InCone G L x
same_entries n some G L hG hL cut x lx = (λ h. described.0 (tt, entries_cut n some x h), λ h. cut_entries n x lx (described.1 h).1)
  where
    origin : HalfSpaces [] (halves n) (unit n 0)
    origin = (tt, entries_cut n some (unit n 0) (unit_entries n 0 some))

    described : HalfSpaces [] (halves n) x ↔ InCone G L x
    described =
        described_inside n some G L (orthant n) [] hG hL Polytope (unit n 0 ∷ []) (length-unit n 0, tt)
        (λ v j. all_at (λ (v : Row). HalfSpaces [] (halves n) v) j (origin, tt))
        (Any_among (λ v. pos 0 <ℤ entry v 0) {x = unit n 0} {xs = unit n 0 ∷ []} here (rw (unit_one n 0 some) (lt_z_yes tt)))
        cut x lx

place_is : (n i d : ℕ) → i < n → get_or (range_with_len 0 n) i d ≡ i
place_is n i d l = get_or-range_with_len 0 n i d l ∙ omega arith

pub orthant_places : (n : ℕ) → 0 < n → AreFacetPlaces Polytope n (orthant n) [] (range_with_len 0 n)
orthant_places n some = record {
  within = λ i d l. let li = below i l in let e = halves_length n some in rw (place_is n i d li) (omega arith);
  facets = λ G L hG hL cut i d l.
      let li = below i l in
      let r = row_is n i li in
      rw (place_is n i d li, r.2) (unit_facet n G L (same_entries n some G L hG hL cut) r.0 r.1);
  once = λ G L hG hL cut i j d l m.
      let lj = below j m in
      let li : i < n = omega arith in
      let r = later_row n i j l lj in
      rw (place_is n i d li, place_is n j d lj, row_below n i (omega arith), r.3) (units_apart n G L (same_entries n some G L hG hL cut) (suc i) r.0 r.1 r.2);
}
  where
    below : (i : ℕ) → i < length (range_with_len 0 n) → i < n
    below i l = let e = length-range_with_len 0 n in omega arith

pub orthant_many : (n : ℕ) → most_rows < n → AreManyFacets Polytope n (orthant n) [] (range_with_len 0 n)
orthant_many n l = record { many = rw (length-range_with_len 0 n) l; facets = orthant_places n (omega arith) }

pub orthant_few : (n : ℕ) → n ≤ most_rows → ¬ (AreManyFacets Polytope n (orthant n) [] (range_with_len 0 n))
orthant_few n few m = let l = m.many in let e = length-range_with_len 0 n in omega arith
