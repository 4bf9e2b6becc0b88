-- Where all half-spaces are kept by rays of the cone that they describe, each is a facet row, and no two are alike.
use Rattle.std.specs.Prelude.{ℕ, zero, suc, ◌+◌, ◌-◌, ◌≡◌, ◌<◌, ◌≤◌, ◌↔◌, ◌++◌, Bool, List, [], ◌∷◌, get_or, length, take}
use Rattle.std.specs.List.{All, AllPairs}
use Rattle.std.proofs.Common.{arith, inl, inr, subst, sym, ◌∙◌}
use Rattle.std.proofs.lemmas.Int.{ints}
use Rattle.pm_vector.specs.Cones.{InCone, InSpan}
use Rattle.pm_vector.specs.Rows.{HasCols, Row, Same, difference, dot, opposite, plus, times}
use Rattle.pm_vector.proofs.ConeLaws.{dot_in, in_generator, in_line, in_line_opposite, in_of, in_to_after, lines_opposite}
use Rattle.pm_vector.proofs.Lists.{All_among, Among, all_from, all_at, among_All, here, there}
use Rattle.pm_vector.proofs.Ring.{ring}
use Rattle.pm_vector.proofs.RowLaws.{dot-plus, dot-same, dot-times, dot_comm, entry-difference, entry-plus, entry-times, length-difference, length-opposite}
use Rattle.pm_vector.proofs.Signs.{mul_cancel}
use Rattle.pm_vector.specs.Bases.{row_at}
use Rattle.pm_bits.specs.Sets.{IsSubset}
use Rattle.pm_dd.specs.Fronts.{HalfSpaces}
use Rattle.pm_dd.specs.Tables.{zero_set}
use Rattle.pm_dd.specs.Fronts.{both_signs}
use Rattle.pm_dd.proofs.Description.{used}
use Rattle.pm_dd.proofs.Fronts.{signs_cut_out}
use Rattle.pm_dd.proofs.StepLaws.{at_place, place_of}
use Rattle.pm_geom.specs.Cones.{CutOut, InLineality, IsFacetRow, IsValid, MultipleModulo, SameModulo}
use Rattle.pm_geom.proofs.Facets.{dot-opposite, opposite-dot}
use Rattle.pm_geom.proofs.Reduce.{extreme_as, same_modulo_as}
use Rattle.pm_geom.proofs.Polar.{cols_at, cut_at, cut_from, farkas, membership_decided}
use Rattle.pm_incidence.proofs.Described.{described, described_inside, half_cols, half_length}
use Rattle.pm_incidence.proofs.Polarity.{cut_valid, valid_cut}
use Rattle.pm_incidence.proofs.Thinning.{kept_apart, kept_extreme}
use Rattle.pm_incidence.proofs.Thinned.{thin_generators, thinned_length}
use Rattle.pm_dd.proofs.MixedLaws.{generators_as}
use Rattle.pm_geom.specs.Generators.{AreGenerators}
use Rattle.std.proofs.lemmas.List.{take_all}
use Rattle.pm_incidence.specs.Thinning.{Agree, AreManyFacetsBy, AreSortedThinned, AreThinPlaces, AreZeroSets, HasPointAmong, IsKeptSet, MarkFull, half_spaces}
use Rattle.pm_object_type.specs.declared.object_type.ObjectType.{ObjectType}
use Rattle.pm_types.specs.Right.{CutsOutOf}
use lib.IntN.{ℤ, pos}
use lib.Signed.{◌<ℤ◌}
use Rattle.pm_limits.specs.Limits.{most_rows}

-- ---- as many ascending places below a bound as it says are all places
low_place : (ks : List ℕ) → AllPairs (λ (i j : ℕ). i < j) ks → (i : ℕ) → i < length ks → i ≤ get_or ks i 0
low_place ks a zero l = omega arith
low_place ks a (suc i) l = let p = low_place ks a i (omega arith) in let q = a i (suc i) 0 (omega arith) l in omega arith

high_place : (m : ℕ) (ks : List ℕ) → AllPairs (λ (i j : ℕ). i < j) ks → All (λ (k : ℕ). k < m) ks → (d i : ℕ) → i < length ks → suc i + d ≡ length ks → get_or ks i 0 + suc d ≤ m
high_place m ks a h zero i l e = let q = h i 0 l in omega arith
high_place m ks a h (suc d) i l e =
    let p = high_place m ks a h d (suc i) (omega arith) (omega arith) in
    let q = a i (suc i) 0 (omega arith) (omega arith) in
    omega arith

pub all_places : (m : ℕ) (ks : List ℕ) → AllPairs (λ (i j : ℕ). i < j) ks → All (λ (k : ℕ). k < m) ks → m ≤ length ks → (i : ℕ) → i < m → (i < length ks) × (get_or ks i 0 ≡ i)
all_places m ks a h n i l =
    let li : i < length ks = omega arith in
    let p = low_place ks a i li in
    let q = high_place m ks a h (length ks - suc i) i li (omega arith) in
    (li, omega arith)

-- ---- rows G and L generate what half-spaces A and equations E cut out
module _ (n : ℕ) (A E : List Row) (hA : HasCols n A) (hE : HasCols n E) (G L : List Row) (hG : HasCols n G) (hL : HasCols n L) (same : (x : Row) → length x ≡ n → HalfSpaces E A x ↔ InCone G L x) where
  pub row_valid : (a : Row) → Among a A → IsValid n G L a
  row_valid a i = record { cols = cols_at i hA; holds = λ x lx h. cut_at x i ((same x lx).1 h).1 }

  pub equation_zero : (e : Row) → Among e E → (x : Row) → length x ≡ n → InCone G L x → dot e x ≡ pos 0
  equation_zero e i x lx h = all_at (λ (e : Row). dot e x ≡ pos 0) i ((same x lx).1 h).0

  -- a valid row is a sum of the half-spaces and equations (Farkas)
  pub valid_made : (a : Row) → IsValid n G L a → InCone A E a
  valid_made a h = elim (membership_decided n A E hA hE a h.cols) [
    | inl made ↦ made
    | inr out ↦
        let f = farkas n A E hA hE a h.cols out in
        let x = f.0 in
        let solves : HalfSpaces E A x = (
          all_from (λ (e : Row). dot e x ≡ pos 0) E (λ e i.
              let p = f.1.holds e (cols_at i hE) (in_line i) in
              let q = rw dot-opposite at (f.1.holds (opposite e) (length-opposite e ∙ cols_at i hE) (in_line_opposite i)) in
              dot_comm e x ∙ omega (arith, ints)),
          cut_from A x (λ b i. rw dot_comm (f.1.holds b (cols_at i hA) (in_generator i))),
        ) in
        let p = h.holds x f.1.cols ((same x f.1.cols).0 solves) in
        let q = f.2 in
        let r = dot_comm a x in
        absurd (omega (arith, ints))
  ]

  pub span_line : (w : Row) → length w ≡ n → InSpan E w → InLineality (IsValid n G L) w
  span_line w lw h = record { inside = valid w lw h; opposed = valid (opposite w) (length-opposite w ∙ lw) (lines_opposite E w h) }
    where
      valid : (w : Row) → length w ≡ n → InSpan E w → IsValid n G L w
      valid w lw h = record { cols = lw; holds = λ x lx i. rw dot_comm (dot_in x [] E (λ g j. elim j [ ]) (λ e j. dot_comm x e ∙ equation_zero e j x lx i) h) }

  -- so half-spaces and equations generate what the generators cut out
  pub halves_agree : Agree n A E G L
  halves_agree = record {
    equation_cols = hL;
    same = λ x lx. (
      λ h. valid_made x (cut_valid n G L hG hL x lx h),
      λ h. valid_cut n G L hG hL x lx (made_valid x lx h),
    );
  }
    where
      made_valid : (x : Row) → length x ≡ n → InCone A E x → IsValid n G L x
      made_valid x lx h = record { cols = lx; holds = λ y ly i. rw dot_comm (dot_in y A E (λ a j. rw dot_comm ((row_valid a j).holds y ly i)) (λ e j. dot_comm y e ∙ equation_zero e j y ly i) h) }

module _ (n : ℕ) (A E V : List Row) (hA : HasCols n A) (hE : HasCols n E) (hV : HasCols n V) (inside : (v : Row) → Among v V → HalfSpaces E A v) (Z : List (List Bool)) (marks : List Bool) (z : AreZeroSets V A Z) (m : MarkFull Z marks) (kept : (i : ℕ) → i < length A → IsKeptSet Z marks i) where
  not_negative : (a : Row) → Among a A → CutOut V a
  not_negative a i = cut_from V a (λ v j. rw dot_comm (cut_at v i (inside v j).1))

  equation_flat : (e : Row) → Among e E → (v : Row) → Among v V → dot v e ≡ pos 0
  equation_flat e i v j = dot_comm v e ∙ all_at (λ (e : Row). dot e v ≡ pos 0) i (inside v j).0

  as_below : {k : ℕ} → k < length A → k < length Z
  as_below {k} l = let e = z.as_many in omega arith

  subset : (i j : ℕ) → i < length A → j < length A → ((v : Row) → Among v V → dot v (row_at A i) ≡ pos 0 → dot v (row_at A j) ≡ pos 0) → IsSubset (zero_set Z i) (zero_set Z j)
  subset i j li lj f p t =
      let q = ((z.each i li).exact p).0 t in
      ((z.each j lj).exact p).1 (q.0, f (row_at V p) (at_place V p q.0) q.1)

  -- a row that vanishes wherever another does is that row
  only_one : (i j : ℕ) → i < length A → j < length A → ((v : Row) → Among v V → dot v (row_at A i) ≡ pos 0 → dot v (row_at A j) ≡ pos 0) → i ≡ j
  only_one i j li lj f =
      let s = subset i j li lj f in
      let p = (kept i li).greatest j (as_below lj) (kept j lj).unmarked s in
      let q = (kept j lj).greatest i (as_below li) (kept i li).unmarked p.1 in
      let a = p.0 in
      let b = q.0 in
      omega arith

  not_flat : (i : ℕ) → i < length A → ¬ ((v : Row) → Among v V → dot v (row_at A i) ≡ pos 0)
  not_flat i l f = (kept i l).unmarked (m.not_full i (as_below l) (λ p q.
      let many = (z.each i l).as_many in
      let within : p < length V = omega arith in
      ((z.each i l).exact p).1 (within, f (row_at V p) (at_place V p within))))

  -- ---- rows G and L that generate what they cut out
  module _ (G L : List Row) (hG : HasCols n G) (hL : HasCols n L) (same : (x : Row) → length x ≡ n → HalfSpaces E A x ↔ InCone G L x) where
    in_cone : (v : Row) → Among v V → InCone G L v
    in_cone v i = (same v (cols_at i hV)).0 (inside v i)

    valid_on : (a : Row) → IsValid n G L a → CutOut V a
    valid_on a h = cut_from V a (λ v i. rw dot_comm (h.holds v (cols_at i hV) (in_cone v i)))

    -- a valid row that vanishes on V wherever a half-space does is a multiple of it, modulo rows that vanish
    multiple : (i : ℕ) → i < length A → (u : Row) → IsValid n G L u → ((v : Row) → Among v V → dot v (row_at A i) ≡ pos 0 → dot v u ≡ pos 0) → MultipleModulo n (IsValid n G L) (row_at A i) u
    multiple i l u h over =
        let w = used V E (λ k j b y. equation_flat k j b y) A not_negative u (valid_made n A E hA hE G L hG hL same u h) in
        let alone : (g : Row) → Among g w.rows → Among g (row_at A i ∷ []) = λ g j.
        let p = place_of (w.some g j).0 in
        let e = only_one i p.0 l p.1 (λ v y t. subst (λ (a : Row). dot v a ≡ pos 0) (sym p.2) ((w.some g j).1 v y (over v y t))) in
        subst (λ (a : Row). Among a (row_at A i ∷ [])) (subst (λ (k : ℕ). row_at A k ≡ g) (sym e) p.2) here in
        let a = in_to_after [] E (row_at A i) u (in_of (row_at A i ∷ []) w.rows E alone w.made) in
        let la = cols_at (at_place A i l) hA in
        record {
          p = a.p;
          k = a.q;
          w = difference a.p u a.q (row_at A i);
          cols = length-difference n a.p u a.q (row_at A i) h.cols la;
          positive = a.positive;
          not_negative = a.not_negative;
          line = span_line n A E hA hE G L hG hL same (difference a.p u a.q (row_at A i)) (length-difference n a.p u a.q (row_at A i) h.cols la) a.rest;
          same = record { at = λ k. simp (entry-times, entry-plus, entry-difference) (omega (arith, ints)) };
        }

    pub facet_row : (i : ℕ) → i < length A → IsFacetRow n G L (row_at A i)
    facet_row i l = record {
      cols = cols_at (at_place A i l) hA;
      inside = row_valid n A E hA hE G L hG hL same (row_at A i) (at_place A i l);
      not_line = λ h. not_flat i l (λ v j.
          let p = h.holds v (cols_at j hV) (in_cone v j) in
          let q = (row_valid n A E hA hE G L hG hL same (row_at A i) (at_place A i l)).holds v (cols_at j hV) (in_cone v j) in
          let r = opposite-dot (row_at A i) v in
          dot_comm v (row_at A i) ∙ omega (arith, ints));
      summands = λ p u w hp lu lw hu hw s. (multiple i l u hu (λ v j t. (level p u w hp s hu hw v j t).0), multiple i l w hw (λ v j t. (level p u w hp s hu hw v j t).1));
    }
      where
        level : (p : ℤ) (u w : Row) → pos 0 <ℤ p → Same (times p (row_at A i)) (plus u w) → IsValid n G L u → IsValid n G L w → (v : Row) → Among v V → dot v (row_at A i) ≡ pos 0 → (dot v u ≡ pos 0) × (dot v w ≡ pos 0)
        level p u w hp s hu hw v j t =
            let e = simp (dot-times, dot-plus, t, ring) at (dot-same v (times p (row_at A i)) (plus u w) s.at) in
            let a = cut_at u j (valid_on u hu) in
            let b = cut_at w j (valid_on w hw) in
            (omega (arith, ints), omega (arith, ints))

    pub facets_apart : (i j : ℕ) → i < j → j < length A → ¬ (SameModulo n (IsValid n G L) (row_at A i) (row_at A j))
    facets_apart i j l lj s =
        let li : i < length A = omega arith in
        let e = only_one i j li lj (λ v y t. over v y t) in
        absurd (omega arith)
      where
        over : (v : Row) → Among v V → dot v (row_at A i) ≡ pos 0 → dot v (row_at A j) ≡ pos 0
        over v y t =
            let flat = line_flat v y in
            let q = simp (dot-times, dot-plus, t, flat, ring) at (dot-same v (times s.p (row_at A j)) (plus (times s.k (row_at A i)) s.w) s.same.at) in
            mul_cancel s.p_positive (q ∙ simp ring)
          where
            line_flat : (v : Row) → Among v V → dot v s.w ≡ pos 0
            line_flat v y =
                let p = s.line.inside.holds v (cols_at y hV) (in_cone v y) in
                let q = s.line.opposed.holds v (cols_at y hV) (in_cone v y) in
                let r = opposite-dot s.w v in
                dot_comm v s.w ∙ omega (arith, ints)

among_take : {X : Type 0} (k : ℕ) (xs : List X) {x : X} → Among x (take k xs) → Among x xs
among_take zero xs i = elim i [ ]
among_take (suc k) [] i = elim i [ ]
among_take (suc k) (y ∷ xs) here = here
among_take (suc k) (y ∷ xs) (there i) = there (among_take k xs i)

taken_few : {X : Type 0} (c : ℕ) (xs : List X) → length (take c xs) ≤ c
taken_few zero xs = omega arith
taken_few (suc c) [] = omega arith
taken_few (suc c) (x ∷ xs) = let h = taken_few c xs in omega arith

pub few_rows : (B G X : List Row) (P ks : List ℕ) {m : ℕ} (c : ℕ) → AreSortedThinned B P G (take c ks) X → c ≤ m → length X ≤ m
few_rows B G X P ks c s l = let e = thinned_length B P G (take c ks) X s in let f = taken_few c ks in omega arith

-- ---- more kept places than are answered
module _ (of : ObjectType) (n : ℕ) (some : 0 < n) (A E V B : List Row) (P ks : List ℕ) (hA : HasCols n A) (hE : HasCols n E) (hV : HasCols n V) (k : AreThinPlaces n (half_spaces of n A) E V B P ks) where
  pub places_within : All (λ (p : ℕ). p < length (half_spaces of n A)) ks
  places_within i d l = let q = k.kept.each i d l in let e = k.zeros.as_many in let w = q.0 in omega arith

  -- all half-spaces are kept, or V generates with K what is cut out
  module _ (point : HasPointAmong of V) (G L : List Row) (hG : HasCols n G) (hL : HasCols n L) (cut : CutsOutOf of n (InCone G L) A E) where
    halves : HasCols n (half_spaces of n A)
    halves = half_cols of n A hA

    same_inside : All (HalfSpaces E (half_spaces of n A)) V → (x : Row) → length x ≡ n → HalfSpaces E (half_spaces of n A) x ↔ InCone G L x
    same_inside all = described_inside n some G L A E hG hL of V hV (λ v i. among_All (HalfSpaces E (half_spaces of n A)) i all) point cut

    -- at most as many half-spaces as kept places
    module _ (all : All (HalfSpaces E (half_spaces of n A)) V) (few : length (half_spaces of n A) ≤ length ks) where
      every : (i : ℕ) → i < length (half_spaces of n A) → IsKeptSet k.sets k.marks i
      every i l =
          let w = all_places (length (half_spaces of n A)) ks k.kept.ascending places_within few i l in
          subst (λ (j : ℕ). IsKeptSet k.sets k.marks j) w.1 (k.kept.each i 0 w.0).1

      facet_of_all : (p : ℕ) → p < length (half_spaces of n A) → IsFacetRow n G L (row_at (half_spaces of n A) p)
      facet_of_all p l = facet_row n (half_spaces of n A) E V halves hE hV (λ v i. among_All (HalfSpaces E (half_spaces of n A)) i all) k.sets k.marks k.zeros k.marked every G L hG hL (same_inside all) p l

      apart_of_all : (i j : ℕ) → i < j → j < length (half_spaces of n A) → ¬ (SameModulo n (IsValid n G L) (row_at (half_spaces of n A) i) (row_at (half_spaces of n A) j))
      apart_of_all i j l lj = facets_apart n (half_spaces of n A) E V halves hE hV (λ v i. among_All (HalfSpaces E (half_spaces of n A)) i all) k.sets k.marks k.zeros k.marked every G L hG hL (same_inside all) i j l lj

    -- V generates
    module _ (K : List Row) (hK : HasCols n K) (by_rays : CutsOutOf of n (InCone V K) A E) where
      same : (x : Row) → length x ≡ n → HalfSpaces E (half_spaces of n A) x ↔ InCone V K x
      same = described n some V K A E hV hK of point by_rays

      inside : All (HalfSpaces E (half_spaces of n A)) V
      inside = All_among (HalfSpaces E (half_spaces of n A)) V (λ v i. (same v (cols_at i hV)).1 (in_generator i))

      agree : Agree n (half_spaces of n A) E V K
      agree = halves_agree n (half_spaces of n A) E halves hE V K hV hK same

      abbrev Cut : Row → Type 0
      Cut = CutOut (both_signs K ++ V)

      valid_of_cut : (x : Row) → length x ≡ n → Cut x → IsValid n G L x
      valid_of_cut x lx h =
          let v = cut_valid n V K hV hK x lx ((signs_cut_out K V x).0 h) in
          record { cols = lx; holds = λ y ly i. v.holds y ly ((same y ly).0 ((same_inside inside y ly).1 i)) }

      cut_of_valid : (x : Row) → length x ≡ n → IsValid n G L x → Cut x
      cut_of_valid x lx h = (signs_cut_out K V x).1 (valid_cut n V K hV hK x lx (record { cols = lx; holds = λ y ly i. h.holds y ly ((same_inside inside y ly).0 ((same y ly).1 i)) }))

      facet_by : (p : ℕ) → p < length (half_spaces of n A) → IsKeptSet k.sets k.marks p → IsFacetRow n G L (row_at (half_spaces of n A) p)
      facet_by p l t = extreme_as n Cut (IsValid n G L) valid_of_cut cut_of_valid (kept_extreme n (half_spaces of n A) E V K halves hE hV agree k.sets k.marks k.zeros k.marked p l t)

      apart_by : (i j : ℕ) → i < j → j < length (half_spaces of n A) → IsKeptSet k.sets k.marks i → IsKeptSet k.sets k.marks j → ¬ (SameModulo n (IsValid n G L) (row_at (half_spaces of n A) i) (row_at (half_spaces of n A) j))
      apart_by i j l lj ki kj s = kept_apart n (half_spaces of n A) E V K halves hE hV agree k.sets k.marks k.zeros k.marked i j l lj ki kj (same_modulo_as n (IsValid n G L) Cut cut_of_valid valid_of_cut s)

  pub many_facets : HasPointAmong of V → All (HalfSpaces E (half_spaces of n A)) V → most_rows < length ks → AreManyFacetsBy of n A E V ks
  many_facets point all many = record {
    count = many;
    among_few = λ few.
        let f = half_length of n A in
        let fewer : length (half_spaces of n A) ≤ length ks = omega arith in
        record {
          within = places_within;
          facets = λ G L hG hL cut. All_among (λ (p : ℕ). IsFacetRow n G L (row_at (half_spaces of n A) p)) ks (λ p i. facet_of_all point G L hG hL cut all fewer p (among_All (λ (q : ℕ). q < length (half_spaces of n A)) i places_within));
          once = λ G L hG hL cut i j d l m. apart_of_all point G L hG hL cut all fewer (get_or ks i d) (get_or ks j d) (k.kept.ascending i j d l m) (places_within j d m);
        };
    generated = λ K hK by_rays. record {
      within = places_within;
      facets = λ G L hG hL cut i d l. facet_by point G L hG hL cut K hK by_rays (get_or ks i d) (places_within i d l) (k.kept.each i d l).1;
      once = λ G L hG hL cut i j d l m.
          let li : i < length ks = omega arith in
          apart_by point G L hG hL cut K hK by_rays (get_or ks i d) (get_or ks j d) (k.kept.ascending i j d l m) (places_within j d m) (k.kept.each i d li).1 (k.kept.each j d m).1;
    };
  }

  -- the taken places are within, and few
  pub taken_within : (c : ℕ) → c ≤ length ks → All (λ (p : ℕ). p < length (half_spaces of n A)) (take c ks)
  taken_within c l = All_among (λ (p : ℕ). p < length (half_spaces of n A)) (take c ks) (λ p i. among_All (λ (p : ℕ). p < length (half_spaces of n A)) (among_take c ks i) places_within)

  -- what is answered where rays V and lines K generate the thing
  pub facets_answered : (K : List Row) → HasCols n K → HasPointAmong of V → CutsOutOf of n (InCone V K) A E → (c : ℕ) → (All (HalfSpaces E (half_spaces of n A)) V → c ≡ length ks) → (X : List Row) → AreSortedThinned B P (half_spaces of n A) (take c ks) X → AreGenerators n (IsValid n V K) X B
  facets_answered K hK point cut c all X s =
      let same = described n some V K A E hV hK of point cut in
      let halves : HasCols n (half_spaces of n A) = half_cols of n A hA in
      let agree = halves_agree n (half_spaces of n A) E halves hE V K hV hK same in
      let count = all (All_among (HalfSpaces E (half_spaces of n A)) V (λ v i. (same v (cols_at i hV)).1 (in_generator i))) in
      let whole : take c ks ≡ ks = take_all c ks (omega arith) in
      let t = rw whole at s in
      generators_as n (HalfSpaces K V) (IsValid n V K) (cut_valid n V K hV hK) (valid_cut n V K hV hK)
      (thin_generators n (half_spaces of n A) E V K halves hE hV agree B P k.basis k.sets k.marks k.zeros k.marked ks k.kept t.rows t.thinned X t.permutation t.sorted)
