-- The rows that are kept of generators are the extreme ones, each once.
use Rattle.std.specs.Prelude.{ℕ, zero, suc, ◌≡◌, ◌<◌, ◌≤◌, ◌⊎◌, ◌↔◌, Bool, true, false, IsTrue, List, [], ◌∷◌, ◌++◌, get_or, length}
use Rattle.std.specs.List.{Contains}
use Rattle.std.proofs.Common.{arith, ◌∙◌, inl, inr, refl, subst, sym}
use Rattle.std.proofs.lemmas.Int.{ints}
use Rattle.pm_vector.specs.Cones.{InCone}
use Rattle.pm_vector.specs.Rows.{HasCols, Row, dot, opposite}
use Rattle.pm_vector.proofs.ConeLaws.{in_generator, in_line, in_line_opposite}
use Rattle.pm_vector.proofs.Lists.{Among, Contains_among, all_append, among_Contains, among_append, among_append_right, here, there}
use Rattle.pm_vector.proofs.RowLaws.{length-opposite}
use Rattle.pm_vector.specs.Bases.{row_at}
use Rattle.pm_bits.specs.Sets.{IsSubset, has}
use Rattle.pm_vector.specs.NullSpaces.{IsNull}
use Rattle.pm_geom.specs.Cones.{CutOut, InLineality, IsExtreme, SameModulo}
use Rattle.pm_geom.proofs.Facets.{dot-opposite, opposite-dot}
use Rattle.pm_geom.proofs.Polar.{cols_at, cut_from}
use Rattle.pm_dd.specs.Description.{IsMaximal}
use Rattle.pm_dd.specs.Fronts.{both_signs}
use Rattle.pm_dd.specs.Tables.{zero_set}
use Rattle.pm_dd.proofs.AlikeLaws.{alike_sym, alike_trans, rests_alike}
use Rattle.pm_dd.proofs.Description.{cut_cone_set, over_rests}
use Rattle.pm_dd.proofs.Fronts.{signs_cols, signs_cut_out}
use Rattle.pm_dd.proofs.StepLaws.{at_place, flat_on, place_of}
use Rattle.pm_dd.proofs.Thin.{extreme_alike, extreme_is_maximal, like_row, over_alike}
use Rattle.pm_incidence.specs.Thinning.{Agree, AreZeroSets, IsFull, IsKeptSet, MarkFull}
use native.Mathlib.Decide.{ℕ_discrete}
use lib.IntN.{pos}

-- ---- what is decided below a bound
some_below : (P : ℕ → Type 0) → ((i : ℕ) → P i ⊎ ¬ (P i)) → (n : ℕ) → ((i : ℕ) × (i < n) × P i) ⊎ ((i : ℕ) → i < n → ¬ (P i))
some_below P d zero = inr (λ i l. absurd (omega arith))
some_below P d (suc n) = elim (d n) [
  | inl h ↦ inl (n, omega arith, h)
  | inr never ↦ elim (some_below P d n) [
    | inl w ↦ inl (w.0, (let q = w.1 in omega arith), w.2)
    | inr none ↦ inr (λ i l. elim (ℕ_discrete i n) [
      | yes e ↦ subst (λ (k : ℕ). ¬ (P k)) (sym e) never
      | no ne ↦ none i (omega arith)
    ])
  ]
]

true_or_not : (b : Bool) → IsTrue b ⊎ ¬ (IsTrue b)
true_or_not true = inl refl
true_or_not false = inr (λ h. let e : false ≡ true = h in cc)

has_below : (z : List Bool) (i : ℕ) → IsTrue (has z i) → i < length z
has_below [] i h = absurd (let e : false ≡ true = h in cc)
has_below (b ∷ z) zero h = omega arith
has_below (b ∷ z) (suc i) h = let q = has_below z i h in omega arith

both_decided : {P Q : Type 0} → P ⊎ ¬ P → Q ⊎ ¬ Q → (P × Q) ⊎ ¬ (P × Q)
both_decided (inl p) (inl q) = inl (p, q)
both_decided (inl p) (inr q) = inr (λ h. q h.1)
both_decided (inr p) d = inr (λ h. p h.0)

not_decided : {P : Type 0} → P ⊎ ¬ P → ¬ P ⊎ ¬ (¬ P)
not_decided (inl p) = inr (λ h. h p)
not_decided (inr p) = inl p

subset_decided : (z w : List Bool) → IsSubset z w ⊎ ¬ (IsSubset z w)
subset_decided z w = elim (some_below (λ i. IsTrue (has z i) × ¬ (IsTrue (has w i))) (λ i. both_decided (true_or_not (has z i)) (not_decided (true_or_not (has w i)))) (length z)) [
  | inl h ↦ inr (λ s. h.2.1 (s h.0 h.2.0))
  | inr none ↦ inl (λ i t. elim (true_or_not (has w i)) [ inl y ↦ y | inr never ↦ absurd (none i (has_below z i t) (t, never)) ])
]

signs_zero : (E : List Row) (x : Row) → IsNull E x → {b : Row} → Among b (both_signs E) → dot b x ≡ pos 0
signs_zero [] x h i = elim i [ ]
signs_zero (l ∷ E) x h here = h.0
signs_zero (l ∷ E) x h (there here) = let r = opposite-dot l x in let q = h.0 in omega (arith, ints)
signs_zero (l ∷ E) x h (there (there i)) = signs_zero E x h.1 i

pub full_from_subset : (full z : List Bool) → ((i : ℕ) → i < length z → IsTrue (has full i)) → IsSubset full z → IsFull z
full_from_subset full z f s p l = s p (f p l)

pub subset_from_full : (full z : List Bool) → length full ≡ length z → IsFull z → IsSubset full z
subset_from_full full z e f p t = f p (let q = has_below full p t in omega arith)

-- ---- rows G with lines L generate what the equations E and the inequalities A cut out
module _ (n : ℕ) (G L A E : List Row) (hG : HasCols n G) (hL : HasCols n L) (hA : HasCols n A) (agree : Agree n G L A E) where
  abbrev pub cuts : List Row
  cuts = both_signs E ++ A

  pub cuts_cols : HasCols n cuts
  cuts_cols = all_append (λ (x : Row). length x ≡ n) (both_signs E) A (signs_cols n E agree.equation_cols) hA

  pub gen : (x : Row) → length x ≡ n → CutOut cuts x ↔ InCone G L x
  gen x l = let s = signs_cut_out E A x in let t = agree.same x l in (λ h. t.0 (s.0 h), λ h. s.1 (t.1 h))

  pub line_in : (k : Row) → Contains L k → InLineality (CutOut cuts) k
  line_in k c =
      let i = among_Contains L c in
      let l = cols_at i hL in
      record { inside = (gen k l).1 (in_line i); opposed = (gen (opposite k) (length-opposite k ∙ l)).1 (in_line_opposite i) }

  pub in_cuts : {g : Row} → Among g G → CutOut cuts g
  in_cuts {g} i = (gen g (cols_at i hG)).1 (in_generator i)

  pub on_equations : {g : Row} → Among g G → {b : Row} → Among b (both_signs E) → dot b g ≡ pos 0
  on_equations {g} i j = signs_zero E g ((signs_cut_out E A g).0 (in_cuts i)).0 j

  -- ---- and their zero sets
  module _ (Z : List (List Bool)) (marks : List Bool) (z : AreZeroSets A G Z) (m : MarkFull Z marks) where
    as_below : {k : ℕ} → k < length G → k < length Z
    as_below {k} l = let e = z.as_many in omega arith

    bit_to : (k p : ℕ) → k < length G → p < length A → dot (row_at A p) (row_at G k) ≡ pos 0 → IsTrue (has (zero_set Z k) p)
    bit_to k p l q e = ((z.each k l).exact p).1 (q, e)

    bit_of : (k p : ℕ) → k < length G → IsTrue (has (zero_set Z k) p) → (p < length A) × (dot (row_at A p) (row_at G k) ≡ pos 0)
    bit_of k p l t = ((z.each k l).exact p).0 t

    over : (i j : ℕ) → i < length G → j < length G → IsSubset (zero_set Z i) (zero_set Z j) → (b : Row) → Among b cuts → dot b (row_at G i) ≡ pos 0 → dot b (row_at G j) ≡ pos 0
    over i j li lj s b k e = elim (among_append (both_signs E) A k) [
      | inl h ↦ on_equations (at_place G j lj) h
      | inr h ↦ let w = place_of h in
          subst (λ (b : Row). dot b (row_at G j) ≡ pos 0) w.2 (bit_of j w.0 lj (s w.0 (bit_to i w.0 li w.1 (subst (λ (b : Row). dot b (row_at G i) ≡ pos 0) (sym w.2) e)))).1
    ]

    subset : (i j : ℕ) → i < length G → j < length G → ((b : Row) → Among b cuts → dot b (row_at G i) ≡ pos 0 → dot b (row_at G j) ≡ pos 0) → IsSubset (zero_set Z i) (zero_set Z j)
    subset i j li lj f p t = let q = bit_of i p li t in bit_to j p lj q.0 (f (row_at A p) (among_append_right (both_signs E) (at_place A p q.0)) q.1)

    pub flat_of_full : (k : ℕ) → k < length G → IsFull (zero_set Z k) → CutOut cuts (opposite (row_at G k))
    flat_of_full k l f = cut_from cuts (opposite (row_at G k)) (λ b i. let e = level b i in let r = dot-opposite b (row_at G k) in omega (arith, ints))
      where
        level : (b : Row) → Among b cuts → dot b (row_at G k) ≡ pos 0
        level b i = elim (among_append (both_signs E) A i) [
          | inl h ↦ on_equations (at_place G k l) h
          | inr h ↦ let w = place_of h in
              let many = (z.each k l).as_many in
              let inside = w.1 in
              subst (λ (b : Row). dot b (row_at G k) ≡ pos 0) w.2 (bit_of k w.0 l (f w.0 (omega arith))).1
        ]

    pub full_of_flat : (k : ℕ) → k < length G → CutOut cuts (opposite (row_at G k)) → IsFull (zero_set Z k)
    full_of_flat k l h p q =
        let many = (z.each k l).as_many in
        let within : p < length A = omega arith in
        bit_to k p l within (flat_on cuts (row_at G k) (record { inside = in_cuts (at_place G k l); opposed = h }) (row_at A p) (among_append_right (both_signs E) (at_place A p within)))

    pub unmarked_out : (k : ℕ) → k < length G → ¬ (IsTrue (get_or marks k false)) → ¬ (CutOut cuts (opposite (row_at G k)))
    unmarked_out k l u h = u (m.not_full k (as_below l) (full_of_flat k l h))

    out_unmarked : (k : ℕ) → k < length G → ¬ (CutOut cuts (opposite (row_at G k))) → ¬ (IsTrue (get_or marks k false))
    out_unmarked k l out t = out (flat_of_full k l (m.full k (as_below l) t))

    -- ---- a kept row is extreme
    Least : Row → Row → Type 0
    Least v u = ¬ (CutOut cuts (opposite u)) → ((b : Row) → Contains cuts b → dot b v ≡ pos 0 → dot b u ≡ pos 0) → (b : Row) → Contains cuts b → dot b u ≡ pos 0 → dot b v ≡ pos 0

    least_at : (i j : ℕ) → i < length G → j < length G → IsKeptSet Z marks i → Least (row_at G i) (row_at G j)
    unfolding Least
    least_at i j li lj k nu o b d e =
        over j i lj li (k.greatest j (as_below lj) (out_unmarked j lj nu) (subset i j li lj (λ c y f. o c (Contains_among y) f))).1 b (among_Contains cuts d) e

    kept_maximal : (i : ℕ) → i < length G → IsKeptSet Z marks i → IsMaximal cuts G (row_at G i)
    unfolding Least
    kept_maximal i li k = record {
      least = λ u c. let w = place_of (among_Contains G c) in subst (Least (row_at G i)) w.2 (least_at i w.0 li w.1 k);
    }

    pub kept_extreme : (i : ℕ) → i < length G → IsKeptSet Z marks i → IsExtreme n (CutOut cuts) (row_at G i)
    kept_extreme i li k = (extreme_is_maximal n cuts G L cuts_cols hG hL gen line_in (row_at G i) (Contains_among (at_place G i li)) (unmarked_out i li k.unmarked)).1 (kept_maximal i li k)

    -- ---- each extreme row is like a kept one
    Greatest : ℕ → Type 0
    Greatest j = (k : ℕ) → k < length G → ¬ (IsTrue (get_or marks k false)) → IsSubset (zero_set Z j) (zero_set Z k) → IsSubset (zero_set Z k) (zero_set Z j)

    record Found (j : ℕ) : Type 0 where
      i : ℕ
      within : i < length G
      kept : IsKeptSet Z marks i
      to : IsSubset (zero_set Z j) (zero_set Z i)

    Earlier : ℕ → ℕ → Type 0
    Earlier j i = ¬ (IsTrue (get_or marks i false)) × IsSubset (zero_set Z j) (zero_set Z i)

    earlier_decided : (j i : ℕ) → Earlier j i ⊎ ¬ (Earlier j i)
    unfolding Earlier
    earlier_decided j i = both_decided (not_decided (true_or_not (get_or marks i false))) (subset_decided (zero_set Z j) (zero_set Z i))

    is_kept : (j : ℕ) → j < length G → ¬ (IsTrue (get_or marks j false)) → Greatest j → ((i : ℕ) → i < j → ¬ (Earlier j i)) → IsKeptSet Z marks j
    unfolding Greatest Earlier
    is_kept j lj u gr none = record {
      unmarked = u;
      greatest = λ k lk uk s. (later k uk s, gr k (let e = z.as_many in omega arith) uk s);
    }
      where
        later : (k : ℕ) → ¬ (IsTrue (get_or marks k false)) → IsSubset (zero_set Z j) (zero_set Z k) → j ≤ k
        later k uk s = let never : ¬ (k < j) = λ l. none k l (uk, s) in omega arith

    through : (j i : ℕ) → Earlier j i → Found i → Found j
    unfolding Earlier
    through j i e f = record { i = f.i; within = f.within; kept = f.kept; to = λ p t. f.to p (e.1 p t) }

    found : (d j : ℕ) → j ≤ d → j < length G → ¬ (IsTrue (get_or marks j false)) → Greatest j → Found j
    unfolding Greatest Earlier
    found zero j le lj u gr = record { i = j; within = lj; kept = is_kept j lj u gr (λ i l. absurd (omega arith)); to = λ p t. t }
    found (suc d) j le lj u gr = elim (some_below (Earlier j) (earlier_decided j) j) [
      | inl w ↦ let l = w.1 in through j w.0 w.2 (found d w.0 (omega arith) (omega arith) w.2.0 (λ k lk uk s p t. w.2.1 p (gr k lk uk (λ q v. s q (w.2.1 q v)) p t)))
      | inr none ↦ record { i = j; within = lj; kept = is_kept j lj u gr none; to = λ p t. t }
    ]

    pub record LikeKept (r : Row) : Type 0 where
      pub i : ℕ
      pub within : i < length G
      pub kept : IsKeptSet Z marks i
      pub alike : SameModulo n (CutOut cuts) r (row_at G i)

    pub like_kept : (r : Row) → IsExtreme n (CutOut cuts) r → LikeKept r
    unfolding Greatest
    like_kept r e =
        let w = like_row n cuts G L cuts_cols hG hL gen line_in r e in
        let p = place_of w.1 in
        let nu = subst (λ (u : Row). ¬ (CutOut cuts (opposite u))) (sym p.2) w.2 in
        let s = subst (λ (u : Row). SameModulo n (CutOut cuts) r u) (sym p.2) w.3 in
        at p.0 p.1 nu s
      where
        at : (j : ℕ) → j < length G → ¬ (CutOut cuts (opposite (row_at G j))) → SameModulo n (CutOut cuts) r (row_at G j) → LikeKept r
        at j lj nu s =
            let cs = cut_cone_set cuts in
            let here' = at_place G j lj in
            let ex = extreme_alike n cuts (cols_at here' hG) (in_cuts here') nu e s in
            let m = (extreme_is_maximal n cuts G L cuts_cols hG hL gen line_in (row_at G j) (Contains_among here') nu).0 ex in
            let f = found (length G) j (omega arith) lj (out_unmarked j lj nu) (λ k lk uk t. subset k j lk lj (λ b i y. m.least (row_at G k) (Contains_among (at_place G k lk)) (unmarked_out k lk uk) (λ c d x. over j k lj lk t c (among_Contains cuts d) x) b (Contains_among i) y)) in
            let there' = at_place G f.i f.within in
            let rest = over_rests n cuts (row_at G j) (row_at G f.i) ex (cols_at there' hG) (in_cuts there') (over j f.i lj f.within f.to) in
            record {
              i = f.i;
              within = f.within;
              kept = f.kept;
              alike = alike_trans n (CutOut cuts) cs s (rests_alike n (CutOut cuts) cs rest (unmarked_out f.i f.within f.kept.unmarked));
            }

    -- ---- and no two kept rows are alike
    pub kept_apart : (i j : ℕ) → i < j → j < length G → IsKeptSet Z marks i → IsKeptSet Z marks j → ¬ (SameModulo n (CutOut cuts) (row_at G i) (row_at G j))
    kept_apart i j l lj ki kj s =
        let li : i < length G = omega arith in
        let first = (kj.greatest i (as_below li) ki.unmarked (subset j i lj li (over_alike n cuts (alike_sym n (CutOut cuts) (cut_cone_set cuts) s)))).0 in
        absurd (omega arith)
