-- One step of the simplex method keeps the state, and raises the objective.
use Rattle.pm_vector.proofs.Ring.{ring}
use Rattle.pm_vector.proofs.Signs.{mul_pos, pos_cancel}
use Rattle.pm_vector.specs.Numbers.{InRangeRatio, Ratio}
use Rattle.pm_vector.specs.Rows.{Row, entry, ratio_at}
use Rattle.pm_vector.specs.Bases.{column, row_at}
use Rattle.pm_programs.proofs.Dictionaries.{PivotedAs, pivoted_as}
use Rattle.pm_simplex.proofs.KeyColumns.{StandsFor, upward_at, vector_stands}
use Rattle.pm_simplex.proofs.Least.{direction_sign, hinders_sign}
use Rattle.pm_programs.proofs.Lex.{rank, rank_below, rank_rises, top}
use Rattle.pm_programs.proofs.Pivots.{pivot_keeps_feasible, pivot_raises}
use Rattle.pm_simplex.proofs.RowOrder.{count_keys, key_below, signed_is}
use Rattle.pm_programs.proofs.Tableaux.{column_other, column_set}
use Rattle.pm_simplex.specs.Comparisons.{IsApart, IsCovered, IsLeastOf, direction, rows_of}
use Rattle.pm_programs.specs.Dictionaries.{AllFit, IsDictionaryOf, at, row_of}
use Rattle.pm_programs.specs.Lex.{IsBounded, IsLexBelow, key}
use Rattle.pm_programs.specs.Pivots.{IsLexFeasible, IsRatioTest, Writes}
use Rattle.pm_simplex.specs.Running.{IsEntering, IsFreeColumn, IsPivotOf, IsSlackColumn, IsState, objective_vector}
use Rattle.pm_simplex.specs.States.{auxiliary, columns_of, is_signed, key_columns, key_found, key_sign, key_vector, objective_column}
use Rattle.pm_programs.specs.Tableaux.{pivot_rows}
use Rattle.pm_simplex.specs.declared.dictionary.Dictionary.{Dictionary}
use Rattle.pm_simplex.specs.declared.entering.Entering.{Entering}
use Rattle.pm_simplex.specs.declared.layout.Layout.{Layout}
use Rattle.std.proofs.Common.{ap, arith, inl, inr, refl, subst, sym, ◌∙◌}
use Rattle.std.proofs.lemmas.Int.{ints}
use Rattle.std.proofs.lemmas.List.{get_or-map, length-map, length-set}
use Rattle.std.specs.List.{AllByRecursion}
use Rattle.std.specs.Prelude.{Bool, IsTrue, List, [], false, length, map, nat_eq, slice_set, suc, true, zero, ℕ, ◌-◌, ◌<◌, ◌∷◌, ◌≡◌, ◌^◌, ◌⊎◌}
use lib.IntN.{neg_ℤ, pos, ℤ, ◌*ℤ◌}
use lib.Signed.{◌<ℤ◌}
use native.Mathlib.Decide.{ℕ_discrete}

-- ---- columns
pub not_signed_objective : (y : Layout) (c : ℕ) → auxiliary y < c → ¬ (IsTrue (is_signed y c))
not_signed_objective y c l h = elim (signed_is y c h) [ inl w ↦ (let a = w.1 in omega arith) | inr e ↦ omega arith ]

pub signed_inside : (y : Layout) (c : ℕ) → IsTrue (is_signed y c) → c < objective_column y
signed_inside y c h = elim (signed_is y c h) [ inl w ↦ (let a = w.1 in omega arith) | inr e ↦ omega arith ]

not_key_objective : (y : Layout) (k c : ℕ) → k < length (key_columns y) → auxiliary y < c → ¬ (column (key_columns y) k ≡ c)
not_key_objective y zero c l o e = omega arith
not_key_objective y (suc k) c l o e = let n = count_keys y in let f = upward_at y.cols y.slacks k (omega arith) in omega arith

signed_up : (y : Layout) (c : ℕ) (up : Bool) → (IsFreeColumn y c ⊎ (IsSlackColumn y c × (up ≡ true))) → IsTrue (is_signed y c) → direction up ≡ pos 1
signed_up y c up (inl f) h = absurd (elim (signed_is y c h) [ inl w ↦ (let a = w.0 in let b = f.1 in omega arith) | inr e ↦ (let b = f.1 in omega arith) ])
signed_up y c up (inr s) h = ap direction s.1

pub later_column : (y : Layout) (c : ℕ) (up : Bool) → (IsFreeColumn y c ⊎ (IsSlackColumn y c × (up ≡ true))) → 0 < c
later_column y c up (inl f) = f.0
later_column y c up (inr s) = let a = s.0.0 in let b = y.some in omega arith

-- ---- signs of entries
fall_sign : (s n m R d : ℤ) → pos 0 <ℤ m → n *ℤ d ≡ neg_ℤ R *ℤ m → pos 0 <ℤ d → pos 0 <ℤ (s *ℤ R) → (s *ℤ n) <ℤ pos 0
fall_sign s n m R d hm e hd h =
    let q = mul_pos hm h in
    let f = simp ring at (ap (λ z. s *ℤ z) e) in
    let p : pos 0 <ℤ neg_ℤ (s *ℤ n) = pos_cancel hd (let q' = simp ring at q in simp ring (omega (arith, ints))) in
    omega (arith, ints)

rise_sign : (s n m R d : ℤ) → pos 0 <ℤ m → n *ℤ d ≡ neg_ℤ R *ℤ m → pos 0 <ℤ d → pos 0 <ℤ (s *ℤ n) → (s *ℤ R) <ℤ pos 0
rise_sign s n m R d hm e hd h =
    let q = mul_pos hd h in
    let f = simp ring at (ap (λ z. s *ℤ z) e) in
    let p : pos 0 <ℤ neg_ℤ (s *ℤ R) = pos_cancel hm (let q' = simp ring at q in simp ring (omega (arith, ints))) in
    omega (arith, ints)

-- ---- each column is that of a basic or of another variable
pub covered : (P N : List ℕ) (l j c : ℕ) → l < length P → j < length N → IsCovered P N c → IsCovered (slice_set P l (column N j)) (slice_set N j (column P l)) c
covered P N l j c hl hj (inl (i, li, e)) = elim (ℕ_discrete i l) [
  | yes q ↦ inr (j, rw length-set hj, column_set N j (column P l) hj ∙ ap (column P) (sym q) ∙ e)
  | no nq ↦ inl (i, rw length-set li, column_other P l (column N j) i nq ∙ e)
]
covered P N l j c hl hj (inr (k, lk, e)) = elim (ℕ_discrete k j) [
  | yes q ↦ inl (l, rw length-set hl, column_set P l (column N j) hl ∙ ap (column N) (sym q) ∙ e)
  | no nq ↦ inr (k, rw length-set lk, column_other N j (column P l) k nq ∙ e)
]

-- basic variables are different
pub different_basic : (S : List Row) (P N : List ℕ) (D : List (List Ratio)) (t : IsDictionaryOf S P N D) (i j : ℕ) → i < length P → j < length P → ¬ (i ≡ j) → ¬ (column P i ≡ column P j)
different_basic S P N D t i j li lj n e =
    let wi : i < length t.whole = (let a = t.tableau.tableau.as_many in omega arith) in
    let wj : j < length t.whole = (let a = t.tableau.tableau.as_many in omega arith) in
    let a = t.tableau.tableau.positive i wi in
    let b = subst (λ c. entry (row_at t.whole i) c ≡ pos 0) (sym e) (t.tableau.tableau.solved i j wi wj n) in
    omega (arith, ints)

pub apart_next : (m : ℕ) (P N : List ℕ) (l j : ℕ) → l < length P → j < length N → IsApart m P N → ((i k : ℕ) → i < length P → k < length P → ¬ (i ≡ k) → ¬ (column P i ≡ column P k)) → IsApart m (slice_set P l (column N j)) (slice_set N j (column P l))
apart_next m P N l j hl hj h f = record {
  basic_inside = λ i li'.
      let li : i < length P = rw length-set at li' in
      elim (ℕ_discrete i l) [ yes q ↦ rw q (rw (column_set P l (column N j) hl) (h.other_inside j hj)) | no n ↦ rw (column_other P l (column N j) i n) (h.basic_inside i li) ];
  other_inside = λ k lk'.
      let lk : k < length N = rw length-set at lk' in
      elim (ℕ_discrete k j) [ yes q ↦ rw q (rw (column_set N j (column P l) hj) (h.basic_inside l hl)) | no n ↦ rw (column_other N j (column P l) k n) (h.other_inside k lk) ];
  apart = λ i k li' lk'. apart_at i k (rw length-set at li') (rw length-set at lk');
  different = λ k n lk' ln' ne. different_at k n (rw length-set at lk') (rw length-set at ln') ne;
}
  where
    apart_at : (i k : ℕ) → i < length P → k < length N → ¬ (column (slice_set P l (column N j)) i ≡ column (slice_set N j (column P l)) k)
    apart_at i k li lk = elim (ℕ_discrete i l) [
      | yes qi ↦ elim (ℕ_discrete k j) [
        | yes qk ↦ (λ e. h.apart l j hl hj (sym (sym (column_set P l (column N j) hl) ∙ ap (column (slice_set P l (column N j))) (sym qi) ∙ e ∙ ap (column (slice_set N j (column P l))) qk ∙ column_set N j (column P l) hj)))
        | no nk ↦ (λ e. h.different j k hj lk (λ u. nk (sym u)) (sym (column_set P l (column N j) hl) ∙ ap (column (slice_set P l (column N j))) (sym qi) ∙ e ∙ column_other N j (column P l) k nk))
      ]
      | no ni ↦ elim (ℕ_discrete k j) [
        | yes qk ↦ (λ e. f i l li hl ni (sym (column_other P l (column N j) i ni) ∙ e ∙ ap (column (slice_set N j (column P l))) qk ∙ column_set N j (column P l) hj))
        | no nk ↦ (λ e. h.apart i k li lk (sym (column_other P l (column N j) i ni) ∙ e ∙ column_other N j (column P l) k nk))
      ]
    ]

    different_at : (k n : ℕ) → k < length N → n < length N → ¬ (k ≡ n) → ¬ (column (slice_set N j (column P l)) k ≡ column (slice_set N j (column P l)) n)
    different_at k n lk ln ne = elim (ℕ_discrete k j) [
      | yes qk ↦ (λ e. h.apart l n hl ln (sym (column_set N j (column P l) hj) ∙ ap (column (slice_set N j (column P l))) (sym qk) ∙ e ∙ column_other N j (column P l) n (λ u. ne (qk ∙ sym u))))
      | no nk ↦ elim (ℕ_discrete n j) [
        | yes qn ↦ (λ e. h.apart l k hl lk (sym (sym (column_other N j (column P l) k nk) ∙ e ∙ ap (column (slice_set N j (column P l))) qn ∙ column_set N j (column P l) hj)))
        | no nn ↦ (λ e. h.different k n lk ln ne (sym (column_other N j (column P l) k nk) ∙ e ∙ column_other N j (column P l) n nn))
      ]
    ]

-- ---- what the objective says of the key columns
writes : (y : Layout) (S : List Row) (P N : List ℕ) (D : List (List Ratio)) (t : IsDictionaryOf S P N D) (z : ℕ) → z < length P → length (row_of D z) ≡ length N → ((c : ℕ) → c < columns_of y → IsCovered P N c)
    → auxiliary y < column P z → Writes (key_columns y) (row_at t.whole z) (entry (row_at t.whole z) (column P z)) (key_vector y N (row_of D z))
writes y S P N D t z lz shape cover oz = record {
  as_many = length-map (key_columns y) (λ c. key_found c N (row_of D z));
  positive = λ i li. subst (λ (r : Ratio). pos 0 <ℤ r.den) (sym (is i li)) (stands i li).positive;
  value = λ i li. subst (λ (r : Ratio). r.num *ℤ entry (row_at t.whole z) (column P z) ≡ key (row_at t.whole z) (column (key_columns y) i) *ℤ r.den) (sym (is i li)) (stands i li).value;
}
  where
    is : (i : ℕ) → i < length (key_columns y) → ratio_at (key_vector y N (row_of D z)) i ≡ key_found (column (key_columns y) i) N (row_of D z)
    is i li = get_or-map (λ c. key_found c N (row_of D z)) (key_columns y) i 0 _ li

    stands : (i : ℕ) → i < length (key_columns y) → StandsFor (key_found (column (key_columns y) i) N (row_of D z)) (key (row_at t.whole z) (column (key_columns y) i)) (entry (row_at t.whole z) (column P z))
    stands i li =
        let n = count_keys y in
        vector_stands S P N D t z (column (key_columns y) i) lz shape (cover (column (key_columns y) i) (key_below y i (omega arith))) (not_key_objective y i (column P z) li oz)

-- ---- the step
module _ (y : Layout) (S : List Row) (d d' : Dictionary) (z : ℕ) (st : IsState y S d z) (e : Entering) (en : IsEntering y d z e) (l : ℕ) (least : IsLeastOf y d e.place e.up (length d.basis.items) l) (pv : IsPivotOf d l e.place d') where
  ll : l < length d.basis.items
  ll = least.within

  wl : (i : ℕ) → i < length d.basis.items → i < length st.dictionary.whole
  wl i li = let a = st.dictionary.tableau.tableau.as_many in omega arith

  s : ℤ
  s = direction e.up

  up_sign : pos 0 <ℤ (direction e.up *ℤ entry (row_at st.dictionary.whole l) (column d.others.items e.place))
  up_sign = hinders_sign y d e.place e.up l ll en.within least.hinders S st.dictionary

  next : PivotedAs S (slice_set d.basis.items l (column d.others.items e.place)) (slice_set d.others.items e.place (column d.basis.items l)) (rows_of d') (pivot_rows (direction e.up) l (column d.others.items e.place) st.dictionary.whole)
  next = pivoted_as S d.basis.items d.others.items (rows_of d) (rows_of d') l e.place st.dictionary ll en.within pv.pivoted (direction e.up) (direction_sign e.up) up_sign

  ratio : IsRatioTest (key_columns y) (is_signed y) d.basis.items st.dictionary.whole (direction e.up) l (column d.others.items e.place)
  ratio = record {
    leaves = least.hinders.signed;
    bounded = up_sign;
    least = λ i li' ni si pi.
        let li : i < length d.basis.items = (let a = st.dictionary.tableau.tableau.as_many in omega arith) in
        let w = st.dictionary.entries i e.place li en.within in
        (least.least i li ni (record {
          signed = si;
          falls = fall_sign (direction e.up) (at (rows_of d) i e.place).num (at (rows_of d) i e.place).den (entry (row_at st.dictionary.whole i) (column d.others.items e.place)) (entry (row_at st.dictionary.whole i) (column d.basis.items i))
              w.reduced.positive w.same (st.dictionary.tableau.tableau.positive i li') pi;
        })).stays S st.dictionary (direction e.up) (direction_sign e.up) up_sign pi;
  }

  feasible_next : IsLexFeasible (key_columns y) (is_signed y) (slice_set d.basis.items l (column d.others.items e.place)) (pivot_rows (direction e.up) l (column d.others.items e.place) st.dictionary.whole)
  feasible_next = pivot_keeps_feasible (key_columns y) (is_signed y) d.basis.items st.dictionary.whole (direction e.up) l (column d.others.items e.place) st.dictionary.tableau.tableau (direction_sign e.up) (wl l ll) st.feasible ratio
      (signed_up y (column d.others.items e.place) e.up en.may_enter)

  z_stays : ¬ (z ≡ l)
  z_stays q = not_signed_objective y (column d.basis.items z) st.objective (subst (λ c. IsTrue (is_signed y c)) (ap (column d.basis.items) (sym q)) least.hinders.signed)

  cover_next : (c : ℕ) → c < columns_of y → IsCovered (slice_set d.basis.items l (column d.others.items e.place)) (slice_set d.others.items e.place (column d.basis.items l)) c
  cover_next c lc = covered d.basis.items d.others.items l e.place c ll en.within (st.shaped.cover c lc)

  variables_next : (i : ℕ) → i < length d.basis.items → 0 < column (slice_set d.basis.items l (column d.others.items e.place)) i
  variables_next i li = elim (ℕ_discrete i l) [
    | yes q ↦ rw q (rw (column_set d.basis.items l (column d.others.items e.place) ll) (later_column y (column d.others.items e.place) e.up en.may_enter))
    | no nq ↦ rw (column_other d.basis.items l (column d.others.items e.place) i nq) (st.shaped.variables i li)
  ]

  objective_next : auxiliary y < column (slice_set d.basis.items l (column d.others.items e.place)) z
  objective_next = rw (column_other d.basis.items l (column d.others.items e.place) z z_stays) st.objective

  -- with the lists of the next dictionary in memory
  in_memory : (P N : List ℕ) → P ≡ slice_set d.basis.items l (column d.others.items e.place) → N ≡ slice_set d.others.items e.place (column d.basis.items l)
      → (t : IsDictionaryOf S P N (rows_of d')) × IsLexFeasible (key_columns y) (is_signed y) P t.whole
  in_memory P N ep eN =
      subst (λ X. (t : IsDictionaryOf S X N (rows_of d')) × IsLexFeasible (key_columns y) (is_signed y) X t.whole) (sym ep)
      (subst (λ X. (t : IsDictionaryOf S (slice_set d.basis.items l (column d.others.items e.place)) X (rows_of d')) × IsLexFeasible (key_columns y) (is_signed y) (slice_set d.basis.items l (column d.others.items e.place)) t.whole) (sym eN)
      (next.dictionary, subst (λ R. IsLexFeasible (key_columns y) (is_signed y) (slice_set d.basis.items l (column d.others.items e.place)) R) (sym next.whole_is) feasible_next))

  count_P : length d'.basis.items ≡ length d.basis.items
  count_P = ap length pv.basis ∙ length-set d.basis.items l _

  count_N : length d'.others.items ≡ length d.others.items
  count_N = ap length pv.others ∙ length-set d.others.items e.place _

  pub state_next : IsState y S d' z
  state_next =
      let m = in_memory d'.basis.items d'.others.items pv.basis pv.others in
      record {
        shaped = record {
          rectangular = pv.rectangular;
          cover = λ c lc. subst (λ X. IsCovered X d'.others.items c) (sym pv.basis) (subst (λ X. IsCovered (slice_set d.basis.items l (column d.others.items e.place)) X c) (sym pv.others) (cover_next c lc));
          variables = λ i li. subst (λ X. 0 < column X i) (sym pv.basis) (variables_next i (rw count_P at li));
        };
        apart = subst (λ X. IsApart (columns_of y) X d'.others.items) (sym pv.basis) (subst (λ X. IsApart (columns_of y) (slice_set d.basis.items l (column d.others.items e.place)) X) (sym pv.others)
            (apart_next (columns_of y) d.basis.items d.others.items l e.place ll en.within st.apart (different_basic S d.basis.items d.others.items (rows_of d) st.dictionary)));
        dictionary = m.0;
        feasible = m.1;
        fits = λ i li. subst (λ n. AllFit n (row_of (rows_of d') i)) (sym count_N) (pv.fits i (rw count_P at li));
        some = rw count_N st.some;
        constant = ap (λ X. column X 0) pv.others ∙ column_other d.others.items e.place (column d.basis.items l) 0 (λ q. (let n = en.not_constant in omega arith)) ∙ st.constant;
        within = rw count_P st.within;
        objective = subst (λ X. auxiliary y < column X z) (sym pv.basis) objective_next;
      }

  writes_next : Writes (key_columns y) (row_at (pivot_rows (direction e.up) l (column d.others.items e.place) st.dictionary.whole) z) (entry (row_at (pivot_rows (direction e.up) l (column d.others.items e.place) st.dictionary.whole) z) (column d.basis.items z)) (objective_vector y d' z)
  writes_next =
      let w = writes y S (slice_set d.basis.items l (column d.others.items e.place)) (slice_set d.others.items e.place (column d.basis.items l)) (rows_of d') next.dictionary z (rw length-set st.within)
      (pv.rectangular.places.each z (rw length-map (let a = pv.rectangular.count in let b = count_P in let c = st.within in omega arith)) ∙ ap length pv.others) cover_next objective_next in
      let w1 = subst (λ R. Writes (key_columns y) (row_at R z) (entry (row_at R z) (column (slice_set d.basis.items l (column d.others.items e.place)) z)) (key_vector y (slice_set d.others.items e.place (column d.basis.items l)) (row_of (rows_of d') z))) next.whole_is w in
      let w2 = subst (λ c. Writes (key_columns y) (row_at (pivot_rows (direction e.up) l (column d.others.items e.place) st.dictionary.whole) z) (entry (row_at (pivot_rows (direction e.up) l (column d.others.items e.place) st.dictionary.whole) z) c) (key_vector y (slice_set d.others.items e.place (column d.basis.items l)) (row_of (rows_of d') z)))
      (column_other d.basis.items l (column d.others.items e.place) z z_stays) w1 in
      subst (λ X. Writes (key_columns y) (row_at (pivot_rows (direction e.up) l (column d.others.items e.place) st.dictionary.whole) z) (entry (row_at (pivot_rows (direction e.up) l (column d.others.items e.place) st.dictionary.whole) z) (column d.basis.items z)) (key_vector y X (row_of (rows_of d') z))) (sym pv.others) w2

  pub raised_next : IsLexBelow (objective_vector y d z) (objective_vector y d' z)
  raised_next =
      let w = st.dictionary.entries z e.place st.within en.within in
      pivot_raises (key_columns y) (is_signed y) d.basis.items st.dictionary.whole (direction e.up) l (column d.others.items e.place) z (objective_vector y d z) (objective_vector y d' z)
      st.dictionary.tableau.tableau (direction_sign e.up) (wl l ll) (wl z st.within) z_stays st.feasible ratio
      (rise_sign (direction e.up) (at (rows_of d) z e.place).num (at (rows_of d) z e.place).den (entry (row_at st.dictionary.whole z) (column d.others.items e.place)) (entry (row_at st.dictionary.whole z) (column d.basis.items z)) w.reduced.positive w.same (st.dictionary.tableau.tableau.positive z (wl z st.within)) en.improves)
      (writes y S d.basis.items d.others.items (rows_of d) st.dictionary z st.within (st.shaped.rectangular.places.each z (rw length-map (let a = st.shaped.rectangular.count in let b = st.within in omega arith))) st.shaped.cover st.objective)
      writes_next

-- ---- the measure
bounded_by_range : (r : Ratio) → pos 0 <ℤ r.den → InRangeRatio r → IsBounded (2 ^ 127) r
bounded_by_range r h k =
    let a = k.0 in
    let b = k.1 in
    record { positive = h; den_small = omega (arith, ints); num_small = omega (arith, ints); num_large = omega (arith, ints) }

bounded_sign : (c : ℕ) (r : Ratio) → IsBounded (2 ^ 127) r → IsBounded (2 ^ 127) (key_sign c r)
bounded_sign zero r h = h
bounded_sign (suc c) r h = let a = h.num_small in let b = h.num_large in record { positive = h.positive; den_small = h.den_small; num_small = omega (arith, ints); num_large = omega (arith, ints) }

bounded_test : (c n : ℕ) (N : List ℕ) (r : Ratio) (x : List Ratio) (b : Bool) → nat_eq n c ≡ b → IsBounded (2 ^ 127) r → IsBounded (2 ^ 127) (key_found c N x) → IsBounded (2 ^ 127) (key_found c (n ∷ N) (r ∷ x))
bounded_test c n N r x true e h k = rw e (bounded_sign c r h)
bounded_test c n N r x false e h k = rw e k

bounded_found : (c : ℕ) (N : List ℕ) (x : List Ratio) → length N ≡ length x → ((k : ℕ) → k < length x → IsBounded (2 ^ 127) (ratio_at x k)) → IsBounded (2 ^ 127) (key_found c N x)
bounded_found c [] x l h = record { positive = omega (arith, ints); den_small = omega (arith, ints); num_small = omega (arith, ints); num_large = omega (arith, ints) }
bounded_found c (n ∷ N) [] l h = absurd (omega arith)
bounded_found c (n ∷ N) (r ∷ x) l h = bounded_test c n N r x (nat_eq n c) refl (h 0 (omega arith)) (bounded_found c N x (omega arith) (λ k lk. h (suc k) (omega arith)))

all_bounded : (K N : List ℕ) (x : List Ratio) → length N ≡ length x → ((k : ℕ) → k < length x → IsBounded (2 ^ 127) (ratio_at x k)) → AllByRecursion (IsBounded (2 ^ 127)) (map (λ c. key_found c N x) K)
all_bounded [] N x l h = tt
all_bounded (c ∷ K) N x l h = (bounded_found c N x l h, all_bounded K N x l h)

pub vector_bounded : (y : Layout) (S : List Row) (d : Dictionary) (z : ℕ) → IsState y S d z → AllByRecursion (IsBounded (2 ^ 127)) (objective_vector y d z)
vector_bounded y S d z st =
    let n : length (row_of (rows_of d) z) ≡ length d.others.items = st.shaped.rectangular.places.each z (rw length-map (let a = st.shaped.rectangular.count in let b = st.within in omega arith)) in
    all_bounded (key_columns y) d.others.items (row_of (rows_of d) z) (sym n)
    (λ k lk. let lk' : k < length d.others.items = rw n at lk in bounded_by_range (at (rows_of d) z k) (st.dictionary.entries z k st.within lk').reduced.positive (st.fits z st.within k lk'))

pub measure : Layout → Dictionary → ℕ → ℕ
measure y d z = top (2 ^ 127) (length (objective_vector y d z)) - rank (2 ^ 127) (objective_vector y d z)

pub measure_falls : (y : Layout) (S : List Row) (d d' : Dictionary) (z : ℕ) → IsState y S d z → IsState y S d' z → IsLexBelow (objective_vector y d z) (objective_vector y d' z) → measure y d' z < measure y d z
unfolding measure
measure_falls y S d d' z st st' below =
    let n : length (objective_vector y d z) ≡ length (objective_vector y d' z) = length-map (key_columns y) (λ c. key_found c d.others.items (row_of (rows_of d) z)) ∙ sym (length-map (key_columns y) (λ c. key_found c d'.others.items (row_of (rows_of d') z))) in
    let r = rank_rises (2 ^ 127) (objective_vector y d z) (objective_vector y d' z) n (vector_bounded y S d z st) (vector_bounded y S d' z st') below in
    let b = rank_below (2 ^ 127) (objective_vector y d' z) (vector_bounded y S d' z st') in
    let t = ap (top (2 ^ 127)) n in
    omega arith
