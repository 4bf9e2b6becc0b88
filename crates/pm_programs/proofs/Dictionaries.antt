-- Dictionaries: unique for their basis, and what a pivot makes of one.
use Rattle.pm_vector.proofs.Ring.{ring}
use Rattle.pm_vector.proofs.Signs.{mul_cancel}
use Rattle.pm_vector.specs.Numbers.{IsReduced, Ratio}
use Rattle.pm_vector.specs.Rows.{Row, entry}
use Rattle.pm_vector.specs.Bases.{column, row_at}
use Rattle.pm_fraction.proofs.Quotients.{reduced_opposite}
use Rattle.pm_fraction.proofs.Reduced.{same_reduced}
use Rattle.pm_fraction.specs.Fractions.{IsLowestTermsOf, ratio_of}
use Rattle.pm_programs.proofs.Tableaux.{column_other, column_set, entry_at, entry_other, pivot_is_tableau, tableau_is_unique}
use Rattle.pm_programs.proofs.Values.{column_value, corner_value, elsewhere_value, row_value}
use Rattle.pm_programs.specs.Dictionaries.{IsDictionaryOf, IsPivoted, at}
use Rattle.pm_programs.specs.DictionaryLaws.{DictionaryIsUnique, PivotIsDictionary}
use Rattle.pm_programs.specs.Tableaux.{IsSign, IsTableauOf, pivot_rows}
use Rattle.std.proofs.Common.{ap, arith, inl, inr, refl, subst, sym, ◌∙◌}
use Rattle.std.proofs.lemmas.Int.{by_lt_z, ints}
use Rattle.std.proofs.lemmas.List.{length-set}
use Rattle.std.specs.Prelude.{List, length, slice_set, ℕ, ◌<◌, ◌≡◌}
use lib.IntN.{neg_ℤ, negsuc, pos, ℤ, ◌*ℤ◌, ◌+ℤ◌, ◌-ℤ◌}
use lib.Signed.{◌<ℤ◌}
use native.Mathlib.Decide.{ℕ_discrete}

-- ---- unique
one_value : (p q a b x y : ℤ) (ps qs : ℤ) → pos 0 <ℤ x → pos 0 <ℤ y → p *ℤ x ≡ neg_ℤ a *ℤ ps → q *ℤ y ≡ neg_ℤ b *ℤ qs → a *ℤ y ≡ b *ℤ x → p *ℤ qs ≡ q *ℤ ps
one_value p q a b x y ps qs hx hy ep eq e =
    mul_cancel hx (mul_cancel hy
    (let u = simp ring at (ap (λ z. (y *ℤ qs) *ℤ z) ep) in
    let v = simp ring at (ap (λ z. (x *ℤ ps) *ℤ z) eq) in
    let w = simp ring at (ap (λ z. (ps *ℤ qs) *ℤ z) e) in
    simp ring (omega (arith, ints))))

pub dictionary_is_unique : DictionaryIsUnique
dictionary_is_unique S P N N' D D' d d' i k k' li lk lk' e =
    let a = d.entries i k li lk in
    let b = d'.entries i k' li lk' in
    let ri : i < length d.whole = (let q = d.tableau.tableau.as_many in omega arith) in
    let ri' : i < length d'.whole = (let q = d'.tableau.tableau.as_many in omega arith) in
    same_reduced (at D i k) (at D' i k') a.reduced b.reduced
    (one_value (at D i k).num (at D' i k').num (entry (row_at d.whole i) (column N k)) (entry (row_at d'.whole i) (column N' k')) (entry (row_at d.whole i) (column P i)) (entry (row_at d'.whole i) (column P i))
    (at D i k).den (at D' i k').den (d.tableau.tableau.positive i ri) (d'.tableau.tableau.positive i ri') a.same b.same
    (tableau_is_unique S P d.whole d'.whole d.tableau d'.tableau i ri (column N k) ∙ ap (λ c. entry (row_at d'.whole i) c *ℤ entry (row_at d.whole i) (column P i)) e))

-- ---- the pivot
lowest_from : (n d : ℤ) (r : Ratio) → pos 0 <ℤ d → IsReduced r → r.num *ℤ d ≡ n *ℤ r.den → IsLowestTermsOf (ratio_of n d) r
lowest_from n d r h k e = record { divisible = λ z. (let q = h in omega (arith, ints)); reduced = k; same = e }

zero_after : (k x a z : ℤ) → z ≡ pos 0 → k *ℤ x -ℤ a *ℤ z ≡ k *ℤ x
zero_after k x a z h = simp (h, ring) (omega (arith, ints))

zero_before : (k x a z : ℤ) → x ≡ pos 0 → neg_ℤ (k *ℤ x -ℤ a *ℤ z) ≡ a *ℤ z
zero_before k x a z h = simp (h, ring) (omega (arith, ints))

module _ (S : List Row) (P N : List ℕ) (D D' : List (List Ratio)) (l j : ℕ) (d : IsDictionaryOf S P N D) (hl : l < length P) (hj : j < length N) (v : IsPivoted (length P) (length N) D l j D')
    (s : ℤ) (g : IsSign s) (up : pos 0 <ℤ (s *ℤ entry (row_at d.whole l) (column N j))) where
  ll : l < length d.whole
  ll = let q = d.tableau.tableau.as_many in omega arith

  new_P : (i : ℕ) → ¬ (i ≡ l) → column (slice_set P l (column N j)) i ≡ column P i
  new_P i h = column_other P l (column N j) i h

  next : IsTableauOf S (slice_set P l (column N j)) (pivot_rows s l (column N j) d.whole)
  next = pivot_is_tableau S P d.whole s l (column N j) d.tableau g ll up

  corner_entry : IsLowestTermsOf (ratio_of (neg_ℤ (entry (row_at (pivot_rows s l (column N j) d.whole) l) (column P l))) (entry (row_at (pivot_rows s l (column N j) d.whole) l) (column N j))) (at D' l j)
  corner_entry =
      let w = (v.here j hj).corner refl in
      let p = d.entries l j hl hj in
      let y_is = entry_at s l (column N j) d.whole ll (column N j) in
      lowest_from _ _ (at D' l j) (rw y_is up) w.reduced
      (corner_value s (entry (row_at d.whole l) (column N j)) (entry (row_at d.whole l) (column P l)) (at D l j) p.reduced.positive p.same (at D' l j) _ _ w.same
      (ap neg_ℤ (entry_at s l (column N j) d.whole ll (column P l))) y_is)

  row_entry_value : (k : ℕ) → k < length N → ¬ (k ≡ j) → (x y : ℤ) → x ≡ neg_ℤ (s *ℤ entry (row_at d.whole l) (column N k)) → y ≡ s *ℤ entry (row_at d.whole l) (column N j)
      → (at D' l k).num *ℤ y ≡ x *ℤ (at D' l k).den
  row_entry_value k lk nk x y ex ey =
      let w = (v.here k lk).rest nk in
      let p = d.entries l j hl hj in
      let a = d.entries l k hl lk in
      subst (λ (r : Ratio). r.num *ℤ y ≡ x *ℤ r.den) (sym w.opposite)
      (row_value s (entry (row_at d.whole l) (column N j)) (entry (row_at d.whole l) (column P l)) (at D l j) p.reduced.positive p.same (at D l k) w.quotient (entry (row_at d.whole l) (column N k)) x y a.reduced.positive a.same w.lowest.same ex ey)

  row_reduced : (k : ℕ) → k < length N → ¬ (k ≡ j) → IsReduced (at D' l k)
  row_reduced k lk nk =
      let w = (v.here k lk).rest nk in
      subst (λ (r : Ratio). IsReduced r) (sym w.opposite) (reduced_opposite w.quotient.num w.quotient.den w.lowest.reduced)

  row_entry : (k : ℕ) → k < length N → ¬ (k ≡ j) → IsLowestTermsOf (ratio_of (neg_ℤ (entry (row_at (pivot_rows s l (column N j) d.whole) l) (column N k))) (entry (row_at (pivot_rows s l (column N j) d.whole) l) (column N j))) (at D' l k)
  row_entry k lk nk =
      let y_is = entry_at s l (column N j) d.whole ll (column N j) in
      lowest_from _ _ (at D' l k) (rw y_is up) (row_reduced k lk nk) (row_entry_value k lk nk _ _ (ap neg_ℤ (entry_at s l (column N j) d.whole ll (column N k))) y_is)

  module _ (i : ℕ) (li : i < length P) (ni : ¬ (i ≡ l)) where
    wi : i < length d.whole
    wi = let q = d.tableau.tableau.as_many in omega arith

    own : entry (row_at (pivot_rows s l (column N j) d.whole) i) (column P i) ≡ (s *ℤ entry (row_at d.whole l) (column N j)) *ℤ entry (row_at d.whole i) (column P i)
    own = entry_other s l (column N j) d.whole ll i wi ni (column P i)
        ∙ zero_after (s *ℤ entry (row_at d.whole l) (column N j)) (entry (row_at d.whole i) (column P i)) (s *ℤ entry (row_at d.whole i) (column N j)) (entry (row_at d.whole l) (column P i)) (d.tableau.tableau.solved l i ll wi (λ q. ni (sym q)))

    own_positive : pos 0 <ℤ entry (row_at (pivot_rows s l (column N j) d.whole) i) (column P i)
    own_positive = subst (λ c. pos 0 <ℤ entry (row_at (pivot_rows s l (column N j) d.whole) i) c) (new_P i ni) (next.tableau.positive i (let q = next.tableau.as_many in let u = length-set P l (column N j) in omega arith))

    column_entry : IsLowestTermsOf (ratio_of (neg_ℤ (entry (row_at (pivot_rows s l (column N j) d.whole) i) (column P l))) (entry (row_at (pivot_rows s l (column N j) d.whole) i) (column P i))) (at D' i j)
    column_entry =
        let w = (v.elsewhere i j li ni hj).corner refl in
        let p = d.entries l j hl hj in
        let f = d.entries i j li hj in
        lowest_from _ _ (at D' i j) own_positive w.reduced
        (column_value s (entry (row_at d.whole l) (column N j)) (entry (row_at d.whole l) (column P l)) (at D l j) p.reduced.positive p.same (at D i j) (at D' i j) (entry (row_at d.whole i) (column N j)) (entry (row_at d.whole i) (column P i)) _ _ f.reduced.positive f.same w.same
        (ap neg_ℤ (entry_other s l (column N j) d.whole ll i wi ni (column P l))
        ∙ zero_before (s *ℤ entry (row_at d.whole l) (column N j)) (entry (row_at d.whole i) (column P l)) (s *ℤ entry (row_at d.whole i) (column N j)) (entry (row_at d.whole l) (column P l)) (d.tableau.tableau.solved i l wi ll ni))
        own)

    swap : (M E s F A : ℤ) → neg_ℤ (M *ℤ E -ℤ (s *ℤ F) *ℤ A) ≡ neg_ℤ (M *ℤ E +ℤ F *ℤ neg_ℤ (s *ℤ A))
    swap M E s F A = simp ring

    other_entry : (k : ℕ) → k < length N → ¬ (k ≡ j) → IsLowestTermsOf (ratio_of (neg_ℤ (entry (row_at (pivot_rows s l (column N j) d.whole) i) (column N k))) (entry (row_at (pivot_rows s l (column N j) d.whole) i) (column P i))) (at D' i k)
    other_entry k lk nk =
        let w = (v.elsewhere i k li ni lk).rest nk in
        let x = d.entries i k li lk in
        let f = d.entries i j li hj in
        lowest_from _ _ (at D' i k) own_positive w.sum.reduced
        (elsewhere_value (at D i k) (at D i j) (at D' l k) w.product (at D' i k) (entry (row_at d.whole i) (column N k)) (entry (row_at d.whole i) (column N j)) (entry (row_at d.whole i) (column P i))
        (neg_ℤ (s *ℤ entry (row_at d.whole l) (column N k))) (s *ℤ entry (row_at d.whole l) (column N j)) _ _
        x.reduced.positive f.reduced.positive (row_reduced k lk nk).positive w.lowest.reduced.positive
        x.same f.same (row_entry_value k lk nk _ _ refl refl) w.lowest.same w.sum.same
        (ap neg_ℤ (entry_other s l (column N j) d.whole ll i wi ni (column N k)) ∙ swap (s *ℤ entry (row_at d.whole l) (column N j)) (entry (row_at d.whole i) (column N k)) s (entry (row_at d.whole i) (column N j)) (entry (row_at d.whole l) (column N k)))
        own)

  pub pivoted : IsDictionaryOf S (slice_set P l (column N j)) (slice_set N j (column P l)) D'
  pivoted = record { whole = pivot_rows s l (column N j) d.whole; tableau = next; entries = λ i k li lk. entries_at i k (rw length-set at li) (rw length-set at lk) }
    where
      entries_at : (i k : ℕ) → i < length P → k < length N → IsLowestTermsOf (ratio_of (neg_ℤ (entry (row_at (pivot_rows s l (column N j) d.whole) i) (column (slice_set N j (column P l)) k))) (entry (row_at (pivot_rows s l (column N j) d.whole) i) (column (slice_set P l (column N j)) i))) (at D' i k)
      entries_at i k li lk = elim (ℕ_discrete i l) [
        | yes qi ↦ elim (ℕ_discrete k j) [
          | yes qk ↦ subst (λ m. IsLowestTermsOf (ratio_of (neg_ℤ (entry (row_at (pivot_rows s l (column N j) d.whole) m) (column (slice_set N j (column P l)) k))) (entry (row_at (pivot_rows s l (column N j) d.whole) m) (column (slice_set P l (column N j)) m))) (at D' m k)) (sym qi)
              (subst (λ m. IsLowestTermsOf (ratio_of (neg_ℤ (entry (row_at (pivot_rows s l (column N j) d.whole) l) (column (slice_set N j (column P l)) m))) (entry (row_at (pivot_rows s l (column N j) d.whole) l) (column (slice_set P l (column N j)) l))) (at D' l m)) (sym qk)
              (rw (column_set P l (column N j) hl, column_set N j (column P l) hj) corner_entry))
          | no nk ↦ subst (λ m. IsLowestTermsOf (ratio_of (neg_ℤ (entry (row_at (pivot_rows s l (column N j) d.whole) m) (column (slice_set N j (column P l)) k))) (entry (row_at (pivot_rows s l (column N j) d.whole) m) (column (slice_set P l (column N j)) m))) (at D' m k)) (sym qi)
              (rw (column_set P l (column N j) hl, column_other N j (column P l) k nk) (row_entry k lk nk))
        ]
        | no ni ↦ elim (ℕ_discrete k j) [
          | yes qk ↦ subst (λ m. IsLowestTermsOf (ratio_of (neg_ℤ (entry (row_at (pivot_rows s l (column N j) d.whole) i) (column (slice_set N j (column P l)) m))) (entry (row_at (pivot_rows s l (column N j) d.whole) i) (column (slice_set P l (column N j)) i))) (at D' i m)) (sym qk)
              (rw (new_P i ni, column_set N j (column P l) hj) (column_entry i li ni))
          | no nk ↦ rw (new_P i ni, column_other N j (column P l) k nk) (other_entry i li ni k lk nk)
        ]
      ]

pub pivot_is_dictionary : PivotIsDictionary
pivot_is_dictionary S P N D D' l j d hl hj np v =
    by_lt_z (pos 0) (entry (row_at d.whole l) (column N j))
    (λ h. pivoted S P N D D' l j d hl hj v (pos 1) (inl refl) (simp ring h))
    (λ h. by_lt_z (entry (row_at d.whole l) (column N j)) (pos 0)
    (λ n. pivoted S P N D D' l j d hl hj v (negsuc 0) (inr refl) (minus (entry (row_at d.whole l) (column N j)) n))
    (λ n. absurd (np (numerator (at D l j).num (at D l j).den (entry (row_at d.whole l) (column P l)) (entry (row_at d.whole l) (column N j)) (d.tableau.tableau.positive l (let q = d.tableau.tableau.as_many in omega arith)) (d.entries l j hl hj).same (omega (arith, ints))))))
  where
    minus : (a : ℤ) → a <ℤ pos 0 → pos 0 <ℤ (negsuc 0 *ℤ a)
    minus a h = omega (arith, ints)

    numerator : (n m c a : ℤ) → pos 0 <ℤ c → n *ℤ c ≡ neg_ℤ a *ℤ m → a ≡ pos 0 → n ≡ pos 0
    numerator n m c a hc e z = mul_cancel hc (let f = simp (z, ring) at e in simp ring (omega (arith, ints)))

pub record PivotedAs (S : List Row) (P N : List ℕ) (D : List (List Ratio)) (R : List Row) : Type 0 where
  pub dictionary : IsDictionaryOf S P N D
  pub whole_is : dictionary.whole ≡ R

pub pivoted_as : (S : List Row) (P N : List ℕ) (D D' : List (List Ratio)) (l j : ℕ) (d : IsDictionaryOf S P N D) → l < length P → j < length N → IsPivoted (length P) (length N) D l j D'
    → (s : ℤ) → IsSign s → pos 0 <ℤ (s *ℤ entry (row_at d.whole l) (column N j)) → PivotedAs S (slice_set P l (column N j)) (slice_set N j (column P l)) D' (pivot_rows s l (column N j) d.whole)
unfolding pivoted
pivoted_as S P N D D' l j d hl hj v s g up = record { dictionary = pivoted S P N D D' l j d hl hj v s g up; whole_is = refl }
